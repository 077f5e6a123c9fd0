-- A live group is legal, so that its colours fit a key.
use Rattle.std.proofs.Common.{◌≡◌, ◌∙◌, refl, sym, true, arith, subst, ap, length}
use Rattle.std.proofs.lemmas.List.{get_or_default}
use Rattle.mill_model.specs.Plan.{slab}
use Rattle.list_laws.specs.Sets.{different}
use Rattle.log_checker.specs.Groups.{Seen, nothing_seen}
use Rattle.least_slacks.specs.declared.key.Key.{Key}
use Rattle.log_checker.specs.ByRules.{mill_by}
use Rattle.log_checker.specs.Keys.{IsKey}
use Rattle.log_checker.specs.Live.{lives}
use Rattle.log_checker.specs.PathGroups.{group_of, later}
use Rattle.log_checker.proofs.LegalGroups.{live-fits, seen-once}
use Rattle.log_checker.proofs.keys.live_group.Goals as goal

pub coming_colours-coming-requires-clause-few : goal.coming_colours-coming-requires-clause-few
coming_colours-coming-requires-clause-few c =
    let its = c.args.path.now in
    let l : lives (mill_by its.rules.now) (later its) c.index-group.result.now ≡ true =
    sym c.if-not-is_live.ensures in
    let f = live-fits (mill_by its.rules.now) (later its) c.index-group.result.now l in
    omega (arith, f.1, its.rules.now.setting.colours)

pub coming_colours-coming-requires-clause-once : goal.coming_colours-coming-requires-clause-once
coming_colours-coming-requires-clause-once c =
    let its = c.args.path.now in
    let is : c.index-group.result.now ≡ group_of its c.args.g =
    c.index-group.ensures
    ∙ get_or_default its.groups.items c.args.g c.index-group.result.now nothing_seen
    c.requires.here in
    subst (λ (seen : Seen). length seen.colours ≡ different seen.colours) (sym is)
    (seen-once (group_of its c.args.g) (slab c.args.g its.path.now its.rules.now.ranked.items)
    (its.grouped.seen c.args.g))

pub returns : goal.returns
returns c =
    let its = c.args.path.now in
    let is : c.index-group.result.now ≡ group_of its c.args.g =
    c.index-group.ensures
    ∙ get_or_default its.groups.items c.args.g c.index-group.result.now nothing_seen
    c.requires.here in
    let key : Key = record {
      load = c.load.result;
      colours = length c.colours.result.now;
      coming = c.coming_colours-coming.result;
    } in
    let is_key : IsKey (later its) c.index-group.result.now key = record {
      weighs = c.load.ensures;
      counts = ap length c.colours.ensures;
      coming = c.coming_colours-coming.ensures;
    } in
    record {
      some = (
        refl,
        subst (λ s. IsKey (later its) s key) is is_key,
        ap (lives (mill_by its.rules.now) (later its)) (sym is) ∙ sym c.if-not-is_live.ensures,
      );
      none = tt;
    }
