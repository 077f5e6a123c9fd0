-- What the load is charged stands for each group first; then each live group gets the least slack
-- of its key.
use Rattle.std.proofs.Common.{◌≡◌, ◌<◌, ◌∙◌, ℕ, ℤ, length, get_or, pos, arith, set, rules}
use Rattle.std.proofs.Common.{ap, ap₂, sym, subst, refl, All, SFits, w64, to_z, of_z, to_z-of_z}
use Rattle.std.proofs.lemmas.List.{get_or_default, length-drop, length-set}
use Rattle.std.proofs.lemmas.List.Elements.{All-set}
use Rattle.set_minima.specs.Cells.{IsSmall, slack_limit}
use Rattle.log_checker.specs.ByRules.{mill_by}
use Rattle.log_checker.specs.PathGroups.{later}
use Rattle.log_checker.specs.Slacks.{slack_of, no_live}
use Rattle.log_checker.specs.declared.keys.LiveGroup.{LiveGroup}
use Rattle.log_checker.proofs.SlacksOfGroups.{charged-first, slack-of-one-more, slack-last}
use Rattle.log_checker.proofs.SlacksOfGroups.{sorted-lives}
use Rattle.log_checker.proofs.priced.slacks_of.Goals as goal

pub loop-i-init : goal.loop-i-init
loop-i-init c =
    let its = c.args.path.now in
    record {
      long = c.in_ok-slacks.ensures.long;
      small = c.in_ok-slacks.ensures.small;
      each = λ g l. charged-first its c.args.prices.now c.args.live.now
          (get_or c.in_ok-slacks.slacks.items g (pos 0)) g
          (let d = length-drop (length its.path.now) its.rules.now.ranked.items in
          omega (arith, d, c.requires.same))
          c.requires.live l (c.in_ok-slacks.ensures.each g l);
    }

pub set_slack-requires : goal.set_slack-requires
set_slack-requires c =
    let its = c.args.path.now in
    let i = c.loop-i.i in
    let live = c.args.live.now in
    let here : i < length live = c.loop-i-test.true in
    let l = sorted-lives (mill_by its.rules.now) (later its) its.groups.items live i
    c.requires.live here in
    subst (λ (x : LiveGroup). x.group < length c.loop-i.slacks.items)
    (sym (get_or_default live i _ no_live here)) (omega (arith, l.0, c.loop-i.invariant.long))

pub loop-i-preserved : goal.loop-i-preserved
loop-i-preserved c =
    let its = c.args.path.now in
    let i = c.loop-i.i in
    let live = c.args.live.now in
    let here : i < length live = c.loop-i-test.true in
    let h : ℕ = (get_or live i no_live).group in
    let z : ℤ = get_or c.args.least.now i (pos 0) in
    let l = sorted-lives (mill_by its.rules.now) (later its) its.groups.items live i
    c.requires.live here in
    let f : SFits w64 z = search rules in
    let bits : to_z w64 (of_z w64 z) ≡ z = to_z-of_z f in
    let set_is : c.set_slack.new.slacks.items ≡ set c.loop-i.slacks.items h z =
    c.set_slack.ensures ∙ ap₂ (λ g x. set c.loop-i.slacks.items g x)
    (ap (λ (x : LiveGroup). x.group) (get_or_default live i _ no_live here)) bits in
    record {
      long = ap length set_is ∙ length-set c.loop-i.slacks.items h z ∙ c.loop-i.invariant.long;
      small = subst (All (IsSmall slack_limit)) (sym set_is) (All-set (IsSmall slack_limit)
          c.loop-i.slacks.items h z (c.requires.least.small i here) c.loop-i.invariant.small);
      each = slack-of-one-more (slack_of its c.args.prices.now) live c.loop-i.slacks.items
          c.set_slack.new.slacks.items i (length its.groups.items) h z here refl l.0
          c.loop-i.invariant.long (c.requires.least.each i here) set_is c.loop-i.invariant.each;
    }

pub returns : goal.returns
returns c =
    let its = c.args.path.now in
    record {
      long = c.loop-i.invariant.long ∙ its.grouped.count;
      small = c.loop-i.invariant.small;
      each = λ g l. slack-last (slack_of its c.args.prices.now) c.args.live.now
          c.loop-i.slacks.items c.loop-i.i g c.loop-i-test.false
          (c.loop-i.invariant.each g (omega (arith, l, its.grouped.count)));
    }
