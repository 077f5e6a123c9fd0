use Rattle.std.proofs.Common.{◌∙◌, ◌++◌, ◌∷◌, [], sym, ap, ap₂, map, filter, ℕ, Bool}
use Rattle.std.proofs.Common.{cond, append-nil, subst, All}
use Rattle.std.proofs.lemmas.List.{map-append}
use Rattle.std.proofs.lemmas.List.Elements.{All-push}
use Rattle.list_laws.specs.Sets.{below}
use Rattle.log_checker.specs.PathGroups.{group_of, later}
use Rattle.log_checker.specs.ByRules.{mill_by}
use Rattle.log_checker.specs.Keys.{IsKey, group_in}
use Rattle.log_checker.specs.Live.{lives}
use Rattle.log_checker.specs.declared.keys.LiveGroup.{LiveGroup}
use Rattle.log_checker.proofs.LiveGroups.{below-push}
use Rattle.log_checker.proofs.keys.live_groups.Goals as goal
use Rattle.log_checker.proofs.keys.live_groups.Goals.{in-Some+in_ok-push-in-Some, in-None}

pub loop-g-preserved : goal.loop-g-preserved
loop-g-preserved c =
    let p : ℕ → Bool = λ g. lives (mill_by c.args.path.now.rules.now)
    (later c.args.path.now) (group_of c.args.path.now g) in
    let has : LiveGroup → Type 0 = λ live. IsKey (later c.args.path.now)
    (group_of c.args.path.now live.group) live.key in
    elim c.match-live_group.branch [
      | in-Some+in_ok-push-in-Some w ↦ (let e = ap (λ v. v.items) w.live-is
          ∙ w.in_ok-push-in-Some.ensures.items in
          let s = w.in-Some.ensures.some in
          record {
            numbers =
                ap (map group_in) e ∙ map-append group_in c.loop-g.live.items (w.in-Some.group ∷ [])
                ∙ ap₂ (λ l g. l ++ g ∷ []) c.loop-g.invariant.numbers s.0
                ∙ ap (λ b. filter p (below c.loop-g.g) ++ cond b (c.loop-g.g ∷ []) []) (sym s.2)
                ∙ sym (below-push p c.loop-g.g);
            keys = subst (All has) (sym e) (All-push has c.loop-g.live.items w.in-Some.group
                c.loop-g.invariant.keys
                (subst (λ g. IsKey (later c.args.path.now) (group_of c.args.path.now g)
                w.in-Some.group.key) (sym s.0) s.1));
          })
      | in-None w ↦ (let e = ap (λ v. v.items) w.live-is in
          record {
            numbers =
                ap (map group_in) e ∙ c.loop-g.invariant.numbers
                ∙ sym (append-nil (filter p (below c.loop-g.g)))
                ∙ ap (λ b. filter p (below c.loop-g.g) ++ cond b (c.loop-g.g ∷ []) [])
                (sym w.in-None.ensures.none)
                ∙ sym (below-push p c.loop-g.g);
            keys = subst (All has) (sym e) c.loop-g.invariant.keys;
          })
    ]
