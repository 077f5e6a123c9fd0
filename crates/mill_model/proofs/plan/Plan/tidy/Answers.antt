use Rattle.std.proofs.Common.{◌≡◌, ◌+◌, ◌<◌, ◌∙◌, suc, ℕ, List, Option, rules, length, take, []}
use Rattle.std.proofs.Common.{◌∷◌, ◌++◌, get_or, arith, ap₂, sym}
use Rattle.std.proofs.Math.Seq.{take-suc}
use Rattle.list_laws.specs.Sets.{different}
use Rattle.mill_model.specs.Tree.{before_first_of}
use Rattle.mill_model.specs.Numbering.{IsNumbering}
use Rattle.mill_model.proofs.FirstPlaces.{canonical-push}
use Rattle.mill_model.proofs.plan.Plan.tidy.Invariants.{SoFar}
use Rattle.mill_model.proofs.plan.Plan.tidy.Goals as goal

take-next : (xs : List ℕ) (i : ℕ) → i < length xs → take (i + 1) xs ≡ take i xs
    ++ get_or xs i 0 ∷ []
take-next xs i h = let e : i + 1 ≡ suc i = omega arith in rw e (take-suc xs i 0 h)

-- one more slab of the plan
goes-on : (plan : List ℕ) (i : ℕ) (numbers numbers' : List (Option ℕ)) (next next' number : ℕ)
    (list list' : List ℕ) → i < length plan → SoFar plan (take i plan) numbers next list →
    length numbers' ≡ length numbers →
    IsNumbering (take i plan ++ get_or plan i 0 ∷ []) numbers' next' →
    number ≡ different (before_first_of (get_or plan i 0) (take i plan ++ get_or plan i 0 ∷ [])) →
    list' ≡ list ++ number ∷ [] → SoFar plan (take (i + 1) plan) numbers' next' list'
goes-on plan i numbers numbers' next next' number list list' l before size table its pushed =
    rw (take-next plan i l) (record {
      table = table;
      size = size ∙ before.size;
      tidied =
          pushed ∙ ap₂ (λ xs n. xs ++ n ∷ []) before.tidied its
          ∙ sym (canonical-push (take i plan) (get_or plan i 0));
    })

pub loop-slab-preserved : goal.loop-slab-preserved
loop-slab-preserved c =
    let same : c.deref-slab-items.result.now ≡ c.args.self.now = search rules in
    let table = c.number_of.ensures.numbering _ c.loop-slab.invariant.table in
    let its = c.number_of.ensures.number _ c.loop-slab.invariant.table in
    let within : c.loop-slab.slab-index < length c.deref-slab-items.result.now = search rules in
    goes-on c.args.self.now c.loop-slab.slab-index _ _ _ _ _ _ _ (rw same at within)
    c.loop-slab.invariant c.number_of.ensures.size (rw same at table) (rw same at its)
    c.in_ok-push.ensures.items
