-- What each worker has once a further deque's thieves are dealt out.
use Rattle.std.proofs.Common.{◌≡◌, ◌≢◌, ℕ, zero, suc, ◌<◌, ◌≤◌, ◌+◌, inl, inr}
use Rattle.std.proofs.Common.{List, [], ◌∷◌, ◌++◌, length, map, refl, sym, ap, ◌∙◌}
use Rattle.std.proofs.Common.{subst, arith, All}
use Rattle.std.proofs.lemmas.Bool.{cases_eq}
use Rattle.std.proofs.lemmas.Bool.Decides.{nat_tests}
use Rattle.std.proofs.lemmas.List.{length-map, map_push}
use Rattle.std.proofs.lemmas.List.Elements.{All-push, All-same}
use Rattle.order_symmetry.specs.Ranked.{RankedOrders}
use Rattle.steal_deques.specs.Deque.{DequeOwner}
use Rattle.steal_workers.specs.Deques.{AllThieves, DealsOne, HasNewThieves, IsNewOwner, all_but}
use Rattle.steal_workers.specs.Deques.{new_thief, others_below}

-- how many others there are
pub others-more : (number t : ℕ) → t ≢ number →
    others_below number (t + 1) ≡ others_below number t + 1
others-more number t n = grind (arith, nat_tests)

pub others-same : (number t : ℕ) → t ≡ number →
    others_below number (t + 1) ≡ others_below number t
others-same number t e = grind (arith, nat_tests)

-- Leaving out one place of a list that goes on by one.

pub all-but-last : {X : Type 0} (xs : List X) (x : X) → all_but (length xs) (xs ++ x ∷ []) ≡ xs
all-but-last [] x = refl
all-but-last (y ∷ xs) x = ap (λ l. y ∷ l) (all-but-last xs x)

pub all-but-beyond : {X : Type 0} (xs : List X) (i : ℕ) → length xs ≤ i → all_but i xs ≡ xs
all-but-beyond [] i l = refl
all-but-beyond (x ∷ xs) zero l = absurd (omega arith)
all-but-beyond (x ∷ xs) (suc i) l = ap (λ l. x ∷ l) (all-but-beyond xs i (omega arith))

pub all-but-more : {X : Type 0} (xs : List X) (x : X) (i : ℕ) → i ≢ length xs →
    all_but i (xs ++ x ∷ []) ≡ all_but i xs ++ x ∷ []
all-but-more [] x zero n = absurd (n refl)
all-but-more [] x (suc i) n = refl
all-but-more (y ∷ xs) x zero n = refl
all-but-more (y ∷ xs) x (suc i) n =
    ap (λ l. y ∷ l) (all-but-more xs x i (λ e. n (ap suc e)))

-- with one deque more, each worker has a thief of every deque but its own
pub has-one-more : (owns : List DequeOwner) (own : DequeOwner) (before after : AllThieves) →
    length owns < length before → HasNewThieves owns before →
    DealsOne (length owns) (length before) (new_thief own) before after →
    HasNewThieves (owns ++ own ∷ []) after
has-one-more owns own before after l has deals i m =
    elim (cases_eq i (length owns)) [
      | inl e ↦ rw e (
          deals.own ∙ has (length owns) l
          ∙ all-but-beyond (map new_thief owns) (length owns)
          (omega (arith, length-map owns new_thief))
          ∙ sym (subst
          (λ n. all_but n (map new_thief owns ++ new_thief own ∷ []) ≡ map new_thief owns)
          (length-map owns new_thief) (all-but-last (map new_thief owns) (new_thief own)))
          ∙ ap (all_but (length owns)) (sym (map_push new_thief owns own)))
      | inr n ↦
          deals.others i (omega (arith, m, deals.count)) n
          ∙ ap (λ h. h ++ new_thief own ∷ []) (has i (omega (arith, m, deals.count)))
          ∙ sym (all-but-more (map new_thief owns) (new_thief own) i
          (λ q. n (q ∙ length-map owns new_thief)))
          ∙ ap (all_but i) (sym (map_push new_thief owns own))
    ]

module _ (owns : List DequeOwner) (own own' : DequeOwner) (ranked : RankedOrders) (workers : ℕ)
    (is : own' ≡ record own { shares = 1 }) where
  -- the new deque, with its place among the workers
  pub dealt-more : (owns' : List DequeOwner) (before after : AllThieves) (number n : ℕ) →
      owns' ≡ owns ++ own' ∷ [] → length owns ≡ number → length before ≡ n → number < n →
      HasNewThieves owns before → DealsOne number n (new_thief own) before after →
      HasNewThieves owns' after
  dealt-more owns' before after number n e at long l has deals =
      subst (λ os. HasNewThieves os after) (sym e)
      (has-one-more owns own' before after (omega (arith, at, long, l)) has
      (subst (λ k. DealsOne k (length before) (new_thief own') before after) (sym at)
      (subst (λ k. DealsOne number k (new_thief own') before after) (sym long)
      (subst (λ thief. DealsOne number n thief before after) (sym (ap new_thief is)) deals))))

  pub new-owner : own.ranked ≡ ranked → own.all ≡ workers → own.pushed ≡ [] →
      own.popped ≡ [] → own.stolen ≡ [] → IsNewOwner ranked workers own'
  new-owner orders all pushed popped stolen =
      subst (IsNewOwner ranked workers) (sym is)
      (record {
        orders = orders;
        all = all;
        shares = refl;
        pushed = pushed;
        popped = popped;
        stolen = stolen;
      })

  pub all-new : (owns' : List DequeOwner) → owns' ≡ owns ++ own' ∷ [] →
      All (IsNewOwner ranked workers) owns → IsNewOwner ranked workers own' →
      All (IsNewOwner ranked workers) owns'
  all-new owns' e all new =
      All-same (IsNewOwner ranked workers) owns' (owns ++ own' ∷ []) e
      (All-push (IsNewOwner ranked workers) owns own' all new)
