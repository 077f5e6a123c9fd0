-- The machine closes a path as a worker does: where a key or a plan is asked for, there is one, and
-- where none is, any will do.
use Rattle.std.proofs.Common.{ℕ, ◌≡◌, ◌⊎◌, Bool, true, false, cond, List, length, ltb, Some, refl}
use Rattle.std.proofs.Common.{None, sym, ap, ◌∙◌, eqb-true, inl, inr}
use Rattle.std.proofs.lemmas.List.{length-map}
use Rattle.list_laws.proofs.Tests.{and-left, either}
use Rattle.mill_model.specs.Charges.{ChargeTable}
use Rattle.mill_model.specs.Log.{Task}
use Rattle.mill_model.specs.Tree.{children}
use Rattle.order_symmetry.specs.Ranked.{RankedOrders, IsRanked}
use Rattle.split_tree.specs.Keys.{Key}
use Rattle.nogood_store.specs.Entries.{Stored}
use Rattle.search_step.specs.Parts.{Parts}
use Rattle.search_step.specs.Serving.{IsPathOf}
use Rattle.search_step.specs.Moves.{closed, verdict, verdict_leaf, verdict_inner, verdict_open}
use Rattle.search_step.specs.Moves.{asks, exceeds, first_prices, second_prices, is_leaf}
use Rattle.search_step.specs.Moves.{lowers, loss_at, starts, found_at, noted, commits}
use Rattle.search_step.specs.Steps.{AreOf, task_at}
use Rattle.search_step.specs.declared.parts.Turn.TheVariants.{Moved}
use Rattle.search_step.specs.declared.parts.Verdict.TheVariants.{Better, Plain, ByPrices, Open}
use Rattle.core_machine.proofs.Keys.{live-key-is, live-key-one}
use Rattle.core_machine.proofs.Plans.{plan-is, plan-one}
use Rattle.core_machine.specs.Core.{closed_held}
use Rattle.core_machine.specs.Places.{live_key_at, plan_at}

-- Verdicts with different keys and plans.
module _ (task : Task) (known : ℕ) (store : Stored) (path : List ℕ) (key other : Key)
    (plan another : List ℕ) (asked : asks task known path ≡ true → key ≡ other)
    (lowered : lowers task known path ≡ true → plan ≡ another) where
  same-leaf : (better : Bool) → (better ≡ true → plan ≡ another) →
      cond better (Better (record { plan = plan; loss = loss_at task path })) Plain
      ≡ cond better (Better (record { plan = another; loss = loss_at task path })) Plain
  same-leaf true h = ap (λ p. Better (record { plan = p; loss = loss_at task path })) (h refl)
  same-leaf false h = refl

  same-open : (starts task path ≡ true) ⊎ (starts task path ≡ false) →
      (starts task path ≡ true → key ≡ other) →
      verdict_open task key path (found_at task store key path)
      ≡ verdict_open task other path (found_at task store other path)
  same-open (inl s) h =
      ap (λ k. verdict_open task k path (found_at task store k path)) (h s)
  same-open (inr s) h = each key ∙ sym (each other)
    where
      not-found : (k : Key) → found_at task store k path ≡ None
      not-found k = rw s refl

      not-noted : (k : Key) → noted task k path ≡ None
      not-noted k = rw s refl

      each : (k : Key) → verdict_open task k path (found_at task store k path)
          ≡ Open (children task.mill task.ranked path) None
      each k =
          ap (verdict_open task k path) (not-found k)
          ∙ ap (λ note. Open (children task.mill task.ranked path) note) (not-noted k)

  same-inner : is_leaf task path ≡ false →
      verdict_inner task known store key path ≡ verdict_inner task known store other path
  same-inner l =
      go (exceeds task known path (first_prices task path)) refl
      (exceeds task known path (second_prices task path)) refl
    where
      go : (a : Bool) → exceeds task known path (first_prices task path) ≡ a → (b : Bool) →
          exceeds task known path (second_prices task path) ≡ b →
          cond a (ByPrices (first_prices task path)) (cond b (ByPrices (second_prices task path))
          (verdict_open task key path (found_at task store key path)))
          ≡ cond a (ByPrices (first_prices task path)) (cond b
          (ByPrices (second_prices task path))
          (verdict_open task other path (found_at task store other path)))
      go true e b f = refl
      go false e true f = refl
      go false e false f =
          same-open (either (starts task path)) (λ s. asked (rw (l, e, f, s) refl))

  pub same-verdict : verdict task known store key plan path
      ≡ verdict task known store other another path
  same-verdict = go (is_leaf task path) refl
    where
      go : (l : Bool) → is_leaf task path ≡ l →
          cond l (verdict_leaf task known plan path) (verdict_inner task known store key path)
          ≡ cond l (verdict_leaf task known another path)
          (verdict_inner task known store other path)
      go true l = same-leaf (ltb (loss_at task path) known) (λ b. lowered (rw (l, b) refl))
      go false l = same-inner l

module _ (ranked : RankedOrders) (charges : ChargeTable) (ranks : IsRanked ranked)
    (path : List ℕ) (tree : IsPathOf ranked path) where
  leaf-long : is_leaf (task_at ranked charges) path ≡ true → length path ≡ length ranked.placed
  leaf-long l =
      eqb-true (length path) (length (task_at ranked charges).ranked) l
      ∙ length-map ranked.placed (λ x. x.order)

  -- the computed key and plan are those that a closing may ask for
  pub computed-are : (known : ℕ) →
      AreOf ranked charges known path (live_key_at ranked path) (plan_at ranked path)
  computed-are known = record {
    asked = λ a. live-key-is ranked path;
    lowered = λ l. plan-is ranked path ranks tree
        (leaf-long (and-left (is_leaf (task_at ranked charges) path) _ l));
  }

  -- a closing with what it asks for is the machine's
  pub closes-as-computed : (w : Parts) (key : Key) (plan : List ℕ) →
      AreOf ranked charges w.known path key plan →
      closed (task_at ranked charges) key plan w (Some path)
      ≡ closed_held ranked charges w (Some path)
  closes-as-computed w key plan are =
      ap (λ v. (commits path w v, Moved))
      (same-verdict (task_at ranked charges) w.known w.store path key (live_key_at ranked path)
      plan (plan_at ranked path) (λ a. live-key-one ranked path key ranks (are.asked a))
      (λ l. plan-one ranked path plan ranks tree
      (leaf-long (and-left (is_leaf (task_at ranked charges) path) _ l)) (are.lowered l)))
