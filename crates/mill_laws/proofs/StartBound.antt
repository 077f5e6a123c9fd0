-- Where there is a possible start, one of them loses most. Plans of n orders are lists of n numbers
-- below n, so there are finitely many: by one number after the other, either none of them passes a
-- test, or one that does has the greatest value.
use Rattle.std.proofs.Common.{ℕ, zero, suc, ◌<◌, ◌≤◌, ◌-◌, ◌≡◌, ◌⊎◌, Bool, true, false, ◌&&◌}
use Rattle.std.proofs.Common.{List, [], ◌∷◌, length, eqb, ltb, leb, refl, inl, inr, arith, subst}
use Rattle.std.proofs.Common.{eqb-true, ltb-true, leb-true, leb-false, eq-eqb}
use Rattle.std.proofs.lemmas.Bool.{lt-ltb, le-leb}
use Rattle.std.specs.List.{list_all}
use Rattle.list_laws.proofs.Tests.{either, and-left, and-right, clash, last-or-below}
use Rattle.mill_model.specs.Pairs.{IsPossibleStart, IsStartBound, first_closed, sure_tries}
use Rattle.mill_model.specs.Plan.{legal_plan, loss}
use Rattle.mill_model.specs.Rank.{ranked_orders}
use Rattle.mill_model.specs.Slab.{Mill}
use Rattle.mill_model.specs.Starts.{best_start_loss}
use Rattle.mill_model.specs.declared.order.Order.{Order}

-- a list of some kind that passes a test, of the greatest value
record IsGreatest (Kind : List ℕ → Type 0) (test : List ℕ → Bool) (value : List ℕ → ℕ)
    (best : List ℕ) : Type 0 where
  pub kind : Kind best
  pub passes : test best ≡ true
  pub most : (list : List ℕ) → Kind list → test list ≡ true → value list ≤ value best

-- none of a kind passes, or one of the greatest value does
abbrev HasGreatest : (List ℕ → Type 0) → (List ℕ → Bool) → (List ℕ → ℕ) → Type 0
HasGreatest Kind test value =
    ((list : List ℕ) → Kind list → test list ≡ false)
    ⊎ ((best : List ℕ) × IsGreatest Kind test value best)

-- a kind that is two others
module _ (One Other Both : List ℕ → Type 0) (test : List ℕ → Bool) (value : List ℕ → ℕ)
    (one : (list : List ℕ) → One list → Both list)
    (other : (list : List ℕ) → Other list → Both list)
    (split : (list : List ℕ) → Both list → One list ⊎ Other list) where
  of-both : HasGreatest One test value → HasGreatest Other test value →
      HasGreatest Both test value
  of-both (inl none) (inl never) = inl (λ list kind. elim (split list kind) [
    | inl k ↦ none list k
    | inr k ↦ never list k
  ])
  of-both (inr best) (inl never) = inr (
    best.0,
    record {
      kind = one best.0 best.1.kind;
      passes = best.1.passes;
      most = λ list kind passes. elim (split list kind) [
        | inl k ↦ best.1.most list k passes
        | inr k ↦ absurd (clash (test list) passes (never list k))
      ];
    },
  )
  of-both (inl none) (inr best) = inr (
    best.0,
    record {
      kind = other best.0 best.1.kind;
      passes = best.1.passes;
      most = λ list kind passes. elim (split list kind) [
        | inl k ↦ absurd (clash (test list) passes (none list k))
        | inr k ↦ best.1.most list k passes
      ];
    },
  )
  of-both (inr best) (inr more) = elim (either (leb (value best.0) (value more.0))) [
    | inl up ↦ inr (
      more.0,
      record {
        kind = other more.0 more.1.kind;
        passes = more.1.passes;
        most = λ list kind passes. elim (split list kind) [
          | inl k ↦ (let here = best.1.most list k passes in
              let above = leb-true (value best.0) (value more.0) up in omega arith)
          | inr k ↦ more.1.most list k passes
        ];
      },
    )
    | inr down ↦ inr (
      best.0,
      record {
        kind = one best.0 best.1.kind;
        passes = best.1.passes;
        most = λ list kind passes. elim (split list kind) [
          | inl k ↦ best.1.most list k passes
          | inr k ↦ (let here = more.1.most list k passes in
              let above = leb-false (value best.0) (value more.0) down in omega arith)
        ];
      },
    )
  ]

-- m numbers below n
record AreBelow (n m : ℕ) (list : List ℕ) : Type 0 where
  pub count : length list ≡ m
  pub below : list_all (λ s. ltb s n) list ≡ true

-- one more number in front, which is g, or below k
abbrev BeginsWith : ℕ → ℕ → ℕ → List ℕ → Type 0
BeginsWith n m g [] = ⊥
BeginsWith n m g (s ∷ rest) = (s ≡ g) × AreBelow n m rest

abbrev BeginsBelow : ℕ → ℕ → ℕ → List ℕ → Type 0
BeginsBelow n m k [] = ⊥
BeginsBelow n m k (s ∷ rest) = (s < k) × AreBelow n m rest

module _ (n m : ℕ) (test : List ℕ → Bool) (value : List ℕ → ℕ)
    (rest : (g : ℕ) → HasGreatest (AreBelow n m) (λ list. test (g ∷ list))
    (λ list. value (g ∷ list)))
  where
    with-first : (g : ℕ) → HasGreatest (BeginsWith n m g) test value
    with-first g = from (rest g)
      where
        none-passes : ((list : List ℕ) → AreBelow n m list → test (g ∷ list) ≡ false) →
            (list : List ℕ) → BeginsWith n m g list → test list ≡ false
        none-passes none [] kind = absurd kind
        none-passes none (s ∷ list) kind = rw (kind.0) (none list kind.1)

        most-value : (best : ℕ) → ((list : List ℕ) → AreBelow n m list → test (g ∷ list) ≡ true →
            value (g ∷ list) ≤ best) →
            (list : List ℕ) → BeginsWith n m g list → test list ≡ true → value list ≤ best
        most-value best most [] kind passes = absurd kind
        most-value best most (s ∷ list) kind passes =
            let there : test (g ∷ list) ≡ true =
            subst (λ h. test (h ∷ list) ≡ true) kind.0 passes in
            rw (kind.0) (most list kind.1 there)

        from : HasGreatest (AreBelow n m) (λ list. test (g ∷ list)) (λ list. value (g ∷ list)) →
            HasGreatest (BeginsWith n m g) test value
        from (inl none) = inl (none-passes none)
        from (inr best) = inr (
          g ∷ best.0,
          record {
            kind = (refl, best.1.kind);
            passes = best.1.passes;
            most = most-value (value (g ∷ best.0)) best.1.most;
          },
        )

    none-begins : (list : List ℕ) → BeginsBelow n m 0 list → test list ≡ false
    none-begins [] kind = absurd kind
    none-begins (s ∷ list) kind = (let less = kind.0 in absurd (omega arith))

    lower : (k : ℕ) (list : List ℕ) → BeginsBelow n m k list → BeginsBelow n m (suc k) list
    lower k [] kind = kind
    lower k (s ∷ list) kind = (let less = kind.0 in (omega arith, kind.1))

    last : (k : ℕ) (list : List ℕ) → BeginsWith n m k list → BeginsBelow n m (suc k) list
    last k [] kind = kind
    last k (s ∷ list) kind = (let is = kind.0 in (omega arith, kind.1))

    last-or-lower : (k : ℕ) (list : List ℕ) → BeginsBelow n m (suc k) list →
        BeginsWith n m k list ⊎ BeginsBelow n m k list
    last-or-lower k [] kind = absurd kind
    last-or-lower k (s ∷ list) kind = elim (last-or-below s k kind.0) [
      | inl is ↦ inl (is, kind.1)
      | inr less ↦ inr (less, kind.1)
    ]

    with-lower : (k : ℕ) → HasGreatest (BeginsBelow n m k) test value
    with-lower zero = inl none-begins
    with-lower (suc k) =
        of-both (BeginsWith n m k) (BeginsBelow n m k) (BeginsBelow n m (suc k)) test value (last k)
        (lower k) (last-or-lower k) (with-first k) (with-lower k)

    begins : (list : List ℕ) → AreBelow n (suc m) list → BeginsBelow n m n list
    begins [] are = (let count = are.count in absurd (omega arith))
    begins (s ∷ list) are =
        let count = are.count in (
          ltb-true s n (and-left (ltb s n) (list_all (λ t. ltb t n) list) are.below),
          record {
            count = omega arith;
            below = and-right (ltb s n) (list_all (λ t. ltb t n) list) are.below;
          },
        )

    begun : (list : List ℕ) → BeginsBelow n m n list → AreBelow n (suc m) list
    begun [] kind = absurd kind
    begun (s ∷ list) kind =
        let count = kind.1.count in
        record { count = omega arith; below = rw (lt-ltb s n kind.0) kind.1.below }

    one-more : HasGreatest (AreBelow n (suc m)) test value
    one-more = from (with-lower n)
      where
        from : HasGreatest (BeginsBelow n m n) test value →
            HasGreatest (AreBelow n (suc m)) test value
        from (inl none) = inl (λ list are. none list (begins list are))
        from (inr best) = inr (
          best.0,
          record {
            kind = begun best.0 best.1.kind;
            passes = best.1.passes;
            most = λ list are. best.1.most list (begins list are);
          },
        )

greatest : (n m : ℕ) (test : List ℕ → Bool) (value : List ℕ → ℕ) →
    HasGreatest (AreBelow n m) test value
greatest n zero test value = elim (either (test [])) [
  | inl passes ↦ inr (
    [],
    record {
      kind = record { count = refl; below = refl };
      passes = passes;
      most = only;
    },
  )
  | inr fails ↦ inl (none fails)
]
  where
    only : (list : List ℕ) → AreBelow n 0 list → test list ≡ true → value list ≤ value []
    only [] are passes = omega arith
    only (s ∷ list) are passes = (let count = are.count in absurd (omega arith))

    none : test [] ≡ false → (list : List ℕ) → AreBelow n 0 list → test list ≡ false
    none fails [] are = fails
    none fails (s ∷ list) are = (let count = are.count in absurd (omega arith))
greatest n (suc m) test value =
    one-more n m test value
    (λ g. greatest n m (λ list. test (g ∷ list)) (λ list. value (g ∷ list)))

module _ (mill : Mill) (charge : ℕ → ℕ) (orders : List Order) (moves : ℕ) where
  -- whether a plan is a possible start: three truth values beside its numbers
  abbrev rest_of_test : List ℕ → Bool
  rest_of_test plan =
      let most = best_start_loss mill charge (ranked_orders orders) in
      leb (loss charge plan orders) most
      && first_closed mill charge orders plan
      (sure_tries moves (most - loss charge plan orders) (length orders))

  abbrev is_possible : List ℕ → Bool
  is_possible plan = legal_plan mill plan orders && rest_of_test plan

  passes-where : (plan : List ℕ) → IsPossibleStart mill charge orders moves plan →
      is_possible plan ≡ true
  passes-where plan possible =
      rw (possible.is_legal.slabs, le-leb _ _ possible.at_most, possible.closed) refl

  numbers-where : (plan : List ℕ) → IsPossibleStart mill charge orders moves plan →
      AreBelow (length orders) (length orders) plan
  numbers-where plan possible =
      let each = possible.is_legal.each in
      let tests : Bool = list_all (λ s. ltb s (length orders)) plan in
      record {
        count = eqb-true _ _ (and-left (eqb (length plan) (length orders)) tests each);
        below = and-right (eqb (length plan) (length orders)) tests each;
      }

  where-passes : (plan : List ℕ) → AreBelow (length orders) (length orders) plan →
      is_possible plan ≡ true → IsPossibleStart mill charge orders moves plan
  where-passes plan are passes =
      let later = and-right (legal_plan mill plan orders) (rest_of_test plan) passes in
      let most = best_start_loss mill charge (ranked_orders orders) in
      let closed : Bool = first_closed mill charge orders plan
      (sure_tries moves (most - loss charge plan orders) (length orders)) in
      record {
        is_legal = record {
          each = rw (eq-eqb _ _ are.count) are.below;
          slabs = and-left (legal_plan mill plan orders) (rest_of_test plan) passes;
        };
        at_most = leb-true _ _ (and-left (leb (loss charge plan orders) most) closed later);
        closed = and-right (leb (loss charge plan orders) most) closed later;
      }

  pub start-bound : (plan : List ℕ) → IsPossibleStart mill charge orders moves plan →
      (bound : ℕ) × IsStartBound mill charge orders moves bound
  start-bound plan possible =
      from (greatest (length orders) (length orders) is_possible (λ p. loss charge p orders))
    where
      from : HasGreatest (AreBelow (length orders) (length orders)) is_possible
          (λ p. loss charge p orders) →
          (bound : ℕ) × IsStartBound mill charge orders moves bound
      from (inl none) =
          absurd (clash (is_possible plan) (passes-where plan possible)
          (none plan (numbers-where plan possible)))
      from (inr best) = (
        loss charge best.0 orders,
        record {
          reached = (best.0, where-passes best.0 best.1.kind best.1.passes, refl);
          greatest = λ other may. best.1.most other (numbers-where other may)
              (passes-where other may);
        },
      )
