-- Where a walk along the children of a node finds none with a label.
use Rattle.std.proofs.Common.{ℕ, ◌<◌, ◌≤◌, ◌≡◌, ◌≢◌, true, List, ◌∷◌, Option, Some, None, sym, ap}
use Rattle.std.proofs.Common.{◌∙◌, arith, subst, inl, inr, eqb, eqb-true}
use Rattle.list_laws.specs.Sets.{holds}
use Rattle.list_laws.proofs.Different.{holds-append}
use Rattle.list_laws.proofs.Tests.{or-cases}
use Rattle.index_links.specs.Forest.{Forest, IsForest, IsFreeUnder, children_of, label_of, nodes_of}
use Rattle.index_links.proofs.Walked.{HasPassed, label-rises, passed-all}

-- it came to a child with a greater label
pub none-here : (f : Forest) → IsForest f → (p : ℕ) → p < nodes_of f → (passed rest : List ℕ)
    (child : ℕ) → HasPassed f p passed (child ∷ rest) (Some child) → (label : ℕ) →
    ((x : ℕ) → holds x passed ≡ true → label_of f x < label) → label ≤ label_of f child →
    label_of f child ≢ label → IsFreeUnder f (Some p) label
none-here f is p low passed rest child walked label lesser most other x h e =
    elim (or-cases (holds x passed) (holds x (child ∷ rest))
    (sym (holds-append x passed (child ∷ rest))
    ∙ subst (λ xs. holds x xs ≡ true) walked.are h)) [
      | inl i ↦ (let less = lesser x i in absurd (omega (arith, less, e)))
      | inr j ↦ elim (or-cases (eqb x child) (holds x rest) j) [
        | inl s ↦ other (ap (label_of f) (sym (eqb-true x child s)) ∙ e)
        | inr k ↦ (
            let less = label-rises f is p low passed rest child walked x k in
            absurd (omega (arith, less, most, e)))
      ]
    ]

-- it came to the end
pub none-at-all : (f : Forest) (p : ℕ) (passed rest : List ℕ) (next : Option ℕ) →
    HasPassed f p passed rest next → next ≡ None → (label : ℕ) →
    ((x : ℕ) → holds x passed ≡ true → label_of f x < label) → IsFreeUnder f (Some p) label
none-at-all f p passed rest next walked end label lesser x h e =
    let less = lesser x (subst (λ xs. holds x xs ≡ true)
    (passed-all f p passed rest next walked end) h) in
    absurd (omega (arith, less, e))
