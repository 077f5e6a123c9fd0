-- Lists of views in which one view changes, is cut in two, or takes in another one: what then
-- holds of each view, of some view, and of the sum over all.
--
-- The place of the view that changes comes with the fact that it stands there. A cut view leaves
-- its left part, and the right part comes last. A view that was taken in is left spent.
use Rattle.std.proofs.Common.{◌≡◌, ◌≢◌, ℕ, zero, suc, ◌+◌, ◌<◌, ◌≤◌, List, [], ◌∷◌, ◌++◌}
use Rattle.std.proofs.Common.{length, get_or, set, sum_by, refl, sym, ap, ◌∙◌, subst, ⊎_elim}
use Rattle.std.proofs.Common.{arith}
use Rattle.std.proofs.lemmas.List.Sums.{sum_by-cons, sum_by-set, sum_by_push, get_or-le-sum_by}
use mathlib.Core.Option.{some, some-ne-none, some-injective}
use mathlib.Core.Logic.{dite}
use native.Mathlib.Decide.{ℕ_discrete}
use lib.ListN.{get_elem?}
use Rattle.atomic_table.proofs.Lists.{at_set, set_here, set_else, at_snoc, at_longer}
use Rattle.shared_words.specs.Views.{EachView, SomeView}

module _ {V : Type 0} where
  pub in_range : (views : List V) (place : ℕ) (v : V) → get_elem? views place ≡ some v →
      place < length views
  in_range [] place v here = absurd (some-ne-none v (sym here))
  in_range (x ∷ views) zero v here = omega arith
  in_range (x ∷ views) (suc place) v here =
      let rest = in_range views place v here in omega arith

  read-here : (views : List V) (place : ℕ) (v d : V) → get_elem? views place ≡ some v →
      get_or views place d ≡ v
  read-here [] place v d here = absurd (some-ne-none v (sym here))
  read-here (x ∷ views) zero v d here = some-injective x v here
  read-here (x ∷ views) (suc place) v d here = read-here views place v d here

  -- one place has one view
  pub one_view : (views : List V) (place other : ℕ) (v w : V) → get_elem? views place ≡ some v →
      get_elem? views other ≡ some w → other ≡ place → w ≡ v
  one_view views place other v w here there same =
      some-injective w v (sym there ∙ ap (get_elem? views) same ∙ here)

  -- a view that stands where another one was changed stood there before
  pub stood_there : (views : List V) (place other : ℕ) (new w : V) → other ≢ place →
      get_elem? (set views place new) other ≡ some w → get_elem? views other ≡ some w
  stood_there views place other new w apart there =
      sym (set_else views place other new apart) ∙ there

module _ {V : Type 0} (P : ℕ → V → Type 0) where
  pub each_set : (views : List V) (place : ℕ) (new : V) → EachView P views → P place new →
      EachView P (set views place new)
  each_set views place new each is other u there =
      ⊎_elim
      (λ (here : (other ≡ place) × (new ≡ u)).
      subst (λ (x : ℕ × V). P x.0 x.1) (λ i. (sym here.0 i, here.1 i)) is)
      (λ (else : (other ≢ place) × (get_elem? views other ≡ some u)). each other u else.1)
      (at_set views place other new u there)

  pub each_split : (views : List V) (place : ℕ) (left right : V) → EachView P views →
      P place left → ((last : ℕ) → P last right) → EachView P (set views place left ++ right ∷ [])
  each_split views place left right each is new other u there =
      ⊎_elim
      (λ old. each_set views place left each is other u old)
      (λ (last : right ≡ u). subst (P other) last (new other))
      (at_snoc (set views place left) right u other there)

  pub each_join : (views : List V) (place other : ℕ) (both spent : V) → EachView P views →
      P place both → P other spent → EachView P (set (set views place both) other spent)
  each_join views place other both spent each is none =
      each_set (set views place both) other spent (each_set views place both each is) none

module _ {V : Type 0} (P : V → Type 0) where
  pub some_here : (views : List V) (place : ℕ) (v new : V) → get_elem? views place ≡ some v →
      P new → SomeView P (set views place new)
  some_here views place v new here is =
      (place, new, set_here views place new (in_range views place v here), is)

  pub some_set : (views : List V) (place : ℕ) (v new : V) → get_elem? views place ≡ some v →
      (P v → P new) → SomeView P views → SomeView P (set views place new)
  some_set views place v new here more has =
      dite (ℕ_discrete has.0 place)
      (λ same. some_here views place v new here
      (more (subst P (one_view views place has.0 v has.1 here has.2 same) has.3)))
      (λ apart. (has.0, has.1, set_else views place has.0 new apart ∙ has.2, has.3))

  pub some_split : (views : List V) (place : ℕ) (v left right : V) →
      get_elem? views place ≡ some v → (P v → P left) → SomeView P views →
      SomeView P (set views place left ++ right ∷ [])
  some_split views place v left right here more has =
      let old = some_set views place v left here more has in
      (old.0, old.1, at_longer (set views place left) (right ∷ []) old.0 old.1 old.2, old.3)

  pub some_join : (views : List V) (place other : ℕ) (v w both spent : V) →
      get_elem? views place ≡ some v → other ≢ place →
      get_elem? (set views place both) other ≡ some w → (P v → P both) → (P w → P both) →
      SomeView P views → SomeView P (set (set views place both) other spent)
  some_join views place other v w both spent here apart there mine theirs has =
      dite (ℕ_discrete has.0 other)
      (λ same. stays (
        place,
        both,
        set_here views place both (in_range views place v here),
        theirs (subst P (one_view views other has.0 w has.1 was has.2 same) has.3),
      )
      (λ e. apart (sym e)))
      (λ else. dite (ℕ_discrete has.0 place)
      (λ same. stays (
        place,
        both,
        set_here views place both (in_range views place v here),
        mine (subst P (one_view views place has.0 v has.1 here has.2 same) has.3),
      )
      (λ e. apart (sym e)))
      (λ distant. stays
      (has.0, has.1, set_else views place has.0 both distant ∙ has.2, has.3) else))
    where
      was : get_elem? views other ≡ some w
      was = stood_there views place other both w apart there

      stays : (one : SomeView P (set views place both)) → one.0 ≢ other →
          SomeView P (set (set views place both) other spent)
      stays one distant =
          (one.0, one.1, set_else (set views place both) other one.0 spent distant ∙ one.2, one.3)

  -- it is the view at a place, where it holds of no other one
  pub some_alone : (views : List V) (place : ℕ) (v : V) → get_elem? views place ≡ some v →
      ((other : ℕ) (u : V) → get_elem? views other ≡ some u → other ≢ place → ¬ P u) →
      SomeView P views → P v
  some_alone views place v here others has =
      dite (ℕ_discrete has.0 place)
      (λ same. subst P (one_view views place has.0 v has.1 here has.2 same) has.3)
      (λ apart. absurd (others has.0 has.1 has.2 apart has.3))

module _ {V : Type 0} (f : V → ℕ) where
  pub sum_set : (views : List V) (place : ℕ) (v new : V) → get_elem? views place ≡ some v →
      sum_by f (set views place new) + f v ≡ sum_by f views + f new
  sum_set views place v new here =
      let read : f (get_or views place v) ≡ f v = ap f (read-here views place v v here) in
      omega (arith, sum_by-set f views place new v (in_range views place v here))

  pub sum_split : (views : List V) (place : ℕ) (v left right : V) →
      get_elem? views place ≡ some v →
      sum_by f (set views place left ++ right ∷ []) + f v ≡ sum_by f views + f left + f right
  sum_split views place v left right here =
      omega (arith, sum_set views place v left here, sum_by_push f (set views place left) right)

  pub sum_join : (views : List V) (place other : ℕ) (v w both spent : V) →
      get_elem? views place ≡ some v → get_elem? (set views place both) other ≡ some w →
      sum_by f (set (set views place both) other spent) + f v + f w
      ≡ sum_by f views + f both + f spent
  sum_join views place other v w both spent here there =
      omega (
        arith,
        sum_set views place v both here,
        sum_set (set views place both) other w spent there,
      )

  one-of : (views : List V) (place : ℕ) (v : V) → get_elem? views place ≡ some v →
      f v ≤ sum_by f views
  one-of views place v here =
      let read : f (get_or views place v) ≡ f v = ap f (read-here views place v v here) in
      omega (arith, get_or-le-sum_by f views place v (in_range views place v here))

  -- two views have no more than all
  pub two_of : (views : List V) (place other : ℕ) (v u : V) → get_elem? views place ≡ some v →
      get_elem? views other ≡ some u → other ≢ place → f v + f u ≤ sum_by f views
  two_of [] place other v u here there apart = absurd (some-ne-none v (sym here))
  two_of (x ∷ views) zero zero v u here there apart = absurd (apart refl)
  two_of (x ∷ views) zero (suc other) v u here there apart =
      let first : f x ≡ f v = ap f (some-injective x v here) in
      omega (arith, one-of views other u there, sum_by-cons f x views)
  two_of (x ∷ views) (suc place) zero v u here there apart =
      let first : f x ≡ f u = ap f (some-injective x u there) in
      omega (arith, one-of views place v here, sum_by-cons f x views)
  two_of (x ∷ views) (suc place) (suc other) v u here there apart =
      omega (
        arith,
        two_of views place other v u here there (λ e. apart (ap suc e)),
        sum_by-cons f x views,
      )

  sum-none : (views : List V) → EachView (λ _ u. f u ≡ 0) views → sum_by f views ≡ 0
  sum-none [] none = refl
  sum-none (x ∷ views) none =
      omega (
        arith,
        sum_by-cons f x views,
        none 0 x refl,
        sum-none views (λ place u here. none (suc place) u here),
      )

  -- where no other view has any, one has all
  pub sum_alone : (views : List V) (place : ℕ) (v : V) → get_elem? views place ≡ some v →
      EachView (λ other u. other ≢ place → f u ≡ 0) views → sum_by f views ≡ f v
  sum_alone [] place v here others = absurd (some-ne-none v (sym here))
  sum_alone (x ∷ views) zero v here others =
      let first : f x ≡ f v = ap f (some-injective x v here) in
      omega (
        arith,
        sum_by-cons f x views,
        sum-none views (λ other u there. others (suc other) u there (λ e. omega arith)),
      )
  sum_alone (x ∷ views) (suc place) v here others =
      omega (
        arith,
        sum_by-cons f x views,
        others 0 x refl (λ e. omega arith),
        sum_alone views place v here
            (λ other u there apart. others (suc other) u there (λ e. apart (omega arith))),
      )
