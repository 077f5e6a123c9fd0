-- How far the sets of a layer reach, when the orders of a colour are let in: each order of the run
-- adds its weight to the sets of the layer below.
use Rattle.std.proofs.Common.{ℕ, zero, suc, ◌+◌, ◌-◌, ◌<◌, ◌≤◌, ◌≡◌, ◌≢◌, ◌⊎◌, true, false, List}
use Rattle.std.proofs.Common.{[]}
use Rattle.std.proofs.Common.{◌∷◌, ◌∙◌, length, set, eqb-true, get_or, take, ℤ, eqb, eq-eqb}
use Rattle.std.proofs.Common.{refl, sym, ap, subst}
use Rattle.std.proofs.Common.{arith, inl, inr, sum_by}
use Rattle.std.proofs.lemmas.Bool.{cases_lt}
use Rattle.std.proofs.lemmas.List.{take_more, get_or-set_same, get_or-set_other}
use Rattle.std.proofs.lemmas.List.Sums.{sum_by-append}
use Rattle.list_laws.specs.Sets.{holds}
use Rattle.list_laws.proofs.Tests.{or-left, either, clash}
use Rattle.mill_model.specs.declared.order.Order.{Order}
use Rattle.set_minima.specs.Packs.{nobody, colour_at}
use Rattle.set_minima.specs.Reaches.{IsReach, AreReaches}
use Rattle.set_minima.proofs.ReachMore.{reach-adds, reach-start, reach-end, reach-keep}
use Rattle.least_slacks.specs.Items.{no_item, item_at, AreItems, IsRun, Letting, let_in, carried}
use Rattle.least_slacks.specs.declared.later_orders.Item.{Item}
use Rattle.least_slacks.proofs.ItemsLetIn.{next-let_in}

abbrev weight_at : List Order → List Item → ℕ → ℕ
weight_at rest items t = (get_or rest (item_at items t).place nobody).weight

pub carried-more : (rest : List Order) (items : List Item) (t : ℕ) → t < length items →
    carried rest items (t + 1) ≡ carried rest items t + weight_at rest items t
carried-more rest items t h =
    let weigh = λ (item : Item). (get_or rest item.place nobody).weight in
    let last : carried rest items (t + 1)
    ≡ carried rest items t + (0 + weight_at rest items t) =
    ap (λ (xs : List Item). sum_by weigh xs) (take_more items t no_item h)
    ∙ sum_by-append weigh (take t items) (item_at items t ∷ []) in
    omega (arith, last)

carried-rises : (rest : List Order) (items : List Item) (t d : ℕ) → t + d ≤ length items →
    carried rest items t ≤ carried rest items (t + d)
carried-rises rest items t zero h =
    let e : t ≡ t + 0 = omega arith in
    subst (λ s. carried rest items t ≤ carried rest items s) e (omega arith)
carried-rises rest items t (suc d) h =
    let e : t + d + 1 ≡ t + suc d = omega arith in
    let more = carried-more rest items (t + d) (omega arith) in
    let below = carried-rises rest items t d (omega arith) in
    subst (λ s. carried rest items t ≤ carried rest items s) e (omega (arith, more, below))

module _ (rest : List Order) (prices : List ℤ) (same : length prices ≡ length rest)
    (items : List Item) (it : AreItems rest items) (letting : Letting) (at end colour : ℕ)
    (run : IsRun rest items letting at end colour) where
  -- order by order, where the colour is paid for
  reach-paid : (k width r d : ℕ) → d ≤ end - at →
      IsReach (let_in rest items letting at) (colour ∷ []) k rest width r →
      IsReach (let_in rest items letting (at + d)) (colour ∷ []) k rest width
      (r + (carried rest items (at + d) - carried rest items at))
  reach-paid k width r zero h p =
      let e : at ≡ at + 0 = omega arith in
      subst (λ t. IsReach (let_in rest items letting t) (colour ∷ []) k rest width
      (r + (carried rest items t - carried rest items at))) e
      (λ l marks q b. let n : l ≤ r = p l marks q b in omega arith)
  reach-paid k width r (suc d) h p =
      let t = at + d in
      let e : t + 1 ≡ at + suc d = omega arith in
      let ends : end ≤ length items = run.ends in
      let order : at ≤ end = run.order in
      let here : t < length items = omega arith in
      let alike : colour_at rest (item_at items t).place ≡ colour =
      run.alike t (omega arith) (omega arith) in
      let was : holds (colour_at rest (item_at items t).place) letting.before ≡ true =
      ap (λ x. holds x letting.before) alike ∙ run.was_out in
      let still : holds (colour_at rest (item_at items t).place) letting.after ≡ false =
      ap (λ x. holds x letting.after) alike ∙ run.not_out in
      let paid : holds (colour_at rest (item_at items t).place) (colour ∷ []) ≡ true =
      ap (λ x. holds x (colour ∷ [])) alike
      ∙ or-left (eqb colour colour) _ (eq-eqb colour colour refl) in
      let more = carried-more rest items t here in
      let rises = carried-rises rest items at d (omega arith) in
      let before = reach-paid k width r d (omega arith) p in
      let one = reach-adds rest prices same (let_in rest items letting t)
      (let_in rest items letting (t + 1)) (colour ∷ []) k (item_at items t).place
      (it.inside t here) (next-let_in rest items it letting t here was still) paid width
      (r + (carried rest items t - carried rest items at)) before in
      subst (λ s. IsReach (let_in rest items letting s) (colour ∷ []) k rest width
      (r + (carried rest items s - carried rest items at))) e
      (λ l marks q b. let n : l ≤ r + (carried rest items t - carried rest items at)
      + weight_at rest items t = one l marks q b in omega (arith, more, rises))

  -- a layer of one colour more, up to the last load at most
  pub reach-raised : (k width below here weight top : ℕ) →
      carried rest items at + weight ≡ carried rest items end →
      (here ≤ top) ⊎ (width ≤ suc top) → (below + weight ≤ top) ⊎ (width ≤ suc top) →
      IsReach (let_in rest items letting at) [] k rest width below →
      IsReach (let_in rest items letting at) [] (suc k) rest width here →
      IsReach (let_in rest items letting end) [] (suc k) rest width top
  reach-raised k width below here weight top w (inr all) b p q =
      λ l marks x y. omega arith
  reach-raised k width below here weight top w (inl a) (inr all) p q =
      λ l marks x y. omega arith
  reach-raised k width below here weight top w (inl a) (inl b) p q =
      let order : at ≤ end = run.order in
      let whole : at + (end - at) ≡ end = omega arith in
      let with_it : IsReach (let_in rest items letting end) (colour ∷ []) (suc k) rest width
      (below + (carried rest items end - carried rest items at)) =
      subst (λ t. IsReach (let_in rest items letting t) (colour ∷ []) (suc k) rest width
      (below + (carried rest items t - carried rest items at))) whole
      (reach-paid (suc k) width below (end - at) (omega arith)
      (reach-start rest (let_in rest items letting at) (let_in rest items letting end) [] colour
      run.next refl k width below p)) in
      reach-end rest (let_in rest items letting at) (let_in rest items letting end) [] colour
      run.next refl (suc k) width here (below + (carried rest items end - carried rest items at))
      top a (omega arith) q with_it

-- the layers below t reach as far as at first
abbrev pub Unreached : List ℕ → ℕ → List ℕ → Type 0
Unreached start t reach = (s : ℕ) → s < t → get_or reach s 0 ≡ get_or start s 0

pub unreached-more : (start : List ℕ) (above t : ℕ) → suc t ≡ above → (reach : List ℕ) (top : ℕ) →
    Unreached start above reach → Unreached start t (set reach t top)
unreached-more start above t e reach top old s h =
    get_or-set_other reach t s top 0 (omega arith) ∙ old s (omega arith)

-- The layers from the last down: those from t on reach as far as with the run, the others as at
-- first.
module _ (rest : List Order) (prices : List ℤ) (same : length prices ≡ length rest)
    (items : List Item) (it : AreItems rest items) (letting : Letting) (at end colour : ℕ)
    (run : IsRun rest items letting at end colour) (layers width : ℕ) (start : List ℕ)
    (reached : AreReaches (let_in rest items letting at) rest layers width start) where
  abbrev pub Reached : ℕ → List ℕ → Type 0
  Reached t reach =
      (s : ℕ) → t ≤ s → s < layers →
      IsReach (let_in rest items letting end) [] s rest width (get_or reach s 0)

  -- the top of one layer more
  pub top-reached : (above t : ℕ) → suc t ≡ above → 1 ≤ t → above ≤ layers → (reach : List ℕ) →
      Unreached start above reach → (weight top : ℕ) →
      carried rest items at + weight ≡ carried rest items end →
      (get_or reach t 0 ≤ top) ⊎ (width ≤ suc top) →
      (get_or reach (t - 1) 0 + weight ≤ top) ⊎ (width ≤ suc top) →
      IsReach (let_in rest items letting end) [] t rest width top
  top-reached above t e low high reach old weight top w a b =
      let one : suc (t - 1) ≡ t = omega arith in
      let here = rw (old t (omega arith)) at a in
      let below = rw (old (t - 1) (omega arith)) at b in
      subst (λ s. IsReach (let_in rest items letting end) [] s rest width top) one
      (reach-raised rest prices same items it letting at end colour run (t - 1) width
      (get_or start (t - 1) 0) (get_or start t 0) weight top w here below
      (reached (t - 1) (omega arith))
      (subst (λ s. IsReach (let_in rest items letting at) [] s rest width (get_or start t 0))
      (sym one) (reached t (omega arith))))

  pub reached-more : (above t : ℕ) → suc t ≡ above → (reach : List ℕ) → t < length reach →
      (top : ℕ) → IsReach (let_in rest items letting end) [] t rest width top →
      Reached above reach → Reached t (set reach t top)
  reached-more above t e reach long top here old s a b = elim (either (eqb s t)) [
    | inl q ↦ (let z : s ≡ t = eqb-true s t q in
        rw (z, get_or-set_same reach t top 0 long) here)
    | inr q ↦ (let n : s ≢ t = (λ z. clash (eqb s t) (eq-eqb s t z) q) in
        rw (get_or-set_other reach t s top 0 n) (old s (omega arith) b))
  ]

  -- the first layer reaches as far as before, since no set of no colour has the new one
  pub reached-last : (t : ℕ) → t ≤ 1 → (reach : List ℕ) → Reached t reach →
      Unreached start t reach → AreReaches (let_in rest items letting end) rest layers width reach
  reached-last t h reach new old s b = elim (cases_lt s t) [
    | inl e ↦ (let z : s ≡ 0 = omega arith in
        rw (old s e) (reach-keep rest (let_in rest items letting at)
        (let_in rest items letting end) [] colour run.next refl s width (get_or start s 0) z
        (reached s b)))
    | inr e ↦ new s e b
  ]
