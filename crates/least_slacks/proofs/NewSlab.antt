-- The slack of a new slab, which stands behind those of the keys: the prices are valid where it is
-- not below 0.
use Rattle.std.proofs.Common.{◌≡◌, ℕ, zero, suc, ◌+◌, ◌≤◌, ◌∙◌, false, List, [], ◌∷◌, ◌++◌}
use Rattle.std.proofs.Common.{length, length-append, take, get_or, replicate, eqb, ne_eqb, ℤ, pos}
use Rattle.std.proofs.Common.{int_le}
use Rattle.std.proofs.Common.{refl, sym, ap, subst, arith, slice_index}
use Rattle.std.specs.List.{All}
use Rattle.std.proofs.lemmas.List.{length-take, get_or-take, get_or_append_left}
use Rattle.list_laws.specs.Sets.{holds}
use Rattle.mill_model.specs.Instance.{IsOrder}
use Rattle.mill_model.specs.Prices.{valid}
use Rattle.mill_model.specs.declared.order.Order.{Order}
use Rattle.set_minima.specs.Packs.{colour_at, nobody}
use Rattle.set_minima.specs.Joins.{IsSlab}
use Rattle.set_minima.proofs.Groups.{valid-least}
use Rattle.set_minima.specs.Cells.{IsSmall, slack_limit}
use Rattle.least_slacks.specs.Keys.{AreLeast, HasColours, new_slab, no_key}
use Rattle.least_slacks.specs.Limits.{mill_within}
use Rattle.least_slacks.specs.declared.key.Key.{Key}
use Rattle.least_slacks.specs.declared.limits.SlabLimits.{SlabLimits}
use Rattle.least_slacks.proofs.KeysInHalves.{behind}

no-colour : (c n : ℕ) → c ≤ 4096 → holds c (replicate n 65535) ≡ false
no-colour c zero h = refl
no-colour c (suc n) h =
    let e : eqb c 65535 ≡ false = ne_eqb c 65535 (λ q. absurd (omega arith)) in
    rw e (no-colour c n h)

module _ (limits : SlabLimits) (rest : List Order) (prices : List ℤ) (keys : List Key)
    (slacks : List ℤ) (all : AreLeast limits rest prices (keys ++ new_slab ∷ []) slacks) where
  one-more : length slacks ≡ length keys + 1
  one-more =
      let long = length-append keys (new_slab ∷ []) in
      let one : length (new_slab ∷ []) ≡ 1 = refl in
      omega (arith, long, one, all.long)

  -- those of the keys themselves
  pub least-front : AreLeast limits rest prices keys (take (length keys) slacks)
  least-front =
      let n = one-more in
      let both = length-append keys (new_slab ∷ []) in
      let t = length-take (length keys) slacks in
      record {
        long = omega (arith, n, t);
        small = λ i h own has.
            subst (λ x. IsSmall slack_limit x)
            (sym (get_or-take (length keys) slacks i (pos 0) h))
            (all.small i (omega (arith, both)) own
            (subst (λ (key : Key). HasColours rest key own)
            (sym (get_or_append_left keys (new_slab ∷ []) no_key i h)) has));
        least = λ i h own group has slab.
            (let k = sym (get_or_append_left keys (new_slab ∷ []) no_key i h) in
            get_or-take (length keys) slacks i (pos 0) h
            ∙ all.least i (omega (arith, both)) own group
            (subst (λ (key : Key). HasColours rest key own) k has)
            (subst (λ (key : Key). IsSlab group key.load own) k slab));
      }

  -- that of the new slab
  pub valid-last : All IsOrder rest →
      valid (mill_within limits) (λ l. slice_index limits.charges.now l) rest prices ≡
      int_le (pos 0) (get_or slacks (length keys) (pos 0))
  valid-last orders =
      let both = length-append keys (new_slab ∷ []) in
      let one : length (new_slab ∷ []) ≡ 1 = refl in
      let z : length keys + 0 ≡ length keys = omega arith in
      let k : get_or (keys ++ new_slab ∷ []) (length keys) no_key ≡ new_slab =
      behind keys (new_slab ∷ []) (length keys) 0 no_key z in
      let has : HasColours rest new_slab [] = record {
        once = refl;
        count = refl;
        same = λ i h. sym (no-colour (colour_at rest i) 8 (orders i nobody h).1.1);
      } in
      let slab : IsSlab [] 0 [] = record { weighs = refl; same = λ x. refl } in
      valid-least (mill_within limits) (λ l. slice_index limits.charges.now l) rest prices
      ∙ ap (int_le (pos 0)) (sym (all.least (length keys) (omega (arith, both, one)) [] []
      (subst (λ (key : Key). HasColours rest key []) (sym k) has)
      (subst (λ (key : Key). IsSlab [] key.load []) (sym k) slab)))
