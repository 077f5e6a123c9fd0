-- The slacks of all groups and the prices add up to what the prices are worth, and no sum
-- overflows.
use Rattle.std.proofs.Common.{ℕ, ℤ, ◌≡◌, ◌+◌, ◌≤◌, ◌∙◌, ◌+ℤ◌, ◌-ℤ◌, ◌*ℤ◌, true, length, pos, List}
use Rattle.std.proofs.Common.{int_lt, eqb, eq-eqb, arith, ap, ap₂, sym, subst, SFits, w64, rules}
use Rattle.std.proofs.Common.{to_z-of_z, slice_index, refl, All, map}
use Rattle.std.proofs.lemmas.Int.{ints}
use Rattle.mill_model.specs.Tree.{next_new}
use Rattle.mill_model.specs.Prices.{valid, worth}
use Rattle.mill_model.specs.Slab.{Mill}
use Rattle.list_laws.specs.Sets.{int_sum, int_total}
use Rattle.set_minima.proofs.CellNumbers.{fits-64}
use Rattle.least_slacks.specs.Keys.{AreLeast, HasRoom}
use Rattle.least_slacks.specs.Limits.{mill_within}
use Rattle.least_slacks.specs.declared.key.Key.{Key}
use Rattle.least_slacks.specs.declared.limits.SlabLimits.{SlabLimits}
use Rattle.mill_model.specs.declared.order.Order.{Order}
use Rattle.log_checker.specs.ByRules.{mill_by, charge_by}
use Rattle.log_checker.specs.Keys.{key_in}
use Rattle.log_checker.specs.PathGroups.{later}
use Rattle.log_checker.specs.Slacks.{slack_of}
use Rattle.log_checker.proofs.SlacksOfGroups.{keys-legal, live-slacks, slacks-sum}
use Rattle.log_checker.proofs.priced.priced_is_sound.Goals as goal

-- the limits are those of the rules
limits-mill : (a b : ℕ) (limits : SlabLimits) → limits.largest ≡ a → limits.most ≡ b →
    mill_within limits ≡ record { largest = a; most_colours = b }
limits-mill a b limits l m = ap₂ (λ (a b : ℕ). record { largest = a; most_colours = b }) l m

pub least_slacks-requires-clause-keys : goal.least_slacks-requires-clause-keys
least_slacks-requires-clause-keys c =
    let its = c.args.path.now in
    let e : c.deref-2.result.now ≡ map key_in c.in_ok-live.live.items =
    c.deref-2.ensures.value ∙ c.in_ok-keys.ensures ∙ ap (map key_in) c.deref.ensures.value in
    let k = keys-legal (mill_by its.rules.now) (later its) its.groups.items
    c.in_ok-live.live.items c.in_ok-live.ensures in
    subst (λ (ks : List Key). All (λ (key : Key). (key.load ≤ c.limits-limits.result.largest)
    × (key.colours ≤ c.limits-limits.result.most)) ks) (sym e)
    (λ i d h. (let r = k i d h in (
      omega (arith, r.0, c.limits-limits.ensures.largest),
      omega (arith, r.1, c.limits-limits.ensures.most),
    )))

pub slacks_of-requires-clause-least : goal.slacks_of-requires-clause-least
slacks_of-requires-clause-least c =
    let its = c.args.path.now in
    let limits = c.limits-limits.result in
    let given = rw c.in-Some.is at c.in_ok-found.ensures.some in
    let keys : c.deref-2.result.now ≡ map key_in c.in_ok-live.live.items =
    c.deref-2.ensures.value ∙ c.in_ok-keys.ensures ∙ ap (map key_in) c.deref.ensures.value in
    let least : AreLeast limits (later its) c.args.prices.now (map key_in c.in_ok-live.live.items)
    c.in-Some.least.items =
    subst (λ (ks : List Key). AreLeast limits (later its) c.args.prices.now ks
    c.in-Some.least.items) keys
    (subst (λ (rest : List Order). AreLeast limits rest c.args.prices.now c.deref-2.result.now
    c.in-Some.least.items) c.later-rest.ensures given.1) in
    rw (c.deref-3.ensures.value, c.deref-4.ensures.value)
    (live-slacks its limits c.args.prices.now c.in_ok-live.live.items c.in-Some.least.items
    c.in_ok-live.ensures (limits-mill its.rules.now.largest its.rules.now.most_colours limits
    c.limits-limits.ensures.largest c.limits-limits.ensures.most)
    c.limits-limits.ensures.charges least)

pub sum_of-requires-clause-few : goal.sum_of-requires-clause-few
sum_of-requires-clause-few c =
    rw c.deref-5.ensures.value (omega (
      arith,
      c.in_ok-slacks.ensures.long,
      c.args.path.now.few,
      c.args.path.now.rules.now.setting.few,
    ))

-- the sums are worth what the prices are worth
pub returns : goal.returns
returns c =
    let its = c.args.path.now in
    let limits = c.limits-limits.result in
    let mill = mill_by its.rules.now in
    let ranked = its.rules.now.ranked.items in
    let prices = c.args.prices.now in
    let slack : ℕ → ℤ = slack_of its prices in
    let long : eqb (length its.path.now + length prices) (length ranked) ≡ true =
    eq-eqb _ _ c.requires.same in
    let given = rw c.in-Some.is at c.in_ok-found.ensures.some in
    let same_valid : valid (mill_within limits) (λ l. slice_index limits.charges.now l)
    c.later-rest.result.now prices ≡ valid mill (charge_by its.rules.now) (later its) prices =
    ap₂ (λ (m : Mill) (cs : List ℕ). valid m (λ l. slice_index cs l) c.later-rest.result.now
    prices) (limits-mill its.rules.now.largest its.rules.now.most_colours limits
    c.limits-limits.ensures.largest c.limits-limits.ensures.most)
    c.limits-limits.ensures.charges
    ∙ ap (λ r. valid mill (charge_by its.rules.now) r prices) c.later-rest.ensures in
    let v : valid mill (charge_by its.rules.now) (later its) prices ≡ true =
    sym same_valid ∙ given.0 in
    let a = c.sum_of.ensures.small in
    let b = c.sum_of-2.ensures.small in
    let fs : SFits w64 c.sum_of.result = search rules in
    let fp : SFits w64 c.sum_of-2.result = search rules in
    let f : SFits w64 (c.sum_of.result +ℤ c.sum_of-2.result) =
    fits-64 (c.sum_of.result +ℤ c.sum_of-2.result)
    (omega (arith, ints, a.0, a.1, b.0, b.1)) (omega (arith, ints, a.0, a.1, b.0, b.1)) in
    let x = simp to_z-of_z at c.exceeds.ensures in
    let s : c.sum_of.result ≡ int_total (next_new its.path.now) slack =
    c.sum_of.ensures.is ∙ ap int_sum c.deref-5.ensures.value
    ∙ slacks-sum slack c.in_ok-slacks.slacks.items (next_new its.path.now)
    c.in_ok-slacks.ensures.long c.in_ok-slacks.ensures.each in
    let w : c.sum_of.result +ℤ c.sum_of-2.result
    ≡ worth mill (charge_by its.rules.now) ranked its.path.now prices =
    ap₂ (λ s p. s +ℤ p) s c.sum_of-2.ensures.is in
    record {
      is = x ∙ ap (int_lt (pos 60 *ℤ (pos c.args.loss -ℤ pos 1))) w ∙ sym (rw (long, v) refl);
      room = subst (λ n. HasRoom n its.rules.now.most_colours c.least_slacks.new.tables)
          c.limits-limits.ensures.largest
          (subst (λ n. HasRoom limits.largest n c.least_slacks.new.tables)
          c.limits-limits.ensures.most c.in_ok-found.ensures.room);
    }
