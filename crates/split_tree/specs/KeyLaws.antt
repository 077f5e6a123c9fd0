-- The order of keys is total, and ties only what is equal.
use Rattle.std.proofs.Common.{◌≡◌, true, List, [], ◌∷◌, Ordering, Less, Equal, Greater, refl}
use Rattle.std.proofs.Common.{ap, ap₂}
use Rattle.std.proofs.lemmas.Map.Lookups.{CmpEqualImpliesEq, exact_unsigned, exact_bytes}
use Rattle.std.proofs.lemmas.Map.Views.{tells_apart}
use Rattle.std.specs.Cmp.{IsTotalOrder, IsEquivalence, on_total, then_total, eq_by_cmp_equiv}
use Rattle.std.specs.Cmp.{nat_cmp_total}
use Rattle.std.specs.Cmp.Lexicographic.{lists_total, nat_list_cmp_total, slice_cmp}
use Rattle.std.specs.Ordering.{nat_cmp, ordering_then}
use Rattle.split_tree.specs.Keys.{Key, group_order, key_order, same_key}
use Rattle.split_tree.specs.declared.live_key.KeyGroup.{KeyGroup}

pub group_total : IsTotalOrder group_order
group_total =
    then_total (on_total (λ (g : KeyGroup). g.load) nat_cmp_total)
    (then_total (on_total (λ (g : KeyGroup). g.colours) nat_cmp_total)
    (on_total (λ (g : KeyGroup). g.coming) nat_list_cmp_total))

pub key_total : IsTotalOrder key_order
key_total =
    then_total (on_total (λ (k : Key). k.depth) nat_cmp_total)
    (on_total (λ (k : Key). k.groups) (lists_total group_total))

pub key_equal : IsEquivalence same_key
key_equal = eq_by_cmp_equiv key_total

both-tie : (a b : Ordering) → ordering_then a b ≡ Equal → (a ≡ Equal) × (b ≡ Equal)
both-tie Less b e = absurd (cc)
both-tie Equal b e = (refl, e)
both-tie Greater b e = absurd (cc)

pub group-exact : CmpEqualImpliesEq group_order
group-exact a b e =
    let loads = both-tie (nat_cmp a.load b.load) _ e in
    let others = both-tie (nat_cmp a.colours b.colours) _ loads.1 in
    let l : a.load ≡ b.load = exact_unsigned a.load b.load loads.0 in
    let c : a.colours ≡ b.colours = exact_unsigned a.colours b.colours others.0 in
    let m : a.coming ≡ b.coming = exact_bytes a.coming b.coming others.1 in
    λ i. record { load = l i; colours = c i; coming = m i }

pub groups-exact : CmpEqualImpliesEq (slice_cmp group_order)
groups-exact [] [] e = refl
groups-exact [] (y ∷ ys) e = absurd (cc)
groups-exact (x ∷ xs) [] e = absurd (cc)
groups-exact (x ∷ xs) (y ∷ ys) e =
    let both = both-tie (group_order x y) _ e in
    ap₂ (λ a b. a ∷ b) (group-exact x y both.0) (groups-exact xs ys both.1)

pub key-exact : CmpEqualImpliesEq key_order
key-exact a b e =
    let both = both-tie (nat_cmp a.depth b.depth) _ e in
    let d : a.depth ≡ b.depth = exact_unsigned a.depth b.depth both.0 in
    let g : a.groups ≡ b.groups = groups-exact a.groups b.groups both.1 in
    λ i. record { depth = d i; groups = g i }

pub same-key-is-equal : (a b : Key) → same_key a b ≡ true → a ≡ b
same-key-is-equal = tells_apart key-exact

-- and so whatever is made of two such keys, as what a hasher is fed
pub same-keys-give-same : {A : Type 0} (f : Key → A) (a b : Key) → same_key a b ≡ true → f a ≡ f b
same-keys-give-same f a b e = ap f (same-key-is-equal a b e)
