-- The slacks of the groups of a path: one for the live groups of one key, and for each other group
-- what its load is charged. The key of a live group says of its colours what a knapsack over the
-- later orders asks; a group that isn't live takes no order, so its least slack is its charge.
use Rattle.std.proofs.Common.{ℕ, zero, suc, ◌+◌, ◌*◌, ◌<◌, ◌≤◌, ◌≡◌, ◌⊎◌, Bool, true, false, List}
use Rattle.std.proofs.Common.{[], ◌∷◌, map, drop, length, get_or, set, eqb, eq-eqb, eqb-true, refl}
use Rattle.std.proofs.Common.{sym, ap, ◌∙◌, subst, arith, inl, inr, All, ℤ, pos, slice_index, ◌+ℤ◌}
use Rattle.std.proofs.Common.{◌++◌, take, ◌&&◌, ◌||◌, ltb, lt-ltb, cond, zero-add, ap₂}
use Rattle.std.proofs.lemmas.Bool.Decides.{nat_tests}
use Rattle.std.proofs.Math.Seq.{take-suc}
use Rattle.std.proofs.lemmas.Int.{ints}
use Rattle.std.proofs.lemmas.List.{take_all, drop_all, drop_more, get_or-set_same, get_or-set_other}
use Rattle.std.proofs.lemmas.List.{length-map}
use Rattle.std.proofs.lemmas.List.Sorted.{All-permutation, IsPermutation-map}
use Rattle.mill_model.specs.Plan.{slab}
use Rattle.mill_model.specs.Prices.{least_slack}
use Rattle.list_laws.specs.Sets.{holds, different, below, times, int_sum, int_total}
use Rattle.mill_model.specs.Slab.{Mill}
use Rattle.mill_model.specs.LiveKey.{is_live, has_colour}
use Rattle.mill_model.specs.declared.order.Order.{Order}
use Rattle.list_laws.proofs.Tests.{either, or-left, or-right}
use Rattle.list_laws.proofs.Among.{Among, Among-filter, Among-unfilter, among-below, below-lt}
use Rattle.list_laws.proofs.Times.{times-pos, times-among}
use Rattle.set_minima.specs.Packs.{nobody, colour_at}
use Rattle.set_minima.specs.Joins.{IsSlab}
use Rattle.set_minima.proofs.Groups.{dead-least}
use Rattle.least_slacks.specs.Keys.{AreLeast, HasColours, no_key}
use Rattle.least_slacks.specs.Limits.{mill_within}
use Rattle.least_slacks.specs.declared.limits.SlabLimits.{SlabLimits}
use Rattle.log_checker.specs.ByRules.{mill_by, charge_by}
use Rattle.log_checker.specs.Groups.{Seen, nothing_seen}
use Rattle.log_checker.specs.Live.{lives, live_of}
use Rattle.log_checker.specs.Keys.{IsKey, AreSorted, group_in, key_in}
use Rattle.log_checker.specs.PathGroups.{group_of, later}
use Rattle.log_checker.specs.Slacks.{AreLiveSlacks, slack_of, no_live}
use Rattle.log_checker.specs.declared.grouped_path.GroupedPath.{GroupedPath}
use Rattle.least_slacks.specs.declared.key.Key.{Key}
use Rattle.log_checker.specs.declared.keys.LiveGroup.{LiveGroup}
use Rattle.log_checker.proofs.KeysDecide.{low-from}
use Rattle.log_checker.proofs.LegalGroups.{live-fits, seen-once}
use Rattle.log_checker.proofs.LiveGroups.{lives-is}
use Rattle.list_laws.proofs.InOrder.{times-moved}

-- the groups of the live ones in order
among-sorted : (mill : Mill) (rest : List Order) (groups : List Seen) (sorted : List LiveGroup)
    (g : ℕ) → AreSorted mill rest groups sorted →
    times eqb g (map group_in sorted) ≡ times eqb g (live_of mill rest groups)
among-sorted mill rest groups sorted g it =
    times-moved eqb g (map group_in it.plain) (map group_in sorted)
    (IsPermutation-map group_in it.plain sorted it.moved) ∙ ap (times eqb g) it.live.numbers

map-at : (live : List LiveGroup) (i : ℕ) → i < length live →
    Among (get_or live i no_live).group (map group_in live)
map-at [] i h = absurd (omega arith)
map-at (l ∷ live) zero h = inl refl
map-at (l ∷ live) (suc i) h = inr (map-at live i (omega arith))

-- each of the live groups in order is a live group
pub sorted-lives : (mill : Mill) (rest : List Order) (groups : List Seen)
    (sorted : List LiveGroup) (i : ℕ) → AreSorted mill rest groups sorted → i < length sorted →
    ((get_or sorted i no_live).group < length groups)
    × (lives mill rest (get_or groups (get_or sorted i no_live).group nothing_seen) ≡ true)
sorted-lives mill rest groups sorted i it h =
    let g = (get_or sorted i no_live).group in
    let a : 0 < times eqb g (map group_in sorted) =
    times-pos eqb (λ x. eq-eqb x x refl) g (map group_in sorted) (map-at sorted i h) in
    let b : times eqb g (map group_in sorted) ≡ times eqb g (live_of mill rest groups) =
    among-sorted mill rest groups sorted g it in
    let m : Among g (live_of mill rest groups) =
    times-among eqb eqb-true g (live_of mill rest groups) (omega arith) in
    let u = Among-unfilter (λ g. lives mill rest (get_or groups g nothing_seen)) g
    (below (length groups)) m in
    (below-lt g (length groups) u.0, u.1)

pub sorted-keys : (mill : Mill) (rest : List Order) (groups : List Seen)
    (sorted : List LiveGroup) (i : ℕ) → AreSorted mill rest groups sorted → i < length sorted →
    IsKey rest (get_or groups (get_or sorted i no_live).group nothing_seen)
    (get_or sorted i no_live).key
sorted-keys mill rest groups sorted i it h =
    All-permutation (λ l. IsKey rest (get_or groups l.group nothing_seen) l.key) it.plain sorted
    it.moved it.live.keys i no_live h

-- a colour stands in a list exactly where it stands there at least once
holds-often : (c : ℕ) (xs : List ℕ) → holds c xs ≡ ltb 0 (times eqb c xs)
holds-often c [] = refl
holds-often c (x ∷ xs) = go (eqb c x) (times eqb c xs) (holds-often c xs)
  where
    go : (b : Bool) (n : ℕ) → holds c xs ≡ ltb 0 n → (b || holds c xs) ≡ ltb 0 (cond b 1 0 + n)
    go true n h = sym (lt-ltb 0 (1 + n) (omega arith))
    go false n h = h ∙ ap (ltb 0) (sym (zero-add n))

-- of the colours that come, a key names those of its group
pub key-colours : (rest : List Order) (seen : Seen) (key : Key) →
    All (λ o. o.colour < 65535) rest → IsKey rest seen key →
    length seen.colours ≡ different seen.colours → HasColours rest key seen.colours
key-colours rest seen key low is once = record {
  once = once;
  count = sym is.counts;
  same = λ i h.
      let c = colour_at rest i in
      let there : has_colour rest c ≡ true = comes rest i h in
      let e : times eqb c key.coming ≡ cond (holds c seen.colours && has_colour rest c) 1 0 =
      is.coming.each c (low i nobody h) in
      let d : times eqb c key.coming ≡ cond (holds c seen.colours) 1 0 =
      e ∙ ap (λ b. cond b 1 0) (rw there (and-true (holds c seen.colours))) in
      sym (holds-often c key.coming ∙ ap (ltb 0) d ∙ once-or-never (holds c seen.colours));
}
  where
    and-true : (b : Bool) → (b && true) ≡ b
    and-true true = refl
    and-true false = refl

    once-or-never : (b : Bool) → ltb 0 (cond b 1 0) ≡ b
    once-or-never true = refl
    once-or-never false = refl

    comes : (rest : List Order) (i : ℕ) → i < length rest →
        has_colour rest (colour_at rest i) ≡ true
    comes [] i h = absurd (omega arith)
    comes (o ∷ rest) zero h = or-left (eqb o.colour o.colour) _ (eq-eqb o.colour o.colour refl)
    comes (o ∷ rest) (suc i) h =
        or-right (eqb (colour_at rest i) o.colour) _ (comes rest i (omega arith))

-- the key of a live group among the keys
pub key-at : (live : List LiveGroup) (i : ℕ) (d : Key) → i < length live →
    get_or (map key_in live) i d ≡ (get_or live i no_live).key
key-at [] i d h = absurd (omega arith)
key-at (l ∷ live) zero d h = refl
key-at (l ∷ live) (suc i) d h = key-at live i d (omega arith)

-- the keys of live groups are those of legal slabs
pub keys-legal : (mill : Mill) (rest : List Order) (groups : List Seen) (sorted : List LiveGroup) →
    AreSorted mill rest groups sorted →
    All (λ key. (key.load ≤ mill.largest) × (key.colours ≤ mill.most_colours))
    (map key_in sorted)
keys-legal mill rest groups sorted s i d h =
    let n : length (map key_in sorted) ≡ length sorted = length-map sorted key_in in
    let here : i < length sorted = omega arith in
    let key = (get_or sorted i no_live).key in
    let seen = get_or groups (get_or sorted i no_live).group nothing_seen in
    let l = sorted-lives mill rest groups sorted i s here in
    let is : IsKey rest seen key = sorted-keys mill rest groups sorted i s here in
    let f = live-fits mill rest seen l.1 in
    let e : get_or (map key_in sorted) i d ≡ key = key-at sorted i d here in
    subst (λ (k : Key). (k.load ≤ mill.largest) × (k.colours ≤ mill.most_colours)) (sym e)
    (omega (arith, f.0, is.weighs), omega (arith, f.1, is.counts))

-- the least slack for the key of a live group is that of the group
pub live-slacks : (its : GroupedPath) (limits : SlabLimits) (prices : List ℤ)
    (sorted : List LiveGroup) (least : List ℤ) →
    AreSorted (mill_by its.rules.now) (later its) its.groups.items sorted →
    mill_within limits ≡ mill_by its.rules.now →
    limits.charges.now ≡ its.rules.now.charges.items →
    AreLeast limits (later its) prices (map key_in sorted) least →
    AreLiveSlacks (slack_of its prices) sorted least
live-slacks its limits prices sorted least s same charged h =
    record {
      small = λ i here. h.small i (inside i here) (seen i).colours (has i here);
      each = λ i here.
          h.least i (inside i here) (seen i).colours (group i) (has i here) (slab_is i here)
          ∙ ap₂ (λ (m : Mill) (cs : List ℕ). least_slack m (λ k. slice_index cs k) (group i)
          (later its) prices) same charged;
    }
  where
    number : ℕ → ℕ
    number i = (get_or sorted i no_live).group

    seen : ℕ → Seen
    seen i = group_of its (number i)

    group : ℕ → List Order
    group i = slab (number i) its.path.now its.rules.now.ranked.items

    inside : (i : ℕ) → i < length sorted → i < length (map key_in sorted)
    inside i here =
        let n : length (map key_in sorted) ≡ length sorted = length-map sorted key_in in
        omega arith

    is_key : (i : ℕ) → i < length sorted →
        IsKey (later its) (seen i) (get_or (map key_in sorted) i no_key)
    is_key i here =
        subst (IsKey (later its) (seen i)) (sym (key-at sorted i no_key here))
        (sorted-keys (mill_by its.rules.now) (later its) its.groups.items sorted i s here)

    has : (i : ℕ) → i < length sorted →
        HasColours (later its) (get_or (map key_in sorted) i no_key) (seen i).colours
    has i here =
        key-colours (later its) (seen i) (get_or (map key_in sorted) i no_key)
        (low-from (length its.path.now) its.rules.now.ranked.items its.rules.now.setting.orders)
        (is_key i here) (seen-once (seen i) (group i) (its.grouped.seen (number i)))

    slab_is : (i : ℕ) → i < length sorted →
        IsSlab (group i) (get_or (map key_in sorted) i no_key).load (seen i).colours
    slab_is i here =
        let is = its.grouped.seen (number i) in
        record { weighs = sym is.weighs ∙ sym (is_key i here).weighs; same = is.has }

-- a group is charged what its load is, or is among the live ones in order
pub charged-first : (its : GroupedPath) (prices : List ℤ) (sorted : List LiveGroup) (slack : ℤ)
    (g : ℕ) → length prices ≡ length (later its) →
    AreSorted (mill_by its.rules.now) (later its) its.groups.items sorted →
    g < length its.groups.items →
    slack ≡ pos (60 * charge_by its.rules.now (group_of its g).load) →
    (slack ≡ slack_of its prices g) ⊎ Among g (map group_in sorted)
charged-first its prices sorted slack g same s h e = go (is_alive g) refl
  where
    is_alive : ℕ → Bool
    is_alive g = lives (mill_by its.rules.now) (later its) (group_of its g)

    alive : List ℕ
    alive = live_of (mill_by its.rules.now) (later its) its.groups.items

    go : (b : Bool) → is_alive g ≡ b →
        (slack ≡ slack_of its prices g) ⊎ Among g (map group_in sorted)
    go true l =
        let m : Among g alive = Among-filter is_alive g (below (length its.groups.items)) l
        (among-below g (length its.groups.items) h) in
        let a : 0 < times eqb g alive = times-pos eqb (λ x. eq-eqb x x refl) g alive m in
        let b : times eqb g (map group_in sorted) ≡ times eqb g alive =
        among-sorted (mill_by its.rules.now) (later its) its.groups.items sorted g s in
        inr (times-among eqb eqb-true g (map group_in sorted) (omega arith))
    go false l =
        let group : List Order = slab g its.path.now its.rules.now.ranked.items in
        let dead : is_live (mill_by its.rules.now) (later its) group ≡ false =
        sym (lives-is (mill_by its.rules.now) (later its) (group_of its g) group
        (its.grouped.seen g)) ∙ l in
        inl (e ∙ ap (λ n. pos (60 * charge_by its.rules.now n)) (its.grouped.seen g).weighs
        ∙ sym (dead-least (mill_by its.rules.now) (charge_by its.rules.now) (later its) group
        prices same dead))

-- one live group more has its slack
pub slack-of-one-more : (slack : ℕ → ℤ) (live : List LiveGroup) (old new : List ℤ) (i n h : ℕ)
    (z : ℤ) →
    i < length live → h ≡ (get_or live i no_live).group → h < n → length old ≡ n → z ≡ slack h →
    new ≡ set old h z →
    ((g : ℕ) → g < n → (get_or old g (pos 0) ≡ slack g) ⊎ Among g (map group_in (drop i live))) →
    (g : ℕ) → g < n →
    (get_or new g (pos 0) ≡ slack g) ⊎ Among g (map group_in (drop (i + 1) live))
slack-of-one-more slack live old new i n h z here at inside long is set each g l =
    elim (either (eqb g h)) [
      | inl e ↦ (let q : g ≡ h = eqb-true g h e in
          inl (ap (λ k. get_or new k (pos 0)) q ∙ ap (λ xs. get_or xs h (pos 0)) set
          ∙ get_or-set_same old h z (pos 0) (omega arith) ∙ is ∙ ap slack (sym q)))
      | inr e ↦ other e (each g l)
    ]
  where
    other : eqb g h ≡ false →
        (get_or old g (pos 0) ≡ slack g) ⊎ Among g (map group_in (drop i live)) →
        (get_or new g (pos 0) ≡ slack g) ⊎ Among g (map group_in (drop (i + 1) live))
    other e (inl q) =
        inl (ap (λ xs. get_or xs g (pos 0)) set
        ∙ get_or-set_other old h g z (pos 0) (λ k. apart k) ∙ q)
      where
        apart : g ≡ h → ⊥
        apart k = grind (arith, nat_tests)
    other e (inr m) =
        let d : drop i live ≡ get_or live i no_live ∷ drop (i + 1) live =
        drop_more live i no_live here in
        rest (rw d at m)
      where
        rest : Among g ((get_or live i no_live).group ∷ map group_in (drop (i + 1) live)) →
            (get_or new g (pos 0) ≡ slack g) ⊎ Among g (map group_in (drop (i + 1) live))
        rest (inl q) =
            let k : g ≡ h = q ∙ sym at in
            absurd (grind (arith, nat_tests))
        rest (inr m) = inr m

-- all live groups are done
pub slack-last : (slack : ℕ → ℤ) (live : List LiveGroup) (slacks : List ℤ) (i g : ℕ) →
    length live ≤ i →
    (get_or slacks g (pos 0) ≡ slack g) ⊎ Among g (map group_in (drop i live)) →
    get_or slacks g (pos 0) ≡ slack g
slack-last slack live slacks i g past (inl e) = e
slack-last slack live slacks i g past (inr m) =
    let d : drop i live ≡ [] = drop_all i live past in
    absurd (rw d at m)

-- the sum of slacks
pub slacks-sum : (slack : ℕ → ℤ) (slacks : List ℤ) (n : ℕ) → length slacks ≡ n →
    ((g : ℕ) → g < n → get_or slacks g (pos 0) ≡ slack g) → int_sum slacks ≡ int_total n slack
slacks-sum slack slacks n long each =
    ap int_sum (sym (take_all n slacks (omega (arith, long)))) ∙ go n (omega arith)
  where
    go : (m : ℕ) → m ≤ n → int_sum (take m slacks) ≡ int_total m slack
    go zero h = refl
    go (suc m) h =
        let t : take (suc m) slacks ≡ take m slacks ++ get_or slacks m (pos 0) ∷ [] =
        take-suc slacks m (pos 0) (omega (arith, long)) in
        let e : get_or slacks m (pos 0) ≡ slack m = each m (omega arith) in
        let s : int_sum (take m slacks ++ slack m ∷ []) ≡ int_sum (take m slacks) +ℤ slack m =
        sum-push (take m slacks) (slack m) in
        ap int_sum (t ∙ ap (λ z. take m slacks ++ z ∷ []) e) ∙ s
        ∙ ap (λ z. z +ℤ slack m) (go m (omega arith))
      where
        sum-push : (xs : List ℤ) (z : ℤ) → int_sum (xs ++ z ∷ []) ≡ int_sum xs +ℤ z
        sum-push [] z = omega (arith, ints)
        sum-push (x ∷ xs) z =
            let ih : int_sum (xs ++ z ∷ []) ≡ int_sum xs +ℤ z = sum-push xs z in
            omega (arith, ints, ih)
