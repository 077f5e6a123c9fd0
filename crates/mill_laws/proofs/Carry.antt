-- Dominance: a word that leads from a path to a leaf is carried to another path with the same live
-- key, and loses no more there than at the first, but for the dead groups.
--
-- Two things are done. First the numbers are renamed: a group of the path that a later order joins
-- is live, so it has a mate among the live groups of the other path, and its number becomes the
-- mate's; the new groups stay the next new ones. A mate looks the same to the later orders, so the
-- slabs stay legal. Then the renamed numbers are sorted within the classes of the later orders,
-- which leaves each slab as it is; the other path isn't touched, since its last order and the first
-- later one are in different classes.
--
-- The losses: the slabs that later orders join are charged the same, and what remains are the
-- groups that none joins. The charges of all groups of a path add up to its dead loss and the
-- charges of its live groups, and mates are charged alike. So the losses differ by the dead losses
-- alone.
use Rattle.std.proofs.Common.{ℕ, suc, ◌+◌, ◌-◌, ◌<◌, ◌≤◌, ◌≡◌, ◌≢◌, max, eqb, leb, ltb, true}
use Rattle.std.proofs.Common.{cond, List, [], ◌∷◌, ◌++◌, map, filter, length, drop, refl}
use Rattle.std.proofs.Common.{sym, ap, ◌∙◌, arith, inl, inr, subst, eq-eqb, eqb-true, ne_eqb}
use Rattle.std.proofs.Common.{le-leb, lt-ltb, le-ltb, leb-true, false-eqb, append-nil, length-drop}
use Rattle.std.proofs.Common.{le_refl}
use Rattle.std.proofs.lemmas.Bool.{cases_lt}
use Rattle.std.proofs.lemmas.List.{length-map}
use Rattle.list_laws.specs.Sets.{holds, below, total}
use Rattle.mill_model.specs.Slab.{Mill, load, colours, legal}
use Rattle.mill_model.specs.Plan.{slab, loss}
use Rattle.mill_model.specs.Rank.{starts_class_in}
use Rattle.mill_model.specs.Tree.{later_orders, next_new, in_tree}
use Rattle.mill_model.specs.LiveKey.{has_live, LiveGroup, has_colour, seen_from, same_group}
use Rattle.mill_model.specs.LiveKey.{live_groups, same_live_key, dead_loss}
use Rattle.mill_model.specs.Log.{Task}
use Rattle.mill_model.specs.declared.order.Order.{Order}
use Rattle.list_laws.proofs.Tests.{and-left, and-right, either, or-left, or-right}
use Rattle.list_laws.proofs.Sums.{total-cong}
use Rattle.mill_laws.proofs.Groups.{next_new-append, numbers-below, slab-new}
use Rattle.list_laws.proofs.Times.{same_times-all}
use Rattle.mill_model.proofs.Slabs.{load-append, legal-less, slab-append, slab-unused, colours-swap}
use Rattle.mill_model.proofs.Slabs.{joined-colours}
use Rattle.mill_laws.proofs.Canonical.{grows, slab-renamed}
use Rattle.list_laws.proofs.LastPlaces.{by_last, by_last-map}
use Rattle.list_laws.proofs.Different.{holds-map-from, holds-filter, holds-unfilter, below-holds}
use Rattle.list_laws.proofs.Different.{holds-below-lt}
use Rattle.mill_laws.proofs.Settle.{settle, settle-chosen, settle-length, settle-next_new}
use Rattle.mill_laws.proofs.Settle.{settle-grows, settle-rises, may-start, goes-from}
use Rattle.list_laws.proofs.Matching.{sum_of, AllApart, Mates, mates, look, look-key, look-in}
use Rattle.list_laws.proofs.Matching.{look-apart, filter-apart, split-live}
use Rattle.mill_laws.proofs.Mated.{same_group-refl, same_group-eq, live-from}
use Rattle.list_laws.proofs.Among.{chosen-among, map-among}
use Rattle.mill_laws.proofs.Paths.{Word, goes-grows, grows-bound, tree-fits, tree-bound}
use Rattle.list_laws.proofs.Sums.{total-beyond}
use Rattle.list_laws.proofs.LastPlaces.{split-used}
use Rattle.list_laws.proofs.Matching.{sum-keys}

-- Sums over slabs.

-- what the groups of a path lose: the dead ones and the live ones
pub groups-loss : (mill : Mill) (charge : ℕ → ℕ) (ranked : List Order) (path : List ℕ) →
    charge 0 ≡ 0 → next_new path ≤ length ranked →
    total (length ranked) (λ s. charge (load (slab s path ranked)))
    ≡ dead_loss mill charge ranked path + sum_of (λ s. charge (load (slab s path ranked)))
    (filter (has_live mill ranked path) (below (next_new path)))
groups-loss mill charge ranked path z l =
    let charged : ℕ → ℕ = λ s. charge (load (slab s path ranked)) in
    let unused : (s : ℕ) → next_new path ≤ s → charged s ≡ 0 =
    λ s k. rw (slab-new s path ranked k) z in
    total-beyond (next_new path) (length ranked) charged l unused
    ∙ split-live (has_live mill ranked path) charged (next_new path)

module _ (task : Task) (path other more : List ℕ) (word : Word task path more)
    (tree : in_tree task.mill task.ranked other ≡ true) (same_length : length other ≡ length path)
    (key : same_live_key task.mill task.ranked path other ≡ true) where
  -- The groups of both paths, the later orders, and the orders that join group g of the path.

  abbrev pub here : ℕ → List Order
  here g = slab g path task.ranked

  abbrev pub there : ℕ → List Order
  there g = slab g other task.ranked

  abbrev pub rest : List Order
  rest = later_orders task.ranked path

  abbrev pub joins : ℕ → List Order
  joins g = slab g more rest

  pub rest-same : later_orders task.ranked other ≡ rest
  rest-same = ap (λ k. drop k task.ranked) same_length

  pub long-rest : length more ≡ length rest
  long-rest = omega (arith, length-drop (length path) task.ranked, word.long)

  pub fits-here : (g : ℕ) → legal task.mill (here g ++ joins g) ≡ true
  fits-here g = rw (slab-append g path more task.ranked) at (word.fits g)

  pub fits-there : (s : ℕ) → legal task.mill (there s) ≡ true
  fits-there s = tree-fits task.mill task.ranked other tree s

  -- The live groups, as the later orders see them, and the mates.

  abbrev pub key_here : ℕ → LiveGroup
  key_here g = seen_from rest (here g)

  abbrev pub key_there : ℕ → LiveGroup
  key_there g = seen_from (later_orders task.ranked other) (there g)

  abbrev pub live_here : List ℕ
  live_here = filter (has_live task.mill task.ranked path) (below (next_new path))

  abbrev pub live_there : List ℕ
  live_there = filter (has_live task.mill task.ranked other) (below (next_new other))

  pub matched : (zs : List ℕ) × Mates key_here key_there live_here live_there zs
  matched =
      mates same_group same_group-refl same_group-eq key_here key_there live_here live_there
      (same_times-all same_group same_group-eq (live_groups task.mill task.ranked path)
      (live_groups task.mill task.ranked other)
      (and-right (eqb (length path) (length other)) _ key))

  pub mates-apart : AllApart matched.0
  mates-apart =
      matched.1.apart (filter-apart (has_live task.mill task.ranked other) (next_new other))

  -- Where a number of the word goes: to the mate of its group, or to a new group.
  abbrev pub to : ℕ → ℕ
  to g =
      cond (ltb g (next_new path)) (look live_here matched.0 g)
      (next_new other + (g - next_new path))

  pub to-old : (g : ℕ) → g < next_new path → to g ≡ look live_here matched.0 g
  to-old g l = rw (lt-ltb g (next_new path) l)

  pub to-new : (g : ℕ) → next_new path ≤ g → to g ≡ next_new other + (g - next_new path)
  to-new g l = rw (le-ltb g (next_new path) l)

  -- an old number of the word is that of a live group
  pub live-in : (g : ℕ) → holds g more ≡ true → g < next_new path → holds g live_here ≡ true
  live-in g h l =
      holds-filter (has_live task.mill task.ranked path) g (below (next_new path))
      (live-from task.mill (here g) rest g more long-rest h (fits-here g))
      (below-holds g (next_new path) l)

  pub old-key : (g : ℕ) → holds g more ≡ true → g < next_new path → key_here g ≡ key_there (to g)
  old-key g h l =
      rw (to-old g l) (look-key key_here key_there live_here matched.0 g matched.1.keys
      (live-in g h l))

  pub old-below : (g : ℕ) → holds g more ≡ true → g < next_new path → to g < next_new other
  old-below g h l =
      let mate = look live_here matched.0 g in
      let among = matched.1.among mate (look-in key_here key_there live_here matched.0 g
      matched.1.keys (live-in g h l)) in
      let group-there = holds-unfilter (has_live task.mill task.ranked other) mate
      (below (next_new other)) among in
      rw (to-old g l) (holds-below-lt mate (next_new other) group-there)

  -- different numbers of the word go to different ones
  pub to-apart : (g t : ℕ) → holds g more ≡ true → holds t more ≡ true → g ≢ t → to g ≢ to t
  to-apart g t h k n = elim (cases_lt g (next_new path)) [
    | inl a ↦ elim (cases_lt t (next_new path)) [
      | inl b ↦ rw (to-old g a, to-old t b) (look-apart key_here key_there live_here matched.0 g t
          matched.1.keys mates-apart (live-in g h a) (live-in t k b) n)
      | inr b ↦ omega (arith, old-below g h a, to-new t b)
    ]
    | inr a ↦ elim (cases_lt t (next_new path)) [
      | inl b ↦ omega (arith, old-below t k b, to-new g a)
      | inr b ↦ omega (arith, to-new g a, to-new t b)
    ]
  ]

  pub to-eqb : (g t : ℕ) → holds g more ≡ true → holds t more ≡ true → eqb (to g) (to t) ≡ eqb g t
  to-eqb g t h k = elim (either (eqb g t)) [
    | inl e ↦ rw e (eq-eqb (to g) (to t) (ap to (eqb-true g t e)))
    | inr e ↦ rw e (ne_eqb (to g) (to t) (to-apart g t h k (false-eqb g t (sym e))))
  ]

  -- The group that a number goes to looks like the group that it comes from.

  pub new-empty : (g : ℕ) → next_new path ≤ g → there (to g) ≡ []
  new-empty g l = slab-new (to g) other task.ranked (omega (arith, to-new g l))

  pub same-load : (g : ℕ) → holds g more ≡ true → load (there (to g)) ≡ load (here g)
  same-load g h = elim (cases_lt g (next_new path)) [
    | inl l ↦ sym (ap (λ k. k.load) (old-key g h l))
    | inr l ↦ rw (new-empty g l, slab-new g path task.ranked l) refl
  ]

  pub same-colours : (g : ℕ) → holds g more ≡ true →
      colours (there (to g) ++ joins g) ≤ colours (here g ++ joins g)
  same-colours g h = elim (cases_lt g (next_new path)) [
    | inl l ↦ omega (
      arith,
      colours-swap (there (to g)) (joins g),
      mated l,
      colours-swap (joins g) (here g),
    )
    | inr l ↦ rw (new-empty g l, slab-new g path task.ranked l) (le_refl _)
  ]
    where
      mated : g < next_new path → colours (joins g ++ here g) ≡ colours (joins g ++ there (to g))
      mated l =
          let key = old-key g h l in
          let coming : map (λ o. has_colour (here g) o.colour) rest
          ≡ map (λ o. has_colour (there (to g)) o.colour) rest =
          rw rest-same at (ap (λ k. k.coming) key) in
          joined-colours (here g) (there (to g)) (joins g) (ap (λ k. k.colours) key) (λ o i.
          map-among (λ o. has_colour (here g) o.colour) (λ o. has_colour (there (to g)) o.colour) o
          rest coming (chosen-among o (map (λ t. eqb g t) more) rest i))

  -- The renamed numbers: the slabs are legal, and the numbers grow.

  abbrev pub moved : List ℕ
  moved = map to more

  pub moved-slab : (g : ℕ) → holds g more ≡ true → slab (to g) moved rest ≡ joins g
  moved-slab g h = slab-renamed to g more rest (λ t k. to-eqb g t h k)

  pub moved-fits : (s : ℕ) → legal task.mill (slab s (other ++ moved) task.ranked) ≡ true
  moved-fits s =
      rw (slab-append s other moved task.ranked, rest-same) (elim (either (holds s moved)) [
        | inl h ↦ (let from = holds-map-from to s more h in used s from.0 from.1 from.2)
        | inr h ↦ rw (slab-unused s moved rest h, append-nil) (fits-there s)
      ])
    where
      used : (s g : ℕ) → holds g more ≡ true → s ≡ to g →
          legal task.mill (there s ++ slab s moved rest) ≡ true
      used s g h e =
          let lighter : load (there (to g) ++ joins g) ≤ load (here g ++ joins g) =
          omega (
            arith,
            load-append (there (to g)) (joins g),
            load-append (here g) (joins g),
            same-load g h,
          ) in
          rw (e, moved-slab g h) (legal-less task.mill (there (to g) ++ joins g) (here g ++ joins g)
          lighter (same-colours g h) (fits-here g))

  -- m - next_new path new groups stand before a part of the word
  pub moved-grows-from : (m : ℕ) (part : List ℕ) → next_new path ≤ m →
      ((g : ℕ) → holds g part ≡ true → holds g more ≡ true) → grows m part ≡ true →
      grows (next_new other + (m - next_new path)) (map to part) ≡ true
  moved-grows-from m [] b s h = refl
  moved-grows-from m (g ∷ part) b s h =
      let old-or-next : g ≤ m = leb-true g m (and-left (leb g m) _ h) in
      let in-word : holds g more ≡ true = s g (or-left (eqb g g) _ (eq-eqb g g refl)) in
      let later = moved-grows-from (max (suc g) m) part (omega arith) (λ t k.
      s t (or-right (eqb t g) _ k)) (and-right (leb g m) _ h) in
      elim (cases_lt g (next_new path)) [
        | inl l ↦ step (omega (arith, old-below g in-word l)) (omega (arith, old-below g in-word l))
            later
        | inr l ↦ step (omega (arith, to-new g l)) (omega (arith, to-new g l)) later
      ]
    where
      step : to g ≤ next_new other + (m - next_new path) →
          max (suc (to g)) (next_new other + (m - next_new path))
          ≡ next_new other + (max (suc g) m - next_new path) →
          grows (next_new other + (max (suc g) m - next_new path)) (map to part) ≡ true →
          grows (next_new other + (m - next_new path)) (to g ∷ map to part) ≡ true
      step a e k = rw (le-leb _ _ a, e) k

  pub moved-grows : grows (next_new other) moved ≡ true
  moved-grows =
      let from-start = moved-grows-from (next_new path) more (le_refl _) (λ g k. k)
      (goes-grows task.mill task.ranked path more word.goes) in
      let e : next_new other + (next_new path - next_new path) ≡ next_new other = omega arith in
      subst (λ n. grows n moved ≡ true) e from-start

  -- The carried word: the renamed numbers, sorted within the classes of the later orders.

  abbrev pub settled : List ℕ
  settled = settle (later_orders task.ranked other) moved

  pub settled-slab : (s : ℕ) →
      slab s (other ++ settled) task.ranked ≡ slab s (other ++ moved) task.ranked
  settled-slab s =
      slab-append s other settled task.ranked
      ∙ ap (λ l. there s ++ l) (settle-chosen s (later_orders task.ranked other) moved)
      ∙ sym (slab-append s other moved task.ranked)

  pub settled-fits : (s : ℕ) → legal task.mill (slab s (other ++ settled) task.ranked) ≡ true
  settled-fits s = rw (settled-slab s) (moved-fits s)

  pub moved-numbers : max (next_new other) (next_new moved) ≤ length task.ranked
  moved-numbers =
      omega (
        arith,
        grows-bound (next_new other) moved moved-grows,
        tree-bound task.mill task.ranked other tree,
        length-map more to,
        word.long,
      )

  pub settled-word : starts_class_in (length path) task.ranked ≡ true → Word task other settled
  settled-word start =
      let rest' = later_orders task.ranked other in
      let long : length settled ≡ length more = settle-length rest' moved ∙ length-map more to in
      let fresh : starts_class_in (length other) task.ranked ≡ true = rw same_length start in
      record {
        long = omega (arith, word.long);
        goes =
            goes-from task.mill task.ranked other rest' settled refl
            (omega (arith, length-drop (length other) task.ranked, word.long))
            (may-start task.ranked other settled fresh)
            (settle-grows (next_new other) rest' moved moved-grows) (settle-rises rest' moved)
            settled-fits;
        fits = settled-fits;
        numbers =
            omega (
              arith,
              next_new-append other settled,
              settle-next_new rest' moved,
              moved-numbers,
            );
      }

  -- It loses no more.

  pub whole-load : (g : ℕ) → holds g more ≡ true →
      load (slab (to g) (other ++ moved) task.ranked) ≡ load (slab g (path ++ more) task.ranked)
  whole-load g h =
      rw (
        slab-append (to g) other moved task.ranked,
        rest-same,
        moved-slab g h,
        slab-append g path more task.ranked,
      ) (omega (
        arith,
        load-append (there (to g)) (joins g),
        load-append (here g) (joins g),
        same-load g h,
      ))

  pub settled-loss : task.charge 0 ≡ 0 →
      dead_loss task.mill task.charge task.ranked other
      ≤ dead_loss task.mill task.charge task.ranked path →
      loss task.charge (other ++ settled) task.ranked ≤ loss task.charge (path ++ more) task.ranked
  settled-loss z dead =
      let n : ℕ = length task.ranked in
      -- the charges of whole slabs and of groups
      let whole : ℕ → ℕ = λ s. task.charge (load (slab s (path ++ more) task.ranked)) in
      let whole' : ℕ → ℕ = λ s. task.charge (load (slab s (other ++ moved) task.ranked)) in
      let groups : ℕ → ℕ = λ s. task.charge (load (here s)) in
      let groups' : ℕ → ℕ = λ s. task.charge (load (there s)) in
      let numbers : max (next_new path) (next_new more) ≤ n =
      rw (← next_new-append path more) word.numbers in
      -- they differ on the numbers of the word alone
      let used : total n whole + by_last groups more ≡ by_last whole more + total n groups =
      split-used n whole groups more (λ s h. ap (λ g. task.charge (load g))
      (slab-append s path more task.ranked ∙ rw (slab-unused s more rest h, append-nil) refl))
      (numbers-below n more (omega arith)) in
      let used' : total n whole' + by_last groups' moved ≡ by_last whole' moved + total n groups' =
      split-used n whole' groups' moved (λ s h. ap (λ g. task.charge (load g))
      (slab-append s other moved task.ranked
      ∙ rw (slab-unused s moved (later_orders task.ranked other) h, append-nil) refl))
      (numbers-below n moved (omega (arith, moved-numbers))) in
      -- and there they are the same for both words
      let same-whole : by_last whole' moved ≡ by_last whole more =
      by_last-map to whole whole' more to-eqb (λ g h. ap task.charge (whole-load g h)) in
      let same-groups : by_last groups' moved ≡ by_last groups more =
      by_last-map to groups groups' more to-eqb (λ g h. ap task.charge (same-load g h)) in
      -- all groups: the dead and the live ones; mates are charged alike
      let all = groups-loss task.mill task.charge task.ranked path z (omega arith) in
      let all' = groups-loss task.mill task.charge task.ranked other z
      (omega (arith, moved-numbers)) in
      let live : sum_of groups live_here ≡ sum_of groups' matched.0 =
      sum-keys key_here key_there (λ k. task.charge k.load) live_here matched.0 matched.1.keys in
      let live' : sum_of groups' matched.0 ≡ sum_of groups' live_there = matched.1.sums groups' in
      let carried : loss task.charge (other ++ settled) task.ranked ≡ total n whole' =
      total-cong n (λ s. task.charge (load (slab s (other ++ settled) task.ranked))) whole' (λ s i.
      ap (λ g. task.charge (load g)) (settled-slab s)) in
      omega (arith, all, all', dead)
