-- The numbers of a plan can be sorted within the classes of their orders, and then the tree has it.
-- Two neighbours of one class are one order, so where the later one has the smaller number, an
-- exchange leaves every slab as it is, order by order. Sorting by insertion is such exchanges. The
-- smaller number isn't new, since it is below one that isn't more than the next new one, so the
-- numbers grow as before. Numbers that grow, that rise within classes and that keep slabs legal are
-- those that a path of the tree may go on with.
use Rattle.std.proofs.Common.{ℕ, zero, suc, ◌<◌, ◌≤◌, ◌≡◌, max, eqb, leb, ltb, Bool, true, false}
use Rattle.std.proofs.Common.{cond, ◌&&◌, ◌||◌, not, List, [], ◌∷◌, ◌++◌, length, drop, refl, sym}
use Rattle.std.proofs.Common.{ap, ap₂, ◌∙◌, arith, inl, inr, eqb-true, le-leb, leb-true, ltb-true}
use Rattle.std.proofs.Common.{append_assoc, lt-ltb, length-drop}
use Rattle.std.proofs.lemmas.Bool.Decides.{nat_tests}
use Rattle.mill_model.specs.Slab.{Mill, legal}
use Rattle.mill_model.specs.Plan.{slab}
use Rattle.mill_model.specs.Rank.{same_order, starts_class_in}
use Rattle.mill_model.specs.Tree.{later_orders, next_new, last_number, goes_on}
use Rattle.mill_model.specs.declared.order.Order.{Order}
use Rattle.list_laws.proofs.Tests.{and-left, and-right, either, or-left}
use Rattle.mill_laws.proofs.Groups.{next_new-append}
use Rattle.mill_model.proofs.Slabs.{legal-front, slab-append}
use Rattle.mill_laws.proofs.Canonical.{grows}
use Rattle.list_laws.proofs.Lists.{length-push}
use Rattle.list_laws.proofs.Lists.{drop-step}

-- a number goes in ahead of sorted ones, behind the smaller ones of its class
abbrev pub put : ℕ → List Order → List ℕ → List ℕ
put a orders [] = a ∷ []
put a [] (b ∷ more) = a ∷ b ∷ more
put a (o ∷ []) (b ∷ more) = a ∷ b ∷ more
put a (o ∷ p ∷ orders) (b ∷ more) =
    cond (same_order o p && ltb b a) (b ∷ put a (p ∷ orders) more) (a ∷ b ∷ more)

-- the numbers of some orders, sorted within their classes
abbrev pub settle : List Order → List ℕ → List ℕ
settle orders [] = []
settle [] (a ∷ more) = a ∷ more
settle (o ∷ orders) (a ∷ more) = put a (o ∷ orders) (settle orders more)

-- whether the numbers rise within classes
abbrev pub rises : List Order → List ℕ → Bool
rises orders [] = true
rises orders (g ∷ []) = true
rises [] (g ∷ h ∷ more) = true
rises (o ∷ []) (g ∷ h ∷ more) = true
rises (o ∷ p ∷ orders) (g ∷ h ∷ more) =
    (not (same_order o p) || leb g h) && rises (p ∷ orders) (h ∷ more)

-- What stays as a number is put in: the slabs, how many numbers there are, the next new number, and
-- that the numbers grow.

pub same_order-eq : (o p : Order) → same_order o p ≡ true → o ≡ p
same_order-eq o p h =
    let w : o.weight ≡ p.weight = eqb-true _ _ (and-left (eqb o.weight p.weight) _ h) in
    let c : o.colour ≡ p.colour = eqb-true _ _ (and-right (eqb o.weight p.weight) _ h) in
    λ i. record { weight = w i; colour = c i }

pub put-chosen : (s a : ℕ) (orders : List Order) (more : List ℕ) →
    slab s (put a orders more) orders ≡ slab s (a ∷ more) orders
put-chosen s a orders [] = refl
put-chosen s a [] (b ∷ more) = refl
put-chosen s a (o ∷ []) (b ∷ more) = refl
put-chosen s a (o ∷ p ∷ orders) (b ∷ more) = elim (either (same_order o p && ltb b a)) [
  | inl e ↦ (let one : o ≡ p = same_order-eq o p (and-left (same_order o p) (ltb b a) e) in
      rw (e, put-chosen s a (p ∷ orders) more, one)
      (exchange (eqb s a) (eqb s b) p (slab s more orders)))
  | inr e ↦ rw e refl
]
  where
    exchange : (x y : Bool) (p : Order) (rest : List Order) →
        ◌≡◌ {A = List Order} (cond y (p ∷ cond x (p ∷ rest) rest) (cond x (p ∷ rest) rest))
        (cond x (p ∷ cond y (p ∷ rest) rest) (cond y (p ∷ rest) rest))
    exchange true true p rest = refl
    exchange true false p rest = refl
    exchange false true p rest = refl
    exchange false false p rest = refl

pub put-length : (a : ℕ) (orders : List Order) (more : List ℕ) →
    length (put a orders more) ≡ suc (length more)
put-length a orders [] = refl
put-length a [] (b ∷ more) = refl
put-length a (o ∷ []) (b ∷ more) = refl
put-length a (o ∷ p ∷ orders) (b ∷ more) = grind (arith, put-length a (p ∷ orders) more)

pub put-next_new : (a : ℕ) (orders : List Order) (more : List ℕ) →
    next_new (put a orders more) ≡ next_new (a ∷ more)
put-next_new a orders [] = refl
put-next_new a [] (b ∷ more) = refl
put-next_new a (o ∷ []) (b ∷ more) = refl
put-next_new a (o ∷ p ∷ orders) (b ∷ more) = grind (arith, put-next_new a (p ∷ orders) more)

pub put-grows : (m a : ℕ) (orders : List Order) (more : List ℕ) → grows m (a ∷ more) ≡ true →
    grows m (put a orders more) ≡ true
put-grows m a orders [] h = h
put-grows m a [] (b ∷ more) h = h
put-grows m a (o ∷ []) (b ∷ more) h = h
put-grows m a (o ∷ p ∷ orders) (b ∷ more) h = elim (either (same_order o p && ltb b a)) [
  | inl e ↦ (let less : b < a = ltb-true b a (and-right (same_order o p) (ltb b a) e) in
      let old-or-next : a ≤ m = leb-true a m (and-left (leb a m) _ h) in
      let old : max (suc b) m ≡ m = omega arith in
      let still : max (suc b) (max (suc a) m) ≡ max (suc a) m = omega arith in
      rw (e, le-leb b m (omega arith), old)
      (put-grows m a (p ∷ orders) more (grind (arith, still))))
  | inr e ↦ rw e h
]

-- The numbers rise once a number is put in among numbers that rise.

-- behind a smaller number b of its class
pub put-behind : (o p : Order) (b a : ℕ) (orders : List Order) (more : List ℕ) → b ≤ a →
    rises (p ∷ orders) (b ∷ more) ≡ true →
    rises (o ∷ p ∷ orders) (b ∷ put a (p ∷ orders) more) ≡ true
put-behind o p b a orders [] l h = grind (arith, nat_tests)
put-behind o p b a [] (c ∷ more) l h = grind (arith, nat_tests)
put-behind o p b a (q ∷ orders) (c ∷ more) l h =
    grind (arith, nat_tests, put-behind p q c a orders more)

pub put-rises : (a : ℕ) (o : Order) (orders : List Order) (more : List ℕ) →
    rises orders more ≡ true → rises (o ∷ orders) (put a (o ∷ orders) more) ≡ true
put-rises a o orders [] h = refl
put-rises a o [] (b ∷ more) h = refl
put-rises a o (p ∷ orders) (b ∷ more) h =
    grind (arith, nat_tests, put-behind o p b a orders more)

-- So for the sorted numbers.

pub settle-chosen : (s : ℕ) (orders : List Order) (more : List ℕ) →
    slab s (settle orders more) orders ≡ slab s more orders
settle-chosen s orders [] = refl
settle-chosen s [] (a ∷ more) = refl
settle-chosen s (o ∷ orders) (a ∷ more) =
    put-chosen s a (o ∷ orders) (settle orders more)
    ∙ ap (λ r. cond (eqb s a) (o ∷ r) r) (settle-chosen s orders more)

pub settle-length : (orders : List Order) (more : List ℕ) →
    length (settle orders more) ≡ length more
settle-length orders [] = refl
settle-length [] (a ∷ more) = refl
settle-length (o ∷ orders) (a ∷ more) =
    put-length a (o ∷ orders) (settle orders more) ∙ ap suc (settle-length orders more)

pub settle-next_new : (orders : List Order) (more : List ℕ) →
    next_new (settle orders more) ≡ next_new more
settle-next_new orders [] = refl
settle-next_new [] (a ∷ more) = refl
settle-next_new (o ∷ orders) (a ∷ more) =
    put-next_new a (o ∷ orders) (settle orders more)
    ∙ ap (λ r. max (suc a) r) (settle-next_new orders more)

pub settle-grows : (m : ℕ) (orders : List Order) (more : List ℕ) → grows m more ≡ true →
    grows m (settle orders more) ≡ true
settle-grows m orders [] h = refl
settle-grows m [] (a ∷ more) h = h
settle-grows m (o ∷ orders) (a ∷ more) h =
    put-grows m a (o ∷ orders) (settle orders more) (rw (and-left (leb a m) _ h)
    (settle-grows (max (suc a) m) orders more (and-right (leb a m) _ h)))

pub settle-rises : (orders : List Order) (more : List ℕ) → rises orders (settle orders more) ≡ true
settle-rises orders [] = refl
settle-rises [] (a ∷ []) = refl
settle-rises [] (a ∷ b ∷ more) = refl
settle-rises (o ∷ orders) (a ∷ more) =
    put-rises a o orders (settle orders more) (settle-rises orders more)

-- A path may go on with numbers that grow, rise within classes and keep slabs legal.

pub last_number-push : (path : List ℕ) (g : ℕ) → last_number (path ++ g ∷ []) ≡ g
last_number-push [] g = refl
last_number-push (x ∷ []) g = refl
last_number-push (x ∷ y ∷ path) g = last_number-push (y ∷ path) g

-- the next depth starts a class where the order there differs from the one before it
pub starts-step : (k : ℕ) (ranked : List Order) (o p : Order) (rest : List Order) →
    drop k ranked ≡ o ∷ p ∷ rest → starts_class_in (suc k) ranked ≡ not (same_order o p)
starts-step zero [] o p rest e = absurd (cc)
starts-step zero (x ∷ []) o p rest e = absurd (cc)
starts-step zero (x ∷ y ∷ zs) o p rest e =
    let first : x ≡ o = cc in
    let second : y ≡ p = cc in
    ap₂ (λ a b. not (same_order a b)) first second
starts-step (suc k) [] o p rest e = absurd (cc)
starts-step (suc k) (x ∷ ranked) o p rest e = starts-step k ranked o p rest e

-- the first of the numbers is no less than the path's last, within a class
abbrev pub MayStart : List Order → List ℕ → List ℕ → Type 0
MayStart ranked path [] = Unit {0}
MayStart ranked path (g ∷ more) =
    (starts_class_in (length path) ranked || leb (last_number path) g) ≡ true

pub may-start : (ranked : List Order) (path more : List ℕ) →
    starts_class_in (length path) ranked ≡ true → MayStart ranked path more
may-start ranked path [] h = tt
may-start ranked path (g ∷ more) h =
    or-left (starts_class_in (length path) ranked) (leb (last_number path) g) h

pub rises-tail : (o : Order) (rest : List Order) (g : ℕ) (more : List ℕ) →
    rises (o ∷ rest) (g ∷ more) ≡ true → rises rest more ≡ true
rises-tail o rest g [] h = refl
rises-tail o [] g (b ∷ []) h = refl
rises-tail o [] g (b ∷ c ∷ more) h = refl
rises-tail o (p ∷ rest) g (b ∷ more) h = and-right (not (same_order o p) || leb g b) _ h

module _ (mill : Mill) (ranked : List Order) where
  next-start : (path : List ℕ) (g : ℕ) (o : Order) (rest : List Order) (more : List ℕ) →
      later_orders ranked path ≡ o ∷ rest → length more ≡ length rest →
      rises (o ∷ rest) (g ∷ more) ≡ true → MayStart ranked (path ++ g ∷ []) more
  next-start path g o rest [] e l h = tt
  next-start path g o [] (b ∷ more) e l h = absurd (omega arith)
  next-start path g o (p ∷ rest) (b ∷ more) e l h =
      rw (length-push path g, last_number-push path g, starts-step (length path) ranked o p rest e)
      (and-left (not (same_order o p) || leb g b) _ h)

  pub goes-from : (path : List ℕ) (rest : List Order) (more : List ℕ) →
      later_orders ranked path ≡ rest → length more ≡ length rest → MayStart ranked path more →
      grows (next_new path) more ≡ true → rises rest more ≡ true →
      ((s : ℕ) → legal mill (slab s (path ++ more) ranked) ≡ true) →
      goes_on mill ranked path more ≡ true
  goes-from path rest [] e l start grow rise fits = refl
  goes-from path [] (g ∷ more) e l start grow rise fits = absurd (omega arith)
  goes-from path (o ∷ rest) (g ∷ more) e l start grow rise fits =
      let assoc : path ++ g ∷ more ≡ (path ++ g ∷ []) ++ more =
      sym (append_assoc path (g ∷ []) more) in
      let whole = rw (assoc, slab-append g (path ++ g ∷ []) more ranked) at (fits g) in
      let fits-here = legal-front mill (slab g (path ++ g ∷ []) ranked) _ whole in
      let old-or-next : leb g (next_new path) ≡ true = and-left (leb g (next_new path)) _ grow in
      let next : next_new (path ++ g ∷ []) ≡ max (suc g) (next_new path) =
      omega (arith, next_new-append path (g ∷ [])) in
      let rest-is : later_orders ranked (path ++ g ∷ []) ≡ rest =
      rw (length-push path g) (drop-step (length path) ranked o rest e) in
      let to-come : ltb (length path) (length ranked) ≡ true =
      lt-ltb (length path) (length ranked)
      (omega (arith, length-drop (length path) ranked, ap length e)) in
      rw (to-come, old-or-next, fits-here, start)
      (goes-from (path ++ g ∷ []) rest more rest-is (omega arith)
      (next-start path g o rest more e (omega arith) rise)
      (rw next (and-right (leb g (next_new path)) _ grow)) (rises-tail o rest g more rise)
      (λ s. rw (← assoc) (fits s)))
