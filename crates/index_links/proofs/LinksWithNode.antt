-- The links once a new node was put behind another or first under its parent: they make the forest
-- with that node.
use Rattle.std.proofs.Common.{ℕ, zero, suc, ◌+◌, ◌<◌, ◌≤◌, ◌^◌, ◌-◌, ◌≡◌, ◌≢◌, Bool, true, false}
use Rattle.std.proofs.Common.{List, [], ◌∷◌, ◌++◌, length, eqb, Option, Some, None, refl, sym, ap}
use Rattle.std.proofs.Common.{◌∙◌, arith, subst, inl, inr, eq-eqb, eqb-true, ne_eqb, false-eqb}
use Rattle.std.proofs.Common.{cond, ap₂, get_or, set, IfSome, not}
use Rattle.std.specs.Option.{is_some as named}
use Rattle.std.proofs.lemmas.List.{get_or_append_left, get_or_push, length_push}
use Rattle.list_laws.specs.Sets.{holds}
use Rattle.list_laws.proofs.Different.{holds-append}
use Rattle.list_laws.proofs.Tests.{or-left}
use Rattle.index_links.specs.Lists.{Apart}
use Rattle.index_links.specs.Links.{is_none, is_some, last_or, look, set_at}
use Rattle.index_links.specs.Forest.{Forest, IsForest, IsFreeUnder, IsThere, nodes_before}
use Rattle.index_links.specs.Forest.{nodes_behind, nodes_of, nodes_under, nodes_with, parent_of}
use Rattle.index_links.specs.Forest.{with_node}
use Rattle.index_links.specs.Nodes.{AreLinksOf, Leads, behind, first_set, first_under, forest_of}
use Rattle.index_links.specs.Nodes.{last_of, oldest}
use Rattle.index_links.proofs.LinkedLists.{begin, last-holds}
use Rattle.index_links.proofs.Moved.{length-set_at, look-set, look-set_at}
use Rattle.index_links.proofs.Relinked.{is_some-no, is_some-yes}
use Rattle.index_links.proofs.Inserted.{led, leads-stay, leads-with}
use Rattle.index_links.proofs.WithNode.{count-with, labels-with, parents-with, parts}
use Rattle.index_links.proofs.ForestLinks.{forest-is}
use Rattle.index_links.proofs.KeepsForest.{forest-with, members, stands}
use Rattle.index_links.proofs.Walked.{last-push}

pub last-in : (xs : List ℕ) (z : ℕ) → last_of xs ≡ Some z → holds z xs ≡ true
last-in [] z e = absurd (cc)
last-in (x ∷ xs) z e = last-holds None x xs z e

last-some : (x : ℕ) (xs : List ℕ) → last_or (Some x) xs ≢ None
last-some x [] e = absurd (cc)
last-some x (y ∷ xs) e = last-some y xs e

-- the table of first children, at a node

first-length : (firsts : List (Option ℕ)) (parent before : Option ℕ) (node : ℕ) →
    length (first_set parent before node firsts) ≡ length firsts
first-length firsts parent None node = length-set_at parent (Some node) firsts
first-length firsts parent (Some b) node = refl

first-other : (firsts : List (Option ℕ)) (parent before : Option ℕ) (node q : ℕ) →
    IfSome parent (λ p. p < length firsts) → Some q ≢ parent →
    look (first_set parent before node firsts) q ≡ look firsts q
first-other firsts None None node q low ne = refl
first-other firsts (Some p) None node q low ne =
    look-set firsts p (Some node) q low
    ∙ ap (λ b. cond b (Some node) (look firsts q)) (ne_eqb q p (λ e. ne (ap Some e)))
first-other firsts parent (Some b) node q low ne = refl

-- what stands first once a node was put behind some, or first

oldest-suc : (n : ℕ) → oldest (n + 1) ≡ Some 0
oldest-suc n = subst (λ m. oldest m ≡ Some 0) (let e : suc n ≡ n + 1 = omega arith in e) refl

oldest-some : (n : ℕ) → 0 < n → oldest n ≡ Some 0
oldest-some zero l = absurd (omega arith)
oldest-some (suc n) l = refl

oldest-none : (n : ℕ) → oldest n ≡ None → n ≡ 0
oldest-none zero e = refl
oldest-none (suc n) e = absurd (cc)

module _ (firsts nexts : List (Option ℕ)) (last : Option ℕ) (f : Forest)
    (is : AreLinksOf firsts nexts last f) (parent : Option ℕ) (label : ℕ)
    (there : IsThere f parent) (free : IsFreeUnder f parent label) (before : Option ℕ)
    (before_is : before ≡ last_of (nodes_before f parent label))
    (firsts' nexts' : List (Option ℕ))
    (firsts_are : firsts' ≡ first_set parent before (nodes_of f) firsts ++ None ∷ [])
    (nexts_are : nexts' ≡ set_at before (Some (nodes_of f)) nexts
    ++ behind firsts nexts parent before ∷ []) where
  abbrev n : ℕ
  n = nodes_of f

  abbrev more : Forest
  more = with_node f parent label

  abbrev xs : List ℕ
  xs = nodes_before f parent label

  abbrev ys : List ℕ
  ys = nodes_behind f parent label

  before-in : (z : ℕ) → before ≡ Some z → (z < n) × (parent_of f z ≡ parent)
  before-in z e =
      members f is.forest parent label there free z
      (holds-append z xs ys ∙ or-left (holds z xs) (holds z ys) (last-in xs z (sym before_is ∙ e)))

  before-low : (z : ℕ) → before ≡ Some z → z < length nexts
  before-low z e = omega (arith, (before-in z e).0, is.nexts_count)

  next-old : (z : ℕ) → z < n → look nexts' z ≡ cond (is_some before z) (Some n) (look nexts z)
  next-old z l =
      ap (λ table. look table z) nexts_are
      ∙ get_or_append_left (set_at before (Some n) nexts)
      (behind firsts nexts parent before ∷ []) None z
      (omega (arith, l, length-set_at before (Some n) nexts, is.nexts_count))
      ∙ look-set_at before (Some n) nexts z before-low

  next-same : (z : ℕ) → z < n → before ≢ Some z → look nexts' z ≡ look nexts z
  next-same z l ne =
      next-old z l ∙ ap (λ b. cond b (Some n) (look nexts z)) (is_some-no before z ne)

  next-last : (z : ℕ) → before ≡ Some z → look nexts' z ≡ Some n
  next-last z e =
      next-old z (before-in z e).0
      ∙ ap (λ b. cond b (Some n) (look nexts z)) (is_some-yes before z e)

  next-new : look nexts' n ≡ behind firsts nexts parent before
  next-new =
      ap (λ table. look table n) nexts_are
      ∙ get_or_push (set_at before (Some n) nexts) (behind firsts nexts parent before) None n
      (length-set_at before (Some n) nexts ∙ is.nexts_count)

  first-old : (q : ℕ) → q < n →
      look firsts' q ≡ look (first_set parent before n firsts) q
  first-old q l =
      ap (λ table. look table q) firsts_are
      ∙ get_or_append_left (first_set parent before n firsts) (None ∷ []) None q
      (omega (arith, l, first-length firsts parent before n, is.firsts_count))

  first-new : look firsts' n ≡ None
  first-new =
      ap (λ table. look table n) firsts_are
      ∙ get_or_push (first_set parent before n firsts) None None n
      (first-length firsts parent before n ∙ is.firsts_count)

  led-is : (p b : Option ℕ) → parent ≡ p → before ≡ b →
      behind firsts nexts p b ≡ led nexts (first_under firsts n p) b
  led-is None None e k =
      let none : f.roots ≡ [] = no-roots (nodes_before f None label) refl
      (sym (subst (λ o. before ≡ last_of (nodes_before f o label)) e before_is) ∙ k) in
      sym (subst (Leads nexts (oldest n)) none (is.lead None tt))
    where
      no-roots : (zs : List ℕ) → f.roots ≡ zs → last_of zs ≡ None → f.roots ≡ []
      no-roots [] same e = same
      no-roots (z ∷ zs) same e = absurd (last-some z zs e)
  led-is None (Some b) e k = refl
  led-is (Some p) None e k = refl
  led-is (Some p) (Some b) e k = refl

  -- what now stands first under the parent
  first-parent : (o : Option ℕ) (zs : List ℕ) → parent ≡ o → xs ≡ zs → before ≡ last_of zs →
      Leads nexts (first_under firsts n o) (zs ++ ys) →
      first_under firsts' (n + 1) o ≡ begin zs (Some n) (first_under firsts n o)
  first-parent None [] e z b c =
      let none : f.roots ≡ [] = subst (λ o. nodes_before f o label ≡ []) e z in
      let empty : n ≡ 0 = oldest-none n (subst (Leads nexts (oldest n)) none (is.lead None tt)) in
      oldest-suc n ∙ ap Some (sym empty)
  first-parent None (x ∷ zs) e z b c = oldest-suc n ∙ sym (at-first n c.0) ∙ refl
    where
      at-first : (m : ℕ) → oldest m ≡ Some x → oldest m ≡ Some 0
      at-first zero k = absurd (cc)
      at-first (suc m) k = refl
  first-parent (Some p) [] e z b c =
      let low : p < n = subst (IsThere f) e there in
      first-old p low
      ∙ ap₂ (λ o m. look (first_set o m n firsts) p) e b
      ∙ look-set firsts p (Some n) p (omega (arith, low, is.firsts_count))
      ∙ ap (λ t. cond t (Some n) (look firsts p)) (eq-eqb p p refl)
  first-parent (Some p) (x ∷ zs) e z b c =
      let low : p < n = subst (IsThere f) e there in
      first-old p low ∙ kept (last_of (x ∷ zs)) (last-some x zs) b
    where
      kept : (m : Option ℕ) → m ≢ None → before ≡ m →
          look (first_set parent before n firsts) p ≡ look firsts p
      kept None ne k = absurd (ne refl)
      kept (Some w) ne k = ap (λ m. look (first_set parent m n firsts) p) k ∙ whole parent
        where
          whole : (o : Option ℕ) → look (first_set o (Some w) n firsts) p ≡ look firsts p
          whole None = refl
          whole (Some q) = refl

  first-others : (o : Option ℕ) → IsThere f o → o ≢ parent →
      first_under firsts' (n + 1) o ≡ first_under firsts n o
  first-others None low ne = oldest-suc n ∙ sym (oldest-some n (some parent there ne))
    where
      some : (o : Option ℕ) → IsThere f o → None ≢ o → 0 < n
      some None t ne = absurd (ne refl)
      some (Some p) t ne = omega (arith, t)
  first-others (Some q) low ne =
      first-old q low
      ∙ first-other firsts parent before n q (counted parent there) ne
    where
      counted : (o : Option ℕ) → IsThere f o → IfSome o (λ p. p < length firsts)
      counted None t = tt
      counted (Some p) t = omega (arith, t, is.firsts_count)

  lead-more : (o : Option ℕ) → IsThere more o →
      Leads nexts' (first_under firsts' (n + 1) o) (nodes_under more o)
  lead-more o l = elim (stands f is.forest parent label there free o l) [
    | inl s ↦ (
        let c = subst (Leads nexts (first_under firsts n parent)) (sym (parts f parent label))
        (is.lead parent there) in
        subst (λ p. Leads nexts' (first_under firsts' (n + 1) p) (nodes_under more o)) (sym s.0)
        (subst (Leads nexts' (first_under firsts' (n + 1) parent)) (sym s.1)
        (subst (λ at. Leads nexts' at (xs ++ n ∷ ys))
        (sym (first-parent parent xs refl refl before_is c))
        (leads-with nexts nexts' n (first_under firsts n parent) xs ys
        (subst Apart (sym (parts f parent label)) (is.forest.once parent there))
        (λ z h ne. next-same z (members f is.forest parent label there free z h).0
        (λ e. ne (sym before_is ∙ e)))
        (λ z e. next-last z (before_is ∙ e))
        (next-new ∙ led-is parent before refl refl
        ∙ ap (led nexts (first_under firsts n parent)) before_is)
        c))))
    | inr r ↦ elim r [
      | inl s ↦ subst (Leads nexts' (first_under firsts' (n + 1) o)) (sym s.2)
          (subst (λ at. Leads nexts' at (nodes_under f o)) (sym (first-others o s.1 s.0))
          (leads-stay nexts nexts' (first_under firsts n o) (nodes_under f o)
          (λ z h. let m = is.forest.under z o s.1 h in
          next-same z m.0 (λ e. s.0 (sym m.1 ∙ (before-in z e).1))) (is.lead o s.1)))
      | inr s ↦ subst (Leads nexts' (first_under firsts' (n + 1) o)) (sym s.1)
          (subst (λ p. first_under firsts' (n + 1) p ≡ None) (sym s.0) first-new)
    ]
  ]

  last-more : (o : Option ℕ) → parent ≡ o →
      cond (is_none o) (Some n) last ≡ last_of (with_node f o label).roots
  last-more None e = sym (last-push None f.roots n)
  last-more (Some p) e = is.last_is

  -- the links make the forest with the new node
  pub links-with : n < 2 ^ 32 - 1 →
      AreLinksOf firsts' nexts' (cond (is_none parent) (Some n) last) more
  links-with few = record {
    forest = forest-with f is.forest parent label there free few;
    firsts_count = ap length firsts_are
        ∙ length_push (first_set parent before n firsts) None
        ∙ omega (arith, first-length firsts parent before n, is.firsts_count, count);
    nexts_count = ap length nexts_are
        ∙ length_push (set_at before (Some n) nexts) (behind firsts nexts parent before)
        ∙ omega (arith, length-set_at before (Some n) nexts, is.nexts_count, count);
    last_is = last-more parent refl;
    lead = λ o l. subst (λ m. Leads nexts' (first_under firsts' m o) (nodes_under more o))
        (sym count) (lead-more o l);
  }
    where
      count : nodes_of more ≡ n + 1
      count = count-with f is.forest parent label

-- Whether the new node is a root, as the code asks for it.

pub root-is : (o : Option ℕ) (b : Bool) (x y : Option ℕ) → named o ≡ not b → b ≡ true →
    cond (is_none o) x y ≡ x
root-is None b x y e h = refl
root-is (Some p) b x y e h = absurd (let z : true ≡ false = e ∙ ap not h in cc)

pub child-is : (o : Option ℕ) (b : Bool) (x y : Option ℕ) → named o ≡ not b → b ≡ false →
    cond (is_none o) x y ≡ y
child-is None b x y e h = absurd (let z : false ≡ true = e ∙ ap not h in cc)
child-is (Some p) b x y e h = refl

-- What `add` makes of the tables.
module _ (f : Forest) (labels : List ℕ) (parents firsts nexts : List (Option ℕ))
    (last : Option ℕ) (view : forest_of labels parents firsts nexts ≡ f)
    (is : AreLinksOf firsts nexts last (forest_of labels parents firsts nexts))
    (parent : Option ℕ) (label : ℕ) (there : IsThere f parent)
    (free : IsFreeUnder f parent label) (before : Option ℕ)
    (before_is : before ≡ last_of (nodes_before f parent label)) where
  is-linked : AreLinksOf firsts nexts last f
  is-linked = subst (AreLinksOf firsts nexts last) view is

  -- what stands before is a node, and the parent too
  pub before-within : IfSome before (λ x. x < length nexts)
  before-within = go before refl
    where
      go : (o : Option ℕ) → before ≡ o → IfSome o (λ x. x < length nexts)
      go None e = tt
      go (Some x) e =
          let low = (members f is-linked.forest parent label there free x
          (holds-append x (nodes_before f parent label) (nodes_behind f parent label)
          ∙ or-left _ (holds x (nodes_behind f parent label))
          (last-in (nodes_before f parent label) x (sym before_is ∙ e)))).0 in
          omega (arith, low, is-linked.nexts_count)

  pub parent-within : IfSome parent (λ p. p < length firsts)
  parent-within = go parent there
    where
      go : (o : Option ℕ) → IsThere f o → IfSome o (λ p. p < length firsts)
      go None l = tt
      go (Some p) l = omega (arith, l, is-linked.firsts_count)

  pub few-within : nodes_of f < 2 ^ 32 - 1 → length nexts < 2 ^ 32
  few-within few = omega (arith, few, is-linked.nexts_count)

  module _ (few : nodes_of f < 2 ^ 32 - 1) (node : ℕ) (node_is : node ≡ length nexts)
      (labels' : List ℕ) (parents' firsts' nexts' : List (Option ℕ))
      (labels_are : labels' ≡ labels ++ label ∷ [])
      (parents_are : parents' ≡ parents ++ parent ∷ [])
      (firsts_are : firsts' ≡ first_set parent before node firsts ++ None ∷ [])
      (nexts_are : nexts' ≡ set_at before (Some node) nexts
      ++ behind firsts nexts parent before ∷ []) where
    pub number-is : node ≡ nodes_of f
    number-is = node_is ∙ is-linked.nexts_count

    links : AreLinksOf firsts' nexts' (cond (is_none parent) (Some (nodes_of f)) last)
        (with_node f parent label)
    links =
        links-with firsts nexts last f is-linked parent label there free before before_is
        firsts' nexts'
        (firsts_are ∙ ap (λ k. first_set parent before k firsts ++ None ∷ []) number-is)
        (nexts_are ∙ ap (λ k. set_at before (Some k) nexts
        ++ behind firsts nexts parent before ∷ []) number-is) few

    -- the tables make the forest with the new node
    pub added : forest_of labels' parents' firsts' nexts' ≡ with_node f parent label
    added =
        ap₂ (λ ls ps. forest_of ls ps firsts' nexts')
        (labels_are ∙ ap (λ (g : Forest). g.labels ++ label ∷ []) view
        ∙ sym (labels-with f parent label))
        (parents_are ∙ ap (λ (g : Forest). g.parents ++ parent ∷ []) view
        ∙ sym (parents-with f parent label))
        ∙ forest-is firsts' nexts' (cond (is_none parent) (Some (nodes_of f)) last)
        (with_node f parent label) links

    pub added-forest : IsForest (forest_of labels' parents' firsts' nexts')
    added-forest = subst IsForest (sym added) links.forest

    pub added-links : (last' : Option ℕ) → cond (is_none parent) (Some node) last ≡ last' →
        AreLinksOf firsts' nexts' last' (forest_of labels' parents' firsts' nexts')
    added-links last' e =
        subst (λ o. AreLinksOf firsts' nexts' o (forest_of labels' parents' firsts' nexts'))
        (ap (λ k. cond (is_none parent) (Some k) last) (sym number-is) ∙ e)
        (subst (AreLinksOf firsts' nexts' (cond (is_none parent) (Some (nodes_of f)) last))
        (sym added) links)
