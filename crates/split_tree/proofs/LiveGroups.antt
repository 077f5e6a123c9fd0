-- The live groups of a node, and the charges of the others, group by group.
use Rattle.std.proofs.Common.{ℕ, suc, ◌+◌, ◌≡◌, Bool, true, false, cond, List, [], ◌∷◌, ◌++◌}
use Rattle.std.proofs.Common.{filter, map, length, refl, ap, ap₂, ◌∙◌, arith, append-nil}
use Rattle.std.proofs.lemmas.List.{map-append}
use Rattle.std.proofs.lemmas.List.Elements.{filter-append}
use Rattle.list_laws.specs.Sets.{below, holds, total}
use Rattle.mill_model.specs.Slab.{load}
use Rattle.mill_model.specs.LiveKey.{has_colour, has_live, dead_loss}
use Rattle.mill_model.specs.Tree.{next_new}
use Rattle.mill_model.specs.declared.order.Order.{Order}
use Rattle.order_symmetry.specs.Ranked.{orders_of}
use Rattle.slab_rules.specs.OpenSlab.{OpenSlab, Carries, IsOpenSlab}
use Rattle.slab_rules.proofs.Joined.{count-of}
use Rattle.split_tree.specs.Node.{Node, group_of}
use Rattle.split_tree.specs.Keys.{key_group, live_numbers, padded}
use Rattle.split_tree.specs.declared.live_key.KeyGroup.{KeyGroup}

-- a slab's load and colours are those of the orders that it carries
pub key-carried : (slab : OpenSlab) (orders : List Order) (coming among : List ℕ) →
    IsOpenSlab slab → Carries slab orders →
    among ≡ padded (filter (λ c. holds c slab.colours) coming) →
    ◌≡◌ {A = KeyGroup}
    (record { load = slab.load; colours = length slab.colours; coming = among })
    (key_group coming orders)
key-carried slab orders coming among is carries e =
    let weight : slab.load ≡ load orders = carries.weight in
    let count = count-of slab orders is.once carries in
    let same : among ≡ padded (filter (has_colour orders) coming) =
    e ∙ ap padded (alike coming) in
    λ i. record { load = weight i; colours = count i; coming = same i }
  where
    alike : (cs : List ℕ) →
        filter (λ c. holds c slab.colours) cs ≡ filter (has_colour orders) cs
    alike [] = refl
    alike (c ∷ cs) = ap₂ (λ b l. cond b (c ∷ l) l) (carries.each c) (alike cs)

module _ (node : Node) where
  abbrev pub lives : ℕ → Bool
  lives g = has_live node.ranked.mill (orders_of node.ranked) node.path g

  -- the keys of the live ones of the first groups
  pub keys_below : List ℕ → ℕ → List KeyGroup
  keys_below coming n =
      map (λ g. key_group coming (group_of node g)) (filter lives (below n))

  pub keys_below-none : (coming : List ℕ) → [] ≡ keys_below coming 0
  unfolding keys_below
  keys_below-none coming = refl

  pub keys_below-all : (coming : List ℕ) (n : ℕ) → n ≡ next_new node.path →
      keys_below coming n
      ≡ map (λ g. key_group coming (group_of node g)) (live_numbers node)
  unfolding keys_below
  keys_below-all coming n e = rw e refl

  keys_below-more : (coming : List ℕ) (g : ℕ) → keys_below coming (g + 1)
      ≡ keys_below coming g ++ cond (lives g) (key_group coming (group_of node g) ∷ []) []
  unfolding keys_below
  keys_below-more coming g =
      let next : g + 1 ≡ suc g = omega arith in
      rw next (ap (map (λ g. key_group coming (group_of node g)))
      (filter-append lives (below g) (g ∷ []))
      ∙ map-append (λ g. key_group coming (group_of node g)) (filter lives (below g))
      (cond (lives g) (g ∷ []) []) ∙ ap (λ l. keys_below coming g ++ l) (one (lives g)))
    where
      one : (b : Bool) → map (λ g. key_group coming (group_of node g)) (cond b (g ∷ []) [])
          ≡ cond b (key_group coming (group_of node g) ∷ []) []
      one true = refl
      one false = refl

  pub keys_below-live : (coming : List ℕ) (g : ℕ) → lives g ≡ true →
      keys_below coming (g + 1) ≡ keys_below coming g ++ key_group coming (group_of node g) ∷ []
  keys_below-live coming g e =
      keys_below-more coming g
      ∙ ap (λ b. keys_below coming g ++ cond b (key_group coming (group_of node g) ∷ []) []) e

  pub keys_below-dead : (coming : List ℕ) (g : ℕ) → lives g ≡ false →
      keys_below coming (g + 1) ≡ keys_below coming g
  keys_below-dead coming g e =
      keys_below-more coming g
      ∙ ap (λ b. keys_below coming g ++ cond b (key_group coming (group_of node g) ∷ []) []) e
      ∙ append-nil (keys_below coming g)

  -- what the dead ones of the first groups are charged
  pub dead_below : (ℕ → ℕ) → ℕ → ℕ
  dead_below charge n = total n (λ g. cond (lives g) 0 (charge (load (group_of node g))))

  pub dead_below-none : (charge : ℕ → ℕ) → 0 ≡ dead_below charge 0
  unfolding dead_below
  dead_below-none charge = refl

  pub dead_below-all : (charge : ℕ → ℕ) (n : ℕ) → n ≡ next_new node.path → dead_below charge n
      ≡ dead_loss node.ranked.mill charge (orders_of node.ranked) node.path
  unfolding dead_below
  dead_below-all charge n e = rw e refl

  pub dead_below-live : (charge : ℕ → ℕ) (g : ℕ) → lives g ≡ true →
      dead_below charge (g + 1) ≡ dead_below charge g
  unfolding dead_below
  dead_below-live charge g e =
      let next : g + 1 ≡ suc g = omega arith in rw (next, e) (omega arith)

  pub dead_below-dead : (charge : ℕ → ℕ) (g : ℕ) → lives g ≡ false →
      dead_below charge (g + 1) ≡ dead_below charge g + charge (load (group_of node g))
  unfolding dead_below
  dead_below-dead charge g e =
      let next : g + 1 ≡ suc g = omega arith in rw (next, e) refl
