-- The thieves of each worker, as lists, and how one of these lists changes.
use Rattle.std.proofs.Common.{◌≡◌, ℕ, ◌<◌, List, [], ◌∷◌, ◌++◌, length, set, get_or, sym, ap}
use Rattle.std.proofs.Common.{◌∙◌, arith, get_or-set_same}
use Rattle.std.proofs.lemmas.List.{get_or-map, length-map, map-set}
use Rattle.std.specs.declared.alloc.Global.{Global}
use Rattle.std.specs.declared.vec.Vec.{Vec}
use Rattle.steal_deques.specs.Deque.{DequeThief}
use Rattle.steal_workers.specs.Deques.{thieves_in, thieves_of}

abbrev Thieves : Type 0
Thieves = Vec DequeThief Global

pub thieves-set : (vs : List Thieves) (i : ℕ) (v : Thieves) →
    thieves_in (set vs i v) ≡ set (thieves_in vs) i v.items
thieves-set vs i v = map-set (λ (w : Thieves). w.items) vs i v

pub thieves-are : (vs : List Thieves) (i : ℕ) (v : Thieves) → i < length vs → v ≡ get_or vs i v →
    thieves_of (thieves_in vs) i ≡ v.items
thieves-are vs i v l e =
    get_or-map (λ (w : Thieves). w.items) vs i v [] l ∙ ap (λ (w : Thieves). w.items) (sym e)

pub thieves-length : (vs : List Thieves) → length (thieves_in vs) ≡ length vs
thieves-length vs = length-map vs (λ (w : Thieves). w.items)

-- a thief is put last into one of the lists
pub given-to : (vs : List Thieves) (i : ℕ) (v w : Thieves) (thief : DequeThief) → i < length vs →
    v ≡ get_or vs i v → w.items ≡ v.items ++ thief ∷ [] →
    thieves_in (set vs i w) ≡ set (thieves_in vs) i (thieves_of (thieves_in vs) i ++ thief ∷ [])
given-to vs i v w thief l e pushed =
    thieves-set vs i w
    ∙ ap (set (thieves_in vs) i) (pushed ∙ ap (λ h. h ++ thief ∷ []) (sym (thieves-are vs i v l e)))

-- the last one is taken out of one of the lists
pub taken-from : (vs : List Thieves) (i : ℕ) (v w : Thieves) (thief : DequeThief) →
    i < length vs → v ≡ get_or vs i v → v.items ≡ w.items ++ thief ∷ [] →
    (thieves_of (thieves_in vs) i ≡ thieves_of (thieves_in (set vs i w)) i ++ thief ∷ [])
    × (thieves_in (set vs i w)
    ≡ set (thieves_in vs) i (thieves_of (thieves_in (set vs i w)) i))
taken-from vs i v w thief l e popped =
    let new : thieves_of (thieves_in (set vs i w)) i ≡ w.items =
    ap (λ h. thieves_of h i) (thieves-set vs i w)
    ∙ get_or-set_same (thieves_in vs) i w.items [] (omega (arith, l, thieves-length vs)) in (
      thieves-are vs i v l e ∙ popped ∙ ap (λ h. h ++ thief ∷ []) (sym new),
      thieves-set vs i w ∙ ap (set (thieves_in vs) i) (sym new),
    )
