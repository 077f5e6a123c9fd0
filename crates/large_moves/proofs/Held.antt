-- What a mover holds.
use Rattle.std.proofs.Common.{ℕ, ◌<◌, ◌≤◌, ◌≡◌, Bool, List, length, get_or, arith, ltb, sym, ap}
use Rattle.std.proofs.Common.{◌∙◌, subst}
use Rattle.std.proofs.lemmas.List.Elements.{recursion_from_All}
use Rattle.mill_model.specs.Instance.{IsOrder}
use Rattle.mill_model.specs.Plan.{loss, IsLegalPlan}
use Rattle.list_laws.specs.Sets.{holds}
use Rattle.mill_model.specs.Slab.{Mill}
use Rattle.mill_model.specs.declared.order.Order.{Order}
use Rattle.index_links.specs.Lists.{AreSlabLists, plan_of}
use Rattle.large_moves.specs.Laid.{Laid, IsMover, AreLoads}
use Rattle.large_moves.specs.declared.room.Room.{Room}
use Rattle.large_moves.proofs.Betters.{plan-length, legal-load}
use Rattle.large_moves.proofs.Loads.{used-load}

module _ (held : Laid) (lists : List (List ℕ)) (loads : List ℕ) (room : Room)
    (marks : List Bool) (mover : IsMover held lists loads room marks) (s : ℕ)
    (s_in : s < length held.orders) where
  -- a slab is used where it has a load
  pub held-used : holds s held.plan ≡ ltb 0 (get_or loads s 0)
  held-used =
      used-load held.orders (recursion_from_All IsOrder held.orders mover.is_laid.each) held.plan
      (plan-length held.mill held.orders held.plan mover.is_laid.is_legal) s
      ∙ ap (ltb 0) (sym (mover.are_loads.at s s_in))

  -- no slab weighs more than the largest size
  pub held-light : get_or loads s 0 ≤ held.mill.largest
  held-light =
      let light = legal-load held.mill held.orders held.plan s mover.is_laid.is_legal s_in in
      omega (arith, light, mover.are_loads.at s s_in)

-- the same loads and marks by other names
pub mover-of : (held : Laid) (lists : List (List ℕ)) (loads new_loads : List ℕ) (room : Room)
    (marks new_marks : List Bool) → loads ≡ new_loads → marks ≡ new_marks →
    IsMover held lists new_loads room new_marks → IsMover held lists loads room marks
mover-of held lists loads new_loads room marks new_marks a b h = rw (a, b) h

-- what a mover holds after its plan changed
pub moved-held : (mill new_mill : Mill) (orders : List Order) (lists new_lists : List (List ℕ))
    (loads new_loads : List ℕ) (room new_room : Room) (marks new_marks : List Bool) →
    IsMover (record { mill = mill; orders = orders; plan = plan_of lists }) lists loads room marks →
    new_mill ≡ mill → IsLegalPlan mill orders (plan_of new_lists) → AreSlabLists new_lists →
    AreLoads orders (plan_of new_lists) new_loads →
    length new_room.places.items ≡ length room.places.items →
    length new_room.items.items ≡ length room.items.items →
    length new_marks ≡ length marks →
    IsMover (record { mill = new_mill; orders = orders; plan = plan_of new_lists }) new_lists
    new_loads new_room new_marks
moved-held mill new_mill orders lists new_lists loads new_loads room new_room marks new_marks
    held same is_legal are_lists are_loads place_room item_room mark_room =
    subst (λ m. IsMover (record { mill = m; orders = orders; plan = plan_of new_lists }) new_lists
    new_loads new_room new_marks) (sym same)
    (record {
      is_laid = record {
        sizes = held.is_laid.sizes;
        few_colours = held.is_laid.few_colours;
        few = held.is_laid.few;
        each = held.is_laid.each;
        together = held.is_laid.together;
        is_legal = is_legal;
      };
      are_lists = are_lists;
      are_loads = are_loads;
      place_room = place_room ∙ held.place_room;
      item_room = item_room ∙ held.item_room;
      mark_room = mark_room ∙ held.mark_room;
    })

-- a lesser loss of orders by another name
pub less-by : (charge : ℕ → ℕ) (orders given : List Order) (plan new : List ℕ) →
    given ≡ orders → loss charge new given < loss charge plan given →
    loss charge new orders < loss charge plan orders
less-by charge orders given plan new e h =
    subst (λ xs. loss charge new xs < loss charge plan xs) e h
