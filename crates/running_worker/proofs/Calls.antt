-- What a pop and a try of a thief do, by what they answer.
use Rattle.std.proofs.Common.{◌≡◌, ◌≤◌, ◌⊎◌, List, [], ◌∷◌, ◌++◌, length, IfNone, IfSome, Option}
use Rattle.std.proofs.Common.{Some, None, ℕ}
use Rattle.mill_io.specs.Causes.{one_more}
use Rattle.steal_deques.specs.Deque.{DequeOwner, DequeThief, HadFew, WasEmpty}
use Rattle.running_worker.specs.Running.{Pops, Tries}

pub pops : (own : DequeOwner) (path : Option (List ℕ)) (after : DequeOwner) →
    IfSome path (λ p. after ≡ record own { popped = own.popped ++ p ∷ [] }) →
    IfSome path (λ _. length after.popped ≤ length after.pushed) → IfNone path (after ≡ own) →
    IfNone path (WasEmpty own) → Pops own path after
pops own None after popped few nothing empty = (nothing, empty)
pops own (Some path) after popped few nothing empty = (popped, few)

pub tries : (thief : DequeThief) (path : Option (List ℕ)) (after : DequeThief) →
    IfSome path (λ p. after ≡ record thief { stolen = thief.stolen ++ p ∷ [] }) →
    IfNone path ((HadFew thief × (after ≡ thief))
    ⊎ (after ≡ record thief { passed = one_more thief.passed })) → Tries thief path after
tries thief None after stolen nothing = nothing
tries thief (Some path) after stolen nothing = stolen
