-- Keys of live groups.
use Rattle.std.specs.Prelude.{ℕ, ◌<◌, ◌≤◌, ◌≡◌, Bool, true, ◌&&◌, false, cond, eqb, List, [], ◌∷◌}
use Rattle.std.specs.Prelude.{length, map, All, slice_index, slice_index_or}
use Rattle.std.specs.List.Sorted.{IsPermutation, IsSortedByKey}
use Rattle.std.specs.Cmp.Lexicographic.{slice_cmp}
use Rattle.std.specs.Ordering.{nat_cmp, ordering_then}
use Rattle.std.specs.declared.cmp.Ordering.{Ordering}
use Rattle.list_laws.specs.Sets.{holds, times, same_list}
use Rattle.mill_model.specs.Slab.{Mill}
use Rattle.mill_model.specs.LiveKey.{has_colour}
use Rattle.mill_model.specs.declared.order.Order.{Order}
use Rattle.log_checker.specs.Groups.{Seen, nothing_seen}
use Rattle.log_checker.specs.Live.{live_of}
use Rattle.least_slacks.specs.declared.key.Key.{Key}
use Rattle.log_checker.specs.declared.keys.LiveGroup.{LiveGroup}

-- keys by the coming colours, then number of colours, then load
abbrev pub key_order : Key → Key → Ordering
key_order a b =
    ordering_then (slice_cmp nat_cmp a.coming b.coming)
    (ordering_then (nat_cmp a.colours b.colours) (nat_cmp a.load b.load))

abbrev pub key_in : LiveGroup → Key
key_in live = live.key

abbrev pub group_in : LiveGroup → ℕ
group_in live = live.group

-- eight rising numbers: those below 65535 that pass a test, each once, and 65535 behind
pub record AreComing (test : ℕ → Bool) (coming : List ℕ) : Type 0 where
  pub long : length coming ≡ 8
  pub limit : All (λ c. c ≤ 65535) coming
  pub rise : (i j : ℕ) → i ≤ j → j < 8 → slice_index coming i ≤ slice_index coming j
  pub each : (c : ℕ) → c < 65535 → times eqb c coming ≡ cond (test c) 1 0

-- whether a colour of a group comes again
abbrev pub comes_in : List Order → Seen → ℕ → Bool
comes_in rest seen c = holds c seen.colours && has_colour rest c

-- a group as the later orders see it
pub record IsKey (rest : List Order) (seen : Seen) (key : Key) : Type 0 where
  pub weighs : key.load ≡ seen.load
  pub counts : key.colours ≡ length seen.colours
  pub coming : AreComing (comes_in rest seen) key.coming

-- the live groups of a path, each with its key
pub record AreLive (mill : Mill) (rest : List Order) (groups : List Seen) (live : List LiveGroup)
    : Type 0 where
  pub numbers : map group_in live ≡ live_of mill rest groups
  pub keys : All (λ l. IsKey rest (slice_index_or groups l.group nothing_seen) l.key) live

-- the same in the order of their keys
pub record AreSorted (mill : Mill) (rest : List Order) (groups : List Seen)
    (sorted : List LiveGroup)
    : Type 0 where
  pub plain : List LiveGroup
  pub live : AreLive mill rest groups plain
  pub moved : IsPermutation plain sorted
  pub rise : IsSortedByKey key_in key_order sorted

abbrev pub same_key : Key → Key → Bool
same_key a b =
    eqb a.load b.load && eqb a.colours b.colours && same_list a.coming b.coming

-- whether two lists have the same keys, place by place
abbrev pub same_keys : List LiveGroup → List LiveGroup → Bool
same_keys [] [] = true
same_keys [] (y ∷ ys) = false
same_keys (x ∷ xs) [] = false
same_keys (x ∷ xs) (y ∷ ys) = same_key x.key y.key && same_keys xs ys
