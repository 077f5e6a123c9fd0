-- Bytes that went out or came in, as a front of those that there were.
use Rattle.std.specs.Prelude.{Option, Some}
use Rattle.std.proofs.Common.{◌≡◌, ◌+◌, ◌-◌, ◌≤◌, ◌<◌, ◌++◌, ◌∙◌, ℕ, min, List, [], length}
use Rattle.std.proofs.Common.{take, drop, length-append, length-drop, sym, arith}
use Rattle.std.proofs.Math.Seq.{take-add}
use Rattle.std.proofs.lemmas.List.{drop-drop, drop_all, take-append-drop, take_all}
use Rattle.std.specs.Io.KnownBytes.{Appends}
use Rattle.std.proofs.KnownBytes.{Appends-trans}
use Rattle.mill_io.specs.Bytes.{AppendsFront, AppendsToBoth, GivesCount}

-- the first bytes of the piece were written
pub front-written : (old new : Option (List ℕ)) (piece : List ℕ) (n : ℕ)
    → Appends old new (take n piece) → AppendsFront old new piece
front-written old new piece n written =
    (take n piece, drop n piece, sym (take-append-drop n piece), written)

-- the first bytes of the piece were kept
pub front-kept : (old new piece : List ℕ) (n : ℕ) → new ≡ old ++ take n piece
    → AppendsFront (Some old) (Some new) piece
front-kept old new piece n kept = front-written (Some old) (Some new) piece n kept

-- what was kept is held
pub kept-is-held : (old new bytes : List ℕ) → new ≡ old ++ bytes →
    AppendsToBoth (Some old) (Some new) (Some old) (Some new)
kept-is-held old new bytes kept = (bytes, kept, kept)

-- what is written of the rest of a piece goes on with it
pub written-goes-on : (old mid new : Option (List ℕ)) (piece : List ℕ) (at count : ℕ)
    → Appends old mid (take at piece)
    → Appends mid new (take count (take (length piece - at) (drop at piece)))
    → Appends old new (take (at + count) piece)
written-goes-on old mid new piece at count before more =
    let within : length (drop at piece) ≤ length piece - at = omega (arith, length-drop at piece) in
    let more' = rw (take_all (length piece - at) (drop at piece) within) at more in
    rw (take-add at count piece) (Appends-trans old mid new _ _ before more')

-- what a read of the bytes after a place takes, and what it leaves
pub front-given : (bytes seen left got : List ℕ) (at count room most : ℕ) → seen ≡ bytes
    → drop at bytes ≡ left → got ≡ take count (drop at seen)
    → count ≡ min (min most (length (drop at seen))) room → (0 < room → 1 ≤ most)
    → (left ≡ got ++ drop (at + count) bytes)
    × (count ≡ 0 → 0 < room → drop (at + count) bytes ≡ [])
front-given bytes seen left got at count room most same after front counted some =
    let front' : got ≡ take count (drop at bytes) = rw same at front in
    let counted' : count ≡ min (min most (length (drop at bytes))) room = rw same at counted in
    let rest : drop count (drop at bytes) ≡ drop (at + count) bytes = drop-drop count at bytes in (
      cc (take-append-drop count (drop at bytes)),
      λ none room_left.
          let positive : 1 ≤ most = some room_left in
          let gone : length (drop at bytes) ≤ count = omega arith in
          sym rest ∙ drop_all count (drop at bytes) gone,
    )

-- what was given so far, and what a read gives next
pub given-goes-on : (bytes seen given got : List ℕ) (at count : ℕ) → seen ≡ bytes
    → take at bytes ≡ given → got ≡ take count (drop at seen)
    → take (at + count) bytes ≡ given ++ got
given-goes-on bytes seen given got at count same before front =
    let front' : got ≡ take count (drop at bytes) = rw same at front in
    let seam : take (at + count) bytes ≡ take at bytes ++ take count (drop at bytes) =
    take-add at count bytes in
    cc

-- what two reads gave
pub two-reads-give : (old mid new first got : List ℕ) (count : ℕ) → mid ≡ old ++ first
    → new ≡ mid ++ got → length first + length got ≡ count → GivesCount count old new
two-reads-give old mid new first got count before more sum =
    let both = Appends-trans (Some old) (Some mid) (Some new) first got before more in
    (first ++ got, both, simp length-append sum)

-- what was taken of a piece, and what is taken next
pub taken-goes-on : (old mid new piece : List ℕ) (at count : ℕ) → mid ≡ old ++ take at piece
    → new ≡ mid ++ take (at + count - at) (drop at piece) → new ≡ old ++ take (at + count) piece
taken-goes-on old mid new piece at count before more =
    let sum : at + count - at ≡ count = omega arith in
    let more' : new ≡ mid ++ take count (drop at piece) = rw sum at more in
    rw (take-add at count piece) (Appends-trans (Some old) (Some mid) (Some new) _ _ before more')

-- what two writes append to the one they append to the other
pub two-writes-append-to-both : (old mid new was then now : Option (List ℕ)) →
    AppendsToBoth old mid was then → AppendsToBoth mid new then now →
    AppendsToBoth old new was now
two-writes-append-to-both old mid new was then now first second = (
  first.0 ++ second.0,
  Appends-trans old mid new first.0 second.0 first.1 second.1,
  Appends-trans was then now first.0 second.0 first.2 second.2,
)
