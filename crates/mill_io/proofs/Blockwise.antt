-- Texts that are put through a block, one behind the other.
use Rattle.std.proofs.Common.{◌≡◌, ◌+◌, ◌*◌, ◌++◌, ◌∙◌, ℕ, List, [], length, length-append, sym, ap}
use Rattle.std.proofs.Common.{◌≤◌, take, drop, ap₂, take-append-drop}
use Rattle.std.proofs.lemmas.List.{drop_all}
use Rattle.std.proofs.Common.{Result, Ok, Err, Option, IsErr, OnOk, OnErr, refl, arith}
use Rattle.std.proofs.Common.{append_assoc, append-nil}
use Rattle.std.proofs.lemmas.Bool.{false≢true}
use Rattle.std.proofs.lemmas.Slice.{take-put_mid, drop-put_mid}
use borrow.Rule.Slice.PartMut.{put_mid}
use Rattle.std.specs.Io.KnownBytes.{Appends}
use Rattle.std.proofs.KnownBytes.{Appends-nil, Appends-trans}
use Rattle.mill_io.specs.declared.block.TheConstants.{BLOCK}
use Rattle.mill_io.specs.Bytes.{AppendsFront, AppendsToBoth}
use Rattle.mill_io.specs.Blockwise.{AreBlocks, GoesOut, PutsText}
use Rattle.mill_io.specs.Causes.{HasCause}
use Rattle.mill_io.proofs.Fronts.{two-writes-append-to-both}

-- blocks behind blocks are blocks
blocks-behind : (front more : List ℕ) → AreBlocks front → AreBlocks more → AreBlocks (front ++ more)
blocks-behind front more f m =
    (f.0 + m.0, simp length-append (omega (arith, f.1, m.1)))

-- of what a block held and a text behind it, some went out; what is put in behind the rest stands
-- behind all that
behind-the-rest : (before after text out more : List ℕ) → before ++ text ≡ out ++ after
    → before ++ (text ++ more) ≡ out ++ (after ++ more)
behind-the-rest before after text out more e =
    sym (append_assoc before text more) ∙ ap (λ l. l ++ more) e ∙ append_assoc out after more

goes-on : (s t u : Option (List ℕ)) (b c d p q : List ℕ) → GoesOut s t b c p → GoesOut t u c d q
    → GoesOut s u b d (p ++ q)
goes-on s t u b c d p q first second = record {
  out = first.out ++ second.out;
  written = Appends-trans s t u first.out second.out first.written second.written;
  blocks = blocks-behind first.out second.out first.blocks second.blocks;
  rest =
      behind-the-rest b c p first.out q first.rest ∙ ap (λ l. first.out ++ l) second.rest
      ∙ sym (append_assoc first.out second.out d);
}

front-behind : (s t u : Option (List ℕ)) (b c p q : List ℕ) → GoesOut s t b c p
    → AppendsFront t u (c ++ q) → AppendsFront s u (b ++ (p ++ q))
front-behind s t u b c p q first second = (
  first.out ++ second.0,
  second.1,
  behind-the-rest b c p first.out q first.rest ∙ ap (λ l. first.out ++ l) second.2
      ∙ sym (append_assoc first.out second.0 second.1),
  Appends-trans s t u first.out second.0 first.written second.3,
)

longer-front : (s t : Option (List ℕ)) (b p more : List ℕ) → AppendsFront s t (b ++ p)
    → AppendsFront s t (b ++ (p ++ more))
longer-front s t b p more h = (
  h.0,
  h.1 ++ more,
  sym (append_assoc b p more) ∙ ap (λ l. l ++ more) h.2 ∙ append_assoc h.0 h.1 more,
  h.3,
)

-- a piece was copied behind what a block holds
pub held-and-piece : (filled room end : ℕ) (bytes before copied piece : List ℕ)
    → filled ≤ length bytes → take filled bytes ≡ before → copied ≡ piece
    → end ≡ filled + length piece → take end (put_mid filled room bytes copied) ≡ before ++ piece
held-and-piece filled room end bytes before copied piece within holds same sum =
    take-put_mid filled room bytes copied end (rw same sum) within
    ∙ ap₂ (λ a b. a ++ b) holds same

-- a piece was copied behind what a block holds, and fills it
pub all-held : (filled room : ℕ) (bytes before copied piece : List ℕ) → filled ≤ length bytes
    → take filled bytes ≡ before → copied ≡ piece → filled + length piece ≡ length bytes
    → room ≡ length piece → put_mid filled room bytes copied ≡ before ++ piece
all-held filled room bytes before copied piece within holds same sum whole =
    let end = length bytes in
    sym (take-append-drop end (put_mid filled room bytes copied))
    ∙ ap₂ (λ front rest. front ++ rest)
    (held-and-piece filled room end bytes before copied piece within holds same (sym sum))
    (drop-put_mid filled room bytes copied end (omega arith) within (ap length same ∙ sym whole)
    ∙ drop_all end bytes (omega arith))
    ∙ append-nil (before ++ piece)

-- a slice was split
pub split-at : (at : ℕ) (all front back : List ℕ) → front ≡ take at all → back ≡ drop at all
    → all ≡ front ++ back
split-at at all front back f b =
    sym (take-append-drop at all) ∙ ap₂ (λ x y. x ++ y) (sym f) (sym b)

-- a text was put in where a block held nothing, and what the block then holds was written
pub text-written : (s t u : Option (List ℕ)) (b c p text : List ℕ) → b ≡ [] → text ≡ p
    → GoesOut s t b c p → Appends t u c → Appends s u text
text-written s t u b c p text none e first last =
    let all : text ≡ first.out ++ c = e ∙ ap (λ l. l ++ p) (sym none) ∙ first.rest in
    rw all (Appends-trans s t u first.out c first.written last)

-- where the last write fails, a front of the text was written
pub front-written-last : (s t u : Option (List ℕ)) (b c p text : List ℕ) → b ≡ [] → text ≡ p
    → GoesOut s t b c p → AppendsFront t u c → AppendsFront s u text
front-written-last s t u b c p text none e first last =
    let all : text ≡ first.out ++ c = e ∙ ap (λ l. l ++ p) (sym none) ∙ first.rest in (
      first.out ++ last.0,
      last.1,
      all ∙ ap (λ l. first.out ++ l) last.2 ∙ sym (append_assoc first.out last.0 last.1),
      Appends-trans s t u first.out last.0 first.written last.3,
    )

-- a call that doesn't fail leaves the count as it is, so its cause is that of the next
pub cause-behind : {T E U F : Type 0} (a b c : ℕ) (x : T) (r : Result U F)
    → HasCause {T = T} {E = E} a b (Ok x) → HasCause b c r → HasCause a c r
cause-behind a b c x r first last = rw first.kept at last

module _ {K : Type 0} (written held : K → Option (List ℕ)) (faults : K → ℕ) where
  -- a text that a block has room for
  pub stays-in-block : {T E : Type 0} (s : K) (b c p : List ℕ) (x : T) → c ≡ b ++ p
      → PutsText {T = T} {E = E} written held faults s s b c p (Ok x)
  stays-in-block s b c p x e = record {
    whole = record {
      out = [];
      written = Appends-nil (written s);
      blocks = (0, refl);
      rest = sym e;
    };
    front = tt;
    both = ([], Appends-nil (written s), Appends-nil (held s));
    cause = record { later = omega arith; failed = tt; kept = refl };
  }

  -- a text that fills a block, which is written
  pub fills-block : {T E : Type 0} (s t : K) (b p bytes : List ℕ) (r : Result T E)
      → b ++ p ≡ bytes → length b + length p ≡ BLOCK
      → OnOk r (Appends (written s) (written t) bytes)
      → OnErr r (AppendsFront (written s) (written t) bytes)
      → AppendsToBoth (written s) (written t) (held s) (held t)
      → HasCause (faults s) (faults t) r
      → PutsText written held faults s t b [] p r
  fills-block s t b p bytes (Ok x) full size ok err both cause = record {
    whole = record {
      out = bytes;
      written = ok;
      blocks = (1, ap length (sym full) ∙ length-append b p ∙ size);
      rest = full ∙ sym (append-nil bytes);
    };
    front = tt;
    both = both;
    cause = cause;
  }
  fills-block s t b p bytes (Err e) full size ok err both cause = record {
    whole = tt;
    front = rw full err;
    both = both;
    cause = cause;
  }

  -- no text is put in by a call that does nothing
  pub nothing-put : {T E : Type 0} (s : K) (b : List ℕ) (x : T)
      → PutsText {T = T} {E = E} written held faults s s b b [] (Ok x)
  nothing-put s b x = stays-in-block s b b [] x (sym (append-nil b))

  -- a text is put in part by part
  pub put-behind : {T E U F : Type 0} (s t u : K) (b c d p q text : List ℕ) (x : T)
      (r : Result U F) → text ≡ p ++ q
      → PutsText {T = T} {E = E} written held faults s t b c p (Ok x)
      → PutsText written held faults t u c d q r
      → PutsText written held faults s u b d text r
  put-behind s t u b c d p q text x (Ok y) e first second = record {
    whole = rw e (goes-on _ _ _ b c d p q first.whole second.whole);
    front = tt;
    both = two-writes-append-to-both _ _ _ _ _ _ first.both second.both;
    cause = record {
      later = omega (arith, first.cause.kept, second.cause.later);
      failed = tt;
      kept = second.cause.kept ∙ first.cause.kept;
    };
  }
  put-behind s t u b c d p q text x (Err f) e first second = record {
    whole = tt;
    front = rw e (front-behind _ _ _ b c p q first.whole second.front);
    both = two-writes-append-to-both _ _ _ _ _ _ first.both second.both;
    cause = record {
      later = omega (arith, first.cause.kept, second.cause.later);
      failed = rw first.cause.kept at second.cause.failed;
      kept = tt;
    };
  }

  -- a call fails while it puts the front of a text in
  pub put-fails : {T E U F : Type 0} (s t : K) (b c d p more text : List ℕ) (f : E)
      (r : Result U F) → text ≡ p ++ more → IsErr r
      → PutsText {T = T} {E = E} written held faults s t b c p (Err f)
      → PutsText written held faults s t b d text r
  put-fails s t b c d p more text f (Ok y) e is first = absurd (false≢true is)
  put-fails s t b c d p more text f (Err g) e is first = record {
    whole = tt;
    front = rw e (longer-front _ _ b p more first.front);
    both = first.both;
    cause = record { later = first.cause.later; failed = first.cause.failed; kept = tt };
  }

  -- a call fails while it puts a part of a text in, which isn't the first
  pub put-fails-behind : {T E U F V G : Type 0} (s t u : K) (b c d d' p q more text : List ℕ)
      (x : T) (f : F) (r : Result V G) → text ≡ p ++ (q ++ more) → IsErr r
      → PutsText {T = T} {E = E} written held faults s t b c p (Ok x)
      → PutsText {T = U} {E = F} written held faults t u c d q (Err f)
      → PutsText written held faults s u b d' text r
  put-fails-behind {U = U} s t u b c d d' p q more text x f r e is first second =
      put-fails s u b d d' (p ++ q) more text f r (e ∙ sym (append_assoc p q more)) is
      (put-behind {U = U} s t u b c d p q (p ++ q) x (Err f) refl first second)

  -- a text that is put in is what another name stands for
  pub put-same : {T E : Type 0} (s t : K) (b c p text : List ℕ) (r : Result T E) → text ≡ p
      → PutsText written held faults s t b c p r → PutsText written held faults s t b c text r
  put-same s t b c p text r e puts = rw e puts
