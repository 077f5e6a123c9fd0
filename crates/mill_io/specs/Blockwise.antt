-- Texts that go into a sink through a block of bytes, which is written whenever it is full.
use Rattle.std.specs.Prelude.{◌≡◌, ◌*◌, ◌++◌, ℕ, List, length, Option, Result, OnOk, OnErr}
use Rattle.std.specs.Io.KnownBytes.{Appends}
use Rattle.mill_io.specs.declared.block.TheConstants.{BLOCK}
use Rattle.mill_io.specs.Bytes.{AppendsFront, AppendsToBoth}
use Rattle.mill_io.specs.Causes.{HasCause}

-- so many bytes are some number of whole blocks
abbrev pub AreBlocks : List ℕ → Type 0
AreBlocks bytes = (count : ℕ) × (length bytes ≡ count * BLOCK)

-- a text is put in behind the bytes that a block holds: of all these, whole blocks were written,
-- and the block holds the rest
pub record GoesOut (old new : Option (List ℕ)) (before after text : List ℕ) : Type 0 where
  pub out : List ℕ
  pub written : Appends old new out
  pub blocks : AreBlocks out
  pub rest : before ++ text ≡ out ++ after

-- what a call does that puts a text through a block into a sink, of which three things are told:
-- what was written, what is held where it goes to, and how many writes failed
pub record PutsText {K T E : Type 0} (written held : K → Option (List ℕ)) (faults : K → ℕ)
    (old new : K) (before after text : List ℕ) (result : Result T E) : Type 0 where
  pub whole : OnOk result (GoesOut (written old) (written new) before after text)
  pub front : OnErr result (AppendsFront (written old) (written new) (before ++ text))
  pub both : AppendsToBoth (written old) (written new) (held old) (held new)
  pub cause : HasCause (faults old) (faults new) result
