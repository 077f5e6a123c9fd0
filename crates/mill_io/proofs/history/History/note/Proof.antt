-- `note` does nothing when it runs, and after it the history ends with the piece: a proof by hand.
--
-- Why by hand. No memory holds `bytes`, so no code can append to it, and what Rattle proves by
-- itself of a struct is what its code does. The idea: a `&mut` is opened, as for a write, and is
-- closed at another value. Closing asks that what lies in memory stand for that value. Of a History
-- only the marker lies in memory, so what lies there stands for each history alike.
--
-- What the check does: `statement` is what it writes of the contract in src/history.rt, so this
-- file states nothing of its own, and each step is judged against the compiled body.
--
-- What a reader has to see: that a history means anything. A proof like this one could set it to
-- any list, so it tells the bytes that passed only if nothing but `note` changes it, and `note` is
-- called with just the bytes that passed, when they pass. Both can be read: the type and its calls
-- are this crate's own, no proof by hand beside these two is in the repository, and src/standard.rt
-- calls `note` at two places, behind its one read and behind its one write.
use Rattle.std.proofs.Common.{List, [], ◌∷◌, ◌++◌, refl}
use Rattle.std.proofs.raw_atomic.Walks.{proved}
use base.Logic.{id⊢}
use base.Fml.{ftrue, flft}
use mir.Syntax.{named}
use mir.Val.{Val, vunit, vptr}
use types.Kit.{‵, ◌⊛◌, ◌$◌, ◌∵◌, !, qed, move, keep, use1, split, join, suffices, frame, done}
use types.Kit.{fsplit, fsplit3, fjoin, fjoin3, feq_i}
use types.Run.{unit_lit, of_opd, returns, enter}
use types.ByLocal.{alloc_all, pass_all, free_all, look_at, sets}
use denote.Builtin.{u8}
use denote.Exit.{yes}
use denote.RattleType.{owns}
use denote.Ref.{MutRef, mut_vals, mut_Tells}
use denote.Signature.{plain}
use denote.Slice.{ShrSlice, shr_slice_vals, shr_slice_Tells}
use denote.Steps.{opens, closes}
use denote.Triple.Walked.{says, Stays, stay_ref, Goes-ref, stay_none_slice, Goes-none_slice}
use denote.Triple.Walked.{walk_of, ends_at}
use Rattle.mill_io.specs.declared.history.History.{History}
use Rattle.mill_io.specs.contracts.history.History.{the_row}
use Rattle.mill_io.specs.contracts.history.History.note as f
use Rattle.mill_io.proofs.history.History.note.Statement.{statement}
use Rattle.mill_io.proofs.history.History.note.Code as code

-- what the function still has at its end: of `self` the reference, of the piece nothing
abbrev stayed : Stays f.ended.signature.params f.ended.kept
stayed = (
  stay_ref (0 ∷ []) tt (plain (λ _. the_row)),
  (stay_none_slice (1 ∷ []) tt (plain (λ _. u8)) yes, tt),
)

pub note_spec : {M : Type 1} → statement M
note_spec 𝓤 𝓛 𝓜 𝓡 wired =
    -- the clauses of the contract, and what a walk of the body owes at its end
    let c = f.clauses 𝓛 𝓜.mem 𝓡.returns in let W = walk_of 𝓛 f.ended stayed c in
    -- what is proved: that contract, of the function's own compiled body (`code`). Around it stand,
    -- for `self` and for the piece: the law for what is left of it, how the machine passes it (an
    -- address; an address and a length), and that its type tells so
    proved 𝓛 f.ended stayed c 𝓜 𝓡 (
      Goes-ref 𝓛 2 0 tt (plain (λ _. the_row)),
      (Goes-none_slice 𝓛 2 (1 ∷ []) tt (plain (λ _. u8)) yes, tt),
    )
    f.Key.name code.function (code.unfolded 𝓤 𝓛.H 𝓜 𝓡 wired)
    (λ κs. (mut_vals, (shr_slice_vals, tt)))
    (λ κs. (mut_Tells (named 0) κs.0 the_row, (shr_slice_Tells (named 1) κs.1.0 u8, tt)))
    (λ κs qs bounds a g are.
    -- `self` lies at the offset o of the block b; its history before the call,
    let b = a.0.ref_ptr.0 in let o = a.0.ref_ptr.1 in let before = a.0.now in
    -- and after it: here it is chosen
    let after : History = record before { bytes = before.bytes ++ a.1.0.now } in
    -- both parameters as the machine passes them, and all that a call of `note` is given
    let stored : List Val × (List Val × Unit {0}) = (mut_vals a.0, (shr_slice_vals a.1.0, tt)) in
    let y : W.Ghost = ((κs, qs, bounds, a, stored), g) in
    -- What is owned at entry: for each parameter the right to say that its lifetime lasts, then the
    -- parameters, then an empty `requires`.
    qed 𝓛 (((‵ (flft κs.0 qs.0) ⊛ (‵ (flft κs.1.0 qs.1.0) ⊛ ‵ ftrue))
    ⊛ ‵ (owns (MutRef (named 0) κs.0 the_row ∷ ShrSlice (named 1) κs.1.0 u8 ∷ []) a stored))
    ∷ ‵ ftrue ∷ []) ∵
    -- `self` is taken apart: where it lies, which history its borrow shows, and the borrow
    split ! $ move ! (1 ∷ []) $ fsplit ! $ fsplit3 ! $ move ! (4 ∷ []) $ split ! $
    -- [the history shown; the borrow; self's lifetime; the piece; the piece's lifetime]
    keep ! (3 ∷ 4 ∷ 0 ∷ 5 ∷ 1 ∷ []) $
    -- the body begins; its locals have places, and the length of the piece fits a machine word
    let short = are.1.0.0.1.0 in
    enter ! _ _ _ _ _ $
    alloc_all ! (λ l. pass_all ! refl ((tt, tt), ((tt, (tt, (record { fits = short }, tt))), tt)) $
    -- the borrow is opened: [self's memory; that it stands for `before`; the open borrow; ..]
    opens ! tt the_row {h = before} b o (λ vs.
    -- the body's only statement: its result is `()`
    sets ! (of_opd ! (unit_lit !)) refl (tt, tt) $
    -- That memory stands for `before` is, word for word, that it stands for `after`: `id⊢` says so.
    -- The two differ in `bytes` alone, of which memory holds nothing
    move ! (1 ∷ []) $ use1 𝓛 (‵ (the_row.own_val after vs)) (id⊢ 𝓤 _) $
    -- the borrow is closed, and shows `after`: this is what sets the history
    move ! (1 ∷ 0 ∷ []) $ closes ! tt the_row after vs b o $
    -- the body returns, and its locals are gone
    returns ! (look_at ! 0 refl) $ free_all ! refl $ keep ! (0 ∷ 1 ∷ 2 ∷ 3 ∷ 4 ∷ []) $
    -- The result is `()`, and `self` shows `after`. The clause, that its bytes are those before and
    -- behind them the piece, holds by `refl`; with any other list in `after` this step is refused
    suffices ! _ (ends_at 𝓛 f.ended stayed c y vunit tt (after, (tt, tt)) (tt, (tt, tt))) $
    says ! refl $
    -- both lifetimes go back to the caller,
    move ! (2 ∷ 4 ∷ []) $ join ! $ frame ! $
    -- `self` is put together again, at the place where it was, beside the piece,
    feq_i ! (List Val) (vptr b o ∷ []) (vptr b o ∷ []) refl $ fjoin3 ! $ fjoin ! $
    -- and the result, which owns nothing
    feq_i ! (List Val) (vunit ∷ []) (vunit ∷ []) refl $ move ! (1 ∷ 0 ∷ []) $ done !)))
