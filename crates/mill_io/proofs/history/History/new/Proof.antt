-- `new` makes a value of no bytes, whose history is the empty list: a proof by hand.
--
-- Why by hand. No memory holds `bytes`, so no code can set it, and what Rattle proves by itself of
-- a struct is what its code sets. The rest is as ever: `statement` below is what the check writes
-- of the contract in src/history.rt, so this file states nothing of its own, and the check judges
-- each step against the compiled body. A step that is wrong is refused.
--
-- What a reader has to see beyond this, that a history means anything, is said at `note`.
use Rattle.std.proofs.Common.{[], ◌∷◌, refl}
use Rattle.std.proofs.raw_atomic.Walks.{proved}
use mir.Val.{Val, vstruct, vcons, vnil}
use types.Kit.{raw, ◌$◌, ◌∵◌, !, qed, keep, join, suffices, done}
use types.Part.{agg}
use types.Run.{no_more, and_then, returns, enter}
use types.ByLocal.{alloc_all, pass_all, free_all, look_at, get, sets}
use denote.Shadow.{pure_i}
use denote.Steps.{nothing}
use denote.Triple.Entry.{on_entry}
use denote.Triple.Walked.{says, ends_at}
use Rattle.mill_io.specs.declared.history.History.{History}
use Rattle.mill_io.specs.contracts.history.History.{the_row}
use Rattle.mill_io.specs.contracts.history.History.new as f
use Rattle.mill_io.proofs.history.History.new.Statement.{statement}
use Rattle.mill_io.proofs.history.History.new.Code as code

-- what the machine holds: a struct of one field, the marker, which is a struct of no field
abbrev stored : Val
stored = vstruct (vcons (vstruct vnil) vnil)

-- what contracts see of it; here the history is chosen
abbrev made : History
made = record { marker = record {}; bytes = [] }

pub new_spec : {M : Type 1} → statement M
new_spec 𝓤 𝓛 𝓜 𝓡 wired =
    -- the clauses of the contract
    let c = f.clauses 𝓛 𝓜.mem 𝓡.returns in
    -- what is proved: that contract, of the function's own compiled body (`code`). Each `tt` stands
    -- where something would be said of a parameter, and there is none
    proved 𝓛 f.ended tt c 𝓜 𝓡 tt f.Key.name code.function (code.unfolded 𝓤 𝓛.H 𝓜 𝓡 wired)
    (λ κs. tt) (λ κs. tt) (λ κs qs bounds a g are.
    -- What is owned at entry: nothing of parameters, and an empty `requires`. Both are let go.
    qed 𝓛 (raw (on_entry 𝓛 f.signature κs qs a tt) ∷ raw ((c κs a).requires g) ∷ []) ∵ keep ! [] $
    -- the body begins; its locals have places
    enter ! _ _ _ _ _ $ alloc_all ! (λ l. pass_all ! refl tt $
    -- `PhantomData`: a struct of no field goes into a local
    sets ! (agg ! (no_more !)) refl (tt, tt) $
    -- `History { marker: .. }`: a struct of that one field goes into the result
    sets ! (agg ! (and_then ! (get ! refl) (no_more !))) refl (tt, (tt, tt)) $
    -- the body returns, and its locals are gone
    returns ! (look_at ! 0 refl) $ free_all ! refl $
    -- `stored` stands for `made`: its one part stands for the marker. That says nothing of `bytes`
    -- and owns no memory, which the first line shows; the second shows that it is so
    pure_i ! (the_row.own_val made (stored ∷ [])) ((λ vss. (tt, ((λ uss. (tt, tt)), tt))), tt)
    (((vstruct vnil ∷ [], tt), (refl, ((tt, (refl, tt)), tt))), tt) $
    -- The result is `stored`, seen as `made`. The clause, that its bytes are the empty list, holds
    -- by `refl`; with any other list in `made` this step is refused
    suffices ! _ (ends_at 𝓛 f.ended tt c ((κs, qs, bounds, a, tt), g) stored made tt tt) $
    says ! refl $
    -- no lifetime and no parameter goes back to the caller, the result does, and that is all
    nothing ! $ join ! $ nothing ! $ done !))
