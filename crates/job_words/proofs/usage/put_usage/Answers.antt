-- The usage line is put in in four parts: each that fails has a front of the line before it.
use Rattle.std.proofs.Common.{ℕ, List, [], ◌∷◌, ◌++◌, codes, refl}
use Rattle.mill_io.proofs.Blockwise.{put-behind, put-fails, put-fails-behind}
use Rattle.job_words.proofs.usage.put_usage.Goals as goal

-- the parts of the usage line
abbrev first : List ℕ
first = codes "usage: mill_slab solve"

abbrev others : List ℕ
others = codes "|prove|check|verify|replay|drill"

abbrev options : List ℕ
options = codes " [--workers N] [--nodes N] [--colours N] [--moves N] [--seed N] [--orders N]"

pub returns-in_err-put_names : goal.returns-in_err-put_names
returns-in_err-put_names g c =
    put-fails _ _ _ _ _ _ _ _ first (others ++ (options ++ 10 ∷ [])) _ _
    c.from_residual.result refl c.from_residual.ensures.0 c.in_err-put_names.ensures

pub returns-in_err-put_names-2 : goal.returns-in_err-put_names-2
returns-in_err-put_names-2 g c =
    put-fails-behind _ _ _ _ _ _ _ _ _ _ first others (options ++ 10 ∷ [])
    _ _ _ c.from_residual-in_err-put_names-2.result refl
    c.from_residual-in_err-put_names-2.ensures.0 c.in_ok-put_names.ensures
    c.in_err-put_names-2.ensures

pub returns-in_err-put_names-3 : goal.returns-in_err-put_names-3
returns-in_err-put_names-3 g c =
    put-fails-behind _ _ _ _ _ _ _ _ _ _ (first ++ others) options (10 ∷ [])
    _ _ _ c.from_residual-in_err-put_names-3.result refl
    c.from_residual-in_err-put_names-3.ensures.0
    (put-behind _ _ _ _ _ _ _ _ _ first others _ _ _ refl c.in_ok-put_names.ensures
    c.in_ok-put_names-2.ensures)
    c.in_err-put_names-3.ensures

pub returns : goal.returns
returns g c =
    put-behind _ _ _ _ _ _ _ _ _ (first ++ others ++ options) (10 ∷ []) _ _ c.put.result refl
    (put-behind _ _ _ _ _ _ _ _ _ (first ++ others) options _ _ _ refl
    (put-behind _ _ _ _ _ _ _ _ _ first others _ _ _ refl c.in_ok-put_names.ensures
    c.in_ok-put_names-2.ensures)
    c.in_ok-put_names-3.ensures)
    c.put.ensures
