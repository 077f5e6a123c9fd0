use Rattle.std.proofs.Common.{◌≡◌, ◌<◌, ℕ, List, length, Option, None, get_or, sym, ◌∙◌}
use Rattle.std.proofs.lemmas.List.{get_or_default}
use Rattle.mill_model.proofs.Numbering.{numbered-again, numbered-new}
use Rattle.mill_model.proofs.plan.Numbering.number_of.Goals as goal

-- what stands at a place that there is doesn't hang on what stands past the end
found : (numbers : List (Option ℕ)) (slab : ℕ) (entry there : Option ℕ) →
    slab < length numbers → entry ≡ get_or numbers slab entry → entry ≡ there →
    get_or numbers slab None ≡ there
found numbers slab entry there lt read is =
    get_or_default numbers slab None entry lt ∙ sym read ∙ is

pub returns-in-Some-clause-numbering : goal.returns-in-Some-clause-numbering
returns-in-Some-clause-numbering c = λ seen is.
    (numbered-again seen _ _ _ _ c.ranges.slab.fits c.requires is
    (found _ _ _ _ c.requires c.index.ensures c.in-Some.is)).0

pub returns-in-Some-clause-number : goal.returns-in-Some-clause-number
returns-in-Some-clause-number c = λ seen is.
    (numbered-again seen _ _ _ _ c.ranges.slab.fits c.requires is
    (found _ _ _ _ c.requires c.index.ensures c.in-Some.is)).1

pub returns-clause-numbering : goal.returns-clause-numbering
returns-clause-numbering c = λ seen is.
    rw (c.saturating_add-self.ensures)
    (numbered-new seen _ _ _ c.ranges.slab.fits c.requires is
    (found _ _ _ _ c.requires c.index.ensures c.in_default.is)).0

pub returns-clause-number : goal.returns-clause-number
returns-clause-number c = λ seen is.
    (numbered-new seen _ _ _ c.ranges.slab.fits c.requires is
    (found _ _ _ _ c.requires c.index.ensures c.in_default.is)).1
