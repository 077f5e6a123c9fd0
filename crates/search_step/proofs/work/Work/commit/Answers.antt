-- What the verdict promises of lengths, each kind of record has; room for a record changes no path.
use Rattle.std.proofs.Common.{◌≡◌, Some, sym, refl, ap, ◌∙◌}
use Rattle.search_step.specs.Parts.{Parts}
use Rattle.search_step.proofs.Fitting.{lengths-here, fits-better, fits-plain, fits-split}
use Rattle.search_step.proofs.Fitting.{fits-other, fits-priced}
use Rattle.search_step.proofs.work.Work.commit.Goals as goal
use Rattle.search_step.proofs.work.Work.commit.Goals.{in-Some+else-eq, in_default}

pub record-requires-clause-fits : goal.record-requires-clause-fits
record-requires-clause-fits c path held =
    let whole = lengths-here c.args.self.now c.self.inside.held c.self.inside.orders
    c.reserve.new.self.orders path c.args.verdict (ap (λ (w : Parts). w.held) c.self.view_is)
    (ap (λ (w : Parts). w.orders) c.self.view_is) (c.reserve.ensures.orders ∙ c.self.invariant)
    c.requires.lengths held in
    fits-better c.reserve.new.self.orders path c.args.verdict whole c.in-Better.start c.in-Better.is

pub record-requires-in-Plain-clause-fits : goal.record-requires-in-Plain-clause-fits
record-requires-in-Plain-clause-fits c path held =
    let whole = lengths-here c.args.self.now c.self.inside.held c.self.inside.orders
    c.reserve.new.self.orders path c.args.verdict (ap (λ (w : Parts). w.held) c.self.view_is)
    (ap (λ (w : Parts). w.orders) c.self.view_is) (c.reserve.ensures.orders ∙ c.self.invariant)
    c.requires.lengths held in
    fits-plain c.reserve.new.self.orders path c.args.verdict whole c.in-Plain.is

pub record-requires-in-ByPrices-clause-fits : goal.record-requires-in-ByPrices-clause-fits
record-requires-in-ByPrices-clause-fits c path held =
    let whole = lengths-here c.args.self.now c.self.inside.held c.self.inside.orders
    c.reserve.new.self.orders path c.args.verdict (ap (λ (w : Parts). w.held) c.self.view_is)
    (ap (λ (w : Parts). w.orders) c.self.view_is) (c.reserve.ensures.orders ∙ c.self.invariant)
    c.requires.lengths held in
    fits-priced c.reserve.new.self.orders path c.args.verdict whole c.in-ByPrices.prices
    c.in-ByPrices.is c.list-within.ensures.kept

pub record-requires-in-ByOther-clause-fits : goal.record-requires-in-ByOther-clause-fits
record-requires-in-ByOther-clause-fits c path held =
    let whole = lengths-here c.args.self.now c.self.inside.held c.self.inside.orders
    c.reserve.new.self.orders path c.args.verdict (ap (λ (w : Parts). w.held) c.self.view_is)
    (ap (λ (w : Parts). w.orders) c.self.view_is) (c.reserve.ensures.orders ∙ c.self.invariant)
    c.requires.lengths held in
    fits-other c.reserve.new.self.orders path c.args.verdict whole c.in-ByOther.other
    c.in-ByOther.is

pub record-requires-in-Open-clause-fits : goal.record-requires-in-Open-clause-fits
record-requires-in-Open-clause-fits c path there =
    let same : c.match-note.self-inside.held ≡ c.self.inside.held = elim c.match-note.branch [
      | in-Some+else-eq w ↦ rw w.self-inside-is refl
      | in_default w ↦ rw w.self-inside-is refl
    ] in
    let held : c.self.inside.held ≡ Some path = sym same ∙ there in
    let whole = lengths-here c.args.self.now c.self.inside.held c.self.inside.orders
    c.reserve.new.self.orders path c.args.verdict (ap (λ (w : Parts). w.held) c.self.view_is)
    (ap (λ (w : Parts). w.orders) c.self.view_is) (c.reserve.ensures.orders ∙ c.self.invariant)
    c.requires.lengths held in
    let orders : c.match-note.self-inside.piece.orders ≡ c.reserve.new.self.orders =
    elim c.match-note.branch [
      | in-Some+else-eq w ↦ rw w.self-inside-is refl
      | in_default w ↦ rw w.self-inside-is refl
    ] in
    rw orders (fits-split c.reserve.new.self.orders path c.args.verdict whole c.in-Open.paths
    c.in-Open.note c.in-Open.is)
