use Rattle.std.proofs.Common.{◌≡◌, All, subst, sym, true, ℕ, ap}
use Rattle.std.proofs.lemmas.List.Elements.{All-push}
use Rattle.mill_model.specs.declared.closing.Entry.{Entry}
use Rattle.refute_log.specs.Fits.{fits}
use Rattle.refute_log.specs.Pieces.{Pieced}
use Rattle.refute_log.proofs.piece.Piece.put.Goals as goal

pub invariant_of-self : goal.invariant_of-self
invariant_of-self c =
    let fit : Entry → Type 0 = λ entry. fits c.self.inside.orders entry ≡ true in
    let new : fit c.args.entry =
    subst (λ (n : ℕ). fits n c.args.entry ≡ true)
    (ap (λ (p : Pieced). p.orders) (sym c.self.view_is)) c.requires.fits in
    subst (All fit) (sym c.push_reserved.ensures.items)
    (All-push fit c.self.inside.entries.items c.args.entry c.self.invariant new)
