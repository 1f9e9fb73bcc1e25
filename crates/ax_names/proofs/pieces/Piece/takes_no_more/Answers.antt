use Rattle.std.proofs.Common.{sym, ap, ◌∙◌}
use Rattle.ax_names.specs.Pieces.{Phrase, joined}
use Rattle.ax_names.proofs.Joining.{phrase, full_stays}
use Rattle.ax_names.proofs.pieces.Piece.takes_no_more.Goals as goal

pub returns-clause-full : goal.returns-clause-full
returns-clause-full c = λ is other.
    sym (full_stays (phrase c.self.inside.words c.self.inside.starts c.self.inside.ends) other (sym c.if-not-has_more.ensures) (sym c.if-is_empty.ensures)) ∙ ap (λ (p : Phrase). joined p other) c.self.view_is
