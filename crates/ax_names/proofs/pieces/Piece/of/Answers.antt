use Rattle.std.proofs.Common.{◌∙◌, ap}
use Rattle.ax_names.specs.Pieces.{Phrase, piece_of, joined}
use Rattle.ax_names.proofs.Joining.{only_piece}
use Rattle.ax_names.proofs.pieces.Piece.of.Goals as goal

pub returns : goal.returns
returns c = only_piece c.args.text.now _ (c.in_ok-push.ensures ∙ ap (λ (p : Phrase). joined p (piece_of c.args.text.now)) c.empty-piece.ensures)
