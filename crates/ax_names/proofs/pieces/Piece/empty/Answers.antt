use Rattle.ax_names.proofs.Joining.{empty_piece}
use Rattle.ax_names.proofs.pieces.Piece.empty.Goals as goal

pub returns : goal.returns
returns c = empty_piece _ c.new.ensures
