use Rattle.std.proofs.Common.{rules}
use Rattle.ax_names.specs.Pieces.{joined}
use Rattle.ax_names.proofs.pieces.Piece.append.Goals as goal

pub returns : goal.returns
unfolding joined
returns c = search rules
