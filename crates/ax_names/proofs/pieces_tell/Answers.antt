use Rattle.ax_names.proofs.Joining.{pieces_join, name_kept, blank_kept, nothing_kept}
use Rattle.ax_names.proofs.Again.{flat_kept}
use Rattle.ax_names.proofs.Apart.{apart_kept}
use Rattle.ax_names.proofs.Between.{between_kept}
use Rattle.ax_names.proofs.pieces_tell.Goals as goal

pub returns-clause-together : goal.returns-clause-together
returns-clause-together c = pieces_join

pub returns-clause-again : goal.returns-clause-again
returns-clause-again c = flat_kept

pub returns-clause-blank : goal.returns-clause-blank
returns-clause-blank c = blank_kept

pub returns-clause-empty : goal.returns-clause-empty
returns-clause-empty c = nothing_kept

pub returns-clause-apart : goal.returns-clause-apart
returns-clause-apart c = apart_kept

pub returns-clause-between : goal.returns-clause-between
returns-clause-between c = between_kept

pub returns-clause-name : goal.returns-clause-name
returns-clause-name c = name_kept
