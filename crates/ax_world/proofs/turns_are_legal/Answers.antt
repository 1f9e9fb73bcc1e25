use Rattle.ax_world.specs.Machine.{start, after_turns}
use Rattle.ax_world.proofs.Standing.{page_capped}
use Rattle.ax_world.proofs.Playing.{stands_always, legal_so_far}
use Rattle.ax_world.proofs.turns_are_legal.Goals as goal

pub returns-clause-published : goal.returns-clause-published
returns-clause-published c s turns = page_capped _ _ _ _ (stands_always s turns).page

pub returns-clause-legal : goal.returns-clause-legal
returns-clause-legal c s turns = legal_so_far s (after_turns s turns start) (stands_always s turns)
