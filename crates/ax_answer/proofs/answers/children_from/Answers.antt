use Rattle.std.proofs.Common.{◌∙◌}
use Rattle.ax_answer.proofs.Shown.{shown_from}
use Rattle.ax_answer.proofs.answers.children_from.Goals as goal

pub returns : goal.returns
returns c = c.from_vec.ensures ∙ (c.in_ok-from_slice.ensures.items ∙ shown_from c.args.kids.now c.args.from c.min.result 256 c.min-2.result c.min.ensures c.min-2.ensures)
