use Rattle.std.proofs.Common.{◌≡◌, IfOk, subst}
use Rattle.ax_answer.specs.Moments.{answer_at}
use Rattle.ax_world.specs.Worlds.{Play}
use Rattle.ax_world.proofs.Kept.{reply_from_tree}
use Rattle.ax_world.proofs.world.World.reply.Goals as goal

pub returns : goal.returns
returns c = subst (λ (w : Play). IfOk c.answer.result (λ r. r ≡ answer_at w.story w.state.taken c.args.request.now)) c.self.view_is (reply_from_tree _ _ _ _ _ _ c.args.request.now c.answer.result c.self.invariant.0 c.answer.ensures)
