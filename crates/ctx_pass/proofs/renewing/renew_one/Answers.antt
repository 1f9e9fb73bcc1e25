use Rattle.std.proofs.lemmas.Result.{on_ok_weaker}
use Rattle.ctx_pass.specs.Contexts.{standing_of}
use Rattle.ctx_pass.proofs.Putting.{put_here, put_keeps}
use Rattle.ctx_pass.proofs.renewing.renew_one.Goals as goal

pub returns-clause-here : goal.returns-clause-here
returns-clause-here g c =
    on_ok_weaker c.keep.result
    (λ puts. put_here (standing_of c.args.dom.now) c.args.contexts.now c.keep.new.self c.args.id c.look-standing.result c.look-standing.ensures.value puts)
    c.keep.ensures

pub returns-clause-keeps : goal.returns-clause-keeps
returns-clause-keeps g c =
    on_ok_weaker c.keep.result
    (λ puts. put_keeps (standing_of c.args.dom.now) c.args.contexts.now c.keep.new.self c.args.id c.look-standing.result c.look-standing.ensures.value puts)
    c.keep.ensures
