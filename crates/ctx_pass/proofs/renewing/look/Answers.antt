use Rattle.ctx_pass.proofs.Inheriting.{standing_made}
use Rattle.ctx_pass.proofs.renewing.look.Goals as goal

pub returns-clause-value : goal.returns-clause-value
returns-clause-value g c =
    standing_made c.args.dom.now c.requires.tree c.args.contexts.now c.args.id c.requires.known c.requires.parent
    c.in-Some.cell.now c.above.result c.stand.result c.in-Some.ensures.value c.above.ensures c.stand.ensures.here c.stand.ensures.below
