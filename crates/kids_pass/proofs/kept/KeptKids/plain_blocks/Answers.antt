use Rattle.std.proofs.Common.{◌+◌, ◌-◌, arith}
use Rattle.kids_pass.proofs.Given.{in_part, objects_on}
use Rattle.kids_pass.proofs.kept.KeptKids.plain_blocks.Goals as goal

pub has_marked-requires : goal.has_marked-requires
has_marked-requires c = λ n inside. c.requires n (in_part (c.plain.at + 64 - c.plain.at) c.plain.at c.args.children.now n inside)

pub plain-preserved : goal.plain-preserved
plain-preserved c = (
  omega arith,
  objects_on c.args.self.now c.args.children.now c.plain.at (c.plain.at + 64 - c.plain.at) (c.plain.at + 64) (omega arith) c.plain.invariant.0 c.plain.invariant.1 (c.has_marked.ensures c.if-has_marked.false),
)
