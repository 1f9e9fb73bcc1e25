use Rattle.std.proofs.Common.{◌≡◌, false, sym, ◌∙◌}
use Rattle.std.specs.Option.{option_map_or}
use Rattle.ctx_pass.specs.Contexts.{puts_out}
use Rattle.ctx_pass.proofs.Marking.{once_marked, once_unmarked}
use Rattle.ctx_pass.proofs.kept.KeptContexts.keep.Goals as goal

pub invariant_of-self-then-is_out : goal.invariant_of-self-then-is_out
invariant_of-self-then-is_out c =
    once_marked (λ n o. option_map_or puts_out o false ≡ false) c.self.inside.out c.self.inside.by_node c.args.id c.args.standing c.self.invariant
    c.put.result c.add.new.self c.put.new.self c.in_ok-add.ensures.ok c.put.ensures.ok c.put.ensures.err

pub invariant_of-self-2 : goal.invariant_of-self-2
invariant_of-self-2 c =
    once_unmarked (λ n o. option_map_or puts_out o false ≡ false) c.self.inside.out c.self.inside.by_node c.args.id c.args.standing c.self.invariant
    c.remove.new.self c.put-2.new.self c.remove.ensures c.in_ok-put.ensures.ok (sym c.is_out.ensures ∙ c.if-is_out.false)
