use Rattle.kids_pass.proofs.Entries.{still_right, right_unmarked}
use Rattle.kids_pass.proofs.kept.KeptKids.keep_object.Goals as goal

pub invariant_of-self : goal.invariant_of-self
invariant_of-self c =
    still_right c.self.inside.replaced c.self.inside.replaced c.self.inside.stamps c.remove.new.self c.self.inside.by_node c.put.new.self c.self.invariant
    (λ n off. off) (λ n on. (c.remove.ensures n on).0) c.in_err-put.ensures.err

pub invariant_of-self-2 : goal.invariant_of-self-2
invariant_of-self-2 c =
    right_unmarked c.self.inside.replaced c.remove-2.new.self c.self.inside.stamps c.remove.new.self c.add_if.new.stamps c.self.inside.by_node c.args.self.now c.put.new.self c.args.id c.args.kept c.args.are_objects
    c.self.invariant c.self.view_is c.remove-2.ensures c.in_ok-put.ensures.ok c.requires.object c.remove.ensures c.add_if.ensures c.requires.known
