use Rattle.std.proofs.Common.{refl, sym, ap, ◌∙◌}
use Rattle.std.proofs.lemmas.Bool.{false≢true}
use Rattle.ctx_pass.specs.Marks.{is_marked}
use Rattle.kids_pass.proofs.Entries.{still_right, marked_before, right_marked, not_was}
use Rattle.kids_pass.proofs.kept.KeptKids.keep_other.Goals.{then-are_objects, else-are_objects}
use Rattle.kids_pass.proofs.kept.KeptKids.keep_other.Goals as goal

pub invariant_of-self : goal.invariant_of-self
invariant_of-self c =
    still_right c.self.inside.replaced c.add.new.self c.self.inside.stamps c.forget.new.stamps c.self.inside.by_node c.self.inside.by_node c.self.invariant
    (λ n off. ap (λ l. is_marked l n) (sym c.in_err-add.ensures.err) ∙ off) (λ n on. (c.forget.ensures n on).0) refl

pub invariant_of-self-in_err-put : goal.invariant_of-self-in_err-put
invariant_of-self-in_err-put c =
    still_right c.self.inside.replaced c.add.new.self c.self.inside.stamps c.forget.new.stamps c.self.inside.by_node c.put.new.self c.self.invariant
    (marked_before c.self.inside.replaced c.add.new.self c.args.id c.in_ok-add.ensures.ok) (λ n on. (c.forget.ensures n on).0) c.in_err-put.ensures.err

pub invariant_of-self-2 : goal.invariant_of-self-2
invariant_of-self-2 c =
    right_marked c.self.inside.replaced c.add.new.self c.self.inside.stamps c.forget.new.stamps c.add_if.new.stamps c.self.inside.by_node c.args.self.now c.put.new.self c.args.id c.args.kept c.if-are_objects.add_if c.is_object-was_object.result
    c.self.invariant c.self.view_is c.in_ok-add.ensures.ok c.in_ok-put.ensures.ok c.is_object-was_object.ensures c.forget.ensures c.add_if.ensures
    (λ on. elim c.if-are_objects.branch [
      | then-are_objects w ↦ (c.requires.known w.if-are_objects.true, not_was c.is_object-was_object.result (sym w.add_if-is ∙ on))
      | else-are_objects w ↦ absurd (false≢true (sym w.if-are_objects.false ∙ sym w.add_if-is ∙ on))
    ])
