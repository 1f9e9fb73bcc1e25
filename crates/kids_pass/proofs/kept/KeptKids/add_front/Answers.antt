use Rattle.std.proofs.Common.{◌+◌, ◌++◌, take, refl, sym, ap, subst, ◌∙◌, arith}
use Rattle.kids_pass.specs.Kids.{AreObjects}
use Rattle.kids_pass.proofs.Given.{objects_give, added_one, objects_one}
use Rattle.kids_pass.proofs.kept.KeptKids.add_front.Goals as goal

pub returns-then-plain-children-clause-added : goal.returns-then-plain-children-clause-added
returns-then-plain-children-clause-added c =
    c.in_ok-extend_from_slice.ensures.items
    ∙ ap (λ l. c.args.list.now.items ++ l) (sym (objects_give c.args.self.now (take c.plain-plain.result c.args.children.now) c.plain-plain.ensures.objects))

pub returns-then-plain-children-clause-objects : goal.returns-then-plain-children-clause-objects
returns-then-plain-children-clause-objects c =
    λ on. subst (AreObjects c.args.self.now) (sym (objects_give c.args.self.now (take c.plain-plain.result c.args.children.now) c.plain-plain.ensures.objects)) c.plain-plain.ensures.objects

pub returns-clause-added : goal.returns-clause-added
returns-clause-added c =
    added_one c.args.self.now c.args.children.now c.args.list.now.items c.extend_from_slice.new.self.items c.add_given.new.list.items c.plain-plain.result (c.plain-plain.result + 1) c.index-children-plain-2.result
    refl (omega arith) c.index-children-plain-2.is c.plain-plain.ensures.objects c.in_ok-extend_from_slice.ensures.items c.in_ok-add_given.ensures

pub returns-clause-objects : goal.returns-clause-objects
returns-clause-objects c =
    λ on. objects_one c.args.self.now c.args.children.now c.plain-plain.result (c.plain-plain.result + 1) c.index-children-plain.result
    refl (omega arith) c.index-children-plain.is c.plain-plain.ensures.objects (c.gives_objects-are_objects.ensures on)
