use Rattle.std.proofs.Common.{◌-◌, ◌∙◌}
use Rattle.kids_pass.proofs.Given.{in_part, three_given, three_objects}
use Rattle.kids_pass.proofs.kept.KeptKids.gathered.Goals as goal

pub add_each-requires : goal.add_each-requires
add_each-requires c = λ n inside. c.requires.kept n (in_part (c.args.end - c.args.start) c.args.start c.args.children.now n inside)

pub returns-clause-value : goal.returns-clause-value
returns-clause-value c =
    three_given c.args.self.now c.args.children.now c.args.start c.args.end c.requires.others c.in_ok-list.list.items c.extend_from_slice.new.self.items c.add_each.new.list.items c.from_vec.result
    c.in_ok-list.ensures.items c.in_ok-extend_from_slice.ensures.items c.in_ok-are_objects.ensures.added (c.from_vec.ensures ∙ c.in_ok-extend_from_slice-2.ensures.items)

pub returns-clause-objects : goal.returns-clause-objects
returns-clause-objects c =
    λ on. three_objects c.args.self.now c.args.children.now c.args.start c.args.end c.requires.others c.in_ok-list.list.items c.extend_from_slice.new.self.items c.add_each.new.list.items c.from_vec.result
    c.in_ok-list.ensures.items c.in_ok-extend_from_slice.ensures.items c.in_ok-are_objects.ensures.added (c.from_vec.ensures ∙ c.in_ok-extend_from_slice-2.ensures.items)
    (c.in_ok-are_objects.ensures.objects on)
