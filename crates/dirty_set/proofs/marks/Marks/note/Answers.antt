use Rattle.std.proofs.Common.{sym, ap, ◌∙◌}
use Rattle.dirty_set.specs.Reach.{marks_of, joined_marks}
use Rattle.dirty_set.specs.Marking.{marked}
use Rattle.dirty_set.proofs.Keeping.{alike_is, covers_is}
use Rattle.dirty_set.proofs.marks.Marks.note.Goals as goal

pub returns-clause-ok : goal.returns-clause-ok
returns-clause-ok g c = alike_is (joined_marks c.args.self.now (marked c.args.old.now c.args.now.now c.args.e.now)) c.add.new.self (sym (c.in_ok-add.ensures.ok ∙ ap (joined_marks c.args.self.now) (λ i. marks_of ((c.into_vec.ensures ∙ c.in_ok-nodes.ensures) i) ((c.into_vec-2.ensures ∙ c.in_ok-roots.ensures) i) (c.in_ok-texts.ensures i))))

pub returns-clause-covers : goal.returns-clause-covers
returns-clause-covers g c = λ flushed covers. covers_is flushed c.args.now.now (joined_marks c.args.self.now (marked c.args.old.now c.args.now.now c.args.e.now)) c.add.new.self (sym (c.in_ok-add.ensures.ok ∙ ap (joined_marks c.args.self.now) (λ i. marks_of ((c.into_vec.ensures ∙ c.in_ok-nodes.ensures) i) ((c.into_vec-2.ensures ∙ c.in_ok-roots.ensures) i) (c.in_ok-texts.ensures i)))) (c.marks_cover.ensures flushed c.args.self.now covers)
