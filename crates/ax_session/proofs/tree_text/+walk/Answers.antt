use Rattle.std.proofs.Common.{string_bytes, arith}
use Rattle.std.proofs.lemmas.Result.{on_ok_weaker}
use Rattle.ax_session.proofs.Lines.{none_there, alone, with_kids}
use Rattle.ax_session.proofs.tree_text.+walk.Goals as goal

pub push_object-returns-in_default : goal.push_object-returns-in_default
push_object-returns-in_default t c = none_there c.args.tree.now c.args.levels c.args.id (string_bytes c.args.out.now) c.in_default.ensures.value

pub push_object-returns-then-levels-eq0 : goal.push_object-returns-then-levels-eq0
push_object-returns-then-levels-eq0 t c =
    alone c.args.tree.now c.args.levels c.args.id c.in-Some.object.now (string_bytes c.args.out.now) (string_bytes c.push_line.new.out)
    c.in-Some.ensures.value c.if-levels-eq0.true c.in_ok-push_line.ensures

pub push_object-returns : goal.push_object-returns
push_object-returns t c =
    on_ok_weaker c.push_kids.result (λ rest. with_kids c.args.tree.now c.args.levels c.args.id c.in-Some.object.now (string_bytes c.args.out.now) (string_bytes c.push_line.new.out) (string_bytes c.push_kids.new.out) c.as_slice.result.now
    c.in-Some.ensures.value (omega arith) c.as_slice.ensures c.in_ok-push_line.ensures rest) c.push_kids.ensures
