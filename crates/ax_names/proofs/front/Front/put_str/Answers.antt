use Rattle.std.proofs.Common.{◌∙◌, sym, arith}
use Rattle.std.proofs.lemmas.Iterator.{YieldsList-from_chars}
use Rattle.std.proofs.lemmas.Iterator.Consumers.{YieldsList-end, YieldsList-turn}
use Rattle.ax_names.proofs.Openings.{stays_nil}
use Rattle.ax_names.proofs.Putting.{put_start, put_more, put_enough, put_end}
use Rattle.ax_names.proofs.front.Front.put_str.Goals as goal

pub loop-c-init : goal.loop-c-init
loop-c-init c = put_start c.args.self.now c.args.text.now c.utf8.text (stays_nil _ _ _ c.self.view_is (omega arith))

pub returns-then-has_more : goal.returns-then-has_more
returns-then-has_more c =
    put_enough c.args.self.now c.args.text.now c.loop-c.self c.loop-c.yielded c.loop-c.invariant (sym c.has_more.ensures ∙ c.if-has_more.true)

pub loop-c-preserved : goal.loop-c-preserved
loop-c-preserved c =
    let turn = YieldsList-turn (YieldsList-from_chars c.args.text.now c.utf8.text cc) c.loop-c.yielded _ c.loop-c.yielded_by _ _ c.in-Some.c c.in-Some.is c.next.ensures.steps in
    put_more c.args.self.now c.args.text.now c.loop-c.self c.loop-c.yielded c.loop-c.invariant c.in-Some.c _ turn c.in_ok-put.ensures

pub returns : goal.returns
returns c =
    let whole = YieldsList-end (YieldsList-from_chars c.args.text.now c.utf8.text cc) c.loop-c.yielded _ c.loop-c.yielded_by _ _ c.in-None.is c.next.ensures.steps in
    put_end c.args.self.now c.args.text.now c.loop-c.self c.loop-c.yielded c.loop-c.invariant whole.1
