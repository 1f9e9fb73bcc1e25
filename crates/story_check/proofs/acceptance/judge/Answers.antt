use Rattle.story_check.proofs.Judging.{judged_long, judged_no_utf8}
use Rattle.story_check.proofs.Telling.{accepts_bytes, fails_at_input}
use Rattle.story_check.proofs.acceptance.judge.Goals as goal

pub returns-then-bytes-gt-MAX_STORY_BYTES : goal.returns-then-bytes-gt-MAX_STORY_BYTES
returns-then-bytes-gt-MAX_STORY_BYTES c = fails_at_input _ c.args.keeps c.args.bytes.now _ c.input_refusal.ensures (judged_long c.args.bytes.now c.if-bytes-gt-MAX_STORY_BYTES.true)

pub returns-in-Ok : goal.returns-in-Ok
returns-in-Ok c = accepts_bytes c.judge_lines.result c.args.keeps c.args.bytes.now c.in-Ok.text.now c.if-bytes-gt-MAX_STORY_BYTES.false c.in-Ok.ensures.cases.1 c.in-Ok.ensures.cases.0 c.judge_lines.ensures

pub returns-in-Err : goal.returns-in-Err
returns-in-Err c = fails_at_input _ c.args.keeps c.args.bytes.now _ c.input_refusal-in-Err.ensures (judged_no_utf8 c.args.bytes.now c.if-bytes-gt-MAX_STORY_BYTES.false c.in-Err.ensures.cases.0)
