use Rattle.std.proofs.Common.{rules}
use Rattle.ax_names.proofs.Referring.{none_yet, at_end, at_eight, one_more}
use Rattle.said_pass.specs.Saids.{said_by_token}
use Rattle.said_pass.proofs.labelledby.all_referred.Goals as goal

pub loop-init : goal.loop-init
loop-init c = (none_yet (said_by_token c.args.sources.now) c.args.text.now c.empty-joined.result c.empty-joined.ensures, c.utf8.text)

pub first_token-requires-text-text : goal.first_token-requires-text-text
first_token-requires-text-text c κs = c.loop.invariant.1

pub returns-in_default : goal.returns-in_default
returns-in_default c = at_end (said_by_token c.args.sources.now) c.args.text.now c.loop.rest.now c.loop.counter c.loop.joined c.loop.invariant.0 c.in_default.ensures.tokens

pub loop-preserved : goal.loop-preserved
loop-preserved c = (
  one_more (said_by_token c.args.sources.now) c.args.text.now c.loop.rest.now c.in-Some.token.now c.in-Some.after.now c.loop.counter c.loop.joined c.push_token.new.into c.loop.invariant.0 c.loop-test.true
      c.in-Some.ensures.tokens c.in_ok-push_token.ensures,
  search rules,
)

pub returns : goal.returns
returns c = at_eight (said_by_token c.args.sources.now) c.args.text.now c.loop.rest.now c.loop.counter c.loop.joined c.loop.invariant.0 c.loop-test.false
