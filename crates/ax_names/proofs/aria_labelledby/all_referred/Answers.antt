use Rattle.std.proofs.Common.{rules}
use Rattle.ax_base.specs.References.{referred_text}
use Rattle.ax_names.proofs.Gathered.{nothing_yet, all_gathered, eight_gathered, one_gathered}
use Rattle.ax_names.proofs.aria_labelledby.all_referred.Goals as goal

pub loop-init : goal.loop-init
loop-init g c = (c.requires.sayings, nothing_yet g.G.Gather.of (referred_text c.args.dom.now) c.args.text.now c.empty-joined.result c.empty-joined.ensures, c.utf8.text)

pub first_token-requires-text-text : goal.first_token-requires-text-text
first_token-requires-text-text g c κs = c.loop.invariant.2

pub returns-in_default-clause-value : goal.returns-in_default-clause-value
returns-in_default-clause-value g c = all_gathered g.G.Gather.of (referred_text c.args.dom.now) c.args.text.now c.loop.rest.now c.loop.counter c.loop.joined c.loop.invariant.1 c.in_default.ensures.tokens

pub returns-in_default-clause-sayings : goal.returns-in_default-clause-sayings
returns-in_default-clause-sayings g c = c.loop.invariant.0

pub push_token-requires : goal.push_token-requires
push_token-requires g c = record { sayings = c.loop.invariant.0 }

pub loop-preserved : goal.loop-preserved
loop-preserved g c = (
  c.in_ok-push_token.ensures.sayings,
  one_gathered g.G.Gather.of (referred_text c.args.dom.now) c.args.text.now c.loop.rest.now c.in-Some.token.now c.in-Some.after.now c.loop.counter c.loop.joined c.push_token.new.into c.loop.invariant.1 c.loop-test.true
      c.in-Some.ensures.tokens c.in_ok-push_token.ensures.value,
  search rules,
)

pub returns-clause-value : goal.returns-clause-value
returns-clause-value g c = eight_gathered g.G.Gather.of (referred_text c.args.dom.now) c.args.text.now c.loop.rest.now c.loop.counter c.loop.joined c.loop.invariant.1 c.loop-test.false

pub returns-clause-sayings : goal.returns-clause-sayings
returns-clause-sayings g c = c.loop.invariant.0
