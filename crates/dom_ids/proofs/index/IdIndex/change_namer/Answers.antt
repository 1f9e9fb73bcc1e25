use Rattle.std.proofs.Common.{rules}
use Rattle.dom_ids.proofs.Changes.{none_named, named_at_end, named_at_eight, one_named}
use Rattle.dom_ids.proofs.index.IdIndex.change_namer.Goals as goal

pub loop-init : goal.loop-init
loop-init c = (c.requires.rising, none_named c.args.change c.args.id c.args.text.now c.args.self.now, c.utf8.text)

pub first_token-requires-text-text : goal.first_token-requires-text-text
first_token-requires-text-text c κs = c.loop.invariant.2

pub returns-in_default-clause-rising : goal.returns-in_default-clause-rising
returns-in_default-clause-rising c = c.loop.invariant.0

pub returns-in_default-clause-value : goal.returns-in_default-clause-value
returns-in_default-clause-value c = named_at_end c.args.change c.args.id c.args.text.now c.loop.rest.now c.loop.counter c.args.self.now c.loop.self c.loop.invariant.1 c.in_default.ensures.tokens

pub change_name-requires : goal.change_name-requires
change_name-requires c = record { rising = c.loop.invariant.0 }

pub loop-preserved : goal.loop-preserved
loop-preserved c = (
  c.in_ok-change_name.ensures.rising,
  one_named c.args.change c.args.id c.args.text.now c.loop.rest.now c.in-Some.token.now c.in-Some.after.now c.loop.counter c.args.self.now c.loop.self c.change_name.new.self c.requires.rising c.loop.invariant.1 c.loop-test.true
      c.in-Some.ensures.tokens c.in_ok-change_name.ensures.value,
  search rules,
)

pub returns-clause-rising : goal.returns-clause-rising
returns-clause-rising c = c.loop.invariant.0

pub returns-clause-value : goal.returns-clause-value
returns-clause-value c = named_at_eight c.args.change c.args.id c.args.text.now c.loop.rest.now c.loop.counter c.args.self.now c.loop.self c.loop.invariant.1 c.loop-test.false
