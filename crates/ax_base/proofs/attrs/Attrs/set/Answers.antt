use Rattle.std.proofs.Common.{◌∙◌, sym}
use Rattle.std.proofs.lemmas.Result.{on_ok_weaker}
use Rattle.ax_base.proofs.AttributeNames.{no_value, with_value-none, value_replaced, distinct_replaced}
use Rattle.ax_base.proofs.attrs.Attrs.set.Goals as goal

pub invariant_of-self : goal.invariant_of-self
invariant_of-self c = distinct_replaced c.args.name c.args.value _ _ c.self.view_is c.self.invariant c.in-Some.place c.index_mut.result.now c.index_mut.ensures.value c.in-Some.ensures.place

pub push-requires : goal.push-requires
push-requires c = no_value c.args.name c.args.self.now c.in-None.ensures.place

pub returns-in-Some-clause-ok : goal.returns-in-Some-clause-ok
returns-in-Some-clause-ok c = value_replaced c.args.name c.args.value _ _ c.self.view_is c.in-Some.place c.index_mut.result.now c.index_mut.ensures.value c.in-Some.ensures.place

pub returns-in-None-clause-ok : goal.returns-in-None-clause-ok
returns-in-None-clause-ok c =
    on_ok_weaker c.push.result
    (λ e. e ∙ sym (with_value-none c.args.name c.args.value c.args.self.now (no_value c.args.name c.args.self.now c.in-None.ensures.place)))
    c.push.ensures.ok
