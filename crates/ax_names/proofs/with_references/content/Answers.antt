use Rattle.std.proofs.Common.{◌∙◌}
use Rattle.std.proofs.lemmas.Result.{IfOk-weaker}
use Rattle.ax_base.specs.AccessibleNames.{content_text}
use Rattle.ax_names.proofs.with_references.content.Goals as goal

pub returns-in-Some-clause-value : goal.returns-in-Some-clause-value
returns-in-Some-clause-value g c =
    let kept = c.in-Some.ensures.sound (content_text c.args.dom.now) c.requires.sayings.contents in
    IfOk-weaker c.copy.result _ _ (λ p e. e ∙ kept) c.copy.ensures

pub returns-clause-sayings : goal.returns-clause-sayings
returns-clause-sayings g c =
    let names = c.in_ok-said.ensures.kept in
    record {
      targets = names.targets;
      referred = names.referred;
      contents = c.in_ok-keep.ensures.sound (content_text c.args.dom.now) names.contents (c.in_ok-copy.ensures ∙ c.in_ok-said.ensures.value);
    }
