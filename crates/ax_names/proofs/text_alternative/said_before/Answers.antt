use Rattle.std.proofs.Common.{◌∙◌, sym}
use Rattle.ax_names.specs.OwnTexts.{own_text}
use Rattle.ax_names.proofs.Turns.{first_told, second_told, neither_told}
use Rattle.ax_names.proofs.text_alternative.said_before.Goals as goal

pub returns-then-not-is_blank : goal.returns-then-not-is_blank
returns-then-not-is_blank g c r refers =
    first_told g.G.Gather.of r (own_text c.args.role c.args.tag.now c.args.attrs.now) c.args.referred refers (sym (c.is_blank.ensures r refers) ∙ c.if-not-is_blank.true)

pub returns-then-is_blank : goal.returns-then-is_blank
returns-then-is_blank g c r refers =
    neither_told g.G.Gather.of r (own_text c.args.role c.args.tag.now c.args.attrs.now) c.own_text-own.result.now c.own_text-own.ensures (sym (c.is_blank.ensures r refers) ∙ c.if-not-is_blank.false) (sym c.is_blank-2.ensures ∙ c.if-is_blank.true)

pub returns : goal.returns
returns g c r refers =
    second_told g.G.Gather.of r (own_text c.args.role c.args.tag.now c.args.attrs.now) c.own_text-own.result.now _ c.in_ok-from_str.ensures c.own_text-own.ensures (sym (c.is_blank.ensures r refers) ∙ c.if-not-is_blank.false) (sym c.is_blank-2.ensures ∙ c.if-is_blank.false)
