use Rattle.std.proofs.lemmas.Result.{IfOk-weaker}
use Rattle.ax_names.specs.OwnTexts.{own_text, title_said, said_or}
use Rattle.ax_names.specs.Pieces.{piece_of}
use Rattle.ax_names.proofs.Turns.{told_counts, third_counts}
use Rattle.ax_names.proofs.text_alternative.element_says.Goals as goal

pub returns-in-Some : goal.returns-in-Some
returns-in-Some c r b refers inside =
    let attrs = c.args.attrs.now in
    told_counts piece_of r (own_text c.args.role c.args.tag.now attrs) (said_or b (title_said attrs)) _ c.in-Some.said c.in-Some.is (c.in_ok-said.ensures r refers)

pub returns : goal.returns
returns c =
    let attrs = c.args.attrs.now in
    IfOk-weaker c.said_after.result _ _ (λ p e r b refers inside.
    third_counts piece_of r (own_text c.args.role c.args.tag.now attrs) (said_or b (title_said attrs)) _ p c.in_default.is (c.in_ok-said.ensures r refers) (e b inside)) c.said_after.ensures
