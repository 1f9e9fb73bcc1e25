use Rattle.std.proofs.Common.{rules}
use Rattle.std.proofs.lemmas.Str.{chars_from_encodes}
use Rattle.ax_dom.proofs.LongTexts.{short_text}
use Rattle.ax_dom.proofs.dom.refusals.is_long.Goals as goal

pub returns-then-text-le-MAX_TEXT_CHARACTERS : goal.returns-then-text-le-MAX_TEXT_CHARACTERS
returns-then-text-le-MAX_TEXT_CHARACTERS c = short_text c.args.text.now c.utf8.text (search rules)

pub returns : goal.returns
returns c = search (rules, chars_from_encodes)
