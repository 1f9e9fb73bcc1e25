use lib.Utf8.{encode}
use Rattle.ax_base.proofs.Quotes.{plain_text, between_quotes}
use Rattle.ax_base.proofs.quote.push_plain.Goals as goal

pub returns-clause-ok : goal.returns-clause-ok
unfolding encode
returns-clause-ok c =
    between_quotes c.reserve.ensures.bytes c.in_ok-push.ensures.bytes c.in_ok-push_str.ensures.bytes c.in_ok-push-2.ensures.bytes
    (plain_text c.args.text.now c.utf8.text c.requires.plain)
