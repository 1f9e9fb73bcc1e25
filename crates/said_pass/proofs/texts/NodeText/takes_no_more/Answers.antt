use Rattle.said_pass.proofs.Gathering.{piece_stays, both_stay}
use Rattle.said_pass.proofs.texts.NodeText.takes_no_more.Goals as goal

pub returns-then-shown-clause-stays : goal.returns-then-shown-clause-stays
returns-then-shown-clause-stays c =
    both_stay c.args.self.now c.takes_no_more-shown.new.self c.takes_no_more-whole.new.self
    (piece_stays c.takes_no_more-shown.result c.args.self.now.shown c.takes_no_more-shown.new.self c.takes_no_more-shown.ensures.full c.takes_no_more-shown.ensures.open)
    (piece_stays c.takes_no_more-whole.result c.args.self.now.whole c.takes_no_more-whole.new.self c.takes_no_more-whole.ensures.full c.takes_no_more-whole.ensures.open)

pub returns-else-shown-clause-stays : goal.returns-else-shown-clause-stays
returns-else-shown-clause-stays c =
    both_stay c.args.self.now c.takes_no_more-shown.new.self c.takes_no_more-whole.new.self
    (piece_stays c.takes_no_more-shown.result c.args.self.now.shown c.takes_no_more-shown.new.self c.takes_no_more-shown.ensures.full c.takes_no_more-shown.ensures.open)
    (piece_stays c.takes_no_more-whole.result c.args.self.now.whole c.takes_no_more-whole.new.self c.takes_no_more-whole.ensures.full c.takes_no_more-whole.ensures.open)
