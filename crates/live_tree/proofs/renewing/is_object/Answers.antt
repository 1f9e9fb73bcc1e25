use Rattle.std.proofs.Common.{sym, ◌∙◌}
use Rattle.live_tree.proofs.Remaking.{gone_none, included_one}
use Rattle.live_tree.proofs.renewing.is_object.Goals as goal

pub returns-then-has : goal.returns-then-has
returns-then-has c =
    let there = sym c.if-has.ensures in
    c.is_object.ensures c.args.dom.now c.requires.kids there ∙ sym (included_one c.args.dom.now c.requires.tree c.args.id there)

pub returns-else-has : goal.returns-else-has
returns-else-has c = c.if-has.false ∙ sym (gone_none c.args.dom.now c.requires.tree c.args.id (sym c.if-has.ensures))
