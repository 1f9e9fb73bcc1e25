use Rattle.std.proofs.Common.{rules, ◌≡◌, sym, ◌∙◌}
use Rattle.dom_ids.proofs.Tests.{mem, is_in_mem}
use Rattle.dom_ids.proofs.ways.NodeSet.has.Goals as goal

pub returns : goal.returns
returns c =
    let among : c.contains.result ≡ mem c.args.self.now c.args.id = search rules in
    among ∙ sym (is_in_mem c.args.self.now c.args.id)
