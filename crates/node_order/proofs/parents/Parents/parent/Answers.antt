use Rattle.std.proofs.Common.{◌≡◌, true, sym, subst}
use Rattle.ax_dom.specs.Among.{is_in}
use Rattle.node_order.specs.Parents.{SomeNodes}
use Rattle.node_order.proofs.Placing.{IsTold, told}
use Rattle.node_order.proofs.parents.Parents.parent.Goals as goal

pub returns : goal.returns
returns c =
    let among = subst (λ (s : SomeNodes). is_in s.nodes c.args.id ≡ true) (sym c.self.view_is) c.requires.among in
    let all = subst (λ (s : SomeNodes). IsTold s c.args.id c.get.result) c.self.view_is (told _ c.self.inside.found c.self.invariant c.args.id c.get.result among c.get.ensures) in
    record { value = all.value; above = all.above; node = all.node }
