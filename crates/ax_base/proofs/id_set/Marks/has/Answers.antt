use Rattle.ax_base.proofs.Marked.{has-marked, past-marked}
use Rattle.ax_base.proofs.id_set.Marks.has.Goals as goal

pub returns-in-Some : goal.returns-in-Some
returns-in-Some c =
    let marks = c.self.inside.items.items in
    rw c.self.view_is at (has-marked marks c.args.id c.in-Some.mark.now (rw c.deref.ensures.value at c.in-Some.ensures.lookup.3.0) (rw c.deref.ensures.value at c.in-Some.ensures.lookup.1))

pub returns-in-None : goal.returns-in-None
returns-in-None c = rw c.self.view_is at (past-marked c.self.inside.items.items c.args.id (rw c.deref.ensures.value at c.in-None.ensures.lookup.3))
