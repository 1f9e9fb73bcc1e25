use Rattle.ax_names.proofs.session.Sayings.first.Goals as goal

pub returns-in-Some-clause-value : goal.returns-in-Some-clause-value
returns-in-Some-clause-value g c = c.first.ensures c.args.dom.now (rw c.in-Some.is at c.requires.targets)

pub returns-clause-value : goal.returns-clause-value
returns-clause-value g c = c.first-found.ensures c.args.dom.now c.in_ok-targets.ensures

pub returns-clause-sayings : goal.returns-clause-sayings
returns-clause-sayings g c = record { targets = c.in_ok-targets.ensures; referred = c.requires.referred; contents = c.requires.contents }
