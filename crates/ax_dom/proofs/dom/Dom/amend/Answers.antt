use Rattle.ax_dom.proofs.dom.Dom.amend.Goals as goal
use Rattle.ax_dom.proofs.Amended.{amended_there, document_amended, kept_amended}

pub amend-requires : goal.amend-requires
amend-requires c = amended_there _ _ _ c.self.invariant _ c.self.view_is _ c.requires.known

pub invariant_of-self-2 : goal.invariant_of-self-2
invariant_of-self-2 c = kept_amended _ _ _ c.self.invariant _ c.self.view_is _ c.requires.known c.args.e c.requires.short c.requires.runs c.requires.within _ c.in_ok-amend.ensures.ok

pub returns-clause-ok : goal.returns-clause-ok
returns-clause-ok c = document_amended _ _ _ c.self.invariant _ c.self.view_is _ c.requires.known c.args.e c.requires.short c.requires.runs c.requires.within _ c.in_ok-amend.ensures.ok
