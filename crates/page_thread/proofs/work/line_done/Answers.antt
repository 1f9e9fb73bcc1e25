use Rattle.std.proofs.Common.{◌∷◌, subst, sym, ◌∙◌, ap}
use Rattle.story_check.specs.declared.story.PageLine.{PageLine}
use Rattle.ax_port.specs.States.{PageState}
use Rattle.page_thread.specs.Pages.{PageStands}
use Rattle.page_thread.proofs.Lines.{page_changes, page_flushes, page_passes, page_ends_there, may_change}
use Rattle.page_thread.proofs.work.line_done.Goals as goal

pub returns-in_ok-changed-in-Change-clause-did : goal.returns-in_ok-changed-in-Change-clause-did
returns-in_ok-changed-in-Change-clause-did g c = λ left h.
    page_changes _ left _ c.args.side _ _ c.in_ok-changed-in-Change.ensures (subst (λ (l : PageLine). PageStands c.args.port.now.story (l ∷ left) c.args.port.now.page c.args.side) c.in-Change.is h)

pub returns-in_ok-flushed-in-Flush-clause-did : goal.returns-in_ok-flushed-in-Flush-clause-did
returns-in_ok-flushed-in-Flush-clause-did g c = λ left h.
    page_flushes _ left c.args.port.now.page _ c.args.side _ c.in_ok-flushed-in-Flush.ensures.page c.in_ok-flushed-in-Flush.ensures.side (subst (λ (l : PageLine). PageStands c.args.port.now.story (l ∷ left) c.args.port.now.page c.args.side) c.in-Flush.is h)

pub returns-in-None-clause-did : goal.returns-in-None-clause-did
returns-in-None-clause-did g c = λ left h.
    let looks = c.looked.ensures.looks in
    page_passes _ left c.args.port.now.page c.looked.new.port.page c.args.side c.in-Until.need looks.published looks.over looks.seen c.in-None.ensures.sees (subst (λ (l : PageLine). PageStands c.args.port.now.story (l ∷ left) c.args.port.now.page c.args.side) c.in-Until.is h)

pub returns-in-Some-clause-did : goal.returns-in-Some-clause-did
returns-in-Some-clause-did g c = λ left h.
    let looks = c.looked.ensures.looks in
    let sees = c.in-Some.ensures.sees in
    page_ends_there _ left c.args.port.now.page c.looked.new.port.page c.args.side c.in-Until.need c.in-Some.have looks.published looks.seen sees.0 sees.1 sees.2 (subst (λ (l : PageLine). PageStands c.args.port.now.story (l ∷ left) c.args.port.now.page c.args.side) c.in-Until.is h)

pub changed-requires : goal.changed-requires
changed-requires g c = may_change _ c.requires.stands.0 _ c.args.side _ _ c.in-Change.is c.requires.stands.1
