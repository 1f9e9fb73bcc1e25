use Rattle.std.proofs.Common.{◌≡◌, ◌∙◌, None, ap, sym, subst}
use Rattle.ax_dom.specs.Changes.{edited}
use Rattle.ax_dom.specs.Refusals.{edit_cause}
use Rattle.dirty_set.specs.Covers.{Covers}
use Rattle.marked_dom.specs.Marked.{MarkedDocument}
use Rattle.marked_dom.proofs.marked.MarkedDom.edit.Goals as goal

pub note-requires-clause-free : goal.note-requires-clause-free
note-requires-clause-free g c =
    subst (λ d. edit_cause d c.args.e.now ≡ None) (sym (ap (λ (v : MarkedDocument). v.document) c.self.view_is)) c.requires.free

pub follows-requires-clause-free : goal.follows-requires-clause-free
follows-requires-clause-free g c =
    subst (λ d. edit_cause d c.args.e.now ≡ None) (sym (c.replace-old.ensures.value ∙ ap (λ (v : MarkedDocument). v.document) c.self.view_is)) c.requires.free

pub returns-clause-ok : goal.returns-clause-ok
returns-clause-ok g c =
    c.replace-old.ensures.after
    ∙ c.in_ok-next.ensures
    ∙ ap (λ d. edited d c.args.e.now) (c.in_ok-copy.ensures ∙ ap (λ (v : MarkedDocument). v.document) c.self.view_is)

pub returns-clause-covers : goal.returns-clause-covers
returns-clause-covers g c = λ flushed covers.
    subst (λ d. Covers flushed d c.note.new.self) (sym c.replace-old.ensures.after)
    (c.in_ok-note.ensures.covers flushed (subst (λ (v : MarkedDocument). Covers flushed v.document v.marks) (sym c.self.view_is) covers))
