use Rattle.std.proofs.Common.{◌≡◌, drop}
use Rattle.ax_dom.specs.Changes.{new_document}
use Rattle.story_check.specs.Moments.{after_edits, AreAccepted}
use Rattle.story_check.proofs.documents.document_of.Given as goal

abbrev pub invariant-loop-edit : goal.invariant-loop-edit
invariant-loop-edit l = record {
  rest : after_edits l.document (drop l.edit-index l.edits) ≡ after_edits new_document l.edits;
  accepted : AreAccepted l.document (drop l.edit-index l.edits);
}
