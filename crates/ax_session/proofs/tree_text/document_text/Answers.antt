use Rattle.std.proofs.Common.{◌∙◌, string_bytes}
use Rattle.ax_session.proofs.Lines.{whole_text}
use Rattle.ax_session.proofs.tree_text.document_text.Goals as goal

pub returns : goal.returns
returns c =
    c.from_string.ensures
    ∙ whole_text c.args.document.now c.in_ok-tree.tree (string_bytes c.new-out.result) (string_bytes c.push_object.new.out) (string_bytes c.push_end.new.out) c.root.result c.args.flushes
    c.in_ok-tree.ensures c.root.ensures c.new-out.ensures.bytes c.in_ok-push_object.ensures c.in_ok-push_end.ensures
