use Rattle.std.proofs.Common.{◌≡◌, ◌∙◌, sym, ap, subst}
use Rattle.ax_base.specs.Document.{root}
use Rattle.ax_record.specs.ObjectTrees.{IsObjectTree}
use Rattle.ax_record.specs.Records.{tree}
use Rattle.ax_record.proofs.TreeOf.{tree_hangs}
use Rattle.ax_fresh.specs.Gathering.{with_records, put_order}
use Rattle.ax_fresh.proofs.Put.{all_records}
use Rattle.ax_fresh.proofs.walk.build.Goals as goal

pub focused_object-focus-requires-clause-records : goal.focused_object-focus-requires-clause-records
focused_object-focus-requires-clause-records g c =
    let d = c.args.dom.now in
    all_records d c.put_root.ensures.tree c.put_root.new.records (c.in_ok-put_root.ensures.records ∙ ap (λ es. with_records d es (put_order d root)) c.new-records.ensures)

pub new-tree-requires : goal.new-tree-requires
new-tree-requires g c =
    let d = c.args.dom.now in
    let all = all_records d c.put_root.ensures.tree c.put_root.new.records (c.in_ok-put_root.ensures.records ∙ ap (λ es. with_records d es (put_order d root)) c.new-records.ensures) in
    let same : record { entries = c.put_root.new.records; focus = c.focused_object-focus.result } ≡ tree d = λ i. record { entries = all i; focus = c.focused_object-focus.ensures i } in
    subst IsObjectTree (sym same) (tree_hangs d c.put_root.ensures.tree)

pub returns : goal.returns
returns g c =
    let d = c.args.dom.now in
    let all = all_records d c.put_root.ensures.tree c.put_root.new.records (c.in_ok-put_root.ensures.records ∙ ap (λ es. with_records d es (put_order d root)) c.new-records.ensures) in
    let same : record { entries = c.put_root.new.records; focus = c.focused_object-focus.result } ≡ tree d = λ i. record { entries = all i; focus = c.focused_object-focus.ensures i } in
    c.new-tree.ensures ∙ same

pub put_root-requires : goal.put_root-requires
put_root-requires g c = record { names = c.new-names.ensures c.args.dom.now }
