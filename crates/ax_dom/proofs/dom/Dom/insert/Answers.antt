use Rattle.ax_dom.proofs.Inserted.{into_there, id_missing, document_inserted, kept_inserted, kept_same, same_document, marks_back}
use Rattle.std.proofs.Common.{◌∙◌, ap}
use Rattle.std.specs.Ordering.{nat_cmp}
use Rattle.std.specs.BTreeMap.{is_at}
use Rattle.std.specs.Set.{remove_key}
use Rattle.ax_dom.proofs.dom.Dom.insert.Goals as goal

pub insert_child-requires-clause-known : goal.insert_child-requires-clause-known
insert_child-requires-clause-known c = into_there _ _ _ c.self.invariant _ c.self.view_is _ _ c.args.before.now c.args.body c.requires

pub insert_child-requires-clause-fresh : goal.insert_child-requires-clause-fresh
insert_child-requires-clause-fresh c = id_missing _ _ _ c.self.invariant _ c.self.view_is _ _ c.args.before.now c.args.body c.requires

pub invariant_of-self-in-Ok : goal.invariant_of-self-in-Ok
invariant_of-self-in-Ok c = kept_inserted _ _ _ c.self.invariant _ c.self.view_is _ _ c.args.before.now c.args.body c.requires _ c.depth_of.ensures _ c.new-children.ensures _ c.in-Ok.ensures.ok _ c.in_ok-add.ensures.ok

pub invariant_of-self-in-Err : goal.invariant_of-self-in-Err
invariant_of-self-in-Err c = kept_same _ _ _ _ _ c.self.invariant c.in-Err.ensures.err (c.remove.ensures ∙ ap (remove_key (is_at (nat_cmp c.args.id))) c.in_ok-add.ensures.ok ∙ marks_back _ _ _ _ c.self.view_is _ c.requires.fresh)

pub returns-in-Ok-clause-ok : goal.returns-in-Ok-clause-ok
returns-in-Ok-clause-ok c = document_inserted _ _ _ c.self.invariant _ c.self.view_is _ _ c.args.before.now c.args.body c.requires _ c.depth_of.ensures _ c.new-children.ensures _ c.in-Ok.ensures.ok _ c.in_ok-add.ensures.ok

pub returns-in-Err-clause-err : goal.returns-in-Err-clause-err
returns-in-Err-clause-err c = same_document _ _ c.self.inside.focus _ _ _ c.self.view_is c.in-Err.ensures.err (c.remove.ensures ∙ ap (remove_key (is_at (nat_cmp c.args.id))) c.in_ok-add.ensures.ok ∙ marks_back _ _ _ _ c.self.view_is _ c.requires.fresh)

pub add-requires : goal.add-requires
add-requires c = rw (← c.self.view_is) at c.requires.fresh
