use Rattle.std.proofs.Common.{◌∙◌, ap, is_some}
use Rattle.std.specs.Ordering.{nat_cmp}
use Rattle.std.specs.BTreeMap.{is_at}
use Rattle.std.specs.Map.{remove_entry}
use Rattle.ax_base.proofs.Lookups.{remove_entry-insert_entry}
use Rattle.ax_dom.specs.NodeMaps.{entry_at}
use Rattle.ax_dom.proofs.Entries.{still_there, same_there}
use Rattle.ax_dom.proofs.node_map.NodeMap.insert_child.Goals as goal

pub link_child-requires : goal.link_child-requires
link_child-requires c = ap (λ es. is_some (entry_at es c.args.into)) c.in_ok-add.ensures.ok ∙ still_there c.args.self.now c.args.into c.args.id c.args.entry c.requires.known

pub returns-in-Ok-clause-ok : goal.returns-in-Ok-clause-ok
returns-in-Ok-clause-ok c s found = rw c.in_ok-add.ensures.ok at (c.in-Ok.ensures.ok s (ap (λ es. entry_at es c.args.into) c.in_ok-add.ensures.ok ∙ same_there c.args.self.now c.args.into c.args.id c.args.entry s c.requires.fresh found))

pub returns-in-Err-clause-err : goal.returns-in-Err-clause-err
returns-in-Err-clause-err c =
    c.remove.ensures ∙ ap (remove_entry (is_at (nat_cmp c.args.id))) (c.in-Err.ensures.err ∙ c.in_ok-add.ensures.ok)
    ∙ remove_entry-insert_entry c.args.id c.args.entry c.args.self.now c.requires.fresh
