use Rattle.std.proofs.Common.{◌≡◌, ◌∙◌, Contains, sym, ap, subst}
use Rattle.std.specs.Prelude.{◌==◌, unwrap_or}
use Rattle.ax_base.specs.declared.states.Live.TheVariants.{Off}
use Rattle.ax_base.specs.Document.{root, body}
use Rattle.ax_base.specs.Roles.{role_of}
use Rattle.ax_base.specs.Context.{is_out, live_at}
use Rattle.ax_base.specs.Kids.{objects}
use Rattle.ax_base.proofs.KidsLaws.{root_visible, live-root}
use Rattle.ax_base.proofs.Objects.{root_is_object}
use Rattle.ax_dom.specs.declared.cell.Cell.{Cell}
use Rattle.ax_record.specs.Records.{object_parent}
use Rattle.ax_record.proofs.TreeOf.{object_parent-root}
use Rattle.ax_fresh.proofs.Gathered.{cell_is, live_is}
use Rattle.ax_fresh.proofs.walk.put_root.Goals as goal

pub put_object-requires-clause-object : goal.put_object-requires-clause-object
put_object-requires-clause-object g c =
    let d = c.args.dom.now in
    let id_is : c.in-Some.cell.now.id ≡ root = ap (λ (x : Cell). x.id) (cell_is d root c.in-Some.cell.now c.in-Some.ensures.value) in
    subst (Contains (objects d)) (sym id_is) (root_is_object d c.in-Some.ensures.tree)

pub put_object-requires-clause-visible : goal.put_object-requires-clause-visible
put_object-requires-clause-visible g c =
    let d = c.args.dom.now in
    let id_is : c.in-Some.cell.now.id ≡ root = ap (λ (x : Cell). x.id) (cell_is d root c.in-Some.cell.now c.in-Some.ensures.value) in
    ap (is_out d) id_is ∙ root_visible d c.in-Some.ensures.tree

pub put_object-requires-clause-parent : goal.put_object-requires-clause-parent
put_object-requires-clause-parent g c =
    let d = c.args.dom.now in
    let id_is : c.in-Some.cell.now.id ≡ root = ap (λ (x : Cell). x.id) (cell_is d root c.in-Some.cell.now c.in-Some.ensures.value) in
    sym (ap (object_parent d) id_is ∙ object_parent-root d c.in-Some.ensures.tree)

pub put_object-requires-clause-live : goal.put_object-requires-clause-live
put_object-requires-clause-live g c =
    let d = c.args.dom.now in
    let t = c.in-Some.ensures.tree in
    let cell = cell_is d root c.in-Some.cell.now c.in-Some.ensures.value in
    let id_is : c.in-Some.cell.now.id ≡ root = ap (λ (x : Cell). x.id) cell in
    let is_body : c.in-Some.cell.now.body ≡ body d root = ap (λ (x : Cell). x.body) cell in
    let is_role = c.node_role-role.ensures ∙ ap (λ n. role_of (n == root) c.in-Some.cell.now.body) id_is in
    live_is d t root c.in-Some.cell.now.body c.node_role-role.result c.unwrap_or-live.result Off is_body is_role (c.unwrap_or-live.ensures ∙ ap (λ o. unwrap_or o Off) c.live_by.ensures) (live-root d t)
    ∙ ap (live_at d) (sym id_is)
