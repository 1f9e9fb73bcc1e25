use Rattle.std.proofs.Common.{refl, ◌≡◌, ◌∙◌, ◌++◌, true, sym, ap, subst, arith, append-nil}
use Rattle.std.proofs.lemmas.Result.{on_ok_weaker}
use Rattle.std.specs.List.{flat_map}
use Rattle.std.specs.Option.{unwrap_or}
use Rattle.ax_base.specs.Document.{IsChild, has, body, spot, depth}
use Rattle.ax_base.specs.States.{sets_live}
use Rattle.ax_base.specs.Kids.{kids, taken}
use Rattle.ax_base.proofs.KidsLaws.{live-child}
use Rattle.ax_base.proofs.Objects.{objects_known}
use Rattle.ax_dom.specs.declared.cell.Cell.{Cell}
use Rattle.ax_base.specs.Roles.{ignored}
use Rattle.ax_roles.proofs.Parts.{by_excluded, by_ignored, by_included}
use Rattle.ax_fresh.specs.Gathering.{with_records, put_order, AreKidsOf}
use Rattle.ax_fresh.proofs.Gathered.{child_of, cell_is, descends, shut_kids, shut_by_role, out_by_itself, shown_child, taken_hidden, live_is, more_kids, more_records, all_kids, all_put, hangs, taken_past, child_object, put_last}
use Rattle.ax_fresh.proofs.walk.+walk.Goals as goal

pub gather-gather_child-requires : goal.gather-gather_child-requires
gather-gather_child-requires g t c κs within =
    let d = c.args.dom.now in
    let tree = c.children-child-items.ensures.tree in
    let child : IsChild d c.args.node c.child-item.result = child_of d c.args.node c.loop-child.child-index _ _ c.children-child-items.ensures.value (omega arith) c.child-item.is in
    let l = c.decreases in
    let m = descends d tree c.args.node c.child-item.result child in
    (omega arith, (within, (tree.known c.args.node c.child-item.result child, (out_by_itself d tree c.args.node c.child-item.result child c.requires.visible, (live-child d tree c.args.node c.child-item.result child ∙ ap (unwrap_or (sets_live (spot d c.child-item.result))) (sym c.requires.live), (hangs d tree c.args.above c.args.node c.child-item.result child c.requires.hung, c.loop-child.invariant.2))))))

pub gather-loop-child-preserved : goal.gather-loop-child-preserved
gather-loop-child-preserved g t c =
    let d = c.args.dom.now in
    let tree = c.children-child-items.ensures.tree in (
      more_kids d tree c.args.node c.loop-child.child-index c.child-item.result _ _ _ c.children-child-items.result.now (omega arith) c.child-item.is c.loop-child.invariant.0 c.in_ok-gather_child.ensures.kids,
      more_records d tree c.args.node c.loop-child.child-index c.child-item.result _ _ _ c.children-child-items.result.now (omega arith) c.child-item.is c.loop-child.invariant.1 c.in_ok-gather_child.ensures.records,
      c.in_ok-gather_child.ensures.names,
    )

pub gather-returns-clause-kids : goal.gather-returns-clause-kids
gather-returns-clause-kids g t c =
    all_kids c.args.dom.now c.children-child-items.ensures.tree c.args.node c.loop-child.child-index _ _ c.children-child-items.result.now c.children-child-items.ensures.value c.loop-child-test.false c.loop-child.invariant.0

pub gather-returns-clause-records : goal.gather-returns-clause-records
gather-returns-clause-records g t c =
    all_put c.args.dom.now c.children-child-items.ensures.tree c.args.node c.loop-child.child-index _ _ c.children-child-items.result.now c.children-child-items.ensures.value c.loop-child-test.false c.loop-child.invariant.1

pub gather_child-gather_inside-requires : goal.gather_child-gather_inside-requires
gather_child-gather_inside-requires g t c κs within =
    let d = c.args.dom.now in
    let tree = c.in-Some.ensures.tree in
    let part = by_ignored c.node_hides-hidden.result (ignored (record { id = c.args.child; body = c.in-Some.cell.now.body })) c.in-Ignored.ensures in
    let is_body : c.in-Some.cell.now.body ≡ body d c.args.child = ap (λ (x : Cell). x.body) (cell_is d c.args.child c.in-Some.cell.now c.in-Some.ensures.value) in
    let visible = shown_child d tree c.args.child c.in-Some.cell.now.body c.node_hides-hidden.result is_body c.node_hides-hidden.ensures part.0 c.requires.visible in
    let gives : taken d c.args.child ≡ kids d c.args.child = taken_past d tree c.args.child c.in-Some.cell.now.body (ignored (record { id = c.args.child; body = c.in-Some.cell.now.body })) is_body refl part.1 visible in
    let shut = c.prunes-shut.ensures ∙ shut_by_role d tree c.args.child c.node_role-role.result c.in-Some.cell.now.body c.requires.known is_body c.node_role-role.ensures visible in
    let same = live_is d tree c.args.child c.in-Some.cell.now.body c.node_role-role.result c.unwrap_or-live.result c.args.around is_body c.node_role-role.ensures (c.unwrap_or-live.ensures ∙ ap (λ o. unwrap_or o c.args.around) c.live_by.ensures) c.requires.around in
    let l = c.decreases in
    (omega arith, (within, (tree, (c.requires.known, (shut, (same, (subst (AreKidsOf d c.args.above) gives c.requires.hung, c.requires.names)))))))

pub gather_child-put_object-requires : goal.gather_child-put_object-requires
gather_child-put_object-requires g t c κs within =
    let d = c.args.dom.now in
    let tree = c.in-Some.ensures.tree in
    let part = by_included c.node_hides-hidden.result (ignored (record { id = c.args.child; body = c.in-Some.cell.now.body })) c.in-Included.ensures in
    let cell = cell_is d c.args.child c.in-Some.cell.now c.in-Some.ensures.value in
    let l = c.decreases in
    let m : depth d c.in-Some.cell.now.id ≡ depth d c.args.child = ap (λ (x : Cell). depth d x.id) cell in
    let is_body : c.in-Some.cell.now.body ≡ body d c.args.child = ap (λ (x : Cell). x.body) cell in
    let visible = shown_child d tree c.args.child c.in-Some.cell.now.body c.node_hides-hidden.result is_body c.node_hides-hidden.ensures part.0 c.requires.visible in
    let same = live_is d tree c.args.child c.in-Some.cell.now.body c.node_role-role.result c.unwrap_or-live.result c.args.around is_body c.node_role-role.ensures (c.unwrap_or-live.ensures ∙ ap (λ o. unwrap_or o c.args.around) c.live_by.ensures) c.requires.around in
    let told = child_object d tree c.args.above c.args.child c.in-Some.cell.now c.node_role-role.result (ignored (record { id = c.args.child; body = c.in-Some.cell.now.body })) cell c.node_role-role.ensures refl part.1 visible c.unwrap_or-live.result same c.requires.hung in
    (omega arith, (within, (tree, (told.0, (told.1.0, (told.1.1.0, (told.1.1.1.0, (told.1.1.1.1.0, (told.1.1.1.1.1, c.requires.names)))))))))

pub gather_child-returns-in-Excluded-clause-kids : goal.gather_child-returns-in-Excluded-clause-kids
gather_child-returns-in-Excluded-clause-kids g t c =
    let d = c.args.dom.now in
    let tree = c.in-Some.ensures.tree in
    let part = by_excluded c.node_hides-hidden.result (ignored (record { id = c.args.child; body = c.in-Some.cell.now.body })) c.in-Excluded.ensures in
    let is_body : c.in-Some.cell.now.body ≡ body d c.args.child = ap (λ (x : Cell). x.body) (cell_is d c.args.child c.in-Some.cell.now c.in-Some.ensures.value) in
    let none = taken_hidden d tree c.args.child c.in-Some.cell.now.body c.node_hides-hidden.result is_body c.node_hides-hidden.ensures part c.requires.visible in
    sym (ap (λ ks. c.args.found.now ++ ks) none ∙ append-nil c.args.found.now)

pub gather_child-returns-in-Excluded-clause-records : goal.gather_child-returns-in-Excluded-clause-records
gather_child-returns-in-Excluded-clause-records g t c =
    let d = c.args.dom.now in
    let tree = c.in-Some.ensures.tree in
    let part = by_excluded c.node_hides-hidden.result (ignored (record { id = c.args.child; body = c.in-Some.cell.now.body })) c.in-Excluded.ensures in
    let is_body : c.in-Some.cell.now.body ≡ body d c.args.child = ap (λ (x : Cell). x.body) (cell_is d c.args.child c.in-Some.cell.now c.in-Some.ensures.value) in
    let none = taken_hidden d tree c.args.child c.in-Some.cell.now.body c.node_hides-hidden.result is_body c.node_hides-hidden.ensures part c.requires.visible in
    sym (ap (λ ks. with_records d c.args.records.now (flat_map (put_order d) ks)) none)

pub gather_inside-returns-then-shut-clause-kids : goal.gather_inside-returns-then-shut-clause-kids
gather_inside-returns-then-shut-clause-kids g t c =
    let d = c.args.dom.now in
    let none = shut_kids d c.requires.tree c.args.node (sym c.requires.shut ∙ c.if-shut.true) in
    sym (ap (λ ks. c.args.found.now ++ ks) none ∙ append-nil c.args.found.now)

pub gather_inside-returns-then-shut-clause-records : goal.gather_inside-returns-then-shut-clause-records
gather_inside-returns-then-shut-clause-records g t c =
    let d = c.args.dom.now in
    let none = shut_kids d c.requires.tree c.args.node (sym c.requires.shut ∙ c.if-shut.true) in
    sym (ap (λ ks. with_records d c.args.records.now (flat_map (put_order d) ks)) none)

pub put_object-gather_inside-requires : goal.put_object-gather_inside-requires
put_object-gather_inside-requires g t c κs within =
    let d = c.args.dom.now in
    let id = c.args.cell.now.id in
    let there : has d id ≡ true = objects_known d c.requires.tree id c.requires.object in
    let l = c.decreases in
    (omega arith, (within, (c.requires.tree, (there, (c.prunes-shut.ensures ∙ shut_by_role d c.requires.tree id c.args.role c.args.cell.now.body there (ap (λ (x : Cell). x.body) c.requires.cell) c.requires.role c.requires.visible, (c.requires.live, ((c.requires.object, λ k inside. inside), c.requires.names)))))))

pub put_object-returns-clause-records : goal.put_object-returns-clause-records
put_object-returns-clause-records g t c =
    on_ok_weaker c.put.result (λ put. put_last c.args.dom.now c.requires.tree c.args.cell.now.id _ _ _ _ c.in_ok-gather_inside.ensures.records put c.in_ok-object.ensures.value) c.put.ensures.ok
