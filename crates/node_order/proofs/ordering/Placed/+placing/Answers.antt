use Rattle.std.proofs.Common.{◌≡◌, ◌++◌, ◌∷◌, [], cond, true, List, ℕ, sym}
use Rattle.ax_dom.specs.Among.{is_in}
use Rattle.node_order.specs.Parents.{ArePlaced}
use Rattle.node_order.proofs.Placing.{if_given, placed_more, added_in, kept_all, ready_below, ready_top}
use Rattle.node_order.proofs.ordering.Placed.+placing.Goals as goal

pub returns-in_ok-with_ancestors-in-Some-clause-placed : goal.returns-in_ok-with_ancestors-in-Some-clause-placed
returns-in_ok-with_ancestors-in-Some-clause-placed t c =
    let d = c.args.parents.now.document in
    let ns = c.args.parents.now.nodes in
    let now = c.in_ok-with_ancestors-in-Some.field-0 in
    let ready = ready_below d c.in-Some.ensures.node.tree now c.args.id c.in-Some.parent (sym c.in-Some.ensures.value) c.in_ok-with_ancestors-in-Some.ensures.added in
    if_given c.with.result (λ (p : List ℕ). p ≡ cond (is_in now c.args.id) now (now ++ c.args.id ∷ [])) (ArePlaced d ns) c.with.ensures
    (λ p is. placed_more d ns now c.in_ok-with_ancestors-in-Some.ensures.placed c.args.id c.in-Some.ensures.node.known c.requires.among ready p is)

pub returns-in_ok-with_ancestors-in-Some-clause-added : goal.returns-in_ok-with_ancestors-in-Some-clause-added
returns-in_ok-with_ancestors-in-Some-clause-added t c =
    let now = c.in_ok-with_ancestors-in-Some.field-0 in
    if_given c.with.result (λ (p : List ℕ). p ≡ cond (is_in now c.args.id) now (now ++ c.args.id ∷ [])) (λ p. is_in p c.args.id ≡ true) c.with.ensures (λ p is. added_in now p c.args.id is)

pub returns-in_ok-with_ancestors-in-Some-clause-keeps : goal.returns-in_ok-with_ancestors-in-Some-clause-keeps
returns-in_ok-with_ancestors-in-Some-clause-keeps t c =
    let now = c.in_ok-with_ancestors-in-Some.field-0 in
    if_given c.with.result (λ (p : List ℕ). p ≡ cond (is_in now c.args.id) now (now ++ c.args.id ∷ [])) (λ p. (n : ℕ) → is_in c.args.self n ≡ true → is_in p n ≡ true) c.with.ensures
    (λ p is n on. kept_all now p c.args.id is n (c.in_ok-with_ancestors-in-Some.ensures.keeps n on))

pub returns-in-None-clause-placed : goal.returns-in-None-clause-placed
returns-in-None-clause-placed t c =
    let d = c.args.parents.now.document in
    let ns = c.args.parents.now.nodes in
    let now = c.args.self in
    let ready = ready_top d c.in-None.ensures.node.tree now c.args.id c.in-None.ensures.value in
    if_given c.with-in-None.result (λ (p : List ℕ). p ≡ cond (is_in now c.args.id) now (now ++ c.args.id ∷ [])) (ArePlaced d ns) c.with-in-None.ensures
    (λ p is. placed_more d ns now c.requires.placed c.args.id c.in-None.ensures.node.known c.requires.among ready p is)
