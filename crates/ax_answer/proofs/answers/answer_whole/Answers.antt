use Rattle.std.proofs.Common.{rules, ◌≡◌, ◌∙◌, ap, sym, SFits, w32, to_z-of_z}
use Rattle.std.specs.Prelude.{ℕ, Option, Some, None}
use Rattle.std.specs.Option.{option_map_or}
use Rattle.ax_ask.specs.declared.replies.Reply.TheVariants.{Nothing, Hit}
use Rattle.hit_test.specs.Hits.{hit}
use Rattle.ax_answer.specs.Answers.{answer_whole, bounds_reply, told}
use Rattle.ax_answer.proofs.answers.answer_whole.Goals as goal

pub returns-in-BoundsOf : goal.returns-in-BoundsOf
returns-in-BoundsOf g c =
    c.told_bounds.ensures ∙ (ap (told bounds_reply) c.range_bounds.ensures ∙ ap (answer_whole (g.T.TreeView.tree c.args.t.now)) (sym c.in-BoundsOf.is))

pub returns-in-Some-hit : goal.returns-in-Some-hit
returns-in-Some-hit g c =
    let fits_x : SFits w32 c.in-Hit.x = search rules in
    let fits_y : SFits w32 c.in-Hit.y = search rules in
    let found : Some c.in-Some-hit.id ≡ hit (g.T.TreeView.tree c.args.t.now) c.in-Hit.x c.in-Hit.y = simp to_z-of_z at (c.in-Some-hit.ensures) in
    ap (λ (o : Option ℕ). option_map_or Hit o Nothing) found ∙ ap (answer_whole (g.T.TreeView.tree c.args.t.now)) (sym c.in-Hit.is)

pub returns-in-None-hit : goal.returns-in-None-hit
returns-in-None-hit g c =
    let fits_x : SFits w32 c.in-Hit.x = search rules in
    let fits_y : SFits w32 c.in-Hit.y = search rules in
    let found : None ≡ hit (g.T.TreeView.tree c.args.t.now) c.in-Hit.x c.in-Hit.y = simp to_z-of_z at (c.in-None-hit.ensures) in
    ap (λ (o : Option ℕ). option_map_or Hit o Nothing) found ∙ ap (answer_whole (g.T.TreeView.tree c.args.t.now)) (sym c.in-Hit.is)
