use Rattle.std.proofs.Common.{ap, sym, [], ◌++◌, ◌∷◌, ◌∙◌}
use Rattle.std.proofs.lemmas.Result.{on_ok_weaker}
use Rattle.std.specs.Option.{option_map_or}
use Rattle.ax_names.specs.Pieces.{piece_of}
use Rattle.ax_names.proofs.Known.{target_known}
use Rattle.ax_names.proofs.Referring.{spaced_behind}
use Rattle.said_pass.specs.Saids.{said_by_target}
use Rattle.said_pass.proofs.labelledby.push_token.Goals as goal

pub add_said-requires : goal.add_said-requires
add_said-requires c = record { known = target_known c.args.sources.now c.args.token.now c.in-Some.id (sym c.in-Some.ensures) }

pub returns-in-Some : goal.returns-in-Some
returns-in-Some c =
    let d = c.args.sources.now in
    on_ok_weaker c.add_said.result (λ added before is.
    spaced_behind c.pieces_tell.ensures.together before (said_by_target d c.in-Some.id) c.args.into.now c.push.new.self c.add_said.new.into is c.in_ok-push.ensures added
    ∙ ap (λ o. piece_of (before ++ 32 ∷ option_map_or (said_by_target d) o [])) c.in-Some.ensures) c.add_said.ensures
