use Rattle.std.proofs.Common.{ap, ◌∙◌}
use Rattle.ax_names.specs.OwnTexts.{said_as_child}
use Rattle.ax_names.specs.Pieces.{piece_of}
use Rattle.ax_names.specs.Sessions.{referred_by}
use Rattle.said_pass.proofs.Speaking.{part_told}
use Rattle.said_pass.proofs.naming.name_from.Goals as goal

pub returns : goal.returns
returns c = λ i. record {
  part =
      part_told c.args.sources.now c.requires.tree c.args.id c.args.node.now c.requires.node c.in_ok-referred.referred c.args.content c.in_ok-part.part
      (c.in_ok-referred.ensures ∙ ap (λ t. piece_of (referred_by c.args.sources.now t)) c.text_of.ensures) c.requires.content
      (λ r w refers inside. c.in_ok-part.ensures r w refers inside ∙ (λ j. piece_of (said_as_child (c.node_hides-silent.ensures j) (c.node_role-role.ensures j) r c.args.node.now w))) i;
  name = c.in_ok-named.ensures.name i;
  description = c.in_ok-description.ensures i;
}
