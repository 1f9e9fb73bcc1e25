use Rattle.ax_names.proofs.Referring.{joined_flat}
use Rattle.said_pass.specs.Saids.{said_by_token}
use Rattle.said_pass.proofs.Referring.{token_flat}
use Rattle.said_pass.proofs.labelledby.referred_by.Goals as goal

pub returns : goal.returns
returns c = joined_flat c.args.sources.now (said_by_token c.args.sources.now) (token_flat c.args.sources.now) c.args.text.now c.pieces_tell.ensures.apart c.in_ok-joined.joined c.flatten.new.self c.in_ok-joined.ensures c.flatten.ensures
