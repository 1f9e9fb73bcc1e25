use Rattle.ax_base.specs.References.{referred_node}
use Rattle.ax_base.specs.AccessibleNames.{content_text}
use Rattle.ax_names.proofs.session.Sayings.new.Goals as goal

pub returns : goal.returns
returns g c d = record { targets = tt; referred = c.new.ensures.sound (referred_node d); contents = c.new-2.ensures.sound (content_text d) }
