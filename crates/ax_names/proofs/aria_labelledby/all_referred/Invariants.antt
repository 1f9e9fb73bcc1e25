use denote.Shadow.{shadow}
use denote.Text.{Utf8}
use Rattle.ax_base.specs.References.{referred_text}
use Rattle.ax_names.specs.Sessions.{AreSayingsOf}
use Rattle.ax_names.proofs.Gathered.{IsGatheredSoFar}
use Rattle.ax_names.proofs.aria_labelledby.all_referred.Given as goal

-- what is kept is that of the tokens so far, and what is left is text
abbrev pub invariant-loop : goal.invariant-loop
invariant-loop g l = AreSayingsOf g.G.Gather.of l.dom l.sayings × IsGatheredSoFar g.G.Gather.of (referred_text l.dom) l.text l.rest l.counter l.joined × shadow (Utf8 l.rest)
