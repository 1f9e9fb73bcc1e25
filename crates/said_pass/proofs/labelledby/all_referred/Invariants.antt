use denote.Shadow.{shadow}
use denote.Text.{Utf8}
use Rattle.ax_names.proofs.Referring.{IsReferredSoFar}
use Rattle.said_pass.specs.Saids.{said_by_token}
use Rattle.said_pass.proofs.labelledby.all_referred.Given as goal

-- what is kept is that of the tokens so far, and what is left is text
abbrev pub invariant-loop : goal.invariant-loop
invariant-loop l = IsReferredSoFar (said_by_token l.sources) l.text l.rest l.counter l.joined × shadow (Utf8 l.rest)
