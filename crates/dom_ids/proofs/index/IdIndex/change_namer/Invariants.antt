use denote.Shadow.{shadow}
use denote.Text.{Utf8}
use Rattle.dom_ids.specs.Changing.{AreRising}
use Rattle.dom_ids.proofs.Changes.{NamedSoFar}
use Rattle.dom_ids.proofs.index.IdIndex.change_namer.Given as goal

-- the tokens so far are told, and what is left is text
abbrev pub invariant-loop : goal.invariant-loop
invariant-loop l = AreRising l.self × NamedSoFar l.change l.id l.text l.rest l.counter l.fn.self l.self × shadow (Utf8 l.rest)
