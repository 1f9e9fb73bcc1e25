use Rattle.kept_tests.proofs.marked.edits_and_flushes_take_turns.Given as goal

-- the ledger of the test is the blank one
abbrev pub ghosts-take_turns : goal.ghosts-take_turns
ghosts-take_turns g a = record { name = a.blank.name; parts = a.blank.parts }
