use Rattle.call_tests.proofs.said.a_text_is_said.Given as goal

-- the ledger of the test is the blank one
abbrev pub ghosts-say : goal.ghosts-say
ghosts-say g a = record { name = a.blank.name; parts = a.blank.parts }
