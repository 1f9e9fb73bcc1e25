use Rattle.call_tests.proofs.said.a_label_names.Given as goal

-- the ledger of the test is the blank one
abbrev pub ghosts-ask : goal.ghosts-ask
ghosts-ask g a = record { name = a.blank.name; parts = a.blank.parts }
