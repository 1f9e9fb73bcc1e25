use Rattle.kept_tests.proofs.saids.names_are_made_and_renewed.Given as goal

-- the ledger of the test is the blank one
abbrev pub ghosts-name : goal.ghosts-name
ghosts-name g a = record { name = a.blank.name; parts = a.blank.parts }
