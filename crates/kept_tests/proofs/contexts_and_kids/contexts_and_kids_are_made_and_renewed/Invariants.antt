use Rattle.kept_tests.proofs.contexts_and_kids.contexts_and_kids_are_made_and_renewed.Given as goal

-- the ledger of the test is the blank one
abbrev pub ghosts-keep : goal.ghosts-keep
ghosts-keep g a = record { name = a.blank.name; parts = a.blank.parts }
