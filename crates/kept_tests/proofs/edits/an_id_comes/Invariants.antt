use Rattle.kept_tests.proofs.edits.an_id_comes.Given as goal

-- the ledger of the test is the blank one
abbrev pub ghosts-follow : goal.ghosts-follow
ghosts-follow g a = record { name = a.blank.name; parts = a.blank.parts }
