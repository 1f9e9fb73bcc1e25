use Rattle.call_tests.proofs.documents.an_inserted_element_is_there.Given as goal

-- the ledger of the test is the blank one
abbrev pub ghosts-read : goal.ghosts-read
ghosts-read g a = record { name = a.blank.name; parts = a.blank.parts }
