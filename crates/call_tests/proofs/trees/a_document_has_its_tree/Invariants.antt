use Rattle.call_tests.proofs.trees.a_document_has_its_tree.Given as goal

-- the ledger of the test is the blank one
abbrev pub ghosts-look : goal.ghosts-look
ghosts-look g a = record { name = a.blank.name; parts = a.blank.parts }
