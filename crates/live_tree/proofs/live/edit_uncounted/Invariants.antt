use Rattle.live_tree.proofs.live.edit_uncounted.Given as goal

abbrev pub ghosts-counted_edit : goal.ghosts-counted_edit
ghosts-counted_edit a = record { name = a.blank.name; parts = a.blank.parts }
