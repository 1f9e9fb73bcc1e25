use Rattle.live_tree.proofs.live.flush_uncounted.Given as goal

abbrev pub ghosts-counted_flush : goal.ghosts-counted_flush
ghosts-counted_flush a = record { name = a.blank.name; parts = a.blank.parts }
