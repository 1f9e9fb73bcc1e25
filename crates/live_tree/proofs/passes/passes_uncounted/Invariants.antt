use Rattle.live_tree.proofs.passes.passes_uncounted.Given as goal

abbrev pub ghosts-counted_passes : goal.ghosts-counted_passes
ghosts-counted_passes a = record { name = a.blank.name; parts = a.blank.parts }
