use Rattle.trial_data.proofs.digest_times.times_of_full.Given as goal

abbrev pub ghosts-times : goal.ghosts-times
ghosts-times g a = record { name = a.blank.name; parts = a.blank.parts }
