use Rattle.trial_turns.proofs.hearing.turns_after.Given as goal

abbrev pub ghosts-two_turns : goal.ghosts-two_turns
ghosts-two_turns g a = record { name = a.blank.name; parts = a.blank.parts }
