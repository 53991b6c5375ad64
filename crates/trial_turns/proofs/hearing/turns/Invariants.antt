use Rattle.member_views.specs.Sound.{last_view}
use Rattle.world_places.specs.Places.{identity_at}
use Rattle.trial_turns.proofs.hearing.turns.Given as goal

-- the table that was just made, and the members of the last view
abbrev pub ghosts-turns_named-N-Name : goal.ghosts-turns_named-N-Name
ghosts-turns_named-N-Name g a = record { table = a.unnamed.table }

abbrev pub ghosts-turns_named-N-Section : goal.ghosts-turns_named-N-Section
ghosts-turns_named-N-Section g a = record { ids = identity_at (last_view a.views) }
