use Rattle.std.proofs.Common.{◌≡◌, map, replicate}
use Rattle.world_places.specs.Channels.{channel_of, no_messages}
use Rattle.world_places.proofs.links.new_row.Given as goal

abbrev pub invariant-loop-number : goal.invariant-loop-number
invariant-loop-number g l = map channel_of l.row ≡ replicate l._number no_messages
