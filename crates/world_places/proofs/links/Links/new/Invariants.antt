use Rattle.std.proofs.Common.{◌≡◌, map, replicate}
use Rattle.model_history.specs.Table.{identity_limit}
use Rattle.world_places.specs.Channels.{channels_in, no_messages}
use Rattle.world_places.proofs.links.Links.new.Given as goal

abbrev pub invariant-loop-number : goal.invariant-loop-number
invariant-loop-number g l = map channels_in l.rows ≡ replicate l._number (replicate identity_limit no_messages)
