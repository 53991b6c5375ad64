use Rattle.std.proofs.Common.{◌≡◌, ◌∙◌, ap, List, map, replicate, arith}
use Rattle.model_history.specs.Table.{identity_limit}
use Rattle.world_places.specs.Channels.{Channel, channels_in, channel_at, no_messages}
use Rattle.world_places.proofs.Sendings.{channel_at-replicate}
use Rattle.world_places.proofs.links.Links.new.Goals as goal

pub returns : goal.returns
returns g c from to =
    let all : c.loop-number._number ≡ identity_limit = omega arith in
    ap (λ (rows : List (List (Channel g.row.M.Denot))). channel_at rows from to) (ap (map (channels_in {M = g.row.M.Denot})) c.into_vec.ensures ∙ c.loop-number.invariant ∙ ap (λ n. replicate n (replicate identity_limit no_messages)) all) ∙ channel_at-replicate identity_limit no_messages from to
