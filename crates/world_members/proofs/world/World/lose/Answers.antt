use Rattle.std.proofs.Common.{◌<◌, ◌≤◌, refl, arith}
use Rattle.model_history.specs.Table.{identity_limit}
use Rattle.world_places.specs.Channels.{channel_at, count_on}
use Rattle.world_members.proofs.Steps.{plays_lost, plays_none}
use Rattle.world_members.proofs.world.World.lose.Goals as goal

pub returns-then-index-sent : goal.returns-then-index-sent
returns-then-index-sent g c =
    let old = c.args.self.now in
    let small : c.args.from < identity_limit = omega arith in
    let few : c.args.to < identity_limit = omega arith in
    let more = c.sent.ensures.count in
    let within : c.next-index.result < count_on (channel_at old.links c.args.from c.args.to) = omega (arith, more, c.if-index-sent.true) in
    plays_lost g.T.SpelledData old c.args.from c.args.to small few c.next-index.result c.next-index.ensures c.line.result _ c.line.ensures (record { views = refl; keys = refl; spare = refl; nodes = refl }) (c.pass.ensures within) within

pub returns : goal.returns
returns g c =
    let old = c.args.self.now in
    let small : c.args.from < identity_limit = omega arith in
    let few : c.args.to < identity_limit = omega arith in
    let more = c.sent.ensures.count in
    let past : count_on (channel_at old.links c.args.from c.args.to) ≤ c.next-index.result = omega (arith, more, c.if-index-sent.false) in
    plays_none g.T.SpelledData old c.args.from c.args.to small few c.next-index.result c.next-index.ensures c.line-2.result c.line-2.ensures past
