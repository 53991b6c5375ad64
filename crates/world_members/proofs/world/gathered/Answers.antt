use Rattle.std.proofs.Common.{◌≡◌, length}
use Rattle.std.proofs.lemmas.Iterator.{YieldsList-from_zip}
use Rattle.std.proofs.lemmas.Iterator.Adapters.{YieldsList-from_vec}
use Rattle.std.proofs.lemmas.Iterator.Consumers.{YieldsList-end}
use Rattle.world_places.proofs.Starting.{one_gathered, all_gathered}
use Rattle.world_members.proofs.world.gathered.Goals as goal

pub loop-node-preserved : goal.loop-node-preserved
loop-node-preserved g c = (
  (tt, tt),
  tt,
  one_gathered c.args.room c.loop-node.keepers c.give_back.new.keepers c.loop-node.yielded c.in-Some.node c.in-Some.spare c.loop-node.invariant.2 c.give_back.ensures.items c.give_back.ensures.len c.give_back.ensures.capacity,
)

pub returns : goal.returns
returns g c =
    let it = c.into_iter-node-iterator.result in
    let same = c.into_iter-node-iterator.ensures.into_iter_gives in
    let first = c.zip-node-items.ensures.first in
    let a : it.a.rest.items ≡ c.args.nodes.items = cc (same, first, c.into_iter.ensures.rest) in
    let b : it.a.rest.len ≡ length c.args.nodes.items = cc (same, first, c.into_iter.ensures.len, c.args.nodes.ok.0) in
    let d : it.b.rest.items ≡ c.args.spare.items = cc (same, c.zip-node-items.ensures.second.0) in
    let e : it.b.rest.len ≡ length c.args.spare.items = cc (same, c.zip-node-items.ensures.second.1, c.args.spare.ok.0) in
    let ends = YieldsList-end (YieldsList-from_zip (YieldsList-from_vec c.args.nodes.items a b) (YieldsList-from_vec c.args.spare.items d e)) c.loop-node.yielded c.loop-node.node-iterator c.loop-node.yielded_by c.next.result c.next.new.self c.in-None.is c.next.ensures.steps in
    all_gathered c.args.room c.loop-node.keepers c.loop-node.yielded c.args.nodes.items c.args.spare.items ends.0 c.loop-node.invariant.2
