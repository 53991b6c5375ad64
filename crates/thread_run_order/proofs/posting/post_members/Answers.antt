use Rattle.std.proofs.Common.{ℕ}
use Rattle.std.specs.Prelude.{option_map}
use Rattle.thread_machine.specs.Machines.{machine_at}
use Rattle.thread_cell.specs.Entries.{history_at}
use Rattle.member_node.specs.declared.node.Node.{Node}
use Rattle.model_kinds.specs.declared.operation.Op.{Op}
use Rattle.thread_run_order.proofs.Finishing.{ok_so, sent_by_eight}
use Rattle.thread_run_order.proofs.posting.post_members.Goals as goal

pub returns : goal.returns
returns g c =
    let ids = λ (place : ℕ). option_map (λ (node : Node g.row.T.Denot g.row.K.Denot g.row.T-Kind.Denot Op g.row.T-Delta.Denot g.T.Replica g.K.Keeper). node.id) (machine_at c.args.members.now place) in
    ok_so c.post_of-8.result _ _ (λ last. sent_by_eight {keeping = g.K.Keeper} ids (history_at c.args.histories) c.args.links.now c.post_of.new.links c.post_of-2.new.links c.post_of-3.new.links c.post_of-4.new.links c.post_of-5.new.links c.post_of-6.new.links c.post_of-7.new.links c.post_of-8.new.links c.in_ok-post_of.ensures c.in_ok-post_of-2.ensures c.in_ok-post_of-3.ensures c.in_ok-post_of-4.ensures c.in_ok-post_of-5.ensures c.in_ok-post_of-6.ensures c.in_ok-post_of-7.ensures last) c.post_of-8.ensures
