use Rattle.std.proofs.Common.{ℕ}
use Rattle.std.specs.Prelude.{Result, Ok, Err, IfOk}
use Rattle.model_history.specs.Texts.{Text}
use Rattle.model_history.specs.History.{History}
use Rattle.model_members.specs.Node.{Node as Meant}
use Rattle.model_kinds.specs.declared.shown.Shown.{Shown}
use Rattle.data_lattice.specs.declared.replica.Replica.{Ghosts}
use Rattle.member_keeper.specs.declared.keeper.Keeper.{Ghosts as Keeping}
use Rattle.member_node.specs.declared.node.Node.{Node}
use Rattle.member_node.specs.declared.operation.Look.{Look}
use Rattle.member_node.specs.Members.{StandsForNode}
use Rattle.member_node.specs.Counting.{LooksAt}
use Rattle.thread_cluster.specs.Messages.{Looks}
use Rattle.thread_cluster.proofs.node.NodeMember.look.Goals as goal

looks : {T K Kind Op Delta E : Type 0} {ghosts : Ghosts T Kind Op Delta} {keeping : Keeping K} (node : Node T K Kind Op Delta ghosts keeping) (op : ℕ) (r : Result Look E)
    → ((kinds : Text → Kind) (logs : Text → History Op) (meant : Meant Kind Op Shown) → StandsForNode ghosts.kind_of ghosts.IsDataOf kinds logs node meant → IfOk r (LooksAt meant op)) → IfOk r (Looks node op)
looks node op (Ok look) h = record { at = h }
looks node op (Err e) h = tt

pub returns : goal.returns
returns g c = looks c.args.self.now c.args.question.now c.look.result c.look.ensures
