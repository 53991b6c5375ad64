-- What preparing a step answers.
use Rattle.model_history.specs.Texts.{Text}
use Rattle.model_history.specs.History.{History}
use Rattle.model_members.specs.Node as nodes
use Rattle.model_members.specs.Step.{step}
use Rattle.model_kinds.specs.declared.shown.Shown.{Shown}
use Rattle.data_lattice.specs.declared.replica.Replica.{Ghosts}
use Rattle.data_lattice.specs.declared.spelled.SpelledData.{Ghosts as Spelling}
use Rattle.member_keeper.specs.declared.keeper.Keeper.{Ghosts as Keeping}
use Rattle.member_node.specs.declared.node.Node.{Node}
use Rattle.member_node.specs.declared.input.Input.{Input}
use Rattle.member_node.specs.declared.plan.Prepared.{Prepared}
use Rattle.member_node.specs.Members.{IsSafe, StandsForNode}
use Rattle.member_node.specs.Inputs.{StandsForInput}
use Rattle.member_node.specs.declared.reply.Output.{Output}
use Rattle.member_node.specs.Steps.{replication, MakesStep}
use Rattle.member_node.specs.Planning.{IsSoundPlan, IsPrepared}
use Rattle.member_node.specs.Operations.{known, CanChange, opens_one}
use Rattle.member_node.specs.Outputs.{is_pending}
use Rattle.std.specs.Prelude.{◌≡◌}

module _ {T K Kind Op Delta : Type 0} {ghosts : Ghosts T Kind Op Delta} {keeping : Keeping K} where
  -- what was prepared can be carried out by this member
  pub record IsSoundFor (node : Node T K Kind Op Delta ghosts keeping) (prepared : Prepared T Kind Op Delta ghosts) : Type 0 where
    pub plan : IsSoundPlan ghosts node.id node.steps node.keys.items prepared.plan
    pub operations : CanChange node.operations prepared.operations
    pub pending : is_pending prepared.output.reply ≡ opens_one prepared.operations

  -- it is that of the model's step for the input, as if the store worked
  abbrev pub Prepares : Spelling T Kind Op Delta → Node T K Kind Op Delta ghosts keeping → Input T Kind Op Delta ghosts → Prepared T Kind Op Delta ghosts → Type 0
  Prepares spelling code input prepared =
      (kinds : Text → Kind) (logs : Text → History Op) (node : nodes.Node Kind Op Shown) (sent : nodes.Input Op) → StandsForNode ghosts.kind_of ghosts.IsDataOf kinds logs code node → StandsForInput kinds logs code.keys.items input sent
      → IsSafe logs (step (replication ghosts spelling) node sent nodes.Fate.NoStore).node → IsPrepared kinds logs code.keys.items (known code.operations) node (step (replication ghosts spelling) node sent nodes.Fate.NoStore) prepared

  -- a step is made, for each input for which it was prepared
  abbrev pub MakesPrepared : Spelling T Kind Op Delta → Node T K Kind Op Delta ghosts keeping → Prepared T Kind Op Delta ghosts → Output T Kind Op Delta ghosts → Node T K Kind Op Delta ghosts keeping → Type 0
  MakesPrepared spelling old prepared output new = (input : Input T Kind Op Delta ghosts) → Prepares spelling old input prepared → MakesStep spelling old input output new
