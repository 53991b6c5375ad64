-- Sessions of a cluster of members.
use Rattle.model_kinds.specs.declared.operation.Op.{Op}
use Rattle.data_lattice.specs.declared.replica.Replica.{Ghosts as Data}
use Rattle.member_keeper.specs.declared.keeper.Keeper.{Ghosts as Keeping}
use Rattle.thread_machine.specs.declared.machine.Machine.{Ghosts}
use Rattle.thread_cell.specs.declared.receipt.Receipt.{Receipt}
use Rattle.thread_cell.specs.Values.{ClientParts}
use Rattle.member_node.specs.declared.input.Input.{Input}
use Rattle.member_node.specs.declared.node.Node.{Node}
use Rattle.member_node.specs.declared.reply.Fate.{Fate}
use Rattle.member_node.specs.declared.reply.Output.{Output}
use Rattle.member_node.specs.declared.reply.StepError.{StepError}

module _ {T K Kind Delta : Type 0} (data_of : Data T Kind Op Delta) (keeping : Keeping K) where
  -- what a client knows, and the calls that it made
  abbrev pub Session : Type 0
  Session = ClientParts (Node T K Kind Op Delta data_of keeping) (Input T Kind Op Delta data_of) Fate (Output T Kind Op Delta data_of) StepError

  -- what an answered call tells
  abbrev pub Receipted : Type 0
  Receipted = Receipt (Node T K Kind Op Delta data_of keeping) (Input T Kind Op Delta data_of) Fate (Output T Kind Op Delta data_of) StepError

  -- what the steps of members are
  abbrev pub Meaning : Type 1
  Meaning = Ghosts (Node T K Kind Op Delta data_of keeping) (Input T Kind Op Delta data_of) Fate (Output T Kind Op Delta data_of) StepError
