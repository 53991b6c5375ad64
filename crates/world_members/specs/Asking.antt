-- What a question of a script gives a member.
use Rattle.std.specs.Prelude.{List, Option, Some, option_map, slice_get}
use Rattle.model_members.specs.View.{View}
use Rattle.model_kinds.specs.declared.operation.Op.{Op}
use Rattle.data_lattice.specs.declared.replica.Replica.{Ghosts}
use Rattle.member_node.specs.declared.input.Input.{Input}
use Rattle.member_node.specs.declared.input.Input.TheVariants as input
use Rattle.script_reading.specs.declared.ask.Ask.{Ask}
use Rattle.script_reading.specs.declared.ask.Ask.TheVariants.{Update, Get, Flush, Gossip, Tick, Install}

-- the input that it is, among these views. There is none where it names none of them
abbrev pub input_of : {T Kind Delta : Type 0} {ghosts : Ghosts T Kind Op Delta} → List View → Ask → Option (Input T Kind Op Delta ghosts)
input_of views (Update key op level) = Some (input.Update key op level)
input_of views (Get key level) = Some (input.Get key level)
input_of views Flush = Some input.Flush
input_of views (Gossip to) = Some (input.GossipTo to)
input_of views Tick = Some input.PruneTick
input_of views (Install number) = option_map input.Install (slice_get views number)
