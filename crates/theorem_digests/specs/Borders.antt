-- A small script whose settle prunes who left, where digests are the spellings themselves.
use Rattle.std.specs.Prelude.{◌≡◌, ℕ, List, [], ◌∷◌, true, None, Some, option_map}
use Rattle.model_history.specs.History.{is_pruned}
use Rattle.model_members.specs.DataType.{Replication}
use Rattle.model_members.specs.Node.{Node}
use Rattle.model_members.specs.Node.Level.{Local}
use Rattle.model_members.specs.Script.{ScriptStep, none_fails}
use Rattle.model_members.specs.Script.Ask.{Update, Flush}
use Rattle.model_members.specs.Script.ScriptStep.{Asks, Deliver, Remove, Settle}
use Rattle.theorem_operations.specs.Borders.{small, small_keys, the_key}
use Rattle.theorem_operations.specs.Scripts.{before_step}
use Rattle.theorem_settling.specs.Settling.{BlockedStays}
use Rattle.theorem_settling.specs.Scripts.{TellsSettled, DigestsTellUntil}
use Rattle.data_codec.specs.Entries.{entry_spelled}

-- one key, of which nothing but marks and numbers of records is spelled
abbrev pub spelled_whole : Replication (Unit {0}) (Unit {0}) ℕ
spelled_whole = record small { digest = entry_spelled (λ kind H. 1) (λ kind H. []) }

-- of three members, the last writes, tells the first, and is removed; then the others settle
abbrev pub left_and_settled : List (ScriptStep (Unit {0}))
left_and_settled = Asks 2 (Update the_key tt Local) ∷ Asks 2 Flush ∷ Deliver 2 0 None ∷ Remove 2 ∷ Settle ∷ []

-- then the second member's history has a prune of the last one
abbrev pub HasPruned : Type 0
HasPruned = option_map (λ (node : Node (Unit {0}) (Unit {0}) ℕ). is_pruned (node.entries the_key).history 2) ((before_step spelled_whole none_fails 3 small_keys left_and_settled 5).world.nodes 1) ≡ Some true

-- THE PREMISES CAN BE MET: the settle is done after nine messages, two in the first sweep, one in the second, and three in each that follows a tick, since the tick has changed the leader's entry
abbrev pub SettlePremises : Type 0
SettlePremises = TellsSettled spelled_whole none_fails 3 small_keys left_and_settled 4 9 0 × BlockedStays spelled_whole × DigestsTellUntil spelled_whole none_fails 3 small_keys left_and_settled 4 × HasPruned
