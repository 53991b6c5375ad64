-- The operations of a member.
--     known, kept_at        all of them by number, and those that were not forgotten
--     HasRoom, CanChange        one more has a place, and a change is of one that is kept
--     after_store, changed_operations        what a step makes of them
--     result_meant, finished_meant        how one ended
--     open_in, finished_at        those that are open, and how one of a number ended
--     StandForOperations        they are those of a member of the model
use Rattle.std.specs.Prelude.{◌≡◌, ℕ, ◌+◌, ◌-◌, ◌^◌, ◌<◌, ◌≤◌, ◌==◌, List, [], ◌∷◌, ◌++◌, length, replicate, slice_get, slice_set, vec_len, vec_capacity, Bool, true, false, if◌then◌else◌, nat_lt, Option, Some, None, MatchOption, find, option_map}
use Rattle.model_members.specs.Node as nodes
use Rattle.model_members.specs.Node.{OpenOperation, Result as Meant}
use Rattle.model_kinds.specs.declared.shown.Shown.{Shown}
use Rattle.member_quorum.specs.Counts.{answered_by}
use Rattle.member_node.specs.declared.operation.Asked.{Asked}
use Rattle.member_node.specs.declared.operation.Finished as ended
use Rattle.member_node.specs.declared.operation.Operation.{Operation}
use Rattle.member_node.specs.declared.operation.Operation.TheVariants.{Open, Finished, TimedOut}
use Rattle.member_node.specs.declared.operation.OperationResult.{OperationResult}
use Rattle.member_node.specs.declared.operation.OperationResult.TheVariants.{Wrote, Read, ReadDeleted, ReadNothing}
use Rattle.member_node.specs.declared.operations.Operations.{Operations}
use Rattle.member_node.specs.declared.operations.NextOperation.{NextOperation}
use Rattle.member_node.specs.declared.operations.OperationChange.{OperationChange}
use Rattle.member_node.specs.declared.operations.OperationChange.TheVariants.{Same, Opened, Put}
use Rattle.member_node.specs.declared.reply.Fate.{Fate}
use Rattle.member_node.specs.declared.reply.Fate.TheVariants.{StoreFailed}

-- BY NUMBER

-- all that were ever opened, of which the forgotten ones count as closed
abbrev pub known : Operations → List Operation
known operations = replicate operations.forgotten TimedOut ++ operations.kept.items

-- the operation of a number, if it was opened and not forgotten
abbrev pub kept_at : Operations → ℕ → Option Operation
kept_at operations op = if nat_lt op operations.forgotten then None else slice_get operations.kept.items (op - operations.forgotten)

-- the number of the next fits a word
abbrev pub AreNumbered : Operations → Type 0
AreNumbered operations = length (known operations) < 2 ^ 64

-- CHANGES

-- after a failed store no operation is opened
abbrev pub after_store : Fate → OperationChange → OperationChange
after_store StoreFailed (Opened next) = Same
after_store _ change = change

-- whether one is opened
abbrev pub opens_one : OperationChange → Bool
opens_one (Opened next) = true
opens_one _ = false

abbrev pub changed_operations : List Operation → OperationChange → List Operation
changed_operations operations Same = operations
changed_operations operations (Opened next) = operations ++ Open next.asked ∷ []
changed_operations operations (Put op operation) = slice_set operations op operation

-- the kept ones have room for one more, or an empty vector is there that has room for them and one more
abbrev pub HasRoom : Operations → NextOperation → Type 0
HasRoom operations next = vec_capacity operations.kept ≤ vec_len operations.kept → MatchOption next.spare ⊥ (λ v. (vec_len v ≡ 0) × (vec_len operations.kept < vec_capacity v))

-- what changes is kept
abbrev pub CanChange : Operations → OperationChange → Type 0
CanChange operations Same = Unit {0}
CanChange operations (Opened next) = HasRoom operations next
CanChange operations (Put op operation) = (operations.forgotten ≤ op) × (op < length (known operations))

-- WHAT THEY STAND FOR

abbrev pub result_meant : OperationResult → Meant Shown
result_meant Wrote = Meant.Wrote
result_meant (Read shown) = Meant.ReadValue shown
result_meant ReadDeleted = Meant.ReadDeleted
result_meant ReadNothing = Meant.ReadNothing

abbrev pub finished_meant : ended.Finished → nodes.Finished Shown
finished_meant finished = record { op = finished.op; result = result_meant finished.result }

-- an open operation of this number
abbrev pub asked_meant : ℕ → Asked → OpenOperation
asked_meant op asked = record { op = op; key = asked.key; reads = asked.reads; needed = asked.tally.needed; counted = answered_by asked.tally }

-- those that are open, from this number on
abbrev pub open_from : ℕ → List Operation → List OpenOperation
open_from op [] = []
open_from op (Open asked ∷ operations) = asked_meant op asked ∷ open_from (op + 1) operations
open_from op (Finished result ∷ operations) = open_from (op + 1) operations
open_from op (TimedOut ∷ operations) = open_from (op + 1) operations

abbrev pub open_in : List Operation → List OpenOperation
open_in operations = open_from 0 operations

abbrev pub finished_as : Option Operation → Option (Meant Shown)
finished_as (Some (Finished result)) = Some (result_meant result)
finished_as _ = None

-- how the operation of a number ended
abbrev pub finished_at : List Operation → ℕ → Option (Meant Shown)
finished_at operations op = finished_as (slice_get operations op)

-- the first result of that number
abbrev pub result_at : List (nodes.Finished Shown) → ℕ → Option (Meant Shown)
result_at finished op = option_map (λ (f : nodes.Finished Shown). f.result) (find (λ (f : nodes.Finished Shown). f.op == op) finished)

-- the open ones are the model's, each number has the model's result, and the next number is the model's
pub record StandForOperations {Kind Op : Type 0} (operations : List Operation) (node : nodes.Node Kind Op Shown) : Type 0 where
  pub open_ones : node.open_operations ≡ open_in operations
  pub finished : (op : ℕ) → result_at node.finished op ≡ finished_at operations op
  pub next : node.next_op ≡ length operations
