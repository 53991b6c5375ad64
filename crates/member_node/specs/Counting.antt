-- What an answer counts for.
--     open_at        the open operation of a number
--     IsAnswered        who is asked, with one answer more
--     IsCountOf        what an answer makes of the operations, and what ends by it
--     LooksAt        how an operation of the model stands
--     AnswersRead        what is answered to a read of another member
--     EndsReadIfOk, CountsReadIfOk        what an own read ends with, and what its answers count for
use Rattle.std.specs.Prelude.{◌≡◌, ℕ, ◌<◌, ◌≤◌, ◌==◌, ◌&&◌, List, Bool, true, false, not, Option, Some, None, slice_get, IfSome, map, Result, IfOk}
use Rattle.std.specs.List.{list_any}
use Rattle.std.specs.Str.{bytes_eq}
use Rattle.model_history.specs.Texts.{Text}
use Rattle.model_history.specs.Vector.{with_member}
use Rattle.model_history.specs.History.{History}
use Rattle.model_members.specs.Entry.{Entry}
use Rattle.model_members.specs.Message.{Message as Sent}
use Rattle.model_members.specs.Node as nodes
use Rattle.model_members.specs.Node.{OpenOperation, key_state}
use Rattle.model_members.specs.Step.{with_answer, answered_entry, result_of}
use Rattle.model_kinds.specs.declared.shown.Shown.{Shown}
use Rattle.base_vectors.specs.IdSets.{member_count}
use Rattle.member_quorum.specs.Counts.{answered_by}
use Rattle.data_lattice.specs.declared.replica.Replica.{Ghosts}
use Rattle.member_keeper.specs.declared.keeper.Keeper.{Ghosts as Keeping}
use Rattle.member_messages.specs.declared.message.Message.{Message}
use Rattle.member_messages.specs.Standing.{StandsForMessage}
use Rattle.member_node.specs.declared.change.Change.{Change}
use Rattle.member_node.specs.declared.counting.Counted.{Counted}
use Rattle.member_node.specs.declared.node.Node.{Node}
use Rattle.member_node.specs.declared.operation.Asked.{Asked}
use Rattle.member_node.specs.declared.operation.Look.{Look}
use Rattle.member_node.specs.declared.operation.Look.TheVariants as look
use Rattle.member_node.specs.declared.operation.Operation.{Operation}
use Rattle.member_node.specs.declared.operation.Operation.TheVariants.{Open, Finished}
use Rattle.member_node.specs.declared.operation.OperationResult.{OperationResult}
use Rattle.member_node.specs.declared.operations.OperationChange.TheVariants.{Same, Put}
use Rattle.member_node.specs.Operations.{known, asked_meant, result_meant, result_at}
use Rattle.member_node.specs.Replies.{delta_groups}
use Rattle.member_node.specs.Keys.{declared_by}
use Rattle.member_node.specs.Changes.{AreMade}
use Rattle.member_node.specs.Taking.{IsKept, LeadsTo, AreHeld}
use Rattle.member_node.specs.Members.{StandsForNode}

abbrev pub open_as : Option Operation → Option Asked
open_as (Some (Open asked)) = Some asked
open_as _ = None

-- the open operation of a number
abbrev pub open_at : List Operation → ℕ → Option Asked
open_at operations op = open_as (slice_get operations op)

-- how many have answered once this member did
abbrev pub count_with : Asked → ℕ → ℕ
count_with asked from = member_count (with_member (answered_by asked.tally) from)

-- one answer more, or as many as are needed
abbrev pub IsAnswered : Asked → ℕ → Option Asked → Type 0
IsAnswered asked from None = asked.tally.needed ≤ count_with asked from
IsAnswered asked from (Some next) = (count_with asked from < asked.tally.needed) × ((op : ℕ) → asked_meant op next ≡ with_answer from (asked_meant op asked))

abbrev pub is_write : Asked → Bool
is_write asked = not asked.reads

abbrev pub is_read_of : Text → Asked → Bool
is_read_of key asked = asked.reads && bytes_eq asked.key key

-- what an answer from a member makes of the operation of this number, if it is open and passes the test
pub data IsCountOf (operations : List Operation) (from op : ℕ) (test : Asked → Bool) (Ends : OperationResult → Type 0) : Counted → Type 0 where
  nothing : IfSome (open_at operations op) (λ asked. test asked ≡ false) → IsCountOf operations from op test Ends (record { change = Same; finished = None })
  waits : (asked next : Asked) → open_at operations op ≡ Some asked → test asked ≡ true → IsAnswered asked from (Some next)
      → IsCountOf operations from op test Ends (record { change = Put op (Open next); finished = None })
  ends : (asked : Asked) (end : OperationResult) → open_at operations op ≡ Some asked → test asked ≡ true → IsAnswered asked from None → Ends end
      → IsCountOf operations from op test Ends (record { change = Put op (Finished end); finished = Some (record { op = op; result = end }) })

-- an operation of this number is open
abbrev pub is_open : {Kind Op : Type 0} → nodes.Node Kind Op Shown → ℕ → Bool
is_open node op = list_any (λ (o : OpenOperation). o.op == op) node.open_operations

abbrev pub LooksAt : {Kind Op : Type 0} → nodes.Node Kind Op Shown → ℕ → Look → Type 0
LooksAt node op look.Open = is_open node op ≡ true
LooksAt node op (look.Finished end) = (is_open node op ≡ false) × (result_at node.finished op ≡ Some (result_meant end))
LooksAt node op look.NoSuchOp = (is_open node op ≡ false) × (result_at node.finished op ≡ None)

-- READS, in all logs and for all members of the model

module _ {T K Kind Op Delta : Type 0} {ghosts : Ghosts T Kind Op Delta} {keeping : Keeping K} (code : Node T K Kind Op Delta ghosts keeping) where
  -- the answer to a read of another member is that of each member of the model for which this stands
  abbrev pub AnswersRead : (op : ℕ) → Text → Message T Kind Op Delta ghosts → Type 0
  AnswersRead op key answer =
      (digest : Kind → Entry Op → List ℕ) (kinds : Text → Kind) (logs : Text → History Op) (node : nodes.Node Kind Op Shown) → StandsForNode ghosts.kind_of ghosts.IsDataOf kinds logs code node
      → StandsForMessage ghosts.kind_of ghosts.IsDataOf kinds logs answer (Sent.ReadAnswer op key (answered_entry (delta_groups ghosts.data_type digest) (key_state node key)))

  -- what is so of each member of the model to which the changes lead, and each open read of the key there
  abbrev pub ForReads : Text → List (Option (Change T Kind Op Delta)) → ((digest : Kind → Entry Op → List ℕ) → nodes.Node Kind Op Shown → OpenOperation → Type 0) → Type 0
  ForReads key changes P =
      (digest : Kind → Entry Op → List ℕ) (kinds : Text → Kind) (logs : Text → History Op) (before : Text → Entry Op) (node : nodes.Node Kind Op Shown) (asked : OpenOperation)
      → AreHeld ghosts.kind_of ghosts.IsDataOf kinds logs code.id code.keys.items before → AreMade (IsKept ghosts.kind_of code.id) code.keys.items changes
      → AreMade (LeadsTo ghosts.IsDataOf logs before node.entries) code.keys.items changes → node.keys ≡ map declared_by code.keys.items → asked.key ≡ key → asked.reads ≡ true → P digest node asked

  -- the read ends with what the model's ends with
  abbrev pub EndsReadIfOk : {E : Type 0} → Text → List (Option (Change T Kind Op Delta)) → Result OperationResult E → Type 0
  EndsReadIfOk key changes result = ForReads key changes (λ digest node asked. IfOk result (λ end. result_meant end ≡ result_of (delta_groups ghosts.data_type digest) node asked))

  -- what one more answer makes of it, which ends so with the last one
  abbrev pub CountsReadIfOk : {E : Type 0} → (from op : ℕ) → Text → List (Option (Change T Kind Op Delta)) → Result Counted E → Type 0
  CountsReadIfOk from op key changes result =
      ForReads key changes (λ digest node asked. IfOk result (IsCountOf (known code.operations) from op (is_read_of key) (λ end. result_meant end ≡ result_of (delta_groups ghosts.data_type digest) node asked)))
