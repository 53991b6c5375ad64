-- The majority gets of a script, and the majority updates of their keys before them, by what its lines tell.
--     Replies, TellsEnd        what the step of a number tells
--     IsUnchangedUntil        membership stays unchanged from a majority update until a later step, and its success was told before a majority get
--     IncludesUpdate        what a line tells of the get is the meaning of a history that has the update's record
--     GetsInclude        so it is of all majority gets of the script
use Rattle.std.specs.Prelude.{◌≡◌, ◌≢◌, ℕ, suc, ◌<◌, List, ◌∷◌, [], ◌++◌, take, Option, Some, find, slice_get}
use Rattle.std.specs.Str.{bytes_eq}
use Rattle.model_history.specs.Texts.{Text}
use Rattle.model_members.specs.DataType.{Replication, Meaning, meaning}
use Rattle.model_members.specs.Message.{Message}
use Rattle.model_members.specs.Node.{KeyDecl, Node, Reply, Result, Finished}
use Rattle.model_members.specs.Node.Level.{Majority}
use Rattle.model_members.specs.Step.{value_reply, read_result}
use Rattle.model_members.specs.World.{Event, start, run, output_of}
use Rattle.model_members.specs.Script.{Ask, Playing, ScriptStep, Told, KeeperAnswers, opening, played_all, lines_of, output_lines}
use Rattle.model_members.specs.Script.Answer.{Replied}
use Rattle.model_members.specs.Script.Head.{DeliverHead}
use Rattle.theorem_operations.specs.Quorum.{AllInstalled, HasWrite}

-- a majority update and a later majority get of its key, by the numbers of their steps, from 0
pub record UpdateThenGet (Op : Type 0) : Type 0 where
  pub update : ℕ
  pub writer : ℕ
  pub key : Text
  pub operation : Op
  pub cap : ℕ
  pub get : ℕ
  pub reader : ℕ
  pub read_cap : ℕ

module _ {Kind Op Shown : Type 0} (D : Replication Kind Op Shown) (answers : KeeperAnswers) (members : ℕ) (keys : List (KeyDecl Kind)) (steps : List (ScriptStep Op)) where
  -- the script before the step of a number
  abbrev pub before_step : ℕ → Playing Kind Op Shown
  before_step n = played_all D (opening answers members keys) (take n steps)

  -- the step of a number tells this line
  abbrev pub TellsLine : ℕ → Told Op Shown → Type 0
  TellsLine n line = (lines : List (Told Op Shown)) × (k : ℕ) × (slice_get (lines_of D (opening answers members keys) steps) n ≡ Some lines) × (slice_get lines k ≡ Some line)

  -- it tells this reply
  abbrev pub Replies : ℕ → Told Op Shown → Reply Shown → Type 0
  Replies n line reply = TellsLine n line × (line.answer ≡ Replied reply)

  -- it tells that an operation of a member finished so, by a message that was delivered to the member
  pub record TellsEnd (n : ℕ) (line : Told Op Shown) (i : ℕ) (end : Finished Shown) : Type 0 where
    pub told : TellsLine n line
    pub from : ℕ
    pub index : ℕ
    pub message : Option (Message Op)
    pub delivered : line.head ≡ DeliverHead from i index message
    pub ended : line.ended ≡ Some end

  module _ (r : UpdateThenGet Op) where
    -- the update's success was told: it was answered Done, or a step before the get tells that its operation finished
    pub data SuccessIsTold : Type 0 where
      AtOnce : (line : Told Op Shown) → Replies r.update line Reply.Done → SuccessIsTold
      Afterwards : (op n : ℕ) (line later : Told Op Shown) → Replies r.update line (Reply.Pending op) → r.update < n → n < r.get → TellsEnd n later r.writer (record { op = op; result = Result.Wrote }) → SuccessIsTold

    -- UNCHANGED MEMBERSHIP, AND A SUCCESS THAT WAS TOLD: before the update all running members have the last view installed, this view is still the last one when the step of a later number is done, and the update's success was told before the get
    pub record IsUnchangedUntil (last : ℕ) : Type 0 where
      pub updates : slice_get steps r.update ≡ Some (ScriptStep.Asks r.writer (Ask.Update r.key r.operation (Majority r.cap)))
      pub gets : slice_get steps r.get ≡ Some (ScriptStep.Asks r.reader (Ask.Get r.key (Majority r.read_cap)))
      pub in_order : r.update < r.get
      pub installed : AllInstalled (before_step r.update).world
      pub unchanged : (before_step (suc last)).world.view ≡ (before_step r.update).world.view
      pub succeeded : SuccessIsTold

    -- when the step of a number tells this line, this is the meaning of what the reader has of the key, and the update's record is in it
    pub record IncludesUpdate (n : ℕ) (line : Told Op Shown) (means : Meaning Shown) : Type 0 where
      -- the event of the step that put out what the line tells
      pub within : List (Event Op)
      pub event : Event Op
      pub rest : List (Event Op)
      pub way : (before_step (suc n)).events ≡ ((before_step n).events ++ within) ++ event ∷ rest
      pub tells : output_lines D line.head (output_of D (run D (start members keys) ((before_step n).events ++ within)) event) ≡ line ∷ []
      -- the reader after it
      pub node : Node Kind Op Shown
      pub runs : (run D (start members keys) (((before_step n).events ++ within) ++ event ∷ [])).nodes r.reader ≡ Some node
      pub decl : KeyDecl Kind
      pub declared : find (λ (d : KeyDecl Kind). bytes_eq d.name r.key) keys ≡ Some decl
      pub is : means ≡ meaning D.data_type decl.kind (node.entries r.key).history
      pub has : HasWrite D (before_step r.update).world r.writer r.key r.operation (node.entries r.key).history

  -- WHILE MEMBERSHIP STAYS UNCHANGED, a majority get whose answer is told includes each majority update of its key whose success was told before: in the value that it is answered with, and in the value that its operation finishes with, where the key isn't deleted; and it is told that it is deleted where what the reader has of it has a delete
  pub record GetsInclude : Type 0 where
    pub at_once : (r : UpdateThenGet Op) → IsUnchangedUntil r r.get → (line : Told Op Shown) (reply : Reply Shown) → Replies r.get line reply → ((op : ℕ) → reply ≢ Reply.Pending op)
        → (means : Meaning Shown) × (reply ≡ value_reply D (Some means)) × IncludesUpdate r r.get line means
    pub later : (r : UpdateThenGet Op) (n : ℕ) → r.get < n → IsUnchangedUntil r n → (line : Told Op Shown) (op : ℕ) → Replies r.get line (Reply.Pending op)
        → (last : Told Op Shown) (end : Finished Shown) → TellsEnd n last r.reader end → end.op ≡ op
        → (means : Meaning Shown) × (end.result ≡ read_result D (Some means)) × IncludesUpdate r n last means
