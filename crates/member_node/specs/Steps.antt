-- What a step of a member does.
--     StandsForOutput        a reply, and messages
--     KeepsTable        what the keeper's table is after the step
--     IsImage        the step is that of a member of the model for which the member stands
--     IsStepOf        it is so for all of them, in all logs
use Rattle.std.specs.Prelude.{◌≡◌, ◌≢◌, ◌+◌, ◌<◌, ◌≤◌, List, ◌∷◌, [], ◌++◌, Bool, true, false, option_map, map, All, ◌⊎◌}
use Rattle.model_history.specs.Texts.{Text}
use Rattle.model_history.specs.History.{History}
use Rattle.base_outside.specs.Causes.{Rose}
use Rattle.model_members.specs.DataType.{Replication}
use Rattle.model_members.specs.Node as nodes
use Rattle.model_members.specs.Step.{step, to_store}
use Rattle.model_members.specs.World.{FitsFate}
use Rattle.model_kinds.specs.declared.shown.Shown.{Shown}
use Rattle.data_lattice.specs.declared.replica.Replica.{Ghosts}
use Rattle.data_lattice.specs.declared.spelled.SpelledData.{Ghosts as Spelling}
use Rattle.member_keeper.specs.declared.keeper.Keeper.{Ghosts as Keeping}
use Rattle.member_keeper.specs.declared.stored.Stored as kept
use Rattle.member_keeper.specs.Calls.{Becomes}
use Rattle.member_keeper.specs.Tables.{put_all}
use Rattle.member_node.specs.declared.node.Node.{Node}
use Rattle.member_node.specs.declared.input.Input.{Input}
use Rattle.member_node.specs.declared.reply.Output.{Output}
use Rattle.member_node.specs.declared.reply.Fate.{Fate}
use Rattle.member_node.specs.declared.reply.Fate.TheVariants.{NoStore, Stored, StoreFailed}
use Rattle.member_node.specs.declared.reply.StepError.{StepError}
use Rattle.member_node.specs.declared.reply.StepError.TheVariants.{HistoryFull, Memory}
use Rattle.member_node.specs.Keys.{declared_by}
use Rattle.member_node.specs.Replies.{spelled_groups, meant, meant_fate}
use Rattle.member_node.specs.Members.{IsSafe, StandsForNode, StandsForPosts}
use Rattle.member_node.specs.Inputs.{StandsForInput}
use Rattle.member_node.specs.Stores.{spelled_entry, IsKept}
use Rattle.member_node.specs.Operations.{finished_meant}

-- the store failed
abbrev pub is_failure : Fate → Bool
is_failure StoreFailed = true
is_failure _ = false

module _ {T Kind Op Delta : Type 0} {ghosts : Ghosts T Kind Op Delta} (kinds : Text → Kind) (logs : Text → History Op) where
  -- the reply, the messages and the operation that ended are those of the model
  pub record StandsForOutput (output : Output T Kind Op Delta ghosts) (meaning : nodes.Output Op Shown) : Type 0 where
    pub reply : meant output.reply ≡ meaning.reply
    pub posts : StandsForPosts ghosts.kind_of ghosts.IsDataOf kinds logs output.posts meaning.posts
    pub ended : meaning.ended ≡ option_map finished_meant output.finished

-- THE KEEPER

module _ {K : Type 0} (keeping : Keeping K) where
  -- what is told of the keeper is the same, and its count did not fall
  pub record TellsSame (old new : K) : Type 0 where
    pub table : Becomes (keeping.table old) (keeping.table new) (λ table. table)
    pub answers : Becomes (keeping.answers old) (keeping.answers new) (λ answers. answers)
    pub later : keeping.faults old ≤ keeping.faults new

  -- one call more was answered so
  abbrev pub Answers : Bool → K → K → Type 0
  Answers answer old new = Becomes (keeping.answers old) (keeping.answers new) (λ answers. answers ++ answer ∷ [])

  -- no call more was answered, or one more was, with success
  abbrev pub MayAnswer : K → K → Type 0
  MayAnswer old new = Becomes (keeping.answers old) (keeping.answers new) (λ answers. answers) ⊎ Answers true old new

  -- one call was made where there was something to store, and failed where the store did
  abbrev pub IsCalled : Fate → K → K → Type 0
  IsCalled NoStore old new = new ≡ old
  IsCalled Stored old new = Answers true old new × (keeping.faults old ≤ keeping.faults new)
  IsCalled StoreFailed old new = Answers false old new × Rose (keeping.faults old) (keeping.faults new)

  -- what became of these entries: none, or all were put, or none
  abbrev pub IsKeptBy : List kept.Stored → Fate → K → K → Type 0
  IsKeptBy items NoStore old new = (items ≡ []) × (new ≡ old)
  IsKeptBy items Stored old new = (items ≢ []) × IsCalled Stored old new × Becomes (keeping.table old) (keeping.table new) (λ table. put_all table items)
  IsKeptBy items StoreFailed old new = (items ≢ []) × IsCalled StoreFailed old new × Becomes (keeping.table old) (keeping.table new) (λ table. table)

module _ {T Kind Op Delta K : Type 0} (spelling : Spelling T Kind Op Delta) (keeping : Keeping K) where
  -- the entries are in the table, each by its spelling, if they were stored
  abbrev pub KeepsTable : Fate → List (nodes.KeyState Kind Op) → K → K → Type 0
  KeepsTable Stored entries old new = Becomes (keeping.table old) (keeping.table new) (λ table. put_all table (map (spelled_entry spelling) entries))
  KeepsTable _ entries old new = Becomes (keeping.table old) (keeping.table new) (λ table. table)

-- what the members follow: their digests are those of the entries' spellings
abbrev pub replication : {T Kind Op Delta : Type 0} → Ghosts T Kind Op Delta → Spelling T Kind Op Delta → Replication Kind Op Shown
replication ghosts spelling = spelled_groups ghosts.data_type spelling.history_byte spelling.history_spelled

-- THE STEP

module _ {T Kind Op Delta K : Type 0} {ghosts : Ghosts T Kind Op Delta} {keeping : Keeping K} (spelling : Spelling T Kind Op Delta) where
  module _ (kinds : Text → Kind) (logs : Text → History Op) (old : Node T K Kind Op Delta ghosts keeping) (fate : Fate) (output : Output T Kind Op Delta ghosts) (new : Node T K Kind Op Delta ghosts keeping) where
    -- the step of this member of the model, for this input
    pub record IsImage (node : nodes.Node Kind Op Shown) (sent : nodes.Input Op) : Type 0 where
      pub fate_fits : FitsFate (replication ghosts spelling) node sent (meant_fate fate)
      pub stands : StandsForNode ghosts.kind_of ghosts.IsDataOf kinds logs new (step (replication ghosts spelling) node sent (meant_fate fate)).node
      pub answers : StandsForOutput kinds logs output (step (replication ghosts spelling) node sent (meant_fate fate)).output
      pub table : KeepsTable spelling keeping fate (to_store node (step (replication ghosts spelling) node sent (meant_fate fate)).node) old.keeper new.keeper
      pub kept : All (λ k. IsKept ghosts spelling k.kind (logs k.name) k.entry) (to_store node (step (replication ghosts spelling) node sent (meant_fate fate)).node)

  -- WHAT A STEP DOES, in all logs and for all members of the model and inputs for which the member and the input stand
  pub record IsStepOf (old : Node T K Kind Op Delta ghosts keeping) (input : Input T Kind Op Delta ghosts) (fate : Fate) (output : Output T Kind Op Delta ghosts) (new : Node T K Kind Op Delta ghosts keeping) : Type 0 where
    pub image : (kinds : Text → Kind) (logs : Text → History Op) (node : nodes.Node Kind Op Shown) (sent : nodes.Input Op)
        → StandsForNode ghosts.kind_of ghosts.IsDataOf kinds logs old node → StandsForInput kinds logs old.keys.items input sent
        → IsSafe logs (step (replication ghosts spelling) node sent (meant_fate fate)).node → IsImage kinds logs old fate output new node sent
    pub called : IsCalled keeping fate old.keeper new.keeper
    pub had_room : old.steps < old.limit
    pub counted : new.steps ≡ old.steps + 1
    pub limit : new.limit ≡ old.limit
    pub identity : new.id ≡ old.id
    pub keys : map declared_by new.keys.items ≡ map declared_by old.keys.items

  -- with some fate
  pub record MakesStep (old : Node T K Kind Op Delta ghosts keeping) (input : Input T Kind Op Delta ghosts) (output : Output T Kind Op Delta ghosts) (new : Node T K Kind Op Delta ghosts keeping) : Type 0 where
    pub fate : Fate
    pub makes : IsStepOf old input fate output new

-- REFUSALS

module _ {T Kind Op Delta K : Type 0} {ghosts : Ghosts T Kind Op Delta} {keeping : Keeping K} where
  -- exactly a member that made all its steps is full
  abbrev pub MayRefuse : Node T K Kind Op Delta ghosts keeping → StepError → Type 0
  MayRefuse node HistoryFull = node.steps ≡ node.limit
  MayRefuse node Memory = node.steps < node.limit

  -- but for its keeper
  abbrev pub IsOtherwiseSame : (old new : Node T K Kind Op Delta ghosts keeping) → Type 0
  IsOtherwiseSame old new = new ≡ record old { keeper = new.keeper }

  -- the keeper may have been called, and tells what it told
  pub record IsUnchanged (old new : Node T K Kind Op Delta ghosts keeping) : Type 0 where
    pub same : IsOtherwiseSame old new
    pub told : TellsSame keeping old.keeper new.keeper
