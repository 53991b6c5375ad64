-- What a step is going to do: what becomes of the keys, and of the view.
--     recorded        a key with one own record more
--     ticked        a key after a tick
--     IsPlanned        the keys once the plan is carried out
--     entry_in        the new entry of the key at a place, if there is one
--     IsSoundPlan        the plan can be carried out, and keeps what a member keeps
--     IsPrepared        the plan and the output are those of the model's step
use Rattle.std.specs.Prelude.{◌≡◌, ℕ, ◌+◌, ◌<◌, ◌^◌, ◌==◌, List, length, Option, Some, None, unwrap_or, map, if◌then◌else◌, slice_get, slice_index_or, slice_set, All}
use Rattle.model_history.specs.Texts.{Text}
use Rattle.model_history.specs.History.{History}
use Rattle.model_history.specs.Vector.{VersionVector, IdentitySet}
use Rattle.model_members.specs.Entry as model
use Rattle.model_members.specs.Node as nodes
use Rattle.model_kinds.specs.declared.shown.Shown.{Shown}
use Rattle.data_lattice.specs.declared.replica.Replica.{Ghosts}
use Rattle.data_envelope.specs.declared.envelope.Envelope.{Envelope}
use Rattle.data_deltalog.specs.declared.delta_log.NextRecord.{NextRecord}
use Rattle.data_deltalog.specs.Contents.{appended, IsDeltaFor}
use Rattle.data_deltalog.specs.Words.{HasRoom, AreNext, all_appended}
use Rattle.member_node.specs.declared.key.KeyState.{KeyState}
use Rattle.member_node.specs.declared.change.Change.{Change}
use Rattle.member_node.specs.declared.change.Change.TheVariants as change
use Rattle.member_node.specs.declared.plan.Plan.{Plan}
use Rattle.member_node.specs.declared.plan.Plan.TheVariants.{Nothing, At, Each, Ticked}
use Rattle.member_node.specs.declared.ticking.KeyTick.{KeyTick}
use Rattle.member_node.specs.declared.plan.Prepared.{Prepared}
use Rattle.member_node.specs.declared.operation.Operation.{Operation}
use Rattle.member_node.specs.Operations.{changed_operations, StandForOperations}
use Rattle.member_node.specs.Own.{HasFewOwn, IsUnpruned, AreLogged, AreOfTheirKinds}
use Rattle.member_node.specs.Keys.{AreDistinctKeys, declared_by}
use Rattle.member_node.specs.Changes.{AreChanged, AreMade}
use Rattle.member_node.specs.Taking.{StandsAfter}
use Rattle.member_node.specs.Members.{StandsForKey}
use Rattle.member_node.specs.Steps.{StandsForOutput}

module _ {T Kind Op Delta : Type 0} where
  abbrev pub recorded : KeyState T Kind Op Delta → Envelope T Kind Op Delta → NextRecord Delta → KeyState T Kind Op Delta
  recorded state entry next = record state { entry = entry; log = appended state.log next.before next.delta }

  -- another entry, if there is one, and the log with the prunes in it
  abbrev pub ticked : KeyState T Kind Op Delta → KeyTick T Kind Op Delta → KeyState T Kind Op Delta
  ticked state tick = record state { entry = unwrap_or tick.entry state.entry; log = all_appended state.log tick.prunes.items }

  pub record AreTicked (old : List (KeyState T Kind Op Delta)) (ticks : List (KeyTick T Kind Op Delta)) (new : List (KeyState T Kind Op Delta)) : Type 0 where
    pub same_length : length new ≡ length old
    pub each : (k : ℕ) (d : KeyState T Kind Op Delta) (e : KeyTick T Kind Op Delta) → k < length old → slice_index_or new k d ≡ ticked (slice_index_or old k d) (slice_index_or ticks k e)

  abbrev pub IsPlanned : List (KeyState T Kind Op Delta) → Plan T Kind Op Delta → List (KeyState T Kind Op Delta) → Type 0
  IsPlanned keys Nothing after = after ≡ keys
  IsPlanned keys (At index entry next) after = (state : KeyState T Kind Op Delta) × (state ≡ slice_index_or keys index state) × (after ≡ slice_set keys index (recorded state entry next))
  IsPlanned keys (Each changes) after = AreChanged keys changes after
  IsPlanned keys (Ticked ticks) after = AreTicked keys ticks.items after

  abbrev pub new_entry : Option (Change T Kind Op Delta) → Option (Envelope T Kind Op Delta)
  new_entry (Some (change.Entry entry)) = Some entry
  new_entry _ = None

  abbrev pub entry_told : Option (KeyTick T Kind Op Delta) → Option (Envelope T Kind Op Delta)
  entry_told None = None
  entry_told (Some tick) = tick.entry

  -- the new entry of the key at a place, by the changes and by a tick
  abbrev pub changed_entry : List (Option (Change T Kind Op Delta)) → ℕ → Option (Envelope T Kind Op Delta)
  changed_entry changes k = new_entry (slice_index_or changes k None)

  abbrev pub ticked_entry : List (KeyTick T Kind Op Delta) → ℕ → Option (Envelope T Kind Op Delta)
  ticked_entry ticks k = entry_told (slice_get ticks k)

  abbrev pub entry_in : Plan T Kind Op Delta → ℕ → Option (Envelope T Kind Op Delta)
  entry_in Nothing k = None
  entry_in (At index entry next) k = if index == k then Some entry else None
  entry_in (Each changes) k = changed_entry changes k
  entry_in (Ticked ticks) k = ticked_entry ticks.items k

module _ {T Kind Op Delta : Type 0} (ghosts : Ghosts T Kind Op Delta) where
  -- the record follows the log
  pub record IsRecordable (state : KeyState T Kind Op Delta) (next : NextRecord Delta) : Type 0 where
    pub small : state.log.last < 2 ^ 62
    pub fits : IsDeltaFor ghosts.IsOfOrigin ghosts.delta_fits_kind state.log.kind state.log.origin next.delta
    pub room : HasRoom state.log next

  pub record CanRecord (keys : List (KeyState T Kind Op Delta)) (index : ℕ) (next : NextRecord Delta) : Type 0 where
    pub within : index < length keys
    pub recordable : (d : KeyState T Kind Op Delta) → IsRecordable (slice_index_or keys index d) next

  -- the prunes follow the log
  abbrev pub CanFollow : KeyState T Kind Op Delta → KeyTick T Kind Op Delta → Type 0
  CanFollow state tick = AreNext ghosts.IsOfOrigin ghosts.delta_fits_kind state.log tick.prunes.items

  abbrev pub CanCarryOut : List (KeyState T Kind Op Delta) → Plan T Kind Op Delta → Type 0
  CanCarryOut keys Nothing = Unit {0}
  CanCarryOut keys (At index entry next) = CanRecord keys index next
  CanCarryOut keys (Each changes) = length changes ≡ length keys
  CanCarryOut keys (Ticked ticks) = AreMade CanFollow keys ticks.items

  -- each new entry is of its key's kind
  abbrev pub HaveTheirKinds : List (KeyState T Kind Op Delta) → (entry_of : ℕ → Option (Envelope T Kind Op Delta)) → Type 0
  HaveTheirKinds keys entry_of = (k : ℕ) (d : KeyState T Kind Op Delta) (entry : Envelope T Kind Op Delta) → k < length keys → entry_of k ≡ Some entry → ghosts.kind_of entry.value ≡ (slice_index_or keys k d).kind

  abbrev pub KeepsKinds : List (KeyState T Kind Op Delta) → Plan T Kind Op Delta → Type 0
  KeepsKinds keys plan = HaveTheirKinds keys (entry_in plan)

  -- what a member keeps of its keys
  pub record AreOwned (id steps : ℕ) (keys : List (KeyState T Kind Op Delta)) : Type 0 where
    pub few : HasFewOwn id steps keys
    pub unpruned : IsUnpruned id keys
    pub logged : AreLogged ghosts.kind_of id keys
    pub of_kinds : AreOfTheirKinds ghosts.kind_of keys
    pub distinct : AreDistinctKeys keys

  pub record IsSoundPlan (id steps : ℕ) (keys : List (KeyState T Kind Op Delta)) (plan : Plan T Kind Op Delta) : Type 0 where
    pub can : CanCarryOut keys plan
    pub owned : (after : List (KeyState T Kind Op Delta)) → IsPlanned keys plan after → AreOwned id (steps + 1) after
    pub declared : (after : List (KeyState T Kind Op Delta)) → IsPlanned keys plan after → map declared_by after ≡ map declared_by keys
    pub kinds : KeepsKinds keys plan

-- the new entries lead from these entries of the model to others
abbrev pub Lead : {T Kind Op Delta : Type 0} → (T → History Op → VersionVector → IdentitySet → Type 0) → (Text → History Op) → List (KeyState T Kind Op Delta) → (old new : Text → model.Entry Op) → (entry_of : ℕ → Option (Envelope T Kind Op Delta)) → Type 0
Lead {T} {Kind} {Op} {Delta} IsDataOf logs keys old new entry_of =
    (k : ℕ) (d : KeyState T Kind Op Delta) → k < length keys → StandsAfter IsDataOf (logs (slice_index_or keys k d).name) (entry_of k) (old (slice_index_or keys k d).name) (new (slice_index_or keys k d).name)

module _ {T Kind Op Delta : Type 0} (ghosts : Ghosts T Kind Op Delta) (kinds : Text → Kind) (logs : Text → History Op) (keys : List (KeyState T Kind Op Delta)) (old next : nodes.Node Kind Op Shown) (plan : Plan T Kind Op Delta) where
  -- the plan leads from one member of the model to the other
  pub record LeadsOn : Type 0 where
    pub stands : (after : List (KeyState T Kind Op Delta)) → IsPlanned keys plan after
        → All (λ state. StandsForKey ghosts.kind_of ghosts.IsDataOf ghosts.IsDeltaOf kinds logs state (next.entries state.name) (next.flushed state.name)) after
    pub leads : Lead ghosts.IsDataOf logs keys old.entries next.entries (entry_in plan)

module _ {T Kind Op Delta : Type 0} {ghosts : Ghosts T Kind Op Delta} (kinds : Text → Kind) (logs : Text → History Op) (keys : List (KeyState T Kind Op Delta)) (operations : List Operation) (node : nodes.Node Kind Op Shown) (next : nodes.Stepped Kind Op Shown) where
  pub record IsPrepared (prepared : Prepared T Kind Op Delta ghosts) : Type 0 where
    pub identity : next.node.identity ≡ node.identity
    pub declared : next.node.keys ≡ node.keys
    pub counted : next.node.steps ≡ node.steps + 1
    pub viewed : next.node.view ≡ unwrap_or prepared.view node.view
    pub leads_on : LeadsOn ghosts kinds logs keys node next.node prepared.plan
    pub operates : StandForOperations (changed_operations operations prepared.operations) next.node
    pub answers : StandsForOutput kinds logs prepared.output next.output
