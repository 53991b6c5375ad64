-- What a tick of the leader makes of entries and logs.
--     tick_of, tick_at        the model's tick of one identity, and only where the entry has records of it that are not pruned
--     IsTicked, IsTickOf        what is made of them is what the model makes
--     IsInCourse        the model's entry in the course of a tick, with the prunes in the log
--     IsKeyTick        a key keeps what a member keeps, each prune being an own record
--     IsTickedAs        a key becomes what it becomes in the model
use Rattle.std.specs.Prelude.{◌≡◌, ◌≢◌, ℕ, ◌+◌, ◌≤◌, ◌^◌, ◌==◌, ◌||◌, ◌++◌, List, [], ◌∷◌, length, Bool, true, false, if◌then◌else◌, Option, Some, None, map, flat_map, All}
use Rattle.model_history.specs.Texts.{Text}
use Rattle.model_history.specs.Vector.{VersionVector, IdentitySet}
use Rattle.model_history.specs.History.{History, at, is_pruned, IsPartOf}
use Rattle.model_members.specs.Entry as model
use Rattle.model_members.specs.Entry.{Tick}
use Rattle.model_members.specs.View.{identities_of, removed_of}
use Rattle.model_members.specs.DataType.{DataType, Replication}
use Rattle.model_members.specs.Node as nodes
use Rattle.model_members.specs.Step.{Ticking, tick_key}
use Rattle.model_kinds.specs.declared.shown.Shown.{Shown}
use Rattle.base_vectors.specs.Vectors.{number_at, raised}
use Rattle.data_markers.specs.Marks.{performed_in}
use Rattle.data_lattice.specs.declared.replica.Replica.{Ghosts}
use Rattle.data_envelope.specs.declared.envelope.Envelope.{Envelope}
use Rattle.data_envelope.specs.Images.{StandsFor}
use Rattle.data_envelope.specs.Words.{parts_of}
use Rattle.data_deltalog.specs.declared.delta_log.NextRecord.{NextRecord}
use Rattle.data_deltalog.specs.Contents.{LogParts}
use Rattle.data_deltalog.specs.Words.{HasRoom, all_appended}
use Rattle.data_deltalog.specs.Images.{StandsForLog}
use Rattle.member_node.specs.declared.key.KeyState.{KeyState}
use Rattle.member_node.specs.declared.outcome.Outcome.{Outcome}
use Rattle.member_node.specs.declared.outcome.Outcome.TheVariants as outcome
use Rattle.member_node.specs.declared.outcome.KeyOutcome.{KeyOutcome}
use Rattle.member_node.specs.declared.ticking.KeyTick.{KeyTick}
use Rattle.member_node.specs.declared.ticking.KeyTicking.{KeyTicking}
use Rattle.member_node.specs.Replies.{meant_outcome, meant_at_key}
use Rattle.member_node.specs.Own.{IsLogged}
use Rattle.member_node.specs.Sending.{own_number, state_in, IsHeldBy}
use Rattle.member_node.specs.Planning.{ticked, CanFollow}

-- ONE IDENTITY

module _ {Kind Op : Type 0} (data_type : DataType Kind Op Shown) (kind : Kind) (owner view : ℕ) (members : List ℕ) where
  abbrev pub tick_of : model.Entry Op → ℕ → Tick Op
  tick_of entry r = model.ticked (data_type.blocked kind owner r entry.history) owner view members entry r

  abbrev pub tick_at : model.Entry Op → ℕ → Option (Tick Op)
  tick_at entry r = if (at entry.history r == 0) || is_pruned entry.history r then None else Some (tick_of entry r)

-- the outcome is a prune
abbrev pub is_prune : Outcome → Bool
is_prune outcome.Marked = false
is_prune outcome.Performed = true
is_prune (outcome.Waiting i) = false
is_prune (outcome.Blocked owner_share removed_share) = false
is_prune outcome.Newer = false

abbrev pub prunes_in : Option Outcome → ℕ
prunes_in None = 0
prunes_in (Some outcome) = if is_prune outcome then 1 else 0

-- a prune is the owner's next record, and any other outcome adds none
abbrev pub IsAfter : {Op : Type 0} → (owner removed : ℕ) → Bool → (before after : model.Entry Op) → Type 0
IsAfter owner removed true before after = after ≡ model.with_prune before owner removed
IsAfter owner removed false before after = after.history ≡ before.history

module _ {T Kind Op Delta : Type 0} where
  -- a prune is one own record more, and the member isn't the one that is pruned
  pub record TicksOwn (kind_of : T → Kind) (id : ℕ) (old : Envelope T Kind Op Delta) (told : Option Outcome) (new : Envelope T Kind Op Delta) : Type 0 where
    pub kind : kind_of new.value ≡ kind_of old.value
    pub number : number_at (parts_of new).versions id ≡ number_at (parts_of old).versions id + prunes_in told
    pub unpruned : performed_in (parts_of new).marks id ≡ false

  module _ (IsDataOf : T → History Op → VersionVector → IdentitySet → Type 0) (log : History Op) (owner removed : ℕ) (before : model.Entry Op) where
    pub record IsTicked (tick : Tick Op) (outcome : Outcome) (new : Envelope T Kind Op Delta) : Type 0 where
      pub image : IsPartOf tick.entry.history log → StandsFor IsDataOf (parts_of new) log tick.entry
      pub told : meant_outcome outcome ≡ tick.outcome
      pub after : IsAfter owner removed (is_prune outcome) before tick.entry

    -- nothing, where the model has no outcome
    abbrev pub IsTickOf : Option (Tick Op) → Option Outcome → Envelope T Kind Op Delta → Type 0
    IsTickOf None None new = StandsFor IsDataOf (parts_of new) log before
    IsTickOf (Some tick) (Some outcome) new = IsTicked tick outcome new
    IsTickOf None (Some outcome) new = ⊥
    IsTickOf (Some tick) None new = ⊥

  -- ONE KEY

  -- a prune was noted for the log, with the records that there were before it
  pub record HasNoted (log : LogParts Kind Delta) (id : ℕ) (old new : KeyTicking T Kind Op Delta) : Type 0 where
    pub next : NextRecord Delta
    pub prunes : new.prunes ≡ old.prunes ++ next ∷ []
    pub before : next.before ≡ Some old.known
    pub placeholder : next.delta ≡ None
    pub room : HasRoom log next
    pub known : new.known ≡ raised old.known id (number_at (parts_of old.entry).versions id)

  abbrev pub IsNoted : LogParts Kind Delta → ℕ → Bool → (old new : KeyTicking T Kind Op Delta) → Type 0
  IsNoted log id true old new = HasNoted log id old new
  IsNoted log id false old new = (new.prunes ≡ old.prunes) × (new.known ≡ old.known)

  -- the prunes so far are the own records that the entry has more than before
  pub record IsOwnCourse (kind_of : T → Kind) (id : ℕ) (state : KeyState T Kind Op Delta) (ticking : KeyTicking T Kind Op Delta) : Type 0 where
    pub kind : kind_of ticking.entry.value ≡ state.kind
    pub number : number_at (parts_of ticking.entry).versions id ≡ own_number id state + length ticking.prunes
    pub unpruned : performed_in (parts_of ticking.entry).marks id ≡ false
    pub placeholders : All (λ (next : NextRecord Delta). next.delta ≡ None) ticking.prunes
    pub room : All (HasRoom state.log) ticking.prunes

  -- a key of the leader before a tick. Those that left are not the leader
  pub record CanTick (kind_of : T → Kind) (id : ℕ) (removed : List ℕ) (state : KeyState T Kind Op Delta) : Type 0 where
    pub kind : kind_of state.entry.value ≡ state.kind
    pub unpruned : performed_in (parts_of state.entry).marks id ≡ false
    pub logged : IsLogged kind_of id state
    pub others : All (λ r. r ≢ id) removed
    pub few : length removed ≤ 255
    pub small : own_number id state + 255 ≤ 2 ^ 62

module _ {T Kind Op Delta : Type 0} (ghosts : Ghosts T Kind Op Delta) where
  pub record IsKeyTick (id : ℕ) (state : KeyState T Kind Op Delta) (tick : KeyTick T Kind Op Delta) : Type 0 where
    pub follows : CanFollow ghosts state tick
    pub few : length tick.prunes.items ≤ 255
    pub number : own_number id (ticked state tick) ≡ own_number id state + length tick.prunes.items
    pub kind : ghosts.kind_of (ticked state tick).entry.value ≡ state.kind
    pub unpruned : performed_in (parts_of (ticked state tick).entry).marks id ≡ false

  pub record IsInCourse (log : History Op) (state : KeyState T Kind Op Delta) (so_far : Ticking Op) (ticking : KeyTicking T Kind Op Delta) : Type 0 where
    pub entry : StandsFor ghosts.IsDataOf (parts_of ticking.entry) log so_far.entry
    pub known : (i : ℕ) → number_at ticking.known i ≡ at so_far.entry.history i
    pub logged : StandsForLog ghosts.IsDeltaOf (all_appended state.log ticking.prunes) log so_far.entry

-- IN THE MODEL

-- the member ticks in this view
pub record TicksIn {Kind Op : Type 0} (node : nodes.Node Kind Op Shown) (id view : ℕ) (members : List ℕ) : Type 0 where
  pub identity : node.identity ≡ id
  pub viewed : node.view.number ≡ view
  pub seats : identities_of node.view ≡ members

module _ {T Kind Op Delta : Type 0} (D : Replication Kind Op Shown) (node : nodes.Node Kind Op Shown) where
  -- a key after the tick, and its outcomes
  abbrev pub tick_in : KeyState T Kind Op Delta → Ticking Op
  tick_in state = tick_key D node (state_in node state)

  -- the outcomes of the keys, after those that were told before
  abbrev pub TellsMore : List KeyOutcome → List (KeyState T Kind Op Delta) → List KeyOutcome → Type 0
  TellsMore before keys after = map meant_at_key after ≡ map meant_at_key before ++ flat_map (λ state. (tick_in state).outcomes) keys

  -- the model holds the key, and its log has the prunes of the tick for those that left
  pub record IsDue (ghosts : Ghosts T Kind Op Delta) (kinds : Text → Kind) (logs : Text → History Op) (id : ℕ) (removed : List ℕ) (state : KeyState T Kind Op Delta) : Type 0 where
    pub gone : removed_of node.view ≡ removed
    pub held : IsHeldBy ghosts.kind_of ghosts.IsDataOf ghosts.IsDeltaOf kinds logs id node state
    pub log : IsPartOf (tick_in state).entry.history (logs state.name)

  pub record IsTickedAs (ghosts : Ghosts T Kind Op Delta) (logs : Text → History Op) (state : KeyState T Kind Op Delta) (tick : KeyTick T Kind Op Delta) : Type 0 where
    pub entry : StandsFor ghosts.IsDataOf (parts_of (ticked state tick).entry) (logs state.name) (tick_in state).entry
    pub logged : StandsForLog ghosts.IsDeltaOf (ticked state tick).log (logs state.name) (tick_in state).entry
    pub still : tick.entry ≡ None → (tick_in state).entry ≡ node.entries state.name
