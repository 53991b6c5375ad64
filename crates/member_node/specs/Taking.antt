-- What taking a message makes of the entries of the keys.
use Rattle.std.specs.Prelude.{◌≡◌, ℕ, List, [], ◌∷◌, false, if◌then◌else◌, Option, None, Some, map, slice_set, All}
use Rattle.model_history.specs.Texts.{Text}
use Rattle.model_history.specs.Vector.{VersionVector, IdentitySet}
use Rattle.model_history.specs.History.{History, IsExactlyPruned}
use Rattle.model_members.specs.Entry as model
use Rattle.model_members.specs.Entry.{Judgement, judged, with_group}
use Rattle.model_members.specs.Entry.Judgement.{Wanted, Stale, Missing}
use Rattle.model_members.specs.Node as nodes
use Rattle.model_members.specs.Step.{KeyGap, is_group_passed_over}
use Rattle.model_kinds.specs.declared.shown.Shown.{Shown}
use Rattle.base_vectors.specs.Vectors.{number_at}
use Rattle.data_markers.specs.Marks.{performed_in}
use Rattle.data_envelope.specs.declared.envelope.Envelope.{Envelope}
use Rattle.data_envelope.specs.Images.{StandsFor}
use Rattle.data_envelope.specs.Words.{parts_of}
use Rattle.member_messages.specs.declared.message.Keyed.{Keyed}
use Rattle.member_messages.specs.Standing.{StandsForEntry}
use Rattle.member_node.specs.declared.key.KeyState.{KeyState}
use Rattle.member_node.specs.declared.change.Change.{Change}
use Rattle.member_node.specs.declared.change.Change.TheVariants.{Entry, Flushed}
use Rattle.member_node.specs.Keys.{AreDistinct, declared_by}
use Rattle.member_node.specs.Own.{IsUnpruned, AreOfTheirKinds}
use Rattle.member_node.specs.Changes.{AreMade}

-- GROUPS IN THE MODEL

module _ {Op : Type 0} where
  -- how a group is judged: one that is passed over is as one that is known
  abbrev pub judged_for : ℕ → model.Entry Op → model.Group Op → Judgement
  judged_for id mine group = if is_group_passed_over id mine group then Stale else judged mine group

  -- the entry after a group that was judged so
  abbrev pub entry_after : model.Entry Op → model.Group Op → Judgement → model.Entry Op
  entry_after mine group Wanted = with_group mine group
  entry_after mine group Stale = mine
  entry_after mine group (Missing i) = mine

abbrev pub lacking_in : Judgement → Option ℕ
lacking_in Wanted = None
lacking_in Stale = None
lacking_in (Missing i) = Some i

-- a gap, as the program keeps it
abbrev pub gap_told : KeyGap → Keyed ℕ
gap_told gap = record { key = gap.key; item = gap.lacking }

-- the gaps of a key, which is one at most
abbrev pub gaps_at : Text → Option ℕ → List (Keyed ℕ)
gaps_at key None = []
gaps_at key (Some i) = record { key = key; item = i } ∷ []

-- ENVELOPES

module _ {T Kind Op Delta : Type 0} where
  -- a key's entry once its change is written, if there is one
  abbrev pub current_of : KeyState T Kind Op Delta → Option (Change T Kind Op Delta) → Envelope T Kind Op Delta
  current_of state None = state.entry
  current_of state (Some (Entry entry)) = entry
  current_of state (Some (Flushed flushed)) = state.entry

  -- another entry at a place, if there is one
  abbrev pub put_at : List (Option (Change T Kind Op Delta)) → ℕ → Option (Envelope T Kind Op Delta) → List (Option (Change T Kind Op Delta))
  put_at changes index None = changes
  put_at changes index (Some entry) = slice_set changes index (Some (Entry entry))

  -- an envelope of the same kind, with as many own records, and not pruned, where the first wasn't
  pub record KeepsOwn (kind_of : T → Kind) (id : ℕ) (old new : Envelope T Kind Op Delta) : Type 0 where
    pub kind : kind_of new.value ≡ kind_of old.value
    pub own : performed_in (parts_of old).marks id ≡ false → number_at (parts_of new).versions id ≡ number_at (parts_of old).versions id
    pub unpruned : performed_in (parts_of old).marks id ≡ false → performed_in (parts_of new).marks id ≡ false

  abbrev pub IsKept : (T → Kind) → ℕ → KeyState T Kind Op Delta → Option (Change T Kind Op Delta) → Type 0
  IsKept kind_of id state change = KeepsOwn kind_of id state.entry (current_of state change)

module _ {T Kind Op Delta : Type 0} (IsDataOf : T → History Op → VersionVector → IdentitySet → Type 0) where
  -- an entry after a step: that of the envelope, or, without one, as it was
  abbrev pub StandsAfter : History Op → Option (Envelope T Kind Op Delta) → (before after : model.Entry Op) → Type 0
  StandsAfter log None before after = after ≡ before
  StandsAfter log (Some envelope) before after = StandsFor IsDataOf (parts_of envelope) log after

  -- the change leads from one entry to another
  abbrev pub LeadsTo : (Text → History Op) → (old new : Text → model.Entry Op) → KeyState T Kind Op Delta → Option (Change T Kind Op Delta) → Type 0
  LeadsTo logs old new state None = new state.name ≡ old state.name
  LeadsTo logs old new state (Some (Entry entry)) = StandsFor IsDataOf (parts_of state.entry) (logs state.name) (old state.name) × StandsFor IsDataOf (parts_of entry) (logs state.name) (new state.name)
  LeadsTo logs old new state (Some (Flushed flushed)) = ⊥

-- the history of each key is exactly pruned
abbrev pub AreExactAt : {T Kind Op Delta : Type 0} → List (KeyState T Kind Op Delta) → (Text → model.Entry Op) → Type 0
AreExactAt keys entries = All (λ (state : KeyState _ _ _ _). IsExactlyPruned (entries state.name).history) keys

-- MEMBERS

module _ {T Kind Op Delta : Type 0} (kind_of : T → Kind) (IsDataOf : T → History Op → VersionVector → IdentitySet → Type 0) (kinds : Text → Kind) (logs : Text → History Op) (id : ℕ) (keys : List (KeyState T Kind Op Delta)) where
  -- the keys hold these entries when the step begins
  pub record AreHeld (entries : Text → model.Entry Op) : Type 0 where
    pub distinct : AreDistinct (map (λ (state : KeyState T Kind Op Delta). state.name) keys)
    pub unpruned : IsUnpruned id keys
    pub of_kinds : All (λ (state : KeyState T Kind Op Delta). kinds state.name ≡ state.kind) keys
    pub held : All (λ (state : KeyState T Kind Op Delta). StandsForEntry kind_of IsDataOf kinds logs state.name state.entry (entries state.name)) keys

  -- and are of their kinds, and those of a member of the model
  pub record AreHeldBy (view : ℕ) (node : nodes.Node Kind Op Shown) : Type 0 where
    pub of_kinds : AreOfTheirKinds kind_of keys
    pub held : AreHeld node.entries
    pub identity : node.identity ≡ id
    pub viewed : node.view.number ≡ view
    pub declares : node.keys ≡ map declared_by keys

  -- what was taken so far keeps what the keys are
  pub record AreOnTheWay (entries : Text → model.Entry Op) (changes : List (Option (Change T Kind Op Delta))) : Type 0 where
    pub of_kinds : AreOfTheirKinds kind_of keys
    pub held : AreHeld entries
    pub kept : AreMade (IsKept kind_of id) keys changes

  -- the changes so far lead from these entries to those of a member of the model
  pub record IsAtWork (view : ℕ) (entries : Text → model.Entry Op) (changes : List (Option (Change T Kind Op Delta))) (node : nodes.Node Kind Op Shown) : Type 0 where
    pub identity : node.identity ≡ id
    pub viewed : node.view.number ≡ view
    pub declares : node.keys ≡ map declared_by keys
    pub leads : AreMade (LeadsTo IsDataOf logs entries node.entries) keys changes
