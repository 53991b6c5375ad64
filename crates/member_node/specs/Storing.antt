-- What of a plan has to be stored.
--     stored_of        a key, if its entry has to be stored
--     AddsSpellingOnOk, IsReadableOnOk        its entry is spelled, and can be read again
--     AreStoresOf, AreStores        what is stored of all keys, by their new entries
use Rattle.std.specs.Prelude.{◌≡◌, ℕ, ◌<◌, List, [], ◌∷◌, ◌++◌, length, ◌&&◌, not, map, if◌then◌else◌, All, Option, Result, OnOk}
use Rattle.model_history.specs.Texts.{Text}
use Rattle.model_history.specs.History.{History}
use Rattle.model_members.specs.Entry as model
use Rattle.model_members.specs.Entry.{is_unchanged}
use Rattle.model_members.specs.Node as nodes
use Rattle.model_members.specs.Step.{to_store}
use Rattle.model_kinds.specs.declared.shown.Shown.{Shown}
use Rattle.data_lattice.specs.declared.replica.Replica.{Ghosts}
use Rattle.data_lattice.specs.declared.spelled.SpelledData.{Ghosts as Spelling}
use Rattle.data_envelope.specs.declared.envelope.Envelope.{Envelope}
use Rattle.data_envelope.specs.Images.{StandsFor}
use Rattle.data_envelope.specs.Words.{parts_of}
use Rattle.member_keeper.specs.declared.stored.Stored.{Stored}
use Rattle.member_node.specs.declared.key.KeyState.{KeyState}
use Rattle.member_node.specs.declared.plan.Plan.{Plan}
use Rattle.member_node.specs.Keys.{declared_by}
use Rattle.member_node.specs.Members.{StandsForKey}
use Rattle.member_node.specs.Stores.{spelled_entry, IsKept}
use Rattle.member_node.specs.Planning.{Lead, LeadsOn}

module _ {T Kind Op Delta : Type 0} where
  -- the key, with this entry in the model
  abbrev pub holding : KeyState T Kind Op Delta → model.Entry Op → nodes.KeyState Kind Op
  holding state entry = record { name = state.name; kind = state.kind; durable = state.durable; entry = entry }

  -- the key, if its entry has to be stored
  abbrev pub stored_of : KeyState T Kind Op Delta → (old new : model.Entry Op) → List (nodes.KeyState Kind Op)
  stored_of state old new = if state.durable && not (is_unchanged old new) then holding state new ∷ [] else []

module _ {T Kind Op Delta : Type 0} (ghosts : Ghosts T Kind Op Delta) (spelling : Spelling T Kind Op Delta) where
  -- the spelling of a key's new entry comes after those before, if it has to be stored
  abbrev pub AddsSpellingOnOk : {E : Type 0} → KeyState T Kind Op Delta → Envelope T Kind Op Delta → (before after : List Stored) → Result (Unit {0}) E → Type 0
  AddsSpellingOnOk state entry before after result =
      (log : History Op) (old new : model.Entry Op) → StandsFor ghosts.IsDataOf (parts_of state.entry) log old → StandsFor ghosts.IsDataOf (parts_of entry) log new
      → OnOk result (after ≡ before ++ map (spelled_entry spelling) (stored_of state old new))

  -- and it can be read again
  abbrev pub IsReadableOnOk : {E : Type 0} → KeyState T Kind Op Delta → Envelope T Kind Op Delta → Result (Unit {0}) E → Type 0
  IsReadableOnOk state entry result =
      (log : History Op) (old new : model.Entry Op) (k : ℕ) → StandsFor ghosts.IsDataOf (parts_of state.entry) log old → StandsFor ghosts.IsDataOf (parts_of entry) log new
      → k < length (stored_of state old new) → OnOk result (IsKept ghosts spelling state.kind log new)

  -- each by its spelling
  pub record AreSpelled (logs : Text → History Op) (items : List Stored) (entries : List (nodes.KeyState Kind Op)) : Type 0 where
    pub these : items ≡ map (spelled_entry spelling) entries
    pub kept : All (λ k. IsKept ghosts spelling k.kind (logs k.name) k.entry) entries

  -- whatever members of the model the new entries lead from and to
  abbrev pub AreStoresOf : List (KeyState T Kind Op Delta) → (entry_of : ℕ → Option (Envelope T Kind Op Delta)) → List Stored → Type 0
  AreStoresOf keys entry_of items =
      (kinds : Text → Kind) (logs : Text → History Op) (old next : nodes.Node Kind Op Shown) → old.keys ≡ map declared_by keys → next.keys ≡ map declared_by keys
      → All (λ state. StandsForKey ghosts.kind_of ghosts.IsDataOf ghosts.IsDeltaOf kinds logs state (old.entries state.name) (old.flushed state.name)) keys
      → Lead ghosts.IsDataOf logs keys old.entries next.entries entry_of → AreSpelled logs items (to_store old next)

  -- whatever members of the model the plan leads from and to
  abbrev pub AreStores : List (KeyState T Kind Op Delta) → Plan T Kind Op Delta → List Stored → Type 0
  AreStores keys plan items =
      (kinds : Text → Kind) (logs : Text → History Op) (old next : nodes.Node Kind Op Shown) → old.keys ≡ map declared_by keys → next.keys ≡ map declared_by keys
      → All (λ state. StandsForKey ghosts.kind_of ghosts.IsDataOf ghosts.IsDeltaOf kinds logs state (old.entries state.name) (old.flushed state.name)) keys
      → LeadsOn ghosts kinds logs keys old next plan → AreSpelled logs items (to_store old next)
