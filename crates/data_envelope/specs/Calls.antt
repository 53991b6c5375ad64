-- What the calls of an envelope answer and leave, by the entries that its parts stand for.
--     AddsRecord, BringsDelta        an update
--     GainsNothing, MergesEntries        another entry of the same key
--     JudgesGroup, TakesGroup        a group of a log
--     BeginsMark, AddsPrune, TellsShares, HasFit        the two steps of a prune
use Rattle.std.specs.Prelude.{◌≡◌, ℕ, ◌+◌, Bool, IsTrue, Option, Some, None, Result, Ok, IfOk, OnOk}
use Rattle.model_history.specs.Vector.{VersionVector, IdentitySet, Covers}
use Rattle.model_history.specs.History.{Action, History, at, versions, union, IsExactlyPruned}
use Rattle.model_history.specs.Log.{IsTakenFrom}
use Rattle.model_meanings.specs.Refusal.{Shares}
use Rattle.model_members.specs.Entry.{Entry, Group, merged, with_action, with_prune, with_group, judged}
use Rattle.model_members.specs.Entry.Judgement.{Wanted}
use Rattle.data_envelope.specs.declared.outcomes.Judgement.{Judgement}
use Rattle.data_envelope.specs.declared.outcomes.Init.{Init}
use Rattle.data_envelope.specs.declared.outcomes.Init.TheVariants.{Marked}
use Rattle.data_envelope.specs.declared.outcomes.Perform.{Perform}
use Rattle.data_envelope.specs.declared.outcomes.Perform.TheVariants.{Performed, Blocked}
use Rattle.data_envelope.specs.Images.{Parts, StandsFor, GroupParts, StandsForGroup}
use Rattle.data_envelope.specs.Words.{judgement_of, with_mark, IsUnmarked}

module _ {State Op : Type 0} (IsDataOf : State → History Op → VersionVector → IdentitySet → Type 0) where
  -- where the log goes on with the record, the parts then stand for the entry with it
  abbrev pub AddsRecord : {V E : Type 0} → (old new : Parts State) → ℕ → Action Op → Result V E → Type 0
  AddsRecord old new id action result =
      (log : History Op) (entry : Entry Op) → StandsFor IsDataOf old log entry → IsTakenFrom log (with_action entry id action).history → OnOk result (StandsFor IsDataOf new log (with_action entry id action))

  -- no mark was begun and no record of the other is lacking: so it is told that the other brings nothing
  abbrev pub GainsNothing : Parts State → Parts State → Bool → Type 0
  GainsNothing own other result =
      (log : History Op) (mine theirs : Entry Op) → StandsFor IsDataOf own log mine → StandsFor IsDataOf other log theirs → IsUnmarked mine → IsUnmarked theirs → Covers (versions mine.history) (versions theirs.history) → IsTrue result

  -- where the union is exactly pruned, the parts then stand for both entries as one
  abbrev pub MergesEntries : {V E : Type 0} → (old other new : Parts State) → Result V E → Type 0
  MergesEntries old other new result =
      (log : History Op) (mine theirs : Entry Op) → StandsFor IsDataOf old log mine → StandsFor IsDataOf other log theirs → IsExactlyPruned (union mine.history theirs.history) → OnOk result (StandsFor IsDataOf new log (merged mine theirs))

  -- where a mark was made, the parts then stand for the entry with it
  abbrev pub BeginsMark : {E : Type 0} → (old new : Parts State) → (removed owner view : ℕ) → Result Init E → Type 0
  BeginsMark old new removed owner view result = (log : History Op) (entry : Entry Op) → StandsFor IsDataOf old log entry → result ≡ Ok Marked → StandsFor IsDataOf new log (with_mark entry removed owner view)

  -- where the log goes on with the prune and it was performed, the parts then stand for the entry with it
  abbrev pub AddsPrune : {E : Type 0} → (old new : Parts State) → (removed owner : ℕ) → Result Perform E → Type 0
  AddsPrune old new removed owner result =
      (log : History Op) (entry : Entry Op) → StandsFor IsDataOf old log entry → IsTakenFrom log (with_prune entry owner removed).history → result ≡ Ok Performed → StandsFor IsDataOf new log (with_prune entry owner removed)

  -- a prune that is told as blocked is so by the shares that are told
  abbrev pub TellsShares : {E : Type 0} → (ℕ → ℕ → History Op → Option Shares) → Parts State → (removed owner : ℕ) → Result Perform E → Type 0
  TellsShares blocked old removed owner result =
      (log : History Op) (entry : Entry Op) (owner_share removed_share : ℕ) → StandsFor IsDataOf old log entry → result ≡ Ok (Blocked owner_share removed_share) → blocked owner removed entry.history ≡ Some (record { owner = owner_share; removed = removed_share })

  -- a prune that was performed was not blocked
  abbrev pub HasFit : {E : Type 0} → (ℕ → ℕ → History Op → Option Shares) → Parts State → (removed owner : ℕ) → Result Perform E → Type 0
  HasFit blocked old removed owner result = (log : History Op) (entry : Entry Op) → StandsFor IsDataOf old log entry → result ≡ Ok Performed → blocked owner removed entry.history ≡ None

  module _ {Delta : Type 0} (IsDeltaOf : Delta → History Op → ℕ → ℕ → ℕ → Type 0) where
    -- where the log goes on with the record, the delta is of it alone
    abbrev pub BringsDelta : {E : Type 0} → Parts State → ℕ → Action Op → Result Delta E → Type 0
    BringsDelta old id action result =
        (log : History Op) (entry : Entry Op) → StandsFor IsDataOf old log entry → IsTakenFrom log (with_action entry id action).history → IfOk result (λ delta. IsDeltaOf delta log id (at entry.history id) (at entry.history id + 1))

    -- the judgement is the model's
    abbrev pub JudgesGroup : Parts State → GroupParts Delta → Judgement → Type 0
    JudgesGroup parts group result = (log : History Op) (entry : Entry Op) (records : Group Op) → StandsFor IsDataOf parts log entry → StandsForGroup IsDeltaOf group log records → judgement_of result ≡ judged entry records

    -- where the group is wanted, the parts then stand for the entry with its records
    abbrev pub TakesGroup : {V E : Type 0} → (old new : Parts State) → GroupParts Delta → Result V E → Type 0
    TakesGroup old new group result =
        (log : History Op) (entry : Entry Op) (records : Group Op) → StandsFor IsDataOf old log entry → StandsForGroup IsDeltaOf group log records → judged entry records ≡ Wanted → OnOk result (StandsFor IsDataOf new log (with_group entry records))
