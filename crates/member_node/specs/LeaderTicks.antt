-- What a tick comes to, in all logs and for all members of the model that tick.
--     MeansTick, MeansTickAt        of an envelope, for one identity that left
--     TicksOnOk, TellsTickOnOk        of a key in the course of a tick, and of what is told
--     MeansKeyTick, TellsKeyTick        of a key
--     MeansTicks, TellsTicks        of all keys
use Rattle.std.specs.Prelude.{◌≡◌, ℕ, List, [], ◌∷◌, ◌++◌, Option, map, All, Result, OnOk}
use Rattle.model_history.specs.Texts.{Text}
use Rattle.model_history.specs.History.{History, IsPartOf}
use Rattle.model_members.specs.Entry.{Entry}
use Rattle.model_members.specs.Node as nodes
use Rattle.model_members.specs.Step.{Ticking, tick_identity}
use Rattle.model_kinds.specs.declared.shown.Shown.{Shown}
use Rattle.data_lattice.specs.declared.replica.Replica.{Ghosts}
use Rattle.data_envelope.specs.declared.envelope.Envelope.{Envelope}
use Rattle.data_envelope.specs.Images.{StandsFor}
use Rattle.data_envelope.specs.Words.{parts_of}
use Rattle.member_node.specs.declared.key.KeyState.{KeyState}
use Rattle.member_node.specs.declared.outcome.Outcome.{Outcome}
use Rattle.member_node.specs.declared.outcome.KeyOutcome.{KeyOutcome}
use Rattle.member_node.specs.declared.ticking.KeyTick.{KeyTick}
use Rattle.member_node.specs.declared.ticking.KeyTicking.{KeyTicking}
use Rattle.member_node.specs.Replies.{delta_groups, meant_at_key}
use Rattle.member_node.specs.Sending.{state_in}
use Rattle.member_node.specs.Changes.{AreMade}
use Rattle.member_node.specs.Ticking.{tick_of, tick_at, IsTicked, IsTickOf, IsInCourse, TicksIn, IsDue, IsTickedAs, TellsMore}

module _ {T Kind Op Delta : Type 0} (ghosts : Ghosts T Kind Op Delta) (id view : ℕ) (members : List ℕ) where
  -- the outcome and the new envelope are those of the model's tick
  abbrev pub MeansTick : (removed : ℕ) → (old : Envelope T Kind Op Delta) → Outcome → (new : Envelope T Kind Op Delta) → Type 0
  MeansTick removed old outcome new =
      (log : History Op) (before : Entry Op) → StandsFor ghosts.IsDataOf (parts_of old) log before
      → IsTicked ghosts.IsDataOf log id removed before (tick_of ghosts.data_type (ghosts.kind_of old.value) id view members before removed) outcome new

  -- and only where the entry has records of the identity that are not pruned
  abbrev pub MeansTickAt : (removed : ℕ) → (old : Envelope T Kind Op Delta) → Option Outcome → (new : Envelope T Kind Op Delta) → Type 0
  MeansTickAt removed old told new =
      (log : History Op) (before : Entry Op) → StandsFor ghosts.IsDataOf (parts_of old) log before
      → IsTickOf ghosts.IsDataOf log id removed before (tick_at ghosts.data_type (ghosts.kind_of old.value) id view members before removed) told new

  module _ {E : Type 0} (removed : ℕ) (state : KeyState T Kind Op Delta) where
    -- the key is where the model's is after the tick of one identity more
    abbrev pub TicksOnOk : (old new : KeyTicking T Kind Op Delta) → Result (Unit {0}) E → Type 0
    TicksOnOk old new result =
        (digest : Kind → Entry Op → List ℕ) (log : History Op) (node : nodes.Node Kind Op Shown) (so_far : Ticking Op) → state.log.origin ≡ id → TicksIn node id view members → IsInCourse ghosts log state so_far old
        → let next = tick_identity (delta_groups ghosts.data_type digest) node (state_in node state) so_far removed in
        IsPartOf next.entry.history log → OnOk result (IsInCourse ghosts log state next new)

    -- and its outcome stands after those so far
    abbrev pub TellsTickOnOk : KeyTicking T Kind Op Delta → (before after : List KeyOutcome) → Result (Unit {0}) E → Type 0
    TellsTickOnOk old before after result =
        (digest : Kind → Entry Op → List ℕ) (log : History Op) (node : nodes.Node Kind Op Shown) (so_far : Ticking Op) → TicksIn node id view members → IsInCourse ghosts log state so_far old
        → let next = tick_identity (delta_groups ghosts.data_type digest) node (state_in node state) so_far removed in
        (first : List nodes.KeyOutcome) → map meant_at_key before ≡ first ++ so_far.outcomes → OnOk result (map meant_at_key after ≡ first ++ next.outcomes)

  module _ (removed : List ℕ) where
    -- a key becomes what it becomes in the model, if it is due there
    abbrev pub MeansKeyTick : KeyState T Kind Op Delta → KeyTick T Kind Op Delta → Type 0
    MeansKeyTick state tick =
        (digest : Kind → Entry Op → List ℕ) (kinds : Text → Kind) (logs : Text → History Op) (node : nodes.Node Kind Op Shown) → TicksIn node id view members
        → IsDue (delta_groups ghosts.data_type digest) node ghosts kinds logs id removed state → IsTickedAs (delta_groups ghosts.data_type digest) node ghosts logs state tick

    -- and its outcomes are told
    abbrev pub TellsKeyTick : KeyState T Kind Op Delta → (before after : List KeyOutcome) → Type 0
    TellsKeyTick state before after =
        (digest : Kind → Entry Op → List ℕ) (kinds : Text → Kind) (logs : Text → History Op) (node : nodes.Node Kind Op Shown) → TicksIn node id view members
        → IsDue (delta_groups ghosts.data_type digest) node ghosts kinds logs id removed state → TellsMore (delta_groups ghosts.data_type digest) node before (state ∷ []) after

    -- so does each key
    abbrev pub MeansTicks : (keys : List (KeyState T Kind Op Delta)) → List (KeyTick T Kind Op Delta) → Type 0
    MeansTicks keys ticks =
        (digest : Kind → Entry Op → List ℕ) (kinds : Text → Kind) (logs : Text → History Op) (node : nodes.Node Kind Op Shown) → TicksIn node id view members
        → All (IsDue (delta_groups ghosts.data_type digest) node ghosts kinds logs id removed) keys → AreMade (IsTickedAs (delta_groups ghosts.data_type digest) node ghosts logs) keys ticks

    -- and no other outcomes are told
    abbrev pub TellsTicks : (keys : List (KeyState T Kind Op Delta)) → List KeyOutcome → Type 0
    TellsTicks keys outcomes =
        (digest : Kind → Entry Op → List ℕ) (kinds : Text → Kind) (logs : Text → History Op) (node : nodes.Node Kind Op Shown) → TicksIn node id view members
        → All (IsDue (delta_groups ghosts.data_type digest) node ghosts kinds logs id removed) keys → TellsMore (delta_groups ghosts.data_type digest) node [] keys outcomes
