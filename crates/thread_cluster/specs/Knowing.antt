-- What a session comes to know.
--     KnowsMore, KnowsSame, GoesOn, Sees        it knows all that it knew; what a call leaves that adds nothing
--     IsTake, GrewByTakes, Turns        its calls grew by takes
--     StartsAt        what the member of a place began as
--     Known        what is known, by place
--     IsAnswered        a call's entry, with its answer in the replay
--     IsRefusedAt, IsCause        why a call made no step
--     IsShown        a look's answer in the replay
--     IsNowhere, IsReceipt, IsCauseOf, IsShownBy        the same by identity
use Rattle.std.specs.Prelude.{◌≡◌, ◌≢◌, ℕ, ◌<◌, ◌≤◌, List, [], ◌∷◌, ◌++◌, length, slice_get, Option, Some, None}
use mathlib.Core.List.{IsPrefix}
use Rattle.thread_machine.specs.declared.machine.Machine.{Ghosts}
use Rattle.thread_machine.specs.declared.entry.Entry.{Entry}
use Rattle.thread_machine.specs.Machines.{machine_at}
use Rattle.thread_machine.specs.Replays.{Replays, IsStepAt}
use Rattle.thread_cell.specs.declared.opening.Opening.{Opening}
use Rattle.thread_cell.specs.declared.receipt.Receipt.{Receipt}
use Rattle.thread_cell.specs.declared.cell.CellError.{CellError}
use Rattle.thread_cell.specs.declared.cell.CellError.TheVariants.{CellFull, Refused, Memory}
use Rattle.thread_cell.specs.Lists.{at}
use Rattle.thread_cell.specs.Rule.{calls_at}
use Rattle.thread_cell.specs.Values.{ClientParts}

-- what is known, by place
abbrev pub Known : Type 0 → Type 0 → Type 0 → Type 0 → Type 0 → Type 0
Known M I F O R = List (List (Entry M I F O R))

-- no place has the identity
pub record IsNowhere (ids : ℕ → Option ℕ) (id : ℕ) : Type 0 where
  pub nowhere : (p : ℕ) → ids p ≢ Some id

module _ {E : Type 0} where
  -- all that was known is known
  pub record KnowsMore (v w : List (List E)) : Type 0 where
    pub begins : (p : ℕ) → IsPrefix (at v p) (at w p)

  -- both know the same
  pub record KnowsSame (v w : List (List E)) : Type 0 where
    pub same : (p : ℕ) → at v p ≡ at w p

  -- the history that is known of a place has as many entries as one may have
  pub record IsFull (p : ℕ) (known : List (List E)) : Type 0 where
    pub full : length (at known p) ≡ 16384

module _ {M I F O R : Type 0} where
  -- the session is of the same client and the same table, and knows all that it knew
  pub record GoesOn (old new : ClientParts M I F O R) : Type 0 where
    pub knows : KnowsMore old.seen.known new.seen.known
    pub stamp : old.seen.stamp ≤ new.seen.stamp
    pub number : new.number ≡ old.number
    pub table : new.seen.table ≡ old.seen.table
    pub began : new.seen.began ≡ old.seen.began

  -- and it made no call
  pub record Sees (old new : ClientParts M I F O R) : Type 0 where
    pub goes_on : GoesOn old new
    pub calls : new.calls ≡ old.calls

  -- the member at a place began as this
  pub record StartsAt (p : ℕ) (began : Option (Opening M I F O R)) (start : M) : Type 0 where
    pub opening : Opening M I F O R
    pub opening_is : began ≡ Some opening
    pub start_is : machine_at opening.machines p ≡ Some start

  module _ {X : Type 0} (taken : ℕ → I → List X) (ids : ℕ → Option ℕ) where
    -- the call is the client's, and takes a message of the member at some place
    pub record IsTake (number : ℕ) (known : List (List (Entry M I F O R))) (call : ℕ × ℕ) : Type 0 where
      pub entry : Entry M I F O R
      pub stands : slice_get (at known call.0) call.1 ≡ Some entry
      pub is_own : entry.client ≡ number
      pub sender : ℕ
      pub from : ℕ
      pub sent_by : ids sender ≡ Some from
      pub message : X
      pub is_take : taken from entry.input ≡ message ∷ []

    -- the session's calls grew by so many takes
    pub record GrewByTakes (n : ℕ) (old new : ClientParts M I F O R) : Type 0 where
      pub added : List (ℕ × ℕ)
      pub count : length added ≡ n
      pub calls : new.calls ≡ old.calls ++ added
      pub each : (k : ℕ) (call : ℕ × ℕ) → slice_get added k ≡ Some call → IsTake new.number new.seen.known call

    pub record Turns (n : ℕ) (old new : ClientParts M I F O R) : Type 0 where
      pub goes_on : GoesOn old new
      pub grew : GrewByTakes n old new

  module _ (meaning : Ghosts M I F O R) where
    -- A CALL UNDER A LOCK: the session knows the entry of its call, which it didn't know and which is none of the calls that it made before; the entry is the step of the member there, after the entries before it
    pub record IsAnswered (p : ℕ) (input : I) (old new : ClientParts M I F O R) (receipt : Receipt M I F O R) : Type 0 where
      pub entry : Entry M I F O R
      pub place : receipt.place ≡ p
      pub stands : slice_get (at new.seen.known p) receipt.index ≡ Some entry
      pub is_new : slice_get (at old.seen.known p) receipt.index ≡ None
      pub input_is : entry.input ≡ input
      pub client_is : entry.client ≡ old.number
      pub stamp_is : entry.stamp ≡ receipt.stamp
      pub output_is : entry.output ≡ receipt.output
      pub later : old.seen.stamp < receipt.stamp
      pub calls : new.calls ≡ old.calls ++ (p, receipt.index) ∷ []
      pub is_new_call : calls_at p receipt.index old.calls ≡ 0
      pub goes_on : GoesOn old new
      pub start : M
      pub starts : StartsAt p old.seen.began start
      pub step : IsStepAt meaning start (at new.seen.known p) receipt.index entry

    -- the member, after the history that is known of its place, may refuse the input so
    pub record IsRefusedAt (p : ℕ) (input : I) (session : ClientParts M I F O R) (refusal : R) : Type 0 where
      pub start : M
      pub starts : StartsAt p session.seen.began start
      pub now : M
      pub replays : Replays meaning start (at session.seen.known p) now
      pub may : meaning.MayRefuse now input refusal

    -- why a call at a place made no step
    abbrev pub IsCause : ℕ → I → ClientParts M I F O R → CellError R → Type 0
    IsCause p input session CellFull = IsFull p session.seen.known
    IsCause p input session (Refused refusal) = IsRefusedAt p input session refusal
    IsCause p input session Memory = Unit {0}

    -- A LOOK: its answer is of the member after the history that the session then knows of the place
    pub record IsShown {Q A : Type 0} (Shows : M → Q → A → Type 0) (p : ℕ) (question : Q) (old new : ClientParts M I F O R) (answer : A) : Type 0 where
      pub start : M
      pub starts : StartsAt p old.seen.began start
      pub now : M
      pub replays : Replays meaning start (at new.seen.known p) now
      pub shows : Shows now question answer
      pub sees : Sees old new

  module _ (meaning : Ghosts M I F O R) (ids : ℕ → Option ℕ) (id : ℕ) where
    -- a call at the member of an identity was answered
    pub record IsReceipt (input : I) (old new : ClientParts M I F O R) (receipt : Receipt M I F O R) : Type 0 where
      pub here : ids receipt.place ≡ Some id
      pub answered : IsAnswered meaning receipt.place input old new receipt

    -- why it was not
    pub record IsCauseOf (input : I) (session : ClientParts M I F O R) (error : CellError R) : Type 0 where
      pub place : ℕ
      pub here : ids place ≡ Some id
      pub cause : IsCause meaning place input session error

    -- what it shows
    pub record IsShownBy {Q A : Type 0} (Shows : M → Q → A → Type 0) (question : Q) (old new : ClientParts M I F O R) (answer : A) : Type 0 where
      pub place : ℕ
      pub here : ids place ≡ Some id
      pub shown : IsShown meaning Shows place question old new answer
