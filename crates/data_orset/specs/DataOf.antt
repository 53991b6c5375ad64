-- What the data and the deltas of a history are.
use Rattle.std.specs.Prelude.{◌≡◌, ℕ, ◌+◌, ◌<◌, ◌≤◌, ◌⊎◌, true, false, List}
use Rattle.std.specs.FinSet as set
use Rattle.model_history.specs.Texts.{Text}
use Rattle.model_history.specs.Vector.{VersionVector, IdentitySet}
use Rattle.model_history.specs.History.{History}
use Rattle.model_history.specs.Cuts.{action_of, past_of}
use Rattle.model_kinds.specs.declared.operation.Op.{Op}
use Rattle.data_orset.specs.declared.set.SetDelta.{SetDelta}
use Rattle.data_orset.specs.Placing.{key}
use Rattle.data_orset.specs.Dots.{Dots, contained, is_of}
use Rattle.data_orset.specs.Live.{Touches, Adds, IsLive}

-- the dots are the live adding records of identities that weren't cleaned away
pub record AreLiveDots (state : Dots) (log : History Op) (held : VersionVector) (gone : IdentitySet) : Type 0 where
  pub live : (e : Text) (origin index : ℕ) → set.contains state (key e origin (index + 1)) ≡ true → (gone origin ≡ false) × IsLive log e held origin index
  pub all : (e : Text) (origin index : ℕ) → gone origin ≡ false → IsLive log e held origin index → set.contains state (key e origin (index + 1)) ≡ true
  pub shaped : (k : List ℕ) → set.contains state k ≡ true → (e : Text) × (origin : ℕ) × (index : ℕ) × (k ≡ key e origin (index + 1))

-- an add among an origin's records that none of them replaced: where a later one touches the element, the add is not live any more in its past
pub record IsFresh (log : History Op) (e : Text) (origin after to index : ℕ) : Type 0 where
  pub from : after ≤ index
  pub below : index < to
  pub adds : Adds log e origin index (action_of log origin index)
  pub last : (later : ℕ) → index < later → later < to → Touches log e origin later → IsLive log e (past_of log origin later) origin index → ⊥

-- what an origin's records after a number up to another add and replace
pub record IsSeenOf (delta : SetDelta) (log : History Op) (origin after to : ℕ) : Type 0 where
  pub rises : after < to
  -- the fresh dots are the adds that none of them replaced
  pub fresh : (e : Text) (by index : ℕ) → set.contains delta.fresh (key e by (index + 1)) ≡ true → (by ≡ origin) × IsFresh log e origin after to index
  pub adds : (e : Text) (index : ℕ) → IsFresh log e origin after to index → set.contains delta.fresh (key e origin (index + 1)) ≡ true
  pub shaped : (k : List ℕ) → set.contains delta.fresh k ≡ true → (e : Text) × (origin : ℕ) × (index : ℕ) × (k ≡ key e origin (index + 1))
  -- seen were dots that are live in the past of one of them that touches the element, and their own
  pub seen : (e : Text) (by index : ℕ) → set.contains delta.seen (key e by (index + 1)) ≡ true
      → ((at : ℕ) × (after ≤ at) × (at < to) × Touches log e origin at × IsLive log e (past_of log origin at) by index) ⊎ ((by ≡ origin) × (after ≤ index) × (index < to))
  pub all : (e : Text) (by index at : ℕ) → after ≤ at → at < to → Touches log e origin at → IsLive log e (past_of log origin at) by index → set.contains delta.seen (key e by (index + 1)) ≡ true

-- the context has all dots
pub record AreDotsWithin (state : Dots) (context : VersionVector) : Type 0 where
  pub seen : (k : List ℕ) → set.contains state k ≡ true → contained context k ≡ true

-- the fresh dots are the origin's
abbrev pub IsOfOne : SetDelta → ℕ → Type 0
IsOfOne delta origin = (k : List ℕ) → set.contains delta.fresh k ≡ true → is_of origin k ≡ true

-- no fresh dot of the later is among those that the first has seen
abbrev pub AreApartDots : SetDelta → SetDelta → Type 0
AreApartDots first later = (k : List ℕ) → set.contains later.fresh k ≡ true → set.contains first.seen k ≡ false
