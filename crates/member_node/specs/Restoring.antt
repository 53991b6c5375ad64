-- What a new member makes of what a keeper has.
--     is_named, names_others        whether parts name an identity, and whether they name one that is not earlier
--     IsFitFor        the parts may be loaded for a key
--     HasSeen        a key that took an entry, after the member has seen its marks
--     HoldsKept        what a key holds once some entries were loaded
--     IfDamaged        what holds of the key that is told
use Rattle.std.specs.Prelude.{◌≡◌, ◌≢◌, ℕ, ◌<◌, List, [], Bool, true, false, not, ◌&&◌, ◌||◌, ◌==◌, nat_lt, length, slice_get, slice_index_or, slice_set, Option, Some, None, All, ◌⊎◌}
use Rattle.std.specs.List.{list_any}
use Rattle.std.specs.FinMap as map
use Rattle.model_history.specs.Texts.{Text}
use Rattle.model_history.specs.Table.{identities}
use Rattle.model_history.specs.Vector.{VersionVector, IdentitySet}
use Rattle.model_history.specs.History.{History}
use Rattle.model_members.specs.View.{View}
use Rattle.model_members.specs.Entry.{Entry, seen_by}
use Rattle.base_vectors.specs.Vectors.{number_at}
use Rattle.base_vectors.specs.IdSets.{members_in}
use Rattle.data_markers.specs.Marks.{mark_of, performed_in}
use Rattle.data_markers.specs.declared.marker.Marker.{Marker}
use Rattle.data_markers.specs.declared.marker.Marker.TheVariants.{Initialized, Performed}
use Rattle.data_lattice.specs.declared.replica.Replica.{Ghosts}
use Rattle.data_lattice.specs.declared.spelled.SpelledData.{Ghosts as Spelling}
use Rattle.data_envelope.specs.declared.envelope.Envelope.{Envelope}
use Rattle.data_envelope.specs.Images.{Parts, StandsFor}
use Rattle.data_envelope.specs.Words.{parts_of}
use Rattle.data_codec.specs.Envelopes.{IsEnvelope}
use Rattle.data_codec.specs.Stored.{IsStored}
use Rattle.member_keeper.specs.declared.stored.Stored.{Stored}
use Rattle.member_node.specs.declared.key.KeyState.{KeyState}
use Rattle.member_node.specs.declared.restoring.Unfit.{Unfit}
use Rattle.member_node.specs.declared.restoring.Unfit.TheVariants.{Damaged, Memory}
use Rattle.member_node.specs.Fresh.{IsFresh}
use Rattle.member_node.specs.Loading.{NamesEarlier}

-- WHAT PARTS NAME

-- the identity was given, and is another
abbrev pub is_earlier : (id given i : ℕ) → Bool
is_earlier id given i = nat_lt i given && not (i == id)

abbrev pub mark_names : Marker → ℕ → Bool
mark_names (Initialized view owner seen) i = (owner == i) || members_in seen i
mark_names (Performed owner at upto) i = owner == i

-- what stands at an identity names that, and whom the mark names
abbrev pub names_at : ℕ → Option Marker → ℕ → Bool
names_at r None i = false
names_at r (Some mark) i = (r == i) || mark_names mark i

module _ {T : Type 0} (mentioned : T → ℕ → Bool) where
  -- in the numbers of records, in the data or in the marks
  abbrev pub is_named : Parts T → ℕ → Bool
  is_named parts i = (nat_lt 0 (number_at parts.versions i) || mentioned parts.value i) || list_any (λ r. names_at r (mark_of parts.marks r) i) identities

  abbrev pub names_others : (id given : ℕ) → Parts T → Bool
  names_others id given parts = list_any (λ i. not (is_earlier id given i) && is_named parts i) identities

-- WHAT MAY BE LOADED

module _ {T Kind Op Delta : Type 0} (ghosts : Ghosts T Kind Op Delta) (spelling : Spelling T Kind Op Delta) (id given : ℕ) where
  -- the key is durable, and the bytes are these parts in either format, which are of its kind and name earlier identities alone
  pub record IsFitFor (state : KeyState T Kind Op Delta) (bytes : List ℕ) (parts : Parts T) : Type 0 where
    pub durable : state.durable ≡ true
    pub kind : state.kind ≡ ghosts.kind_of parts.value
    pub envelope : IsEnvelope spelling.IsSound ghosts.mentioned parts
    pub spelled : IsStored spelling.byte_of spelling.spelled parts bytes
    pub names : NamesEarlier ghosts id given parts

  -- so it is for the key of this name, which stands there
  pub record IsFitAt (keys : List (KeyState T Kind Op Delta)) (stored : Stored) (index : ℕ) (parts : Parts T) : Type 0 where
    pub within : index < length keys
    pub named : (d : KeyState T Kind Op Delta) → (slice_index_or keys index d).name ≡ stored.key
    pub fit : (d : KeyState T Kind Op Delta) → IsFitFor (slice_index_or keys index d) stored.bytes parts

-- WHAT A KEY TAKES

module _ {T Kind Op Delta : Type 0} (IsDataOf : T → History Op → VersionVector → IdentitySet → Type 0) (id view : ℕ) where
  -- an entry is as before, but that the member has seen its marks
  pub record HasSeen (parts : Parts T) (entry : Envelope T Kind Op Delta) : Type 0 where
    pub value : entry.value ≡ parts.value
    pub versions : entry.versions ≡ parts.versions
    pub performed : (r : ℕ) → performed_in entry.markers r ≡ performed_in parts.marks r
    pub image : (log : History Op) (before : Entry Op) → StandsFor IsDataOf parts log before → StandsFor IsDataOf (parts_of entry) log (seen_by id view before)

  -- the key has another entry, which was seen
  pub record Takes (old : KeyState T Kind Op Delta) (parts : Parts T) (new : KeyState T Kind Op Delta) : Type 0 where
    pub others : new ≡ record old { entry = new.entry }
    pub seen : HasSeen parts new.entry

  -- so does the key at a place
  pub record TakesAt (old : List (KeyState T Kind Op Delta)) (index : ℕ) (parts : Parts T) (new : List (KeyState T Kind Op Delta)) : Type 0 where
    pub before : KeyState T Kind Op Delta
    pub after : KeyState T Kind Op Delta
    pub there : before ≡ slice_index_or old index before
    pub set : new ≡ slice_set old index after
    pub takes : Takes before parts after

-- WHAT A NEW MEMBER HOLDS

module _ {T Kind Op Delta : Type 0} (ghosts : Ghosts T Kind Op Delta) (spelling : Spelling T Kind Op Delta) (id : ℕ) (view : View) where
  -- the key holds one of these entries, and nothing was logged or sent
  pub record HoldsOne (kept : List Stored) (state : KeyState T Kind Op Delta) : Type 0 where
    pub index : ℕ
    pub stored : Stored
    pub there : slice_get kept index ≡ Some stored
    pub named : state.name ≡ stored.key
    pub parts : Parts T
    pub fit : IsFitFor ghosts spelling id view.given state stored.bytes parts
    pub seen : HasSeen ghosts.IsDataOf id view.number parts state.entry
    pub log : state.log ≡ record { origin = id; kind = state.kind; last = 0; before = map.empty; records = [] }
    pub sent : state.flushed ≡ map.empty

  -- or it is as new, and none of these has its name
  pub record IsUntouched (kept : List Stored) (state : KeyState T Kind Op Delta) : Type 0 where
    pub fresh : IsFresh ghosts.kind_of ghosts.IsDataOf ghosts.IsDeltaOf id state
    pub none : All (λ stored. state.name ≢ stored.key) kept

  abbrev pub HoldsKept : List Stored → KeyState T Kind Op Delta → Type 0
  HoldsKept kept state = IsUntouched kept state ⊎ HoldsOne kept state

abbrev pub IfDamaged : Unfit → (Text → Type 0) → Type 0
IfDamaged (Damaged key) P = P key
IfDamaged Memory P = Unit {0}
