-- The parts of envelopes and groups, which clauses speak of.
use Rattle.std.specs.Prelude.{◌≡◌, ℕ, ◌<◌, ◌≤◌, Bool, ◌&&◌, ◌||◌, ◌==◌, nat_lt, if◌then◌else◌, Option, Some, None}
use Rattle.model_history.specs.Table.{identity_limit, with_at}
use Rattle.model_history.specs.Vector.{VersionVector, alone}
use Rattle.model_history.specs.History.{at, is_pruned}
use Rattle.model_members.specs.Entry.{Entry, Mark, is_same_mark, Judgement as Meant}
use Rattle.model_members.specs.Entry.Judgement.{Wanted, Stale, Missing}
use Rattle.data_envelope.specs.declared.envelope.Envelope.{Envelope}
use Rattle.data_envelope.specs.declared.group.Group.{Group}
use Rattle.data_lattice.specs.declared.replica.Replica.{Ghosts}
use Rattle.data_envelope.specs.declared.outcomes.Judgement.{Judgement}
use Rattle.data_envelope.specs.declared.outcomes.Judgement.TheVariants.{Take, Already, Gap}
use Rattle.data_envelope.specs.declared.outcomes.Init.{Init}
use Rattle.data_envelope.specs.declared.outcomes.Init.TheVariants.{Marked, Standing, Newer, NothingKnown}
use Rattle.data_envelope.specs.Images.{Parts, GroupParts}

module _ {T Kind Op Delta : Type 0} where
  abbrev pub parts_of : Envelope T Kind Op Delta → Parts T
  parts_of envelope = record { value = envelope.value; versions = envelope.versions; marks = envelope.markers }

  abbrev pub group_parts : {ghosts : Ghosts T Kind Op Delta} → Group T Kind Op Delta ghosts → GroupParts Delta
  group_parts group = record { origin = group.origin; after = group.after; upto = group.upto; needed = group.needs; changes = group.delta }

-- as many records of an identity, and the same mark
abbrev pub is_unchanged_at : {Op : Type 0} → Entry Op → Entry Op → ℕ → Bool
is_unchanged_at old new i = (at old.history i == at new.history i) && is_same_mark (old.marks i) (new.marks i)

-- the judgement, as the model says it
abbrev pub judgement_of : Judgement → Meant
judgement_of Take = Wanted
judgement_of Already = Stale
judgement_of (Gap i) = Missing i

-- the least identity of which fewer records are held than are needed
pub record IsFirstUnknown (held needs : VersionVector) (id : ℕ) : Type 0 where
  pub member : id < identity_limit
  pub lacking : held id < needs id
  pub first : (i : ℕ) → i < id → needs i ≤ held i

abbrev pub init_by : Option Mark → ℕ → Init
init_by None view = Marked
init_by (Some mark) view = if nat_lt mark.view view then Marked else (if nat_lt view mark.view then Newer else Standing)

module _ {Op : Type 0} where
  -- what becomes of the first step of a prune in a view
  abbrev pub init_at : Entry Op → ℕ → ℕ → Init
  init_at entry r view = if (at entry.history r == 0) || is_pruned entry.history r then NothingKnown else init_by (entry.marks r) view

  -- the entry with the first mark of a view, which its owner alone has seen
  abbrev pub with_mark : Entry Op → ℕ → ℕ → ℕ → Entry Op
  with_mark entry r owner view = record entry { marks = with_at entry.marks r (Some (record { view = view; owner = owner; seen = alone owner })) }

  -- no mark was begun
  abbrev pub IsUnmarked : Entry Op → Type 0
  IsUnmarked entry = (r : ℕ) → entry.marks r ≡ None
