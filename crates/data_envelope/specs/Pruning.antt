-- The two steps of a prune, by what an envelope counts and marks.
--     init_of        what becomes of the first step
--     IsPruned        the parts before and after a prune
use Rattle.std.specs.Prelude.{◌≡◌, ℕ, ◌+◌, ◌==◌, nat_lt, if◌then◌else◌, Option, Some, None}
use Rattle.model_history.specs.Table.{with_at}
use Rattle.base_vectors.specs.Vectors.{number_at}
use Rattle.data_markers.specs.declared.marker.Marker.{Marker}
use Rattle.data_markers.specs.declared.marker.Marker.TheVariants.{Initialized, Performed}
use Rattle.data_markers.specs.Marks.{mark_of}
use Rattle.data_envelope.specs.declared.outcomes.Init.{Init}
use Rattle.data_envelope.specs.declared.outcomes.Init.TheVariants.{Marked, Standing, Newer, NothingKnown}
use Rattle.data_envelope.specs.Images.{Parts}

-- by the mark, where there are records: a mark of a lower view is made anew, one of this view stands
abbrev pub init_as : Option Marker → ℕ → Init
init_as None view = Marked
init_as (Some (Initialized begun owner seen)) view = if nat_lt begun view then Marked else (if nat_lt view begun then Newer else Standing)
init_as (Some (Performed owner at upto)) view = NothingKnown

module _ {State : Type 0} where
  abbrev pub init_of : Parts State → ℕ → ℕ → Init
  init_of parts r view = if number_at parts.versions r == 0 then NothingKnown else init_as (mark_of parts.marks r) view

  -- the prune is the owner's next record. The records of the removed identity are counted no more, and its mark names the prune
  pub record IsPruned (removed owner : ℕ) (old new : Parts State) : Type 0 where
    pub versions : (i : ℕ) → number_at new.versions i ≡ with_at (with_at (number_at old.versions) owner (number_at old.versions owner + 1)) removed 0 i
    pub marks : (i : ℕ) → mark_of new.marks i ≡ with_at (mark_of old.marks) removed (Some (Performed owner (number_at old.versions owner + 1) (number_at old.versions removed))) i
