-- The marks as a contract sees them: a finite map from the removed identity to its mark.
use Rattle.std.specs.Prelude.{if◌then◌else◌, ◌&&◌, not, nat_le, bit_or, ◌^◌, ◌≡◌, ℕ, Bool, true, false, nat_eq, Option, Some, None}
use Rattle.std.specs.Ordering.{nat_cmp}
use Rattle.std.specs.FinMap as map
use Rattle.std.specs.List.{list_any}
use Rattle.model_history.specs.Table.{identities}
use Rattle.model_history.specs.Vector.{IdentitySet}
use Rattle.model_members.specs.Entry.{Mark}
use Rattle.base_vectors.specs.IdSets.{members_in}
use Rattle.data_markers.specs.declared.marker.Marker.{Marker}
use Rattle.data_markers.specs.declared.marker.Marker.TheVariants.{Initialized, Performed}
use Rattle.data_markers.specs.Merging.{merged}

abbrev pub Marks : Type 0
Marks = map.FinMap nat_cmp Marker

abbrev pub mark_of : Marks → ℕ → Option Marker
mark_of marks id = map.get marks id

abbrev pub is_performed : Option Marker → Bool
is_performed None = false
is_performed (Some (Initialized view owner seen)) = false
is_performed (Some (Performed owner at upto)) = true

-- whether the mark was begun in this view
abbrev pub is_begun_at : Option Marker → ℕ → Bool
is_begun_at None view = false
is_begun_at (Some (Initialized begun owner seen)) view = nat_eq begun view
is_begun_at (Some (Performed owner at upto)) view = false

-- the mark that a begun marker stands for. A performed one stands for none
abbrev pub begun : Option Marker → Option Mark
begun None = None
begun (Some (Initialized view owner seen)) = Some (record { view = view; owner = owner; seen = members_in seen })
begun (Some (Performed owner at upto)) = None

-- the identities with a performed mark
abbrev pub performed_in : Marks → IdentitySet
performed_in marks = λ id. is_performed (mark_of marks id)

abbrev pub merged_option : Option Marker → Option Marker → Option Marker
merged_option None other = other
merged_option (Some mark) None = Some mark
merged_option (Some mark) (Some other) = Some (merged mark other)

-- at each identity the merge of what both have
abbrev pub MergesTo : Marks → Marks → Marks → Type 0
MergesTo old other new = (id : ℕ) → mark_of new id ≡ merged_option (mark_of old id) (mark_of other id)

-- whether a member with this view has still to see the mark
abbrev pub is_unseen_by : ℕ → ℕ → Option Marker → Bool
is_unseen_by id view None = false
is_unseen_by id view (Some (Initialized begun owner seen)) = nat_le begun view && not (members_in seen id)
is_unseen_by id view (Some (Performed owner at upto)) = false

-- whether a member with this view has still to see some mark
unfoldable pub has_unseen_by : ℕ → ℕ → Marks → Bool
has_unseen_by id view marks = list_any (λ r. is_unseen_by id view (mark_of marks r)) identities

-- the mark after a member with this view has seen it
abbrev pub marker_seen_by : ℕ → ℕ → Option Marker → Option Marker
marker_seen_by id view None = None
marker_seen_by id view (Some (Initialized begun owner seen)) =
    if nat_le begun view && not (members_in seen id) then Some (Initialized begun owner (bit_or seen (2 ^ id))) else Some (Initialized begun owner seen)
marker_seen_by id view (Some (Performed owner at upto)) = Some (Performed owner at upto)
