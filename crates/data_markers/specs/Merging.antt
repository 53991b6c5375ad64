-- Of two marks of one identity: performed wins, then the greater view; equal views unite what they saw.
use Rattle.std.specs.Prelude.{ℕ, nat_lt, if◌then◌else◌, bit_or, min}
use Rattle.data_markers.specs.declared.marker.Marker.{Marker}
use Rattle.data_markers.specs.declared.marker.Marker.TheVariants.{Initialized, Performed}

-- of two marks that were begun
abbrev pub merged_begun : (view owner seen view' owner' seen' : ℕ) → Marker
merged_begun view owner seen view' owner' seen' =
    if nat_lt view view' then Initialized view' owner' seen'
    else (if nat_lt view' view then Initialized view owner seen
    else Initialized view (min owner owner') (bit_or seen seen'))

-- of two performed marks the least: by the owner, then by the number of the prune, then by how many records are kept
abbrev pub least_performed : (owner at upto owner' at' upto' : ℕ) → Marker
least_performed owner at upto owner' at' upto' =
    if nat_lt owner owner' then Performed owner at upto
    else (if nat_lt owner' owner then Performed owner' at' upto'
    else (if nat_lt at at' then Performed owner at upto
    else (if nat_lt at' at then Performed owner' at' upto'
    else Performed owner at (min upto upto'))))

abbrev pub merged : Marker → Marker → Marker
merged (Initialized view owner seen) (Initialized view' owner' seen') = merged_begun view owner seen view' owner' seen'
merged (Initialized view owner seen) (Performed owner' at' upto') = Performed owner' at' upto'
merged (Performed owner at upto) (Initialized view' owner' seen') = Performed owner at upto
merged (Performed owner at upto) (Performed owner' at' upto') = least_performed owner at upto owner' at' upto'
