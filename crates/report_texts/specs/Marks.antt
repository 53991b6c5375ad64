-- The marks of the program as texts.
use Rattle.std.specs.Prelude.{ℕ, ◌++◌, map, codes, decimal, Option, option_map}
use Rattle.std.specs.List.{join_with_byte}
use Rattle.model_history.specs.Texts.{Text}
use Rattle.model_history.specs.Vector.{members_of}
use Rattle.base_vectors.specs.IdSets.{members_in}
use Rattle.data_markers.specs.declared.marker.Marker.{Marker}
use Rattle.data_markers.specs.declared.marker.Marker.TheVariants.{Initialized, Performed}
use Rattle.data_markers.specs.Marks.{Marks, mark_of}

abbrev pub marker_text : ℕ → Marker → Text
marker_text r (Initialized view owner seen) = decimal r ++ codes ">" ++ decimal owner ++ codes "/" ++ decimal view ++ codes ":" ++ join_with_byte 46 (map decimal (members_of (members_in seen)))
marker_text r (Performed owner at upto) = decimal r ++ codes ">" ++ decimal owner ++ codes "@" ++ decimal at

-- the mark of an identity, if it has one
abbrev pub marker_word : Marks → ℕ → Option Text
marker_word marks r = option_map (marker_text r) (mark_of marks r)
