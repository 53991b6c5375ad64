-- Marks as bytes: their one spelling, and how they are read from the front of bytes.
--     pieces_spelled        what is spelled of each identity that has something, rising, behind how many these are
--     marks_spelled         each mark behind its identity
--     marks_in              marks at the front of bytes
use Rattle.std.specs.Prelude.{ℕ, zero, suc, ◌^◌, List, [], ◌∷◌, ◌++◌, length, flat_map, filter_map, Bool, nat_le, nat_lt, ◌==◌, if◌then◌else◌, Option, option_map, Result, Ok}
use Rattle.std.specs.FinMap as map
use Rattle.model_history.specs.Table.{identity_limit, identities}
use Rattle.base_bytes.specs.declared.fault.Fault.{Fault}
use Rattle.base_bytes.specs.Fields.{◌>>=◌, kept, byte_in, word_in}
use Rattle.base_bytes.specs.Spelling.{word_spelled, number_spelled}
use Rattle.base_vectors.specs.IdSets.{members_in}
use Rattle.base_vectors.specs.Fields.{identity_in, positive_in}
use Rattle.base_vectors.specs.Spelling.{nobody, ids_spelled, ids_in}
use Rattle.data_markers.specs.declared.marker.Marker.{Marker}
use Rattle.data_markers.specs.declared.marker.Marker.TheVariants.{Initialized, Performed}
use Rattle.data_markers.specs.Marks.{Marks, mark_of}

-- SPELLING

abbrev pub pieces_spelled : (ℕ → Option (List ℕ)) → List ℕ
pieces_spelled piece = length (filter_map piece identities) ∷ flat_map (λ bytes. bytes) (filter_map piece identities)

-- of a mark that was begun: the view, who will prune, and who has seen it
abbrev pub begun_tail : (view owner : ℕ) → (seen : ℕ → Bool) → List ℕ
begun_tail view owner seen = 0 ∷ word_spelled view ++ owner ∷ ids_spelled seen

-- of a performed one: who pruned, the number of the prune, and how many records it found
abbrev pub performed_tail : (owner at upto : ℕ) → List ℕ
performed_tail owner at upto = 1 ∷ owner ∷ number_spelled at ++ number_spelled upto

-- what is spelled of a mark behind its identity
abbrev pub tail_spelled : Marker → List ℕ
tail_spelled (Initialized view owner seen) = begun_tail view owner (members_in seen)
tail_spelled (Performed owner at upto) = performed_tail owner at upto

abbrev pub mark_spelled : ℕ → Marker → List ℕ
mark_spelled removed marker = removed ∷ tail_spelled marker

abbrev pub piece_of : Marks → ℕ → Option (List ℕ)
piece_of marks removed = option_map (mark_spelled removed) (mark_of marks removed)

-- what is spelled of each mark
unfoldable pub all_pieces : Marks → List (List ℕ)
all_pieces marks = filter_map (piece_of marks) identities

unfoldable pub marks_spelled : Marks → List ℕ
marks_spelled marks = pieces_spelled (piece_of marks)

-- READING

unfoldable pub begun_in : List ℕ → Result (Marker × List ℕ) Fault
begun_in bytes = do
  view ← word_in bytes
  owner ← identity_in 0 nobody view.1
  seen ← ids_in owner.1
  Ok (Initialized view.0 owner.0 seen.0, seen.1)

unfoldable pub performed_in_front : List ℕ → Result (Marker × List ℕ) Fault
performed_in_front bytes = do
  owner ← identity_in 0 nobody bytes
  at ← positive_in (2 ^ 62) owner.1
  upto ← positive_in (2 ^ 62) at.1
  Ok (Performed owner.0 at.0 upto.0, upto.1)

-- a mark behind its tag
unfoldable pub marker_in : List ℕ → Result (Marker × List ℕ) Fault
marker_in bytes = do
  tag ← byte_in bytes
  _ ← kept (nat_lt tag.0 2) (length bytes)
  if tag.0 == 0 then begun_in tag.1 else performed_in_front tag.1

unfoldable pub mark_in : ℕ → List ℕ → Result ((ℕ × Marker) × List ℕ) Fault
mark_in least bytes = do
  removed ← identity_in least nobody bytes
  mark ← marker_in removed.1
  Ok ((removed.0, mark.0), mark.1)

-- so many marks, rising by identity
unfoldable pub marks_from : ℕ → ℕ → List ℕ → Result (List (ℕ × Marker) × List ℕ) Fault
marks_from least zero bytes = Ok ([], bytes)
marks_from least (suc count) bytes = do
  first ← mark_in least bytes
  others ← marks_from (suc first.0.0) count first.1
  Ok (first.0 ∷ others.0, others.1)

abbrev pub all_put : Marks → List (ℕ × Marker) → Marks
all_put marks [] = marks
all_put marks (mark ∷ more) = all_put (map.insert marks mark.0 mark.1) more

abbrev pub put_by : Marks → Result (List (ℕ × Marker) × List ℕ) Fault → Result (Marks × List ℕ) Fault
put_by marks read = read >>= λ found. Ok (all_put marks found.0, found.1)

-- the number of marks, which all identities may have, and the marks
unfoldable pub marks_in : List ℕ → Result (Marks × List ℕ) Fault
marks_in bytes = do
  count ← byte_in bytes
  _ ← kept (nat_le count.0 identity_limit) (length bytes)
  put_by map.empty (marks_from 0 count.0 count.1)
