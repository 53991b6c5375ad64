use Rattle.std.proofs.Common.{◌≡◌, map, string_bytes}
use Rattle.std.specs.Prelude.{filter_map}
use Rattle.std.specs.List.{range_with_len}
use Rattle.report_texts.specs.Marks.{marker_word}
use Rattle.report_texts.proofs.marks.marker_texts.Given as goal

abbrev pub invariant-loop-number : goal.invariant-loop-number
invariant-loop-number l = map string_bytes l.texts ≡ filter_map (marker_word l.markers) (range_with_len 0 l.number)
