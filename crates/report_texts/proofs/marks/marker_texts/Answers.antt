use Rattle.std.proofs.Common.{◌≤◌, ap, sym, ◌∙◌, map, string_bytes, arith}
use Rattle.std.specs.Prelude.{filter_map, option_map}
use Rattle.std.specs.List.{range_with_len}
use Rattle.model_history.specs.Table.{identity_limit}
use Rattle.base_vectors.proofs.Walks.{filter_map_end}
use Rattle.data_markers.specs.Marks.{mark_of}
use Rattle.report_texts.specs.Marks.{marker_text, marker_word}
use Rattle.report_texts.proofs.Ranges.{pushed, given_more, none_given}
use Rattle.report_texts.proofs.marks.marker_texts.Goals as goal
use Rattle.report_texts.proofs.marks.marker_texts.Goals.{in-Some+in-Some-get+in_ok-marker_text+in_ok-push, in-Some+in_default-get, in_default}

pub loop-number-preserved : goal.loop-number-preserved
loop-number-preserved c =
    let n = c.loop-number.number in
    let word = marker_word c.args.markers.now in
    elim c.match-new.branch [
      | in-Some+in-Some-get+in_ok-marker_text+in_ok-push w ↦
          pushed c.loop-number.texts c.match-new.texts w.in_ok-marker_text.field-0 (filter_map word (range_with_len 0 n)) (marker_text n w.in-Some-get.marker) c.loop-number.invariant w.in_ok-marker_text.ensures (w.texts-is ∙ w.in_ok-push.ensures.ok)
          ∙ given_more word n (marker_text n w.in-Some-get.marker) (ap (option_map (marker_text n)) (ap (mark_of c.args.markers.now) (sym w.in-Some.ensures.value) ∙ sym w.in-Some-get.ensures.value))
      | in-Some+in_default-get w ↦ ap (map string_bytes) w.texts-is ∙ c.loop-number.invariant
          ∙ none_given word n (ap (option_map (marker_text n)) (ap (mark_of c.args.markers.now) (sym w.in-Some.ensures.value) ∙ sym w.in_default-get.ensures.value))
      | in_default w ↦ absurd (let no = w.in_default.ensures.variant.1 (omega (arith, c.loop-number-test.true, c.limit-number-end.ensures.range)) in cc)
    ]

pub returns : goal.returns
returns c =
    let few : c.loop-number.number ≤ identity_limit = omega (arith, c.loop-number.auto.number-end, c.limit-number-end.ensures.range) in
    c.loop-number.invariant ∙ filter_map_end (marker_word c.args.markers.now) c.loop-number.number few
    (λ i from. ap (option_map (marker_text i)) (c.limit-number-end.ensures.above i (omega (arith, c.loop-number-test.false, from))))
