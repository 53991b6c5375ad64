use Rattle.std.proofs.Common.{◌≡◌, ℕ, ◌+◌, ◌≤◌, List, [], ◌∷◌, ◌++◌, map, sym, ap, ap₂, ◌∙◌, arith}
use Rattle.std.proofs.lemmas.List.{map-append}
use Rattle.serde_json.specs.View.{view}
use Rattle.serde_json.specs.declared.value.Value.{Value}
use Rattle.model_history.specs.Table.{identity_limit}
use Rattle.base_vectors.specs.Vectors.{Numbers, number_at}
use Rattle.base_vectors.proofs.Readings.{pairs_below, pairs_zero, pairs_more, pairs_end}
use Rattle.trace_text.specs.Texts.{pair_data}
use Rattle.trace_text.proofs.written.known_pairs.Goals as goal
use Rattle.trace_text.proofs.written.known_pairs.Goals.{in-Some+then-count-gt0+in_ok-pair_value+in_ok-push, in-Some+else-count-gt0, in_default}

one_more : (known : Numbers) (n : ℕ) (old new : List Value) (v : Value) → map view old ≡ map pair_data (pairs_below (number_at known) n) → 1 ≤ number_at known n → new ≡ old ++ v ∷ [] → view v ≡ pair_data (n, number_at known n)
    → map view new ≡ map pair_data (pairs_below (number_at known) (n + 1))
one_more known n old new v before some more said =
    ap (map view) more ∙ map-append view old (v ∷ []) ∙ ap₂ (λ xs x. xs ++ x ∷ []) before said
    ∙ sym (map-append pair_data (pairs_below (number_at known) n) ((n, number_at known n) ∷ [])) ∙ ap (map pair_data) (sym (pairs_more (number_at known) n some))

pub loop-number-preserved : goal.loop-number-preserved
loop-number-preserved c =
    let n = c.loop-number.number in
    let known = c.args.known.now in
    elim c.match-new.branch [
      | in-Some+then-count-gt0+in_ok-pair_value+in_ok-push w ↦
          let same : w.at-count.result ≡ number_at known n = w.at-count.ensures.value ∙ ap (number_at known) w.in-Some.ensures.value in
          rw w.pairs-is (one_more known n c.loop-number.pairs.items w.push.new.self.items w.in_ok-pair_value.field-0 c.loop-number.invariant (omega (arith, same, w.if-count-gt0.true)) w.in_ok-push.ensures.items
          (w.in_ok-pair_value.ensures ∙ ap₂ (λ i k. pair_data (i, k)) w.from.ensures same))
      | in-Some+else-count-gt0 w ↦
          let same : w.at-count.result ≡ number_at known n = w.at-count.ensures.value ∙ ap (number_at known) w.in-Some.ensures.value in
          rw w.pairs-is (c.loop-number.invariant ∙ ap (map pair_data) (sym (pairs_zero (number_at known) n (omega (arith, same, w.if-count-gt0.false)))))
      | in_default w ↦ absurd (let no = w.in_default.ensures.variant.1 (omega (arith, c.loop-number-test.true, c.limit-number-end.ensures.range)) in cc)
    ]

pub returns : goal.returns
returns c =
    let few : c.loop-number.number ≤ identity_limit = omega (arith, c.loop-number.auto.number-end, c.limit-number-end.ensures.range) in
    c.loop-number.invariant
    ∙ ap (map pair_data) (pairs_end (number_at c.args.known.now) c.loop-number.number few (λ i from. c.limit-number-end.ensures.above i (omega (arith, c.loop-number-test.false, from))))
