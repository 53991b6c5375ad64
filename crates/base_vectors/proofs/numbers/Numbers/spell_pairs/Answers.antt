use Rattle.std.proofs.Common.{◌≡◌, ◌≤◌, ◌++◌, ◌∷◌, [], ℕ, List, length, slice_index, append_assoc, ap, sym, ◌∙◌, arith}
use Rattle.std.specs.List.{flat_map}
use Rattle.std.proofs.lemmas.List.{flat_map_more}
use Rattle.base_bytes.specs.Spelling.{number_spelled}
use Rattle.model_history.specs.Table.{identity_limit}
use Rattle.base_vectors.specs.Vectors.{number_at}
use Rattle.base_vectors.specs.Spelling.{pair_spelled}
use Rattle.base_vectors.proofs.Views.{number_of_word, none_above}
use Rattle.base_vectors.proofs.Readings.{pairs_below, pairs_zero, pairs_more, pairs_end}
use Rattle.base_vectors.proofs.numbers.Numbers.spell_pairs.Goals as goal
use Rattle.base_vectors.proofs.numbers.Numbers.spell_pairs.Goals.{then-word-gt0+in_ok-push+in_ok-extend_from_slice, else-word-gt0}

one_more : (before now : List ℕ) (pairs : List (ℕ × ℕ)) (id n : ℕ) (pushed bytes extended : List ℕ) (after : List (ℕ × ℕ)) → now ≡ before ++ flat_map pair_spelled pairs → pushed ≡ now ++ id ∷ [] → bytes ≡ number_spelled n → extended ≡ pushed ++ bytes
    → after ≡ pairs ++ (id, n) ∷ [] → extended ≡ before ++ flat_map pair_spelled after
one_more before now pairs id n pushed bytes extended after is one two all more =
    all ∙ ap (λ (xs : List ℕ). xs ++ bytes) one ∙ ap (λ (xs : List ℕ). (now ++ id ∷ []) ++ xs) two ∙ append_assoc now (id ∷ []) (number_spelled n)
    ∙ ap (λ (xs : List ℕ). xs ++ pair_spelled (id, n)) is ∙ flat_map_more pair_spelled before pairs (id, n) ∙ ap (λ (ps : List (ℕ × ℕ)). before ++ flat_map pair_spelled ps) (sym more)

pub loop-index-preserved : goal.loop-index-preserved
loop-index-preserved c =
    let same : number_at c.args.self.now c.loop-index.index ≡ slice_index c.deref-word-items.result.now c.loop-index.index =
    sym (number_of_word c.self.inside.words.items c.args.self.now c.loop-index.index c.self.view_is c.self.invariant) ∙ ap (λ ws. slice_index ws c.loop-index.index) (sym c.deref-word-items.ensures.value) in
    elim c.if-word-gt0.branch [
      | then-word-gt0+in_ok-push+in_ok-extend_from_slice w ↦
          rw w.into-is (one_more c.args.into.now.items c.loop-index.into.items (pairs_below (number_at c.args.self.now) c.loop-index.index) c.loop-index.index (number_at c.args.self.now c.loop-index.index) w.push.new.self.items w.to_be_bytes.result w.extend_from_slice.new.self.items _
          c.loop-index.invariant w.in_ok-push.ensures.items (w.to_be_bytes.ensures ∙ ap number_spelled (sym same)) w.in_ok-extend_from_slice.ensures.items (pairs_more (number_at c.args.self.now) c.loop-index.index (omega (arith, same, w.if-word-gt0.true))))
      | else-word-gt0 w ↦
          rw w.into-is (c.loop-index.invariant ∙ ap (λ (ps : List (ℕ × ℕ)). c.args.into.now.items ++ flat_map pair_spelled ps) (sym (pairs_zero (number_at c.args.self.now) c.loop-index.index (omega (arith, same, w.if-word-gt0.false)))))
    ]

pub returns : goal.returns
returns c =
    let few : length c.self.inside.words.items ≤ identity_limit = c.self.invariant in
    let end : length c.self.inside.words.items ≤ c.loop-index.index = omega (arith, ap length c.deref-word-items.ensures.value) in
    let in_all : c.loop-index.index ≤ identity_limit = omega (arith, ap length c.deref-word-items.ensures.value) in
    record {
      ok = c.loop-index.invariant ∙ ap (λ (ps : List (ℕ × ℕ)). c.args.into.now.items ++ flat_map pair_spelled ps) (pairs_end (number_at c.args.self.now) c.loop-index.index in_all
          (λ i l. none_above c.self.inside.words.items c.args.self.now i c.self.view_is c.self.invariant (omega arith)));
    }
