use Rattle.std.proofs.Common.{◌≡◌, ℕ, List, [], length, get_or, arith, refl, sym, ◌∙◌}
use Rattle.std.proofs.lemmas.List.{take_more_same, get_or_read_under}
use Rattle.member_desk.proofs.values.same_texts.Goals as goal

pub loop-index-preserved : goal.loop-index-preserved
loop-index-preserved c =
    let one : List (List ℕ) = c.args.one.now in
    let other : List (List ℕ) = c.args.other.now in
    let i : ℕ = c.loop-index.index in
    let mine : c.index-one-index.result ≡ get_or one i [] = get_or_read_under one i (length one) _ [] c.index-one-index.is (omega arith) refl in
    let theirs : c.index-other-index.result ≡ get_or other i [] = get_or_read_under other i (length other) _ [] c.index-other-index.is (omega arith) refl in
    take_more_same one other i [] (omega arith) (omega arith) c.loop-index.invariant (sym mine ∙ c.same_text.ensures.0 c.if-not-same_text.false ∙ theirs)
