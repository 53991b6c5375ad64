use Rattle.std.proofs.Common.{◌≡◌, ◌<◌, ◌++◌, length, ap, sym, ◌∙◌, map, take, string_bytes, arith}
use Rattle.std.specs.List.{join_with_byte}
use Rattle.report_texts.proofs.Ranges.{first_word, first_before, next_word, grown_word}
use Rattle.report_texts.proofs.words.push_joined.Goals as goal
use Rattle.report_texts.proofs.words.push_joined.Goals.{then-i-gt0+in_ok-push_str, else-i-gt0}

pub loop-i-preserved : goal.loop-i-preserved
loop-i-preserved c = λ byte is.
    let i = c.loop-i.i in
    let ws = c.args.words.now in
    let word = c.index-words-i.result in
    let start = string_bytes c.args.text.now in
    let here : i < length ws = omega (arith, c.loop-i-test.true) in
    let word_is = ap (λ w. string_bytes c.if-i-gt0.text ++ w) c.as_str.ensures.value in
    elim c.if-i-gt0.branch [
      | then-i-gt0+in_ok-push_str w ↦
          grown_word start (string_bytes c.loop-i.text) (string_bytes c.if-i-gt0.text) _ c.args.separator.now (join_with_byte byte (map string_bytes (take i ws))) (string_bytes word) byte (c.loop-i.invariant byte is)
          (ap string_bytes w.text-is ∙ w.in_ok-push_str.ensures.bytes) is (c.in_ok-push_str-2.ensures.bytes ∙ word_is)
          ∙ ap (λ t. start ++ t) (sym (next_word string_bytes byte i ws word w.if-i-gt0.true here c.index-words-i.is))
      | else-i-gt0 w ↦
          let none : i ≡ 0 = omega (arith, w.if-i-gt0.false) in
          c.in_ok-push_str-2.ensures.bytes ∙ word_is ∙ ap (λ t. t ++ string_bytes word) (ap string_bytes w.text-is ∙ first_before string_bytes start (string_bytes c.loop-i.text) byte i ws none (c.loop-i.invariant byte is))
          ∙ ap (λ t. start ++ t) (sym (first_word string_bytes byte i ws word none here c.index-words-i.is))
    ]
