use Rattle.std.proofs.Common.{◌≡◌, ◌<◌, true, false, not, decimal, Some, refl, sym, ap, ◌∙◌, arith}
use Rattle.std.specs.Str.{bytes_eq}
use Rattle.std.proofs.lemmas.Fmt.{IsAscii-decimal, parse-decimal}
use Rattle.std.proofs.lemmas.Slice.Eq.{bytes_eq-Decides}
use Rattle.std.proofs.lemmas.Str.{IsUtf8-from_ascii}
use Rattle.model_history.specs.Table.{identity_limit}
use Rattle.top_lines.proofs.Words.{not_false, some_is}
use Rattle.top_lines.proofs.number.identity.Goals as goal

pub returns-in_default : goal.returns-in_default
returns-in_default c = λ n. (
  λ e. absurd cc,
  λ h. absurd (c.in_default.ensures.cases.0 (rw h.0 (IsUtf8-from_ascii (decimal n) (IsAscii-decimal n (omega (arith, h.1)))))),
)

pub returns-in_default-parse : goal.returns-in_default-parse
returns-in_default-parse c = λ n. (
  λ e. absurd cc,
  λ h. absurd (
      let parsed = parse-decimal 8 n c.in-Ok.text.now c.parse.result (omega (arith, h.1)) (omega (arith, h.1)) (c.in-Ok.ensures.cases.0 ∙ h.0) c.parse.ensures.value.0 in
      let refused = c.in_default-parse.is in
      cc),
)

pub returns-then-ne : goal.returns-then-ne
returns-then-ne c = λ n. (
  λ e. absurd cc,
  λ h. absurd (
      let parsed = parse-decimal 8 n c.in-Ok.text.now c.parse.result (omega (arith, h.1)) (omega (arith, h.1)) (c.in-Ok.ensures.cases.0 ∙ h.0) c.parse.ensures.value.0 in
      let was = c.in-Ok-parse.is in
      let same : c.in-Ok-parse.number ≡ n = cc in
      let text : c.format.result.now ≡ c.in-Ok.text.now = c.format.ensures.text ∙ ap decimal same ∙ sym (c.in-Ok.ensures.cases.0 ∙ h.0) in
      let equal : bytes_eq c.format.result.now c.in-Ok.text.now ≡ true = (bytes_eq-Decides c.format.result.now c.in-Ok.text.now).1 text in
      let no : true ≡ false = sym c.if-ne.true ∙ c.ne.ensures ∙ ap not equal in
      cc),
)

pub returns : goal.returns
returns c = λ n.
    let equal : bytes_eq c.format.result.now c.in-Ok.text.now ≡ true = not_false (bytes_eq c.format.result.now c.in-Ok.text.now) (sym c.ne.ensures ∙ c.if-ne.false) in
    let text : decimal c.in-Ok-parse.number ≡ c.args.word.now = sym c.format.ensures.text ∙ (bytes_eq-Decides c.format.result.now c.in-Ok.text.now).0 equal ∙ c.in-Ok.ensures.cases.0 in (
      λ e.
          let value : n ≡ c.in-Ok-parse.number = rw e at c.new.ensures.value in
          let variant = rw e at c.new.ensures.variant in
          let within : c.in-Ok-parse.number < identity_limit = variant.0 refl in
          (sym text ∙ ap decimal (sym value), omega (arith, within, value)),
      λ h.
          let parsed = parse-decimal 8 n c.in-Ok.text.now c.parse.result (omega (arith, h.1)) (omega (arith, h.1)) (c.in-Ok.ensures.cases.0 ∙ h.0) c.parse.ensures.value.0 in
          let was = c.in-Ok-parse.is in
          let same : c.in-Ok-parse.number ≡ n = cc in
          some_is c.new.result c.in-Ok-parse.number (c.new.ensures.variant.1 (omega (arith, h.1, same))) c.new.ensures.value ∙ ap Some same,
    )
