use Rattle.std.proofs.Common.{drop, Ok, ap, sym, ◌∙◌, arith, List, ℕ}
use Rattle.base_places.specs.Places.{bytes_dropped, rest_from}
use Rattle.member_codec.specs.Numbers.{span_spelled}
use Rattle.member_codec.specs.NumberLaws.{span_spells}
use Rattle.member_codec.proofs.numbers.SpanPiece.take.Goals as goal

pub invariant_of-result : goal.invariant_of-result
invariant_of-result c =
    let t = span_spells.takes (drop c.args.place c.args.from.now) (c.in-Ok.after, c.in-Ok.upto) c.in-Ok.ensures.0 (bytes_dropped c.args.place c.args.from.now (λ i. omega (arith, c.type_inv.from i))) c.in-Ok.ensures.1 in
    record { numbers = (t.1.rises, t.1.small) }

pub returns-in-Ok-clause-exact : goal.returns-in-Ok-clause-exact
returns-in-Ok-clause-exact c =
    let t = span_spells.takes (drop c.args.place c.args.from.now) (c.in-Ok.after, c.in-Ok.upto) c.in-Ok.ensures.0 (bytes_dropped c.args.place c.args.from.now (λ i. omega (arith, c.type_inv.from i))) c.in-Ok.ensures.1 in
    c.in-Ok.ensures.1 ∙ ap (λ (rest : List ℕ). Ok ((c.in-Ok.after, c.in-Ok.upto), rest)) (sym (rest_from c.args.from.now c.args.place c.in-Ok.next (span_spelled (c.in-Ok.after, c.in-Ok.upto)) c.in-Ok.ensures.0 t.0 c.in-Ok.ensures.2))
