use Rattle.std.proofs.Common.{◌<◌, length, ap, ◌∙◌, arith}
use Rattle.std.specs.Ordering.{nat_cmp, is_lt}
use Rattle.std.specs.Cmp.Lexicographic.{slice_cmp}
use Rattle.report_lines.proofs.Orders.{at_place, past_place}
use Rattle.report_lines.proofs.order.place_of.Goals as goal

pub returns-then-lt-clause-place : goal.returns-then-lt-clause-place
returns-then-lt-clause-place g c =
    let here : c.loop-i.i < length c.args.decls.now = omega (arith, c.loop-i-test.true) in
    at_place (λ decl. decl.key) c.args.decls.now c.loop-i.i c.index-decls-i.result c.args.name.now here c.index-decls-i.is c.lt.result
    (c.lt.ensures ∙ ap (λ key. is_lt (slice_cmp nat_cmp c.args.name.now key)) c.as_str.ensures.value) c.if-lt.true _ c.loop-i.invariant

pub loop-i-preserved : goal.loop-i-preserved
loop-i-preserved g c =
    let here : c.loop-i.i < length c.args.decls.now = omega (arith, c.loop-i-test.true) in
    past_place (λ decl. decl.key) c.args.decls.now c.loop-i.i c.index-decls-i.result c.args.name.now here c.index-decls-i.is c.lt.result
    (c.lt.ensures ∙ ap (λ key. is_lt (slice_cmp nat_cmp c.args.name.now key)) c.as_str.ensures.value) c.if-lt.false _ c.loop-i.invariant
