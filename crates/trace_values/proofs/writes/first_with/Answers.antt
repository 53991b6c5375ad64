use Rattle.std.proofs.Common.{sym, arith}
use Rattle.base_vectors.specs.Vectors.{number_at}
use Rattle.trace_values.proofs.Searches.{first_found, none_found}
use Rattle.trace_values.proofs.WriteLaws.{is_newest}
use Rattle.trace_values.proofs.writes.first_with.Goals as goal

pub returns-then-last_of-newest : goal.returns-then-last_of-newest
returns-then-last_of-newest c = sym (first_found c.args.writes.now (number_at c.args.known.now) c.args.newest c.in-Some.id
    (λ j h. c.loop-number.invariant j (omega (arith, h, c.in-Some.ensures.value))) (omega (arith, c.loop-number-test.true, c.in-Some.ensures.value))
    (is_newest c.args.writes.now (number_at c.args.known.now) c.args.newest c.in-Some.id c.at.result c.no_write.result c.last_of.result c.at.ensures.value c.no_write.ensures c.last_of.ensures (grind arith) (grind arith)))

pub returns : goal.returns
returns c = sym (none_found c.args.writes.now (number_at c.args.known.now) c.args.newest c.loop-number.number c.loop-number.invariant (omega (arith, c.loop-number.auto.number-end, c.loop-number-test.false)))
