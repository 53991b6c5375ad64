use Rattle.std.proofs.Common.{◌≡◌, true, rules, drop, arith}
use Rattle.base_places.specs.Places.{bytes_dropped}
use Rattle.base_places.proofs.Reading.{on_at}
use Rattle.member_codec.proofs.Changes.{kind_fails, kind_unknown, change_read, of_origin_at}
use Rattle.member_codec.proofs.groups.read_change.Goals as goal

pub returns-in-Err-clause-exact : goal.returns-in-Err-clause-exact
returns-in-Err-clause-exact g c = kind_fails g.T.SpelledDelta.is_delta_byte g.T.SpelledDelta.delta_in c.args.from.now c.args.place c.args.origin c.in-Err.error c.in-Err.ensures.exact

pub returns-then-not-is_delta-clause-exact : goal.returns-then-not-is_delta-clause-exact
returns-then-not-is_delta-clause-exact g c =
    kind_unknown g.T.SpelledDelta.is_delta_byte g.T.SpelledDelta.delta_in c.args.from.now c.args.place c.args.origin c.in-Ok.kind c.in-Ok.middle c.in-Ok.ensures.exact c.requires (search (rules, c.is_delta.ensures))

pub returns-else-not-is_delta-clause-of_origin : goal.returns-else-not-is_delta-clause-of_origin
returns-else-not-is_delta-clause-of_origin g c =
    let known : g.T.SpelledDelta.is_delta_byte c.in-Ok.kind ≡ true = search (rules, c.is_delta.ensures) in
    of_origin_at g.T.SpelledDelta.delta_in g.T.Replica.IsOfOrigin c.args.from.now c.in-Ok.middle c.args.origin c.in-Ok.kind
    (λ x rest h. (g.met.T.SpelledDelta.delta_read_is_spelled c.in-Ok.kind c.args.origin (drop c.in-Ok.middle c.args.from.now) x rest known (bytes_dropped c.in-Ok.middle c.args.from.now (λ i. omega (arith, c.type_inv.from i))) h).3) c.read_delta.result c.read_delta.ensures

pub returns-else-not-is_delta-clause-exact : goal.returns-else-not-is_delta-clause-exact
returns-else-not-is_delta-clause-exact g c =
    let known : g.T.SpelledDelta.is_delta_byte c.in-Ok.kind ≡ true = search (rules, c.is_delta.ensures) in
    rw (change_read g.T.SpelledDelta.is_delta_byte g.T.SpelledDelta.delta_in c.args.from.now c.args.place c.args.origin c.in-Ok.kind c.in-Ok.middle c.in-Ok.ensures.exact known)
    (on_at c.args.from.now c.in-Ok.middle g.T.SpelledDelta.delta_spelled (g.T.SpelledDelta.delta_in c.in-Ok.kind c.args.origin) (λ bytes x rest fits e. let t = g.met.T.SpelledDelta.delta_read_is_spelled c.in-Ok.kind c.args.origin bytes x rest known fits e in (t.0, t.1))
    (bytes_dropped c.in-Ok.middle c.args.from.now (λ i. omega (arith, c.type_inv.from i))) c.read_delta.result c.read_delta.ensures)
