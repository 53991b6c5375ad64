use Rattle.std.proofs.Common.{sym, ◌∙◌, subst, arith}
use Rattle.std.specs.Prelude.{length}
use Rattle.data_codec.specs.Answers.{IsRead}
use Rattle.data_codec.proofs.Seals.{stored_first, stored_second, found_is, only_is}
use Rattle.data_codec.proofs.stored.read_stored.Goals as goal

pub returns-then-is_second-clause-exact : goal.returns-then-is_second-clause-exact
returns-then-is_second-clause-exact g c =
    subst (IsRead (length c.args.bytes.now) c.read_second.result) (sym (stored_second g.T.SpelledData.is_known g.T.SpelledData.read_in c.args.bytes.now (sym c.is_second.ensures ∙ c.if-is_second.true))) c.read_second.ensures

pub returns-then-is_second-clause-found : goal.returns-then-is_second-clause-found
returns-then-is_second-clause-found g c =
    let S = g.T.SpelledData in
    found_is S.is_known S.read_in S.byte_of S.spelled S.IsSound g.T.Replica.mentioned
    (record { takes = g.met.T.SpelledData.read_is_spelled; again = g.met.T.SpelledData.spelled_is_read; known = g.met.T.SpelledData.byte_is_known })
    c.args.bytes.now c.read_second.result (λ i. omega (arith, c.type_inv.bytes i)) (returns-then-is_second-clause-exact g c)

pub returns-then-is_second-clause-only : goal.returns-then-is_second-clause-only
returns-then-is_second-clause-only g c = λ parts is stored.
    let S = g.T.SpelledData in
    only_is S.is_known S.read_in S.byte_of S.spelled S.IsSound g.T.Replica.mentioned
    (record { takes = g.met.T.SpelledData.read_is_spelled; again = g.met.T.SpelledData.spelled_is_read; known = g.met.T.SpelledData.byte_is_known })
    c.args.bytes.now c.read_second.result parts is stored (returns-then-is_second-clause-exact g c)

pub returns-else-is_second-clause-exact : goal.returns-else-is_second-clause-exact
returns-else-is_second-clause-exact g c =
    subst (IsRead (length c.args.bytes.now) c.read.result) (sym (stored_first g.T.SpelledData.is_known g.T.SpelledData.read_in c.args.bytes.now (sym c.is_second.ensures ∙ c.if-is_second.false))) c.read.ensures.exact

pub returns-else-is_second-clause-found : goal.returns-else-is_second-clause-found
returns-else-is_second-clause-found g c =
    let S = g.T.SpelledData in
    found_is S.is_known S.read_in S.byte_of S.spelled S.IsSound g.T.Replica.mentioned
    (record { takes = g.met.T.SpelledData.read_is_spelled; again = g.met.T.SpelledData.spelled_is_read; known = g.met.T.SpelledData.byte_is_known })
    c.args.bytes.now c.read.result (λ i. omega (arith, c.type_inv.bytes i)) (returns-else-is_second-clause-exact g c)

pub returns-else-is_second-clause-only : goal.returns-else-is_second-clause-only
returns-else-is_second-clause-only g c = λ parts is stored.
    let S = g.T.SpelledData in
    only_is S.is_known S.read_in S.byte_of S.spelled S.IsSound g.T.Replica.mentioned
    (record { takes = g.met.T.SpelledData.read_is_spelled; again = g.met.T.SpelledData.spelled_is_read; known = g.met.T.SpelledData.byte_is_known })
    c.args.bytes.now c.read.result parts is stored (returns-else-is_second-clause-exact g c)
