use Rattle.top_call.proofs.Entries.{refused_due}
use Rattle.top_call.proofs.upgrading.upgraded.Goals as goal

pub returns : goal.returns
returns g c =
    let S = g.T.SpelledData in
    refused_due S.is_known S.read_in S.byte_of S.spelled S.IsSound g.T.Replica.mentioned c.args.bytes.now c.in-Err.error c.fault_due.result c.in-Err.ensures.exact c.in-Err.ensures.only c.fault_due.ensures
