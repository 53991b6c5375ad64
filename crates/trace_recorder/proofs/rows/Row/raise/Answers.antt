use Rattle.std.proofs.Common.{◌+◌, ap, subst}
use Rattle.trace_recorder.specs.Rows.{IsPut}
use Rattle.trace_recorder.proofs.RowLaws.{on_ok, raised_there}
use Rattle.trace_recorder.proofs.rows.Row.raise.Goals as goal

pub returns : goal.returns
returns c = on_ok c.put.result _ _ (λ put.
    raised_there c.args.self.now.held.items c.put.new.self.held.items c.args.at c.in_ok-known.known (c.at-count.result + 1) c.in_ok-known.ensures (ap (λ n. n + 1) c.at-count.ensures.value)
    (subst (IsPut c.args.self.now.held.items c.put.new.self.held.items c.args.at) c.in_ok-raise.ensures.ok put)) c.put.ensures
