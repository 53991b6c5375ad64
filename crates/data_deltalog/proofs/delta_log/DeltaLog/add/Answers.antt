use Rattle.std.proofs.Common.{◌≡◌, ◌+◌, sym, ap, subst, ◌∙◌}
use Rattle.model_history.specs.History.Action.{Operation}
use Rattle.model_members.specs.Entry.{with_action, with_prune}
use Rattle.data_deltalog.specs.Contents.{LogParts, appended}
use Rattle.data_deltalog.specs.Images.{StandsForLog}
use Rattle.data_deltalog.proofs.Keeping.{stands_operation, stands_prune}
use Rattle.data_deltalog.proofs.delta_log.DeltaLog.add.Given as given
use Rattle.data_deltalog.proofs.delta_log.DeltaLog.add.Goals as goal

-- the log after the call is the one with one more record
grown : (g : given.Over) (c : goal.After-self-1 g)
    → ◌≡◌ {A = LogParts g.row.T-Kind.Denot g.row.T-Delta.Denot} (appended c.args.self.now c.args.next.before c.args.next.delta) (record { origin = c.self.inside.origin; kind = c.self.inside.kind; last = c.self.inside.last + 1; before = c.put.new.vector; records = c.push.new.self })
grown g c =
    let old : LogParts g.row.T-Kind.Denot g.row.T-Delta.Denot = record { origin = c.self.inside.origin; kind = c.self.inside.kind; last = c.self.inside.last; before = c.self.inside.before; records = c.self.inside.records } in
    let is : old ≡ c.args.self.now = c.self.view_is in
    ap (λ (parts : LogParts g.row.T-Kind.Denot g.row.T-Delta.Denot). appended parts c.args.next.before c.args.next.delta) (sym is)
    ∙ (λ i. record {
      origin = c.self.inside.origin;
      kind = c.self.inside.kind;
      last = c.self.inside.last + 1;
      before = sym c.put.ensures i;
      records = sym c.push.ensures i;
    })

pub returns-clause-operation : goal.returns-clause-operation
returns-clause-operation g c = λ log entry op made s taken known some is.
    subst (λ parts. StandsForLog g.T.Replica.IsDeltaOf parts log (with_action entry c.args.self.now.origin (Operation op))) (grown g c)
    (stands_operation g.T.Replica.IsDeltaOf c.args.self.now log entry op c.args.next.before c.args.next.delta made s taken known some is)

pub returns-clause-prune : goal.returns-clause-prune
returns-clause-prune g c = λ log entry removed s taken known none.
    subst (λ parts. StandsForLog g.T.Replica.IsDeltaOf parts log (with_prune entry c.args.self.now.origin removed)) (grown g c)
    (stands_prune g.T.Replica.IsDeltaOf c.args.self.now log entry removed c.args.next.before c.args.next.delta s taken known none)
