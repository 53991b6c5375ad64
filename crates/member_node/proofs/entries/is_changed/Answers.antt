use Rattle.std.proofs.Common.{Some, sym, ap, subst, not}
use Rattle.member_node.proofs.Common.{StandsFor, parts_of, LeadsTo}
use Rattle.member_node.proofs.entries.is_changed.Goals as goal

pub returns-in-Entry : goal.returns-in-Entry
returns-in-Entry g c = λ logs old new leads.
    let stands = subst (λ change. LeadsTo g.T.Replica.IsDataOf logs old new c.args.state.now (Some change)) c.in-Entry.is leads in
    ap not (c.is_unchanged.ensures.image (logs c.args.state.now.name) (old c.args.state.now.name) (new c.args.state.now.name) (subst (λ entry. StandsFor g.T.Replica.IsDataOf (parts_of entry) (logs c.args.state.now.name) (old c.args.state.now.name)) (sym c.envelope.ensures) stands.0) stands.1)

pub returns-in-Flushed : goal.returns-in-Flushed
returns-in-Flushed g c = λ logs old new leads. absurd (subst (λ change. LeadsTo g.T.Replica.IsDataOf logs old new c.args.state.now (Some change)) c.in-Flushed.is leads)
