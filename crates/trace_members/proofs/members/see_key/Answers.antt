use Rattle.std.proofs.Common.{sym, ap, subst, ◌∙◌}
use Rattle.data_envelope.specs.Images.{StandsFor}
use Rattle.data_envelope.specs.Words.{parts_of}
use Rattle.trace_members.specs.Watching.{key_at}
use Rattle.trace_members.proofs.members.see_key.Goals as goal

pub returns-clause-saw : goal.returns-clause-saw
returns-clause-saw g c = λ D kinds logs entry flushed same stands.
    let state = c.args.key.now in
    let image = subst (λ envelope. StandsFor g.T.Replica.IsDataOf (parts_of envelope) (logs state.name) entry) (sym c.entry.ensures) stands.held.image in
    let kind = sym (ap (λ envelope. g.T.Replica.kind_of envelope.value) c.entry.ensures ∙ stands.held.kind ∙ stands.kind) in
    c.see_entry.ensures.saw D (logs state.name) (key_at state entry) same (sym c.name.ensures) kind image
