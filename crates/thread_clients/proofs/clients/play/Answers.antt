use Rattle.std.proofs.Common.{◌∙◌, ap, sym, Some}
use Rattle.std.proofs.lemmas.Option.{slice_get-get_or}
use Rattle.thread_clients.specs.Commands.{commands_of}
use Rattle.thread_clients.proofs.Beside.{one_played}
use Rattle.thread_clients.proofs.Stopped.{stopped_last}
use Rattle.thread_clients.proofs.clients.play.Goals as goal

pub returns-in-Ok : goal.returns-in-Ok
returns-in-Ok g c =
    let commands = c.index-clients-number.result in
    one_played _ g.N.Section.ids c.args.desk.now.cluster.now.views g.N.Name.table c.args.clients.now c.args.number commands c.args.job.now _
    (slice_get-get_or c.args.clients.now c.args.number commands c.requires.client ∙ ap Some (sym c.index-clients-number.is)) c.in-Ok.ensures.table c.in-Ok.ensures.goes_on (stopped_last _ g.N.Section.ids c.args.desk.now.cluster.now.views c.args.number (commands_of commands) _ c.args.job.now.session _ c.in-Ok.ensures.ok) (λ e. c.in-Ok.ensures.ok)

pub returns-in-Err : goal.returns-in-Err
returns-in-Err g c =
    let commands = c.index-clients-number.result in
    one_played _ g.N.Section.ids c.args.desk.now.cluster.now.views g.N.Name.table c.args.clients.now c.args.number commands c.args.job.now _
    (slice_get-get_or c.args.clients.now c.args.number commands c.requires.client ∙ ap Some (sym c.index-clients-number.is)) c.in-Err.ensures.table c.in-Err.ensures.goes_on c.in-Err.ensures.err (λ e. absurd cc)
