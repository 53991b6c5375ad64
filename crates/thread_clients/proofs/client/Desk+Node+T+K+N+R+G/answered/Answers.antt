use Rattle.std.proofs.Common.{◌∙◌, refl, ap, map}
use Rattle.world_places.specs.Sending.{told_of}
use Rattle.world_members.specs.declared.event.Head.TheVariants.{Asked}
use Rattle.thread_cluster.proofs.Lists.{on_err_always}
use Rattle.thread_cluster.proofs.Growing.{goes_on_self}
use Rattle.thread_clients.proofs.Settled.{adds_one}
use Rattle.thread_clients.proofs.Stopped.{left_here}
use Rattle.thread_clients.proofs.client.Desk+Node+T+K+N+R+G.answered.Goals as goal

pub returns-in_err-sent-clause-goes_on : goal.returns-in_err-sent-clause-goes_on
returns-in_err-sent-clause-goes_on g c = goes_on_self c.args.session.now

pub returns-in_err-sent-clause-err : goal.returns-in_err-sent-clause-err
returns-in_err-sent-clause-err g c = on_err_always _ _ (left_here _ g.N.Section.ids c.args.command.now.at c.args.output.reply c.args.session.now)

pub returns-in_err-ended-clause-err : goal.returns-in_err-ended-clause-err
returns-in_err-ended-clause-err g c = on_err_always _ _ c.in_err-ended.ensures.err

pub returns-clause-ok : goal.returns-clause-ok
returns-clause-ok g c =
    adds_one _ c.push_reserved.ensures.items
    (record {
      client_is = refl;
      head_is = ap (Asked c.args.command.now.at) c.copied.ensures;
      answer_is = refl;
      sent = c.in_ok-sent.ensures ∙ ap (map told_of) c.as_slice.ensures;
      settles = c.in_ok-ended.ensures.ok;
    })
