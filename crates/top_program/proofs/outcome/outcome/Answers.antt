use Rattle.std.proofs.Common.{ap, ◌∙◌, subst}
use Rattle.script_reading.specs.declared.clients.Clients.TheVariants.{Allowed}
use Rattle.top_call.specs.Passages.{traffic}
use Rattle.top_call.specs.Serving.{IsDone, Cause, Answers}
use Rattle.top_program.proofs.outcome.outcome.Goals as goal

pub returns-in-Ok-clause-serves : goal.returns-in-Ok-clause-serves
returns-in-Ok-clause-serves g c =
    let end = c.replicate-outcome.result.status in
    let after = c.replicate-outcome.result.keepers.items in
    let found = traffic g.S.Source g.K.Sink c.args.source.now c.replicate-outcome.new.source c.args.sink.now c.replicate-outcome.new.sink c.args.keepers.items in
    rw c.in-Ok.is (record {
      after = after;
      end = end;
      is = c.from-in-Ok.ensures ∙ c.from.ensures;
      done = subst (λ words. IsDone g.D.Keeper (found after) Allowed words end) c.deref.ensures.value c.replicate-outcome.ensures.done;
      cause = subst (λ words. Cause g.D.Keeper (found after) Allowed words end) c.deref.ensures.value c.replicate-outcome.ensures.cause;
      answers = subst (λ words. Answers g.D.Keeper (found after) Allowed words end) c.deref.ensures.value c.replicate-outcome.ensures.answers;
    })
