use Rattle.std.proofs.Common.{sym, subst}
use Rattle.script_reading.specs.declared.clients.Clients.TheVariants.{Allowed}
use Rattle.top_call.specs.Due.{IsDue, ComeBack}
use Rattle.top_call.specs.Passages.{reading, traffic}
use Rattle.top_call.proofs.Called.{Called, has_cause, is_done, answers_all, returned, reads_nothing}
use Rattle.top_call.proofs.top.replicate.Given as given
use Rattle.top_call.proofs.top.replicate.Goals as goal

-- what was due and written
called : (g : given.Over) (c : goal.After-written g) → Called g.D.Keeper (traffic g.S.Source g.K.Sink c.args.source.now c.due_with_clients.new.source c.args.sink.now c.written.new.sink c.args.keepers.items c.written.result.keepers.items) Allowed c.args.words.now c.written.result.status
called g c = record {
  asked = c.asked_by-asked.result;
  asks = c.asked_by-asked.ensures.asked;
  due = c.due_with_clients.result.due;
  is = subst (λ keepers. IsDue g.D.Keeper c.asked_by-asked.result (reading g.S.Source c.args.source.now c.due_with_clients.new.source) c.args.keepers.items keepers.items c.due_with_clients.result.due) (sym c.written.ensures.keepers) c.due_with_clients.ensures.due;
  told = c.written.ensures.status;
}

pub returns-clause-done : goal.returns-clause-done
returns-clause-done g c = is_done g.D.Keeper _ Allowed c.args.words.now c.written.result.status (called g c)

pub returns-clause-cause : goal.returns-clause-cause
returns-clause-cause g c = has_cause g.D.Keeper _ Allowed c.args.words.now c.written.result.status (called g c)

pub returns-clause-answers : goal.returns-clause-answers
returns-clause-answers g c = answers_all g.D.Keeper _ Allowed c.args.words.now c.written.result.status (called g c)

pub returns-clause-returns : goal.returns-clause-returns
returns-clause-returns g c =
    returned g.D.Keeper _ Allowed c.args.words.now c.asked_by-asked.result c.asked_by-asked.ensures.asked
    (subst (λ keepers. ComeBack g.D.Keeper c.asked_by-asked.result c.args.keepers.items keepers.items) (sym c.written.ensures.keepers) c.due_with_clients.ensures.kept) c.due_with_clients.ensures.later c.written.ensures.later

pub returns-clause-unread : goal.returns-clause-unread
returns-clause-unread g c = λ none. c.due_with_clients.ensures.unread (reads_nothing Allowed c.args.words.now c.asked_by-asked.result c.asked_by-asked.ensures.asked none)
