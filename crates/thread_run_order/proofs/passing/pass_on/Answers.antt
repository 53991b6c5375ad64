use Rattle.std.proofs.Common.{◌∙◌, sym}
use Rattle.thread_run_order.proofs.Finishing.{passes_idle, passes_not}
use Rattle.thread_run_order.proofs.passing.pass_on.Goals as goal

pub returns-in_ok-set_next : goal.returns-in_ok-set_next
returns-in_ok-set_next g c = passes_idle c.args.from c.args.to c.count_taken-taken.result _ c.next-next.result c.args.links.now c.set_next.new.self c.next-next.ensures (c.if-next-sent.true ∙ c.sent-sent.ensures.count) c.count_taken-taken.ensures.count c.in_ok-set_next.ensures.ok

pub returns-else-next-sent : goal.returns-else-next-sent
returns-else-next-sent g c = passes_not c.args.from c.args.to _ c.next-next.result c.args.links.now c.next-next.ensures (λ e. c.if-next-sent.false (e ∙ sym c.sent-sent.ensures.count))
