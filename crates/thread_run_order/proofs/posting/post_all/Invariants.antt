use Rattle.world_places.specs.Sending.{Sends}
use Rattle.thread_run_order.proofs.posting.post_all.Given as goal

abbrev pub invariant-loop-post : goal.invariant-loop-post
invariant-loop-post g l = Sends l.from l.yielded l.initial.links l.links
