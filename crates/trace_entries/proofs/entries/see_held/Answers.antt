use Rattle.trace_entries.proofs.SeenLines.{on_ok}
use Rattle.trace_entries.proofs.Looked.{sees_held}
use Rattle.trace_entries.proofs.entries.see_held.Goals as goal

pub returns-clause-saw : goal.returns-clause-saw
returns-clause-saw g c = λ log k named stands.
    on_ok c.see.result _ _ (sees_held c.args.at k c.args.key.now named c.args.recorder.now c.see.new.recorder c.in_ok-known.known (c.in_ok-known.ensures.image log k.entry stands)) c.see.ensures.saw
