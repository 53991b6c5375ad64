use Rattle.std.proofs.Common.{OnOk, sym, subst}
use Rattle.trace_entries.specs.Seeing.{Sees, looked_at}
use Rattle.trace_entries.specs.declared.entries.Look.{Look}
use Rattle.trace_entries.proofs.entries.see_entry.Goals as goal

pub returns-in-Shown-clause-saw : goal.returns-in-Shown-clause-saw
returns-in-Shown-clause-saw g c = λ D log k same named kind stands.
    subst (λ (look : Look). OnOk c.see_shown.result (Sees c.args.recorder.now c.see_shown.new.recorder (looked_at D look c.args.at k))) (sym c.in-Shown.is)
    (c.see_shown.ensures.saw D log k same named kind stands)
