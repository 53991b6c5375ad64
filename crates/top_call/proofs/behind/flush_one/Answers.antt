use Rattle.std.proofs.Common.{true, false, refl, sym, subst}
use Rattle.top_call.specs.Stopping.{IsHandedOn}
use Rattle.top_call.proofs.Flushing.{flushed}
use Rattle.top_call.proofs.behind.flush_one.Goals as goal

pub returns-in-Ok : goal.returns-in-Ok
returns-in-Ok g c =
    subst (IsHandedOn g.K.Keeper false c.args.keeper) (sym c.stop.ensures)
    (flushed g.K.Keeper g.met.K.Keeper.tells_alike c.args.keeper c.flush.new.self c.flush.ensures.sound c.flush.result c.flush.ensures.flushes false (λ is. absurd (let here = c.in-Ok.is in cc (is, here))))

pub returns-in-Err-Failed : goal.returns-in-Err-Failed
returns-in-Err-Failed g c =
    subst (IsHandedOn g.K.Keeper false c.args.keeper) (sym c.stop-in-Err-Failed.ensures)
    (flushed g.K.Keeper g.met.K.Keeper.tells_alike c.args.keeper c.flush.new.self c.flush.ensures.sound c.flush.result c.flush.ensures.flushes false (λ is. absurd (let here = c.in-Err-Failed.is in cc (is, here))))

pub returns-in-Err-Memory : goal.returns-in-Err-Memory
returns-in-Err-Memory g c =
    subst (IsHandedOn g.K.Keeper true c.args.keeper) (sym c.stop-in-Err-Memory.ensures) (flushed g.K.Keeper g.met.K.Keeper.tells_alike c.args.keeper c.flush.new.self c.flush.ensures.sound c.flush.result c.flush.ensures.flushes true (λ is. refl))
