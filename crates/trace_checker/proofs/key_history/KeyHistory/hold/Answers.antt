use Rattle.std.proofs.Common.{refl, subst}
use Rattle.trace_checker.specs.Rows.{IsPut}
use Rattle.trace_checker.proofs.Recording.{on_ok, hold_put}
use Rattle.trace_checker.proofs.key_history.KeyHistory.hold.Goals as goal

pub returns : goal.returns
returns c = on_ok c.put_vector.result _ _ (λ put made held stands kept few.
    hold_put c.args.self.now made held stands kept c.args.at c.args.known.now _ c.in_ok-copy.ensures.normal few refl refl refl refl
    (subst (λ v. IsPut c.args.self.now.held.items c.put_vector.new.held.items c.args.at v) c.in_ok-copy.ensures.same put)) c.put_vector.ensures
