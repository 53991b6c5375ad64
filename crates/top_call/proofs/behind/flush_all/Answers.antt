use Rattle.std.proofs.Common.{◌≡◌, ◌≤◌, ◌+◌, ◌++◌, ◌∷◌, [], arith, sym, subst, vec_len, vec_capacity}
use Rattle.std.specs.Prelude.{◌||◌}
use Rattle.std.specs.Vec.Iter.{into_iter_items, into_iter_len}
use Rattle.std.proofs.lemmas.Grind.{common_steps}
use Rattle.top_call.specs.Stopping.{AreHandedOn}
use Rattle.top_call.proofs.Flushing.{handed_more}
use Rattle.top_call.proofs.behind.flush_all.Goals as goal

pub loop-keeper-preserved : goal.loop-keeper-preserved
loop-keeper-preserved g c = (
  subst (AreHandedOn g.K.Keeper (c.loop-keeper.any_refused || c.flush_one-inner.result.refused) (c.loop-keeper.yielded ++ c.in-Some.keeper ∷ [])) (sym pushed)
      (handed_more g.K.Keeper c.loop-keeper.any_refused c.flush_one-inner.result.refused c.loop-keeper.yielded c.loop-keeper.all.items c.in-Some.keeper c.flush_one-inner.result.inner c.loop-keeper.invariant.0 c.flush_one-inner.ensures),
  rest,
  roomy,
)
  where
    pushed : c.push.new.self.items ≡ c.loop-keeper.all.items ++ c.flush_one-inner.result.inner ∷ []
    pushed = grind (arith, common_steps, c.push.ensures, c.loop-keeper.invariant, c.in-Some.ensures)

    rest : (c.loop-keeper.yielded ++ c.in-Some.keeper ∷ []) ++ into_iter_items c.next.new.self ≡ c.args.keepers.items
    rest = grind (arith, common_steps, c.loop-keeper.invariant, c.in-Some.ensures)

    roomy : vec_len c.push.new.self + into_iter_len c.next.new.self ≤ vec_capacity c.push.new.self
    roomy = grind (arith, common_steps, c.push.ensures, c.loop-keeper.invariant, c.in-Some.ensures)
