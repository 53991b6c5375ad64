use Rattle.std.proofs.Common.{◌≡◌, ◌++◌, map, All}
use Rattle.std.specs.Vec.Iter.{into_iter_items}
use Rattle.member_node.proofs.Common.{declared_by, AreSound, HoldsKept}
use Rattle.member_node.proofs.restoring.take_all.Given as goal

-- those that were loaded so far, and those to come
abbrev pub invariant-loop-stored : goal.invariant-loop-stored
invariant-loop-stored g l = record {
  split : l.yielded ++ into_iter_items l.stored-iterator ≡ l.fn.loaded.items;
  declared : map declared_by l.states ≡ map declared_by l.keys;
  holds : All (HoldsKept g.T.Replica g.T.SpelledData l.id l.view l.yielded) l.states;
  sound : AreSound g.T.Replica g.T.SpelledData l.keys l.id l.view.given l.yielded;
}
