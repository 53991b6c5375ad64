use Rattle.std.proofs.Common.{◌≡◌, length}
use Rattle.std.specs.Vec.Iter.{into_iter_items, into_iter_len}
use Rattle.member_desk.specs.Looks.{told_by}
use Rattle.member_desk.proofs.Taking.{IsTaken}
use Rattle.member_desk.proofs.desk.take_all.Given as goal

abbrev pub invariant-loop-look : goal.invariant-loop-look
invariant-loop-look l = record {
  taken : IsTaken (told_by l.fn.desk l.fn.looks.items) l.desk l.index (into_iter_items l.look-iterator);
  count : length (into_iter_items l.look-iterator) ≡ into_iter_len l.look-iterator;
}
