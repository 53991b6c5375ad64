use Rattle.std.proofs.Common.{◌≡◌, ◌-◌, ◌≤◌, length, drop, map}
use Rattle.base_places.specs.Lists.{items_in}
use Rattle.base_places.proofs.Reading.{with_front}
use Rattle.member_codec.proofs.lists.take_items.Given as goal

abbrev pub invariant-loop : goal.invariant-loop
invariant-loop g l = record {
  within : l.next ≤ length l.from;
  so_far : with_front g.X.Piece.piece_in (map g.X.Piece.parts l.items) (items_in g.X.Piece.piece_in (l.count - l.counter) (drop l.next l.from)) ≡ items_in g.X.Piece.piece_in l.count (drop l.place l.from);
}
