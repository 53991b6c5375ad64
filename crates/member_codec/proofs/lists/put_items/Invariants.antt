use Rattle.std.proofs.Common.{◌≡◌, ◌++◌, map, take}
use Rattle.std.specs.List.{flat_map, AllByRecursion}
use Rattle.member_codec.proofs.lists.put_items.Given as goal

abbrev pub invariant-loop-item : goal.invariant-loop-item
invariant-loop-item g l = record {
  sound : AllByRecursion g.X.Piece.IsSound (map g.X.Piece.parts (take l.item-index l.items));
  ok : l.into.items ≡ l.initial.into.items ++ flat_map g.X.Piece.spelled (map g.X.Piece.parts (take l.item-index l.items));
}
