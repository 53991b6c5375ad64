use Rattle.std.proofs.Common.{◌≡◌, ◌++◌, ◌∷◌, [], length, drop, ap, ◌∙◌}
use Rattle.std.specs.Prelude.{map}
use Rattle.base_places.specs.Lists.{items_in}
use Rattle.base_places.proofs.Reading.{goes_on, item_fails, is_done}
use Rattle.member_codec.proofs.Putting.{mapped}
use Rattle.member_codec.proofs.lists.take_items.Goals as goal

pub returns-in-Err-clause-exact : goal.returns-in-Err-clause-exact
returns-in-Err-clause-exact g c =
    item_fails g.X.Piece.piece_in (length c.args.from.now) c.in-Err.error (map g.X.Piece.parts c.loop.items) c.args.count c.loop.counter (drop c.loop.next c.args.from.now) (items_in g.X.Piece.piece_in c.args.count (drop c.args.place c.args.from.now))
    c.loop-test.true c.in-Err.ensures.exact c.loop.invariant.so_far

pub loop-preserved : goal.loop-preserved
loop-preserved g c = record {
  within = c.in-Ok.ensures.within;
  so_far =
      let pushed : map g.X.Piece.parts c.push.new.self ≡ map g.X.Piece.parts c.loop.items ++ g.X.Piece.parts c.in-Ok.item ∷ [] = ap (map g.X.Piece.parts) c.in-Ok-push.ensures.ok ∙ mapped g.X.Piece.parts c.loop.items c.in-Ok.item in
      rw pushed
      (goes_on g.X.Piece.piece_in (map g.X.Piece.parts c.loop.items) c.args.count c.loop.counter (drop c.loop.next c.args.from.now) (g.X.Piece.parts c.in-Ok.item) (drop c.in-Ok.after c.args.from.now) (items_in g.X.Piece.piece_in c.args.count (drop c.args.place c.args.from.now))
      c.loop-test.true c.in-Ok.ensures.exact c.loop.invariant.so_far);
}

pub returns-clause-exact : goal.returns-clause-exact
returns-clause-exact g c =
    is_done g.X.Piece.piece_in (map g.X.Piece.parts c.loop.items) c.args.count c.loop.counter (drop c.loop.next c.args.from.now) (items_in g.X.Piece.piece_in c.args.count (drop c.args.place c.args.from.now)) c.loop-test.false c.loop.invariant.so_far
