use Rattle.base_places.proofs.Reading.{count_fails, items_read}
use Rattle.member_codec.proofs.lists.ItemsPiece.take.Goals as goal

pub returns-in-Ok-clause-exact : goal.returns-in-Ok-clause-exact
returns-in-Ok-clause-exact g c =
    rw (items_read g.X.Piece.piece_in c.args.from.now c.args.place c.in-Ok.count c.in-Ok.next c.in-Ok.ensures.exact) c.take_items.ensures.exact

pub returns-in-Err-clause-exact : goal.returns-in-Err-clause-exact
returns-in-Err-clause-exact g c = count_fails g.X.Piece.piece_in c.args.from.now c.args.place c.in-Err.error c.in-Err.ensures.exact
