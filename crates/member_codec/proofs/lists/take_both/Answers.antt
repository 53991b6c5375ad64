use Rattle.base_places.proofs.Reading.{first_fails, second_fails, both_read}
use Rattle.member_codec.proofs.lists.take_both.Goals as goal

pub returns-in-Ok-take-clause-exact : goal.returns-in-Ok-take-clause-exact
returns-in-Ok-take-clause-exact g c =
    both_read g.A.Piece.piece_in g.B.Piece.piece_in c.args.from.now c.args.place (g.A.Piece.parts c.in-Ok.first) c.in-Ok.middle c.in-Ok.ensures.exact (g.B.Piece.parts c.in-Ok-take.second) c.in-Ok-take.next c.in-Ok-take.ensures.exact

pub returns-in-Err-take-clause-exact : goal.returns-in-Err-take-clause-exact
returns-in-Err-take-clause-exact g c =
    second_fails g.A.Piece.piece_in g.B.Piece.piece_in c.args.from.now c.args.place (g.A.Piece.parts c.in-Ok.first) c.in-Ok.middle c.in-Ok.ensures.exact c.in-Err-take.error c.in-Err-take.ensures.exact

pub returns-in-Err-clause-exact : goal.returns-in-Err-clause-exact
returns-in-Err-clause-exact g c = first_fails g.A.Piece.piece_in g.B.Piece.piece_in c.args.from.now c.args.place c.in-Err.error c.in-Err.ensures.exact
