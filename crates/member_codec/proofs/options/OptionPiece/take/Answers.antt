use Rattle.std.proofs.Common.{arith}
use Rattle.base_places.proofs.OptionReading.{flag_fails, flag_breaks, nothing_read, some_read, some_fails}
use Rattle.member_codec.proofs.options.OptionPiece.take.Goals as goal

pub returns-then-has-gt1-clause-exact : goal.returns-then-has-gt1-clause-exact
returns-then-has-gt1-clause-exact g c = flag_breaks g.X.Piece.piece_in c.args.from.now c.args.place c.in-Ok.has c.in-Ok.next c.in-Ok.ensures.exact c.requires c.if-has-gt1.true

pub returns-then-has-eq0-clause-exact : goal.returns-then-has-eq0-clause-exact
returns-then-has-eq0-clause-exact g c = nothing_read g.X.Piece.piece_in c.args.from.now c.args.place c.in-Ok.has c.in-Ok.next c.in-Ok.ensures.exact c.if-has-eq0.true

pub returns-in-Ok-take-clause-exact : goal.returns-in-Ok-take-clause-exact
returns-in-Ok-take-clause-exact g c =
    some_read g.X.Piece.piece_in c.args.from.now c.args.place c.in-Ok.has c.in-Ok.next c.in-Ok.ensures.exact (omega (arith, c.if-has-gt1.false)) c.if-has-eq0.false (g.X.Piece.parts c.in-Ok-take.item) c.in-Ok-take.end c.in-Ok-take.ensures.exact

pub returns-in-Err-take-clause-exact : goal.returns-in-Err-take-clause-exact
returns-in-Err-take-clause-exact g c =
    some_fails g.X.Piece.piece_in c.args.from.now c.args.place c.in-Ok.has c.in-Ok.next c.in-Ok.ensures.exact (omega (arith, c.if-has-gt1.false)) c.if-has-eq0.false c.in-Err-take.error c.in-Err-take.ensures.exact

pub returns-in-Err-clause-exact : goal.returns-in-Err-clause-exact
returns-in-Err-clause-exact g c = flag_fails g.X.Piece.piece_in c.args.from.now c.args.place c.in-Err.error c.in-Err.ensures.exact
