use Rattle.std.proofs.Common.{drop, length, Ok}
use Rattle.std.specs.Prelude.{None}
use Rattle.base_bytes.specs.Fields.{text_in}
use Rattle.base_places.specs.Places.{fails_first}
use Rattle.base_places.specs.Lists.{pair_in}
use Rattle.member_codec.specs.Keyed.{pair_keyed}
use Rattle.member_codec.proofs.keyed.KeyedPiece.take.Goals as goal

pub returns-in-Err-clause-exact : goal.returns-in-Err-clause-exact
returns-in-Err-clause-exact g c =
    fails_first (length c.args.from.now) c.in-Err.error (pair_in (text_in None) g.X.Piece.piece_in (drop c.args.place c.args.from.now)) (λ x. Ok (pair_keyed x.0, x.1)) c.in-Err.ensures.exact
