use Rattle.std.proofs.Common.{◌≡◌, List, ◌++◌, subst}
use Rattle.std.specs.Prelude.{OnOk}
use Rattle.member_codec.specs.Views.{Seat, seats_spelled}
use Rattle.member_codec.proofs.SameKeyed.{same_items}
use Rattle.member_codec.proofs.views.put_seats.Goals as goal

pub returns : goal.returns
returns c = subst (λ (xs : List Seat). OnOk c.put.result (c.put.new.into.items ≡ c.args.into.now.items ++ seats_spelled xs)) (same_items c.args.seats.now) c.put.ensures.ok
