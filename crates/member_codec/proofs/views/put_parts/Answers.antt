use Rattle.std.proofs.lemmas.Result.{on_ok_weaker}
use Rattle.base_bytes.specs.Spelling.{word_spelled}
use Rattle.member_codec.specs.Views.{seats_spelled}
use Rattle.member_codec.proofs.Putting.{view_put}
use Rattle.member_codec.proofs.views.put_parts.Goals as goal

pub returns : goal.returns
returns c =
    on_ok_weaker c.put_seats.result
    (view_put c.args.into.now.items c.push.new.self.items c.put.new.into.items c.push-2.new.self.items c.put_seats.new.into.items (word_spelled c.args.number) (seats_spelled c.args.seats.now) c.args.given
    c.in_ok-push.ensures.items c.in_ok-put.ensures.ok c.in_ok-push-2.ensures.items)
    c.put_seats.ensures
