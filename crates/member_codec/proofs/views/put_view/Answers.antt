use Rattle.std.proofs.Common.{ap, ◌∙◌}
use Rattle.std.specs.Prelude.{map}
use Rattle.std.proofs.lemmas.Result.{on_ok_weaker}
use Rattle.member_codec.specs.Views.{seat_of}
use Rattle.member_codec.proofs.ViewParts.{same_parts}
use Rattle.member_codec.proofs.views.put_view.Goals as goal

pub returns-clause-ok : goal.returns-clause-ok
returns-clause-ok c =
    on_ok_weaker c.put_parts.result
    (same_parts c.args.into.now.items c.put_parts.new.into.items c.number-number.result c.args.view.now.number c.given-given.result c.args.view.now.given c.from_vec-seats.result (map seat_of c.args.view.now.members)
    c.number-number.ensures.number c.given-given.ensures.given (c.from_vec-seats.ensures ∙ c.in_ok-listed.ensures ∙ ap (map seat_of) c.members.ensures.members))
    c.put_parts.ensures
