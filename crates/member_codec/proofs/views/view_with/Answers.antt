use Rattle.std.proofs.Common.{List, sym, ap, ◌∙◌}
use Rattle.member_views.specs.Views.{Member, View}
use Rattle.member_codec.specs.Views.{is_view}
use Rattle.member_codec.specs.ViewTests.{view_of_test}
use Rattle.member_codec.proofs.views.view_with.Goals as goal

pub from_parts-requires : goal.from_parts-requires
from_parts-requires c =
    let tested : List Member → View = λ members. record { number = c.args.number; given = c.args.given; members = members } in
    view_of_test (tested c.in_ok-members.members.items) (ap (λ (members : List Member). is_view (tested members)) (sym c.as_slice.ensures.value) ∙ sym c.is_view.ensures ∙ c.if-is_view.true)
