use Rattle.base_places.specs.Wholes.{one_spelling_is}
use Rattle.member_codec.specs.Views.{view_spelled, view_in, IsSoundView}
use Rattle.member_codec.specs.ViewLaws.{view_spells}
use Rattle.member_codec.specs.ViewTests.{spellable_view}
use Rattle.member_codec.proofs.view_codec.one_view_spelling.Goals as goal

pub returns : goal.returns
returns c = λ a b x y is also. one_spelling_is IsSoundView view_spelled view_in view_spells a b x y (spellable_view a is) (spellable_view b also)
