use Rattle.std.proofs.Common.{arith}
use Rattle.member_codec.specs.Views.{view_spelled, view_in, IsSoundView}
use Rattle.member_codec.specs.ViewLaws.{view_spells}
use Rattle.member_codec.specs.ViewTests.{view_of_test, spellable_view}
use Rattle.member_codec.proofs.Whole.{only_of}
use Rattle.member_codec.proofs.WholeViews.{found_view}
use Rattle.member_codec.proofs.view_codec.read_view.Goals as goal

pub returns-clause-found : goal.returns-clause-found
returns-clause-found c = found_view c.args.bytes.now (λ i. omega (arith, c.type_inv.bytes i)) c.read_all.result c.read_all.ensures

pub returns-clause-only : goal.returns-clause-only
returns-clause-only c = λ view is same. only_of IsSoundView view_spelled view_in view_spells (λ v. v) c.args.bytes.now c.read_all.result c.read_all.ensures view (spellable_view view is) same
