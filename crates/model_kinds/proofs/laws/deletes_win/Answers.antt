use Rattle.std.proofs.Common.{refl, ap, None}
use Rattle.std.specs.Prelude.{if◌then◌else◌}
use Rattle.model_kinds.specs.declared.shown.Shown.TheVariants.{Deleted}
use Rattle.model_kinds.specs.SixKinds.{values}
use Rattle.model_kinds.proofs.PrunesOfKinds.{deleted_stays}
use Rattle.model_kinds.proofs.laws.deletes_win.Goals as goal

pub returns-clause-stays : goal.returns-clause-stays
returns-clause-stays c = deleted_stays

pub returns-clause-shown : goal.returns-clause-shown
returns-clause-shown c = λ kind H J part deleted. ap (λ b. if b then Deleted else values.shown kind J) (deleted_stays H J part deleted)

pub returns-clause-unblocked : goal.returns-clause-unblocked
returns-clause-unblocked c = λ kind owner removed H J part deleted. ap (λ b. if b then None else values.blocked kind owner removed J) (deleted_stays H J part deleted)

pub returns-clause-fits : goal.returns-clause-fits
returns-clause-fits c = λ kind. refl

pub returns-clause-unrefused : goal.returns-clause-unrefused
returns-clause-unrefused c = λ kind i H. refl

pub returns-clause-others : goal.returns-clause-others
returns-clause-others c = λ kind H kept. ap (λ b. if b then Deleted else values.shown kind H) kept
