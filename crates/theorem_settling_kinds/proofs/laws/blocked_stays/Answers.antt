use Rattle.std.proofs.Common.{sym, subst}
use Rattle.std.specs.Prelude.{IsSome}
use Rattle.model_members.specs.Entry.{with_prune}
use Rattle.model_members.specs.DataType.{DataType}
use Rattle.model_kinds.specs.declared.kind.Kind.{Kind}
use Rattle.model_kinds.specs.declared.operation.Op.{Op}
use Rattle.model_kinds.specs.declared.shown.Shown.{Shown}
use Rattle.theorem_settling_kinds.proofs.SixKindsBlocked.{six_stay}
use Rattle.theorem_settling_kinds.proofs.laws.blocked_stays.Goals as goal

pub returns : goal.returns
returns c = λ D same kind owner r other entry apart.
    subst (λ (d : DataType Kind Op Shown). IsSome (d.blocked kind owner r entry.history) → IsSome (d.blocked kind owner r (with_prune entry owner other).history)) (sym same) (six_stay kind owner r other entry)
