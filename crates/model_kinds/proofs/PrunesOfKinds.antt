-- What the six kinds show is the same before a prune and after it.
use Rattle.std.proofs.Common.{◌≡◌, ℕ, ◌<◌, ap, ◌∙◌, Bool, true}
use Rattle.std.specs.Prelude.{pos, neg_ℤ, ◌+ℤ◌, if◌then◌else◌}
use Rattle.model_history.specs.Table.{identity_limit}
use Rattle.model_history.specs.History.{History, IsPartOf, IsHistory}
use Rattle.model_meanings.specs.Prunes.{after_prune}
use Rattle.model_meanings.proofs.PrunesShowAlike.{total_alike, elements_alike, text_alike, live_alike}
use Rattle.model_meanings.proofs.Operations.{operation_stays, operation_alike}
use Rattle.model_kinds.specs.declared.kind.Kind.{Kind}
use Rattle.model_kinds.specs.declared.kind.Kind.TheVariants.{GCounter, PnCounter, GSet, OrSet, Flag, LwwRegister}
use Rattle.model_kinds.specs.declared.operation.Op.{Op}
use Rattle.model_kinds.specs.declared.shown.Shown.{Shown}
use Rattle.model_kinds.specs.declared.shown.Shown.TheVariants.{Count, Signed, Elements, Switch, Written, Deleted}
use Rattle.model_kinds.specs.SixKinds.{increment, decrement, added, enables, assigned, set_operations, values, is_delete, six_kinds}

pub values_alike : (kind : Kind) (H : History Op) (owner removed : ℕ) → IsHistory H → owner < identity_limit → values.shown kind (after_prune H owner removed) ≡ values.shown kind H
values_alike GCounter H owner removed history small = ap Count (total_alike H owner removed small increment)
values_alike PnCounter H owner removed history small = λ j. Signed (pos (total_alike H owner removed small increment j) +ℤ neg_ℤ (pos (total_alike H owner removed small decrement j)))
values_alike GSet H owner removed history small = ap Elements (elements_alike H owner removed small added)
values_alike OrSet H owner removed history small = ap Elements (live_alike H owner removed small history set_operations)
values_alike Flag H owner removed history small = ap Switch (operation_alike enables H owner removed)
values_alike LwwRegister H owner removed history small = ap Written (text_alike H owner removed small history assigned)

-- what is deleted stays so
pub deleted_stays : (H J : History Op) → IsPartOf H J → six_kinds.deleted H ≡ true → six_kinds.deleted J ≡ true
deleted_stays = operation_stays is_delete

-- a prune deletes nothing
pub deleted_alike : (H : History Op) (owner removed : ℕ) → six_kinds.deleted (after_prune H owner removed) ≡ six_kinds.deleted H
deleted_alike = operation_alike is_delete

pub shown_alike : (kind : Kind) (H : History Op) (owner removed : ℕ) → IsHistory H → owner < identity_limit → six_kinds.shown kind (after_prune H owner removed) ≡ six_kinds.shown kind H
shown_alike kind H owner removed history small =
    ap (λ (b : Bool). if b then Deleted else values.shown kind (after_prune H owner removed)) (deleted_alike H owner removed)
    ∙ ap (λ (shown : Shown). if six_kinds.deleted H then Deleted else shown) (values_alike kind H owner removed history small)
