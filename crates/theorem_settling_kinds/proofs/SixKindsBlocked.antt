-- Blocked prunes of the six kinds stay blocked.
use Rattle.std.proofs.Common.{ℕ, sym, subst, Bool, true, false, None}
use Rattle.std.specs.Prelude.{IsSome, if◌then◌else◌}
use Rattle.model_meanings.specs.Counter.{share}
use Rattle.model_meanings.specs.Refusal.{too_much}
use Rattle.model_members.specs.Entry.{Entry, with_prune}
use Rattle.model_kinds.specs.SixKinds.{blocked, increment, decrement, six_kinds}
use Rattle.model_kinds.specs.declared.kind.Kind.{Kind}
use Rattle.model_kinds.specs.declared.kind.Kind.TheVariants.{GCounter, PnCounter, GSet, OrSet, Flag, LwwRegister}
use Rattle.model_kinds.specs.declared.operation.Op.{Op}
use Rattle.model_kinds.proofs.PrunesOfKinds.{deleted_alike}
use Rattle.theorem_settling.proofs.SharesGrow.{share_after_prune, too_much_grows}

values_stay : (kind : Kind) (owner r other : ℕ) (entry : Entry Op) → IsSome (blocked kind owner r entry.history) → IsSome (blocked kind owner r (with_prune entry owner other).history)
values_stay GCounter owner r other entry s =
    too_much_grows (share increment entry.history owner) (share increment entry.history r) (share increment (with_prune entry owner other).history owner) (share increment (with_prune entry owner other).history r) None None
    (share_after_prune increment entry owner other owner) (share_after_prune increment entry owner other r) (λ h. h) s
values_stay PnCounter owner r other entry s =
    too_much_grows (share increment entry.history owner) (share increment entry.history r) (share increment (with_prune entry owner other).history owner) (share increment (with_prune entry owner other).history r)
    (too_much (share decrement entry.history owner) (share decrement entry.history r) None) (too_much (share decrement (with_prune entry owner other).history owner) (share decrement (with_prune entry owner other).history r) None)
    (share_after_prune increment entry owner other owner) (share_after_prune increment entry owner other r)
    (too_much_grows (share decrement entry.history owner) (share decrement entry.history r) (share decrement (with_prune entry owner other).history owner) (share decrement (with_prune entry owner other).history r) None None
    (share_after_prune decrement entry owner other owner) (share_after_prune decrement entry owner other r) (λ h. h)) s
values_stay GSet owner r other entry s = s
values_stay OrSet owner r other entry s = s
values_stay Flag owner r other entry s = s
values_stay LwwRegister owner r other entry s = s

-- a deleted key blocks nothing, neither before the prune nor after it
pub six_stay : (kind : Kind) (owner r other : ℕ) (entry : Entry Op) → IsSome (six_kinds.blocked kind owner r entry.history) → IsSome (six_kinds.blocked kind owner r (with_prune entry owner other).history)
six_stay kind owner r other entry some =
    subst (λ (b : Bool). IsSome (if b then None else blocked kind owner r (with_prune entry owner other).history)) (sym (deleted_alike entry.history owner other)) (by (six_kinds.deleted entry.history) some)
  where
    by : (b : Bool) → IsSome (if b then None else blocked kind owner r entry.history) → IsSome (if b then None else blocked kind owner r (with_prune entry owner other).history)
    by true some = some
    by false some = values_stay kind owner r other entry some
