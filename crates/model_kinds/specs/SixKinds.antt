-- What histories of the six kinds mean, and what they refuse. And what a delete means, for all kinds alike.
use Rattle.std.specs.Prelude.{ℕ, Bool, true, false, ◌||◌, ◌==◌, if◌then◌else◌, Option, None, Some, pos, neg_ℤ, ◌+ℤ◌}
use Rattle.std.specs.Str.{bytes_eq}
use Rattle.model_history.specs.Texts.{Text}
use Rattle.model_history.specs.History.{History}
use Rattle.model_meanings.specs.Counter.{total, share}
use Rattle.model_meanings.specs.Growing.{Assignment, added_elements, has_operation, newest, winning_text}
use Rattle.model_meanings.specs.ObservedRemove.{SetOperations, live_elements}
use Rattle.model_meanings.specs.Refusal.{Refusal, Shares, greatest_share, overflow, full, too_much}
use Rattle.model_members.specs.DataType.{DataType}
use Rattle.model_kinds.specs.declared.kind.Kind.{Kind}
use Rattle.model_kinds.specs.declared.kind.Kind.TheVariants.{GCounter, PnCounter, GSet, OrSet, Flag, LwwRegister}
use Rattle.model_kinds.specs.declared.operation.Op.{Op}
use Rattle.model_kinds.specs.declared.operation.Op.TheVariants.{Increment, Decrement, Add, Remove, Enable, Assign, Delete}
use Rattle.model_kinds.specs.declared.shown.Shown.{Shown}
use Rattle.model_kinds.specs.declared.shown.Shown.TheVariants.{Count, Signed, Elements, Switch, Written, Deleted}

abbrev pub increment : Op → ℕ
increment (Increment n) = n
increment _ = 0

abbrev pub decrement : Op → ℕ
decrement (Decrement n) = n
decrement _ = 0

abbrev pub added : Op → Option Text
added (Add e) = Some e
added _ = None

abbrev pub adds : Op → Text → Bool
adds (Add e) f = bytes_eq e f
adds _ f = false

abbrev pub removes : Op → Text → Bool
removes (Remove e) f = bytes_eq e f
removes _ f = false

abbrev pub enables : Op → Bool
enables Enable = true
enables _ = false

abbrev pub assigned : Op → Option Assignment
assigned (Assign text now) = Some (record { text = text; now = now })
assigned _ = None

abbrev pub set_operations : SetOperations Op
set_operations = record { adds = adds; removes = removes; added = added }

abbrev pub fits : Kind → Op → Bool
fits GCounter (Increment n) = true
fits PnCounter (Increment n) = true
fits PnCounter (Decrement n) = true
fits GSet (Add e) = true
fits OrSet (Add e) = true
fits OrSet (Remove e) = true
fits Flag Enable = true
fits LwwRegister (Assign text now) = true
fits _ _ = false

abbrev pub shown : Kind → History Op → Shown
shown GCounter H = Count (total increment H)
shown PnCounter H = Signed (pos (total increment H) +ℤ neg_ℤ (pos (total decrement H)))
shown GSet H = Elements (added_elements added H)
shown OrSet H = Elements (live_elements set_operations H)
shown Flag H = Switch (has_operation enables H)
shown LwwRegister H = Written (winning_text assigned H)

abbrev pub refusal : Kind → ℕ → Op → History Op → Option Refusal
refusal _ i (Increment n) H = overflow (share increment H i) n
refusal _ i (Decrement n) H = overflow (share decrement H i) n
refusal GSet i (Add e) H = full e (added_elements added H)
refusal OrSet i (Add e) H = full e (live_elements set_operations H)
refusal _ i (Assign text now) H = if newest assigned H == greatest_share then Some Refusal.ClockSpent else None
refusal _ i _ H = None

abbrev pub blocked : Kind → ℕ → ℕ → History Op → Option Shares
blocked GCounter owner r H = too_much (share increment H owner) (share increment H r) None
blocked PnCounter owner r H = too_much (share increment H owner) (share increment H r) (too_much (share decrement H owner) (share decrement H r) None)
blocked _ owner r H = None

-- the six kinds, of which no key is deleted
abbrev pub values : DataType Kind Op Shown
values = record { fits = fits; refusal = refusal; blocked = blocked; shown = shown; deleted = λ H. false }

-- a data type whose keys may be deleted: a delete fits every kind and is never refused, and a history with a delete blocks no prune and is shown as deleted, whatever else it has
abbrev pub with_deletes : {Kind Op Shown : Type 0} → (Op → Bool) → Shown → DataType Kind Op Shown → DataType Kind Op Shown
with_deletes deletes deleted_value D = record {
  fits = λ kind op. deletes op || D.fits kind op;
  refusal = λ kind i op H. if deletes op then None else D.refusal kind i op H;
  blocked = λ kind owner r H. if has_operation deletes H then None else D.blocked kind owner r H;
  shown = λ kind H. if has_operation deletes H then deleted_value else D.shown kind H;
  deleted = has_operation deletes;
}

abbrev pub is_delete : Op → Bool
is_delete Delete = true
is_delete _ = false

-- the six kinds, of which keys may be deleted
abbrev pub six_kinds : DataType Kind Op Shown
six_kinds = with_deletes is_delete Deleted values

-- one of the kinds alone, as a data type of its own, of which no key is deleted
abbrev pub of_kind : Kind → DataType (Unit {0}) Op Shown
of_kind kind = record {
  fits = λ _ op. fits kind op;
  refusal = λ _ i op H. refusal kind i op H;
  blocked = λ _ owner r H. blocked kind owner r H;
  shown = λ _ H. shown kind H;
  deleted = λ H. false;
}
