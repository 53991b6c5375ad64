-- What is kept, at first and after a record; and what it tells.
use Rattle.std.proofs.Common.{◌≡◌, ℕ, ◌+◌, ◌-◌, ◌<◌, List, [], length, refl, sym, ap, subst, ◌∙◌, arith, false}
use Rattle.std.specs.Prelude.{if◌then◌else◌, Result, Ok, Err, OnOk, IfOk}
use Rattle.model_history.specs.Table.{identity_limit, identities}
use Rattle.model_history.specs.Vector.{VersionVector}
use Rattle.model_history.specs.Log.{IsTakenFrom}
use Rattle.model_history.specs.History.{History, versions, no_records, IsHistory}
use Rattle.model_meanings.specs.Growing.{has_operation}
use Rattle.model_kinds.specs.SixKinds.{six_kinds, shown, is_delete}
use Rattle.model_kinds.specs.declared.kind.Kind.{Kind}
use Rattle.model_kinds.specs.declared.operation.Op.{Op}
use Rattle.model_kinds.specs.declared.shown.Shown.TheVariants.{Deleted}
use Rattle.model_traces.specs.Traces.{recorded}
use Rattle.data_meaning.specs.declared.record.Action.{Action as CodeAction}
use Rattle.data_meaning.specs.Records.{action_of}
use Rattle.trace_values.specs.declared.values.Values.{Values}
use Rattle.trace_values.specs.Rows.{IsPushed, last_of, AreFirst}
use Rattle.trace_values.specs.Sums.{no_sums, with_action}
use Rattle.trace_values.specs.Writes.{no_write, write_after, newest_of}
use Rattle.trace_values.specs.Elements.{StandForElements}
use Rattle.trace_values.specs.Standing.{StandForValues}
use Rattle.trace_values.proofs.SumLaws.{sums_then}
use Rattle.trace_values.proofs.WriteLaws.{writes_then}

-- what follows where a call succeeded
pub on_ok : {A E : Type 0} (r : Result A E) (P Q : Type 0) → (P → Q) → OnOk r P → OnOk r Q
on_ok (Ok x) P Q f h = f h
on_ok (Err e) P Q f h = tt

pub if_ok : {A E : Type 0} (r : Result A E) (P Q : A → Type 0) → ((x : A) → P x → Q x) → IfOk r P → IfOk r Q
if_ok (Ok x) P Q f h = f x h
if_ok (Err e) P Q f h = tt

nothing_first : {X : Type 0} (none : X) (meant : ℕ → ℕ → X) (rows : List (List X)) → rows ≡ [] → ((i : ℕ) → meant i 0 ≡ none) → AreFirst none meant rows no_records
nothing_first {X} none meant rows is first = subst (λ rs. AreFirst none meant rs no_records) (sym is) (record { count = λ i. refl; each = λ i n few. let zero_is : n ≡ 0 = omega (arith, few) in ap (λ m. last_of none [] i m) zero_is ∙ sym (ap (meant i) zero_is ∙ first i) })

pub nothing_stands : (values : Values) → values.sums.items ≡ [] → values.writes.items ≡ [] → values.elements.items ≡ [] → StandForValues values no_records
nothing_stands values sums writes elements = record {
  sums = nothing_first no_sums _ values.sums.items sums (λ i. refl);
  writes = nothing_first no_write _ values.writes.items writes (λ i. refl);
  elements = subst (λ xs. StandForElements xs no_records) (sym elements) (record { rising = tt; each = λ k x here. absurd (cc here); named = λ e absent i k r has. absurd (cc has) });
}

pub kept_then : (old new : Values) (made H : History Op) (id number : ℕ) (past : VersionVector) (action : CodeAction) → id < identity_limit
    → IsPushed old.sums.items new.sums.items id (with_action (last_of no_sums old.sums.items id (number - 1)) (action_of action))
    → IsPushed old.writes.items new.writes.items id (write_after (last_of no_write old.writes.items id (number - 1)) (newest_of old.writes.items past identities) number (action_of action))
    → StandForValues old made → IsHistory made → IsTakenFrom made H → H id ≡ made id → past ≡ versions H → number ≡ length (made id) + 1 → StandForElements new.elements.items (recorded made id H (action_of action)) → StandForValues new (recorded made id H (action_of action))
kept_then old new made H id number past action small sums writes stands history taken own past_is number_is elements = record {
  sums = sums_then made id (number - 1) _ old.sums.items new.sums.items stands.sums (omega (arith, number_is)) sums;
  writes = writes_then made H history taken id small own (action_of action) old.writes.items new.writes.items past number stands.writes past_is number_is writes;
  elements = elements;
}

-- WHERE NO RECORD DELETES THE KEY

pub value_shown : (kind : Kind) (H : History Op) → has_operation is_delete H ≡ false → shown kind H ≡ six_kinds.shown kind H
value_shown kind H e = sym (ap (λ b. if b then Deleted else shown kind H) e)
