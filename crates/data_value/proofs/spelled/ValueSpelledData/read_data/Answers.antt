use Rattle.std.proofs.Common.{◌≡◌, ℕ, List, length, drop, Result, Ok, Err, ap, sym, subst, ◌∙◌}
use Rattle.std.specs.Result.{IsErrAnd}
use Rattle.std.proofs.lemmas.Result.{err_from_is_err_and}
use Rattle.base_bytes.specs.declared.fault.Fault.{Fault}
use Rattle.base_bytes.specs.declared.fault.FieldError.{FieldError}
use Rattle.base_bytes.specs.declared.fault.FieldError.TheVariants as error
use Rattle.base_bytes.specs.declared.fault.ReadError.{ReadError}
use Rattle.base_bytes.specs.Fields.{Fails}
use Rattle.base_bytes.specs.Spelling.{GivesAt}
use Rattle.base_vectors.specs.IdSets.{members_in}
use Rattle.data_value.specs.declared.value.Value.{Value}
use Rattle.data_value.specs.declared.value.Value.TheVariants.{GCounter, PnCounter, GSet, OrSet, Flag, LwwRegister}
use Rattle.data_value.specs.Spelled.{told_as, read_of}
use Rattle.data_value.proofs.spelled.ValueSpelledData.read_data.Goals as goal

-- what reading data of a kind gives, reading data gives
module _ {X : Type 0} (make : X → Value) (total : ℕ) (own : Result (X × List ℕ) Fault) (all : Result (Value × List ℕ) Fault) (is : all ≡ told_as make own) where
  found_as : (state : X) (next : ℕ) → GivesAt total (Ok (state, next)) own → GivesAt total (Ok (make state, next)) all
  found_as state next h = (h.0, is ∙ ap (told_as make) h.1, h.2)

  fails_as : (fault : FieldError) → Fails fault own → Fails fault all
  fails_as error.Memory h = tt
  fails_as (error.Fault fault) h = is ∙ ap (told_as make) h

  refused_as : (refusal : ReadError) → GivesAt total (Err refusal) own → GivesAt total (Err refusal) all
  refused_as refusal h = (h.0, fails_as h.0 h.1, h.2)

  exits_as : (answer : Result (Value × ℕ) ReadError) (refusal : ReadError) → IsErrAnd answer (λ y. y ≡ refusal) → GivesAt total (Err refusal) own → GivesAt total answer all
  exits_as answer refusal exit h =
      let p = err_from_is_err_and answer exit in
      subst (λ (r : Result (Value × ℕ) ReadError). GivesAt total r all) (sym (p.1 ∙ ap Err p.2)) (refused_as refusal h)

pub returns-in_err-state-in-GCounter : goal.returns-in_err-state-in-GCounter
returns-in_err-state-in-GCounter c =
    let is = ap (λ kind. read_of kind (members_in c.args.barred) (drop c.args.place c.args.from.now)) (sym c.kind_at.ensures ∙ c.in-GCounter.is) in
    exits_as GCounter (length c.args.from.now) _ _ is c.from_residual.result c.in_err-state-in-GCounter.field-0.0 c.from_residual.ensures.1 c.in_err-state-in-GCounter.ensures

pub returns-in_ok-state-in-GCounter : goal.returns-in_ok-state-in-GCounter
returns-in_ok-state-in-GCounter c =
    let is = ap (λ kind. read_of kind (members_in c.args.barred) (drop c.args.place c.args.from.now)) (sym c.kind_at.ensures ∙ c.in-GCounter.is) in
    found_as GCounter (length c.args.from.now) _ _ is c.in_ok-state-in-GCounter.state c.in_ok-state-in-GCounter.next c.in_ok-state-in-GCounter.ensures

pub returns-in_err-state-in-PnCounter : goal.returns-in_err-state-in-PnCounter
returns-in_err-state-in-PnCounter c =
    let is = ap (λ kind. read_of kind (members_in c.args.barred) (drop c.args.place c.args.from.now)) (sym c.kind_at.ensures ∙ c.in-PnCounter.is) in
    exits_as PnCounter (length c.args.from.now) _ _ is c.from_residual-in_err-state-in-PnCounter.result c.in_err-state-in-PnCounter.field-0.0 c.from_residual-in_err-state-in-PnCounter.ensures.1 c.in_err-state-in-PnCounter.ensures

pub returns-in_ok-state-in-PnCounter : goal.returns-in_ok-state-in-PnCounter
returns-in_ok-state-in-PnCounter c =
    let is = ap (λ kind. read_of kind (members_in c.args.barred) (drop c.args.place c.args.from.now)) (sym c.kind_at.ensures ∙ c.in-PnCounter.is) in
    found_as PnCounter (length c.args.from.now) _ _ is c.in_ok-state-in-PnCounter.state c.in_ok-state-in-PnCounter.next c.in_ok-state-in-PnCounter.ensures

pub returns-in_err-state-in-GSet : goal.returns-in_err-state-in-GSet
returns-in_err-state-in-GSet c =
    let is = ap (λ kind. read_of kind (members_in c.args.barred) (drop c.args.place c.args.from.now)) (sym c.kind_at.ensures ∙ c.in-GSet.is) in
    exits_as GSet (length c.args.from.now) _ _ is c.from_residual-in_err-state-in-GSet.result c.in_err-state-in-GSet.field-0.0 c.from_residual-in_err-state-in-GSet.ensures.1 c.in_err-state-in-GSet.ensures

pub returns-in_ok-state-in-GSet : goal.returns-in_ok-state-in-GSet
returns-in_ok-state-in-GSet c =
    let is = ap (λ kind. read_of kind (members_in c.args.barred) (drop c.args.place c.args.from.now)) (sym c.kind_at.ensures ∙ c.in-GSet.is) in
    found_as GSet (length c.args.from.now) _ _ is c.in_ok-state-in-GSet.state c.in_ok-state-in-GSet.next c.in_ok-state-in-GSet.ensures

pub returns-in_err-state-in-OrSet : goal.returns-in_err-state-in-OrSet
returns-in_err-state-in-OrSet c =
    let is = ap (λ kind. read_of kind (members_in c.args.barred) (drop c.args.place c.args.from.now)) (sym c.kind_at.ensures ∙ c.in-OrSet.is) in
    exits_as OrSet (length c.args.from.now) _ _ is c.from_residual-in_err-state-in-OrSet.result c.in_err-state-in-OrSet.field-0.0 c.from_residual-in_err-state-in-OrSet.ensures.1 c.in_err-state-in-OrSet.ensures

pub returns-in_ok-state-in-OrSet : goal.returns-in_ok-state-in-OrSet
returns-in_ok-state-in-OrSet c =
    let is = ap (λ kind. read_of kind (members_in c.args.barred) (drop c.args.place c.args.from.now)) (sym c.kind_at.ensures ∙ c.in-OrSet.is) in
    found_as OrSet (length c.args.from.now) _ _ is c.in_ok-state-in-OrSet.state c.in_ok-state-in-OrSet.next c.in_ok-state-in-OrSet.ensures

pub returns-in_err-state-in-Flag : goal.returns-in_err-state-in-Flag
returns-in_err-state-in-Flag c =
    let is = ap (λ kind. read_of kind (members_in c.args.barred) (drop c.args.place c.args.from.now)) (sym c.kind_at.ensures ∙ c.in-Flag.is) in
    exits_as Flag (length c.args.from.now) _ _ is c.from_residual-in_err-state-in-Flag.result c.in_err-state-in-Flag.field-0.0 c.from_residual-in_err-state-in-Flag.ensures.1 c.in_err-state-in-Flag.ensures

pub returns-in_ok-state-in-Flag : goal.returns-in_ok-state-in-Flag
returns-in_ok-state-in-Flag c =
    let is = ap (λ kind. read_of kind (members_in c.args.barred) (drop c.args.place c.args.from.now)) (sym c.kind_at.ensures ∙ c.in-Flag.is) in
    found_as Flag (length c.args.from.now) _ _ is c.in_ok-state-in-Flag.state c.in_ok-state-in-Flag.next c.in_ok-state-in-Flag.ensures

pub returns-in_err-state-in-LwwRegister : goal.returns-in_err-state-in-LwwRegister
returns-in_err-state-in-LwwRegister c =
    let is = ap (λ kind. read_of kind (members_in c.args.barred) (drop c.args.place c.args.from.now)) (sym c.kind_at.ensures ∙ c.in-LwwRegister.is) in
    exits_as LwwRegister (length c.args.from.now) _ _ is c.from_residual-in_err-state-in-LwwRegister.result c.in_err-state-in-LwwRegister.field-0.0 c.from_residual-in_err-state-in-LwwRegister.ensures.1 c.in_err-state-in-LwwRegister.ensures

pub returns-in_ok-state-in-LwwRegister : goal.returns-in_ok-state-in-LwwRegister
returns-in_ok-state-in-LwwRegister c =
    let is = ap (λ kind. read_of kind (members_in c.args.barred) (drop c.args.place c.args.from.now)) (sym c.kind_at.ensures ∙ c.in-LwwRegister.is) in
    found_as LwwRegister (length c.args.from.now) _ _ is c.in_ok-state-in-LwwRegister.state c.in_ok-state-in-LwwRegister.next c.in_ok-state-in-LwwRegister.ensures
