use Rattle.std.proofs.Common.{◌≡◌, length, refl, sym, ap, ◌∙◌, subst, Option, Some, None, option_copied}
use Rattle.std.proofs.lemmas.List.{length-map}
use Rattle.member_node.proofs.Common.{after_entries, StandsForKeyed, IsEntryPassedOver, TellsEntries, AreExactAt, IsAtWork}
use Rattle.member_node.specs.Inputs.{keyed_envelope}
use Rattle.member_node.proofs.Takings.{tells_none, tells_one, kept_first, work_first}
use Rattle.member_node.proofs.Takings.TellsOne.{one_told, one_passed}
use Rattle.member_node.proofs.entries.merged.Goals as goal

is_none : {A : Type 0} (o : Option A) → ((x : A) → o ≡ Some x → ⊥) → o ≡ None
is_none None never = refl
is_none (Some x) never = absurd (never x refl)

pub take_envelope-requires-clause-counted : goal.take_envelope-requires-clause-counted
take_envelope-requires-clause-counted g c = ap length c.unchanged-changes.ensures ∙ length-map c.args.keys.now _

pub returns-in_default-clause-kept : goal.returns-in_default-clause-kept
returns-in_default-clause-kept g c = kept_first g.T.Replica.kind_of c.args.id c.args.keys.now c.unchanged-changes.result c.unchanged-changes.ensures

pub returns-in_default-clause-image : goal.returns-in_default-clause-image
returns-in_default-clause-image g c = λ kinds logs node sent exact held tells.
    let R = g.T.Replica in
    let keys = c.args.keys.now in
    let changes = c.unchanged-changes.result in
    let none = ap option_copied (is_none c.args.envelope c.in_default.not-Some) in
    let told = subst (λ o. TellsEntries R kinds logs keys (keyed_envelope c.args.key.now o) sent) none tells in
    let nothing = tells_none (StandsForKeyed R.kind_of R.IsDataOf kinds logs) (IsEntryPassedOver R keys) sent told in
    subst (λ zs. IsAtWork R.kind_of R.IsDataOf kinds logs c.args.id keys c.args.view node.entries changes (after_entries node zs)) (sym nothing)
    (work_first R.kind_of R.IsDataOf kinds logs c.args.id keys c.args.view node held changes c.unchanged-changes.ensures)

pub returns : goal.returns
returns g c =
    let keys = c.args.keys.now in
    let first = c.unchanged-changes.result in
    record {
      kept = c.in_ok-take_envelope.ensures.kept (kept_first g.T.Replica.kind_of c.args.id keys first c.unchanged-changes.ensures);
      image = λ kinds logs node sent exact held tells.
          let R = g.T.Replica in
          let key = c.args.key.now in
          let item = c.in-Some.envelope.now in
          let S = StandsForKeyed R.kind_of R.IsDataOf kinds logs in
          let P = IsEntryPassedOver R keys in
          let changes = c.take_envelope.new.changes in
          let k0 = kept_first R.kind_of c.args.id keys first c.unchanged-changes.ensures in
          let w0 = work_first R.kind_of R.IsDataOf kinds logs c.args.id keys c.args.view node held first c.unchanged-changes.ensures in
          let told = subst (λ o. TellsEntries R kinds logs keys (keyed_envelope key o) sent) (ap option_copied c.in-Some.is) tells in
          elim (tells_one S P (record { key = key; item = item }) sent told) [
            | one_told y is s ↦
                let exact' = subst (λ zs. AreExactAt keys (after_entries node zs).entries) is exact in
                let w1 = c.in_ok-take_envelope.ensures.image kinds logs node.entries node y exact' held.held k0 s w0 in
                subst (λ zs. IsAtWork R.kind_of R.IsDataOf kinds logs c.args.id keys c.args.view node.entries changes (after_entries node zs)) (sym is) w1
            | one_passed is passed ↦
                let still = c.in_ok-take_envelope.ensures.passed_over held.of_kinds k0 passed in
                subst (λ zs. IsAtWork R.kind_of R.IsDataOf kinds logs c.args.id keys c.args.view node.entries changes (after_entries node zs)) (sym is)
                (subst (λ cs. IsAtWork R.kind_of R.IsDataOf kinds logs c.args.id keys c.args.view node.entries cs node) (sym still) w0)
          ];
    }
