use Rattle.std.proofs.Common.{sym, ap, ◌∙◌, subst, if◌then◌else◌, ◌≡◌, ℕ, false, inl, inr, nat_lt, ◌||◌}
use Rattle.std.proofs.lemmas.Bool.{cases_Bool}
use mathlib.Core.Bool.{or-true, or-false}
use Rattle.member_node.proofs.Common.{uncleaned, VersionVector, IdentitySet, History, at, versions, seen_by, number_at, performed_in, StandsFor, Parts, parts_of}
use Rattle.model_history.specs.History.{is_pruned}
use Rattle.model_members.specs.Entry as model
use Rattle.model_members.specs.Entry.{merged}
use Rattle.model_members.specs.Step.{is_entry_passed_over}
use Rattle.data_envelope.proofs.Entries.{pruned_is}
use Rattle.member_node.proofs.entries.take_entry.Goals as goal
use Rattle.member_node.proofs.entries.take_entry.Goals.{then-is_strange-via-then-is_strange, then-is_strange-via-else-is_strange+then-not-same_kind}

-- ENTRIES

module _ {State Op : Type 0} (D : State → History Op → VersionVector → IdentitySet → Type 0) where
  -- an entry is strange where the envelopes say so
  strange_is : (one two : Parts State) (log : History Op) (before other : model.Entry Op) (id : ℕ) → performed_in one.marks id ≡ false → StandsFor D one log before → StandsFor D two log other
      → (performed_in two.marks id || nat_lt (number_at one.versions id) (number_at two.versions id)) ≡ is_entry_passed_over id before other
  strange_is one two log before other id unpruned s t =
      let pruned : performed_in two.marks id ≡ is_pruned other.history id = pruned_is D two log other.history t.histories t.taken t.holds id in
      let mine : number_at one.versions id ≡ at before.history id = s.holds.numbers id ∙ uncleaned (performed_in one.marks) (versions before.history) id unpruned in
      elim (cases_Bool (performed_in two.marks id)) [
        | inl gone ↦
            ap (λ b. b || nat_lt (number_at one.versions id) (number_at two.versions id)) gone
            ∙ sym (ap (λ b. nat_lt (at before.history id) (at other.history id) || b) (sym pruned ∙ gone) ∙ or-true (nat_lt (at before.history id) (at other.history id)))
        | inr stays ↦
            let theirs : number_at two.versions id ≡ at other.history id = t.holds.numbers id ∙ uncleaned (performed_in two.marks) (versions other.history) id stays in
            ap (λ b. b || nat_lt (number_at one.versions id) (number_at two.versions id)) stays
            ∙ (λ i. nat_lt (mine i) (theirs i))
            ∙ sym (ap (λ b. nat_lt (at before.history id) (at other.history id) || b) (sym pruned ∙ stays) ∙ or-false (nat_lt (at before.history id) (at other.history id)))
      ]

pub returns-then-is_strange-clause-image : goal.returns-then-is_strange-clause-image
returns-then-is_strange-clause-image g c = λ log before other unpruned kinds s t exact.
    let D = g.T.Replica.IsDataOf in
    let same = strange_is D (parts_of c.args.mine.now) (parts_of c.args.theirs.now) log before other c.args.id unpruned s t in
    elim c.then-is_strange.branch [
      | then-is_strange-via-then-is_strange w ↦
          let strange = sym same ∙ sym c.is_strange.ensures ∙ w.if-is_strange.true in
          ap (λ b. if b then before else seen_by c.args.id c.args.view (merged before other)) strange
      | then-is_strange-via-else-is_strange+then-not-same_kind w ↦ let same_kind = w.same_kind.ensures.1 (ap g.T.Replica.kind_of w.value.ensures ∙ kinds ∙ sym (ap g.T.Replica.kind_of w.value-else-is_strange.ensures)) in let other_kind = w.if-not-same_kind.true in absurd (cc (same_kind, other_kind))
    ]

-- nothing is merged that brings nothing
pub returns-then-gains_nothing-clause-image : goal.returns-then-gains_nothing-clause-image
returns-then-gains_nothing-clause-image g c = λ log before other unpruned kinds s t exact.
    let D = g.T.Replica.IsDataOf in
    let same = strange_is D (parts_of c.args.mine.now) (parts_of c.args.theirs.now) log before other c.args.id unpruned s t in
    let strange = sym same ∙ sym c.is_strange.ensures ∙ c.if-is_strange.false in
    let is = c.if-gains_nothing.true in
    ap (λ b. if b then before else seen_by c.args.id c.args.view (merged before other)) strange
    ∙ ap (seen_by c.args.id c.args.view) (c.gains_nothing.ensures.merged log before other s t is) ∙ c.gains_nothing.ensures.seen log before c.args.id c.args.view s is

pub returns-clause-image : goal.returns-clause-image
returns-clause-image g c = λ log before other unpruned kinds s t exact.
    let D = g.T.Replica.IsDataOf in
    let same = strange_is D (parts_of c.args.mine.now) (parts_of c.args.theirs.now) log before other c.args.id unpruned s t in
    let strange = sym same ∙ sym c.is_strange.ensures ∙ c.if-is_strange.false in
    let mine = subst (λ envelope. StandsFor D (parts_of envelope) log before) (sym c.in_ok-entry.ensures) s in
    subst (λ b. StandsFor D (parts_of c.add_seen.new.self) log (if b then before else seen_by c.args.id c.args.view (merged before other))) (sym strange)
    (c.add_seen.ensures.image log (merged before other) (c.in_ok-merge.ensures.image log before other mine t (exact strange)))
