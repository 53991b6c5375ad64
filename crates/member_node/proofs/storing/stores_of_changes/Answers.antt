use Rattle.std.proofs.Common.{◌≡◌, ℕ, ◌+◌, ◌<◌, ◌≤◌, Some, None, length, get_or, rules, take, refl, sym, ap, ◌∙◌, subst, arith, inl, inr}
use Rattle.std.proofs.lemmas.Bool.{cases_eq}
use Rattle.std.proofs.lemmas.List.{get_or_default}
use Rattle.member_node.proofs.Common.{StandsFor, parts_of, KeyState, Change, Envelope, AreSpelled, StandsAfter}
use Rattle.member_node.specs.Planning.{new_entry, changed_entry}
use Rattle.member_node.specs.declared.change.Change.TheVariants.{Entry, Flushed}
use Rattle.member_node.specs.declared.change.ChangeAt.{ChangeAt}
use Rattle.member_node.proofs.Making.{put_of, spelled_more, spelled_past, spelled_all}
use Rattle.member_node.proofs.Sparse.{here_within, change_is, rising_apart, nothing_between, sparse_at}
use Rattle.member_node.proofs.storing.stores_of_changes.Goals as goal
use Rattle.member_node.proofs.storing.stores_of_changes.Goals.{in-Entry+in_ok-add, in_default}

not_entry : {T Kind Op Delta : Type 0} (change : Change T Kind Op Delta) → ((entry : Envelope T Kind Op Delta) → change ≡ Entry entry → ⊥) → new_entry (Some change) ≡ None
not_entry (Entry entry) other = absurd (other entry refl)
not_entry (Flushed flushed) other = refl

pub loop-at-init : goal.loop-at-init
loop-at-init g c = record {
  from = 0;
  few = omega arith;
  begun = λ j d none. absurd (omega arith);
  ahead = λ j d later inside. omega arith;
  spelled = λ kinds logs old next same same' held lead. record { these = c.new-stores.ensures; kept = λ k d none. absurd (omega arith) };
  nothing = λ none. c.new-stores.ensures;
}

pub bounds-keys-at : goal.bounds-keys-at
bounds-keys-at g c =
    let inside = here_within c.args.changes.now c.written-written.result.now c.written-written.ensures c.loop-at.at-index c.at-item.result c.loop-at-test.true c.at-item.is in
    let counted = c.requires.one_each in
    omega arith

pub offset_bounds-keys-at : goal.offset_bounds-keys-at
offset_bounds-keys-at g c =
    let inside = here_within c.args.changes.now c.written-written.result.now c.written-written.ensures c.loop-at.at-index c.at-item.result c.loop-at-test.true c.at-item.is in
    let counted = c.requires.one_each in
    let within : c.at-item.result.index < length c.args.keys.now = omega arith in
    search rules

pub add-requires : goal.add-requires
add-requires g c =
    let x = c.at-item.result in
    let inside = here_within c.args.changes.now c.written-written.result.now c.written-written.ensures c.loop-at.at-index x c.loop-at-test.true c.at-item.is in
    let counted = c.requires.one_each in
    let entry = ap new_entry (change_is c.args.changes.now c.written-written.result.now c.written-written.ensures c.loop-at.at-index x c.loop-at-test.true c.at-item.is None)
    ∙ ap (λ (change : Change g.row.T.Denot g.row.T-Kind.Denot g.row.T-Op.Denot g.row.T-Delta.Denot). new_entry (Some change)) c.in-Entry.is in
    c.requires.kinds x.index c.index-keys-at.result c.in-Entry.entry (omega arith) entry ∙ ap (λ (state : KeyState g.row.T.Denot g.row.T-Kind.Denot g.row.T-Op.Denot g.row.T-Delta.Denot). state.kind) (sym c.index-keys-at.is)

pub loop-at-preserved : goal.loop-at-preserved
loop-at-preserved g c =
    let inv = c.loop-at.invariant in
    let keys = c.args.keys.now in
    let changes = c.args.changes.now in
    let cs = c.written-written.result.now in
    let sparse = c.written-written.ensures in
    let i = c.loop-at.at-index in
    let x = c.at-item.result in
    let within = c.loop-at-test.true in
    let counted = c.requires.one_each in
    let inside = here_within changes cs sparse i x within c.at-item.is in
    let place : x.index < length keys = omega arith in
    let here : (d : ChangeAt g.row.T.Denot g.row.T-Kind.Denot g.row.T-Op.Denot g.row.T-Delta.Denot) → (get_or cs i d).index ≡ x.index = λ d. ap (λ (at : ChangeAt g.row.T.Denot g.row.T-Kind.Denot g.row.T-Op.Denot g.row.T-Delta.Denot). at.index) (get_or_default cs i d x within ∙ sym c.at-item.is) in
    let least : inv.from ≤ x.index = (let above = inv.ahead i x (omega arith) within in let same = here x in omega arith) in
    let later : (j : ℕ) (d : ChangeAt g.row.T.Denot g.row.T-Kind.Denot g.row.T-Op.Denot g.row.T-Delta.Denot) → i ≤ j → j < length cs → x.index ≤ (get_or cs j d).index = λ j d past below. elim (cases_eq j i) [
      | inl same ↦ (let at : (get_or cs j d).index ≡ x.index = ap (λ k. (get_or cs k d).index) same ∙ here d in omega arith)
      | inr other ↦ (let apart = rising_apart 0 (length changes) cs sparse.rising i j d d (omega arith) below in let same = here d in omega arith)
    ] in
    let none : (k : ℕ) → inv.from ≤ k → k < x.index → changed_entry changes k ≡ None = λ k past below.
    ap new_entry (sparse_at changes cs sparse k None (omega arith) ∙ nothing_between cs i inv.from k inv.begun (λ j d after under. let above = later j d after under in omega arith) past) in
    record {
      from = x.index + 1;
      few = omega arith;
      begun = λ j d below. elim (cases_eq j i) [
        | inl same ↦ (let at : (get_or cs j d).index ≡ x.index = ap (λ k. (get_or cs k d).index) same ∙ here d in omega arith)
        | inr other ↦ (let before = inv.begun j d (omega arith) in omega arith)
      ];
      ahead = λ j d past below. let apart = rising_apart 0 (length changes) cs sparse.rising i j d d (omega arith) below in let same = here d in omega arith;
      spelled = λ kinds logs old next same same' held lead.
          let R = g.T.Replica in
          let S = g.T.SpelledData in
          let so_far = inv.spelled kinds logs old next same same' held lead in
          elim c.match-at.branch [
            | in-Entry+in_ok-add w ↦
                let state = w.index-keys-at.result in
                let is = w.index-keys-at.is in
                let mid = spelled_past R S logs old next keys (changed_entry changes) lead c.loop-at.stores inv.from x.index least (omega arith) none so_far in
                let entry = ap new_entry (change_is changes cs sparse i x within c.at-item.is None) ∙ ap (λ (change : Change g.row.T.Denot g.row.T-Kind.Denot g.row.T-Op.Denot g.row.T-Delta.Denot). new_entry (Some change)) w.in-Entry.is in
                let led = subst (λ (state : KeyState g.row.T.Denot g.row.T-Kind.Denot g.row.T-Op.Denot g.row.T-Delta.Denot). StandsAfter R.IsDataOf (logs state.name) (changed_entry changes x.index) (old.entries state.name) (next.entries state.name)) (sym is) (lead x.index state place) in
                let after = subst (λ o. StandsAfter R.IsDataOf (logs state.name) o (old.entries state.name) (next.entries state.name)) entry led in
                let before = subst (λ (state : KeyState g.row.T.Denot g.row.T-Kind.Denot g.row.T-Op.Denot g.row.T-Delta.Denot). StandsFor R.IsDataOf (parts_of state.entry) (logs state.name) (old.entries state.name)) (sym is) (held x.index state place).held.image in
                spelled_more R S logs old next keys x.index state place is c.loop-at.stores c.match-at.stores mid
                (w.stores-is ∙ w.in_ok-add.ensures.spelled (logs state.name) (old.entries state.name) (next.entries state.name) before after)
                (λ k below. w.in_ok-add.ensures.kept (logs state.name) (old.entries state.name) (next.entries state.name) k before after below)
            | in_default w ↦
                let still = ap new_entry (change_is changes cs sparse i x within c.at-item.is None) ∙ not_entry x.change w.in_default.not-Entry in
                subst (λ stores. AreSpelled R S logs stores (put_of old next (take (x.index + 1) keys))) (sym w.stores-is)
                (spelled_past R S logs old next keys (changed_entry changes) lead c.loop-at.stores inv.from (x.index + 1) (omega arith) (omega arith)
                (λ k past below. elim (cases_eq k x.index) [ inl same ↦ ap (changed_entry changes) same ∙ still | inr other ↦ none k past (omega arith) ]) so_far)
          ];
      nothing = λ nowhere. elim c.match-at.branch [
        | in-Entry+in_ok-add w ↦
            let entry = ap new_entry (change_is changes cs sparse i x within c.at-item.is None) ∙ ap (λ (change : Change g.row.T.Denot g.row.T-Kind.Denot g.row.T-Op.Denot g.row.T-Delta.Denot). new_entry (Some change)) w.in-Entry.is in
            absurd (cc (sym (nowhere x.index) ∙ entry))
        | in_default w ↦ w.stores-is ∙ inv.nothing nowhere
      ];
    }

pub returns-clause-stores : goal.returns-clause-stores
returns-clause-stores g c = λ kinds logs old next same same' held lead.
    let inv = c.loop-at.invariant in
    let keys = c.args.keys.now in
    let changes = c.args.changes.now in
    let cs = c.written-written.result.now in
    let sparse = c.written-written.ensures in
    let counted = c.requires.one_each in
    spelled_all g.T.Replica g.T.SpelledData logs old next keys (changed_entry changes) lead c.loop-at.stores inv.from inv.few
    (λ k past below. ap new_entry (sparse_at changes cs sparse k None (omega arith) ∙ nothing_between cs c.loop-at.at-index inv.from k inv.begun (λ j d after under. absurd (omega arith)) past)) same'
    (inv.spelled kinds logs old next same same' held lead)

pub returns-clause-nothing : goal.returns-clause-nothing
returns-clause-nothing g c = c.loop-at.invariant.nothing
