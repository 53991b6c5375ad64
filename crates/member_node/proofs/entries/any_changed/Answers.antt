use Rattle.std.proofs.Common.{◌≡◌, ◌<◌, length, rules, None, get_or, sym, ap, ◌∙◌, subst₂, arith, inl, inr}
use Rattle.std.proofs.lemmas.Bool.{cases_eq}
use Rattle.std.proofs.lemmas.List.{get_or_default}
use Rattle.std.proofs.lemmas.List.Folds.{list_any_at}
use Rattle.member_node.specs.Entries.{is_changed_at}
use Rattle.member_node.specs.declared.change.ChangeAt.{ChangeAt}
use Rattle.member_node.proofs.Common.{LeadsTo}
use Rattle.member_node.proofs.Sparse.{here_within, change_is}
use Rattle.member_node.proofs.Takings.{none_changed}
use Rattle.member_node.proofs.entries.any_changed.Goals as goal

pub bounds-keys-at : goal.bounds-keys-at
bounds-keys-at g c =
    let inside = here_within c.args.changes.now c.written-written.result.now c.written-written.ensures c.loop-at.at-index c.at-item.result c.loop-at-test.true c.at-item.is in
    let counted = c.requires in
    omega arith

pub offset_bounds-keys-at : goal.offset_bounds-keys-at
offset_bounds-keys-at g c =
    let inside = here_within c.args.changes.now c.written-written.result.now c.written-written.ensures c.loop-at.at-index c.at-item.result c.loop-at-test.true c.at-item.is in
    let counted = c.requires in
    let within : c.at-item.result.index < length c.args.keys.now = omega arith in
    search rules

pub loop-at-preserved : goal.loop-at-preserved
loop-at-preserved g c = λ logs old new made j d state below.
    let keys = c.args.keys.now in
    let cs = c.written-written.result.now in
    let i = c.loop-at.at-index in
    let x = c.at-item.result in
    let here = c.index-keys-at.result in
    let inside = here_within c.args.changes.now cs c.written-written.ensures i x c.loop-at-test.true c.at-item.is in
    elim (cases_eq j i) [
      | inl same ↦
          let counted = made.one_each in
          let leads = subst₂ (LeadsTo g.T.Replica.IsDataOf logs old new) (sym c.index-keys-at.is) (change_is c.args.changes.now cs c.written-written.ensures i x c.loop-at-test.true c.at-item.is None) (made.made x.index here None (omega arith)) in
          let one : get_or keys (get_or cs j d).index state ≡ here =
          ap (λ k. get_or keys (get_or cs k d).index state) same ∙ ap (λ (at : ChangeAt g.row.T.Denot g.row.T-Kind.Denot g.row.T-Op.Denot g.row.T-Delta.Denot). get_or keys at.index state) (get_or_default cs i d x c.loop-at-test.true ∙ sym c.at-item.is)
          ∙ get_or_default keys x.index state here (omega arith) ∙ sym c.index-keys-at.is in
          ap (is_changed_at old new) one ∙ sym (c.is_changed.ensures logs old new leads) ∙ c.if-is_changed.false
      | inr other ↦ c.loop-at.invariant logs old new made j d state (omega arith)
    ]

pub returns-then-is_changed : goal.returns-then-is_changed
returns-then-is_changed g c = λ logs old new made.
    let keys = c.args.keys.now in
    let cs = c.written-written.result.now in
    let i = c.loop-at.at-index in
    let x = c.at-item.result in
    let here = c.index-keys-at.result in
    let inside = here_within c.args.changes.now cs c.written-written.ensures i x c.loop-at-test.true c.at-item.is in
    let counted = made.one_each in
    let leads = subst₂ (LeadsTo g.T.Replica.IsDataOf logs old new) (sym c.index-keys-at.is) (change_is c.args.changes.now cs c.written-written.ensures i x c.loop-at-test.true c.at-item.is None) (made.made x.index here None (omega arith)) in
    sym (list_any_at (is_changed_at old new) keys x.index here (omega arith) (ap (is_changed_at old new) (sym c.index-keys-at.is) ∙ sym (c.is_changed.ensures logs old new leads) ∙ c.if-is_changed.true))

pub returns : goal.returns
returns g c = λ logs old new made.
    sym (none_changed g.T.Replica.IsDataOf logs old new c.args.keys.now c.args.changes.now c.written-written.result.now c.written-written.ensures made
    (λ j d state within. c.loop-at.invariant logs old new made j d state (omega arith)))
