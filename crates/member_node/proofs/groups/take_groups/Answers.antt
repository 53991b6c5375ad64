use Rattle.std.proofs.Common.{◌≡◌, [], ◌∷◌, sym, ap, ◌∙◌, subst, arith, take, take_all, map}
use Rattle.std.proofs.lemmas.List.Sums.{fold-append}
use Rattle.member_node.proofs.Common.{AfterGroups, take_group, after_groups, Shown, StandsForKeyedGroup, TellsGroups, IsAtWork, gap_told}
use Rattle.member_node.specs.Inputs.{IsGroupPassedOver}
use Rattle.member_node.proofs.Lists.{one_more}
use Rattle.member_node.proofs.Takings.{tells_none, tells_last}
use Rattle.member_node.proofs.Takings.TellsLast.{last_told, last_passed}
use Rattle.member_node.proofs.groups.take_groups.Goals as goal

pub loop-keyed-init : goal.loop-keyed-init
loop-keyed-init g c = record {
  counted = c.requires.counted;
  kept = λ kept. kept;
  image = λ kinds logs view entries node sent of_kinds held kept tells work.
      let R = g.T.Replica in
      let none = tells_none (StandsForKeyedGroup {ghosts = R} kinds logs) (IsGroupPassedOver R c.args.keys.now) sent tells in
      (subst (λ s. IsAtWork R.kind_of R.IsDataOf kinds logs c.args.id c.args.keys.now view entries c.args.changes.now (after_groups node s).node) (sym none) work, c.new-gaps.ensures ∙ sym (ap (λ s. map gap_told (after_groups node s).gaps) none));
}

pub take_group_at-requires-clause-counted : goal.take_group_at-requires-clause-counted
take_group_at-requires-clause-counted g c = c.loop-keyed.invariant.counted

pub loop-keyed-preserved : goal.loop-keyed-preserved
loop-keyed-preserved g c =
    let R = g.T.Replica in
    let i = c.loop-keyed.keyed-index in
    let keyed = c.keyed-item.result in
    record {
      counted = c.in_ok-take_group_at.ensures.counted;
      kept = λ kept. c.in_ok-take_group_at.ensures.kept (c.loop-keyed.invariant.kept kept);
      image = λ kinds logs view entries node sent of_kinds held kept tells work.
          let At = λ (s : AfterGroups g.row.T-Kind.Denot g.row.T-Op.Denot Shown). IsAtWork R.kind_of R.IsDataOf kinds logs c.args.id c.args.keys.now view entries c.take_group_at.new.changes s.node × (c.take_group_at.new.gaps ≡ map gap_told s.gaps) in
          elim (tells_last (StandsForKeyedGroup {ghosts = R} kinds logs) (IsGroupPassedOver R c.args.keys.now) (take i c.args.groups.now) keyed sent
          (subst (λ xs. TellsGroups R kinds logs c.args.keys.now xs sent) (one_more c.args.groups.now i keyed c.loop-keyed-test.true c.keyed-item.is) tells)) [
            | last_told first last is told stands ↦
                let before = c.loop-keyed.invariant.image kinds logs view entries node first of_kinds held kept told work in
                let next = c.in_ok-take_group_at.ensures.image kinds logs view entries (after_groups node first) last held (c.loop-keyed.invariant.kept kept) stands before.0 before.1 in
                subst At (sym (ap (after_groups node) is ∙ fold-append take_group (record { node = node; gaps = [] }) first (last ∷ []))) next
            | last_passed told passed ↦
                let before = c.loop-keyed.invariant.image kinds logs view entries node sent of_kinds held kept told work in
                let still = c.in_ok-take_group_at.ensures.passed_over of_kinds (c.loop-keyed.invariant.kept kept) passed in
                (subst (λ changes. IsAtWork R.kind_of R.IsDataOf kinds logs c.args.id c.args.keys.now view entries changes (after_groups node sent).node) (sym still.0) before.0, still.1 ∙ before.1)
          ];
    }

pub returns-clause-image : goal.returns-clause-image
returns-clause-image g c = λ kinds logs view entries node sent of_kinds held kept tells work.
    (c.loop-keyed.invariant.image kinds logs view entries node sent of_kinds held kept
    (subst (λ xs. TellsGroups g.T.Replica kinds logs c.args.keys.now xs sent) (sym (take_all c.loop-keyed.keyed-index c.args.groups.now (omega arith))) tells) work).0

pub returns-clause-gaps : goal.returns-clause-gaps
returns-clause-gaps g c = λ kinds logs view entries node sent of_kinds held kept tells work.
    (c.loop-keyed.invariant.image kinds logs view entries node sent of_kinds held kept
    (subst (λ xs. TellsGroups g.T.Replica kinds logs c.args.keys.now xs sent) (sym (take_all c.loop-keyed.keyed-index c.args.groups.now (omega arith))) tells) work).1
