use Rattle.std.proofs.Common.{[], ◌∷◌, sym, ap, ◌∙◌, subst, arith, take, take_all}
use Rattle.std.proofs.lemmas.List.Sums.{fold-append}
use Rattle.member_node.proofs.Common.{IsTakenFrom, take_entry, after_entries, Shown, StandsForKeyed, IsEntryPassedOver, TellsEntries, AreExactAt, IsAtWork}
use Rattle.model_members.specs.Node.{Node as Member}
use Rattle.member_node.proofs.Lists.{one_more}
use Rattle.member_node.proofs.Takings.{tells_none, tells_last, exact_before}
use Rattle.member_node.proofs.Takings.TellsLast.{last_told, last_passed}
use Rattle.member_node.proofs.entries.take_entries.Goals as goal

pub loop-keyed-init : goal.loop-keyed-init
loop-keyed-init g c = record {
  counted = c.requires.counted;
  kept = λ kept. kept;
  image = λ kinds logs before node sent rest exact of_kinds held kept tells work.
      let R = g.T.Replica in
      subst (λ s. IsAtWork R.kind_of R.IsDataOf kinds logs c.args.id c.args.keys.now c.args.view before c.args.changes.now (after_entries node s))
      (sym (tells_none (StandsForKeyed R.kind_of R.IsDataOf kinds logs) (IsEntryPassedOver R c.args.keys.now) sent tells)) work;
}

pub take_envelope-requires-clause-counted : goal.take_envelope-requires-clause-counted
take_envelope-requires-clause-counted g c = c.loop-keyed.invariant.counted

pub loop-keyed-preserved : goal.loop-keyed-preserved
loop-keyed-preserved g c =
    let R = g.T.Replica in
    let i = c.loop-keyed.keyed-index in
    let keyed = c.keyed-item.result in
    record {
      counted = c.in_ok-take_envelope.ensures.counted;
      kept = λ kept. c.in_ok-take_envelope.ensures.kept (c.loop-keyed.invariant.kept kept);
      image = λ kinds logs before node sent rest exact of_kinds held kept tells work.
          let S = StandsForKeyed R.kind_of R.IsDataOf kinds logs in
          let P = IsEntryPassedOver R c.args.keys.now in
          elim (tells_last S P (take i c.args.entries.now) keyed sent (subst (λ xs. TellsEntries R kinds logs c.args.keys.now xs sent) (one_more c.args.entries.now i keyed c.loop-keyed-test.true c.keyed-item.is) tells)) [
            | last_told first last is told stands ↦
                let same = ap (after_entries node) is ∙ fold-append take_entry node first (last ∷ []) in
                let exact' = subst (λ (n : Member g.row.T-Kind.Denot g.row.T-Op.Denot Shown). AreExactAt c.args.keys.now (after_entries n rest).entries) same exact in
                let so_far = c.loop-keyed.invariant.image kinds logs before node first (last ∷ rest) exact' of_kinds held kept told work in
                let theirs = subst (λ key. IsTakenFrom (logs key) last.item.history) (sym stands.same) stands.held.image.taken in
                let exact_next = exact_before R.kind_of R.IsDataOf kinds logs c.args.id c.args.keys.now c.args.view before held c.loop-keyed.changes (after_entries node first) so_far last rest theirs exact' in
                let next = c.in_ok-take_envelope.ensures.image kinds logs before (after_entries node first) last exact_next held (c.loop-keyed.invariant.kept kept) stands so_far in
                subst (λ (n : Member g.row.T-Kind.Denot g.row.T-Op.Denot Shown). IsAtWork R.kind_of R.IsDataOf kinds logs c.args.id c.args.keys.now c.args.view before c.take_envelope.new.changes n) (sym same) next
            | last_passed told passed ↦
                let so_far = c.loop-keyed.invariant.image kinds logs before node sent rest exact of_kinds held kept told work in
                subst (λ changes. IsAtWork R.kind_of R.IsDataOf kinds logs c.args.id c.args.keys.now c.args.view before changes (after_entries node sent)) (sym (c.in_ok-take_envelope.ensures.passed_over of_kinds (c.loop-keyed.invariant.kept kept) passed)) so_far
          ];
    }

pub returns-clause-image : goal.returns-clause-image
returns-clause-image g c = λ kinds logs before node sent exact way tells work.
    c.loop-keyed.invariant.image kinds logs before node sent [] exact way.of_kinds way.held way.kept (subst (λ xs. TellsEntries g.T.Replica kinds logs c.args.keys.now xs sent) (sym (take_all c.loop-keyed.keyed-index c.args.entries.now (omega arith))) tells) work
