use Rattle.std.proofs.Common.{arith, ◌+◌, ap, sym, ◌∙◌, subst, subst₂}
use Rattle.model_history.specs.Vector.{with_member}
use Rattle.data_markers.specs.Marks.{performed_in}
use Rattle.data_envelope.proofs.Dropped.{IsDroppedBelow, dropped_none, dropped_one, dropped_skip, dropped_state, dropped_forgotten, dropped_numbers}
use Rattle.data_envelope.proofs.cleaning.drop_performed.Goals as goal
use Rattle.data_envelope.proofs.cleaning.drop_performed.Goals.{in-Some+then-performed, in-Some+else-performed, in_default}
use Rattle.base_vectors.specs.Vectors.{removed}

pub loop-number-init : goal.loop-number-init
loop-number-init g c = dropped_none g.T.Replica.IsDataOf g.T.Replica.kind_of g.T.Replica.mentioned c.args.value.now c.args.versions.now c.args.markers.now c.requires

pub loop-number-preserved : goal.loop-number-preserved
loop-number-preserved g c =
    let D = g.T.Replica.IsDataOf in
    let marks = c.args.markers.now in
    elim c.match-new.branch [
      | in-Some+then-performed w ↦
          let value = w.value-is ∙ w.clean.ensures ∙ ap (g.T.Replica.cleaned c.loop-number.value) w.in-Some.ensures.value in
          dropped_one D g.T.Replica.kind_of g.T.Replica.mentioned c.args.value.now c.loop-number.value c.match-new.value c.args.versions.now c.loop-number.versions c.match-new.versions marks c.loop-number.number
          (ap (performed_in marks) (sym w.in-Some.ensures.value) ∙ sym w.performed.ensures.value ∙ w.if-performed.true)
          (ap g.T.Replica.kind_of value ∙ g.met.T.Replica.kind_cleaned c.loop-number.value c.loop-number.number)
          (λ log held gone d. subst (λ v. D v log held (with_member gone c.loop-number.number)) (sym value) (g.met.T.Replica.data_cleaned c.loop-number.value log held gone c.loop-number.number d))
          (ap (λ v. g.T.Replica.mentioned v c.loop-number.number) value ∙ g.met.T.Replica.cleaned_unmentioned c.loop-number.value c.loop-number.number)
          (λ i none. ap (λ v. g.T.Replica.mentioned v i) value ∙ g.met.T.Replica.cleaned_mentions c.loop-number.value c.loop-number.number i none)
          (w.versions-is ∙ w.without.ensures ∙ ap (removed c.loop-number.versions) w.in-Some.ensures.value) c.loop-number.invariant
      | in-Some+else-performed w ↦ subst₂ (λ v n. IsDroppedBelow D g.T.Replica.kind_of g.T.Replica.mentioned c.args.value.now v c.args.versions.now n marks (c.loop-number.number + 1)) (sym w.value-is) (sym w.versions-is)
          (dropped_skip D g.T.Replica.kind_of g.T.Replica.mentioned c.args.value.now c.loop-number.value c.args.versions.now c.loop-number.versions marks c.loop-number.number
          (ap (performed_in marks) (sym w.in-Some.ensures.value) ∙ sym w.performed.ensures.value ∙ w.if-performed.false) c.loop-number.invariant)
      | in_default w ↦ absurd (let no = w.in_default.ensures.variant.1 (omega arith) in cc)
    ]

pub returns-clause-kind : goal.returns-clause-kind
returns-clause-kind g c = c.loop-number.invariant.kind

pub returns-clause-state : goal.returns-clause-state
returns-clause-state g c = dropped_state g.T.Replica.IsDataOf g.T.Replica.kind_of g.T.Replica.mentioned _ _ c.args.versions.now _ _ c.loop-number.number (λ i l. c.limit-number-end.ensures.above i (omega arith)) c.loop-number.invariant

pub returns-clause-forgotten : goal.returns-clause-forgotten
returns-clause-forgotten g c = dropped_forgotten g.T.Replica.IsDataOf g.T.Replica.kind_of g.T.Replica.mentioned _ _ _ _ _ c.loop-number.number (λ i l. c.limit-number-end.ensures.above i (omega arith)) c.loop-number.invariant

pub returns-clause-normal : goal.returns-clause-normal
returns-clause-normal g c = c.loop-number.invariant.normal

pub returns-clause-numbers : goal.returns-clause-numbers
returns-clause-numbers g c = dropped_numbers g.T.Replica.IsDataOf g.T.Replica.kind_of g.T.Replica.mentioned c.args.value.now _ _ _ _ c.loop-number.number (omega arith) (λ i l. c.limit-number-end.ensures.above i (omega arith)) c.requires c.loop-number.invariant
