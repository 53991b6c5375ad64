use Rattle.std.proofs.Common.{◌≡◌, ◌∙◌, sym, ap, nat_eq, true, Some}
use Rattle.std.proofs.lemmas.Bool.{eq-eqb, eqb-true}
use Rattle.model_members.specs.Entry.{is_same_mark}
use Rattle.base_vectors.specs.IdSets.{members_in}
use Rattle.data_markers.specs.declared.marker.Marker.TheVariants.{Initialized}
use Rattle.data_markers.specs.Marks.{begun}
use Rattle.data_markers.proofs.Meaning.{same_by_members, both_begun}
use Rattle.data_markers.proofs.marker.Marker.same_begun.Goals as goal
use Rattle.data_markers.proofs.marker.Marker.same_begun.Goals.{then-view-their_view, else-view-their_view}

pub returns-then-eq : goal.returns-then-eq
returns-then-eq c =
    let same = same_by_members c.same.result (members_in c.in-Initialized.seen) (members_in c.in-Initialized-other.their_seen) c.same.ensures in
    elim c.if-view-their_view.branch [
      | then-view-their_view w ↦
          let views : nat_eq c.in-Initialized.view c.in-Initialized-other.their_view ≡ true = eq-eqb _ _ w.if-view-their_view.true in
          let owners : nat_eq c.in-Initialized.owner c.in-Initialized-other.their_owner ≡ true = sym (w.value-is ∙ w.eq.ensures) ∙ c.if-eq.true in
          both_begun _ _ _ c.in-Initialized.seen _ _ c.in-Initialized-other.their_seen views owners same
          ∙ sym (ap (λ m. is_same_mark (begun (Some m)) (begun (Some c.args.other))) c.in-Initialized.is ∙ ap (λ m. is_same_mark (begun (Some (Initialized c.in-Initialized.view c.in-Initialized.owner c.in-Initialized.seen))) (begun (Some m))) c.in-Initialized-other.is)
      | else-view-their_view w ↦ absurd (w.if-view-their_view.false (eqb-true _ _ (sym w.value-is ∙ c.if-eq.true)))
    ]
