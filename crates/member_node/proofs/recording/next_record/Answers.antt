use Rattle.std.proofs.Common.{◌≡◌, ◌+◌, max, refl, sym, ap, ◌∙◌, subst, arith, true, IsSome}
use Rattle.member_node.proofs.Common.{number_at}
use Rattle.base_vectors.proofs.Laws.{number_at-raised_same}
use Rattle.data_deltalog.specs.Contents.{IsDeltaFor, before_with}
use Rattle.member_node.proofs.recording.next_record.Goals as goal

pub returns-in-Ok-clause-recorded : goal.returns-in-Ok-clause-recorded
returns-in-Ok-clause-recorded g c =
    let R = g.T.Replica in
    let old = c.args.entry.now in
    let id = c.args.id in
    let most : max (number_at old.versions id) (number_at old.versions id + 1) ≡ number_at old.versions id + 1 = omega arith in
    record {
      number = ap (λ m. number_at m id) c.in-Ok.ensures.versions ∙ number_at-raised_same old.versions id (number_at old.versions id + 1) id c.number-below_limit.ensures.range refl ∙ most;
      marks = c.in-Ok.ensures.markers;
      kind = c.in-Ok.ensures.kind;
      fits = subst (IsDeltaFor R.IsOfOrigin R.delta_fits_kind (R.kind_of old.value) id) (sym c.with_delta.ensures.made) (record {
        made = λ some is. let same : c.in-Ok.delta ≡ some = cc is in subst (λ delta. R.IsOfOrigin delta id) same c.in-Ok.ensures.delta_origin;
        of_kind = λ some is. let same : c.in-Ok.delta ≡ some = cc is in subst (λ delta. R.delta_fits_kind (R.kind_of old.value) delta ≡ true) same c.in-Ok.ensures.delta_kind;
      });
      room = λ empty. subst (λ room. IsSome room.spare) (sym c.with_delta.ensures.room) (c.in_ok-next.ensures.room empty);
    }

pub returns-in-Ok-clause-image : goal.returns-in-Ok-clause-image
returns-in-Ok-clause-image g c = λ history before stands taken. record {
  entry = c.in-Ok.ensures.image history before stands taken;
  known = λ i other. ap (λ brought. number_at (before_with c.args.log.now brought) i) c.with_delta.ensures.before ∙ c.in_ok-next.ensures.before history before stands i other;
  made = c.in-Ok.delta;
  some = c.with_delta.ensures.made;
  delta = c.in-Ok.ensures.delta history before stands taken;
}
