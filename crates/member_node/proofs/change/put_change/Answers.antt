use Rattle.std.proofs.Common.{◌≡◌, ℕ, ◌<◌, length, get_or, sym, ap, ◌∙◌, subst, arith, OnOk, if◌then◌else◌}
use Rattle.std.specs.Result.{is_ok}
use Rattle.std.specs.List.{insert}
use Rattle.std.proofs.lemmas.List.{get_or_default}
use Rattle.member_node.specs.Changes.{AreRising, IsPut, IsPlaceFor}
use Rattle.member_node.specs.declared.change.ChangeAt.{ChangeAt}
use Rattle.member_node.proofs.Sparse.{is_put, is_inserted}
use Rattle.member_node.proofs.change.put_change.Goals as goal
use Rattle.member_node.proofs.change.put_change.Goals.{else-place-len-via-then-place-len+else-index, else-place-len-via-else-place-len, in-Ok, in-Err}

pub returns-then-index : goal.returns-then-index
returns-then-index g c =
    let cs = c.args.written.now.items in
    let place = c.place_for-place.result in
    let index = c.args.index in
    let found : IsPlaceFor cs index place = subst (λ cs. IsPlaceFor cs index place) c.deref.ensures.value c.place_for-place.ensures in
    let len = c.len.ensures in let counted = c.args.written.now.ok.0 in let first = c.if-place-len.true in
    let under : place < length cs = omega arith in
    let here : (d : ChangeAt g.row.T.Denot g.row.T-Kind.Denot g.row.T-Op.Denot g.row.T-Delta.Denot) → (get_or cs place d).index ≡ index = λ d. ap (λ (at : ChangeAt g.row.T.Denot g.row.T-Kind.Denot g.row.T-Op.Denot g.row.T-Delta.Denot). at.index) (get_or_default cs place d c.index.result.now under ∙ sym c.index.ensures) ∙ c.if-index.true in
    let put = λ (keys : ℕ) (rising : AreRising 0 keys cs) (inside : index < keys). is_put index c.args.change keys cs place rising inside found.within found.before under here in
    record { ok = put; still = λ keys rising inside. (put keys rising inside).rising }

pub returns : goal.returns
returns g c =
    let cs = c.args.written.now.items in
    let place = c.place_for-place.result in
    let index = c.args.index in
    let found : IsPlaceFor cs index place = subst (λ cs. IsPlaceFor cs index place) c.deref.ensures.value c.place_for-place.ensures in
    let apart : (d : ChangeAt g.row.T.Denot g.row.T-Kind.Denot g.row.T-Op.Denot g.row.T-Delta.Denot) → place < length cs → index < (get_or cs place d).index = λ d under. elim c.else-place-len.branch [
      | else-place-len-via-then-place-len+else-index w ↦
          let other = w.if-index.false in
          let same : (get_or cs place d).index ≡ w.index.result.now.index = ap (λ (at : ChangeAt g.row.T.Denot g.row.T-Kind.Denot g.row.T-Op.Denot g.row.T-Delta.Denot). at.index) (get_or_default cs place d w.index.result.now under ∙ sym w.index.ensures) in
          let least = found.after d under in
          omega arith
      | else-place-len-via-else-place-len w ↦ let len = c.len.ensures in let counted = c.args.written.now.ok.0 in let past = w.if-place-len.false in absurd (omega arith)
    ] in
    let put = λ (keys : ℕ) (rising : AreRising 0 keys cs) (inside : index < keys). is_inserted index c.args.change keys cs place rising inside found.within found.before apart in
    elim c.match-insert.branch [
      | in-Ok w ↦
          let is : c.insert.new.self.items ≡ insert cs place (record { index = index; change = c.args.change }) = c.insert.ensures.items ∙ ap (λ r. if is_ok r then insert cs place (record { index = index; change = c.args.change }) else cs) w.in-Ok.is in
          record {
            ok = λ keys rising inside. subst (λ r. OnOk r (IsPut index c.args.change keys cs c.insert.new.self.items)) (sym w.result-is) (subst (IsPut index c.args.change keys cs) (sym is) (put keys rising inside));
            still = λ keys rising inside. subst (AreRising 0 keys) (sym is) (put keys rising inside).rising;
          }
      | in-Err w ↦
          let is : c.insert.new.self.items ≡ cs = c.insert.ensures.items ∙ ap (λ r. if is_ok r then insert cs place (record { index = index; change = c.args.change }) else cs) w.in-Err.is in
          record {
            ok = λ keys rising inside. subst (λ r. OnOk r (IsPut index c.args.change keys cs c.insert.new.self.items)) (sym w.result-is) tt;
            still = λ keys rising inside. subst (AreRising 0 keys) (sym is) rising;
          }
    ]
