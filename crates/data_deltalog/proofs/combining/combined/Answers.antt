use Rattle.std.proofs.Common.{◌≡◌, ◌≤◌, ◌+◌, length, drop, Some, refl, sym, ap, subst, ◌∙◌, arith}
use Rattle.std.specs.Prelude.{fold}
use Rattle.data_deltalog.specs.Contents.{both, IsDeltaFor}
use Rattle.data_deltalog.proofs.Records.{dropped_all}
use Rattle.data_deltalog.proofs.InOrder.{nothing_more, combined_at, joined_at}
use Rattle.data_deltalog.proofs.combining.combined.Goals as goal

pub returns-in_default-clause-value : goal.returns-in_default-clause-value
returns-in_default-clause-value g c =
    let R = g.T.Replica in
    let records = c.args.records.now in
    sym (combined_at R.combined records c.args.first c.at.result.now c.at.ensures
    ∙ ap (λ o. fold (both R.combined) o (drop (c.args.first + 1) records)) c.in_default.is
    ∙ nothing_more R.combined (drop (c.args.first + 1) records))

pub loop-index-init : goal.loop-index-init
loop-index-init g c =
    let R = g.T.Replica in
    let records = c.args.records.now in
    let first : c.at.result.now ≡ Some c.in_ok-combined.combined = c.in-Some.is ∙ ap Some (sym c.in_ok-combined.ensures) in (
      combined_at R.combined records c.args.first c.at.result.now c.at.ensures ∙ ap (λ o. fold (both R.combined) o (drop (c.args.first + 1) records)) first,
      λ kind origin are. subst (IsDeltaFor R.IsOfOrigin R.delta_fits_kind kind origin) first (are.each c.args.first c.at.result.now c.at.ensures),
    )

pub extend_delta-requires-clause-origin : goal.extend_delta-requires-clause-origin
extend_delta-requires-clause-origin g c =
    let d = c.requires.deltas in (
      d.1,
      (c.loop-index.invariant.1 d.0 d.1 d.2).made c.loop-index.combined refl,
      (d.2.each c.loop-index.index c.at-in-loop-index.result.now c.at-in-loop-index.ensures).made c.in-Some-at.later c.in-Some-at.is,
    )

pub extend_delta-requires-clause-kind : goal.extend_delta-requires-clause-kind
extend_delta-requires-clause-kind g c =
    let d = c.requires.deltas in (
      d.0,
      (c.loop-index.invariant.1 d.0 d.1 d.2).of_kind c.loop-index.combined refl,
      (d.2.each c.loop-index.index c.at-in-loop-index.result.now c.at-in-loop-index.ensures).of_kind c.in-Some-at.later c.in-Some-at.is,
    )

pub returns-in-None-clause-value : goal.returns-in-None-clause-value
returns-in-None-clause-value g c =
    let R = g.T.Replica in
    let records = c.args.records.now in
    let index = c.loop-index.index in
    sym (c.loop-index.invariant.0
    ∙ joined_at R.combined (Some c.loop-index.combined) records index c.at-in-loop-index.result.now c.at-in-loop-index.ensures
    ∙ ap (λ o. fold (both R.combined) (both R.combined (Some c.loop-index.combined) o) (drop (index + 1) records)) c.in-None.is
    ∙ nothing_more R.combined (drop (index + 1) records))

pub loop-index-preserved : goal.loop-index-preserved
loop-index-preserved g c =
    let R = g.T.Replica in
    let records = c.args.records.now in
    let index = c.loop-index.index in
    let next : Some (R.combined c.loop-index.combined c.in-Some-at.later) ≡ Some c.extend_delta.new.delta = ap Some (sym c.in_ok-extend_delta-in-Some-at.ensures.ok) in (
      c.loop-index.invariant.0
          ∙ joined_at R.combined (Some c.loop-index.combined) records index c.at-in-loop-index.result.now c.at-in-loop-index.ensures
          ∙ ap (λ o. fold (both R.combined) (both R.combined (Some c.loop-index.combined) o) (drop (index + 1) records)) c.in-Some-at.is
          ∙ ap (λ o. fold (both R.combined) o (drop (index + 1) records)) next,
      λ kind origin are.
          let so_far = c.loop-index.invariant.1 kind origin are in
          let now = are.each index c.at-in-loop-index.result.now c.at-in-loop-index.ensures in
          let first = c.loop-index.combined in
          let later = c.in-Some-at.later in
          subst (IsDeltaFor R.IsOfOrigin R.delta_fits_kind kind origin) next (record {
            made = λ some e. let same : R.combined first later ≡ some = cc e in subst (λ d. R.IsOfOrigin d origin) same (g.met.T.Replica.combined_origin first later origin (so_far.made first refl) (now.made later c.in-Some-at.is));
            of_kind = λ some e. let same : R.combined first later ≡ some = cc e in ap (R.delta_fits_kind kind) (sym same) ∙ g.met.T.Replica.combined_kind kind first later (so_far.of_kind first refl) (now.of_kind later c.in-Some-at.is);
          }),
    )

pub returns-clause-value : goal.returns-clause-value
returns-clause-value g c =
    let R = g.T.Replica in
    let records = c.args.records.now in
    let end : length records ≤ c.loop-index.index = omega (arith, c.len-kept.ensures.value) in
    sym (c.loop-index.invariant.0 ∙ ap (fold (both R.combined) (Some c.loop-index.combined)) (dropped_all records c.loop-index.index end))
