use Rattle.std.proofs.Common.{◌≡◌, ◌+◌, ◌-◌, ◌<◌, ◌≤◌, length, drop, None, refl, sym, ap, subst, ◌∙◌, arith, length-drop}
use Rattle.data_deltalog.specs.Answers.Answer.{NoDelta, AsGroup}
use Rattle.data_deltalog.specs.Contents.{LogParts, answer_by, combined_of, wanted, IsMadeOf, AreDeltasFor}
use Rattle.data_deltalog.proofs.InOrder.{combined_all, combined_lacks}
use Rattle.data_deltalog.proofs.Answering.{answers_no_delta, answers_group, answers_for, goes_where}
use Rattle.data_deltalog.proofs.Grouping.{stands_for_group}
use Rattle.data_deltalog.proofs.delta_log.DeltaLog.group.Given as given
use Rattle.data_deltalog.proofs.delta_log.DeltaLog.group.Goals as goal

-- a record lacks its delta
no_delta : (g : given.Over) (c : goal.In-None g) → NoDelta ≡ answer_by c.args.self.now c.args.after
no_delta g c =
    let R = g.T.Replica in
    let parts : LogParts g.row.T-Kind.Denot g.row.T-Delta.Denot = record { origin = c.self.inside.origin; kind = c.self.inside.kind; last = c.self.inside.last; before = c.self.inside.before; records = c.self.inside.records } in
    let is : parts ≡ c.args.self.now = c.self.view_is in
    let after = c.args.after in
    let len = c.len-kept.ensures.value in
    let some : after < parts.last = omega arith in
    let kept : parts.last ≤ after + length parts.records = omega (arith, len) in
    let place : c.len-kept.result - (parts.last - after) ≡ length parts.records - (parts.last - after) = ap (λ n. n - (parts.last - after)) len in
    let none : combined_of R.combined (wanted parts after) ≡ None = sym (sym c.in-None.is ∙ c.in_ok-combined.ensures.value ∙ ap (λ n. combined_of R.combined (drop n parts.records)) place) in
    sym (answers_no_delta parts after some kept (combined_lacks R.combined (wanted parts after) (omega (arith, length-drop (length parts.records - (parts.last - after)) parts.records)) none))
    ∙ ap (λ (p : LogParts g.row.T-Kind.Denot g.row.T-Delta.Denot). answer_by p after) is

pub returns-in-None-clause-answer : goal.returns-in-None-clause-answer
returns-in-None-clause-answer g c = no_delta g c

pub returns-in-None-clause-means : goal.returns-in-None-clause-means
returns-in-None-clause-means g c = λ log entry s. no_delta g c ∙ answers_for g.T.Replica.IsDeltaOf c.args.self.now log entry s c.args.after

pub returns-in-None-clause-flush : goal.returns-in-None-clause-flush
returns-in-None-clause-flush g c = λ D node peer key log s keeps own sent behind.
    goes_where D node peer key c.args.self.now.origin c.args.after keeps own sent behind NoDelta
    (no_delta g c ∙ answers_for g.T.Replica.IsDeltaOf c.args.self.now log key.entry s c.args.after)

-- all have their deltas
record IsAnswered (g : given.Over) (c : goal.After-result-in-Some-1 g) : Type 0 where
  some : c.args.after < c.args.self.now.last
  kept : c.args.self.now.last ≤ c.args.after + length c.args.self.now.records
  made : IsMadeOf g.T.Replica.combined c.args.self.now c.args.after (record { origin = c.self.inside.origin; after = c.args.after; upto = c.self.inside.last; needed = c.in_ok-needed-in-Some.field-0; changes = c.in-Some.delta })

answered : (g : given.Over) (c : goal.After-result-in-Some-1 g) → IsAnswered g c
answered g c =
    let R = g.T.Replica in
    let parts : LogParts g.row.T-Kind.Denot g.row.T-Delta.Denot = record { origin = c.self.inside.origin; kind = c.self.inside.kind; last = c.self.inside.last; before = c.self.inside.before; records = c.self.inside.records } in
    let is : parts ≡ c.args.self.now = c.self.view_is in
    let after = c.args.after in
    let len = c.len-kept.ensures.value in
    let place : c.len-kept.result - (parts.last - after) ≡ length parts.records - (parts.last - after) = ap (λ n. n - (parts.last - after)) len in
    let made : IsMadeOf R.combined parts after (record { origin = c.self.inside.origin; after = after; upto = c.self.inside.last; needed = c.in_ok-needed-in-Some.field-0; changes = c.in-Some.delta }) = record {
      origin = refl;
      from = refl;
      upto = refl;
      needed = c.in_ok-needed-in-Some.ensures;
      changes = sym (sym c.in-Some.is ∙ c.in_ok-combined.ensures.value ∙ ap (λ n. combined_of R.combined (drop n parts.records)) place);
    } in
    let some : after < parts.last = omega arith in
    let kept : parts.last ≤ after + length parts.records = omega (arith, len) in
    record {
      some = subst (λ (p : LogParts g.row.T-Kind.Denot g.row.T-Delta.Denot). after < p.last) is some;
      kept = subst (λ (p : LogParts g.row.T-Kind.Denot g.row.T-Delta.Denot). p.last ≤ after + length p.records) is kept;
      made = subst (λ (p : LogParts g.row.T-Kind.Denot g.row.T-Delta.Denot). IsMadeOf R.combined p after (record { origin = c.self.inside.origin; after = after; upto = c.self.inside.last; needed = c.in_ok-needed-in-Some.field-0; changes = c.in-Some.delta })) is made;
    }

as_group : (g : given.Over) (c : goal.After-result-in-Some-1 g) → AsGroup ≡ answer_by c.args.self.now c.args.after
as_group g c =
    let parts = c.args.self.now in
    let a = answered g c in
    sym (answers_group parts c.args.after a.some a.kept (combined_all g.T.Replica.combined (wanted parts c.args.after) c.in-Some.delta a.made.changes))

pub returns-in_ok-needed-in-Some-clause-answer : goal.returns-in_ok-needed-in-Some-clause-answer
returns-in_ok-needed-in-Some-clause-answer g c = as_group g c

pub returns-in_ok-needed-in-Some-clause-group : goal.returns-in_ok-needed-in-Some-clause-group
returns-in_ok-needed-in-Some-clause-group g c = (answered g c).made

pub returns-in_ok-needed-in-Some-clause-means : goal.returns-in_ok-needed-in-Some-clause-means
returns-in_ok-needed-in-Some-clause-means g c = λ log entry s. as_group g c ∙ answers_for g.T.Replica.IsDeltaOf c.args.self.now log entry s c.args.after

pub returns-in_ok-needed-in-Some-clause-image : goal.returns-in_ok-needed-in-Some-clause-image
returns-in_ok-needed-in-Some-clause-image g c = λ log entry s.
    let R = g.T.Replica in
    let M = g.met.T.Replica in
    let parts = c.args.self.now in
    let a = answered g c in
    let deltas : AreDeltasFor R.IsOfOrigin R.delta_fits_kind parts.kind parts.origin parts.records = subst (λ (p : LogParts g.row.T-Kind.Denot g.row.T-Delta.Denot). AreDeltasFor R.IsOfOrigin R.delta_fits_kind p.kind p.origin p.records) c.self.view_is c.self.invariant.deltas in
    stands_for_group R.IsDeltaOf R.combined parts log entry s c.args.after a.some a.kept R.IsOfOrigin R.delta_fits_kind deltas
    (M.combined_kind parts.kind) (λ first later. M.delta_combined parts.kind first later log parts.origin) _ a.made

pub returns-in_ok-needed-in-Some-clause-flush : goal.returns-in_ok-needed-in-Some-clause-flush
returns-in_ok-needed-in-Some-clause-flush g c = λ D node peer key log s keeps own sent behind.
    goes_where D node peer key c.args.self.now.origin c.args.after keeps own sent behind AsGroup
    (as_group g c ∙ answers_for g.T.Replica.IsDeltaOf c.args.self.now log key.entry s c.args.after)
