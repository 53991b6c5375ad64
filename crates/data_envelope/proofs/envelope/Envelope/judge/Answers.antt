use Rattle.std.proofs.Common.{◌≡◌, ap, ◌∙◌, ◌≤◌, ◌<◌, arith}
use Rattle.model_history.specs.History.{at}
use Rattle.base_vectors.specs.Vectors.{number_at}
use Rattle.data_envelope.proofs.Judging.{judged_stale, judged_missing, judged_wanted}
use Rattle.data_envelope.proofs.envelope.Envelope.judge.Goals as goal

pub returns-then-at-group : goal.returns-then-at-group
returns-then-at-group g c = record {
  image = λ log entry records s t.
      let here : c.at.result ≡ at entry.history records.origin = c.at.ensures.image log entry s ∙ ap (at entry.history) t.origin in
      let l : records.upto ≤ at entry.history records.origin = omega (arith, t.upto) in
      judged_stale entry records l;
}

pub returns-in-Some : goal.returns-in-Some
returns-in-Some g c = record {
  image = λ log entry records s t.
      let here : c.at.result ≡ at entry.history records.origin = c.at.ensures.image log entry s ∙ ap (at entry.history) t.origin in
      let l : at entry.history records.origin < records.upto = omega (arith, t.upto) in
      judged_missing entry records (number_at c.args.group.now.needs) c.in-Some.id l t.needed (c.in-Some.ensures.some log entry s);
}

pub returns-in-None : goal.returns-in-None
returns-in-None g c = record {
  image = λ log entry records s t.
      let here : c.at.result ≡ at entry.history records.origin = c.at.ensures.image log entry s ∙ ap (at entry.history) t.origin in
      let l : at entry.history records.origin < records.upto = omega (arith, t.upto) in
      judged_wanted entry records (number_at c.args.group.now.needs) l t.needed (c.in-None.ensures.none log entry s);
}
