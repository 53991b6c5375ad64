use Rattle.std.proofs.Common.{◌≤◌, ◌+◌, All, ◌∙◌, sym, subst, arith}
use Rattle.model_meanings.specs.Refusal.{greatest_share}
use Rattle.data_meaning.proofs.Newest.{next_timestamps}
use Rattle.data_meaning.proofs.timestamps.timestamps.Goals as goal

pub loop-record-preserved : goal.loop-record-preserved
loop-record-preserved c =
    let same = c.deref.ensures.value in
    record {
      value = next_timestamps c.args.records.now c.loop-record._record-index c.deref.result.now _ (same ∙ c.loop-record.invariant.value) c.in_ok-timestamps-2.ensures.value;
      range = subst (λ limit. All (λ t. t ≤ limit) c.in_ok-timestamps-2.timestamps.items) (omega arith)
          (c.in_ok-timestamps-2.ensures.range (greatest_share + c.loop-record._record-index) (omega arith) (subst (All (λ t. t ≤ greatest_share + c.loop-record._record-index)) (sym same) c.loop-record.invariant.range));
    }
