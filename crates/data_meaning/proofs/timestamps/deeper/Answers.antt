use Rattle.std.proofs.Common.{◌≤◌, ◌+◌, ◌++◌, [], ◌∷◌, map, All, ap, sym, ◌∙◌, subst}
use Rattle.std.specs.List.{zip}
use Rattle.std.proofs.lemmas.List.{take_all}
use Rattle.std.proofs.lemmas.List.Elements.{All-push}
use Rattle.data_meaning.specs.declared.record.Record.{Record}
use Rattle.data_meaning.specs.Stamping.{timestamp_by}
use Rattle.data_meaning.proofs.Newest.{map_more}
use Rattle.data_meaning.proofs.timestamps.deeper.Goals as goal

pub loop-record-preserved : goal.loop-record-preserved
loop-record-preserved c = record {
  value = c.in_ok-append.ensures
      ∙ ap (λ ts. ts ++ c.timestamp.result ∷ []) c.loop-record.invariant.value
      ∙ map_more (λ (r : Record). timestamp_by (zip c.args.records.now c.args.timestamps.now) r.past r.action) c.args.records.now c.loop-record.record-index c.record-item.result c.timestamp.result c.loop-record-test.true c.record-item.is c.timestamp.ensures.value;
  range = λ limit low all.
      subst (All (λ t. t ≤ limit + 1)) (sym c.in_ok-append.ensures) (All-push (λ t. t ≤ limit + 1) c.loop-record.more.items c.timestamp.result (c.loop-record.invariant.range limit low all) (c.timestamp.ensures.range limit low all));
}

pub returns-clause-value : goal.returns-clause-value
returns-clause-value c =
    c.loop-record.invariant.value
    ∙ ap (map (λ (r : Record). timestamp_by (zip c.args.records.now c.args.timestamps.now) r.past r.action)) (take_all c.loop-record.record-index c.args.records.now c.loop-record-test.false)

pub returns-clause-range : goal.returns-clause-range
returns-clause-range c = c.loop-record.invariant.range
