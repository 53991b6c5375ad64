use Rattle.std.proofs.Common.{ap, sym, ◌∙◌}
use Rattle.std.specs.List.{fold}
use Rattle.std.specs.Option.{option_to_list}
use Rattle.model_history.specs.Texts.{with_text}
use Rattle.model_kinds.specs.SixKinds.{added}
use Rattle.model_meanings.specs.Growing.{found}
use Rattle.data_meaning.specs.declared.record.Record.{Record}
use Rattle.data_meaning.specs.Records.{action_of}
use Rattle.data_meaning.proofs.TextPlaces.{set_more}
use Rattle.data_meaning.proofs.elements.added_elements.Goals as goal

pub loop-record-preserved : goal.loop-record-preserved
loop-record-preserved c =
    c.in_ok-put_added.ensures ∙ ap (λ xs. fold with_text xs (option_to_list (found added (action_of c.record-item.result.action)))) c.loop-record.invariant
    ∙ sym (set_more (λ (r : Record). found added (action_of r.action)) c.args.records.now c.loop-record.record-index c.record-item.result c.loop-record-test.true c.record-item.is)
