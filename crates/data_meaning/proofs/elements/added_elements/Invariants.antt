use Rattle.std.proofs.Common.{◌≡◌, take, filter_map}
use Rattle.model_history.specs.Texts.{text_set}
use Rattle.model_kinds.specs.SixKinds.{added}
use Rattle.model_meanings.specs.Growing.{found}
use Rattle.data_meaning.specs.Records.{action_of}
use Rattle.data_meaning.proofs.elements.added_elements.Given as goal

abbrev pub invariant-loop-record : goal.invariant-loop-record
invariant-loop-record l = l.elements.items ≡ text_set (filter_map (λ r. found added (action_of r.action)) (take l.record-index l.records))
