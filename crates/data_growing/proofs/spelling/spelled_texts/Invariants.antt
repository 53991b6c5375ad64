use Rattle.std.proofs.Common.{◌≡◌, ◌++◌, length, take}
use Rattle.std.specs.List.{flat_map}
use Rattle.base_bytes.specs.Spelling.{number_spelled, text_spelled}
use Rattle.data_growing.proofs.spelling.spelled_texts.Given as goal

abbrev pub invariant-loop-text : goal.invariant-loop-text
invariant-loop-text l = l.spelled.items ≡ number_spelled (length l.texts) ++ flat_map text_spelled (take l.text-index l.texts)
