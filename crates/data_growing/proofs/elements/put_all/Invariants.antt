use Rattle.std.proofs.Common.{◌≡◌, ◌≤◌, ◌+◌, ◌-◌, ◌++◌, take, length, vec_len, vec_capacity}
use Rattle.model_history.specs.Texts.{text_set}
use Rattle.data_growing.proofs.elements.put_all.Given as goal

abbrev pub invariant-loop-text : goal.invariant-loop-text
invariant-loop-text l = (l.texts.items ≡ text_set (l.fn.texts.items ++ take l.text-index l.others)) × (vec_len l.texts + (length l.others - l.text-index) ≤ vec_capacity l.texts)
