use Rattle.std.proofs.Common.{◌≡◌, ◌≤◌, take, length, vec_len, vec_capacity}
use Rattle.data_growing.proofs.elements.copied.Given as goal

abbrev pub invariant-loop-text : goal.invariant-loop-text
invariant-loop-text l = (l.all.items ≡ take l.text-index l.texts) × (vec_len l.all ≡ l.text-index) × (length l.texts ≤ vec_capacity l.all)
