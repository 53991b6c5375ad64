use Rattle.std.proofs.Common.{◌≡◌, ℕ, ◌<◌, ◌≤◌, max, slice_index}
use Rattle.base_vectors.proofs.words.raise_between.Given as goal

abbrev pub invariant-loop-index : goal.invariant-loop-index
invariant-loop-index l = record {
  between : (i : ℕ) → l.from ≤ i → i < l.index → slice_index l.words i ≡ max (slice_index l.initial.words i) (slice_index l.others i);
  before : (i : ℕ) → i < l.from → slice_index l.words i ≡ slice_index l.initial.words i;
  after : (i : ℕ) → l.index ≤ i → slice_index l.words i ≡ slice_index l.initial.words i;
}
