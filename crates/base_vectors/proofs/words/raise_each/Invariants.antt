use Rattle.std.proofs.Common.{◌≡◌, ℕ, ◌<◌, ◌≤◌, ◌*◌, max, slice_index}
use Rattle.base_vectors.proofs.words.raise_each.Given as goal

abbrev pub invariant-loop-lane : goal.invariant-loop-lane
invariant-loop-lane l = record {
  below : (i : ℕ) → i < l.lane * 8 → slice_index l.words i ≡ max (slice_index l.initial.words i) (slice_index l.others i);
  after : (i : ℕ) → l.lane * 8 ≤ i → slice_index l.words i ≡ slice_index l.initial.words i;
}
