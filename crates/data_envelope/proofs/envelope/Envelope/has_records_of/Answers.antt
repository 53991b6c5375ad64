use Rattle.std.proofs.Common.{◌≤◌, sym, subst₂}
use Rattle.base_vectors.specs.Vectors.{number_at}
use Rattle.data_envelope.specs.Words.{parts_of}
use Rattle.data_envelope.proofs.Reading.{unmarked, covered_counts}
use Rattle.data_envelope.proofs.envelope.Envelope.has_records_of.Goals as goal

pub returns-then-are_unmarked : goal.returns-then-are_unmarked
returns-then-are_unmarked g c = record {
  image = λ log mine theirs s t.
      let none = c.are_unmarked.ensures.0 c.if-are_unmarked.true in
      let both = covered_counts g.T.Replica.IsDataOf (parts_of c.args.self.now) (parts_of c.args.other.now) log mine theirs s t (unmarked c.args.self.now.markers none.0) (unmarked c.args.other.now.markers none.1) in (
        λ e. both.0 (rw (← c.self.view_is, ← c.other.view_is) (c.covers.ensures.0 e)),
        λ h. c.covers.ensures.1 (λ i. subst₂ (λ one two. number_at two.versions i ≤ number_at one.versions i) (sym c.self.view_is) (sym c.other.view_is) (both.1 h i)),
      );
}
