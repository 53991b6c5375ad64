use Rattle.base_vectors.specs.Vectors.{number_at}
use Rattle.trace_values.proofs.Keeping.{on_ok, kept_then}
use Rattle.trace_values.proofs.values.Values.keep.Goals as goal

pub returns : goal.returns
returns c = on_ok c.push_elements.result _ _ (λ kept made H stands rows history taken own past_is number_is.
    kept_then c.args.self.now _ made H c.args.id c.args.number (number_at c.args.past.now) c.args.action.now c.requires.member c.in_ok-push_sums.ensures c.in_ok-push_write.ensures stands history taken own past_is number_is
    (kept made H stands.elements rows history taken own past_is number_is)) c.push_elements.ensures
