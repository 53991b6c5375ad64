use Rattle.std.proofs.Common.{refl, ap, ◌∙◌}
use Rattle.base_vectors.specs.Vectors.{Numbers, raised}
use Rattle.trace_checker.specs.Rows.{vector_of}
use Rattle.trace_checker.proofs.Recording.{on_ok, added_so}
use Rattle.trace_checker.proofs.key_history.KeyHistory.add.Goals as goal

pub returns : goal.returns
returns c = on_ok c.put_vector.result _ _ (λ put. added_so c.args.self.now _ c.args.at c.args.number c.args.action c.in_ok-past.past c.raise.new.self c.as_slice-2.result.now
    (c.in_ok-past.ensures ∙ ap (λ held. vector_of held c.args.at) c.as_slice.ensures.value) c.in_ok-now.ensures.normal c.as_slice-2.ensures.value c.in_ok-push_row.ensures
    (c.in_ok-raise.ensures.ok ∙ ap (λ (v : Numbers). raised v c.args.at c.args.number) c.in_ok-now.ensures.same) put refl refl c.in_ok-keep.ensures) c.put_vector.ensures
