use Rattle.std.proofs.Common.{ap, sym, ◌∙◌, subst, refl}
use Rattle.std.specs.FinMap.{get-empty}
use Rattle.std.specs.Ordering.{nat_cmp}
use Rattle.data_markers.specs.Marks.{mark_of}
use Rattle.data_envelope.proofs.Entries.{stands_empty}
use Rattle.data_envelope.proofs.Forgetting.{forgotten_none}
use Rattle.data_envelope.proofs.envelope.Envelope.new.Goals as goal

pub returns-clause-image : goal.returns-clause-image
returns-clause-image g c = λ log histories.
    stands_empty g.T.Replica.IsDataOf c.args.value c.new.result c.new-2.result log histories c.new.ensures c.new-2.ensures
    (λ gone. subst (λ v. g.T.Replica.IsDataOf v log (λ i. 0) gone) (sym c.requires.1) (g.met.T.Replica.data_empty c.requires.0 log (λ i. 0) gone (λ i. refl)))
    (λ i. ap (λ m. mark_of m i) c.new-2.ensures ∙ get-empty nat_cmp i)

pub invariant_of-result : goal.invariant_of-result
invariant_of-result g c = forgotten_none g.T.Replica.mentioned c.args.value c.new.result c.new-2.result c.new-2.ensures
