use Rattle.std.proofs.Common.{sym, subst}
use Rattle.model_traces.specs.Traces.{recorded}
use Rattle.base_vectors.specs.Vectors.{number_at}
use Rattle.data_meaning.specs.Records.{action_of}
use Rattle.trace_values.specs.Elements.{StandForElements}
use Rattle.trace_values.proofs.Keeping.{on_ok}
use Rattle.trace_values.proofs.ElementLaws.{operation_stand, prune_stand}
use Rattle.trace_values.proofs.sets.push_elements.Goals as goal

pub returns-in-Operation : goal.returns-in-Operation
returns-in-Operation c = on_ok c.keep_operation.result _ _ (λ kept made H stands rows history taken own past_is number_is.
    subst (λ a. StandForElements c.keep_operation.new.elements.items (recorded made c.args.id H (action_of a))) (sym c.in-Operation.is)
    (operation_stand made H history taken c.args.id c.requires own c.in-Operation.op c.args.number number_is c.args.elements.now.items _ stands kept)) c.keep_operation.ensures

pub returns-in-Prune : goal.returns-in-Prune
returns-in-Prune c = on_ok c.keep_prune.result _ _ (λ marked made H stands rows history taken own past_is number_is.
    subst (λ a. StandForElements c.keep_prune.new.elements.items (recorded made c.args.id H (action_of a))) (sym c.in-Prune.is)
    (prune_stand made H history taken c.args.id c.requires own c.in-Prune.removed c.number-known.ensures.range c.args.number number_is c.args.elements.now.items _ stands c.args.rows.now rows (number_at c.args.past.now) past_is marked)) c.keep_prune.ensures
