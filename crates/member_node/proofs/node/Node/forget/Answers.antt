use Rattle.std.proofs.Common.{◌≤◌, List, length, ap, ◌∙◌, sym, subst}
use Rattle.member_node.proofs.Common.{known, StandForOperations}
use Rattle.member_node.specs.declared.operation.Operation.{Operation}
use Rattle.member_node.specs.Forgetting.{forgetting}
use Rattle.member_node.proofs.Forgetting.{operates_forgetting, forgotten-few, forgetting-length}
use Rattle.member_node.proofs.node.Node.forget.Goals as goal

pub invariant_of-self : goal.invariant_of-self
invariant_of-self g c =
    let old = c.args.self.now in
    let few = forgotten-few old.operations _ c.forget.new.self.forgotten c.forget.ensures.forgotten in
    record {
      few_steps = old.few_steps;
      few_limit = old.few_limit;
      few_operations = subst (λ n. n ≤ old.steps) (sym (ap length c.forget.ensures.known ∙ forgetting-length c.forget.new.self.forgotten (known old.operations) few)) old.few_operations;
      few_own = old.few_own;
      unpruned = old.unpruned;
      logged = old.logged;
      of_kinds = old.of_kinds;
      distinct = old.distinct;
    }

pub returns-clause-stands : goal.returns-clause-stands
returns-clause-stands g c = λ kinds logs node s.
    let old = c.args.self.now in
    let count = c.forget.new.self.forgotten in
    record {
      identity = s.identity;
      view = s.view;
      keys = s.keys;
      distinct = s.distinct;
      entries = s.entries;
      operations =
          subst (λ (os : List Operation). StandForOperations os (forgetting count node)) (sym c.forget.ensures.known)
          (operates_forgetting (known old.operations) node count (forgotten-few old.operations _ count c.forget.ensures.forgotten) s.operations);
      steps = s.steps;
    }
