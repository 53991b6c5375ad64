use Rattle.std.proofs.Common.{rules, refl}
use Rattle.member_node.proofs.node.Node.with_limit.Goals as goal

pub returns : goal.returns
returns g c = record {
  limit_is = search rules;
  steps = refl;
  identity = refl;
  viewed = refl;
  keys = refl;
  operations = refl;
  keeper = refl;
  stands = λ kinds logs node s.
      record { identity = s.identity; view = s.view; keys = s.keys; distinct = s.distinct; entries = s.entries; operations = s.operations; steps = s.steps };
}
