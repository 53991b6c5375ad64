use Rattle.std.proofs.Common.{◌∙◌, ap, sym, arith}
use Rattle.trial_data.proofs.member.Member.new.Goals as goal

pub invariant_of-result : goal.invariant_of-result
invariant_of-result g c = record {
  own = ap (λ log. log.origin) c.new-3.ensures.value;
  kind = ap (λ log. log.kind) c.new-3.ensures.value
      ∙ sym (ap g.T.Replica.kind_of (c.new.ensures.value ∙ c.in_ok-empty.ensures) ∙ g.met.T.Replica.kind_empty c.args.kind);
  last = ap (λ log. log.last) c.new-3.ensures.value;
  few = omega arith;
}
