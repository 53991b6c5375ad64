use Rattle.std.proofs.Common.{◌≡◌, rules}
use Rattle.std.proofs.lemmas.Fn.{always_returns_same}
use Rattle.data_meaning.specs.declared.record.Record.{Record}
use Rattle.data_meaning.proofs.Ordered.{in_order_means}
use Rattle.data_meaning.proofs.by_kind.in_order.Goals as goal

pub returns-in-Ok : goal.returns-in-Ok
returns-in-Ok c = λ H are. record {
  history = are.history;
  listed = in_order_means H c.args.records.items _ are.listed c.sort_by_key.ensures.permutation
      (c.in-Ok.ensures.sorted (λ (r : Record). (r.origin, r.number)) (always_returns_same _ (λ a r. r ≡ (a.0.now.origin, a.0.now.number)) _ (λ a r q k. search rules)));
}
