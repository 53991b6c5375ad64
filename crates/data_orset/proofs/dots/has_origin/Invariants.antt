use Rattle.std.proofs.Common.{◌≡◌, drop, nat_eq}
use Rattle.std.specs.List.{list_any}
use Rattle.data_orset.proofs.dots.has_origin.Given as goal

abbrev pub invariant-loop-index : goal.invariant-loop-index
invariant-loop-index l = list_any (λ p. nat_eq p.origin l.id) (drop l.index l.dots) ≡ list_any (λ p. nat_eq p.origin l.id) l.dots
