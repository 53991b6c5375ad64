use Rattle.std.proofs.Common.{◌≤◌, length, ap, sym, ◌∙◌, arith}
use Rattle.std.specs.FinMap as map
use Rattle.base_vectors.specs.Vectors.{number_at}
use Rattle.base_vectors.proofs.Laws.{number_at-empty}
use Rattle.trace_checker.proofs.ListPlaces.{place_past}
use Rattle.trace_checker.proofs.key_history.KeyHistory.number_of.Goals as goal

pub returns-in-None-clause-value : goal.returns-in-None-clause-value
returns-in-None-clause-value c =
    let same = ap length c.deref.ensures.value in
    let past : length c.args.self.now.held.items ≤ c.args.at = omega (arith, c.in-None.ensures.lookup.3, same, c.from.ensures, c.number.ensures.value) in
    sym (ap (λ v. number_at v c.args.id) (place_past map.empty c.args.self.now.held.items c.args.at past) ∙ number_at-empty c.args.id)
