use Rattle.std.proofs.Common.{◌≡◌, true}
use Rattle.std.specs.Str.{bytes_eq}
use Rattle.script_reading.specs.declared.script.ScriptKey.{ScriptKey}
use Rattle.trace_checker.proofs.ListPlaces.{found_here}
use Rattle.trace_checker.proofs.checking.place_of.Goals as goal

pub returns-then-eq-clause-place : goal.returns-then-eq-clause-place
returns-then-eq-clause-place c =
    let passes : bytes_eq c.index-keys-place.result.key c.args.name.now ≡ true = cc in
    found_here (λ (key : ScriptKey). bytes_eq key.key c.args.name.now) c.args.keys.now c.loop-place.place c.index-keys-place.result c.loop-place-test.true c.index-keys-place.is passes c.loop-place.invariant
