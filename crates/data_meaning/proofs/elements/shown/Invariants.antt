use Rattle.std.proofs.Common.{◌≡◌, take, filter}
use Rattle.data_meaning.specs.Touching.{is_shown}
use Rattle.data_meaning.proofs.elements.shown.Given as goal

abbrev pub invariant-loop-element : goal.invariant-loop-element
invariant-loop-element l = l.shown.items ≡ filter (is_shown l.records) (take l.element-index l.elements)
