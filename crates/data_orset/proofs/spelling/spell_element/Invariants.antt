use Rattle.std.proofs.Common.{◌≡◌, ◌++◌}
use Rattle.std.specs.List.{flat_map}
use Rattle.data_orset.specs.Elements.{dot_spelled}
use Rattle.data_orset.proofs.Passes.{dots_from}
use Rattle.data_orset.proofs.spelling.spell_element.Given as goal

abbrev pub invariant-loop-index : goal.invariant-loop-index
invariant-loop-index l = l.into.items ++ flat_map dot_spelled (dots_from l.dots l.index l.end) ≡ l.initial.into.items ++ flat_map dot_spelled (dots_from l.dots l.start l.end)
