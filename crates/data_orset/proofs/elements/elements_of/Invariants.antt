use Rattle.std.proofs.Common.{◌≡◌, take}
use Rattle.model_history.specs.Texts.{text_set}
use Rattle.data_orset.specs.Keeping.{texts_of}
use Rattle.data_orset.proofs.elements.elements_of.Given as goal

abbrev pub invariant-loop-index : goal.invariant-loop-index
invariant-loop-index l = l.all.items ≡ text_set (texts_of (take l.index l.dots))
