use Rattle.std.proofs.Common.{All, take}
use Rattle.base_bytes.specs.Spelling.{IsText}
use Rattle.data_growing.proofs.spelling.room.Given as goal

abbrev pub invariant-loop-text : goal.invariant-loop-text
invariant-loop-text l = All IsText (take l.text-index l.texts)
