use Rattle.std.proofs.Common.{◌≡◌, ◌-◌, None}
use Rattle.data_growing.specs.Reading.{texts_in}
use Rattle.data_growing.proofs.Loop.{with_front, last_of}
use Rattle.data_growing.proofs.spelling.read_texts.Given as goal

abbrev pub invariant-loop : goal.invariant-loop
invariant-loop l = with_front l.texts.items (texts_in (l.count - l.counter) (last_of l.texts.items) l.rest) ≡ texts_in l.count None l.bytes
