use Rattle.script_reading.proofs.Passes.{AreLeft}
use Rattle.script_reading.proofs.named.named_in.Given as goal

abbrev pub invariant-loop-key : goal.invariant-loop-key
invariant-loop-key l = AreLeft l.key-iterator l.value l.named
