use Rattle.std.proofs.Common.{◌≡◌, take}
use Rattle.member_messages.proofs.copying.copy_digests.Given as goal

abbrev pub invariant-loop-keyed : goal.invariant-loop-keyed
invariant-loop-keyed l = l.copies ≡ take l.keyed-index l.keyed-items
