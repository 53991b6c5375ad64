use Rattle.std.proofs.Common.{◌≡◌, map, string_bytes}
use Rattle.base_vectors.specs.IdSets.{members_in}
use Rattle.report_texts.proofs.Ranges.{member_words}
use Rattle.report_texts.proofs.marks.members.Given as goal

abbrev pub invariant-loop-number : goal.invariant-loop-number
invariant-loop-number l = map string_bytes l.texts ≡ member_words (members_in l.set) l.number
