-- Three members, of which one leaves, and a settle, by hand.
use Rattle.std.proofs.Common.{ℕ, List, [], None, Some, refl, arith}
use Rattle.std.specs.Prelude.{slice_get}
use Rattle.model_members.specs.Script.{Told, none_fails, opening, lines_of}
use Rattle.model_members.specs.Script.Head.{RoundHead}
use Rattle.model_members.specs.Script.Answer.{Nothing}
use Rattle.theorem_operations.specs.Borders.{small_keys}
use Rattle.theorem_operations.specs.Scripts.{before_step}
use Rattle.theorem_settling.specs.Settling.{BlockedStays}
use Rattle.theorem_settling.specs.Scripts.{TellsSettled, DigestsTellUntil}
use Rattle.theorem_settling.proofs.SettlesOfScripts.{run_at}
use Rattle.base_vectors.specs.Spelling.{pairs_of, ids_spelled}
use Rattle.base_vectors.specs.IdSets.{member_count}
use Rattle.data_codec.specs.Entries.{entry_spelled}
use Rattle.theorem_digests.specs.Borders.{spelled_whole, left_and_settled, HasPruned, SettlePremises}
use Rattle.theorem_digests.proofs.ByDigests.{spelled_whole_tell}
use Rattle.theorem_digests.proofs.FewRecords.{makes_few}

abbrev lines_told : List (Told (Unit {0}) ℕ)
lines_told = elim (slice_get (lines_of spelled_whole (opening none_fails 3 small_keys) left_and_settled) 4) [ None ↦ [] | Some lines ↦ lines ]

abbrev line_told : Told (Unit {0}) ℕ
line_told = elim (slice_get lines_told 0) [ None ↦ record { head = RoundHead; answer = Nothing; posts = []; ended = None } | Some line ↦ line ]

tells_settled : TellsSettled spelled_whole none_fails 3 small_keys left_and_settled 4 9 0
unfolding entry_spelled pairs_of ids_spelled member_count
tells_settled = record { settles = refl; line = line_told; told = (lines_told, 0, refl, refl); answer = refl }

blocked_stays : BlockedStays spelled_whole
blocked_stays kind owner r other entry apart blocked = absurd (cc blocked)

digests_tell : DigestsTellUntil spelled_whole none_fails 3 small_keys left_and_settled 4
digests_tell =
    spelled_whole_tell spelled_whole (makes_few spelled_whole refl) (λ kind H. 1) (λ kind H. []) refl 3 small_keys (before_step spelled_whole none_fails 3 small_keys left_and_settled 5).events (before_step spelled_whole none_fails 3 small_keys left_and_settled 5).world
    (run_at spelled_whole none_fails 3 small_keys left_and_settled (omega arith) (omega arith) (tt, (tt, (tt, (tt, (tt, tt))))) 5)

has_pruned : HasPruned
unfolding entry_spelled pairs_of ids_spelled member_count
has_pruned = refl

pub settle_premises : SettlePremises
settle_premises = (tells_settled, blocked_stays, digests_tell, has_pruned)
