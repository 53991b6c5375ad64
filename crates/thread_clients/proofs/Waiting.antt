-- What a client knows after some turns for its operation, each with a look that did not find it finished.
use Rattle.std.proofs.Common.{◌≡◌, ◌⊎◌, ℕ, ◌+◌, ◌≤◌, Option, None, refl, subst, arith, inl, inr}
use Rattle.model_kinds.specs.declared.operation.Op.{Op}
use Rattle.data_lattice.specs.declared.replica.Replica.{Ghosts as Data}
use Rattle.member_keeper.specs.declared.keeper.Keeper.{Ghosts as Keeping}
use Rattle.member_node.specs.declared.operation.Look.{Look}
use Rattle.member_node.specs.declared.operation.Look.TheVariants as look
use Rattle.member_node.specs.declared.operation.OperationResult.{OperationResult}
use Rattle.thread_cluster.specs.Knowing.{IsShownBy}
use Rattle.thread_cluster.specs.Messages.{Looks}
use Rattle.thread_clients.specs.Sessions.{Session, Meaning}
use Rattle.thread_clients.specs.Turns.{TakesOn, HasHeard, WasFull, IsHeardOrFull, IsUnfinished, HasHeardAnswers, HasFound, HasLooked, HasWaited, most_turns}
use Rattle.thread_clients.proofs.Turned.{takes_self, takes_seen, takes_trans, heard_wider, full_wider, heard_takes}

pub is_unfinished : (seen : Look) → ((result : OperationResult) → seen ≡ look.Finished result → ⊥) → IsUnfinished seen
is_unfinished look.Open other = tt
is_unfinished (look.Finished result) other = absurd (other result refl)
is_unfinished look.NoSuchOp other = tt

module _ {T K Kind Delta : Type 0} {data_of : Data T Kind Op Delta} {keeping : Keeping K} (meaning : Meaning data_of keeping) (ids : ℕ → Option ℕ) (id op : ℕ) where
  -- so far: nothing, one turn, two and more, or a turn that found a history full
  pub data Waited (turns : ℕ) (old new : Session data_of keeping) : Type 0 where
    not_yet : turns ≡ 0 → Waited turns old new
    once : turns ≡ 1 → HasHeard ids old new → Waited turns old new
    answered : HasHeardAnswers meaning ids id op old new → Waited turns old new
    full : WasFull meaning ids old new → Waited turns old new

  -- one turn more, with its look
  again : (turns : ℕ) (a b c d : Session data_of keeping) (seen : Look) → TakesOn ids a b → HasHeard ids b c → IsShownBy meaning ids id Looks op c d seen → IsUnfinished seen → Waited turns a b → Waited (turns + 1) a d
  again turns a b c d seen before heard shown unfinished (not_yet none) =
      let last = takes_seen ids c d shown.shown.sees in
      once (omega arith) (heard_wider ids a b c d before heard last)
  again turns a b c d seen before heard shown unfinished (once one first) = answered (record { asked = b; heard = c; posts = first; answers = heard; seen = seen; shown = shown; unfinished = unfinished })
  again turns a b c d seen before heard shown unfinished (answered all) =
      let later = heard_wider ids a a all.asked b (takes_self ids a) all.posts (takes_trans ids all.asked all.heard b (heard_takes ids all.asked all.heard all.answers) (takes_seen ids all.heard b all.shown.shown.sees)) in
      answered (record { asked = b; heard = c; posts = later; answers = heard; seen = seen; shown = shown; unfinished = unfinished })
  again turns a b c d seen before heard shown unfinished (full was) =
      full (full_wider meaning ids a a b d (takes_self ids a) was (takes_trans ids b c d (heard_takes ids b c heard) (takes_seen ids c d shown.shown.sees)))

  pub waited_more : (turns : ℕ) (a b c d : Session data_of keeping) (seen : Look) → TakesOn ids a b → IsHeardOrFull meaning ids b c → IsShownBy meaning ids id Looks op c d seen → IsUnfinished seen → Waited turns a b → Waited (turns + 1) a d
  waited_more turns a b c d seen before (inl heard) shown unfinished waited = again turns a b c d seen before heard shown unfinished waited
  waited_more turns a b c d seen before (inr was) shown unfinished waited = full (full_wider meaning ids a b c d before was (takes_seen ids c d shown.shown.sees))

  -- after two turns or more
  answered_or_full : (turns : ℕ) (old new : Session data_of keeping) → 2 ≤ turns → Waited turns old new → HasHeardAnswers meaning ids id op old new ⊎ WasFull meaning ids old new
  answered_or_full turns old new long (not_yet none) = absurd (omega arith)
  answered_or_full turns old new long (once one heard) = absurd (omega arith)
  answered_or_full turns old new long (answered all) = inl all
  answered_or_full turns old new long (full was) = inr was

  -- after all turns
  pub waited_long : (turns : ℕ) (old new : Session data_of keeping) → turns ≡ most_turns → HasLooked meaning ids id op old turns new → Waited turns old new → HasWaited meaning ids id op old new None
  waited_long turns old new long looked waited =
      record { looked = subst (λ (n : ℕ). HasLooked meaning ids id op old n new) long looked; waited = answered_or_full turns old new (omega (long, arith)) waited }

  -- a turn, with a look that found it finished
  pub found_now : (a b c d : Session data_of keeping) (seen : Look) (result : OperationResult) → TakesOn ids a b → IsHeardOrFull meaning ids b c → IsShownBy meaning ids id Looks op c d seen → seen ≡ look.Finished result → HasFound meaning ids id op a d result
  found_now a b c d seen result before (inl heard) shown is =
      record { before = c; heard = inl (heard_wider ids a b c c before heard (takes_self ids c)); shown = subst (IsShownBy meaning ids id Looks op c d) is shown }
  found_now a b c d seen result before (inr was) shown is =
      record { before = c; heard = inr (full_wider meaning ids a b c c before was (takes_self ids c)); shown = subst (IsShownBy meaning ids id Looks op c d) is shown }
