-- The headline over the six kinds, where digests are the SHA-1 of spellings.
use Rattle.std.proofs.Common.{ℕ, ◌≤◌, List, suc, refl}
use Rattle.std.specs.List.{AllByRecursion}
use Rattle.model_history.specs.Table.{identity_limit}
use Rattle.model_members.specs.Node.{KeyDecl}
use Rattle.model_members.specs.Script.{KeeperAnswers, Playing, opening}
use Rattle.model_members.specs.World.{start}
use Rattle.model_kinds.specs.declared.kind.Kind.{Kind}
use Rattle.model_kinds.specs.declared.operation.Op.{Op}
use Rattle.model_kinds.specs.declared.shown.Shown.{Shown}
use Rattle.data_value.specs.DataSpelled.{history_byte, history_spelled}
use Rattle.theorem_runs.proofs.Playing.{no_events}
use Rattle.theorem_sections.specs.Runs.{RunStep, IsRunStep, PlaysAll}
use Rattle.theorem_client_operations.specs.Seen.{stands_before}
use Rattle.theorem_client_operations.proofs.SeenMoments.{before_runs}
use Rattle.theorem_digests.specs.Digests.{DistinctDigests}
use Rattle.theorem_digests.proofs.ByDigests.{distinct_tell}
use Rattle.theorem_digests.proofs.FewRecords.{makes_few}
use Rattle.theorem_headline.specs.Headline.{TheHeadline}
use Rattle.theorem_headline.proofs.HeadlineOfRuns.{headline}
use Rattle.top_call.specs.EachRun.{Lines, six}
use Rattle.top_call.proofs.EachRun.{six_stays}

pub headline_of_six : (answers : KeeperAnswers) (members : ℕ) (keys : List (KeyDecl Kind)) (steps : List (RunStep Op)) → 1 ≤ members → members ≤ identity_limit → AllByRecursion IsRunStep steps
    → (lines : Lines) (last : Playing Kind Op Shown) (plays : PlaysAll six (opening answers members keys) steps lines last)
    → TheHeadline six answers members keys steps lines last plays (DistinctDigests six history_byte history_spelled (start members keys))
headline_of_six answers members keys steps some few ok lines last plays =
    let h = headline six six_stays answers members keys steps some few ok lines last plays in
    record {
      is_run = h.is_run;
      histories = h.histories;
      pruned = h.pruned;
      meanings = h.meanings;
      alike = h.alike;
      reads = h.reads;
      settled = λ n messages blocked tells.
          let leaves = h.settled n messages blocked tells in
          let after = stands_before six (opening answers members keys) steps lines last plays (suc n) in
          let is_run = before_runs six members keys (opening answers members keys) steps lines last plays ok (no_events six members keys answers some few) (suc n) in
          record {
            few = leaves.few;
            second_number = leaves.second_number;
            settled = λ distinct. leaves.settled (distinct_tell six (makes_few six refl) history_byte history_spelled refl members keys after.events after.world is_run distinct);
          };
      calls = h.calls;
      refused = h.refused;
    }
