use Rattle.theorem_runs.proofs.Safety.{runs_are_safe}
use Rattle.theorem_runs.proofs.SameShown.{same_history, same_reply, same_shown, as_many}
use Rattle.theorem_runs.proofs.laws.same_taken_same_shown.Goals as goal

pub returns-clause-history : goal.returns-clause-history
returns-clause-history g c = λ D members keys events world is_run i j a b key runs same. same_history D _ _ (runs_are_safe D members keys events world is_run) i j a b runs.0 runs.1 key same

pub returns-clause-records : goal.returns-clause-records
returns-clause-records g c = λ D members keys events world is_run i j a b key runs theirs ours.
    same_history D _ _ (runs_are_safe D members keys events world is_run) i j a b runs.0 runs.1 key (as_many (a.entries key).history (b.entries key).history ours theirs)

pub returns-clause-replies : goal.returns-clause-replies
returns-clause-replies g c = λ D members keys events world is_run i j a b key fate runs same. same_reply D _ _ (runs_are_safe D members keys events world is_run) i j a b runs.0 runs.1 key fate same

pub returns-clause-shown : goal.returns-clause-shown
returns-clause-shown g c = λ D members keys events world is_run i j a b key runs same. same_shown D _ _ (runs_are_safe D members keys events world is_run) i j a b runs.0 runs.1 key same
