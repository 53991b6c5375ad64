-- What is taken from a log is a history: so is what each running member holds of a key.
use Rattle.std.proofs.Common.{◌≡◌, ℕ, zero, suc, List, [], refl, ◌∙◌, ap}
use Rattle.std.specs.Prelude.{take}
use Rattle.model_history.specs.Log.{IsTakenFrom}
use Rattle.model_history.specs.History.{Record, History, at, IsHistory}
use Rattle.model_history.proofs.PartLaws.{in_whole}
use Rattle.model_members.specs.World.{World}
use Rattle.theorem_runs.specs.Logs.{HasLogs, AllHaveHistories}
use Rattle.model_history.specs.Texts.{Text}

none_taken : (X : Type 0) (n : ℕ) → ◌≡◌ {A = List X} (take n []) []
none_taken X zero = refl
none_taken X (suc n) = refl

pub taken_is_history : {Op : Type 0} (log H : History Op) → IsHistory log → IsTakenFrom log H → IsHistory H
taken_is_history {Op} log H whole taken = record {
  within = λ i far. taken.part i ∙ ap (take (at H i)) (whole.within i far) ∙ none_taken (Record Op) (at H i);
  closed = λ i k r has. taken.closed i k r has;
  numbered = λ i k r has. whole.numbered i k r (in_whole H log taken.part i k r has);
  transitive = λ i k j m r s has has' before. whole.transitive i k j m r s (in_whole H log taken.part i k r has) (in_whole H log taken.part j m s has') before;
}

pub all_have : {Kind Op Shown : Type 0} (logs : Text → History Op) (world : World Kind Op Shown) → HasLogs logs world → AllHaveHistories world
all_have logs world has = λ i node key runs. taken_is_history (logs key) (node.entries key).history (has.histories key) (has.held i node key runs)
