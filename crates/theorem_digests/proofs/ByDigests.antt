-- Digests that are distinct tell entries apart, and so settles leave settled worlds.
use Rattle.std.proofs.Common.{◌≡◌, ℕ, suc, ◌≤◌, List, sym, ap, ◌∙◌}
use Rattle.std.specs.List.{AllByRecursion}
use Rattle.model_history.specs.Table.{identity_limit}
use Rattle.model_history.specs.History.{History}
use Rattle.model_members.specs.Entry.{Entry}
use Rattle.model_members.specs.DataType.{Replication}
use Rattle.model_members.specs.Node.{KeyDecl}
use Rattle.model_members.specs.World.{World, Event, start, IsRun}
use Rattle.model_members.specs.Script.{ScriptStep, IsStep, KeeperAnswers}
use Rattle.theorem_runs.proofs.Safety.{run_before}
use Rattle.theorem_operations.specs.Scripts.{before_step}
use Rattle.theorem_settling.specs.Settling.{DigestsTellFrom, BlockedStays}
use Rattle.theorem_settling.proofs.SettlesOfScripts.{run_at, settles_agree}
use Rattle.data_codec.specs.Entries.{entry_spelled, entry_digest}
use Rattle.theorem_digests.specs.Digests.{MakesFewSteps, DistinctDigests, SettlesAgreeByDigests}
use Rattle.theorem_digests.proofs.Telling.{spelled_alike}

-- digests that are the spellings themselves tell entries apart in every run
pub spelled_whole_tell : {Kind Op Shown : Type 0} (D : Replication Kind Op Shown) → MakesFewSteps D → (byte_of : Kind → History Op → ℕ) (history_spelled : Kind → History Op → List ℕ) → D.digest ≡ entry_spelled byte_of history_spelled
    → (members : ℕ) (keys : List (KeyDecl Kind)) (events : List (Event Op)) (world : World Kind Op Shown) → IsRun D members keys events world → DigestsTellFrom D (start members keys) events
spelled_whole_tell {Kind} {Op} D few_steps byte_of history_spelled same members keys events world is_run before rest way i j a b decl ra rb declared digests =
    spelled_alike D few_steps byte_of history_spelled members keys before _ (run_before D members keys events before rest world way is_run) i j a b decl ra rb
    (ap (λ (f : Kind → Entry Op → List ℕ). f decl.kind (a.entries decl.name)) (sym same) ∙ digests ∙ ap (λ (f : Kind → Entry Op → List ℕ). f decl.kind (b.entries decl.name)) same)

module _ {Kind Op Shown : Type 0} (D : Replication Kind Op Shown) (few_steps : MakesFewSteps D) (byte_of : Kind → History Op → ℕ) (history_spelled : Kind → History Op → List ℕ) (same : D.digest ≡ entry_digest byte_of history_spelled) where
  pub distinct_tell : (members : ℕ) (keys : List (KeyDecl Kind)) (events : List (Event Op)) (world : World Kind Op Shown) → IsRun D members keys events world
      → DistinctDigests D byte_of history_spelled (start members keys) events → DigestsTellFrom D (start members keys) events
  unfolding entry_digest
  distinct_tell members keys events world is_run distinct before rest way i j a b decl ra rb declared digests =
      spelled_alike D few_steps byte_of history_spelled members keys before _ (run_before D members keys events before rest world way is_run) i j a b decl ra rb
      (distinct.throughout before rest way i j a b decl ra rb declared
      (ap (λ (f : Kind → Entry Op → List ℕ). f decl.kind (a.entries decl.name)) (sym same) ∙ digests ∙ ap (λ (f : Kind → Entry Op → List ℕ). f decl.kind (b.entries decl.name)) same))

  pub agree_by_digests : BlockedStays D → (answers : KeeperAnswers) (members : ℕ) (keys : List (KeyDecl Kind)) (steps : List (ScriptStep Op)) → 1 ≤ members → members ≤ identity_limit → AllByRecursion IsStep steps
      → SettlesAgreeByDigests D byte_of history_spelled answers members keys steps
  agree_by_digests stays answers members keys steps some few ok =
      let agree = settles_agree D answers members keys steps some few ok in
      let moment = before_step D answers members keys steps in
      record {
        few = agree.few;
        second_number = agree.second_number;
        settled = λ n messages blocked told distinct.
            agree.settled n messages blocked told (stays, distinct_tell members keys (moment (suc n)).events (moment (suc n)).world (run_at D answers members keys steps some few ok (suc n)) distinct);
      }
