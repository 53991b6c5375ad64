-- The settle theorem of a script, by what its lines tell.
use Rattle.std.proofs.Common.{◌≡◌, ℕ, zero, suc, ◌≤◌, List, ◌++◌, ◌∷◌, [], refl, sym, ap, subst, ◌∙◌, None}
use Rattle.std.specs.Prelude.{slice_get, take}
use Rattle.std.specs.List.{AllByRecursion}
use Rattle.model_history.specs.Table.{identity_limit}
use Rattle.model_history.proofs.PruneLaws.{IsIn}
use Rattle.model_members.specs.DataType.{Replication}
use Rattle.model_members.specs.Node.{KeyDecl}
use Rattle.model_members.specs.World.{start, IsRun}
use Rattle.model_members.specs.Script.{Playing, ScriptStep, IsStep, Told, Answer, KeeperAnswers, opening, played, settle}
use Rattle.model_members.specs.Script.Head.{SettleHead}
use Rattle.theorem_runs.proofs.Playing.{played_is_run, no_events}
use Rattle.theorem_runs.proofs.RunViews.{same_some}
use Rattle.theorem_operations.specs.Scripts.{before_step}
use Rattle.theorem_operations.proofs.ScriptMoments.{after_step_is, lines_told, silent_before, front_steps}
use Rattle.theorem_settling.specs.Settling.{DigestsTellFrom, BlockedStays, IsSettled, settle_answer}
use Rattle.theorem_settling.specs.Scripts.{TellsSettled, DigestsTellUntil, SettlesAgree}
use Rattle.theorem_settling.proofs.Settled.{leaves_settled, sends_few, counts_blocked}

only_one : {X : Type 0} (x y : X) → IsIn (x ∷ []) y → x ≡ y
only_one x y (zero, e) = cc e
only_one x y (suc k, e) = absurd (cc e)

module _ {Kind Op Shown : Type 0} (D : Replication Kind Op Shown) (answers : KeeperAnswers) (members : ℕ) (keys : List (KeyDecl Kind)) (steps : List (ScriptStep Op)) (some : 1 ≤ members) (few : members ≤ identity_limit) (ok : AllByRecursion IsStep steps) where
  abbrev opened : Playing Kind Op Shown
  opened = opening answers members keys

  abbrev moment : ℕ → Playing Kind Op Shown
  moment = before_step D answers members keys steps

  pub run_at : (n : ℕ) → IsRun D members keys (moment n).events (moment n).world
  run_at n = played_is_run D members keys opened (take n steps) (front_steps D steps n ok) (no_events D members keys answers some few)

  module _ (n messages blocked : ℕ) (t : TellsSettled D answers members keys steps n messages blocked) where
    -- the script behind the settle, with no lines
    after_settle : moment (suc n) ≡ record (settle D (moment n)) { lines = [] }
    after_settle = after_step_is D opened steps n ScriptStep.Settle t.settles

    -- the line is that of the settle
    line_there : IsIn (settle D (moment n)).lines t.line
    line_there =
        let there = lines_told D opened steps n t.told.0 t.told.2 in
        let same : there.0 ≡ ScriptStep.Settle = same_some (slice_get steps n) there.0 ScriptStep.Settle there.1 t.settles in
        subst (λ (s : ScriptStep Op). IsIn (played D (moment n) s).lines t.line) same (subst (λ (ls : List (Told Op Shown)). IsIn ls t.line) there.2 (t.told.1, t.told.3))

    answered : settle_answer D (moment n) ≡ Answer.Settled messages blocked
    answered = ap (λ (x : Told Op Shown). x.answer) (only_one the_line t.line alone) ∙ t.answer
      where
        the_line : Told Op Shown
        the_line = record { head = SettleHead; answer = settle_answer D (moment n); posts = []; ended = None }

        alone : IsIn (the_line ∷ []) t.line
        alone = subst (λ (ls : List (Told Op Shown)). IsIn (ls ++ the_line ∷ []) t.line) (silent_before D opened (take n steps) refl) line_there

    leaves : BlockedStays D → DigestsTellUntil D answers members keys steps n → IsSettled D (moment (suc n)).world
    leaves stays tell =
        subst (λ (p : Playing Kind Op Shown). IsSettled D p.world) (sym after_settle)
        (leaves_settled D members keys (moment n) (run_at n) messages blocked answered (subst (λ (p : Playing Kind Op Shown). DigestsTellFrom D (start members keys) p.events) after_settle tell) stays)

  pub settles_agree : SettlesAgree D answers members keys steps (λ n. BlockedStays D × DigestsTellUntil D answers members keys steps n)
  settles_agree = record {
    few = λ n messages blocked t. sends_few D members keys (moment n) (run_at n) messages blocked (answered n messages blocked t);
    second_number = λ n messages blocked t. counts_blocked D members keys (moment n) (run_at n) messages blocked (answered n messages blocked t);
    settled = λ n messages blocked t premise. leaves n messages blocked t premise.0 premise.1;
  }
