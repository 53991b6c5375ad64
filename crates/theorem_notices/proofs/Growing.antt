-- What a running member holds is part of what it holds later.
use Rattle.std.proofs.Common.{◌≡◌, ℕ, ◌≤◌, List, [], ◌∷◌, ◌++◌, Some, ap, sym, ◌∙◌, subst, arith, ◌⊎◌, inl, inr}
use Rattle.model_history.specs.Texts.{Text}
use Rattle.model_history.specs.History.{IsPartOf}
use Rattle.model_history.proofs.PartLaws.{part_trans}
use Rattle.model_members.specs.DataType.{Replication}
use Rattle.model_members.specs.Node.{KeyDecl, Node}
use Rattle.model_members.specs.World.{World, Event, IsRun, AreLawful, start, run, happens}
use Rattle.model_members.specs.Script.{Playing, ScriptStep, IsStep, played}
use Rattle.theorem_runs.proofs.Growth.{part_same}
use Rattle.theorem_runs.proofs.Playing.{step_is_run, played_appends}
use Rattle.theorem_runs.proofs.Safety.{runs_are_safe}
use Rattle.theorem_operations.proofs.Moments.{run_append, lawful_rest, run_pushed}
use Rattle.theorem_traces.proofs.Events.{Ran, ran, given_grows}
use Rattle.theorem_traces.proofs.Events.Ran.{RanBefore, IsNew}

module _ {Kind Op Shown : Type 0} (D : Replication Kind Op Shown) (members : ℕ) (keys : List (KeyDecl Kind)) where
  -- who runs in the second world ran in the first with part of what it holds, or is new
  pub record IsLater (world next : World Kind Op Shown) : Type 0 where
    pub given : world.view.given ≤ next.view.given
    pub behind : (t : ℕ) (new : Node Kind Op Shown) → next.nodes t ≡ Some new
        → (world.view.given ≤ t) ⊎ ((old : Node Kind Op Shown) × (world.nodes t ≡ Some old) × ((key : Text) → IsPartOf (old.entries key).history (new.entries key).history))

  later : (events : List (Event Op)) (world : World Kind Op Shown) → IsRun D members keys events world → (rest : List (Event Op)) → AreLawful D world rest → IsLater world (run D world rest)
  later events world is_run [] lawful = record { given = omega arith; behind = λ t new runs. inr (new, runs, λ key. part_same (new.entries key).history) }
  later events world is_run (event ∷ rest) lawful =
      let more = later (events ++ event ∷ []) (happens D world event) (run_pushed D members keys events world event is_run lawful.0) rest lawful.1 in
      let grows = given_grows D members keys events world is_run event lawful.0 in
      record {
        given = (let a = more.given in omega (arith, a, grows));
        behind = λ t new runs. elim (more.behind t new runs) [
          | inl late ↦ inl (omega (arith, late, grows))
          | inr old ↦ go t new old.0 old.2 (ran D members keys events world is_run event lawful.0 t old.0 old.1)
        ];
      }
    where
      go : (t : ℕ) (new old : Node Kind Op Shown) → ((key : Text) → IsPartOf (old.entries key).history (new.entries key).history) → Ran D members keys events world is_run event lawful.0 t old
          → (world.view.given ≤ t) ⊎ ((first : Node Kind Op Shown) × (world.nodes t ≡ Some first) × ((key : Text) → IsPartOf (first.entries key).history (new.entries key).history))
      go t new old part (RanBefore first was grown) = inr (first, was, λ key. part_trans (first.entries key).history (old.entries key).history (new.entries key).history (grown key) (part key))
      go t new old part (IsNew late) = inl late

  module _ (p : Playing Kind Op Shown) (step : ScriptStep Op) (ok : IsStep step) (is_run : IsRun D members keys p.events p.world) where
    step_later : IsLater p.world (played D p step).world
    step_later =
        let appends = played_appends D p step ok in
        let then_run = step_is_run D members keys p step ok is_run in
        let lawful : AreLawful D (start members keys) (p.events ++ appends.0) = subst (AreLawful D (start members keys)) appends.1 then_run.lawful in
        let rest : AreLawful D p.world appends.0 = subst (λ (w : World Kind Op Shown). AreLawful D w appends.0) (sym is_run.leads) (lawful_rest D (start members keys) p.events appends.0 lawful) in
        let leads : (played D p step).world ≡ run D p.world appends.0 =
        then_run.leads ∙ ap (run D (start members keys)) appends.1 ∙ run_append D (start members keys) p.events appends.0 ∙ ap (λ (w : World Kind Op Shown). run D w appends.0) (sym is_run.leads) in
        subst (IsLater p.world) (sym leads) (later p.events p.world is_run appends.0 rest)

    -- a member that runs before a step of a script, and after it
    pub part_after_step : (t : ℕ) (old new : Node Kind Op Shown) → p.world.nodes t ≡ Some old → (played D p step).world.nodes t ≡ Some new → (key : Text) → IsPartOf (old.entries key).history (new.entries key).history
    part_after_step t old new was runs key = elim (step_later.behind t new runs) [
      | inl late ↦ absurd (
          let views = (runs_are_safe D members keys p.events p.world is_run).views in
          let below = views.views.below p.world.view.number p.world.view t views.views.listed (views.running t old was).last in
          omega (arith, late, below))
      | inr first ↦
          let same : old ≡ first.0 = (let e : Some old ≡ Some first.0 = sym was ∙ first.1 in cc e) in
          subst (λ (n : Node Kind Op Shown). IsPartOf (n.entries key).history (new.entries key).history) (sym same) (first.2 key)
    ]
