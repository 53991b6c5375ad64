-- What a recorder sees of a step, and of the end of a run.
use Rattle.std.proofs.Common.{◌≡◌, ℕ, List, ◌++◌, flat_map, refl, sym, ap, subst, ◌∙◌, Ok, Err}
use Rattle.std.specs.Prelude.{OnOk, Result}
use Rattle.model_history.specs.Texts.{Text}
use Rattle.model_history.specs.History.{History}
use Rattle.model_members.specs.DataType.{Replication}
use Rattle.model_members.specs.Node.{KeyDecl}
use Rattle.model_members.specs.World as worlds
use Rattle.model_members.specs.Script.{Playing}
use Rattle.model_kinds.specs.ShownText.{shown_text}
use Rattle.model_kinds.specs.declared.kind.Kind.{Kind}
use Rattle.model_kinds.specs.declared.operation.Op.{Op}
use Rattle.model_kinds.specs.declared.shown.Shown.{Shown}
use Rattle.data_lattice.specs.declared.replica.Replica.{Ghosts}
use Rattle.data_lattice.specs.declared.spelled.SpelledData.{Ghosts as Spelling}
use Rattle.member_keeper.specs.declared.keeper.Keeper.{Ghosts as Keeping}
use Rattle.member_node.specs.Steps.{replication}
use Rattle.theorem_runs.proofs.AgreementOverRuns.{logs_throughout}
use Rattle.script_reading.specs.declared.script.Step.{Step}
use Rattle.script_reading.specs.Meant.{step_of}
use Rattle.world_members.specs.declared.event.Event.{Event}
use Rattle.world_members.specs.declared.world.World.{World}
use Rattle.world_members.specs.Standing.{StandsForWorld}
use Rattle.world_members.specs.Ways.{Means}
use Rattle.model_traces.specs.Runs.{of_members}
use Rattle.trace_told.specs.Seen.{held_line, records_seen, gets_seen, step_seen}
use Rattle.trace_recorder.specs.declared.recorder.Recorder.{Recorder}
use Rattle.trace_entries.specs.declared.entries.Look.TheVariants.{Held, Shown as Showing}
use Rattle.trace_entries.specs.Seeing.{Sees, looked_at}
use Rattle.trace_entries.proofs.SeenLines.{sees_both}
use Rattle.trace_members.specs.Watching.{made_seen, got_seen, SeesStep, SeesEnd}
use Rattle.trace_members.proofs.SeenSteps.{all_made, all_got}

module _ {T K Delta : Type 0} {ghosts : Ghosts T Kind Op Delta} {keeping : Keeping K} (spelling : Spelling T Kind Op Delta) where
  -- in logs that hold the whole way, the world stands for where a script is
  pub in_logs : {X : Type 0} (kinds : Text → Kind) (members : ℕ) (decls : List (KeyDecl Kind)) (p : Playing Kind Op Shown) (code : World T K Kind Op Delta ghosts keeping) → Means spelling kinds members decls p code
      → ((logs : Text → History Op) → StandsForWorld spelling kinds logs code p.world → X) → X
  in_logs kinds members decls p code means use_it =
      let logs = logs_throughout (replication ghosts spelling) members decls p.events p.world means.run in
      use_it logs.0 (means.stands logs.0 (record { histories = logs.1.last.histories; logged = logs.1.throughout }))

  pub sees_step : (step : Step) (new : World T K Kind Op Delta ghosts keeping) (events : List Event) (before a b after : Recorder)
      → Sees before a (flat_map (λ (e : Event). made_seen step e.answer) events)
      → ((D : Replication Kind Op Shown) (kinds : Text → Kind) (logs : Text → History Op) (now : worlds.World Kind Op Shown) → D.data_type ≡ ghosts.data_type → StandsForWorld spelling kinds logs new now → Sees a b (of_members (looked_at D Held) now))
      → Sees b after (flat_map (λ (e : Event). got_seen step e.answer) events)
      → SeesStep spelling step new events before after
  sees_step step new events before a b after records held gets kinds members decls p q means silent lines =
      let D = replication ghosts spelling in
      let told = lines.0 in
      let is : q.lines ≡ told = lines.1 ∙ ap (λ ls. ls ++ told) silent in
      let R = records_seen (step_of step) told in
      let H = of_members held_line q.world in
      let G = gets_seen D shown_text (step_of step) told in
      let middle : Sees a b H = in_logs kinds members decls q new means (λ logs stands. held D kinds logs q.world refl stands) in
      subst (λ ls. Sees before after (step_seen D shown_text (step_of step) q.world ls)) (sym is)
      (sees_both before b after (R ++ H) G (sees_both before a b R H (subst (Sees before a) (all_made step events told lines.2) records) middle) (subst (Sees b after) (all_got D step events told lines.2) gets))

  pub sees_end : (world : World T K Kind Op Delta ghosts keeping) (before after : Recorder)
      → ((D : Replication Kind Op Shown) (kinds : Text → Kind) (logs : Text → History Op) (now : worlds.World Kind Op Shown) → D.data_type ≡ ghosts.data_type → StandsForWorld spelling kinds logs world now → Sees before after (of_members (looked_at D Showing) now))
      → SeesEnd spelling world before after
  sees_end world before after shown kinds members decls p means = in_logs kinds members decls p world means (λ logs stands. shown (replication ghosts spelling) kinds logs p.world refl stands)

  -- where it is so on the way that went well
  pub sees_end_ok : {A E : Type 0} (r : Result A E) (world : World T K Kind Op Delta ghosts keeping) (before after : Recorder)
      → ((D : Replication Kind Op Shown) (kinds : Text → Kind) (logs : Text → History Op) (now : worlds.World Kind Op Shown) → D.data_type ≡ ghosts.data_type → StandsForWorld spelling kinds logs world now → OnOk r (Sees before after (of_members (looked_at D Showing) now)))
      → OnOk r (SeesEnd spelling world before after)
  sees_end_ok (Ok a) world before after shown = sees_end world before after shown
  sees_end_ok (Err e) world before after shown = tt
