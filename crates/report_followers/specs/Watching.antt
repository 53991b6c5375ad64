-- A script whose clients follow keys on its way: what a step adds to the text, and what stands after some steps.
--     TellsAfter        the lines of a step that was played, and of what it tells
--     WatchesStep        a step was played, and its lines were added
--     WatchesSteps        these steps were
use Rattle.std.specs.Prelude.{◌≡◌, ℕ, List, [], ◌∷◌, ◌++◌, flat_map}
use Rattle.std.specs.List.{AllZip}
use Rattle.model_history.specs.Texts.{Text}
use Rattle.model_members.specs.Node.{KeyDecl}
use Rattle.model_members.specs.Script.{Playing}
use Rattle.model_kinds.specs.declared.kind.Kind.{Kind}
use Rattle.model_kinds.specs.declared.operation.Op.{Op}
use Rattle.model_kinds.specs.declared.shown.Shown.{Shown}
use Rattle.data_lattice.specs.declared.replica.Replica.{Ghosts}
use Rattle.data_lattice.specs.declared.spelled.SpelledData.{Ghosts as Spelling}
use Rattle.member_keeper.specs.declared.keeper.Keeper.{Ghosts as Keeping}
use Rattle.member_node.specs.Steps.{replication}
use Rattle.script_reading.specs.declared.clients.RunStep.{RunStep}
use Rattle.script_reading.specs.declared.clients.RunStep.TheVariants as form
use Rattle.theorem_watching.specs.Watching.{Watching, after_flush, all_lines, beginning, flushed_by, notices_after, of_running, watch_line_text, watch_text, watched_all}
use Rattle.world_members.specs.declared.event.Event.{Event}
use Rattle.world_members.specs.declared.world.World.{World}
use Rattle.world_places.specs.Keeping.{Given, KeepsAt}
use Rattle.world_members.specs.Lines.{IsLine}
use Rattle.world_places.specs.Places.{keeper_of}
use Rattle.world_members.specs.Steps.{Foretells, HaveAnswered, LoadsWhatItTook}
use Rattle.world_desks.specs.declared.desks.Desks.{Desks}
use Rattle.world_desks.specs.Watched.{Means}
use Rattle.report_lines.specs.Lines.{event_text}
use Rattle.report_lines.specs.Telling.{LoadAll, SetsOut}
use Rattle.report_followers.specs.Steps.{watch_steps}

-- subscriptions end with their member
abbrev pub ended_with_members : {Kind : Type 0} → Watching Kind Op → Watching Kind Op
ended_with_members w = record w { desks = of_running w.playing.world w.desks }

module _ {T K Kind Delta : Type 0} {ghosts : Ghosts T Kind Op Delta} {keeping : Keeping K} (spelling : Spelling T Kind Op Delta) where
  -- the events are added, and what is told where a script was just played so
  pub record IsTold (n : ℕ) (events : List Event) (world : World T K Kind Op Delta ghosts keeping) (new : Desks) (before after : List ℕ) (kinds : Text → Kind) (members : ℕ) (decls : List (KeyDecl Kind)) (w : Watching Kind Op) : Type 0 where
    pub told : after ≡ before ++ flat_map (event_text n) events ++ flat_map (watch_line_text (replication ghosts spelling) n) (notices_after ghosts.data_type (ended_with_members w) (flushed_by w.playing.lines))
    pub means : Means spelling kinds members decls (after_flush ghosts.data_type (ended_with_members w) (flushed_by w.playing.lines)) world new

  -- wherever a script is whose last lines are these events
  abbrev pub TellsAfter : ℕ → List Event → World T K Kind Op Delta ghosts keeping → (old new : Desks) → (before after : List ℕ) → Type 0
  TellsAfter n events world old new before after =
      (kinds : Text → Kind) (members : ℕ) (decls : List (KeyDecl Kind)) (w : Watching Kind Op) → Means spelling kinds members decls w world old → AllZip IsLine events w.playing.lines → IsTold n events world new before after kinds members decls w

-- ONE STEP

module _ {T K Delta : Type 0} {ghosts : Ghosts T Kind Op Delta} {keeping : Keeping K} (spelling : Spelling T Kind Op Delta) where
  -- what the step loads is what was stored
  abbrev pub LoadsAt : RunStep → World T K Kind Op Delta ghosts keeping → Type 0
  LoadsAt (form.Plain step) world = LoadsWhatItTook spelling step world
  LoadsAt _ world = Unit {0}

  -- the script goes on by the step, and the text by its lines
  pub record GoesOn (n : ℕ) (steps : List RunStep) (given : Given) (new : World T K Kind Op Delta ghosts keeping) (desks : Desks) (before after : List ℕ) (kinds : Text → Kind) (members : ℕ) (decls : List (KeyDecl Kind)) (w : Watching Kind Op) : Type 0 where
    pub means : Means spelling kinds members decls (watched_all (replication ghosts spelling) w (watch_steps steps)) new desks
    pub silent : (watched_all (replication ghosts spelling) w (watch_steps steps)).playing.lines ≡ []
    pub answers : (watched_all (replication ghosts spelling) w (watch_steps steps)).playing.answers ≡ w.playing.answers
    pub calls : HaveAnswered w.playing (watched_all (replication ghosts spelling) w (watch_steps steps)).playing given
    pub told : after ≡ before ++ watch_text (replication ghosts spelling) n (all_lines (replication ghosts spelling) w (watch_steps steps))

  -- The keepers gave some answers, and wherever a script is, silent, and with these to come, it goes on so by the step
  pub record WatchesStep (n : ℕ) (step : RunStep) (old new : World T K Kind Op Delta ghosts keeping) (desks desks' : Desks) (before after : List ℕ) : Type 0 where
    pub given : Given
    pub kept : (place : ℕ) → KeepsAt keeping (given place) (keeper_of old.nodes.items old.spare.items place) (keeper_of new.nodes.items new.spare.items place)
    pub goes : LoadsAt step old → (kinds : Text → Kind) (members : ℕ) (decls : List (KeyDecl Kind)) (w : Watching Kind Op) → w.playing.lines ≡ [] → Means spelling kinds members decls w old desks → Foretells w.playing given
        → GoesOn n (step ∷ []) given new desks' before after kinds members decls w

  -- The same of these steps from the first on, if what they load is what was stored
  pub record WatchesSteps (steps : List RunStep) (old new : World T K Kind Op Delta ghosts keeping) (desks : Desks) (text : List ℕ) : Type 0 where
    pub given : Given
    pub kept : (place : ℕ) → KeepsAt keeping (given place) (keeper_of old.nodes.items old.spare.items place) (keeper_of new.nodes.items new.spare.items place)
    pub whole : LoadAll steps old → (kinds : Text → Kind) (members : ℕ) (decls : List (KeyDecl Kind)) (p : Playing Kind Op Shown) → SetsOut spelling kinds members decls p given old
        → GoesOn 1 steps given new desks [] text kinds members decls (beginning p)
