-- One step of a script whose clients follow keys, from what its calls tell.
use Rattle.std.proofs.Common.{◌≡◌, ℕ, List, [], ◌++◌, map, flat_map, Option, None, Some, Ok, Err, refl, sym, ap, subst, ◌∙◌, arith, append_assoc, append-nil}
use Rattle.std.specs.Prelude.{⊤, Result, OnOk, MatchResult}
use Rattle.std.specs.List.{AllZip}
use Rattle.std.proofs.lemmas.Grind.{flat_map-append}
use Rattle.std.proofs.lemmas.List.Folds.{flat_map-map}
use Rattle.model_history.specs.Texts.{Text}
use Rattle.model_members.specs.DataType.{DataType}
use Rattle.model_members.specs.Node.{KeyDecl}
use Rattle.model_members.specs.Script.{IsStep, Playing, Told, played}
use Rattle.model_kinds.specs.declared.kind.Kind.{Kind}
use Rattle.model_kinds.specs.declared.operation.Op.{Op}
use Rattle.model_kinds.specs.declared.shown.Shown.{Shown}
use Rattle.data_lattice.specs.declared.replica.Replica.{Ghosts}
use Rattle.data_lattice.specs.declared.spelled.SpelledData.{Ghosts as Spelling}
use Rattle.member_desk.specs.declared.notice.Notice.{Notice}
use Rattle.member_keeper.specs.declared.keeper.Keeper.{Ghosts as Keeping}
use Rattle.member_node.specs.Steps.{replication}
use Rattle.script_reading.specs.Meant.{step_of}
use Rattle.script_reading.specs.declared.clients.RunStep.TheVariants as form
use Rattle.script_reading.specs.declared.script.Step.{Step}
use Rattle.theorem_runs.proofs.Playing.{played_appends}
use Rattle.theorem_watching.specs.Watching.{Watching, WatchLine, WatchStep, after_flush, flushed_by, notices_after, silent, watch_line_text}
use Rattle.theorem_watching.specs.Watching.WatchLine.{PlainLine, NoticeLine}
use Rattle.theorem_watching.specs.declared.followship.Followship.{Followship}
use Rattle.world_members.specs.declared.event.Event.{Event}
use Rattle.world_members.specs.declared.world.World.{World}
use Rattle.world_members.specs.Lines.{IsLine}
use Rattle.world_places.specs.Places.{keeper_of}
use Rattle.world_members.specs.Steps.{Plays}
use Rattle.world_members.proofs.Onward.{throughout_earlier}
use Rattle.world_places.proofs.Storing.{not_called_at}
use Rattle.world_desks.specs.declared.desks.Desks.{Desks}
use Rattle.world_desks.specs.Watched.{Means, Answers, EndsWithMembers, Tells, subscribes, unsubscribes}
use Rattle.report_lines.specs.Lines.{event_text}
use Rattle.report_lines.specs.Telling.{AreAllKept}
use Rattle.report_lines.proofs.SameAnswers.{step_has}
use Rattle.report_lines.proofs.Stages.{means_silent}
use Rattle.report_lines.proofs.Told.{lines_told}
use Rattle.report_followers.specs.Lines.{subscribe_text, unsubscribe_text, notice_text}
use Rattle.report_followers.specs.Watching.{TellsAfter, WatchesStep, ended_with_members}

-- a flush's notices change nothing of what is played
module _ {Kind : Type 0} (data_type : DataType Kind Op Shown) (w : Watching Kind Op) where
  played_stays : (flushed : Option ℕ) → (after_flush data_type w flushed).playing ≡ w.playing
  played_stays None = refl
  played_stays (Some at) = refl

one_line : (line : List ℕ) → line ≡ (line ++ []) ++ []
one_line line = sym (append-nil (line ++ []) ∙ append-nil line)

module _ {T K Delta : Type 0} {ghosts : Ghosts T Kind Op Delta} {keeping : Keeping K} (spelling : Spelling T Kind Op Delta) where
  -- AFTER A STEP

  module _ (n : ℕ) (events : List Event) (world : World T K Kind Op Delta ghosts keeping) (old mid : Desks) (before between : List ℕ) (first : between ≡ before ++ flat_map (event_text n) events) (ends : EndsWithMembers spelling world old mid) where
    -- a flush that is done
    pub told_flush : (at : ℕ) (notices : List Notice) (new : Desks) (after : List ℕ) → ((told : List (Told Op Shown)) → AllZip IsLine events told → Some at ≡ flushed_by told) → Tells spelling world at notices mid new → after ≡ between ++ flat_map (notice_text n at) notices
        → TellsAfter spelling n events world old new before after
    told_flush at notices new after flushed tells grown kinds members decls w h zip =
        let D = replication ghosts spelling in
        let r = ended_with_members w in
        let is = flushed w.playing.lines zip in
        let told = tells kinds members decls r (ends kinds members decls w h) in
        record {
          told = grown ∙ ap (λ t. t ++ flat_map (notice_text n at) notices) first
              ∙ ap (λ t. before ++ flat_map (event_text n) events ++ t)
              (sym (flat_map-map (watch_line_text D n) (NoticeLine at) notices) ∙ ap (flat_map (watch_line_text D n)) (sym told.told ∙ ap (notices_after ghosts.data_type r) is));
          means = subst (λ flushed. Means spelling kinds members decls (after_flush ghosts.data_type r flushed) world new) is told.means;
        }

    -- any other step
    pub told_nothing : ((told : List (Told Op Shown)) → AllZip IsLine events told → None ≡ flushed_by told) → TellsAfter spelling n events world old mid before between
    told_nothing flushed kinds members decls w h zip =
        let D = replication ghosts spelling in
        let r = ended_with_members w in
        let is = flushed w.playing.lines zip in
        record {
          told = first ∙ sym (append-nil (before ++ flat_map (event_text n) events)) ∙ ap (λ flushed. before ++ flat_map (event_text n) events ++ flat_map (watch_line_text D n) (notices_after ghosts.data_type r flushed)) is;
          means = subst (λ flushed. Means spelling kinds members decls (after_flush ghosts.data_type r flushed) world mid) is (ends kinds members decls w h);
        }

  -- A STEP OF MEMBERS

  -- lines are no part of what the world and the desks mean
  quiet_means : (kinds : Text → Kind) (members : ℕ) (decls : List (KeyDecl Kind)) (w : Watching Kind Op) (world : World T K Kind Op Delta ghosts keeping) (desks : Desks) → Means spelling kinds members decls w world desks → Means spelling kinds members decls (silent (replication ghosts spelling) w) world desks
  quiet_means kinds members decls w world desks m =
      record {
        means = means_silent spelling kinds members decls w.playing world m.means;
        stand = λ logs through. m.stand logs (record { histories = through.histories; logged = through.logged });
      }

  pub plain_goes : (n : ℕ) (step : Step) → IsStep (step_of step) → (old new : World T K Kind Op Delta ghosts keeping) (desks desks' : Desks) (before after : List ℕ) (events : List Event) → Plays spelling step old new events → TellsAfter spelling n events new desks desks' before after
      → WatchesStep spelling n (form.Plain step) old new desks desks' before after
  plain_goes n step ok old new desks desks' before after events plays tells =
      record {
        given = plays.given;
        kept = plays.kept;
        goes = λ load kinds members decls w none h foretold.
            let D = replication ghosts spelling in
            let reaches = (plays.does load).1 kinds members decls w.playing h.means foretold in
            let q : Watching Kind Op = record { playing = played D w.playing (step_of step); desks = w.desks } in
            let same : q.playing.lines ≡ reaches.lines.0 = reaches.lines.1 ∙ ap (λ ls. ls ++ reaches.lines.0) none in
            let zip : AllZip IsLine events q.playing.lines = subst (AllZip IsLine events) (sym same) reaches.lines.2 in
            let here : Means spelling kinds members decls q new desks = record {
              means = reaches.means;
              stand = λ logs through. h.stand logs (throughout_earlier D logs members decls w.playing q.playing (played_appends D w.playing (step_of step) ok) through);
            } in
            let told = tells kinds members decls q here zip in
            let flushed = flushed_by q.playing.lines in
            let r = ended_with_members q in
            let notices : List (WatchLine Op) = notices_after ghosts.data_type r flushed in
            record {
              means = quiet_means kinds members decls (after_flush ghosts.data_type r flushed) new desks' told.means;
              silent = refl;
              answers = ap (λ (p : Playing Kind Op Shown). p.answers) (played_stays ghosts.data_type r flushed) ∙ step_has D w.playing.answers w.playing (step_of step) refl;
              calls = λ place. ap (λ (p : Playing Kind Op Shown). p.calls place) (played_stays ghosts.data_type r flushed) ∙ reaches.calls place;
              told = told.told ∙ append_assoc before (flat_map (event_text n) events) (flat_map (watch_line_text D n) notices)
                  ∙ ap (λ t. before ++ t)
                  (ap (λ t. t ++ flat_map (watch_line_text D n) notices) (lines_told D n events q.playing.lines zip ∙ sym (flat_map-map (watch_line_text D n) PlainLine q.playing.lines))
                  ∙ sym (flat_map-append (watch_line_text D n) (map PlainLine q.playing.lines) notices) ∙ sym (append-nil (flat_map (watch_line_text D n) (map PlainLine q.playing.lines ++ notices))));
            };
      }

  -- what a call tells that may want memory
  pub on_told : {E : Type 0} (r : Result ⊤ E) (n : ℕ) (step : Step) → IsStep (step_of step) → (old new : World T K Kind Op Delta ghosts keeping) (desks desks' : Desks) (before after : List ℕ) (events : List Event) → Plays spelling step old new events
      → OnOk r (TellsAfter spelling n events new desks desks' before after) → MatchResult r (λ _. WatchesStep spelling n (form.Plain step) old new desks desks' before after) (λ _. AreAllKept old new)
  on_told (Ok u) n step ok old new desks desks' before after events plays tells = plain_goes n step ok old new desks desks' before after events plays tells
  on_told (Err e) n step ok old new desks desks' before after events plays tells = λ place. record { answers = plays.given place; keeps = plays.kept place }

  pub on_request : {E : Type 0} (r : Result ⊤ E) (P : Type 0) (world : World T K Kind Op Delta ghosts keeping) → OnOk r P → MatchResult r (λ _. P) (λ _. AreAllKept world world)
  on_request (Ok u) P world h = h
  on_request (Err e) P world h = λ place. record { answers = []; keeps = not_called_at keeping (keeper_of world.nodes.items world.spare.items place) }

  -- A REQUEST

  module _ (n at client : ℕ) (key : Text) (world : World T K Kind Op Delta ghosts keeping) (desks desks' : Desks) (answer : Followship) (before after : List ℕ) where
    pub subscribe_goes : Answers spelling world (subscribes at client key) (WatchStep.Subscribe at client key) desks desks' answer → after ≡ before ++ subscribe_text n at client key answer → WatchesStep spelling n (form.Subscribe at client key) world world desks desks' before after
    subscribe_goes answers grown =
        record {
          given = λ place. [];
          kept = λ place. not_called_at keeping (keeper_of world.nodes.items world.spare.items place);
          goes = λ load kinds members decls w none h foretold.
              let is = answers kinds members decls w h in
              record {
                means = is.means;
                silent = none;
                answers = refl;
                calls = λ place. omega arith;
                told = grown ∙ ap (λ a. before ++ subscribe_text n at client key a) is.answered ∙ ap (λ t. before ++ t) (one_line (subscribe_text n at client key (subscribes at client key w)));
              };
        }

    pub unsubscribe_goes : Answers spelling world (unsubscribes at client key) (WatchStep.Unsubscribe at client key) desks desks' answer → after ≡ before ++ unsubscribe_text n at client key answer → WatchesStep spelling n (form.Unsubscribe at client key) world world desks desks' before after
    unsubscribe_goes answers grown =
        record {
          given = λ place. [];
          kept = λ place. not_called_at keeping (keeper_of world.nodes.items world.spare.items place);
          goes = λ load kinds members decls w none h foretold.
              let is = answers kinds members decls w h in
              record {
                means = is.means;
                silent = none;
                answers = refl;
                calls = λ place. omega arith;
                told = grown ∙ ap (λ a. before ++ unsubscribe_text n at client key a) is.answered ∙ ap (λ t. before ++ t) (one_line (unsubscribe_text n at client key (unsubscribes at client key w)));
              };
        }
