-- A script on its way: what stands after some of its steps, and after one step more.
use Rattle.std.proofs.Common.{◌≡◌, ℕ, zero, suc, ◌+◌, ◌<◌, List, [], ◌∷◌, ◌++◌, length, map, flat_map, Bool, true, false, refl, sym, ap, ap₂, subst, ◌∙◌, arith, append_assoc, length-append, inl, inr, ◌⊎◌, Ok, Err}
use Rattle.std.specs.Prelude.{⊤, Result, OnOk, MatchResult, All, if◌then◌else◌, slice_get}
use Rattle.std.proofs.lemmas.List.{append-nil, map-append, length-map, get_or_append_left, get_or-append-add}
use Rattle.model_history.specs.Texts.{Text}
use Rattle.model_members.specs.DataType.{Replication}
use Rattle.model_members.specs.Node.{KeyDecl}
use Rattle.model_members.specs.View.{place_of}
use Rattle.model_members.specs.Script.{Playing, played, answers_between}
use Rattle.model_members.specs.Report.{final_block}
use Rattle.model_kinds.specs.ShownText.{shown_text}
use Rattle.model_kinds.specs.declared.kind.Kind.{Kind}
use Rattle.model_kinds.specs.declared.operation.Op.{Op}
use Rattle.model_kinds.specs.declared.shown.Shown.{Shown}
use Rattle.data_lattice.specs.declared.replica.Replica.{Ghosts}
use Rattle.data_lattice.specs.declared.spelled.SpelledData.{Ghosts as Spelling}
use Rattle.member_keeper.specs.declared.keeper.Keeper.{Ghosts as Keeping}
use Rattle.member_views.specs.Sound.{last_view}
use Rattle.member_node.specs.Steps.{replication}
use Rattle.data_codec.specs.Entries.{entry_digest}
use Rattle.theorem_runs.proofs.AgreementOverRuns.{logs_throughout}
use Rattle.theorem_sections.specs.Sections.{Line, section_lines}
use Rattle.theorem_sections.specs.Runs as runs
use Rattle.theorem_sections.specs.Runs.{plain_line, PlaysAll, line_text, lines_text}
use Rattle.script_reading.specs.declared.clients.RunStep.{RunStep}
use Rattle.script_reading.specs.declared.clients.RunStep.TheVariants.{Plain, Threads, Subscribe, Unsubscribe}
use Rattle.script_reading.specs.declared.script.Step.{Step}
use Rattle.script_reading.specs.declared.script.Step.TheVariants as form
use Rattle.script_reading.specs.Meant.{step_of}
use Rattle.world_members.specs.declared.event.Event.{Event}
use Rattle.world_members.specs.declared.world.World.{World}
use Rattle.world_places.specs.Places.{keeper_of}
use Rattle.world_places.specs.Keeping.{Given, KeepsAt}
use Rattle.world_members.specs.Steps.{Foretells, HaveAnswered, LoadsWhatItTook, Plays, Reaches}
use Rattle.world_members.specs.Threads.{run_step_of, GivesBack}
use Rattle.world_members.specs.Ways.{Means}
use Rattle.world_places.proofs.Storing.{not_called_at}
use Rattle.report_lines.specs.Finals.{IsBlockOf}
use Rattle.report_lines.specs.Lines.{event_text}
use Rattle.report_lines.specs.Run.{Lines, is_restart, until_restart, BeginsRun}
use Rattle.report_lines.specs.Telling.{AllTell, AreAllKept, LoadAll, IsLines, SetsOut, TellsStep, TellsSome, TellsSteps, PassesSteps}
use Rattle.report_lines.proofs.ClientsTold.{clients_told, plain_told}
use Rattle.report_lines.proofs.Composed.{kept_further, is_kept_further, tells_further, foretold_first, foretold_then}
use Rattle.report_lines.proofs.SectionEnds.{Quiet, all_quiet, plays_more, lines_count, text_more}

-- LISTS

module _ {X : Type 0} (P : X → Type 0) where
  pub all_front : (xs ys : List X) → All P (xs ++ ys) → All P xs
  all_front xs ys all k d less =
      let longer : k < length (xs ++ ys) = let n = length-append xs ys in omega (arith, n, less) in
      subst P (get_or_append_left xs ys d k less) (all k d longer)

  pub all_last : (xs : List X) (y : X) → All P (xs ++ y ∷ []) → P y
  all_last xs y all =
      let longer : length xs + 0 < length (xs ++ y ∷ []) = let n = length-append xs (y ∷ []) in omega (arith, n) in
      subst P (get_or-append-add xs (y ∷ []) 0 y) (all (length xs + 0) y longer)

  pub all_more : (xs : List X) (y : X) → All P xs → P y → All P (xs ++ y ∷ [])
  all_more [] y all here zero d less = here
  all_more [] y all here (suc k) d less = absurd (omega (arith, less))
  all_more (x ∷ xs) y all here zero d less = all zero d (omega arith)
  all_more (x ∷ xs) y all here (suc k) d less = all_more xs y (λ k d less. all (suc k) d (omega (arith, less))) here k d (omega (arith, less))

  pub all_cons : (x : X) (xs : List X) → P x → All P xs → All P (x ∷ xs)
  all_cons x xs here all zero d less = here
  all_cons x xs here all (suc k) d less = all k d (omega (arith, less))

-- THE STEPS BEFORE THE FIRST RESTART

abbrev pub IsCalm : RunStep → Type 0
IsCalm step = is_restart step ≡ false

abbrev CalmSoFar : List RunStep → RunStep → Type 0
CalmSoFar done step = All IsCalm done × (until_restart done ≡ done) × (until_restart (done ++ step ∷ []) ≡ done ++ until_restart (step ∷ []))

-- no restart so far, or the first ones stay the first
until_more : (done : List RunStep) (step : RunStep) → CalmSoFar done step ⊎ (until_restart (done ++ step ∷ []) ≡ until_restart done)
until_more [] step = inl (λ k d less. absurd (omega (arith, less)), refl, refl)
until_more (s ∷ done) step = by_test (is_restart s) refl (until_more done step)
  where
    by_test : (b : Bool) → is_restart s ≡ b → CalmSoFar done step ⊎ (until_restart (done ++ step ∷ []) ≡ until_restart done)
        → (All IsCalm (s ∷ done) × ((if b then [] else s ∷ until_restart done) ≡ s ∷ done) × ((if b then [] else s ∷ until_restart (done ++ step ∷ [])) ≡ s ∷ done ++ until_restart (step ∷ []))) ⊎ ((if b then [] else s ∷ until_restart (done ++ step ∷ [])) ≡ (if b then [] else s ∷ until_restart done))
    by_test true is later = inr refl
    by_test false is (inl none) = inl (all_cons IsCalm s done is none.0, ap (λ ss. s ∷ ss) none.1, ap (λ ss. s ∷ ss) none.2)
    by_test false is (inr same) = inr (ap (λ ss. s ∷ ss) same)

-- what is written after the lines leaves their beginning
pub begins_longer : (D : Replication Kind Op Shown) (p : Playing Kind Op Shown) (steps : List RunStep) (text block text' : List ℕ) → text' ≡ text ++ block → BeginsRun D p steps text → BeginsRun D p steps text'
begins_longer D p steps text block text' grown begun =
    record {
      lines = begun.lines;
      last = begun.last;
      rest = begun.rest ++ block;
      plays = begun.plays;
      told = grown ∙ ap (λ t. t ++ block) begun.told ∙ append_assoc (lines_text shown_text 1 begun.lines) begun.rest block;
    }

-- WHAT A STEP LOADS

module _ {T K Delta : Type 0} {ghosts : Ghosts T Kind Op Delta} {keeping : Keeping K} (spelling : Spelling T Kind Op Delta) where
  pub loads_told : (step : Step) (world : World T K Kind Op Delta ghosts keeping) → AllTell world → LoadsWhatItTook spelling step world
  loads_told (form.Ask at ask) world tell = tt
  loads_told (form.Deliver from to index) world tell = tt
  loads_told (form.Lose from to) world tell = tt
  loads_told form.Round world tell = tt
  loads_told (form.Timeout at op) world tell = tt
  loads_told (form.Remove id) world tell = tt
  loads_told (form.Join place) world tell = tt
  loads_told (form.Restart id) world tell = tell (place_of (last_view world.views) id)
  loads_told form.Settle world tell = tt

  pub loads_nothing : (step : Step) (world : World T K Kind Op Delta ghosts keeping) → IsCalm (Plain step) → LoadsWhatItTook spelling step world
  loads_nothing (form.Ask at ask) world calm = tt
  loads_nothing (form.Deliver from to index) world calm = tt
  loads_nothing (form.Lose from to) world calm = tt
  loads_nothing form.Round world calm = tt
  loads_nothing (form.Timeout at op) world calm = tt
  loads_nothing (form.Remove id) world calm = tt
  loads_nothing (form.Join place) world calm = tt
  loads_nothing (form.Restart id) world calm = absurd (cc calm)
  loads_nothing form.Settle world calm = tt

module _ {T K Delta : Type 0} {ghosts : Ghosts T Kind Op Delta} {keeping : Keeping K} (spelling : Spelling T Kind Op Delta) where
  -- KEEPERS AND LINES

  -- what keepers gave, and what they gave further on
  pub all_kept : (old new : World T K Kind Op Delta ghosts keeping) (given : Given) → ((place : ℕ) → KeepsAt keeping (given place) (keeper_of old.nodes.items old.spare.items place) (keeper_of new.nodes.items new.spare.items place)) → AreAllKept old new
  all_kept old new given kept place = record { answers = given place; keeps = kept place }

  pub kept_further_on : (old mid new : World T K Kind Op Delta ghosts keeping) (given : Given) → ((place : ℕ) → KeepsAt keeping (given place) (keeper_of old.nodes.items old.spare.items place) (keeper_of mid.nodes.items mid.spare.items place)) → AreAllKept mid new → AreAllKept old new
  kept_further_on old mid new given kept further place =
      is_kept_further keeping (given place) (keeper_of old.nodes.items old.spare.items place) (keeper_of mid.nodes.items mid.spare.items place) (keeper_of new.nodes.items new.spare.items place) (kept place) (further place)

  -- lines are no part of what a world means
  pub means_silent : (kinds : Text → Kind) (members : ℕ) (decls : List (KeyDecl Kind)) (p : Playing Kind Op Shown) (world : World T K Kind Op Delta ghosts keeping) → Means spelling kinds members decls p world → Means spelling kinds members decls (record p { lines = [] }) world
  means_silent kinds members decls p world means = record { run = means.run; stands = λ logs all. means.stands logs (record { histories = all.histories; logged = all.logged }) }

  -- A STEP OF EITHER FORM

  abbrev LoadsAt : RunStep → World T K Kind Op Delta ghosts keeping → Type 0
  LoadsAt (Plain step) world = LoadsWhatItTook spelling step world
  LoadsAt _ world = Unit {0}

  -- where a script may go on by a step
  record GoesOn (n : ℕ) (step : RunStep) (new : World T K Kind Op Delta ghosts keeping) (text text' : List ℕ) (given : Given) (kinds : Text → Kind) (members : ℕ) (decls : List (KeyDecl Kind)) (q : Playing Kind Op Shown) : Type 0 where
    pub lines : List (Line Op Shown)
    pub last : Playing Kind Op Shown
    pub plays : runs.Plays (replication ghosts spelling) q (run_step_of step) lines last
    pub means : Means spelling kinds members decls last new
    pub calls : HaveAnswered q last given
    pub told : text' ≡ text ++ flat_map (line_text shown_text n) lines

  record Goes (n : ℕ) (step : RunStep) (mid new : World T K Kind Op Delta ghosts keeping) (text text' : List ℕ) : Type 0 where
    pub given : Given
    pub kept : (place : ℕ) → KeepsAt keeping (given place) (keeper_of mid.nodes.items mid.spare.items place) (keeper_of new.nodes.items new.spare.items place)
    pub grows : (more : List ℕ) × (text' ≡ text ++ more)
    pub goes : LoadsAt step mid → (kinds : Text → Kind) (members : ℕ) (decls : List (KeyDecl Kind)) (q : Playing Kind Op Shown) → q.lines ≡ [] → Means spelling kinds members decls q mid → Foretells q given
        → GoesOn n step new text text' given kinds members decls q

  goes_of : (n : ℕ) (step : RunStep) (mid new : World T K Kind Op Delta ghosts keeping) (text text' : List ℕ) → TellsStep spelling n step mid new text text' → Goes n step mid new text text'
  goes_of n (Plain step) mid new text text' tells =
      record {
        given = tells.1.given;
        kept = tells.1.kept;
        grows = (_, tells.2);
        goes = λ load kinds members decls q none means foretold.
            let D = replication ghosts spelling in
            let reaches = (tells.1.does load).1 kinds members decls q means foretold in
            let same : (played D q (step_of step)).lines ≡ reaches.lines.0 = reaches.lines.1 ∙ ap (λ ls. ls ++ reaches.lines.0) none in
            record {
              lines = map plain_line (played D q (step_of step)).lines;
              last = record (played D q (step_of step)) { lines = [] };
              plays = (refl, refl);
              means = means_silent kinds members decls (played D q (step_of step)) new reaches.means;
              calls = reaches.calls;
              told = tells.2 ∙ ap (λ t. text ++ t) (plain_told D n tells.0 reaches.lines.0 reaches.lines.2 ∙ ap (λ ls. flat_map (line_text shown_text n) (map plain_line ls)) (sym same));
            };
      }
  goes_of n (Threads clients) mid new text text' tells =
      record {
        given = tells.1.given;
        kept = tells.1.kept;
        grows = (_, tells.2);
        goes = λ load kinds members decls q none means foretold.
            let ends = tells.1.leads kinds members decls q means foretold in
            record {
              lines = section_lines ends.end;
              last = ends.end.playing;
              plays = (ends.moves, ends.end, ends.section, refl, refl);
              means = ends.means;
              calls = ends.calls;
              told = tells.2 ∙ ap (λ t. text ++ t) (clients_told n tells.0 (section_lines ends.end) ends.told);
            };
      }
  goes_of n (Subscribe at client key) mid new text text' tells = absurd tells
  goes_of n (Unsubscribe at client key) mid new text text' tells = absurd tells

  -- STAGES

  pub first_steps : (world : World T K Kind Op Delta ghosts keeping) (text : List ℕ) → text ≡ [] → TellsSteps spelling [] world world text
  first_steps world text none =
      record {
        given = λ place. [];
        kept = λ place. not_called_at keeping (keeper_of world.nodes.items world.spare.items place);
        begun = λ kinds members decls p sets. record { lines = []; last = p; rest = []; plays = (refl, refl); told = none };
        whole = λ load kinds members decls p sets. record { lines = []; last = p; plays = (refl, refl); told = none; means = sets.means; calls = λ place. omega arith };
      }

  module _ (done : List RunStep) (step : RunStep) (n : ℕ) (number : n ≡ suc (length done)) (old mid new : World T K Kind Op Delta ghosts keeping) (text text' : List ℕ) (stage : TellsSteps spelling done old mid text) (goes : Goes n step mid new text text') where
    given_then : Given
    given_then place = stage.given place ++ goes.given place

    kept_then : (place : ℕ) → KeepsAt keeping (given_then place) (keeper_of old.nodes.items old.spare.items place) (keeper_of new.nodes.items new.spare.items place)
    unfolding given_then
    kept_then place = kept_further keeping (stage.given place) (goes.given place) (keeper_of old.nodes.items old.spare.items place) (keeper_of mid.nodes.items mid.spare.items place) (keeper_of new.nodes.items new.spare.items place) (stage.kept place) (goes.kept place)

    loads_before : LoadAll (done ++ step ∷ []) old → LoadAll done old
    loads_before (inl tell) = inl tell
    loads_before (inr none) = inr (all_front IsCalm done (step ∷ []) none)

    loads_at : (s : RunStep) → LoadAll (done ++ s ∷ []) old → LoadsAt s mid
    loads_at (Plain s) (inl tell) = loads_told spelling s mid (λ place. tells_further keeping (stage.given place) (keeper_of old.nodes.items old.spare.items place) (keeper_of mid.nodes.items mid.spare.items place) (stage.kept place) (tell place))
    loads_at (Plain s) (inr none) = loads_nothing spelling s mid (all_last IsCalm done (Plain s) none)
    loads_at (Threads clients) load = tt
    loads_at (Subscribe at client key) load = tt
    loads_at (Unsubscribe at client key) load = tt

    module _ (kinds : Text → Kind) (members : ℕ) (decls : List (KeyDecl Kind)) (p : Playing Kind Op Shown) (sets : SetsOut spelling kinds members decls p given_then old) where
      sets_before : SetsOut spelling kinds members decls p stage.given old
      unfolding given_then
      sets_before = record { means = sets.means; silent = sets.silent; foretold = λ place. foretold_first p.answers place (p.calls place) (stage.given place) (goes.given place) (sets.foretold place) }

      module _ (some : TellsSome spelling kinds members decls p stage.given IsLines done mid text) (load : LoadsAt step mid) where
        quiet : Quiet (replication ghosts spelling) p.answers some.last
        quiet = all_quiet (replication ghosts spelling) p.answers p some.last (map run_step_of done) some.lines some.plays (sets.silent, refl)

        foretold_now : Foretells some.last goes.given
        unfolding given_then
        foretold_now place =
            ap₂ (λ answers c. answers_between answers place c (c + length (goes.given place))) quiet.1 (some.calls place)
            ∙ foretold_then p.answers place (p.calls place) (stage.given place) (goes.given place) (sets.foretold place)

        next : GoesOn n step new text text' goes.given kinds members decls some.last
        next = goes.goes load kinds members decls some.last quiet.0 some.means foretold_now

        some_then : TellsSome spelling kinds members decls p given_then IsLines (done ++ step ∷ []) new text'
        unfolding given_then
        some_then =
            let D = replication ghosts spelling in
            let count : 1 + length some.lines ≡ n = let a = lines_count D p some.last (map run_step_of done) some.lines some.plays in let b = length-map done run_step_of in omega (arith, a, b, number) in
            record {
              lines = some.lines ++ next.lines ∷ [];
              last = next.last;
              plays = subst (λ ss. PlaysAll D p ss (some.lines ++ next.lines ∷ []) next.last) (sym (map-append run_step_of done (step ∷ []))) (plays_more D p some.last next.last (map run_step_of done) (run_step_of step) some.lines next.lines some.plays next.plays);
              told = next.told ∙ ap (λ t. t ++ flat_map (line_text shown_text n) next.lines) some.told
                  ∙ sym (text_more shown_text 1 some.lines next.lines ∙ ap (λ k. lines_text shown_text 1 some.lines ++ flat_map (line_text shown_text k) next.lines) count);
              means = next.means;
              calls = λ place.
                  let a = some.calls place in
                  let b = next.calls place in
                  let c = length-append (stage.given place) (goes.given place) in
                  omega (arith, a, b, c);
            }

      whole_then : LoadAll (done ++ step ∷ []) old → TellsSome spelling kinds members decls p given_then IsLines (done ++ step ∷ []) new text'
      whole_then load = some_then (stage.whole (loads_before load) kinds members decls p sets_before) (loads_at step load)

      begins_then : BeginsRun (replication ghosts spelling) p (done ++ step ∷ []) text'
      begins_then = by_cases (until_more done step)
        where
          by_test : All IsCalm done → until_restart (done ++ step ∷ []) ≡ done ++ until_restart (step ∷ []) → (b : Bool) → is_restart step ≡ b → BeginsRun (replication ghosts spelling) p (done ++ step ∷ []) text'
          by_test calm same true is =
              let some = stage.whole (inr calm) kinds members decls p sets_before in
              let first : until_restart (done ++ step ∷ []) ≡ done = same ∙ ap (λ b. done ++ (if b then [] else step ∷ [])) is ∙ append-nil done in
              record {
                lines = some.lines;
                last = some.last;
                rest = goes.grows.0;
                plays = subst (λ ss. PlaysAll (replication ghosts spelling) p (map run_step_of ss) some.lines some.last) (sym first) some.plays;
                told = goes.grows.1 ∙ ap (λ t. t ++ goes.grows.0) some.told;
              }
          by_test calm same false is =
              let some = whole_then (inr (all_more IsCalm done step calm is)) in
              let first : until_restart (done ++ step ∷ []) ≡ done ++ step ∷ [] = same ∙ ap (λ b. done ++ (if b then [] else step ∷ [])) is in
              record {
                lines = some.lines;
                last = some.last;
                rest = [];
                plays = subst (λ ss. PlaysAll (replication ghosts spelling) p (map run_step_of ss) some.lines some.last) (sym first) some.plays;
                told = some.told ∙ sym (append-nil (lines_text shown_text 1 some.lines));
              }

          by_cases : CalmSoFar done step ⊎ (until_restart (done ++ step ∷ []) ≡ until_restart done) → BeginsRun (replication ghosts spelling) p (done ++ step ∷ []) text'
          by_cases (inl calm) = by_test calm.0 calm.2 (is_restart step) refl
          by_cases (inr same) =
              let begun = stage.begun kinds members decls p sets_before in
              record {
                lines = begun.lines;
                last = begun.last;
                rest = begun.rest ++ goes.grows.0;
                plays = subst (λ ss. PlaysAll (replication ghosts spelling) p (map run_step_of ss) begun.lines begun.last) (sym same) begun.plays;
                told = goes.grows.1 ∙ ap (λ t. t ++ goes.grows.0) begun.told ∙ append_assoc (lines_text shown_text 1 begun.lines) begun.rest goes.grows.0;
              }

    one_more : TellsSteps spelling (done ++ step ∷ []) old new text'
    one_more = record { given = given_then; kept = kept_then; begun = begins_then; whole = λ load kinds members decls p sets. whole_then kinds members decls p sets load }

  -- one step more
  pub next_steps : (done : List RunStep) (step : RunStep) (n : ℕ) → n ≡ suc (length done) → (old mid new : World T K Kind Op Delta ghosts keeping) (text text' : List ℕ) → TellsSteps spelling done old mid text → TellsStep spelling n step mid new text text'
      → TellsSteps spelling (done ++ step ∷ []) old new text'
  next_steps done step n number old mid new text text' stage tells = one_more done step n number old mid new text text' stage (goes_of n step mid new text text' tells)

  -- of what is written in the end, some run tells
  pub ends_some : (says : Lines → Playing Kind Op Shown → List ℕ → Type 0) (steps : List RunStep) (old new : World T K Kind Op Delta ghosts keeping) (text block text' : List ℕ) (tells : TellsSteps spelling steps old new text) → IsBlockOf spelling new block
      → ((lines : Lines) (last : Playing Kind Op Shown) → IsLines lines last text → block ≡ final_block (replication ghosts spelling) shown_text last.world → says lines last text')
      → LoadAll steps old → (kinds : Text → Kind) (members : ℕ) (decls : List (KeyDecl Kind)) (p : Playing Kind Op Shown) → SetsOut spelling kinds members decls p tells.given old → TellsSome spelling kinds members decls p tells.given says steps new text'
  ends_some says steps old new text block text' tells told so load kinds members decls p sets =
      let D = replication ghosts spelling in
      let some = tells.whole load kinds members decls p sets in
      let logs = logs_throughout D members decls some.last.events some.last.world some.means.run in
      let is = told (entry_digest spelling.history_byte spelling.history_spelled) kinds logs.0 some.last.world (some.means.stands logs.0 (record { histories = logs.1.last.histories; logged = logs.1.throughout })) in
      record {
        lines = some.lines;
        last = some.last;
        plays = some.plays;
        told = so some.lines some.last some.told is;
        means = some.means;
        calls = some.calls;
      }

  -- STEPS OF WHICH NOTHING IS TOLD

  pub first_passed : (world : World T K Kind Op Delta ghosts keeping) → PassesSteps spelling [] world world
  first_passed world = ([], first_steps world [] refl)

  pub next_passed : (done : List RunStep) (step : Step) (n : ℕ) → n ≡ suc (length done) → (old mid new : World T K Kind Op Delta ghosts keeping) (events : List Event) → PassesSteps spelling done old mid → Plays spelling step mid new events → PassesSteps spelling (done ++ Plain step ∷ []) old new
  next_passed done step n number old mid new events passes plays =
      let text' = passes.0 ++ flat_map (event_text n) events in
      (text', next_steps done (Plain step) n number old mid new passes.0 text' passes.1 (events, plays, refl))

  -- where a script stands that goes on by a step of which nothing is told
  pub record GoesFurther (done : List RunStep) (step : Step) (old mid new : World T K Kind Op Delta ghosts keeping) (events : List Event) (passes : PassesSteps spelling done old mid) (plays : Plays spelling step mid new events) (kinds : Text → Kind) (members : ℕ) (decls : List (KeyDecl Kind)) (p : Playing Kind Op Shown) : Type 0 where
    pub sets : SetsOut spelling kinds members decls p passes.1.given old
    pub load : LoadAll done old
    pub some : TellsSome spelling kinds members decls p passes.1.given IsLines done mid passes.0
    pub silent : some.last.lines ≡ []
    pub reaches : Reaches spelling kinds members decls some.last (played (replication ghosts spelling) some.last (step_of step)) plays.given new events

  pub goes_further : (done : List RunStep) (step : Step) (n : ℕ) (number : n ≡ suc (length done)) (old mid new : World T K Kind Op Delta ghosts keeping) (events : List Event) (passes : PassesSteps spelling done old mid) (plays : Plays spelling step mid new events)
      → LoadAll (done ++ Plain step ∷ []) old → (kinds : Text → Kind) (members : ℕ) (decls : List (KeyDecl Kind)) (p : Playing Kind Op Shown) → SetsOut spelling kinds members decls p (next_passed done step n number old mid new events passes plays).1.given old
      → GoesFurther done step old mid new events passes plays kinds members decls p
  unfolding next_passed next_steps one_more goes_of
  goes_further done step n number old mid new events passes plays load kinds members decls p sets =
      let text' = passes.0 ++ flat_map (event_text n) events in
      let goes = goes_of n (Plain step) mid new passes.0 text' (events, plays, refl) in
      let before = sets_before done (Plain step) n number old mid new passes.0 text' passes.1 goes kinds members decls p sets in
      let load_before = loads_before done (Plain step) n number old mid new passes.0 text' passes.1 goes load in
      let loads = loads_at done (Plain step) n number old mid new passes.0 text' passes.1 goes (Plain step) load in
      let some = passes.1.whole load_before kinds members decls p before in
      record {
        sets = before;
        load = load_before;
        some = some;
        silent = (quiet done (Plain step) n number old mid new passes.0 text' passes.1 goes kinds members decls p sets some loads).0;
        reaches = (plays.does loads).1 kinds members decls some.last some.means (foretold_now done (Plain step) n number old mid new passes.0 text' passes.1 goes kinds members decls p sets some loads);
      }

  -- WHAT CALLS TELL

  pub on_lines : {E : Type 0} (r : Result ⊤ E) (n : ℕ) (step : Step) (old new : World T K Kind Op Delta ghosts keeping) (events : List Event) (before after : List ℕ) → Plays spelling step old new events → OnOk r (after ≡ before ++ flat_map (event_text n) events)
      → MatchResult r (λ _. TellsStep spelling n (Plain step) old new before after) (λ _. AreAllKept old new)
  on_lines (Ok u) n step old new events before after plays told = (events, plays, told)
  on_lines (Err e) n step old new events before after plays told = λ place. record { answers = plays.given place; keeps = plays.kept place }

module _ {T K Delta : Type 0} {ghosts : Ghosts T Kind Op Delta} {keeping : Keeping K} where
  -- what keepers gave, and what they gave until they came back
  pub back_further : (old new : World T K Kind Op Delta ghosts keeping) (keepers : List K) → AreAllKept old new → GivesBack new keepers → GivesBack old keepers
  back_further old new keepers kept gives place =
      is_kept_further keeping (kept place).answers (keeper_of old.nodes.items old.spare.items place) (keeper_of new.nodes.items new.spare.items place) (slice_get keepers place) (kept place).keeps (gives place)
