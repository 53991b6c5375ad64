-- The trace of a script over keepers, from what its recorder saw.
use Rattle.std.proofs.Common.{◌≡◌, ◌≢◌, ℕ, zero, suc, ◌<◌, ◌≤◌, List, [], ◌∷◌, ◌++◌, length, map, get_or, refl, sym, ap, ap₂, subst, ◌∙◌, arith, true, Some, string_bytes}
use Rattle.std.specs.Prelude.{All, AllPairs, slice_get}
use Rattle.std.specs.List.{AllByRecursion}
use Rattle.std.proofs.lemmas.List.Sorted.{All-permutation, length_permutation}
use Rattle.std.proofs.lemmas.Map.Made.{IsDistinct-from_AllPairs}
use Rattle.std.proofs.lemmas.Option.{slice_get-get_or}
use Rattle.std.proofs.lemmas.Slice.Eq.{bytes_eq-Decides}
use Rattle.model_history.specs.Texts.{Text}
use Rattle.model_members.specs.DataType.{Replication}
use Rattle.model_members.specs.Node as model
use Rattle.model_members.specs.Script.{Playing, KeeperAnswers, none_fails, opening}
use Rattle.model_kinds.specs.ShownText.{shown_text}
use Rattle.model_kinds.specs.declared.kind.Kind.{Kind}
use Rattle.model_kinds.specs.declared.operation.Op.{Op}
use Rattle.model_kinds.specs.declared.shown.Shown.{Shown}
use Rattle.data_lattice.specs.declared.replica.Replica.{Ghosts}
use Rattle.data_lattice.specs.declared.spelled.SpelledData.{Ghosts as Spelling}
use Rattle.member_keeper.specs.declared.keeper.Keeper.{Ghosts as Keeping}
use Rattle.member_node.specs.declared.key.KeyDecl.{KeyDecl}
use Rattle.member_node.specs.Members.{AreDistinct, declared}
use Rattle.member_node.specs.Steps.{replication}
use Rattle.theorem_traces.specs.Traced.{AreApart, IsTraced}
use Rattle.theorem_traces.proofs.LawfulRuns.{trace_is_lawful}
use Rattle.model_traces.specs.Traces as traces
use Rattle.model_traces.specs.Runs as runs
use Rattle.trace_text.specs.Reading as reading
use Rattle.trace_text.specs.Texts as texts
use Rattle.trace_told.specs.Seen.{steps_seen, end_seen, seen_of}
use Rattle.trace_told.proofs.Traced.{is_the_trace}
use Rattle.script_reading.specs.Fields.{is_key_name}
use Rattle.script_reading.specs.declared.clients.RunStep.{RunStep}
use Rattle.script_reading.specs.declared.clients.RunStep.TheVariants.{Plain, Threads, Subscribe, Unsubscribe}
use Rattle.script_reading.specs.declared.script.Script.{Script}
use Rattle.script_reading.specs.declared.script.ScriptKey.{ScriptKey}
use Rattle.script_reading.specs.declared.script.Step.TheVariants as form
use Rattle.script_reading.specs.Meant.{step_of}
use Rattle.script_reading.specs.WellFormed.{HasNoClients, IsWellFormed}
use Rattle.world_members.specs.declared.world.World.{World}
use Rattle.world_places.specs.Places.{keepers_of}
use Rattle.world_places.specs.Keeping.{Given}
use Rattle.report_lines.specs.declared.playing.Ending.{Ending}
use Rattle.report_lines.specs.declared.playing.Ending.TheVariants.{Told, NotCleared, Memory}
use Rattle.report_lines.specs.Kept.{answers_by, EndsOver, IsTheRun, EndsSo, IsPlayed}
use Rattle.report_lines.specs.Run.{decl_of, in_order, steps_of}
use Rattle.report_lines.specs.Telling.{IsLines, LoadAll, Opens}
use Rattle.report_lines.proofs.KeyOrder.{ordered_moves}
use Rattle.report_lines.proofs.NamedKinds.{kind_among, are_of_kinds}
use Rattle.report_lines.proofs.Runs.{model_steps, apart, over, begin, names, sets, each_kept, none_others, all_cleared, all_are_kept, unfailing, loads_all, ends_over, is_the_run}
use Rattle.trace_lines.specs.Meant.{key_meant, trace_meant}
use Rattle.trace_lines.specs.WellFormed as trace_rules
use Rattle.trace_recorder.specs.declared.recorder.Recorder.{Recorder}
use Rattle.trace_recorder.specs.Saw.{Saw, IsFormed}
use Rattle.trace_played.specs.Seeing.{TracesSteps, TellsEnd, EndsWithTrace, trace_by}
use Rattle.trace_played.specs.Traced.{HasNoSettle, IsTraceText, IsWholeTrace, IsTraceOver}
use Rattle.trace_members.proofs.SeenWorlds.{in_logs}

-- STEPS WITHOUT SETTLES

traced_steps : (steps : List RunStep) → HasNoSettle steps → AllByRecursion IsTraced (steps_of steps)
traced_steps [] none = tt
traced_steps (Threads clients ∷ steps) none = traced_steps steps (λ k d less. none (suc k) d (omega (arith, less)))
traced_steps (Subscribe at client key ∷ steps) none = traced_steps steps (λ k d less. none (suc k) d (omega (arith, less)))
traced_steps (Unsubscribe at client key ∷ steps) none = traced_steps steps (λ k d less. none (suc k) d (omega (arith, less)))
traced_steps (Plain step ∷ steps) none = (by_form step (none zero (Plain step) (omega arith)), traced_steps steps (λ k d less. none (suc k) d (omega (arith, less))))
  where
    by_form : (step : _) → Plain step ≢ Plain form.Settle → IsTraced (step_of step)
    by_form (form.Ask at ask) isnt = tt
    by_form (form.Deliver from to index) isnt = tt
    by_form (form.Lose from to) isnt = tt
    by_form form.Round isnt = tt
    by_form (form.Timeout at op) isnt = tt
    by_form (form.Remove id) isnt = tt
    by_form (form.Join place) isnt = tt
    by_form (form.Restart id) isnt = tt
    by_form form.Settle isnt = absurd (isnt refl)

-- KEYS

-- the key that a declaration is of
abbrev key_back : model.KeyDecl Kind → ScriptKey
key_back decl = record { key = decl.name; kind = decl.kind; durable = decl.durable }

keys_back : (keys : List ScriptKey) → map key_back (map key_meant keys) ≡ keys
keys_back [] = refl
keys_back (key ∷ keys) = ap (λ ks. key ∷ ks) (keys_back keys)

names_of : {T Delta : Type 0} (keys : List (KeyDecl T Kind Op Delta)) → map (λ (d : model.KeyDecl Kind). d.name) (map declared keys) ≡ map (λ (d : KeyDecl T Kind Op Delta). d.key) keys
names_of [] = refl
names_of (key ∷ keys) = ap (λ ks. key.key ∷ ks) (names_of keys)

names_meant : (keys : List ScriptKey) → map (λ (d : model.KeyDecl Kind). d.name) (map decl_of keys) ≡ map (λ (k : ScriptKey). k.key) keys
names_meant [] = refl
names_meant (key ∷ keys) = ap (λ ks. key.key ∷ ks) (names_meant keys)

get_mapped : {X Y : Type 0} (f : X → Y) (xs : List X) (k : ℕ) (d : X) → k < length xs → slice_get (map f xs) k ≡ Some (f (get_or xs k d))
get_mapped f [] k d less = absurd (omega (arith, less))
get_mapped f (x ∷ xs) zero d less = refl
get_mapped f (x ∷ xs) (suc k) d less = get_mapped f xs k d (omega (arith, less))

-- distinct names differ in pairs
pairs_apart : (keys : List ScriptKey) → AreDistinct (map (λ (k : ScriptKey). k.key) keys) → AllPairs (λ (a b : ScriptKey). a.key ≢ b.key) keys
pairs_apart keys distinct i j d less here = λ same.
    absurd (let e = distinct i j (get_or keys j d).key (get_mapped (λ (k : ScriptKey). k.key) keys i d (omega (arith, less, here)) ∙ ap Some same) (get_mapped (λ (k : ScriptKey). k.key) keys j d here) in omega (arith, less, e))

texts_apart : (names : List Text) → AreDistinct names → AllPairs (λ (a b : Text). a ≢ b) names
texts_apart names distinct i j d less here = λ same.
    absurd (let e = distinct i j (get_or names j d) (slice_get-get_or names i d (omega (arith, less, here)) ∙ ap Some same) (slice_get-get_or names j d here) in omega (arith, less, e))

module _ {T K Delta : Type 0} {ghosts : Ghosts T Kind Op Delta} {keeping : Keeping K} (spelling : Spelling T Kind Op Delta) (script : Script) (formed : IsWellFormed script) (named : All (λ (key : ScriptKey). is_key_name key.key ≡ true) script.keys) (old : List K) (first : World T K Kind Op Delta ghosts keeping) (eight : length old ≡ 8) (opens : Opens spelling script.members script.keys old first) where
  abbrev ordered_keys : List ScriptKey
  ordered_keys = in_order script.keys

  abbrev decls : List (model.KeyDecl Kind)
  decls = map decl_of ordered_keys

  apart_keys : AreDistinct (map (λ (d : KeyDecl T Kind Op Delta). d.key) opens.keys)
  apart_keys = apart spelling script formed old first eight opens

  -- the keys of the first world
  first_keys : map declared first.keys.items ≡ decls
  first_keys =
      let means = opens.starts.means (kind_among opens.keys) none_fails (are_of_kinds opens.keys apart_keys) in
      in_logs spelling (kind_among opens.keys) script.members (map declared opens.keys) (opening none_fails script.members (map declared opens.keys)) first means (λ logs stands. sym stands.keys) ∙ opens.made

  apart_names : AreDistinct (map (λ (d : model.KeyDecl Kind). d.name) decls)
  apart_names = subst AreDistinct (sym (names_of opens.keys) ∙ ap (map (λ (d : model.KeyDecl Kind). d.name)) opens.made) apart_keys

  decls_apart : AreApart decls
  decls_apart = IsDistinct-from_AllPairs bytes_eq-Decides (map (λ (d : model.KeyDecl Kind). d.name) decls) (texts_apart (map (λ (d : model.KeyDecl Kind). d.name) decls) apart_names)

  -- a recorder of the first world that has seen nothing
  pub formed_first : (code : Recorder) → Saw (map declared first.keys.items) code [] → code.lines ≡ [] → IsFormed code
  formed_first code saw none =
      let keys : code.keys ≡ ordered_keys = sym (keys_back code.keys) ∙ ap (map key_back) (saw.keys ∙ first_keys) ∙ keys_back ordered_keys in
      let moves = ordered_moves (λ (key : ScriptKey). key.key) script.keys in
      let count : length ordered_keys ≡ length script.keys = length_permutation script.keys ordered_keys moves in
      subst (λ (ks : List ScriptKey). trace_rules.IsWellFormed (record { keys = ks; lines = code.lines })) (sym keys)
      (record {
        key_count = (let a = formed.key_count.0 in omega (arith, a, count), (let a = formed.key_count.1 in omega (arith, a, count)));
        key_names = pairs_apart ordered_keys (subst AreDistinct (names_meant ordered_keys) apart_names);
        keys = All-permutation (λ (key : ScriptKey). is_key_name key.key ≡ true) script.keys ordered_keys moves named;
        lines = subst (All trace_rules.IsLine) (sym none) (λ k d less. absurd (omega (arith, less)));
      })

  module _ (plain : HasNoClients script) (unsettled : HasNoSettle script.steps) where
    abbrev D : Replication Kind Op Shown
    D = replication ghosts spelling

    -- the trace of the run, of which the recorder saw all
    traced_text : (answers : KeeperAnswers) (code : Recorder) (text : List ℕ) → Saw decls code (seen_of D shown_text answers script.members decls (steps_of script.steps)) → 1 ≤ script.members → script.members ≤ 255
        → text ≡ texts.trace_text (trace_meant (trace_by code)) → reading.Spells text (trace_by code) → IsTraceText ghosts.data_type spelling.history_byte spelling.history_spelled answers script text
    traced_text answers code text saw some few written spelled =
        let ok = model_steps script.steps formed.steps in
        let traced = traced_steps script.steps unsettled in
        let lines = saw.lines ∙ is_the_trace D shown_text script.members decls answers (steps_of script.steps) some few decls_apart ok traced in
        let is : trace_meant (trace_by code) ≡ runs.trace_of D shown_text answers script.members decls (steps_of script.steps) =
        ap₂ (λ (ks : List (model.KeyDecl Kind)) (ls : List (traces.TraceLine Op)). record { keys = ks; lines = ls }) saw.keys lines in
        record {
          trace = trace_by code;
          of_run = is;
          lawful = subst (traces.IsLawful ghosts.data_type shown_text) (sym is) (trace_is_lawful D shown_text script.members decls answers (steps_of script.steps) some few decls_apart ok traced);
          written = written;
          spelled = spelled;
        }

    module _ (new : List K) (last : World T K Kind Op Delta ghosts keeping) (before after : Recorder) (saw : Saw (map declared first.keys.items) before []) (steps : TracesSteps spelling script.steps first last before after) (back : new ≡ keepers_of last.nodes.items last.spare.items) where
      abbrev all_given : Given
      all_given = over spelling script formed old first eight opens new last back steps.passes.1.given steps.passes.1.kept

      abbrev start_of : Playing Kind Op Shown
      start_of = begin spelling script formed old first eight opens new last back steps.passes.1.given steps.passes.1.kept

      abbrev IsTrace : Script → List K → List K → List ℕ → Type 0
      IsTrace = IsTraceOver ghosts.data_type spelling.history_byte spelling.history_spelled keeping

      whole_trace : (text : List ℕ) → TellsEnd spelling last after text → LoadAll script.steps first → IsWholeTrace ghosts.data_type spelling.history_byte spelling.history_spelled keeping all_given script old new text
      whole_trace text tells load =
          let set = sets spelling script formed old first eight opens new last back steps.passes.1.given steps.passes.1.kept in
          let some = steps.passes.1.whole load (kind_among opens.keys) script.members decls start_of set in
          let run = is_the_run spelling script formed old first eight opens new last back steps.passes.1.given steps.passes.1.kept IsLines steps.passes.0 some plain in
          let ends = ends_over spelling script formed old first eight opens new last back steps.passes.1.given steps.passes.1.kept IsLines steps.passes.0 some in
          let seen = steps.sees load (kind_among opens.keys) script.members decls start_of set decls [] (subst (λ ds. Saw ds before []) first_keys saw) in
          let shown = tells.sees (kind_among opens.keys) script.members decls some.last some.means decls (steps_seen D shown_text start_of (steps_of script.steps)) seen in
          let all : Saw decls tells.after (seen_of D shown_text (answers_by all_given) script.members decls (steps_of script.steps)) =
          subst (λ (p : Playing Kind Op Shown). Saw decls tells.after (steps_seen D shown_text start_of (steps_of script.steps) ++ end_seen D shown_text p.world)) run.ends shown in
          let traced = traced_text (answers_by all_given) tells.after text all some.means.run.some some.means.run.few tells.written tells.spelled in
          record {
            traced = traced;
            over = subst (λ (p : Playing Kind Op Shown). EndsOver ghosts.data_type spelling.history_byte spelling.history_spelled keeping all_given script p old new) run.ends ends;
            run = subst (λ (p : Playing Kind Op Shown). IsTheRun ghosts.data_type spelling.history_byte spelling.history_spelled keeping (answers_by all_given) script p) run.ends run;
            unfailing = unfailing spelling script formed old first eight opens new last back steps.passes.1.given steps.passes.1.kept (λ answers. IsTraceText ghosts.data_type spelling.history_byte spelling.history_spelled answers script text) traced;
          }

      trace_over : (text : List ℕ) → TellsEnd spelling last after text → IsTrace script old new text
      trace_over text tells = record {
        given = all_given;
        kept = each_kept spelling script formed old first eight opens new last back steps.passes.1.given steps.passes.1.kept;
        others = none_others spelling script formed old first eight opens new last back steps.passes.1.given steps.passes.1.kept;
        cleared = all_cleared spelling script formed old first eight opens new last back steps.passes.1.given steps.passes.1.kept;
        begun = tt;
        whole = λ load. whole_trace text tells (loads_all spelling script formed old first eight opens new last back steps.passes.1.given steps.passes.1.kept load);
      }

      pub ends_traced : (end : Ending) → EndsWithTrace spelling last after end → IsPlayed keeping IsTrace script old new end
      ends_traced end ends = record { ends = by_end end ends; kept = all_are_kept spelling script formed old first eight opens new last back steps.passes.1.given steps.passes.1.kept }
        where
          by_end : (end : Ending) → EndsWithTrace spelling last after end → EndsSo keeping IsTrace end script old new
          by_end (Told text) tells = trace_over (string_bytes text) tells
          by_end (NotCleared place) none = absurd none
          by_end Memory ends = tt
