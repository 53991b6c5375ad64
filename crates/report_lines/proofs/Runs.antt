-- The run of a script over keepers, from what its steps tell.
use Rattle.std.proofs.Common.{◌≡◌, ℕ, zero, suc, ◌+◌, ◌<◌, ◌≤◌, List, [], ◌∷◌, ◌++◌, length, map, get_or, refl, sym, ap, ap₂, subst, ◌∙◌, arith, Bool, true, false, Option, Some, None, inl, inr, ◌⊎◌, string_bytes, append-nil, true≢false}
use Rattle.std.specs.Prelude.{All, Any, IsSome, if◌then◌else◌, is_some, not, nat_lt, slice_get}
use Rattle.std.specs.List.{AllByRecursion}
use Rattle.std.proofs.lemmas.Bool.{cases_lt}
use Rattle.std.proofs.lemmas.Bool.Decides.{nat_tests}
use Rattle.std.proofs.lemmas.Option.{get_or_from_slice_get, slice_get-get_or}
use Rattle.model_history.specs.Texts.{Text}
use Rattle.model_history.specs.History.{History}
use Rattle.model_history.specs.Table.{identity_limit}
use Rattle.model_history.proofs.PruneLaws.{IsIn}
use Rattle.model_members.specs.DataType.{DataType, Replication}
use Rattle.model_members.specs.Node as model
use Rattle.model_members.specs.Script.{Playing, KeeperAnswers, IsStep, opening, played_all, lines_of, answers_between, none_fails}
use Rattle.model_members.specs.Report.{steps_text, final_block}
use Rattle.theorem_runs.proofs.AgreementOverRuns.{logs_throughout}
use Rattle.theorem_operations.proofs.QuorumOfScripts.{gets_include}
use Rattle.theorem_digests.proofs.ByDigests.{agree_by_digests}
use Rattle.theorem_digests.proofs.FewRecords.{makes_few}
use Rattle.theorem_sections.specs.Runs as runs
use Rattle.theorem_sections.specs.Runs.{plain_line, PlaysAll, HasReport, lines_text}
use Rattle.theorem_sections.proofs.PlainScripts.{plain_plays, is_report, same_text}
use Rattle.model_kinds.specs.ShownText.{shown_text}
use Rattle.model_kinds.specs.declared.kind.Kind.{Kind}
use Rattle.model_kinds.specs.declared.operation.Op.{Op}
use Rattle.model_kinds.specs.declared.shown.Shown.{Shown}
use Rattle.data_lattice.specs.declared.replica.Replica.{Ghosts}
use Rattle.data_lattice.specs.declared.spelled.SpelledData.{Ghosts as Spelling}
use Rattle.member_keeper.specs.Tables.{Table}
use Rattle.member_keeper.specs.declared.keeper.Keeper.{Ghosts as Keeping}
use Rattle.member_node.specs.declared.key.KeyDecl.{KeyDecl}
use Rattle.member_node.specs.declared.node.Node.{Node}
use Rattle.member_node.specs.Members.{AreDistinct, declared, spelled_groups}
use Rattle.member_node.specs.Steps.{replication}
use Rattle.script_reading.specs.declared.clients.Clients.TheVariants.{Refused}
use Rattle.script_reading.specs.declared.clients.RunStep.{RunStep}
use Rattle.script_reading.specs.declared.clients.RunStep.TheVariants.{Plain, Threads, Subscribe, Unsubscribe}
use Rattle.script_reading.specs.declared.script.Script.{Script}
use Rattle.script_reading.specs.declared.script.ScriptKey.{ScriptKey}
use Rattle.script_reading.specs.declared.script.Step.{Step}
use Rattle.script_reading.specs.declared.script.Step.TheVariants as form
use Rattle.script_reading.specs.Meant.{step_of}
use Rattle.script_reading.specs.WellFormed as script_rules
use Rattle.script_reading.specs.WellFormed.{HasNoClients, IsAllowed, IsRunStep, IsWellFormed}
use Rattle.world_members.specs.declared.world.World.{World}
use Rattle.world_places.specs.Places.{item_at, first_keeper, keeper_of, keepers_of}
use Rattle.world_places.specs.Keeping.{Given, Keeps, KeepsAt, IsKept, AtEachPlace, AreKept, IsNotCleared}
use Rattle.world_places.specs.Standing.{TellsStore}
use Rattle.world_members.specs.Steps.{Starts, HaveAnswered}
use Rattle.world_members.specs.Threads.{run_step_of, GivesBack}
use Rattle.world_members.specs.Ways.{Means}
use Rattle.world_places.proofs.StoredNames.{run_stores_declared, any_in}
use Rattle.world_places.proofs.Storing.{not_called, not_called_at}
use Rattle.report_lines.specs.declared.playing.Ending.{Ending}
use Rattle.report_lines.specs.declared.playing.Ending.TheVariants.{Told, NotCleared, Memory}
use Rattle.report_lines.specs.Finals.{IsBlockOf}
use Rattle.report_lines.specs.Kept.{answers_by, HoldsStore, LoadWhatTheyTook, NoneRose, EndsOver, IsTheRun, IsWholeReport, IsWholeSummary, IsReportOver, IsSummaryOver, EndsSo, IsPlayed, IsUnplayed}
use Rattle.report_lines.specs.Run.{Lines, decl_of, in_order, steps_of, is_restart, until_restart, beginning, BeginsRun, IsReport, IsTheReport, IsSummary}
use Rattle.report_lines.specs.Telling.{AllTell, AreAllKept, LoadAll, IsWhole, IsEnd, SetsOut, TellsSome, TellsSteps, EndsWithBlock, Opens}
use Rattle.report_lines.proofs.Composed.{kept_further}
use Rattle.report_lines.proofs.Foretold.{foretold_between}
use Rattle.report_lines.proofs.Holding.{holds_store}
use Rattle.report_lines.proofs.KeepersBack.{keeper_past, ComeBack, come_back}
use Rattle.report_lines.proofs.NamedKinds.{kind_among, are_of_kinds}
use Rattle.report_lines.proofs.Orders.{distinct_keys, in_ordered, from_ordered, in_mapped, from_mapped}
use Rattle.report_lines.proofs.Stages.{all_cons, ends_some, begins_longer, back_further}
use Rattle.report_lines.proofs.Unfailing.{none_failed}

-- what an index has
at_index : {X : Type 0} (xs : List X) (k : ℕ) (d : X) → k < length xs → IsIn xs (get_or xs k d)
at_index xs k d less = (k, slice_get-get_or xs k d less)

pub below : {X : Type 0} (xs : List X) (k : ℕ) (x : X) → slice_get xs k ≡ Some x → k < length xs
below [] k x e = absurd (cc e)
below (y ∷ xs) zero x e = omega arith
below (y ∷ xs) (suc k) x e = let less = below xs k x e in omega (arith, less)

-- an item of a list with something for each item
each_in : {X : Type 0} (P : X → Type 0) (xs : List X) → All P xs → (x : X) → IsIn xs x → P x
each_in P xs all x m = subst P (get_or_from_slice_get xs m.0 x x m.1) (all m.0 x (below xs m.0 x m.1))

-- STEPS

-- the steps of a script are steps of the model
pub model_step : (step : Step) → script_rules.IsStep step → IsStep (step_of step)
model_step (form.Ask at ask) ok = tt
model_step (form.Deliver from to index) ok = tt
model_step (form.Lose from to) ok = tt
model_step form.Round ok = tt
model_step (form.Timeout at op) ok = tt
model_step (form.Remove id) ok = tt
model_step (form.Join place) ok = ok
model_step (form.Restart id) ok = tt
model_step form.Settle ok = tt

all_rest : {X : Type 0} (P : X → Type 0) (x : X) (xs : List X) → All P (x ∷ xs) → All P xs
all_rest P x xs all k d less = all (suc k) d (omega (arith, less))

pub model_steps : (steps : List RunStep) → All IsRunStep steps → AllByRecursion IsStep (steps_of steps)
model_steps [] all = tt
model_steps (Plain step ∷ steps) all = (model_step step (all zero (Plain step) (omega arith)), model_steps steps (all_rest IsRunStep (Plain step) steps all))
model_steps (Threads clients ∷ steps) all = model_steps steps (all_rest IsRunStep (Threads clients) steps all)
model_steps (Subscribe at client key ∷ steps) all = model_steps steps (all_rest IsRunStep (Subscribe at client key) steps all)
model_steps (Unsubscribe at client key ∷ steps) all = model_steps steps (all_rest IsRunStep (Unsubscribe at client key) steps all)

-- SCRIPTS WITHOUT CLIENTS

abbrev pub ArePlain : List RunStep → Type 0
ArePlain steps = All (IsAllowed Refused) steps

plain_steps : (steps : List RunStep) → ArePlain steps → map run_step_of steps ≡ map runs.RunStep.Plain (steps_of steps)
plain_steps [] plain = refl
plain_steps (Plain step ∷ steps) plain = ap (λ ss. runs.RunStep.Plain (step_of step) ∷ ss) (plain_steps steps (all_rest (IsAllowed Refused) (Plain step) steps plain))
plain_steps (Threads clients ∷ steps) plain = absurd (plain zero (Threads clients) (omega arith))
plain_steps (Subscribe at client key ∷ steps) plain = absurd (plain zero (Subscribe at client key) (omega arith))
plain_steps (Unsubscribe at client key ∷ steps) plain = absurd (plain zero (Unsubscribe at client key) (omega arith))

until_plain : (steps : List RunStep) → ArePlain steps → ArePlain (until_restart steps)
until_plain [] plain = plain
until_plain (step ∷ steps) plain = by_test (is_restart step) (until_plain steps (all_rest (IsAllowed Refused) step steps plain))
  where
    by_test : (b : Bool) → ArePlain (until_restart steps) → ArePlain (if b then [] else step ∷ until_restart steps)
    by_test true later = λ k d less. absurd (omega (arith, less))
    by_test false later = all_cons (IsAllowed Refused) step (until_restart steps) (plain zero step (omega arith)) later

module _ (D : Replication Kind Op Shown) (p : Playing Kind Op Shown) (steps : List RunStep) (plain : ArePlain steps) where
  -- they play one way, and end in one place
  pub one_way : (lines : Lines) (last : Playing Kind Op Shown) → PlaysAll D p (map run_step_of steps) lines last → (lines ≡ map (map plain_line) (lines_of D p (steps_of steps))) × (last ≡ played_all D p (steps_of steps))
  one_way lines last plays = plain_plays D p last (steps_of steps) lines (subst (λ ss. PlaysAll D p ss lines last) (plain_steps steps plain) plays)

-- the lines of the steps before the first restart are those of the model
begins_one : (D : Replication Kind Op Shown) (p : Playing Kind Op Shown) (steps : List RunStep) (text : List ℕ) → ArePlain steps → BeginsRun D p steps text → (rest : List ℕ) × (text ≡ steps_text D shown_text 1 (lines_of D p (steps_of (until_restart steps))) ++ rest)
begins_one D p steps text plain begun =
    let way = one_way D p (until_restart steps) (until_plain steps plain) begun.lines begun.last begun.plays in
    (begun.rest, begun.told ∙ ap (λ ls. lines_text shown_text 1 ls ++ begun.rest) way.0 ∙ ap (λ t. t ++ begun.rest) (same_text D shown_text 1 (lines_of D p (steps_of (until_restart steps)))))

module _ (data_type : DataType Kind Op Shown) (history_byte : Kind → History Op → ℕ) (history_spelled : Kind → History Op → List ℕ) where
  abbrev D : Replication Kind Op Shown
  D = spelled_groups data_type history_byte history_spelled

  -- what is a report of a script without clients is the one report
  the_report : (answers : KeeperAnswers) (script : Script) (text : List ℕ) → HasNoClients script → IsReport data_type history_byte history_spelled answers script text → IsTheReport data_type history_byte history_spelled answers script text
  the_report answers script text plain h =
      is_report D shown_text answers script.members (map decl_of (in_order script.keys)) (steps_of script.steps) text
      (subst (λ ss. HasReport D shown_text answers script.members (map decl_of (in_order script.keys)) ss text) (plain_steps script.steps plain) h)

  the_run : {K : Type 0} (keeping : Keeping K) (answers : KeeperAnswers) (script : Script) (lines : Lines) (last : Playing Kind Op Shown) → 1 ≤ script.members → script.members ≤ identity_limit → All IsRunStep script.steps → HasNoClients script
      → PlaysAll D (beginning answers script) (map run_step_of script.steps) lines last → IsTheRun data_type history_byte history_spelled keeping answers script last
  the_run keeping answers script lines last some few ok plain plays =
      let within = model_steps script.steps ok in
      record {
        ends = (one_way D (beginning answers script) script.steps plain lines last plays).1;
        majorities = gets_include D answers script.members (map decl_of (in_order script.keys)) (steps_of script.steps) some few within;
        settles = λ stays. agree_by_digests D (makes_few D refl) history_byte history_spelled refl stays answers script.members (map decl_of (in_order script.keys)) (steps_of script.steps) some few within;
      }

-- THE KEEPERS

-- there are eight places
pub eight_of : {T K Kind Op Delta : Type 0} {ghosts : Ghosts T Kind Op Delta} {keeping : Keeping K} (world : World T K Kind Op Delta ghosts keeping) → (length world.nodes.items ≡ 8) × (length world.spare.items ≡ 8)
eight_of world = (sym world.nodes.ok.0 ∙ world.eight_nodes, sym world.spare.ok.0 ∙ world.eight_spare)

module _ {T K Kind Op Delta : Type 0} {ghosts : Ghosts T Kind Op Delta} {keeping : Keeping K} (old new : List K) (world : World T K Kind Op Delta ghosts keeping) (eight : length old ≡ 8) (nodes : length world.nodes.items ≡ 8) (spare : length world.spare.items ≡ 8)
    (back : new ≡ keepers_of world.nodes.items world.spare.items) (kept : (place : ℕ) (keeper : K) → slice_get old place ≡ Some keeper → IsKept keeping (Some keeper) (keeper_of world.nodes.items world.spare.items place)) where
  some_at : (place : ℕ) → place < length world.nodes.items → (keeper : K) × (keeper_of world.nodes.items world.spare.items place ≡ Some keeper)
  some_at place less = by_old (slice_get old place) refl
    where
      by_new : (before : K) (o : Option K) → IsKept keeping (Some before) o → (keeper : K) × (o ≡ Some keeper)
      by_new before None kept = absurd kept.keeps
      by_new before (Some after) kept = (after, refl)

      by_old : (o : Option K) → slice_get old place ≡ o → (keeper : K) × (keeper_of world.nodes.items world.spare.items place ≡ Some keeper)
      by_old None e = absurd (let within : place < length old = omega (arith, less, nodes, eight) in none within e)
        where
          none : place < length old → slice_get old place ≡ None → ⊥
          none within e = go old place within e
            where
              go : (xs : List K) (k : ℕ) → k < length xs → slice_get xs k ≡ None → ⊥
              go [] k less e = absurd (omega (arith, less))
              go (x ∷ xs) zero less e = absurd (cc e)
              go (x ∷ xs) (suc k) less e = go xs k (omega (arith, less)) e
      by_old (Some before) e = by_new before (keeper_of world.nodes.items world.spare.items place) (kept place before e)

  comes_back : ComeBack world.nodes.items world.spare.items
  comes_back = come_back world.nodes.items world.spare.items (nodes ∙ sym spare) some_at

  pub same_count : length new ≡ length old
  same_count = ap length back ∙ comes_back.count ∙ nodes ∙ sym eight

  pub stands_at : (place : ℕ) (after : K) → slice_get new place ≡ Some after → keeper_of world.nodes.items world.spare.items place ≡ Some after
  stands_at place after e = comes_back.each place after (sym (ap (λ ks. slice_get ks place) back) ∙ e)

  pub are_kept : AreKept keeping old new
  are_kept = record {
    count = same_count;
    each = λ place before after was is.
        let k = kept place before was in
        (k.answers, subst (KeepsAt keeping k.answers (Some before)) (stands_at place after is) k.keeps);
  }

-- THE RUN

module _ {T K Delta : Type 0} {ghosts : Ghosts T Kind Op Delta} {keeping : Keeping K} (spelling : Spelling T Kind Op Delta) (members : ℕ) (script_keys : List ScriptKey) (keys : List (KeyDecl T Kind Op Delta)) (old : List K) (first : World T K Kind Op Delta ghosts keeping)
    (eight : length old ≡ 8) (made : map declared keys ≡ map decl_of (in_order script_keys)) (apart : AreDistinct (map (λ (d : KeyDecl T Kind Op Delta). d.key) keys)) (starts : Starts spelling members keys old first) where
  -- kept from the start on
  pub kept_from : (xs : List Bool) (place : ℕ) (keeper : K) (o : Option K) → slice_get old place ≡ Some keeper → KeepsAt keeping xs (keeper_of first.nodes.items first.spare.items place) o → KeepsAt keeping (true ∷ xs) (Some keeper) o
  kept_from xs place keeper o is kept = kept_further keeping (true ∷ []) xs (Some keeper) (keeper_of first.nodes.items first.spare.items place) o (starts.kept place keeper is) kept

  pub is_kept_from : (place : ℕ) (keeper : K) (o : Option K) → slice_get old place ≡ Some keeper → IsKept keeping (keeper_of first.nodes.items first.spare.items place) o → IsKept keeping (Some keeper) o
  is_kept_from place keeper o is kept = record { answers = true ∷ kept.answers; keeps = kept_from kept.answers place keeper o is kept.keeps }

  abbrev pub kinds : Text → Kind
  kinds = kind_among keys

  -- the kinds of a script's keys
  key_kinds : All (λ (key : ScriptKey). kinds key.key ≡ key.kind) script_keys
  key_kinds k d less =
      let key = get_or script_keys k d in
      let there : IsIn (map declared keys) (decl_of key) = subst (λ ds. IsIn ds (decl_of key)) (sym made) (in_mapped decl_of (in_order script_keys) key (in_ordered (λ (key : ScriptKey). key.key) script_keys key (at_index script_keys k d less))) in
      let decl = from_mapped declared keys (decl_of key) there in
      let kind = each_in (λ (d : KeyDecl T Kind Op Delta). kinds d.key ≡ d.kind) keys (are_of_kinds keys apart) decl.0 decl.1 in
      ap kinds (sym (ap (λ (d : model.KeyDecl Kind). d.name) decl.2)) ∙ kind ∙ ap (λ (d : model.KeyDecl Kind). d.kind) decl.2

  -- a declared durable key is one of the script's
  durable_key : (name : Text) → Any (λ (decl : model.KeyDecl Kind). (decl.name ≡ name) × (decl.durable ≡ true)) (map decl_of (in_order script_keys)) → Any (λ (key : ScriptKey). (key.key ≡ name) × (key.durable ≡ true)) script_keys
  durable_key name any =
      let less = any.2 in
      let decl = any.1 in
      let there : IsIn (map decl_of (in_order script_keys)) decl = (any.0, slice_get-get_or (map decl_of (in_order script_keys)) any.0 decl less ∙ ap Some any.3) in
      let key = from_mapped decl_of (in_order script_keys) decl there in
      any_in (λ (key : ScriptKey). (key.key ≡ name) × (key.durable ≡ true)) script_keys key.0 (from_ordered (λ (key : ScriptKey). key.key) script_keys key.0 key.1)
      (ap (λ (d : model.KeyDecl Kind). d.name) key.2 ∙ any.4.0, ap (λ (d : model.KeyDecl Kind). d.durable) key.2 ∙ any.4.1)

  module _ (first_nodes : length first.nodes.items ≡ 8) (first_spare : length first.spare.items ≡ 8) where
    -- each keeper tells its table, if it did so before
    pub tells_first : All (λ keeper. IsSome (keeping.table keeper)) old → AllTell first
    tells_first all place keeper is = by_place (cases_lt place 8)
      where
        by_place : (place < 8) ⊎ (8 ≤ place) → IsSome (keeping.table keeper)
        by_place (inl less) =
            (subst (KeepsAt keeping (true ∷ []) (Some (get_or old place keeper))) is (starts.kept place (get_or old place keeper) (slice_get-get_or old place keeper (omega (arith, less, eight))))).table (all place keeper (omega (arith, less, eight)))
        by_place (inr more) =
            let none = keeper_past first.nodes.items first.spare.items place (omega (arith, more, first_nodes)) (omega (arith, more, first_spare)) in
            absurd (let e : None ≡ Some keeper = sym none ∙ is in cc e)

    module _ (new : List K) (last : World T K Kind Op Delta ghosts keeping) (nodes : length last.nodes.items ≡ 8) (spare : length last.spare.items ≡ 8) (back : new ≡ keepers_of last.nodes.items last.spare.items)
        (given : Given) (kept : (place : ℕ) → KeepsAt keeping (given place) (keeper_of first.nodes.items first.spare.items place) (keeper_of last.nodes.items last.spare.items place)) where
      -- the answers of each keeper, the clear at the start first
      pub whole_given : Given
      whole_given place = if nat_lt place 8 then true ∷ given place else []

      at_place : (place : ℕ) → place < 8 → whole_given place ≡ true ∷ given place
      unfolding whole_given
      at_place place less = let yes : nat_lt place 8 ≡ true = grind (arith, nat_tests) in ap (λ b. if b then true ∷ given place else []) yes

      -- the clear at the start didn't fail
      pub cleared_so : (place : ℕ) → place < length old → slice_get (whole_given place) 0 ≡ Some true
      cleared_so place less = ap (λ answers. slice_get answers 0) (at_place place (omega (arith, less, eight)))

      past_places : (place : ℕ) → 8 ≤ place → whole_given place ≡ []
      unfolding whole_given
      past_places place more = let not' : nat_lt place 8 ≡ false = grind (arith, nat_tests) in ap (λ b. if b then true ∷ given place else []) not'

      none_past : (place : ℕ) → 8 ≤ place → given place ≡ []
      none_past place more =
          let none = keeper_past first.nodes.items first.spare.items place (omega (arith, more, first_nodes)) (omega (arith, more, first_spare)) in
          let none' = keeper_past last.nodes.items last.spare.items place (omega (arith, more, nodes)) (omega (arith, more, spare)) in
          subst (λ o. KeepsAt keeping (given place) None o) none' (subst (λ o. KeepsAt keeping (given place) o (keeper_of last.nodes.items last.spare.items place)) none (kept place))

      kept_each : (place : ℕ) (keeper : K) → slice_get old place ≡ Some keeper → IsKept keeping (Some keeper) (keeper_of last.nodes.items last.spare.items place)
      kept_each place keeper is = is_kept_from place keeper (keeper_of last.nodes.items last.spare.items place) is (record { answers = given place; keeps = kept place })

      pub kept_so : AtEachPlace (λ place. Keeps keeping (whole_given place)) old new
      kept_so = record {
        count = same_count old new last eight nodes spare back kept_each;
        each = λ place before after was is.
            let less : place < 8 = let b = below old place before was in omega (arith, b, eight) in
            let now = stands_at old new last eight nodes spare back kept_each place after is in
            subst (λ xs. Keeps keeping xs before after) (sym (at_place place less))
            (subst (KeepsAt keeping (true ∷ given place) (Some before)) now (kept_from (given place) place before (keeper_of last.nodes.items last.spare.items place) was (kept place)));
      }

      pub others_so : (place : ℕ) → length old ≤ place → whole_given place ≡ []
      others_so place more = past_places place (omega (arith, more, eight))

      abbrev pub answers : KeeperAnswers
      answers = answers_by whole_given

      abbrev pub decls : List (model.KeyDecl Kind)
      decls = map decl_of (in_order script_keys)

      foretold_so : (place : ℕ) → answers_between answers place 1 (1 + length (given place)) ≡ given place
      foretold_so place = by_place (cases_lt place 8)
        where
          by_place : (place < 8) ⊎ (8 ≤ place) → answers_between answers place 1 (1 + length (given place)) ≡ given place
          by_place (inl less) = foretold_between whole_given place (true ∷ []) (given place) [] (at_place place less ∙ ap (λ xs. true ∷ xs) (sym (append-nil (given place))))
          by_place (inr more) = subst (λ xs. answers_between answers place 1 (1 + length xs) ≡ xs) (sym (none_past place more)) refl

      pub sets_out : SetsOut spelling kinds members decls (opening answers members decls) given first
      sets_out = record {
        means = subst (λ (ds : List (model.KeyDecl Kind)). Means spelling kinds members ds (opening answers members ds) first) made (starts.means kinds answers (are_of_kinds keys apart));
        silent = refl;
        foretold = foretold_so;
      }

      pub kept_over : AreKept keeping old new
      kept_over = are_kept old new last eight nodes spare back kept_each

      -- where the run ends
      module _ (end : Playing Kind Op Shown) (means : Means spelling kinds members decls end last) (calls : HaveAnswered (opening answers members decls) end given) where
        pub called_so : (place : ℕ) → place < 8 → length (whole_given place) ≡ end.calls place
        called_so place less = let more = calls place in let n = ap length (at_place place less) in omega (arith, more, n)

        stored_at : (place : ℕ) (after : K) → slice_get new place ≡ Some after → (table : Table) → keeping.table after ≡ Some table → HoldsStore spelling.history_byte spelling.history_spelled script_keys table (end.world.stores place)
        stored_at place after is table told =
            let D = replication ghosts spelling in
            let run = means.run in
            let logs = logs_throughout D members decls end.events end.world run in
            let stands = means.stands logs.0 (record { histories = logs.1.last.histories; logged = logs.1.throughout }) in
            let now = stands_at old new last eight nodes spare back kept_each place after is in
            let spells = (subst (λ o. TellsStore ghosts keeping spelling kinds logs.0 o (end.world.stores place)) now (stands.stores place) table told).1 in
            holds_store ghosts spelling kinds logs.0 table (end.world.stores place) spells script_keys key_kinds
            (λ name entry has. durable_key name (run_stores_declared D decls members end.events end.world run place name entry has))

        pub stored_so : AtEachPlace (λ place before after. (table : Table) → keeping.table after ≡ Some table → HoldsStore spelling.history_byte spelling.history_spelled script_keys table (end.world.stores place)) old new
        stored_so = record { count = kept_so.count; each = λ place before after was is. stored_at place after is }

-- HOW IT ENDED

none_there : {X : Type 0} (xs : List X) (k : ℕ) → slice_get xs k ≡ None → length xs ≤ k
none_there [] k e = omega arith
none_there (x ∷ xs) zero e = absurd (cc e)
none_there (x ∷ xs) (suc k) e = let more = none_there xs k e in omega (arith, more)

module _ {T K Kind' Op' Delta : Type 0} {ghosts : Ghosts T Kind' Op' Delta} {keeping : Keeping K} where
  module _ (world : World T K Kind' Op' Delta ghosts keeping) where
    -- each place has a keeper
    keeper_at : (place : ℕ) → place < 8 → (keeper : K) × (keeper_of world.nodes.items world.spare.items place ≡ Some keeper)
    keeper_at place less = by_node (item_at world.nodes.items place) refl
      where
        by_spare : (o : Option K) → item_at world.spare.items place ≡ o → item_at world.nodes.items place ≡ None → (keeper : K) × (keeper_of world.nodes.items world.spare.items place ≡ Some keeper)
        by_spare (Some keeper) is none = (keeper, ap (λ o. first_keeper o (item_at world.spare.items place)) none ∙ is)
        by_spare None is none = absurd (true≢false (sym (ap (λ (o : Option (Node T K Kind' Op' Delta ghosts keeping)). not (is_some o)) none) ∙ sym (world.seated.spares place less) ∙ ap (λ (o : Option K). is_some o) is))

        by_node : (o : Option (Node T K Kind' Op' Delta ghosts keeping)) → item_at world.nodes.items place ≡ o → (keeper : K) × (keeper_of world.nodes.items world.spare.items place ≡ Some keeper)
        by_node (Some node) is = (node.keeper, ap (λ o. first_keeper o (item_at world.spare.items place)) is)
        by_node None is = by_spare (item_at world.spare.items place) refl is

    comes : ComeBack world.nodes.items world.spare.items
    comes =
        let a = (eight_of world).0 in
        come_back world.nodes.items world.spare.items ((eight_of world).0 ∙ sym (eight_of world).1) (λ place less. keeper_at place (omega (arith, less, a)))

    same_at : (place : ℕ) (o : Option K) → slice_get (keepers_of world.nodes.items world.spare.items) place ≡ o → keeper_of world.nodes.items world.spare.items place ≡ slice_get (keepers_of world.nodes.items world.spare.items) place
    same_at place (Some keeper) e = comes.each place keeper e ∙ sym e
    same_at place None e =
        let past = none_there (keepers_of world.nodes.items world.spare.items) place e in
        let count = comes.count in
        let a = (eight_of world).0 in
        let b = (eight_of world).1 in
        keeper_past world.nodes.items world.spare.items place (omega (arith, past, count)) (omega (arith, past, count, a, b)) ∙ sym e

    -- the keepers of a world come back as they are
    pub back_as_they_are : (new : List K) → new ≡ keepers_of world.nodes.items world.spare.items → GivesBack world new
    back_as_they_are new is place =
        let there = keeper_of world.nodes.items world.spare.items place in
        subst (λ o. IsKept keeping there o) (same_at place (slice_get (keepers_of world.nodes.items world.spare.items) place) refl ∙ ap (λ ks. slice_get ks place) (sym is)) (record { answers = []; keeps = not_called_at keeping there })

module _ {T K Delta : Type 0} {ghosts : Ghosts T Kind Op Delta} {keeping : Keeping K} (spelling : Spelling T Kind Op Delta) (script : Script) (formed : IsWellFormed script) (old : List K) (first : World T K Kind Op Delta ghosts keeping) (eight : length old ≡ 8) (opens : Opens spelling script.members script.keys old first) where
  pub apart : AreDistinct (map (λ (d : KeyDecl T Kind Op Delta). d.key) opens.keys)
  apart = distinct_keys script.keys opens.keys opens.made formed.key_names

  module _ (new : List K) (last : World T K Kind Op Delta ghosts keeping) (back : new ≡ keepers_of last.nodes.items last.spare.items) (given : Given) (kept : (place : ℕ) → KeepsAt keeping (given place) (keeper_of first.nodes.items first.spare.items place) (keeper_of last.nodes.items last.spare.items place)) where
    -- the answers of each keeper
    abbrev pub over : Given
    over = whole_given spelling script.members script.keys opens.keys old first eight opens.made apart opens.starts (eight_of first).0 (eight_of first).1 new last (eight_of last).0 (eight_of last).1 back given kept

    abbrev pub begin : Playing Kind Op Shown
    begin = beginning (answers_by over) script

    abbrev pub names : List (model.KeyDecl Kind)
    names = map decl_of (in_order script.keys)

    pub sets : SetsOut spelling (kind_among opens.keys) script.members names begin given first
    sets = sets_out spelling script.members script.keys opens.keys old first eight opens.made apart opens.starts (eight_of first).0 (eight_of first).1 new last (eight_of last).0 (eight_of last).1 back given kept

    pub each_kept : AtEachPlace (λ place. Keeps keeping (over place)) old new
    each_kept = kept_so spelling script.members script.keys opens.keys old first eight opens.made apart opens.starts (eight_of first).0 (eight_of first).1 new last (eight_of last).0 (eight_of last).1 back given kept

    pub none_others : (place : ℕ) → length old ≤ place → over place ≡ []
    none_others = others_so spelling script.members script.keys opens.keys old first eight opens.made apart opens.starts (eight_of first).0 (eight_of first).1 new last (eight_of last).0 (eight_of last).1 back given kept

    pub all_cleared : (place : ℕ) → place < length old → slice_get (over place) 0 ≡ Some true
    all_cleared = cleared_so spelling script.members script.keys opens.keys old first eight opens.made apart opens.starts (eight_of first).0 (eight_of first).1 new last (eight_of last).0 (eight_of last).1 back given kept

    pub all_are_kept : AreKept keeping old new
    all_are_kept = kept_over spelling script.members script.keys opens.keys old first eight opens.made apart opens.starts (eight_of first).0 (eight_of first).1 new last (eight_of last).0 (eight_of last).1 back given kept

    pub unfailing : (P : KeeperAnswers → Type 0) → P (answers_by over) → NoneRose keeping old new → P none_fails
    unfailing P h stays = subst P (none_failed keeping over old new each_kept none_others stays) h

    pub loads_all : LoadWhatTheyTook keeping script old → LoadAll script.steps first
    loads_all (inl all) = inl (tells_first spelling script.members script.keys opens.keys old first eight opens.made apart opens.starts (eight_of first).0 (eight_of first).1 all)
    loads_all (inr none) = inr none

    -- some run of the script, and what it says of a text
    module _ (says : Lines → Playing Kind Op Shown → List ℕ → Type 0) (text : List ℕ) (some : TellsSome spelling (kind_among opens.keys) script.members names begin given says script.steps last text) where
      pub ends_over : EndsOver ghosts.data_type spelling.history_byte spelling.history_spelled keeping over script some.last old new
      ends_over = record {
        called = called_so spelling script.members script.keys opens.keys old first eight opens.made apart opens.starts (eight_of first).0 (eight_of first).1 new last (eight_of last).0 (eight_of last).1 back given kept some.last some.means some.calls;
        stored = stored_so spelling script.members script.keys opens.keys old first eight opens.made apart opens.starts (eight_of first).0 (eight_of first).1 new last (eight_of last).0 (eight_of last).1 back given kept some.last some.means some.calls;
      }

      pub is_the_run : HasNoClients script → IsTheRun ghosts.data_type spelling.history_byte spelling.history_spelled keeping (answers_by over) script some.last
      is_the_run plain = the_run ghosts.data_type spelling.history_byte spelling.history_spelled keeping (answers_by over) script some.lines some.last some.means.run.some some.means.run.few formed.steps plain some.plays

    -- THE REPORT

    whole_report : (text : List ℕ) → TellsSome spelling (kind_among opens.keys) script.members names begin given (IsWhole (replication ghosts spelling)) script.steps last text → IsWholeReport ghosts.data_type spelling.history_byte spelling.history_spelled keeping over script old new text
    whole_report text some =
        let report : IsReport ghosts.data_type spelling.history_byte spelling.history_spelled (answers_by over) script text = record { lines = some.lines; last = some.last; plays = some.plays; told = some.told } in
        record {
          reported = record { lines = some.lines; last = some.last; plays = some.plays; told = some.told };
          over = ends_over (IsWhole (replication ghosts spelling)) text some;
          unfailing = unfailing (λ answers. IsReport ghosts.data_type spelling.history_byte spelling.history_spelled answers script text) report;
          plain = λ plain. record {
            run = is_the_run (IsWhole (replication ghosts spelling)) text some plain;
            reported = the_report ghosts.data_type spelling.history_byte spelling.history_spelled (answers_by over) script text plain report;
            unfailing = unfailing (λ answers. IsTheReport ghosts.data_type spelling.history_byte spelling.history_spelled answers script text) (the_report ghosts.data_type spelling.history_byte spelling.history_spelled (answers_by over) script text plain report);
          };
        }

    -- THE FINAL BLOCK ALONE

    whole_summary : HasNoClients script → (text : List ℕ) → TellsSome spelling (kind_among opens.keys) script.members names begin given (IsEnd (replication ghosts spelling)) script.steps last text → IsWholeSummary ghosts.data_type spelling.history_byte spelling.history_spelled keeping over script old new text
    whole_summary plain text some =
        let run = is_the_run (IsEnd (replication ghosts spelling)) text some plain in
        let told : IsSummary ghosts.data_type spelling.history_byte spelling.history_spelled (answers_by over) script text = some.told ∙ ap (λ (last : Playing Kind Op Shown). final_block (replication ghosts spelling) shown_text last.world) run.ends in
        record {
          reported = told;
          over = subst (λ last. EndsOver ghosts.data_type spelling.history_byte spelling.history_spelled keeping over script last old new) run.ends (ends_over (IsEnd (replication ghosts spelling)) text some);
          run = subst (IsTheRun ghosts.data_type spelling.history_byte spelling.history_spelled keeping (answers_by over) script) run.ends run;
          unfailing = unfailing (λ answers. IsSummary ghosts.data_type spelling.history_byte spelling.history_spelled answers script text) told;
        }

  module _ (new : List K) (last : World T K Kind Op Delta ghosts keeping) (text : List ℕ) (tells : TellsSteps spelling script.steps first last text) (back : new ≡ keepers_of last.nodes.items last.spare.items) where
    abbrev all_given : Given
    all_given = over new last back tells.given tells.kept

    report_over : (block text' : List ℕ) → IsBlockOf spelling last block → text' ≡ text ++ block → IsReportOver ghosts.data_type spelling.history_byte spelling.history_spelled keeping script old new text'
    report_over block text' told grown =
        let D = replication ghosts spelling in
        let p = beginning (answers_by all_given) script in
        let set = sets new last back tells.given tells.kept in
        let begun = begins_longer D p script.steps text block text' grown (tells.begun (kind_among opens.keys) script.members (map decl_of (in_order script.keys)) p set) in
        record {
          given = all_given;
          kept = each_kept new last back tells.given tells.kept;
          others = none_others new last back tells.given tells.kept;
          cleared = all_cleared new last back tells.given tells.kept;
          begun = record { begun = begun; plain = λ plain. begins_one D p script.steps text' plain begun };
          whole = λ load.
              whole_report new last back tells.given tells.kept text'
              (ends_some spelling (IsWhole D) script.steps first last text block text' tells told (λ lines end is block_is. grown ∙ ap₂ (λ (a b : List ℕ). a ++ b) is block_is)
              (loads_all new last back tells.given tells.kept load) (kind_among opens.keys) script.members (map decl_of (in_order script.keys)) p set);
        }

    summary_over : HasNoClients script → (block text' : List ℕ) → IsBlockOf spelling last block → text' ≡ block → IsSummaryOver ghosts.data_type spelling.history_byte spelling.history_spelled keeping script old new text'
    summary_over plain block text' told grown =
        let D = replication ghosts spelling in
        let p = beginning (answers_by all_given) script in
        let set = sets new last back tells.given tells.kept in
        record {
          given = all_given;
          kept = each_kept new last back tells.given tells.kept;
          others = none_others new last back tells.given tells.kept;
          cleared = all_cleared new last back tells.given tells.kept;
          begun = tt;
          whole = λ load.
              whole_summary new last back tells.given tells.kept plain text'
              (ends_some spelling (IsEnd D) script.steps first last text block text' tells told (λ lines end is block_is. grown ∙ block_is)
              (loads_all new last back tells.given tells.kept load) (kind_among opens.keys) script.members (map decl_of (in_order script.keys)) p set);
        }

    pub ends_report : (end : Ending) → EndsWithBlock spelling last text end → IsPlayed keeping (IsReportOver ghosts.data_type spelling.history_byte spelling.history_spelled keeping) script old new end
    ends_report end ends = record { ends = by_end end ends; kept = all_are_kept new last back tells.given tells.kept }
      where
        by_end : (end : Ending) → EndsWithBlock spelling last text end → EndsSo keeping (IsReportOver ghosts.data_type spelling.history_byte spelling.history_spelled keeping) end script old new
        by_end (Told told) adds = report_over adds.0 (string_bytes told) adds.1 adds.2
        by_end (NotCleared place) ends = absurd ends
        by_end Memory ends = tt

    pub ends_summary : HasNoClients script → (before : List ℕ) (end : Ending) → before ≡ [] → EndsWithBlock spelling last before end → IsPlayed keeping (IsSummaryOver ghosts.data_type spelling.history_byte spelling.history_spelled keeping) script old new end
    ends_summary plain before end none ends = record { ends = by_end end ends; kept = all_are_kept new last back tells.given tells.kept }
      where
        by_end : (end : Ending) → EndsWithBlock spelling last before end → EndsSo keeping (IsSummaryOver ghosts.data_type spelling.history_byte spelling.history_spelled keeping) end script old new
        by_end (Told told) adds = summary_over plain adds.0 (string_bytes told) adds.1 (adds.2 ∙ ap (λ t. t ++ adds.0) none)
        by_end (NotCleared place) ends = absurd ends
        by_end Memory ends = tt

  -- where memory was refused in a step
  pub gave_back : (IsOver : Script → List K → List K → List ℕ → Type 0) (new : List K) → GivesBack first new → IsPlayed keeping IsOver script old new Memory
  gave_back IsOver new gives = record { ends = tt; kept = record { count = count; each = each } }
    where
      from_start : (place : ℕ) (keeper : K) → slice_get old place ≡ Some keeper → IsKept keeping (Some keeper) (slice_get new place)
      from_start place keeper was = is_kept_from spelling script.members script.keys opens.keys old first eight opens.made apart opens.starts place keeper (slice_get new place) was (gives place)

      each : (place : ℕ) (before after : K) → slice_get old place ≡ Some before → slice_get new place ≡ Some after → (answers : List Bool) × Keeps keeping answers before after
      each place before after was is = let kept = subst (λ o. IsKept keeping (Some before) o) is (from_start place before was) in (kept.answers, kept.keeps)

      at_least : (o p : Option K) → slice_get old 7 ≡ o → slice_get new 7 ≡ p → 8 ≤ length new
      at_least None p was is = let few = none_there old 7 was in absurd (omega (arith, few, eight))
      at_least (Some before) None was is = absurd ((subst (λ o. IsKept keeping (Some before) o) is (from_start 7 before was)).keeps)
      at_least (Some before) (Some after) was is = let less = below new 7 after is in omega (arith, less)

      at_most : (p : Option K) → slice_get new 8 ≡ p → length new ≤ 8
      at_most None is = none_there new 8 is
      at_most (Some after) is =
          let past = keeper_past first.nodes.items first.spare.items 8 (let a = (eight_of first).0 in omega (arith, a)) (let b = (eight_of first).1 in omega (arith, b)) in
          absurd (subst (λ o. IsKept keeping o (Some after)) past (subst (λ o. IsKept keeping (keeper_of first.nodes.items first.spare.items 8) o) is (gives 8))).keeps

      count : length new ≡ length old
      count = let low = at_least (slice_get old 7) (slice_get new 7) refl refl in let high = at_most (slice_get new 8) refl in omega (arith, low, high, eight)

  -- the same, where the world is there still
  pub gave_up : (IsOver : Script → List K → List K → List ℕ → Type 0) (new : List K) (last : World T K Kind Op Delta ghosts keeping) (end : Ending) → AreAllKept first last → new ≡ keepers_of last.nodes.items last.spare.items → end ≡ Memory → IsPlayed keeping IsOver script old new end
  gave_up IsOver new last end kept back is = subst (IsPlayed keeping IsOver script old new) (sym is) (gave_back IsOver new (back_further first last new kept (back_as_they_are last new back)))

-- WHERE THERE IS NO RUN

module _ {K : Type 0} (keeping : Keeping K) where
  -- what was called until one failed
  pub not_cleared_kept : (place : ℕ) (old new : List K) → IsNotCleared keeping place old new → AreKept keeping old new
  not_cleared_kept place old new is = record { count = is.failed.count; each = λ p before after was now. by_place p before after was now (cases_lt p place) (cases_lt place p) }
    where
      by_place : (p : ℕ) (before after : K) → slice_get old p ≡ Some before → slice_get new p ≡ Some after → (p < place) ⊎ (place ≤ p) → (place < p) ⊎ (p ≤ place) → (answers : List Bool) × Keeps keeping answers before after
      by_place p before after was now (inl less) _ = (true ∷ [], (is.earlier.each p before after was now less).answered)
      by_place p before after was now (inr more) (inl greater) = ([], subst (Keeps keeping [] before) (sym (is.later.each p before after was now greater)) (not_called keeping before))
      by_place p before after was now (inr more) (inr least) = (false ∷ [], (is.failed.each p before after was now (omega (arith, more, least))).answered)

  pub not_cleared : (old new : List K) (place : ℕ) → IsNotCleared keeping place old new → IsUnplayed keeping old new (NotCleared place)
  not_cleared old new place is = record { ends = is; kept = not_cleared_kept place old new is }

  -- what ended before its first step ended so, whatever is said of its text
  pub unplayed : {S : Type 0} (IsOver : S → List K → List K → List ℕ → Type 0) (script : S) (old new : List K) (end : Ending) → IsUnplayed keeping old new end → IsPlayed keeping IsOver script old new end
  unplayed IsOver script old new (Told text) is = absurd is.ends
  unplayed IsOver script old new (NotCleared place) is = record { ends = is.ends; kept = is.kept }
  unplayed IsOver script old new Memory is = record { ends = tt; kept = is.kept }
