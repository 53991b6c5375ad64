-- The headline holds of each run.
use Rattle.std.proofs.Common.{◌≡◌, ℕ, suc, ◌-◌, ◌*◌, ◌≤◌, List, length, [], ◌∷◌, ◌++◌, map, refl, sym, ap, subst, ◌∙◌, Bool, true, false, Option, Some, None}
use Rattle.std.specs.Prelude.{if◌then◌else◌, nat_le, find, slice_get, option_map, option_and_then}
use Rattle.std.specs.List.{AllByRecursion}
use Rattle.std.specs.Str.{bytes_eq}
use Rattle.model_history.specs.Table.{identity_limit}
use Rattle.model_history.specs.Texts.{Text}
use Rattle.model_history.proofs.PruneLaws.{found}
use Rattle.model_members.specs.DataType.{Replication, Meaning, meaning}
use Rattle.model_members.specs.DataType.Meaning.{IsDeleted, Shows}
use Rattle.model_members.specs.Entry.{has_records}
use Rattle.model_members.specs.Node.{KeyDecl, Node, OpenOperation, Finished, Level, Input, Reply, state_of, key_state, needed, one_step_later}
use Rattle.model_members.specs.Node.Result.{Wrote}
use Rattle.model_members.specs.Step.{step, value_reply, read_result, meaning_of, result_of, member_count}
use Rattle.model_members.specs.World.{World, Event, IsRun, start, run, step_in}
use Rattle.model_members.specs.Script.{KeeperAnswers, Playing, ScriptStep, Answer, Told, Head, opening, settle}
use Rattle.model_members.proofs.Cases.{got, got_needing}
use Rattle.model_members.proofs.RefusedInputs.{refused_leaves}
use Rattle.theorem_runs.specs.Pruning.{variables_of}
use Rattle.theorem_runs.proofs.HeldHistories.{all_have}
use Rattle.theorem_runs.proofs.Keeping.{same_text}
use Rattle.theorem_runs.proofs.Playing.{no_events}
use Rattle.theorem_runs.proofs.PruningSafety.{unions_are_pruned}
use Rattle.theorem_runs.proofs.Safety.{IsSafe, runs_are_safe, run_before}
use Rattle.theorem_runs.proofs.Stepping.{moves}
use Rattle.theorem_runs.proofs.SameShown.{same_history, means_by_history}
use Rattle.theorem_operations.proofs.Moments.{Stands as IsReached, stands_start, stands_run}
use Rattle.theorem_operations.proofs.Operations.{step_tells}
use Rattle.theorem_operations.proofs.Turns.{turn_makes}
use Rattle.theorem_sections.specs.Runs.{RunStep, IsRunStep, Plays, PlaysAll, plain_line}
use Rattle.theorem_sections.specs.Runs.RunStep.{Plain, Threads}
use Rattle.theorem_sections.specs.Sections.{Line}
use Rattle.theorem_sections.proofs.Sectioned.{Runs, plays_runs, all_run}
use Rattle.theorem_client_operations.specs.Calls.{CallsStandOnce}
use Rattle.theorem_client_operations.specs.Seen.{stands_before}
use Rattle.theorem_client_operations.proofs.Commanding.{calls_stand_once}
use Rattle.theorem_client_operations.proofs.SeenMoments.{StepAt, step_at, before_runs, before_silent, lines_by}
use Rattle.theorem_client_operations.proofs.SeenReads.{gets_include_seen}
use Rattle.theorem_settling.specs.Settling.{BlockedStays, DigestsTellFrom, IsSettled, HasBlocked, settle_answer}
use Rattle.theorem_settling.proofs.Settled.{leaves_settled, sends_few, counts_blocked}
use Rattle.theorem_headline.specs.Headline.{IsMeaningAt, TellsMeaning, AreAlike, RefusalChangesNothing, EachSection, TellsSettle, LeavesSettled, TheHeadline}

module _ {Kind Op Shown : Type 0} (D : Replication Kind Op Shown) where
  -- what a reply or a result tells, it tells of one meaning
  one_value : (o : Option (Meaning Shown)) (means : Meaning Shown) → value_reply D o ≡ value_reply D (Some means) → o ≡ Some means
  one_value None IsDeleted e = absurd (cc e)
  one_value None (Shows shown) e = absurd (cc e)
  one_value (Some IsDeleted) IsDeleted e = refl
  one_value (Some IsDeleted) (Shows shown) e = absurd (cc e)
  one_value (Some (Shows a)) IsDeleted e = absurd (cc e)
  one_value (Some (Shows a)) (Shows b) e = let same : a ≡ b = cc e in ap (λ s. Some (Shows s)) same

  one_result : (o : Option (Meaning Shown)) (means : Meaning Shown) → read_result D o ≡ read_result D (Some means) → o ≡ Some means
  one_result None IsDeleted e = absurd (cc e)
  one_result None (Shows shown) e = absurd (cc e)
  one_result (Some IsDeleted) IsDeleted e = refl
  one_result (Some IsDeleted) (Shows shown) e = absurd (cc e)
  one_result (Some (Shows a)) IsDeleted e = absurd (cc e)
  one_result (Some (Shows a)) (Shows b) e = let same : a ≡ b = cc e in ap (λ s. Some (Shows s)) same

  no_write : (means : Meaning Shown) → Wrote ≡ read_result D (Some means) → ⊥
  no_write IsDeleted e = cc e
  no_write (Shows shown) e = cc e

  unknown : (means : Meaning Shown) → Reply.UnknownKey ≡ value_reply D (Some means) → ⊥
  unknown IsDeleted e = cc e
  unknown (Shows shown) e = cc e

  too_few : (means : Meaning Shown) → Reply.TooFew ≡ value_reply D (Some means) → ⊥
  too_few IsDeleted e = cc e
  too_few (Shows shown) e = cc e

  pending : (op : ℕ) (means : Meaning Shown) → Reply.Pending op ≡ value_reply D (Some means) → ⊥
  pending op IsDeleted e = cc e
  pending op (Shows shown) e = cc e

  -- where something is told of a key, it is what its history means
  told_means : (node : Node Kind Op Shown) (decl : KeyDecl Kind) (means : Meaning Shown) → meaning_of D (state_of node decl) ≡ Some means → means ≡ meaning D.data_type decl.kind (node.entries decl.name).history
  told_means node decl means e = by (has_records (node.entries decl.name)) e
    where
      by : (b : Bool) → (if b then Some (meaning D.data_type decl.kind (node.entries decl.name).history) else None) ≡ Some means → means ≡ meaning D.data_type decl.kind (node.entries decl.name).history
      by true f = let same : meaning D.data_type decl.kind (node.entries decl.name).history ≡ means = cc f in sym same
      by false f = absurd (cc f)

  module _ (keys : List (KeyDecl Kind)) (node : Node Kind Op Shown) (same_keys : node.keys ≡ keys) (key : Text) where
    abbrev named : KeyDecl Kind → Bool
    named d = bytes_eq d.name key

    at_decl : (decl : KeyDecl Kind) → find named node.keys ≡ Some decl → (means : Meaning Shown) → meaning_of D (state_of node decl) ≡ Some means → IsMeaningAt D keys node key means
    at_decl decl is means e = (
      decl,
      ap (find named) (sym same_keys) ∙ is,
      told_means node decl means e ∙ ap (λ k. meaning D.data_type decl.kind (node.entries k).history) (same_text decl.name key (found named node.keys decl is)),
    )

    got_means : (level : Level) (means : Meaning Shown) → (got D (one_step_later node) (key_state (one_step_later node) key) level).output.reply ≡ value_reply D (Some means) → IsMeaningAt D keys node key means
    got_means level means e = by_decl (find named node.keys) refl e
      where
        by_test : (decl : KeyDecl Kind) → find named node.keys ≡ Some decl → (b : Bool) → (if b then value_reply D (meaning_of D (state_of (one_step_later node) decl)) else Reply.Pending node.next_op) ≡ value_reply D (Some means) → IsMeaningAt D keys node key means
        by_test decl is true f = at_decl decl is means (one_value (meaning_of D (state_of node decl)) means f)
        by_test decl is false f = absurd (pending node.next_op means f)

        as_test : (decl : KeyDecl Kind) (n : ℕ) → (got_needing D (one_step_later node) (state_of (one_step_later node) decl) (Some n)).output.reply ≡ (if nat_le n 1 then value_reply D (meaning_of D (state_of (one_step_later node) decl)) else Reply.Pending node.next_op)
        as_test decl n = by (nat_le n 1) refl
          where
            by : (b : Bool) → nat_le n 1 ≡ b → (got_needing D (one_step_later node) (state_of (one_step_later node) decl) (Some n)).output.reply ≡ (if nat_le n 1 then value_reply D (meaning_of D (state_of (one_step_later node) decl)) else Reply.Pending node.next_op)
            by true is = rw is refl
            by false is = rw is refl

        by_number : (decl : KeyDecl Kind) → find named node.keys ≡ Some decl → (o : Option ℕ) → (got_needing D (one_step_later node) (state_of (one_step_later node) decl) o).output.reply ≡ value_reply D (Some means) → IsMeaningAt D keys node key means
        by_number decl is None f = absurd (too_few means f)
        by_number decl is (Some n) f = by_test decl is (nat_le n 1) (sym (as_test decl n) ∙ f)

        by_decl : (o : Option (KeyDecl Kind)) → find named node.keys ≡ o → (got D (one_step_later node) (option_map (state_of (one_step_later node)) o) level).output.reply ≡ value_reply D (Some means) → IsMeaningAt D keys node key means
        by_decl None is f = absurd (unknown means f)
        by_decl (Some decl) is f = by_number decl is (needed level (member_count (one_step_later node))) f

    -- the result of a read
    read_means : (means : Meaning Shown) → read_result D (option_and_then (meaning_of D) (key_state node key)) ≡ read_result D (Some means) → IsMeaningAt D keys node key means
    read_means means e = by_decl (find named node.keys) refl (one_result (option_and_then (meaning_of D) (key_state node key)) means e)
      where
        by_decl : (o : Option (KeyDecl Kind)) → find named node.keys ≡ o → option_and_then (meaning_of D) (option_map (state_of node) o) ≡ Some means → IsMeaningAt D keys node key means
        by_decl None is f = absurd (cc f)
        by_decl (Some decl) is f = at_decl decl is means f

  -- AN EVENT OF A RUN

  module _ (members : ℕ) (keys : List (KeyDecl Kind)) (events : List (Event Op)) (world : World Kind Op Shown) (is_run : IsRun D members keys events world) where
    safe : IsSafe D (variables_of D (start members keys) events) world
    safe = runs_are_safe D members keys events world is_run

    reached : IsReached D members keys world
    reached = subst (IsReached D members keys) (sym is_run.leads) (stands_run D members keys (start members keys) (stands_start D members keys is_run.some is_run.few) events is_run.lawful)

    keys_at : (i : ℕ) (node : Node Kind Op Shown) → world.nodes i ≡ Some node → node.keys ≡ keys
    keys_at i node runs = (safe.views.running i node runs).keys ∙ reached.same_keys

    pub alike : AreAlike D world
    alike i j a b decl runs same = means_by_history D a b decl (same_history D (variables_of D (start members keys) events) world safe i j a b runs.0 runs.1 decl.name same)

    -- what an event tells
    pub tells_meaning : (event : Event Op) → TellsMeaning D keys world event
    tells_meaning event = record {
      answered = λ turn key level means takes gets replied.
          let there = turn_makes world event turn takes in
          got_means keys turn.before (keys_at turn.at turn.before there.runs) key level means (subst (λ (x : Input Op). (step D turn.before x turn.fate).output.reply ≡ value_reply D (Some means)) gets replied);
      finished = λ turn end means takes ended result.
          let there = turn_makes world event turn takes in
          let after = (step_in D turn).node in
          let ends = (step_tells D turn.before turn.input turn.fate).ended end ended in
          let o = ends.operation in
          let same : after.keys ≡ keys = (moves D turn.before turn.input turn.fate).keys ∙ keys_at turn.at turn.before there.runs in
          let told : result_of D after o ≡ read_result D (Some means) = ap (λ (f : Finished Shown). f.result) ends.is ∙ result in
          (o, ends.counts.stood, ap (λ (f : Finished Shown). f.op) ends.is, by_result after o means same o.reads told);
    }
      where
        by_result : (after : Node Kind Op Shown) (o : OpenOperation) (means : Meaning Shown) → after.keys ≡ keys → (b : Bool) → (if b then read_result D (option_and_then (meaning_of D) (key_state after o.key)) else Wrote) ≡ read_result D (Some means) → IsMeaningAt D keys after o.key means
        by_result after o means same true e = read_means keys after same o.key means e
        by_result after o means same false e = absurd (no_write means e)

    pub unrefused : (event : Event Op) → RefusalChangesNothing D world event
    unrefused event turn takes refused key = ap (λ (n : Node Kind Op Shown). n.entries key) (refused_leaves D turn.before turn.fate turn.input refused).0

  -- THREAD STEPS

  each_section : (members : ℕ) (keys : List (KeyDecl Kind)) (p : Playing Kind Op Shown) (steps : List (RunStep Op)) (lines : List (List (Line Op Shown))) (last : Playing Kind Op Shown) (plays : PlaysAll D p steps lines last) → AllByRecursion IsRunStep steps → Runs D members keys p
      → EachSection D (CallsStandOnce D) p steps lines last plays
  each_section members keys p [] lines last plays ok runs = tt
  each_section members keys p (Plain step ∷ steps) lines last plays ok runs = each_section members keys plays.2 steps plays.1 last plays.4 ok.1 (plays_runs D members keys p plays.2 (Plain step) plays.0 ok.0 plays.3 runs)
  each_section members keys p (Threads clients ∷ steps) lines last plays ok runs = (
    calls_stand_once D members keys p runs clients plays.3.0 plays.3.1 plays.3.2,
    each_section members keys plays.2 steps plays.1 last plays.4 ok.1 (plays_runs D members keys p plays.2 (Threads clients) plays.0 ok.0 plays.3 runs),
  )

module _ {Kind Op Shown : Type 0} (D : Replication Kind Op Shown) (blocked_stays : BlockedStays D) (answers : KeeperAnswers) (members : ℕ) (keys : List (KeyDecl Kind)) (steps : List (RunStep Op)) (some : 1 ≤ members) (few : members ≤ identity_limit) (ok : AllByRecursion IsRunStep steps)
    (lines : List (List (Line Op Shown))) (last : Playing Kind Op Shown) (plays : PlaysAll D (opening answers members keys) steps lines last) where
  abbrev first : Playing Kind Op Shown
  first = opening answers members keys

  abbrev moment : ℕ → Playing Kind Op Shown
  moment = stands_before D (opening answers members keys) steps lines last plays

  is_run : IsRun D members keys last.events last.world
  is_run = all_run D members keys (opening answers members keys) last steps lines ok plays (no_events D members keys answers some few)

  run_until : (before rest : List (Event Op)) → last.events ≡ before ++ rest → IsRun D members keys before (run D (start members keys) before)
  run_until before rest e = run_before D members keys last.events before rest last.world e is_run

  abbrev Tells : List (Event Op) → Type 0
  Tells = DigestsTellFrom D (start members keys)

  -- SETTLES

  leaves : (n messages blocked : ℕ) → TellsSettle D answers members keys steps lines last plays n messages blocked → LeavesSettled D answers members keys steps lines last plays Tells n messages blocked
  leaves n messages blocked t = record {
    few = subst (λ (x : Playing Kind Op Shown). messages ≤ 12 * (length x.world.view.members - 1)) (sym s.p_is) (sends_few D members keys s.p run_there messages blocked done);
    second_number = subst (λ (x : Playing Kind Op Shown). HasBlocked D x blocked) (sym s.p_is) (counts_blocked D members keys s.p run_there messages blocked done);
    settled = λ digests.
        let same : moment (suc n) ≡ record (settle D s.p) { lines = [] } = s.q_is ∙ after in
        subst (λ (x : Playing Kind Op Shown). IsSettled D x.world) (sym same) (leaves_settled D members keys s.p run_there messages blocked done (subst (λ (x : Playing Kind Op Shown). Tells x.events) same digests) blocked_stays);
  }
    where
      s : StepAt D (opening answers members keys) steps lines last plays n t.stands.told
      s = step_at D (opening answers members keys) steps lines last plays ok n t.stands.told t.stands.step

      run_there : IsRun D members keys s.p.events s.p.world
      run_there = subst (Runs D members keys) s.p_is (before_runs D members keys (opening answers members keys) steps lines last plays ok (no_events D members keys answers some few) n)

      silent : s.p.lines ≡ []
      silent = subst (λ (x : Playing Kind Op Shown). x.lines ≡ []) s.p_is (before_silent D (opening answers members keys) steps lines last plays refl n)

      its_step : s.step ≡ Plain ScriptStep.Settle
      its_step = let e : Some s.step ≡ Some (Plain ScriptStep.Settle) = sym s.step_is ∙ t.settles in cc e

      goes : Plays D s.p (Plain ScriptStep.Settle) s.told s.q
      goes = subst (λ x. Plays D s.p x s.told s.q) its_step s.goes

      after : s.q ≡ record (settle D s.p) { lines = [] }
      after = goes.1

      its_line : Told Op Shown
      its_line = record { head = Head.SettleHead; answer = settle_answer D s.p; posts = []; ended = None }

      told_is : s.told ≡ plain_line its_line ∷ []
      told_is = goes.0 ∙ ap (λ (ls : List (Told Op Shown)). map plain_line (ls ++ its_line ∷ [])) silent

      done : settle_answer D s.p ≡ Answer.Settled messages blocked
      done =
          let line : Some (plain_line its_line) ≡ Some t.line = ap (λ ls. slice_get (lines_by None ls) 0) (sym told_is ∙ s.told_is) ∙ t.stands.here in
          let same : plain_line its_line ≡ t.line = cc line in
          ap (λ (l : Line Op Shown). l.answer) same ∙ t.answer

  pub headline : TheHeadline D answers members keys steps lines last plays (DigestsTellFrom D (start members keys))
  headline = record {
    is_run = is_run;
    histories = λ before rest e. all_have _ _ (runs_are_safe D members keys before _ (run_until before rest e)).logs;
    pruned = λ before rest e. unions_are_pruned D _ _ (runs_are_safe D members keys before _ (run_until before rest e));
    meanings = λ before event rest e. tells_meaning D members keys before (run D (start members keys) before) (run_until before (event ∷ rest) e) event;
    alike = λ before rest e. alike D members keys before (run D (start members keys) before) (run_until before rest e);
    reads = gets_include_seen D answers members keys steps some few ok lines last plays;
    settled = λ n messages blocked tells. leaves n messages blocked tells;
    calls = each_section D members keys (opening answers members keys) steps lines last plays ok (no_events D members keys answers some few);
    refused = λ before event rest e. unrefused D members keys before (run D (start members keys) before) (run_until before (event ∷ rest) e) event;
  }
