-- What holds of each run of a script that may have clients.
use Rattle.std.proofs.Common.{◌≡◌, ℕ, ◌≤◌, List, [], ◌∷◌, ◌++◌, None, refl, ap, subst, ◌∙◌}
use Rattle.std.specs.Prelude.{map}
use Rattle.std.specs.List.{AllByRecursion}
use Rattle.model_history.specs.Table.{identity_limit}
use Rattle.model_members.specs.Node.{KeyDecl}
use Rattle.model_members.specs.Script.{KeeperAnswers, Playing, ScriptStep, Told, Head, opening, settle}
use Rattle.model_members.specs.World.{Event, IsRun, IsLawful, AreLawful, start}
use Rattle.model_kinds.specs.declared.kind.Kind.{Kind}
use Rattle.model_kinds.specs.declared.operation.Op.{Op}
use Rattle.model_kinds.specs.declared.shown.Shown.{Shown}
use Rattle.data_value.specs.DataSpelled.{history_byte, history_spelled}
use Rattle.theorem_runs.proofs.Playing.{no_events, step_is_run}
use Rattle.theorem_runs.proofs.Safety.{run_before}
use Rattle.theorem_operations.specs.Quorum.{WriteThenRead, IsUnchanged, all_events, at_end}
use Rattle.theorem_operations.proofs.Moments.{lawful_rest}
use Rattle.theorem_operations.proofs.QuorumTheorem.{at_once, later}
use Rattle.theorem_sections.specs.Sections.{Line}
use Rattle.theorem_sections.specs.Runs.{RunStep, IsRunStep, PlaysAll, plain_line}
use Rattle.theorem_sections.proofs.Sectioned.{all_run}
use Rattle.theorem_settling.specs.Settling.{BlockedStays, settle_answer}
use Rattle.theorem_settling.proofs.Settled.{leaves_settled, sends_few, counts_blocked}
use Rattle.theorem_digests.proofs.ByDigests.{distinct_tell}
use Rattle.theorem_digests.proofs.FewRecords.{makes_few}
use Rattle.theorem_settling_kinds.proofs.SixKindsBlocked.{six_stay}
use Rattle.report_lines.proofs.SectionEnds.{all_quiet}
use Rattle.top_call.specs.EachRun.{Lines, SettlesAreSo, TellsSettle, IsSeen, ReadsIncludeWrites, settle_told, six}

pub six_stays : BlockedStays six
six_stays = λ kind owner r other entry apart. six_stay kind owner r other entry

-- STEPS IN TWO PARTS

-- some steps were played, and then others
record InTwo (p r : Playing Kind Op Shown) (xs ys : List (RunStep Op)) (lines : Lines) : Type 0 where
  early : Lines
  late : Lines
  mid : Playing Kind Op Shown
  first : PlaysAll six p xs early mid
  then : PlaysAll six mid ys late r
  are : lines ≡ early ++ late

in_two : (p r : Playing Kind Op Shown) (xs ys : List (RunStep Op)) (lines : Lines) → PlaysAll six p (xs ++ ys) lines r → InTwo p r xs ys lines
in_two p r [] ys lines h = record { early = []; late = lines; mid = p; first = (refl, refl); then = h; are = refl }
in_two p r (x ∷ xs) ys lines h =
    let parts = in_two h.2 r xs ys h.1 h.4 in
    record {
      early = h.0 ∷ parts.early;
      late = parts.late;
      mid = parts.mid;
      first = (h.0, parts.early, h.2, h.3, parts.first, refl);
      then = parts.then;
      are = h.5 ∙ ap (λ (ls : Lines). h.0 ∷ ls) parts.are;
    }

module _ (answers : KeeperAnswers) (members : ℕ) (keys : List (KeyDecl Kind)) (some : 1 ≤ members) (few : members ≤ identity_limit) where
  runs : (steps : List (RunStep Op)) → AllByRecursion IsRunStep steps → (lines : Lines) (p : Playing Kind Op Shown) → PlaysAll six (opening answers members keys) steps lines p → IsRun six members keys p.events p.world
  runs steps ok lines p plays = all_run six members keys (opening answers members keys) p steps lines ok plays (no_events six members keys answers some few)

  -- SETTLES

  pub settles_are_so : (steps : List (RunStep Op)) → AllByRecursion IsRunStep steps → (lines : Lines) (p : Playing Kind Op Shown) → PlaysAll six (opening answers members keys) steps lines p → SettlesAreSo members keys p
  settles_are_so steps ok lines p plays =
      let is_run = runs steps ok lines p plays in
      let ends = step_is_run six members keys p ScriptStep.Settle tt is_run in
      record {
        few = λ messages blocked answer. sends_few six members keys p is_run messages blocked answer;
        second_number = λ messages blocked answer. counts_blocked six members keys p is_run messages blocked answer;
        settled = λ messages blocked answer distinct.
            leaves_settled six members keys p is_run messages blocked answer (distinct_tell six (makes_few six refl) history_byte history_spelled refl members keys (settle six p).events (settle six p).world ends distinct) six_stays;
      }

  pub tells_settle : (front rest : List (RunStep Op)) → AllByRecursion IsRunStep front → (lines : Lines) (last : Playing Kind Op Shown) → PlaysAll six (opening answers members keys) (front ++ RunStep.Plain ScriptStep.Settle ∷ rest) lines last → TellsSettle members keys answers front rest lines last
  tells_settle front rest ok lines last plays =
      let parts = in_two (opening answers members keys) last front (RunStep.Plain ScriptStep.Settle ∷ rest) lines plays in
      let quiet = all_quiet six answers (opening answers members keys) parts.mid front parts.early parts.first (refl, refl) in
      let line : map plain_line (settle six parts.mid).lines ≡ settle_told parts.mid ∷ [] =
      ap (λ (ls : List (Told Op Shown)). map plain_line (ls ++ record { head = Head.SettleHead; answer = settle_answer six parts.mid; posts = []; ended = None } ∷ [])) quiet.0 in
      record {
        early = parts.early;
        late = parts.then.1;
        p = parts.mid;
        plays = parts.first;
        told = parts.are ∙ ap (λ (ls : Lines). parts.early ++ ls) (parts.then.5 ∙ ap (λ (l : List (Line Op Shown)). l ∷ parts.then.1) (parts.then.3.0 ∙ line));
        goes_on = subst (λ (q : Playing Kind Op Shown). PlaysAll six q rest parts.then.1 last) parts.then.3.1 parts.then.4;
        so = settles_are_so front ok parts.early parts.mid parts.first;
      }

  -- MAJORITY READS

  module _ (steps : List (RunStep Op)) (ok : AllByRecursion IsRunStep steps) (lines : Lines) (last : Playing Kind Op Shown) (plays : PlaysAll six (opening answers members keys) steps lines last) where
    unchanged : (r : WriteThenRead Op) (rest : List (Event Op)) → IsSeen members keys last.events r rest → IsUnchanged six members keys r
    unchanged r rest seen =
        record {
          is_run = run_before six members keys last.events (all_events r) rest last.world seen.way (runs steps ok lines last plays);
          installed = seen.installed;
          between = seen.between;
          after = seen.after;
          succeeded = seen.succeeded;
        }

    lawful_next : (r : WriteThenRead Op) (event : Event Op) (rest : List (Event Op)) → IsSeen members keys last.events r (event ∷ rest) → IsLawful six (at_end six members keys r) event
    lawful_next r event rest seen =
        (lawful_rest six (start members keys) (all_events r) (event ∷ rest) (subst (λ (es : List (Event Op)). AreLawful six (start members keys) es) seen.way (runs steps ok lines last plays).lawful)).0

    pub reads_include_writes : ReadsIncludeWrites members keys last.events
    reads_include_writes = record {
      at_once = λ r rest seen reply replied ends. at_once six members keys r (unchanged r rest seen) reply replied ends;
      later = λ r event rest seen op replied end finishes its. later six members keys r (unchanged r (event ∷ rest) seen) op replied event end (lawful_next r event rest seen) finishes its;
    }
