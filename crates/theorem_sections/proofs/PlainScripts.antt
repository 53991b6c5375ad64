-- A script without thread steps has one run, and one report.
use Rattle.std.proofs.Common.{◌≡◌, ℕ, suc, refl, sym, ap, subst, ◌∙◌, List, [], ◌∷◌, ◌++◌, map, Option, None, Some}
use Rattle.std.specs.Prelude.{flat_map, option_map, decimal}
use Rattle.model_history.specs.Texts.{Text}
use Rattle.model_members.specs.DataType.{Replication}
use Rattle.model_members.specs.Node.{KeyDecl, Finished}
use Rattle.model_members.specs.Script.{ScriptStep, Playing, Told, played, played_all, lines_of, KeeperAnswers, opening}
use Rattle.model_members.specs.Report.{words, line_of, head_words, answer_text, post_words, ended_words, told_text, steps_text, report, final_block}
use Rattle.theorem_sections.specs.Sections.{Line, Ending}
use Rattle.theorem_sections.specs.Runs.{RunStep, plain_line, PlaysAll, HasReport, ending_words, line_text, lines_text}

module _ {Kind Op Shown : Type 0} (D : Replication Kind Op Shown) where
  abbrev pub plain_lines : Playing Kind Op Shown → List (ScriptStep Op) → List (List (Line Op Shown))
  plain_lines p steps = map (map plain_line) (lines_of D p steps)

  pub plays_plain : (p : Playing Kind Op Shown) (steps : List (ScriptStep Op)) → PlaysAll D p (map RunStep.Plain steps) (plain_lines p steps) (played_all D p steps)
  plays_plain p [] = (refl, refl)
  plays_plain p (s ∷ ss) =
      let q = record (played D p s) { lines = [] } in
      (map plain_line (played D p s).lines, plain_lines q ss, q, (refl, refl), plays_plain q ss, refl)

  pub plain_plays : (p last : Playing Kind Op Shown) (steps : List (ScriptStep Op)) (lines : List (List (Line Op Shown))) → PlaysAll D p (map RunStep.Plain steps) lines last
      → (lines ≡ plain_lines p steps) × (last ≡ played_all D p steps)
  plain_plays p last [] lines h = h
  plain_plays p last (s ∷ ss) lines h =
      let q = record (played D p s) { lines = [] } in
      let more = plain_plays q last ss h.1 (subst (λ r. PlaysAll D r (map RunStep.Plain ss) h.1 last) h.3.1 h.4) in (
        h.5 ∙ ap (λ first. first ∷ h.1) h.3.0 ∙ ap (λ rest. map plain_line (played D p s).lines ∷ rest) more.0,
        more.1,
      )

module _ {Kind Op Shown : Type 0} (D : Replication Kind Op Shown) (value_text : Shown → Text) where
  same_ending : (ended : Option (Finished Shown)) → ending_words value_text (option_map Ending.Ended ended) ≡ ended_words value_text ended
  same_ending None = refl
  same_ending (Some finished) = refl

  same_line : (n : ℕ) (told : Told Op Shown) → line_text value_text n (plain_line told) ≡ told_text D value_text n told
  same_line n told =
      ap (λ end. line_of (words (((decimal n ∷ []) ++ head_words told.head) ++ answer_text value_text told.answer ∷ post_words told.posts ++ end))) (same_ending told.ended)

  same_lines : (n : ℕ) (lines : List (Told Op Shown)) → flat_map (line_text value_text n) (map plain_line lines) ≡ flat_map (told_text D value_text n) lines
  same_lines n [] = refl
  same_lines n (told ∷ lines) = ap (λ text. text ++ flat_map (line_text value_text n) (map plain_line lines)) (same_line n told) ∙ ap (λ text. told_text D value_text n told ++ text) (same_lines n lines)

  pub same_text : (n : ℕ) (steps : List (List (Told Op Shown))) → lines_text value_text n (map (map plain_line) steps) ≡ steps_text D value_text n steps
  same_text n [] = refl
  same_text n (lines ∷ steps) =
      ap (λ text. text ++ lines_text value_text (suc n) (map (map plain_line) steps)) (same_lines n lines) ∙ ap (λ text. flat_map (told_text D value_text n) lines ++ text) (same_text (suc n) steps)

  module _ (answers : KeeperAnswers) (members : ℕ) (keys : List (KeyDecl Kind)) (steps : List (ScriptStep Op)) where
    abbrev at_start : Playing Kind Op Shown
    at_start = opening answers members keys

    pub has_report : (text : Text) → text ≡ report D value_text answers members keys steps → HasReport D value_text answers members keys (map RunStep.Plain steps) text
    has_report text told =
        record {
          lines = plain_lines D at_start steps;
          last = played_all D at_start steps;
          plays = plays_plain D at_start steps;
          told = told ∙ ap (λ lines. lines ++ final_block D value_text (played_all D at_start steps).world) (sym (same_text 1 (lines_of D at_start steps)));
        }

    pub is_report : (text : Text) → HasReport D value_text answers members keys (map RunStep.Plain steps) text → text ≡ report D value_text answers members keys steps
    is_report text h =
        let same = plain_plays D at_start h.last steps h.lines h.plays in
        h.told ∙ ap (λ lines. lines_text value_text 1 lines ++ final_block D value_text h.last.world) same.0
        ∙ ap (λ (last : Playing Kind Op Shown). lines_text value_text 1 (plain_lines D at_start steps) ++ final_block D value_text last.world) same.1
        ∙ ap (λ lines. lines ++ final_block D value_text (played_all D at_start steps).world) (same_text 1 (lines_of D at_start steps))
