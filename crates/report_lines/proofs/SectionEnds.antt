-- Where the steps of a script that may have clients end: the keepers' answers stay as they are, and nothing is left told.
use Rattle.std.proofs.Common.{◌≡◌, ℕ, suc, ◌+◌, List, [], ◌∷◌, ◌++◌, length, flat_map, Option, None, Some, refl, sym, ap, subst, ◌∙◌, arith, append_assoc}
use Rattle.std.specs.Prelude.{slice_get}
use Rattle.std.proofs.lemmas.List.{append-nil}
use Rattle.model_members.specs.DataType.{Replication}
use Rattle.model_members.specs.Script.{KeeperAnswers, ScriptStep, Playing, played, last_of}
use Rattle.model_kinds.specs.declared.operation.Op.{Op}
use Rattle.theorem_sections.specs.Sections.{Command, Client, Made, Section, Move, Line, step_of, pending_op, opened, commanded, commanded_by, timed_out, timed_out_made, timed_out_op, moved, moved_all}
use Rattle.theorem_sections.specs.Sections.Move.{NextCommand, NextMessage, ItsTimeout}
use Rattle.theorem_sections.specs.Runs.{RunStep, Plays, PlaysAll, line_text, lines_text}
use Rattle.report_lines.proofs.SameAnswers.{Has, step_has}

module _ {Kind Shown : Type 0} (D : Replication Kind Op Shown) (answers : KeeperAnswers) where
  abbrev pub Quiet : Playing Kind Op Shown → Type 0
  Quiet p = (p.lines ≡ []) × Has D answers p

  after_step : (p : Playing Kind Op Shown) (s : ScriptStep Op) → Quiet p → Quiet (record (played D p s) { lines = [] })
  after_step p s quiet = (refl, step_has D answers p s quiet.1)

  commanded_by_quiet : (s : Section Kind Op Shown) (c : ℕ) (client : Client Op Shown) (commands : List (Command Op)) → Quiet s.playing → Quiet (commanded_by D s c client commands).playing
  commanded_by_quiet s c client [] quiet = quiet
  commanded_by_quiet s c client (command ∷ rest) quiet = after_step s.playing (step_of command) quiet

  commanded_quiet : (s : Section Kind Op Shown) (c : ℕ) (client : Option (Client Op Shown)) → Quiet s.playing → Quiet (commanded D s c client).playing
  commanded_quiet s c None quiet = quiet
  commanded_quiet s c (Some client) quiet = commanded_by_quiet s c client client.to_come quiet

  timed_out_op_quiet : (s : Section Kind Op Shown) (c : ℕ) (client : Client Op Shown) (i : ℕ) (op : Option ℕ) → Quiet s.playing → Quiet (timed_out_op D s c client i op).playing
  timed_out_op_quiet s c client i None quiet = quiet
  timed_out_op_quiet s c client i (Some op) quiet = after_step s.playing (ScriptStep.Timeout i op) quiet

  timed_out_made_quiet : (s : Section Kind Op Shown) (c : ℕ) (client : Client Op Shown) (made : Option (Made Op Shown)) → Quiet s.playing → Quiet (timed_out_made D s c client made).playing
  timed_out_made_quiet s c client None quiet = quiet
  timed_out_made_quiet s c client (Some made) quiet = timed_out_op_quiet s c client made.at (pending_op made.line.answer) quiet

  timed_out_quiet : (s : Section Kind Op Shown) (c : ℕ) (client : Option (Client Op Shown)) → Quiet s.playing → Quiet (timed_out D s c client).playing
  timed_out_quiet s c None quiet = quiet
  timed_out_quiet s c (Some client) quiet = timed_out_made_quiet s c client (last_of client.made) quiet

  moved_quiet : (s : Section Kind Op Shown) (m : Move) → Quiet s.playing → Quiet (moved D s m).playing
  moved_quiet s (NextCommand c) quiet = commanded_quiet s c (slice_get s.clients c) quiet
  moved_quiet s (NextMessage from to) quiet = after_step s.playing (ScriptStep.Deliver from to (Some (s.due from to))) quiet
  moved_quiet s (ItsTimeout c) quiet = timed_out_quiet s c (slice_get s.clients c) quiet

  moved_all_quiet : (s : Section Kind Op Shown) (ms : List Move) → Quiet s.playing → Quiet (moved_all D s ms).playing
  moved_all_quiet s [] quiet = quiet
  moved_all_quiet s (m ∷ ms) quiet = moved_all_quiet (moved D s m) ms (moved_quiet s m quiet)

  plays_quiet : (p q : Playing Kind Op Shown) (s : RunStep Op) (lines : List (Line Op Shown)) → Plays D p s lines q → Quiet p → Quiet q
  plays_quiet p q (RunStep.Plain s) lines h quiet = subst Quiet (sym h.1) (after_step p s quiet)
  plays_quiet p q (RunStep.Threads clients) lines h quiet =
      subst Quiet (sym h.4) (subst (λ (end : Section Kind Op Shown). Quiet end.playing) (sym h.2.leads) (moved_all_quiet (opened p clients) h.0 (refl, quiet.1)))

  pub all_quiet : (p last : Playing Kind Op Shown) (steps : List (RunStep Op)) (lines : List (List (Line Op Shown))) → PlaysAll D p steps lines last → Quiet p → Quiet last
  all_quiet p last [] lines h quiet = subst Quiet (sym h.1) quiet
  all_quiet p last (s ∷ steps) lines h quiet = all_quiet h.2 last steps h.1 h.4 (plays_quiet p h.2 s h.0 h.3 quiet)

-- ONE STEP MORE

module _ {Kind Shown : Type 0} (D : Replication Kind Op Shown) where
  pub plays_more : (p q r : Playing Kind Op Shown) (ss : List (RunStep Op)) (s : RunStep Op) (ls : List (List (Line Op Shown))) (l : List (Line Op Shown)) → PlaysAll D p ss ls q → Plays D q s l r → PlaysAll D p (ss ++ s ∷ []) (ls ++ l ∷ []) r
  plays_more p q r [] s ls l h next = (l, [], r, subst (λ x. Plays D x s l r) h.1 next, (refl, refl), ap (λ xs. xs ++ l ∷ []) h.0)
  plays_more p q r (x ∷ ss) s ls l h next = (h.0, h.1 ++ l ∷ [], h.2, h.3, plays_more h.2 q r ss s h.1 l h.4 next, ap (λ xs. xs ++ l ∷ []) h.5)

  pub lines_count : (p q : Playing Kind Op Shown) (ss : List (RunStep Op)) (ls : List (List (Line Op Shown))) → PlaysAll D p ss ls q → length ls ≡ length ss
  lines_count p q [] ls h = ap length h.0
  lines_count p q (x ∷ ss) ls h = ap length h.5 ∙ ap suc (lines_count h.2 q ss h.1 h.4)

module _ {Shown : Type 0} (value_text : Shown → List ℕ) where
  pub text_more : (n : ℕ) (ls : List (List (Line Op Shown))) (l : List (Line Op Shown)) → lines_text value_text n (ls ++ l ∷ []) ≡ lines_text value_text n ls ++ flat_map (line_text value_text (n + length ls)) l
  text_more n [] l = let same : n ≡ n + 0 = omega arith in append-nil (flat_map (line_text value_text n) l) ∙ ap (λ k. flat_map (line_text value_text k) l) same
  text_more n (x ∷ ls) l =
      let on : suc n + length ls ≡ n + length (x ∷ ls) = omega arith in
      ap (λ t. flat_map (line_text value_text n) x ++ t) (text_more (suc n) ls l ∙ ap (λ k. lines_text value_text (suc n) ls ++ flat_map (line_text value_text k) l) on)
      ∙ sym (append_assoc (flat_map (line_text value_text n) x) (lines_text value_text (suc n) ls) (flat_map (line_text value_text (n + length (x ∷ ls))) l))
