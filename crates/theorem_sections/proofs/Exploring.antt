-- All sections of some clients, tried one move after another.
use Rattle.std.proofs.Common.{◌≡◌, ℕ, zero, suc, refl, sym, ap, subst, ◌∙◌, true, false, Bool, List, [], ◌∷◌, ◌++◌, map, Option, None, Some, ◌⊎◌, inl, inr}
use Rattle.std.specs.Prelude.{◌&&◌, ◌||◌, ◌==◌, slice_get, is_some}
use Rattle.std.specs.List.{list_any, list_all}
use Rattle.std.specs.Str.{bytes_eq}
use Rattle.std.proofs.lemmas.Bool.Decides.{Decides-eqb}
use Rattle.model_history.specs.Texts.{Text}
use Rattle.model_members.specs.DataType.{Replication}
use Rattle.model_members.specs.Node.{KeyDecl}
use Rattle.model_members.specs.World.{World, message_at}
use Rattle.model_members.specs.Script.{Playing, ScriptStep, KeeperAnswers, opening, played}
use Rattle.model_members.specs.Report.{final_block}
use Rattle.model_members.proofs.Steps.{bytes_eq-tells}
use Rattle.theorem_sections.specs.Sections.{Command, Section, Move, Line, may_come, may_command, may_call_timeout, is_over, moved, moved_all, may_all_come, opened, running, world_of, has_room, section_lines, IsSection}
use Rattle.theorem_sections.specs.Sections.Move.{NextCommand, NextMessage, ItsTimeout}
use Rattle.theorem_sections.specs.Runs.{RunStep, HasReport, lines_text, plain_line}
use Rattle.theorem_operations.proofs.Lists.{first_true, second_true}

-- TESTS

-- tried only where the test holds
abbrev pub when : Bool → (Unit {0} → Bool) → Bool
when true f = f tt
when false f = true

pub when_true : (b : Bool) (f : Unit {0} → Bool) → b ≡ true → when b f ≡ true → f tt ≡ true
when_true true f e h = h
when_true false f e h = absurd (cc e)

abbrev pub each_place : {X : Type 0} → List X → (ℕ → Bool) → Bool
each_place [] p = true
each_place (x ∷ xs) p = p zero && each_place xs (λ i. p (suc i))

pub at_place_of : {X : Type 0} (xs : List X) (i : ℕ) (x : X) (p : ℕ → Bool) → slice_get xs i ≡ Some x → each_place xs p ≡ true → p i ≡ true
at_place_of [] i x p e h = absurd (cc e)
at_place_of (y ∷ xs) zero x p e h = first_true (p zero) (each_place xs (λ i. p (suc i))) h
at_place_of (y ∷ xs) (suc i) x p e h = at_place_of xs i x (λ i. p (suc i)) e (second_true (p zero) (each_place xs (λ i. p (suc i))) h)

all_at_by : (y x : ℕ) (xs : List ℕ) (p : ℕ → Bool) → list_all p (y ∷ xs) ≡ true → (list_any (λ i. i == x) xs ≡ true → p x ≡ true) → (b : Bool) → (y == x) ≡ b → (b || list_any (λ i. i == x) xs) ≡ true → p x ≡ true
all_at_by y x xs p h later true same e = subst (λ i. p i ≡ true) ((Decides-eqb y x).0 same) (first_true (p y) (list_all p xs) h)
all_at_by y x xs p h later false same e = later e

pub all_at : (xs : List ℕ) (x : ℕ) (p : ℕ → Bool) → list_any (λ i. i == x) xs ≡ true → list_all p xs ≡ true → p x ≡ true
all_at [] x p e h = absurd (cc e)
all_at (y ∷ xs) x p e h = all_at_by y x xs p h (λ more. all_at xs x p more (second_true (p y) (list_all p xs) h)) (y == x) refl e

pub some_of : {X : Type 0} (f : Option X → Bool) (o : Option X) → f None ≡ false → f o ≡ true → (x : X) × (o ≡ Some x)
some_of f None none e = absurd (cc (sym none ∙ e))
some_of f (Some x) none e = (x, refl)

-- EVERY MOVE

module _ {Kind Op Shown : Type 0} (D : Replication Kind Op Shown) where
  -- the test holds wherever so many moves end, and no more are possible
  abbrev pub explored : ℕ → Section Kind Op Shown → (Section Kind Op Shown → Bool) → Bool
  explored zero s test = false
  explored (suc n) s test =
      when (is_over D s) (λ _. test s)
      && (each_place s.clients (λ c. when (may_come D s (NextCommand c)) (λ _. explored n (moved D s (NextCommand c)) test) && when (may_come D s (ItsTimeout c)) (λ _. explored n (moved D s (ItsTimeout c)) test))
      && list_all (λ from. list_all (λ to. when (may_come D s (NextMessage from to)) (λ _. explored n (moved D s (NextMessage from to)) test)) (running (world_of s))) (running (world_of s)))

  module _ (test : Section Kind Op Shown → Bool) where
    -- one move of those that are tried
    pub tried : (n : ℕ) (s : Section Kind Op Shown) (m : Move) → explored (suc n) s test ≡ true → may_come D s m ≡ true → explored n (moved D s m) test ≡ true
    tried n s (NextCommand c) e may =
        let there = some_of (may_command D s) (slice_get s.clients c) refl may in
        let each = first_true _ _ (second_true (when (is_over D s) (λ _. test s)) _ e) in
        when_true (may_come D s (NextCommand c)) (λ _. explored n (moved D s (NextCommand c)) test) may
        (first_true _ _ (at_place_of s.clients c there.0 _ there.1 each))
    tried n s (ItsTimeout c) e may =
        let there = some_of (may_call_timeout D s) (slice_get s.clients c) refl may in
        let each = first_true _ _ (second_true (when (is_over D s) (λ _. test s)) _ e) in
        when_true (may_come D s (ItsTimeout c)) (λ _. explored n (moved D s (ItsTimeout c)) test) may
        (second_true _ _ (at_place_of s.clients c there.0 _ there.1 each))
    tried n s (NextMessage from to) e may =
        let here = list_any (λ i. i == from) (running (world_of s)) in
        let there = list_any (λ i. i == to) (running (world_of s)) in
        let due = is_some (message_at (world_of s) from to (s.due from to)) in
        let room = has_room D ((world_of s).nodes to) in
        let each = second_true _ _ (second_true (when (is_over D s) (λ _. test s)) _ e) in
        when_true (may_come D s (NextMessage from to)) (λ _. explored n (moved D s (NextMessage from to)) test) may
        (all_at (running (world_of s)) to _ (second_true here there (first_true (here && there) due (first_true (here && there && due) room may)))
        (all_at (running (world_of s)) from _ (first_true here there (first_true (here && there) due (first_true (here && there && due) room may))) each))

    pub found : (n : ℕ) (s : Section Kind Op Shown) (ms : List Move) → explored n s test ≡ true → may_all_come D s ms ≡ true → is_over D (moved_all D s ms) ≡ true → test (moved_all D s ms) ≡ true
    found zero s ms e lawful over = absurd (cc e)
    found (suc n) s [] e lawful over = when_true (is_over D s) (λ _. test s) over (first_true _ _ e)
    found (suc n) s (m ∷ ms) e lawful over = found n (moved D s m) ms (tried n s m e (first_true _ _ lawful)) (second_true _ _ lawful) over

-- A SCRIPT OF ONE THREAD STEP

module _ {Kind Op Shown : Type 0} (D : Replication Kind Op Shown) (value_text : Shown → Text) where
  abbrev pub text_of : Section Kind Op Shown → Text
  text_of end = lines_text value_text 1 (section_lines end ∷ []) ++ final_block D value_text end.playing.world

  module _ (answers : KeeperAnswers) (members : ℕ) (keys : List (KeyDecl Kind)) (clients : List (List (Command Op))) (text : Text) where
    abbrev pub at_start : Section Kind Op Shown
    at_start = opened (opening answers members keys) clients

    pub has_this : (moves : List Move) → may_all_come D at_start moves ≡ true → is_over D (moved_all D at_start moves) ≡ true → text ≡ text_of (moved_all D at_start moves)
        → HasReport D value_text answers members keys (RunStep.Threads clients ∷ []) text
    has_this moves lawful over told =
        let end = moved_all D at_start moves in
        let s : IsSection D (opening answers members keys) clients moves end = record { lawful = lawful; leads = refl; over = over } in
        record {
          lines = section_lines end ∷ [];
          last = end.playing;
          plays = (section_lines end, [], end.playing, (moves, end, s, refl, refl), (refl, refl), refl);
          told = told;
        }

    pub has_only_this : (n : ℕ) → explored D n at_start (λ end. bytes_eq (text_of end) text) ≡ true → (other : Text) → HasReport D value_text answers members keys (RunStep.Threads clients ∷ []) other → other ≡ text
    has_only_this n all other h =
        let section = h.plays.3.2 in
        let end = h.plays.3.1 in
        let reached = found D (λ end. bytes_eq (text_of end) text) n at_start h.plays.3.0 all section.lawful (subst (λ e. is_over D e ≡ true) section.leads section.over) in
        let told : text_of end ≡ text = bytes_eq-tells (text_of end) text (subst (λ e. bytes_eq (text_of e) text ≡ true) (sym section.leads) reached) in
        let lines : h.lines ≡ section_lines end ∷ [] = h.plays.5 ∙ ap (λ rest. h.plays.0 ∷ rest) h.plays.4.0 ∙ ap (λ first. first ∷ []) h.plays.3.3 in
        let last : h.last ≡ end.playing = h.plays.4.1 ∙ h.plays.3.4 in
        h.told ∙ ap (λ ls. lines_text value_text 1 ls ++ final_block D value_text h.last.world) lines
        ∙ ap (λ (p : Playing Kind Op Shown). lines_text value_text 1 (section_lines end ∷ []) ++ final_block D value_text p.world) last
        ∙ told

    either_text : (end : Section Kind Op Shown) (a b : Text) → (c d : Bool) → bytes_eq (text_of end) a ≡ c → bytes_eq (text_of end) b ≡ d → (c || d) ≡ true → (text_of end ≡ a) ⊎ (text_of end ≡ b)
    either_text end a b true d is is' e = inl (bytes_eq-tells (text_of end) a is)
    either_text end a b false true is is' e = inr (bytes_eq-tells (text_of end) b is')
    either_text end a b false false is is' e = absurd (cc e)

    -- this text, or another one
    pub has_only_these : (second : Text) (n : ℕ) → explored D n at_start (λ end. bytes_eq (text_of end) text || bytes_eq (text_of end) second) ≡ true → (other : Text) → HasReport D value_text answers members keys (RunStep.Threads clients ∷ []) other
        → (other ≡ text) ⊎ (other ≡ second)
    has_only_these second n all other h =
        let section = h.plays.3.2 in
        let end = h.plays.3.1 in
        let reached = found D (λ end. bytes_eq (text_of end) text || bytes_eq (text_of end) second) n at_start h.plays.3.0 all section.lawful (subst (λ e. is_over D e ≡ true) section.leads section.over) in
        let tells = either_text end text second (bytes_eq (text_of end) text) (bytes_eq (text_of end) second) refl refl (subst (λ e. (bytes_eq (text_of e) text || bytes_eq (text_of e) second) ≡ true) (sym section.leads) reached) in
        let lines : h.lines ≡ section_lines end ∷ [] = h.plays.5 ∙ ap (λ rest. h.plays.0 ∷ rest) h.plays.4.0 ∙ ap (λ first. first ∷ []) h.plays.3.3 in
        let last : h.last ≡ end.playing = h.plays.4.1 ∙ h.plays.3.4 in
        let told : other ≡ text_of end = h.told ∙ ap (λ ls. lines_text value_text 1 ls ++ final_block D value_text h.last.world) lines ∙ ap (λ (p : Playing Kind Op Shown). lines_text value_text 1 (section_lines end ∷ []) ++ final_block D value_text p.world) last in
        elim tells [ inl is ↦ inl (told ∙ is) | inr is ↦ inr (told ∙ is) ]

    -- A PLAIN STEP AFTER IT

    module _ (step : ScriptStep Op) where
      abbrev pub text_then : Playing Kind Op Shown → List (Line Op Shown) → Text
      text_then p lines = lines_text value_text 1 (lines ∷ map plain_line (played D p step).lines ∷ []) ++ final_block D value_text (played D p step).world

      pub has_this_then : (moves : List Move) → may_all_come D at_start moves ≡ true → is_over D (moved_all D at_start moves) ≡ true → text ≡ text_then (moved_all D at_start moves).playing (section_lines (moved_all D at_start moves))
          → HasReport D value_text answers members keys (RunStep.Threads clients ∷ RunStep.Plain step ∷ []) text
      has_this_then moves lawful over told =
          let end = moved_all D at_start moves in
          let s : IsSection D (opening answers members keys) clients moves end = record { lawful = lawful; leads = refl; over = over } in
          let next = played D end.playing step in
          record {
            lines = section_lines end ∷ map plain_line next.lines ∷ [];
            last = record next { lines = [] };
            plays = (section_lines end, map plain_line next.lines ∷ [], end.playing, (moves, end, s, refl, refl), (map plain_line next.lines, [], record next { lines = [] }, (refl, refl), (refl, refl), refl), refl);
            told = told;
          }

      pub has_only_this_then : (n : ℕ) → explored D n at_start (λ end. bytes_eq (text_then end.playing (section_lines end)) text) ≡ true → (other : Text) → HasReport D value_text answers members keys (RunStep.Threads clients ∷ RunStep.Plain step ∷ []) other → other ≡ text
      has_only_this_then n all other h =
          let section = h.plays.3.2 in
          let end = h.plays.3.1 in
          let p = h.plays.2 in
          let rest = h.plays.4 in
          let reached = found D (λ end. bytes_eq (text_then end.playing (section_lines end)) text) n at_start h.plays.3.0 all section.lawful (subst (λ e. is_over D e ≡ true) section.leads section.over) in
          let told : text_then end.playing (section_lines end) ≡ text =
          bytes_eq-tells (text_then end.playing (section_lines end)) text (subst (λ (e : Section Kind Op Shown). bytes_eq (text_then e.playing (section_lines e)) text ≡ true) (sym section.leads) reached) in
          let later : h.plays.1 ≡ map plain_line (played D p step).lines ∷ [] = rest.5 ∙ ap (λ ls. rest.0 ∷ ls) rest.4.0 ∙ ap (λ l. l ∷ []) rest.3.0 in
          let lines : h.lines ≡ section_lines end ∷ map plain_line (played D p step).lines ∷ [] = h.plays.5 ∙ ap (λ ls. h.plays.0 ∷ ls) later ∙ ap (λ l. l ∷ map plain_line (played D p step).lines ∷ []) h.plays.3.3 in
          let last : h.last.world ≡ (played D p step).world = ap (λ (x : Playing Kind Op Shown). x.world) (rest.4.1 ∙ rest.3.1) in
          h.told ∙ ap (λ ls. lines_text value_text 1 ls ++ final_block D value_text h.last.world) lines
          ∙ ap (λ (w : World Kind Op Shown). lines_text value_text 1 (section_lines end ∷ map plain_line (played D p step).lines ∷ []) ++ final_block D value_text w) last
          ∙ ap (λ (x : Playing Kind Op Shown). text_then x (section_lines end)) h.plays.3.4 ∙ told
