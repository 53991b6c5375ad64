-- Where a client stands on its path while the entries come in run order.
use Rattle.std.proofs.Common.{◌≡◌, ◌≢◌, ℕ, zero, suc, ◌<◌, ◌≤◌, List, [], ◌∷◌, ◌++◌, length, refl, sym, ap, subst, ◌∙◌, Bool, true, false, Option, Some, None}
use Rattle.std.specs.Prelude.{⊤, ◌==◌, ◌&&◌, ◌||◌, not, filter, slice_get, slice_set, option_map, IsTrue}
use Rattle.model_members.specs.View.{is_member}
use Rattle.model_members.specs.DataType.{Replication}
use Rattle.model_members.specs.Node.{Node, Input, Reply}
use Rattle.model_members.specs.World.{World}
use Rattle.model_members.specs.Script.{Answer, last_of}
use Rattle.theorem_sections.specs.Sections.{Command, Client, Made, Section, pending_op, ending_of, goes_on, gives_up}
use Rattle.theorem_sections.specs.Histories.{Entry, Placed, replayed, AreHistories}
use Rattle.theorem_sections.specs.Paths.{ClientStep, IsStepOf, IsReplied, IsAnsweredBy, TimesOut, some_full_until, are_posts_taken, has_ended_until, HasGivenUp}
use Rattle.theorem_sections.proofs.Along.{Along}
use Rattle.theorem_sections.proofs.Heard.{Late, IsMadeBy, goes_on_now}
use Rattle.theorem_sections.proofs.GivesUp.{gives_up_now}
use Rattle.theorem_sections.proofs.Moves.{Keeping}
use Rattle.theorem_operations.proofs.Lists.{last_pushed}

-- LISTS

pub set_here : {X : Type 0} (xs : List X) (c : ℕ) (x y : X) → slice_get xs c ≡ Some x → slice_get (slice_set xs c y) c ≡ Some y
set_here [] c x y e = absurd (cc e)
set_here (z ∷ xs) zero x y e = refl
set_here (z ∷ xs) (suc c) x y e = set_here xs c x y e

pub set_else : {X : Type 0} (xs : List X) (c d : ℕ) (y : X) → d ≢ c → slice_get (slice_set xs c y) d ≡ slice_get xs d
set_else [] c d y h = refl
set_else (z ∷ xs) zero zero y h = absurd (h refl)
set_else (z ∷ xs) zero (suc d) y h = refl
set_else (z ∷ xs) (suc c) zero y h = refl
set_else (z ∷ xs) (suc c) (suc d) y h = set_else xs c d y (λ e. h (ap suc e))

pub set_length : {X : Type 0} (xs : List X) (c : ℕ) (y : X) → length (slice_set xs c y) ≡ length xs
set_length [] c y = refl
set_length (z ∷ xs) zero y = refl
set_length (z ∷ xs) (suc c) y = ap suc (set_length xs c y)

-- OWN ENTRIES

abbrev pub takes : {Op : Type 0} → Input Op → Bool
takes (Input.Take from message) = true
takes _ = false

module _ {Op Shown : Type 0} where
  abbrev pub client_after : Client Op Shown → List (Command Op) → Made Op Shown → Client Op Shown
  client_after client commands m = record { to_come = commands; made = client.made ++ m ∷ []; timed_out = false }

  -- a client's own entries, which take no message
  abbrev pub is_own : ℕ → Placed Op Shown → Bool
  is_own c x = (x.entry.client == c) && not (takes x.entry.input)

  abbrev pub own : ℕ → List (Placed Op Shown) → List (Placed Op Shown)
  own c placed = filter (is_own c) placed

module _ {Shown : Type 0} where
  pub pending_reply : (r : Reply Shown) (op : ℕ) → pending_op (Answer.Replied r) ≡ Some op → r ≡ Reply.Pending op
  pending_reply (Reply.Pending o) op e = let same : o ≡ op = cc e in ap Reply.Pending same
  pending_reply r op e = absurd (cc e)

module _ {Kind Op Shown : Type 0} (D : Replication Kind Op Shown) (world : World Kind Op Shown) (histories : ℕ → List (Entry Op Shown)) (placed : List (Placed Op Shown)) (keeping : Keeping Op) (all : AreHistories D world histories)
    (runs_in : (i : ℕ) (n : Node Kind Op Shown) → world.nodes i ≡ Some n → IsTrue (is_member world.view i)) where
  -- these entries begin with that of an index, if there is one
  abbrev pub Stands : ℕ → Option ℕ → List (Placed Op Shown) → List (Placed Op Shown) → Type 0
  Stands i None before after = before ≡ after
  Stands i (Some k) before after = (x : Placed Op Shown) × (before ≡ x ∷ after) × (x.at ≡ i) × (slice_get (histories i) k ≡ Some x.entry)

  -- the rest of a path, with its entries
  abbrev pub Left : ℕ → ℕ → List (Placed Op Shown) → List (Command Op) → List (ClientStep Op Shown) → Type 0
  Left c u entries [] [] = entries ≡ []
  Left c u entries (command ∷ commands) (step ∷ steps) =
      (u ≤ step.since) × IsStepOf D world histories c command step × (mid : List (Placed Op Shown)) × (after : List (Placed Op Shown)) × Stands command.at step.index entries mid × Stands command.at step.timeout mid after
      × Left c step.upto after commands steps
  Left c u entries _ _ = ⊥

  -- AN ANSWER, WITH AN ENTRY OR WITHOUT

  pub data Answers (c : ℕ) (command : Command Op) (step : ClientStep Op Shown) : Type 0 where
    ByEntry : (reply : Reply Shown) → step.line.answer ≡ Answer.Replied reply → IsReplied D world histories c command step reply → Answers c command step
    ByNone : step.index ≡ None → step.line.posts ≡ [] → pending_op step.line.answer ≡ None → IsAnsweredBy D world histories c command step step.line.answer → Answers c command step

  pub answers_by : (c : ℕ) (command : Command Op) (step : ClientStep Op Shown) (answer : Answer Shown) → step.line.answer ≡ answer → IsAnsweredBy D world histories c command step answer → Answers c command step
  answers_by c command step (Answer.Replied reply) is h = ByEntry reply is h
  answers_by c command step Answer.Gone is h = ByNone h.0 h.1 (ap pending_op is) (subst (IsAnsweredBy D world histories c command step) (sym is) h)
  answers_by c command step Answer.NoSuchView is h = ByNone h.0 h.1 (ap pending_op is) (subst (IsAnsweredBy D world histories c command step) (sym is) h)
  answers_by c command step Answer.HistoryFull is h = ByNone h.0 h.1 (ap pending_op is) (subst (IsAnsweredBy D world histories c command step) (sym is) h)
  answers_by c command step answer is h = absurd h

  -- POSITIONS

  abbrev pub Goes : Section Kind Op Shown → List (Placed Op Shown) → List (Placed Op Shown) → Type 0
  Goes s done rest = Along D world histories placed keeping s.playing s.due done rest

  -- the client goes on once only later entries are to come
  abbrev pub GoesOnFrom : List (Made Op Shown) → ℕ → Type 0
  GoesOnFrom made u = (s : Section Kind Op Shown) (done rest : List (Placed Op Shown)) → Goes s done rest → Late u rest → goes_on D s (last_of made) ≡ true

  pub record IsDue (c : ℕ) (client : Client Op Shown) (entries : List (Placed Op Shown)) (left : List (ClientStep Op Shown)) : Type 0 where
    pub timeout : Placed Op Shown
    pub others : List (Placed Op Shown)
    pub last : Made Op Shown
    pub op : ℕ
    pub upto : ℕ
    pub first : entries ≡ timeout ∷ others
    pub is_last : last_of client.made ≡ Some last
    pub waits : pending_op last.line.answer ≡ Some op
    pub at : last.at ≡ timeout.at
    pub gives : timeout.entry.input ≡ Input.Timeout op
    pub once : client.timed_out ≡ false
    pub gives_up : (s : Section Kind Op Shown) (done rest : List (Placed Op Shown)) → Goes s done (timeout ∷ rest) → gives_up D s last (Some op) ≡ true
    pub goes : GoesOnFrom client.made upto
    pub then_left : Left c upto others client.to_come left

  pub data Position (c : ℕ) (client : Client Op Shown) (entries : List (Placed Op Shown)) (left : List (ClientStep Op Shown)) : Type 0 where
    Ready : (u : ℕ) → GoesOnFrom client.made u → Left c u entries client.to_come left → Position c client entries left
    Due : IsDue c client entries left → Position c client entries left

  -- the line of a command is that of its step
  pub record TellsLine (c : ℕ) (m : Made Op Shown) (step : ClientStep Op Shown) : Type 0 where
    pub client : step.line.client ≡ Some c
    pub head : step.line.head ≡ m.line.head
    pub answer : step.line.answer ≡ m.line.answer
    pub posts : step.line.posts ≡ m.line.posts
    pub ended : step.line.ended ≡ ending_of (option_map (λ before. replayed D before (histories m.at)) (world.nodes m.at)) (pending_op m.line.answer)

  abbrev pub AllTold : ℕ → List (Made Op Shown) → List (ClientStep Op Shown) → Type 0
  AllTold c [] [] = ⊤
  AllTold c (m ∷ ms) (step ∷ steps) = TellsLine c m step × AllTold c ms steps
  AllTold c _ _ = ⊥

  pub told_more : (c : ℕ) (ms : List (Made Op Shown)) (steps : List (ClientStep Op Shown)) (m : Made Op Shown) (step : ClientStep Op Shown) → AllTold c ms steps → TellsLine c m step → AllTold c (ms ++ m ∷ []) (steps ++ step ∷ [])
  told_more c [] [] m step h t = (t, tt)
  told_more c [] (x ∷ steps) m step h t = absurd h
  told_more c (y ∷ ms) [] m step h t = absurd h
  told_more c (y ∷ ms) (x ∷ steps) m step h t = (h.0, told_more c ms steps m step h.1 t)

  pub record ClientAt (c : ℕ) (client : Client Op Shown) (entries : List (Placed Op Shown)) (steps : List (ClientStep Op Shown)) : Type 0 where
    pub past : List (ClientStep Op Shown)
    pub left : List (ClientStep Op Shown)
    pub whole : steps ≡ past ++ left
    pub lines : AllTold c client.made past
    pub position : Position c client entries left

  -- AFTER A COMMAND

  -- a command with an entry
  module _ (c : ℕ) (client : Client Op Shown) (command : Command Op) (commands : List (Command Op)) (step : ClientStep Op Shown) (x : Placed Op Shown) (m : Made Op Shown) (k : ℕ) where
    pub record IsNew (i : ℕ) (reply : Reply Shown) (input : Input Op) : Type 0 where
      pub at : m.at ≡ i
      pub answer : m.line.answer ≡ Answer.Replied x.entry.output.reply
      pub by : IsMadeBy D world histories placed keeping all runs_in m i x.entry

    pub after_entry : (reply : Reply Shown) (r : IsReplied D world histories c command step reply) → IsStepOf D world histories c command step → step.line.answer ≡ Answer.Replied reply → r.entry ≡ x.entry → step.index ≡ Some k → r.index ≡ k
        → IsNew command.at reply r.input
        → (mid after : List (Placed Op Shown)) (steps : List (ClientStep Op Shown)) → Stands command.at step.timeout mid after → Left c step.upto after commands steps
        → Position c (client_after client commands m) mid steps
    after_entry reply r is answered same at_k is_k new mid after steps stands later = by_timeout step.timeout stands is.timed_out
      where
        i : ℕ
        i = command.at

        here : slice_get (histories command.at) k ≡ Some x.entry
        here = subst (λ j. slice_get (histories command.at) j ≡ Some x.entry) is_k (r.made.stands ∙ ap Some same)

        reply_is : x.entry.output.reply ≡ reply
        reply_is = ap (λ (e : Entry Op Shown). e.output.reply) (sym same) ∙ r.replied

        replied : (op : ℕ) → pending_op m.line.answer ≡ Some op → x.entry.output.reply ≡ Reply.Pending op
        replied op e = pending_reply x.entry.output.reply op (sym (ap pending_op new.answer) ∙ e)

        same_answer : pending_op step.line.answer ≡ pending_op m.line.answer
        same_answer = ap pending_op (answered ∙ ap Answer.Replied (sym reply_is) ∙ sym new.answer)

        goes : GoesOnFrom (client.made ++ m ∷ []) step.upto
        goes s done rest along late =
            ap (goes_on D s) (last_pushed client.made m)
            ∙ goes_on_now D world histories placed keeping all runs_in s done rest along step.upto command.at k m x.entry new.by replied late here (subst (λ (e : Entry Op Shown). e.stamp ≤ step.upto) same r.before)
            (subst (λ (e : Entry Op Shown). (are_posts_taken D world histories command.at e step.upto || some_full_until D world histories step.upto) ≡ true) same r.heard)
            (subst (λ p. has_ended_until D world histories command.at step.upto p ≡ true) same_answer r.ended)

        by_op : (t : Placed Op Shown) (k' : ℕ) (o : Option ℕ) → pending_op step.line.answer ≡ o → mid ≡ t ∷ after → t.at ≡ command.at → slice_get (histories command.at) k' ≡ Some t.entry → TimesOut D world histories c command.at step o (Some k') → Position c (client_after client commands m) mid steps
        by_op t k' None is_o first at stands' h = absurd h
        by_op t k' (Some op) is_o first at stands' h =
            let e = h.1 in
            let timed = h.4 in
            let same_k : h.0 ≡ k = cc (sym h.2 ∙ at_k) in
            let same_e : e ≡ x.entry = cc (sym h.3 ∙ ap (slice_get (histories command.at)) same_k ∙ here) in
            let same_t : timed.timeout ≡ t.entry = cc (sym timed.made.stands ∙ stands') in
            Due (record {
              timeout = t;
              others = after;
              last = m;
              op = op;
              upto = step.upto;
              first = first;
              is_last = last_pushed client.made m;
              waits = sym same_answer ∙ is_o;
              at = new.at ∙ sym at;
              gives = ap (λ (f : Entry Op Shown). f.input) (sym same_t) ∙ timed.made.asks;
              once = refl;
              gives_up = λ s done rest along.
                  gives_up_now D world histories placed keeping all runs_in s done t rest along timed.seen command.at k op m x.entry at (ap (λ (f : Entry Op Shown). f.input) (sym same_t) ∙ timed.made.asks) new.by here (replied op (sym same_answer ∙ is_o))
                  (subst (λ (f : Entry Op Shown). timed.seen < f.stamp) same_t timed.later.1)
                  (subst (λ (f : Entry Op Shown). HasGivenUp D world histories command.at op x.entry f timed.seen) same_t
                  (subst (λ (f : Entry Op Shown). HasGivenUp D world histories command.at op f timed.timeout timed.seen) same_e timed.cause));
              goes = goes;
              then_left = later;
            })

        by_timeout : (o : Option ℕ) → Stands command.at o mid after → TimesOut D world histories c command.at step (pending_op step.line.answer) o → Position c (client_after client commands m) mid steps
        by_timeout None is_mid t = Ready step.upto goes (subst (λ es. Left c step.upto es commands steps) (sym is_mid) later)
        by_timeout (Some k') st t = by_op st.0 k' (pending_op step.line.answer) refl st.1 st.2 st.3 t
