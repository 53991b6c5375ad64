-- A timeout that a client called after all answers were taken found its operation open, if that had not finished.
use Rattle.std.proofs.Common.{◌≡◌, ◌≢◌, ◌⊎◌, inl, inr, ⊎_elim, ℕ, zero, suc, ◌+◌, ◌-◌, ◌<◌, ◌≤◌, List, [], ◌∷◌, ◌++◌, length, drop, map, refl, sym, ap, subst, ◌∙◌, arith, true, false, Option, Some, None}
use Rattle.std.specs.Prelude.{◌==◌, slice_get, take, option_map, IsTrue}
use Rattle.std.specs.List.{AllByRecursion, list_any}
use Rattle.std.proofs.Math.Seq.{drop-append_seam}
use Rattle.model_history.proofs.PartLaws.{slice_get-dropped, take_and_drop}
use Rattle.model_members.specs.View.{View, is_member}
use Rattle.model_members.specs.DataType.{Replication}
use Rattle.model_members.specs.Message.{Post}
use Rattle.model_members.specs.Node.{Node, Input, Reply}
use Rattle.model_members.specs.World.{World, views_of}
use Rattle.model_members.specs.Script.{Answer}
use Rattle.theorem_sections.proofs.AskedInputs.{IsAsked, is_asked}
use Rattle.theorem_operations.proofs.Lists.{all_last}
use Rattle.theorem_sections.specs.Sections.{Command, answers, pending_op, is_open, finished_at}
use Rattle.theorem_sections.specs.Histories.{Entry, Passed, AreHeard, IsFromClients, posted_to, taken_from, AreSteps, replayed, AreHistories}
use Rattle.theorem_sections.specs.Paths.{ClientStep, until, IsInputOf, IsTake, HasEntryAt}
use Rattle.theorem_sections.specs.Knowing.{KnownStep, steps_of, IsKnownBy, member_after, KnowsHeard, KnowsAnswered, IsUnfinished, IsKnownReply, IsKnownAnswer, TimesOutKnown, IsKnownStepOf, IsKnownPath, AreKnownPaths}
use Rattle.theorem_sections.proofs.NextDue.{same_or_not}
use Rattle.theorem_sections.proofs.RunOrder.{taken-append, posted-append}
use Rattle.theorem_sections.proofs.Untils.{steps_first, steps_after}
use Rattle.theorem_sections.proofs.Asked.{NoneAnswers, heard_all, less_dropped}
use Rattle.theorem_sections.proofs.Asking.{answers_none}
use Rattle.theorem_sections.proofs.Beginnings.{until_one, stands_first, first_stands}
use Rattle.theorem_sections.proofs.Standing.{open_since, found_open, one_opens, no_answer_of}
use Rattle.theorem_sections.proofs.Positions.{pending_reply}

-- LISTS

pub get_mapped : {X Y : Type 0} (f : X → Y) (xs : List X) (k : ℕ) (y : Y) → slice_get (map f xs) k ≡ Some y → (x : X) × (slice_get xs k ≡ Some x) × (f x ≡ y)
get_mapped f [] k y e = absurd (cc e)
get_mapped f (x ∷ xs) zero y e = (x, refl, cc e)
get_mapped f (x ∷ xs) (suc k) y e = get_mapped f xs k y e

pub dropped_first : {X : Type 0} (P : X → Type 0) (n : ℕ) (xs ys : List X) → length xs ≤ n → AllByRecursion P ys → AllByRecursion P (drop n (xs ++ ys))
dropped_first P n xs ys h all = less_dropped P (length xs) n (xs ++ ys) h (subst (AllByRecursion P) (sym (drop-append_seam xs ys)) all)

all_get : {X : Type 0} (P : X → Type 0) (xs : List X) (k : ℕ) (x : X) → AllByRecursion P xs → slice_get xs k ≡ Some x → P x
all_get P [] k x all at = absurd (cc at)
all_get P (y ∷ xs) zero x all at = let same : y ≡ x = cc at in subst P same all.0
all_get P (y ∷ xs) (suc k) x all at = all_get P xs k x all.1 at

none_heard : {Op : Type 0} (takes : List (Passed Op)) → AreHeard [] takes → takes ≡ []
none_heard [] h = refl
none_heard (take ∷ takes) h = absurd h

no_timeout_given : {Op : Type 0} (views : List View) (command : Command Op) (input : Input Op) (op : ℕ) → IsInputOf views command input → input ≢ Input.Timeout op
no_timeout_given views command input op is = λ e. subst IsAsked e (is_asked views command.ask input is)

same_timeout : {Op : Type 0} (a b : ℕ) → ◌≡◌ {A = Input Op} (Input.Timeout a) (Input.Timeout b) → a ≡ b
same_timeout a b e = cc e

module _ {Kind Op Shown : Type 0} (D : Replication Kind Op Shown) (world : World Kind Op Shown) (histories : ℕ → List (Entry Op Shown)) where
  -- STEPS OF A PATH

  pub path_at : (c stamp n : ℕ) (commands : List (Command Op)) (ks : List (KnownStep Op Shown)) (command : Command Op) (k : KnownStep Op Shown) → IsKnownPath D world histories c stamp commands ks → slice_get commands n ≡ Some command → slice_get ks n ≡ Some k
      → IsKnownStepOf D world histories c command k × (stamp ≤ k.step.since)
  path_at c stamp n [] ks command k path e f = absurd (cc e)
  path_at c stamp n (x ∷ commands) [] command k path e f = absurd (cc f)
  path_at c stamp zero (x ∷ commands) (y ∷ ks) command k path e f =
      let a : x ≡ command = cc e in let b : y ≡ k = cc f in
      (subst (λ q. IsKnownStepOf D world histories c q k) a (subst (IsKnownStepOf D world histories c x) b path.1), subst (λ (z : KnownStep Op Shown). stamp ≤ z.step.since) b path.0)
  path_at c stamp (suc n) (x ∷ commands) (y ∷ ks) command k path e f =
      let later = path_at c y.step.upto n commands ks command k path.2 e f in
      (later.0, let a = later.1 in let b = path.0 in let d = path.1.forward in omega (arith, a, b, d))

  -- an entry stands only for a command that was replied to
  pub replied_at : (c : ℕ) (command : Command Op) (k : KnownStep Op Shown) → IsKnownStepOf D world histories c command k → (index : ℕ) → k.step.index ≡ Some index → (reply : Reply Shown) × (k.step.line.answer ≡ Answer.Replied reply) × IsKnownReply D world histories c command k reply
  replied_at c command k is index at = by k.step.line.answer refl is.answered
    where
      by : (answer : Answer Shown) → k.step.line.answer ≡ answer → IsKnownAnswer D world histories c command k answer → (reply : Reply Shown) × (k.step.line.answer ≡ Answer.Replied reply) × IsKnownReply D world histories c command k reply
      by (Answer.Replied reply) said r = (reply, said, r)
      by Answer.Gone said h = absurd (let e = sym h.0 ∙ at in cc e)
      by Answer.NoSuchView said h = absurd (let e = sym h.0 ∙ at in cc e)
      by Answer.HistoryFull said h = absurd (let e = sym h.0 ∙ at in cc e)
      by answer said h = absurd h

  -- it has a stamp between the client's two
  entry_within : (c : ℕ) (command : Command Op) (k : KnownStep Op Shown) → IsKnownStepOf D world histories c command k → (index : ℕ) → k.step.index ≡ Some index
      → (e : Entry Op Shown) × (slice_get (histories command.at) index ≡ Some e) × (k.step.since < e.stamp) × (e.stamp ≤ k.step.upto)
  entry_within c command k is index at =
      let r = (replied_at c command k is index at).2 in
      let same : r.index ≡ index = cc (sym r.at ∙ at) in (
        r.entry,
        subst (λ n. slice_get (histories command.at) n ≡ Some r.entry) same r.made.stands,
        r.later,
        is.knows command.at r.index r.entry r.made.stands r.known,
      )

  -- so no later command has it
  apart : (c stamp m i index : ℕ) (x : Command Op) (y : KnownStep Op Shown) (commands : List (Command Op)) (ks : List (KnownStep Op Shown)) (other : Command Op) (l : KnownStep Op Shown) → IsKnownPath D world histories c stamp (x ∷ commands) (y ∷ ks)
      → slice_get commands m ≡ Some other → slice_get ks m ≡ Some l → x.at ≡ i → other.at ≡ i → y.step.index ≡ Some index → l.step.index ≡ Some index → ⊥
  apart c stamp m i index x y commands ks other l path g h at at' is is' =
      let first = entry_within c x y path.1 index is in
      let step = path_at c y.step.upto m commands ks other l path.2 g h in
      let second = entry_within c other l step.0 index is' in
      let same : first.0 ≡ second.0 = (let s : Some first.0 ≡ Some second.0 = sym first.1 ∙ ap (λ j. slice_get (histories j) index) (at ∙ sym at') ∙ second.1 in cc s) in
      let p = ap (λ (z : Entry Op Shown). z.stamp) same in let q = first.3 in let r = second.2 in let t = step.1 in
      omega (arith, p, q, r, t)

  -- it stands for one command of a client
  one_step : (c stamp n m i index : ℕ) (commands : List (Command Op)) (ks : List (KnownStep Op Shown)) (command other : Command Op) (k l : KnownStep Op Shown) → IsKnownPath D world histories c stamp commands ks
      → slice_get commands n ≡ Some command → slice_get ks n ≡ Some k → slice_get commands m ≡ Some other → slice_get ks m ≡ Some l → command.at ≡ i → other.at ≡ i → k.step.index ≡ Some index → l.step.index ≡ Some index → n ≡ m
  one_step c stamp n m i index [] ks command other k l path e f g h at at' is is' = absurd (cc e)
  one_step c stamp n m i index (x ∷ commands) [] command other k l path e f g h at at' is is' = absurd (cc f)
  one_step c stamp zero zero i index (x ∷ commands) (y ∷ ks) command other k l path e f g h at at' is is' = refl
  one_step c stamp (suc n) (suc m) i index (x ∷ commands) (y ∷ ks) command other k l path e f g h at at' is is' = ap suc (one_step c y.step.upto n m i index commands ks command other k l path.2 e f g h at at' is is')
  one_step c stamp zero (suc m) i index (x ∷ commands) (y ∷ ks) command other k l path e f g h at at' is is' =
      absurd (apart c stamp m i index x y commands ks other l path g h (ap (λ (c : Command _). c.at) (let s : x ≡ command = cc e in s) ∙ at) at' (ap (λ (z : KnownStep Op Shown). z.step.index) (let s : y ≡ k = cc f in s) ∙ is) is')
  one_step c stamp (suc n) zero i index (x ∷ commands) (y ∷ ks) command other k l path e f g h at at' is is' =
      absurd (apart c stamp n i index x y commands ks command k path e f (ap (λ (c : Command _). c.at) (let s : x ≡ other = cc g in s) ∙ at') at (ap (λ (z : KnownStep Op Shown). z.step.index) (let s : y ≡ l = cc h in s) ∙ is') is)

  module _ (all : AreHistories D world histories) (none_own : (i : ℕ) → IsTrue (is_member world.view i) → posted_to i (histories i) ≡ []) (clients : List (List (Command Op))) (paths : List (List (KnownStep Op Shown))) (are : AreKnownPaths D world histories clients paths) where
    -- ONE TIMEOUT FOR AN OPERATION

    module _ (c n : ℕ) (commands : List (Command Op)) (ks : List (KnownStep Op Shown)) (command : Command Op) (k : KnownStep Op Shown) (of_client : slice_get clients c ≡ Some commands) (of_path : slice_get paths c ≡ Some ks) (e_command : slice_get commands n ≡ Some command) (e_step : slice_get ks n ≡ Some k) where
      its_path : IsKnownPath D world histories c 0 commands ks
      its_path = are.each c commands ks of_client of_path

      its_step : IsKnownStepOf D world histories c command k
      its_step = (path_at c 0 n commands ks command k its_path e_command e_step).0

      module _ (op index number : ℕ) (e : Entry Op Shown) (at : k.step.index ≡ Some index) (timeout_at : k.step.timeout ≡ Some number) (stands : slice_get (histories command.at) index ≡ Some e) (reply : e.output.reply ≡ Reply.Pending op) (of : e.client ≡ c) (mi : IsTrue (is_member world.view command.at)) where
        abbrev i : ℕ
        i = command.at

        -- another step of a path that has the operation's timeout is this one
        same_timeout_step : (d m : ℕ) (others : List (Command Op)) (ls : List (KnownStep Op Shown)) (other : Command Op) (l : KnownStep Op Shown) → slice_get clients d ≡ Some others → slice_get paths d ≡ Some ls → slice_get others m ≡ Some other → slice_get ls m ≡ Some l
            → other.at ≡ i → d ≡ c → l.step.index ≡ Some index → (p : ℕ) → l.step.timeout ≡ Some p → p ≡ number
        same_timeout_step d m others ls other l f g f' g' here same is p said =
            let same_commands : others ≡ commands = (let s : Some others ≡ Some commands = sym f ∙ ap (slice_get clients) same ∙ of_client in cc s) in
            let same_steps : ls ≡ ks = (let s : Some ls ≡ Some ks = sym g ∙ ap (slice_get paths) same ∙ of_path in cc s) in
            let fm : slice_get commands m ≡ Some other = ap (λ cs. slice_get cs m) (sym same_commands) ∙ f' in
            let gm : slice_get ks m ≡ Some l = ap (λ cs. slice_get cs m) (sym same_steps) ∙ g' in
            let position = one_step c 0 n m i index commands ks command other k l its_path e_command e_step fm gm refl here at is in
            let same_k : k ≡ l = (let s : Some k ≡ Some l = sym e_step ∙ ap (slice_get ks) position ∙ gm in cc s) in
            let s : Some p ≡ Some number = sym said ∙ ap (λ (z : KnownStep Op Shown). z.step.timeout) (sym same_k) ∙ timeout_at in cc s

        by_timeout : (d m : ℕ) (others : List (Command Op)) (ls : List (KnownStep Op Shown)) (other : Command Op) (l : KnownStep Op Shown) → slice_get clients d ≡ Some others → slice_get paths d ≡ Some ls → slice_get others m ≡ Some other → slice_get ls m ≡ Some l
            → other.at ≡ i → (p : ℕ) (x : Entry Op Shown) → slice_get (histories i) p ≡ Some x → x.input ≡ Input.Timeout op → l.step.timeout ≡ Some p
            → IsKnownStepOf D world histories d other l → (pending : Option ℕ) → pending_op l.step.line.answer ≡ pending → TimesOutKnown D world histories d other.at l pending (Some p) → p ≡ number
        by_timeout d m others ls other l f g f' g' here p x at_x is said its None waits t = absurd t
        by_timeout d m others ls other l f g f' g' here p x at_x is said its (Some op') waits t =
            let o = t.4 in
            let at_p : slice_get (histories i) p ≡ Some o.timeout = subst (λ j. slice_get (histories j) p ≡ Some o.timeout) here o.made.stands in
            let same_x : o.timeout ≡ x = (let s : Some o.timeout ≡ Some x = sym at_p ∙ at_x in cc s) in
            let same_op : op' ≡ op = same_timeout op' op (sym o.made.asks ∙ ap (λ (z : Entry Op Shown). z.input) same_x ∙ is) in
            let r = replied_at d other l its t.0 t.2 in
            let same_index : r.2.index ≡ t.0 = cc (sym r.2.at ∙ t.2) in
            let pending : r.2.entry.output.reply ≡ Reply.Pending op = r.2.replied ∙ pending_reply r.0 op' (sym (ap pending_op r.1) ∙ waits) ∙ ap Reply.Pending same_op in
            let its_stands : slice_get (histories i) t.0 ≡ Some r.2.entry = subst (λ q. slice_get (histories i) q ≡ Some r.2.entry) same_index (subst (λ j. slice_get (histories j) r.2.index ≡ Some r.2.entry) here r.2.made.stands) in
            let is_index : t.0 ≡ index = one_opens D op t.0 index (all.steps i mi).0 (histories i) r.2.entry e (all.steps i mi).2 its_stands stands pending reply in
            let same_e : r.2.entry ≡ e = (let s : Some r.2.entry ≡ Some e = sym its_stands ∙ ap (slice_get (histories i)) is_index ∙ stands in cc s) in
            let same_c : d ≡ c = sym r.2.made.of ∙ ap (λ (z : Entry Op Shown). z.client) same_e ∙ of in
            same_timeout_step d m others ls other l f g f' g' here same_c (t.2 ∙ ap Some is_index) p said

        only_timeout : (p : ℕ) (x : Entry Op Shown) → slice_get (histories i) p ≡ Some x → x.input ≡ Input.Timeout op → p ≡ number
        only_timeout p x at_x is = ⊎_elim
            (λ (t : IsTake x.input). absurd (let f : IsTake {Op = Op} (Input.Timeout op) = subst IsTake is t in f))
            (λ (h : HasEntryAt D world histories clients (steps_of paths) i p).
            let ls = get_mapped (map (λ (z : KnownStep Op Shown). z.step)) paths h.client h.steps h.of.1 in
            let l = get_mapped (λ (z : KnownStep Op Shown). z.step) ls.0 h.number h.step (subst (λ ss. slice_get ss h.number ≡ Some h.step) (sym ls.2) h.stands.1) in
            let its = (path_at h.client 0 h.number h.commands ls.0 h.command l.0 (are.each h.client h.commands ls.0 h.of.0 ls.1) h.stands.0 l.1).0 in
            ⊎_elim
            (λ (i_at : h.step.index ≡ Some p).
            let r = (replied_at h.client h.command l.0 its p (ap (λ (z : ClientStep Op Shown). z.index) l.2 ∙ i_at)).2 in
            let same_index : r.index ≡ p = cc (sym r.at ∙ ap (λ (z : ClientStep Op Shown). z.index) l.2 ∙ i_at) in
            let at_r : slice_get (histories i) p ≡ Some r.entry = subst (λ q. slice_get (histories i) q ≡ Some r.entry) same_index (subst (λ j. slice_get (histories j) r.index ≡ Some r.entry) h.at.0 r.made.stands) in
            let same_x : r.entry ≡ x = (let s : Some r.entry ≡ Some x = sym at_r ∙ at_x in cc s) in
            absurd (no_timeout_given (views_of world) h.command r.input op r.given (sym r.made.asks ∙ ap (λ (z : Entry Op Shown). z.input) same_x ∙ is)))
            (λ (t_at : h.step.timeout ≡ Some p).
            let said : l.0.step.timeout ≡ Some p = ap (λ (z : ClientStep Op Shown). z.timeout) l.2 ∙ t_at in
            by_timeout h.client h.number h.commands ls.0 h.command l.0 h.of.0 ls.1 h.stands.0 l.1 h.at.0 p x at_x is said its (pending_op l.0.step.line.answer) refl
            (subst (TimesOutKnown D world histories h.client h.command.at l.0 (pending_op l.0.step.line.answer)) said its.timed_out))
            h.at.1)
            (are.whole i p x at_x)

        -- THE TIMEOUT'S ANSWER

        module _ (asked seen : ℕ → ℕ) (stamp : ℕ) (timeout : Entry Op Shown) (knows : IsKnownBy D world histories seen stamp) (early : stamp < timeout.stamp) (own : index < seen i) (timeout_stands : slice_get (histories i) number ≡ Some timeout) (gives : timeout.input ≡ Input.Timeout op)
            (heard : KnowsHeard D world histories i index e asked) (answered : KnowsAnswered D world histories i asked seen) (unfinished : IsUnfinished D world histories i op (seen i)) where
          abbrev firsts : List (Entry Op Shown)
          firsts = take (seen i) (histories i)

          abbrev others : List (Entry Op Shown)
          others = drop (seen i) (histories i)

          abbrev b : Node Kind Op Shown
          b = (all.steps i mi).0

          split : firsts ++ others ≡ histories i
          split = take_and_drop (histories i) (seen i)

          steps_split : AreSteps D b (firsts ++ others)
          steps_split = subst (AreSteps D b) (sym split) (all.steps i mi).2

          -- the timeout comes later than what is seen
          is_later : seen i ≤ number
          is_later = ⊎_elim (λ (h : number < seen i). absurd (let a = knows i number timeout timeout_stands h in omega (arith, a, early))) (λ h. h) (by number (seen i))
            where
              by : (m n : ℕ) → (m < n) ⊎ (n ≤ m)
              by m zero = inr (omega arith)
              by zero (suc n) = inl (omega arith)
              by (suc m) (suc n) = ⊎_elim (λ (h : m < n). inl (omega (arith, h))) (λ h. inr (omega (arith, h))) (by m n)

          -- no answer is taken any more
          none_taken : (j : ℕ) → IsTrue (is_member world.view j) → NoneAnswers op (taken_from j others)
          none_taken j mj = ⊎_elim
              (λ (same : j ≡ i). (let P : List (Passed Op) → Type 0 = NoneAnswers op in
              all_last (λ (m : Passed Op). answers op m.message ≡ false) (taken_from j firsts) (taken_from j others)
              (subst P (ap (taken_from j) (sym split) ∙ taken-append j firsts others) (subst P (sym (none_heard (taken_from j (histories i)) (subst (λ ms. AreHeard ms (taken_from j (histories i))) (ap (λ t. posted_to i (histories t)) same ∙ none_own i mi) (all.heard j i mj mi)))) tt))))
              (λ isnt.
              let part = take (asked j) (histories j) in
              let rest = drop (asked j) (histories j) in
              let whole : histories j ≡ part ++ rest = sym (take_and_drop (histories j) (asked j)) in
              let count : list_any (λ (post : Post Op). post.to == j) e.output.posts ≡ true → length (posted_to j (until e.stamp (histories i))) ≤ length (taken_from i part) =
              λ posts. subst (λ es. length (posted_to j es) ≤ length (taken_from i part)) (sym (until_one 0 index (histories i) e (all.rise i) stands)) (heard j isnt mj posts) in
              let none : NoneAnswers op (posted_to i rest) = answers_none D world histories all i index op e mi stands reply j mj part rest whole count in
              let few = answered j isnt mj in
              let P : List (Passed Op) → Type 0 = NoneAnswers op in
              let posts : NoneAnswers op (drop (length (taken_from j firsts)) (posted_to i (histories j))) =
              subst (λ ms. NoneAnswers op (drop (length (taken_from j firsts)) ms)) (sym (posted-append i part rest) ∙ ap (posted_to i) (sym whole)) (dropped_first (λ (m : Passed Op). answers op m.message ≡ false) (length (taken_from j firsts)) (posted_to i part) (posted_to i rest) few none) in
              let takes : NoneAnswers op (drop (length (taken_from j firsts)) (taken_from j (histories i))) =
              heard_all (λ m. answers op m ≡ false) (length (taken_from j firsts)) (length (taken_from j firsts)) (posted_to i (histories j)) (taken_from j (histories i)) (all.heard j i mj mi) posts (omega arith) in
              subst P (ap (drop (length (taken_from j firsts))) (ap (taken_from j) (sym split) ∙ taken-append j firsts others) ∙ drop-append_seam (taken_from j firsts) (taken_from j others)) takes)
              (same_or_not j i)

          open_then : is_open op (Some (replayed D b firsts)) ≡ true
          open_then = ⊎_elim
              (λ (opens : is_open op (member_after D world histories i (seen i)) ≡ true). sym (ap (λ o. is_open op (option_map (λ b. replayed D b firsts) o)) (all.steps i mi).1) ∙ opens)
              (λ (none : finished_at op (member_after D world histories i (seen i)) ≡ None). open_since D op index b firsts e (steps_first D b firsts others steps_split) (stands_first (seen i) index (histories i) e stands own) reply
              (λ j x at_x l is. let h = first_stands (seen i) j (histories i) x at_x in let only = only_timeout j x h.0 is in let m = h.1 in let later = is_later in absurd (omega (arith, only, m, later)))
              (sym (ap (λ o. finished_at op (option_map (λ b. replayed D b firsts) o)) (all.steps i mi).1) ∙ none))
              unfinished

          pub is_timed_out : timeout.output.reply ≡ Reply.TimedOut
          is_timed_out =
              let later = is_later in
              let sum : seen i + (number - seen i) ≡ number = omega (arith, later) in
              found_open D op (number - seen i) (replayed D b firsts) others timeout (steps_after D b firsts others steps_split) open_then
              (λ m x at_x l is. let only = only_timeout (seen i + m) x (sym (slice_get-dropped (histories i) (seen i) m) ∙ at_x) is in absurd (omega (arith, only, l, sum)))
              (λ m x at_x from message is a.
              let given = all_get (λ (z : Entry Op Shown). IsFromClients world.view (views_of world) z.input) (histories i) (seen i + m) x (all.given i) (sym (slice_get-dropped (histories i) (seen i) m) ∙ at_x) in
              no_answer_of op from m others x message (none_taken from (subst (IsFromClients world.view (views_of world)) is given)) at_x is a)
              (slice_get-dropped (histories i) (seen i) (number - seen i) ∙ ap (slice_get (histories i)) sum ∙ timeout_stands) gives
