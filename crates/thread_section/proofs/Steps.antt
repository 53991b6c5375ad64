-- What one command of a client did is a step by what the client knew.
use Rattle.std.proofs.Common.{◌≡◌, ◌⊎◌, inl, inr, ⊎_elim, ℕ, ◌<◌, ◌≤◌, List, refl, sym, ap, subst, ◌∙◌, arith, true, false, true≢false, Option, Some, None, take-append-drop}
use Rattle.std.specs.Prelude.{take, drop, slice_get, is_some, option_map, IsTrue}
use Rattle.model_members.specs.View.{View, is_member}
use Rattle.model_members.specs.DataType.{Replication}
use Rattle.model_members.specs.Node as nodes
use Rattle.model_members.specs.World as worlds
use Rattle.theorem_sections.specs.Sections.{finished_at, is_open, ending_of}
use Rattle.theorem_sections.specs.Histories as model
use Rattle.theorem_sections.specs.Knowing.{KnownStep, member_after, IsKnownBy, KnowsFull, KnowsHeard, KnowsAnswered, KnowsEnded, IsUnfinished, KnowsGivenUp, TimesOutKnown, EndsByTimeout}
use Rattle.theorem_sections.proofs.Standing.{closed_after}
use Rattle.theorem_sections.proofs.Untils.{steps_first}
use Rattle.model_kinds.specs.declared.operation.Op.{Op}
use Rattle.model_kinds.specs.declared.shown.Shown.{Shown}
use Rattle.data_lattice.specs.declared.replica.Replica.{Ghosts}
use Rattle.data_lattice.specs.declared.spelled.SpelledData.{Ghosts as Spelling}
use Rattle.member_keeper.specs.declared.keeper.Keeper.{Ghosts as Keeping}
use Rattle.thread_machine.specs.declared.machine.Machine.{Ghosts as Machine}
use Rattle.thread_cell.specs.declared.opening.Opening.{Opening}
use Rattle.thread_cell.specs.declared.receipt.Receipt.{Receipt}
use mathlib.Core.List.{IsPrefix}
use Rattle.thread_cell.specs.Lists.{at}
use Rattle.thread_cell.specs.Values.{ClientParts}
use Rattle.member_node.specs.declared.input.Input.{Input}
use Rattle.member_node.specs.declared.input.Input.TheVariants as form
use Rattle.member_node.specs.declared.node.Node.{Node}
use Rattle.member_node.specs.declared.operation.Look.{Look}
use Rattle.member_node.specs.declared.operation.Look.TheVariants as look
use Rattle.member_node.specs.declared.operation.OperationResult.{OperationResult}
use Rattle.member_node.specs.declared.reply.Fate.{Fate}
use Rattle.member_node.specs.declared.reply.Output.{Output}
use Rattle.member_node.specs.declared.reply.Reply.{Reply}
use Rattle.member_node.specs.declared.reply.StepError.{StepError}
use Rattle.member_node.specs.Replies.{meant}
use Rattle.member_node.specs.Steps.{replication}
use Rattle.script_reading.specs.declared.clients.Command.{Command}
use Rattle.world_members.specs.declared.client_line.Ended.{Ended}
use Rattle.world_members.specs.declared.client_line.Ended.TheVariants as ended
use Rattle.world_members.specs.declared.event.Answer.TheVariants as answer
use Rattle.world_members.specs.ClientLines.{ending_meant}
use Rattle.thread_cluster.specs.Messages.{Looks}
use Rattle.thread_cluster.specs.Knowing.{GoesOn, IsReceipt, IsShownBy}
use Rattle.thread_cluster.proofs.Growing.{goes_on_trans, goes_on_self}
use Rattle.thread_run_order.specs.Images.{EntryOf, IsMeantBy}
use Rattle.thread_clients.specs.Endings.{Ends, IsGivenUp, HasTimedOut, WasClosed, WasLeft, closed_by, left_by}
use Rattle.thread_clients.specs.Turns.{HasHeard, WasFull, IsHeardOrFull, HasHeardAnswers, HasFound, MayGiveUp}
use Rattle.thread_clients.specs.Turns as still
use Rattle.thread_section.proofs.Sights.{knows_by, taken_at}
use Rattle.thread_section.proofs.Sessions.{prefix_trans, IsSettled, is_of_before, more_known, HasLooked, looked, full_at}
use Rattle.thread_section.proofs.Hearing.{known, Of, heard_later, full_later, answered_later, turned_goes, full_goes, waits_goes, turn_hears, turn_answers, was_full, heard_or_full}
use Rattle.thread_section.proofs.Accounts.{TakenAt, Adds, IsCallOf, adds_more, adds_weaker, adds_none, receipt_adds, waits_add, may_add}
use Rattle.thread_section.proofs.Lasting.{AreBelow, none_yet, no_result_of}
use Rattle.thread_section.proofs.Commands.{line_meant, HasEntry, has_entry, end_by, ends_by_look, nothing_there}

module _ {T K Kind Delta : Type 0} {ghosts : Ghosts T Kind Op Delta} {keeping : Keeping K} (spelling : Spelling T Kind Op Delta) (meaning : Machine (Node T K Kind Op Delta ghosts keeping) (Input T Kind Op Delta ghosts) Fate (Output T Kind Op Delta ghosts) StepError)
    (world : worlds.World Kind Op Shown) (ids : ℕ → Option ℕ) (opening : Opening (Node T K Kind Op Delta ghosts keeping) (Input T Kind Op Delta ghosts) Fate (Output T Kind Op Delta ghosts) StepError)
    (h : ℕ → List (EntryOf ghosts keeping)) (histories : ℕ → List (model.Entry Op Shown)) (settled : IsSettled spelling meaning world ids opening h histories) (client : ℕ)
    (views : List View) (views_are : worlds.views_of world ≡ views) (below : (i : ℕ) (n : nodes.Node Kind Op Shown) → world.nodes i ≡ Some n → AreBelow (replication ghosts spelling) n) (runs_in : (i : ℕ) → IsTrue (is_member world.view i) → is_some (world.nodes i) ≡ true)
    (none_runs : (i : ℕ) → is_member world.view i ≡ false → world.nodes i ≡ None) where
  abbrev Session : Type 0
  Session = ClientParts (Node T K Kind Op Delta ghosts keeping) (Input T Kind Op Delta ghosts) Fate (Output T Kind Op Delta ghosts) StepError

  abbrev D : Replication Kind Op Shown
  D = replication ghosts spelling

  abbrev known_in : Session → ℕ → ℕ
  known_in s = known spelling meaning world ids opening h histories settled client s

  abbrev IsOurs : Session → Type 0
  IsOurs s = Of spelling meaning world ids opening h histories settled client s

  abbrev Entered : ℕ → Input T Kind Op Delta ghosts → Session → Session → Output T Kind Op Delta ghosts → ℕ → Type 0
  Entered = HasEntry spelling meaning world ids opening h histories settled client views views_are

  before : (a b : Session) → GoesOn a b → IsOurs b → IsOurs a
  before a b goes is = is_of_before spelling meaning world ids opening h histories settled client a b goes is

  more : (a b : Session) → GoesOn a b → (i : ℕ) → known_in a i ≤ known_in b i
  more a b goes i = more_known spelling meaning world ids opening h histories settled a b goes i

  -- AN OPERATION AT ITS END

  member_steps : (i : ℕ) → IsTrue (is_member world.view i) → (n : nodes.Node Kind Op Shown) × (world.nodes i ≡ Some n) × model.AreSteps D n (histories i)
  member_steps i mi = settled.ground.all.steps i mi

  -- what a step of a client was, so far: the command's entry, and the operation that it opened
  pub record Waits (i op : ℕ) (made : Session) (index : ℕ) : Type 0 where
    pub image : model.Entry Op Shown
    pub member : IsTrue (is_member world.view i)
    pub stands : slice_get (histories i) index ≡ Some image
    pub pending : image.output.reply ≡ nodes.Reply.Pending op
    pub known : index < known_in made i

  -- a step that is known, with this end
  module _ (c : Command) (old new : Session) (told : Reply) (end : Option Ended) (index : ℕ) (image : model.Entry Op Shown) (timeout : Option ℕ) where
    abbrev pub step_made : KnownStep Op Shown
    step_made = record { step = record { line = line_meant client c (answer.Reply told) image.output.posts end; index = Some index; timeout = timeout; since = old.seen.stamp; upto = new.seen.stamp }; known = known_in new }

  -- CALLS

  pub begins_before : (a b : Session) → GoesOn a b → ((p : ℕ) → IsPrefix (at b.seen.known p) (h p)) → (p : ℕ) → IsPrefix (at a.seen.known p) (h p)
  begins_before a b goes begins p = prefix_trans (at a.seen.known p) (at b.seen.known p) (h p) (goes.knows.begins p) (begins p)

  abbrev pub Taken : ℕ × ℕ → Type 0
  Taken call = TakenAt meaning ids h call

  abbrev pub Adding : (ℕ × ℕ → Type 0) → Session → Session → Type 0
  Adding P a b = Adds meaning ids h P a b

  -- a take, or the timeout of a command at this member
  abbrev pub EndCall : ℕ → Option ℕ → ℕ × ℕ → Type 0
  EndCall i timeout call = Taken call ⊎ ((ids call.0 ≡ Some i) × (timeout ≡ Some call.1))

  waits_calls : (a b : Session) → IsOurs b → IsHeardOrFull meaning ids a b → Adding Taken a b
  waits_calls a b is waits = waits_add meaning ids h begins_before a b is.begins waits

  may_calls : (i op : ℕ) (a b : Session) → IsOurs b → MayGiveUp meaning ids i op a b → Adding Taken a b
  may_calls i op a b is may = may_add meaning ids h begins_before i op a b is.begins may

  timeout_calls : (i op : ℕ) (a b : Session) (receipt : Receipt (Node T K Kind Op Delta ghosts keeping) (Input T Kind Op Delta ghosts) Fate (Output T Kind Op Delta ghosts) StepError) → IsReceipt meaning ids i (form.Timeout op) a b receipt → Adding (EndCall i (Some receipt.index)) a b
  timeout_calls i op a b receipt made = adds_weaker meaning ids h (IsCallOf meaning ids h i receipt.index) (EndCall i (Some receipt.index)) a b (λ call c. inr (c.0, ap Some (sym c.1))) (receipt_adds meaning ids h i (form.Timeout op) a b receipt made)

  -- what ends a pending command
  pub record IsEnd (c : Command) (op index : ℕ) (image : model.Entry Op Shown) (old made new : Session) (told : Reply) (end : Ended) : Type 0 where
    pub timeout : Option ℕ
    pub goes : GoesOn made new
    pub calls : Adding (EndCall c.at timeout) made new
    pub heard : KnowsHeard D world histories c.at index image (known_in new) ⊎ KnowsFull D world histories (known_in new)
    pub ended : timeout ≡ None → KnowsEnded D world histories c.at (known_in new) (Some op)
    pub timed_out : TimesOutKnown D world histories client c.at (step_made c old new told (Some end) index image timeout) (Some op) timeout
    pub ends : EndsByTimeout D world histories c.at (step_made c old new told (Some end) index image timeout) (Some op) timeout
        ⊎ (Some (ending_meant end) ≡ ending_of (member_after D world histories c.at (known_in new c.at)) (Some op))

  module _ (c : Command) (op index : ℕ) (image : model.Entry Op Shown) (old made new : Session) (told : Reply) (end : Ended) (ours : IsOurs new) (w : Waits c.at op made index) (same : w.image ≡ image) where
    abbrev j : ℕ
    j = c.at

    heard_as : (known : ℕ → ℕ) → KnowsHeard D world histories j index w.image known → KnowsHeard D world histories j index image known
    heard_as known heard = subst (λ (m : model.Entry Op Shown). KnowsHeard D world histories j index m known) same heard

    -- by a look that found it
    by_finding : (result : OperationResult) → HasFound meaning ids j op made new result → end ≡ ended.Finished (record { op = op; result = result }) → IsEnd c op index image old made new told end
    by_finding result found is =
        let mid = found.before in
        let goes_later = found.shown.shown.sees.goes_on in
        let ours_mid = before mid new goes_later ours in
        let look_at = looked spelling meaning world ids opening h histories settled client j op mid new (look.Finished result) ours found.shown in
        record {
          timeout = None;
          goes = goes_on_trans made mid new (waits_goes spelling meaning world ids opening h histories settled client made mid found.heard) goes_later;
          calls = adds_more meaning ids h Taken (EndCall j None) made mid new (λ call t. inl t) (waits_calls made mid ours_mid found.heard) (adds_none meaning ids h (EndCall j None) mid new found.shown.shown.sees);
          heard = ⊎_elim (λ (heard : KnowsHeard D world histories j index w.image (known_in mid)). inl (heard_as (known_in new) (heard_later spelling meaning world ids opening h histories settled client j index w.image (known_in mid) (known_in new) (more mid new goes_later) heard)))
              (λ full. inr (full_later spelling meaning world ids opening h histories settled client (known_in mid) (known_in new) (more mid new goes_later) full))
              (heard_or_full spelling meaning world ids opening h histories settled client made mid ours_mid found.heard j index w.image w.member w.known);
          ended = λ none. inl (ap (λ o. is_open op o) look_at.member_is ∙ look_at.looks.0);
          timed_out = tt;
          ends = inr (ap (λ e. Some (ending_meant e)) is ∙ sym (ends_by_look spelling meaning world ids opening h histories settled client views views_are j op new (look.Finished result) look_at (λ opens. absurd (true≢false (sym opens ∙ look_at.looks.0)))));
        }

    unfinished_by : (s : Session) (seen : Look) → still.IsUnfinished seen → HasLooked spelling meaning world ids opening h histories settled j op s seen → IsUnfinished D world histories j op (known_in s j)
    unfinished_by s look.Open u l = inl (ap (λ o. is_open op o) l.member_is ∙ l.looks)
    unfinished_by s (look.Finished result) u l = absurd u
    unfinished_by s look.NoSuchOp u l = inr (ap (λ o. finished_at op o) l.member_is ∙ nothing_there spelling meaning world ids opening h histories settled client views views_are op l.member l.looks.1)

    -- what was known when the timeout was called
    abbrev GivesUp : Session → Type 0
    GivesUp s = (asked : ℕ → ℕ) × ((i : ℕ) → asked i ≤ known_in s i) × KnowsGivenUp D world histories j op index w.image asked (known_in s)

    gives_up : (s : Session) → IsOurs s → MayGiveUp meaning ids j op made s → GoesOn made s × GivesUp s
    gives_up s is may = by may.waited
      where
        by : HasHeardAnswers meaning ids j op made s ⊎ WasFull meaning ids made s → GoesOn made s × GivesUp s
        by (inr full) = (full_goes spelling meaning world ids opening h histories settled client made s full, (known_in s, (λ i. omega arith), inr (was_full spelling meaning world ids opening h histories settled client made s is full)))
        by (inl answers) =
            let look_goes = answers.shown.shown.sees.goes_on in
            let ours_heard = before answers.heard s look_goes is in
            let answers_go = turned_goes spelling meaning world ids opening h histories settled client answers.asked answers.heard answers.answers in
            let ours_asked = before answers.asked answers.heard answers_go ours_heard in
            let posts_go = turned_goes spelling meaning world ids opening h histories settled client made answers.asked answers.posts in
            let later = goes_on_trans answers.asked answers.heard s answers_go look_goes in
            let look_at = looked spelling meaning world ids opening h histories settled client j op answers.heard s answers.seen is answers.shown in (
              goes_on_trans made answers.asked s posts_go later,
              (
                known_in answers.asked,
                more answers.asked s later,
                inl (
                  turn_hears spelling meaning world ids opening h histories settled client made answers.asked ours_asked answers.posts j index w.image w.member w.known,
                  answered_later spelling meaning world ids opening h histories settled client j (known_in answers.asked) (known_in answers.heard) (known_in s) (more answers.heard s look_goes j)
                      (turn_answers spelling meaning world ids opening h histories settled client answers.asked answers.heard ours_heard answers.answers j w.member),
                  unfinished_by s answers.seen answers.unfinished look_at,
                ),
              ),
            )

    -- its timeout
    pub record IsTimeout (s after new' : Session) (number : ℕ) (m : model.Entry Op Shown) (e : EntryOf ghosts keeping) : Type 0 where
      pub goes : GoesOn made s
      pub gives : GivesUp s
      pub stands : slice_get (histories j) number ≡ Some m
      pub own : m.client ≡ client
      pub input : m.input ≡ nodes.Input.Timeout op
      pub reply : m.output.reply ≡ meant e.output.reply
      pub later : index < number
      pub stamp : s.seen.stamp < m.stamp
      pub timed : IsKnownBy D world histories (known_in s) s.seen.stamp
      pub known : number < known_in after j

    the_timeout : (s after : Session) (receipt : Receipt (Node T K Kind Op Delta ghosts keeping) (Input T Kind Op Delta ghosts) Fate (Output T Kind Op Delta ghosts) StepError) → IsOurs after → MayGiveUp meaning ids j op made s
        → IsReceipt meaning ids j (form.Timeout op) s after receipt → (m : model.Entry Op Shown) × (e : EntryOf ghosts keeping) × IsTimeout s after new receipt.index m e × (e.output ≡ receipt.output)
    the_timeout s after receipt is may called =
        let ours_s = before s after called.answered.goes_on is in
        let up = gives_up s ours_s may in
        let entry = has_entry spelling meaning world ids opening h histories settled client views views_are j (form.Timeout op) s after receipt is called in (
          entry.image,
          entry.entry,
          record {
            goes = up.0;
            gives = up.1;
            stands = entry.stands;
            own = entry.own;
            input = subst (λ (x : Input T Kind Op Delta ghosts). IsMeantBy x entry.image.input) entry.input_is entry.is_image.input;
            reply = entry.is_image.reply;
            later = (let a = more made s up.0 j in let b = w.known in let c = entry.is_new in omega (arith, a, b, c));
            stamp = entry.later;
            timed = knows_by spelling world ids h histories settled.ground s.seen.known s.seen.stamp ours_s.begins may.timed;
            known = entry.known;
          },
          entry.output_is,
        )

    -- the step's clause on its timeout
    timed_by : (s after : Session) (number : ℕ) (m : model.Entry Op Shown) (e : EntryOf ghosts keeping) → IsTimeout s after new number m e → GoesOn after new → TimesOutKnown D world histories client j (step_made c old new told (Some end) index image (Some number)) (Some op) (Some number)
    timed_by s after number m e t goes =
        let gives = t.gives in (
          index,
          image,
          refl,
          subst (λ (x : model.Entry Op Shown). slice_get (histories j) index ≡ Some x) same w.stands,
          record {
            timeout = m;
            asked = gives.0;
            seen = known_in s;
            stamp = s.seen.stamp;
            made = record { stands = t.stands; of = t.own; asks = t.input };
            known = (let a = t.known in let b = more after new goes j in omega (arith, a, b));
            early = ((λ i k x at early. t.timed i k x at (let a = gives.1 i in omega (arith, a, early))), t.timed, t.stamp);
            own = (let a = more made s t.goes j in let b = w.known in omega (arith, a, b));
            cause = subst (λ (x : model.Entry Op Shown). KnowsGivenUp D world histories j op index x gives.0 (known_in s)) same gives.2;
          },
        )

    heard_by : (s : Session) → GivesUp s → GoesOn s new → KnowsHeard D world histories j index image (known_in new) ⊎ KnowsFull D world histories (known_in new)
    heard_by s gives goes = ⊎_elim
        (λ (heard : KnowsHeard D world histories j index w.image gives.0 × KnowsAnswered D world histories j gives.0 (known_in s) × IsUnfinished D world histories j op (known_in s j)).
        inl (heard_as (known_in new) (heard_later spelling meaning world ids opening h histories settled client j index w.image gives.0 (known_in new) (λ i. let a = gives.1 i in let b = more s new goes i in omega (arith, a, b)) heard.0)))
        (λ full. inr (full_later spelling meaning world ids opening h histories settled client (known_in s) (known_in new) (more s new goes) full))
        gives.2

    -- closed at what is known, by its timeout
    closed_at : (number : ℕ) (m : model.Entry Op Shown) → slice_get (histories j) number ≡ Some m → m.input ≡ nodes.Input.Timeout op → index < number → number < known_in new j → index < known_in new j
        → is_open op (member_after D world histories j (known_in new j)) ≡ false
    closed_at number m stands asks order early early' =
        let it = member_steps j w.member in
        let firsts = take (known_in new j) (histories j) in
        let steps = steps_first D it.0 firsts (drop (known_in new j) (histories j)) (subst (model.AreSteps D it.0) (sym (take-append-drop (known_in new j) (histories j))) it.2) in
        ap (λ o. is_open op (option_map (λ n. model.replayed D n firsts) o)) it.1
        ∙ closed_after D op index number it.0 firsts w.image m steps (taken_at (known_in new j) index (histories j) w.image early' w.stands) w.pending (taken_at (known_in new j) number (histories j) m early stands) asks order

    -- open at what is known, and so without a result
    no_result : index < known_in new j → (n : nodes.Node Kind Op Shown) → member_after D world histories j (known_in new j) ≡ Some n → is_open op (Some n) ≡ true → finished_at op (Some n) ≡ None
    no_result early n is opens =
        let it = member_steps j w.member in
        let firsts = take (known_in new j) (histories j) in
        let steps = steps_first D it.0 firsts (drop (known_in new j) (histories j)) (subst (model.AreSteps D it.0) (sym (take-append-drop (known_in new j) (histories j))) it.2) in
        let same_node : model.replayed D it.0 firsts ≡ n = cc (sym (ap (option_map (λ n. model.replayed D n firsts)) it.1) ∙ is) in
        let yet = none_yet D op it.0 firsts index w.image steps (below j it.0 it.1) (taken_at (known_in new j) index (histories j) w.image early w.stands) w.pending in
        subst (λ (n : nodes.Node Kind Op Shown). is_open op (Some n) ≡ true → finished_at op (Some n) ≡ None) same_node (λ o. no_result_of D op (model.replayed D it.0 firsts) yet o) opens

    early_at : (s : Session) → GoesOn made s → index < known_in s j
    early_at s goes = let a = more made s goes j in let b = w.known in omega (arith, a, b)

    -- how its line ends by a look after it
    ends_so : (s : Session) (seen : Look) → IsShownBy meaning ids j Looks op s new seen → index < known_in new j → ending_meant end ≡ end_by spelling meaning world ids opening h histories settled client views views_are op seen
        → Some (ending_meant end) ≡ ending_of (member_after D world histories j (known_in new j)) (Some op)
    ends_so s seen shown early is =
        let look_at = looked spelling meaning world ids opening h histories settled client j op s new seen ours shown in
        ap Some is ∙ sym (ends_by_look spelling meaning world ids opening h histories settled client views views_are j op new seen look_at (no_result early look_at.member look_at.member_is))

    -- by a timeout that gave up
    by_timing_out : (s : Session) → MayGiveUp meaning ids j op made s → HasTimedOut meaning ids j op s new end → IsEnd c op index image old made new told end
    by_timing_out s may out =
        let goes = out.made.answered.goes_on in
        let it = the_timeout s new out.receipt ours may out.made in
        let t = it.2 in
        record {
          timeout = Some out.receipt.index;
          goes = goes_on_trans made s new t.goes goes;
          calls = adds_more meaning ids h Taken (EndCall j (Some out.receipt.index)) made s new (λ call t. inl t) (may_calls j op made s (before s new goes ours) may) (timeout_calls j op s new out.receipt out.made);
          heard = heard_by s t.gives goes;
          ended = λ none. absurd (cc none);
          timed_out = timed_by s new out.receipt.index it.0 it.1 t (goes_on_self new);
          ends = inl (it.0, t.stands, t.reply ∙ ap (λ (o : Output T Kind Op Delta ghosts). meant o.reply) it.3 ∙ ap meant out.replied, ap (λ e. Some (ending_meant e)) out.is);
        }

    -- by one that found it closed
    by_closing : (s : Session) → MayGiveUp meaning ids j op made s → WasClosed meaning ids j op s new end → IsEnd c op index image old made new told end
    by_closing s may was =
        let mid = was.after in
        let look_goes = was.shown.shown.sees.goes_on in
        let ours_mid = before mid new look_goes ours in
        let call_goes = was.made.answered.goes_on in
        let it = the_timeout s mid was.receipt ours_mid may was.made in
        let t = it.2 in
        let goes = goes_on_trans s mid new call_goes look_goes in
        let all = goes_on_trans made s new t.goes goes in
        let early = early_at new all in
        let closed = closed_at was.receipt.index it.0 t.stands t.input t.later (let a = t.known in let b = more mid new look_goes j in omega (arith, a, b)) early in
        record {
          timeout = Some was.receipt.index;
          goes = all;
          calls = adds_more meaning ids h (EndCall j (Some was.receipt.index)) (EndCall j (Some was.receipt.index)) made mid new (λ call t. t)
              (adds_more meaning ids h Taken (EndCall j (Some was.receipt.index)) made s mid (λ call t. inl t) (may_calls j op made s (before s new goes ours) may) (timeout_calls j op s mid was.receipt was.made))
              (adds_none meaning ids h (EndCall j (Some was.receipt.index)) mid new was.shown.shown.sees);
          heard = heard_by s t.gives goes;
          ended = λ none. absurd (cc none);
          timed_out = timed_by s mid was.receipt.index it.0 it.1 t look_goes;
          ends = inr (ends_so mid was.seen was.shown early (ap ending_meant was.is ∙ by was.seen (looked spelling meaning world ids opening h histories settled client j op mid new was.seen ours was.shown) closed));
        }
      where
        by : (seen : Look) → HasLooked spelling meaning world ids opening h histories settled j op new seen → is_open op (member_after D world histories j (known_in new j)) ≡ false
            → ending_meant (closed_by op seen) ≡ end_by spelling meaning world ids opening h histories settled client views views_are op seen
        by (look.Finished result) l closed = refl
        by look.NoSuchOp l closed = refl
        by look.Open l closed = absurd (true≢false (sym (ap (λ o. is_open op o) l.member_is ∙ l.looks) ∙ closed))

    -- by none, since there was no room
    by_leaving : (s : Session) → IsOurs s → MayGiveUp meaning ids j op made s → WasLeft meaning ids j op s new end → IsEnd c op index image old made new told end
    by_leaving s is may was =
        let mid = was.after in
        let look_goes = was.shown.shown.sees.goes_on in
        let ours_mid = before mid new look_goes ours in
        let up = gives_up s is may in
        let goes = goes_on_trans s mid new was.sees.goes_on look_goes in
        let all = goes_on_trans made s new up.0 goes in
        let full = full_at spelling meaning world ids opening h histories settled client j mid ours_mid was.full in
        let more_mid = more mid new look_goes j in
        let few = full.1 in
        record {
          timeout = None;
          goes = all;
          calls = adds_more meaning ids h Taken (EndCall j None) made s new (λ call t. inl t) (may_calls j op made s is may)
              (adds_more meaning ids h (EndCall j None) (EndCall j None) s mid new (λ call t. t) (adds_none meaning ids h (EndCall j None) s mid was.sees) (adds_none meaning ids h (EndCall j None) mid new was.shown.shown.sees));
          heard = heard_by s up.1 goes;
          ended = λ none. inr (full.0, omega (arith, more_mid, few), full.2);
          timed_out = tt;
          ends = inr (ends_so mid was.seen was.shown (early_at new all) (ap ending_meant was.is ∙ by was.seen));
        }
      where
        by : (seen : Look) → ending_meant (left_by op seen) ≡ end_by spelling meaning world ids opening h histories settled client views views_are op seen
        by (look.Finished result) = refl
        by look.NoSuchOp = refl
        by look.Open = refl

    pub by_end : Ends meaning ids j op made new end → IsEnd c op index image old made new told end
    by_end (Ends.finished result found is) = by_finding result found is
    by_end (Ends.given_up s may (IsGivenUp.timed_out out)) = by_timing_out s may out
    by_end (Ends.given_up s may (IsGivenUp.closed was)) = by_closing s may was
    by_end (Ends.given_up s may (IsGivenUp.left was)) = by_leaving s (before s new (goes_on_trans s was.after new was.sees.goes_on was.shown.shown.sees.goes_on) ours) may was

  -- IT ONLY COMES TO KNOW MORE

  may_go : (i op : ℕ) (a b : Session) → MayGiveUp meaning ids i op a b → GoesOn a b
  may_go i op a b may = by may.waited
    where
      by : HasHeardAnswers meaning ids i op a b ⊎ WasFull meaning ids a b → GoesOn a b
      by (inr full) = full_goes spelling meaning world ids opening h histories settled client a b full
      by (inl answers) =
          goes_on_trans a answers.asked b (turned_goes spelling meaning world ids opening h histories settled client a answers.asked answers.posts)
          (goes_on_trans answers.asked answers.heard b (turned_goes spelling meaning world ids opening h histories settled client answers.asked answers.heard answers.answers) answers.shown.shown.sees.goes_on)

  pub ends_goes : (i op : ℕ) (a b : Session) (end : Ended) → Ends meaning ids i op a b end → GoesOn a b
  ends_goes i op a b end (Ends.finished result found is) = goes_on_trans a found.before b (waits_goes spelling meaning world ids opening h histories settled client a found.before found.heard) found.shown.shown.sees.goes_on
  ends_goes i op a b end (Ends.given_up s may (IsGivenUp.timed_out out)) = goes_on_trans a s b (may_go i op a s may) out.made.answered.goes_on
  ends_goes i op a b end (Ends.given_up s may (IsGivenUp.closed was)) = goes_on_trans a s b (may_go i op a s may) (goes_on_trans s was.after b was.made.answered.goes_on was.shown.shown.sees.goes_on)
  ends_goes i op a b end (Ends.given_up s may (IsGivenUp.left was)) = goes_on_trans a s b (may_go i op a s may) (goes_on_trans s was.after b was.sees.goes_on was.shown.shown.sees.goes_on)
