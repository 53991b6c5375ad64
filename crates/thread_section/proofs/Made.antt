-- What one command of a client did, as a step by what the client knew.
--     HasStep, has_step        the step, and that there is one
use Rattle.std.proofs.Common.{◌≡◌, ◌⊎◌, inl, inr, ⊎_elim, ℕ, ◌<◌, List, [], ◌∷◌, map, refl, sym, ap, subst, ◌∙◌, arith, Bool, true, false, true≢false, Option, Some, None}
use Rattle.std.specs.Prelude.{is_some, option_map, IsTrue, ◌==◌}
use Rattle.std.specs.List.{list_any}
use Rattle.model_history.proofs.PruneLaws.{IsIn}
use Rattle.model_members.specs.View.{View, is_member, place_of}
use Rattle.model_members.specs.DataType.{Replication}
use Rattle.model_members.specs.Message.{Post}
use Rattle.model_members.specs.Node as nodes
use Rattle.model_members.specs.Script as script
use Rattle.model_members.specs.World as worlds
use Rattle.theorem_sections.specs.Sections.{pending_op, ending_of}
use Rattle.theorem_sections.specs.Histories as model
use Rattle.theorem_sections.specs.Paths.{IsInputOf, head_of, LacksView}
use Rattle.theorem_sections.specs.Knowing.{KnownStep, member_after, IsKnownFull, KnowsFull, KnowsHeard, KnowsEnded, IsKnownAnswer, TimesOutKnown, EndsByTimeout, IsKnownStepOf}
use Rattle.model_kinds.specs.declared.operation.Op.{Op}
use Rattle.model_kinds.specs.declared.shown.Shown.{Shown}
use Rattle.data_lattice.specs.declared.replica.Replica.{Ghosts}
use Rattle.data_lattice.specs.declared.spelled.SpelledData.{Ghosts as Spelling}
use Rattle.member_keeper.specs.declared.keeper.Keeper.{Ghosts as Keeping}
use Rattle.thread_machine.specs.declared.machine.Machine.{Ghosts as Machine}
use Rattle.thread_cell.specs.declared.opening.Opening.{Opening}
use Rattle.thread_cell.specs.Values.{ClientParts}
use Rattle.member_node.specs.declared.input.Input.{Input}
use Rattle.member_node.specs.declared.node.Node.{Node}
use Rattle.member_node.specs.declared.reply.Fate.{Fate}
use Rattle.member_node.specs.declared.reply.Output.{Output}
use Rattle.member_node.specs.declared.reply.Reply.{Reply}
use Rattle.member_node.specs.declared.reply.Reply.TheVariants as reply
use Rattle.member_node.specs.declared.reply.StepError.{StepError}
use Rattle.member_node.specs.Replies.{meant}
use Rattle.member_node.specs.Steps.{replication}
use Rattle.script_reading.specs.declared.clients.Command.{Command}
use Rattle.world_members.specs.declared.client_line.ClientLine.{ClientLine}
use Rattle.world_members.specs.declared.client_line.Ended.{Ended}
use Rattle.world_members.specs.declared.event.Answer.{Answer}
use Rattle.world_members.specs.declared.event.Answer.TheVariants as answer
use Rattle.world_members.specs.ClientLines.{ending_meant, IsClientLine}
use Rattle.world_members.specs.Lines.{IsHead, IsAnswer}
use Rattle.world_places.specs.Sketched.{sketched_post}
use Rattle.world_places.specs.Sending.{told_of}
use Rattle.world_members.specs.Threads.{command_of}
use Rattle.world_members.proofs.Asking.{asked_some, asked_none}
use Rattle.thread_cluster.specs.Knowing.{GoesOn, IsNowhere}
use Rattle.thread_cluster.proofs.Growing.{goes_on_trans, goes_on_self}
use Rattle.thread_run_order.specs.Images.{EntryOf}
use Rattle.thread_clients.specs.Answers.{IsQuiet, IsReplied, IsUnmade, IsAnsweredBy, HasMade}
use Rattle.thread_clients.specs.Calls.{HasNoRoom, IsViewless}
use Rattle.thread_clients.specs.Endings.{Ends}
use Rattle.thread_clients.specs.Turns.{IsHeardOrFull}
use Rattle.thread_section.proofs.Sights.{knows_by}
use Rattle.thread_section.proofs.Sessions.{IsSettled, is_of_before, more_known, full_at}
use Rattle.thread_section.proofs.Hearing.{known, Of, waits_goes, heard_or_full}
use Rattle.thread_section.proofs.Lasting.{AreBelow}
use Rattle.thread_section.proofs.Commands.{line_meant, answer_meant, Follows, follows, HasEntry, has_entry, input_meant}
use Rattle.thread_section.proofs.Accounts.{TakenAt, Adds, IsCallOf, adds_more, adds_weaker, adds_none, receipt_adds, waits_add}
use Rattle.thread_section.proofs.Steps.{begins_before as before_by, Adding, EndCall, Waits, step_made, by_end, ends_goes}

-- no message, where none is told
none_posted : (ms : List (Post Op)) → [] ≡ map sketched_post ms → ms ≡ []
none_posted [] e = refl
none_posted (m ∷ ms) e = absurd (cc e)

module _ {T K Kind Delta : Type 0} {ghosts : Ghosts T Kind Op Delta} {keeping : Keeping K} (spelling : Spelling T Kind Op Delta) (meaning : Machine (Node T K Kind Op Delta ghosts keeping) (Input T Kind Op Delta ghosts) Fate (Output T Kind Op Delta ghosts) StepError)
    (world : worlds.World Kind Op Shown) (ids : ℕ → Option ℕ) (opening : Opening (Node T K Kind Op Delta ghosts keeping) (Input T Kind Op Delta ghosts) Fate (Output T Kind Op Delta ghosts) StepError)
    (h : ℕ → List (EntryOf ghosts keeping)) (histories : ℕ → List (model.Entry Op Shown)) (settled : IsSettled spelling meaning world ids opening h histories) (client : ℕ)
    (views : List View) (views_are : worlds.views_of world ≡ views) (below : (i : ℕ) (n : nodes.Node Kind Op Shown) → world.nodes i ≡ Some n → AreBelow (replication ghosts spelling) n) (runs_in : (i : ℕ) → IsTrue (is_member world.view i) → is_some (world.nodes i) ≡ true)
    (none_runs : (i : ℕ) → is_member world.view i ≡ false → world.nodes i ≡ None) where
  abbrev Session : Type 0
  Session = ClientParts (Node T K Kind Op Delta ghosts keeping) (Input T Kind Op Delta ghosts) Fate (Output T Kind Op Delta ghosts) StepError

  abbrev D : Replication Kind Op Shown
  D = replication ghosts spelling

  abbrev known_in : Session → ℕ → ℕ
  known_in s = known spelling meaning world ids opening h histories settled client s

  abbrev IsOurs : Session → Type 0
  IsOurs s = Of spelling meaning world ids opening h histories settled client s

  abbrev Taken : ℕ × ℕ → Type 0
  Taken call = TakenAt meaning ids h call

  abbrev Ending' : ℕ → Option ℕ → ℕ × ℕ → Type 0
  Ending' i timeout = EndCall spelling meaning world ids opening h histories settled client views views_are below runs_in none_runs i timeout

  -- a take, or the call of a command at this member, or its timeout
  abbrev pub StepCall : ℕ → KnownStep Op Shown → ℕ × ℕ → Type 0
  StepCall i k call = Taken call ⊎ ((ids call.0 ≡ Some i) × ((k.step.index ≡ Some call.1) ⊎ (k.step.timeout ≡ Some call.1)))

  -- the step of a command, its line, and where it leads
  pub record HasStep (c : Command) (old new : Session) (line : ClientLine) : Type 0 where
    pub k : KnownStep Op Shown
    pub told : IsClientLine line k.step.line
    pub since : k.step.since ≡ old.seen.stamp
    pub upto : k.step.upto ≡ new.seen.stamp
    pub goes : GoesOn old new
    pub calls : Adding spelling meaning world ids opening h histories settled client views views_are below runs_in none_runs (StepCall c.at k) old new
    pub step : IsKnownStepOf D world histories client (command_of c) k

  module _ (c : Command) (old new : Session) (line : ClientLine) (ours : IsOurs new) (made : HasMade meaning ids views c old new line client) where
    abbrev j : ℕ
    j = c.at

    -- a line with this answer, these posts and this end
    is_line : (told : Answer) (posts : List (Post Op)) → line.answer ≡ told → IsAnswer told (answer_meant told) → line.sent ≡ map sketched_post posts → IsClientLine line (line_meant client c told posts line.ended)
    is_line told posts is answers sent =
        record {
          client = ap Some (sym made.client_is);
          head = subst (λ head. IsHead head (head_of (command_of c))) (sym made.head_is) refl;
          answer = subst (λ a. IsAnswer a (answer_meant told)) (sym is) answers;
          sent = sent;
          ended = refl;
        }

    knows_now : Rattle.theorem_sections.specs.Knowing.IsKnownBy D world histories (known_in new) new.seen.stamp
    knows_now = knows_by spelling world ids h histories settled.ground new.seen.known new.seen.stamp ours.begins made.timed

    -- A COMMAND THAT WAS ANSWERED

    module _ (told : Reply) (is : line.answer ≡ answer.Reply told) (r : IsReplied meaning ids views c old new line told) where
      goes_first : GoesOn old r.made
      goes_first = r.is_made.called.answered.goes_on

      ours_made : (goes : GoesOn r.made new) → IsOurs r.made
      ours_made goes = is_of_before spelling meaning world ids opening h histories settled client r.made new goes ours

      abbrev Entered : Type 0
      Entered = HasEntry spelling meaning world ids opening h histories settled client views views_are j r.is_made.given old r.made r.receipt.output r.receipt.index

      entered : GoesOn r.made new → Entered
      entered goes = has_entry spelling meaning world ids opening h histories settled client views views_are j r.is_made.given old r.made r.receipt (ours_made goes) r.is_made.called

      -- the step, once it is known what followed
      module _ (goes : GoesOn r.made new) (timeout : Option ℕ) where
        abbrev en : Entered
        en = entered goes

        abbrev k_of : KnownStep Op Shown
        k_of = step_made spelling meaning world ids opening h histories settled client views views_are below runs_in none_runs c old new told line.ended r.receipt.index en.image timeout

        sent_are : line.sent ≡ map sketched_post en.image.output.posts
        sent_are = r.sent ∙ ap (λ (o : Output T Kind Op Delta ghosts). map told_of o.posts) (sym en.output_is) ∙ en.is_image.posts

        reply_is : en.image.output.reply ≡ meant told
        reply_is = en.is_image.reply ∙ ap (λ (o : Output T Kind Op Delta ghosts). meant o.reply) en.output_is ∙ ap meant r.replied

        input_is : IsInputOf (worlds.views_of world) (command_of c) en.image.input
        input_is =
            subst (λ vs. IsInputOf vs (command_of c) en.image.input) (sym views_are)
            (input_meant views c.ask en.entry.input en.image.input (r.is_made.is_given ∙ ap Some (sym en.input_is)) en.is_image.input)

        known_now : r.receipt.index < known_in new j
        known_now = let a = more_known spelling meaning world ids opening h histories settled r.made new goes j in let b = en.known in omega (arith, a, b)

        step_of : KnowsHeard D world histories j r.receipt.index en.image (known_in new) ⊎ KnowsFull D world histories (known_in new) → (timeout ≡ None → KnowsEnded D world histories j (known_in new) (pending_op (script.Answer.Replied (meant told))))
            → TimesOutKnown D world histories client j k_of (pending_op (script.Answer.Replied (meant told))) timeout
            → EndsByTimeout D world histories j k_of (pending_op (script.Answer.Replied (meant told))) timeout ⊎ (option_map ending_meant line.ended ≡ ending_of (member_after D world histories j (known_in new j)) (pending_op (script.Answer.Replied (meant told))))
            → Adds meaning ids h (Ending' j timeout) r.made new → HasStep c old new line
        step_of heard ended times_out ends calls =
            record {
              k = k_of;
              told = is_line (answer.Reply told) en.image.output.posts is refl sent_are;
              since = refl;
              upto = refl;
              goes = goes_on_trans old r.made new goes_first goes;
              calls = adds_more meaning ids h (IsCallOf meaning ids h j r.receipt.index) (StepCall j k_of) old r.made new (λ call at. inr (at.0, inl (ap Some (sym at.1)))) (receipt_adds meaning ids h j r.is_made.given old r.made r.receipt r.is_made.called)
                  (adds_weaker meaning ids h (Ending' j timeout) (StepCall j k_of) r.made new (λ call e. ⊎_elim (λ (t : Taken call). inl t) (λ (x : (ids call.0 ≡ Some j) × (timeout ≡ Some call.1)). inr (x.0, inr x.1)) e) calls);
              step = record {
                told = (refl, refl);
                knows = knows_now;
                answered = record {
                  index = r.receipt.index;
                  entry = en.image;
                  input = en.image.input;
                  at = refl;
                  runs = runs_in j en.member;
                  given = input_is;
                  made = record { stands = en.stands; of = en.own; asks = refl };
                  replied = reply_is;
                  posts = refl;
                  later = en.later;
                  known = known_now;
                  heard = heard;
                  ended = ended;
                };
                timed_out = times_out;
                ends = ends;
                forward = (let g = goes_on_trans old r.made new goes_first goes in g.stamp);
              };
            }

      -- it waits for nothing
      goes_quietly : pending_op {Shown = Shown} (script.Answer.Replied (meant told)) ≡ None → line.ended ≡ None → IsQuiet meaning ids c r.receipt.output.posts r.made new ⊎ IsHeardOrFull meaning ids r.made new → HasStep c old new line
      goes_quietly none no_end how = by how
        where
          ended : (known : ℕ → ℕ) → KnowsEnded D world histories j known (pending_op (script.Answer.Replied (meant told)))
          ended known = subst (KnowsEnded D world histories j known) (sym none) tt

          ends : (known : ℕ → ℕ) → option_map ending_meant line.ended ≡ ending_of (member_after D world histories j (known j)) (pending_op (script.Answer.Replied (meant told)))
          ends known = ap (option_map ending_meant) no_end ∙ sym (ap (ending_of (member_after D world histories j (known j))) none)

          by : IsQuiet meaning ids c r.receipt.output.posts r.made new ⊎ IsHeardOrFull meaning ids r.made new → HasStep c old new line
          by (inl quiet) =
              let goes : GoesOn r.made new = subst (GoesOn r.made) (sym quiet.same) (goes_on_self r.made) in
              let posts : (entered goes).image.output.posts ≡ [] = none_posted (entered goes).image.output.posts
              (sym (ap (map told_of) quiet.posts_are) ∙ ap (λ (o : Output T Kind Op Delta ghosts). map told_of o.posts) (sym (entered goes).output_is) ∙ (entered goes).is_image.posts) in
              step_of goes None (inl (λ i other member some. absurd (true≢false (sym some ∙ ap (list_any (λ (post : Post Op). post.to == i)) posts)))) (λ _. ended (known_in new)) tt (inr (ends (known_in new)))
              (λ call m. inl (subst (λ (s : Session). IsIn s.calls call) quiet.same m))
          by (inr waits) =
              let goes = waits_goes spelling meaning world ids opening h histories settled client r.made new waits in
              step_of goes None (heard_or_full spelling meaning world ids opening h histories settled client r.made new ours waits j r.receipt.index (entered goes).image (entered goes).member (entered goes).known)
              (λ _. ended (known_in new)) tt (inr (ends (known_in new)))
              (adds_weaker meaning ids h Taken (Ending' j None) r.made new (λ call t. inl t) (waits_add meaning ids h (before_by spelling meaning world ids opening h histories settled client views views_are below runs_in none_runs) r.made new ours.begins waits))

      -- it waits for an operation
      waits_for : (op : ℕ) → r.receipt.output.reply ≡ reply.Pending op → (end : Ended) → line.ended ≡ Some end → Ends meaning ids j op r.made new end → HasStep c old new line
      waits_for op pends end ended_is ends =
          let goes = ends_goes spelling meaning world ids opening h histories settled client views views_are below runs_in none_runs j op r.made new end ends in
          let told_is : told ≡ reply.Pending op = sym r.replied ∙ pends in
          let pending_is : pending_op {Shown = Shown} (script.Answer.Replied (meant told)) ≡ Some op = ap (λ t. pending_op (script.Answer.Replied (meant t))) told_is in
          let it = entered goes in
          let w : Waits spelling meaning world ids opening h histories settled client views views_are below runs_in none_runs j op r.made r.receipt.index =
          record { image = it.image; member = it.member; stands = it.stands; pending = reply_is goes None ∙ ap meant told_is; known = it.known } in
          let e = by_end spelling meaning world ids opening h histories settled client views views_are below runs_in none_runs c op r.receipt.index it.image old r.made new told end ours w refl ends in
          let made_with : Option Ended → KnownStep Op Shown = λ o. step_made spelling meaning world ids opening h histories settled client views views_are below runs_in none_runs c old new told o r.receipt.index it.image e.timeout in
          step_of goes e.timeout e.heard
          (λ none. subst (KnowsEnded D world histories j (known_in new)) (sym pending_is) (e.ended none))
          (subst (λ o. TimesOutKnown D world histories client j (made_with line.ended) o e.timeout) (sym pending_is) (subst (λ o. TimesOutKnown D world histories client j (made_with o) (Some op) e.timeout) (sym ended_is) e.timed_out))
          (⊎_elim
          (λ (out : EndsByTimeout D world histories j (made_with (Some end)) (Some op) e.timeout).
          inl (subst (λ o. EndsByTimeout D world histories j (made_with line.ended) o e.timeout) (sym pending_is) (subst (λ o. EndsByTimeout D world histories j (made_with o) (Some op) e.timeout) (sym ended_is) out)))
          (λ (so : Some (ending_meant end) ≡ ending_of (member_after D world histories j (known_in new j)) (Some op)).
          inr (ap (option_map ending_meant) ended_is ∙ so ∙ sym (ap (ending_of (member_after D world histories j (known_in new j))) pending_is)))
          e.ends)
          e.calls

      replied_step : HasStep c old new line
      replied_step = by (follows meaning ids c r.receipt.output.posts r.made new line.ended r.receipt.output.reply r.settles)
        where
          by : Follows meaning ids c r.receipt.output.posts r.made new line.ended r.receipt.output.reply → HasStep c old new line
          by (Follows.waits op is_pending end ended_is ends) = waits_for op is_pending end ended_is ends
          by (Follows.goes_on none no_end how) = goes_quietly (ap (λ t. pending_op (script.Answer.Replied (meant t))) (sym r.replied) ∙ none) no_end how

    -- A COMMAND THAT MADE NO STEP

    -- with no entry
    abbrev bare : Answer → KnownStep Op Shown
    bare told = record { step = record { line = line_meant client c told [] line.ended; index = None; timeout = None; since = old.seen.stamp; upto = new.seen.stamp }; known = known_in new }

    unmade : (told : Answer) → line.answer ≡ told → IsAnswer told (answer_meant told) → pending_op {Shown = Shown} (answer_meant told) ≡ None → (cause : Type 0) → IsUnmade {data_of = ghosts} meaning ids views c old new line cause
        → IsKnownAnswer D world histories client (command_of c) (bare told) (answer_meant told) → HasStep c old new line
    unmade told is answers none cause u known =
        record {
          k = bare told;
          told = is_line told [] is answers u.sent;
          since = refl;
          upto = refl;
          goes = u.sees.goes_on;
          calls = adds_none meaning ids h (StepCall j (bare told)) old new u.sees;
          step = record {
            told = (refl, refl);
            knows = knows_now;
            answered = known;
            timed_out = tt;
            ends = inr (ap (option_map ending_meant) u.ended ∙ sym (ap (ending_of (member_after D world histories j (known_in new j))) none));
            forward = u.sees.goes_on.stamp;
          };
        }

    -- no member has the identity
    nowhere : IsNowhere ids c.at → world.nodes j ≡ None
    nowhere gone = by (is_member world.view j) refl
      where
        by : (b : Bool) → is_member world.view j ≡ b → world.nodes j ≡ None
        by true is = absurd (gone.nowhere (place_of world.view j) (settled.ground.seated j is))
        by false is = none_runs j is

    -- one has
    somewhere : (IsNowhere ids c.at → ⊥) → is_some (world.nodes j) ≡ true
    somewhere runs = by (is_member world.view j) refl
      where
        by : (b : Bool) → is_member world.view j ≡ b → is_some (world.nodes j) ≡ true
        by true is = runs_in j is
        by false is = absurd (runs (record { nowhere = λ p here. absurd (true≢false (sym (settled.ground.members p j here) ∙ is)) }))

    pub has_step : HasStep c old new line
    has_step = by line.answer refl made.answered
      where
        by : (told : Answer) → line.answer ≡ told → IsAnsweredBy meaning ids views c old new line told → HasStep c old new line
        by (answer.Reply told) is r = replied_step told is r
        by answer.Gone is u = unmade answer.Gone is refl refl (IsNowhere ids c.at) u (refl, refl, nowhere u.why)
        by answer.NoSuchView is u =
            unmade answer.NoSuchView is refl refl (IsViewless meaning ids views c old new) u
            (refl, refl, somewhere u.why.runs, subst (λ vs. LacksView vs (command_of c)) (sym views_are) (asked_none {ghosts = ghosts} views c.ask u.why.lacks))
        by answer.HistoryFull is u =
            unmade answer.HistoryFull is refl refl (HasNoRoom meaning ids views c old new) u (
              refl,
              refl,
              subst (λ vs. (input : nodes.Input Op) × IsInputOf vs (command_of c) input) (sym views_are) (let sent = asked_some views c.ask u.why.given u.why.is_given in (sent.0, sent.1)),
              full_at spelling meaning world ids opening h histories settled client j new ours u.why.full,
            )
        by answer.NoSuchMessage is u = absurd u
        by answer.Lost is u = absurd u
        by answer.Nothing is u = absurd u
        by (answer.View view) is u = absurd u
        by (answer.NewId id view) is u = absurd u
        by answer.LastMember is u = absurd u
        by answer.PlaceTaken is u = absurd u
        by answer.TooManyIdentities is u = absurd u
        by answer.ClearFailed is u = absurd u
        by answer.LoadFailed is u = absurd u
        by (answer.Damaged key) is u = absurd u
        by (answer.Settled messages blocked) is u = absurd u
        by answer.Stopped is u = absurd u
