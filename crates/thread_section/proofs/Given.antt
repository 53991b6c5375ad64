-- What clients gave their members is what a section gives: messages of members, and views of the list.
--     GivenAt        the entry of a call is given so
--     path_given        each call that came on a path is
use Rattle.std.proofs.Common.{◌≡◌, ◌⊎◌, inl, inr, ⊎_elim, ℕ, zero, suc, List, [], ◌∷◌, refl, sym, ap, subst, ◌∙◌, Option, Some, None}
use Rattle.std.specs.Prelude.{slice_get, option_map, if◌then◌else◌}
use Rattle.std.proofs.lemmas.Bool.Decides.{eqb_tells}
use mathlib.Core.List.{IsPrefix}
use Rattle.model_history.proofs.PruneLaws.{IsIn, in_append}
use Rattle.model_members.specs.View.{View}
use Rattle.model_kinds.specs.declared.operation.Op.{Op}
use Rattle.data_lattice.specs.declared.replica.Replica.{Ghosts}
use Rattle.member_keeper.specs.declared.keeper.Keeper.{Ghosts as Keeping}
use Rattle.thread_machine.specs.declared.machine.Machine.{Ghosts as Machine}
use Rattle.thread_cell.specs.declared.receipt.Receipt.{Receipt}
use Rattle.thread_cell.specs.Lists.{at}
use Rattle.thread_cell.specs.Values.{ClientParts}
use Rattle.member_messages.specs.declared.message.Message.{Message}
use Rattle.member_messages.specs.declared.message.Post.{Post}
use Rattle.member_node.specs.declared.input.Input.{Input}
use Rattle.member_node.specs.declared.input.Input.TheVariants as form
use Rattle.member_node.specs.declared.node.Node.{Node}
use Rattle.member_node.specs.declared.reply.Fate.{Fate}
use Rattle.member_node.specs.declared.reply.Output.{Output}
use Rattle.member_node.specs.declared.reply.Reply.{Reply}
use Rattle.member_node.specs.declared.reply.StepError.{StepError}
use Rattle.script_reading.specs.declared.ask.Ask.{Ask}
use Rattle.script_reading.specs.declared.ask.Ask.TheVariants as asks
use Rattle.script_reading.specs.declared.clients.Command.{Command}
use Rattle.world_members.specs.declared.client_line.ClientLine.{ClientLine}
use Rattle.world_members.specs.declared.client_line.Ended.{Ended}
use Rattle.world_members.specs.declared.event.Answer.{Answer}
use Rattle.world_members.specs.declared.event.Answer.TheVariants as answer
use Rattle.world_places.specs.Places.{identity_at}
use Rattle.world_members.specs.Asking.{input_of}
use Rattle.thread_cluster.specs.Messages.{messages_of}
use Rattle.thread_cluster.specs.Knowing.{GoesOn, Sees, Turns, IsReceipt}
use Rattle.thread_cluster.proofs.Growing.{goes_on_self, goes_on_trans}
use Rattle.thread_run_order.specs.Images.{EntryOf}
use Rattle.thread_run_order.specs.Section.{IsGiven}
use Rattle.thread_clients.specs.Answers.{IsReplied, IsUnmade, IsAnsweredBy, HasMade}
use Rattle.thread_clients.specs.Endings.{IsGivenUp, Ends}
use Rattle.thread_clients.specs.Paths.{IsPath}
use Rattle.thread_clients.specs.Turns.{HasHeard, WasFull, IsHeardOrFull, HasHeardAnswers, MayGiveUp}
use Rattle.thread_section.proofs.Accounts.{TakenAt, Adds, adds_more, adds_weaker, adds_none, turns_add, get_prefix}
use Rattle.thread_section.proofs.Commands.{Follows, follows}
use Rattle.thread_section.proofs.Sessions.{prefix_trans}

module _ {T Kind Delta : Type 0} {ghosts : Ghosts T Kind Op Delta} (view : View) (views : List View) where
  -- a take of a member
  taken_given : (from : ℕ) (input : Input T Kind Op Delta ghosts) (message : Message T Kind Op Delta ghosts) → messages_of from input ≡ message ∷ [] → (place : ℕ) → identity_at view place ≡ Some from → IsGiven view views input
  taken_given from (form.Take sender m) message e place here = elim (eqb_tells from sender) [
    | inl same ↦ (place, here ∙ ap Some same.1)
    | inr other ↦ absurd (let none = sym (ap (λ b. if b then m ∷ [] else []) other.0) ∙ e in cc none)
  ]
  taken_given from (form.Update key op level) message e place here = absurd (cc e)
  taken_given from (form.Get key level) message e place here = absurd (cc e)
  taken_given from (form.Install other) message e place here = absurd (cc e)
  taken_given from form.Flush message e place here = absurd (cc e)
  taken_given from (form.GossipTo to) message e place here = absurd (cc e)
  taken_given from form.PruneTick message e place here = absurd (cc e)
  taken_given from (form.Timeout op) message e place here = absurd (cc e)

  -- what a question gives
  command_given : (ask : Ask) (input : Input T Kind Op Delta ghosts) → input_of views ask ≡ Some input → IsGiven view views input
  command_given (asks.Update key op level) input is = subst (IsGiven view views) {x = form.Update key op level} (cc is) tt
  command_given (asks.Get key level) input is = subst (IsGiven view views) {x = form.Get key level} (cc is) tt
  command_given asks.Flush input is = subst (IsGiven view views) {x = form.Flush} (cc is) tt
  command_given (asks.Gossip to) input is = subst (IsGiven view views) {x = form.GossipTo to} (cc is) tt
  command_given asks.Tick input is = subst (IsGiven view views) {x = form.PruneTick} (cc is) tt
  command_given (asks.Install number) input is = by (slice_get views number) refl is
    where
      by : (found : Option View) → slice_get views number ≡ found → option_map form.Install found ≡ Some input → IsGiven view views input
      by None listed e = absurd (cc e)
      by (Some other) listed e = subst (IsGiven view views) {x = form.Install other} (cc e) (number, listed)

module _ {T K Kind Delta : Type 0} {ghosts : Ghosts T Kind Op Delta} {keeping : Keeping K} (meaning : Machine (Node T K Kind Op Delta ghosts keeping) (Input T Kind Op Delta ghosts) Fate (Output T Kind Op Delta ghosts) StepError) (ids : ℕ → Option ℕ)
    (h : ℕ → List (EntryOf ghosts keeping)) (view : View) (views : List View) (ids_are : (place : ℕ) → ids place ≡ identity_at view place) where
  abbrev Session : Type 0
  Session = ClientParts (Node T K Kind Op Delta ghosts keeping) (Input T Kind Op Delta ghosts) Fate (Output T Kind Op Delta ghosts) StepError

  -- the entry of the call is one that a section gives
  pub record GivenAt (call : ℕ × ℕ) : Type 0 where
    pub entry : EntryOf ghosts keeping
    pub stands : slice_get (h call.0) call.1 ≡ Some entry
    pub given : IsGiven view views entry.input

  take_is : (call : ℕ × ℕ) → TakenAt meaning ids h call → GivenAt call
  take_is call t = record { entry = t.entry; stands = t.stands; given = taken_given view views t.from t.entry.input t.message t.takes t.sender (sym (ids_are t.sender) ∙ t.sent_by) }

  abbrev Begins : Session → Type 0
  Begins s = (p : ℕ) → IsPrefix (at s.seen.known p) (h p)

  -- the session goes on, and the calls that come are given
  pub record Going (a b : Session) : Type 0 where
    pub goes : GoesOn a b
    pub adds : Begins b → Adds meaning ids h GivenAt a b

  going_then : (a b c : Session) → Going a b → Going b c → Going a c
  going_then a b c first next = record {
    goes = goes_on_trans a b c first.goes next.goes;
    adds = λ begins.
        adds_more meaning ids h GivenAt GivenAt a b c (λ call g. g) (first.adds (λ p. prefix_trans (at b.seen.known p) (at c.seen.known p) (h p) (next.goes.knows.begins p) (begins p))) (next.adds begins);
  }

  going_self : (a b : Session) → b ≡ a → Going a b
  going_self a b same = record { goes = subst (GoesOn a) (sym same) (goes_on_self a); adds = λ begins call m. inl (subst (λ (s : Session). IsIn s.calls call) same m) }

  sees_going : (a b : Session) → Sees a b → Going a b
  sees_going a b sees = record { goes = sees.goes_on; adds = λ begins. adds_none meaning ids h GivenAt a b sees }

  turns_going : (n : ℕ) (a b : Session) → Turns messages_of ids n a b → Going a b
  turns_going n a b turns = record { goes = turns.goes_on; adds = λ begins. adds_weaker meaning ids h (TakenAt meaning ids h) GivenAt a b take_is (turns_add meaning ids h n a b begins turns) }

  receipt_going : (i : ℕ) (input : Input T Kind Op Delta ghosts) (a b : Session) (receipt : Receipt (Node T K Kind Op Delta ghosts keeping) (Input T Kind Op Delta ghosts) Fate (Output T Kind Op Delta ghosts) StepError) → IsReceipt meaning ids i input a b receipt → IsGiven view views input → Going a b
  receipt_going i input a b receipt made is = record {
    goes = made.answered.goes_on;
    adds = λ begins call m. ⊎_elim (λ (old : IsIn a.calls call). inl old) (λ (new : IsIn ((receipt.place, receipt.index) ∷ []) call). inr (by begins call new))
        (in_append a.calls ((receipt.place, receipt.index) ∷ []) call (subst (λ calls. IsIn calls call) made.answered.calls m));
  }
    where
      by : Begins b → (call : ℕ × ℕ) → IsIn ((receipt.place, receipt.index) ∷ []) call → GivenAt call
      by begins call (zero, e) =
          let same : (receipt.place, receipt.index) ≡ call = cc e in
          let there = get_prefix (at b.seen.known receipt.place) (h receipt.place) receipt.index made.answered.entry (begins receipt.place) made.answered.stands in
          record {
            entry = made.answered.entry;
            stands = subst (λ (c : ℕ × ℕ). slice_get (h c.0) c.1 ≡ Some made.answered.entry) same there;
            given = subst (IsGiven view views) (sym made.answered.input_is) is;
          }
      by begins call (suc k, e) = absurd (cc e)

  heard_going : (a b : Session) → HasHeard ids a b → Going a b
  heard_going a b heard = turns_going heard.n a b heard.turned.turned

  full_going : (a b : Session) → WasFull meaning ids a b → Going a b
  full_going a b full = going_then a full.between b (turns_going full.before.n a full.between full.before.turned) (turns_going full.after.n full.between b full.after.turned)

  waits_going : (a b : Session) → IsHeardOrFull meaning ids a b → Going a b
  waits_going a b (inl heard) = heard_going a b heard
  waits_going a b (inr full) = full_going a b full

  may_going : (i op : ℕ) (a b : Session) → MayGiveUp meaning ids i op a b → Going a b
  may_going i op a b may = by may.waited
    where
      by : HasHeardAnswers meaning ids i op a b ⊎ WasFull meaning ids a b → Going a b
      by (inr full) = full_going a b full
      by (inl answers) =
          going_then a answers.asked b (heard_going a answers.asked answers.posts)
          (going_then answers.asked answers.heard b (heard_going answers.asked answers.heard answers.answers) (sees_going answers.heard b answers.shown.shown.sees))

  given_up_going : (i op : ℕ) (a b : Session) (end : Ended) → IsGivenUp meaning ids i op a b end → Going a b
  given_up_going i op a b end (IsGivenUp.timed_out out) = receipt_going i (form.Timeout op) a b out.receipt out.made tt
  given_up_going i op a b end (IsGivenUp.closed was) = going_then a was.after b (receipt_going i (form.Timeout op) a was.after was.receipt was.made tt) (sees_going was.after b was.shown.shown.sees)
  given_up_going i op a b end (IsGivenUp.left was) = going_then a was.after b (sees_going a was.after was.sees) (sees_going was.after b was.shown.shown.sees)

  ends_going : (i op : ℕ) (a b : Session) (end : Ended) → Ends meaning ids i op a b end → Going a b
  ends_going i op a b end (Ends.finished result found is) = going_then a found.before b (waits_going a found.before found.heard) (sees_going found.before b found.shown.shown.sees)
  ends_going i op a b end (Ends.given_up before may up) = going_then a before b (may_going i op a before may) (given_up_going i op before b end up)

  follows_going : (c : Command) (posts : List (Post T Kind Op Delta ghosts)) (a b : Session) (told : Option Ended) (r : Reply) → Follows meaning ids c posts a b told r → Going a b
  follows_going c posts a b told r (Follows.waits op pends end is ends) = ends_going c.at op a b end ends
  follows_going c posts a b told r (Follows.goes_on none no_end (inl quiet)) = going_self a b quiet.same
  follows_going c posts a b told r (Follows.goes_on none no_end (inr waits)) = waits_going a b waits

  replied_going : (c : Command) (a b : Session) (line : ClientLine) (told : Reply) → IsReplied meaning ids views c a b line told → Going a b
  replied_going c a b line told r =
      going_then a r.made b (receipt_going c.at r.is_made.given a r.made r.receipt r.is_made.called (command_given view views c.ask r.is_made.given r.is_made.is_given))
      (follows_going c r.receipt.output.posts r.made b line.ended r.receipt.output.reply (follows meaning ids c r.receipt.output.posts r.made b line.ended r.receipt.output.reply r.settles))

  unmade_going : (c : Command) (a b : Session) (line : ClientLine) (cause : Type 0) → IsUnmade {data_of = ghosts} meaning ids views c a b line cause → Going a b
  unmade_going c a b line cause u = sees_going a b u.sees

  made_going : (client : ℕ) (c : Command) (a b : Session) (line : ClientLine) → HasMade meaning ids views c a b line client → Going a b
  made_going client c a b line made = by line.answer made.answered
    where
      by : (told : Answer) → IsAnsweredBy meaning ids views c a b line told → Going a b
      by (answer.Reply told) r = replied_going c a b line told r
      by answer.Gone u = sees_going a b u.sees
      by answer.NoSuchView u = sees_going a b u.sees
      by answer.HistoryFull u = sees_going a b u.sees
      by answer.NoSuchMessage u = absurd u
      by answer.Lost u = absurd u
      by answer.Nothing u = absurd u
      by (answer.View view) u = absurd u
      by (answer.NewId id view) u = absurd u
      by answer.LastMember u = absurd u
      by answer.PlaceTaken u = absurd u
      by answer.TooManyIdentities u = absurd u
      by answer.ClearFailed u = absurd u
      by answer.LoadFailed u = absurd u
      by (answer.Damaged key) u = absurd u
      by (answer.Settled messages blocked) u = absurd u
      by answer.Stopped u = absurd u

  pub path_given : (client : ℕ) (first last : Session) (commands : List Command) (lines : List ClientLine) → IsPath meaning ids views client first commands lines last → Going first last
  path_given client first _ _ _ IsPath.nothing = going_self first first refl
  path_given client first _ _ _ (IsPath.further commands lines old new c line path made) = going_then first old new (path_given client first old commands lines path) (made_going client c old new line made)
