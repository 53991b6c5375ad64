-- One command of a client, in the model.
--     line_meant        its line
--     input_meant        what it gives
--     HasStep        what it did, by what the client knew
--     has_step        it comes of what the client did
use Rattle.std.proofs.Common.{◌≡◌, ◌⊎◌, ℕ, zero, suc, ◌<◌, ◌≤◌, List, [], ◌∷◌, length, refl, sym, ap, ◌∙◌, arith, true, Option, Some, None}
use Rattle.std.specs.Prelude.{take, slice_get, find, option_map, IsTrue, ◌==◌, if◌then◌else◌}
use Rattle.std.proofs.lemmas.Bool.Decides.{Decides-eqb}
use Rattle.model_history.proofs.PruneLaws.{found}
use Rattle.model_members.specs.View.{View, is_member}
use Rattle.model_members.specs.DataType.{Replication}
use Rattle.model_members.specs.Message.{Post}
use Rattle.model_members.specs.Node as nodes
use Rattle.model_members.specs.Script as script
use Rattle.model_members.specs.World as worlds
use Rattle.theorem_sections.specs.Sections.{finished_at, is_open, pending_op, ending_by, ending_of, Ending, Line}
use Rattle.theorem_sections.specs.Histories as model
use Rattle.theorem_sections.specs.Paths.{head_of}
use Rattle.theorem_sections.specs.Knowing.{member_after}
use Rattle.model_kinds.specs.declared.operation.Op.{Op}
use Rattle.model_kinds.specs.declared.shown.Shown.{Shown}
use Rattle.data_lattice.specs.declared.replica.Replica.{Ghosts}
use Rattle.data_lattice.specs.declared.spelled.SpelledData.{Ghosts as Spelling}
use Rattle.member_keeper.specs.declared.keeper.Keeper.{Ghosts as Keeping}
use Rattle.thread_machine.specs.declared.machine.Machine.{Ghosts as Machine}
use Rattle.thread_cell.specs.declared.opening.Opening.{Opening}
use Rattle.thread_cell.specs.declared.receipt.Receipt.{Receipt}
use Rattle.thread_cell.specs.Lists.{at}
use Rattle.thread_cell.specs.Values.{ClientParts}
use Rattle.member_node.specs.declared.input.Input.{Input}
use Rattle.member_node.specs.declared.input.Input.TheVariants as form
use Rattle.member_node.specs.declared.node.Node.{Node}
use Rattle.member_node.specs.declared.operation.Look.{Look}
use Rattle.member_node.specs.declared.operation.Look.TheVariants as look
use Rattle.member_node.specs.declared.reply.Fate.{Fate}
use Rattle.member_node.specs.declared.reply.Output.{Output}
use Rattle.member_node.specs.declared.reply.Reply.{Reply}
use Rattle.member_node.specs.declared.reply.Reply.TheVariants as reply
use Rattle.member_node.specs.declared.reply.StepError.{StepError}
use Rattle.member_messages.specs.declared.message.Post as code
use Rattle.member_node.specs.declared.operation.OperationResult.{OperationResult}
use Rattle.member_node.specs.Counting.{LooksAt}
use Rattle.member_node.specs.Operations.{result_meant, finished_meant, result_at}
use Rattle.member_node.specs.Replies.{meant}
use Rattle.member_node.specs.Steps.{replication}
use Rattle.script_reading.specs.declared.ask.Ask.{Ask}
use Rattle.script_reading.specs.declared.ask.Ask.TheVariants as asks
use Rattle.script_reading.specs.declared.clients.Command.{Command}
use Rattle.script_reading.specs.Meant.{ask_of}
use Rattle.world_members.specs.declared.client_line.Ended.{Ended}
use Rattle.world_members.specs.declared.event.Answer.{Answer}
use Rattle.world_members.specs.declared.event.Answer.TheVariants as answer
use Rattle.world_members.specs.ClientLines.{ending_meant}
use Rattle.world_members.specs.Threads.{command_of}
use Rattle.world_places.proofs.Lists.{IsPair, both, neither, pair_both, pair_some}
use Rattle.world_members.specs.Asking.{input_of}
use Rattle.thread_cluster.specs.Knowing.{IsReceipt}
use Rattle.thread_cluster.proofs.Lists.{get_within}
use Rattle.thread_run_order.specs.Images.{EntryOf, IsMeantBy, IsImage}
use Rattle.thread_clients.specs.Answers.{IsQuiet, Settles}
use Rattle.thread_clients.specs.Endings.{Ends}
use Rattle.thread_clients.specs.Turns.{IsHeardOrFull}
use Rattle.thread_section.proofs.Counts.{image_at}
use Rattle.thread_section.proofs.Sights.{known_images, from_take}
use Rattle.thread_section.proofs.Sessions.{IsSettled, is_of_before, HasLooked}
use Rattle.thread_section.proofs.Hearing.{known, Of}

-- LINES

abbrev pub answer_meant : Answer → script.Answer Shown
answer_meant (answer.Reply told) = script.Answer.Replied (meant told)
answer_meant answer.NoSuchView = script.Answer.NoSuchView
answer_meant answer.HistoryFull = script.Answer.HistoryFull
answer_meant _ = script.Answer.Gone

abbrev pub line_meant : ℕ → Command → Answer → List (Post Op) → Option Ended → Line Op Shown
line_meant client c told posts end = record { client = Some client; head = head_of (command_of c); answer = answer_meant told; posts = posts; ended = option_map ending_meant end }

-- WHAT A COMMAND GIVES

module _ {T Kind Delta : Type 0} {ghosts : Ghosts T Kind Op Delta} (views : List View) where
  -- an input stands for this one alone
  abbrev Stands : Input T Kind Op Delta ghosts → nodes.Input Op → Type 0
  Stands input sent = (other : nodes.Input Op) → IsMeantBy input other → other ≡ sent

  alike : (ask : Ask) → IsPair Stands (input_of views ask) (script.input_of views (ask_of ask))
  alike (asks.Update key op level) = both (λ other means. means)
  alike (asks.Get key level) = both (λ other means. means)
  alike asks.Flush = both (λ other means. means)
  alike (asks.Gossip to) = both (λ other means. means)
  alike asks.Tick = both (λ other means. means)
  alike (asks.Install number) = by (slice_get views number)
    where
      by : (o : Option View) → IsPair Stands (option_map form.Install o) (option_map nodes.Input.Install o)
      by None = neither
      by (Some view) = both (λ other means. means)

  pub input_meant : (ask : Ask) (input : Input T Kind Op Delta ghosts) (sent : nodes.Input Op) → input_of views ask ≡ Some input → IsMeantBy input sent → script.input_of views (ask_of ask) ≡ Some sent
  input_meant ask input sent is means =
      let a = input_of views ask in
      let b = script.input_of views (ask_of ask) in
      let there = pair_some Stands a b input (alike ask) is in
      there.1 ∙ ap Some (sym (pair_both Stands a b input there.0 (alike ask) is there.1 sent means))

-- WHAT FOLLOWS AN ANSWER

module _ {T K Kind Delta : Type 0} {ghosts : Ghosts T Kind Op Delta} {keeping : Keeping K} (meaning : Machine (Node T K Kind Op Delta ghosts keeping) (Input T Kind Op Delta ghosts) Fate (Output T Kind Op Delta ghosts) StepError) (ids : ℕ → Option ℕ)
    (c : Command) (posts : List (code.Post T Kind Op Delta ghosts)) (old new : ClientParts (Node T K Kind Op Delta ghosts keeping) (Input T Kind Op Delta ghosts) Fate (Output T Kind Op Delta ghosts) StepError) (told : Option Ended) where
  -- it waits, or it does not
  pub data Follows (r : Reply) : Type 0 where
    waits : (op : ℕ) → r ≡ reply.Pending op → (end : Ended) → told ≡ Some end → Ends meaning ids c.at op old new end → Follows r
    goes_on : pending_op (script.Answer.Replied (meant r)) ≡ None → told ≡ None → IsQuiet meaning ids c posts old new ⊎ IsHeardOrFull meaning ids old new → Follows r

  pub follows : (r : Reply) → Settles meaning ids c r posts old new told → Follows r
  follows reply.Done s = goes_on refl s.0 s.1
  follows (reply.Pending op) s = waits op refl s.0 s.1 s.2
  follows (reply.Value shown) s = goes_on refl s.0 s.1
  follows reply.Deleted s = goes_on refl s.0 s.1
  follows reply.NotFound s = goes_on refl s.0 s.1
  follows reply.UnknownKey s = goes_on refl s.0 s.1
  follows reply.WrongKind s = goes_on refl s.0 s.1
  follows reply.TooFew s = goes_on refl s.0 s.1
  follows (reply.Overflow share amount) s = goes_on refl s.0 s.1
  follows reply.ClockSpent s = goes_on refl s.0 s.1
  follows reply.SetFull s = goes_on refl s.0 s.1
  follows reply.StoreFailed s = goes_on refl s.0 s.1
  follows reply.Taken s = goes_on refl s.0 s.1
  follows reply.Already s = goes_on refl s.0 s.1
  follows (reply.Gap i) s = goes_on refl s.0 s.1
  follows reply.NotFromMember s = goes_on refl s.0 s.1
  follows reply.Installed s = goes_on refl s.0 s.1
  follows reply.OldView s = goes_on refl s.0 s.1
  follows reply.NotAPeer s = goes_on refl s.0 s.1
  follows (reply.Ticked outcomes) s = goes_on refl s.0 s.1
  follows (reply.TickedStoreFailed outcomes) s = goes_on refl s.0 s.1
  follows (reply.NotLeader i) s = goes_on refl s.0 s.1
  follows reply.TimedOut s = goes_on refl s.0 s.1
  follows reply.NoSuchOp s = goes_on refl s.0 s.1

-- nothing stands there
none_within : {X : Type 0} (xs : List X) (k : ℕ) → slice_get xs k ≡ None → length xs ≤ k
none_within [] k e = omega arith
none_within (x ∷ xs) zero e = absurd (cc e)
none_within (x ∷ xs) (suc k) e = let a = none_within xs k e in omega (arith, a)

-- WHAT A COMMAND DID

module _ {T K Kind Delta : Type 0} {ghosts : Ghosts T Kind Op Delta} {keeping : Keeping K} (spelling : Spelling T Kind Op Delta) (meaning : Machine (Node T K Kind Op Delta ghosts keeping) (Input T Kind Op Delta ghosts) Fate (Output T Kind Op Delta ghosts) StepError)
    (world : worlds.World Kind Op Shown) (ids : ℕ → Option ℕ) (opening : Opening (Node T K Kind Op Delta ghosts keeping) (Input T Kind Op Delta ghosts) Fate (Output T Kind Op Delta ghosts) StepError)
    (h : ℕ → List (EntryOf ghosts keeping)) (histories : ℕ → List (model.Entry Op Shown)) (settled : IsSettled spelling meaning world ids opening h histories) (client : ℕ)
    (views : List View) (views_are : worlds.views_of world ≡ views) where
  abbrev Session : Type 0
  Session = ClientParts (Node T K Kind Op Delta ghosts keeping) (Input T Kind Op Delta ghosts) Fate (Output T Kind Op Delta ghosts) StepError

  abbrev D : Replication Kind Op Shown
  D = replication ghosts spelling

  abbrev known_in : Session → ℕ → ℕ
  known_in s = known spelling meaning world ids opening h histories settled client s

  abbrev IsOurs : Session → Type 0
  IsOurs s = Of spelling meaning world ids opening h histories settled client s

  -- the entry of a call, and its image
  pub record HasEntry (i : ℕ) (input : Input T Kind Op Delta ghosts) (old new : Session) (output : Output T Kind Op Delta ghosts) (index : ℕ) : Type 0 where
    pub entry : EntryOf ghosts keeping
    pub image : model.Entry Op Shown
    pub member : IsTrue (is_member world.view i)
    pub stands : slice_get (histories i) index ≡ Some image
    pub is_image : IsImage entry image
    pub input_is : entry.input ≡ input
    pub output_is : entry.output ≡ output
    pub own : image.client ≡ client
    pub later : old.seen.stamp < image.stamp
    pub is_new : known_in old i ≤ index
    pub known : index < known_in new i

  pub has_entry : (i : ℕ) (input : Input T Kind Op Delta ghosts) (old new : Session) (receipt : Receipt (Node T K Kind Op Delta ghosts keeping) (Input T Kind Op Delta ghosts) Fate (Output T Kind Op Delta ghosts) StepError)
      → IsOurs new → IsReceipt meaning ids i input old new receipt → HasEntry i input old new receipt.output receipt.index
  has_entry i input old new receipt is made =
      let a = made.answered in
      let p = receipt.place in
      let before = is_of_before spelling meaning world ids opening h histories settled client old new a.goes_on is in
      let it = image_at receipt.index (at new.seen.known p) (take (known_in new i) (histories i)) a.entry (known_images spelling world ids h histories settled.ground new.seen.known p i is.begins made.here) a.stands in
      let within = get_within (at new.seen.known p) receipt.index a.entry a.stands in
      let same = ap (λ q. length (at new.seen.known q)) (settled.ground.seats p i made.here) in
      let early : receipt.index < known_in new i = omega (arith, within, same) in
      record {
        entry = a.entry;
        image = it.0;
        member = settled.ground.members p i made.here;
        stands = from_take (known_in new i) receipt.index (histories i) it.0 it.1;
        is_image = it.2;
        input_is = a.input_is;
        output_is = a.output_is;
        own = it.2.client ∙ a.client_is ∙ before.number;
        later = (let b = it.2.stamp in let c = a.stamp_is in let d = a.later in omega (arith, b, c, d));
        is_new = (let b = none_within (at old.seen.known p) receipt.index a.is_new in let c = ap (λ q. length (at old.seen.known q)) (settled.ground.seats p i made.here) in omega (arith, b, c));
        known = early;
      }

  -- HOW AN OPERATION STANDS

  -- what a look found, in the model
  pub finished_there : (op : ℕ) (m : nodes.Node Kind Op Shown) (result : OperationResult) → result_at m.finished op ≡ Some (result_meant result) → finished_at op (Some m) ≡ Some (finished_meant (record { op = op; result = result }))
  finished_there op m result is = by (find (λ (f : nodes.Finished Shown). f.op == op) m.finished) refl is
    where
      by : (o : Option (nodes.Finished Shown)) → find (λ (f : nodes.Finished Shown). f.op == op) m.finished ≡ o → option_map (λ (f : nodes.Finished Shown). f.result) o ≡ Some (result_meant result) → o ≡ Some (finished_meant (record { op = op; result = result }))
      by None at e = absurd (cc e)
      by (Some f) at e =
          let number : f.op ≡ op = (Decides-eqb f.op op).0 (found (λ (f : nodes.Finished Shown). f.op == op) m.finished f at) in
          let told : f.result ≡ result_meant result = cc e in
          ap Some (ap (λ n. record { op = n; result = f.result }) number ∙ ap (λ r. record { op = op; result = r }) told)

  pub nothing_there : (op : ℕ) (m : nodes.Node Kind Op Shown) → result_at m.finished op ≡ None → finished_at op (Some m) ≡ None
  nothing_there op m is = by (find (λ (f : nodes.Finished Shown). f.op == op) m.finished) is
    where
      by : (o : Option (nodes.Finished Shown)) → option_map (λ (f : nodes.Finished Shown). f.result) o ≡ None → o ≡ None
      by None e = refl
      by (Some f) e = absurd (cc e)

  -- how it ends by a look
  abbrev pub end_by : ℕ → Look → Ending Shown
  end_by op (look.Finished result) = Ending.Ended (finished_meant (record { op = op; result = result }))
  end_by op look.Open = Ending.LeftOpen op
  end_by op look.NoSuchOp = Ending.TimedOut op

  -- an open one must have no result
  pub ends_by_look : (i op : ℕ) (s : Session) (seen : Look) (l : HasLooked spelling meaning world ids opening h histories settled i op s seen) → (is_open op (Some l.member) ≡ true → finished_at op (Some l.member) ≡ None)
      → ending_of (member_after D world histories i (known_in s i)) (Some op) ≡ Some (end_by op seen)
  ends_by_look i op s seen l none = ap (λ o. ending_of o (Some op)) l.member_is ∙ by seen l.looks
    where
      by : (seen : Look) → LooksAt l.member op seen → ending_of (Some l.member) (Some op) ≡ Some (end_by op seen)
      by (look.Finished result) looks = ap (λ f. Some (ending_by op (Some l.member) f)) (finished_there op l.member result looks.1)
      by look.NoSuchOp looks = ap (λ f. Some (ending_by op (Some l.member) f)) (nothing_there op l.member looks.1) ∙ ap (λ b. Some (if b then Ending.LeftOpen op else Ending.TimedOut op)) looks.0
      by look.Open looks = ap (λ f. Some (ending_by op (Some l.member) f)) (none looks) ∙ ap (λ b. Some (if b then Ending.LeftOpen op else Ending.TimedOut op)) looks
