-- What is seen of a step's events is what the model's lines say.
use Rattle.std.proofs.Common.{◌≡◌, ℕ, List, [], ◌∷◌, ◌++◌, map, flat_map, refl, sym, ap, ap₂, ◌∙◌, true, false}
use Rattle.std.specs.Prelude.{filter, if◌then◌else◌}
use Rattle.std.specs.List.{AllZip}
use Rattle.model_history.specs.History.Action.{Operation, Prune}
use Rattle.model_history.specs.Texts.{Text}
use Rattle.model_members.specs.DataType.{Replication}
use Rattle.model_members.specs.Node as nodes
use Rattle.model_members.specs.Script as script
use Rattle.model_members.specs.Script.{ScriptStep, Told}
use Rattle.model_kinds.specs.ShownText.{shown_text}
use Rattle.member_quorum.specs.Levels.{level_meant}
use Rattle.model_kinds.specs.declared.kind.Kind.{Kind}
use Rattle.model_kinds.specs.declared.operation.Op.{Op}
use Rattle.model_kinds.specs.declared.shown.Shown.{Shown}
use Rattle.model_traces.specs.Traces.{TraceLine}
use Rattle.model_traces.specs.Traces.Act.{Records}
use Rattle.model_traces.specs.Runs.{line_of, tells_record, is_performed, record_lines, get_lines}
use Rattle.member_node.specs.declared.outcome.KeyOutcome.{KeyOutcome}
use Rattle.member_node.specs.declared.reply.Reply.{Reply}
use Rattle.member_node.specs.declared.reply.Reply.TheVariants as reply
use Rattle.member_node.specs.Replies.{meant, meant_outcome, meant_at_key}
use Rattle.script_reading.specs.Meant.{step_of}
use Rattle.script_reading.specs.declared.ask.Ask.TheVariants as asked
use Rattle.script_reading.specs.declared.script.Step.{Step}
use Rattle.script_reading.specs.declared.script.Step.TheVariants as form
use Rattle.trace_told.specs.Seen.{records_seen, gets_seen}
use Rattle.world_members.specs.declared.event.Answer.{Answer}
use Rattle.world_members.specs.declared.event.Answer.TheVariants as answer
use Rattle.world_members.specs.declared.event.Event.{Event}
use Rattle.world_members.specs.Lines.{IsAnswer, IsLine}
use Rattle.trace_members.specs.Watching.{prune_seen, makes_record, outcomes_of, text_got, text_seen, made_seen, got_seen}

-- the records of a tick's outcomes are those of the prunes that it performed
ticked_seen : (i : ℕ) (outcomes : List KeyOutcome)
    → flat_map (prune_seen i) outcomes ≡ map (λ (o : nodes.KeyOutcome). line_of i o.key (Records (Prune o.removed))) (filter (λ (o : nodes.KeyOutcome). is_performed o.outcome) (map meant_at_key outcomes))
ticked_seen i [] = refl
ticked_seen i (told ∷ outcomes) =
    let line : TraceLine Op = line_of i told.key (Records (Prune told.removed)) in
    let later = ticked_seen i outcomes in
    let rest = filter (λ (o : nodes.KeyOutcome). is_performed o.outcome) (map meant_at_key outcomes) in
    elim (is_performed (meant_outcome told.outcome))
    as (λ b. (if b then line ∷ [] else []) ++ flat_map (prune_seen i) outcomes ≡ map (λ (o : nodes.KeyOutcome). line_of i o.key (Records (Prune o.removed))) (if b then meant_at_key told ∷ rest else rest)) [
      | true ↦ ap (λ ls. line ∷ ls) later
      | false ↦ later
    ]

-- what is said of each reply is said of what it means
module _ {X : Type 0} (of_code : Answer → X) (of_model : script.Answer Shown → X) (replies : (r : Reply) → of_code (answer.Reply r) ≡ of_model (script.Answer.Replied (meant r))) (none : X) where
  -- and of any other answer nothing is
  pub record SaysNothing : Type 0 where
    pub gone : (of_code answer.Gone ≡ none) × (of_model script.Answer.Gone ≡ none)
    pub full : (of_code answer.HistoryFull ≡ none) × (of_model script.Answer.HistoryFull ≡ none)
    pub no_view : (of_code answer.NoSuchView ≡ none) × (of_model script.Answer.NoSuchView ≡ none)
    pub no_message : (of_code answer.NoSuchMessage ≡ none) × (of_model script.Answer.NoSuchMessage ≡ none)
    pub lost : (of_code answer.Lost ≡ none) × (of_model script.Answer.Lost ≡ none)
    pub nothing : (of_code answer.Nothing ≡ none) × (of_model script.Answer.Nothing ≡ none)
    pub view : (n : ℕ) → (of_code (answer.View n) ≡ none) × (of_model (script.Answer.NewView n) ≡ none)
    pub new : (i n : ℕ) → (of_code (answer.NewId i n) ≡ none) × (of_model (script.Answer.NewIdentity i n) ≡ none)
    pub last : (of_code answer.LastMember ≡ none) × (of_model script.Answer.LastMember ≡ none)
    pub taken : (of_code answer.PlaceTaken ≡ none) × (of_model script.Answer.PlaceTaken ≡ none)
    pub many : (of_code answer.TooManyIdentities ≡ none) × (of_model script.Answer.TooManyIdentities ≡ none)
    pub unclear : (of_code answer.ClearFailed ≡ none) × (of_model script.Answer.ClearFailed ≡ none)
    pub unloaded : (of_code answer.LoadFailed ≡ none) × (of_model script.Answer.LoadFailed ≡ none)
    pub settled : (m b : ℕ) → (of_code (answer.Settled m b) ≡ none) × (of_model (script.Answer.Settled m b) ≡ none)
    pub stopped : (of_code answer.Stopped ≡ none) × (of_model script.Answer.Stopped ≡ none)

  module _ (says : SaysNothing) where
    both : (x y z : X) → (x ≡ none) × (y ≡ none) → z ≡ y → x ≡ z
    both x y z h e = h.0 ∙ sym h.1 ∙ sym e

    pub same_said : (a : Answer) (told : script.Answer Shown) → IsAnswer a told → of_code a ≡ of_model told
    same_said (answer.Reply r) told e = replies r ∙ ap of_model (sym e)
    same_said answer.Gone told e = both _ _ _ says.gone (ap of_model e)
    same_said answer.HistoryFull told e = both _ _ _ says.full (ap of_model e)
    same_said answer.NoSuchView told e = both _ _ _ says.no_view (ap of_model e)
    same_said answer.NoSuchMessage told e = both _ _ _ says.no_message (ap of_model e)
    same_said answer.Lost told e = both _ _ _ says.lost (ap of_model e)
    same_said answer.Nothing told e = both _ _ _ says.nothing (ap of_model e)
    same_said (answer.View n) told e = both _ _ _ (says.view n) (ap of_model e)
    same_said (answer.NewId i n) told e = both _ _ _ (says.new i n) (ap of_model e)
    same_said answer.LastMember told e = both _ _ _ says.last (ap of_model e)
    same_said answer.PlaceTaken told e = both _ _ _ says.taken (ap of_model e)
    same_said answer.TooManyIdentities told e = both _ _ _ says.many (ap of_model e)
    same_said answer.ClearFailed told e = both _ _ _ says.unclear (ap of_model e)
    same_said answer.LoadFailed told e = both _ _ _ says.unloaded (ap of_model e)
    same_said (answer.Damaged key) told e = absurd e
    same_said (answer.Settled m b) told e = both _ _ _ (says.settled m b) (ap of_model e)
    same_said answer.Stopped told e = both _ _ _ says.stopped (ap of_model e)

-- THE RECORDS

reply_makes : (r : Reply) → makes_record (answer.Reply r) ≡ tells_record (script.Answer.Replied (meant r))
reply_makes reply.Done = refl
reply_makes (reply.Pending op) = refl
reply_makes (reply.Value shown) = refl
reply_makes reply.Deleted = refl
reply_makes reply.NotFound = refl
reply_makes reply.UnknownKey = refl
reply_makes reply.WrongKind = refl
reply_makes reply.TooFew = refl
reply_makes (reply.Overflow share amount) = refl
reply_makes reply.ClockSpent = refl
reply_makes reply.SetFull = refl
reply_makes reply.StoreFailed = refl
reply_makes reply.Taken = refl
reply_makes reply.Already = refl
reply_makes (reply.Gap i) = refl
reply_makes reply.NotFromMember = refl
reply_makes reply.Installed = refl
reply_makes reply.OldView = refl
reply_makes reply.NotAPeer = refl
reply_makes (reply.Ticked outcomes) = refl
reply_makes (reply.TickedStoreFailed outcomes) = refl
reply_makes (reply.NotLeader i) = refl
reply_makes reply.TimedOut = refl
reply_makes reply.NoSuchOp = refl

made_same : (a : Answer) (told : script.Answer Shown) → IsAnswer a told → makes_record a ≡ tells_record told
made_same = same_said makes_record tells_record reply_makes false (record {
  gone = (refl, refl);
  full = (refl, refl);
  no_view = (refl, refl);
  no_message = (refl, refl);
  lost = (refl, refl);
  nothing = (refl, refl);
  view = λ n. (refl, refl);
  new = λ i n. (refl, refl);
  last = (refl, refl);
  taken = (refl, refl);
  many = (refl, refl);
  unclear = (refl, refl);
  unloaded = (refl, refl);
  settled = λ m b. (refl, refl);
  stopped = (refl, refl);
})

module _ (i : ℕ) where
  abbrev ticks : Answer → List (TraceLine Op)
  ticks a = flat_map (prune_seen i) (outcomes_of a)

  abbrev told_ticks : script.Answer Shown → List (TraceLine Op)
  told_ticks told = record_lines (ScriptStep.Asks i script.Ask.Tick) told

  reply_ticks : (r : Reply) → ticks (answer.Reply r) ≡ told_ticks (script.Answer.Replied (meant r))
  reply_ticks (reply.Ticked outcomes) = ticked_seen i outcomes
  reply_ticks (reply.TickedStoreFailed outcomes) = ticked_seen i outcomes
  reply_ticks reply.Done = refl
  reply_ticks (reply.Pending op) = refl
  reply_ticks (reply.Value shown) = refl
  reply_ticks reply.Deleted = refl
  reply_ticks reply.NotFound = refl
  reply_ticks reply.UnknownKey = refl
  reply_ticks reply.WrongKind = refl
  reply_ticks reply.TooFew = refl
  reply_ticks (reply.Overflow share amount) = refl
  reply_ticks reply.ClockSpent = refl
  reply_ticks reply.SetFull = refl
  reply_ticks reply.StoreFailed = refl
  reply_ticks reply.Taken = refl
  reply_ticks reply.Already = refl
  reply_ticks (reply.Gap j) = refl
  reply_ticks reply.NotFromMember = refl
  reply_ticks reply.Installed = refl
  reply_ticks reply.OldView = refl
  reply_ticks reply.NotAPeer = refl
  reply_ticks (reply.NotLeader j) = refl
  reply_ticks reply.TimedOut = refl
  reply_ticks reply.NoSuchOp = refl

  ticks_same : (a : Answer) (told : script.Answer Shown) → IsAnswer a told → ticks a ≡ told_ticks told
  ticks_same = same_said ticks told_ticks reply_ticks [] (record {
    gone = (refl, refl);
    full = (refl, refl);
    no_view = (refl, refl);
    no_message = (refl, refl);
    lost = (refl, refl);
    nothing = (refl, refl);
    view = λ n. (refl, refl);
    new = λ j n. (refl, refl);
    last = (refl, refl);
    taken = (refl, refl);
    many = (refl, refl);
    unclear = (refl, refl);
    unloaded = (refl, refl);
    settled = λ m b. (refl, refl);
    stopped = (refl, refl);
  })

step_made : (step : Step) (a : Answer) (told : script.Answer Shown) → IsAnswer a told → made_seen step a ≡ record_lines (step_of step) told
step_made (form.Ask at (asked.Update key op level)) a told e = ap (λ b. if b then line_of at key (Records (Operation op)) ∷ [] else []) (made_same a told e)
step_made (form.Ask at asked.Tick) a told e = ticks_same at a told e
step_made (form.Ask at (asked.Get key level)) a told e = refl
step_made (form.Ask at asked.Flush) a told e = refl
step_made (form.Ask at (asked.Gossip to)) a told e = refl
step_made (form.Ask at (asked.Install view)) a told e = refl
step_made (form.Deliver from to index) a told e = refl
step_made (form.Lose from to) a told e = refl
step_made form.Round a told e = refl
step_made (form.Timeout at op) a told e = refl
step_made (form.Remove id) a told e = refl
step_made (form.Join place) a told e = refl
step_made (form.Restart id) a told e = refl
step_made form.Settle a told e = refl

-- WHAT GETS SHOW

module _ (D : Replication Kind Op Shown) where
  module _ (i : ℕ) (key : Text) (level : nodes.Level) where
    abbrev gets : Answer → List (TraceLine Op)
    gets a = text_seen i key (text_got a)

    abbrev told_gets : script.Answer Shown → List (TraceLine Op)
    told_gets told = get_lines D shown_text (ScriptStep.Asks i (script.Ask.Get key level)) told

    reply_gets : (r : Reply) → gets (answer.Reply r) ≡ told_gets (script.Answer.Replied (meant r))
    reply_gets (reply.Value shown) = refl
    reply_gets reply.Deleted = refl
    reply_gets reply.Done = refl
    reply_gets (reply.Pending op) = refl
    reply_gets reply.NotFound = refl
    reply_gets reply.UnknownKey = refl
    reply_gets reply.WrongKind = refl
    reply_gets reply.TooFew = refl
    reply_gets (reply.Overflow share amount) = refl
    reply_gets reply.ClockSpent = refl
    reply_gets reply.SetFull = refl
    reply_gets reply.StoreFailed = refl
    reply_gets reply.Taken = refl
    reply_gets reply.Already = refl
    reply_gets (reply.Gap j) = refl
    reply_gets reply.NotFromMember = refl
    reply_gets reply.Installed = refl
    reply_gets reply.OldView = refl
    reply_gets reply.NotAPeer = refl
    reply_gets (reply.Ticked outcomes) = refl
    reply_gets (reply.TickedStoreFailed outcomes) = refl
    reply_gets (reply.NotLeader j) = refl
    reply_gets reply.TimedOut = refl
    reply_gets reply.NoSuchOp = refl

    gets_same : (a : Answer) (told : script.Answer Shown) → IsAnswer a told → gets a ≡ told_gets told
    gets_same = same_said gets told_gets reply_gets [] (record {
      gone = (refl, refl);
      full = (refl, refl);
      no_view = (refl, refl);
      no_message = (refl, refl);
      lost = (refl, refl);
      nothing = (refl, refl);
      view = λ n. (refl, refl);
      new = λ j n. (refl, refl);
      last = (refl, refl);
      taken = (refl, refl);
      many = (refl, refl);
      unclear = (refl, refl);
      unloaded = (refl, refl);
      settled = λ m b. (refl, refl);
      stopped = (refl, refl);
    })

  step_got : (step : Step) (a : Answer) (told : script.Answer Shown) → IsAnswer a told → got_seen step a ≡ get_lines D shown_text (step_of step) told
  step_got (form.Ask at (asked.Get key level)) a told e = gets_same at key (level_meant level) a told e
  step_got (form.Ask at (asked.Update key op level)) a told e = refl
  step_got (form.Ask at asked.Tick) a told e = refl
  step_got (form.Ask at asked.Flush) a told e = refl
  step_got (form.Ask at (asked.Gossip to)) a told e = refl
  step_got (form.Ask at (asked.Install view)) a told e = refl
  step_got (form.Deliver from to index) a told e = refl
  step_got (form.Lose from to) a told e = refl
  step_got form.Round a told e = refl
  step_got (form.Timeout at op) a told e = refl
  step_got (form.Remove id) a told e = refl
  step_got (form.Join place) a told e = refl
  step_got (form.Restart id) a told e = refl
  step_got form.Settle a told e = refl

-- OF ALL EVENTS

module _ (of_event : Answer → List (TraceLine Op)) (of_told : script.Answer Shown → List (TraceLine Op)) (same : (a : Answer) (told : script.Answer Shown) → IsAnswer a told → of_event a ≡ of_told told) where
  events_same : (events : List Event) (told : List (Told Op Shown)) → AllZip IsLine events told → flat_map (λ (e : Event). of_event e.answer) events ≡ flat_map (λ (t : Told Op Shown). of_told t.answer) told
  events_same [] [] all = refl
  events_same [] (t ∷ told) all = absurd all
  events_same (e ∷ events) [] all = absurd all
  events_same (e ∷ events) (t ∷ told) all = ap₂ (λ (a b : List (TraceLine Op)). a ++ b) (same e.answer t.answer all.0.answer) (events_same events told all.1)

pub all_made : (step : Step) (events : List Event) (told : List (Told Op Shown)) → AllZip IsLine events told → flat_map (λ (e : Event). made_seen step e.answer) events ≡ records_seen (step_of step) told
all_made step = events_same (made_seen step) (record_lines (step_of step)) (step_made step)

pub all_got : (D : Replication Kind Op Shown) (step : Step) (events : List Event) (told : List (Told Op Shown)) → AllZip IsLine events told → flat_map (λ (e : Event). got_seen step e.answer) events ≡ gets_seen D shown_text (step_of step) told
all_got D step = events_same (got_seen step) (get_lines D shown_text (step_of step)) (step_got D step)
