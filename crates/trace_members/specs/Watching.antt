-- What a recorder sees of a world.
--     SeesStep        of a step that led to where a world means, and told these events
--     SeesEnd        what members show at the end
use Rattle.std.specs.Prelude.{◌≡◌, ℕ, List, [], ◌∷◌, flat_map, Bool, true, false, if◌then◌else◌, codes, Option, None, Some}
use Rattle.model_history.specs.Texts.{Text}
use Rattle.model_history.specs.History.Action.{Operation, Prune}
use Rattle.model_members.specs.Entry.{Entry}
use Rattle.model_members.specs.Node as nodes
use Rattle.model_members.specs.Node.{KeyDecl}
use Rattle.model_members.specs.Script.{Playing}
use Rattle.model_kinds.specs.ShownText.{shown_text}
use Rattle.model_kinds.specs.declared.kind.Kind.{Kind}
use Rattle.model_kinds.specs.declared.operation.Op.{Op}
use Rattle.model_kinds.specs.declared.shown.Shown.{Shown}
use Rattle.data_lattice.specs.declared.replica.Replica.{Ghosts}
use Rattle.data_lattice.specs.declared.spelled.SpelledData.{Ghosts as Spelling}
use Rattle.member_keeper.specs.declared.keeper.Keeper.{Ghosts as Keeping}
use Rattle.member_node.specs.declared.key.KeyState.{KeyState}
use Rattle.member_node.specs.declared.outcome.KeyOutcome.{KeyOutcome}
use Rattle.member_node.specs.declared.reply.Reply.TheVariants as reply
use Rattle.member_node.specs.Replies.{meant_outcome}
use Rattle.member_node.specs.Steps.{replication}
use Rattle.script_reading.specs.declared.ask.Ask.TheVariants as asked
use Rattle.script_reading.specs.declared.script.Step.{Step}
use Rattle.script_reading.specs.declared.script.Step.TheVariants as form
use Rattle.script_reading.specs.Meant.{step_of}
use Rattle.world_members.specs.declared.event.Answer.{Answer}
use Rattle.world_members.specs.declared.event.Answer.TheVariants as answer
use Rattle.world_members.specs.declared.event.Event.{Event}
use Rattle.world_members.specs.declared.world.World.{World}
use Rattle.world_members.specs.Lines.{AreNextLines}
use Rattle.world_members.specs.Ways.{Means}
use Rattle.model_traces.specs.Traces.{TraceLine}
use Rattle.model_traces.specs.Traces.Act.{Records, Shows}
use Rattle.model_traces.specs.Runs.{line_of, is_performed}
use Rattle.trace_told.specs.Seen.{step_seen, end_seen}
use Rattle.trace_recorder.specs.declared.recorder.Recorder.{Recorder}
use Rattle.trace_entries.specs.Seeing.{Sees}

-- the record of an outcome of a tick, where a prune was performed
abbrev pub prune_seen : ℕ → KeyOutcome → List (TraceLine Op)
prune_seen i told = if is_performed (meant_outcome told.outcome) then line_of i told.key (Records (Prune told.removed)) ∷ [] else []

-- an update made its record, whatever the store did
abbrev pub makes_record : Answer → Bool
makes_record (answer.Reply reply.Done) = true
makes_record (answer.Reply (reply.Pending op)) = true
makes_record (answer.Reply reply.StoreFailed) = true
makes_record _ = false

-- the outcomes of a tick
abbrev pub outcomes_of : Answer → List KeyOutcome
outcomes_of (answer.Reply (reply.Ticked outcomes)) = outcomes
outcomes_of (answer.Reply (reply.TickedStoreFailed outcomes)) = outcomes
outcomes_of _ = []

-- the text that a get showed
abbrev pub text_got : Answer → Option Text
text_got (answer.Reply (reply.Value shown)) = Some (shown_text shown)
text_got (answer.Reply reply.Deleted) = Some (codes "deleted")
text_got _ = None

abbrev pub text_seen : ℕ → Text → Option Text → List (TraceLine Op)
text_seen i key None = []
text_seen i key (Some text) = line_of i key (Shows text) ∷ []

-- the records that a step made by which this came
abbrev pub made_seen : Step → Answer → List (TraceLine Op)
made_seen (form.Ask at (asked.Update key op level)) told = if makes_record told then line_of at key (Records (Operation op)) ∷ [] else []
made_seen (form.Ask at asked.Tick) told = flat_map (prune_seen at) (outcomes_of told)
made_seen _ told = []

-- what it showed
abbrev pub got_seen : Step → Answer → List (TraceLine Op)
got_seen (form.Ask at (asked.Get key level)) told = text_seen at key (text_got told)
got_seen _ told = []

-- a key that a member holds, with the entry that it stands for
abbrev pub key_at : {T Kind Op Delta : Type 0} → KeyState T Kind Op Delta → Entry Op → nodes.KeyState Kind Op
key_at state entry = record { name = state.name; kind = state.kind; durable = state.durable; entry = entry }

module _ {T K Delta : Type 0} {ghosts : Ghosts T Kind Op Delta} {keeping : Keeping K} (spelling : Spelling T Kind Op Delta) where
  -- of a step that led to where this world means, and told these events
  abbrev pub SeesStep : Step → World T K Kind Op Delta ghosts keeping → List Event → (before after : Recorder) → Type 0
  SeesStep step new events before after =
      (kinds : Text → Kind) (members : ℕ) (decls : List (KeyDecl Kind)) (p q : Playing Kind Op Shown) → Means spelling kinds members decls q new → p.lines ≡ [] → AreNextLines events p q
      → Sees before after (step_seen (replication ghosts spelling) shown_text (step_of step) q.world q.lines)

  -- what members show at the end was seen
  abbrev pub SeesEnd : World T K Kind Op Delta ghosts keeping → (before after : Recorder) → Type 0
  SeesEnd world before after =
      (kinds : Text → Kind) (members : ℕ) (decls : List (KeyDecl Kind)) (p : Playing Kind Op Shown) → Means spelling kinds members decls p world → Sees before after (end_seen (replication ghosts spelling) shown_text p.world)
