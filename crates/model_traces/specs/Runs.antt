-- The trace of a script's run: after each step the records that it made, then what members hold that no line told, then what a get showed; at the end what each member shows of each key.
use Rattle.std.specs.Prelude.{ℕ, List, [], ◌∷◌, ◌++◌, Bool, true, false, ◌==◌, if◌then◌else◌, Option, None, Some, map, filter, flat_map}
use Rattle.std.specs.List.{list_all}
use Rattle.model_history.specs.Table.{identities}
use Rattle.model_history.specs.Texts.{Text}
use Rattle.model_history.specs.Vector.{VersionVector}
use Rattle.model_history.specs.History.{versions}
use Rattle.model_history.specs.History.Action.{Operation, Prune}
use Rattle.model_members.specs.View.{identities_of}
use Rattle.model_members.specs.Entry.{Outcome, has_records}
use Rattle.model_members.specs.DataType.{Replication, meaning, IsDeleted}
use Rattle.model_members.specs.Node.{KeyDecl, KeyState, Node, KeyOutcome, Reply, key_states}
use Rattle.model_members.specs.World.{World}
use Rattle.model_members.specs.Script.{ScriptStep, Told, Answer, Playing, KeeperAnswers, opening, played}
use Rattle.model_members.specs.Script.ScriptStep.{Asks}
use Rattle.model_members.specs.Script.Ask.{Update, Get, Tick}
use Rattle.model_members.specs.Script.Answer.{Replied}
use Rattle.model_traces.specs.Traces.{Act, TraceLine, Trace, TraceState, nothing_traced, after_lines, meaning_text}
use Rattle.model_traces.specs.Traces.Act.{Records, Holds, Shows}

abbrev pub line_of : {Op : Type 0} → ℕ → Text → Act Op → TraceLine Op
line_of i key act = record { member = i; key = key; act = act }

-- an update made its record, whatever the store did
abbrev pub tells_record : {Shown : Type 0} → Answer Shown → Bool
tells_record (Replied Reply.Done) = true
tells_record (Replied (Reply.Pending op)) = true
tells_record (Replied Reply.NotStored) = true
tells_record _ = false

abbrev pub is_performed : Outcome → Bool
is_performed Outcome.Performed = true
is_performed _ = false

-- the prunes that a tick performed, in order
abbrev pub prunes_told : {Shown : Type 0} → Answer Shown → List KeyOutcome
prunes_told (Replied (Reply.Ticked outcomes)) = filter (λ (o : KeyOutcome). is_performed o.outcome) outcomes
prunes_told (Replied (Reply.TickedNotStored outcomes)) = filter (λ (o : KeyOutcome). is_performed o.outcome) outcomes
prunes_told _ = []

-- the same number at each identity
abbrev pub counts_alike : VersionVector → VersionVector → Bool
counts_alike vector other = list_all (λ i. vector i == other i) identities

module _ {Op : Type 0} where
  -- the records that a step made
  abbrev pub record_lines : {Shown : Type 0} → ScriptStep Op → Answer Shown → List (TraceLine Op)
  record_lines (Asks i (Update key op level)) answer = if tells_record answer then line_of i key (Records (Operation op)) ∷ [] else []
  record_lines (Asks i Tick) answer = map (λ (o : KeyOutcome). line_of i o.key (Records (Prune o.removed))) (prunes_told answer)
  record_lines _ answer = []

module _ {Kind Op : Type 0} where
  -- what a running member holds of a key, where the lines so far tell something else
  abbrev pub hold_line : TraceState Op → ℕ → KeyState Kind Op → List (TraceLine Op)
  hold_line state i k =
      let known = versions k.entry.history in
      if counts_alike (versions (state.held i k.name)) known then [] else line_of i k.name (Holds known) ∷ []

  -- lines for each key of a member, and for each running member
  abbrev pub of_node : {Shown : Type 0} → (ℕ → KeyState Kind Op → List (TraceLine Op)) → ℕ → Option (Node Kind Op Shown) → List (TraceLine Op)
  of_node f i None = []
  of_node f i (Some node) = flat_map (f i) (key_states node)

  abbrev pub of_members : {Shown : Type 0} → (ℕ → KeyState Kind Op → List (TraceLine Op)) → World Kind Op Shown → List (TraceLine Op)
  of_members f world = flat_map (λ i. of_node f i (world.nodes i)) (identities_of world.view)

module _ {Kind Op Shown : Type 0} (D : Replication Kind Op Shown) (value_text : Shown → Text) where
  -- what a get showed
  abbrev pub get_lines : ScriptStep Op → Answer Shown → List (TraceLine Op)
  get_lines (Asks i (Get key level)) (Replied (Reply.Value shown)) = line_of i key (Shows (value_text shown)) ∷ []
  get_lines (Asks i (Get key level)) (Replied Reply.Deleted) = line_of i key (Shows (meaning_text value_text IsDeleted)) ∷ []
  get_lines _ answer = []

  -- what a member shows of a key, where it has a record
  abbrev pub show_line : ℕ → KeyState Kind Op → List (TraceLine Op)
  show_line i k = if has_records k.entry then line_of i k.name (Shows (meaning_text value_text (meaning D.data_type k.kind k.entry.history))) ∷ [] else []

  -- the lines of a step, which led from this state of the trace to this world and told this
  abbrev pub step_lines : TraceState Op → ScriptStep Op → World Kind Op Shown → List (Told Op Shown) → List (TraceLine Op)
  step_lines state s world told =
      let records = flat_map (λ (t : Told Op Shown). record_lines s t.answer) told in
      records ++ of_members (hold_line (after_lines state records)) world ++ flat_map (λ (t : Told Op Shown). get_lines s t.answer) told

  abbrev pub lines_from : TraceState Op → Playing Kind Op Shown → List (ScriptStep Op) → List (TraceLine Op)
  lines_from state p [] = of_members show_line p.world
  lines_from state p (s ∷ ss) =
      let q = played D p s in
      let lines = step_lines state s q.world q.lines in
      lines ++ lines_from (after_lines state lines) (record q { lines = [] }) ss

  -- the trace of a script's run
  abbrev pub trace_of : KeeperAnswers → ℕ → List (KeyDecl Kind) → List (ScriptStep Op) → Trace Kind Op
  trace_of answers members keys steps = record { keys = keys; lines = lines_from nothing_traced (opening answers members keys) steps }
