-- What is seen of a run: of each step the records that it made, what each running member then holds of each key, and what a get showed; at the end what members show.
use Rattle.std.specs.Prelude.{ℕ, List, [], ◌∷◌, ◌++◌, flat_map}
use Rattle.model_history.specs.Texts.{Text}
use Rattle.model_history.specs.History.{versions}
use Rattle.model_members.specs.DataType.{Replication}
use Rattle.model_members.specs.Node.{KeyDecl, KeyState}
use Rattle.model_members.specs.World.{World}
use Rattle.model_members.specs.Script.{ScriptStep, Told, Playing, KeeperAnswers, opening, played, played_all}
use Rattle.model_traces.specs.Traces.{TraceLine}
use Rattle.model_traces.specs.Traces.Act.{Holds}
use Rattle.model_traces.specs.Runs.{line_of, record_lines, of_members, get_lines, show_line}

-- what a member holds of a key
abbrev pub held_line : {Kind Op : Type 0} → ℕ → KeyState Kind Op → List (TraceLine Op)
held_line i k = line_of i k.name (Holds (versions k.entry.history)) ∷ []

-- the records that a step made
abbrev pub records_seen : {Op Shown : Type 0} → ScriptStep Op → List (Told Op Shown) → List (TraceLine Op)
records_seen s told = flat_map (λ t. record_lines s t.answer) told

module _ {Kind Op Shown : Type 0} (D : Replication Kind Op Shown) (value_text : Shown → Text) where
  -- what it showed
  abbrev pub gets_seen : ScriptStep Op → List (Told Op Shown) → List (TraceLine Op)
  gets_seen s told = flat_map (λ t. get_lines D value_text s t.answer) told

  -- of a step, which led to this world and told this
  abbrev pub step_seen : ScriptStep Op → World Kind Op Shown → List (Told Op Shown) → List (TraceLine Op)
  step_seen s world told = records_seen s told ++ of_members held_line world ++ gets_seen s told

  -- of all steps
  abbrev pub steps_seen : Playing Kind Op Shown → List (ScriptStep Op) → List (TraceLine Op)
  steps_seen p [] = []
  steps_seen p (s ∷ ss) = let q = played D p s in step_seen s q.world q.lines ++ steps_seen (record q { lines = [] }) ss

  -- at the end
  abbrev pub end_seen : World Kind Op Shown → List (TraceLine Op)
  end_seen world = of_members (show_line D value_text) world

  -- of a script's run
  abbrev pub seen_of : KeeperAnswers → ℕ → List (KeyDecl Kind) → List (ScriptStep Op) → List (TraceLine Op)
  seen_of answers members keys steps =
      let p = opening answers members keys in
      steps_seen p steps ++ end_seen (played_all D p steps).world
