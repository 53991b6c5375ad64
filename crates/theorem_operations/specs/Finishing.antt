-- When an operation is finished: two rounds after it was opened, if nothing disturbs it.
use Rattle.std.specs.Prelude.{◌≡◌, ◌≢◌, ℕ, ◌<◌, List, ◌∷◌, ◌++◌, Some}
use Rattle.std.specs.List.{AllByRecursion}
use Rattle.model_members.specs.DataType.{Replication}
use Rattle.model_members.specs.Node.{KeyDecl, Node, Input, Fate, Reply, Finished}
use Rattle.model_members.specs.World.{World, Event, IsRun, run, start}
use Rattle.model_members.specs.Script.{Playing, ScriptStep, played}
use Rattle.theorem_operations.specs.Quorum.{AllInstalled, HasFinished, reply_in}

abbrev pub HasNotFailed : Fate → Type 0
HasNotFailed Fate.StoreFailed = ⊥
HasNotFailed _ = Unit {0}

-- the input is no timeout of this operation of member i
abbrev pub ClosesOther : {Op : Type 0} → (i op t : ℕ) → Input Op → Type 0
ClosesOther i op t (Input.Timeout n) = t ≡ i → n ≢ op
ClosesOther i op t _ = Unit {0}

-- the event loses nothing, fails no store, changes no membership and closes no operation op of member i
abbrev pub DisturbsNothing : {Op : Type 0} → (i op : ℕ) → Event Op → Type 0
DisturbsNothing i op (Event.InputAt t input fate) = HasNotFailed fate × ClosesOther i op t input
DisturbsNothing i op (Event.Delivery from to index fate) = HasNotFailed fate
DisturbsNothing i op _ = ⊥

-- no running member's history is full
abbrev pub HaveRoom : {Kind Op Shown : Type 0} → Replication Kind Op Shown → World Kind Op Shown → Type 0
HaveRoom {Kind} {Op} {Shown} D world = (t : ℕ) (node : Node Kind Op Shown) → world.nodes t ≡ Some node → node.steps < D.most_steps

-- events, an input at a member, events, a round, events, and a round
pub record TwoRounds (Op : Type 0) : Type 0 where
  pub before : List (Event Op)
  pub at : ℕ
  pub input : Input Op
  pub fate : Fate
  pub first : List (Event Op)
  pub round : List (Event Op)
  pub second : List (Event Op)
  pub last_round : List (Event Op)

module _ {Op : Type 0} (t : TwoRounds Op) where
  abbrev pub opening_event : Event Op
  opening_event = Event.InputAt t.at t.input t.fate

  abbrev pub to_round : List (Event Op)
  to_round = t.before ++ opening_event ∷ t.first

  abbrev pub to_last_round : List (Event Op)
  to_last_round = (to_round ++ t.round) ++ t.second

  abbrev pub to_end : List (Event Op)
  to_end = to_last_round ++ t.last_round

module _ {Kind Op Shown : Type 0} (D : Replication Kind Op Shown) where
  -- these are the events of a round of a script at work in this world, whatever its keepers answer
  pub record IsRound (world : World Kind Op Shown) (events : List (Event Op)) : Type 0 where
    pub playing : Playing Kind Op Shown
    pub begins : playing.world ≡ world
    pub ends : (played D playing ScriptStep.Round).world ≡ run D world events
    pub made : (played D playing ScriptStep.Round).events ≡ playing.events ++ events

  module _ (members : ℕ) (keys : List (KeyDecl Kind)) (t : TwoRounds Op) where
    abbrev pub world_after : List (Event Op) → World Kind Op Shown
    world_after events = run D (start members keys) events

    -- the events are a run, the input opens operation op while all running members have the last view installed, and from then on nothing disturbs it
    pub record IsUndisturbed (op : ℕ) : Type 0 where
      pub is_run : IsRun D members keys (to_end t) (world_after (to_end t))
      pub installed : AllInstalled (world_after t.before)
      pub opens : reply_in D (world_after t.before) (opening_event t) ≡ Some (Reply.Pending op)
      pub is_round : IsRound (world_after (to_round t)) t.round
      pub is_last_round : IsRound (world_after (to_last_round t)) t.last_round
      pub undisturbed : AllByRecursion (DisturbsNothing t.at op) t.first × AllByRecursion (DisturbsNothing t.at op) t.round × AllByRecursion (DisturbsNothing t.at op) t.second × AllByRecursion (DisturbsNothing t.at op) t.last_round
      pub have_room : HaveRoom D (world_after (to_end t))

    -- after the second round the operation is finished
    abbrev pub IsOver : ℕ → Type 0
    IsOver op = (node : Node Kind Op Shown) × (end : Finished Shown) × ((world_after (to_end t)).nodes t.at ≡ Some node) × HasFinished node end × (end.op ≡ op)
