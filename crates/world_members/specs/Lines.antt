-- Which lines of the model's report events are.
use Rattle.std.specs.Prelude.{◌≡◌, List, ◌∷◌, [], ◌++◌, map, Bool, true, false, Option, option_map}
use Rattle.std.specs.List.{AllZip}
use Rattle.model_kinds.specs.declared.operation.Op.{Op}
use Rattle.model_kinds.specs.declared.shown.Shown.{Shown}
use Rattle.model_members.specs.Message as model
use Rattle.model_members.specs.Script as script
use Rattle.model_members.specs.Script.{Told, Playing}
use Rattle.member_node.specs.Members.{meant}
use Rattle.member_node.specs.Operations.{finished_meant}
use Rattle.script_reading.specs.Meant.{ask_of}
use Rattle.world_members.specs.declared.event.Head.{Head}
use Rattle.world_members.specs.declared.event.Head.TheVariants as head
use Rattle.world_members.specs.declared.event.Answer.{Answer}
use Rattle.world_members.specs.declared.event.Answer.TheVariants as answer
use Rattle.world_members.specs.declared.event.Event.{Event}
use Rattle.world_places.specs.Sketched.{sketched, sketched_post}

-- the model has no word for what is damaged
abbrev pub IsAnswer : Answer → script.Answer Shown → Type 0
IsAnswer (answer.Reply reply) told = told ≡ script.Answer.Replied (meant reply)
IsAnswer answer.Gone told = told ≡ script.Answer.Gone
IsAnswer answer.HistoryFull told = told ≡ script.Answer.HistoryFull
IsAnswer answer.NoSuchView told = told ≡ script.Answer.NoSuchView
IsAnswer answer.NoSuchMessage told = told ≡ script.Answer.NoSuchMessage
IsAnswer answer.Lost told = told ≡ script.Answer.Lost
IsAnswer answer.Nothing told = told ≡ script.Answer.Nothing
IsAnswer (answer.View view) told = told ≡ script.Answer.NewView view
IsAnswer (answer.NewId id view) told = told ≡ script.Answer.NewIdentity id view
IsAnswer answer.LastMember told = told ≡ script.Answer.LastMember
IsAnswer answer.PlaceTaken told = told ≡ script.Answer.PlaceTaken
IsAnswer answer.TooManyIdentities told = told ≡ script.Answer.TooManyIdentities
IsAnswer answer.ClearFailed told = told ≡ script.Answer.ClearFailed
IsAnswer answer.LoadFailed told = told ≡ script.Answer.LoadFailed
IsAnswer (answer.Damaged key) told = ⊥
IsAnswer (answer.Settled messages blocked) told = told ≡ script.Answer.Settled messages blocked
IsAnswer answer.Stopped told = told ≡ script.Answer.Stopped

abbrev pub is_damage : Answer → Bool
is_damage (answer.Damaged key) = true
is_damage _ = false

-- a restart answered so
abbrev pub are_damaged : List Event → Bool
are_damaged (event ∷ []) = is_damage event.answer
are_damaged _ = false

-- of a delivered message the sketch is told
abbrev pub IsHead : Head → script.Head Op → Type 0
IsHead (head.Asked at ask) told = told ≡ script.Head.Asked at (ask_of ask)
IsHead (head.Deliver from to index sketch) told =
    (message : Option (model.Message Op)) × (told ≡ script.Head.DeliverHead from to index message) × (sketch ≡ option_map sketched message)
IsHead (head.Lose from to index) told = told ≡ script.Head.LoseHead from to index
IsHead (head.Timeout at op) told = told ≡ script.Head.TimeoutHead at op
IsHead head.Round told = told ≡ script.Head.RoundHead
IsHead (head.Remove id) told = told ≡ script.Head.RemoveHead id
IsHead (head.Join place) told = told ≡ script.Head.JoinHead place
IsHead (head.Restart id) told = told ≡ script.Head.RestartHead id
IsHead head.Settle told = told ≡ script.Head.SettleHead

-- the event says what the line says
pub record IsLine (event : Event) (told : Told Op Shown) : Type 0 where
  pub head : IsHead event.head told.head
  pub answer : IsAnswer event.answer told.answer
  pub sent : event.sent ≡ map sketched_post told.posts
  pub ended : told.ended ≡ option_map finished_meant event.finished

-- what was told between the two
abbrev pub AreNextLines : {Kind : Type 0} → List Event → Playing Kind Op Shown → Playing Kind Op Shown → Type 0
AreNextLines events before after = (told : List (Told Op Shown)) × (after.lines ≡ before.lines ++ told) × AllZip IsLine events told
