-- What a step of a script does to a world.
--     Plays        the step is the model's, with the answers that the keepers gave
--     Remains        what stands after want of memory
--     Starts, RefusesStart        the first world, and the keepers where there is none
use Rattle.std.specs.Prelude.{◌≡◌, ◌≢◌, ℕ, ◌+◌, List, [], ◌∷◌, length, map, true, false, Some, is_some, IsSome, Result, MatchResult, slice_get}
use Rattle.model_history.specs.Texts.{Text}
use Rattle.model_members.specs.Node as nodes
use Rattle.model_members.specs.View.{place_of}
use Rattle.model_members.specs.Script.{Playing, ScriptStep, KeeperAnswers, answers_between, opening, played}
use Rattle.model_kinds.specs.declared.operation.Op.{Op}
use Rattle.model_kinds.specs.declared.shown.Shown.{Shown}
use Rattle.data_lattice.specs.declared.replica.Replica.{Ghosts}
use Rattle.data_lattice.specs.declared.spelled.SpelledData.{Ghosts as Spelling}
use Rattle.member_keeper.specs.declared.keeper.Keeper.{Ghosts as Keeping}
use Rattle.member_views.specs.Sound.{last_view}
use Rattle.member_node.specs.declared.key.KeyDecl.{KeyDecl}
use Rattle.member_node.specs.Members.{AreOfKinds, declared}
use Rattle.member_node.specs.Steps.{replication}
use Rattle.script_reading.specs.Meant.{step_of}
use Rattle.script_reading.specs.declared.script.Step.{Step}
use Rattle.script_reading.specs.declared.script.Step.TheVariants as form
use Rattle.world_members.specs.declared.event.Event.{Event}
use Rattle.world_members.specs.declared.world.World.{World}
use Rattle.world_members.specs.declared.start.StartError.{StartError}
use Rattle.world_members.specs.declared.start.StartError.TheVariants.{ClearFailed, Memory}
use Rattle.world_members.specs.Lines.{are_damaged, AreNextLines}
use Rattle.world_places.specs.Places.{item_at, keeper_of}
use Rattle.world_places.specs.Keeping.{Given, KeepsAt, IsKept, AreKept, IsNotCleared}
use Rattle.world_members.specs.Ways.{IsPrefix, Means}

-- THE KEEPERS' ANSWERS

-- the next answers of each place are these
abbrev pub Foretells : {Kind Op Shown : Type 0} → Playing Kind Op Shown → Given → Type 0
Foretells p given = (place : ℕ) → answers_between p.answers place (p.calls place) (p.calls place + length (given place)) ≡ given place

-- each place's keeper answered so many calls more
abbrev pub HaveAnswered : {Kind Op Shown : Type 0} → Playing Kind Op Shown → Playing Kind Op Shown → Given → Type 0
HaveAnswered p q given = (place : ℕ) → q.calls place ≡ p.calls place + length (given place)

-- A STEP

module _ {T K Kind Delta : Type 0} {ghosts : Ghosts T Kind Op Delta} {keeping : Keeping K} (spelling : Spelling T Kind Op Delta) where
  -- the world then means where the script is, these lines were told, and these calls were answered
  pub record Reaches (kinds : Text → Kind) (members : ℕ) (decls : List (nodes.KeyDecl Kind)) (p q : Playing Kind Op Shown) (given : Given) (new : World T K Kind Op Delta ghosts keeping) (events : List Event) : Type 0 where
    pub means : Means spelling kinds members decls q new
    pub lines : AreNextLines events p q
    pub calls : HaveAnswered p q given

  -- wherever a script is that the world before means, if its keepers are to give these answers
  abbrev pub LeadsTo : (Playing Kind Op Shown → Playing Kind Op Shown) → Given → World T K Kind Op Delta ghosts keeping → World T K Kind Op Delta ghosts keeping → List Event → Type 0
  LeadsTo goes given old new events =
      (kinds : Text → Kind) (members : ℕ) (decls : List (nodes.KeyDecl Kind)) (p : Playing Kind Op Shown) → Means spelling kinds members decls p old → Foretells p given → Reaches kinds members decls p (goes p) given new events

  -- the world means what it meant
  abbrev pub Stays : World T K Kind Op Delta ghosts keeping → World T K Kind Op Delta ghosts keeping → Type 0
  Stays old new = (kinds : Text → Kind) (members : ℕ) (decls : List (nodes.KeyDecl Kind)) (p : Playing Kind Op Shown) → Means spelling kinds members decls p old → Means spelling kinds members decls p new

  -- the world means a place on the way to where the script would be
  pub record Stops (goes : Playing Kind Op Shown → Playing Kind Op Shown) (old new : World T K Kind Op Delta ghosts keeping) : Type 0 where
    pub given : Given
    pub means : (kinds : Text → Kind) (members : ℕ) (decls : List (nodes.KeyDecl Kind)) (p : Playing Kind Op Shown) → Means spelling kinds members decls p old → Foretells p given
        → (q : Playing Kind Op Shown) × Means spelling kinds members decls q new × IsPrefix p.events q.events × IsPrefix q.events (goes p).events

module _ {T K Kind Op Delta : Type 0} {ghosts : Ghosts T Kind Op Delta} {keeping : Keeping K} where
  -- all but the spare keeper at this place
  pub record IsSameBut (place : ℕ) (old new : World T K Kind Op Delta ghosts keeping) : Type 0 where
    pub views : new.views ≡ old.views
    pub keys : new.keys ≡ old.keys
    pub nodes : new.nodes ≡ old.nodes
    pub links : new.links ≡ old.links
    pub others : (other : ℕ) → other ≢ place → item_at new.spare.items other ≡ item_at old.spare.items other
    pub spare : is_some (item_at new.spare.items place) ≡ is_some (item_at old.spare.items place)

module _ {T K Kind Delta : Type 0} {ghosts : Ghosts T Kind Op Delta} {keeping : Keeping K} (spelling : Spelling T Kind Op Delta) where
  -- what a restart loads is what its place's keeper took, since this tells its table
  abbrev pub LoadsWhatItTook : Step → World T K Kind Op Delta ghosts keeping → Type 0
  LoadsWhatItTook (form.Restart id) world = (keeper : K) → keeper_of world.nodes.items world.spare.items (place_of (last_view world.views) id) ≡ Some keeper → IsSome (keeping.table keeper)
  LoadsWhatItTook _ world = Unit {0}

  -- the keeper of a member that was to come back gave what no member stored, and the event does not happen
  pub record IsDamaged (step : Step) (old new : World T K Kind Op Delta ghosts keeping) : Type 0 where
    pub id : ℕ
    pub restarts : step ≡ form.Restart id
    pub stays : Stays spelling old new

  -- nothing is damaged, if the world means where some script is
  abbrev pub IsSound : World T K Kind Op Delta ghosts keeping → List Event → Type 0
  IsSound world events = (kinds : Text → Kind) (members : ℕ) (decls : List (nodes.KeyDecl Kind)) (p : Playing Kind Op Shown) → Means spelling kinds members decls p world → are_damaged events ≡ false

  -- The keepers gave some answers, and the step is the model's with these. Over a keeper that tells its table nothing is damaged.
  pub record Plays (step : Step) (old new : World T K Kind Op Delta ghosts keeping) (events : List Event) : Type 0 where
    pub given : Given
    pub kept : (place : ℕ) → KeepsAt keeping (given place) (keeper_of old.nodes.items old.spare.items place) (keeper_of new.nodes.items new.spare.items place)
    pub damaged : are_damaged events ≡ true → IsDamaged step old new
    pub does : LoadsWhatItTook step old → IsSound old events × LeadsTo spelling (λ p. played (replication ghosts spelling) p (step_of step)) given old new events

  -- of a round and of a settle, what was done stands; after a join, all but the place's keeper, which may have forgotten all
  abbrev pub RemainsSo : Step → World T K Kind Op Delta ghosts keeping → World T K Kind Op Delta ghosts keeping → Type 0
  RemainsSo form.Round old new = Stops spelling (λ p. played (replication ghosts spelling) p ScriptStep.Round) old new
  RemainsSo form.Settle old new = Stops spelling (λ p. played (replication ghosts spelling) p ScriptStep.Settle) old new
  RemainsSo (form.Join place) old new = IsSameBut place old new
  RemainsSo _ old new = Stays spelling old new

  -- after want of memory
  pub record Remains (step : Step) (old new : World T K Kind Op Delta ghosts keeping) : Type 0 where
    pub kept : (place : ℕ) → IsKept keeping (keeper_of old.nodes.items old.spare.items place) (keeper_of new.nodes.items new.spare.items place)
    pub remains : RemainsSo step old new

  -- a call that answers the event of a step made the step, or wanted memory
  abbrev pub MakesStep : {Refusal : Type 0} → Step → (old new : World T K Kind Op Delta ghosts keeping) → Result Event Refusal → Type 0
  MakesStep step old new result = MatchResult result (λ event. Plays step old new (event ∷ [])) (λ _. Remains step old new)

-- THE FIRST WORLD

module _ {T K Kind Op Delta : Type 0} {ghosts : Ghosts T Kind Op Delta} {keeping : Keeping K} (spelling : Spelling T Kind Op Delta) where
  -- each keeper forgot all, and the world means where each script with these members and keys begins
  pub record Starts (members : ℕ) (keys : List (KeyDecl T Kind Op Delta)) (keepers : List K) (world : World T K Kind Op Delta ghosts keeping) : Type 0 where
    pub kept : (place : ℕ) (keeper : K) → slice_get keepers place ≡ Some keeper → KeepsAt keeping (true ∷ []) (Some keeper) (keeper_of world.nodes.items world.spare.items place)
    pub means : (kinds : Text → Kind) (answers : KeeperAnswers) → AreOfKinds kinds keys → Means spelling kinds members (map declared keys) (opening answers members (map declared keys)) world

module _ {K : Type 0} (keeping : Keeping K) where
  -- the keepers come back
  abbrev pub RefusesStart : List K → StartError K → Type 0
  RefusesStart old (ClearFailed keepers place) = IsNotCleared keeping place old keepers.items
  RefusesStart old (Memory keepers) = AreKept keeping old keepers.items
