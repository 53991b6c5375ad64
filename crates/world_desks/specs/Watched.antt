-- What the desks of a world stand for in a script with subscriptions.
--     StandForDesks        at each identity the desk stands for the model's
--     Means        the world and the desks stand for where a script is, in all logs of its way
--     Answers        a request is answered as the model's
--     EndsWithMembers        subscriptions of members that run no more have ended
--     Tells        the notices of a flush are the model's
use Rattle.std.specs.Prelude.{◌≡◌, ℕ, List, map, Some}
use Rattle.model_history.specs.Texts.{Text}
use Rattle.model_history.specs.History.{History}
use Rattle.model_members.specs.DataType.{DataType}
use Rattle.model_members.specs.Node.{KeyDecl}
use Rattle.model_kinds.specs.declared.shown.Shown.{Shown}
use Rattle.data_lattice.specs.declared.replica.Replica.{Ghosts}
use Rattle.data_lattice.specs.declared.spelled.SpelledData.{Ghosts as Spelling}
use Rattle.member_desk.specs.declared.notice.Notice.{Notice}
use Rattle.member_desk.specs.Histories.{StandsForDesk}
use Rattle.member_keeper.specs.declared.keeper.Keeper.{Ghosts as Keeping}
use Rattle.member_node.specs.Steps.{replication}
use Rattle.theorem_watching.specs.Watching as model
use Rattle.theorem_watching.specs.Watching.{WatchStep, WatchLine, Watching, of_running, subscribe_answer, unsubscribe_answer, watched, after_flush, notices_after}
use Rattle.theorem_watching.specs.Watching.WatchLine.{NoticeLine}
use Rattle.theorem_watching.specs.declared.followship.Followship.{Followship}
use Rattle.world_members.specs.declared.world.World.{World}
use Rattle.world_members.specs.Ways as ways
use Rattle.world_members.specs.Ways.{Throughout}
use Rattle.world_desks.specs.declared.desks.Desks.{Desks}
use Rattle.world_desks.specs.Seats.{desk_of}

abbrev pub StandForDesks : {Kind Op : Type 0} → DataType Kind Op Shown → (Text → Kind) → (Text → History Op) → Desks → model.Desks Op → Type 0
StandForDesks data_type kinds logs code desks = (i : ℕ) → StandsForDesk data_type kinds logs (desk_of code.seats.items i) (desks i)

module _ {T K Kind Op Delta : Type 0} {ghosts : Ghosts T Kind Op Delta} {keeping : Keeping K} (spelling : Spelling T Kind Op Delta) (kinds : Text → Kind) (members : ℕ) (decls : List (KeyDecl Kind)) where
  -- the world means where the script is, and in all logs of its way the desks stand for the model's
  pub record Means (w : Watching Kind Op) (world : World T K Kind Op Delta ghosts keeping) (desks : Desks) : Type 0 where
    pub means : ways.Means spelling kinds members decls w.playing world
    pub stand : (logs : Text → History Op) → Throughout (replication ghosts spelling) logs members decls w.playing → StandForDesks ghosts.data_type kinds logs desks w.desks

-- what a request is answered
abbrev pub subscribes : {Kind Op : Type 0} → ℕ → ℕ → Text → Watching Kind Op → Followship
subscribes at client key w = subscribe_answer w at client key

abbrev pub unsubscribes : {Kind Op : Type 0} → ℕ → ℕ → Text → Watching Kind Op → Followship
unsubscribes at client key w = unsubscribe_answer w at client key

module _ {T K Kind Op Delta : Type 0} {ghosts : Ghosts T Kind Op Delta} {keeping : Keeping K} (spelling : Spelling T Kind Op Delta) (world : World T K Kind Op Delta ghosts keeping) where
  -- wherever a script is that the world and the desks mean, this is so of it
  abbrev pub Wherever : Desks → ((kinds : Text → Kind) (members : ℕ) (decls : List (KeyDecl Kind)) → Watching Kind Op → Type 0) → Type 0
  Wherever desks Holds =
      (kinds : Text → Kind) (members : ℕ) (decls : List (KeyDecl Kind)) (w : Watching Kind Op) → Means spelling kinds members decls w world desks → Holds kinds members decls w

  -- it is answered as the model's, and the desks then mean where this leads
  pub record IsAnswered (answers : Watching Kind Op → Followship) (step : WatchStep Op) (new : Desks) (answer : Followship) (kinds : Text → Kind) (members : ℕ) (decls : List (KeyDecl Kind)) (w : Watching Kind Op) : Type 0 where
    pub answered : answer ≡ answers w
    pub means : Means spelling kinds members decls (watched (replication ghosts spelling) w step) world new

  abbrev pub Answers : (Watching Kind Op → Followship) → WatchStep Op → (old new : Desks) → Followship → Type 0
  Answers answers step old new answer = Wherever old (IsAnswered answers step new answer)

  -- what is followed at members that run, and nothing elsewhere
  abbrev pub EndsWithMembers : (old new : Desks) → Type 0
  EndsWithMembers old new =
      Wherever old (λ kinds members decls w. Means spelling kinds members decls (record w { desks = of_running w.playing.world w.desks }) world new)

  -- the notices are those of the model, and so is what was told after them
  pub record AreNotices (at : ℕ) (notices : List Notice) (new : Desks) (kinds : Text → Kind) (members : ℕ) (decls : List (KeyDecl Kind)) (w : Watching Kind Op) : Type 0 where
    pub told : notices_after ghosts.data_type w (Some at) ≡ map (NoticeLine at) notices
    pub means : Means spelling kinds members decls (after_flush ghosts.data_type w (Some at)) world new

  abbrev pub Tells : ℕ → List Notice → (old new : Desks) → Type 0
  Tells at notices old new = Wherever old (AreNotices at notices new)
