-- What clients did beside each other.
--     IsBack, AreBack        sessions that go on
--     HasPlayed, HavePlayed        what a client did, and each of them
--     AreAllPlayed        what clients did that made all of their commands
use Rattle.std.specs.Prelude.{◌≡◌, ℕ, List, [], length, replicate, true, false, Option, Some, slice_get}
use Rattle.atomic_table.specs.Seated.{TableId}
use Rattle.model_kinds.specs.declared.operation.Op.{Op}
use Rattle.data_lattice.specs.declared.replica.Replica.{Ghosts as Data}
use Rattle.member_keeper.specs.declared.keeper.Keeper.{Ghosts as Keeping}
use Rattle.member_views.specs.Views.{View}
use Rattle.thread_cluster.specs.Knowing.{GoesOn}
use Rattle.thread_clients.specs.declared.clients.Job.{Job}
use Rattle.thread_clients.specs.declared.clients.Played.{Played}
use Rattle.script_reading.specs.declared.clients.Repeated.{Repeated}
use Rattle.thread_clients.specs.Commands.{commands_of}
use Rattle.thread_clients.specs.Sessions.{Session, Meaning}
use Rattle.thread_clients.specs.Paths.{IsPath}
use Rattle.thread_clients.specs.Stopping.{WasStopped}

module _ {T K Kind Delta : Type 0} {data_of : Data T Kind Op Delta} {keeping : Keeping K} where
  -- a session with no line yet
  abbrev pub job_of : Session data_of keeping → Job T K Kind Delta data_of keeping
  job_of session = record { session = session; lines = []; complete = false; apart = replicate 16 0 }

  abbrev pub played_of : Job T K Kind Delta data_of keeping → Played T K Kind Delta data_of keeping
  played_of job = record { session = job.session; lines = job.lines }

  abbrev pub session_of : Job T K Kind Delta data_of keeping → Session data_of keeping
  session_of job = job.session

  module _ (table : TableId) where
    -- the session of a client goes on, in the table
    pub record IsBack (old new : Session data_of keeping) : Type 0 where
      pub table_is : new.seen.table ≡ table
      pub goes_on : GoesOn old new

    -- each session goes on
    pub record AreBack (old new : List (Session data_of keeping)) : Type 0 where
      pub count : length new ≡ length old
      pub each : (k : ℕ) (one other : Session data_of keeping) → slice_get old k ≡ Some one → slice_get new k ≡ Some other → IsBack one other

module _ {T K Kind Delta : Type 0} {data_of : Data T Kind Op Delta} {keeping : Keeping K} (meaning : Meaning data_of keeping) (ids : ℕ → Option ℕ) (views : List View) (table : TableId) (clients : List (List Repeated)) where
  -- the client of a number made some of its commands, in its session; and if it made all, its lines are those of them
  pub record HasPlayed (client : ℕ) (old new : Job T K Kind Delta data_of keeping) : Type 0 where
    pub back : IsBack table old.session new.session
    pub part : (commands : List Repeated) → slice_get clients client ≡ Some commands → WasStopped meaning ids views client (commands_of commands) old.session new.session
    pub path : new.complete ≡ true → (commands : List Repeated) → slice_get clients client ≡ Some commands → IsPath meaning ids views client old.session (commands_of commands) new.lines new.session

  -- so did each
  pub record HavePlayed (old new : List (Job T K Kind Delta data_of keeping)) : Type 0 where
    pub count : length new ≡ length old
    pub each : (k : ℕ) (one other : Job T K Kind Delta data_of keeping) → slice_get old k ≡ Some one → slice_get new k ≡ Some other → HasPlayed k one other

  -- EACH CLIENT made all of its commands, in its session, and its lines are those of them
  pub record AreAllPlayed (sessions : List (Session data_of keeping)) (played : List (Played T K Kind Delta data_of keeping)) : Type 0 where
    pub count : length played ≡ length sessions
    pub each : (k : ℕ) (commands : List Repeated) (session : Session data_of keeping) (done : Played T K Kind Delta data_of keeping)
        → slice_get clients k ≡ Some commands → slice_get sessions k ≡ Some session → slice_get played k ≡ Some done
        → IsBack table session done.session × IsPath meaning ids views k session (commands_of commands) done.lines done.session
