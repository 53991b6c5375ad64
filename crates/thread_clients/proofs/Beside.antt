-- Clients beside each other.
use Rattle.std.proofs.Common.{◌≡◌, ℕ, zero, suc, ◌<◌, ◌≤◌, ◌++◌, ◌∷◌, List, [], length, map, true, false, Option, Some, slice_get, get_or, refl, sym, ap, ◌∙◌, subst, arith}
use Rattle.std.specs.Prelude.{option_map, Result, Ok, Err, OnOk, is_err}
use Rattle.std.specs.List.{All}
use Rattle.std.proofs.lemmas.Option.{slice_get-map, get_or_from_slice_get, slice_get-get_or, slice_get_within}
use Rattle.std.proofs.lemmas.List.Elements.{All-get_or}
use Rattle.atomic_table.specs.Seated.{TableId}
use Rattle.model_kinds.specs.declared.operation.Op.{Op}
use Rattle.data_lattice.specs.declared.replica.Replica.{Ghosts as Data}
use Rattle.member_keeper.specs.declared.keeper.Keeper.{Ghosts as Keeping}
use Rattle.member_views.specs.Views.{View}
use Rattle.thread_cluster.specs.Knowing.{GoesOn}
use Rattle.thread_cluster.proofs.Growing.{goes_on_self}
use Rattle.thread_clients.specs.declared.clients.Job.{Job}
use Rattle.thread_clients.specs.declared.clients.Played.{Played}
use Rattle.script_reading.specs.declared.clients.Repeated.{Repeated}
use Rattle.thread_clients.specs.Commands.{commands_of}
use Rattle.thread_clients.specs.Sessions.{Session, Meaning}
use Rattle.thread_clients.specs.Paths.{IsPath}
use Rattle.thread_clients.specs.Stopping.{WasStopped, AreStopped}
use Rattle.thread_clients.specs.Playing.{IsBack, AreBack, HasPlayed, HavePlayed, AreAllPlayed, job_of, played_of, session_of}

module _ {A B : Type 0} (f : A → B) where
  pub get_mapped : (xs : List A) (k : ℕ) (x : A) → slice_get xs k ≡ Some x → slice_get (map f xs) k ≡ Some (f x)
  get_mapped xs k x is = slice_get-map f xs k ∙ ap (option_map f) is

  -- what stands in a mapped list is the image of what stands in the list
  pub from_mapped : (xs : List A) (k : ℕ) (y : B) → slice_get (map f xs) k ≡ Some y → (x : A) × (slice_get xs k ≡ Some x) × (f x ≡ y)
  from_mapped [] k y is = absurd cc
  from_mapped (x ∷ xs) zero y is = (x, refl, cc)
  from_mapped (x ∷ xs) (suc k) y is = from_mapped xs k y is

  pub length_mapped : (xs : List A) → length (map f xs) ≡ length xs
  length_mapped [] = refl
  length_mapped (x ∷ xs) = let e = length_mapped xs in omega arith

  pub map_more : (xs : List A) (x : A) → map f (xs ++ x ∷ []) ≡ map f xs ++ f x ∷ []
  map_more [] x = refl
  map_more (y ∷ xs) x = ap (λ ys. f y ∷ ys) (map_more xs x)

-- one item more of those that were moved
pub pushed_more : {A B : Type 0} (f : A → B) (before after : List B) (yielded : List A) (x : A) (y : B) → before ≡ map f yielded → after ≡ before ++ y ∷ [] → y ≡ f x → after ≡ map f (yielded ++ x ∷ [])
pushed_more {A} {B} f before after yielded x y so_far pushed same =
    pushed ∙ (ap (λ (ys : List B). ys ++ y ∷ []) so_far ∙ (ap (λ (z : B). map f yielded ++ z ∷ []) same ∙ sym (map_more f yielded x)))

-- the room that was reserved
pub reserved : {A B : Type 0} (r : Result A B) (needed room : ℕ) → is_err r ≡ false → OnOk r (needed ≤ room) → needed ≤ room
reserved (Ok x) needed room fine h = h
reserved (Err e) needed room fine h = absurd cc

pub all_yielded : {A : Type 0} (xs ys : List A) → map (λ (x : A). x) xs ≡ ys → xs ≡ ys
all_yielded {A = A} xs ys e = sym (same xs) ∙ e
  where
    same : (zs : List A) → map (λ (x : A). x) zs ≡ zs
    same [] = refl
    same (z ∷ zs) = ap (λ ws. z ∷ ws) (same zs)

pub all_get : {A : Type 0} (P : A → Type 0) (xs : List A) (k : ℕ) (x : A) → All P xs → slice_get xs k ≡ Some x → P x
all_get P xs k x all is = subst P (get_or_from_slice_get xs k x x is) (All-get_or P xs k x (slice_get_within xs k x is) all)

module _ {T K Kind Delta : Type 0} {data_of : Data T Kind Op Delta} {keeping : Keeping K} (table : TableId) where
  -- sessions to which nothing happened
  pub back_same : (sessions : List (Session data_of keeping)) → All (λ (s : Session data_of keeping). s.seen.table ≡ table) sessions → AreBack table sessions sessions
  back_same sessions tables = record {
    count = refl;
    each = λ k one other is there.
        let same : one ≡ other = cc in
        subst (IsBack table one) same (record { table_is = all_get (λ (s : Session data_of keeping). s.seen.table ≡ table) sessions k one tables is; goes_on = goes_on_self one });
  }

  pub table_of : (jobs : List (Job T K Kind Delta data_of keeping)) (k : ℕ) (job : Job T K Kind Delta data_of keeping) → All (λ (j : Job T K Kind Delta data_of keeping). j.session.seen.table ≡ table) jobs → slice_get jobs k ≡ Some job
      → (job.session.seen.table ≡ table) × (k < length jobs)
  table_of jobs k job tables is = (all_get (λ (j : Job T K Kind Delta data_of keeping). j.session.seen.table ≡ table) jobs k job tables is, slice_get_within jobs k job is)

  -- new jobs are of the table
  pub jobs_tables : (sessions : List (Session data_of keeping)) (jobs : List (Job T K Kind Delta data_of keeping)) → All (λ (s : Session data_of keeping). s.seen.table ≡ table) sessions → jobs ≡ map job_of sessions
      → All (λ (j : Job T K Kind Delta data_of keeping). j.session.seen.table ≡ table) jobs
  jobs_tables sessions jobs tables are = subst (All (λ (j : Job T K Kind Delta data_of keeping). j.session.seen.table ≡ table)) (sym are) mapped
    where
      mapped : All (λ (j : Job T K Kind Delta data_of keeping). j.session.seen.table ≡ table) (map job_of sessions)
      mapped = λ k d lt.
          let found = from_mapped job_of sessions k (get_or (map job_of sessions) k d) (slice_get-get_or (map job_of sessions) k d lt) in
          subst (λ (j : Job T K Kind Delta data_of keeping). j.session.seen.table ≡ table) found.2 (all_get (λ (s : Session data_of keeping). s.seen.table ≡ table) sessions k found.0 tables found.1)

module _ {T K Kind Delta : Type 0} {data_of : Data T Kind Op Delta} {keeping : Keeping K} (meaning : Meaning data_of keeping) (ids : ℕ → Option ℕ) (views : List View) (table : TableId) (clients : List (List Repeated)) where
  -- what the client's command did, where it made all, or not
  pub one_played : (client : ℕ) (commands : List Repeated) (old new : Job T K Kind Delta data_of keeping) → slice_get clients client ≡ Some commands → new.session.seen.table ≡ table → GoesOn old.session new.session
      → WasStopped meaning ids views client (commands_of commands) old.session new.session → (new.complete ≡ true → IsPath meaning ids views client old.session (commands_of commands) new.lines new.session)
      → HasPlayed meaning ids views table clients client old new
  one_played client commands old new is table_is goes_on part path = record {
    back = record { table_is = table_is; goes_on = goes_on };
    part = λ others there.
        let same : commands ≡ others = cc in
        subst (λ (cs : List Repeated). WasStopped meaning ids views client (commands_of cs) old.session new.session) same part;
    path = λ complete others there.
        let same : commands ≡ others = cc in
        subst (λ (cs : List Repeated). IsPath meaning ids views client old.session (commands_of cs) new.lines new.session) same (path complete);
  }

  pub all_played : (sessions : List (Session data_of keeping)) (jobs : List (Job T K Kind Delta data_of keeping)) → HavePlayed meaning ids views table clients (map job_of sessions) jobs
      → All (λ (j : Job T K Kind Delta data_of keeping). j.complete ≡ true) jobs → AreAllPlayed meaning ids views table clients sessions (map played_of jobs)
  all_played sessions jobs have complete = record {
    count = length_mapped played_of jobs ∙ (have.count ∙ length_mapped job_of sessions);
    each = λ k commands session done here begun ended. one k commands session done here begun (from_mapped played_of jobs k done ended);
  }
    where
      one : (k : ℕ) (commands : List Repeated) (session : Session data_of keeping) (done : Played T K Kind Delta data_of keeping) → slice_get clients k ≡ Some commands → slice_get sessions k ≡ Some session
          → ((job : Job T K Kind Delta data_of keeping) × (slice_get jobs k ≡ Some job) × (played_of job ≡ done)) → IsBack table session done.session × IsPath meaning ids views k session (commands_of commands) done.lines done.session
      one k commands session done here begun (job, is, same) =
          let did = have.each k (job_of session) job (get_mapped job_of sessions k session begun) is in
          let finished = all_get (λ (j : Job T K Kind Delta data_of keeping). j.complete ≡ true) jobs k job complete is in
          subst (λ (p : Played T K Kind Delta data_of keeping). IsBack table session p.session × IsPath meaning ids views k session (commands_of commands) p.lines p.session) same (did.back, did.path finished commands here)

  pub all_back : (sessions : List (Session data_of keeping)) (jobs : List (Job T K Kind Delta data_of keeping)) → HavePlayed meaning ids views table clients (map job_of sessions) jobs → AreBack table sessions (map session_of jobs)
  all_back sessions jobs have = record {
    count = length_mapped session_of jobs ∙ (have.count ∙ length_mapped job_of sessions);
    each = λ k session other begun ended. one k session other begun (from_mapped session_of jobs k other ended);
  }
    where
      one : (k : ℕ) (session other : Session data_of keeping) → slice_get sessions k ≡ Some session → ((job : Job T K Kind Delta data_of keeping) × (slice_get jobs k ≡ Some job) × (session_of job ≡ other)) → IsBack table session other
      one k session other begun (job, is, same) =
          subst (IsBack table session) same (have.each k (job_of session) job (get_mapped job_of sessions k session begun) is).back

  pub run_done : (sessions : List (Session data_of keeping)) (jobs after later shown : List (Job T K Kind Delta data_of keeping)) (played : List (Played T K Kind Delta data_of keeping)) → jobs ≡ map job_of sessions → HavePlayed meaning ids views table clients jobs after
      → All (λ (j : Job T K Kind Delta data_of keeping). j.complete ≡ true) shown → later ≡ after → shown ≡ later → played ≡ map played_of later → AreAllPlayed meaning ids views table clients sessions played
  run_done sessions jobs after later shown played are have complete put same told =
      let from_start = subst (λ (js : List (Job T K Kind Delta data_of keeping)). HavePlayed meaning ids views table clients js after) are have in
      let all = subst (All (λ (j : Job T K Kind Delta data_of keeping). j.complete ≡ true)) (same ∙ put) complete in
      subst (AreAllPlayed meaning ids views table clients sessions) (sym (told ∙ ap (λ (js : List (Job T K Kind Delta data_of keeping)). map played_of js) put)) (all_played sessions after from_start all)

  pub run_back : (sessions back : List (Session data_of keeping)) (jobs after later : List (Job T K Kind Delta data_of keeping)) → jobs ≡ map job_of sessions → HavePlayed meaning ids views table clients jobs after → later ≡ after → back ≡ map session_of later
      → AreBack table sessions back
  run_back sessions back jobs after later are have put told =
      let from_start = subst (λ (js : List (Job T K Kind Delta data_of keeping)). HavePlayed meaning ids views table clients js after) are have in
      subst (AreBack table sessions) (sym (told ∙ ap (λ (js : List (Job T K Kind Delta data_of keeping)). map session_of js) put)) (all_back sessions after from_start)

  -- what each did, whether it made all or not
  all_stopped : (sessions : List (Session data_of keeping)) (jobs : List (Job T K Kind Delta data_of keeping)) → HavePlayed meaning ids views table clients (map job_of sessions) jobs → AreStopped meaning ids views clients sessions (map session_of jobs)
  all_stopped sessions jobs have = record { each = λ k commands session other given begun ended. one k commands session other given begun (from_mapped session_of jobs k other ended) }
    where
      one : (k : ℕ) (commands : List Repeated) (session other : Session data_of keeping) → slice_get clients k ≡ Some commands → slice_get sessions k ≡ Some session
          → ((job : Job T K Kind Delta data_of keeping) × (slice_get jobs k ≡ Some job) × (session_of job ≡ other)) → WasStopped meaning ids views k (commands_of commands) session other
      one k commands session other given begun (job, is, same) =
          subst (λ (s : Session data_of keeping). WasStopped meaning ids views k (commands_of commands) session s) same
          ((have.each k (job_of session) job (get_mapped job_of sessions k session begun) is).part commands given)

  pub run_stopped : (sessions back : List (Session data_of keeping)) (jobs after later : List (Job T K Kind Delta data_of keeping)) → jobs ≡ map job_of sessions → HavePlayed meaning ids views table clients jobs after → later ≡ after → back ≡ map session_of later
      → AreStopped meaning ids views clients sessions back
  run_stopped sessions back jobs after later are have put told =
      let from_start = subst (λ (js : List (Job T K Kind Delta data_of keeping)). HavePlayed meaning ids views table clients js after) are have in
      subst (AreStopped meaning ids views clients sessions) (sym (told ∙ ap (λ (js : List (Job T K Kind Delta data_of keeping)). map session_of js) put)) (all_stopped sessions after from_start)
