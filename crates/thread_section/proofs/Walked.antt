-- What a client did, command by command, is a path by what it knew.
--     HasWalked, has_walked
use Rattle.std.proofs.Common.{◌≡◌, ◌⊎◌, inl, inr, ⊎_elim, ℕ, zero, suc, ◌≤◌, List, [], ◌∷◌, ◌++◌, length, map, refl, sym, ap, subst, ◌∙◌, arith, Option, Some, None}
use Rattle.std.specs.Prelude.{slice_get, is_some, IsTrue, false, true}
use Rattle.std.specs.List.{AllZip}
use Rattle.std.proofs.lemmas.List.{map-append}
use Rattle.model_history.proofs.PruneLaws.{IsIn}
use Rattle.model_members.specs.View.{View, is_member}
use Rattle.model_members.specs.DataType.{Replication}
use Rattle.model_members.specs.Node as nodes
use Rattle.model_members.specs.World as worlds
use Rattle.theorem_sections.specs.Sections as sections
use Rattle.theorem_sections.specs.Sections.{Line}
use Rattle.theorem_sections.specs.Histories as model
use Rattle.theorem_sections.specs.Knowing.{KnownStep, IsKnownStepOf, IsKnownPath}
use Rattle.model_kinds.specs.declared.operation.Op.{Op}
use Rattle.model_kinds.specs.declared.shown.Shown.{Shown}
use Rattle.data_lattice.specs.declared.replica.Replica.{Ghosts}
use Rattle.data_lattice.specs.declared.spelled.SpelledData.{Ghosts as Spelling}
use Rattle.member_keeper.specs.declared.keeper.Keeper.{Ghosts as Keeping}
use Rattle.thread_machine.specs.declared.machine.Machine.{Ghosts as Machine}
use Rattle.thread_cell.specs.declared.opening.Opening.{Opening}
use Rattle.thread_cell.specs.Values.{ClientParts}
use Rattle.member_node.specs.declared.input.Input.{Input}
use Rattle.member_node.specs.declared.node.Node.{Node}
use Rattle.member_node.specs.declared.reply.Fate.{Fate}
use Rattle.member_node.specs.declared.reply.Output.{Output}
use Rattle.member_node.specs.declared.reply.StepError.{StepError}
use Rattle.member_node.specs.Steps.{replication}
use Rattle.member_node.proofs.Lists.{zip_push}
use Rattle.script_reading.specs.declared.clients.Command.{Command}
use Rattle.world_members.specs.declared.client_line.ClientLine.{ClientLine}
use Rattle.world_members.specs.ClientLines.{IsClientLine}
use Rattle.world_members.specs.Threads.{command_of}
use Rattle.thread_cluster.specs.Knowing.{GoesOn}
use Rattle.thread_cluster.proofs.Growing.{goes_on_trans, goes_on_self}
use Rattle.thread_run_order.specs.Images.{EntryOf}
use Rattle.thread_clients.specs.Paths.{IsPath}
use Rattle.thread_section.proofs.Accounts.{TakenAt, Adds, adds_more}
use Rattle.thread_section.proofs.Sessions.{IsSettled, is_of_before}
use Rattle.thread_section.proofs.Hearing.{Of}
use Rattle.thread_section.proofs.Lasting.{AreBelow}
use Rattle.thread_section.proofs.Made.{HasStep, StepCall, has_step}

module _ {T K Kind Delta : Type 0} {ghosts : Ghosts T Kind Op Delta} {keeping : Keeping K} (spelling : Spelling T Kind Op Delta) (meaning : Machine (Node T K Kind Op Delta ghosts keeping) (Input T Kind Op Delta ghosts) Fate (Output T Kind Op Delta ghosts) StepError)
    (world : worlds.World Kind Op Shown) (ids : ℕ → Option ℕ) (opening : Opening (Node T K Kind Op Delta ghosts keeping) (Input T Kind Op Delta ghosts) Fate (Output T Kind Op Delta ghosts) StepError)
    (h : ℕ → List (EntryOf ghosts keeping)) (histories : ℕ → List (model.Entry Op Shown)) (settled : IsSettled spelling meaning world ids opening h histories) (client : ℕ)
    (views : List View) (views_are : worlds.views_of world ≡ views) (below : (i : ℕ) (n : nodes.Node Kind Op Shown) → world.nodes i ≡ Some n → AreBelow (replication ghosts spelling) n) (runs_in : (i : ℕ) → IsTrue (is_member world.view i) → is_some (world.nodes i) ≡ true)
    (none_runs : (i : ℕ) → is_member world.view i ≡ false → world.nodes i ≡ None) where
  abbrev Session : Type 0
  Session = ClientParts (Node T K Kind Op Delta ghosts keeping) (Input T Kind Op Delta ghosts) Fate (Output T Kind Op Delta ghosts) StepError

  abbrev D : Replication Kind Op Shown
  D = replication ghosts spelling

  abbrev IsOurs : Session → Type 0
  IsOurs s = Of spelling meaning world ids opening h histories settled client s

  abbrev Step : Command → Session → Session → ClientLine → Type 0
  Step = HasStep spelling meaning world ids opening h histories settled client views views_are below runs_in none_runs

  -- a path up to a stamp, so that it can grow at its end
  abbrev UpTo : ℕ → List (sections.Command Op) → List (KnownStep Op Shown) → ℕ → Type 0
  UpTo stamp [] [] u = stamp ≤ u
  UpTo stamp (c ∷ cs) (k ∷ ks) u = (stamp ≤ k.step.since) × IsKnownStepOf D world histories client c k × UpTo k.step.upto cs ks u
  UpTo stamp _ _ u = ⊥

  as_path : (stamp : ℕ) (cs : List (sections.Command Op)) (ks : List (KnownStep Op Shown)) (u : ℕ) → UpTo stamp cs ks u → IsKnownPath D world histories client stamp cs ks
  as_path stamp [] [] u up = tt
  as_path stamp [] (k ∷ ks) u up = absurd up
  as_path stamp (c ∷ cs) [] u up = absurd up
  as_path stamp (c ∷ cs) (k ∷ ks) u up = (up.0, up.1, as_path k.step.upto cs ks u up.2)

  one_more : (stamp : ℕ) (cs : List (sections.Command Op)) (ks : List (KnownStep Op Shown)) (u : ℕ) (c : sections.Command Op) (k : KnownStep Op Shown) → UpTo stamp cs ks u → u ≤ k.step.since → IsKnownStepOf D world histories client c k
      → UpTo stamp (cs ++ c ∷ []) (ks ++ k ∷ []) k.step.upto
  one_more stamp [] [] u c k up later is = ((let a = up in omega (arith, a, later)), is, omega arith)
  one_more stamp [] (x ∷ ks) u c k up later is = absurd up
  one_more stamp (x ∷ cs) [] u c k up later is = absurd up
  one_more stamp (x ∷ cs) (y ∷ ks) u c k up later is = (up.0, up.1, one_more y.step.upto cs ks u c k up.2 later is)

  -- the call is that of a step, or its timeout, or a take
  pub record IsOfStep (commands : List Command) (ks : List (KnownStep Op Shown)) (call : ℕ × ℕ) : Type 0 where
    pub number : ℕ
    pub command : Command
    pub k : KnownStep Op Shown
    pub stands : (slice_get commands number ≡ Some command) × (slice_get ks number ≡ Some k)
    pub at : ids call.0 ≡ Some command.at
    pub is : (k.step.index ≡ Some call.1) ⊎ (k.step.timeout ≡ Some call.1)

  abbrev pub PathCall : List Command → List (KnownStep Op Shown) → ℕ × ℕ → Type 0
  PathCall commands ks call = TakenAt meaning ids h call ⊎ IsOfStep commands ks call

  abbrev line_of_step : KnownStep Op Shown → Line Op Shown
  line_of_step k = k.step.line

  pub record HasWalked (first last : Session) (commands : List Command) (lines : List ClientLine) : Type 0 where
    pub ks : List (KnownStep Op Shown)
    pub goes : GoesOn first last
    pub up : UpTo first.seen.stamp (map command_of commands) ks last.seen.stamp
    pub told : AllZip IsClientLine lines (map line_of_step ks)
    pub as_many : length ks ≡ length commands
    pub calls : Adds meaning ids h (PathCall commands ks) first last

  in_front : {X : Type 0} (xs ys : List X) (k : ℕ) (x : X) → slice_get xs k ≡ Some x → slice_get (xs ++ ys) k ≡ Some x
  in_front [] ys k x at = absurd (cc at)
  in_front (y ∷ xs) ys zero x at = at
  in_front (y ∷ xs) ys (suc k) x at = in_front xs ys k x at

  at_end : {X : Type 0} (xs : List X) (x : X) (k : ℕ) → k ≡ length xs → slice_get (xs ++ x ∷ []) k ≡ Some x
  at_end [] x zero e = refl
  at_end [] x (suc k) e = absurd (omega (arith, e))
  at_end (y ∷ xs) x zero e = absurd (omega (arith, e))
  at_end (y ∷ xs) x (suc k) e = at_end xs x k (omega (arith, e))

  length_end : {X : Type 0} (xs : List X) (x : X) → length (xs ++ x ∷ []) ≡ suc (length xs)
  length_end [] x = refl
  length_end (y ∷ xs) x = ap suc (length_end xs x)

  pub has_walked : (first last : Session) (commands : List Command) (lines : List ClientLine) → IsOurs last → IsPath meaning ids views client first commands lines last → HasWalked first last commands lines
  has_walked first _ _ _ ours IsPath.nothing = record { ks = []; goes = goes_on_self first; up = omega arith; told = tt; as_many = refl; calls = λ call m. inl m }
  has_walked first _ _ _ ours (IsPath.further commands lines old new command line path made) =
      let s = has_step spelling meaning world ids opening h histories settled client views views_are below runs_in none_runs command old new line ours made in
      let before = is_of_before spelling meaning world ids opening h histories settled client old new s.goes ours in
      let w = has_walked first old commands lines before path in
      let k = s.k in
      record {
        ks = w.ks ++ k ∷ [];
        goes = goes_on_trans first old new w.goes s.goes;
        up = subst (λ cs. UpTo first.seen.stamp cs (w.ks ++ k ∷ []) new.seen.stamp) (sym (map-append command_of commands (command ∷ [])))
            (subst (UpTo first.seen.stamp (map command_of commands ++ command_of command ∷ []) (w.ks ++ k ∷ [])) s.upto
            (one_more first.seen.stamp (map command_of commands) w.ks old.seen.stamp (command_of command) k w.up (let a = s.since in omega (arith, a)) s.step));
        told = subst (AllZip IsClientLine (lines ++ line ∷ [])) (sym (map-append line_of_step w.ks (k ∷ []))) (zip_push IsClientLine lines (map line_of_step w.ks) line k.step.line w.told s.told);
        as_many = length_end w.ks k ∙ ap suc w.as_many ∙ sym (length_end commands command);
        calls = adds_more meaning ids h (PathCall commands w.ks) (PathCall (commands ++ command ∷ []) (w.ks ++ k ∷ [])) first old new
            (λ call p. ⊎_elim (λ (t : TakenAt meaning ids h call). inl t)
            (λ (o : IsOfStep commands w.ks call). inr (record { number = o.number; command = o.command; k = o.k; stands = (in_front commands (command ∷ []) o.number o.command o.stands.0, in_front w.ks (k ∷ []) o.number o.k o.stands.1); at = o.at; is = o.is })) p)
            w.calls
            (λ call m. ⊎_elim (λ (old_one : IsIn old.calls call). inl old_one)
            (λ (new_one : StepCall spelling meaning world ids opening h histories settled client views views_are below runs_in none_runs command.at k call).
            inr (⊎_elim (λ (t : TakenAt meaning ids h call). inl t)
            (λ (x : (ids call.0 ≡ Some command.at) × ((k.step.index ≡ Some call.1) ⊎ (k.step.timeout ≡ Some call.1))).
            inr (record { number = length commands; command = command; k = k; stands = (at_end commands command (length commands) refl, at_end w.ks k (length commands) (sym w.as_many)); at = x.0; is = x.1 })) new_one))
            (s.calls call m));
      }

  pub walked_path : (first last : Session) (commands : List Command) (lines : List ClientLine) (w : HasWalked first last commands lines) → first.seen.stamp ≡ 0 → IsKnownPath D world histories client 0 (map command_of commands) w.ks
  walked_path first last commands lines w none = subst (λ stamp. IsKnownPath D world histories client stamp (map command_of commands) w.ks) none (as_path first.seen.stamp (map command_of commands) w.ks last.seen.stamp w.up)
