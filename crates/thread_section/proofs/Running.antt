-- Members that made some entries, and the keepers that come back with them.
--     has_run_some, has_run_none, ran        the machine of a cell, of a place that has none, and of a closed place
--     placed_after        they stand at the places of their world
--     back_at, world_back        the keepers of members and of a world, by place
--     given_back        those of the members come back as those of the world before
use Rattle.std.proofs.Common.{◌≡◌, ℕ, zero, suc, ◌<◌, List, [], ◌∷◌, ◌++◌, length, refl, sym, ap, subst, ◌∙◌, arith, true, false, true≢false, Option, Some, None, Vec, Global}
use Rattle.std.specs.Prelude.{slice_get, is_some, not, option_map, option_to_list}
use Rattle.model_kinds.specs.declared.operation.Op.{Op}
use Rattle.data_lattice.specs.declared.replica.Replica.{Ghosts}
use Rattle.data_lattice.specs.declared.spelled.SpelledData.{Ghosts as Spelling}
use Rattle.member_keeper.specs.declared.keeper.Keeper.{Ghosts as Keeping}
use Rattle.thread_machine.specs.declared.entry.Entry.{Entry}
use Rattle.thread_machine.specs.declared.machine.Machine.{Ghosts as Machine}
use Rattle.thread_machine.specs.declared.machines.Machines.{Machines}
use Rattle.thread_machine.specs.Machines.{machine_at}
use Rattle.thread_machine.specs.Replays.{Replays, IsReplay}
use Rattle.thread_machine.specs.Replays.Replays.{begins, refused, stepped}
use Rattle.thread_cell.specs.declared.opening.Opening.{Opening}
use Rattle.thread_cell.specs.Closings.{EndsAt}
use Rattle.thread_cell.specs.Values.{Began}
use Rattle.model_members.specs.View.{View}
use Rattle.member_node.specs.declared.input.Input.{Input}
use Rattle.member_node.specs.declared.node.Node.{Node}
use Rattle.member_node.specs.declared.reply.Fate.{Fate}
use Rattle.member_node.specs.declared.reply.Output.{Output}
use Rattle.member_node.specs.declared.reply.StepError.{StepError}
use Rattle.member_node.specs.Steps.{IsStepOf, IsUnchanged}
use Rattle.world_members.specs.declared.world.World.{World}
use Rattle.world_places.specs.Keeping.{IsKept}
use Rattle.world_places.specs.Parts.{ArePlaced}
use Rattle.world_places.specs.Places.{item_at, keeper_of, keepers_of, first_keeper}
use Rattle.world_members.specs.Threads.{GivesBack}
use Rattle.world_places.proofs.Storing.{not_called_at}
use Rattle.thread_run_order.specs.Images.{EntryOf}
use Rattle.thread_run_order.specs.Runs.{answers_in}
use Rattle.thread_section.specs.declared.giving.Rest.{Rest}
use Rattle.thread_section.specs.Worlds.{HasRun, HaveRun, WasMadeOf}
use Rattle.thread_section.proofs.Kept.{keeps_along}
use Rattle.thread_section.proofs.Limits.{limit_at}

module _ {M I F O R : Type 0} (meaning : Machine M I F O R) where
  pub has_run_some : (p : ℕ) (opening : Opening M I F O R) (began : Option (Opening M I F O R)) (history : List (Entry M I F O R)) (machine : M) → began ≡ Some opening → Began meaning p began history machine → HasRun meaning (machine_at opening.machines p) (Some machine)
  has_run_some p opening began history machine is b =
      let same : b.opening ≡ opening = cc (sym b.began_is ∙ is) in
      let start_is : machine_at opening.machines p ≡ Some b.start = ap (λ (o : Opening M I F O R). machine_at o.machines p) (sym same) ∙ b.start_is in
      record {
        replay = λ m e. (let m_is : b.start ≡ m = cc (sym start_is ∙ e) in (machine, history, refl, subst (λ s. IsReplay meaning s history machine) m_is b.replay));
        none = λ e. absurd (let x = sym e ∙ start_is in cc x);
      }

  pub has_run_none : (start : Option M) → is_some start ≡ false → HasRun meaning start None
  has_run_none None is = record { replay = λ m e. absurd (cc e); none = λ e. refl }
  has_run_none (Some m) is = absurd (true≢false is)

  pub ran : (start now : Option M) (h : List (Entry M I F O R)) → EndsAt meaning start now h → HasRun meaning start now
  ran start now h ends = record { replay = λ m e. (let r = ends.replay m e in (r.0, h, r.1, r.2)); none = λ e. (ends.none e).0 }

  pub have_run : (starts nows : Machines M I F O R) → HasRun meaning starts.p0 nows.p0 → HasRun meaning starts.p1 nows.p1 → HasRun meaning starts.p2 nows.p2 → HasRun meaning starts.p3 nows.p3 → HasRun meaning starts.p4 nows.p4 → HasRun meaning starts.p5 nows.p5
      → HasRun meaning starts.p6 nows.p6 → HasRun meaning starts.p7 nows.p7 → HaveRun meaning starts nows
  have_run starts nows r0 r1 r2 r3 r4 r5 r6 r7 = record { each = at }
    where
      at : (place : ℕ) → HasRun meaning (machine_at starts place) (machine_at nows place)
      at zero = r0
      at (suc zero) = r1
      at (suc (suc zero)) = r2
      at (suc (suc (suc zero))) = r3
      at (suc (suc (suc (suc zero)))) = r4
      at (suc (suc (suc (suc (suc zero))))) = r5
      at (suc (suc (suc (suc (suc (suc zero)))))) = r6
      at (suc (suc (suc (suc (suc (suc (suc zero))))))) = r7
      at (suc (suc (suc (suc (suc (suc (suc (suc place)))))))) = has_run_none None refl

  same_there : (start now : Option M) → HasRun meaning start now → is_some now ≡ is_some start
  same_there None now run = ap is_some (run.none refl)
  same_there (Some m) now run = ap is_some (run.replay m refl).2

with_first : {K : Type 0} (o : Option K) (rest : List K) (spare : ℕ → Option K) → is_some o ≡ true → ((place : ℕ) → slice_get rest place ≡ spare (suc place)) → spare zero ≡ o → (place : ℕ) → slice_get (option_to_list o ++ rest) place ≡ spare place
with_first None rest spare some each first place = absurd (true≢false (sym some))
with_first (Some k) rest spare some each first zero = sym first
with_first (Some k) rest spare some each first (suc place) = each place

module _ {T K Kind Delta : Type 0} {ghosts : Ghosts T Kind Op Delta} {keeping : Keeping K} where
  -- KEEPERS IN THEIR ORDER

  pub back_at : (nodes : List (Option (Node T K Kind Op Delta ghosts keeping))) (spare : List (Option K)) → length nodes ≡ length spare → ((place : ℕ) → place < length nodes → is_some (keeper_of nodes spare place) ≡ true)
      → (place : ℕ) → slice_get (keepers_of nodes spare) place ≡ keeper_of nodes spare place
  back_at [] [] same some place = refl
  back_at [] (s ∷ spare) same some place = absurd (omega (arith, same))
  back_at (n ∷ nodes) [] same some place = absurd (omega (arith, same))
  back_at (n ∷ nodes) (s ∷ spare) same some place =
      with_first (first_keeper n s) (keepers_of nodes spare) (keeper_of (n ∷ nodes) (s ∷ spare)) (some 0 (omega arith))
      (λ k. back_at nodes spare (omega (arith, same)) (λ j less. some (suc j) (omega (arith, less))) k) refl place

  pub one_of_both : (n : Option (Node T K Kind Op Delta ghosts keeping)) (s : Option K) → is_some s ≡ not (is_some n) → is_some (first_keeper n s) ≡ true
  one_of_both None s is = is
  one_of_both (Some node) s is = refl

  pub world_back : (w : World T K Kind Op Delta ghosts keeping) (place : ℕ) → slice_get (keepers_of w.nodes.items w.spare.items) place ≡ keeper_of w.nodes.items w.spare.items place
  world_back w =
      let a = w.eight_nodes in
      let b = w.nodes.ok.0 in
      let c = w.eight_spare in
      let d = w.spare.ok.0 in
      back_at w.nodes.items w.spare.items (omega (arith, a, b, c, d)) (λ place less. one_of_both (item_at w.nodes.items place) (item_at w.spare.items place) (w.seated.spares place (omega (arith, less, a, b))))

module _ {T K Kind Delta : Type 0} {ghosts : Ghosts T Kind Op Delta} {keeping : Keeping K} (spelling : Spelling T Kind Op Delta) (alike : (a b : K) → is_some (keeping.table a) ≡ is_some (keeping.table b))
    (meaning : Machine (Node T K Kind Op Delta ghosts keeping) (Input T Kind Op Delta ghosts) Fate (Output T Kind Op Delta ghosts) StepError)
    (steps_are : (old : Node T K Kind Op Delta ghosts keeping) (input : Input T Kind Op Delta ghosts) (fate : Fate) (output : Output T Kind Op Delta ghosts) (new : Node T K Kind Op Delta ghosts keeping) → meaning.Steps old input fate output new → IsStepOf spelling old input fate output new)
    (unchanged_are : (old new : Node T K Kind Op Delta ghosts keeping) → meaning.IsUnchanged old new → IsUnchanged old new) where
  abbrev Member : Type 0
  Member = Node T K Kind Op Delta ghosts keeping

  abbrev Members : Type 0
  Members = Machines Member (Input T Kind Op Delta ghosts) Fate (Output T Kind Op Delta ghosts) StepError

  -- THE SAME IDENTITY

  id_along : (first now : Member) (es : List (EntryOf ghosts keeping)) → Replays meaning first es now → now.id ≡ first.id
  id_along first now _ (begins _) = refl
  id_along first now es (refused _ before _ _ replays u) = ap (λ (m : Member). m.id) (unchanged_are before now u).same ∙ id_along first before es replays
  id_along first now _ (stepped _ before _ es e replays s) = (steps_are before e.input e.fate e.output now s).identity ∙ id_along first before es replays

  id_at : (start now : Option Member) → HasRun meaning start now → option_map (λ (m : Member). m.id) now ≡ option_map (λ (m : Member). m.id) start
  id_at None now run = ap (option_map (λ (m : Member). m.id)) (run.none refl)
  id_at (Some m) now run = let r = run.replay m refl in ap (option_map (λ (m : Member). m.id)) r.2 ∙ ap Some (id_along m r.0 r.1 r.3.replays)

  pub placed_after : (views : List View) (starts nows : Members) (spare : List (Option K)) → HaveRun meaning starts nows → ArePlaced views starts spare → ArePlaced views nows spare
  placed_after views starts nows spare run placed = record {
    identities = λ place less. id_at (machine_at starts place) (machine_at nows place) (run.each place) ∙ placed.identities place less;
    spares = λ place less. placed.spares place less ∙ ap not (sym (same_there meaning (machine_at starts place) (machine_at nows place) (run.each place)));
    limits = λ place less. limit_at spelling meaning steps_are unchanged_are (machine_at starts place) (machine_at nows place) (run.each place) (placed.limits place less);
  }

  -- THE SAME KEEPERS

  kept_at : (start now : Option Member) (spare : Option K) → HasRun meaning start now → IsKept keeping (first_keeper start spare) (first_keeper now spare)
  kept_at None now spare run = subst (λ (o : Option Member). IsKept keeping spare (first_keeper o spare)) (sym (run.none refl)) (record { answers = []; keeps = not_called_at keeping spare })
  kept_at (Some m) now spare run =
      let r = run.replay m refl in
      subst (λ (o : Option Member). IsKept keeping (Some m.keeper) (first_keeper o spare)) (sym r.2) (record { answers = answers_in r.1; keeps = keeps_along spelling alike meaning steps_are unchanged_are m r.0 r.1 r.3.replays })

  pub given_back : (views : List View) (starts nows : Members) (rest : Rest T K Kind Delta ghosts keeping) (keepers : List K) → HaveRun meaning starts nows
      → ((place : ℕ) → slice_get keepers place ≡ first_keeper (machine_at nows place) (item_at rest.seats.spare.items place)) → (old : World T K Kind Op Delta ghosts keeping) → WasMadeOf old views starts rest → GivesBack old keepers
  given_back views starts nows rest keepers run are old made place =
      let there = item_at rest.seats.spare.items place in
      subst (λ o. IsKept keeping (keeper_of old.nodes.items old.spare.items place) o) (sym (are place))
      (subst (λ o. IsKept keeping o (first_keeper (machine_at nows place) there))
      (ap (λ (o : Option Member). first_keeper o there) (made.members place) ∙ ap (λ (spare : List (Option K)). first_keeper (item_at old.nodes.items place) (item_at spare place)) (ap (λ (v : Vec (Option K) Global). v.items) made.spare))
      (kept_at (machine_at starts place) (machine_at nows place) there (run.each place)))
