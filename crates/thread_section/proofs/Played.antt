-- What clients did beside each other, over a world, is the section of a thread step.
use Rattle.std.proofs.Common.{◌≡◌, ℕ, ◌+◌, List, length, map, refl, sym, ap, subst, ◌∙◌, true, false, Option, Some, None}
use Rattle.std.specs.Prelude.{slice_get, is_some, IsTrue}
use Rattle.std.specs.List.{AllZip}
use Rattle.model_history.specs.Texts.{Text}
use Rattle.model_members.specs.View.{View, is_member}
use Rattle.model_members.specs.DataType.{Replication}
use Rattle.model_members.specs.Node as nodes
use Rattle.model_members.specs.World.{start}
use Rattle.model_members.specs.Script.{Playing, answers_between}
use Rattle.theorem_runs.proofs.Safety.{runs_are_safe}
use Rattle.theorem_operations.proofs.Moments.{Stands, stands_start, stands_run}
use Rattle.theorem_sections.specs.Histories as model
use Rattle.theorem_sections.specs.Histories.{Placed, entries_at}
use Rattle.theorem_sections.specs.Paths.{HaveAnswered, calls_after}
use Rattle.theorem_sections.specs.Knowing.{steps_of}
use Rattle.theorem_sections.proofs.InViews.{InView, run_in, start_in}
use Rattle.theorem_sections.proofs.Away.{posts_none_to_itself}
use Rattle.theorem_sections.proofs.KnownPaths.{paths_are}
use Rattle.theorem_sections.proofs.PathSections.{paths_have_section}
use Rattle.model_kinds.specs.declared.operation.Op.{Op}
use Rattle.model_kinds.specs.declared.shown.Shown.{Shown}
use Rattle.data_lattice.specs.declared.replica.Replica.{Ghosts}
use Rattle.data_lattice.specs.declared.spelled.SpelledData.{Ghosts as Spelling}
use Rattle.member_keeper.specs.declared.keeper.Keeper.{Ghosts as Keeping}
use Rattle.thread_machine.specs.declared.machine.Machine.{Ghosts as Machine}
use Rattle.thread_machine.specs.Machines.{machine_at}
use Rattle.thread_cell.specs.declared.opening.Opening.{Opening}
use Rattle.member_views.specs.Sound.{IsView, last_view}
use Rattle.member_node.specs.declared.input.Input.{Input}
use Rattle.member_node.specs.declared.node.Node.{Node}
use Rattle.member_node.specs.declared.reply.Fate.{Fate}
use Rattle.member_node.specs.declared.reply.Output.{Output}
use Rattle.member_node.specs.declared.reply.StepError.{StepError}
use Rattle.member_node.specs.Steps.{replication, IsStepOf, IsUnchanged}
use Rattle.script_reading.specs.declared.clients.Repeated.{Repeated}
use Rattle.world_members.specs.declared.client_line.ClientLine.{ClientLine}
use Rattle.world_members.specs.declared.world.World.{World}
use Rattle.world_members.specs.ClientLines.{IsClientLine}
use Rattle.world_places.specs.Places.{item_at, identity_at}
use Rattle.world_members.specs.Steps.{Foretells}
use Rattle.world_members.specs.Threads as given
use Rattle.world_members.specs.Threads.{EndsSection}
use Rattle.world_members.specs.Ways.{Means}
use Rattle.world_members.proofs.Telling.{view_of}
use Rattle.world_members.proofs.Onward.{way_logs}
use Rattle.world_members.proofs.Standings.{absent_gone, present_runs}
use Rattle.thread_run_order.specs.Orders.{AtPlace, IsRunOrder}
use Rattle.thread_run_order.specs.Images.{EntryOf}
use Rattle.thread_run_order.specs.Section.{IsSection, IsLeft}
use Rattle.thread_run_order.specs.Runs.{IsOneRun, answers_in}
use Rattle.thread_section.proofs.Settled.{below_in_run, settled_by}
use Rattle.thread_section.specs.Lines.{all_lines}
use Rattle.thread_section.proofs.Assembled.{AllDid, Owned, paths_of, told_all, are_known_paths}

module _ {T K Kind Delta : Type 0} {ghosts : Ghosts T Kind Op Delta} {keeping : Keeping K} (spelling : Spelling T Kind Op Delta) (meaning : Machine (Node T K Kind Op Delta ghosts keeping) (Input T Kind Op Delta ghosts) Fate (Output T Kind Op Delta ghosts) StepError)
    (steps_are : (old : Node T K Kind Op Delta ghosts keeping) (input : Input T Kind Op Delta ghosts) (fate : Fate) (output : Output T Kind Op Delta ghosts) (new : Node T K Kind Op Delta ghosts keeping) → meaning.Steps old input fate output new → IsStepOf spelling old input fate output new)
    (unchanged_are : (old new : Node T K Kind Op Delta ghosts keeping) → meaning.IsUnchanged old new → IsUnchanged old new)
    (world new : World T K Kind Op Delta ghosts keeping) (sound : IsView (last_view world.views))
    (opening : Opening (Node T K Kind Op Delta ghosts keeping) (Input T Kind Op Delta ghosts) Fate (Output T Kind Op Delta ghosts) StepError) (starts : (place : ℕ) → machine_at opening.machines place ≡ item_at world.nodes.items place)
    (h : ℕ → List (EntryOf ghosts keeping)) (nows : ℕ → Option (Node T K Kind Op Delta ghosts keeping)) (section : IsSection meaning world h nows) (left : IsLeft world new h nows) (xs : List (AtPlace (EntryOf ghosts keeping))) (order : IsRunOrder h xs)
    (runs : (kinds : Text → Kind) (members : ℕ) (decls : List (nodes.KeyDecl Kind)) (p : Playing Kind Op Shown) → Means spelling kinds members decls p world → IsOneRun spelling kinds members decls p world meaning h nows xs)
    (cs : List (List Repeated)) (lines : List (List ClientLine)) (all : AllDid meaning (identity_at (last_view world.views)) opening h world.views 0 cs lines)
    (owned : (p n : ℕ) (e : EntryOf ghosts keeping) → slice_get (h p) n ≡ Some e → Owned meaning (identity_at (last_view world.views)) opening h world.views 0 cs lines all (p, n)) where
  module _ (kinds : Text → Kind) (members : ℕ) (decls : List (nodes.KeyDecl Kind)) (p : Playing Kind Op Shown) (m : Means spelling kinds members decls p world) (foretold : Foretells p (λ place. answers_in (h place))) where
    abbrev D : Replication Kind Op Shown
    D = replication ghosts spelling

    abbrev view : View
    view = last_view world.views

    one : IsOneRun spelling kinds members decls p world meaning h nows xs
    one = runs kinds members decls p m

    pub ends : EndsSection spelling kinds members decls p cs (λ place. answers_in (h place)) new (all_lines lines)
    ends =
        let r = runs kinds members decls p m in
        let histories : ℕ → List (model.Entry Op Shown) = (λ i. entries_at i r.placed) in
        let view_is = view_of spelling kinds members decls p world m in
        let logged = way_logs D members decls p m.run in
        let views_are = (m.stands logged.0 logged.1).views in
        let settled = settled_by spelling meaning steps_are unchanged_are kinds members decls p world m sound opening starts h nows section xs order r in
        let below = below_in_run D members decls p.events p.world m.run in
        let runs_in : (i : ℕ) → IsTrue (is_member p.world.view i) → is_some (p.world.nodes i) ≡ true = (λ i mi. let there = present_runs spelling world kinds members decls p m i sound (ap (λ (v : View). is_member v i) view_is ∙ mi) in ap is_some there.1) in
        let none_runs : (i : ℕ) → is_member p.world.view i ≡ false → p.world.nodes i ≡ None = (λ i absent. absent_gone spelling world kinds members decls p m i (ap (λ (v : View). is_member v i) view_is ∙ absent)) in
        let known = are_known_paths spelling meaning p.world (identity_at view) opening h histories settled world.views views_are below runs_in none_runs cs lines all owned in
        let paths = paths_of spelling meaning p.world (identity_at view) opening h histories settled world.views views_are below runs_in none_runs 0 cs lines all in
        let in_view = subst InView (sym m.run.leads) (run_in D (start members decls) p.events (start_in D members decls)) in
        let are = paths_are D p.world histories r.are_histories in_view
        (posts_none_to_itself D p.world histories r.are_histories (λ i n runs. ((runs_are_safe D members decls p.events p.world m.run).views.running i n runs).identity))
        (λ i n runs. let stands = subst (Stands D members decls) (sym m.run.leads) (stands_run D members decls (start members decls) (stands_start D members decls m.run.some m.run.few) p.events m.run.lawful) in
        record { stood = λ o x. stands.numbers.stood i n o runs x; done = λ f x. stands.numbers.done i n f runs x }) (map given.commands_of cs) paths known in
        let as_given : (place : ℕ) → calls_after p r.placed place ≡ p.calls place + length (answers_in (h place)) = (λ place. ap (λ bs. p.calls place + length bs) (r.answers place)) in
        let answered : HaveAnswered p r.placed = (λ place. ap (answers_between p.answers place (p.calls place)) (as_given place) ∙ foretold place ∙ sym (r.answers place)) in
        let has = paths_have_section D p.world histories r.placed (record { answers = p.answers; ends = calls_after p r.placed; early = p.events }) r.are_histories in_view r.order (map given.commands_of cs) (steps_of paths) are p refl answered in
        record {
          moves = has.moves;
          end = has.end;
          section = has.section;
          told = subst (AllZip IsClientLine (all_lines lines)) (sym has.lines) (told_all spelling meaning p.world (identity_at view) opening h histories settled world.views views_are below runs_in none_runs 0 cs lines all);
          means = r.means new left has.end.playing has.events has.world;
          calls = λ place. has.calls place ∙ as_given place;
        }
