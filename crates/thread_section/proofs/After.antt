-- The world after a section.
--     plays        the clients played a section
use Rattle.std.proofs.Common.{◌≡◌, ℕ, zero, suc, ◌≤◌, List, [], map, refl, sym, ap, subst, ◌∙◌, arith, Option, Some}
use Rattle.std.specs.Prelude.{slice_get, is_some}
use Rattle.std.specs.List.{AllByRecursion}
use Rattle.atomic_table.specs.Seated.{TableId}
use Rattle.model_members.specs.View.{View}
use Rattle.model_kinds.specs.declared.operation.Op.{Op}
use Rattle.data_lattice.specs.declared.replica.Replica.{Ghosts}
use Rattle.data_lattice.specs.declared.spelled.SpelledData.{Ghosts as Spelling}
use Rattle.member_keeper.specs.declared.keeper.Keeper.{Ghosts as Keeping}
use Rattle.thread_machine.specs.declared.machine.Machine.{Ghosts as Machine}
use Rattle.thread_machine.specs.declared.machines.Machines.{Machines}
use Rattle.thread_machine.specs.Machines.{machine_at}
use Rattle.thread_cell.specs.declared.calls.OwnCalls.{OwnCalls}
use Rattle.thread_cell.specs.declared.histories.Histories.{Histories}
use Rattle.thread_cell.specs.declared.unnamed.Cells.{Cells}
use Rattle.thread_cell.specs.declared.view.ClientCalls.{ClientCalls}
use Rattle.thread_cell.specs.Calls.{own_calls, AreAllCalls, entries_in}
use Rattle.thread_cell.specs.Closings.{AreReplayed, CellsKnew, SessionsKnew}
use Rattle.thread_cell.specs.Entries.{history_at}
use Rattle.thread_cell.specs.Lists.{weigh}
use Rattle.thread_cell.specs.Rule.{calls_at}
use Rattle.thread_cell.specs.Values.{ClientParts, client_calls}
use Rattle.thread_cluster.specs.Messages as cluster
use Rattle.thread_cluster.specs.Opening.{AreWholeCells, AllHear}
use Rattle.member_node.specs.declared.input.Input.{Input}
use Rattle.member_node.specs.declared.node.Node.{Node}
use Rattle.member_node.specs.declared.reply.Fate.{Fate}
use Rattle.member_node.specs.declared.reply.Output.{Output}
use Rattle.member_node.specs.declared.reply.StepError.{StepError}
use Rattle.member_node.specs.Steps.{IsStepOf, IsUnchanged}
use Rattle.script_reading.specs.declared.clients.Repeated.{Repeated}
use Rattle.member_views.specs.Sound.{IsView, AreViews, last_view}
use Rattle.world_members.specs.declared.client_line.ClientLine.{ClientLine}
use Rattle.world_members.specs.declared.world.World.{World}
use Rattle.world_places.specs.Places.{item_at, identity_at}
use Rattle.world_members.specs.Threads.{PlaysSection}
use Rattle.world_places.proofs.Seats.{last_sound}
use Rattle.thread_run_order.specs.Images.{EntryOf}
use Rattle.thread_run_order.specs.Runs.{answers_in}
use Rattle.thread_run_order.specs.Section.{IsGiven, IsSection, IsLeft}
use Rattle.thread_run_order.proofs.Closing.{closed_section}
use Rattle.thread_run_order.proofs.Merging.{have_run_order, rise_all}
use Rattle.thread_run_order.proofs.Places.{none_past}
use Rattle.thread_run_order.proofs.Together.{one_run}
use Rattle.thread_section.specs.Clients.{HaveDone}
use Rattle.thread_section.specs.Lines.{all_lines}
use Rattle.thread_section.proofs.Assembled.{AllDid, Owned}
use Rattle.thread_section.proofs.Doing.{did_all, owned_all, all_given}
use Rattle.thread_section.proofs.Kept.{kept_by}
use Rattle.thread_section.proofs.Played.{ends}

no_more : {M I F O R : Type 0} (hs : Histories M I F O R) (p : ℕ) → 8 ≤ p → history_at hs p ≡ []
no_more hs zero past = absurd (omega (arith, past))
no_more hs (suc zero) past = absurd (omega (arith, past))
no_more hs (suc (suc zero)) past = absurd (omega (arith, past))
no_more hs (suc (suc (suc zero))) past = absurd (omega (arith, past))
no_more hs (suc (suc (suc (suc zero)))) past = absurd (omega (arith, past))
no_more hs (suc (suc (suc (suc (suc zero))))) past = absurd (omega (arith, past))
no_more hs (suc (suc (suc (suc (suc (suc zero)))))) past = absurd (omega (arith, past))
no_more hs (suc (suc (suc (suc (suc (suc (suc zero))))))) past = absurd (omega (arith, past))
no_more hs (suc (suc (suc (suc (suc (suc (suc (suc p)))))))) past = refl

module _ {T K Kind Delta N : Type 0} {ghosts : Ghosts T Kind Op Delta} {keeping : Keeping K} (meaning : Machine (Node T K Kind Op Delta ghosts keeping) (Input T Kind Op Delta ghosts) Fate (Output T Kind Op Delta ghosts) StepError) (table : TableId)
    (cells : Cells (Node T K Kind Op Delta ghosts keeping) N (Input T Kind Op Delta ghosts) Fate (Output T Kind Op Delta ghosts) StepError) (hs : Histories (Node T K Kind Op Delta ghosts keeping) (Input T Kind Op Delta ghosts) Fate (Output T Kind Op Delta ghosts) StepError) (cs : List (List Repeated))
    (ss : List (ClientParts (Node T K Kind Op Delta ghosts keeping) (Input T Kind Op Delta ghosts) Fate (Output T Kind Op Delta ghosts) StepError)) (ls : List (List ClientLine)) (calls : List OwnCalls) (are_calls : AreAllCalls (map own_calls calls) hs) (own : map own_calls calls ≡ map client_calls ss)
    (sessions_knew : SessionsKnew ss hs) where
  abbrev h : ℕ → List (EntryOf ghosts keeping)
  h = history_at hs

  module _ (ids : ℕ → Option ℕ) (views : List View) (done : HaveDone meaning ids views table cells.table 0 cs ss ls) where
    pub all : AllDid meaning ids cells.table h views 0 cs ls
    all = did_all meaning ids views table cells.table h 0 cs ss ls done (λ k s e. sessions_knew.each k s e)

    pub owned : (p n : ℕ) (e : EntryOf ghosts keeping) → slice_get (h p) n ≡ Some e → Owned meaning ids cells.table h views 0 cs ls all (p, n)
    unfolding all
    owned p n e stands =
        let once : weigh (λ (who : ClientCalls). calls_at p n who.calls) (map client_calls ss) ≡ 1 = ap (weigh (λ (who : ClientCalls). calls_at p n who.calls)) (sym own) ∙ are_calls.each_once p n ∙ ap entries_in stands in
        owned_all meaning ids views table cells.table h 0 cs ss ls done (λ k s f. sessions_knew.each k s f) p n (omega (arith, once))

    -- each entry is given as a section gives it
    pub given_in : ids ≡ identity_at (last_view views) → (place : ℕ) → AllByRecursion (λ (e : EntryOf ghosts keeping). IsGiven (last_view views) views e.input) (h place)
    given_in are = all_given meaning ids views table cells.table h (last_view views) (λ place. ap (λ f. f place) are) 0 cs ls all owned

  module _ (spelling : Spelling T Kind Op Delta) (alike : (a b : K) → is_some (keeping.table a) ≡ is_some (keeping.table b))
      (steps_are : (old : Node T K Kind Op Delta ghosts keeping) (input : Input T Kind Op Delta ghosts) (fate : Fate) (output : Output T Kind Op Delta ghosts) (new : Node T K Kind Op Delta ghosts keeping) → meaning.Steps old input fate output new → IsStepOf spelling old input fate output new)
      (unchanged_are : (old new : Node T K Kind Op Delta ghosts keeping) → meaning.IsUnchanged old new → IsUnchanged old new) (nows : Machines (Node T K Kind Op Delta ghosts keeping) (Input T Kind Op Delta ghosts) Fate (Output T Kind Op Delta ghosts) StepError)
      (replayed : AreReplayed meaning cells.table.machines nows hs) (knew : CellsKnew cells hs) (old new : World T K Kind Op Delta ghosts keeping) (starts : (place : ℕ) → machine_at cells.table.machines place ≡ item_at old.nodes.items place) (left : IsLeft old new h (machine_at nows)) where
    abbrev ids_of : List View → ℕ → Option ℕ
    ids_of views = identity_at (last_view views)

    module _ (sound : AreViews old.views) (whole : AreWholeCells (ids_of old.views) cells) (hear : AllHear (λ id (output : Output T Kind Op Delta ghosts). cluster.messages_to id output.posts) cluster.messages_of (ids_of old.views) cells)
        (done : HaveDone meaning (ids_of old.views) old.views table cells.table 0 cs ss ls) where
      view_sound : IsView (last_view old.views)
      view_sound = last_sound old.views sound

      section : IsSection meaning old h (machine_at nows)
      section = closed_section meaning old (ids_of old.views) cells nows hs (λ place. refl) starts replayed knew whole hear (given_in (ids_of old.views) old.views done refl) (λ place past. none_past (last_view old.views) view_sound place past)

      plays_so : PlaysSection spelling cs old new (all_lines ls)
      plays_so =
          let order = have_run_order h (λ p. rise_all (h p) (replayed.each p).rises) 8 (no_more hs) in
          record {
            given = λ place. answers_in (h place);
            kept = λ place. kept_by spelling alike meaning steps_are unchanged_are old new h (machine_at nows) section left place;
            leads = λ kinds members decls p means foretold.
                ends spelling meaning steps_are unchanged_are old new view_sound cells.table starts h (machine_at nows) section left order.0 order.1
                (λ kinds members decls p m. one_run spelling alike meaning steps_are unchanged_are kinds members decls old view_sound p m h (machine_at nows) section order.0 order.1)
                cs ls (all (ids_of old.views) old.views done) (owned (ids_of old.views) old.views done) kinds members decls p means foretold;
          }

    pub plays : (ids : ℕ → Option ℕ) (views : List View) → ids ≡ ids_of views → views ≡ old.views → AreViews views → AreWholeCells ids cells → AllHear (λ id (output : Output T Kind Op Delta ghosts). cluster.messages_to id output.posts) cluster.messages_of ids cells
        → HaveDone meaning ids views table cells.table 0 cs ss ls → PlaysSection spelling cs old new (all_lines ls)
    plays ids views ids_are views_are sound whole hear done =
        let is : ids ≡ ids_of old.views = ids_are ∙ ap ids_of views_are in
        plays_so (subst AreViews views_are sound) (subst (λ f. AreWholeCells f cells) is whole) (subst (λ f. AllHear (λ id (output : Output T Kind Op Delta ghosts). cluster.messages_to id output.posts) cluster.messages_of f cells) is hear)
        (subst (λ vs. HaveDone meaning (ids_of old.views) vs table cells.table 0 cs ss ls) views_are (subst (λ f. HaveDone meaning f views table cells.table 0 cs ss ls) is done))
