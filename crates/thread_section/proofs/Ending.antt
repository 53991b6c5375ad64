-- What is left where clients made all of their commands: what closing their table and putting their world together ask, and what comes of it.
--     whole_cells        each place that began with a member has a cell, and no other
--     members_back        the keepers of members and of the places without, in their order
--     parts_placed, parts_given        what `finish` asks of the parts
--     played, refused        what it leaves
use Rattle.std.proofs.Common.{◌≡◌, ℕ, zero, suc, ◌<◌, List, length, map, refl, sym, ap, subst, ◌∙◌, arith, Bool, Option, Some, None, Vec, Global}
use Rattle.std.specs.Prelude.{slice_get, not, is_some, option_map, Ok, Err}
use Rattle.std.specs.List.{AllByRecursion}
use Rattle.atomic_table.specs.Seated.{TableId}
use Rattle.model_kinds.specs.declared.operation.Op.{Op}
use Rattle.data_lattice.specs.declared.replica.Replica.{Ghosts}
use Rattle.data_lattice.specs.declared.spelled.SpelledData.{Ghosts as Spelling}
use Rattle.member_keeper.specs.declared.keeper.Keeper.{Ghosts as Keeping}
use Rattle.thread_machine.specs.declared.machine.Machine.{Ghosts as Machine}
use Rattle.thread_machine.specs.declared.machines.Machines.{Machines}
use Rattle.thread_machine.specs.Machines.{machine_at}
use Rattle.thread_cell.specs.declared.calls.OwnCalls.{OwnCalls}
use Rattle.thread_cell.specs.declared.histories.Histories.{Histories}
use Rattle.thread_cell.specs.declared.unnamed.Cells.{Cells}
use Rattle.thread_cell.specs.Calls.{own_calls, AreAllCalls}
use Rattle.thread_cell.specs.Closings.{AreReplayed, SessionsKnew, CellsKnew, IsWhole}
use Rattle.thread_cell.specs.Entries.{history_at}
use Rattle.thread_cell.specs.Values.{ClientParts, client_calls}
use Rattle.thread_cluster.specs.Messages as cluster
use Rattle.thread_cluster.specs.Opening.{AreWholeCells, AllHear}
use Rattle.model_members.specs.View.{View}
use Rattle.member_node.specs.declared.input.Input.{Input}
use Rattle.member_node.specs.declared.node.Node.{Node}
use Rattle.member_node.specs.declared.reply.Fate.{Fate}
use Rattle.member_node.specs.declared.reply.Output.{Output}
use Rattle.member_node.specs.declared.reply.StepError.{StepError}
use Rattle.member_node.specs.Steps.{IsStepOf, IsUnchanged}
use Rattle.script_reading.specs.declared.clients.Repeated.{Repeated}
use Rattle.member_views.specs.Sound.{AreViews, last_view}
use Rattle.world_members.specs.declared.client_line.ClientLine.{ClientLine}
use Rattle.world_members.specs.declared.client_line.Section.{Section}
use Rattle.world_members.specs.declared.parts.EmptySeats.{EmptySeats}
use Rattle.world_members.specs.declared.parts.Parts.{Parts}
use Rattle.world_places.specs.Parts.{ArePlaced}
use Rattle.world_places.specs.Places.{item_at, identity_at, keepers_of, first_keeper}
use Rattle.world_members.specs.Threads.{PlaysSection}
use Rattle.thread_run_order.specs.Finishing.{members_in, IsLeftOf}
use Rattle.thread_run_order.specs.Images.{EntryOf}
use Rattle.thread_run_order.specs.Section.{IsGiven, IsLeft}
use Rattle.thread_section.specs.declared.giving.Rest.{Rest}
use Rattle.thread_section.specs.Clients.{HaveDone}
use Rattle.thread_section.specs.Lines.{all_lines}
use Rattle.thread_section.specs.Worlds.{HaveRun, IsPlayed}
use Rattle.thread_section.proofs.After.{given_in, plays}
use Rattle.thread_section.proofs.Running.{back_at, one_of_both, ran, placed_after, given_back}

some_mapped : {A B : Type 0} (f : A → B) (o : Option A) → is_some (option_map f o) ≡ is_some o
some_mapped f None = refl
some_mapped f (Some x) = refl

module _ {T K Kind Delta N I F O R : Type 0} {ghosts : Ghosts T Kind Op Delta} {keeping : Keeping K} where
  -- CELLS

  module _ (ids : ℕ → Option ℕ) (views : List View) (cells : Cells (Node T K Kind Op Delta ghosts keeping) N I F O R) (spare : List (Option K)) (are : ids ≡ identity_at (last_view views)) (placed : ArePlaced views cells.table.machines spare) where
    as_began : (p : ℕ) → p < 8 → (here : Bool) → here ≡ is_some (ids p) → here ≡ is_some (machine_at cells.table.machines p)
    as_began p less here is =
        is ∙ ap (λ (f : ℕ → Option ℕ). is_some (f p)) are ∙ ap is_some (sym (placed.identities p less)) ∙ some_mapped (λ (node : Node T K Kind Op Delta ghosts keeping). node.id) (machine_at cells.table.machines p)

    pub whole_cells : AreWholeCells ids cells → IsWhole cells
    whole_cells w = record {
      p0 = as_began 0 (omega arith) (is_some cells.p0) w.p0;
      p1 = as_began 1 (omega arith) (is_some cells.p1) w.p1;
      p2 = as_began 2 (omega arith) (is_some cells.p2) w.p2;
      p3 = as_began 3 (omega arith) (is_some cells.p3) w.p3;
      p4 = as_began 4 (omega arith) (is_some cells.p4) w.p4;
      p5 = as_began 5 (omega arith) (is_some cells.p5) w.p5;
      p6 = as_began 6 (omega arith) (is_some cells.p6) w.p6;
      p7 = as_began 7 (omega arith) (is_some cells.p7) w.p7;
    }

-- KEEPERS

module _ {T K Kind Delta I F O R : Type 0} {ghosts : Ghosts T Kind Op Delta} {keeping : Keeping K} where
  item_in : (ms : Machines (Node T K Kind Op Delta ghosts keeping) I F O R) (place : ℕ) → item_at (members_in ms) place ≡ machine_at ms place
  item_in ms zero = refl
  item_in ms (suc zero) = refl
  item_in ms (suc (suc zero)) = refl
  item_in ms (suc (suc (suc zero))) = refl
  item_in ms (suc (suc (suc (suc zero)))) = refl
  item_in ms (suc (suc (suc (suc (suc zero))))) = refl
  item_in ms (suc (suc (suc (suc (suc (suc zero)))))) = refl
  item_in ms (suc (suc (suc (suc (suc (suc (suc zero))))))) = refl
  item_in ms (suc (suc (suc (suc (suc (suc (suc (suc place)))))))) = refl

  pub members_back : (views : List View) (ms : Machines (Node T K Kind Op Delta ghosts keeping) I F O R) (spare : List (Option K)) → length spare ≡ 8 → ArePlaced views ms spare
      → (place : ℕ) → slice_get (keepers_of (members_in ms) spare) place ≡ first_keeper (machine_at ms place) (item_at spare place)
  members_back views ms spare eight placed place =
      back_at (members_in ms) spare (sym eight) (λ p less. one_of_both (item_at (members_in ms) p) (item_at spare p) (subst (λ (o : Option (Node T K Kind Op Delta ghosts keeping)). is_some (item_at spare p) ≡ not (is_some o)) (sym (item_in ms p)) (placed.spares p less))) place
      ∙ ap (λ (o : Option (Node T K Kind Op Delta ghosts keeping)). first_keeper o (item_at spare place)) (item_in ms place)

-- PARTS

module _ {T K Kind Delta N : Type 0} {ghosts : Ghosts T Kind Op Delta} {keeping : Keeping K} (spelling : Spelling T Kind Op Delta) (alike : (a b : K) → is_some (keeping.table a) ≡ is_some (keeping.table b))
    (meaning : Machine (Node T K Kind Op Delta ghosts keeping) (Input T Kind Op Delta ghosts) Fate (Output T Kind Op Delta ghosts) StepError)
    (steps_are : (old : Node T K Kind Op Delta ghosts keeping) (input : Input T Kind Op Delta ghosts) (fate : Fate) (output : Output T Kind Op Delta ghosts) (new : Node T K Kind Op Delta ghosts keeping) → meaning.Steps old input fate output new → IsStepOf spelling old input fate output new)
    (unchanged_are : (old new : Node T K Kind Op Delta ghosts keeping) → meaning.IsUnchanged old new → IsUnchanged old new) (views : List View) (cells : Cells (Node T K Kind Op Delta ghosts keeping) N (Input T Kind Op Delta ghosts) Fate (Output T Kind Op Delta ghosts) StepError)
    (nows : Machines (Node T K Kind Op Delta ghosts keeping) (Input T Kind Op Delta ghosts) Fate (Output T Kind Op Delta ghosts) StepError) (hs : Histories (Node T K Kind Op Delta ghosts keeping) (Input T Kind Op Delta ghosts) Fate (Output T Kind Op Delta ghosts) StepError)
    (rest : Rest T K Kind Delta ghosts keeping) (replayed : AreReplayed meaning cells.table.machines nows hs) (placed : ArePlaced views cells.table.machines rest.seats.spare.items) (parts : Parts T K Kind Op Delta ghosts keeping) (views_are : parts.views ≡ views) (members_are : parts.members ≡ nows) (seats_are : parts.seats ≡ rest.seats) where
  have_ran : HaveRun meaning cells.table.machines nows
  have_ran = record { each = λ place. ran meaning (machine_at cells.table.machines place) (machine_at nows place) (history_at hs place) (replayed.each place) }

  now_placed : ArePlaced views nows rest.seats.spare.items
  now_placed = placed_after spelling alike meaning steps_are unchanged_are views cells.table.machines nows rest.seats.spare.items have_ran placed

  pub parts_placed : ArePlaced parts.views parts.members parts.seats.spare.items
  parts_placed =
      subst (λ (vs : List View). ArePlaced vs parts.members parts.seats.spare.items) (sym views_are)
      (subst (λ (ms : Machines (Node T K Kind Op Delta ghosts keeping) (Input T Kind Op Delta ghosts) Fate (Output T Kind Op Delta ghosts) StepError). ArePlaced views ms parts.seats.spare.items) (sym members_are)
      (subst (λ (seats : EmptySeats T K Kind Op Delta ghosts keeping). ArePlaced views nows seats.spare.items) (sym seats_are) now_placed))

  eight : length rest.seats.spare.items ≡ 8
  eight = let a = rest.seats.eight_spare in let b = rest.seats.spare.ok.0 in omega (arith, a, b)

  pub refused : (clients : List (List Repeated)) (keepers : Vec K Global) → keepers.items ≡ keepers_of (members_in parts.members) parts.seats.spare.items → IsPlayed spelling clients views cells.table.machines rest (Err keepers)
  refused clients keepers are = record {
    of = λ old made.
        given_back spelling alike meaning steps_are unchanged_are views cells.table.machines nows rest keepers.items have_ran
        (λ place.
        ap (λ (ks : List K). slice_get ks place)
        (are ∙ ap (λ (ms : Machines (Node T K Kind Op Delta ghosts keeping) (Input T Kind Op Delta ghosts) Fate (Output T Kind Op Delta ghosts) StepError). keepers_of (members_in ms) parts.seats.spare.items) members_are
        ∙ ap (λ (seats : EmptySeats T K Kind Op Delta ghosts keeping). keepers_of (members_in nows) seats.spare.items) seats_are)
        ∙ members_back views nows rest.seats.spare.items eight now_placed place) old made;
  }

  -- WORLDS

  module _ (table : TableId) (cs : List (List Repeated)) (ss : List (ClientParts (Node T K Kind Op Delta ghosts keeping) (Input T Kind Op Delta ghosts) Fate (Output T Kind Op Delta ghosts) StepError)) (ls : List (List ClientLine)) (calls : List OwnCalls)
      (are_calls : AreAllCalls (map own_calls calls) hs) (own : map own_calls calls ≡ map client_calls ss) (sessions_knew : SessionsKnew ss hs) (ids : ℕ → Option ℕ) (ids_are : ids ≡ identity_at (last_view views)) (done : HaveDone meaning ids views table cells.table 0 cs ss ls) where
    pub parts_given : (place : ℕ) → AllByRecursion (λ (e : EntryOf ghosts keeping). IsGiven (last_view parts.views) parts.views e.input) (history_at hs place)
    parts_given =
        subst (λ (vs : List View). (place : ℕ) → AllByRecursion (λ (e : EntryOf ghosts keeping). IsGiven (last_view vs) vs e.input) (history_at hs place)) (sym views_are)
        (given_in meaning table cells hs cs ss ls calls are_calls own sessions_knew ids views done ids_are)

    pub played : AreViews views → CellsKnew cells hs → AreWholeCells ids cells → AllHear (λ id (output : Output T Kind Op Delta ghosts). cluster.messages_to id output.posts) cluster.messages_of ids cells → (section : Section T K Kind Op Delta ghosts keeping) → parts.keys ≡ rest.keys → parts.links ≡ rest.links
        → IsLeftOf parts (history_at hs) section.world → section.lines ≡ all_lines ls → IsPlayed spelling cs views cells.table.machines rest (Ok section)
    played sound knew whole hear section keys links left lines = record {
      of = λ old made.
          subst (λ (all : List ClientLine). PlaysSection spelling cs old section.world all) (sym lines)
          (plays meaning table cells hs cs ss ls calls are_calls own sessions_knew spelling alike steps_are unchanged_are nows replayed knew old section.world made.members
          (subst (λ (ms : Machines (Node T K Kind Op Delta ghosts keeping) (Input T Kind Op Delta ghosts) Fate (Output T Kind Op Delta ghosts) StepError). IsLeft old section.world (history_at hs) (machine_at ms)) members_are
          (left.left old (views_are ∙ made.views_are) (keys ∙ made.keys) (links ∙ made.links) (ap (λ (seats : EmptySeats T K Kind Op Delta ghosts keeping). seats.spare) seats_are ∙ made.spare)))
          ids views ids_are made.views_are sound whole hear done);
    }
