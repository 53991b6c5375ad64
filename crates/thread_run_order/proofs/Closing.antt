-- What closed cells leave is a section.
use Rattle.std.proofs.Common.{◌≡◌, ℕ, zero, suc, ◌<◌, ◌≤◌, refl, sym, ap, subst, ◌∙◌, true, false, Bool, List, [], ◌∷◌, ◌++◌, length, map, Option, Some, None, inl, inr, arith}
use Rattle.std.specs.Prelude.{◌==◌, if◌then◌else◌, filter, flat_map, slice_get, is_some, IfSome, option_map}
use Rattle.std.specs.List.{AllByRecursion}
use Rattle.std.proofs.lemmas.Bool.Decides.{eqb_tells}
use Rattle.std.proofs.lemmas.Bool.{eq-eqb}
use Rattle.std.proofs.lemmas.List.{map-append}
use Rattle.std.proofs.lemmas.Option.{slice_get-map}
use Rattle.thread_machine.specs.declared.machine.Machine.{Ghosts as Machine}
use Rattle.thread_machine.specs.declared.machines.Machines.{Machines}
use Rattle.thread_machine.specs.declared.entry.Entry.{Entry}
use Rattle.thread_machine.specs.Machines.{machine_at}
use Rattle.thread_cell.specs.declared.histories.Histories.{Histories}
use Rattle.thread_cell.specs.declared.unnamed.Cells.{Cells}
use Rattle.thread_cell.specs.Closings.{EndsAt, AreReplayed, CellKnew, CellsKnew}
use Rattle.thread_cell.specs.Entries.{history_at}
use Rattle.thread_cell.specs.Lists.{at}
use Rattle.thread_cell.specs.Values.{CellParts}
use Rattle.thread_cluster.specs.Messages as cluster
use Rattle.thread_cluster.specs.Opening.{AreWholeCells, AllHear}
use Rattle.thread_cluster.specs.Passing as passing
use Rattle.thread_cluster.specs.Passing.{Passed, passed, posts, takes, Hears}
use Rattle.thread_cluster.proofs.Posts.{heard_more, posts_begin}
use Rattle.theorem_sections.specs.Queues.{stamped}
use Rattle.model_kinds.specs.declared.operation.Op.{Op}
use Rattle.data_lattice.specs.declared.replica.Replica.{Ghosts}
use Rattle.member_keeper.specs.declared.keeper.Keeper.{Ghosts as Keeping}
use Rattle.member_messages.specs.declared.message.Message.{Message}
use Rattle.member_messages.specs.declared.message.Post.{Post}
use Rattle.member_views.specs.Sound.{last_view}
use Rattle.member_node.specs.declared.input.Input.{Input}
use Rattle.member_node.specs.declared.input.Input.TheVariants as form
use Rattle.member_node.specs.declared.node.Node.{Node}
use Rattle.member_node.specs.declared.reply.Fate.{Fate}
use Rattle.member_node.specs.declared.reply.Output.{Output}
use Rattle.member_node.specs.declared.reply.StepError.{StepError}
use Rattle.world_members.specs.declared.world.World.{World}
use Rattle.world_places.specs.Places.{item_at, identity_at}
use Rattle.world_places.specs.Sending.{messages_to}
use Rattle.thread_run_order.specs.Images.{EntryOf}
use Rattle.thread_run_order.specs.Section.{takes_of, IsGiven, posts_to, takes_from, AreHeard, IsSection}

other_way : (a b : ℕ) → (a == b) ≡ (b == a)
other_way a b = elim (eqb_tells a b) [ inl here ↦ here.0 ∙ sym (eq-eqb b a (sym here.1)) | inr other ↦ other.0 ∙ elim (eqb_tells b a) [ inl there ↦ absurd (other.1 (sym there.1)) | inr apart ↦ sym apart.0 ] ]

module _ {T Kind Delta : Type 0} {ghosts : Ghosts T Kind Op Delta} where
  same_posts : (to : ℕ) (ps : List (Post T Kind Op Delta ghosts)) → cluster.messages_to to ps ≡ messages_to ps to
  same_posts to [] = refl
  same_posts to (post ∷ ps) = go (post.to == to) (same_posts to ps)
    where
      go : (b : Bool) → cluster.messages_to to ps ≡ messages_to ps to
          → (if b then post.message ∷ cluster.messages_to to ps else cluster.messages_to to ps)
          ≡ map (λ (p : Post T Kind Op Delta ghosts). p.message) (if b then post ∷ filter (λ (p : Post T Kind Op Delta ghosts). p.to == to) ps else filter (λ (p : Post T Kind Op Delta ghosts). p.to == to) ps)
      go true e = ap (λ ms. post.message ∷ ms) e
      go false e = e

  same_takes : (from : ℕ) (input : Input T Kind Op Delta ghosts) → cluster.messages_of from input ≡ takes_of from input
  same_takes from (form.Update key op level) = refl
  same_takes from (form.Get key level) = refl
  same_takes from (form.Take sender message) = ap (λ b. if b then message ∷ [] else []) (other_way from sender)
  same_takes from (form.Install view) = refl
  same_takes from form.Flush = refl
  same_takes from (form.GossipTo to) = refl
  same_takes from form.PruneTick = refl
  same_takes from (form.Timeout op) = refl

-- whether an input takes a message of an identity
pub count_one : {T Kind Delta : Type 0} {ghosts : Ghosts T Kind Op Delta} (from : ℕ) (input : Input T Kind Op Delta ghosts) (b : Bool) → length (cluster.messages_of from input) ≡ (if b then 1 else 0) → length (takes_of from input) ≡ (if b then 1 else 0)
count_one from input b e = sym (ap (λ ms. length ms) (same_takes from input)) ∙ e

module _ {X : Type 0} where
  abbrev pair_of : Passed X → X × ℕ
  pair_of w = (w.message, w.stamp)

  stamped_pairs : (stamp : ℕ) (xs : List X) → map pair_of (passing.stamped stamp xs) ≡ stamped stamp xs
  stamped_pairs stamp [] = refl
  stamped_pairs stamp (x ∷ xs) = ap (λ ys. (x, stamp) ∷ ys) (stamped_pairs stamp xs)

  -- what is heard, told in pairs
  heard_pairs : (ps ts : List (Passed X)) → passing.AreHeard ps ts → AreHeard (map pair_of ps) (map pair_of ts)
  heard_pairs ps ts heard = record { each = λ k take is. by_take k take (slice_get ts k) refl (sym (slice_get-map pair_of ts k) ∙ is) }
    where
      by_take : (k : ℕ) (take : X × ℕ) (o : Option (Passed X)) → slice_get ts k ≡ o → option_map pair_of o ≡ Some take → (post : X × ℕ) × (slice_get (map pair_of ps) k ≡ Some post) × (take.0 ≡ post.0) × (post.1 < take.1)
      by_take k take None there is = absurd (cc is)
      by_take k take (Some w) there is =
          let h = heard.each k w there in
          let same : pair_of w ≡ take = cc is in (
            pair_of h.0,
            slice_get-map pair_of ps k ∙ ap (option_map pair_of) h.1,
            sym (ap (λ (q : X × ℕ). q.0) same) ∙ h.2.message,
            subst (λ n. h.0.stamp < n) (ap (λ (q : X × ℕ). q.1) same) h.2.stamp,
          )

module _ {M I F O R X : Type 0} (each each' : Entry M I F O R → List X) (same : (e : Entry M I F O R) → each e ≡ each' e) where
  passed_pairs : (es : List (Entry M I F O R)) → map pair_of (passed each es) ≡ flat_map (λ (e : Entry M I F O R). stamped e.stamp (each' e)) es
  passed_pairs [] = refl
  passed_pairs (e ∷ es) =
      map-append pair_of (passing.stamped e.stamp (each e)) (passed each es) ∙ ap (λ ys. ys ++ map pair_of (passed each es)) (stamped_pairs e.stamp (each e) ∙ ap (stamped e.stamp) (same e))
      ∙ ap (λ ys. stamped e.stamp (each' e) ++ ys) (passed_pairs es)

module _ {T K N Kind Delta : Type 0} {ghosts : Ghosts T Kind Op Delta} {keeping : Keeping K} (meaning : Machine (Node T K Kind Op Delta ghosts keeping) (Input T Kind Op Delta ghosts) Fate (Output T Kind Op Delta ghosts) StepError)
    (world : World T K Kind Op Delta ghosts keeping) (ids : ℕ → Option ℕ) (cells : Cells (Node T K Kind Op Delta ghosts keeping) N (Input T Kind Op Delta ghosts) Fate (Output T Kind Op Delta ghosts) StepError)
    (nows : Machines (Node T K Kind Op Delta ghosts keeping) (Input T Kind Op Delta ghosts) Fate (Output T Kind Op Delta ghosts) StepError) (histories : Histories (Node T K Kind Op Delta ghosts keeping) (Input T Kind Op Delta ghosts) Fate (Output T Kind Op Delta ghosts) StepError) where
  abbrev posted : ℕ → Output T Kind Op Delta ghosts → List (Message T Kind Op Delta ghosts)
  posted id output = cluster.messages_to id output.posts

  abbrev taken : ℕ → Input T Kind Op Delta ghosts → List (Message T Kind Op Delta ghosts)
  taken id input = cluster.messages_of id input

  abbrev CellOf : Type 0
  CellOf = CellParts (Node T K Kind Op Delta ghosts keeping) (Input T Kind Op Delta ghosts) Fate (Output T Kind Op Delta ghosts) StepError

  -- what a cell heard of a place, in the histories
  heard_in : (p q i j : ℕ) → ids p ≡ Some i → ids q ≡ Some j → (cell : Option CellOf) → is_some cell ≡ is_some (ids q) → CellKnew q cell histories → IfSome cell (λ (c : CellOf). Hears posted taken ids q c.seen.known) → AreHeard (posts_to j (history_at histories p)) (takes_from i (history_at histories q))
  heard_in p q i j of_p of_q None whole knew hears = absurd (let e : ◌≡◌ {A = Bool} false true = whole ∙ ap (λ (o : Option ℕ). is_some o) of_q in cc e)
  heard_in p q i j of_p of_q (Some c) whole knew hears =
      let heard : passing.AreHeard (posts posted (Some j) (at c.seen.known p)) (takes taken (Some i) (at c.seen.known q)) =
      subst (λ o. passing.AreHeard (posts posted (Some j) (at c.seen.known p)) (takes taken o (at c.seen.known q))) of_p (subst (λ o. passing.AreHeard (posts posted o (at c.seen.known p)) (takes taken (ids p) (at c.seen.known q))) of_q (hears.from p)) in
      let later = heard_more (posts posted (Some j) (at c.seen.known p)) (posts posted (Some j) (history_at histories p)) (takes taken (Some i) (at c.seen.known q)) (posts_begin posted taken (Some j) (at c.seen.known p) (history_at histories p) (knew.begins c refl p)) heard in
      subst (λ ps. AreHeard ps (takes_from i (history_at histories q))) (passed_pairs (λ (e : EntryOf ghosts keeping). posted j e.output) (λ (e : EntryOf ghosts keeping). messages_to e.output.posts j) (λ e. same_posts j e.output.posts) (history_at histories p))
      (subst (AreHeard (map pair_of (posts posted (Some j) (history_at histories p)))) (passed_pairs (λ (e : EntryOf ghosts keeping). taken i e.input) (λ (e : EntryOf ghosts keeping). takes_of i e.input) (λ e. same_takes i e.input) (history_at histories q))
      (subst (λ h. AreHeard (map pair_of (posts posted (Some j) (history_at histories p))) (map pair_of (takes taken (Some i) h))) (sym (knew.own c refl))
      (heard_pairs (posts posted (Some j) (history_at histories p)) (takes taken (Some i) (at c.seen.known q)) later)))

  module _ (ids_are : (place : ℕ) → ids place ≡ identity_at (last_view world.views) place) (starts : (place : ℕ) → machine_at cells.table.machines place ≡ item_at world.nodes.items place) (replayed : AreReplayed meaning cells.table.machines nows histories) (knew : CellsKnew cells histories) (whole : AreWholeCells ids cells)
      (hear : AllHear posted taken ids cells) (given : (place : ℕ) → AllByRecursion (λ (e : EntryOf ghosts keeping). IsGiven (last_view world.views) world.views e.input) (history_at histories place)) (few : (place : ℕ) → 8 ≤ place → ids place ≡ None) where
    heard_all : (p q i j : ℕ) → ids p ≡ Some i → ids q ≡ Some j → AreHeard (posts_to j (history_at histories p)) (takes_from i (history_at histories q))
    heard_all p zero i j e f = heard_in p 0 i j e f cells.p0 whole.p0 knew.p0 hear.p0
    heard_all p (suc zero) i j e f = heard_in p 1 i j e f cells.p1 whole.p1 knew.p1 hear.p1
    heard_all p (suc (suc zero)) i j e f = heard_in p 2 i j e f cells.p2 whole.p2 knew.p2 hear.p2
    heard_all p (suc (suc (suc zero))) i j e f = heard_in p 3 i j e f cells.p3 whole.p3 knew.p3 hear.p3
    heard_all p (suc (suc (suc (suc zero)))) i j e f = heard_in p 4 i j e f cells.p4 whole.p4 knew.p4 hear.p4
    heard_all p (suc (suc (suc (suc (suc zero))))) i j e f = heard_in p 5 i j e f cells.p5 whole.p5 knew.p5 hear.p5
    heard_all p (suc (suc (suc (suc (suc (suc zero)))))) i j e f = heard_in p 6 i j e f cells.p6 whole.p6 knew.p6 hear.p6
    heard_all p (suc (suc (suc (suc (suc (suc (suc zero))))))) i j e f = heard_in p 7 i j e f cells.p7 whole.p7 knew.p7 hear.p7
    heard_all p (suc (suc (suc (suc (suc (suc (suc (suc q)))))))) i j e f = absurd (let x : ◌≡◌ {A = Option ℕ} None (Some j) = sym (few (suc (suc (suc (suc (suc (suc (suc (suc q)))))))) (omega arith)) ∙ f in cc x)

    pub closed_section : IsSection meaning world (history_at histories) (machine_at nows)
    closed_section =
        record {
          ends = λ place. subst (λ o. EndsAt meaning o (machine_at nows place) (history_at histories place)) (starts place) (replayed.each place);
          heard = λ p q i j e f. heard_all p q i j (ids_are p ∙ e) (ids_are q ∙ f);
          given = given;
        }
