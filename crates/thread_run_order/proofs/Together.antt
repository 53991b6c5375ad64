-- A section of client threads is one run.
use Rattle.std.proofs.Common.{◌≡◌, ◌≢◌, ⊎_elim, inl, inr, ◌⊎◌, ℕ, zero, suc, ◌+◌, ◌<◌, ◌≤◌, refl, sym, ap, subst, ◌∙◌, true, false, Bool, List, [], ◌∷◌, ◌++◌, length, map, take, drop, Option, Some, None, arith, length-append}
use mathlib.Core.Logic.{dite}
use native.Mathlib.Decide.{dec_lt}
use Rattle.std.specs.Prelude.{⊤, ◌==◌, if◌then◌else◌, filter, flat_map, slice_get, is_some, option_map, option_and_then, IsTrue}
use Rattle.std.specs.List.{AllByRecursion, AllZip}
use Rattle.std.proofs.lemmas.Bool.Decides.{eqb_tells}
use Rattle.std.proofs.lemmas.Bool.{eq-eqb}
use Rattle.std.proofs.lemmas.List.{drop_all}
use Rattle.model_history.specs.Table.{identity_limit}
use Rattle.model_history.specs.Texts.{Text}
use Rattle.model_history.specs.History.{History}
use Rattle.thread_machine.specs.declared.machine.Machine.{Ghosts as Machine}
use Rattle.thread_machine.specs.Replays.{Replays}
use Rattle.thread_cell.specs.Closings.{EndsAt}
use Rattle.model_members.specs.View.{View, is_member, place_of}
use Rattle.model_members.specs.DataType.{Replication}
use Rattle.model_members.specs.Node as nodes
use Rattle.model_members.specs.Node.{KeyDecl}
use Rattle.model_members.specs.World as worlds
use Rattle.model_members.specs.World.{views_of, start}
use Rattle.model_members.specs.Script.{Playing}
use Rattle.theorem_operations.proofs.Waiting.{AllFit, fits_run}
use Rattle.theorem_sections.specs.Histories as model
use Rattle.theorem_sections.specs.Histories.{Placed, Passed, IsFromClients, entries_at, events_of, sent_so_far, replayed, AreSteps, AreHistories}
use Rattle.theorem_sections.specs.Paths.{answer_of, answered_in}
use Rattle.theorem_sections.specs.Queues as queues
use Rattle.theorem_sections.specs.Queues.{sent, taken, stamped, Waits}
use Rattle.theorem_sections.proofs.Heard.{all_entries}
use Rattle.theorem_sections.proofs.NextDue.{same_or_not}
use Rattle.theorem_sections.proofs.RunOrder.{is_same, is_other, entries_here, entries_else, messages_on}
use Rattle.model_kinds.specs.declared.operation.Op.{Op}
use Rattle.model_kinds.specs.declared.shown.Shown.{Shown}
use Rattle.data_lattice.specs.declared.replica.Replica.{Ghosts}
use Rattle.data_lattice.specs.declared.spelled.SpelledData.{Ghosts as Spelling}
use Rattle.member_keeper.specs.declared.keeper.Keeper.{Ghosts as Keeping}
use Rattle.member_messages.specs.declared.message.Message.{Message}
use Rattle.member_views.specs.Sound.{IsView, last_view}
use Rattle.member_node.specs.declared.input.Input.{Input}
use Rattle.member_node.specs.declared.node.Node.{Node}
use Rattle.member_node.specs.declared.reply.Fate.{Fate}
use Rattle.member_node.specs.declared.reply.Output.{Output}
use Rattle.member_node.specs.declared.reply.StepError.{StepError}
use Rattle.member_node.specs.Members.{AreOfKinds, declared}
use Rattle.member_node.specs.Replies.{meant_fate}
use Rattle.member_node.specs.Steps.{replication, IsStepOf, IsUnchanged}
use Rattle.world_members.specs.declared.world.World.{World}
use Rattle.world_places.specs.Channels.{Channel, channel_at, count_on, next_on}
use Rattle.world_places.specs.Places.{item_at, identity_at, seat_of, member_of, keeper_of, first_keeper}
use Rattle.world_places.specs.Sending.{messages_to}
use Rattle.world_members.specs.Standing.{StandsForWorld}
use Rattle.world_places.specs.Standing.{StandsForLink, StandsForRunning, TellsStore}
use Rattle.world_members.specs.Ways.{Throughout, Means}
use Rattle.world_places.proofs.Seats.{some_seat, identity_seated}
use Rattle.world_members.proofs.Entering.{item_within}
use Rattle.world_places.proofs.Linking.{link_next, link_count}
use Rattle.world_members.proofs.Onward.{way_logs, throughout_same, stands_before}
use Rattle.world_members.proofs.Standings.{present_runs, last_is}
use Rattle.thread_run_order.specs.Orders.{AtPlace, entries_of, ComesBefore, AreSorted, IsRunOrder}
use Rattle.thread_run_order.specs.Images.{EntryOf, AreImages}
use Rattle.thread_run_order.specs.Section.{takes_of, IsGiven, IsSection, AreHeard, posts_to, takes_from, sent_to, taken_from, history_of, after_section, IsLeft}
use Rattle.thread_run_order.specs.Runs.{answers_in, StandsAfter, IsOneRun}
use Rattle.thread_run_order.proofs.Following.{IsFollowed, by_place, take_zip, take_safe, goes_standing}
use Rattle.thread_run_order.proofs.Forward.{forward}
use Rattle.thread_run_order.proofs.Links.{after_from}
use Rattle.thread_run_order.proofs.Merging.{same_place, other_place}
use Rattle.thread_run_order.proofs.Places.{seat_there, member_there, ids_apart, place_there, small_identity}
use Rattle.thread_run_order.proofs.Walking.{Going, Went, went, at_one, is_id, sent_in, taken_in}
use Rattle.thread_run_order.proofs.Ways.{OnTheWay}

-- WHAT HOLDS AT EACH PLACE HOLDS OF ALL ENTRIES

module _ {E : Type 0} (P : ℕ → E → Type 0) where
  head_of_place : (x : AtPlace E) (xs : List (AtPlace E)) → AllByRecursion (P x.place) (entries_of x.place (x ∷ xs)) → P x.place x.entry
  head_of_place x xs all = let a = subst (AllByRecursion (P x.place)) (ap (λ b. if b then x.entry ∷ entries_of x.place xs else entries_of x.place xs) (is_same x.place x.place refl)) all in a.0

  rest_of_place : (k : ℕ) (x : AtPlace E) (xs : List (AtPlace E)) → AllByRecursion (P k) (entries_of k (x ∷ xs)) → AllByRecursion (P k) (entries_of k xs)
  rest_of_place k x xs all = go (x.place == k) all
    where
      go : (b : Bool) → AllByRecursion (P k) (if b then x.entry ∷ entries_of k xs else entries_of k xs) → AllByRecursion (P k) (entries_of k xs)
      go true all = all.1
      go false all = all

  pub of_all_places : (xs : List (AtPlace E)) → ((k : ℕ) → AllByRecursion (P k) (entries_of k xs)) → AllByRecursion (λ (x : AtPlace E). P x.place x.entry) xs
  of_all_places [] all = tt
  of_all_places (x ∷ xs) all = (head_of_place x xs (all x.place), of_all_places xs (λ k. rest_of_place k x xs (all k)))

all_mapped : {E : Type 0} (P Q : E → Type 0) → ((e : E) → P e → Q e) → (es : List E) → AllByRecursion P es → AllByRecursion Q es
all_mapped P Q f [] all = tt
all_mapped P Q f (e ∷ es) all = (f e all.0, all_mapped P Q f es all.1)

-- what holds of the entry at each index
all_indexed : {E : Type 0} (P : E → Type 0) (es : List E) → ((k : ℕ) (e : E) → slice_get es k ≡ Some e → P e) → AllByRecursion P es
all_indexed P [] all = tt
all_indexed P (e ∷ es) all = (all 0 e refl, all_indexed P es (λ k f is. all (suc k) f is))

-- takes that are of posts by their numbers
heard_so : {X : Type 0} (posts takes : List (X × ℕ)) → ((k : ℕ) (take : X × ℕ) → slice_get takes k ≡ Some take → (post : X × ℕ) × (slice_get posts k ≡ Some post) × (take.0 ≡ post.0) × (post.1 < take.1)) → queues.AreHeard posts takes
heard_so posts [] each = tt
heard_so [] (take ∷ takes) each = let p = each 0 take refl in absurd (let e = p.1 in cc e)
heard_so (post ∷ posts) (take ∷ takes) each =
    let p = each 0 take refl in
    let is : post ≡ p.0 = let e = p.1 in cc e in
    (p.2 ∙ sym (ap (λ (q : _). q.0) is), subst (λ n. n < take.1) (sym (ap (λ (q : _). q.1) is)) p.3, heard_so posts takes (λ k t there. each (suc k) t there))

-- IMAGES

module _ {T K Kind Delta : Type 0} {ghosts : Ghosts T Kind Op Delta} {keeping : Keeping K} (view : View) (sound : IsView view) where
  later_images : (x : AtPlace (EntryOf ghosts keeping)) (y : Placed Op Shown) (xs : List (AtPlace (EntryOf ghosts keeping))) (placed : List (Placed Op Shown)) → AreImages (identity_at view) (x ∷ xs) (y ∷ placed) → AllByRecursion (ComesBefore x) xs → AllByRecursion (model.ComesBefore view y) placed
  later_images x y [] [] images all = tt
  later_images x y [] (z ∷ placed) images all = absurd images.2
  later_images x y (w ∷ xs) [] images all = absurd images.2
  later_images x y (w ∷ xs) (z ∷ placed) images all =
      let first : y.entry.stamp ≡ x.entry.stamp = images.1.stamp in
      let second : z.entry.stamp ≡ w.entry.stamp = images.2.1.stamp in (
        ⊎_elim
            (λ (less : x.entry.stamp < w.entry.stamp). inl (omega (arith, less, first, second)))
            (λ (same : (x.entry.stamp ≡ w.entry.stamp) × (x.place < w.place)).
            let a = place_there view sound x.place y.at images.0 in
            let b = place_there view sound w.place z.at images.2.0 in
            let l = same.1 in
            inr (first ∙ same.0 ∙ sym second, omega (arith, a, b, l)))
            all.0,
        later_images x y xs placed (images.0, images.1, images.2.2) all.1,
      )

  images_sorted : (xs : List (AtPlace (EntryOf ghosts keeping))) (placed : List (Placed Op Shown)) → AreImages (identity_at view) xs placed → AreSorted xs → model.AreSorted view placed
  images_sorted [] [] images sorted = tt
  images_sorted [] (y ∷ placed) images sorted = absurd images
  images_sorted (x ∷ xs) [] images sorted = absurd images
  images_sorted (x ∷ xs) (y ∷ placed) images sorted = (later_images x y xs placed images sorted.0, images_sorted xs placed images.2 sorted.1)

  images_above : (xs : List (AtPlace (EntryOf ghosts keeping))) (placed : List (Placed Op Shown)) → AreImages (identity_at view) xs placed → AllByRecursion (λ (x : AtPlace (EntryOf ghosts keeping)). 0 < x.entry.stamp) xs → AllByRecursion (λ (y : Placed Op Shown). 0 < y.entry.stamp) placed
  images_above [] [] images all = tt
  images_above [] (y ∷ placed) images all = absurd images
  images_above (x ∷ xs) [] images all = absurd images
  images_above (x ∷ xs) (y ∷ placed) images all = (subst (λ n. 0 < n) (sym images.1.stamp) all.0, images_above xs placed images.2 all.1)

  images_members : (xs : List (AtPlace (EntryOf ghosts keeping))) (placed : List (Placed Op Shown)) → AreImages (identity_at view) xs placed → AllByRecursion (λ (y : Placed Op Shown). IsTrue (is_member view y.at)) placed
  images_members [] [] images = tt
  images_members [] (y ∷ placed) images = absurd images
  images_members (x ∷ xs) [] images = absurd images
  images_members (x ∷ xs) (y ∷ placed) images = (member_there view sound x.place y.at images.0, images_members xs placed images.2)

  images_answers : (k : ℕ) (xs : List (AtPlace (EntryOf ghosts keeping))) (placed : List (Placed Op Shown)) → AreImages (identity_at view) xs placed → answered_in view placed k ≡ answers_in (entries_of k xs)
  images_answers k [] [] images = refl
  images_answers k [] (y ∷ placed) images = absurd images
  images_answers k (x ∷ xs) [] images = absurd images
  images_answers k (x ∷ xs) (y ∷ placed) images =
      ap (λ n. (if n == k then answer_of y.entry.fate else []) ++ answered_in view placed k) (place_there view sound x.place y.at images.0)
      ∙ ap (λ f. (if x.place == k then answer_of f else []) ++ answered_in view placed k) images.1.fate
      ∙ ap (λ bs. (if x.place == k then answer_of (meant_fate x.entry.fate) else []) ++ bs) (images_answers k xs placed images.2) ∙ go (x.place == k)
    where
      go : (b : Bool) → (if b then answer_of (meant_fate x.entry.fate) else []) ++ answers_in (entries_of k xs) ≡ answers_in (if b then x.entry ∷ entries_of k xs else entries_of k xs)
      go true = refl
      go false = refl

-- stamps of one member's entries rise in a sorted list
module _ (view : View) (i : ℕ) where
  after_it : (x : Placed Op Shown) (placed : List (Placed Op Shown)) → x.at ≡ i → AllByRecursion (model.ComesBefore view x) placed → AllByRecursion (λ (y : Placed Op Shown). y.at ≡ i → x.entry.stamp < y.entry.stamp) placed
  after_it x [] here all = tt
  after_it x (y ∷ placed) here all = (
    (λ there. ⊎_elim
        (λ (less : x.entry.stamp < y.entry.stamp). less)
        (λ (same : (x.entry.stamp ≡ y.entry.stamp) × (place_of view x.at < place_of view y.at)). absurd (let l = same.1 in let e : place_of view x.at ≡ place_of view y.at = ap (place_of view) (here ∙ sym there) in omega (arith, l, e)))
        all.0),
    after_it x placed here all.1,
  )

  sorted_rise : (stamp : ℕ) (placed : List (Placed Op Shown)) → model.AreSorted view placed → AllByRecursion (λ (y : Placed Op Shown). y.at ≡ i → stamp < y.entry.stamp) placed → model.RiseAbove stamp (entries_at i placed)
  sorted_rise stamp [] sorted all = tt
  sorted_rise stamp (x ∷ placed) sorted all = ⊎_elim
      (λ (here : x.at ≡ i). subst (model.RiseAbove stamp) (sym (entries_here i x placed here)) (all.0 here, sorted_rise x.entry.stamp placed sorted.1 (after_it x placed here sorted.0)))
      (λ other. subst (model.RiseAbove stamp) (sym (entries_else i x placed other)) (sorted_rise stamp placed sorted.1 all.1))
      (same_or_not x.at i)

-- WHAT IS POSTED AND TAKEN ON A LINK

module _ {T K Kind Delta : Type 0} {ghosts : Ghosts T Kind Op Delta} {keeping : Keeping K} (f : EntryOf ghosts keeping → List (Message T Kind Op Delta ghosts)) (k : ℕ) where
  -- as the entries in order tell it
  in_order : (xs : List (AtPlace (EntryOf ghosts keeping))) → flat_map (λ (x : AtPlace (EntryOf ghosts keeping)). stamped x.entry.stamp (f x.entry)) (filter (λ (x : AtPlace (EntryOf ghosts keeping)). x.place == k) xs) ≡ flat_map (λ (e : EntryOf ghosts keeping). stamped e.stamp (f e)) (entries_of k xs)
  in_order [] = refl
  in_order (x ∷ xs) = go (x.place == k) (in_order xs)
    where
      go : (b : Bool) → flat_map (λ (x : AtPlace (EntryOf ghosts keeping)). stamped x.entry.stamp (f x.entry)) (filter (λ (x : AtPlace (EntryOf ghosts keeping)). x.place == k) xs) ≡ flat_map (λ (e : EntryOf ghosts keeping). stamped e.stamp (f e)) (entries_of k xs)
          → flat_map (λ (x : AtPlace (EntryOf ghosts keeping)). stamped x.entry.stamp (f x.entry)) (if b then x ∷ filter (λ (x : AtPlace (EntryOf ghosts keeping)). x.place == k) xs else filter (λ (x : AtPlace (EntryOf ghosts keeping)). x.place == k) xs)
          ≡ flat_map (λ (e : EntryOf ghosts keeping). stamped e.stamp (f e)) (if b then x.entry ∷ entries_of k xs else entries_of k xs)
      go true e = ap (λ ys. stamped x.entry.stamp (f x.entry) ++ ys) e
      go false e = e

-- whether an entry is of an identity, by its place
module _ (view : View) (sound : IsView view) (a k : ℕ) (here : identity_at view k ≡ Some a) (place : ℕ) where
  is_apart : (o : Option ℕ) → identity_at view place ≡ o → place ≢ k → is_id o a ≡ false
  is_apart None e apart = refl
  is_apart (Some n) e apart = is_other a n (λ same. apart (ids_apart view sound place k a (e ∙ ap Some (sym same)) here))

  is_at : is_id (identity_at view place) a ≡ (place == k)
  is_at = elim (eqb_tells place k) [
    | inl same ↦ ap (λ n. is_id (identity_at view n) a) same.1 ∙ ap (λ o. is_id o a) here ∙ is_same a a refl ∙ sym same.0
    | inr other ↦ is_apart (identity_at view place) refl other.1 ∙ sym other.0
  ]

is_nowhere : (view : View) (sound : IsView view) (a place : ℕ) → seat_of view a ≡ None → is_id (identity_at view place) a ≡ false
is_nowhere view sound a place none = go (identity_at view place) refl
  where
    go : (o : Option ℕ) → identity_at view place ≡ o → is_id o a ≡ false
    go None e = refl
    go (Some n) e = is_other a n (λ same. absurd (let s : ◌≡◌ {A = Option ℕ} None (Some place) = sym none ∙ seat_there view sound place a (e ∙ ap Some (sym same)) in cc s))

module _ {T K Kind Delta : Type 0} {ghosts : Ghosts T Kind Op Delta} {keeping : Keeping K} (view : View) (sound : IsView view) (a b : ℕ) where
  -- what the entries in order post from an identity to another is what the history of its place does
  sent_there : (k : ℕ) → identity_at view k ≡ Some a → (xs : List (AtPlace (EntryOf ghosts keeping))) → sent_in view a b xs ≡ sent_to b (entries_of k xs)
  sent_there k here [] = refl
  sent_there k here (x ∷ xs) = ap (λ t. (if t then messages_to x.entry.output.posts b else []) ++ sent_in view a b xs) (is_at view sound a k here x.place) ∙ ap (λ ms. (if x.place == k then messages_to x.entry.output.posts b else []) ++ ms) (sent_there k here xs) ∙ go (x.place == k)
    where
      go : (t : Bool) → (if t then messages_to x.entry.output.posts b else []) ++ sent_to b (entries_of k xs) ≡ sent_to b (if t then x.entry ∷ entries_of k xs else entries_of k xs)
      go true = refl
      go false = refl

  sent_nowhere : seat_of view a ≡ None → (xs : List (AtPlace (EntryOf ghosts keeping))) → sent_in view a b xs ≡ []
  sent_nowhere none [] = refl
  sent_nowhere none (x ∷ xs) = ap (λ t. (if t then messages_to x.entry.output.posts b else []) ++ sent_in view a b xs) (is_nowhere view sound a x.place none) ∙ sent_nowhere none xs

  taken_there : (k : ℕ) → identity_at view k ≡ Some b → (xs : List (AtPlace (EntryOf ghosts keeping))) → taken_in view a b xs ≡ length (taken_from a (entries_of k xs))
  taken_there k here [] = refl
  taken_there k here (x ∷ xs) = ap (λ t. (if t then length (takes_of a x.entry.input) else 0) + taken_in view a b xs) (is_at view sound b k here x.place) ∙ ap (λ n. (if x.place == k then length (takes_of a x.entry.input) else 0) + n) (taken_there k here xs) ∙ go (x.place == k)
    where
      go : (t : Bool) → (if t then length (takes_of a x.entry.input) else 0) + length (taken_from a (entries_of k xs)) ≡ length (taken_from a (if t then x.entry ∷ entries_of k xs else entries_of k xs))
      go true = let e = length-append (takes_of a x.entry.input) (taken_from a (entries_of k xs)) in omega (arith, e)
      go false = omega arith

  taken_nowhere : seat_of view b ≡ None → (xs : List (AtPlace (EntryOf ghosts keeping))) → taken_in view a b xs ≡ 0
  taken_nowhere none [] = refl
  taken_nowhere none (x ∷ xs) = ap (λ t. (if t then length (takes_of a x.entry.input) else 0) + taken_in view a b xs) (is_nowhere view sound b x.place none) ∙ (let e = taken_nowhere none xs in let s : 0 + taken_in view a b xs ≡ 0 = omega (arith, e) in s)

  module _ (histories : ℕ → List (EntryOf ghosts keeping)) (xs : List (AtPlace (EntryOf ghosts keeping))) (whole : (k : ℕ) → entries_of k xs ≡ histories k) where
    sent_of : sent_in view a b xs ≡ sent_to b (history_of view histories a)
    sent_of = go (seat_of view a) refl
      where
        go : (o : Option ℕ) → seat_of view a ≡ o → sent_in view a b xs ≡ sent_to b (elim o [ None ↦ [] | Some place ↦ histories place ])
        go None e = sent_nowhere e xs
        go (Some k) e = sent_there k (identity_seated view sound a k e) xs ∙ ap (sent_to b) (whole k)

    taken_of : taken_in view a b xs ≡ length (taken_from a (history_of view histories b))
    taken_of = go (seat_of view b) refl
      where
        go : (o : Option ℕ) → seat_of view b ≡ o → taken_in view a b xs ≡ length (taken_from a (elim o [ None ↦ [] | Some place ↦ histories place ]))
        go None e = taken_nowhere e xs
        go (Some k) e = taken_there k (identity_seated view sound b k e) xs ∙ ap (λ es. length (taken_from a es)) (whole k)

-- past all that was sent before
after_so : {M : Type 0} (due : ℕ) (posts : List M) (n : ℕ) (c : Channel M) → due ≡ length c.messages → after_from due posts n c ≡ after_section posts n c
after_so due posts n c is = ap (λ d. after_from d posts n c) is ∙ ap (λ m. record { messages = c.messages ++ posts; next = m }) (elim (eqb_tells c.next (length c.messages)) [
  | inl here ↦ ap (λ t. if t then length c.messages + n else c.next) here.0 ∙ (let e = here.1 in let s : length c.messages + n ≡ c.next + n = omega (arith, e) in s) ∙ ap (λ t. if t then c.next + n else c.next) (sym here.0)
  | inr other ↦ ap (λ t. if t then length c.messages + n else c.next) other.0 ∙ ap (λ t. if t then c.next + n else c.next) (sym other.0)
])

-- THE SECTION

module _ {T K Kind Delta : Type 0} {ghosts : Ghosts T Kind Op Delta} {keeping : Keeping K} (spelling : Spelling T Kind Op Delta) (alike : (a b : K) → is_some (keeping.table a) ≡ is_some (keeping.table b)) (meaning : Machine (Node T K Kind Op Delta ghosts keeping) (Input T Kind Op Delta ghosts) Fate (Output T Kind Op Delta ghosts) StepError)
    (steps_are : (old : Node T K Kind Op Delta ghosts keeping) (input : Input T Kind Op Delta ghosts) (fate : Fate) (output : Output T Kind Op Delta ghosts) (new : Node T K Kind Op Delta ghosts keeping) → meaning.Steps old input fate output new → IsStepOf spelling old input fate output new)
    (unchanged_are : (old new : Node T K Kind Op Delta ghosts keeping) → meaning.IsUnchanged old new → IsUnchanged old new)
    (kinds : Text → Kind) (members : ℕ) (decls : List (KeyDecl Kind)) (world : World T K Kind Op Delta ghosts keeping) (sound : IsView (last_view world.views)) (p : Playing Kind Op Shown) (m : Means spelling kinds members decls p world)
    (histories : ℕ → List (EntryOf ghosts keeping)) (nows : ℕ → Option (Node T K Kind Op Delta ghosts keeping)) (section : IsSection meaning world histories nows) (xs : List (AtPlace (EntryOf ghosts keeping))) (order : IsRunOrder histories xs) where
  abbrev D : Replication Kind Op Shown
  D = replication ghosts spelling

  abbrev view : View
  view = last_view world.views

  logged : (logs : Text → History Op) × Rattle.world_members.specs.Ways.Throughout D logs members decls p
  logged = way_logs D members decls p m.run

  now : StandsForWorld spelling kinds logged.0 world p.world
  now = m.stands logged.0 logged.1

  view_is : view ≡ p.world.view
  view_is = last_is p.world world.views now.views

  -- a place with a member has its identity, and one without has no entry
  no_member : (k : ℕ) → 8 ≤ k → item_at world.nodes.items k ≡ None
  no_member k past = go (item_at world.nodes.items k) refl
    where
      go : (o : Option (Node T K Kind Op Delta ghosts keeping)) → item_at world.nodes.items k ≡ o → o ≡ None
      go None e = refl
      go (Some node) e = absurd (let l = item_within world.nodes.items k node e in let c = world.eight_nodes in let d = world.nodes.ok.0 in omega (arith, l, c, d, past))

  given_there : (k : ℕ) → AllByRecursion (λ (e : EntryOf ghosts keeping). (i : ℕ) × (identity_at view k ≡ Some i) × IsGiven view world.views e.input) (histories k)
  given_there k = go (item_at world.nodes.items k) refl
    where
      Given : EntryOf ghosts keeping → Type 0
      Given e = (i : ℕ) × (identity_at view k ≡ Some i) × IsGiven view world.views e.input

      small : (node : Node T K Kind Op Delta ghosts keeping) → item_at world.nodes.items k ≡ Some node → k < 8
      small node e = let l = item_within world.nodes.items k node e in let c = world.eight_nodes in let d = world.nodes.ok.0 in omega (arith, l, c, d)

      go : (o : Option (Node T K Kind Op Delta ghosts keeping)) → item_at world.nodes.items k ≡ o → AllByRecursion (λ (e : EntryOf ghosts keeping). (i : ℕ) × (identity_at view k ≡ Some i) × IsGiven view world.views e.input) (histories k)
      go None e = subst (AllByRecursion (λ (e : EntryOf ghosts keeping). (i : ℕ) × (identity_at view k ≡ Some i) × IsGiven view world.views e.input)) (sym ((section.ends k).none e).1) tt
      go (Some node) e =
          let here : identity_at view k ≡ Some node.id = sym (world.seated.members k (small node e)) ∙ ap (option_map (λ (n : Node T K Kind Op Delta ghosts keeping). n.id)) e in
          all_mapped (λ (e : EntryOf ghosts keeping). IsGiven view world.views e.input) (λ (e : EntryOf ghosts keeping). (i : ℕ) × (identity_at view k ≡ Some i) × IsGiven view world.views e.input) (λ e g. (node.id, here, g)) (histories k) (section.given k)

  -- what is on the way at the start
  fits : AllFit D p.world
  fits = subst (AllFit D) (sym m.run.leads) (fits_run D (start members decls) p.events m.run.lawful (λ f t. omega arith))

  ways_begin : (a b i j : ℕ) → identity_at view a ≡ Some i → identity_at view b ≡ Some j → OnTheWay [] [] (sent_so_far p.world i j) (channel_at world.links i j) (messages_on p.world.links i j)
  ways_begin a b i j of_a of_b = go (channel_at world.links i j) refl (now.links i j (small_identity view sound a i of_a) (small_identity view sound b j of_b))
    where
      go : (o : Option (Channel (Message T Kind Op Delta ghosts))) → channel_at world.links i j ≡ o → StandsForLink {ghosts = ghosts} kinds logged.0 o (p.world.links i j) → OnTheWay [] [] (sent_so_far p.world i j) o (messages_on p.world.links i j)
      go None e link = absurd link
      go (Some c) e link =
          let count : length (p.world.links i j).messages ≡ length c.messages = link_count kinds logged.0 (Some c) (p.world.links i j) link in
          let due : (p.world.links i j).next ≡ c.next = link_next kinds logged.0 (Some c) (p.world.links i j) link in
          record {
            channel = c;
            there = refl;
            waiting = sym (ap (λ n. drop n c.messages) count ∙ drop_all (length c.messages) c.messages (omega arith));
            within = omega (arith, count);
            fits = let f = fits i j in omega (arith, f, due);
            meant = sym (drop_all (length (p.world.links i j).messages) (p.world.links i j).messages (omega arith));
            meant_within = omega arith;
            stamps = refl;
          }

  abbrev posts : AtPlace (EntryOf ghosts keeping) → ℕ → List (Message T Kind Op Delta ghosts)
  posts x b = at_one (messages_to x.entry.output.posts) (identity_at view b)

  abbrev takes : AtPlace (EntryOf ghosts keeping) → ℕ → List (Message T Kind Op Delta ghosts)
  takes x a = at_one (λ i. takes_of i x.entry.input) (identity_at view a)

  abbrev place : AtPlace (EntryOf ghosts keeping) → ℕ
  place x = x.place

  abbrev stamp : AtPlace (EntryOf ghosts keeping) → ℕ
  stamp x = x.entry.stamp

  nothing_taken : (ys : List (AtPlace (EntryOf ghosts keeping))) → flat_map (λ (x : AtPlace (EntryOf ghosts keeping)). stamped x.entry.stamp (at_one (λ i. takes_of i x.entry.input) None)) ys ≡ []
  nothing_taken [] = refl
  nothing_taken (y ∷ ys) = nothing_taken ys

  no_entry : (b : ℕ) → identity_at view b ≡ None → histories b ≡ []
  no_entry b none = go (histories b) (given_there b)
    where
      go : (es : List (EntryOf ghosts keeping)) → AllByRecursion (λ (e : EntryOf ghosts keeping). (i : ℕ) × (identity_at view b ≡ Some i) × IsGiven view world.views e.input) es → es ≡ []
      go [] all = refl
      go (e ∷ es) all = absurd (let x : ◌≡◌ {A = Option ℕ} None (Some all.0.0) = sym none ∙ all.0.1 in cc x)

  waits_begin : Waits place stamp posts takes (λ a b. []) xs
  waits_begin a b = by_sender (identity_at view a) refl (identity_at view b) refl
    where
      by_sender : (o : Option ℕ) → identity_at view a ≡ o → (q : Option ℕ) → identity_at view b ≡ q → queues.AreHeard (sent place stamp posts a b xs) (taken place stamp takes a b xs)
      by_sender None e q f =
          subst (queues.AreHeard (sent place stamp posts a b xs)) (sym (ap (λ o. flat_map (λ (x : AtPlace (EntryOf ghosts keeping)). stamped x.entry.stamp (at_one (λ i. takes_of i x.entry.input) o)) (filter (λ (x : AtPlace (EntryOf ghosts keeping)). x.place == b) xs)) e
          ∙ nothing_taken (filter (λ (x : AtPlace (EntryOf ghosts keeping)). x.place == b) xs))) tt
      by_sender (Some i) e None f =
          subst (queues.AreHeard (sent place stamp posts a b xs)) (sym (in_order (λ (e : EntryOf ghosts keeping). at_one (λ i. takes_of i e.input) (identity_at view a)) b xs ∙ ap (λ es. flat_map (λ (e : EntryOf ghosts keeping). stamped e.stamp (at_one (λ i. takes_of i e.input) (identity_at view a))) es) (order.whole b ∙ no_entry b f))) tt
      by_sender (Some i) e (Some j) f =
          subst (λ ps. queues.AreHeard ps (taken place stamp takes a b xs))
          (sym (in_order (λ (e : EntryOf ghosts keeping). at_one (messages_to e.output.posts) (identity_at view b)) a xs ∙ ap (λ o. flat_map (λ (e : EntryOf ghosts keeping). stamped e.stamp (at_one (messages_to e.output.posts) o)) (entries_of a xs)) f ∙ ap (posts_to j) (order.whole a)))
          (subst (queues.AreHeard (posts_to j (histories a)))
          (sym (in_order (λ (e : EntryOf ghosts keeping). at_one (λ i. takes_of i e.input) (identity_at view a)) b xs ∙ ap (λ o. flat_map (λ (e : EntryOf ghosts keeping). stamped e.stamp (at_one (λ i. takes_of i e.input) o)) (entries_of b xs)) e ∙ ap (takes_from i) (order.whole b)))
          (heard_so (posts_to j (histories a)) (takes_from i (histories b)) (section.heard a b i j e f).each))

  begins : Going spelling alike meaning steps_are unchanged_are kinds members decls world.views sound nows world p (sent_so_far p.world) (λ a b. []) (λ i j. []) xs
  begins =
      record {
        same = refl;
        means = m;
        goes = λ k node is. let r = (section.ends k).replay node is in (r.0, r.1, subst (λ es. Rattle.thread_run_order.proofs.Forward.Goes meaning node es r.0) (sym (order.whole k)) (forward meaning node r.0 (histories k) r.2.replays));
        none = λ k is. ((section.ends k).none is).0;
        ways = ways_begin;
        waits = waits_begin;
        sorted = order.sorted;
        given = of_all_places (λ k (e : EntryOf ghosts keeping). (i : ℕ) × (identity_at view k ≡ Some i) × IsGiven view world.views e.input) xs (λ k. subst (AllByRecursion (λ (e : EntryOf ghosts keeping). (i : ℕ) × (identity_at view k ≡ Some i) × IsGiven view world.views e.input)) (sym (order.whole k)) (given_there k));
      }

  all : Went spelling alike meaning steps_are unchanged_are kinds members decls world.views sound nows world p (sent_so_far p.world) (λ i j. []) xs
  all = went spelling alike meaning steps_are unchanged_are kinds members decls world.views sound nows xs world p (sent_so_far p.world) (λ a b. []) (λ i j. []) begins

  -- ITS MODEL ENTRIES

  above : AllByRecursion (λ (x : AtPlace (EntryOf ghosts keeping)). 0 < x.entry.stamp) xs
  above = of_all_places (λ k (e : EntryOf ghosts keeping). 0 < e.stamp) xs (λ k. subst (AllByRecursion (λ (e : EntryOf ghosts keeping). 0 < e.stamp)) (sym (order.whole k)) (all_indexed (λ (e : EntryOf ghosts keeping). 0 < e.stamp) (histories k) (section.ends k).rises.above))

  seat_here : (i : ℕ) → IsTrue (is_member p.world.view i) → (k : ℕ) × (identity_at view k ≡ Some i)
  seat_here i member = let s = some_seat view i (ap (λ (v : View). is_member v i) view_is ∙ member) in (s.0, identity_seated view sound i s.0 s.1)

  implied : (i : ℕ) (placed : List (Placed Op Shown)) → AllByRecursion (λ (y : Placed Op Shown). 0 < y.entry.stamp) placed → AllByRecursion (λ (y : Placed Op Shown). y.at ≡ i → 0 < y.entry.stamp) placed
  implied i [] h = tt
  implied i (y ∷ placed) h = ((λ _. h.0), implied i placed h.1)

  are_histories : AreHistories D p.world (λ i. entries_at i all.placed)
  are_histories =
      record {
        steps = λ i member.
            let r = present_runs spelling world kinds members decls p m i sound (ap (λ (v : View). is_member v i) view_is ∙ member) in
            (r.0, r.1, all.steps i r.0 r.1);
        given = λ i.
            subst (λ v. AllByRecursion (λ (e : model.Entry Op Shown). IsFromClients v (views_of p.world) e.input) (entries_at i all.placed)) view_is
            (subst (λ (vs : List View). AllByRecursion (λ (e : model.Entry Op Shown). IsFromClients view vs e.input) (entries_at i all.placed)) (sym now.views) (all_entries (λ (e : model.Entry Op Shown). IsFromClients view world.views e.input) i all.placed all.given));
        rise = λ i. sorted_rise view i 0 all.placed (images_sorted view sound xs all.placed all.images order.sorted) (implied i all.placed (images_above view sound xs all.placed all.images above));
        heard = λ i j mi mj. let a = seat_here i mi in let b = seat_here j mj in all.heard a.0 b.0 i j a.1 b.1;
      }

  is_order : model.IsRunOrder p.world.view (λ i. entries_at i all.placed) all.placed
  is_order =
      record {
        sorted = subst (λ v. model.AreSorted v all.placed) view_is (images_sorted view sound xs all.placed all.images order.sorted);
        whole = λ i member. refl;
        members = subst (λ v. AllByRecursion (λ (y : Placed Op Shown). IsTrue (is_member v y.at)) all.placed) view_is (images_members view sound xs all.placed all.images);
      }

  -- THE WORLD THAT IS LEFT

  module _ (new : World T K Kind Op Delta ghosts keeping) (left : IsLeft world new histories nows) where
    items_alike : (k : ℕ) → item_at new.nodes.items k ≡ item_at all.world.nodes.items k
    items_alike k = dite (dec_lt k 8) (λ small. left.members k small ∙ sym (all.ended k small)) (λ past. nobody new k past ∙ sym (nobody all.world k past))
      where
        nobody : (w : World T K Kind Op Delta ghosts keeping) (k : ℕ) → ¬ (k < 8) → item_at w.nodes.items k ≡ None
        nobody w k past = go (item_at w.nodes.items k) refl
          where
            go : (o : Option (Node T K Kind Op Delta ghosts keeping)) → item_at w.nodes.items k ≡ o → o ≡ None
            go None e = refl
            go (Some node) e = absurd (past (let l = item_within w.nodes.items k node e in let c = w.eight_nodes in let d = w.nodes.ok.0 in omega (arith, l, c, d)))

    links_alike : (a b : ℕ) → a < identity_limit → b < identity_limit → channel_at new.links a b ≡ channel_at all.world.links a b
    links_alike a b small few = left.links a b ∙ go (channel_at world.links a b) refl (now.links a b small few) ∙ sym (all.links a b)
      where
        go : (o : Option (Channel (Message T Kind Op Delta ghosts))) → channel_at world.links a b ≡ o → StandsForLink {ghosts = ghosts} kinds logged.0 o (p.world.links a b)
            → option_map (after_section (sent_to b (history_of view histories a)) (length (taken_from a (history_of view histories b)))) (channel_at world.links a b) ≡ option_map (after_from (sent_so_far p.world a b) (sent_in view a b xs) (taken_in view a b xs)) (channel_at world.links a b)
        go None e link = absurd link
        go (Some c) e link =
            ap (option_map (after_section (sent_to b (history_of view histories a)) (length (taken_from a (history_of view histories b))))) e
            ∙ ap Some (
            ap (λ ps. after_section ps (length (taken_from a (history_of view histories b))) c) (sym (sent_of view sound a b histories xs order.whole))
            ∙ ap (λ n. after_section (sent_in view a b xs) n c) (sym (taken_of view sound a b histories xs order.whole))
            ∙ sym (after_so (sent_so_far p.world a b) (sent_in view a b xs) (taken_in view a b xs) c (link_count kinds logged.0 (Some c) (p.world.links a b) link)))
            ∙ sym (ap (option_map (after_from (sent_so_far p.world a b) (sent_in view a b xs) (taken_in view a b xs))) e)

    stands_so : (logs : Text → History Op) (meant : worlds.World Kind Op Shown) → StandsForWorld spelling kinds logs all.world meant → StandsForWorld spelling kinds logs new meant
    stands_so logs meant s =
        let views : new.views ≡ all.world.views = left.views ∙ sym all.same_views in
        let keys : new.keys ≡ all.world.keys = left.keys ∙ sym all.same_keys in
        let spare : new.spare ≡ all.world.spare = left.spare ∙ sym all.same_spare in
        record {
          views = s.views ∙ sym views;
          keys = s.keys ∙ ap (λ (keys : _). map declared keys.items) (sym keys);
          of_kinds = subst (λ (keys : _). AreOfKinds kinds keys.items) (sym keys) s.of_kinds;
          running = λ i. subst (λ o. StandsForRunning {ghosts = ghosts} {keeping = keeping} spelling kinds logs o (meant.nodes i)) (sym (members_alike views i)) (s.running i);
          links = λ a b small few. subst (λ o. StandsForLink {ghosts = ghosts} kinds logs o (meant.links a b)) (sym (links_alike a b small few)) (s.links a b small few);
          stores = λ k. subst (λ o. TellsStore ghosts keeping spelling kinds logs o (meant.stores k)) (sym (ap (λ o. first_keeper o (item_at new.spare.items k)) (items_alike k) ∙ ap (λ (v : _). first_keeper (item_at all.world.nodes.items k) (item_at v.items k)) spare)) (s.stores k);
        }
      where
        by_seat : (o : Option ℕ) → option_and_then (item_at new.nodes.items) o ≡ option_and_then (item_at all.world.nodes.items) o
        by_seat None = refl
        by_seat (Some k) = items_alike k

        members_alike : new.views ≡ all.world.views → (i : ℕ) → member_of (last_view new.views) new.nodes.items i ≡ member_of (last_view all.world.views) all.world.nodes.items i
        members_alike views i = by_seat (seat_of (last_view new.views) i) ∙ ap (λ (vs : List View). option_and_then (item_at all.world.nodes.items) (seat_of (last_view vs) i)) views

    means_left : (q : Playing Kind Op Shown) → q.events ≡ p.events ++ events_of (sent_so_far p.world) all.placed → q.world ≡ worlds.run D p.world (events_of (sent_so_far p.world) all.placed) → Means spelling kinds members decls q new
    means_left q events leads =
        let n = all.means q events leads in
        record { run = n.run; stands = λ logs through. stands_so logs q.world (n.stands logs through) }

  -- WHAT REPLAYS BEGINNINGS OF HISTORIES

  -- where the script is at the end
  abbrev last : Playing Kind Op Shown
  last = record p { world = worlds.run D p.world (events_of (sent_so_far p.world) all.placed); events = p.events ++ events_of (sent_so_far p.world) all.placed }

  logged_all : (logs : Text → History Op) × Throughout D logs members decls last
  logged_all = way_logs D members decls last (all.means last refl refl).run

  abbrev logs : Text → History Op
  logs = logged_all.0

  through : Throughout D logs members decls (record p { events = p.events ++ events_of (sent_so_far p.world) all.placed })
  through = throughout_same D logs members decls (record p { events = p.events ++ events_of (sent_so_far p.world) all.placed }) last refl logged_all.1

  at_first : StandsForWorld spelling kinds logs world p.world
  at_first = stands_before spelling kinds members decls p last world (events_of (sent_so_far p.world) all.placed, refl) m logs logged_all.1

  module _ (place i : ℕ) (here : identity_at view place ≡ Some i) where
    followed : AllZip (IsFollowed {ghosts = ghosts} {keeping = keeping} kinds logs) (histories place) (entries_at i all.placed)
    followed =
        subst (λ es. AllZip (IsFollowed {ghosts = ghosts} {keeping = keeping} kinds logs) es (entries_at i all.placed)) (order.whole place)
        (by_place (identity_at view) (IsFollowed {ghosts = ghosts} {keeping = keeping} kinds logs) (ids_apart view sound) place i here xs all.placed (all.followed logs through))

    running : (start : Node T K Kind Op Delta ghosts keeping) → item_at world.nodes.items place ≡ Some start → StandsForRunning {ghosts = ghosts} {keeping = keeping} spelling kinds logs (Some start) (p.world.nodes i)
    running start began =
        subst (λ o. StandsForRunning {ghosts = ghosts} {keeping = keeping} spelling kinds logs o (p.world.nodes i)) (ap (option_and_then (item_at world.nodes.items)) (seat_there view sound place i here) ∙ began) (at_first.running i)

    stands_after : (count : ℕ) (start now : Node T K Kind Op Delta ghosts keeping) → item_at world.nodes.items place ≡ Some start → Replays meaning start (take count (histories place)) now → StandsAfter spelling kinds logs p.world (λ j. entries_at j all.placed) i count now
    stands_after count start now began replays =
        let r = running start began in
        record {
          member = replayed D r.0 (take count (entries_at i all.placed));
          member_is = ap (option_map (λ before. replayed D before (take count (entries_at i all.placed)))) r.1;
          stands = goes_standing spelling meaning steps_are unchanged_are kinds logs start now (take count (histories place)) (forward meaning start now (take count (histories place)) replays) r.0 (take count (entries_at i all.placed)) r.2
              (take_zip (IsFollowed {ghosts = ghosts} {keeping = keeping} kinds logs) count (histories place) (entries_at i all.placed) followed) (take_safe D logs count r.0 (entries_at i all.placed) (all.safe logs through i r.0 r.1));
        }

  pub one_run : IsOneRun spelling kinds members decls p world meaning histories nows xs
  one_run =
      record {
        placed = all.placed;
        images = all.images;
        are_histories = are_histories;
        order = is_order;
        answers = λ k. ap (λ v. answered_in v all.placed k) (sym view_is) ∙ images_answers view sound k xs all.placed all.images ∙ ap answers_in (order.whole k);
        means = means_left;
        logs = logs;
        logged = through;
        stand = λ place i count start now here began replays. stands_after place i here count start now began replays;
      }
