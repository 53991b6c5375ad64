-- Who sits where, and what stands at places.
--     identity_seated, member_stays        the place of an identity has that identity, and a change at one place leaves the others
--     seat_without, seat_joined        the seats after a member left or came
--     same_identity, no_identity_at        who is at a place, by the seats
--     seated_as        another state of the member at a place
--     undone_is        a view that is taken away again
--     seats_at, left_at, acts_at        a member starts at a place, leaves it, or its keeper is called
--     all_taken, all_put        members are taken from their places one after another, and put there
use Rattle.std.proofs.Common.{◌≡◌, ◌≢◌, ℕ, ◌<◌, List, [], ◌∷◌, length, set, refl, sym, ap, subst, ◌∙◌, Bool, true, false, Option, Some, None, inl, inr, ◌-◌, ◌++◌, filter, arith, not, get_or, Result, Ok, Err, ◌+◌, ◌≤◌, length-append, length-set, zero, suc}
use Rattle.std.specs.Prelude.{AllPairs, find, map, if◌then◌else◌, ◌==◌, ◌||◌, option_map, option_and_then, unwrap_or, IfSome, All, IfOk, OnErr, is_some, slice_get}
use Rattle.std.specs.List.{list_any}
use Rattle.std.specs.Option.{ForSome}
use Rattle.std.proofs.lemmas.Bool.Decides.{eqb_tells}
use Rattle.std.proofs.lemmas.Bool.{eqb-true, eq-eqb, ne_eqb, cases_lt}
use Rattle.std.proofs.lemmas.List.Elements.{All-head, All-tail}
use Rattle.std.proofs.lemmas.Option.{slice_get-get_or, get_or_from_slice_get, slice_get_past}
use Rattle.model_history.proofs.PruneLaws.{found}
use Rattle.model_members.specs.View.{View, Member, is_member, place_of, without_member, with_joined, first_view}
use Rattle.member_views.specs.Sound.{IsView, AreViews, last_view}
use Rattle.member_views.proofs.Others.{All-find, found_member, pairs_head, pairs_tail}
use Rattle.thread_machine.specs.declared.machines.Machines.{Machines}
use Rattle.thread_machine.specs.Machines.{machine_at}
use Rattle.member_keeper.specs.declared.keeper.Keeper.{Ghosts as Keeping}
use Rattle.data_lattice.specs.declared.replica.Replica.{Ghosts}
use Rattle.data_lattice.specs.declared.spelled.SpelledData.{Ghosts as Spelling}
use Rattle.member_messages.specs.declared.message.Message.{Message}
use Rattle.member_node.specs.declared.node.Node.{Node}
use Rattle.member_node.specs.declared.input.Input.{Input}
use Rattle.member_node.specs.declared.reply.StepError.{StepError}
use Rattle.member_node.specs.Steps.{IsUnchanged}
use Rattle.member_node.specs.declared.key.KeyDecl.{KeyDecl}
use Rattle.member_node.specs.Replies.{program_steps}
use Rattle.world_places.specs.Places.{item_at, identity_at, seat_of, member_of, keeper_of, first_keeper}
use Rattle.world_places.specs.declared.sending.Answered.{Answered}
use Rattle.world_places.specs.Channels.{Channels}
use Rattle.world_places.specs.Sending.{IsStepOnLinks}
use Rattle.world_places.specs.Keeping.{AreSeated, IsCleared}
use Rattle.world_places.specs.Seating.{ActsAt, IsNewMember, Seats, SeatsAnew, IsLeft}
use Rattle.world_places.specs.Parts.{ArePlaced}
use Rattle.world_places.proofs.Lists.{slice_get-set_same, slice_get-set_other, slice_get-last, slice_get-first, same_places, same_some, at_one, for_this, for_same}

abbrev pub with_identity : ℕ → List Member → Option Member
with_identity i ms = find (λ (m : Member). m.identity == i) ms

abbrev pub with_place : ℕ → List Member → Option Member
with_place k ms = find (λ (m : Member). m.place == k) ms

-- a member that is found by one number is found by another, if no two have that
pub found_by : (f g : Member → ℕ) (i : ℕ) (ms : List Member) (m : Member) → AllPairs (λ (a b : Member). g a ≢ g b) ms → find (λ (n : Member). f n == i) ms ≡ Some m → find (λ (n : Member). g n == g m) ms ≡ Some m
found_by f g i [] m apart e = absurd (cc e)
found_by f g i (x ∷ xs) m apart e = elim (eqb_tells (f x) i) [
  | inl here ↦
      let same : ◌≡◌ {A = Option Member} (Some x) (Some m) = sym (ap (λ b. if b then Some x else find (λ (n : Member). f n == i) xs) here.0) ∙ e in
      let is : x ≡ m = cc same in
      ap (λ b. if b then Some x else find (λ (n : Member). g n == g m) xs) (eq-eqb (g x) (g m) (ap g is)) ∙ same
  | inr other ↦
      let later : find (λ (n : Member). f n == i) xs ≡ Some m = sym (ap (λ b. if b then Some x else find (λ (n : Member). f n == i) xs) other.0) ∙ e in
      let differs = All-find (λ (n : Member). g x ≢ g n) (λ (n : Member). f n == i) xs m later (pairs_head (λ (a b : Member). g a ≢ g b) x xs apart) in
      ap (λ b. if b then Some x else find (λ (n : Member). g n == g m) xs) (ne_eqb (g x) (g m) differs) ∙ found_by f g i xs m (pairs_tail (λ (a b : Member). g a ≢ g b) x xs apart) later
]

-- a member with its place
pub record IsSeated (view : View) (i place : ℕ) : Type 0 where
  pub member : Member
  pub found : with_identity i view.members ≡ Some member
  pub identity : member.identity ≡ i
  pub place_is : member.place ≡ place

pub seated : (view : View) (i place : ℕ) → seat_of view i ≡ Some place → IsSeated view i place
seated view i place e = go (with_identity i view.members) refl e
  where
    go : (o : Option Member) → with_identity i view.members ≡ o → option_map (λ (m : Member). m.place) o ≡ Some place → IsSeated view i place
    go None is e = absurd (cc e)
    go (Some m) is e = record { member = m; found = is; identity = eqb-true m.identity i (found (λ (n : Member). n.identity == i) view.members m is); place_is = cc e }

module _ (view : View) (is_view : IsView view) where
  pub identity_seated : (i place : ℕ) → seat_of view i ≡ Some place → identity_at view place ≡ Some i
  identity_seated i place e =
      let s = seated view i place e in
      ap (λ k. identity_at view k) (sym s.place_is) ∙ ap (option_map (λ (m : Member). m.identity)) (found_by (λ (m : Member). m.identity) (λ (m : Member). m.place) i view.members s.member is_view.apart s.found) ∙ ap Some s.identity

  pub few_places : (i place : ℕ) → seat_of view i ≡ Some place → place < 8
  few_places i place e =
      let s = seated view i place e in
      subst (λ k. k < 8) s.place_is (All-find (λ (m : Member). m.place < 8) (λ (m : Member). m.identity == i) view.members s.member s.found is_view.places)

  pub seats_apart : (i j place : ℕ) → seat_of view i ≡ Some place → seat_of view j ≡ Some place → i ≡ j
  seats_apart i j place e f = let same : ◌≡◌ {A = Option ℕ} (Some i) (Some j) = sym (identity_seated i place e) ∙ identity_seated j place f in cc same

pub place_seated : (view : View) (i place : ℕ) → seat_of view i ≡ Some place → place_of view i ≡ place
place_seated view i place e = ap (λ o. unwrap_or o 0) e

-- WHAT STANDS AT PLACES

module _ {X : Type 0} where
  pub item-set_same : (xs : List (Option X)) (k : ℕ) (o : Option X) → k < length xs → item_at (set xs k o) k ≡ o
  item-set_same xs k o within = ap (λ (x : Option (Option X)). option_and_then (λ y. y) x) (slice_get-set_same xs k o within)

  pub item-set_other : (xs : List (Option X)) (k j : ℕ) (o : Option X) → j ≢ k → item_at (set xs k o) j ≡ item_at xs j
  item-set_other xs k j o other = ap (λ (x : Option (Option X)). option_and_then (λ y. y) x) (slice_get-set_other xs k j o other)

module _ {T K Kind Op Delta : Type 0} {ghosts : Ghosts T Kind Op Delta} {keeping : Keeping K} (view : View) (is_view : IsView view) (nodes : List (Option (Node T K Kind Op Delta ghosts keeping))) (i place : ℕ) (seat : seat_of view i ≡ Some place) (o : Option (Node T K Kind Op Delta ghosts keeping)) (within : place < length nodes) where
  pub member_changed : member_of view (set nodes place o) i ≡ o
  member_changed = ap (option_and_then (item_at (set nodes place o))) seat ∙ item-set_same nodes place o within

  pub member_stays : (j : ℕ) → j ≢ i → member_of view (set nodes place o) j ≡ member_of view nodes j
  member_stays j other = go (seat_of view j) refl
    where
      go : (s : Option ℕ) → seat_of view j ≡ s → option_and_then (item_at (set nodes place o)) s ≡ option_and_then (item_at nodes) s
      go None is = refl
      go (Some k) is = item-set_other nodes place k o (λ e. other (seats_apart view is_view j i place (is ∙ ap Some e) seat))

module _ {T K Kind Op Delta : Type 0} {ghosts : Ghosts T Kind Op Delta} {keeping : Keeping K} where
  pub member_seated : (view : View) (nodes : List (Option (Node T K Kind Op Delta ghosts keeping))) (i place : ℕ) (o : Option (Node T K Kind Op Delta ghosts keeping)) → seat_of view i ≡ Some place → item_at nodes place ≡ o → member_of view nodes i ≡ o
  member_seated view nodes i place o seat is = ap (option_and_then (item_at nodes)) seat ∙ is

  pub keeper_changed : (nodes : List (Option (Node T K Kind Op Delta ghosts keeping))) (spare : List (Option K)) (place : ℕ) (node : Node T K Kind Op Delta ghosts keeping) → place < length nodes → keeper_of (set nodes place (Some node)) spare place ≡ Some node.keeper
  keeper_changed nodes spare place node within = ap (λ o. first_keeper o (item_at spare place)) (item-set_same nodes place (Some node) within)

  pub keeper_stays : (nodes : List (Option (Node T K Kind Op Delta ghosts keeping))) (spare : List (Option K)) (place other : ℕ) (o : Option (Node T K Kind Op Delta ghosts keeping)) → other ≢ place → keeper_of (set nodes place o) spare other ≡ keeper_of nodes spare other
  keeper_stays nodes spare place other o apart = ap (λ n. first_keeper n (item_at spare other)) (item-set_other nodes place other o apart)

-- WHO IS A MEMBER

or_false : (a b : Bool) → (a || b) ≡ false → (a ≡ false) × (b ≡ false)
or_false true b e = absurd (cc e)
or_false false b e = (refl, e)

pub no_seat : (view : View) (i : ℕ) → is_member view i ≡ false → seat_of view i ≡ None
no_seat view i e = ap (option_map (λ (m : Member). m.place)) (go view.members e)
  where
    go : (ms : List Member) → list_any (λ j. j == i) (map (λ (m : Member). m.identity) ms) ≡ false → with_identity i ms ≡ None
    go [] e = refl
    go (m ∷ ms) e = let parts = or_false (m.identity == i) (list_any (λ j. j == i) (map (λ (m : Member). m.identity) ms)) e in ap (λ b. if b then Some m else with_identity i ms) parts.0 ∙ go ms parts.1

pub some_seat : (view : View) (i : ℕ) → is_member view i ≡ true → (place : ℕ) × (seat_of view i ≡ Some place)
some_seat view i e = let m = found_member i view.members e in (m.0.place, ap (option_map (λ (n : Member). n.place)) m.1)

-- SEATS AFTER A MEMBER LEFT

abbrev without : ℕ → List Member → List Member
without i ms = filter (λ (m : Member). not (m.identity == i)) ms

found_without : (i j : ℕ) (ms : List Member) → j ≢ i → with_identity j (without i ms) ≡ with_identity j ms
found_without i j [] other = refl
found_without i j (m ∷ ms) other = elim (eqb_tells m.identity i) [
  | inl here ↦
      ap (λ b. with_identity j (if not b then m ∷ without i ms else without i ms)) here.0 ∙ found_without i j ms other
      ∙ sym (elim (eqb_tells m.identity j) [
        | inl same ↦ absurd (other (sym same.1 ∙ here.1))
        | inr apart ↦ ap (λ b. if b then Some m else with_identity j ms) apart.0
      ])
  | inr stays ↦ ap (λ b. with_identity j (if not b then m ∷ without i ms else without i ms)) stays.0 ∙ ap (λ o. if m.identity == j then Some m else o) (found_without i j ms other)
]

lost_without : (i : ℕ) (ms : List Member) → with_identity i (without i ms) ≡ None
lost_without i [] = refl
lost_without i (m ∷ ms) = elim (eqb_tells m.identity i) [
  | inl here ↦ ap (λ b. with_identity i (if not b then m ∷ without i ms else without i ms)) here.0 ∙ lost_without i ms
  | inr stays ↦
      ap (λ b. with_identity i (if not b then m ∷ without i ms else without i ms)) stays.0 ∙ ap (λ b. if b then Some m else with_identity i (without i ms)) stays.0 ∙ lost_without i ms
]

module _ (view : View) (i : ℕ) where
  pub seat_without : (j : ℕ) → j ≢ i → seat_of (without_member view i) j ≡ seat_of view j
  seat_without j other = ap (option_map (λ (m : Member). m.place)) (found_without i j view.members other)

  pub no_seat_without : seat_of (without_member view i) i ≡ None
  no_seat_without = ap (option_map (λ (m : Member). m.place)) (lost_without i view.members)

-- SEATS AFTER A MEMBER CAME

found_pushed : (j : ℕ) (ms : List Member) (m : Member) → m.identity ≢ j → with_identity j (ms ++ m ∷ []) ≡ with_identity j ms
found_pushed j [] m other = elim (eqb_tells m.identity j) [
  | inl same ↦ absurd (other same.1)
  | inr apart ↦ ap (λ b. if b then Some m else None) apart.0
]
found_pushed j (x ∷ ms) m other = ap (λ o. if x.identity == j then Some x else o) (found_pushed j ms m other)

found_new : (ms : List Member) (m : Member) → All (λ (x : Member). x.identity ≢ m.identity) ms → with_identity m.identity (ms ++ m ∷ []) ≡ Some m
found_new [] m apart = ap (λ b. if b then Some m else None) (eq-eqb m.identity m.identity refl)
found_new (x ∷ ms) m apart = elim (eqb_tells x.identity m.identity) [
  | inl same ↦ absurd (All-head (λ (y : Member). y.identity ≢ m.identity) x ms apart same.1)
  | inr other ↦ ap (λ b. if b then Some x else with_identity m.identity (ms ++ m ∷ [])) other.0 ∙ found_new ms m (All-tail (λ (y : Member). y.identity ≢ m.identity) x ms apart)
]

module _ (view : View) (place : ℕ) where
  pub seat_joined : (j : ℕ) → j ≢ view.given → seat_of (with_joined view place) j ≡ seat_of view j
  seat_joined j other = ap (option_map (λ (m : Member). m.place)) (found_pushed j view.members (record { identity = view.given; place = place }) (λ e. other (sym e)))

  pub new_seat : All (λ (m : Member). m.identity < view.given) view.members → seat_of (with_joined view place) view.given ≡ Some place
  new_seat below = ap (option_map (λ (m : Member). m.place)) (found_new view.members (record { identity = view.given; place = place }) (λ k d within e. let less = below k d within in omega arith))

-- WHO IS AT A PLACE

pub seat_identified : (view : View) → IsView view → (i place : ℕ) → identity_at view place ≡ Some i → seat_of view i ≡ Some place
seat_identified view is_view i place e = go (with_place place view.members) refl e
  where
    go : (o : Option Member) → with_place place view.members ≡ o → option_map (λ (m : Member). m.identity) o ≡ Some i → seat_of view i ≡ Some place
    go None is e = absurd (cc e)
    go (Some m) is e =
        let same : m.identity ≡ i = cc e in
        ap (seat_of view) (sym same) ∙ ap (option_map (λ (n : Member). n.place)) (found_by (λ (n : Member). n.place) (λ (n : Member). n.identity) place view.members m (λ i j d before within e. let less = is_view.rising i j d before within in omega arith) is)
        ∙ ap Some (eqb-true m.place place (found (λ (n : Member). n.place == place) view.members m is))

pub no_identity_at : (view : View) → IsView view → (place : ℕ) → ((i : ℕ) → seat_of view i ≡ Some place → ⊥) → identity_at view place ≡ None
no_identity_at view is_view place none = go (identity_at view place) refl
  where
    go : (o : Option ℕ) → identity_at view place ≡ o → o ≡ None
    go None is = refl
    go (Some i) is = absurd (none i (seat_identified view is_view i place is))

-- who sits at a place in one view sits there in the other, and the other way round
pub same_identity : (view next : View) → IsView view → IsView next → (place : ℕ) → ((i : ℕ) → seat_of view i ≡ Some place → seat_of next i ≡ Some place) → ((i : ℕ) → seat_of next i ≡ Some place → seat_of view i ≡ Some place) → identity_at next place ≡ identity_at view place
same_identity view next is_view is_next place forth back = go (identity_at view place) refl
  where
    go : (o : Option ℕ) → identity_at view place ≡ o → identity_at next place ≡ o
    go None is = no_identity_at next is_next place (λ i e. let there : ◌≡◌ {A = Option ℕ} None (Some i) = sym is ∙ identity_seated view is_view i place (back i e) in cc there)
    go (Some i) is = identity_seated next is_next i place (forth i (seat_identified view is_view i place is))

-- who has no seat is no member
pub no_member : (view : View) (i : ℕ) → seat_of view i ≡ None → is_member view i ≡ false
no_member view i e = go view.members e
  where
    go : (ms : List Member) → option_map (λ (m : Member). m.place) (with_identity i ms) ≡ None → list_any (λ j. j == i) (map (λ (m : Member). m.identity) ms) ≡ false
    go [] e = refl
    go (m ∷ ms) e = elim (eqb_tells m.identity i) [
      | inl same ↦ absurd (let there : ◌≡◌ {A = Option ℕ} (Some m.place) None = sym (ap (λ b. option_map (λ (n : Member). n.place) (if b then Some m else with_identity i ms)) same.0) ∙ e in cc there)
      | inr other ↦
          ap (λ b. b || list_any (λ j. j == i) (map (λ (n : Member). n.identity) ms)) other.0
          ∙ go ms (sym (ap (λ b. option_map (λ (n : Member). n.place) (if b then Some m else with_identity i ms)) other.0) ∙ e)
    ]

-- every seat is one of the eight places
pub few_seat : (view : View) → IsView view → (i : ℕ) (o : Option ℕ) → o ≡ seat_of view i → IfSome o (λ place. place < 8)
few_seat view is_view i None e = tt
few_seat view is_view i (Some place) e = few_places view is_view i place (sym e)

-- WHAT THE CODE FINDS AND LEAVES

pub seat_found : (views : List View) (i : ℕ) (view : View) (result found : Option ℕ) → view ≡ last_view views → result ≡ option_map (λ (m : Member). m.place) (find (λ (m : Member). m.identity == i) view.members) → result ≡ found → seat_of (last_view views) i ≡ found
seat_found views i view result found last is e = ap (λ v. seat_of v i) (sym last) ∙ sym is ∙ e

pub last_sound : (views : List View) → AreViews views → IsView (last_view views)
last_sound views are = are.sound _ _ (let s = are.some in omega arith)

pub item_found : {X : Type 0} (items : List (Option X)) (k : ℕ) (o other : Option X) → k < length items → o ≡ get_or items k o → o ≡ other → item_at items k ≡ other
item_found items k o other within is e = ap (λ x. option_and_then (λ y. y) x) (slice_get-get_or items k o within) ∙ sym is ∙ e

module _ {T K Kind Op Delta : Type 0} {ghosts : Ghosts T Kind Op Delta} {keeping : Keeping K} (views : List View) (nodes : List (Option (Node T K Kind Op Delta ghosts keeping))) (spare : List (Option K)) (seated : AreSeated views nodes spare) where
  abbrev id_of : Option (Node T K Kind Op Delta ghosts keeping) → Option ℕ
  id_of o = option_map (λ (node : Node T K Kind Op Delta ghosts keeping). node.id) o

  -- a member's place is not empty
  pub never_empty : (i place : ℕ) → IsView (last_view views) → seat_of (last_view views) i ≡ Some place → item_at nodes place ≡ None → ⊥
  never_empty i place sound seat empty =
      let e : ◌≡◌ {A = Option ℕ} None (Some i) = sym (ap id_of empty) ∙ seated.members place (few_places (last_view views) sound i place seat) ∙ identity_seated (last_view views) sound i place seat in cc e

  abbrev is_free : Option (Node T K Kind Op Delta ghosts keeping) → Bool
  is_free o = not (is_some o)

  abbrev HasLimit : Node T K Kind Op Delta ghosts keeping → Type 0
  HasLimit node = node.limit ≡ program_steps

  -- another state of the same member
  pub seated_as : (new : List (Option (Node T K Kind Op Delta ghosts keeping))) (place : ℕ) (before after : Node T K Kind Op Delta ghosts keeping) → ((other : ℕ) → other ≢ place → item_at new other ≡ item_at nodes other) → item_at nodes place ≡ Some before → item_at new place ≡ Some after → after.id ≡ before.id → after.limit ≡ before.limit → AreSeated views new spare
  seated_as new place before after others was is same limit =
      record {
        members = at_one (λ k. k < 8 → id_of (item_at new k) ≡ identity_at (last_view views) k) place
            (λ few. ap id_of is ∙ ap Some same ∙ sym (ap id_of was) ∙ seated.members place few) (λ k other few. ap id_of (others k other) ∙ seated.members k few);
        spares = at_one (λ k. k < 8 → is_some (item_at spare k) ≡ is_free (item_at new k)) place
            (λ few. seated.spares place few ∙ ap is_free was ∙ sym (ap is_free is)) (λ k other few. seated.spares k few ∙ sym (ap is_free (others k other)));
        limits = at_one (λ k. k < 8 → ForSome (item_at new k) HasLimit) place
            (λ few. for_this HasLimit (item_at new place) after is (limit ∙ seated.limits place few before was)) (λ k other few. for_same HasLimit (item_at nodes k) (item_at new k) (others k other) (seated.limits k few));
      }

  pub seated_set : (place : ℕ) (before after : Node T K Kind Op Delta ghosts keeping) → place < length nodes → item_at nodes place ≡ Some before → after.id ≡ before.id → after.limit ≡ before.limit → AreSeated views (set nodes place (Some after)) spare
  seated_set place before after within was same limit = seated_as (set nodes place (Some after)) place before after (λ k other. item-set_other nodes place k (Some after) other) was (item-set_same nodes place (Some after) within) same limit

module _ {T K Kind Op Delta : Type 0} {ghosts : Ghosts T Kind Op Delta} {keeping : Keeping K} (spelling : Spelling T Kind Op Delta) where
  -- a member keeps its identity, whatever it answers
  pub same_id : (before after : Node T K Kind Op Delta ghosts keeping) (input : Input T Kind Op Delta ghosts) (i : ℕ) (old new : Channels (Message T Kind Op Delta ghosts)) (outcome : Result Answered StepError)
      → IfOk outcome (λ answered. IsStepOnLinks spelling before input answered after i old new) → OnErr outcome (IsUnchanged before after × (new ≡ old)) → after.id ≡ before.id
  same_id before after input i old new (Ok answered) made kept = made.makes.identity
  same_id before after input i old new (Err e) made kept = ap (λ (node : Node T K Kind Op Delta ghosts keeping). node.id) kept.0.same

  -- and its limit of steps
  pub same_limit : (before after : Node T K Kind Op Delta ghosts keeping) (input : Input T Kind Op Delta ghosts) (i : ℕ) (old new : Channels (Message T Kind Op Delta ghosts)) (outcome : Result Answered StepError)
      → IfOk outcome (λ answered. IsStepOnLinks spelling before input answered after i old new) → OnErr outcome (IsUnchanged before after × (new ≡ old)) → after.limit ≡ before.limit
  same_limit before after input i old new (Ok answered) made kept = made.makes.limit
  same_limit before after input i old new (Err e) made kept = ap (λ (node : Node T K Kind Op Delta ghosts keeping). node.limit) kept.0.same

-- A VIEW TAKEN AWAY AGAIN

module _ (views joined : List View) (view : View) (is : joined ≡ views ++ view ∷ []) where
  pub one_longer : length joined ≡ length views + 1
  one_longer = ap length is ∙ length-append views (view ∷ [])

  same_front : (undone : List View) (last : View) → joined ≡ undone ++ last ∷ [] → undone ≡ views
  same_front undone last e =
      let longer : length undone ≡ length views = (let a = ap length e ∙ length-append undone (last ∷ []) in let b = one_longer in omega arith) in
      same_places undone views longer (λ k. go undone k longer (sym (ap (λ vs. slice_get vs k) e) ∙ ap (λ vs. slice_get vs k) is))
    where
      go : (undone : List View) (k : ℕ) → length undone ≡ length views → slice_get (undone ++ last ∷ []) k ≡ slice_get (views ++ view ∷ []) k → slice_get undone k ≡ slice_get views k
      go undone k same each = elim (cases_lt k (length undone)) [
        | inl below ↦ sym (slice_get-first undone (last ∷ []) k below) ∙ each ∙ slice_get-first views (view ∷ []) k (omega arith)
        | inr past ↦ slice_get_past undone k past ∙ sym (slice_get_past views k (omega arith))
      ]

  pub undone_is : (undone : List View) → joined ≡ undone ++ last_view joined ∷ [] → undone ≡ views
  undone_is undone e = same_front undone (last_view joined) e

  module _ (sound : AreViews joined) (number : view.number ≡ (last_view views).number + 1) where
    -- there was a view before
    pub some_before : 0 < length views
    some_before = let here = sound.numbered (length views) view (ap (λ vs. slice_get vs (length views)) is ∙ slice_get-last views view) in omega arith

    pub two_now : 2 ≤ length joined
    two_now = let a = some_before in let b = one_longer in omega arith

    pub sound_before : IsView (last_view views)
    sound_before =
        let h = some_before in
        let b = one_longer in
        let last_index : length views - 1 < length views = omega arith in
        let index_within : length views - 1 < length joined = omega arith in
        let there : slice_get joined (length views - 1) ≡ Some (last_view views) = ap (λ vs. slice_get vs (length views - 1)) is ∙ slice_get-first views (view ∷ []) (length views - 1) last_index ∙ slice_get-get_or views (length views - 1) (first_view 1) last_index in
        subst IsView (get_or_from_slice_get joined (length views - 1) (last_view views) (last_view views) there) (sound.sound (length views - 1) (last_view views) index_within)

-- A MEMBER THAT STARTS OR STOPS

module _ {X : Type 0} where
  pub item_at-set : (xs : List (Option X)) (i : ℕ) (x : Option X) → i < length xs → item_at (set xs i x) i ≡ x
  item_at-set xs i x within = ap (option_and_then (λ (y : Option X). y)) (slice_get-set_same xs i x within)

  pub item_at-read : (xs : List (Option X)) (i : ℕ) (x : Option X) → i < length xs → x ≡ get_or xs i x → item_at xs i ≡ x
  item_at-read xs i x within is = ap (option_and_then (λ (y : Option X). y)) (slice_get-get_or xs i x within ∙ ap Some (sym is))

module _ {T K Kind Op Delta : Type 0} {ghosts : Ghosts T Kind Op Delta} {keeping : Keeping K} (id : ℕ) (view : View) (keys : List (KeyDecl T Kind Op Delta)) (nodes : List (Option (Node T K Kind Op Delta ghosts keeping))) (spare : List (Option K)) where
  module _ (index : ℕ) (within : index < length nodes) (within_spare : index < length spare) (there : Option K) (is : there ≡ get_or spare index there) where
    seats : (left : Option K) (node : Node T K Kind Op Delta ghosts keeping) (keeper : K) → left ≡ None → there ≡ Some keeper → IsNewMember id view keys keeper node → Seats id view keys index nodes (set nodes index (Some node)) spare (set spare index left)
    seats left node keeper none was new =
        record {
          seated = λ other e. (node, item_at-set nodes index (Some node) within, subst (λ k. IsNewMember id view keys k node) (same_some keeper other (sym was ∙ sym (item_at-read spare index there within_spare is) ∙ e)) new);
          taken = λ other e. slice_get-set_same spare index left within_spare ∙ ap Some none;
          others = λ other apart. slice_get-set_other nodes index other (Some node) apart;
          spares = λ other apart. slice_get-set_other spare index other left apart;
        }

  module _ (place index : ℕ) (same : index ≡ place) (within : index < length nodes) (within_spare : index < length spare) (there : Option K) (is : there ≡ get_or spare index there) where
    pub seats_at : (left : Option K) (node : Node T K Kind Op Delta ghosts keeping) (keeper : K) → left ≡ None → there ≡ Some keeper → IsNewMember id view keys keeper node → Seats id view keys place nodes (set nodes index (Some node)) spare (set spare index left)
    seats_at left node keeper none was new =
        subst (λ p. Seats id view keys p nodes (set nodes index (Some node)) spare (set spare index left)) same (seats index within within_spare there is left node keeper none was new)

-- what was taken and put back is there
pub put_back : {X : Type 0} (xs : List X) (i : ℕ) (left there back : X) → i < length xs → there ≡ get_or xs i there → back ≡ there → (k : ℕ) → slice_get (set (set xs i left) i back) k ≡ slice_get xs k
put_back xs i left there back within is same =
    at_one (λ k. slice_get (set (set xs i left) i back) k ≡ slice_get xs k) i (slice_get-set_same (set xs i left) i back (let e = length-set xs i left in omega arith) ∙ ap Some (same ∙ is) ∙ sym (slice_get-get_or xs i there within))
    (λ k other. slice_get-set_other (set xs i left) i k back other ∙ slice_get-set_other xs i k left other)

module _ {T K Kind Op Delta : Type 0} {ghosts : Ghosts T Kind Op Delta} {keeping : Keeping K} (nodes : List (Option (Node T K Kind Op Delta ghosts keeping))) (spare : List (Option K)) (index : ℕ) (within : index < length nodes) (within_spare : index < length spare) (there left : Option (Node T K Kind Op Delta ghosts keeping)) (is : there ≡ get_or nodes index there) (none : left ≡ None) where
  left_here : (node : Node T K Kind Op Delta ghosts keeping) (keeper : K) → there ≡ Some node → keeper ≡ node.keeper → IsLeft index nodes (set nodes index left) spare (set spare index (Some keeper))
  left_here node keeper was same =
      record {
        none = item_at-set nodes index left within ∙ none;
        keeper = item_at-set spare index (Some keeper) within_spare ∙ ap Some same ∙ sym (ap (λ o. first_keeper o (item_at spare index)) (item_at-read nodes index there within is ∙ was));
        others = λ other apart. ap (option_and_then (λ (y : Option (Node T K Kind Op Delta ghosts keeping)). y)) (slice_get-set_other nodes index other left apart);
        spares = λ other apart. ap (option_and_then (λ (y : Option K). y)) (slice_get-set_other spare index other (Some keeper) apart);
      }

  module _ (place : ℕ) (same : index ≡ place) where
    pub left_at : (node : Node T K Kind Op Delta ghosts keeping) (keeper : K) → there ≡ Some node → keeper ≡ node.keeper → IsLeft place nodes (set nodes index left) spare (set spare index (Some keeper))
    left_at node keeper was e = subst (λ p. IsLeft p nodes (set nodes index left) spare (set spare index (Some keeper))) same (left_here node keeper was e)

-- a place's keeper forgot all, and then a member started there
pub seats_anew : {T K Kind Op Delta : Type 0} {ghosts : Ghosts T Kind Op Delta} {keeping : Keeping K} (id : ℕ) (view : View) (keys : List (KeyDecl T Kind Op Delta)) (place : ℕ) (nodes new : List (Option (Node T K Kind Op Delta ghosts keeping))) (spare between left : List (Option K))
    → ActsAt (IsCleared keeping) place spare between → Seats id view keys place nodes new between left → SeatsAnew id view keys place nodes new spare left
seats_anew {T} {K} {Kind} {Op} {Delta} {ghosts} {keeping} id view keys place nodes new spare between left acts seats =
    record {
      seated = λ keeper e. let a = acts.there keeper e in let s = seats.seated a.0 a.1 in (a.0, a.2, s.0, s.1, s.2);
      taken = λ keeper e. let a = acts.there keeper e in ap (option_and_then (λ (y : Option K). y)) (seats.taken a.0 a.1);
      others = λ other apart. ap (option_and_then (λ (y : Option (Node T K Kind Op Delta ghosts keeping)). y)) (seats.others other apart);
      spares = λ other apart. ap (option_and_then (λ (y : Option K). y)) (seats.spares other apart ∙ acts.others other apart);
    }

module _ {X : Type 0} (Does : X → X → Type 0) (xs : List (Option X)) where
  -- what was taken from a place was changed and put back
  acts_here : (index : ℕ) (there left : Option X) (before after : X) → index < length xs → there ≡ get_or xs index there → there ≡ Some before → Does before after → ActsAt Does index xs (set (set xs index left) index (Some after))
  acts_here index there left before after within is was does =
      record {
        there = λ x e. (
          after,
          item_at-set (set xs index left) index (Some after) (let l = length-set xs index left in omega arith),
          subst (λ y. Does y after) (same_some before x (sym was ∙ sym (item_at-read xs index there within is) ∙ e)) does,
        );
        others = λ other apart. slice_get-set_other (set xs index left) index other (Some after) apart ∙ slice_get-set_other xs index other left apart;
      }

  pub acts_at : (place index : ℕ) → index ≡ place → (there left : Option X) (before after : X) → index < length xs → there ≡ get_or xs index there → there ≡ Some before → Does before after → ActsAt Does place xs (set (set xs index left) index (Some after))
  acts_at place index same there left before after within is was does = subst (λ p. ActsAt Does p xs (set (set xs index left) index (Some after))) same (acts_here index there left before after within is was does)

  -- there was nothing
  pub acts_nowhere : (place index : ℕ) → index ≡ place → (there left : Option X) → index < length xs → there ≡ get_or xs index there → there ≡ None → ActsAt Does place xs (set xs index left)
  acts_nowhere place index same there left within is none =
      subst (λ p. ActsAt Does p xs (set xs index left)) same
      (record {
        there = λ x e. absurd (let some : None ≡ Some x = sym none ∙ sym (item_at-read xs index there within is) ∙ e in cc some);
        others = λ other apart. slice_get-set_other xs index other left apart;
      })

  -- nothing was touched
  pub acts_same : (place : ℕ) → ((x : X) → Does x x) → ActsAt Does place xs xs
  acts_same place does = record { there = λ x e. (x, e, does x); others = λ other apart. refl }

-- MEMBERS TAKEN AND PUT

pub nothing_past : {X : Type 0} (xs : List (Option X)) (place : ℕ) → length xs ≤ place → item_at xs place ≡ None
nothing_past xs place past = ap (option_and_then (λ y. y)) (slice_get_past xs place past)

-- but for one place, two lists are alike
abbrev AlikeBut : {X : Type 0} → ℕ → List (Option X) → List (Option X) → Type 0
AlikeBut k old new = (j : ℕ) → j ≢ k → item_at new j ≡ item_at old j

module _ {M I F O R : Type 0} (n0 n1 n2 n3 n4 n5 n6 n7 n8 : List (Option M)) (ms : Machines M I F O R)
    (beside0 : AlikeBut 0 n0 n1) (beside1 : AlikeBut 1 n1 n2) (beside2 : AlikeBut 2 n2 n3) (beside3 : AlikeBut 3 n3 n4) (beside4 : AlikeBut 4 n4 n5) (beside5 : AlikeBut 5 n5 n6) (beside6 : AlikeBut 6 n6 n7) (beside7 : AlikeBut 7 n7 n8) where
  -- what was taken is what stood there first
  pub all_taken : length n0 ≡ 8 → ms.p0 ≡ item_at n0 0 → ms.p1 ≡ item_at n1 1 → ms.p2 ≡ item_at n2 2 → ms.p3 ≡ item_at n3 3 → ms.p4 ≡ item_at n4 4 → ms.p5 ≡ item_at n5 5 → ms.p6 ≡ item_at n6 6 → ms.p7 ≡ item_at n7 7 → (place : ℕ) → machine_at ms place ≡ item_at n0 place
  all_taken long t0 t1 t2 t3 t4 t5 t6 t7 zero = t0
  all_taken long t0 t1 t2 t3 t4 t5 t6 t7 (suc zero) = t1 ∙ beside0 1 (λ e. omega (arith, e))
  all_taken long t0 t1 t2 t3 t4 t5 t6 t7 (suc (suc zero)) = t2 ∙ beside1 2 (λ e. omega (arith, e)) ∙ beside0 2 (λ e. omega (arith, e))
  all_taken long t0 t1 t2 t3 t4 t5 t6 t7 (suc (suc (suc zero))) = t3 ∙ beside2 3 (λ e. omega (arith, e)) ∙ beside1 3 (λ e. omega (arith, e)) ∙ beside0 3 (λ e. omega (arith, e))
  all_taken long t0 t1 t2 t3 t4 t5 t6 t7 (suc (suc (suc (suc zero)))) = t4 ∙ beside3 4 (λ e. omega (arith, e)) ∙ beside2 4 (λ e. omega (arith, e)) ∙ beside1 4 (λ e. omega (arith, e)) ∙ beside0 4 (λ e. omega (arith, e))
  all_taken long t0 t1 t2 t3 t4 t5 t6 t7 (suc (suc (suc (suc (suc zero))))) = t5 ∙ beside4 5 (λ e. omega (arith, e)) ∙ beside3 5 (λ e. omega (arith, e)) ∙ beside2 5 (λ e. omega (arith, e)) ∙ beside1 5 (λ e. omega (arith, e)) ∙ beside0 5 (λ e. omega (arith, e))
  all_taken long t0 t1 t2 t3 t4 t5 t6 t7 (suc (suc (suc (suc (suc (suc zero)))))) = t6 ∙ beside5 6 (λ e. omega (arith, e)) ∙ beside4 6 (λ e. omega (arith, e)) ∙ beside3 6 (λ e. omega (arith, e)) ∙ beside2 6 (λ e. omega (arith, e)) ∙ beside1 6 (λ e. omega (arith, e)) ∙ beside0 6 (λ e. omega (arith, e))
  all_taken long t0 t1 t2 t3 t4 t5 t6 t7 (suc (suc (suc (suc (suc (suc (suc zero))))))) = t7 ∙ beside6 7 (λ e. omega (arith, e)) ∙ beside5 7 (λ e. omega (arith, e)) ∙ beside4 7 (λ e. omega (arith, e)) ∙ beside3 7 (λ e. omega (arith, e)) ∙ beside2 7 (λ e. omega (arith, e)) ∙ beside1 7 (λ e. omega (arith, e)) ∙ beside0 7 (λ e. omega (arith, e))
  all_taken long t0 t1 t2 t3 t4 t5 t6 t7 (suc (suc (suc (suc (suc (suc (suc (suc place)))))))) = sym (nothing_past n0 (suc (suc (suc (suc (suc (suc (suc (suc place)))))))) (omega (arith, long)))

  -- what was put there stands there in the end
  pub all_put : length n8 ≡ 8 → item_at n1 0 ≡ ms.p0 → item_at n2 1 ≡ ms.p1 → item_at n3 2 ≡ ms.p2 → item_at n4 3 ≡ ms.p3 → item_at n5 4 ≡ ms.p4 → item_at n6 5 ≡ ms.p5 → item_at n7 6 ≡ ms.p6 → item_at n8 7 ≡ ms.p7 → (place : ℕ) → item_at n8 place ≡ machine_at ms place
  all_put long t0 t1 t2 t3 t4 t5 t6 t7 zero = beside7 0 (λ e. omega (arith, e)) ∙ beside6 0 (λ e. omega (arith, e)) ∙ beside5 0 (λ e. omega (arith, e)) ∙ beside4 0 (λ e. omega (arith, e)) ∙ beside3 0 (λ e. omega (arith, e)) ∙ beside2 0 (λ e. omega (arith, e)) ∙ beside1 0 (λ e. omega (arith, e)) ∙ t0
  all_put long t0 t1 t2 t3 t4 t5 t6 t7 (suc zero) = beside7 1 (λ e. omega (arith, e)) ∙ beside6 1 (λ e. omega (arith, e)) ∙ beside5 1 (λ e. omega (arith, e)) ∙ beside4 1 (λ e. omega (arith, e)) ∙ beside3 1 (λ e. omega (arith, e)) ∙ beside2 1 (λ e. omega (arith, e)) ∙ t1
  all_put long t0 t1 t2 t3 t4 t5 t6 t7 (suc (suc zero)) = beside7 2 (λ e. omega (arith, e)) ∙ beside6 2 (λ e. omega (arith, e)) ∙ beside5 2 (λ e. omega (arith, e)) ∙ beside4 2 (λ e. omega (arith, e)) ∙ beside3 2 (λ e. omega (arith, e)) ∙ t2
  all_put long t0 t1 t2 t3 t4 t5 t6 t7 (suc (suc (suc zero))) = beside7 3 (λ e. omega (arith, e)) ∙ beside6 3 (λ e. omega (arith, e)) ∙ beside5 3 (λ e. omega (arith, e)) ∙ beside4 3 (λ e. omega (arith, e)) ∙ t3
  all_put long t0 t1 t2 t3 t4 t5 t6 t7 (suc (suc (suc (suc zero)))) = beside7 4 (λ e. omega (arith, e)) ∙ beside6 4 (λ e. omega (arith, e)) ∙ beside5 4 (λ e. omega (arith, e)) ∙ t4
  all_put long t0 t1 t2 t3 t4 t5 t6 t7 (suc (suc (suc (suc (suc zero))))) = beside7 5 (λ e. omega (arith, e)) ∙ beside6 5 (λ e. omega (arith, e)) ∙ t5
  all_put long t0 t1 t2 t3 t4 t5 t6 t7 (suc (suc (suc (suc (suc (suc zero)))))) = beside7 6 (λ e. omega (arith, e)) ∙ t6
  all_put long t0 t1 t2 t3 t4 t5 t6 t7 (suc (suc (suc (suc (suc (suc (suc zero))))))) = t7
  all_put long t0 t1 t2 t3 t4 t5 t6 t7 (suc (suc (suc (suc (suc (suc (suc (suc place)))))))) = nothing_past n8 (suc (suc (suc (suc (suc (suc (suc (suc place)))))))) (omega (arith, long))

-- members that are put at their places are seated
pub are_seated : {T K Kind Op Delta I F O R : Type 0} {ghosts : Ghosts T Kind Op Delta} {keeping : Keeping K} (views : List View) (members : Machines (Node T K Kind Op Delta ghosts keeping) I F O R) (nodes : List (Option (Node T K Kind Op Delta ghosts keeping))) (spare : List (Option K)) → ((place : ℕ) → item_at nodes place ≡ machine_at members place) → ArePlaced views members spare → AreSeated views nodes spare
are_seated {T = T} {K = K} {Kind = Kind} {Op = Op} {Delta = Delta} {ghosts = ghosts} {keeping = keeping} views members nodes spare same placed =
    record {
      members = λ place small. ap (option_map (λ (node : Node T K Kind Op Delta ghosts keeping). node.id)) (same place) ∙ placed.identities place small;
      spares = λ place small. placed.spares place small ∙ sym (ap (λ (o : Option (Node T K Kind Op Delta ghosts keeping)). not (is_some o)) (same place));
      limits = λ place small. for_same (λ (node : Node T K Kind Op Delta ghosts keeping). node.limit ≡ program_steps) (machine_at members place) (item_at nodes place) (same place) (placed.limits place small);
    }
