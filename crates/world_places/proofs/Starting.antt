-- The first members, and their keepers.
--     first_seat, no_seat        who sits where in view 0: identity i at place i
--     AreClearedBelow        keepers that forget all, one after the other
--     IsPutBy        keepers that are moved to their places, the last one first
--     AreGathered        the keepers of all places, one after the other
--     IsSeatedBelow        members that start at the first places, one after the other
--     seats_first, come_back        the seats of the first members, and the keepers where there are none
use Rattle.std.proofs.Common.{◌≡◌, ℕ, zero, suc, ◌+◌, ◌<◌, ◌≤◌, map, find, refl, ap, ◌∙◌, arith, Bool, Option, None, Some, inl, inr, ◌≢◌, List, [], ◌∷◌, length, get_or, set, sym, subst, true, length-set, ◌++◌, Vec, Global, append_assoc, length-append, false, not}
use Rattle.std.specs.Prelude.{if◌then◌else◌, ◌==◌, option_map, slice_get, vec_len, vec_capacity, option_to_list, option_and_then, is_some}
use Rattle.std.specs.List.{range_with_len, zip}
use Rattle.std.specs.Option.{ForSome}
use Rattle.std.proofs.lemmas.Bool.Decides.{eqb_tells}
use Rattle.std.proofs.lemmas.Bool.{cases_lt}
use Rattle.std.proofs.lemmas.Option.{slice_get-get_or, slice_get_within, slice_get-map, slice_get_past}
use Rattle.std.proofs.lemmas.List.{map-id}
use Rattle.model_history.proofs.HistoryLaws.{append_nothing}
use Rattle.model_members.specs.View.{Member, first_view}
use Rattle.member_keeper.specs.declared.keeper.Keeper.{Ghosts as Keeping}
use Rattle.member_keeper.specs.declared.keeper.KeeperError.{KeeperError}
use Rattle.member_keeper.specs.declared.keeper.KeeperError.TheVariants.{Failed, Memory}
use Rattle.data_lattice.specs.declared.replica.Replica.{Ghosts}
use Rattle.member_node.specs.declared.node.Node.{Node}
use Rattle.member_node.specs.declared.key.KeyDecl.{KeyDecl}
use Rattle.member_node.specs.Replies.{program_steps}
use Rattle.world_places.specs.Places.{identity_at, seat_of, first_keeper, keeper_of, keepers_of, item_at}
use Rattle.world_places.specs.Keeping.{Keeps, AtEachPlace, IsCleared, FailsToClear, IsNotCleared, AreKept, AreSeated, KeepsAt}
use Rattle.world_places.specs.Seating.{AreCleared, RefusesToClear, RefusesClear, Clears, IsNewMember, Seats, AreFirstSeats}
use Rattle.world_places.proofs.Lists.{at_one, same_some, slice_get-set_same, slice_get-set_other, same_places, some_there, for_this, for_none}
use Rattle.world_places.proofs.Storing.{not_called}

abbrev sitting : ℕ → Member
sitting i = record { identity = i; place = i }

module _ (test : Member → Bool) (i : ℕ) (tests : (a : ℕ) → test (sitting a) ≡ (a == i)) where
  abbrev found_first : ℕ → ℕ → Option Member
  found_first a n = find test (map (λ i. record { identity = i; place = i }) (range_with_len a n))

  found_within : (n a : ℕ) → a ≤ i → i < a + n → found_first a n ≡ Some (sitting i)
  found_within zero a low high = absurd (omega arith)
  found_within (suc n) a low high = elim (eqb_tells a i) [
    | inl here ↦ ap (λ b. if b then Some (sitting a) else found_first (a + 1) n) (tests a ∙ here.0) ∙ ap (λ x. Some (sitting x)) here.1
    | inr other ↦ ap (λ b. if b then Some (sitting a) else found_first (a + 1) n) (tests a ∙ other.0) ∙ found_within n (a + 1) (let apart = other.1 in omega arith) (omega arith)
  ]

  found_past : (n a : ℕ) → a + n ≤ i → found_first a n ≡ None
  found_past zero a past = refl
  found_past (suc n) a past = elim (eqb_tells a i) [
    | inl here ↦ absurd (let same = here.1 in omega arith)
    | inr other ↦ ap (λ b. if b then Some (sitting a) else found_first (a + 1) n) (tests a ∙ other.0) ∙ found_past n (a + 1) (omega arith)
  ]

module _ (n i : ℕ) where
  pub first_seat : i < n → seat_of (first_view n) i ≡ Some i
  first_seat within = ap (option_map (λ (m : Member). m.place)) (found_within (λ m. m.identity == i) i (λ a. refl) n 0 (omega arith) (omega arith))

  pub no_seat : n ≤ i → seat_of (first_view n) i ≡ None
  no_seat past = ap (option_map (λ (m : Member). m.place)) (found_past (λ m. m.identity == i) i (λ a. refl) n 0 (omega arith))

  pub first_identity : i < n → identity_at (first_view n) i ≡ Some i
  first_identity within = ap (option_map (λ (m : Member). m.identity)) (found_within (λ m. m.place == i) i (λ a. refl) n 0 (omega arith) (omega arith))

  pub no_identity : n ≤ i → identity_at (first_view n) i ≡ None
  no_identity past = ap (option_map (λ (m : Member). m.identity)) (found_past (λ m. m.place == i) i (λ a. refl) n 0 (omega arith))

-- KEEPERS THAT FORGET

pub none_of : {X : Type 0} (o : Option X) → ((x : X) → o ≡ Some x → ⊥) → o ≡ None
none_of None none = refl
none_of (Some x) none = absurd (none x refl)

module _ {K : Type 0} (keeping : Keeping K) where
  -- those below a place forgot all, and the others were not called
  pub record AreClearedBelow (place : ℕ) (old now : List K) : Type 0 where
    pub count : length now ≡ length old
    pub earlier : (p : ℕ) (before after : K) → slice_get old p ≡ Some before → slice_get now p ≡ Some after → p < place → IsCleared keeping before after
    pub later : (p : ℕ) → place ≤ p → slice_get now p ≡ slice_get old p

  pub all_cleared : (place : ℕ) (old now : List K) → length old ≤ place → AreClearedBelow place old now → AreCleared keeping old now
  all_cleared place old now past so_far =
      record { count = so_far.count; each = λ p before after a b. so_far.earlier p before after a b (let within = slice_get_within old p before a in omega arith) }

  module _ (place : ℕ) (old now : List K) (keeper new : K) (within : place < length now) (is : keeper ≡ get_or now place keeper) (so_far : AreClearedBelow place old now) where
    -- the keeper that was at the place
    was_at : slice_get old place ≡ Some keeper
    was_at = sym (so_far.later place (omega arith)) ∙ slice_get-get_or now place keeper within ∙ ap Some (sym is)

    was : (before : K) → slice_get old place ≡ Some before → keeper ≡ before
    was before e = same_some keeper before (sym was_at ∙ e)

    is_now : (after : K) → slice_get (set now place new) place ≡ Some after → new ≡ after
    is_now after e = same_some new after (sym (slice_get-set_same now place new within) ∙ e)

    others : (p : ℕ) → p ≢ place → slice_get (set now place new) p ≡ slice_get now p
    others p apart = slice_get-set_other now place p new apart

    changed : (Holds : ℕ → K → K → Type 0) → Holds place keeper new → ((p : ℕ) (before after : K) → p ≢ place → slice_get old p ≡ Some before → slice_get now p ≡ Some after → Holds p before after) → AtEachPlace Holds old (set now place new)
    changed Holds here there =
        record {
          count = length-set now place new ∙ so_far.count;
          each = at_one (λ p. (before after : K) → slice_get old p ≡ Some before → slice_get (set now place new) p ≡ Some after → Holds p before after) place
              (λ before after a b. subst (λ x. Holds place x after) (was before a) (subst (λ x. Holds place keeper x) (is_now after b) here)) (λ p apart before after a b. there p before after apart a (sym (others p apart) ∙ b));
        }

    same_later : (p : ℕ) (before after : K) → place ≤ p → slice_get old p ≡ Some before → slice_get now p ≡ Some after → after ≡ before
    same_later p before after past a b = same_some after before (sym b ∙ so_far.later p past ∙ a)

    pub one_cleared : IsCleared keeping keeper new → AreClearedBelow (place + 1) old (set now place new)
    one_cleared cleared =
        let all = changed (λ p before after. p < place + 1 → IsCleared keeping before after) (λ h. cleared) (λ p before after apart a b h. so_far.earlier p before after a b (omega arith)) in
        record { count = all.count; earlier = all.each; later = λ p past. others p (omega arith) ∙ so_far.later p (omega arith) }

    pub one_failed : FailsToClear keeping keeper new → IsNotCleared keeping place old (set now place new)
    one_failed failed =
        record {
          within = let same = so_far.count in omega arith;
          earlier = changed (λ p before after. p < place → IsCleared keeping before after) (λ h. absurd (omega arith)) (λ p before after apart a b h. so_far.earlier p before after a b h);
          failed = changed (λ p before after. p ≡ place → FailsToClear keeping before after) (λ h. failed) (λ p before after apart a b h. absurd (apart h));
          later = changed (λ p before after. place < p → after ≡ before) (λ h. absurd (omega arith)) (λ p before after apart a b h. same_later p before after (omega arith) a b);
        }

    pub one_refused : Keeps keeping [] keeper new → AreKept keeping old (set now place new)
    one_refused kept =
        changed (λ p before after. (answers : List _) × Keeps keeping answers before after) ([], kept)
        (λ p before after apart a b. elim (cases_lt p place) [
          | inl below ↦ (true ∷ [], (so_far.earlier p before after a b below).answered)
          | inr past ↦ ([], subst (λ x. Keeps keeping [] before x) (sym (same_later p before after past a b)) (not_called keeping before))
        ])

    pub refused : (error : KeeperError) → RefusesToClear keeping error keeper new → RefusesClear keeping place error old (set now place new)
    refused Failed h = one_failed h
    refused Memory h = one_refused h

  -- the place's number, as an index
  module _ (place index : ℕ) (same : index ≡ place) (old now : List K) (keeper new : K) (within : index < length now) (is : keeper ≡ get_or now index keeper) (so_far : AreClearedBelow place old now) where
    below : AreClearedBelow index old now
    below = subst (λ p. AreClearedBelow p old now) (sym same) so_far

    pub cleared_at : IsCleared keeping keeper new → AreClearedBelow (place + 1) old (set now index new)
    cleared_at cleared = subst (λ p. AreClearedBelow (p + 1) old (set now index new)) same (one_cleared index old now keeper new within is below cleared)

    pub refused_at : (error : KeeperError) → RefusesToClear keeping error keeper new → RefusesClear keeping place error old (set now index new)
    refused_at error h = subst (λ p. RefusesClear keeping p error old (set now index new)) same (refused index old now keeper new within is below error h)

-- no keeper refused
pub none_refused : {K : Type 0} (keeping : Keeping K) (refusal : Option (ℕ × KeeperError)) (old new : List K) → ((x : ℕ × KeeperError) → refusal ≡ Some x → ⊥) → Clears keeping refusal old new → AreCleared keeping old new
none_refused keeping None old new none h = h
none_refused keeping (Some x) old new none h = absurd (none x refl)

-- KEEPERS AT THEIR PLACES

-- the last keepers are at their places
pub record IsPutBy {K : Type 0} (all keepers : Vec K Global) (spare : Vec (Option K) Global) : Type 0 where
  pub places : vec_len spare ≡ 8
  pub few : vec_len keepers ≤ 8
  pub left : (p : ℕ) → p < vec_len keepers → slice_get keepers.items p ≡ slice_get all.items p
  pub put : (p : ℕ) → vec_len keepers ≤ p → p < 8 → slice_get spare.items p ≡ option_map Some (slice_get all.items p)
  pub capacity : vec_capacity all ≤ vec_capacity keepers

pub put_whole : {K : Type 0} (all keepers : Vec K Global) (spare : Vec (Option K) Global) → IsPutBy all keepers spare → vec_len keepers ≡ 0 → vec_len all ≡ 8 → spare.items ≡ map Some all.items
put_whole all keepers spare so_far none eight =
    same_places spare.items (map Some all.items) (omega (arith, so_far.places, spare.ok.0, all.ok.0, length-map_some all.items)) (λ p. elim (cases_lt p 8) [
      | inl below ↦ so_far.put p (omega arith) below ∙ sym (slice_get-map Some all.items p)
      | inr past ↦ slice_get_past spare.items p (omega (arith, so_far.places, spare.ok.0)) ∙ sym (slice_get_past (map Some all.items) p (omega (arith, all.ok.0, length-map_some all.items)))
    ])
  where
    length-map_some : {X : Type 0} (xs : List X) → length (map (λ (x : X). Some x) xs) ≡ length xs
    length-map_some [] = refl
    length-map_some (x ∷ xs) = ap suc (length-map_some xs)

-- ALL KEEPERS

module _ {T K Kind Op Delta : Type 0} {ghosts : Ghosts T Kind Op Delta} {keeping : Keeping K} where
  abbrev pub keepers_in : List (Option (Node T K Kind Op Delta ghosts keeping) × Option K) → List K
  keepers_in [] = []
  keepers_in (p ∷ ps) = option_to_list (first_keeper p.0 p.1) ++ keepers_in ps

  pub in_zip : (nodes : List (Option (Node T K Kind Op Delta ghosts keeping))) (spare : List (Option K)) → keepers_in (zip nodes spare) ≡ keepers_of nodes spare
  in_zip [] spare = refl
  in_zip (n ∷ nodes) [] = refl
  in_zip (n ∷ nodes) (s ∷ spare) = ap (λ ks. option_to_list (first_keeper n s) ++ ks) (in_zip nodes spare)

  pub zip_short : (nodes : List (Option (Node T K Kind Op Delta ghosts keeping))) (spare : List (Option K)) → length (zip nodes spare) ≤ length nodes
  zip_short [] spare = omega arith
  zip_short (n ∷ nodes) [] = omega arith
  zip_short (n ∷ nodes) (s ∷ spare) = let rest = zip_short nodes spare in omega arith

  in_append : (ps qs : List (Option (Node T K Kind Op Delta ghosts keeping) × Option K)) → keepers_in (ps ++ qs) ≡ keepers_in ps ++ keepers_in qs
  in_append [] qs = refl
  in_append (p ∷ ps) qs = ap (λ ks. option_to_list (first_keeper p.0 p.1) ++ ks) (in_append ps qs) ∙ sym (append_assoc (option_to_list (first_keeper p.0 p.1)) (keepers_in ps) (keepers_in qs))

  -- the keepers of the pairs so far stand behind the first ones
  pub record AreGathered (room : Vec K Global) (pairs : List (Option (Node T K Kind Op Delta ghosts keeping) × Option K)) (keepers : Vec K Global) : Type 0 where
    pub items : keepers.items ≡ room.items ++ keepers_in pairs
    pub few : vec_len keepers ≤ vec_len room + length pairs
    pub capacity : vec_capacity room ≤ vec_capacity keepers

  pub one_gathered : (room keepers new : Vec K Global) (pairs : List (Option (Node T K Kind Op Delta ghosts keeping) × Option K)) (node : Option (Node T K Kind Op Delta ghosts keeping)) (spare : Option K) → AreGathered room pairs keepers
      → new.items ≡ keepers.items ++ option_to_list (first_keeper node spare) → vec_len new ≤ vec_len keepers + 1 → vec_capacity keepers ≤ vec_capacity new → AreGathered room (pairs ++ (node, spare) ∷ []) new
  one_gathered room keepers new pairs node spare so_far items few capacity =
      record {
        items =
            items ∙ ap (λ (ks : List K). ks ++ option_to_list (first_keeper node spare)) so_far.items ∙ append_assoc room.items (keepers_in pairs) (option_to_list (first_keeper node spare))
            ∙ ap (λ (ks : List K). room.items ++ ks) (ap (λ (ks : List K). keepers_in pairs ++ ks) (sym (append_nothing (option_to_list (first_keeper node spare)))) ∙ sym (in_append pairs ((node, spare) ∷ [])));
        few = let a = so_far.few in omega (arith, length-append pairs ((node, spare) ∷ []));
        capacity = let a = so_far.capacity in omega arith;
      }

  pub all_gathered : (room keepers : Vec K Global) (pairs : List (Option (Node T K Kind Op Delta ghosts keeping) × Option K)) (nodes : List (Option (Node T K Kind Op Delta ghosts keeping))) (spare : List (Option K))
      → map (λ (p : Option (Node T K Kind Op Delta ghosts keeping) × Option K). (p.0, p.1)) pairs ≡ zip nodes spare → AreGathered room pairs keepers → keepers.items ≡ room.items ++ keepers_of nodes spare
  all_gathered room keepers pairs nodes spare ends so_far = so_far.items ∙ ap (λ (ks : List K). room.items ++ ks) (ap keepers_in (sym (map-id pairs) ∙ ends) ∙ in_zip nodes spare)

  -- where each place has the keeper of a list, all of them are the list
  pub keepers_are : (nodes : List (Option (Node T K Kind Op Delta ghosts keeping))) (spare : List (Option K)) (keepers : List K) → length nodes ≡ length keepers → length spare ≡ length keepers
      → ((place : ℕ) → keeper_of nodes spare place ≡ slice_get keepers place) → keepers_of nodes spare ≡ keepers
  keepers_are [] spare [] a b each = refl
  keepers_are [] spare (k ∷ keepers) a b each = absurd (omega arith)
  keepers_are (n ∷ nodes) [] [] a b each = absurd (omega arith)
  keepers_are (n ∷ nodes) [] (k ∷ keepers) a b each = absurd (omega arith)
  keepers_are (n ∷ nodes) (s ∷ spare) [] a b each = absurd (omega arith)
  keepers_are (n ∷ nodes) (s ∷ spare) (k ∷ keepers) a b each =
      ap (λ (o : Option K). option_to_list o ++ keepers_of nodes spare) (each 0) ∙ ap (λ ks. k ∷ ks) (keepers_are nodes spare keepers (omega arith) (omega arith) (λ place. each (suc place)))

-- THE FIRST MEMBERS

module _ {X : Type 0} where
  pub same_item : (xs ys : List (Option X)) (p : ℕ) → slice_get xs p ≡ slice_get ys p → item_at xs p ≡ item_at ys p
  same_item xs ys p e = ap (option_and_then (λ (y : Option X). y)) e

module _ {T K Kind Op Delta : Type 0} {ghosts : Ghosts T Kind Op Delta} {keeping : Keeping K} where
  -- those below a place are seated, and the others' keepers are as before
  pub record IsSeatedBelow (place : ℕ) (keys : List (KeyDecl T Kind Op Delta)) (members : ℕ) (nodes : Vec (Option (Node T K Kind Op Delta ghosts keeping)) Global) (spare left : Vec (Option K) Global) : Type 0 where
    pub eight_nodes : vec_len nodes ≡ 8
    pub eight_spare : vec_len left ≡ 8
    pub seated : (p : ℕ) (keeper : K) → p < place → item_at spare.items p ≡ Some keeper → (node : Node T K Kind Op Delta ghosts keeping) × (item_at nodes.items p ≡ Some node) × IsNewMember p (first_view members) keys keeper node
    pub taken : (p : ℕ) (keeper : K) → p < place → item_at spare.items p ≡ Some keeper → item_at left.items p ≡ None
    pub free : (p : ℕ) → place ≤ p → item_at nodes.items p ≡ None
    pub spares : (p : ℕ) → place ≤ p → item_at left.items p ≡ item_at spare.items p

  module _ (keys : List (KeyDecl T Kind Op Delta)) (members : ℕ) (spare : Vec (Option K) Global) where
    module _ (place : ℕ) (nodes new : Vec (Option (Node T K Kind Op Delta ghosts keeping)) Global) (left now : Vec (Option K) Global) (eight : vec_len new ≡ 8) (eight_spare : vec_len now ≡ 8) (so_far : IsSeatedBelow place keys members nodes spare left) (seats : Seats place (first_view members) keys place nodes.items new.items left.items now.items) where
      nodes_elsewhere : (p : ℕ) → p ≢ place → item_at new.items p ≡ item_at nodes.items p
      nodes_elsewhere p apart = same_item new.items nodes.items p (seats.others p apart)

      spares_elsewhere : (p : ℕ) → p ≢ place → item_at now.items p ≡ item_at left.items p
      spares_elsewhere p apart = same_item now.items left.items p (seats.spares p apart)

      seated_now : (p : ℕ) (keeper : K) → p < place + 1 → item_at spare.items p ≡ Some keeper → (node : Node T K Kind Op Delta ghosts keeping) × (item_at new.items p ≡ Some node) × IsNewMember p (first_view members) keys keeper node
      seated_now p keeper below e = elim (eqb_tells p place) [
        | inl here ↦
            subst (λ q. (node : Node T K Kind Op Delta ghosts keeping) × (item_at new.items q ≡ Some node) × IsNewMember q (first_view members) keys keeper node) (sym here.1)
            (seats.seated keeper (so_far.spares place (omega arith) ∙ ap (item_at spare.items) (sym here.1) ∙ e))
        | inr other ↦
            let old = so_far.seated p keeper (let apart = other.1 in omega arith) e in
            (old.0, nodes_elsewhere p other.1 ∙ old.1, old.2)
      ]

      taken_now : (p : ℕ) (keeper : K) → p < place + 1 → item_at spare.items p ≡ Some keeper → item_at now.items p ≡ None
      taken_now p keeper below e = elim (eqb_tells p place) [
        | inl here ↦
            ap (item_at now.items) here.1 ∙ ap (option_and_then (λ (y : Option K). y)) (seats.taken keeper (so_far.spares place (omega arith) ∙ ap (item_at spare.items) (sym here.1) ∙ e))
        | inr other ↦ spares_elsewhere p other.1 ∙ so_far.taken p keeper (let apart = other.1 in omega arith) e
      ]

      pub one_seated : IsSeatedBelow (place + 1) keys members new spare now
      one_seated =
          record {
            eight_nodes = eight;
            eight_spare = eight_spare;
            seated = seated_now;
            taken = taken_now;
            free = λ p past. nodes_elsewhere p (omega arith) ∙ so_far.free p (omega arith);
            spares = λ p past. spares_elsewhere p (omega arith) ∙ so_far.spares p (omega arith);
          }

    module _ (place : ℕ) (nodes : Vec (Option (Node T K Kind Op Delta ghosts keeping)) Global) (left : Vec (Option K) Global) (so_far : IsSeatedBelow place keys members nodes spare left) where
      pub all_seated : place ≡ members → AreFirstSeats members keys nodes.items spare.items left.items
      all_seated same =
          record {
            seated = λ p keeper below e. so_far.seated p keeper (omega arith) e;
            taken = λ p keeper below e. so_far.taken p keeper (omega arith) e;
            free = λ p past. so_far.free p (omega arith);
            spares = λ p past. so_far.spares p (omega arith);
          }

      -- each keeper is at its place
      pub still_kept : place ≤ 8 → ((p : ℕ) → p < 8 → is_some (item_at spare.items p) ≡ true) → (p : ℕ) → keeper_of nodes.items left.items p ≡ item_at spare.items p
      still_kept few full p = elim (cases_lt p place) [
        | inl below ↦
            let k = some_there (item_at spare.items p) (full p (omega arith)) in
            let new = so_far.seated p k.0 below k.1 in
            ap (λ (o : Option (Node T K Kind Op Delta ghosts keeping)). first_keeper o (item_at left.items p)) new.1 ∙ ap Some new.2.kept ∙ sym k.1
        | inr past ↦ ap (λ (o : Option (Node T K Kind Op Delta ghosts keeping)). first_keeper o (item_at left.items p)) (so_far.free p past) ∙ so_far.spares p past
      ]

      -- also where the next one was refused
      pub kept_after : (new : Vec (Option (Node T K Kind Op Delta ghosts keeping)) Global) (now : Vec (Option K) Global) → new ≡ nodes → ((p : ℕ) → slice_get now.items p ≡ slice_get left.items p)
          → place ≤ 8 → ((p : ℕ) → p < 8 → is_some (item_at spare.items p) ≡ true) → (p : ℕ) → keeper_of new.items now.items p ≡ item_at spare.items p
      kept_after new now same each few full p =
          ap (λ (v : Vec (Option (Node T K Kind Op Delta ghosts keeping)) Global). keeper_of v.items now.items p) same
          ∙ ap (λ (o : Option K). first_keeper (item_at nodes.items p) o) (same_item now.items left.items p (each p)) ∙ still_kept few full p

-- EACH PLACE

-- an item of each place
joined : {X : Type 0} (o : Option X) → option_and_then (λ (y : Option X). y) (option_map Some o) ≡ o
joined None = refl
joined (Some x) = refl

pub item_of_all : {X : Type 0} (xs : List X) (p : ℕ) → item_at (map Some xs) p ≡ slice_get xs p
item_of_all {X} xs p = ap (option_and_then (λ (y : Option X). y)) (slice_get-map Some xs p) ∙ joined (slice_get xs p)

-- who forgot all gave one answer
pub cleared_kept : {K : Type 0} (keeping : Keeping K) (old new : List K) → AreCleared keeping old new → AreKept keeping old new
cleared_kept keeping old new cleared = record { count = cleared.count; each = λ p before after a b. (true ∷ [], (cleared.each p before after a b).answered) }

pub some_within : {X : Type 0} (xs : List X) (p : ℕ) → p < length xs → is_some (slice_get xs p) ≡ true
some_within [] p h = absurd (omega arith)
some_within (x ∷ xs) p h = ap is_some (slice_get-get_or (x ∷ xs) p x h)

module _ {T K Kind Op Delta : Type 0} {ghosts : Ghosts T Kind Op Delta} {keeping : Keeping K} (nodes : List (Option (Node T K Kind Op Delta ghosts keeping))) (spare left : List (Option K)) (cleared : List K) (put : spare ≡ map Some cleared) where
  module _ (kept : (place : ℕ) → keeper_of nodes left place ≡ item_at spare place) where
    pub kept_all : (place : ℕ) → keeper_of nodes left place ≡ slice_get cleared place
    kept_all place = kept place ∙ ap (λ xs. item_at xs place) put ∙ item_of_all cleared place

    -- the keepers come back
    pub come_back : (old items : List K) (room : List K) → room ≡ [] → length nodes ≡ length cleared → length left ≡ length cleared → items ≡ room ++ keepers_of nodes left → AreCleared keeping old cleared → AreKept keeping old items
    come_back old items room none a b these all =
        subst (λ xs. AreKept keeping old xs) (sym (these ∙ ap (λ xs. xs ++ keepers_of nodes left) none ∙ keepers_are nodes left cleared a b kept_all)) (cleared_kept keeping old cleared all)

    pub kept_each : (old : List K) → AreCleared keeping old cleared → (place : ℕ) (keeper : K) → slice_get old place ≡ Some keeper → KeepsAt keeping (true ∷ []) (Some keeper) (keeper_of nodes left place)
    kept_each old all place keeper e = go (slice_get cleared place) refl
      where
        go : (o : Option K) → slice_get cleared place ≡ o → KeepsAt keeping (true ∷ []) (Some keeper) (keeper_of nodes left place)
        go None none =
            let within = slice_get_within old place keeper e in
            absurd (let there : false ≡ true = ap is_some (sym none) ∙ some_within cleared place (let same = all.count in omega arith) in cc)
        go (Some after) is = subst (λ o. KeepsAt keeping (true ∷ []) (Some keeper) o) (sym (kept_all place ∙ is)) (all.each place keeper after e is).answered

  abbrev HasLimit : Node T K Kind Op Delta ghosts keeping → Type 0
  HasLimit node = node.limit ≡ program_steps

  -- each place has its member or its keeper
  pub seats_first : (members : ℕ) (keys : List (KeyDecl T Kind Op Delta)) → members ≤ 8 → length cleared ≡ 8 → AreFirstSeats members keys nodes spare left → AreSeated (first_view members ∷ []) nodes left
  seats_first members keys few eight seats = record { members = at_place; spares = spare_at; limits = limited_at }
    where
      keeper_there : (place : ℕ) → place < 8 → (keeper : K) × (item_at spare place ≡ Some keeper)
      keeper_there place within = go (slice_get cleared place) refl
        where
          go : (o : Option K) → slice_get cleared place ≡ o → (keeper : K) × (item_at spare place ≡ Some keeper)
          go None none = absurd (let there : false ≡ true = ap is_some (sym none) ∙ some_within cleared place (omega arith) in cc)
          go (Some keeper) is = (keeper, ap (λ xs. item_at xs place) put ∙ item_of_all cleared place ∙ is)

      at_place : (place : ℕ) → place < 8 → option_map (λ (node : Node T K Kind Op Delta ghosts keeping). node.id) (item_at nodes place) ≡ identity_at (first_view members) place
      at_place place within = elim (cases_lt place members) [
        | inl below ↦
            let k = keeper_there place within in
            let new = seats.seated place k.0 below k.1 in
            ap (option_map (λ (node : Node T K Kind Op Delta ghosts keeping). node.id)) new.1 ∙ ap Some new.2.identity ∙ sym (first_identity members place below)
        | inr past ↦ ap (option_map (λ (node : Node T K Kind Op Delta ghosts keeping). node.id)) (seats.free place past) ∙ sym (no_identity members place past)
      ]

      spare_at : (place : ℕ) → place < 8 → is_some (item_at left place) ≡ not (is_some (item_at nodes place))
      spare_at place within = elim (cases_lt place members) [
        | inl below ↦
            let k = keeper_there place within in
            let new = seats.seated place k.0 below k.1 in
            ap is_some (seats.taken place k.0 below k.1) ∙ sym (ap (λ (o : Option (Node T K Kind Op Delta ghosts keeping)). not (is_some o)) new.1)
        | inr past ↦
            let k = keeper_there place within in
            ap is_some (seats.spares place past ∙ k.1) ∙ sym (ap (λ (o : Option (Node T K Kind Op Delta ghosts keeping)). not (is_some o)) (seats.free place past))
      ]

      limited_at : (place : ℕ) → place < 8 → ForSome (item_at nodes place) HasLimit
      limited_at place within = elim (cases_lt place members) [
        | inl below ↦
            let k = keeper_there place within in
            let new = seats.seated place k.0 below k.1 in
            for_this HasLimit (item_at nodes place) new.0 new.1 new.2.limit
        | inr past ↦ for_none HasLimit (item_at nodes place) (seats.free place past)
      ]
