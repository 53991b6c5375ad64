-- Desks by identities, where one is found, changed, added or left out.
use Rattle.std.proofs.Common.{◌≡◌, ℕ, zero, suc, ◌<◌, ◌⊎◌, inl, inr, List, [], ◌∷◌, ◌++◌, length, get_or, set, position, Bool, true, false, ◌==◌, cond, Option, None, Some, refl, sym, ap, ◌∙◌, arith}
use Rattle.std.specs.Prelude.{filter, find, if◌then◌else◌}
use Rattle.std.proofs.lemmas.Bool.{eqb-true, eq-eqb}
use Rattle.std.proofs.lemmas.Bool.Decides.{eqb_tells}
use Rattle.std.proofs.lemmas.List.Quantifiers.{position-Some}
use Rattle.model_history.specs.Table.{with_at}
use Rattle.member_node.proofs.Lists.{position-none}
use Rattle.member_desk.specs.declared.followed.Followed.{Followed}
use Rattle.member_desk.specs.declared.look.Told.{Told}
use Rattle.world_desks.specs.declared.seats.Seat.{Seat}
use Rattle.world_desks.specs.Seats.{desk_of, IsSame, ChangesAt}

abbrev Desk : Type 0
Desk = List (Followed Told)

abbrev is_at : ℕ → Seat → Bool
is_at at seat = seat.id == at

-- another identity's desk stays
abbrev over : (b : Bool) → Desk → Desk → Desk
over b desk other = if b then desk else other

abbrev desk_in : Option Seat → Desk → Desk
desk_in None desk = desk
desk_in (Some seat) desk = seat.desk

-- AT A PLACE

-- a desk in the first place of an identity
set_first : (seats : List Seat) (at k : ℕ) (s : Seat) → k < length seats → ((j : ℕ) (d : Seat) → j < k → is_at at (get_or seats j d) ≡ false) → ((d : Seat) → is_at at (get_or seats k d) ≡ true) → s.id ≡ at
    → (i : ℕ) → desk_of (set seats k s) i ≡ over (i == at) s.desk (desk_of seats i)
set_first [] at k s less before here is i = absurd (omega (arith, less))
set_first (x ∷ xs) at zero s less before here is i = by_test (eqb_tells i at)
  where
    by_test : (((i == at) ≡ true) × (i ≡ at)) ⊎ (((i == at) ≡ false) × (i ≡ at → ⊥)) → over (s.id == i) s.desk (desk_of xs i) ≡ over (i == at) s.desk (over (x.id == i) x.desk (desk_of xs i))
    by_test (inl same) =
        ap (λ b. over b s.desk (desk_of xs i)) (eq-eqb s.id i (is ∙ sym same.1)) ∙ ap (λ b. over b s.desk (over (x.id == i) x.desk (desk_of xs i))) (sym same.0)
    by_test (inr apart) =
        ap (λ b. over b s.desk (desk_of xs i)) (other s.id is) ∙ sym (ap (λ b. over b x.desk (desk_of xs i)) (other x.id (eqb-true x.id at (here x)))) ∙ ap (λ b. over b s.desk (over (x.id == i) x.desk (desk_of xs i))) (sym apart.0)
      where
        other : (n : ℕ) → n ≡ at → (n == i) ≡ false
        other n e = by_told (eqb_tells n i)
          where
            by_told : (((n == i) ≡ true) × (n ≡ i)) ⊎ (((n == i) ≡ false) × (n ≡ i → ⊥)) → (n == i) ≡ false
            by_told (inl h) = absurd (apart.1 (sym h.1 ∙ e))
            by_told (inr h) = h.0
set_first (x ∷ xs) at (suc k) s less before here is i = by_test (eqb_tells i at) (set_first xs at k s (omega (arith, less)) (λ j d l. before (suc j) d (omega (arith, l))) here is i)
  where
    by_test : (((i == at) ≡ true) × (i ≡ at)) ⊎ (((i == at) ≡ false) × (i ≡ at → ⊥)) → desk_of (set xs k s) i ≡ over (i == at) s.desk (desk_of xs i)
        → over (x.id == i) x.desk (desk_of (set xs k s) i) ≡ over (i == at) s.desk (over (x.id == i) x.desk (desk_of xs i))
    by_test (inl same) rest =
        let not_first : (x.id == i) ≡ false = ap (λ n. x.id == n) same.1 ∙ before zero x (omega arith) in
        ap (λ b. over b x.desk (desk_of (set xs k s) i)) not_first ∙ rest ∙ ap (λ b. over b s.desk (desk_of xs i)) same.0 ∙ ap (λ b. over b s.desk (over (x.id == i) x.desk (desk_of xs i))) (sym same.0)
    by_test (inr apart) rest =
        ap (λ desk. over (x.id == i) x.desk desk) (rest ∙ ap (λ b. over b s.desk (desk_of xs i)) apart.0) ∙ ap (λ b. over b s.desk (over (x.id == i) x.desk (desk_of xs i))) (sym apart.0)

-- and what stands there
read_first : (seats : List Seat) (at k : ℕ) → k < length seats → ((j : ℕ) (d : Seat) → j < k → is_at at (get_or seats j d) ≡ false) → ((d : Seat) → is_at at (get_or seats k d) ≡ true) → (d : Seat) → desk_of seats at ≡ (get_or seats k d).desk
read_first [] at k less before here d = absurd (omega (arith, less))
read_first (x ∷ xs) at zero less before here d = ap (λ b. over b x.desk (desk_of xs at)) (here x)
read_first (x ∷ xs) at (suc k) less before here d =
    ap (λ b. over b x.desk (desk_of xs at)) (before zero x (omega arith)) ∙ read_first xs at k (omega (arith, less)) (λ j d l. before (suc j) d (omega (arith, l))) here d

module _ (seats : List Seat) (at k : ℕ) (found : Some k ≡ position (λ (seat : Seat). seat.id == at) seats) where
  pub at_within : k < length seats
  at_within = by_first seats found
    where
      by_first : (xs : List Seat) → Some k ≡ position (λ (seat : Seat). seat.id == at) xs → k < length xs
      by_first [] e = absurd (cc e)
      by_first (x ∷ xs) e = (position-Some (is_at at) (x ∷ xs) k x (sym e)).0

  first : (d : Seat) → (k < length seats) × (is_at at (get_or seats k d) ≡ true) × ((j : ℕ) → j < k → is_at at (get_or seats j d) ≡ false)
  first d = position-Some (is_at at) seats k d (sym found)

  -- the desk of the identity stands there
  pub desk_found : (d : Seat) → desk_of seats at ≡ (get_or seats k d).desk
  desk_found d = read_first seats at k at_within (λ j d l. (first d).2 j l) (λ d. (first d).1) d

  pub identity_found : (d : Seat) → (get_or seats k d).id ≡ at
  identity_found d = eqb-true (get_or seats k d).id at (first d).1

  -- another desk was put there
  pub desk_changed : (s : Seat) (new : List Seat) → s.id ≡ at → new ≡ set seats k s → ChangesAt at s.desk seats new
  desk_changed s new is now i = ap (λ (ss : List Seat). desk_of ss i) now ∙ set_first seats at k s at_within (λ j d l. (first d).2 j l) (λ d. (first d).1) is i

-- WHERE THERE IS NONE

pub desk_none : (seats : List Seat) (at : ℕ) → None ≡ position (λ (seat : Seat). seat.id == at) seats → desk_of seats at ≡ []
desk_none seats at e = by_find seats (position-none (is_at at) seats e)
  where
    by_find : (xs : List Seat) → find (is_at at) xs ≡ None → desk_of xs at ≡ []
    by_find [] e = refl
    by_find (x ∷ xs) e = go (x.id == at) refl e (by_find xs)
      where
        go : (b : Bool) → (x.id == at) ≡ b → cond b (Some x) (find (is_at at) xs) ≡ None → (find (is_at at) xs ≡ None → desk_of xs at ≡ []) → desk_of (x ∷ xs) at ≡ []
        go true is e later = absurd (cc e)
        go false is e later = ap (λ b. over b x.desk (desk_of xs at)) is ∙ later e

-- a desk was added behind the others
pub desk_added : (seats new : List Seat) (at : ℕ) (s : Seat) → None ≡ position (λ (seat : Seat). seat.id == at) seats → s.id ≡ at → new ≡ seats ++ s ∷ [] → ChangesAt at s.desk seats new
desk_added seats new at s none is now i = ap (λ (ss : List Seat). desk_of ss i) now ∙ behind seats ∙ by_test (eqb_tells i at)
  where
    behind : (xs : List Seat) → desk_of (xs ++ s ∷ []) i ≡ desk_in (find (is_at i) xs) (over (s.id == i) s.desk [])
    behind [] = refl
    behind (x ∷ xs) = go (x.id == i) (behind xs)
      where
        go : (b : Bool) → desk_of (xs ++ s ∷ []) i ≡ desk_in (find (is_at i) xs) (over (s.id == i) s.desk []) → over b x.desk (desk_of (xs ++ s ∷ []) i) ≡ desk_in (cond b (Some x) (find (is_at i) xs)) (over (s.id == i) s.desk [])
        go true rest = refl
        go false rest = rest

    is_in : (xs : List Seat) → desk_in (find (is_at i) xs) [] ≡ desk_of xs i
    is_in [] = refl
    is_in (x ∷ xs) = go (x.id == i) (is_in xs)
      where
        go : (b : Bool) → desk_in (find (is_at i) xs) [] ≡ desk_of xs i → desk_in (cond b (Some x) (find (is_at i) xs)) [] ≡ over b x.desk (desk_of xs i)
        go true rest = refl
        go false rest = rest

    by_test : (((i == at) ≡ true) × (i ≡ at)) ⊎ (((i == at) ≡ false) × (i ≡ at → ⊥)) → desk_in (find (is_at i) seats) (over (s.id == i) s.desk []) ≡ over (i == at) s.desk (desk_of seats i)
    by_test (inl same) =
        ap (λ n. desk_in (find (is_at n) seats) (over (s.id == n) s.desk [])) same.1 ∙ ap (λ o. desk_in o (over (s.id == at) s.desk [])) (position-none (is_at at) seats none) ∙ ap (λ b. over b s.desk []) (eq-eqb s.id at is)
        ∙ ap (λ b. over b s.desk (desk_of seats i)) (sym same.0)
    by_test (inr apart) =
        ap (λ b. desk_in (find (is_at i) seats) (over b s.desk [])) (other (eqb_tells s.id i)) ∙ is_in seats ∙ ap (λ b. over b s.desk (desk_of seats i)) (sym apart.0)
      where
        other : (((s.id == i) ≡ true) × (s.id ≡ i)) ⊎ (((s.id == i) ≡ false) × (s.id ≡ i → ⊥)) → (s.id == i) ≡ false
        other (inl h) = absurd (apart.1 (sym h.1 ∙ is))
        other (inr h) = h.0

-- where nothing is followed, that nothing changes
pub nothing_changed : (seats : List Seat) (at : ℕ) (desk : Desk) → desk_of seats at ≡ desk → ChangesAt at desk seats seats
nothing_changed seats at desk is i = by_test (eqb_tells i at)
  where
    by_test : (((i == at) ≡ true) × (i ≡ at)) ⊎ (((i == at) ≡ false) × (i ≡ at → ⊥)) → desk_of seats i ≡ over (i == at) desk (desk_of seats i)
    by_test (inl same) = ap (desk_of seats) same.1 ∙ is ∙ ap (λ b. over b desk (desk_of seats i)) (sym same.0)
    by_test (inr apart) = ap (λ b. over b desk (desk_of seats i)) (sym apart.0)

-- a change to what was there is none
pub changed_same : (old new : List Seat) (at : ℕ) (desk : Desk) → desk ≡ desk_of old at → ChangesAt at desk old new → IsSame old new
changed_same old new at desk is changes i = changes i ∙ by_test (eqb_tells i at)
  where
    by_test : (((i == at) ≡ true) × (i ≡ at)) ⊎ (((i == at) ≡ false) × (i ≡ at → ⊥)) → over (i == at) desk (desk_of old i) ≡ desk_of old i
    by_test (inl same) = ap (λ b. over b desk (desk_of old i)) same.0 ∙ is ∙ ap (desk_of old) (sym same.1)
    by_test (inr apart) = ap (λ b. over b desk (desk_of old i)) apart.0

-- WHERE SOME ARE LEFT OUT

pub desk_filtered : (keep : ℕ → Bool) (seats : List Seat) (i : ℕ) → desk_of (filter (λ (seat : Seat). keep seat.id) seats) i ≡ over (keep i) (desk_of seats i) []
desk_filtered keep [] i = go (keep i)
  where
    go : (b : Bool) → [] ≡ over b [] []
    go true = refl
    go false = refl
desk_filtered keep (x ∷ xs) i = by_kept (keep x.id) refl (desk_filtered keep xs i)
  where
    by_kept : (b : Bool) → keep x.id ≡ b → desk_of (filter (λ (seat : Seat). keep seat.id) xs) i ≡ over (keep i) (desk_of xs i) []
        → desk_of (cond b (x ∷ filter (λ (seat : Seat). keep seat.id) xs) (filter (λ (seat : Seat). keep seat.id) xs)) i ≡ over (keep i) (over (x.id == i) x.desk (desk_of xs i)) []
    by_kept b kept rest = by_test (eqb_tells x.id i) b kept
      where
        by_test : (((x.id == i) ≡ true) × (x.id ≡ i)) ⊎ (((x.id == i) ≡ false) × (x.id ≡ i → ⊥)) → (b : Bool) → keep x.id ≡ b
            → desk_of (cond b (x ∷ filter (λ (seat : Seat). keep seat.id) xs) (filter (λ (seat : Seat). keep seat.id) xs)) i ≡ over (keep i) (over (x.id == i) x.desk (desk_of xs i)) []
        by_test (inl same) true kept =
            ap (λ b. over b x.desk (desk_of (filter (λ (seat : Seat). keep seat.id) xs) i)) same.0 ∙ ap (λ b. over b x.desk []) (sym kept ∙ ap keep same.1) ∙ ap (λ b. over (keep i) (over b x.desk (desk_of xs i)) []) (sym same.0)
        by_test (inl same) false kept =
            let none : keep i ≡ false = sym (ap keep same.1) ∙ kept in
            rest ∙ ap (λ b. over b (desk_of xs i) []) none ∙ sym (ap (λ b. over b (over (x.id == i) x.desk (desk_of xs i)) []) none)
        by_test (inr apart) true kept =
            ap (λ b. over b x.desk (desk_of (filter (λ (seat : Seat). keep seat.id) xs) i)) apart.0 ∙ rest ∙ ap (λ b. over (keep i) (over b x.desk (desk_of xs i)) []) (sym apart.0)
        by_test (inr apart) false kept = rest ∙ ap (λ b. over (keep i) (over b x.desk (desk_of xs i)) []) (sym apart.0)

-- A PLACE IS EDITED

-- what was changed is there
pub changed_there : (old new : List Seat) (at : ℕ) (desk : Desk) → ChangesAt at desk old new → desk_of new at ≡ desk
changed_there old new at desk changes = changes at ∙ ap (λ b. over b desk (desk_of old at)) (eq-eqb at at refl)

module _ (seats : List Seat) (at k : ℕ) (found : Some k ≡ position (λ (seat : Seat). seat.id == at) seats) (here : Seat) (is : here ≡ get_or seats k here) where
  pub desk_here : here.desk ≡ desk_of seats at
  desk_here = ap (λ (s : Seat). s.desk) is ∙ sym (desk_found seats at k found here)

  pub edited_here : (new desk : Desk) → new ≡ desk → ChangesAt at desk seats (set seats k (record { id = here.id; desk = new }))
  edited_here new desk same i =
      desk_changed seats at k found (record { id = here.id; desk = new }) (set seats k (record { id = here.id; desk = new })) (ap (λ (s : Seat). s.id) is ∙ identity_found seats at k found here) refl i
      ∙ ap (λ d. with_at (desk_of seats) at d i) same

  pub stands_here : (new : Desk) → new ≡ desk_of (set seats k (record { id = here.id; desk = new })) at
  stands_here new = sym (changed_there seats (set seats k (record { id = here.id; desk = new })) at new (edited_here new new refl))
