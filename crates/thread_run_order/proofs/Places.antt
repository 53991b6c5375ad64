-- Identities and their places.
use Rattle.std.proofs.Common.{◌≡◌, ℕ, ◌<◌, ◌≤◌, List, [], ◌∷◌, refl, sym, ap, ◌∙◌, arith, true, Option, Some, None, inl, inr}
use Rattle.std.specs.Prelude.{AllPairs, map, if◌then◌else◌, ◌==◌, ◌||◌, option_map, IsTrue}
use Rattle.std.specs.List.{list_any}
use Rattle.std.proofs.lemmas.Bool.Decides.{eqb_tells}
use Rattle.std.proofs.lemmas.Bool.{eqb-true, eq-eqb}
use Rattle.model_history.proofs.PruneLaws.{found}
use Rattle.model_members.specs.View.{View, Member, is_member, place_of}
use Rattle.member_views.specs.Sound.{IsView}
use Rattle.member_views.proofs.Others.{All-find, pairs_head, pairs_tail}
use Rattle.model_history.specs.Table.{identity_limit}
use Rattle.world_places.specs.Places.{identity_at, seat_of}
use Rattle.world_places.proofs.Seats.{with_identity, with_place, few_places, place_seated}

-- the member found by its place is found by its identity
found_by_place : (k : ℕ) (ms : List Member) (m : Member) → AllPairs (λ (a b : Member). a.identity < b.identity) ms → with_place k ms ≡ Some m → with_identity m.identity ms ≡ Some m
found_by_place k [] m rising e = absurd (cc e)
found_by_place k (x ∷ xs) m rising e = elim (eqb_tells x.place k) [
  | inl here ↦
      let same : ◌≡◌ {A = Option Member} (Some x) (Some m) = sym (ap (λ b. if b then Some x else with_place k xs) here.0) ∙ e in
      let is : x ≡ m = cc same in
      ap (λ b. if b then Some x else with_identity m.identity xs) (eq-eqb x.identity m.identity (ap (λ (n : Member). n.identity) is)) ∙ same
  | inr other ↦
      let later : with_place k xs ≡ Some m = sym (ap (λ b. if b then Some x else with_place k xs) other.0) ∙ e in
      let differs = All-find (λ (n : Member). x.identity < n.identity) (λ (n : Member). n.place == k) xs m later (pairs_head (λ (a b : Member). a.identity < b.identity) x xs rising) in
      elim (eqb_tells x.identity m.identity) [
        | inl same ↦ absurd (let s = same.1 in omega arith)
        | inr apart ↦ ap (λ b. if b then Some x else with_identity m.identity xs) apart.0 ∙ found_by_place k xs m (pairs_tail (λ (a b : Member). a.identity < b.identity) x xs rising) later
      ]
]

-- a member at a place
pub record IsThere (view : View) (k i : ℕ) : Type 0 where
  pub member : Member
  pub found : with_place k view.members ≡ Some member
  pub identity : member.identity ≡ i
  pub place_is : member.place ≡ k

is_there : (view : View) (k i : ℕ) → identity_at view k ≡ Some i → IsThere view k i
is_there view k i e = go (with_place k view.members) refl e
  where
    go : (o : Option Member) → with_place k view.members ≡ o → option_map (λ (m : Member). m.identity) o ≡ Some i → IsThere view k i
    go None is e = absurd (cc e)
    go (Some m) is e = record { member = m; found = is; identity = cc e; place_is = eqb-true m.place k (found (λ (n : Member). n.place == k) view.members m is) }

in_list : (i : ℕ) (ms : List Member) (m : Member) → with_identity i ms ≡ Some m → list_any (λ j. j == i) (map (λ (m : Member). m.identity) ms) ≡ true
in_list i [] m e = absurd (cc e)
in_list i (x ∷ xs) m e = elim (eqb_tells x.identity i) [
  | inl here ↦ ap (λ b. b || list_any (λ j. j == i) (map (λ (m : Member). m.identity) xs)) here.0
  | inr other ↦
      let later : with_identity i xs ≡ Some m = sym (ap (λ b. if b then Some x else with_identity i xs) other.0) ∙ e in
      ap (λ b. b || list_any (λ j. j == i) (map (λ (m : Member). m.identity) xs)) other.0 ∙ in_list i xs m later
]

module _ (view : View) (sound : IsView view) where
  pub seat_there : (k i : ℕ) → identity_at view k ≡ Some i → seat_of view i ≡ Some k
  seat_there k i e =
      let t = is_there view k i e in
      ap (seat_of view) (sym t.identity) ∙ ap (option_map (λ (m : Member). m.place)) (found_by_place k view.members t.member sound.rising t.found) ∙ ap Some t.place_is

  pub member_there : (k i : ℕ) → identity_at view k ≡ Some i → IsTrue (is_member view i)
  member_there k i e =
      let t = is_there view k i e in
      in_list i view.members t.member (ap (λ n. with_identity n view.members) (sym t.identity) ∙ found_by_place k view.members t.member sound.rising t.found)

  pub ids_apart : (a b i : ℕ) → identity_at view a ≡ Some i → identity_at view b ≡ Some i → a ≡ b
  ids_apart a b i e f = let same : ◌≡◌ {A = Option ℕ} (Some a) (Some b) = sym (seat_there a i e) ∙ seat_there b i f in cc same

  pub place_there : (k i : ℕ) → identity_at view k ≡ Some i → place_of view i ≡ k
  place_there k i e = place_seated view i k (seat_there k i e)

  pub small_place : (k i : ℕ) → identity_at view k ≡ Some i → k < 8
  small_place k i e = few_places view sound i k (seat_there k i e)

  pub small_identity : (k i : ℕ) → identity_at view k ≡ Some i → i < identity_limit
  small_identity k i e =
      let t = is_there view k i e in
      let g = All-find (λ (m : Member). m.identity < view.given) (λ (m : Member). m.place == k) view.members t.member t.found sound.given in
      let s = t.identity in let f = sound.few in omega arith

  pub none_past : (place : ℕ) → 8 ≤ place → identity_at view place ≡ None
  none_past place past = go (identity_at view place) refl
    where
      go : (o : Option ℕ) → identity_at view place ≡ o → o ≡ None
      go None e = refl
      go (Some i) e = absurd (let l = small_place place i e in omega (arith, l, past))
