-- The test of a view tells what every view keeps.
use Rattle.std.proofs.Common.{◌≡◌, ℕ, zero, suc, ◌+◌, ◌*◌, ◌<◌, ◌≤◌, ◌^◌, Bool, true, false, not, ◌&&◌, List, [], ◌∷◌, length, get_or, arith, refl, sym, ap, subst, ◌∙◌, inl, inr}
use Rattle.std.specs.Prelude.{All, AllPairs, nat_lt, nat_le, ◌==◌, map}
use Rattle.std.specs.List.{list_all, AllByRecursion}
use Rattle.std.proofs.lemmas.Bool.{and_parts, and_from, ltb-true, lt-ltb, leb-true, le-leb, eqb-true, eq-eqb, not-true, cases_Bool}
use Rattle.std.proofs.lemmas.List.Sums.{AllPass-from_list_all, list_all-from_AllPass}
use Rattle.std.proofs.lemmas.List.{length-map}
use Rattle.model_history.specs.Table.{identity_limit}
use Rattle.base_vectors.specs.FieldLaws.{IsAllowed}
use Rattle.base_vectors.specs.Spelling.{nobody}
use Rattle.base_places.specs.Lists.{IsSoundPair}
use Rattle.member_views.specs.Views.{Member, View}
use Rattle.member_views.specs.Sound.{IsView}
use Rattle.member_codec.specs.Views.{comes_before, are_apart, is_seated, are_few, is_view, seat_of, IsSoundView}

-- EACH BEFORE THOSE AFTER IT

pairs_of : (ms : List Member) → are_apart ms ≡ true → (i j : ℕ) (d : Member) → i < j → j < length ms → comes_before (get_or ms i d) (get_or ms j d) ≡ true
pairs_of [] is i j d lt within = absurd (omega arith)
pairs_of (m ∷ ms) is i zero d lt within = absurd (omega arith)
pairs_of (m ∷ ms) is zero (suc j) d lt within =
    let both = and_parts (list_all (comes_before m) ms) (are_apart ms) is in
    AllPass-from_list_all (comes_before m) ms both.0 j d (omega arith)
pairs_of (m ∷ ms) is (suc i) (suc j) d lt within =
    let both = and_parts (list_all (comes_before m) ms) (are_apart ms) is in
    pairs_of ms both.1 i j d (omega arith) (omega arith)

of_pairs : (ms : List Member) → ((i j : ℕ) (d : Member) → i < j → j < length ms → comes_before (get_or ms i d) (get_or ms j d) ≡ true) → are_apart ms ≡ true
of_pairs [] each = refl
of_pairs (m ∷ ms) each =
    and_from (list_all (comes_before m) ms) (are_apart ms)
    (list_all-from_AllPass (comes_before m) ms (λ j d within. each 0 (suc j) d (omega arith) (omega arith)))
    (of_pairs ms (λ i j d lt within. each (suc i) (suc j) d (omega arith) (omega arith)))

before_parts : (one other : Member) → comes_before one other ≡ true → (one.identity < other.identity) × (one.place ≡ other.place → ⊥)
before_parts one other is =
    let both = and_parts (nat_lt one.identity other.identity) (not (one.place == other.place)) is in
    let differ : (one.place == other.place) ≡ false = not-true (one.place == other.place) both.1 in
    (ltb-true one.identity other.identity both.0, λ same. absurd (let impossible : true ≡ false = sym (eq-eqb one.place other.place same) ∙ differ in cc))

seat_parts : (given : ℕ) (m : Member) → is_seated given m ≡ true → (m.identity < given) × (m.place < 8)
seat_parts given m is =
    let both = and_parts (nat_lt m.identity given) (nat_lt m.place 8) is in
    (ltb-true m.identity given both.0, ltb-true m.place 8 both.1)

other_places : (one other : ℕ) → (one ≡ other → ⊥) → (one == other) ≡ false
other_places one other differ = elim (cases_Bool (one == other)) [
  | inl e ↦ absurd (differ (eqb-true one other e))
  | inr e ↦ e
]

before_from : (one other : Member) → one.identity < other.identity → (one.place ≡ other.place → ⊥) → comes_before one other ≡ true
before_from one other lt differ =
    and_from (nat_lt one.identity other.identity) (not (one.place == other.place)) (lt-ltb _ _ lt) (ap not (other_places one.place other.place differ))

-- THE WHOLE

abbrev numbers_fit : View → Bool
numbers_fit view = are_few view.number view.given (length view.members)

pub view_of_test : (view : View) → is_view view ≡ true → IsView view
view_of_test view is =
    let two = and_parts (numbers_fit view && list_all (is_seated view.given) view.members) (are_apart view.members) is in
    let one = and_parts (numbers_fit view) (list_all (is_seated view.given) view.members) two.0 in
    let fits = and_parts (nat_lt 0 (length view.members) && nat_le view.given identity_limit) (nat_le (view.number + length view.members) (2 * view.given)) one.0 in
    let front = and_parts (nat_lt 0 (length view.members)) (nat_le view.given identity_limit) fits.0 in
    let seated = AllPass-from_list_all (is_seated view.given) view.members one.1 in
    let pairs = pairs_of view.members two.1 in
    record {
      some = ltb-true _ _ front.0;
      rising = λ i j d lt within. (before_parts (get_or view.members i d) (get_or view.members j d) (pairs i j d lt within)).0;
      given = λ k d within. (seat_parts view.given (get_or view.members k d) (seated k d within)).0;
      apart = λ i j d lt within. (before_parts (get_or view.members i d) (get_or view.members j d) (pairs i j d lt within)).1;
      places = λ k d within. (seat_parts view.given (get_or view.members k d) (seated k d within)).1;
      few = leb-true _ _ front.1;
      early = leb-true _ _ fits.1;
    }

pub test_of_view : (view : View) → IsView view → is_view view ≡ true
test_of_view view is =
    let seated : list_all (is_seated view.given) view.members ≡ true =
    list_all-from_AllPass (is_seated view.given) view.members
    (λ k d within. let m : Member = get_or view.members k d in and_from (nat_lt m.identity view.given) (nat_lt m.place 8) (lt-ltb _ _ (is.given k d within)) (lt-ltb _ _ (is.places k d within))) in
    let apart : are_apart view.members ≡ true = of_pairs view.members (λ i j d lt within. before_from (get_or view.members i d) (get_or view.members j d) (is.rising i j d lt within) (is.apart i j d lt within)) in
    let fits : numbers_fit view ≡ true = and_from _ _ (and_from _ _ (lt-ltb _ _ is.some) (le-leb _ _ is.few)) (le-leb _ _ is.early) in
    and_from _ _ (and_from _ _ fits seated) apart

-- AND SO IT CAN BE SPELLED

each_seat : (limit : ℕ) (ms : List Member) → limit ≤ identity_limit → list_all (is_seated limit) ms ≡ true → AllByRecursion (IsSoundPair (IsAllowed 0 nobody) (λ place. place < 2 ^ 8)) (map seat_of ms)
each_seat limit [] few is = tt
each_seat limit (m ∷ ms) few is =
    let both = and_parts (is_seated limit m) (list_all (is_seated limit) ms) is in
    let seat = seat_parts limit m both.0 in
    let given : m.identity < limit = seat.0 in
    let place : m.place < 8 = seat.1 in
    ((record { from = omega arith; small = omega (arith, given, few); free = refl }, omega (arith, place)), each_seat limit ms few both.1)

pub spellable_view : (view : View) → IsView view → IsSoundView view
spellable_view view is =
    let whole = test_of_view view is in
    let few = is.few in
    let early = is.early in
    let two = and_parts (numbers_fit view && list_all (is_seated view.given) view.members) (are_apart view.members) whole in
    let seated = and_parts (numbers_fit view) (list_all (is_seated view.given) view.members) two.0 in
    let limit : identity_limit ≡ 255 = refl in
    record {
      whole = whole;
      number = omega (arith, few, early, limit);
      given = omega (arith, few, limit);
      seats = record { each = each_seat view.given view.members few seated.1; counted = rw length-map (omega (arith, few, early, limit)) };
    }
