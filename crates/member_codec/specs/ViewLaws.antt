-- Views: what is read is spelled so, and what is spelled so is read again.
use Rattle.std.proofs.Common.{◌≡◌, ℕ, ◌<◌, ◌^◌, true, List, [], ◌∷◌, ◌++◌, length, Result, Ok, refl, sym, ap, subst, ◌∙◌, append_assoc}
use Rattle.std.specs.Prelude.{map, ◌==◌}
use Rattle.std.proofs.lemmas.Bool.{eqb-true}
use Rattle.base_bytes.specs.declared.fault.Fault.{Fault}
use Rattle.base_bytes.specs.Fields.{◌>>=◌, kept, byte_in, word_in}
use Rattle.base_bytes.specs.Spelling.{word_spelled, AreBytes, Takes}
use Rattle.base_bytes.specs.FieldLaws.{bind_ok, kept_ok, kept_on, ok_is, takes_then, byte_takes}
use Rattle.base_vectors.specs.Fields.{identity_in}
use Rattle.base_vectors.specs.FieldLaws.{IsAllowed}
use Rattle.base_vectors.specs.Spelling.{nobody}
use Rattle.base_places.specs.Spells.{Spells, byte_spells, word_spells}
use Rattle.base_places.specs.Lists.{IsSoundPair, pair_spelled, pair_in}
use Rattle.base_places.specs.ListLaws.{pair_spells, list_spells}
use Rattle.member_views.specs.Views.{Member, View}
use Rattle.member_codec.specs.Identities.{identity_spelled}
use Rattle.member_codec.specs.IdentityLaws.{identity_spells}
use Rattle.member_codec.specs.Views.{is_view, Seat, seat_of, member_at, place_spelled, seats_spelled, view_spelled, AreSeats, IsSoundView, seats_in, view_with, members_in, parts_in, view_in}

-- members are their identities and places
pub seats_back : (seats : List Seat) → map seat_of (map member_at seats) ≡ seats
seats_back [] = refl
seats_back (s ∷ seats) = ap (λ (rest : List Seat). s ∷ rest) (seats_back seats)

pub members_back : (members : List Member) → map member_at (map seat_of members) ≡ members
members_back [] = refl
members_back (m ∷ members) = ap (λ (rest : List Member). m ∷ rest) (members_back members)

same_view : (view : View) → view_with view.number view.given (map seat_of view.members) ≡ view
same_view view = ap (λ (members : List Member). let v : View = record { number = view.number; given = view.given; members = members } in v) (members_back view.members)

abbrev IsPlace : ℕ → Type 0
IsPlace place = place < 2 ^ 8

pub seats_spell : Spells AreSeats seats_spelled seats_in
seats_spell =
    list_spells (IsSoundPair (IsAllowed 0 nobody) IsPlace) (pair_spelled identity_spelled place_spelled) (pair_in (identity_in 0 nobody) byte_in)
    (pair_spells (IsAllowed 0 nobody) identity_spelled (identity_in 0 nobody) IsPlace place_spelled byte_in identity_spells byte_spells)

-- the number, and how many identities were given
abbrev IsFront : ℕ × ℕ → Type 0
IsFront = IsSoundPair (λ n. n < 2 ^ 32) IsPlace

abbrev front_spelled : ℕ × ℕ → List ℕ
front_spelled = pair_spelled word_spelled place_spelled

front_spells : Spells IsFront front_spelled (pair_in word_in byte_in)
front_spells = pair_spells (λ n. n < 2 ^ 32) word_spelled word_in IsPlace place_spelled byte_in word_spells byte_spells

-- what holds of a view whose members were read
abbrev IsReadWith : ℕ → ℕ → List ℕ → View × List ℕ → Type 0
IsReadWith number given bytes x = Takes bytes (seats_spelled (map seat_of x.0.members)) x.1 × (is_view x.0 ≡ true) × AreSeats (map seat_of x.0.members) × (x.0.number ≡ number) × (x.0.given ≡ given)

members_take : (number given : ℕ) (bytes : List ℕ) (x : View × List ℕ) → AreBytes bytes → members_in number given bytes ≡ Ok x → IsReadWith number given bytes x
unfolding members_in
members_take number given bytes x fits e =
    let a = bind_ok (seats_in bytes) (λ seats. kept (is_view (view_with number given seats.0)) (length bytes) >>= λ _. Ok (view_with number given seats.0, seats.1)) x e in
    let seats : List Seat × List ℕ = a.0 in
    let made : View × List ℕ = (view_with number given seats.0, seats.1) in
    let k = kept_ok (is_view (view_with number given seats.0)) (length bytes) (λ _. Ok made) x a.2 in
    let t = seats_spell.takes bytes seats.0 seats.1 fits a.1 in
    let back : seats.0 ≡ map seat_of (map member_at seats.0) = sym (seats_back seats.0) in
    subst (IsReadWith number given bytes) {x = made} {y = x} (ok_is made x k.1)
    (subst (λ (s : List Seat). Takes bytes (seats_spelled s) seats.1) back t.0, k.0, subst AreSeats back t.1, refl, refl)

parts_take : (bytes : List ℕ) (x : View × List ℕ) → AreBytes bytes → parts_in bytes ≡ Ok x → Takes bytes (front_spelled (x.0.number, x.0.given) ++ seats_spelled (map seat_of x.0.members)) x.1 × IsSoundView x.0
unfolding parts_in
parts_take bytes x fits e =
    let a = bind_ok (pair_in word_in byte_in bytes) (λ front. members_in front.0.0 front.0.1 front.1) x e in
    let front : (ℕ × ℕ) × List ℕ = a.0 in
    let first = front_spells.takes bytes front.0 front.1 fits a.1 in
    let second = members_take front.0.0 front.0.1 front.1 x first.0.rest_are_bytes a.2 in
    let both = takes_then bytes (front_spelled front.0) front.1 (seats_spelled (map seat_of x.0.members)) x.1 first.0 second.0 in
    let number : front.0.0 ≡ x.0.number = sym second.3 in
    let given : front.0.1 ≡ x.0.given = sym second.4 in
    let same : front_spelled front.0 ≡ front_spelled (x.0.number, x.0.given) = ap (λ (n : ℕ). front_spelled (n, front.0.1)) number ∙ ap (λ (n : ℕ). front_spelled (x.0.number, n)) given in (
      subst (λ (s : List ℕ). Takes bytes (s ++ seats_spelled (map seat_of x.0.members)) x.1) same both,
      record {
        whole = second.1;
        number = subst (λ (n : ℕ). n < 2 ^ 32) number first.1.0;
        given = subst (λ (n : ℕ). n < 2 ^ 8) given first.1.1;
        seats = second.2;
      },
    )

view_takes : (bytes : List ℕ) (view : View) (rest : List ℕ) → AreBytes bytes → view_in bytes ≡ Ok (view, rest) → Takes bytes (view_spelled view) rest × IsSoundView view
unfolding view_in
view_takes bytes view rest fits e =
    let a = bind_ok (byte_in bytes) (λ format. kept (format.0 == 1) (length bytes) >>= λ _. parts_in format.1) (view, rest) e in
    let format : ℕ × List ℕ = a.0 in
    let k = kept_ok (format.0 == 1) (length bytes) (λ _. parts_in format.1) (view, rest) a.2 in
    let first = byte_takes bytes format.0 format.1 fits a.1 in
    let second = parts_take format.1 (view, rest) first.0.rest_are_bytes k.1 in
    let text : List ℕ = front_spelled (view.number, view.given) ++ seats_spelled (map seat_of view.members) in
    let both = takes_then bytes (format.0 ∷ []) format.1 text rest first.0 second.0 in
    (subst (λ (n : ℕ). Takes bytes (n ∷ text) rest) (eqb-true format.0 1 k.0) both, second.1)

members_again : (view : View) (rest : List ℕ) → IsSoundView view → members_in view.number view.given (seats_spelled (map seat_of view.members) ++ rest) ≡ Ok (view, rest)
unfolding members_in
members_again view rest is =
    let seats : List Seat = map seat_of view.members in
    let bytes : List ℕ = seats_spelled seats ++ rest in
    let whole : is_view (view_with view.number view.given seats) ≡ true = subst (λ (v : View). is_view v ≡ true) (sym (same_view view)) is.whole in
    ap (λ (r : Result (List Seat × List ℕ) Fault). r >>= λ found. kept (is_view (view_with view.number view.given found.0)) (length bytes) >>= λ _. Ok (view_with view.number view.given found.0, found.1)) (seats_spell.again seats rest is.seats)
    ∙ kept_on (is_view (view_with view.number view.given seats)) (length bytes) (λ _. Ok (view_with view.number view.given seats, rest)) whole
    ∙ ap (λ (v : View). Ok (v, rest)) (same_view view)

view_again : (view : View) (rest : List ℕ) → IsSoundView view → view_in (view_spelled view ++ rest) ≡ Ok (view, rest)
unfolding view_in parts_in
view_again view rest is =
    let front : ℕ × ℕ = (view.number, view.given) in
    let left : List ℕ = seats_spelled (map seat_of view.members) ++ rest in
    ap (λ (t : List ℕ). pair_in word_in byte_in t >>= λ found. members_in found.0.0 found.0.1 found.1) (append_assoc (front_spelled front) (seats_spelled (map seat_of view.members)) rest)
    ∙ ap (λ (r : Result ((ℕ × ℕ) × List ℕ) Fault). r >>= λ found. members_in found.0.0 found.0.1 found.1) (front_spells.again front left (is.number, is.given))
    ∙ members_again view rest is

pub view_spells : Spells IsSoundView view_spelled view_in
view_spells = record { takes = view_takes; again = view_again }
