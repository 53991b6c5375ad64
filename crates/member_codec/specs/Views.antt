-- Views as bytes: their one spelling, and how they are read.
--     is_view        whether parts are those of a view
--     view_spelled, view_in        the spelling, and how it is read
use Rattle.std.specs.Prelude.{◌≡◌, ℕ, ◌+◌, ◌*◌, ◌<◌, ◌^◌, List, [], ◌∷◌, ◌++◌, length, map, Bool, true, ◌&&◌, not, ◌==◌, nat_lt, nat_le, Result, Ok}
use Rattle.std.specs.List.{list_all}
use Rattle.model_history.specs.Table.{identity_limit}
use Rattle.base_bytes.specs.declared.fault.Fault.{Fault}
use Rattle.base_bytes.specs.Fields.{◌>>=◌, kept, byte_in, word_in}
use Rattle.base_bytes.specs.Spelling.{word_spelled}
use Rattle.base_vectors.specs.Fields.{identity_in}
use Rattle.base_vectors.specs.FieldLaws.{IsAllowed}
use Rattle.base_vectors.specs.Spelling.{nobody}
use Rattle.base_places.specs.Lists.{IsSoundPair, pair_spelled, pair_in, AreSound, list_spelled, list_in}
use Rattle.member_views.specs.Views.{Member, View}
use Rattle.member_codec.specs.Identities.{identity_spelled}

-- WHAT A VIEW KEEPS, AS A TEST

-- its identity is less than the other's, and it runs elsewhere
abbrev pub comes_before : Member → Member → Bool
comes_before one other = nat_lt one.identity other.identity && not (one.place == other.place)

-- each comes before those after it
abbrev pub are_apart : List Member → Bool
are_apart [] = true
are_apart (m ∷ ms) = list_all (comes_before m) ms && are_apart ms

-- its identity was given, and there is such a place
abbrev pub is_seated : ℕ → Member → Bool
is_seated given member = nat_lt member.identity given && nat_lt member.place 8

-- there is a member, identities are left for those that were given, and few views came before
abbrev pub are_few : ℕ → ℕ → ℕ → Bool
are_few number given count = nat_lt 0 count && nat_le given identity_limit && nat_le (number + count) (2 * given)

abbrev pub is_view : View → Bool
is_view view = are_few view.number view.given (length view.members) && list_all (is_seated view.given) view.members && are_apart view.members

-- THE SPELLING

-- a member as an identity and a place
abbrev pub Seat : Type 0
Seat = ℕ × ℕ

abbrev pub seat_of : Member → Seat
seat_of member = (member.identity, member.place)

abbrev pub member_at : Seat → Member
member_at seat = record { identity = seat.0; place = seat.1 }

abbrev pub place_spelled : ℕ → List ℕ
place_spelled place = place ∷ []

abbrev pub seats_spelled : List Seat → List ℕ
seats_spelled = list_spelled (pair_spelled identity_spelled place_spelled)

-- format 1, the number, how many identities were given, and the members
abbrev pub parts_spelled : ℕ → ℕ → List Seat → List ℕ
parts_spelled number given seats = 1 ∷ (word_spelled number ++ given ∷ []) ++ seats_spelled seats

abbrev pub view_spelled : View → List ℕ
view_spelled view = parts_spelled view.number view.given (map seat_of view.members)

abbrev pub AreSeats : List Seat → Type 0
AreSeats = AreSound (IsSoundPair (IsAllowed 0 nobody) (λ place. place < 2 ^ 8))

-- a view whose numbers fit their fields
pub record IsSoundView (view : View) : Type 0 where
  pub whole : is_view view ≡ true
  pub number : view.number < 2 ^ 32
  pub given : view.given < 2 ^ 8
  pub seats : AreSeats (map seat_of view.members)

-- READING

abbrev pub seats_in : List ℕ → Result (List Seat × List ℕ) Fault
seats_in = list_in (pair_in (identity_in 0 nobody) byte_in)

abbrev pub view_with : ℕ → ℕ → List Seat → View
view_with number given seats = record { number = number; given = given; members = map member_at seats }

-- the members of a view. What a view keeps is their rule
unfoldable pub members_in : ℕ → ℕ → List ℕ → Result (View × List ℕ) Fault
members_in number given bytes = do
  seats ← seats_in bytes
  _ ← kept (is_view (view_with number given seats.0)) (length bytes)
  Ok (view_with number given seats.0, seats.1)

unfoldable pub parts_in : List ℕ → Result (View × List ℕ) Fault
parts_in bytes = do
  front ← pair_in word_in byte_in bytes
  members_in front.0.0 front.0.1 front.1

unfoldable pub view_in : List ℕ → Result (View × List ℕ) Fault
view_in bytes = do
  format ← byte_in bytes
  _ ← kept (format.0 == 1) (length bytes)
  parts_in format.1
