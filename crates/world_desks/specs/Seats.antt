-- The desks of members, by identities.
--     desk_of        what clients follow at a member
--     ChangesAt        that of one identity is another one, and all others stay
use Rattle.std.specs.Prelude.{◌≡◌, ℕ, List, [], ◌∷◌, ◌==◌, if◌then◌else◌}
use Rattle.model_history.specs.Table.{with_at}
use Rattle.member_desk.specs.declared.followed.Followed.{Followed}
use Rattle.member_desk.specs.declared.look.Told.{Told}
use Rattle.world_desks.specs.declared.seats.Seat.{Seat}

-- nothing, where an identity has no desk
abbrev pub desk_of : List Seat → ℕ → List (Followed Told)
desk_of [] i = []
desk_of (seat ∷ seats) i = if seat.id == i then seat.desk else desk_of seats i

abbrev pub IsSame : (old new : List Seat) → Type 0
IsSame old new = (i : ℕ) → desk_of new i ≡ desk_of old i

abbrev pub ChangesAt : ℕ → List (Followed Told) → (old new : List Seat) → Type 0
ChangesAt at desk old new = (i : ℕ) → desk_of new i ≡ with_at (desk_of old) at desk i
