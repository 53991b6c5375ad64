-- When the views change, and why they don't. Memory is wanted only where the change could have been made.
use Rattle.std.specs.Prelude.{◌≡◌, ℕ, ◌<◌, true, false, length}
use Rattle.model_history.specs.Table.{identity_limit}
use Rattle.member_views.specs.Views.{View, is_member, is_taken}
use Rattle.member_views.specs.declared.list.ViewError.{ViewError}
use Rattle.member_views.specs.declared.list.ViewError.TheVariants.{NotMember, PlaceTaken, TooManyIdentities, LastMember, Memory}

-- the identity is a member, and not the only one
abbrev pub CanRemove : View → ℕ → Type 0
CanRemove view id = (is_member view id ≡ true) × (1 < length view.members)

abbrev pub RefusesRemoval : View → ℕ → ViewError → Type 0
RefusesRemoval view id NotMember = is_member view id ≡ false
RefusesRemoval view id LastMember = (is_member view id ≡ true) × (length view.members ≡ 1)
RefusesRemoval view id Memory = CanRemove view id
RefusesRemoval view id PlaceTaken = ⊥
RefusesRemoval view id TooManyIdentities = ⊥

-- the place is free, and an identity is left
abbrev pub CanJoin : View → ℕ → Type 0
CanJoin view place = (is_taken view place ≡ false) × (view.given < identity_limit)

abbrev pub RefusesJoin : View → ℕ → ViewError → Type 0
RefusesJoin view place PlaceTaken = is_taken view place ≡ true
RefusesJoin view place TooManyIdentities = (is_taken view place ≡ false) × (view.given ≡ identity_limit)
RefusesJoin view place Memory = CanJoin view place
RefusesJoin view place NotMember = ⊥
RefusesJoin view place LastMember = ⊥

-- the identity is a member, and another identity is left
abbrev pub CanReplace : View → ℕ → Type 0
CanReplace view id = (is_member view id ≡ true) × (view.given < identity_limit)

abbrev pub RefusesReplacement : View → ℕ → ViewError → Type 0
RefusesReplacement view id NotMember = is_member view id ≡ false
RefusesReplacement view id TooManyIdentities = (is_member view id ≡ true) × (view.given ≡ identity_limit)
RefusesReplacement view id Memory = CanReplace view id
RefusesReplacement view id PlaceTaken = ⊥
RefusesReplacement view id LastMember = ⊥
