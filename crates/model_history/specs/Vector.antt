-- Version vectors: how many records of each identity are counted. And sets of identities.
use Rattle.std.specs.Prelude.{ℕ, max, List, Bool, ◌||◌, ◌==◌, ◌≤◌, nat_lt, Option, find, filter}
use Rattle.model_history.specs.Table.{identities}

abbrev pub VersionVector : Type 0
VersionVector = ℕ → ℕ

-- nothing counted
abbrev pub none_counted : VersionVector
none_counted i = 0

-- the greater number at each identity
abbrev pub join : VersionVector → VersionVector → VersionVector
join vector other i = max (vector i) (other i)

-- no number of the other is greater
abbrev pub Covers : VersionVector → VersionVector → Type 0
Covers vector other = (i : ℕ) → other i ≤ vector i

-- the least identity at which the vector is below the needs
abbrev pub first_lacking : VersionVector → VersionVector → Option ℕ
first_lacking vector needs = find (λ i. nat_lt (vector i) (needs i)) identities

-- a set of identities
abbrev pub IdentitySet : Type 0
IdentitySet = ℕ → Bool

abbrev pub with_member : IdentitySet → ℕ → IdentitySet
with_member set i j = (j == i) || set j

abbrev pub alone : ℕ → IdentitySet
alone i j = j == i

abbrev pub united : IdentitySet → IdentitySet → IdentitySet
united set other i = set i || other i

-- the members, rising
abbrev pub members_of : IdentitySet → List ℕ
members_of set = filter set identities
