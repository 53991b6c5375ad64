-- Numbers per identity and sets of identities as bytes: their one spelling, and how they are read from the front of bytes.
--     pairs_of, numbers_spelled         the identities with a number other than 0, rising, each before its number
--     numbers_in        numbers at the front of bytes, each from 1 to a greatest one and none at a barred identity
--     ids_spelled, ids_in         a set of identities, rising
use Rattle.std.specs.Prelude.{◌≡◌, ℕ, zero, suc, ◌≤◌, ◌<◌, ◌^◌, List, [], ◌∷◌, length, true, false, nat_le, bit_or, Option, None, Some, Result, Ok}
use Rattle.std.specs.List.{filter_map, flat_map}
use Rattle.std.specs.FinMap as map
use Rattle.model_history.specs.Table.{identity_limit, identities}
use Rattle.model_history.specs.Vector.{IdentitySet, members_of}
use Rattle.base_bytes.specs.declared.fault.Fault.{Fault}
use Rattle.base_bytes.specs.Fields.{◌>>=◌, kept, byte_in}
use Rattle.base_bytes.specs.Spelling.{number_spelled}
use Rattle.base_vectors.specs.Vectors.{Numbers, number_at, raised, IsNormal}
use Rattle.base_vectors.specs.Fields.{identity_in, positive_in}
use Rattle.base_vectors.specs.IdSets.{members_in, member_count}

-- NUMBERS

-- an identity and its number, unless that is 0
abbrev pub pair_unless_zero : ℕ → ℕ → Option (ℕ × ℕ)
pair_unless_zero id zero = None
pair_unless_zero id (suc n) = Some (id, suc n)

abbrev pub pair_at : (ℕ → ℕ) → ℕ → Option (ℕ × ℕ)
pair_at number id = pair_unless_zero id (number id)

-- the identities with a number other than 0, and these numbers, rising by identity
unfoldable pub pairs_of : (ℕ → ℕ) → List (ℕ × ℕ)
pairs_of number = filter_map (pair_at number) identities

abbrev pub pair_spelled : ℕ × ℕ → List ℕ
pair_spelled pair = pair.0 ∷ number_spelled pair.1

abbrev pub numbers_spelled : (ℕ → ℕ) → List ℕ
numbers_spelled number = length (pairs_of number) ∷ flat_map pair_spelled (pairs_of number)

unfoldable pub pair_in : ℕ → IdentitySet → ℕ → List ℕ → Result ((ℕ × ℕ) × List ℕ) Fault
pair_in most barred least bytes = do
  id ← identity_in least barred bytes
  number ← positive_in most id.1
  Ok ((id.0, number.0), number.1)

-- so many pairs, rising by identity
unfoldable pub pairs_in : ℕ → IdentitySet → ℕ → ℕ → List ℕ → Result (List (ℕ × ℕ) × List ℕ) Fault
pairs_in most barred least zero bytes = Ok ([], bytes)
pairs_in most barred least (suc count) bytes = do
  first ← pair_in most barred least bytes
  others ← pairs_in most barred (suc first.0.0) count first.1
  Ok (first.0 ∷ others.0, others.1)

-- the numbers, raised by each pair
abbrev pub all_raised : Numbers → List (ℕ × ℕ) → Numbers
all_raised numbers [] = numbers
all_raised numbers (pair ∷ pairs) = all_raised (raised numbers pair.0 pair.1) pairs

abbrev pub raised_by : Numbers → Result (List (ℕ × ℕ) × List ℕ) Fault → Result (Numbers × List ℕ) Fault
raised_by numbers read = read >>= λ pairs. Ok (all_raised numbers pairs.0, pairs.1)

-- the number of pairs, which may be all identities, and the pairs
unfoldable pub numbers_in : ℕ → IdentitySet → List ℕ → Result (Numbers × List ℕ) Fault
numbers_in most barred bytes = do
  count ← byte_in bytes
  _ ← kept (nat_le count.0 identity_limit) (length bytes)
  raised_by map.empty (pairs_in most barred 0 count.0 count.1)

-- numbers of identities alone, none above a greatest one
pub record AreSpellable (most : ℕ) (numbers : Numbers) : Type 0 where
  pub normal : IsNormal numbers
  pub small : (i : ℕ) → number_at numbers i ≤ most

-- no barred identity has a number
abbrev pub AreFree : IdentitySet → Numbers → Type 0
AreFree barred numbers = (i : ℕ) → barred i ≡ true → number_at numbers i ≡ 0

-- SETS OF IDENTITIES

-- the number of members, and the members, rising
unfoldable pub ids_spelled : IdentitySet → List ℕ
ids_spelled set = member_count set ∷ members_of set

abbrev pub nobody : IdentitySet
nobody i = false

-- so many identities, rising
unfoldable pub members_from : ℕ → ℕ → List ℕ → Result (List ℕ × List ℕ) Fault
members_from least zero bytes = Ok ([], bytes)
members_from least (suc count) bytes = do
  first ← identity_in least nobody bytes
  others ← members_from (suc first.0) count first.1
  Ok (first.0 ∷ others.0, others.1)

-- the bits of a set with each of these members
abbrev pub all_added : ℕ → List ℕ → ℕ
all_added bits [] = bits
all_added bits (id ∷ ids) = all_added (bit_or bits (2 ^ id)) ids

abbrev pub added_by : ℕ → Result (List ℕ × List ℕ) Fault → Result (ℕ × List ℕ) Fault
added_by bits read = read >>= λ ids. Ok (all_added bits ids.0, ids.1)

-- the number of members, at least 1, and the members
unfoldable pub ids_in : List ℕ → Result (ℕ × List ℕ) Fault
ids_in bytes = do
  count ← byte_in bytes
  _ ← kept (nat_le 1 count.0) (length bytes)
  added_by 0 (members_from 0 count.0 count.1)

-- the bits of a set that has a member
pub record IsSomeSet (set : ℕ) : Type 0 where
  pub bits : set < 2 ^ identity_limit
  pub some : 1 ≤ member_count (members_in set)
