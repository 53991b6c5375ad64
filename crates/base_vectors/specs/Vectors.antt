-- A version vector as a contract sees it: a finite map from an identity's number to a sequence number, with no 0.
--     number_at         the number at an identity, 0 where the map has none
--     numbers_of f      the map that has f at each identity, and no 0
--     raised, joined, removed        the greater number at one identity or at each; nothing at one
use Rattle.std.specs.Prelude.{◌≡◌, ℕ, zero, suc, ◌≤◌, ◌<◌, max, unwrap_or, List, [], ◌∷◌}
use Rattle.std.specs.Ordering.{nat_cmp}
use Rattle.std.specs.FinMap as map
use Rattle.model_history.specs.Table.{identity_limit, with_at}

abbrev pub Numbers : Type 0
Numbers = map.FinMap nat_cmp ℕ

abbrev pub number_at : Numbers → ℕ → ℕ
number_at numbers id = unwrap_or (map.get numbers id) 0

-- an entry, unless its number is 0
abbrev pub entry_before : ℕ → ℕ → List (ℕ × ℕ) → List (ℕ × ℕ)
entry_before id zero es = es
entry_before id (suc n) es = (id, suc n) ∷ es

-- the numbers other than 0 at identities below a limit, from the greatest identity down
abbrev pub entries_below : ℕ → (ℕ → ℕ) → List (ℕ × ℕ)
entries_below zero number = []
entries_below (suc id) number = entry_before id (number id) (entries_below id number)

unfoldable pub numbers_of : (ℕ → ℕ) → Numbers
numbers_of number = map.from_entries (entries_below identity_limit number)

-- the greater number at one identity
abbrev pub raised : Numbers → ℕ → ℕ → Numbers
raised numbers id to = numbers_of (with_at (number_at numbers) id (max (number_at numbers id) to))

abbrev pub joined : Numbers → Numbers → Numbers
joined numbers other = numbers_of (λ i. max (number_at numbers i) (number_at other i))

abbrev pub removed : Numbers → ℕ → Numbers
removed numbers id = numbers_of (with_at (number_at numbers) id 0)

-- it has no 0, and nothing but identities
abbrev pub IsNormal : Numbers → Type 0
IsNormal numbers = numbers ≡ numbers_of (number_at numbers)

-- the least identity at which the one is below the other
pub record IsFirstLacking (numbers needs : Numbers) (id : ℕ) : Type 0 where
  pub lacking : number_at numbers id < number_at needs id
  pub first : (i : ℕ) → i < id → number_at needs i ≤ number_at numbers i
