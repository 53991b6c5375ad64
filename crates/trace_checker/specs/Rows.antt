-- Vectors by identity, in a list that ends where nothing more is kept.
use Rattle.std.specs.Prelude.{◌≡◌, ℕ, ◌==◌, List, if◌then◌else◌, unwrap_or, slice_get}
use Rattle.std.specs.FinMap as map
use Rattle.base_vectors.specs.Vectors.{Numbers}

-- how many records of each identity one holds
abbrev pub vector_of : List Numbers → ℕ → Numbers
vector_of held i = unwrap_or (slice_get held i) map.empty

-- another vector at one identity, and nothing else
abbrev pub IsPut : List Numbers → List Numbers → ℕ → Numbers → Type 0
IsPut old new id vector = (i : ℕ) → vector_of new i ≡ (if i == id then vector else vector_of old i)
