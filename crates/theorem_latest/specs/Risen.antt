-- Closure under past, where a member held such a history before: only identities whose number rose are looked at.
use Rattle.std.specs.Prelude.{◌≡◌, ◌==◌, ◌||◌, Bool}
use Rattle.std.specs.List.{list_all}
use Rattle.model_history.specs.Table.{identities}
use Rattle.model_history.specs.Vector.{VersionVector, Covers}
use Rattle.model_history.specs.History.{History, versions, cut}
use Rattle.model_history.specs.Log.{IsTakenFrom}
use Rattle.model_traces.specs.Traces.{covers, is_closed}
use Rattle.model_traces.specs.Meaning.{last_past}

abbrev pub covers_risen_pasts : {Op : Type 0} → History Op → VersionVector → VersionVector → Bool
covers_risen_pasts made held known = list_all (λ i. (known i == held i) || covers known (last_past made known i)) identities

-- where what a member held is taken from all records, and the vector counts no fewer and no more than there are, the last records tell whether the pasts of all that it counts are there
abbrev pub RisenPastsTell : {Op : Type 0} → History Op → History Op → VersionVector → Type 0
RisenPastsTell made H known = Covers (versions made) known → IsTakenFrom made H → Covers known (versions H) → covers_risen_pasts made (versions H) known ≡ is_closed (cut made known)
