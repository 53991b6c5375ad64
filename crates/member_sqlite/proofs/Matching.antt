-- What a database that was opened has for a keeper.
use Rattle.std.proofs.Common.{Result, Ok, Err}
use Rattle.std.specs.Prelude.{MatchResult}

-- what holds of each value and of each error, of what held of them before
pub match_then : {X E : Type 0} {P P2 : X → Type 0} {Q Q2 : E → Type 0} (r : Result X E) → MatchResult r P Q → ((x : X) → P x → P2 x) → ((e : E) → Q e → Q2 e) → MatchResult r P2 Q2
match_then (Ok x) held ok err = ok x held
match_then (Err e) held ok err = err e held
