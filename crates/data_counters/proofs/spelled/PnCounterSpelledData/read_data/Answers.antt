use Rattle.std.proofs.Common.{ℕ, List, length, subst}
use Rattle.std.proofs.lemmas.List.{take_rest}
use Rattle.base_bytes.specs.Spelling.{GivesAt}
use Rattle.base_vectors.specs.IdSets.{members_in}
use Rattle.data_counters.specs.Spelled.{signed_in}
use Rattle.data_counters.proofs.spelled.PnCounterSpelledData.read_data.Goals as goal

pub returns : goal.returns
returns c =
    subst (λ (bytes : List ℕ). GivesAt (length c.args.from.now) c.placed.result (signed_in (members_in c.args.barred) bytes)) (take_rest c.args.from.now c.args.place) (c.placed.ensures _ c.read_signed.ensures)
