use Rattle.std.proofs.Common.{ℕ, List, length, subst}
use Rattle.std.proofs.lemmas.List.{take_rest}
use Rattle.base_bytes.specs.Spelling.{GivesAt}
use Rattle.data_codec.specs.Envelopes.{head_in}
use Rattle.data_codec.proofs.places.head_at.Goals as goal

pub returns : goal.returns
returns g c =
    subst (λ (bytes : List ℕ). GivesAt (length c.args.from.now) c.placed.result (head_in g.T.SpelledData.is_known 1 bytes)) (take_rest c.args.from.now c.args.place) (c.placed.ensures _ c.read_head.ensures)
