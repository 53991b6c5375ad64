use Rattle.std.proofs.Common.{ap, ◌∙◌}
use Rattle.model_kinds.specs.declared.shown.Shown.TheVariants.{Written}
use Rattle.base_vectors.specs.Vectors.{number_at}
use Rattle.trace_values.specs.Writes.{winning_text}
use Rattle.trace_values.proofs.WriteLaws.{winning_is}
use Rattle.trace_values.proofs.values.Values.written.Goals as goal

pub returns : goal.returns
returns c = λ made H stands rows history taken known_is. ap Written (
    c.winning_text.ensures ∙ ap (λ writes. winning_text c.args.rows.now writes (number_at c.args.known.now)) c.as_slice.ensures.value
    ∙ winning_is made H history taken c.args.self.now.writes.items stands.writes (number_at c.args.known.now) known_is c.args.rows.now rows)
