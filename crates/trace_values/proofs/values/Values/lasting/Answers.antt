use Rattle.std.proofs.Common.{List, filter, ap, ◌∙◌}
use Rattle.model_kinds.specs.declared.shown.Shown.TheVariants.{Elements}
use Rattle.base_vectors.specs.Vectors.{number_at}
use Rattle.trace_values.specs.declared.sets.Element.{Element}
use Rattle.trace_values.specs.Elements.{names, counts_live}
use Rattle.trace_values.proofs.ShownElements.{live_shown}
use Rattle.trace_values.proofs.values.Values.lasting.Goals as goal

pub returns : goal.returns
returns c = λ made H stands rows history taken known_is. ap Elements (
    c.in_ok-elements.ensures ∙ ap (λ (xs : List Element). names (filter (counts_live c.args.rows.now (number_at c.args.known.now)) xs)) c.as_slice.ensures.value
    ∙ live_shown made H history taken (number_at c.args.known.now) known_is c.args.self.now.elements.items stands.elements c.args.rows.now rows)
