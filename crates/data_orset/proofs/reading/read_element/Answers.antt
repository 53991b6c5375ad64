use Rattle.std.proofs.Common.{ℕ, List, option_copied, sym, ap}
use Rattle.base_vectors.specs.IdSets.{members_in}
use Rattle.data_orset.proofs.Loops.{element_read}
use Rattle.data_orset.proofs.reading.read_element.Goals as goal

pub returns : goal.returns
returns c = (
  (record { text = c.in_ok-text.text; dots = c.in_ok-rest.ensures.0.0 }, c.in_ok-rest.ensures.0.1),
  element_read (members_in c.args.barred) (option_copied c.args.before) c.args.bytes.now c.in_ok-text.text c.in_ok-text.rest.now c.in_ok-count.count c.in_ok-count.rest.now c.in_ok-rest.ensures.0
      c.in_ok-text.ensures c.in_ok-count.ensures c.in_ok-rest.ensures.1,
  (ap (λ (r : List ℕ). (c.in_ok-text.text, r)) (sym c.in_ok-rest.ensures.2.0), c.in_ok-rest.ensures.2.1),
)
