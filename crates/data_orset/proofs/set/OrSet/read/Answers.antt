use Rattle.std.proofs.Common.{ℕ, List, sym, ap, subst, arith}
use Rattle.base_vectors.specs.IdSets.{members_in}
use Rattle.data_orset.specs.Placing.{Placed, AreDots}
use Rattle.data_orset.specs.ReadingLaws.{listed_takes}
use Rattle.data_orset.proofs.Loops.{set_read}
use Rattle.data_orset.proofs.Runs.{dots_of_elements}
use Rattle.data_orset.proofs.set.OrSet.read.Goals as goal

pub invariant_of-result : goal.invariant_of-result
invariant_of-result c =
    let x = c.in_ok-dots.ensures.0 in
    subst AreDots (sym (ap (λ (p : List Placed × List ℕ). p.0) c.in_ok-dots.ensures.2))
    (dots_of_elements x.0 (listed_takes (members_in c.args.barred) c.args.bytes.now x.0 x.1 (λ i. omega (arith, c.type_inv.bytes i)) c.in_ok-dots.ensures.1).1)

pub returns : goal.returns
returns c = set_read (members_in c.args.barred) c.args.bytes.now c.in_ok-dots.ensures.0 c.in_ok-dots.dots c.in_ok-dots.rest.now c.in_ok-dots.ensures.1 c.in_ok-dots.ensures.2
