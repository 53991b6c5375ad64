use Rattle.std.proofs.Common.{arith}
use Rattle.base_vectors.specs.IdSets.{members_in}
use Rattle.base_vectors.proofs.Spellings.{read_spellable}
use Rattle.base_vectors.proofs.numbers.Numbers.read.Goals as goal

pub returns-clause-sound : goal.returns-clause-sound
returns-clause-sound c = read_spellable c.args.most (members_in c.args.barred) c.args.bytes.now c.read_numbers.result (λ i. omega (arith, c.type_inv.bytes i)) c.read_numbers.ensures
