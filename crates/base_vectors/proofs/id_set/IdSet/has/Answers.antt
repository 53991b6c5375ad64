use Rattle.std.proofs.Common.{◌≡◌, ◌/◌, ◌%◌, ap, sym, ◌∙◌, slice_index, arith}
use Rattle.std.specs.Prelude.{◌==◌}
use Rattle.std.proofs.lemmas.Nat.Bits.{shr_and_one}
use Rattle.base_vectors.specs.IdSets.{members_in}
use Rattle.base_vectors.proofs.SetWords.{member_of_word}
use Rattle.base_vectors.proofs.id_set.IdSet.has.Goals as goal

pub returns : goal.returns
returns c =
    let place : c.from.result ≡ c.number-number.result / 64 = omega (arith, c.from.ensures) in
    ap (λ b. b == 1) (shr_and_one (slice_index c.self.inside.words c.from.result) (c.number-number.result % 64))
    ∙ ap (λ k. members_in (slice_index c.self.inside.words k) (c.number-number.result % 64)) place
    ∙ sym (member_of_word c.self.inside.words c.number-number.result c.self.invariant.small)
    ∙ ap (λ n. members_in n c.number-number.result) c.self.view_is ∙ ap (members_in c.args.self) c.number-number.ensures.value
