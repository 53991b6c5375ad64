use Rattle.std.proofs.Common.{◌≡◌, slice_index, arith, ◌<◌, ◌^◌, subst}
use Rattle.model_history.specs.Table.{identity_limit}
use Rattle.base_vectors.proofs.SetWords.{no_member, few_words}
use Rattle.base_vectors.proofs.id_set.IdSet.limit.Goals as goal

pub returns-then-self-gt0-clause-above : goal.returns-then-self-gt0-clause-above
returns-then-self-gt0-clause-above c = λ i from. no_member c.args.self identity_limit i (subst (λ n. n < 2 ^ identity_limit) c.self.view_is c.self.invariant.members) from

pub returns-then-self-gt0-2-clause-above : goal.returns-then-self-gt0-2-clause-above
returns-then-self-gt0-2-clause-above c =
    let first : slice_index c.self.inside.words 3 ≡ 0 = omega (arith, c.if-self-gt0.false) in
    λ i from. no_member c.args.self 192 i (subst (λ n. n < 2 ^ 192) c.self.view_is ((few_words c.self.inside.words c.self.invariant).0 first)) from

pub returns-then-self-gt0-3-clause-above : goal.returns-then-self-gt0-3-clause-above
returns-then-self-gt0-3-clause-above c =
    let first : slice_index c.self.inside.words 3 ≡ 0 = omega (arith, c.if-self-gt0.false) in
    let second : slice_index c.self.inside.words 2 ≡ 0 = omega (arith, c.if-self-gt0-2.false) in
    λ i from. no_member c.args.self 128 i (subst (λ n. n < 2 ^ 128) c.self.view_is ((few_words c.self.inside.words c.self.invariant).1 first second)) from

pub returns-else-self-gt0-3-clause-above : goal.returns-else-self-gt0-3-clause-above
returns-else-self-gt0-3-clause-above c =
    let first : slice_index c.self.inside.words 3 ≡ 0 = omega (arith, c.if-self-gt0.false) in
    let second : slice_index c.self.inside.words 2 ≡ 0 = omega (arith, c.if-self-gt0-2.false) in
    let third : slice_index c.self.inside.words 1 ≡ 0 = omega (arith, c.if-self-gt0-3.false) in
    λ i from. no_member c.args.self 64 i (subst (λ n. n < 2 ^ 64) c.self.view_is ((few_words c.self.inside.words c.self.invariant).2 first second third)) from
