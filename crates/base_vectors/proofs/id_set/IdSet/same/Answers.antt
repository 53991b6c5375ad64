use Rattle.std.proofs.Common.{◌≡◌, ap, sym, ◌∙◌}
use lib.Pointwise.{bytes_decides}
use Rattle.model_history.specs.Table.{identity_limit}
use Rattle.base_vectors.specs.IdSets.{members_in, words_in, bits_of}
use Rattle.base_vectors.specs.WordLaws.{words_back}
use Rattle.base_vectors.proofs.Sets.{same_members}
use Rattle.base_vectors.proofs.id_set.IdSet.same.Goals as goal

pub returns : goal.returns
returns c = (
  λ t i few. let same : c.self.inside.words ≡ c.other.inside.words = (bytes_decides _ _).0 (sym c.eq.ensures ∙ t) in
      ap (λ n. members_in n i) (sym c.self.view_is ∙ ap bits_of same ∙ c.other.view_is),
  λ same.
      let bits : bits_of c.self.inside.words ≡ bits_of c.other.inside.words = same_members identity_limit _ _ c.self.invariant.members c.other.invariant.members
      (λ i few. ap (λ n. members_in n i) c.self.view_is ∙ same i few ∙ ap (λ n. members_in n i) (sym c.other.view_is)) in
      let words : c.self.inside.words ≡ c.other.inside.words = sym (words_back _ c.self.invariant) ∙ ap (words_in 4) bits ∙ words_back _ c.other.invariant in
      c.eq.ensures ∙ (bytes_decides _ _).1 words,
)
