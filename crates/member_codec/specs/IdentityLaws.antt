-- An identity and numbers of records: what is read is spelled so, and what is spelled so is read again.
use Rattle.std.proofs.Common.{ℕ, ◌<◌, ◌^◌, lit<}
use Rattle.base_vectors.specs.Fields.{identity_in}
use Rattle.base_vectors.specs.FieldLaws.{IsAllowed, identity_takes, identity_again}
use Rattle.base_vectors.specs.Spelling.{nobody, numbers_in, AreSpellable}
use Rattle.base_vectors.proofs.Spellings.{numbers_takes, numbers_again}
use Rattle.base_places.specs.Spells.{Spells}
use Rattle.member_codec.specs.Identities.{identity_spelled, versions_spelled}

pub identity_spells : Spells (IsAllowed 0 nobody) identity_spelled (identity_in 0 nobody)
identity_spells = record { takes = λ bytes x rest fits e. identity_takes 0 nobody bytes x rest fits e; again = λ x rest sound. identity_again 0 nobody x rest sound }

pub versions_spells : Spells (AreSpellable (2 ^ 62)) versions_spelled (numbers_in (2 ^ 62) nobody)
versions_spells = record {
  takes = λ bytes x rest fits e. let t = numbers_takes (2 ^ 62) nobody bytes x rest fits e in (t.0, t.1);
  again = λ x rest sound. let limit : 2 ^ 62 < 2 ^ 64 = lit< tt in numbers_again (2 ^ 62) nobody x rest limit sound (λ i bar. absurd (cc bar));
}
