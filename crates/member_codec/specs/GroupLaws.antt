-- Groups: what is read is spelled so, and what is spelled so is read again.
use Rattle.std.proofs.Common.{◌≡◌, ℕ, ◌^◌, Bool, true, List, [], ◌∷◌, ◌++◌, length, Result, Ok, sym, ap, subst, ◌∙◌, append_assoc}
use Rattle.base_bytes.specs.declared.fault.Fault.{Fault}
use Rattle.base_bytes.specs.Fields.{◌>>=◌, kept, byte_in}
use Rattle.base_bytes.specs.Spelling.{AreBytes, Takes}
use Rattle.base_bytes.specs.FieldLaws.{bind_ok, kept_ok, kept_on, ok_is, takes_then, byte_takes}
use Rattle.base_vectors.specs.Fields.{identity_in}
use Rattle.base_vectors.specs.FieldLaws.{IsAllowed}
use Rattle.base_vectors.specs.Spelling.{nobody, numbers_in, AreSpellable}
use Rattle.data_envelope.specs.Images.{GroupParts}
use Rattle.base_places.specs.Spells.{Spells}
use Rattle.base_places.specs.Lists.{IsSoundPair, pair_spelled, pair_in}
use Rattle.base_places.specs.ListLaws.{pair_spells}
use Rattle.member_codec.specs.Identities.{identity_spelled, versions_spelled}
use Rattle.member_codec.specs.IdentityLaws.{identity_spells, versions_spells}
use Rattle.member_codec.specs.Numbers.{span_spelled, span_in, IsSpan}
use Rattle.member_codec.specs.NumberLaws.{span_spells}
use Rattle.member_codec.specs.Groups.{Before, before_spelled, before_in, before_of, with_change, change_spelled, group_spelled, change_in, group_in, IsSoundGroup}

abbrev pub IsSoundBefore : Before → Type 0
IsSoundBefore = IsSoundPair (IsAllowed 0 nobody) (IsSoundPair IsSpan (AreSpellable (2 ^ 62)))

pub before_spells : Spells IsSoundBefore before_spelled before_in
before_spells =
    pair_spells (IsAllowed 0 nobody) identity_spelled (identity_in 0 nobody) (IsSoundPair IsSpan (AreSpellable (2 ^ 62))) (pair_spelled span_spelled versions_spelled) (pair_in span_in (numbers_in (2 ^ 62) nobody)) identity_spells
    (pair_spells IsSpan span_spelled span_in (AreSpellable (2 ^ 62)) versions_spelled (numbers_in (2 ^ 62) nobody) span_spells versions_spells)

module _ {Delta : Type 0} (is_delta : ℕ → Bool) (byte : Delta → ℕ) (spelled : Delta → List ℕ) (delta_in : ℕ → ℕ → List ℕ → Result (Delta × List ℕ) Fault) (IsSoundDelta : Delta → Type 0) (IsOfOrigin : Delta → ℕ → Type 0)
    (takes : (kind origin : ℕ) (bytes : List ℕ) (x : Delta) (rest : List ℕ) → is_delta kind ≡ true → AreBytes bytes → delta_in kind origin bytes ≡ Ok (x, rest) → Takes bytes (spelled x) rest × IsSoundDelta x × (byte x ≡ kind) × IsOfOrigin x origin)
    (again : (x : Delta) (origin : ℕ) (rest : List ℕ) → IsSoundDelta x → ∥ IsOfOrigin x origin ∥₁ → delta_in (byte x) origin (spelled x ++ rest) ≡ Ok (x, rest))
    (known : (x : Delta) → is_delta (byte x) ≡ true) where
  pub change_takes : (origin : ℕ) (bytes : List ℕ) (x : Delta) (rest : List ℕ) → AreBytes bytes → change_in is_delta delta_in origin bytes ≡ Ok (x, rest) → Takes bytes (change_spelled byte spelled x) rest × IsSoundDelta x × IsOfOrigin x origin
  unfolding change_in
  change_takes origin bytes x rest fits e =
      let a = bind_ok (byte_in bytes) (λ kind. kept (is_delta kind.0) (length bytes) >>= λ _. delta_in kind.0 origin kind.1) (x, rest) e in
      let kind : ℕ × List ℕ = a.0 in
      let k = kept_ok (is_delta kind.0) (length bytes) (λ _. delta_in kind.0 origin kind.1) (x, rest) a.2 in
      let first = byte_takes bytes kind.0 kind.1 fits a.1 in
      let second = takes kind.0 origin kind.1 x rest k.0 first.0.rest_are_bytes k.1 in
      let both = takes_then bytes (kind.0 ∷ []) kind.1 (spelled x) rest first.0 second.0 in
      (subst (λ (n : ℕ). Takes bytes (n ∷ spelled x) rest) (sym second.2) both, second.1, second.3)

  change_again : (x : Delta) (origin : ℕ) (rest : List ℕ) → IsSoundDelta x → ∥ IsOfOrigin x origin ∥₁ → change_in is_delta delta_in origin (change_spelled byte spelled x ++ rest) ≡ Ok (x, rest)
  unfolding change_in
  change_again x origin rest sound of_origin =
      kept_on (is_delta (byte x)) (length (byte x ∷ (spelled x ++ rest))) (λ _. delta_in (byte x) origin (spelled x ++ rest)) (known x) ∙ again x origin rest sound of_origin

  group_takes : (bytes : List ℕ) (x : GroupParts Delta) (rest : List ℕ) → AreBytes bytes → group_in is_delta delta_in bytes ≡ Ok (x, rest) → Takes bytes (group_spelled byte spelled x) rest × IsSoundGroup IsSoundDelta IsOfOrigin x
  unfolding group_in
  group_takes bytes x rest fits e =
      let a = bind_ok (before_in bytes) (λ before. change_in is_delta delta_in before.0.0 before.1 >>= λ delta. Ok (with_change before.0 delta.0, delta.1)) (x, rest) e in
      let before : Before × List ℕ = a.0 in
      let b = bind_ok (change_in is_delta delta_in before.0.0 before.1) (λ delta. Ok (with_change before.0 delta.0, delta.1)) (x, rest) a.2 in
      let delta : Delta × List ℕ = b.0 in
      let first = before_spells.takes bytes before.0 before.1 fits a.1 in
      let second = change_takes before.0.0 before.1 delta.0 delta.1 first.0.rest_are_bytes b.1 in
      let made : GroupParts Delta × List ℕ = (with_change before.0 delta.0, delta.1) in
      subst (λ (y : GroupParts Delta × List ℕ). Takes bytes (group_spelled byte spelled y.0) y.1 × IsSoundGroup IsSoundDelta IsOfOrigin y.0) {x = made} {y = (x, rest)} (ok_is made (x, rest) b.2) (
        takes_then bytes (before_spelled before.0) before.1 (change_spelled byte spelled delta.0) delta.1 first.0 second.0,
        record { origin = first.1.0; numbers = first.1.1.0; needed = first.1.1.1; changes = second.1; of_origin = ∣ second.2 ∣₁ },
      )

  group_again : (x : GroupParts Delta) (rest : List ℕ) → IsSoundGroup IsSoundDelta IsOfOrigin x → group_in is_delta delta_in (group_spelled byte spelled x ++ rest) ≡ Ok (x, rest)
  unfolding group_in
  group_again x rest is =
      ap (λ (t : List ℕ). before_in t >>= λ before. change_in is_delta delta_in before.0.0 before.1 >>= λ delta. Ok (with_change before.0 delta.0, delta.1)) (append_assoc (before_spelled (before_of x)) (change_spelled byte spelled x.changes) rest)
      ∙ ap (λ (r : Result (Before × List ℕ) Fault). r >>= λ before. change_in is_delta delta_in before.0.0 before.1 >>= λ delta. Ok (with_change before.0 delta.0, delta.1)) (before_spells.again (before_of x) (change_spelled byte spelled x.changes ++ rest) (is.origin, (is.numbers, is.needed)))
      ∙ ap (λ (r : Result (Delta × List ℕ) Fault). r >>= λ delta. Ok (with_change (before_of x) delta.0, delta.1)) (change_again x.changes x.origin rest is.changes is.of_origin)

  pub group_spells : Spells (IsSoundGroup IsSoundDelta IsOfOrigin) (group_spelled byte spelled) (group_in is_delta delta_in)
  group_spells = record { takes = group_takes; again = group_again }
