-- What is said of keys, seen as it is, is the same.
use Rattle.std.proofs.Common.{◌≡◌, List, [], ◌∷◌, refl, ap}
use Rattle.std.specs.Prelude.{map}
use Rattle.member_messages.specs.declared.message.Keyed.{Keyed}
use Rattle.member_codec.specs.Keyed.{keyed_as}

pub same_keyed : {X : Type 0} (xs : List (Keyed X)) → map (keyed_as (λ (x : X). x)) xs ≡ xs
same_keyed [] = refl
same_keyed (x ∷ xs) = ap (λ ys. x ∷ ys) (same_keyed xs)

pub same_items : {X : Type 0} (xs : List X) → map (λ (x : X). x) xs ≡ xs
same_items [] = refl
same_items (x ∷ xs) = ap (λ ys. x ∷ ys) (same_items xs)
