-- Views by their parts.
use Rattle.std.proofs.Common.{◌≡◌, ℕ, List, ◌++◌, ap, ◌∙◌}
use Rattle.member_codec.specs.Views.{Seat, parts_spelled}

pub same_parts : (old new : List ℕ) (number number' given given' : ℕ) (seats seats' : List Seat) → number ≡ number' → given ≡ given' → seats ≡ seats' → new ≡ old ++ parts_spelled number given seats → new ≡ old ++ parts_spelled number' given' seats'
same_parts old new number number' given given' seats seats' p q r e =
    e ∙ ap (λ (n : ℕ). old ++ parts_spelled n given seats) p ∙ ap (λ (g : ℕ). old ++ parts_spelled number' g seats) q ∙ ap (λ (s : List Seat). old ++ parts_spelled number' given' s) r
