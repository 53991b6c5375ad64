-- What was read of a line so far.
use Rattle.std.proofs.Common.{◌≡◌, ℕ, ◌<◌, ◌≤◌, zero, suc, List, [], ◌∷◌, ◌++◌, length, take, get_or, refl, All, Option, None, Some, arith}
use Rattle.std.specs.Io.KnownBytes.{Consumes, Keeps}
use Rattle.std.proofs.lemmas.List.Elements.{All-append, All-push}
use Rattle.base_outside.proofs.Moved.{consumes_more}
use Rattle.top_lines.specs.Rows.{IsOneLine, ReadsPart}

pub no_bytes : IsOneLine []
no_bytes k d h = absurd (omega (arith, h))

pub one_byte : (byte : ℕ) → (byte ≡ 10 → ⊥) → IsOneLine (byte ∷ [])
one_byte byte other = All-push (λ b. b ≡ 10 → ⊥) [] byte no_bytes other

pub nothing_read : (a : Option (List ℕ)) → Consumes a a []
nothing_read None = tt
nothing_read (Some bytes) = refl

pub kept_on : (a b c : Option (List ℕ)) (line : List ℕ) → Consumes a b line → Keeps b c → Consumes a c line
kept_on None b c line read kept = tt
kept_on (Some x) None c line read kept = absurd read
kept_on (Some x) (Some y) None line read kept = absurd kept
kept_on (Some x) (Some y) (Some z) line read kept = rw kept read

-- a part of a line, and a part more
pub part_on : (a b c : Option (List ℕ)) (line rest : List ℕ) → IsOneLine line → IsOneLine rest → Consumes a b line → Consumes b c rest → ReadsPart a c
part_on a b c line rest one more read on = (line ++ rest, All-append (λ b. b ≡ 10 → ⊥) line rest one more, consumes_more a b c line rest read on)

-- of one byte, one was read
pub take_one : (bytes : List ℕ) (n d : ℕ) → length bytes ≡ 1 → n ≤ length bytes → (n ≡ 0 → ⊥) → take n bytes ≡ get_or bytes 0 d ∷ []
take_one [] n d one within some = absurd (omega (arith, one))
take_one (byte ∷ []) zero d one within some = absurd (some refl)
take_one (byte ∷ []) (suc zero) d one within some = refl
take_one (byte ∷ []) (suc (suc n)) d one within some = absurd (omega (arith, within))
take_one (byte ∷ other ∷ bytes) n d one within some = absurd (omega (arith, one))
