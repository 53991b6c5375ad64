-- Bits that are true where one of two is.
use Rattle.std.proofs.Common.{◌≡◌, ◌⊎◌, Bool, true, false, ◌||◌, refl, sym, inl, inr}

pub same_bits : (b c : Bool) → (b ≡ true → c ≡ true) → (c ≡ true → b ≡ true) → b ≡ c
same_bits true c f g = sym (f refl)
same_bits false true f g = g refl
same_bits false false f g = refl

pub or_third : (a b c : Bool) → (a || (b || c)) ≡ ((a || b) || c)
or_third true b c = refl
or_third false b c = refl

pub or_again : (a b : Bool) → (a || b) ≡ ((a || b) || a)
or_again true b = refl
or_again false true = refl
or_again false false = refl
