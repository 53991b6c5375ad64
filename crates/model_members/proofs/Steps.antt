-- Texts that are equal, what stands at one, and steps that send nothing.
use Rattle.std.proofs.Common.{◌≡◌, ℕ, ◌<◌, refl, ap, arith, true, Some, None}
use Rattle.std.specs.Prelude.{if◌then◌else◌, nat_le, []}
use Rattle.std.specs.Str.{bytes_eq}
use Rattle.std.proofs.lemmas.Bool.Decides.{nat_tests, Decides-eqb}
use Rattle.std.proofs.lemmas.Slice.Eq.{slice_eq-Decides}
use Rattle.model_history.specs.Texts.{Text}
use Rattle.model_members.specs.Node.{Level, with_text_at, needed, Stepped}

pub bytes_eq-same : (xs : Text) → bytes_eq xs xs ≡ true
bytes_eq-same xs = (slice_eq-Decides Decides-eqb xs xs _ refl).1 refl

pub bytes_eq-tells : (xs ys : Text) → bytes_eq xs ys ≡ true → xs ≡ ys
bytes_eq-tells xs ys e = (slice_eq-Decides Decides-eqb xs ys _ refl).0 e

pub with_text_at-same : {X : Type 0} (f : Text → X) (key : Text) (x : X) → with_text_at f key x key ≡ x
with_text_at-same f key x = ap (λ b. if b then x else f key) (bytes_eq-same key)

pub one_is_enough : (n : ℕ) → 0 < n → needed Level.Local n ≡ Some 1
one_is_enough n h = let e : nat_le 1 n ≡ true = grind (arith, nat_tests) in rw e refl

-- WHAT SENDS NOTHING

-- no message is sent, and no operation ends
pub record IsQuiet {Kind Op Shown : Type 0} (stepped : Stepped Kind Op Shown) : Type 0 where
  pub posts : stepped.output.posts ≡ []
  pub ended : stepped.output.ended ≡ None
