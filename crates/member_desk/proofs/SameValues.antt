-- The test of shown values tells whether they are equal.
use Rattle.std.proofs.Common.{◌≡◌, List, [], ◌∷◌, Bool, true, false, refl, ap, sym}
use Rattle.std.specs.Prelude.{◌==◌}
use Rattle.std.specs.Bool.{Decides}
use Rattle.std.specs.Ordering.{int_eq}
use Rattle.std.specs.Str.{bytes_eq}
use Rattle.std.proofs.lemmas.Bool.Decides.{Decides-eqb, Decides-int_eq, Decides-and, Decides-like}
use Rattle.std.proofs.lemmas.Slice.Eq.{bytes_eq-Decides}
use Rattle.model_history.specs.Texts.{Text}
use Rattle.model_kinds.specs.declared.shown.Shown.{Shown}
use Rattle.model_kinds.specs.declared.shown.Shown.TheVariants.{Count, Signed, Elements, Switch, Written, Deleted}
use Rattle.member_desk.specs.Values.{same_texts, same_switch, same_shown}

texts_decide : (xs ys : List Text) → Decides (same_texts xs ys) (xs ≡ ys)
texts_decide [] [] = (λ e. refl, λ e. refl)
texts_decide [] (y ∷ ys) = (λ e. absurd (cc e), λ e. absurd (cc e))
texts_decide (x ∷ xs) [] = (λ e. absurd (cc e), λ e. absurd (cc e))
texts_decide (x ∷ xs) (y ∷ ys) =
    let both = Decides-and (bytes_eq x y) (same_texts xs ys) (bytes_eq-Decides x y) (texts_decide xs ys) in (
      λ e. let p = both.0 e in let first = p.0 in let more = p.1 in cc (first, more),
      λ e. both.1 (cc e, cc e),
    )

switch_decides : (a b : Bool) → Decides (same_switch a b) (a ≡ b)
switch_decides true b = (λ e. sym e, λ e. sym e)
switch_decides false true = (λ e. absurd (cc e), λ e. absurd (cc e))
switch_decides false false = (λ e. refl, λ e. refl)

pub shown_decides : (a b : Shown) → Decides (same_shown a b) (a ≡ b)
shown_decides (Count m) (Count n) = Decides-like (m == n) (λ e. ap Count e) (λ e. cc e) (Decides-eqb m n)
shown_decides (Signed y) (Signed z) = Decides-like (int_eq y z) (λ e. ap Signed e) (λ e. cc e) (Decides-int_eq y z)
shown_decides (Elements xs) (Elements ys) = Decides-like (same_texts xs ys) (λ e. ap Elements e) (λ e. cc e) (texts_decide xs ys)
shown_decides (Switch a) (Switch b) = Decides-like (same_switch a b) (λ e. ap Switch e) (λ e. cc e) (switch_decides a b)
shown_decides (Written x) (Written y) = Decides-like (bytes_eq x y) (λ e. ap Written e) (λ e. cc e) (bytes_eq-Decides x y)
shown_decides Deleted Deleted = (λ e. refl, λ e. refl)
shown_decides _ _ = (λ e. absurd (cc e), λ e. absurd (cc e))

pub same_self : (a : Shown) → same_shown a a ≡ true
same_self a = (shown_decides a a).1 refl
