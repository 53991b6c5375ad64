-- Plain texts as JSON strings.
use Rattle.std.proofs.Common.{◌≡◌, ℕ, List, [], ◌∷◌, ◌++◌, true, false, refl, sym, ap, ◌∙◌, arith, append_assoc}
use Rattle.std.specs.Prelude.{nat_lt}
use Rattle.std.specs.List.{list_all}
use Rattle.std.proofs.lemmas.Bool.{and_parts}
use Rattle.std.proofs.lemmas.Bool.Decides.{nat_tests}
use Rattle.json.specs.Run.{is_plain}
use Rattle.json.specs.Print.{escape_letter, escape_byte, escape, quoted}

no_letter : (x : ℕ) → is_plain x ≡ true → escape_letter x ≡ 0
no_letter x plain = grind (arith, nat_tests)

plain_byte : (x : ℕ) → is_plain x ≡ true → escape_byte x ≡ x ∷ []
unfolding escape_byte
plain_byte x plain =
    let none = no_letter x plain in
    let small : nat_lt x 32 ≡ false = grind (arith, nat_tests) in
    rw (none, small)

plain_escape : (s : List ℕ) → list_all is_plain s ≡ true → escape s ≡ s
plain_escape [] h = refl
plain_escape (x ∷ s) h =
    let parts = and_parts (is_plain x) (list_all is_plain s) h in
    ap (λ bytes. bytes ++ escape s) (plain_byte x parts.0) ∙ ap (λ bytes. x ∷ bytes) (plain_escape s parts.1)

-- between quotes a plain text stands as it is
pub plain_quoted : (s before : List ℕ) → list_all is_plain s ≡ true → ((before ++ 34 ∷ []) ++ s) ++ 34 ∷ [] ≡ before ++ quoted s
plain_quoted s before h =
    append_assoc (before ++ 34 ∷ []) s (34 ∷ []) ∙ append_assoc before (34 ∷ []) (s ++ 34 ∷ []) ∙ ap (λ e. before ++ 34 ∷ (e ++ 34 ∷ [])) (sym (plain_escape s h))

-- and behind others of a list
pub plain_element : (s before comma : List ℕ) → list_all is_plain s ≡ true → ((before ++ (comma ++ 34 ∷ [])) ++ s) ++ 34 ∷ [] ≡ before ++ (comma ++ quoted s)
plain_element s before comma h =
    ap (λ t. (t ++ s) ++ 34 ∷ []) (sym (append_assoc before comma (34 ∷ []))) ∙ plain_quoted s (before ++ comma) h ∙ append_assoc before comma (quoted s)
