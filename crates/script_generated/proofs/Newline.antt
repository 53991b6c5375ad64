-- A newline after a JSON text changes nothing of what is read.
use Rattle.std.proofs.Common.{◌≡◌, ℕ, ◌≤◌, Bool, true, false, cond, ◌&&◌, List, [], ◌∷◌, ◌++◌, Some, option_and_then, refl, sym, ap, ap₂, ◌∙◌, append_assoc, append-nil}
use Rattle.json.specs.Token.{Token, begin_object, end_object, begin_array, end_array, key, string, number, boolean, null, bad}
use Rattle.json.specs.Word.{ends_word, word}
use Rattle.json.specs.Lex.{token, comma, colon, string_token, lex, between, fresh, punctuate, tokens}
use Rattle.json.specs.Print.{escape, quoted, token_text, begins, ends, separator, print_from, print, IsPrintable, ArePrintable}
use Rattle.json.specs.Json as json
use Rattle.json.specs.Tree as tree
use Rattle.json.proofs.Printed.Strings.{content-escape, lex-escape}
use Rattle.json.proofs.Printed.Numbers.{lex-number, in_word-ended}
use Rattle.json.proofs.Printed.Tokens.{tokens-print}
use Rattle.json.proofs.Printed.Trees.{value-json_tokens, ArePrintable-json_tokens}
use Rattle.serde_json.specs.Data.{Data}
use Rattle.serde_json.specs.Read.{read, max_depth, of_json}
use Rattle.serde_json.specs.Written.{outline, compact_text}
use Rattle.serde_json.proofs.Texts.{print-outline}

-- a word before printed tokens has ended, if it has before what follows them
word_ended : (ts : List Token) (rest : List ℕ) → ends_word rest ≡ true → ends_word (print_from true ts ++ rest) ≡ true
unfolding print_from
word_ended [] rest h = h
word_ended (begin_object ∷ ts) rest h = refl
word_ended (end_object ∷ ts) rest h = refl
word_ended (begin_array ∷ ts) rest h = refl
word_ended (end_array ∷ ts) rest h = refl
word_ended (key s ∷ ts) rest h = refl
word_ended (string s ∷ ts) rest h = refl
word_ended (number s ∷ ts) rest h = refl
word_ended (boolean b ∷ ts) rest h = refl
word_ended (null ∷ ts) rest h = refl
word_ended (bad ∷ ts) rest h = refl

string_lexed : (s r : List ℕ) → lex between (quoted s ++ r) ≡ token (string s) ∷ lex between r
unfolding lex
string_lexed s r =
    ap (λ l. lex between (34 ∷ l)) (append_assoc (escape s) (34 ∷ []) r)
    ∙ ap₂ (λ o l. token (string_token o) ∷ l) (content-escape s r) (lex-escape s r)

key_lexed : (s r : List ℕ) → lex between ((quoted s ++ 58 ∷ []) ++ r) ≡ token (string s) ∷ colon ∷ lex between r
unfolding lex
key_lexed s r = ap (lex between) (append_assoc (quoted s) (58 ∷ []) r) ∙ string_lexed s (58 ∷ r)

-- of what follows a token, its lexemes depend on the lexemes alone
same_from : (t : Token) (r s : List ℕ) → IsPrintable t → (ends t ≡ true → ends_word r ≡ true) → (ends t ≡ true → ends_word s ≡ true)
    → lex between r ≡ lex between s → lex between (token_text t ++ r) ≡ lex between (token_text t ++ s)
unfolding lex word
same_from begin_object r s p r_ends s_ends same = ap (λ l. token begin_object ∷ l) same
same_from end_object r s p r_ends s_ends same = ap (λ l. token end_object ∷ l) same
same_from begin_array r s p r_ends s_ends same = ap (λ l. token begin_array ∷ l) same
same_from end_array r s p r_ends s_ends same = ap (λ l. token end_array ∷ l) same
same_from (key k) r s p r_ends s_ends same = key_lexed k r ∙ ap (λ l. token (string k) ∷ colon ∷ l) same ∙ sym (key_lexed k s)
same_from (string k) r s p r_ends s_ends same = string_lexed k r ∙ ap (λ l. token (string k) ∷ l) same ∙ sym (string_lexed k s)
same_from (number n) r s p r_ends s_ends same = lex-number n r p (r_ends refl) ∙ ap (λ l. token (number n) ∷ l) same ∙ sym (lex-number n s p (s_ends refl))
same_from (boolean true) r s p r_ends s_ends same =
    ap₂ (λ b l. token (cond b (boolean true) bad) ∷ l) (r_ends refl ∙ sym (s_ends refl)) (in_word-ended r (r_ends refl) ∙ same ∙ sym (in_word-ended s (s_ends refl)))
same_from (boolean false) r s p r_ends s_ends same =
    ap₂ (λ b l. token (cond b (boolean false) bad) ∷ l) (r_ends refl ∙ sym (s_ends refl)) (in_word-ended r (r_ends refl) ∙ same ∙ sym (in_word-ended s (s_ends refl)))
same_from null r s p r_ends s_ends same =
    ap₂ (λ b l. token (cond b null bad) ∷ l) (r_ends refl ∙ sym (s_ends refl)) (in_word-ended r (r_ends refl) ∙ same ∙ sym (in_word-ended s (s_ends refl)))
same_from bad r s p r_ends s_ends same = absurd p

same_after_comma : (b : Bool) (r s : List ℕ) → lex between r ≡ lex between s → lex between (cond b (44 ∷ []) [] ++ r) ≡ lex between (cond b (44 ∷ []) [] ++ s)
unfolding lex
same_after_comma true r s same = ap (λ l. comma ∷ l) same
same_after_comma false r s same = same

regroup : (a b c d : List ℕ) → (a ++ (b ++ c)) ++ d ≡ a ++ (b ++ (c ++ d))
regroup a b c d = simp append_assoc

-- what follows printed tokens adds no lexeme, if it has none of its own
none_added : (after_value : Bool) (ts : List Token) (rest : List ℕ) → ArePrintable ts → ends_word rest ≡ true → lex between rest ≡ []
    → lex between (print_from after_value ts ++ rest) ≡ lex between (print_from after_value ts)
unfolding lex print_from ArePrintable
none_added after_value [] rest p ends_it none = none
none_added after_value (t ∷ ts) rest p ends_it none =
    let more = print_from (ends t) ts in
    ap (lex between) (regroup (separator after_value t) (token_text t) more rest)
    ∙ same_after_comma (after_value && begins t) _ _
    (same_from t (more ++ rest) more p.0
    (λ e. ap (λ b. ends_word (print_from b ts ++ rest)) e ∙ word_ended ts rest ends_it)
    (λ e. ap (λ b. ends_word (print_from b ts)) e ∙ ap ends_word (sym (append-nil (print_from true ts))) ∙ word_ended ts [] refl)
    (none_added (ends t) ts rest p.1 ends_it none))

newline_after : (ts : List Token) → ArePrintable ts → tokens (print ts ++ 10 ∷ []) ≡ ts
unfolding lex
newline_after ts p = ap (punctuate fresh) (none_added false ts (10 ∷ []) p refl refl) ∙ tokens-print ts p

-- the text of a value and a newline are read as that value
pub read_back : (d : Data) → of_json (outline d) ≡ Some d → tree.HasNumbers (outline d) → tree.depth (outline d) ≤ max_depth → read (compact_text d ++ 10 ∷ []) ≡ Some d
read_back d reads numbers flat =
    let ts = tree.json_tokens (outline d) in
    let same : tokens (compact_text d ++ 10 ∷ []) ≡ ts =
    ap (λ text. tokens (text ++ 10 ∷ [])) (sym (print-outline d)) ∙ newline_after ts (ArePrintable-json_tokens (outline d) numbers) in
    ap (λ found. option_and_then of_json (option_and_then (λ p. json.if_last p.0 p.1) found))
    (ap (json.value max_depth) (same ∙ sym (append-nil ts)) ∙ value-json_tokens (outline d) max_depth [] flat)
    ∙ reads
