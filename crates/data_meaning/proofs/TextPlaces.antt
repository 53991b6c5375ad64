-- The place of a text in a list, found by comparing it with one text after the other.
use Rattle.std.proofs.Common.{◌≡◌, ℕ, ◌+◌, ◌<◌, ◌≤◌, List, [], ◌∷◌, ◌++◌, length, get_or, take, drop, if◌then◌else◌, refl, ap, sym, ◌∙◌, arith, Option, None, Some}
use Rattle.std.specs.List.{insert, filter_map, fold, cons_option}
use Rattle.std.proofs.lemmas.List.{drop_more, drop_all, append_assoc, take_more, take-append-drop}
use Rattle.std.specs.declared.cmp.Ordering.{Ordering}
use Rattle.std.specs.declared.cmp.Ordering.TheVariants.{Less, Equal, Greater}
use Rattle.std.specs.Ordering.{is_lt, is_eq}
use Rattle.std.specs.Cmp.Lexicographic.{texts_ties}
use Rattle.base_bytes.proofs.TextLaws.{lt_is}
use Rattle.base_bytes.specs.TextOrder.{text_order}
use Rattle.model_history.specs.Texts.{Text, text_lt, with_text, text_set}
use Rattle.std.specs.Option.{option_to_list}
use Rattle.std.proofs.lemmas.List.Elements.{filter_map-append}
use Rattle.std.proofs.lemmas.List.Sums.{fold-append}

-- A TEXT BESIDE THE FIRST OF A LIST

abbrev by_order : Text → Text → List Text → Ordering → List Text
by_order x y ys r = if is_eq r then y ∷ ys else (if is_lt r then x ∷ y ∷ ys else y ∷ with_text ys x)

with_is : (x y : Text) (ys : List Text) → with_text (y ∷ ys) x ≡ by_order x y ys (text_order x y)
with_is x y ys = ap (λ b. if b then y ∷ ys else (if text_lt x y then x ∷ y ∷ ys else y ∷ with_text ys x)) (texts_ties x y)
    ∙ ap (λ b. if is_eq (text_order x y) then y ∷ ys else (if b then x ∷ y ∷ ys else y ∷ with_text ys x)) (lt_is x y)

with_by : (x y : Text) (ys : List Text) (r : Ordering) → text_order x y ≡ r → with_text (y ∷ ys) x ≡ by_order x y ys r
with_by x y ys r e = with_is x y ys ∙ ap (by_order x y ys) e

-- THE SEARCH

-- the text belongs at the index or later
pub record IsSearched (texts : List Text) (text : Text) (index : ℕ) : Type 0 where
  pub within : index ≤ length texts
  pub rest : with_text texts text ≡ take index texts ++ with_text (drop index texts) text

pub search_none : (texts : List Text) (text : Text) → IsSearched texts text 0
search_none texts text = record { within = omega arith; rest = refl }

module _ (texts : List Text) (text y : Text) (index : ℕ) (l : index < length texts) (at : y ≡ get_or texts index y) (s : IsSearched texts text index) where
  front : with_text texts text ≡ take index texts ++ with_text (y ∷ drop (index + 1) texts) text
  front = s.rest ∙ ap (λ zs. take index texts ++ with_text zs text) (drop_more texts index y l ∙ ap (λ z. z ∷ drop (index + 1) texts) (sym at))

  whole : take index texts ++ y ∷ drop (index + 1) texts ≡ texts
  whole = ap (λ zs. take index texts ++ zs) (sym (drop_more texts index y l ∙ ap (λ z. z ∷ drop (index + 1) texts) (sym at))) ∙ take-append-drop index texts

  pub search_equal : text_order text y ≡ Equal → with_text texts text ≡ texts
  search_equal e = front ∙ ap (λ zs. take index texts ++ zs) (with_by text y (drop (index + 1) texts) Equal e) ∙ whole

  pub search_less : text_order text y ≡ Less → insert texts index text ≡ with_text texts text
  search_less e = sym (front ∙ ap (λ zs. take index texts ++ zs) (with_by text y (drop (index + 1) texts) Less e)
      ∙ ap (λ zs. take index texts ++ text ∷ zs) (sym (drop_more texts index y l ∙ ap (λ z. z ∷ drop (index + 1) texts) (sym at))))

  pub search_greater : text_order text y ≡ Greater → IsSearched texts text (index + 1)
  search_greater e = record {
    within = omega arith;
    rest = front ∙ ap (λ zs. take index texts ++ zs) (with_by text y (drop (index + 1) texts) Greater e)
        ∙ sym (append_assoc (take index texts) (y ∷ []) (with_text (drop (index + 1) texts) text))
        ∙ ap (λ zs. zs ++ with_text (drop (index + 1) texts) text) (ap (λ z. take index texts ++ z ∷ []) at ∙ sym (take_more texts index y l));
  }

pub search_end : (texts : List Text) (text : Text) (index : ℕ) → length texts ≤ index → IsSearched texts text index → insert texts index text ≡ with_text texts text
search_end texts text index l s =
    let none : drop index texts ≡ [] = drop_all index texts l in
    ap (λ zs. take index texts ++ text ∷ zs) none ∙ sym (s.rest ∙ ap (λ zs. take index texts ++ with_text zs text) none)

-- ONE TEXT MORE

as_list : (o : Option Text) → cons_option o [] ≡ option_to_list o
as_list None = refl
as_list (Some x) = refl

-- a set of what records have, one record on
pub set_more : {X : Type 0} (f : X → Option Text) (xs : List X) (i : ℕ) (x : X) → i < length xs → x ≡ get_or xs i x
    → text_set (filter_map f (take (i + 1) xs)) ≡ fold with_text (text_set (filter_map f (take i xs))) (option_to_list (f x))
set_more f xs i x l at =
    ap (λ ys. text_set (filter_map f ys)) (take_more xs i x l ∙ ap (λ y. take i xs ++ y ∷ []) (sym at))
    ∙ ap text_set (filter_map-append f (take i xs) (x ∷ []) ∙ ap (λ ys. filter_map f (take i xs) ++ ys) (as_list (f x)))
    ∙ fold-append with_text [] (filter_map f (take i xs)) (option_to_list (f x))
