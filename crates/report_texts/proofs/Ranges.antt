-- Ranges that grow at their end, and words of them.
use Rattle.std.proofs.Common.{◌≡◌, ℕ, zero, suc, ◌+◌, ◌<◌, List, [], ◌∷◌, ◌++◌, length, take, get_or, map, filter, Bool, true, false, cond, not, ◌==◌, if◌then◌else◌, decimal, codes, ◌≤◌, String, Global, string_bytes, refl, sym, ap, ◌∙◌, arith, append_assoc}
use Rattle.std.specs.List.{range_with_len, join_with_byte, cons_option}
use Rattle.std.specs.Prelude.{filter_map, Option, Some, None}
use Rattle.std.proofs.lemmas.List.{take_more, map-append, append-nil, length-map, length-take}
use Rattle.std.proofs.lemmas.List.Elements.{filter-append, filter_map-append}
use Rattle.base_vectors.proofs.Walks.{counted_more}
use Rattle.model_history.specs.Vector.{VersionVector, IdentitySet}
use Rattle.model_members.specs.Report.{words, words_or_dash}
use Rattle.std.proofs.lemmas.Bool.Decides.{nat_tests}
use Rattle.report_texts.specs.Pairs.{pair_word, pair_words}

range_next : (a n : ℕ) → range_with_len a (suc n) ≡ range_with_len a n ++ (a + n) ∷ []
range_next a zero = let e : a ≡ a + 0 = omega arith in ap (λ m. m ∷ []) e
range_next a (suc n) = let e : a + 1 + n ≡ a + suc n = omega arith in ap (λ xs. a ∷ xs) (range_next (a + 1) n ∙ ap (λ m. range_with_len (a + 1) n ++ m ∷ []) e)

pair_words_at : (v : VersionVector) (n : ℕ) (b : Bool) → not (v n == 0) ≡ b → pair_words v (range_with_len 0 (n + 1)) ≡ pair_words v (range_with_len 0 n) ++ cond b (pair_word v n ∷ []) []
pair_words_at v n b is =
    let nonzero : ℕ → Bool = λ i. not (v i == 0) in
    let old = filter nonzero (range_with_len 0 n) in
    let one : (b : Bool) → map (pair_word v) (cond b (n ∷ []) []) ≡ cond b (pair_word v n ∷ []) [] = λ b. elim b as (λ b. map (pair_word v) (cond b (n ∷ []) []) ≡ cond b (pair_word v n ∷ []) []) [ true ↦ refl | false ↦ refl ] in
    ap (pair_words v) (counted_more n) ∙ ap (map (pair_word v)) (filter-append nonzero (range_with_len 0 n) (n ∷ [])) ∙ map-append (pair_word v) old (cond (nonzero n) (n ∷ []) [])
    ∙ ap (λ xs. map (pair_word v) old ++ xs) (ap (λ b. map (pair_word v) (cond b (n ∷ []) [])) is ∙ one b)

pub pair_words_more : (v : VersionVector) (n : ℕ) → not (v n == 0) ≡ true → pair_words v (range_with_len 0 (n + 1)) ≡ pair_words v (range_with_len 0 n) ++ pair_word v n ∷ []
pair_words_more v n is = pair_words_at v n true is

pub pair_words_none : (v : VersionVector) (n : ℕ) → not (v n == 0) ≡ false → pair_words v (range_with_len 0 (n + 1)) ≡ pair_words v (range_with_len 0 n)
pair_words_none v n is = pair_words_at v n false is ∙ append-nil (pair_words v (range_with_len 0 n))

-- one more word
join_more : (c : ℕ) (ys : List (List ℕ)) (x : List ℕ) → 0 < length ys → join_with_byte c (ys ++ (x ∷ [])) ≡ join_with_byte c ys ++ (c ∷ x)
join_more c [] x l = absurd (omega arith)
join_more c (y ∷ []) x l = refl
join_more c (y ∷ z ∷ ys) x l = ap (λ v. y ++ (c ∷ v)) (join_more c (z ∷ ys) x (omega arith)) ∙ sym (append_assoc y (c ∷ join_with_byte c (z ∷ ys)) (c ∷ x))

-- the words so far, where a word is what an item is told as
module _ {X : Type 0} (f : X → List ℕ) (c i : ℕ) (ws : List X) (w : X) where
  pub first_word : i ≡ 0 → i < length ws → w ≡ get_or ws i w → join_with_byte c (map f (take (i + 1) ws)) ≡ f w
  first_word none h is =
      rw (take_more ws i w h, none) (let e : w ≡ get_or ws 0 w = (rw none at is) in ap f (sym e))

  pub next_word : 0 < i → i < length ws → w ≡ get_or ws i w → join_with_byte c (map f (take (i + 1) ws)) ≡ join_with_byte c (map f (take i ws)) ++ (c ∷ f w)
  next_word some h is =
      ap (λ xs. join_with_byte c (map f xs)) (take_more ws i w h) ∙ ap (join_with_byte c) (map-append f (take i ws) (get_or ws i w ∷ []))
      ∙ join_more c (map f (take i ws)) (f (get_or ws i w)) (simp (length-map, length-take) (omega arith))
      ∙ ap (λ x. join_with_byte c (map f (take i ws)) ++ (c ∷ f x)) (sym is)

  more_at : (b : Bool) → (i == 0) ≡ b → i < length ws → w ≡ get_or ws i w
      → join_with_byte c (map f (take i ws)) ++ ((if b then [] else c ∷ []) ++ f w) ≡ join_with_byte c (map f (take (i + 1) ws))
  more_at true none h is =
      let zero : i ≡ 0 = grind (arith, nat_tests) in
      ap (λ k. join_with_byte c (map f (take k ws)) ++ f w) zero ∙ sym (first_word zero h is)
  more_at false some h is = let above : 0 < i = grind (arith, nat_tests) in sym (next_word above h is)

  -- one more word, behind a separator unless it is the first
  pub more_word : i < length ws → w ≡ get_or ws i w
      → join_with_byte c (map f (take i ws)) ++ ((if i == 0 then [] else c ∷ []) ++ f w) ≡ join_with_byte c (map f (take (i + 1) ws))
  more_word h is = more_at (i == 0) refl h is

pub grown_word : (start before then_ after separator joined word : List ℕ) (byte : ℕ) → before ≡ start ++ joined → then_ ≡ before ++ separator → separator ≡ byte ∷ [] → after ≡ then_ ++ word → after ≡ start ++ (joined ++ (byte ∷ word))
grown_word start before then_ after separator joined word byte e f g h =
    h ∙ ap (λ t. t ++ word) (f ∙ ap (λ t. t ++ separator) e ∙ ap (λ s. (start ++ joined) ++ s) g) ∙ append_assoc (start ++ joined) (byte ∷ []) word ∙ append_assoc start joined (byte ∷ word)

pub some_words : (ws : List (String Global)) → false ≡ (length ws == 0) → words_or_dash (map string_bytes ws) ≡ words (map string_bytes ws)
some_words [] e = absurd (cc e)
some_words (w ∷ ws) e = refl

pub first_before : {X : Type 0} (f : X → List ℕ) (start text : List ℕ) (c i : ℕ) (ws : List X) → i ≡ 0 → text ≡ start ++ join_with_byte c (map f (take i ws)) → text ≡ start
first_before f start text c i ws none e = (rw none at e) ∙ append-nil start

-- one more pair, or none
pub pushed_pair : (v : VersionVector) (n seq : ℕ) (old new : List (String Global)) (word : String Global) → map string_bytes old ≡ pair_words v (range_with_len 0 n) → seq ≡ v n → 0 < seq → string_bytes word ≡ decimal n ++ codes ":" ++ decimal seq → new ≡ old ++ word ∷ []
    → map string_bytes new ≡ pair_words v (range_with_len 0 (n + 1))
pushed_pair v n seq old new word before is some text pushed =
    let some' : not (v n == 0) ≡ true = rw (← is) (grind (arith, nat_tests)) in
    ap (map string_bytes) pushed ∙ map-append string_bytes old (word ∷ []) ∙ ap (λ ws. ws ++ string_bytes word ∷ []) before
    ∙ ap (λ t. pair_words v (range_with_len 0 n) ++ t ∷ []) (text ∙ ap (λ s. decimal n ++ codes ":" ++ decimal s) is)
    ∙ sym (pair_words_more v n some')

pub no_pair : (v : VersionVector) (n seq : ℕ) → seq ≡ v n → seq ≤ 0 → pair_words v (range_with_len 0 n) ≡ pair_words v (range_with_len 0 (n + 1))
no_pair v n seq is none = sym (pair_words_none v n (rw (← is) (grind (arith, nat_tests))))

-- the members of a set, so far
abbrev pub member_words : IdentitySet → ℕ → List (List ℕ)
member_words set n = map decimal (filter set (range_with_len 0 n))

member_words_at : (set : IdentitySet) (n : ℕ) (b : Bool) → set n ≡ b → member_words set (n + 1) ≡ member_words set n ++ cond b (decimal n ∷ []) []
member_words_at set n b is =
    let one : (b : Bool) → map decimal (cond b (n ∷ []) []) ≡ cond b (decimal n ∷ []) [] = λ b. elim b as (λ b. map decimal (cond b (n ∷ []) []) ≡ cond b (decimal n ∷ []) []) [ true ↦ refl | false ↦ refl ] in
    ap (λ is. map decimal (filter set is)) (counted_more n) ∙ ap (map decimal) (filter-append set (range_with_len 0 n) (n ∷ [])) ∙ map-append decimal (filter set (range_with_len 0 n)) (cond (set n) (n ∷ []) [])
    ∙ ap (λ xs. member_words set n ++ xs) (ap (λ b. map decimal (cond b (n ∷ []) [])) is ∙ one b)

-- a word more
pub pushed : (old new : List (String Global)) (word : String Global) (before : List (List ℕ)) (text : List ℕ) → map string_bytes old ≡ before → string_bytes word ≡ text → new ≡ old ++ word ∷ [] → map string_bytes new ≡ before ++ text ∷ []
pushed old new word before text e f g = ap (map string_bytes) g ∙ map-append string_bytes old (word ∷ []) ∙ ap (λ ws. ws ++ string_bytes word ∷ []) e ∙ ap (λ t. before ++ t ∷ []) f

pub member_more : (set : IdentitySet) (n : ℕ) → set n ≡ true → member_words set n ++ decimal n ∷ [] ≡ member_words set (n + 1)
member_more set n is = sym (member_words_at set n true is)

pub no_member : (set : IdentitySet) (n : ℕ) → set n ≡ false → member_words set n ≡ member_words set (n + 1)
no_member set n is = sym (member_words_at set n false is ∙ append-nil (member_words set n))

pub given_more : (word : ℕ → Option (List ℕ)) (n : ℕ) (text : List ℕ) → word n ≡ Some text → filter_map word (range_with_len 0 n) ++ text ∷ [] ≡ filter_map word (range_with_len 0 (n + 1))
given_more word n text is = sym (ap (filter_map word) (counted_more n) ∙ filter_map-append word (range_with_len 0 n) (n ∷ []) ∙ ap (λ o. filter_map word (range_with_len 0 n) ++ cons_option o []) is)

pub none_given : (word : ℕ → Option (List ℕ)) (n : ℕ) → word n ≡ None → filter_map word (range_with_len 0 n) ≡ filter_map word (range_with_len 0 (n + 1))
none_given word n is =
    sym (ap (filter_map word) (counted_more n) ∙ filter_map-append word (range_with_len 0 n) (n ∷ []) ∙ ap (λ o. filter_map word (range_with_len 0 n) ++ cons_option o []) is ∙ append-nil (filter_map word (range_with_len 0 n)))

-- the texts of marks, as they are written
pub performed_parts : (r o a : List ℕ) (x y : ℕ) → r ++ (x ∷ (o ++ (y ∷ a))) ≡ r ++ (x ∷ []) ++ o ++ (y ∷ []) ++ a
performed_parts r o a x y = sym (append_assoc (r ++ (x ∷ []) ++ o) (y ∷ []) a ∙ append_assoc (r ++ (x ∷ [])) o (y ∷ a) ∙ append_assoc r (x ∷ []) (o ++ (y ∷ a)))

pub begun_parts : (r o v s : List ℕ) (x y z : ℕ) → (r ++ (x ∷ (o ++ (y ∷ (v ++ (z ∷ [])))))) ++ s ≡ r ++ (x ∷ []) ++ o ++ (y ∷ []) ++ v ++ (z ∷ []) ++ s
begun_parts r o v s x y z =
    ap (λ t. t ++ s) (performed_parts r o (v ++ (z ∷ [])) x y ∙ sym (append_assoc (r ++ (x ∷ []) ++ o ++ (y ∷ [])) v (z ∷ [])))
