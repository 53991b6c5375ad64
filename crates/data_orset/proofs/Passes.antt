-- Going over the dots of a list by their indexes.
use Rattle.std.proofs.Common.{◌≡◌, ℕ, ◌+◌, ◌-◌, ◌<◌, ◌≤◌, zero, suc, List, [], ◌∷◌, ◌++◌, length, take, drop, Bool, true, false, cond, not, ◌||◌, refl, ap, sym, ◌∙◌, arith, append_assoc, if◌then◌else◌, map}
use Rattle.std.specs.List.{filter, list_any, flat_map}
use Rattle.std.proofs.lemmas.List.{drop_all, drop_more, append-nil, length-map, length-drop, length-take-le}
use Rattle.std.specs.Str.{bytes_eq}
use Rattle.model_history.specs.Texts.{Text}
use Rattle.base_bytes.specs.Spelling.{text_spelled, number_spelled}
use Rattle.base_vectors.specs.declared.id.Dot.{Dot}
use Rattle.data_orset.specs.Placing.{Placed, nth, dot_at, AreDots}
use Rattle.data_orset.specs.Keeping.{IsFirstOf}
use Rattle.data_orset.specs.Elements.{dot_spelled, element_spelled}
use Rattle.data_orset.proofs.Tables.{nth_at}
use Rattle.data_orset.proofs.Merging.{pushed}
use Rattle.data_orset.proofs.ElementsInOrder.{first_after}

pub opened_at : (ps : List Placed) (i : ℕ) → i < length ps → drop i ps ≡ nth ps i ∷ drop (i + 1) ps
opened_at ps i l = drop_more ps i (nth ps i) l ∙ ap (λ z. z ∷ drop (i + 1) ps) (sym (nth_at ps i l))

-- WHICH STAY

pub kept_next : (r : Placed → Bool) (ps all whole : List Placed) (i : ℕ) (b : Bool) → i < length ps → b ≡ r (nth ps i) → all ++ filter r (drop i ps) ≡ whole
    → (all ++ (if b then nth ps i ∷ [] else [])) ++ filter r (drop (i + 1) ps) ≡ whole
kept_next r ps all whole i b l e so_far =
    let rest : List Placed = filter r (drop (i + 1) ps) in
    pushed all rest b (nth ps i) ∙ ap (λ c. all ++ cond c (nth ps i ∷ rest) rest) e ∙ ap (λ xs. all ++ filter r xs) (sym (opened_at ps i l)) ∙ so_far

pub kept_end : (r : Placed → Bool) (ps all whole : List Placed) (i : ℕ) → length ps ≤ i → all ++ filter r (drop i ps) ≡ whole → all ≡ whole
kept_end r ps all whole i l so_far = sym (append-nil all) ∙ ap (λ xs. all ++ filter r xs) (sym (drop_all i ps l)) ∙ so_far

-- WHETHER THERE IS ONE

pub any_next : (t : Placed → Bool) (ps : List Placed) (whole : Bool) (i : ℕ) → i < length ps → t (nth ps i) ≡ false → list_any t (drop i ps) ≡ whole → list_any t (drop (i + 1) ps) ≡ whole
any_next t ps whole i l e so_far = sym (ap (list_any t) (opened_at ps i l) ∙ ap (λ b. b || list_any t (drop (i + 1) ps)) e) ∙ so_far

pub any_here : (t : Placed → Bool) (ps : List Placed) (whole : Bool) (i : ℕ) → i < length ps → t (nth ps i) ≡ true → list_any t (drop i ps) ≡ whole → true ≡ whole
any_here t ps whole i l e so_far = sym (ap (list_any t) (opened_at ps i l) ∙ ap (λ b. b || list_any t (drop (i + 1) ps)) e) ∙ so_far

pub any_end : (t : Placed → Bool) (ps : List Placed) (whole : Bool) (i : ℕ) → length ps ≤ i → list_any t (drop i ps) ≡ whole → false ≡ whole
any_end t ps whole i l so_far = ap (list_any t) (sym (drop_all i ps l)) ∙ so_far

-- whether a dot is the first of its element
pub first_at : (ps : List Placed) (i : ℕ) (same : Bool) → AreDots ps → i < length ps → 1 ≤ i → same ≡ bytes_eq (nth ps (i - 1)).element (nth ps i).element → IsFirstOf ps i (not same)
first_at ps i same h inside some is =
    first_after ps (i - 1) i (nth ps (i - 1)) (nth ps i) (not same) h (omega arith) inside (nth_at ps (i - 1) (omega arith)) (nth_at ps i inside) (ap not is)

-- SPELLING

-- the dots from one index up to another
abbrev pub dots_from : List Placed → ℕ → ℕ → List Dot
dots_from ps i end = map dot_at (take (end - i) (drop i ps))

pub dots_next : (ps : List Placed) (i end : ℕ) → i < end → end ≤ length ps → dots_from ps i end ≡ dot_at (nth ps i) ∷ dots_from ps (i + 1) end
dots_next ps i end l le =
    let more : end - i ≡ suc (end - (i + 1)) = omega arith in
    ap (λ n. map dot_at (take n (drop i ps))) more ∙ ap (λ (qs : List Placed). map dot_at (take (suc (end - (i + 1))) qs)) (opened_at ps i (omega arith))

pub spelled_next : (ps : List Placed) (i end : ℕ) (bytes more whole : List ℕ) → i < end → end ≤ length ps → more ≡ bytes ++ dot_spelled (dot_at (nth ps i))
    → bytes ++ flat_map dot_spelled (dots_from ps i end) ≡ whole → more ++ flat_map dot_spelled (dots_from ps (i + 1) end) ≡ whole
spelled_next ps i end bytes more whole l le new so_far =
    let rest : List ℕ = flat_map dot_spelled (dots_from ps (i + 1) end) in
    ap (λ (t : List ℕ). t ++ rest) new ∙ append_assoc bytes (dot_spelled (dot_at (nth ps i))) rest ∙ ap (λ (ds : List Dot). bytes ++ flat_map dot_spelled ds) (sym (dots_next ps i end l le)) ∙ so_far

dots_end : (ps : List Placed) (i end : ℕ) → end ≤ i → dots_from ps i end ≡ []
dots_end ps i end le = let none : end - i ≡ 0 = omega arith in ap (λ n. map dot_at (take n (drop i ps))) none

length_dots : (ps : List Placed) (start end : ℕ) → start ≤ end → end ≤ length ps → length (dots_from ps start end) ≡ end - start
length_dots ps start end le within =
    let left = length-drop start ps in
    length-map (take (end - start) (drop start ps)) dot_at ∙ length-take-le (end - start) (drop start ps) (omega arith)

-- the text, how many dots, and these
pub element_is : (ps : List Placed) (start end i : ℕ) (e : Text) (old text number done : List ℕ) → start < end → end ≤ length ps → end ≤ i → text ≡ old ++ text_spelled e → number ≡ text ++ number_spelled (end - start)
    → done ++ flat_map dot_spelled (dots_from ps i end) ≡ number ++ flat_map dot_spelled (dots_from ps start end) → done ≡ old ++ element_spelled (record { text = e; dots = dots_from ps start end })
element_is ps start end i e old text number done l le past after_text after_number so_far =
    let dots : List ℕ = flat_map dot_spelled (dots_from ps start end) in
    sym (append-nil done) ∙ ap (λ (ds : List Dot). done ++ flat_map dot_spelled ds) (sym (dots_end ps i end past)) ∙ so_far
    ∙ ap (λ (t : List ℕ). t ++ dots) (after_number ∙ ap (λ (t : List ℕ). t ++ number_spelled (end - start)) after_text)
    ∙ append_assoc (old ++ text_spelled e) (number_spelled (end - start)) dots ∙ append_assoc old (text_spelled e) (number_spelled (end - start) ++ dots)
    ∙ ap (λ k. old ++ (text_spelled e ++ (number_spelled k ++ dots))) (sym (length_dots ps start end (omega arith) le))

-- FROM ONE INDEX UP TO ANOTHER

open_between : (ps : List Placed) (i end : ℕ) → i < end → end ≤ length ps → drop i (take end ps) ≡ nth ps i ∷ drop (i + 1) (take end ps)
open_between [] i end l le = absurd (omega arith)
open_between (p ∷ ps) i zero l le = absurd (omega arith)
open_between (p ∷ ps) zero (suc end) l le = refl
open_between (p ∷ ps) (suc i) (suc end) l le =
    let next : suc (i + 1) ≡ suc i + 1 = omega arith in
    open_between ps i end (omega arith) (omega arith) ∙ ap (λ n. nth ps i ∷ drop n (p ∷ take end ps)) next

pub between_next : (ps part whole : List Placed) (i end : ℕ) → i < end → end ≤ length ps → part ++ drop i (take end ps) ≡ whole → (part ++ nth ps i ∷ []) ++ drop (i + 1) (take end ps) ≡ whole
between_next ps part whole i end l le so_far =
    append_assoc part (nth ps i ∷ []) (drop (i + 1) (take end ps)) ∙ ap (λ (qs : List Placed). part ++ qs) (sym (open_between ps i end l le)) ∙ so_far

past_all : (ps : List Placed) (i end : ℕ) → end ≤ i → drop i (take end ps) ≡ []
past_all [] zero zero l = refl
past_all [] zero (suc end) l = refl
past_all [] (suc i) zero l = refl
past_all [] (suc i) (suc end) l = refl
past_all (p ∷ ps) zero zero l = refl
past_all (p ∷ ps) zero (suc end) l = absurd (omega arith)
past_all (p ∷ ps) (suc i) zero l = refl
past_all (p ∷ ps) (suc i) (suc end) l = past_all ps i end (omega arith)

pub between_end : (ps part whole : List Placed) (i end : ℕ) → end ≤ i → part ++ drop i (take end ps) ≡ whole → part ≡ whole
between_end ps part whole i end l so_far = sym (append-nil part) ∙ ap (λ (qs : List Placed). part ++ qs) (sym (past_all ps i end l)) ∙ so_far
