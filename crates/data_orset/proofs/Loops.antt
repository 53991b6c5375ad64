-- Reading dots or elements one after the other, as loops do.
use Rattle.std.proofs.Common.{◌≡◌, ℕ, suc, ◌-◌, ◌+◌, ◌≤◌, ◌<◌, List, [], ◌∷◌, ◌++◌, Option, None, Some, Result, Ok, Err, refl, sym, ap, subst, ◌∙◌, append_assoc, arith, map, ◌^◌}
use Rattle.std.proofs.lemmas.List.{append-nil, map-append}
use Rattle.std.proofs.lemmas.Grind.{flat_map-append}
use Rattle.std.specs.List.{flat_map, last_or}
use Rattle.model_history.specs.Texts.{Text}
use Rattle.model_history.specs.Vector.{IdentitySet}
use Rattle.base_bytes.specs.declared.fault.Fault.{Fault}
use Rattle.base_bytes.specs.declared.fault.FieldError.{FieldError}
use Rattle.base_bytes.specs.declared.fault.FieldError.TheVariants as error
use Rattle.base_bytes.specs.Fields.{◌>>=◌, Fails, text_in}
use Rattle.base_vectors.specs.Fields.{positive_in}
use Rattle.base_vectors.specs.declared.id.Dot.{Dot}
use Rattle.data_orset.specs.Placing.{Placed, at_dot}
use Rattle.data_orset.specs.Keeping.{set_of}
use Rattle.data_orset.specs.Elements.{Element, placed_of, set_of_elements, texts_in}
use Rattle.data_orset.specs.Reading.{dot_in, dots_in, element_in, elements_in, listed_in, set_in}

-- what was read before, and what is still read
abbrev pub with_front : {X : Type 0} → List X → Result (List X × List ℕ) Fault → Result (List X × List ℕ) Fault
with_front front read = read >>= λ x. Ok (front ++ x.0, x.1)

abbrev pub with_one : {X : Type 0} → X → Result (List X × List ℕ) Fault → Result (List X × List ℕ) Fault
with_one n read = read >>= λ x. Ok (n ∷ x.0, x.1)

regroup : {X : Type 0} (front : List X) (n : X) (read : Result (List X × List ℕ) Fault) → with_front front (with_one n read) ≡ with_front (front ++ n ∷ []) read
regroup {X} front n (Ok x) = ap (λ (ns : List X). Ok (ns, x.1)) (sym (append_assoc front (n ∷ []) x.0))
regroup front n (Err f) = refl

goes_on : {X : Type 0} (front : List X) (n : X) (here there total : Result (List X × List ℕ) Fault) → here ≡ with_one n there → with_front front here ≡ total → with_front (front ++ n ∷ []) there ≡ total
goes_on front n here there total e so_far = sym (regroup front n there) ∙ ap (with_front front) (sym e) ∙ so_far

ends : {X : Type 0} (e : FieldError) (front : List X) (here total : Result (List X × List ℕ) Fault) → Fails e here → with_front front here ≡ total → Fails e total
ends error.Memory front here total h so_far = tt
ends (error.Fault f) front here total h so_far = sym so_far ∙ ap (with_front front) h

is_done : {X : Type 0} (front : List X) (bytes : List ℕ) (here total : Result (List X × List ℕ) Fault) → here ≡ Ok ([], bytes) → with_front front here ≡ total → total ≡ Ok (front, bytes)
is_done {X} front bytes here total e so_far = sym so_far ∙ ap (with_front front) e ∙ ap (λ (ns : List X). Ok (ns, bytes)) (append-nil front)

fails_then : {A B : Type 0} (e : FieldError) (r : Result A Fault) (f : A → Result B Fault) → Fails e r → Fails e (r >>= f)
fails_then error.Memory r f h = tt
fails_then {A} (error.Fault d) r f h = ap (λ (x : Result A Fault). x >>= f) h

goes_to : {A B : Type 0} (r : Result A Fault) (x : A) (f : A → Result B Fault) → r ≡ Ok x → (r >>= f) ≡ f x
goes_to {A} r x f is = ap (λ (s : Result A Fault). s >>= f) is

module _ (barred : IdentitySet) (front : List Dot) (count i origin seq : ℕ) (bytes : List ℕ) (total : Result (List Dot × List ℕ) Fault) where
  pub dots_go_on : (n : Dot) (after : List ℕ) → i < count → dot_in barred origin seq bytes ≡ Ok (n, after)
      → with_front front (dots_in barred (count - i) origin seq bytes) ≡ total → with_front (front ++ n ∷ []) (dots_in barred (count - (i + 1)) n.origin n.seq after) ≡ total
  unfolding dots_in
  dots_go_on n after lt h =
      let k : count - i ≡ suc (count - (i + 1)) = omega arith in
      let rest = dots_in barred (count - (i + 1)) n.origin n.seq after in
      goes_on front n (dots_in barred (count - i) origin seq bytes) rest total
      (ap (λ m. dots_in barred m origin seq bytes) k ∙ ap (λ (r : Result (Dot × List ℕ) Fault). r >>= λ x. with_one x.0 (dots_in barred (count - (i + 1)) x.0.origin x.0.seq x.1)) h)

  pub dots_end : (e : FieldError) → i < count → Fails e (dot_in barred origin seq bytes) → with_front front (dots_in barred (count - i) origin seq bytes) ≡ total → Fails e total
  unfolding dots_in
  dots_end e lt h =
      let k : count - i ≡ suc (count - (i + 1)) = omega arith in
      ends e front (dots_in barred (count - i) origin seq bytes) total
      (subst (λ m. Fails e (dots_in barred m origin seq bytes)) (sym k) (fails_then e (dot_in barred origin seq bytes) (λ x. with_one x.0 (dots_in barred (count - (i + 1)) x.0.origin x.0.seq x.1)) h))

  pub dots_done : count ≤ i → with_front front (dots_in barred (count - i) origin seq bytes) ≡ total → total ≡ Ok (front, bytes)
  unfolding dots_in
  dots_done le =
      let k : count - i ≡ 0 = omega arith in
      is_done front bytes (dots_in barred (count - i) origin seq bytes) total (ap (λ m. dots_in barred m origin seq bytes) k)

-- one more dot of an element behind those that are placed
pub placed_more : (old all more : List Placed) (text : Text) (front : List Dot) (d : Dot) → more ≡ all ++ at_dot d text ∷ [] → all ≡ old ++ map (λ e. at_dot e text) front → more ≡ old ++ map (λ e. at_dot e text) (front ++ d ∷ [])
placed_more old all more text front d is so_far =
    is ∙ ap (λ (ps : List Placed). ps ++ at_dot d text ∷ []) so_far ∙ append_assoc old (map (λ e. at_dot e text) front) (at_dot d text ∷ []) ∙ ap (λ (ps : List Placed). old ++ ps) (sym (map-append (λ (e : Dot). at_dot e text) front (d ∷ [])))

last_more : {X : Type 0} (o : Option X) (xs : List X) (x : X) → last_or o (xs ++ x ∷ []) ≡ Some x
last_more o [] x = refl
last_more o (y ∷ xs) x = last_more (Some y) xs x

texts_push : (xs : List Element) (x : Element) → texts_in (xs ++ x ∷ []) ≡ texts_in xs ++ x.text ∷ []
texts_push [] x = refl
texts_push (y ∷ xs) x = ap (λ es. y.text ∷ es) (texts_push xs x)

-- the text, the number of its dots and these, as an element
abbrev as_element : Text → List Dot × List ℕ → Result (Element × List ℕ) Fault
as_element text x = Ok (record { text = text; dots = x.0 }, x.1)

abbrev after_count : IdentitySet → Text → ℕ × List ℕ → Result (Element × List ℕ) Fault
after_count barred text x = dots_in barred x.0 0 0 x.1 >>= as_element text

abbrev after_text : IdentitySet → Text × List ℕ → Result (Element × List ℕ) Fault
after_text barred x = positive_in (2 ^ 64 - 1) x.1 >>= after_count barred x.0

pub element_read : (barred : IdentitySet) (before : Option Text) (bytes : List ℕ) (text : Text) (behind : List ℕ) (count : ℕ) (rest : List ℕ) (x : List Dot × List ℕ)
    → text_in before bytes ≡ Ok (text, behind) → positive_in (2 ^ 64 - 1) behind ≡ Ok (count, rest) → dots_in barred count 0 0 rest ≡ Ok x
    → element_in barred before bytes ≡ Ok (record { text = text; dots = x.0 }, x.1)
unfolding element_in
element_read barred before bytes text behind count rest x texts counts dots =
    goes_to (text_in before bytes) (text, behind) (after_text barred) texts
    ∙ goes_to (positive_in (2 ^ 64 - 1) behind) (count, rest) (after_count barred text) counts
    ∙ goes_to (dots_in barred count 0 0 rest) x (as_element text) dots

pub set_read : (barred : IdentitySet) (bytes : List ℕ) (x : List Element × List ℕ) (dots : List Placed) (rest : List ℕ) → listed_in barred bytes ≡ Ok x → ◌≡◌ {A = List Placed × List ℕ} (dots, rest) (flat_map placed_of x.0, x.1) → set_in barred bytes ≡ Ok (set_of dots, rest)
unfolding set_in
set_read barred bytes x dots rest is same =
    goes_to (listed_in barred bytes) x (λ y. Ok (set_of_elements y.0, y.1)) is
    ∙ ap (λ (p : List Placed × List ℕ). Ok (set_of p.0, p.1)) (sym same)

-- the text of the last element
abbrev pub last_of : List Element → Option Text
last_of xs = last_or None (texts_in xs)

last_push : (xs : List Element) (x : Element) → last_of (xs ++ x ∷ []) ≡ Some x.text
last_push xs x = ap (last_or None) (texts_push xs x) ∙ last_more None (texts_in xs) x.text

module _ (barred : IdentitySet) (front : List Element) (count i : ℕ) (bytes : List ℕ) (total : Result (List Element × List ℕ) Fault) where
  pub elements_go_on : (n : Element) (after : List ℕ) → i < count → element_in barred (last_of front) bytes ≡ Ok (n, after)
      → with_front front (elements_in barred (count - i) (last_of front) bytes) ≡ total → with_front (front ++ n ∷ []) (elements_in barred (count - (i + 1)) (last_of (front ++ n ∷ [])) after) ≡ total
  unfolding elements_in
  elements_go_on n after lt h so_far =
      let k : count - i ≡ suc (count - (i + 1)) = omega arith in
      ap (λ (o : Option Text). with_front (front ++ n ∷ []) (elements_in barred (count - (i + 1)) o after)) (last_push front n)
      ∙ goes_on front n (elements_in barred (count - i) (last_of front) bytes) (elements_in barred (count - (i + 1)) (Some n.text) after) total
      (ap (λ m. elements_in barred m (last_of front) bytes) k ∙ ap (λ (r : Result (Element × List ℕ) Fault). r >>= λ x. with_one x.0 (elements_in barred (count - (i + 1)) (Some x.0.text) x.1)) h) so_far

  pub elements_end : (e : FieldError) → i < count → Fails e (element_in barred (last_of front) bytes) → with_front front (elements_in barred (count - i) (last_of front) bytes) ≡ total → Fails e total
  unfolding elements_in
  elements_end e lt h =
      let k : count - i ≡ suc (count - (i + 1)) = omega arith in
      ends e front (elements_in barred (count - i) (last_of front) bytes) total
      (subst (λ m. Fails e (elements_in barred m (last_of front) bytes)) (sym k) (fails_then e (element_in barred (last_of front) bytes) (λ x. with_one x.0 (elements_in barred (count - (i + 1)) (Some x.0.text) x.1)) h))

  pub elements_done : count ≤ i → with_front front (elements_in barred (count - i) (last_of front) bytes) ≡ total → total ≡ Ok (front, bytes)
  unfolding elements_in
  elements_done le =
      let k : count - i ≡ 0 = omega arith in
      is_done front bytes (elements_in barred (count - i) (last_of front) bytes) total (ap (λ m. elements_in barred m (last_of front) bytes) k)

  pub elements_step : (before : Option Text) (x : Element × List ℕ) (text : Text) (after : List ℕ) → i < count → element_in barred before bytes ≡ Ok x → before ≡ last_of front → ◌≡◌ {A = Text × List ℕ} (text, after) (x.0.text, x.1)
      → with_front front (elements_in barred (count - i) (last_of front) bytes) ≡ total → with_front (front ++ x.0 ∷ []) (elements_in barred (count - (i + 1)) (last_of (front ++ x.0 ∷ [])) after) ≡ total
  elements_step before x text after lt is last same so_far =
      subst (λ a. with_front (front ++ x.0 ∷ []) (elements_in barred (count - (i + 1)) (last_of (front ++ x.0 ∷ [])) a) ≡ total) (sym (ap (λ (p : Text × List ℕ). p.1) same))
      (elements_go_on x.0 x.1 lt (ap (λ (o : Option Text). element_in barred o bytes) (sym last) ∙ is) so_far)

-- the last text, and the dots, of one more element
pub last_step : (front : List Element) (x : Element × List ℕ) (text : Text) (after : List ℕ) → ◌≡◌ {A = Text × List ℕ} (text, after) (x.0.text, x.1) → Some text ≡ last_of (front ++ x.0 ∷ [])
last_step front x text after same = ap (λ (p : Text × List ℕ). Some p.0) same ∙ sym (last_push front x.0)

pub dots_step : (front : List Element) (x : Element) (all more : List Placed) → all ≡ flat_map placed_of front → more ≡ all ++ placed_of x → more ≡ flat_map placed_of (front ++ x ∷ [])
dots_step front x all more so_far is =
    is ∙ ap (λ (ps : List Placed). ps ++ placed_of x) so_far
    ∙ sym (flat_map-append placed_of front (x ∷ []) ∙ ap (λ (ps : List Placed). flat_map placed_of front ++ ps) (append-nil (placed_of x)))
