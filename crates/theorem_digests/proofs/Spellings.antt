-- What is spelled tells what it was spelled of, where numbers are small enough.
use Rattle.std.proofs.Common.{◌≡◌, ℕ, zero, suc, ◌+◌, ◌^◌, ◌<◌, ◌≤◌, Bool, true, false, List, [], ◌∷◌, ◌++◌, length, take, drop, get_or, filter, Option, Some, None, inl, inr, refl, sym, ap, subst, ◌∙◌, append_assoc, arith}
use Rattle.std.specs.Prelude.{if◌then◌else◌}
use Rattle.std.specs.List.{AllByRecursion, range_with_len, filter_map, flat_map, cons_option}
use Rattle.std.specs.Int.{w32, w64, from_be_bytes}
use Rattle.std.proofs.lemmas.Bool.{cases_eq}
use Rattle.std.proofs.lemmas.List.Concat.{flat_map-cons}
use Rattle.std.proofs.lemmas.Nat.{from_be_bytes-to_be_bytes_4, from_be_bytes-to_be_bytes_8}
use Rattle.model_history.specs.Table.{identity_limit, identities}
use Rattle.model_history.specs.Vector.{IdentitySet, members_of}
use Rattle.model_members.specs.Entry.{Mark}
use Rattle.model_members.specs.Relations.{AreSameMark}
use Rattle.base_bytes.specs.Spelling.{word_spelled, number_spelled}
use Rattle.base_vectors.specs.IdSets.{member_count}
use Rattle.base_vectors.specs.Spelling.{pair_unless_zero, pair_at, pairs_of, pair_spelled, numbers_spelled, ids_spelled}
use Rattle.data_markers.specs.Spelling.{pieces_spelled, begun_tail, performed_tail}

-- LISTS

-- the fronts of equal lists, if they are as long
same_front : (a b x y : List ℕ) → length a ≡ length b → a ++ x ≡ b ++ y → (a ≡ b) × (x ≡ y)
same_front [] [] x y len e = (refl, e)
same_front [] (q ∷ b) x y len e = absurd (omega arith)
same_front (p ∷ a) [] x y len e = absurd (omega arith)
same_front (p ∷ a) (q ∷ b) x y len e =
    let here : p ≡ q = cc e in
    let later : a ++ x ≡ b ++ y = cc e in
    let rest = same_front a b x y (omega arith) later in
    ((λ j. here j ∷ rest.0 j), rest.1)

-- texts that end by themselves, one after another
module _ {X : Type 0} (spelled : X → List ℕ) (Is : X → Type 0) (ends : (a b : X) (x y : List ℕ) → Is a → Is b → spelled a ++ x ≡ spelled b ++ y → (a ≡ b) × (x ≡ y)) where
  regrouped : (a : X) (left : List X) (x : List ℕ) → flat_map spelled (a ∷ left) ++ x ≡ spelled a ++ (flat_map spelled left ++ x)
  regrouped a left x = ap (λ (t : List ℕ). t ++ x) (flat_map-cons spelled a left) ∙ append_assoc (spelled a) (flat_map spelled left) x

  all_end : (left right : List X) (x y : List ℕ) → AllByRecursion Is left → AllByRecursion Is right → length left ≡ length right → flat_map spelled left ++ x ≡ flat_map spelled right ++ y → (left ≡ right) × (x ≡ y)
  all_end [] [] x y p q len e = (refl, e)
  all_end [] (b ∷ right) x y p q len e = absurd (omega arith)
  all_end (a ∷ left) [] x y p q len e = absurd (omega arith)
  all_end (a ∷ left) (b ∷ right) x y p q len e =
      let first = ends a b (flat_map spelled left ++ x) (flat_map spelled right ++ y) p.0 q.0 (sym (regrouped a left x) ∙ e ∙ regrouped b right y) in
      let rest = all_end left right x y p.1 q.1 (omega arith) first.1 in
      ((λ j. first.0 j ∷ rest.0 j), rest.1)

  -- behind how many they are
  pub counted_end : (left right : List X) (x y : List ℕ) → AllByRecursion Is left → AllByRecursion Is right → (length left ∷ flat_map spelled left) ++ x ≡ (length right ∷ flat_map spelled right) ++ y → (left ≡ right) × (x ≡ y)
  counted_end left right x y p q e =
      let len : length left ≡ length right = cc e in
      let text : flat_map spelled left ++ x ≡ flat_map spelled right ++ y = cc e in
      all_end left right x y p q len text

-- WHAT STANDS AT EACH IDENTITY

pub all_there : {X : Type 0} (Is : X → Type 0) (f : ℕ → Option X) → ((i : ℕ) (x : X) → f i ≡ Some x → Is x) → (is : List ℕ) → AllByRecursion Is (filter_map f is)
all_there Is f each [] = tt
all_there {X} Is f each (i ∷ is) = by (f i) refl (all_there Is f each is)
  where
    by : (o : Option X) → f i ≡ o → AllByRecursion Is (filter_map f is) → AllByRecursion Is (cons_option o (filter_map f is))
    by None e rest = rest
    by (Some x) e rest = (each i x e, rest)

module _ {X : Type 0} (name : X → ℕ) where
  -- what stands at an identity names it
  abbrev AreNamed : (ℕ → Option X) → Type 0
  AreNamed f = (i : ℕ) (x : X) → f i ≡ Some x → name x ≡ i

  from_first : (f : ℕ → Option X) → AreNamed f → (n first : ℕ) (x : X) (xs : List X) → filter_map f (range_with_len first n) ≡ x ∷ xs → first ≤ name x
  from_first f named zero first x xs e = absurd (cc e)
  from_first f named (suc n) first x xs e = by (f first) refl e (λ e'. from_first f named n (first + 1) x xs e')
    where
      by : (o : Option X) → f first ≡ o → cons_option o (filter_map f (range_with_len (first + 1) n)) ≡ x ∷ xs → (filter_map f (range_with_len (first + 1) n) ≡ x ∷ xs → first + 1 ≤ name x) → first ≤ name x
      by None is e later = let a = later e in omega arith
      by (Some y) is e later = let same : y ≡ x = cc e in let a = named first y is in let b = ap name same in omega arith

  abbrev others : ℕ → ℕ → (ℕ → Option X) → List X
  others n first f = filter_map f (range_with_len (first + 1) n)

  -- so the list of what there is tells where it stood
  pub told_apart : (f g : ℕ → Option X) → AreNamed f → AreNamed g → (n first : ℕ) → filter_map f (range_with_len first n) ≡ filter_map g (range_with_len first n) → (i : ℕ) → first ≤ i → i < first + n → f i ≡ g i
  told_apart f g nf ng zero first e i l m = absurd (omega arith)
  told_apart f g nf ng (suc n) first e i l m = by (f first) (g first) refl refl e (λ e' l' m'. told_apart f g nf ng n (first + 1) e' i l' m')
    where
      here_or_later : f first ≡ g first → (first + 1 ≤ i → i < first + 1 + n → f i ≡ g i) → f i ≡ g i
      here_or_later here later = elim (cases_eq i first) [
        | inl same ↦ ap f same ∙ here ∙ sym (ap g same)
        | inr other ↦ later (omega arith) (omega arith)
      ]

      by : (o p : Option X) → f first ≡ o → g first ≡ p → cons_option o (others n first f) ≡ cons_option p (others n first g) → (others n first f ≡ others n first g → first + 1 ≤ i → i < first + 1 + n → f i ≡ g i) → f i ≡ g i
      by None None is is' e later = here_or_later (is ∙ sym is') (later e)
      by None (Some y) is is' e later = absurd (let a = from_first f nf n (first + 1) y (others n first g) e in let b = ng first y is' in omega arith)
      by (Some x) None is is' e later = absurd (let a = from_first g ng n (first + 1) x (others n first f) (sym e) in let b = nf first x is in omega arith)
      by (Some x) (Some y) is is' e later =
          let same : x ≡ y = cc e in
          let rest : others n first f ≡ others n first g = cc e in
          here_or_later (is ∙ ap Some same ∙ sym is') (later rest)

-- NUMBERS

pub same_word : (n m : ℕ) → n < 2 ^ 32 → m < 2 ^ 32 → word_spelled n ≡ word_spelled m → n ≡ m
same_word n m small small' e = sym (from_be_bytes-to_be_bytes_4 n small) ∙ ap (from_be_bytes w32) e ∙ from_be_bytes-to_be_bytes_4 m small'

pub same_number : (n m : ℕ) → n < 2 ^ 64 → m < 2 ^ 64 → number_spelled n ≡ number_spelled m → n ≡ m
same_number n m small small' e = sym (from_be_bytes-to_be_bytes_8 n small) ∙ ap (from_be_bytes w64) e ∙ from_be_bytes-to_be_bytes_8 m small'

abbrev IsSmallPair : ℕ × ℕ → Type 0
IsSmallPair pair = pair.1 < 2 ^ 64

pair_ends : (a b : ℕ × ℕ) (x y : List ℕ) → IsSmallPair a → IsSmallPair b → pair_spelled a ++ x ≡ pair_spelled b ++ y → (a ≡ b) × (x ≡ y)
pair_ends a b x y small small' e =
    let both = same_front (pair_spelled a) (pair_spelled b) x y refl e in
    let id : a.0 ≡ b.0 = ap (λ (t : List ℕ). get_or t 0 0) both.0 in
    let number : a.1 ≡ b.1 = same_number a.1 b.1 small small' (ap (drop 1) both.0) in
    ((λ j. (id j, number j)), both.1)

pair_named : (id n : ℕ) (x : ℕ × ℕ) → pair_unless_zero id n ≡ Some x → (x.0 ≡ id) × (x.1 ≡ n)
pair_named id zero x e = absurd (cc e)
pair_named id (suc n) x e = let same : (id, suc n) ≡ x = cc e in (ap (λ (y : ℕ × ℕ). y.0) (sym same), ap (λ (y : ℕ × ℕ). y.1) (sym same))

pair_number : (id n m : ℕ) → pair_unless_zero id n ≡ pair_unless_zero id m → n ≡ m
pair_number id zero zero e = refl
pair_number id zero (suc m) e = absurd (cc e)
pair_number id (suc n) zero e = absurd (cc e)
pair_number id (suc n) (suc m) e = let same : (id, suc n) ≡ (id, suc m) = cc e in ap (λ (y : ℕ × ℕ). y.1) same

-- numbers of identities, and what follows
pub numbers_end : (f g : ℕ → ℕ) (x y : List ℕ) → ((i : ℕ) → f i < 2 ^ 64) → ((i : ℕ) → g i < 2 ^ 64) → numbers_spelled f ++ x ≡ numbers_spelled g ++ y → ((i : ℕ) → i < identity_limit → f i ≡ g i) × (x ≡ y)
unfolding pairs_of
numbers_end f g x y small small' e =
    let both = counted_end pair_spelled IsSmallPair pair_ends (filter_map (pair_at f) identities) (filter_map (pair_at g) identities) x y (all_small f small) (all_small g small') e in
    (λ i l. pair_number i (f i) (g i) (told_apart (λ (p : ℕ × ℕ). p.0) (pair_at f) (pair_at g) (named f) (named g) identity_limit 0 both.0 i (omega arith) (omega arith)), both.1)
  where
    all_small : (h : ℕ → ℕ) → ((i : ℕ) → h i < 2 ^ 64) → AllByRecursion IsSmallPair (filter_map (pair_at h) identities)
    all_small h small = all_there IsSmallPair (pair_at h) (λ i p e. subst (λ n. n < 2 ^ 64) (sym (pair_named i (h i) p e).1) (small i)) identities

    named : (h : ℕ → ℕ) (i : ℕ) (p : ℕ × ℕ) → pair_at h i ≡ Some p → p.0 ≡ i
    named h i p e = (pair_named i (h i) p e).0

-- SETS

abbrev if_in : IdentitySet → ℕ → Option ℕ
if_in set i = if set i then Some i else None

in_filter : (set : IdentitySet) (is : List ℕ) → filter set is ≡ filter_map (if_in set) is
in_filter set [] = refl
in_filter set (i ∷ is) = by (set i) (in_filter set is)
  where
    by : (b : Bool) → filter set is ≡ filter_map (if_in set) is → (if b then i ∷ filter set is else filter set is) ≡ cons_option (if b then Some i else None) (filter_map (if_in set) is)
    by true e = ap (λ (js : List ℕ). i ∷ js) e
    by false e = e

same_members : (s t : IdentitySet) → members_of s ≡ members_of t → (i : ℕ) → i < identity_limit → s i ≡ t i
same_members s t e i l =
    by (s i) (t i) (told_apart (λ (j : ℕ). j) (if_in s) (if_in t) (λ j k is. named (s j) j k is) (λ j k is. named (t j) j k is) identity_limit 0 (sym (in_filter s identities) ∙ e ∙ in_filter t identities) i (omega arith) (omega arith))
  where
    named : (b : Bool) (j k : ℕ) → (if b then Some j else None) ≡ Some k → k ≡ j
    named true j k e = let same : j ≡ k = cc e in sym same
    named false j k e = absurd (cc e)

    by : (b c : Bool) → (if b then Some i else None) ≡ (if c then Some i else None) → b ≡ c
    by true true e = refl
    by true false e = absurd (cc e)
    by false true e = absurd (cc e)
    by false false e = refl

-- MARKS

-- what is spelled of an identity's mark or prune
pub data IsPiece (piece : List ℕ) : Type 0 where
  Begun : (removed view owner : ℕ) (seen : IdentitySet) → piece ≡ removed ∷ begun_tail view owner seen → IsPiece piece
  Performed : (removed owner at upto : ℕ) → piece ≡ removed ∷ performed_tail owner at upto → IsPiece piece

begun_long : (removed view owner : ℕ) (seen : IdentitySet) → length (removed ∷ begun_tail view owner seen) ≡ 8 + length (members_of seen)
unfolding ids_spelled member_count
begun_long removed view owner seen = omega arith

begun_count : (removed view owner : ℕ) (seen : IdentitySet) (x : List ℕ) → get_or ((removed ∷ begun_tail view owner seen) ++ x) 7 0 ≡ length (members_of seen)
unfolding ids_spelled member_count
begun_count removed view owner seen x = refl

piece_ends : (p q x y : List ℕ) → IsPiece p → IsPiece q → p ++ x ≡ q ++ y → (p ≡ q) × (x ≡ y)
piece_ends p q x y (Begun r view owner seen is) (Begun s view' owner' seen' is') e =
    let text : (r ∷ begun_tail view owner seen) ++ x ≡ (s ∷ begun_tail view' owner' seen') ++ y = sym (ap (λ (t : List ℕ). t ++ x) is) ∙ e ∙ ap (λ (t : List ℕ). t ++ y) is' in
    let count : length (members_of seen) ≡ length (members_of seen') = sym (begun_count r view owner seen x) ∙ ap (λ (t : List ℕ). get_or t 7 0) text ∙ begun_count s view' owner' seen' y in
    let len : length (r ∷ begun_tail view owner seen) ≡ length (s ∷ begun_tail view' owner' seen') = begun_long r view owner seen ∙ ap (λ n. 8 + n) count ∙ sym (begun_long s view' owner' seen') in
    let both = same_front (r ∷ begun_tail view owner seen) (s ∷ begun_tail view' owner' seen') x y len text in
    (is ∙ both.0 ∙ sym is', both.1)
piece_ends p q x y (Begun r view owner seen is) (Performed s owner' at upto is') e =
    let text : (r ∷ begun_tail view owner seen) ++ x ≡ (s ∷ performed_tail owner' at upto) ++ y = sym (ap (λ (t : List ℕ). t ++ x) is) ∙ e ∙ ap (λ (t : List ℕ). t ++ y) is' in
    let tag : ◌≡◌ {A = ℕ} 0 1 = ap (λ (t : List ℕ). get_or t 1 0) text in absurd (omega (arith, tag))
piece_ends p q x y (Performed r owner at upto is) (Begun s view' owner' seen' is') e =
    let text : (r ∷ performed_tail owner at upto) ++ x ≡ (s ∷ begun_tail view' owner' seen') ++ y = sym (ap (λ (t : List ℕ). t ++ x) is) ∙ e ∙ ap (λ (t : List ℕ). t ++ y) is' in
    let tag : ◌≡◌ {A = ℕ} 1 0 = ap (λ (t : List ℕ). get_or t 1 0) text in absurd (omega (arith, tag))
piece_ends p q x y (Performed r owner at upto is) (Performed s owner' at' upto' is') e =
    let text : (r ∷ performed_tail owner at upto) ++ x ≡ (s ∷ performed_tail owner' at' upto') ++ y = sym (ap (λ (t : List ℕ). t ++ x) is) ∙ e ∙ ap (λ (t : List ℕ). t ++ y) is' in
    let both = same_front (r ∷ performed_tail owner at upto) (s ∷ performed_tail owner' at' upto') x y refl text in
    (is ∙ both.0 ∙ sym is', both.1)

abbrev pub first_byte : List ℕ → ℕ
first_byte text = get_or text 0 0

-- the pieces of all identities, and what follows
pub pieces_end : (f g : ℕ → Option (List ℕ)) (x y : List ℕ) → ((i : ℕ) (p : List ℕ) → f i ≡ Some p → IsPiece p × (first_byte p ≡ i)) → ((i : ℕ) (p : List ℕ) → g i ≡ Some p → IsPiece p × (first_byte p ≡ i))
    → pieces_spelled f ++ x ≡ pieces_spelled g ++ y → ((i : ℕ) → i < identity_limit → f i ≡ g i) × (x ≡ y)
pieces_end f g x y are are' e =
    let both = counted_end (λ (t : List ℕ). t) IsPiece piece_ends (filter_map f identities) (filter_map g identities) x y (all_there IsPiece f (λ i p is. (are i p is).0) identities) (all_there IsPiece g (λ i p is. (are' i p is).0) identities) e in
    (λ i l. told_apart first_byte f g (λ j p is. (are j p is).1) (λ j p is. (are' j p is).1) identity_limit 0 both.0 i (omega arith) (omega arith), both.1)

-- of a begun mark all is told
pub begun_told : (r : ℕ) (a b : Mark) → a.view < 2 ^ 32 → b.view < 2 ^ 32 → ◌≡◌ {A = List ℕ} (r ∷ begun_tail a.view a.owner a.seen) (r ∷ begun_tail b.view b.owner b.seen) → AreSameMark (Some a) (Some b)
unfolding ids_spelled member_count
begun_told r a b small small' e = (
  same_word a.view b.view small small' (ap (λ (t : List ℕ). take 4 (drop 2 t)) e),
  ap (λ (t : List ℕ). get_or t 6 0) e,
  same_members a.seen b.seen (ap (drop 8) e),
)

-- and of a performed one how many records the prune found
pub performed_told : (r owner at upto owner' at' upto' : ℕ) → upto < 2 ^ 64 → upto' < 2 ^ 64 → ◌≡◌ {A = List ℕ} (r ∷ performed_tail owner at upto) (r ∷ performed_tail owner' at' upto') → upto ≡ upto'
performed_told r owner at upto owner' at' upto' small small' e = same_number upto upto' small small' (ap (drop 11) e)
