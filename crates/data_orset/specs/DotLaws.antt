-- Which dots a set has after each call, test by test.
use Rattle.std.proofs.Common.{◌≡◌, ◌⊎◌, ℕ, ◌+◌, ◌<◌, ◌≤◌, max, Bool, true, false, not, ◌&&◌, ◌||◌, List, [], ◌∷◌, nat_le, rules, arith, refl, ap, sym, ◌∙◌, subst, ⊎_elim, inl, inr}
use Rattle.std.proofs.lemmas.Bool.{cases_lt, or_cases, or_left, or_right}
use Rattle.std.specs.List.{list_any}
use Rattle.std.specs.Str.{bytes_eq}
use Rattle.std.specs.declared.cmp.Ordering.{Ordering}
use Rattle.std.specs.declared.cmp.Ordering.TheVariants.{Less, Equal, Greater}
use Rattle.std.specs.Ordering.{nat_cmp, eq_by_cmp, is_eq}
use Rattle.std.specs.Cmp.{tied_itself}
use Rattle.std.specs.Cmp.Lexicographic.{slice_cmp, nat_list_cmp_total}
use Rattle.std.specs.FinSet as set
use Rattle.std.specs.FinSet.{contains-union, contains-retain, slice_cmp-IsAntisymmetric, nat_cmp-IsAntisymmetric, same_set, contains-empty, contains-insert, contains-difference, contains-items, contains-from_list}
use Rattle.model_history.proofs.CutLaws.{both_ways}
use mathlib.Core.Bool.{or-false}
use Rattle.model_history.specs.Texts.{Text}
use Rattle.model_history.specs.Vector.{VersionVector, join}
use Rattle.base_vectors.specs.declared.id.Dot.{Dot}
use Rattle.model_kinds.specs.SixKinds.{adds, removes}
use Rattle.model_kinds.specs.declared.operation.Op.{Op}
use Rattle.model_kinds.specs.declared.operation.Op.TheVariants.{Add, Remove}
use Rattle.base_bytes.proofs.TextLaws.{eq_texts, texts_eq}
use Rattle.data_orset.specs.declared.set.SetDelta.{SetDelta}
use Rattle.data_orset.specs.Placing.{key}
use Rattle.data_orset.specs.Dots.{Dots, contained, is_of, is_named, fresh_of, is_touched, moved, set_joined, set_absorbed, set_combined, set_applied, set_delta_of, set_cleaned, set_pruned}
use Rattle.data_orset.specs.Cases.{kept, remaining, keeps_some}

-- KEYS

-- keys that tie are one, so a test answers alike at them
pub alike : (p : List ℕ → Bool) (q x : List ℕ) → slice_cmp nat_cmp q x ≡ Equal → p x ≡ p q
alike p q x e = ap p (sym (slice_cmp-IsAntisymmetric nat_cmp-IsAntisymmetric q x e))

-- sets with the same dots are one
pub same_dots : (s t : Dots) → ((k : List ℕ) → set.contains s k ≡ set.contains t k) → s ≡ t
same_dots s t same = same_set nat_list_cmp_total (slice_cmp-IsAntisymmetric nat_cmp-IsAntisymmetric) s t same

equal_of : (r : Ordering) → is_eq r ≡ true → r ≡ Equal
equal_of Less e = absurd (cc e)
equal_of Equal e = refl
equal_of Greater e = absurd (cc e)

pub same_item : (y x : List ℕ) → eq_by_cmp (slice_cmp nat_cmp) y x ≡ true → y ≡ x
same_item y x e = slice_cmp-IsAntisymmetric nat_cmp-IsAntisymmetric y x (equal_of _ e)

pub itself : (y : List ℕ) → eq_by_cmp (slice_cmp nat_cmp) y y ≡ true
itself y = ap is_eq (tied_itself nat_list_cmp_total y)

pub key_parts : (e : Text) (o s : ℕ) (e' : Text) (o' s' : ℕ) → key e o s ≡ key e' o' s' → (e ≡ e') × (o ≡ o') × (s ≡ s')
key_parts e o s e' o' s' p = ((cc), (cc), (cc))

pub same_key : (e e' : Text) (o s s' : ℕ) → e ≡ e' → s ≡ s' → key e o s ≡ key e' o s'
same_key e e' o s s' p q = cc

-- an item of a list passes a test, and so one of them does
pub has_any : (t : List ℕ → Bool) (y : List ℕ) (xs : List (List ℕ)) → list_any (eq_by_cmp (slice_cmp nat_cmp) y) xs ≡ true → t y ≡ true → list_any t xs ≡ true
has_any t y [] e q = absurd (cc e)
has_any t y (x ∷ xs) e q = ⊎_elim
    (λ (a : eq_by_cmp (slice_cmp nat_cmp) y x ≡ true). or_left _ _ (ap t (sym (same_item y x a)) ∙ q))
    (λ (b : list_any (eq_by_cmp (slice_cmp nat_cmp) y) xs ≡ true). or_right _ _ (has_any t y xs b q)) (or_cases _ _ e)

pub any_has : (t : List ℕ → Bool) (xs : List (List ℕ)) → list_any t xs ≡ true → (y : List ℕ) × (list_any (eq_by_cmp (slice_cmp nat_cmp) y) xs ≡ true) × (t y ≡ true)
any_has t [] e = absurd (cc e)
any_has t (x ∷ xs) e = ⊎_elim
    (λ (a : t x ≡ true). (x, or_left _ _ (itself x), a))
    (λ (b : list_any t xs ≡ true). let f = any_has t xs b in (f.0, or_right _ _ f.1, f.2)) (or_cases _ _ e)

-- a dot of the set passes, and so a test of its items does
pub some_dot : (state : Dots) (t : List ℕ → Bool) (y : List ℕ) → set.contains state y ≡ true → t y ≡ true → list_any t (set.items state) ≡ true
some_dot state t y c e = has_any t y (set.items state) (sym (contains-items state y) ∙ c) e

pub dot_of_any : (state : Dots) (t : List ℕ → Bool) → list_any t (set.items state) ≡ true → (y : List ℕ) × (set.contains state y ≡ true) × (t y ≡ true)
dot_of_any state t e = let f = any_has t (set.items state) e in (f.0, contains-items state f.0 ∙ f.1, f.2)

-- CONTEXTS

-- a context without the identities that were cleaned away lacks a dot that the history lacks
pub lacks : (context : ℕ → ℕ) (origin index : ℕ) (e : Text) → context origin ≤ index → contained context (key e origin (index + 1)) ≡ false
lacks context origin index e l = grind rules

pub lacked : (context : ℕ → ℕ) (origin index : ℕ) (e : Text) → contained context (key e origin (index + 1)) ≡ false → context origin ≤ index
lacked context origin index e c = grind rules

pub holds : (context : ℕ → ℕ) (origin index : ℕ) (e : Text) → index < context origin → contained context (key e origin (index + 1)) ≡ true
holds context origin index e l = grind rules

pub above : (context : ℕ → ℕ) (e : Text) (o s : ℕ) → context o < s → contained context (key e o s) ≡ false
above context e o s m = grind rules

le_max : (s m n : ℕ) → nat_le s (max m n) ≡ (nat_le s m || nat_le s n)
le_max s m n = ⊎_elim
    (λ (l : m < n). let e : max m n ≡ n = omega arith in ap (nat_le s) e ∙ ⊎_elim
    (λ (x : s ≤ m). let t : nat_le s n ≡ true = grind rules in t ∙ sym (or_right (nat_le s m) (nat_le s n) t))
    (λ (x : m < s). let t : nat_le s m ≡ false = grind rules in sym (ap (λ b. b || nat_le s n) t)) (le_or s m))
    (λ (l : n ≤ m). let e : max m n ≡ m = omega arith in ap (nat_le s) e ∙ ⊎_elim
    (λ (x : s ≤ m). let t : nat_le s m ≡ true = grind rules in t ∙ sym (or_left (nat_le s m) (nat_le s n) t))
    (λ (x : m < s). let t : nat_le s m ≡ false = grind rules in let t' : nat_le s n ≡ false = grind rules in t ∙ sym (ap (λ b. b || nat_le s n) t ∙ t')) (le_or s m)) (cases_lt m n)
  where
    le_or : (s m : ℕ) → (s ≤ m) ⊎ (m < s)
    le_or s m = ⊎_elim (λ (x : m < s). inr x) (λ (x : s ≤ m). inl x) (cases_lt m s)

pub contained-join : (v w : VersionVector) (k : List ℕ) → contained (join v w) k ≡ (contained v k || contained w k)
contained-join v w [] = refl
contained-join v w (o ∷ []) = refl
contained-join v w (o ∷ s ∷ rest) = le_max s (v o) (w o)

-- WHAT EACH CALL LEAVES

pub contains-joined : (a : Dots) (v : VersionVector) (b : Dots) (w : VersionVector) (k : List ℕ) → set.contains (set_joined a v b w) k ≡ kept (set.contains a k) (set.contains b k) (contained w k) (contained v k)
contains-joined a v b w k =
    contains-retain (set.union a b) _ k (alike _ k) ∙ ap (λ x. x && kept (set.contains a k) (set.contains b k) (contained w k) (contained v k)) (contains-union nat_list_cmp_total a b k)
    ∙ keeps_some (set.contains a k) (set.contains b k) (contained w k) (contained v k)

pub contains-absorbed : (a : Dots) (v : VersionVector) (d : SetDelta) (k : List ℕ) → set.contains (set_absorbed a v d) k ≡ remaining (set.contains a k) (set.contains d.seen k) (set.contains d.fresh k) (contained v k)
contains-absorbed a v d k =
    contains-union nat_list_cmp_total _ _ k ∙ ap (λ x. x || set.contains (set.retain d.fresh (λ q. not (contained v q))) k) (contains-retain a _ k (alike _ k))
    ∙ ap (λ x. (set.contains a k && (not (set.contains d.seen k) || set.contains d.fresh k)) || x) (contains-retain d.fresh _ k (alike _ k))

pub contains-applied : (state : Dots) (op : Op) (dot : Dot) (k : List ℕ) → set.contains (set_applied state op dot) k ≡ ((set.contains state k && not (is_named op k)) || set.contains (fresh_of op dot) k)
contains-applied state op dot k = contains-union nat_list_cmp_total _ (fresh_of op dot) k ∙ ap (λ z. z || set.contains (fresh_of op dot) k) (contains-retain state (λ y. not (is_named op y)) k (alike _ k))

-- what an operation sees
pub contains-seen : (state : Dots) (op : Op) (dot : Dot) (k : List ℕ) → set.contains (set_delta_of state op dot).seen k ≡ ((set.contains state k && is_named op k) || set.contains (fresh_of op dot) k)
contains-seen state op dot k = contains-union nat_list_cmp_total _ (fresh_of op dot) k ∙ ap (λ z. z || set.contains (fresh_of op dot) k) (contains-retain state (is_named op) k (alike _ k))

pub contains-combined : (first later : SetDelta) (k : List ℕ) → set.contains (set_combined first later).fresh k ≡ (set.contains later.fresh k || (set.contains first.fresh k && not (set.contains later.seen k)))
contains-combined first later k =
    contains-union nat_list_cmp_total later.fresh (set.difference first.fresh later.seen) k ∙ ap (λ z. set.contains later.fresh k || z) (contains-difference nat_list_cmp_total first.fresh later.seen k)

pub contains-both_seen : (first later : SetDelta) (k : List ℕ) → set.contains (set_combined first later).seen k ≡ (set.contains first.seen k || set.contains later.seen k)
contains-both_seen first later k = contains-union nat_list_cmp_total first.seen later.seen k

pub contains-cleaned : (state : Dots) (id : ℕ) (k : List ℕ) → set.contains (set_cleaned state id) k ≡ (set.contains state k && not (is_of id k))
contains-cleaned state id k = contains-retain state (λ y. not (is_of id y)) k (alike _ k)

pub contains-pruned : (state : Dots) (id : ℕ) (dot : Dot) (k : List ℕ) → set.contains (set_pruned state id dot) k
    ≡ ((set.contains state k && not (is_touched state id k)) || list_any (eq_by_cmp (slice_cmp nat_cmp) k) (moved id dot (set.items state)))
contains-pruned state id dot k =
    contains-union nat_list_cmp_total _ _ k
    ∙ ap (λ z. z || set.contains (set.from_list {R = slice_cmp nat_cmp} (moved id dot (set.items state))) k) (contains-retain state (λ y. not (is_touched state id y)) k (alike _ k))
    ∙ ap (λ z. (set.contains state k && not (is_touched state id k)) || z) (contains-from_list nat_list_cmp_total (moved id dot (set.items state)) k)

-- OPERATIONS

-- an operation names the element of a dot where it touches the element
pub named_is : (op : Op) (e : Text) (o s : ℕ) → is_named op (key e o s) ≡ (adds op e || removes op e)
named_is (Add x) e o s = sym (or-false (bytes_eq x e))
named_is (Remove x) e o s = refl
named_is op e o s = refl

-- what is fresh is an add, at its dot
pub fresh_key : (op : Op) (dot : Dot) (k : List ℕ) → set.contains (fresh_of op dot) k ≡ true → (e : Text) × (adds op e ≡ true) × (k ≡ key e dot.origin dot.seq)
fresh_key (Add x) dot k c = ⊎_elim
    (λ (a : eq_by_cmp (slice_cmp nat_cmp) k (key x dot.origin dot.seq) ≡ true). (x, texts_eq x, same_item k (key x dot.origin dot.seq) a))
    (λ (b : set.contains (set.empty {R = slice_cmp nat_cmp}) k ≡ true). absurd (both_ways _ b (contains-empty (slice_cmp nat_cmp) k)))
    (or_cases _ _ (sym (contains-insert nat_list_cmp_total set.empty (key x dot.origin dot.seq) k) ∙ c))
fresh_key op dot k c = absurd (both_ways _ c (contains-empty (slice_cmp nat_cmp) k))

pub key_fresh : (op : Op) (dot : Dot) (e : Text) → adds op e ≡ true → set.contains (fresh_of op dot) (key e dot.origin dot.seq) ≡ true
key_fresh (Add x) dot e a =
    contains-insert nat_list_cmp_total set.empty (key x dot.origin dot.seq) (key e dot.origin dot.seq)
    ∙ or_left _ _ (subst (λ z. eq_by_cmp (slice_cmp nat_cmp) (key e dot.origin dot.seq) (key z dot.origin dot.seq) ≡ true) (sym (eq_texts x e a)) (itself (key e dot.origin dot.seq)))
key_fresh op dot e a = absurd (cc a)
