-- Which dots stay, alone or of two sets.
use Rattle.std.specs.Prelude.{◌≡◌, ℕ, ◌<◌, ◌≤◌, length, Bool, true, false, not, List, ◌∷◌, map, take, get_or}
use Rattle.std.specs.FinSet as set
use Rattle.model_history.specs.Texts.{Text, text_lt, contains_text}
use Rattle.data_orset.specs.Placing.{Placed, key_of, nth, AreDots}
use Rattle.data_orset.specs.Dots.{Dots}

-- the set of a list
abbrev pub set_of : List Placed → Dots
set_of ps = set.from_list (map key_of ps)

-- whether a dot stays: of both by `both`, of one alone by its rule
abbrev pub stays : Bool → Bool → Bool → Bool → Bool → Bool
stays both mine theirs true true = both
stays both mine theirs true false = mine
stays both mine theirs false true = theirs
stays both mine theirs false false = false

-- the dots of two lists that stay, as a list
pub record AreMerged (both : Bool) (mine theirs : List ℕ → Bool) (here there all : List Placed) : Type 0 where
  pub dots : AreDots all
  pub has : (k : List ℕ) → set.contains (set_of all) k ≡ stays both (mine k) (theirs k) (set.contains (set_of here) k) (set.contains (set_of there) k)

-- what is left of a list where the dots of another go, but for those that stay by the rule
pub record AreLeft (rule : List ℕ → Bool) (old other left : List Placed) : Type 0 where
  pub dots : AreDots left
  pub has : (k : List ℕ) → set.contains (set_of left) k ≡ stays (rule k) true false (set.contains (set_of old) k) (set.contains (set_of other) k)

-- the dots of two sets that stay
abbrev pub set_merged : Bool → (List ℕ → Bool) → (List ℕ → Bool) → Dots → Dots → Dots
set_merged both mine theirs here there = set.retain (set.union here there) (λ k. stays both (mine k) (theirs k) (set.contains here k) (set.contains there k))

-- the texts of a list's dots
abbrev pub texts_of : List Placed → List Text
texts_of ps = map (λ p. p.element) ps

-- whether an element is none of the texts
abbrev pub is_other : List Text → Placed → Bool
is_other texts p = not (contains_text texts p.element)

abbrev pub is_other_key : List Text → List ℕ → Bool
is_other_key texts (origin ∷ seq ∷ element) = not (contains_text texts element)
is_other_key texts _ = true

-- the answer says whether no dot before the one at the index is of its element
abbrev pub IsFirstOf : List Placed → ℕ → Bool → Type 0
IsFirstOf ps index first = (p : Placed) → p ≡ get_or ps index p → first ≡ not (contains_text (texts_of (take index ps)) p.element)

-- the dots of an element stand from one index up to another, or would stand there
pub record IsRunOf (ps : List Placed) (e : Text) (start end : ℕ) : Type 0 where
  pub order : start ≤ end
  pub within : end ≤ length ps
  pub before : (i : ℕ) → i < start → text_lt (nth ps i).element e ≡ true
  pub named : (i : ℕ) → start ≤ i → i < end → (nth ps i).element ≡ e
  pub after : (i : ℕ) → end ≤ i → i < length ps → text_lt e (nth ps i).element ≡ true
