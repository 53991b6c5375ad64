-- What the calls of the set compute. A set is seen as the finite set of its keys: an element at a dot each.
use Rattle.std.specs.Prelude.{ℕ, Bool, false, not, ◌&&◌, ◌||◌, nat_eq, nat_le, if◌then◌else◌, List, [], ◌∷◌, map, Option, None}
use Rattle.std.specs.List.{list_any}
use Rattle.std.specs.Ordering.{nat_cmp}
use Rattle.std.specs.Str.{bytes_eq}
use Rattle.std.specs.Cmp.Lexicographic.{slice_cmp}
use Rattle.std.specs.FinSet as set
use Rattle.model_history.specs.Texts.{Text, text_set}
use Rattle.model_history.specs.Vector.{VersionVector}
use Rattle.model_meanings.specs.Refusal.{Refusal, full}
use Rattle.base_vectors.specs.declared.id.Dot.{Dot}
use Rattle.model_kinds.specs.declared.operation.Op.{Op}
use Rattle.model_kinds.specs.declared.operation.Op.TheVariants.{Add, Remove}
use Rattle.data_orset.specs.declared.set.SetDelta.{SetDelta}
use Rattle.data_orset.specs.Placing.{key}

abbrev pub Dots : Type 0
Dots = set.FinSet (slice_cmp nat_cmp)

-- WHAT A KEY SAYS

abbrev pub element_of : List ℕ → Text
element_of (origin ∷ seq ∷ element) = element
element_of _ = []

abbrev pub is_element : Text → List ℕ → Bool
is_element e (origin ∷ seq ∷ element) = bytes_eq e element
is_element e _ = false

abbrev pub is_of : ℕ → List ℕ → Bool
is_of id (origin ∷ seq ∷ element) = nat_eq origin id
is_of id _ = false

-- a dot of the identity, at the element
abbrev pub is_dot_of : Text → ℕ → List ℕ → Bool
is_dot_of e id (origin ∷ seq ∷ element) = nat_eq origin id && bytes_eq e element
is_dot_of e id _ = false

-- whether a context has the dot
abbrev pub contained : VersionVector → List ℕ → Bool
contained context (origin ∷ seq ∷ element) = nat_le seq (context origin)
contained context _ = false

-- TWO SETS

-- a dot stays that both have, or that one has and the other's context lacks
abbrev pub set_joined : Dots → VersionVector → Dots → VersionVector → Dots
set_joined state mine other theirs = set.retain (set.union state other)
    (λ k. (set.contains state k && set.contains other k) || ((set.contains state k && not (contained theirs k)) || (set.contains other k && not (contained mine k))))

-- what is seen goes, but for the fresh dots. A fresh dot comes where the context lacks it
abbrev pub set_absorbed : Dots → VersionVector → SetDelta → Dots
set_absorbed state mine delta = set.union
    (set.retain state (λ k. not (set.contains delta.seen k) || set.contains delta.fresh k))
    (set.retain delta.fresh (λ k. not (contained mine k)))

-- what the later has seen is fresh no more
abbrev pub set_combined : SetDelta → SetDelta → SetDelta
set_combined first later = record { fresh = set.union later.fresh (set.difference first.fresh later.seen); seen = set.union first.seen later.seen }

-- AN OPERATION

-- whether the operation adds or removes the element of the dot
abbrev pub is_named : Op → List ℕ → Bool
is_named (Add e) k = is_element e k
is_named (Remove e) k = is_element e k
is_named _ k = false

-- what an add puts at its dot
abbrev pub fresh_of : Op → Dot → Dots
fresh_of (Add e) dot = set.insert set.empty (key e dot.origin dot.seq)
fresh_of _ dot = set.empty

-- the element loses its dots, and an add gives it the new one
abbrev pub set_applied : Dots → Op → Dot → Dots
set_applied state op dot = set.union (set.retain state (λ k. not (is_named op k))) (fresh_of op dot)

abbrev pub set_delta_of : Dots → Op → Dot → SetDelta
set_delta_of state op dot = record { fresh = fresh_of op dot; seen = set.union (set.retain state (is_named op)) (fresh_of op dot) }

-- PRUNES

abbrev pub set_cleaned : Dots → ℕ → Dots
set_cleaned state id = set.retain state (λ k. not (is_of id k))

-- whether an element has a dot of the identity
abbrev pub has_dot_of : Dots → ℕ → Text → Bool
has_dot_of state id e = list_any (is_dot_of e id) (set.items state)

abbrev pub is_touched : Dots → ℕ → List ℕ → Bool
is_touched state removed (origin ∷ seq ∷ element) = has_dot_of state removed element
is_touched state removed _ = false

-- the keys of the removed identity, at the new dot
abbrev pub moved_one : ℕ → Dot → List ℕ → List (List ℕ) → List (List ℕ)
moved_one removed dot (origin ∷ seq ∷ element) ks = if nat_eq origin removed then key element dot.origin dot.seq ∷ ks else ks
moved_one removed dot _ ks = ks

abbrev pub moved : ℕ → Dot → List (List ℕ) → List (List ℕ)
moved removed dot [] = []
moved removed dot (k ∷ ks) = moved_one removed dot k (moved removed dot ks)

-- each element with a dot of the removed identity gets the new dot alone
abbrev pub set_pruned : Dots → ℕ → Dot → Dots
set_pruned state removed dot = set.union (set.retain state (λ k. not (is_touched state removed k))) (set.from_list (moved removed dot (set.items state)))

abbrev pub set_mentioned : Dots → ℕ → Bool
set_mentioned state id = list_any (is_of id) (set.items state)

-- WHAT IS SHOWN AND REFUSED

-- the elements in byte order, each once
abbrev pub shown_elements : Dots → List Text
shown_elements state = text_set (map element_of (set.items state))

abbrev pub set_refusal : Dots → Op → Option Refusal
set_refusal state (Add e) = full e (shown_elements state)
set_refusal state _ = None
