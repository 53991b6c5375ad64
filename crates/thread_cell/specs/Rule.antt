-- The rule over the table, in two halves, and what each kind of step tells.
-- The word of a place is the length of its history. A key says what the table began with; it has the places and the clients.
-- Places' words are 16 apart, so that no two of them lie in one line of a cache, and none lies in that of the first word, at which seats look.
use Rattle.std.specs.Prelude.{◌≡◌, ◌⊎◌, ℕ, ◌+◌, ◌-◌, ◌*◌, ◌/◌, ◌<◌, ◌≤◌, ◌==◌, if◌then◌else◌, List, [], ◌∷◌, length, slice_get, slice_index, Option, Some, None}
use mathlib.Core.Option.{some}
use mathlib.Core.List.{IsPrefix}
use lib.ListN.{get_elem?}
use Rattle.atomic_table.specs.Table.{State, Me, Step}
use Rattle.thread_cell.specs.declared.view.ClientCalls.{ClientCalls}
use Rattle.thread_cell.specs.declared.view.View.{View}
use Rattle.thread_cell.specs.Lists.{at, weigh, same, times}
use Rattle.thread_cell.specs.Views.{numbers, nobody, noted, extended}

-- no history has more entries
abbrev pub most : ℕ
most = 16384

-- the word of a place, and the place of a word
abbrev pub word_of : ℕ → ℕ
word_of p = 16 * p + 16

abbrev pub place_at : ℕ → ℕ
place_at word = word / 16 - 1

module _ {E K : Type 0} where
  abbrev pub stands : ℕ → View E K → ℕ
  stands p v = times p v.places

  abbrev pub serves : ℕ → View E K → ℕ
  serves c v = times c (numbers v.clients)

  -- its first client has this number
  abbrev pub Serves : ℕ → View E K → Type 0
  Serves c v = (who : ClientCalls) × (others : List ClientCalls) × (v.clients ≡ who ∷ others) × (who.number ≡ c)

  -- A view of the histories. What it stands for, it knows whole. It is spent, or has what the table began with
  pub record FitsPlaces (key : K) (log : List (List E)) (v : View E K) : Type 0 where
    pub few : length v.known ≤ 8
    pub begins : (p : ℕ) → IsPrefix (at v.known p) (at log p)
    pub first_begins : (p : ℕ) → IsPrefix (at v.first_met p) (at v.known p)
    pub second_begins : (p : ℕ) → IsPrefix (at v.second_met p) (at v.known p)
    pub second_behind : (p : ℕ) → 0 < times p v.first_places → IsPrefix (at v.second_met p) (at v.first_met p)
    pub first_behind : (p : ℕ) → 0 < times p v.second_places → IsPrefix (at v.first_met p) (at v.second_met p)
    pub whole : (p : ℕ) → 0 < stands p v → at v.known p ≡ at log p
    pub opening : ((v.began ≡ Some key) × (v.met_began ≡ Some key)) ⊎ (v ≡ nobody)

  -- The words are the lengths of the histories. Each place has exactly one view that stands for it
  pub record KeepsPlaces (places : List ℕ) (key : K) (log : List (List E)) (words : List ℕ) (views : List (View E K)) : Type 0 where
    pub count : length words ≡ 144
    pub lengths : (p : ℕ) → p < 8 → slice_index words (word_of p) ≡ length (at log p)
    pub bound : (p : ℕ) → length (at log p) ≤ most
    pub inside : (p : ℕ) → 0 < times p places → p < 8
    pub once : (p : ℕ) → times p places ≤ 1
    pub stood : (p : ℕ) → weigh (stands p) views ≡ times p places
    pub idle : (p : ℕ) → times p places ≡ 0 → at log p ≡ []
    pub each : (j : ℕ) (v : View E K) → get_elem? views j ≡ some v → FitsPlaces key log v

-- how often the call of the entry at an index of a place is among these
abbrev pub same_call : ℕ → ℕ → ℕ × ℕ → ℕ
same_call p i call = if call.0 == p then same i call.1 else 0

abbrev pub calls_at : ℕ → ℕ → List (ℕ × ℕ) → ℕ
calls_at p i calls = weigh (same_call p i) calls

-- 1 where there is an entry, and it is the client's
abbrev pub made_by : {E : Type 0} → (E → ℕ) → ℕ → Option E → ℕ
made_by client_of c (Some e) = same c (client_of e)
made_by client_of c None = 0

module _ {E K : Type 0} (client_of : E → ℕ) where
  -- a client's own calls are the calls of that client
  pub record FitsClients (own : List (List (ℕ × ℕ))) (v : View E K) : Type 0 where
    pub mine : (k : ℕ) (who : ClientCalls) → get_elem? v.clients k ≡ some who → who.calls ≡ at own who.number

  -- Each client has exactly one view that stands for it. A client's own calls are, each once, the entries with its number
  pub record KeepsClients (clients : List ℕ) (log : List (List E)) (own : List (List (ℕ × ℕ))) (views : List (View E K)) : Type 0 where
    pub once : (c : ℕ) → times c clients ≤ 1
    pub stood : (c : ℕ) → weigh (serves c) views ≡ times c clients
    pub theirs : (p i : ℕ) (e : E) → slice_get (at log p) i ≡ Some e → 0 < times (client_of e) clients
    pub calls : (c p i : ℕ) → calls_at p i (at own c) ≡ made_by client_of c (slice_get (at log p) i)
    pub each : (j : ℕ) (v : View E K) → get_elem? views j ≡ some v → FitsClients own v

  pub record IsKept (places clients : List ℕ) (key : K) (s : State E (View E K)) : Type 0 where
    pub log : List (List E)
    pub own : List (List (ℕ × ℕ))
    pub of_places : KeepsPlaces places key log s.words s.views
    pub of_clients : KeepsClients clients log own s.views

module _ {E K : Type 0} where
  -- what a look shows: the two that met last knew beginnings of what is known now, one no more than the other where that stood for the place, and they began with the same
  pub record Looked (v : View E K) : Type 0 where
    pub first : (p : ℕ) → IsPrefix (at v.first_met p) (at v.known p)
    pub second : (p : ℕ) → IsPrefix (at v.second_met p) (at v.known p)
    pub behind : (p : ℕ) → 0 < times p v.first_places → IsPrefix (at v.second_met p) (at v.first_met p)
    pub first_behind : (p : ℕ) → 0 < times p v.second_places → IsPrefix (at v.first_met p) (at v.second_met p)
    pub bound : weigh (λ (h : List E). length h) v.known ≤ 8 * most
    pub opening : (v.met_began ≡ v.began)

  abbrev pub looks : Step E → Me E (View E K) → ℕ → Me E (View E K) → Type 0
  looks st m found n = (n ≡ m) × Looked m.0

  -- the call at this index of the place is none of the first client's calls
  pub record IsNewCall (p i : ℕ) (v : View E K) : Type 0 where
    pub none_of : (who : ClientCalls) (others : List ClientCalls) → v.clients ≡ who ∷ others → calls_at p i who.calls ≡ 0

  -- the step announces the entry
  abbrev pub extends : Step E → Me E (View E K) → ℕ → Me E (View E K) → Type 0
  extends st m found n = (e : E) → st.said ≡ some e → (found ≡ st.first) × (n ≡ (extended (place_at st.word) e m.0, m.1)) × IsNewCall (place_at st.word) (length (at m.0.known (place_at st.word))) m.0

  -- a new seat has seen nothing and stands for nothing
  abbrev pub arrives : Step E → Me E (View E K) → ℕ → Me E (View E K) → Type 0
  arrives st m found n = n ≡ (noted m.0, [])
