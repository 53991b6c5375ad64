-- What whoever holds all seats knows.
use Rattle.std.specs.Prelude.{◌≡◌, ℕ, ◌<◌, ◌≤◌, List, [], ◌++◌, slice_get, Some}
use mathlib.Core.Option.{some}
use mathlib.Core.List.{IsPrefix}
use lib.ListN.{get_elem?}
use Rattle.thread_machine.specs.declared.entry.Entry.{Entry}
use Rattle.thread_cell.specs.declared.opening.Opening.{Opening}
use Rattle.thread_cell.specs.declared.view.ClientCalls.{ClientCalls}
use Rattle.thread_cell.specs.declared.view.View.{View}
use Rattle.thread_cell.specs.Lists.{at, times}
use Rattle.thread_cell.specs.Views.{numbers}
use Rattle.thread_cell.specs.Rule.{stands, calls_at, made_by}
use Rattle.thread_cell.specs.Entries.{client_of, places_of, clients_of}

module _ {E K : Type 0} where
  -- a seat took over another one's places and clients; what it knew of a place that it stood for stays, and of a place that the other stood for it knows what the other knew
  pub record Gathers (ps : List ℕ) (cs : List ClientCalls) (known : List (List E)) (v v' : View E K) : Type 0 where
    pub began : v'.began ≡ v.began
    pub places : v'.places ≡ v.places ++ ps
    pub clients : v'.clients ≡ v.clients ++ cs
    pub here : (p : ℕ) → 0 < times p ps → at v'.known p ≡ at known p
    pub keeps : (p : ℕ) → 0 < times p v.places → at v'.known p ≡ at v.known p
    pub knew : (p : ℕ) → IsPrefix (at v.known p) (at v'.known p)
    pub other_knew : (p : ℕ) → IsPrefix (at known p) (at v'.known p)

module _ {M I F O R : Type 0} where
  -- at the end there is one history for each place and one list of calls for each client, of which the last seat knows what it stands for
  pub record Ends (key : Opening M I F O R) (v : View (Entry M I F O R) (Opening M I F O R)) : Type 0 where
    pub log : List (List (Entry M I F O R))
    pub own : List (List (ℕ × ℕ))
    pub begins : (p : ℕ) → IsPrefix (at v.known p) (at log p)
    pub whole : (p : ℕ) → 0 < stands p v → at v.known p ≡ at log p
    pub idle : (p : ℕ) → times p (places_of key) ≡ 0 → at log p ≡ []
    pub mine : (k : ℕ) (who : ClientCalls) → get_elem? v.clients k ≡ some who → who.calls ≡ at own who.number
    pub calls : (c p i : ℕ) → calls_at p i (at own c) ≡ made_by client_of c (slice_get (at log p) i)
    pub once : (c : ℕ) → times c (numbers v.clients) ≤ 1
    pub theirs : (p i : ℕ) (e : Entry M I F O R) → slice_get (at log p) i ≡ Some e → 0 < times e.client (clients_of key)
    pub opening : (k : Opening M I F O R) → v.began ≡ Some k → k ≡ key
