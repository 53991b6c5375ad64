-- Entries, and what a table begins with.
use Rattle.std.specs.Prelude.{ℕ, zero, suc, List, [], ◌∷◌, Bool, true, false, replicate}
use Rattle.thread_machine.specs.declared.entry.Entry.{Entry}
use Rattle.thread_machine.specs.Machines.{flags}
use Rattle.thread_cell.specs.declared.histories.Histories.{Histories}
use Rattle.thread_cell.specs.declared.opening.Opening.{Opening}

-- the places, from a number on, of which it is true
abbrev pub places_from : ℕ → List Bool → List ℕ
places_from from [] = []
places_from from (true ∷ more) = from ∷ places_from (suc from) more
places_from from (false ∷ more) = places_from (suc from) more

module _ {M I F O R : Type 0} where
  abbrev pub client_of : Entry M I F O R → ℕ
  client_of e = e.client

  abbrev pub places_of : Opening M I F O R → List ℕ
  places_of opening = places_from 0 (flags opening.machines)

  abbrev pub clients_of : Opening M I F O R → List ℕ
  clients_of opening = places_from 0 (replicate opening.clients true)

  -- the history of a place
  abbrev pub history_at : Histories M I F O R → ℕ → List (Entry M I F O R)
  history_at hs zero = hs.p0.items
  history_at hs (suc zero) = hs.p1.items
  history_at hs (suc (suc zero)) = hs.p2.items
  history_at hs (suc (suc (suc zero))) = hs.p3.items
  history_at hs (suc (suc (suc (suc zero)))) = hs.p4.items
  history_at hs (suc (suc (suc (suc (suc zero))))) = hs.p5.items
  history_at hs (suc (suc (suc (suc (suc (suc zero)))))) = hs.p6.items
  history_at hs (suc (suc (suc (suc (suc (suc (suc zero))))))) = hs.p7.items
  history_at hs (suc (suc (suc (suc (suc (suc (suc (suc k)))))))) = []
