-- Clients' own calls.
use Rattle.std.specs.Prelude.{ℕ, ◌≡◌, ◌<◌, List, slice_get, Option, Some, None}
use Rattle.std.specs.List.{Contains}
use Rattle.thread_cell.specs.declared.calls.OwnCalls.{OwnCalls}
use Rattle.thread_cell.specs.declared.histories.Histories.{Histories}
use Rattle.thread_cell.specs.declared.view.ClientCalls.{ClientCalls}
use Rattle.thread_cell.specs.Lists.{weigh}
use Rattle.thread_cell.specs.Views.{numbers}
use Rattle.thread_cell.specs.Rule.{calls_at, made_by}
use Rattle.thread_cell.specs.Entries.{client_of, history_at}
use Rattle.thread_cell.specs.Seats.{client}

abbrev pub own_calls : OwnCalls → ClientCalls
own_calls own = client own.client own.calls.items

-- each client is one of these
abbrev pub AreAll : ℕ → List ClientCalls → Type 0
AreAll count clients = (c : ℕ) → c < count → Contains (numbers clients) c

-- 1 where there is an entry
abbrev pub entries_in : {E : Type 0} → Option E → ℕ
entries_in (Some e) = 1
entries_in None = 0

module _ {M I F O R : Type 0} where
  -- A client's calls are, each once, the entries with its number. All clients together have each entry once
  pub record AreAllCalls (clients : List ClientCalls) (histories : Histories M I F O R) : Type 0 where
    pub theirs : (k : ℕ) (who : ClientCalls) → slice_get clients k ≡ Some who → (p i : ℕ) → calls_at p i who.calls ≡ made_by client_of who.number (slice_get (history_at histories p) i)
    pub each_once : (p i : ℕ) → weigh (λ (who : ClientCalls). calls_at p i who.calls) clients ≡ entries_in (slice_get (history_at histories p) i)
