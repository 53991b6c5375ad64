-- The views of the seats in cells, sessions and notes, and what a call leaves of two of them.
use Rattle.std.specs.Prelude.{◌≡◌, ℕ, List, [], ◌∷◌, length}
use Rattle.thread_cell.specs.declared.view.ClientCalls.{ClientCalls}
use Rattle.thread_cell.specs.declared.view.View.{View}
use Rattle.thread_cell.specs.Lists.{at}
use Rattle.thread_cell.specs.Views.{IsLive, client_left, client_given, met, extended}
use Rattle.thread_cell.specs.Rule.{Looked, IsNewCall}

abbrev pub client : ℕ → List (ℕ × ℕ) → ClientCalls
client number calls = record { number = number; calls = calls }

module _ {E K : Type 0} where
  -- it stands for one place and for no client
  pub record IsAtPlace (p : ℕ) (v : View E K) : Type 0 where
    pub live : IsLive v
    pub places : v.places ≡ p ∷ []
    pub clients : v.clients ≡ []

  -- it stands for one client and for no place
  pub record IsOfClient (number : ℕ) (calls : List (ℕ × ℕ)) (v : View E K) : Type 0 where
    pub live : IsLive v
    pub places : v.places ≡ []
    pub clients : v.clients ≡ client number calls ∷ []

  -- it stands for nothing
  pub record IsOfNone (v : View E K) : Type 0 where
    pub live : IsLive v
    pub places : v.places ≡ []
    pub clients : v.clients ≡ []

  -- the seat at the place has the client for one entry, and gives it back
  abbrev pub lent : View E K → View E K → View E K
  lent v w = met v (client_given w)

  abbrev pub home_after : ℕ → E → View E K → View E K → View E K
  home_after p e v w = client_left (extended p e (lent v w))

  abbrev pub guest_after : ℕ → E → View E K → View E K → View E K
  guest_after p e v w = met (client_left w) (client_given (extended p e (lent v w)))

  pub record Calls (p : ℕ) (e : E) (v w v' w' : View E K) : Type 0 where
    pub home : v' ≡ home_after p e v w
    pub guest : w' ≡ guest_after p e v w
    pub lending : Looked (lent v w)
    pub return : Looked (guest_after p e v w)
    pub is_new : IsNewCall p (length (at (lent v w).known p)) (lent v w)
