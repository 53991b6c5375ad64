-- What a seat's view becomes.
--     nobody, beginner        a view that is spent, and the first one
--     noted, place_left, place_given, client_left, client_given        a copy, and the two parts of a view of which the first place or client goes to another seat
--     met        a view with another's
--     extended        a view with one entry more at a place, which is a call of its first client
use Rattle.std.specs.Prelude.{◌≡◌, ℕ, List, [], ◌∷◌, ◌++◌, map, length, Some, None}
use Rattle.thread_cell.specs.declared.view.ClientCalls.{ClientCalls}
use Rattle.thread_cell.specs.declared.view.View.{View}
use Rattle.thread_cell.specs.Lists.{first, rest, at, with_at, longer_each}

abbrev pub number_of : ClientCalls → ℕ
number_of who = who.number

abbrev pub numbers : List ClientCalls → List ℕ
numbers clients = map number_of clients

abbrev pub newcomer : ℕ → ClientCalls
newcomer number = record { number = number; calls = [] }

abbrev pub with_call : List ClientCalls → ℕ × ℕ → List ClientCalls
with_call [] call = []
with_call (who ∷ others) call = record { number = who.number; calls = who.calls ++ call ∷ [] } ∷ others

module _ {E K : Type 0} where
  -- a view that is not spent
  abbrev pub IsLive : View E K → Type 0
  IsLive v = (k : K) × (v.began ≡ Some k)

  abbrev pub nobody : View E K
  nobody = record { began = None; known = []; first_met = []; first_places = []; second_met = []; second_places = []; met_began = None; places = []; clients = [] }

  abbrev pub beginner : List ℕ → List ℕ → K → View E K
  beginner places clients key = record { began = Some key; known = []; first_met = []; first_places = []; second_met = []; second_places = []; met_began = Some key; places = places; clients = map newcomer clients }

  -- the view with other places and clients to stand for
  abbrev pub standing_for : View E K → List ℕ → List ClientCalls → View E K
  standing_for v places clients = record { began = v.began; known = v.known; first_met = v.first_met; first_places = v.first_places; second_met = v.second_met; second_places = v.second_places; met_began = v.met_began; places = places; clients = clients }

  abbrev pub noted : View E K → View E K
  noted v = standing_for v [] []

  abbrev pub place_left : View E K → View E K
  place_left v = standing_for v (rest v.places) v.clients

  abbrev pub place_given : View E K → View E K
  place_given v = standing_for v (first v.places) []

  abbrev pub client_left : View E K → View E K
  client_left v = standing_for v v.places (rest v.clients)

  abbrev pub client_given : View E K → View E K
  client_given v = standing_for v [] (first v.clients)

  abbrev pub met : View E K → View E K → View E K
  met v w = record { began = v.began; known = longer_each v.known w.known; first_met = v.known; first_places = v.places; second_met = w.known; second_places = w.places; met_began = w.began; places = v.places ++ w.places; clients = v.clients ++ w.clients }

  abbrev pub extended : ℕ → E → View E K → View E K
  extended p e v = record { began = v.began; known = with_at v.known p (at v.known p ++ e ∷ []); first_met = v.first_met; first_places = v.first_places; second_met = v.second_met; second_places = v.second_places; met_began = v.met_began; places = v.places; clients = with_call v.clients (p, length (at v.known p)) }
