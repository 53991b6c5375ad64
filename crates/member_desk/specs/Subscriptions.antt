-- The subscriptions of one member: the keys that are followed, in byte order, and for each the clients that follow it, rising.
-- A key has at most one told value, for all of its clients; a client that subscribed since has been told nothing.
--     with_subscription, without_subscription        what the two calls make of them
--     told_to        what a client was told of a key
--     AreInOrder        keys and clients rise
--     TouchesOne        a call leaves what any other client was told
--     BeginsUntold        a client that subscribes anew was told nothing
use Rattle.std.specs.Prelude.{◌≡◌, ◌≢◌, ◌⊎◌, ℕ, List, [], ◌∷◌, Bool, true, false, if◌then◌else◌, Option, Some, None, is_some, map, nat_lt}
use Rattle.std.specs.declared.cmp.Ordering.{Ordering}
use Rattle.std.specs.Ordering.{nat_cmp}
use Rattle.std.specs.List.{AllByRecursion}
use Rattle.model_history.specs.Texts.{Text, text_lt}
use Rattle.base_bytes.specs.TextOrder.{text_order}
use Rattle.member_desk.specs.declared.client.Client.{Client}
use Rattle.member_desk.specs.declared.followed.Followed.{Followed}
use Rattle.member_desk.specs.Places.{sought, edited, IsRising}

-- CLIENTS OF A KEY

-- a client that was told nothing
abbrev pub untold : ℕ → Client
untold number = record { number = number; told = false }

abbrev pub by_number : ℕ → Client → Ordering
by_number number client = nat_cmp client.number number

-- the clients with one more, unless it is there
abbrev pub with_client : List Client → ℕ → List Client
with_client clients number = edited (by_number number) (λ client. client ∷ []) (untold number ∷ []) clients

abbrev pub without_client : List Client → ℕ → List Client
without_client clients number = edited (by_number number) (λ client. []) [] clients

abbrev pub is_nobody : List Client → Bool
is_nobody [] = true
is_nobody (client ∷ more) = false

abbrev pub has_client : List Client → ℕ → Bool
has_client clients number = is_some (sought (by_number number) clients)

abbrev pub numbers_of : List Client → List ℕ
numbers_of clients = map (λ client. client.number) clients

-- FOLLOWED KEYS

module _ {V : Type 0} where
  -- a key that one client follows, which was told nothing
  abbrev pub first_of : Text → ℕ → Followed V
  first_of key number = record { key = key; told = None; clients = untold number ∷ [] }

  abbrev pub by_key : Text → Followed V → Ordering
  by_key key followed = text_order followed.key key

  abbrev pub with_clients : Followed V → List Client → Followed V
  with_clients followed clients = record followed { clients = clients }

  -- a key that nobody follows is dropped, and with it what was told
  abbrev pub unless_left : Followed V → List (Followed V)
  unless_left followed = if is_nobody followed.clients then [] else followed ∷ []

  abbrev pub with_subscription : List (Followed V) → Text → ℕ → List (Followed V)
  with_subscription desk key number =
      edited (by_key key) (λ followed. with_clients followed (with_client followed.clients number) ∷ []) (first_of key number ∷ []) desk

  abbrev pub without_subscription : List (Followed V) → Text → ℕ → List (Followed V)
  without_subscription desk key number =
      edited (by_key key) (λ followed. unless_left (with_clients followed (without_client followed.clients number))) [] desk

  abbrev pub follows : Option (Followed V) → ℕ → Bool
  follows None number = false
  follows (Some followed) number = has_client followed.clients number

  abbrev pub is_subscribed : List (Followed V) → Text → ℕ → Bool
  is_subscribed desk key number = follows (sought (by_key key) desk) number

  -- what the client was told of the key, if anything; and none of that where it isn't subscribed
  abbrev pub told_at : Followed V → Client → Option V
  told_at followed client = if client.told then followed.told else None

  abbrev pub told_by_clients : Followed V → Option Client → Option (Option V)
  told_by_clients followed None = None
  told_by_clients followed (Some client) = Some (told_at followed client)

  abbrev pub told_of : Option (Followed V) → ℕ → Option (Option V)
  told_of None number = None
  told_of (Some followed) number = told_by_clients followed (sought (by_number number) followed.clients)

  abbrev pub told_to : List (Followed V) → Text → ℕ → Option (Option V)
  told_to desk key number = told_of (sought (by_key key) desk) number

  -- keys and clients rise
  abbrev pub keys_of : List (Followed V) → List Text
  keys_of desk = map (λ followed. followed.key) desk

  abbrev pub AreInOrder : List (Followed V) → Type 0
  AreInOrder desk = IsRising text_lt (keys_of desk) × AllByRecursion (λ followed. IsRising nat_lt (numbers_of followed.clients)) desk

  -- a call for a client of a key leaves what any other client, or of any other key, was told
  abbrev pub TouchesOne : (List (Followed V) → Text → ℕ → List (Followed V)) → List (Followed V) → Type 0
  TouchesOne call desk = (key other : Text) (client number : ℕ) → AreInOrder desk → (key ≢ other) ⊎ (client ≢ number) → told_to (call desk key client) other number ≡ told_to desk other number

  -- a client that subscribes anew was told nothing of the key
  abbrev pub BeginsUntold : List (Followed V) → Type 0
  BeginsUntold desk = (key : Text) (client : ℕ) → AreInOrder desk → is_subscribed desk key client ≡ false → told_to (with_subscription desk key client) key client ≡ Some None
