-- What members send each other.
use Rattle.std.specs.Prelude.{◌≡◌, ℕ, List, [], ◌∷◌, Bool, filter, if◌then◌else◌, Option, Some, slice_get}
use Rattle.model_history.specs.Texts.{Text}
use Rattle.model_members.specs.Entry.{Entry, Group}

-- something said of a key
pub record Keyed (X : Type 0) : Type 0 where
  pub key : Text
  pub item : X

-- all lists in key order
pub data Message (Op : Type 0) : Type 0 where
  Deltas : (groups : List (Keyed (Group Op))) (entries : List (Keyed (Entry Op))) → Message Op
  Nack : (keys : List Text) → Message Op
  Status : (digests : List (Keyed (List ℕ))) → Message Op
  Gossip : (entries : List (Keyed (Entry Op))) (wants : List Text) → Message Op
  Write : (op : ℕ) (key : Text) (entry : Entry Op) → Message Op
  WriteAck : (op : ℕ) → Message Op
  WriteNack : (op : ℕ) → Message Op
  Read : (op : ℕ) (key : Text) → Message Op
  ReadAnswer : (op : ℕ) (key : Text) (entry : Option (Entry Op)) → Message Op

-- a message on its way to a member
pub record Post (Op : Type 0) : Type 0 where
  pub to : ℕ
  pub message : Message Op

-- this is said of the key
abbrev pub HasKeyed : {X : Type 0} → List (Keyed X) → Text → X → Type 0
HasKeyed items key x = (k : ℕ) × (slice_get items k ≡ Some (record { key = key; item = x }))

module _ {Op : Type 0} where
  -- the entries and the groups that a message brings
  abbrev pub entries_in : Message Op → List (Keyed (Entry Op))
  entries_in (Message.Deltas groups entries) = entries
  entries_in (Message.Gossip entries wants) = entries
  entries_in (Message.Write op key entry) = record { key = key; item = entry } ∷ []
  entries_in (Message.ReadAnswer op key (Some entry)) = record { key = key; item = entry } ∷ []
  entries_in _ = []

  abbrev pub groups_in : Message Op → List (Keyed (Group Op))
  groups_in (Message.Deltas groups entries) = groups
  groups_in _ = []

  -- what a message says of some keys. A question stays whole, and so does an answer that is of no key
  abbrev pub part_of : (Text → Bool) → Message Op → Message Op
  part_of knows (Message.Deltas groups entries) = Message.Deltas (filter (λ (g : Keyed (Group Op)). knows g.key) groups) (filter (λ (e : Keyed (Entry Op)). knows e.key) entries)
  part_of knows (Message.Status digests) = Message.Status (filter (λ (d : Keyed (List ℕ)). knows d.key) digests)
  part_of knows (Message.Gossip entries wants) = Message.Gossip (filter (λ (e : Keyed (Entry Op)). knows e.key) entries) wants
  part_of knows (Message.Write op key entry) = if knows key then Message.Write op key entry else Message.Deltas [] []
  part_of knows (Message.ReadAnswer op key entry) = if knows key then Message.ReadAnswer op key entry else Message.Deltas [] []
  part_of knows message = message
