-- The state of a member, its inputs, and what it answers.
use Rattle.std.specs.Prelude.{◌≡◌, ℕ, ◌+◌, ◌/◌, max, min, List, [], ◌∷◌, Bool, if◌then◌else◌, nat_le, Option, None, Some, map, find, option_map}
use Rattle.std.specs.Str.{bytes_eq}
use Rattle.model_history.specs.Texts.{Text, text_lt}
use Rattle.model_history.specs.Vector.{VersionVector, IdentitySet}
use Rattle.model_members.specs.View.{View}
use Rattle.model_members.specs.Entry.{Entry, Outcome}
use Rattle.model_meanings.specs.Refusal.{Refusal}
use Rattle.model_members.specs.Message.{Keyed, Message, Post}

-- a declared key
pub record KeyDecl (Kind : Type 0) : Type 0 where
  pub name : Text
  pub kind : Kind
  pub durable : Bool

-- the keys with one more, before the first with a later name
abbrev pub with_key : {Kind : Type 0} → KeyDecl Kind → List (KeyDecl Kind) → List (KeyDecl Kind)
with_key decl [] = decl ∷ []
with_key decl (key ∷ keys) = if text_lt decl.name key.name then decl ∷ key ∷ keys else key ∷ with_key decl keys

-- an open operation: a read or a write of a key, how many must answer, and who did
pub record OpenOperation : Type 0 where
  pub op : ℕ
  pub key : Text
  pub reads : Bool
  pub needed : ℕ
  pub counted : IdentitySet

-- how an operation ended
pub data Result (Shown : Type 0) : Type 0 where
  Wrote : Result Shown
  ReadValue : Shown → Result Shown
  ReadDeleted : Result Shown
  ReadNothing : Result Shown

pub record Finished (Shown : Type 0) : Type 0 where
  pub op : ℕ
  pub result : Result Shown

-- a member. The declared keys stand in byte order. For each key it has an entry, and for each peer the own number flushed to it
pub record Node (Kind Op Shown : Type 0) : Type 0 where
  pub identity : ℕ
  pub view : View
  pub keys : List (KeyDecl Kind)
  pub entries : Text → Entry Op
  pub flushed : Text → VersionVector
  pub open_operations : List OpenOperation
  pub finished : List (Finished Shown)
  pub next_op : ℕ
  pub steps : ℕ

-- how many members an operation needs
pub data Level : Type 0 where
  Local : Level
  To : ℕ → Level
  Majority : (cap : ℕ) → Level
  All : Level

abbrev pub needed_number : Level → ℕ → ℕ
needed_number Local members = 1
needed_number (To n) members = max n 1
needed_number (Majority cap) members = min members (max (members / 2 + 1) cap)
needed_number All members = members

-- nothing where there are too few members
abbrev pub needed : Level → ℕ → Option ℕ
needed level members = if nat_le (needed_number level members) members then Some (needed_number level members) else None

pub data Input (Op : Type 0) : Type 0 where
  Update : (key : Text) (op : Op) (level : Level) → Input Op
  Get : (key : Text) (level : Level) → Input Op
  Take : (from : ℕ) (message : Message Op) → Input Op
  Install : View → Input Op
  Flush : Input Op
  GossipTo : ℕ → Input Op
  PruneTick : Input Op
  Timeout : (op : ℕ) → Input Op

-- what the store did in a step
pub data Fate : Type 0 where
  NoStore Stored StoreFailed : Fate

-- an outcome of a tick, for a key and a removed identity
pub record KeyOutcome : Type 0 where
  pub key : Text
  pub removed : ℕ
  pub outcome : Outcome

pub data Reply (Shown : Type 0) : Type 0 where
  Done : Reply Shown
  Pending : (op : ℕ) → Reply Shown
  Value : Shown → Reply Shown
  Deleted : Reply Shown
  NotFound : Reply Shown
  UnknownKey : Reply Shown
  WrongKind : Reply Shown
  TooFew : Reply Shown
  Refused : Refusal → Reply Shown
  NotStored : Reply Shown
  Taken : Reply Shown
  Already : Reply Shown
  Gap : ℕ → Reply Shown
  NotFromMember : Reply Shown
  Installed : Reply Shown
  OldView : Reply Shown
  NotAPeer : Reply Shown
  Ticked : List KeyOutcome → Reply Shown
  TickedNotStored : List KeyOutcome → Reply Shown
  NotLeader : ℕ → Reply Shown
  TimedOut : Reply Shown
  NoSuchOp : Reply Shown

-- what a step answers: a reply, messages to peers, and the operation that it finished
pub record Output (Op Shown : Type 0) : Type 0 where
  pub reply : Reply Shown
  pub posts : List (Post Op)
  pub ended : Option (Finished Shown)

-- a member after a step, and what it answered
pub record Stepped (Kind Op Shown : Type 0) : Type 0 where
  pub node : Node Kind Op Shown
  pub output : Output Op Shown

-- a declared key with its entry
pub record KeyState (Kind Op : Type 0) : Type 0 where
  pub name : Text
  pub kind : Kind
  pub durable : Bool
  pub entry : Entry Op

-- an entry under the name of its key
abbrev pub keyed_entry : {Kind Op : Type 0} → KeyState Kind Op → Keyed (Entry Op)
keyed_entry k = record { key = k.name; item = k.entry }

-- what stands at each text, but x at one
abbrev pub with_text_at : {X : Type 0} → (Text → X) → Text → X → Text → X
with_text_at f key x other = if bytes_eq other key then x else f other

module _ {Kind Op Shown : Type 0} where
  abbrev pub state_of : Node Kind Op Shown → KeyDecl Kind → KeyState Kind Op
  state_of node decl = record { name = decl.name; kind = decl.kind; durable = decl.durable; entry = node.entries decl.name }

  abbrev pub key_states : Node Kind Op Shown → List (KeyState Kind Op)
  key_states node = map (state_of node) node.keys

  abbrev pub key_state : Node Kind Op Shown → Text → Option (KeyState Kind Op)
  key_state node key = option_map (state_of node) (find (λ decl. bytes_eq decl.name key) node.keys)

  -- the member with another entry of a key
  abbrev pub with_entry : Node Kind Op Shown → Text → Entry Op → Node Kind Op Shown
  with_entry node key entry = record node { entries = with_text_at node.entries key entry }

  -- the member declares the key with this kind
  abbrev pub HasKey : Node Kind Op Shown → Text → Kind → Type 0
  HasKey node key kind = (durable : Bool) × (find (λ (decl : KeyDecl Kind). bytes_eq decl.name key) node.keys ≡ Some (record { name = key; kind = kind; durable = durable }))

  -- the member, one step later
  abbrev pub one_step_later : Node Kind Op Shown → Node Kind Op Shown
  one_step_later node = record node { steps = node.steps + 1 }
