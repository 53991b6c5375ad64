-- A write that stands on a link is of a key that every member declares, so each of them answers it.
use Rattle.std.proofs.Common.{◌≡◌, ℕ, ◌<◌, List, ◌∷◌, [], refl, sym, ap, subst, ◌∙◌, arith, Option, Some, None}
use Rattle.std.specs.Prelude.{true, find, is_some, option_map}
use Rattle.std.specs.Str.{bytes_eq}
use Rattle.model_history.specs.Texts.{Text}
use Rattle.model_history.proofs.PruneLaws.{found}
use Rattle.model_members.specs.Entry.{Entry}
use Rattle.model_members.specs.DataType.{Replication}
use Rattle.model_members.specs.Message.{Message}
use Rattle.model_members.specs.Message.Message.{Deltas, Nack, Status, Gossip, Write, WriteAck, WriteNack, Read, ReadAnswer}
use Rattle.model_members.specs.Node.{KeyDecl, Node, Level, Input, Fate, HasKey, key_state, state_of, one_step_later}
use Rattle.model_members.specs.Node.Input.{Update}
use Rattle.model_members.specs.Step.{step}
use Rattle.model_members.specs.World.{World, Event, start, run, happens, message_at, IsLawful, AreLawful, IsRun}
use Rattle.model_members.proofs.Cases.{updated}
use Rattle.theorem_runs.proofs.Keeping.{same_text}
use Rattle.theorem_runs.proofs.Safety.{runs_are_safe}
use Rattle.theorem_operations.proofs.Operations.{Tells}
use Rattle.theorem_operations.proofs.Moments.{MessageFrom, Stands, follows_at, messages_follow, safe_at, stands_next, stands_start}
use Rattle.theorem_operations.proofs.Moments.MessageFrom.{OldOne, NewOne}

module _ {Kind : Type 0} where
  -- a key is among those that are declared
  abbrev pub IsDeclaredIn : List (KeyDecl Kind) → Text → Type 0
  IsDeclaredIn keys key = (decl : KeyDecl Kind) × (find (λ (d : KeyDecl Kind). bytes_eq d.name key) keys ≡ Some decl)

  -- a member with these keys has it
  has_declared : {Op Shown : Type 0} (node : Node Kind Op Shown) (key : Text) → IsDeclaredIn node.keys key → (kind : Kind) × HasKey node key kind
  has_declared node key d =
      let name : d.0.name ≡ key = same_text d.0.name key (found (λ (x : KeyDecl Kind). bytes_eq x.name key) node.keys d.0 d.1) in
      (d.0.kind, (d.0.durable, d.1 ∙ (λ j. Some (record { name = name j; kind = d.0.kind; durable = d.0.durable }))))

-- a write is of a key that the member declares
abbrev pub IsOfKnown : {Kind Op Shown : Type 0} → Node Kind Op Shown → Message Op → Type 0
IsOfKnown node (Write op key entry) = is_some (key_state node key) ≡ true
IsOfKnown node message = Unit {0}

module _ {Kind Op Shown : Type 0} (D : Replication Kind Op Shown) where
  -- an update of a key that isn't declared opens no operation
  opens_none : (node : Node Kind Op Shown) (key : Text) (o : Op) (level : Level) (fate : Fate) → find (λ (d : KeyDecl Kind). bytes_eq d.name key) node.keys ≡ None → (step D node (Update key o level) fate).node.next_op ≡ node.next_op
  opens_none node key o level fate none =
      ap (λ (found : Option (KeyDecl Kind)). (updated D (one_step_later node) (option_map (state_of (one_step_later node)) found) o level fate).node.next_op) none

  -- so who posts a write has declared its key
  posts_known : (node : Node Kind Op Shown) (input : Input Op) (fate : Fate) (to op : ℕ) (key : Text) (entry : Entry Op) → Tells D node (step D node input fate).node input to (Write op key entry) → IsDeclaredIn node.keys key
  posts_known node input fate to op key entry tells = go (find (λ (d : KeyDecl Kind). bytes_eq d.name key) node.keys) refl
    where
      go : (found : Option (KeyDecl Kind)) → find (λ (d : KeyDecl Kind). bytes_eq d.name key) node.keys ≡ found → IsDeclaredIn node.keys key
      go (Some decl) e = (decl, e)
      go None e = absurd (
          let grows : node.next_op < (step D node input fate).node.next_op = tells.1 in
          let same : (step D node input fate).node.next_op ≡ node.next_op = ap (λ (x : Input Op). (step D node x fate).node.next_op) tells.3.2 ∙ opens_none node key tells.3.0 tells.3.1 fate e in
          omega arith)

  module _ (members : ℕ) (keys : List (KeyDecl Kind)) where
    -- each write on a link is of a declared key
    abbrev AreKnown : World Kind Op Shown → Type 0
    AreKnown world = (from to index op : ℕ) (key : Text) (entry : Entry Op) → message_at world from to index ≡ Some (Write op key entry) → IsDeclaredIn world.keys key

    known_next : (world : World Kind Op Shown) → Stands D members keys world → (event : Event Op) → IsLawful D world event → AreKnown world → AreKnown (happens D world event)
    known_next world stands event lawful known from to index op key entry e = go (messages_follow D world event lawful from to index (Write op key entry) e)
      where
        same : (happens D world event).keys ≡ world.keys
        same = (follows_at D members keys world stands event lawful).keys

        go : MessageFrom D event world (happens D world event) from to (Write op key entry) → IsDeclaredIn (happens D world event).keys key
        go (OldOne before sent) = subst (λ ks. IsDeclaredIn ks key) (sym same) (known from to before op key entry sent)
        go (NewOne old input fate runs makes comes new member tells) =
            subst (λ ks. IsDeclaredIn ks key) (((safe_at D members keys world stands).views.running from old runs).keys ∙ sym same) (posts_known old input fate to op key entry tells)

    known_after : (world : World Kind Op Shown) → Stands D members keys world → AreKnown world → (events : List (Event Op)) → AreLawful D world events → AreKnown (run D world events)
    known_after world stands known [] lawful = known
    known_after world stands known (event ∷ events) lawful = known_after (happens D world event) (stands_next D members keys world stands event lawful.0) (known_next world stands event lawful.0 known) events lawful.1

    module _ (events : List (Event Op)) (world : World Kind Op Shown) (is_run : IsRun D members keys events world) where
      known_in_run : AreKnown world
      known_in_run =
          subst AreKnown (sym is_run.leads)
          (known_after (start members keys) (stands_start D members keys is_run.some is_run.few) (λ from to index op key entry e. absurd (cc e)) events is_run.lawful)

      -- each running member declares the key of a write that stands on a link
      write_known : (from to index op : ℕ) (key : Text) (entry : Entry Op) → message_at world from to index ≡ Some (Write op key entry) → (t : ℕ) (node : Node Kind Op Shown) → world.nodes t ≡ Some node → (kind : Kind) × HasKey node key kind
      write_known from to index op key entry sent t node runs =
          let same = ((runs_are_safe D members keys events world is_run).views.running t node runs).keys in
          has_declared node key (subst (λ ks. IsDeclaredIn ks key) (sym same) (known_in_run from to index op key entry sent))

    -- a message that stands on a link is no write, or of a key that each running member declares
    pub message_known : (world : World Kind Op Shown) → Stands D members keys world → (from to index : ℕ) (message : Message Op) → message_at world from to index ≡ Some message → (t : ℕ) (node : Node Kind Op Shown) → world.nodes t ≡ Some node → IsOfKnown node message
    message_known world stands from to index (Write op key entry) sent t node runs =
        let known = write_known stands.events world stands.is_run from to index op key entry sent t node runs in
        ap (λ (found : Option (KeyDecl Kind)). is_some (option_map (state_of node) found)) known.1.1
    message_known world stands from to index (Deltas groups entries) sent t node runs = tt
    message_known world stands from to index (Nack names) sent t node runs = tt
    message_known world stands from to index (Status digests) sent t node runs = tt
    message_known world stands from to index (Gossip entries wants) sent t node runs = tt
    message_known world stands from to index (WriteAck op) sent t node runs = tt
    message_known world stands from to index (WriteNack op) sent t node runs = tt
    message_known world stands from to index (Read op key) sent t node runs = tt
    message_known world stands from to index (ReadAnswer op key entry) sent t node runs = tt
