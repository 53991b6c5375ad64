-- What each change of an entry keeps holds in every run of each entry that is held, sent or stored.
use Rattle.std.proofs.Common.{◌≡◌, ℕ, ◌+◌, List, [], refl, sym, subst, Bool, true, false, Option, Some, None}
use Rattle.std.specs.Prelude.{if◌then◌else◌, slice_get, unwrap_or, ⊤, nat_le, nat_lt}
use Rattle.std.specs.List.{AllByRecursion, list_any}
use Rattle.model_history.specs.Texts.{Text}
use Rattle.model_members.specs.View.{View, place_of, first_view}
use Rattle.model_history.specs.History.{Record}
use Rattle.model_members.specs.Entry.{Entry, Group, seen_by, empty_entry, is_prune}
use Rattle.model_members.specs.DataType.{Replication}
use Rattle.model_members.specs.Message.{Keyed, Message, entries_in, groups_in, part_of}
use Rattle.model_members.specs.Message.Message.{Deltas, Nack, Status, Gossip, Write, WriteAck, WriteNack, Read, ReadAnswer}
use Rattle.model_members.specs.Node.{KeyDecl, Node, Input, Fate}
use Rattle.model_members.specs.Node.Reply.{OldView, NotStored, Installed}
use Rattle.model_members.specs.Node.Input.{Update, Get, Take, Install, Flush, GossipTo, PruneTick, Timeout}
use Rattle.model_members.specs.Step.{step, answered, has_failed}
use Rattle.model_members.specs.World.{World, Store, no_entries, start, message_at, loaded_entry, loaded_node, IsGiven}
use Rattle.theorem_runs.proofs.Keeping.{AnyTick, AreKept, IsKnown, IsKnownInput, keeps_step, if_holds}
use Rattle.theorem_runs.proofs.Sending.{IsOwnGroup, IsFrom, all_both}
use Rattle.theorem_runs.proofs.Agreement.{AllStored, found_stored}
use Rattle.theorem_runs.proofs.Parts.{part_entries, part_groups}
use Rattle.theorem_runs.proofs.Happening.{IsStoreFor, NodeAfter, MessageAfter, StoredAfter, Follows}
use Rattle.theorem_runs.proofs.Happening.IsStoreFor.{Emptied, Reloaded}
use Rattle.theorem_runs.proofs.Happening.NodeAfter.{Same, Stepped, Started}
use Rattle.theorem_runs.proofs.Happening.MessageAfter.{OldMessage, NewMessage}
use Rattle.theorem_runs.proofs.Happening.StoredAfter.{OldStored, NewStored}

-- a property of entries that each change keeps
pub record IsKeptAlways {Op : Type 0} (E : Entry Op → Type 0) : Type 0 where
  pub nothing : E empty_entry
  pub seen : (i view : ℕ) (entry : Entry Op) → E entry → E (seen_by i view entry)
  pub changes : (i : ℕ) (view : View) → AreKept (λ key. E) (λ key. E) (λ key group. list_any (λ (r : Record Op). is_prune r.action) group.group_records ≡ false) AnyTick i view

module _ {Kind Op Shown : Type 0} (D : Replication Kind Op Shown) (E : Entry Op → Type 0) (always : IsKeptAlways E) where
  abbrev IsPlain : Group Op → Type 0
  IsPlain group = list_any (λ (r : Record Op). is_prune r.action) group.group_records ≡ false

  pub record IsGood (message : Message Op) : Type 0 where
    pub entries : AllByRecursion (λ (e : Keyed (Entry Op)). E e.item) (entries_in message)
    pub groups : AllByRecursion (λ (g : Keyed (Group Op)). IsPlain g.item) (groups_in message)

  pub record AllGood (world : World Kind Op Shown) : Type 0 where
    pub held : (i : ℕ) (node : Node Kind Op Shown) → world.nodes i ≡ Some node → (key : Text) → E (node.entries key)
    pub sent : (from to index : ℕ) (message : Message Op) → message_at world from to index ≡ Some message → IsGood message
    pub stored : (place : ℕ) → AllStored (λ key. E) (world.stores place)

  -- A STEP

  known : (i : ℕ) (view : View) (message : Message Op) → IsGood message → IsKnown D (λ key. E) (λ key. E) (λ key group. IsPlain group) AnyTick i view (always.changes i view) message
  known i view (Deltas groups entries) good = (good.groups, good.entries)
  known i view (Nack keys) good = tt
  known i view (Status digests) good = tt
  known i view (Gossip entries wants) good = good.entries
  known i view (Write op key entry) good = good.entries.0
  known i view (WriteAck op) good = tt
  known i view (WriteNack op) good = tt
  known i view (Read op key) good = tt
  known i view (ReadAnswer op key None) good = tt
  known i view (ReadAnswer op key (Some entry)) good = good.entries.0

  abbrev IsFair : Input Op → Type 0
  IsFair (Take from message) = IsGood message
  IsFair _ = ⊤

  by_keeping : (node : Node Kind Op Shown) (input : Input Op) (fate : Fate) → ((key : Text) → E (node.entries key)) → IsKnownInput D (λ key. E) (λ key. E) (λ key group. IsPlain group) AnyTick node.identity node.view (always.changes node.identity node.view) input → (key : Text) → E ((step D node input fate).node.entries key)
  by_keeping node input fate good brought =
      (keeps_step D (λ key. E) (λ key. E) (λ key group. IsPlain group) AnyTick node.identity node.view (always.changes node.identity node.view) node.keys node input fate (record { same_identity = refl; same_view = refl; same_keys = refl; entries = good }) brought).entries

  good_step : (node : Node Kind Op Shown) (input : Input Op) (fate : Fate) → ((key : Text) → E (node.entries key)) → IsFair input → (key : Text) → E ((step D node input fate).node.entries key)
  good_step node (Update key op level) fate good fair = by_keeping node (Update key op level) fate good tt
  good_step node (Get key level) fate good fair = by_keeping node (Get key level) fate good tt
  good_step node (Take from message) fate good fair = by_keeping node (Take from message) fate good (known node.identity node.view message fair)
  good_step node (Install view) fate good fair = by_test (nat_le view.number node.view.number)
    where
      by_test : (b : Bool) (key : Text) → E ((if b then answered (record node { steps = node.steps + 1 }) OldView else answered (record (record node { steps = node.steps + 1 }) { view = view; entries = λ key. seen_by node.identity view.number (node.entries key) }) (if has_failed fate then NotStored else Installed)).node.entries key)
      by_test true key = good key
      by_test false key = always.seen node.identity view.number (node.entries key) (good key)
  good_step node Flush fate good fair = by_keeping node Flush fate good tt
  good_step node (GossipTo j) fate good fair = by_keeping node (GossipTo j) fate good tt
  good_step node PruneTick fate good fair = by_keeping node PruneTick fate good (λ key r mark. tt)
  good_step node (Timeout op) fate good fair = by_keeping node (Timeout op) fate good tt

  -- what is from a member whose entries are good is good
  good_entry : (held : Text → Entry Op) → ((key : Text) → E (held key)) → (es : List (Keyed (Entry Op))) → AllByRecursion (λ (e : Keyed (Entry Op)). e.item ≡ held e.key) es → AllByRecursion (λ (e : Keyed (Entry Op)). E e.item) es
  good_entry held good es all = all_both (λ (e : Keyed (Entry Op)). e.item ≡ held e.key) (λ (e : Keyed (Entry Op)). e.item ≡ held e.key) (λ (e : Keyed (Entry Op)). E e.item) (λ e p q. subst E (sym p) (good e.key)) es all all

  good_message : (held : Text → Entry Op) (i to : ℕ) → ((key : Text) → E (held key)) → (message : Message Op) → IsFrom held i to message → IsGood message
  good_message held i to good message from =
      record {
        entries = good_entry held good (entries_in message) from.entries;
        groups = all_both (λ (g : Keyed (Group Op)). IsOwnGroup held i to g.key g.item) (λ (g : Keyed (Group Op)). IsOwnGroup held i to g.key g.item) (λ (g : Keyed (Group Op)). IsPlain g.item) (λ g p q. p.plain) (groups_in message) from.groups from.groups;
      }

  -- A NEW MEMBER

  loaded_good : (i : ℕ) (view : View) (store : Store Op) (o : Option (KeyDecl Kind)) → AllStored (λ key. E) store → E (loaded_entry i view store o)
  loaded_good i view store None all = always.nothing
  loaded_good i view store (Some key) all =
      let found = unwrap_or (store key.name) empty_entry in
      if_holds E key.durable (seen_by i view.number found) empty_entry (always.seen i view.number found (found_stored (λ key. E) store key.name always.nothing all)) always.nothing

  -- AN EVENT

  part_good : (knows : Text → Bool) (whole message : Message Op) → message ≡ part_of knows whole → IsGood whole → IsGood message
  part_good knows whole message is good = record { entries = part_entries _ knows whole message is good.entries; groups = part_groups _ knows whole message is good.groups }

  module _ (world next : World Kind Op Shown) (follows : Follows D world next) (good : AllGood world) where
    brings_good : (t : ℕ) (input : Input Op) → IsGiven D world t input → IsFair input
    brings_good t (Update key op level) comes = tt
    brings_good t (Get key level) comes = tt
    brings_good t (Take from message) comes = part_good comes.2 comes.1 message comes.4 (good.sent from t comes.0 comes.1 comes.3)
    brings_good t (Install view) comes = tt
    brings_good t Flush comes = tt
    brings_good t (GossipTo j) comes = tt
    brings_good t PruneTick comes = tt
    brings_good t (Timeout op) comes = tt

    store_good : (t : ℕ) (store : Store Op) → IsStoreFor D world next t store → AllStored (λ key. E) store
    store_good t store (Emptied nothing empty) = subst (AllStored (λ key. E)) (sym nothing) (λ key entry e. absurd (cc e))
    store_good t store (Reloaded i there place is) = subst (AllStored (λ key. E)) (sym is) (good.stored (place_of world.view i))

    held_good : (t : ℕ) (new : Node Kind Op Shown) → NodeAfter D world next t new → (key : Text) → E (new.entries key)
    held_good t new (Same was stays) = good.held t new was
    held_good t new (Stepped old input fate was comes is views) = subst (λ (n : Node Kind Op Shown). (key : Text) → E (n.entries key)) (sym is) (good_step old input fate (good.held t old was) (brings_good t input comes))
    held_good t new (Started store is given member made from) = subst (λ (n : Node Kind Op Shown). (key : Text) → E (n.entries key)) (sym made) (λ key. loaded_good t next.view store _ (store_good t store from))

    sent_good : (from to : ℕ) (message : Message Op) → MessageAfter D world next from to message → IsGood message
    sent_good from to message (OldMessage index is) = good.sent from to index message is
    sent_good from to message (NewMessage new runs is_from) = good_message new.entries new.identity to (held_good from new (follows.nodes from new runs)) message is_from

    stored_good : (place : ℕ) (key : Text) (entry : Entry Op) → StoredAfter D world next place key entry → E entry
    stored_good place key entry (OldStored is) = good.stored place key entry is
    stored_good place key entry (NewStored i new runs at_place views item) = subst E (sym item) (held_good i new (follows.nodes i new runs) key)

    pub good_follows : AllGood next
    good_follows =
        record {
          held = λ t new runs. held_good t new (follows.nodes t new runs);
          sent = λ from to index message is. sent_good from to message (follows.messages from to index message is);
          stored = λ place key entry is. stored_good place key entry (follows.stored place key entry is);
        }

  -- THE FIRST WORLD

  pub start_good : (members : ℕ) (keys : List (KeyDecl Kind)) → AllGood (start members keys)
  start_good members keys =
      record { held = λ j n e. at_start j (nat_lt j members) n e; sent = λ from to index m e. absurd (no_message index m e); stored = λ place key entry e. absurd (cc e) }
    where
      no_message : (index : ℕ) (m : Message Op) → slice_get {X = Message Op} [] index ≡ Some m → ⊥
      no_message index m e = cc e

      at_start : (j : ℕ) (b : Bool) (n : Node Kind Op Shown) → (if b then Some (loaded_node keys j (first_view members) no_entries) else None) ≡ Some n → (key : Text) → E (n.entries key)
      at_start j true n e =
          let same : loaded_node keys j (first_view members) no_entries ≡ n = cc e in
          subst (λ (x : Node Kind Op Shown). (key : Text) → E (x.entries key)) same (λ key. loaded_good j (first_view members) no_entries _ (λ key entry e. absurd (cc e)))
      at_start j false n e = absurd (cc e)
