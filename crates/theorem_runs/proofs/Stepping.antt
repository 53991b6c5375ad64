-- What one step of a member does to its entries, its identity and its view, whatever the input: what the changes of an entry keep is kept.
use Rattle.std.proofs.Common.{◌≡◌, ℕ, ◌+◌, ◌<◌, List, [], ◌∷◌, refl, Bool, true, false, Some, None, Option}
use Rattle.std.specs.Prelude.{if◌then◌else◌, nat_le, ⊤}
use Rattle.std.specs.List.{AllByRecursion}
use Rattle.std.proofs.lemmas.Bool.{leb-false}
use Rattle.model_history.specs.Texts.{Text}
use Rattle.model_members.specs.View.{View, is_member}
use Rattle.model_members.specs.Entry.{Entry, Mark, Group, seen_by}
use Rattle.model_members.specs.DataType.{Replication}
use Rattle.model_members.specs.Message.{Keyed, Message, entries_in, groups_in}
use Rattle.model_members.specs.Message.Message.{Deltas, Nack, Status, Gossip, Write, WriteAck, WriteNack, Read, ReadAnswer}
use Rattle.model_members.specs.Node.{Node, Input, Fate, Stepped, one_step_later}
use Rattle.model_members.specs.Node.Input.{Update, Get, Take, Install, Flush, GossipTo, PruneTick, Timeout}
use Rattle.model_members.specs.Node.Reply.{NotFromMember, OldView, NotStored, Installed}
use Rattle.model_members.specs.Step.{step, step_of_take, answered, has_failed}
use Rattle.theorem_runs.proofs.Keeping.{AnyTick, keeps_pruned, AreKept, Keeps, IsKnown, IsKnownInput, keeps_step, keeps_taken, if_tells}

pub all_trivial : {X : Type 0} (xs : List X) → AllByRecursion (λ (x : X). ⊤) xs
all_trivial [] = tt
all_trivial (x ∷ xs) = (tt, all_trivial xs)

module _ {Op : Type 0} (M : Text → Entry Op → Type 0) (G : Text → Group Op → Type 0) where
  -- what is known of the entries and the groups of a message
  pub record Brings (message : Message Op) : Type 0 where
    pub entries : AllByRecursion (λ (e : Keyed (Entry Op)). M e.key e.item) (entries_in message)
    pub groups : AllByRecursion (λ (g : Keyed (Group Op)). G g.key g.item) (groups_in message)

module _ {Kind Op Shown : Type 0} (D : Replication Kind Op Shown) (P M : Text → Entry Op → Type 0) (G : Text → Group Op → Type 0) (Ticks : Text → ℕ → Option Mark → Type 0) (node : Node Kind Op Shown) where
  -- what an input brings: a message of a member, a later view, or a tick
  abbrev pub BringsInput : Input Op → Type 0
  BringsInput (Take from message) = is_member node.view from ≡ true → Brings M G message
  BringsInput (Install view) = node.view.number < view.number → (key : Text) (entry : Entry Op) → P key entry → P key (seen_by node.identity view.number entry)
  BringsInput PruneTick = (key : Text) (r : ℕ) → Ticks key r ((node.entries key).marks r)
  BringsInput _ = ⊤

  module _ (kept : AreKept P M G Ticks node.identity node.view) where
    known : (message : Message Op) → Brings M G message → IsKnown D P M G Ticks node.identity node.view kept message
    known (Deltas groups entries) b = (b.groups, b.entries)
    known (Nack keys) b = tt
    known (Status digests) b = tt
    known (Gossip entries wants) b = b.entries
    known (Write op key entry) b = b.entries.0
    known (WriteAck op) b = tt
    known (WriteNack op) b = tt
    known (Read op key) b = tt
    known (ReadAnswer op key None) b = tt
    known (ReadAnswer op key (Some entry)) b = b.entries.0

    by_keeping : (input : Input Op) (fate : Fate) → ((key : Text) → P key (node.entries key)) → IsKnownInput D P M G Ticks node.identity node.view kept input → (key : Text) → P key ((step D node input fate).node.entries key)
    by_keeping input fate before brought = (keeps_step D P M G Ticks node.identity node.view kept node.keys node input fate (record { same_identity = refl; same_view = refl; same_keys = refl; entries = before }) brought).entries

    by_taking : (from : ℕ) (message : Message Op) (fate : Fate) → ((key : Text) → P key (node.entries key)) → (is_member node.view from ≡ true → Brings M G message) → (key : Text) → P key ((step D node (Take from message) fate).node.entries key)
    by_taking from message fate before brought =
        let later = one_step_later node in
        (if_tells (λ (s : Stepped Kind Op Shown). Keeps P node.identity node.view node.keys s.node) (is_member node.view from) (step_of_take D later from fate message) (answered later NotFromMember)
        (λ member. keeps_taken D P M G Ticks node.identity node.view kept node.keys later from fate message (record { same_identity = refl; same_view = refl; same_keys = refl; entries = before }) (known message (brought member)))
        (λ stranger. record { same_identity = refl; same_view = refl; same_keys = refl; entries = before })).entries

    by_installing : (view : View) (fate : Fate) → ((key : Text) → P key (node.entries key)) → (node.view.number < view.number → (key : Text) (entry : Entry Op) → P key entry → P key (seen_by node.identity view.number entry)) → (key : Text) → P key ((step D node (Install view) fate).node.entries key)
    by_installing view fate before brought = by_test (nat_le view.number node.view.number) refl
      where
        by_test : (b : Bool) → nat_le view.number node.view.number ≡ b → (key : Text)
            → P key ((if b then answered (record node { steps = node.steps + 1 }) OldView else answered (record (record node { steps = node.steps + 1 }) { view = view; entries = λ key. seen_by node.identity view.number (node.entries key) }) (if has_failed fate then NotStored else Installed)).node.entries key)
        by_test true e key = before key
        by_test false e key = brought (leb-false view.number node.view.number e) key (node.entries key) (before key)

    -- each step keeps P
    pub keeps_any : (input : Input Op) (fate : Fate) → BringsInput input → ((key : Text) → P key (node.entries key)) → (key : Text) → P key ((step D node input fate).node.entries key)
    keeps_any (Update key op level) fate brought before = by_keeping (Update key op level) fate before tt
    keeps_any (Get key level) fate brought before = by_keeping (Get key level) fate before tt
    keeps_any (Take from message) fate brought before = by_taking from message fate before brought
    keeps_any (Install view) fate brought before = by_installing view fate before brought
    keeps_any Flush fate brought before = by_keeping Flush fate before tt
    keeps_any (GossipTo i) fate brought before = by_keeping (GossipTo i) fate before tt
    keeps_any PruneTick fate brought before = (keeps_pruned D P M G Ticks node.identity node.view kept node.keys (one_step_later node) fate brought (record { same_identity = refl; same_view = refl; same_keys = refl; entries = before })).entries
    keeps_any (Timeout op) fate brought before = by_keeping (Timeout op) fate before tt

-- IDENTITY AND VIEW

-- a step installs a later view, or leaves the view
pub data HasView {Kind Op Shown : Type 0} (before : Node Kind Op Shown) (input : Input Op) (after : Node Kind Op Shown) : Type 0 where
  SameView : after.view ≡ before.view → HasView before input after
  NewView : (view : View) → input ≡ Install view → before.view.number < view.number → after.view ≡ view → HasView before input after

module _ {Kind Op Shown : Type 0} (D : Replication Kind Op Shown) (node : Node Kind Op Shown) where
  abbrev Any : Text → Entry Op → Type 0
  Any key entry = ⊤

  any_kept : AreKept Any Any (λ key (group : Group Op). ⊤) AnyTick node.identity node.view
  any_kept = record { added = λ key entry op p. tt; took = λ key mine theirs p m. tt; grouped = λ key entry group judgement p g. tt; marks = λ key entry shares r ticks due p. tt; prunes = λ key entry shares r ticks due seen p. tt }

  plain : Keeps Any node.identity node.view node.keys node
  plain = record { same_identity = refl; same_view = refl; same_keys = refl; entries = λ key. tt }

  stays : (input : Input Op) (fate : Fate) → IsKnownInput D Any Any (λ key (group : Group Op). ⊤) AnyTick node.identity node.view any_kept input → Keeps Any node.identity node.view node.keys (step D node input fate).node
  stays input fate known = keeps_step D Any Any (λ key group. ⊤) AnyTick node.identity node.view any_kept node.keys node input fate plain known

  pub record Moves (input : Input Op) (after : Node Kind Op Shown) : Type 0 where
    pub identity : after.identity ≡ node.identity
    pub keys : after.keys ≡ node.keys
    pub view : HasView node input after

  moved : (input : Input Op) (after : Node Kind Op Shown) → Keeps Any node.identity node.view node.keys after → Moves input after
  moved input after keeps = record { identity = keeps.same_identity; keys = keeps.same_keys; view = SameView keeps.same_view }

  by_view : (view : View) (fate : Fate) → Moves (Install view) (step D node (Install view) fate).node
  by_view view fate = if_tells (λ (s : Stepped Kind Op Shown). Moves (Install view) s.node) (nat_le view.number node.view.number) _ _
      (λ old. record { identity = refl; keys = refl; view = SameView refl })
      (λ new. record { identity = refl; keys = refl; view = NewView view refl (leb-false view.number node.view.number new) refl })

  pub moves : (input : Input Op) (fate : Fate) → Moves input (step D node input fate).node
  moves (Update key op level) fate = moved (Update key op level) _ (stays (Update key op level) fate tt)
  moves (Get key level) fate = moved (Get key level) _ (stays (Get key level) fate tt)
  moves (Take from message) fate = moved (Take from message) _ (stays (Take from message) fate (known D Any Any (λ key group. ⊤) AnyTick node any_kept message (record { entries = all_trivial _; groups = all_trivial _ })))
  moves (Install view) fate = by_view view fate
  moves Flush fate = moved Flush _ (stays Flush fate tt)
  moves (GossipTo i) fate = moved (GossipTo i) _ (stays (GossipTo i) fate tt)
  moves PruneTick fate = moved PruneTick _ (stays PruneTick fate (λ key r mark. tt))
  moves (Timeout op) fate = moved (Timeout op) _ (stays (Timeout op) fate tt)
