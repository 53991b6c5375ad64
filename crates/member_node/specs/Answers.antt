-- What a member answers to a message.
--     is_status, only_asks, is_exchange        of messages
--     answers_of        what is posted to the sender
--     IsTaken        what was taken is what the model's member takes and answers
--     MeansNamed, ComparesIfOk, BringsIfOk, TakesIfOk        it is so for all members of the model, in all logs
use Rattle.std.specs.Prelude.{◌≡◌, ℕ, List, [], ◌∷◌, ◌++◌, Option, None, Bool, true, false, if◌then◌else◌, map, Result, IfOk}
use Rattle.std.specs.List.{AllZip}
use Rattle.model_history.specs.Texts.{Text}
use Rattle.model_history.specs.Vector.{VersionVector, IdentitySet}
use Rattle.model_history.specs.History.{History}
use Rattle.model_members.specs.Entry.{Entry}
use Rattle.model_members.specs.Message.{Message as Sent}
use Rattle.model_members.specs.Node as nodes
use Rattle.model_members.specs.Node.{Reply as Meant}
use Rattle.model_members.specs.Step.{step_of_take, named_entries}
use Rattle.model_kinds.specs.declared.shown.Shown.{Shown}
use Rattle.data_lattice.specs.declared.replica.Replica.{Ghosts}
use Rattle.data_lattice.specs.declared.spelled.SpelledData.{Ghosts as Spelling}
use Rattle.data_envelope.specs.declared.envelope.Envelope.{Envelope}
use Rattle.member_messages.specs.declared.message.Keyed.{Keyed}
use Rattle.member_messages.specs.declared.message.Message.{Message}
use Rattle.member_messages.specs.declared.message.Message.TheVariants.{Deltas, Nack, Status, Gossip}
use Rattle.member_messages.specs.declared.message.Post.{Post}
use Rattle.member_messages.specs.Standing.{digest_told, StandsForKeyed, StandsForPosts}
use Rattle.member_node.specs.declared.key.KeyState.{KeyState}
use Rattle.member_node.specs.declared.change.Change.{Change}
use Rattle.member_node.specs.declared.taking.MessageTaken.{MessageTaken}
use Rattle.member_node.specs.Replies.{delta_groups, spelled_groups, meant}
use Rattle.member_node.specs.Keys.{declared_by}
use Rattle.member_node.specs.Changes.{AreMade}
use Rattle.member_node.specs.Inputs.{StandsForTaken}
use Rattle.member_node.specs.Taking.{IsKept, LeadsTo, AreExactAt, AreHeld, AreHeldBy, IsAtWork}

-- the first gap, else whether something changed. A request always counts as taken
abbrev pub reply_to : Bool → List (Keyed ℕ) → Bool → Meant Shown
reply_to asks (gap ∷ gaps) changed = Meant.Gap gap.item
reply_to asks [] changed = if asks then Meant.Taken else (if changed then Meant.Taken else Meant.Already)

module _ {T Kind Op Delta : Type 0} {ghosts : Ghosts T Kind Op Delta} where
  -- a message that tells digests
  abbrev pub is_status : Message T Kind Op Delta ghosts → Bool
  is_status (Status digests) = true
  is_status _ = false

  -- a message that brings nothing, and asks
  abbrev pub only_asks : Message T Kind Op Delta ghosts → Bool
  only_asks (Deltas groups entries) = false
  only_asks (Nack keys) = true
  only_asks (Status digests) = true
  only_asks (Gossip entries wants) = false
  only_asks _ = false

  -- a message of groups, entries, nacks or digests: of no operation
  abbrev pub is_exchange : Message T Kind Op Delta ghosts → Bool
  is_exchange (Deltas groups entries) = true
  is_exchange (Nack keys) = true
  is_exchange (Status digests) = true
  is_exchange (Gossip entries wants) = true
  is_exchange _ = false

  -- the keys with gaps
  abbrev pub nack_of : ℕ → List (Keyed ℕ) → List (Post T Kind Op Delta ghosts)
  nack_of from [] = []
  nack_of from (gap ∷ gaps) = record { to = from; message = Nack (map (λ (g : Keyed ℕ). g.key) (gap ∷ gaps)) } ∷ []

  -- the entries that were asked for
  abbrev pub gossip_of : ℕ → List (Keyed (Envelope T Kind Op Delta)) → List (Post T Kind Op Delta ghosts)
  gossip_of from [] = []
  gossip_of from (keyed ∷ entries) = record { to = from; message = Gossip (keyed ∷ entries) [] } ∷ []

  abbrev pub answers_of : ℕ → List (Keyed ℕ) → List (Keyed (Envelope T Kind Op Delta)) → List (Post T Kind Op Delta ghosts)
  answers_of from gaps entries = nack_of from gaps ++ gossip_of from entries

module _ {T Kind Op Delta : Type 0} {ghosts : Ghosts T Kind Op Delta} (kind_of : T → Kind) (IsDataOf : T → History Op → VersionVector → IdentitySet → Type 0) (kinds : Text → Kind) (logs : Text → History Op) where
  -- what was taken is what the model's member takes and answers
  pub record IsTaken (keys : List (KeyState T Kind Op Delta)) (node : nodes.Node Kind Op Shown) (next : nodes.Stepped Kind Op Shown) (taken : MessageTaken T Kind Op Delta ghosts) : Type 0 where
    pub only : next.node ≡ record node { entries = next.node.entries }
    pub leads : AreMade (LeadsTo IsDataOf logs node.entries next.node.entries) keys taken.changes
    pub reply : meant taken.output.reply ≡ next.output.reply
    pub ended : next.output.ended ≡ None
    pub posts : StandsForPosts kind_of IsDataOf kinds logs taken.output.posts next.output.posts

-- IN ALL LOGS

-- the entries of these names are those of a member to which the changes lead
abbrev pub MeansNamed : {T Kind Op Delta : Type 0} → Ghosts T Kind Op Delta → List (KeyState T Kind Op Delta) → List (Option (Change T Kind Op Delta)) → List Text → List (Keyed (Envelope T Kind Op Delta)) → Type 0
MeansNamed {T} {Kind} {Op} ghosts keys changes names named =
    (digest : Kind → Entry Op → List ℕ) (kinds : Text → Kind) (logs : Text → History Op) (id view : ℕ) (before : Text → Entry Op) (node : nodes.Node Kind Op Shown)
    → AreHeld ghosts.kind_of ghosts.IsDataOf kinds logs id keys before → AreMade (IsKept ghosts.kind_of id) keys changes → IsAtWork ghosts.kind_of ghosts.IsDataOf kinds logs id keys view before changes node
    → AllZip (StandsForKeyed ghosts.kind_of ghosts.IsDataOf kinds logs) named (named_entries (delta_groups ghosts.data_type digest) node names)

module _ {T Kind Op Delta E : Type 0} {ghosts : Ghosts T Kind Op Delta} where
  -- digests are taken as the model's member takes them
  abbrev pub ComparesIfOk : Spelling T Kind Op Delta → (id from : ℕ) → List (KeyState T Kind Op Delta) → List (Keyed (List ℕ)) → Result (MessageTaken T Kind Op Delta ghosts) E → Type 0
  ComparesIfOk spelling id from keys digests result =
      (kinds : Text → Kind) (logs : Text → History Op) (node : nodes.Node Kind Op Shown) → AreHeld ghosts.kind_of ghosts.IsDataOf kinds logs id keys node.entries → node.keys ≡ map declared_by keys
      → let next = step_of_take (spelled_groups ghosts.data_type spelling.history_byte spelling.history_spelled) node from nodes.Fate.NoStore (Sent.Status (map digest_told digests)) in
      IfOk result (IsTaken ghosts.kind_of ghosts.IsDataOf kinds logs keys node next)

  -- so is a message of groups, entries or nacks, whatever the digests are
  abbrev pub BringsIfOk : (id view from : ℕ) → List (KeyState T Kind Op Delta) → Message T Kind Op Delta ghosts → Result (MessageTaken T Kind Op Delta ghosts) E → Type 0
  BringsIfOk id view from keys message result =
      (digest : Kind → Entry Op → List ℕ) (kinds : Text → Kind) (logs : Text → History Op) (node : nodes.Node Kind Op Shown) (sent : Sent Op)
      → AreHeldBy ghosts.kind_of ghosts.IsDataOf kinds logs id keys view node → StandsForTaken kinds logs keys message sent → is_status message ≡ false → is_exchange message ≡ true
      → AreExactAt keys (step_of_take (delta_groups ghosts.data_type digest) node from nodes.Fate.NoStore sent).node.entries
      → IfOk result (IsTaken ghosts.kind_of ghosts.IsDataOf kinds logs keys node (step_of_take (delta_groups ghosts.data_type digest) node from nodes.Fate.NoStore sent))

  -- and any of these messages
  abbrev pub TakesIfOk : Spelling T Kind Op Delta → (id view from : ℕ) → List (KeyState T Kind Op Delta) → Message T Kind Op Delta ghosts → Result (MessageTaken T Kind Op Delta ghosts) E → Type 0
  TakesIfOk spelling id view from keys message result =
      (kinds : Text → Kind) (logs : Text → History Op) (node : nodes.Node Kind Op Shown) (sent : Sent Op)
      → AreHeldBy ghosts.kind_of ghosts.IsDataOf kinds logs id keys view node → StandsForTaken kinds logs keys message sent → is_exchange message ≡ true
      → AreExactAt keys (step_of_take (spelled_groups ghosts.data_type spelling.history_byte spelling.history_spelled) node from nodes.Fate.NoStore sent).node.entries
      → IfOk result (IsTaken ghosts.kind_of ghosts.IsDataOf kinds logs keys node (step_of_take (spelled_groups ghosts.data_type spelling.history_byte spelling.history_spelled) node from nodes.Fate.NoStore sent))
