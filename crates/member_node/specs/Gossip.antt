-- Gossip: how the keys of a member stand to the digests that another told.
--     HoldsKey        the kind and the entry of a key are those of the model's member
--     is_told        a digest is told, and is this one
--     is_news, is_wanted        an entry that the other doesn't have alike, and one that the member doesn't
--     news_of, wants_of, digests_of        what the model answers, and tells, of these keys
--     TellsAlike, MeansComparison        of one key, in all logs
--     after_told        digests without the first, where it is of a key
--     ForHolders        what is so of all members of the model that hold the keys
--     MeansNews, MeansWants, GossipsIfOk, AnswersDigestsIfOk, MeansDigests, MeansStatus        what is answered, and told
use Rattle.std.specs.Prelude.{◌≡◌, ℕ, List, [], ◌∷◌, Bool, false, if◌then◌else◌, ◌&&◌, ◌||◌, not, Option, Some, None, is_some, map, filter, All, Result, IfOk}
use Rattle.std.specs.List.{AllZip}
use Rattle.std.specs.Str.{bytes_eq}
use Rattle.model_history.specs.Texts.{Text}
use Rattle.model_history.specs.Vector.{VersionVector, IdentitySet}
use Rattle.model_history.specs.History.{History}
use Rattle.model_members.specs.Entry as model
use Rattle.model_members.specs.Entry.{has_records}
use Rattle.model_members.specs.DataType.{Replication}
use Rattle.model_members.specs.Message as sending
use Rattle.model_members.specs.Message.{Message as Sent}
use Rattle.model_members.specs.Node as nodes
use Rattle.model_members.specs.Node.{state_of, keyed_entry}
use Rattle.model_members.specs.Step.{digest_of, named_digest, is_digest, news_for, wanted_from, gossip_to, answer_to, status_of}
use Rattle.model_kinds.specs.declared.shown.Shown.{Shown}
use Rattle.data_lattice.specs.declared.replica.Replica.{Ghosts}
use Rattle.data_lattice.specs.declared.spelled.SpelledData.{Ghosts as Spelling}
use Rattle.data_envelope.specs.declared.envelope.Envelope.{Envelope}
use Rattle.data_envelope.specs.Images.{StandsFor}
use Rattle.data_envelope.specs.Words.{parts_of}
use Rattle.data_codec.specs.Entries.{entry_digest}
use Rattle.member_messages.specs.declared.message.Keyed.{Keyed}
use Rattle.member_messages.specs.declared.message.Post.{Post}
use Rattle.member_messages.specs.Standing.{digest_told, StandsForEntry, StandsForKeyed, StandsForPosts}
use Rattle.member_node.specs.declared.key.KeyState.{KeyState}
use Rattle.member_node.specs.declared.gossip.Comparison.{Comparison}
use Rattle.member_node.specs.Keys.{declared_by}
use Rattle.member_node.specs.Digests.{spelled_digest}

-- whether a digest is told, and is this one
abbrev pub is_told : Option (List ℕ) → List ℕ → Bool
is_told None own = false
is_told (Some told) own = bytes_eq told own

module _ {T Kind Op Delta : Type 0} (kind_of : T → Kind) (IsDataOf : T → History Op → VersionVector → IdentitySet → Type 0) (kinds : Text → Kind) (logs : Text → History Op) where
  pub record HoldsKey (node : nodes.Node Kind Op Shown) (state : KeyState T Kind Op Delta) : Type 0 where
    pub kind : kinds state.name ≡ state.kind
    pub held : StandsForEntry kind_of IsDataOf kinds logs state.name state.entry (node.entries state.name)

module _ {Kind Op : Type 0} (D : Replication Kind Op Shown) where
  -- the digests of the entries that have records
  abbrev pub digests_of : List (nodes.KeyState Kind Op) → List (sending.Keyed (List ℕ))
  digests_of keys = map (λ k. record { key = k.name; item = digest_of D k }) (filter (λ k. has_records k.entry) keys)

module _ {Kind Op : Type 0} (D : Replication Kind Op Shown) (digests : List (sending.Keyed (List ℕ))) where
  abbrev pub is_alike : nodes.KeyState Kind Op → Bool
  is_alike k = is_digest D (named_digest D digests k.name) (digest_of D k)

  abbrev pub is_news : nodes.KeyState Kind Op → Bool
  is_news k = has_records k.entry && not (is_alike k)

  abbrev pub is_wanted : nodes.KeyState Kind Op → Bool
  is_wanted k = is_some (named_digest D digests k.name) && (not (has_records k.entry) || not (is_alike k))

  abbrev pub news_of : List (nodes.KeyState Kind Op) → List (sending.Keyed (model.Entry Op))
  news_of keys = map keyed_entry (filter is_news keys)

  abbrev pub wants_of : List (nodes.KeyState Kind Op) → List Text
  wants_of keys = map (λ k. k.name) (filter is_wanted keys)

  -- how a key stands to the digests
  pub record IsComparison (k : nodes.KeyState Kind Op) (comparison : Comparison) : Type 0 where
    pub news : comparison.is_news ≡ is_news k
    pub wanted : comparison.is_wanted ≡ is_wanted k

-- IN ALL LOGS

module _ {T Kind Op Delta : Type 0} (ghosts : Ghosts T Kind Op Delta) (spelling : Spelling T Kind Op Delta) where
  -- the digest is told, and is that of the key's entry
  abbrev pub TellsAlike : KeyState T Kind Op Delta → Option (List ℕ) → Bool → Type 0
  TellsAlike state told alike = (log : History Op) (entry : model.Entry Op) → StandsFor ghosts.IsDataOf (parts_of state.entry) log entry → alike ≡ is_told told (spelled_digest ghosts spelling state.entry entry)

  abbrev pub MeansComparison : KeyState T Kind Op Delta → List (Keyed (List ℕ)) → Comparison → Type 0
  MeansComparison state digests comparison =
      (D : Replication Kind Op Shown) (kinds : Text → Kind) (logs : Text → History Op) (node : nodes.Node Kind Op Shown) → D.digest ≡ entry_digest spelling.history_byte spelling.history_spelled
      → HoldsKey ghosts.kind_of ghosts.IsDataOf kinds logs node state → IsComparison D (map digest_told digests) (state_of node (declared_by state)) comparison

  -- of all members of the model that hold the keys, where the digests are those of spellings
  abbrev pub ForHolders : List (KeyState T Kind Op Delta) → ((D : Replication Kind Op Shown) (kinds : Text → Kind) (logs : Text → History Op) → nodes.Node Kind Op Shown → Type 0) → Type 0
  ForHolders keys P =
      (D : Replication Kind Op Shown) (kinds : Text → Kind) (logs : Text → History Op) (node : nodes.Node Kind Op Shown) → D.digest ≡ entry_digest spelling.history_byte spelling.history_spelled
      → All (HoldsKey ghosts.kind_of ghosts.IsDataOf kinds logs node) keys → node.keys ≡ map declared_by keys → P D kinds logs node

  -- the entries that the model answers to digests, and the keys that it wants
  abbrev pub MeansNews : List (KeyState T Kind Op Delta) → List (Keyed (List ℕ)) → List (Keyed (Envelope T Kind Op Delta)) → Type 0
  MeansNews keys digests entries = ForHolders keys (λ D kinds logs node. AllZip (StandsForKeyed ghosts.kind_of ghosts.IsDataOf kinds logs) entries (news_for D node (map digest_told digests)))

  abbrev pub MeansWants : List (KeyState T Kind Op Delta) → List (Keyed (List ℕ)) → List Text → Type 0
  MeansWants keys digests wants = ForHolders keys (λ D kinds logs node. wants ≡ wanted_from D node (map digest_told digests))

  -- the two as a message
  abbrev pub AnswersDigestsIfOk : {E : Type 0} → (from : ℕ) → List (KeyState T Kind Op Delta) → List (Keyed (List ℕ)) → Result (List (Post T Kind Op Delta ghosts)) E → Type 0
  AnswersDigestsIfOk from keys digests result = ForHolders keys (λ D kinds logs node. IfOk result (λ posts.
      StandsForPosts ghosts.kind_of ghosts.IsDataOf kinds logs posts (gossip_to D from (news_for D node (map digest_told digests)) (wanted_from D node (map digest_told digests)))))

  -- the digests that the model tells, and the message of them
  abbrev pub MeansDigests : List (KeyState T Kind Op Delta) → List (Keyed (List ℕ)) → Type 0
  MeansDigests keys digests = ForHolders keys (λ D kinds logs node. status_of D node ≡ Sent.Status (map digest_told digests))

  abbrev pub MeansStatus : (to : ℕ) → List (KeyState T Kind Op Delta) → List (Post T Kind Op Delta ghosts) → Type 0
  MeansStatus to keys posts = ForHolders keys (λ D kinds logs node. StandsForPosts ghosts.kind_of ghosts.IsDataOf kinds logs posts (answer_to D to (status_of D node)))

-- digests without the first, where it is of this key
abbrev pub after_told : Text → List (Keyed (List ℕ)) → List (Keyed (List ℕ))
after_told key [] = []
after_told key (told ∷ digests) = if bytes_eq told.key key then digests else told ∷ digests

-- entries and wants as a message, if there are any
abbrev pub GossipsIfOk : {T Kind Op Delta E : Type 0} → (ghosts : Ghosts T Kind Op Delta) → (to : ℕ) → List (Keyed (Envelope T Kind Op Delta)) → List Text → Result (List (Post T Kind Op Delta ghosts)) E → Type 0
GossipsIfOk {T} {Kind} {Op} ghosts to entries wants result =
    (D : Replication Kind Op Shown) (kinds : Text → Kind) (logs : Text → History Op) (sent : List (sending.Keyed (model.Entry Op)))
    → AllZip (StandsForKeyed ghosts.kind_of ghosts.IsDataOf kinds logs) entries sent → IfOk result (λ posts. StandsForPosts ghosts.kind_of ghosts.IsDataOf kinds logs posts (gossip_to D to sent wants))
