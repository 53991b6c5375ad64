-- Steps that take a message, and steps of gossip.
-- What a member stands for after it took a message.
-- What a write and an answer bring: an entry that is told, or one that is passed over.
-- Steps of gossip, in the model and at a member.
use Rattle.std.proofs.Common.{◌≡◌, ℕ, List, get_or, refl, sym, ap, ◌∙◌, subst, true, false, Option, None, unwrap_or, if◌then◌else◌, [], ◌∷◌, length, cond, arith, suc, Bool, Some, map, find, option_map, is_some, nat_le, All, bytes_eq, not, ◌&&◌, ◌||◌, ◌==◌}
use Rattle.member_node.proofs.Common.{known, uncleaned, Text, VersionVector, IdentitySet, History, at, versions, IsTakenFrom, is_member, Replication, one_step_later, OpenOperation, state_of, key_state, step, step_of_take, answered, after_entries, counted, answer_to, performed_in, Shown, Ghosts, Keeping, Envelope, StandsFor, parts_of, LogParts, StandsForLog, Message, StandsForKeyed, Keyed, Node, KeyState, Change, Flushed, Each, Prepared, changed, AreMade, StandsForKey, StandsForNode, changed_operations, StandForOperations, IsSoundPlan, LeadsOn, IsPrepared, StandsForOutput, IsKept, LeadsTo, AreHeld, declared_by, IsEntryPassedOver, HoldsKey, is_unchanged, is_unchanged-same}
use Rattle.model_history.specs.Vector.{members_of}
use Rattle.model_members.specs.Entry as model
use Rattle.model_members.specs.Message as sending
use Rattle.model_members.specs.Message.{Message as Sent}
use Rattle.model_members.specs.Node as nodes
use Rattle.model_members.specs.Node.{Fate, Input}
use Rattle.model_members.specs.Node.Reply.{NotFromMember, Done, NotAPeer, Already, Taken}
use Rattle.model_members.specs.Step.{keyed_option, with_answer, sent, status_of, took}
use Rattle.model_members.proofs.Cases.{counted_for, with_taken_entry}
use Rattle.model_members.proofs.Taking.{is_changed-any}
use Rattle.std.proofs.lemmas.List.Folds.{list_any_none}
use Rattle.member_messages.specs.declared.message.Message.TheVariants.{Write, WriteAck, WriteNack, Read, ReadAnswer, Status}
use Rattle.member_node.specs.Answers.{is_exchange, is_status}
use Rattle.member_node.specs.declared.change.Change.TheVariants.{Entry}
use Rattle.member_node.specs.Keys.{HaveKinds}
use Rattle.member_node.specs.Own.{IsLogged}
use Rattle.member_node.specs.Planning.{new_entry}
use Rattle.member_node.specs.Taking.{KeepsOwn, AreHeldBy}
use Rattle.member_node.specs.Inputs.{TellsWrite, write_told, keyed_entry_of}
use Rattle.member_node.proofs.Takings.{kept_changed, undeclared_in, tells_one}
use Rattle.member_node.proofs.Planned.{sound_each, leads_each, owned}
use Rattle.member_node.proofs.Standing.{apart, find-map, slice_get-map}
use Rattle.member_node.proofs.Declarings.{undeclared_names}
use Rattle.member_node.proofs.Takings.TellsOne.{one_told, one_passed}

-- A MEMBER AFTER IT TOOK A MESSAGE

module _ {T K Kind Op Delta : Type 0} {ghosts : Ghosts T Kind Op Delta} {keeping : Keeping K} (kind_of : T → Kind) (IsDataOf : T → History Op → VersionVector → IdentitySet → Type 0) (kinds : Text → Kind) (logs : Text → History Op)
    (code : Node T K Kind Op Delta ghosts keeping) (node : nodes.Node Kind Op Shown) (s : StandsForNode kind_of IsDataOf kinds logs code node) where
  -- who is a member
  pub member_is : (from : ℕ) → is_member node.view from ≡ is_member code.view from
  member_is from = ap (λ v. is_member v from) s.view

  -- what the keys hold when the step begins
  pub held_first : AreHeld kind_of IsDataOf kinds logs code.id code.keys.items node.entries
  held_first = record { distinct = s.distinct; unpruned = code.unpruned; of_kinds = λ k d within. (s.entries k d within).kind; held = λ k d within. (s.entries k d within).held }

-- a log stays that of an entry that counts as many own records
log_kept : {Kind Delta Op : Type 0} (IsDeltaOf : Delta → History Op → ℕ → ℕ → ℕ → Type 0) (parts : LogParts Kind Delta) (log : History Op) (before after : model.Entry Op) → IsTakenFrom log after.history → at after.history parts.origin ≡ at before.history parts.origin
    → StandsForLog IsDeltaOf parts log before → StandsForLog IsDeltaOf parts log after
log_kept IsDeltaOf parts log before after taken same s = record { histories = s.histories; taken = taken; last = s.last ∙ sym same; count = s.count; before = s.before; kept = s.kept }

module _ {T Kind Op Delta : Type 0} (kind_of : T → Kind) (IsDataOf : T → History Op → VersionVector → IdentitySet → Type 0) (IsDeltaOf : Delta → History Op → ℕ → ℕ → ℕ → Type 0) (kinds : Text → Kind) (logs : Text → History Op) (id : ℕ) (old new : Text → model.Entry Op) (flushed : Text → VersionVector) where
  -- an envelope that counts as many own records
  own_kept : (one two : Envelope T Kind Op Delta) (log : History Op) (before after : model.Entry Op) → performed_in (parts_of one).marks id ≡ false → KeepsOwn kind_of id one two → StandsFor IsDataOf (parts_of one) log before → StandsFor IsDataOf (parts_of two) log after
      → at after.history id ≡ at before.history id
  own_kept one two log before after unpruned kept s t =
      sym (t.holds.numbers id ∙ uncleaned (performed_in (parts_of two).marks) (versions after.history) id (kept.unpruned unpruned)) ∙ kept.own unpruned
      ∙ s.holds.numbers id ∙ uncleaned (performed_in (parts_of one).marks) (versions before.history) id unpruned

  -- what is held of a key after the change
  pub stands_after : (state : KeyState T Kind Op Delta) (change : Option (Change T Kind Op Delta)) → performed_in (parts_of state.entry).marks id ≡ false → IsLogged kind_of id state → IsKept kind_of id state change → LeadsTo IsDataOf logs old new state change
      → StandsForKey kind_of IsDataOf IsDeltaOf kinds logs state (old state.name) (flushed state.name) → StandsForKey kind_of IsDataOf IsDeltaOf kinds logs (changed state change) (new state.name) (flushed state.name)
  stands_after state None unpruned own kept leads s = subst (λ (e : model.Entry Op). StandsForKey kind_of IsDataOf IsDeltaOf kinds logs state e (flushed state.name)) (sym leads) s
  stands_after state (Some (Entry entry)) unpruned own kept leads s = record {
    kind = s.kind;
    held = record { kind = kept.kind ∙ s.held.kind; image = leads.1 };
    logged = log_kept IsDeltaOf state.log (logs state.name) (old state.name) (new state.name) leads.1.taken
        (subst (λ i. at (new state.name).history i ≡ at (old state.name).history i) (sym own.origin) (own_kept state.entry entry (logs state.name) (old state.name) (new state.name) unpruned kept leads.0 leads.1)) s.logged;
    sent = s.sent;
  }
  stands_after state (Some (Flushed sent)) unpruned own kept leads s = absurd leads

  -- a key without another entry has the same in the model
  pub still_led : (state : KeyState T Kind Op Delta) (change : Option (Change T Kind Op Delta)) → LeadsTo IsDataOf logs old new state change → new_entry change ≡ None → new state.name ≡ old state.name
  still_led state None leads none = leads
  still_led state (Some (Entry entry)) leads none = absurd (cc none)
  still_led state (Some (Flushed sent)) leads none = absurd leads

-- THE STEP

-- a message of no operation
pub exchanges : {T Kind Op Delta : Type 0} {ghosts : Ghosts T Kind Op Delta} (message : Message T Kind Op Delta ghosts) → ((op : ℕ) (key : Text) (envelope : Envelope T Kind Op Delta) → message ≡ Write op key envelope → ⊥) → ((op : ℕ) → message ≡ WriteAck op → ⊥)
    → ((op : ℕ) → message ≡ WriteNack op → ⊥) → ((op : ℕ) (key : Text) → message ≡ Read op key → ⊥) → ((op : ℕ) (key : Text) (envelope : Option (Envelope T Kind Op Delta)) → message ≡ ReadAnswer op key envelope → ⊥) → is_exchange message ≡ true
exchanges (Write op key envelope) write ack nack read answer = absurd (write op key envelope refl)
exchanges (WriteAck op) write ack nack read answer = absurd (ack op refl)
exchanges (WriteNack op) write ack nack read answer = absurd (nack op refl)
exchanges (Read op key) write ack nack read answer = absurd (read op key refl)
exchanges (ReadAnswer op key envelope) write ack nack read answer = absurd (answer op key envelope refl)
exchanges message write ack nack read answer = refl

-- a member's message is taken
pub step_taken : {Kind Op : Type 0} (D : Replication Kind Op Shown) (node : nodes.Node Kind Op Shown) (from : ℕ) (sent : nodes.Input Op) (told : Sent Op) → sent ≡ nodes.Input.Take from told → is_member node.view from ≡ true
    → step D node sent Fate.NoStore ≡ step_of_take D (one_step_later node) from Fate.NoStore told
step_taken D node from sent told is member =
    ap (λ input. step D node input Fate.NoStore) is
    ∙ ap (λ b. if b then step_of_take D (one_step_later node) from Fate.NoStore told else answered (one_step_later node) NotFromMember) member

module _ {T K Kind Op Delta : Type 0} {ghosts : Ghosts T Kind Op Delta} {keeping : Keeping K} (kinds : Text → Kind) (logs : Text → History Op)
    (code : Node T K Kind Op Delta ghosts keeping) (node : nodes.Node Kind Op Shown) (s : StandsForNode ghosts.kind_of ghosts.IsDataOf kinds logs code node) where
  -- these keys are those of a member of the model, one step later
  pub held_later : (keys : List (KeyState T Kind Op Delta)) (view : ℕ) → keys ≡ code.keys.items → view ≡ code.view.number → AreHeldBy ghosts.kind_of ghosts.IsDataOf kinds logs code.id keys view (one_step_later node)
  held_later keys view same viewed =
      subst (λ (keys : List (KeyState T Kind Op Delta)). AreHeldBy ghosts.kind_of ghosts.IsDataOf kinds logs code.id keys view (one_step_later node)) (sym same) (record {
        of_kinds = code.of_kinds;
        held = held_first ghosts.kind_of ghosts.IsDataOf kinds logs code node s;
        identity = s.identity;
        viewed = ap (λ v. v.number) s.view ∙ sym viewed;
        declares = s.keys;
      })

module _ {T K Kind Op Delta : Type 0} {ghosts : Ghosts T Kind Op Delta} {keeping : Keeping K} (code : Node T K Kind Op Delta ghosts keeping) (changes : List (Option (Change T Kind Op Delta))) (kept : AreMade (IsKept ghosts.kind_of code.id) code.keys.items changes) where
  -- what was taken can be carried out
  pub sound_taken : IsSoundPlan ghosts code.id code.steps code.keys.items (Each changes)
  sound_taken = sound_each ghosts code.id code.steps code.keys.items (owned code) (IsKept ghosts.kind_of code.id) (kept_changed ghosts.kind_of code.id) changes kept

  -- and leads to what it leads to in the model
  module _ (kinds : Text → Kind) (logs : Text → History Op) (node : nodes.Node Kind Op Shown) (s : StandsForNode ghosts.kind_of ghosts.IsDataOf kinds logs code node) where
    pub leads_taken : (next : nodes.Node Kind Op Shown) → AreMade (LeadsTo ghosts.IsDataOf logs node.entries next.entries) code.keys.items changes → next.flushed ≡ node.flushed → LeadsOn ghosts kinds logs code.keys.items node next (Each changes)
    leads_taken next leads flushed = leads_each ghosts kinds logs code.keys.items node next s.entries changes
        (λ k d within here.
        subst (λ (f : Text → VersionVector). StandsForKey ghosts.kind_of ghosts.IsDataOf ghosts.IsDeltaOf kinds logs (changed (get_or code.keys.items k d) (get_or changes k None)) (next.entries (get_or code.keys.items k d).name) (f (get_or code.keys.items k d).name)) (sym flushed)
        (stands_after ghosts.kind_of ghosts.IsDataOf ghosts.IsDeltaOf kinds logs code.id node.entries next.entries node.flushed (get_or code.keys.items k d) (get_or changes k None) (code.unpruned k d within) (code.logged k d within) (kept.made k d None within) (leads.made k d None within) here))
        (λ k d within none. still_led ghosts.kind_of ghosts.IsDataOf ghosts.IsDeltaOf kinds logs code.id node.entries next.entries node.flushed (get_or code.keys.items k d) (get_or changes k None) (leads.made k d None within) none)

    -- a step that makes these entries, and it may be other operations
    pub prepared_taken : (after : nodes.Node Kind Op Shown) → after ≡ record (one_step_later node) { entries = after.entries } → AreMade (LeadsTo ghosts.IsDataOf logs node.entries after.entries) code.keys.items changes
        → (next : nodes.Stepped Kind Op Shown) → next.node ≡ record after { open_operations = next.node.open_operations; finished = next.node.finished }
        → (prepared : Prepared T Kind Op Delta ghosts) → prepared.view ≡ None → prepared.plan ≡ Each changes → StandForOperations (changed_operations (known code.operations) prepared.operations) next.node
        → StandsForOutput kinds logs prepared.output next.output → IsPrepared {ghosts = ghosts} kinds logs code.keys.items (known code.operations) node next prepared
    prepared_taken after only leads next is prepared none plan operates answers = record {
      identity = ap (λ n. n.identity) is ∙ ap (λ n. n.identity) only;
      declared = ap (λ n. n.keys) is ∙ ap (λ n. n.keys) only;
      counted = ap (λ n. n.steps) is ∙ ap (λ n. n.steps) only;
      viewed = ap (λ n. n.view) is ∙ ap (λ n. n.view) only ∙ sym (ap (λ o. unwrap_or o node.view) none);
      leads_on = subst (LeadsOn ghosts kinds logs code.keys.items node next.node) (sym plan)
          (leads_taken next.node (subst (λ entries. AreMade (LeadsTo ghosts.IsDataOf logs node.entries entries) code.keys.items changes) (sym (ap (λ n. n.entries) is)) leads) (ap (λ n. n.flushed) is ∙ ap (λ n. n.flushed) only));
      operates = operates;
      answers = answers;
    }

-- A WRITE AND AN ANSWER

-- nothing that is brought changes nothing
nothing_brought : {Kind Op : Type 0} (D : Replication Kind Op Shown) (node : nodes.Node Kind Op Shown) (from : ℕ) → step_of_take D node from Fate.NoStore (Sent.Deltas [] []) ≡ answered node Already
nothing_brought {Kind} D node from =
    ap (λ b. answered node (if not b then Already else Taken)) (is_changed-any node node ∙ list_any_none (λ (decl : nodes.KeyDecl Kind). not (is_unchanged (node.entries decl.name) (node.entries decl.name))) node.keys
    (λ k d within. ap not (is_unchanged-same (node.entries (get_or node.keys k d).name))))

-- whether there is one, however it is told
is_some-map : {X Y Z : Type 0} (f : X → Y) (g : Y → Z) (o : Option X) → is_some (option_map g (option_map f o)) ≡ is_some o
is_some-map f g None = refl
is_some-map f g (Some x) = refl

-- an entry of a key that isn't declared is passed over
module _ {T Kind Op Delta : Type 0} (ghosts : Ghosts T Kind Op Delta) (keys : List (KeyState T Kind Op Delta)) (keyed : Keyed (Envelope T Kind Op Delta)) where
  pub passed_none : find (λ (state : KeyState T Kind Op Delta). bytes_eq state.name keyed.key) keys ≡ None → IsEntryPassedOver ghosts keys keyed
  passed_none none k d within same = absurd (undeclared_names keyed.key keys none k (slice_get-map (λ (state : KeyState T Kind Op Delta). state.name) keys k d within ∙ ap Some same))

  -- so the key of one that isn't is declared
  known_found : (IsEntryPassedOver ghosts keys keyed → ⊥) → is_some (find (λ (state : KeyState T Kind Op Delta). bytes_eq state.name keyed.key) keys) ≡ true
  known_found known = go (find (λ (state : KeyState T Kind Op Delta). bytes_eq state.name keyed.key) keys) (λ none. known (passed_none none))
    where
      go : (o : Option (KeyState T Kind Op Delta)) → (o ≡ None → ⊥) → is_some o ≡ true
      go None some = absurd (some refl)
      go (Some state) some = refl

module _ {T Kind Op Delta : Type 0} (ghosts : Ghosts T Kind Op Delta) (kinds : Text → Kind) where
  -- an entry of the key's kind is passed over where no such key is declared
  none_named : (keys : List (KeyState T Kind Op Delta)) (keyed : Keyed (Envelope T Kind Op Delta)) → ghosts.kind_of keyed.item.value ≡ kinds keyed.key → HaveKinds kinds keys → IsEntryPassedOver ghosts keys keyed
      → find (λ (state : KeyState T Kind Op Delta). bytes_eq state.name keyed.key) keys ≡ None
  none_named [] keyed kind of_kinds passed = refl
  none_named (state ∷ keys) keyed kind of_kinds passed =
      ap (λ b. cond b (Some state) (find (λ (state : KeyState T Kind Op Delta). bytes_eq state.name keyed.key) keys))
      (apart state.name keyed.key (λ same. passed 0 state (omega arith) same (sym (of_kinds 0 state (omega arith)) ∙ ap kinds same ∙ sym kind)))
      ∙ none_named keys keyed kind (λ k d within. of_kinds (suc k) d (omega arith)) (λ k d within. passed (suc k) d (omega arith))

  module _ (logs : Text → History Op) (keys : List (KeyState T Kind Op Delta)) (node : nodes.Node Kind Op Shown) (declares : node.keys ≡ map declared_by keys) (from op : ℕ) (key : Text) (envelope : Envelope T Kind Op Delta) (message : Sent Op)
      (w : TellsWrite ghosts kinds logs keys op key envelope message) where
    abbrev keyed : Keyed (Envelope T Kind Op Delta)
    keyed = record { key = key; item = envelope }

    -- a write of an entry that isn't passed over is of a key that the model's member has
    has_state : (IsEntryPassedOver ghosts keys keyed → ⊥) → is_some (key_state node key) ≡ true
    has_state known =
        ap (λ o. is_some (option_map (state_of node) o)) (ap (find (λ (decl : nodes.KeyDecl Kind). bytes_eq decl.name key)) declares ∙ find-map (λ (decl : nodes.KeyDecl Kind). bytes_eq decl.name key) declared_by keys)
        ∙ is_some-map declared_by (state_of node) (find (λ (state : KeyState T Kind Op Delta). bytes_eq state.name key) keys) ∙ known_found ghosts keys keyed known

    -- the entry that a write brings is taken as it is told, unless it is passed over
    pub written_taken : (D : Replication Kind Op Shown) → (IsEntryPassedOver ghosts keys keyed → ⊥)
        → step_of_take D node from Fate.NoStore message ≡ took D node (after_entries node w.told_entries) Fate.NoStore [] (answer_to D from (Sent.WriteAck op))
    written_taken D known =
        elim (tells_one (StandsForKeyed ghosts.kind_of ghosts.IsDataOf kinds logs) (IsEntryPassedOver ghosts keys) keyed w.told_entries w.entries_stand) [
          | one_told y is s ↦
              ap (step_of_take D node from Fate.NoStore) (w.is ∙ ap (write_told op) is)
              ∙ ap (λ b. took D node (after_entries node (y ∷ [])) Fate.NoStore [] (if b then answer_to D from (Sent.WriteAck op) else [])) (ap (λ name. is_some (key_state node name)) s.same ∙ has_state known)
              ∙ sym (ap (λ es. took D node (after_entries node es) Fate.NoStore [] (answer_to D from (Sent.WriteAck op))) is)
          | one_passed is passed ↦ absurd (known passed)
        ]

    -- where it is passed over, nothing is brought, or an entry of a key that the model's member doesn't have either: it takes nothing, and answers nobody
    pub written_none : (D : Replication Kind Op Shown) → HaveKinds kinds keys → IsEntryPassedOver ghosts keys keyed → step_of_take D node from Fate.NoStore message ≡ answered node Already
    written_none D of_kinds passed =
        elim (tells_one (StandsForKeyed ghosts.kind_of ghosts.IsDataOf kinds logs) (IsEntryPassedOver ghosts keys) keyed w.told_entries w.entries_stand) [
          | one_told y is s ↦
              let none = undeclared_in node keys y.key declares (ap (λ name. find (λ (state : KeyState T Kind Op Delta). bytes_eq state.name name) keys) s.same ∙ none_named keys keyed s.held.kind of_kinds passed) in
              ap (step_of_take D node from Fate.NoStore) (w.is ∙ ap (write_told op) is)
              ∙ ap (λ o. took D node (with_taken_entry node (option_map (state_of node) o) y.item) Fate.NoStore [] (if is_some (option_map (state_of node) o) then answer_to D from (Sent.WriteAck op) else [])) none
              ∙ nothing_brought D node from
          | one_passed is passed ↦ ap (step_of_take D node from Fate.NoStore) (w.is ∙ ap (write_told op) is) ∙ nothing_brought D node from
        ]

-- an entry under its key, by the words of both
pub keyed_same : {Kind Op : Type 0} (D : Replication Kind Op Shown) (key : Text) (entry : Option (model.Entry Op)) → keyed_option D key entry ≡ keyed_entry_of key entry
keyed_same D key None = refl
keyed_same D key (Some entry) = refl

-- counting an answer changes no entry
either : {A : Type 0} (P : A → Type 0) (b : Bool) (x y : A) → P x → P y → P (if b then x else y)
either P true x y p q = p
either P false x y p q = q

counted_by : {Kind Op : Type 0} (D : Replication Kind Op Shown) (stepped : nodes.Stepped Kind Op Shown) (from : ℕ) (o : Option OpenOperation) → (counted_for D stepped from o).node.entries ≡ stepped.node.entries
counted_by D stepped from None = refl
counted_by D stepped from (Some operation) = either (λ (st : nodes.Stepped _ _ _). st.node.entries ≡ stepped.node.entries) (nat_le operation.needed (length (members_of (with_answer from operation).counted))) _ _ refl refl

pub counted_entries : {Kind Op : Type 0} (D : Replication Kind Op Shown) (stepped : nodes.Stepped Kind Op Shown) (from : ℕ) (test : OpenOperation → Bool) → (counted D stepped from test).node.entries ≡ stepped.node.entries
counted_entries D stepped from test = counted_by D stepped from (find test stepped.node.open_operations)

-- STEPS OF GOSSIP

module _ {Kind Op : Type 0} (D : Replication Kind Op Shown) (node : nodes.Node Kind Op Shown) (to : ℕ) (fate : Fate) where
  pub step-gossip-no_peer : ((to == node.identity) || not (is_member node.view to)) ≡ true → step D node (Input.GossipTo to) fate ≡ answered (one_step_later node) NotAPeer
  step-gossip-no_peer test = ap (λ b. if b then answered (one_step_later node) NotAPeer else sent (one_step_later node) Done (answer_to D to (status_of D (one_step_later node)))) test

  pub step-gossip-peer : ((to == node.identity) || not (is_member node.view to)) ≡ false → step D node (Input.GossipTo to) fate ≡ sent (one_step_later node) Done (answer_to D to (status_of D (one_step_later node)))
  step-gossip-peer test = ap (λ b. if b then answered (one_step_later node) NotAPeer else sent (one_step_later node) Done (answer_to D to (status_of D (one_step_later node)))) test

-- MEMBERS

neither : (a b p : Bool) → p ≡ (not a && b) → (a || not b) ≡ not p
neither a b p is = go a b ∙ sym (ap not is)
  where
    go : (a b : Bool) → (a || not b) ≡ not (not a && b)
    go true b = refl
    go false b = refl

module _ {T K Kind Op Delta : Type 0} {ghosts : Ghosts T Kind Op Delta} {keeping : Keeping K} (kind_of : T → Kind) (IsDataOf : T → History Op → VersionVector → IdentitySet → Type 0) (kinds : Text → Kind) (logs : Text → History Op)
    (code : Node T K Kind Op Delta ghosts keeping) (node : nodes.Node Kind Op Shown) (s : StandsForNode kind_of IsDataOf kinds logs code node) where
  -- who is no peer
  pub no_peer_is : (to : ℕ) (p q : Bool) → p ≡ (not (to == code.id) && is_member code.view to) → p ≡ q → ((to == node.identity) || not (is_member node.view to)) ≡ not q
  no_peer_is to p q is same =
      (λ i. (to == s.identity i) || not (member_is kind_of IsDataOf kinds logs code node s to i)) ∙ neither (to == code.id) (is_member code.view to) p is ∙ ap not same

  pub holds_first : All (HoldsKey kind_of IsDataOf kinds logs (one_step_later node)) code.keys.items
  holds_first = λ k d within. record { kind = (s.entries k d within).kind; held = (s.entries k d within).held }

module _ {T Kind Op Delta : Type 0} (kind_of : T → Kind) (IsDataOf : T → History Op → VersionVector → IdentitySet → Type 0) (kinds : Text → Kind) (logs : Text → History Op) (id : ℕ) (keys : List (KeyState T Kind Op Delta)) (node : nodes.Node Kind Op Shown) where
  pub holds_held : AreHeld kind_of IsDataOf kinds logs id keys node.entries → All (HoldsKey kind_of IsDataOf kinds logs node) keys
  holds_held held = λ k d within. record { kind = held.of_kinds k d within; held = held.held k d within }

-- MESSAGES

pub no_status : {T Kind Op Delta : Type 0} {ghosts : Ghosts T Kind Op Delta} (message : Message T Kind Op Delta ghosts) → ((digests : List (Keyed (List ℕ))) → message ≡ Status digests → ⊥) → is_status message ≡ false
no_status (Status digests) other = absurd (other digests refl)
no_status message other = refl
