-- A step that was prepared and carried out is one of the model, and what it stores.
-- What a step has to store, key by key.
-- Replies that open an operation, and those of failed stores.
-- A step that was prepared and carried out is one of the model.
use Rattle.std.proofs.Common.{◌≡◌, ℕ, zero, suc, ◌+◌, ◌-◌, ◌<◌, ◌≤◌, take, take_all, Option, None, List, [], ◌∷◌, ◌++◌, length, get_or, refl, sym, ap, ◌∙◌, subst, arith, append_assoc, Bool, true, false, not, append-nil, map, filter, All, ◌&&◌, if◌then◌else◌, ◌≢◌, Some, unwrap_or}
use Rattle.std.proofs.lemmas.List.{map-append, take_more}
use Rattle.std.proofs.lemmas.List.Elements.{All-append}
use Rattle.member_node.proofs.Common.{known, Text, History, VersionVector, IsTakenFrom, is_unchanged, is_unchanged-same, Envelope, StandsAfter, state_of, Stepped, step, Shown, Ghosts, Keeping, StandsForMessage, StandsForPosts, KeyState, declared_by, AreSpelled, Reply, meant, is_pending, Node, Prepared, Put, StandsForKey, StandsForNode, replication, StandsForOutput, IsStepOf, IsPrepared, IsSoundFor, Prepares, changed_operations, StandForOperations}
use Rattle.model_history.specs.History.{IsExactlyPruned}
use Rattle.model_members.specs.Entry as model
use Rattle.model_members.specs.Entry.{Entry}
use Rattle.model_members.specs.Node as nodes
use Rattle.model_members.specs.Step.{to_store}
use Rattle.model_members.specs.Message as sending
use Rattle.model_members.specs.Message.{Message as Sent}
use Rattle.model_members.specs.World.{FitsFate}
use Rattle.data_lattice.specs.declared.spelled.SpelledData.{Ghosts as Spelling}
use Rattle.member_keeper.specs.declared.stored.Stored.{Stored as Kept}
use Rattle.member_keeper.specs.Calls.{Becomes}
use Rattle.member_keeper.specs.Tables.{put_all}
use Rattle.member_messages.specs.declared.message.Message.{Message as Code}
use Rattle.member_messages.specs.declared.message.Message.TheVariants as message
use Rattle.member_messages.specs.declared.message.Post.{Post}
use Rattle.member_node.specs.Stores.{spelled_entry, IsKept}
use Rattle.member_node.specs.Storing.{holding, stored_of}
use Rattle.member_node.specs.Planning.{Lead}
use Rattle.member_node.specs.declared.reply.Reply.TheVariants as reply
use Rattle.member_node.specs.Replies.{meant_fate}
use Rattle.member_node.specs.Outputs.{failed as failed_code, refused as refused_code, refused_post as refused_post_code, failed_output, after_fate}
use Rattle.member_node.specs.declared.input.Input.{Input}
use Rattle.member_node.specs.declared.operations.NextOperation.{NextOperation}
use Rattle.member_node.specs.declared.operations.OperationChange.{OperationChange}
use Rattle.member_node.specs.declared.operations.OperationChange.TheVariants.{Same, Opened}
use Rattle.member_node.specs.declared.reply.Fate.{Fate}
use Rattle.member_node.specs.declared.reply.Fate.TheVariants.{NoStore, Stored, StoreFailed}
use Rattle.member_node.specs.Members.{IsSafe}
use Rattle.member_node.specs.Steps.{IsCalled, IsKeptBy, KeepsTable, IsImage}
use Rattle.member_node.specs.Operations.{after_store, finished_at, opens_one}
use Rattle.member_node.specs.Carrying.{IsCarried}
use Rattle.member_node.proofs.Lists.{one_more}
use Rattle.member_node.proofs.Fates.{opens, failed_reply, refused, refused_post, unopened, unstored, failed, same_stored, same_failed, entries_same}
use Rattle.member_node.proofs.Standing.{becomes_same}
use Rattle.member_node.proofs.Operating.{finished-pushed}

-- WHAT IS STORED

module _ {T Kind Op Delta : Type 0} (state : KeyState T Kind Op Delta) (old new : model.Entry Op) where
  -- a key that isn't durable
  pub stored_not : state.durable ≡ false → stored_of state old new ≡ []
  stored_not e = ap (λ b. if b && not (is_unchanged old new) then holding state new ∷ [] else []) e

  -- an entry that stays
  pub stored_same : is_unchanged old new ≡ true → stored_of state old new ≡ []
  stored_same e = ap (λ b. if state.durable && not b then holding state new ∷ [] else []) e ∙ go state.durable
    where
      go : (b : Bool) → (if b && false then holding state new ∷ [] else []) ≡ []
      go true = refl
      go false = refl

  -- a durable key whose entry is another
  pub stored_one : state.durable ≡ true → is_unchanged old new ≡ false → stored_of state old new ≡ holding state new ∷ []
  stored_one d u = λ i. if d i && not (u i) then holding state new ∷ [] else []

  -- what holds of a key that is stored
  pub stored_all : (P : nodes.KeyState Kind Op → Type 0) → ((k : ℕ) → k < length (stored_of state old new) → P (holding state new)) → All P (stored_of state old new)
  stored_all P each = go (state.durable && not (is_unchanged old new)) each
    where
      go : (b : Bool) → ((k : ℕ) → k < length (if b then holding state new ∷ [] else []) → P (holding state new)) → All P (if b then holding state new ∷ [] else [])
      go true each zero d within = each 0 within
      go true each (suc k) d within = absurd (omega arith)
      go false each k d within = absurd (omega arith)

module _ {T Kind Op Delta : Type 0} (old next : nodes.Node Kind Op Shown) where
  -- of these keys
  abbrev pub put_of : List (KeyState T Kind Op Delta) → List (nodes.KeyState Kind Op)
  put_of ks = filter (λ (k : nodes.KeyState Kind Op). k.durable) (filter (λ (k : nodes.KeyState Kind Op). not (is_unchanged (old.entries k.name) k.entry)) (map (state_of next) (map declared_by ks)))

  abbrev of_key : KeyState T Kind Op Delta → List (nodes.KeyState Kind Op)
  of_key x = stored_of x (old.entries x.name) (next.entries x.name)

  put_cons : (x : KeyState T Kind Op Delta) (ks : List (KeyState T Kind Op Delta)) → put_of (x ∷ ks) ≡ of_key x ++ put_of ks
  put_cons x ks = by (is_unchanged (old.entries x.name) (next.entries x.name)) x.durable refl refl
    where
      rest : List (nodes.KeyState Kind Op)
      rest = filter (λ (k : nodes.KeyState Kind Op). not (is_unchanged (old.entries k.name) k.entry)) (map (state_of next) (map declared_by ks))

      by : (u d : Bool) → is_unchanged (old.entries x.name) (next.entries x.name) ≡ u → x.durable ≡ d → put_of (x ∷ ks) ≡ of_key x ++ put_of ks
      by true d e f =
          ap (λ b. filter (λ (k : nodes.KeyState Kind Op). k.durable) (if not b then holding x (next.entries x.name) ∷ filter (λ (k : nodes.KeyState Kind Op). not (is_unchanged (old.entries k.name) k.entry)) (map (state_of next) (map declared_by ks)) else filter (λ (k : nodes.KeyState Kind Op). not (is_unchanged (old.entries k.name) k.entry)) (map (state_of next) (map declared_by ks)))) e
          ∙ sym (ap (λ l. l ++ put_of ks) (stored_same x (old.entries x.name) (next.entries x.name) e))
      by false d e f =
          ap (λ b. filter (λ (k : nodes.KeyState Kind Op). k.durable) (if not b then holding x (next.entries x.name) ∷ filter (λ (k : nodes.KeyState Kind Op). not (is_unchanged (old.entries k.name) k.entry)) (map (state_of next) (map declared_by ks)) else filter (λ (k : nodes.KeyState Kind Op). not (is_unchanged (old.entries k.name) k.entry)) (map (state_of next) (map declared_by ks)))) e
          ∙ kept d f
        where
          kept : (d : Bool) → x.durable ≡ d → (if x.durable then holding x (next.entries x.name) ∷ put_of ks else put_of ks) ≡ of_key x ++ put_of ks
          kept true f = ap (λ b. if b then holding x (next.entries x.name) ∷ put_of ks else put_of ks) f ∙ sym (ap (λ l. l ++ put_of ks) (stored_one x (old.entries x.name) (next.entries x.name) f e))
          kept false f = ap (λ b. if b then holding x (next.entries x.name) ∷ put_of ks else put_of ks) f ∙ sym (ap (λ l. l ++ put_of ks) (stored_not x (old.entries x.name) (next.entries x.name) f))

  -- one key more
  pub put_more : (ks : List (KeyState T Kind Op Delta)) (x : KeyState T Kind Op Delta) → put_of (ks ++ x ∷ []) ≡ put_of ks ++ of_key x
  put_more [] x = put_cons x [] ∙ append-nil (of_key x)
  put_more (k ∷ ks) x =
      put_cons k (ks ++ x ∷ []) ∙ ap (λ l. of_key k ++ l) (put_more ks x) ∙ sym (append_assoc (of_key k) (put_of ks) (of_key x)) ∙ ap (λ l. l ++ of_key x) (sym (put_cons k ks))

  -- where those between two places have not to be stored
  put_further : (ks : List (KeyState T Kind Op Delta)) (from j : ℕ) → from + j ≤ length ks → ((k : ℕ) (d : KeyState T Kind Op Delta) → from ≤ k → k < from + j → of_key (get_or ks k d) ≡ []) → put_of (take (from + j) ks) ≡ put_of (take from ks)
  put_further ks from zero few none = ap (λ n. put_of (take n ks)) (let same : from + 0 ≡ from = omega arith in same)
  put_further [] from (suc j) few none = absurd (omega arith)
  put_further (x ∷ ks) from (suc j) few none =
      let i = from + j in
      let next_place : from + suc j ≡ i + 1 = omega arith in
      let at = get_or (x ∷ ks) i x in
      ap (λ n. put_of (take n (x ∷ ks))) next_place ∙ ap put_of (take_more (x ∷ ks) i x (omega arith)) ∙ put_more (take i (x ∷ ks)) at
      ∙ ap (λ l. put_of (take i (x ∷ ks)) ++ l) (none i x (omega arith) (omega arith)) ∙ append-nil (put_of (take i (x ∷ ks)))
      ∙ put_further (x ∷ ks) from j (omega arith) (λ k d past below. none k d past (omega arith))

  pub put_still : (ks : List (KeyState T Kind Op Delta)) (from to : ℕ) → from ≤ to → to ≤ length ks → ((k : ℕ) (d : KeyState T Kind Op Delta) → from ≤ k → k < to → of_key (get_or ks k d) ≡ []) → put_of (take to ks) ≡ put_of (take from ks)
  put_still ks from to up few none =
      let place : from + (to - from) ≡ to = omega arith in
      ap (λ n. put_of (take n ks)) (sym place) ∙ put_further ks from (to - from) (omega arith) (λ k d past below. none k d past (omega arith))

  -- where no key has to be stored
  pub put_none : (ks : List (KeyState T Kind Op Delta)) → ((k : ℕ) (d : KeyState T Kind Op Delta) → k < length ks → stored_of (get_or ks k d) (old.entries (get_or ks k d).name) (next.entries (get_or ks k d).name) ≡ []) → put_of ks ≡ []
  put_none [] none = refl
  put_none (x ∷ ks) none = put_cons x ks ∙ ap (λ l. l ++ put_of ks) (none zero x (omega arith)) ∙ put_none ks (λ k d within. none (suc k) d (omega arith))

  -- what a step has to store is that of all its keys
  pub put_all_keys : (ks : List (KeyState T Kind Op Delta)) → next.keys ≡ map declared_by ks → put_of ks ≡ to_store old next
  put_all_keys ks same = ap (λ (decls : List (nodes.KeyDecl Kind)). filter (λ (k : nodes.KeyState Kind Op). k.durable) (filter (λ (k : nodes.KeyState Kind Op). not (is_unchanged (old.entries k.name) k.entry)) (map (state_of next) decls))) (sym same)

-- the spellings, one key more
module _ {T Kind Op Delta : Type 0} (ghosts : Ghosts T Kind Op Delta) (spelling : Spelling T Kind Op Delta) (logs : Text → History Op) (old next : nodes.Node Kind Op Shown) (keys : List (KeyState T Kind Op Delta)) (i : ℕ) (x : KeyState T Kind Op Delta)
    (within : i < length keys) (is : x ≡ get_or keys i x) (stores after : List Kept) (so_far : AreSpelled ghosts spelling logs stores (put_of old next (take i keys))) where
  abbrev here : List (nodes.KeyState Kind Op)
  here = stored_of x (old.entries x.name) (next.entries x.name)

  grown : put_of old next (take (i + 1) keys) ≡ put_of old next (take i keys) ++ here
  grown = ap (put_of old next) (one_more keys i x within is) ∙ put_more old next (take i keys) x

  pub spelled_more : after ≡ stores ++ map (spelled_entry spelling) here → ((k : ℕ) → k < length here → IsKept ghosts spelling x.kind (logs x.name) (next.entries x.name)) → AreSpelled ghosts spelling logs after (put_of old next (take (i + 1) keys))
  spelled_more added kept = record {
    these = added ∙ ap (λ l. l ++ map (spelled_entry spelling) here) so_far.these ∙ sym (map-append (spelled_entry spelling) (put_of old next (take i keys)) here) ∙ sym (ap (map (spelled_entry spelling)) grown);
    kept = subst (All (λ (k : nodes.KeyState Kind Op). IsKept ghosts spelling k.kind (logs k.name) k.entry)) (sym grown)
        (All-append (λ (k : nodes.KeyState Kind Op). IsKept ghosts spelling k.kind (logs k.name) k.entry) (put_of old next (take i keys)) here so_far.kept
        (stored_all x (old.entries x.name) (next.entries x.name) (λ (k : nodes.KeyState Kind Op). IsKept ghosts spelling k.kind (logs k.name) k.entry) kept));
  }

  -- the same, where its entry stays
  pub spelled_still : is_unchanged (old.entries x.name) (next.entries x.name) ≡ true → after ≡ stores → AreSpelled ghosts spelling logs after (put_of old next (take (i + 1) keys))
  spelled_still unchanged same =
      let none = stored_same x (old.entries x.name) (next.entries x.name) unchanged in
      spelled_more (same ∙ sym (ap (λ ks. stores ++ map (spelled_entry spelling) ks) none ∙ append-nil stores)) (λ k below. absurd (let l = ap length none in omega arith))

-- where the new entries lead from one member of the model to another
module _ {T Kind Op Delta : Type 0} (ghosts : Ghosts T Kind Op Delta) (spelling : Spelling T Kind Op Delta) (logs : Text → History Op) (old next : nodes.Node Kind Op Shown) (keys : List (KeyState T Kind Op Delta)) (entry_of : ℕ → Option (Envelope T Kind Op Delta))
    (lead : Lead ghosts.IsDataOf logs keys old.entries next.entries entry_of) where
  -- a key without a new entry stays
  pub entry_still : (k : ℕ) (d : KeyState T Kind Op Delta) → k < length keys → entry_of k ≡ None → is_unchanged (old.entries (get_or keys k d).name) (next.entries (get_or keys k d).name) ≡ true
  entry_still k d within none =
      let led : next.entries (get_or keys k d).name ≡ old.entries (get_or keys k d).name =
      subst (λ o. StandsAfter ghosts.IsDataOf (logs (get_or keys k d).name) o (old.entries (get_or keys k d).name) (next.entries (get_or keys k d).name)) none (lead k d within) in
      ap (is_unchanged (old.entries (get_or keys k d).name)) led ∙ is_unchanged-same (old.entries (get_or keys k d).name)

  -- so are those up to a later place
  pub spelled_past : (stores : List Kept) (from to : ℕ) → from ≤ to → to ≤ length keys → ((k : ℕ) → from ≤ k → k < to → entry_of k ≡ None) → AreSpelled ghosts spelling logs stores (put_of old next (take from keys)) → AreSpelled ghosts spelling logs stores (put_of old next (take to keys))
  spelled_past stores from to up few none so_far =
      subst (AreSpelled ghosts spelling logs stores) (sym (put_still old next keys from to up few
      (λ k d past below. stored_same (get_or keys k d) (old.entries (get_or keys k d).name) (next.entries (get_or keys k d).name) (entry_still k d (omega arith) (none k past below))))) so_far

  -- and all others
  pub spelled_all : (stores : List Kept) (from : ℕ) → from ≤ length keys → ((k : ℕ) → from ≤ k → k < length keys → entry_of k ≡ None) → next.keys ≡ map declared_by keys → AreSpelled ghosts spelling logs stores (put_of old next (take from keys)) → AreSpelled ghosts spelling logs stores (to_store old next)
  spelled_all stores from few none same so_far =
      subst (AreSpelled ghosts spelling logs stores) (ap (put_of old next) (take_all (length keys) keys (omega arith)) ∙ put_all_keys old next keys same) (spelled_past stores from (length keys) few (omega arith) none so_far)

-- REPLIES

-- what is replied where the store failed
pub failed_meant : (r : Reply) → meant (failed_code r) ≡ failed_reply (meant r)
failed_meant reply.Done = refl
failed_meant _ = refl

-- a reply opens an operation in both
pub opens_meant : (r : Reply) → opens (meant r) ≡ is_pending r
opens_meant reply.Done = refl
opens_meant _ = refl

-- THE STEP

-- after a failed store, messages stand for the model's as before
module _ {T Kind Op Delta : Type 0} {ghosts : Ghosts T Kind Op Delta} (kinds : Text → Kind) (logs : Text → History Op) where
  refused_stands : (m : Code T Kind Op Delta ghosts) (told : Sent Op) → StandsForMessage ghosts.kind_of ghosts.IsDataOf kinds logs m told → StandsForMessage ghosts.kind_of ghosts.IsDataOf kinds logs (refused_code m) (refused told)
  refused_stands (message.Deltas groups entries) told s = record { sent_groups = s.sent_groups; sent_entries = s.sent_entries; is = ap refused s.is; groups_stand = s.groups_stand; entries_stand = s.entries_stand }
  refused_stands (message.Gossip entries wants) told s = record { sent_entries = s.sent_entries; is = ap refused s.is; entries_stand = s.entries_stand }
  refused_stands (message.Write op key envelope) told s = record { entry = s.entry; is = ap refused s.is; held = s.held }
  refused_stands (message.ReadAnswer op key (Some envelope)) told s = record { entry = s.entry; is = ap refused s.is; held = s.held }
  refused_stands _ told s = ap refused s

  refused_posts : (posts : List (Post T Kind Op Delta ghosts)) (sent : List (sending.Post Op)) → StandsForPosts ghosts.kind_of ghosts.IsDataOf kinds logs posts sent
      → StandsForPosts ghosts.kind_of ghosts.IsDataOf kinds logs (map refused_post_code posts) (map refused_post sent)
  refused_posts [] [] s = tt
  refused_posts [] (y ∷ ys) s = absurd s
  refused_posts (x ∷ xs) [] s = absurd s
  refused_posts (x ∷ xs) (y ∷ ys) s = (record { to = s.0.to; message = refused_stands x.message y.message s.0.message }, refused_posts xs ys s.1)

after_no_store : (o : OperationChange) → after_store NoStore o ≡ o
after_no_store Same = refl
after_no_store _ = refl

kept_same : (o : OperationChange) → after_store Stored o ≡ o
kept_same Same = refl
kept_same _ = refl

-- safety is of the entries alone
safe_with : {Kind Op : Type 0} (logs : Text → History Op) {one other : nodes.Node Kind Op Shown} → one.entries ≡ other.entries → IsSafe logs one → IsSafe logs other
safe_with logs same safe = record {
  taken = λ key. subst (λ (f : Text → Entry _). IsTakenFrom (logs key) (f key).history) same (safe.taken key);
  exact = λ key. subst (λ (f : Text → Entry _). IsExactlyPruned (f key).history) same (safe.exact key);
}

map_none : {X Y : Type 0} (f : X → Y) (xs : List X) → map f xs ≡ [] → xs ≡ []
map_none f [] e = refl
map_none f (x ∷ xs) e = absurd (cc e)

module _ {T K Kind Op Delta : Type 0} {ghosts : Ghosts T Kind Op Delta} {keeping : Keeping K} (spelling : Spelling T Kind Op Delta) (old : Node T K Kind Op Delta ghosts keeping) (prepared : Prepared T Kind Op Delta ghosts) (sound : IsSoundFor old prepared)
    (fate : Fate) (new : Node T K Kind Op Delta ghosts keeping) (c : IsCarried spelling old prepared.view prepared.plan prepared.operations fate new) (few : old.steps < old.limit) where
  module _ (kinds : Text → Kind) (logs : Text → History Op) (node : nodes.Node Kind Op Shown) (s : StandsForNode ghosts.kind_of ghosts.IsDataOf kinds logs old node) (sent : nodes.Input Op)
      (p : IsPrepared {ghosts = ghosts} kinds logs old.keys.items (known old.operations) node (step (replication ghosts spelling) node sent nodes.Fate.NoStore) prepared) where
    abbrev base : Stepped Kind Op Shown
    base = step (replication ghosts spelling) node sent nodes.Fate.NoStore

    -- the member stands for the model's where its operations do
    stands_with : (next : nodes.Node Kind Op Shown) → next.identity ≡ base.node.identity → next.view ≡ base.node.view → next.keys ≡ base.node.keys → next.entries ≡ base.node.entries → next.flushed ≡ base.node.flushed → next.steps ≡ base.node.steps
        → StandForOperations (known new.operations) next → StandsForNode ghosts.kind_of ghosts.IsDataOf kinds logs new next
    stands_with next identity view keys entries flushed steps operations = record {
      identity = identity ∙ p.identity ∙ s.identity ∙ sym c.identity;
      view = view ∙ p.viewed ∙ ap (unwrap_or prepared.view) s.view ∙ sym c.viewed;
      keys = keys ∙ p.declared ∙ s.keys ∙ sym (sound.plan.declared new.keys.items c.planned);
      distinct = new.distinct;
      entries = subst (λ (f : Text → Entry Op). All (λ state. StandsForKey ghosts.kind_of ghosts.IsDataOf ghosts.IsDeltaOf kinds logs state (f state.name) (next.flushed state.name)) new.keys.items) (sym entries)
          (subst (λ (f : Text → VersionVector). All (λ state. StandsForKey ghosts.kind_of ghosts.IsDataOf ghosts.IsDeltaOf kinds logs state (base.node.entries state.name) (f state.name)) new.keys.items) (sym flushed) (p.leads_on.stands new.keys.items c.planned));
      operations = operations;
      steps = steps ∙ p.counted ∙ ap (λ n. n + 1) s.steps ∙ sym c.counted;
    }

    -- where the operations change as they were to
    stands_base : after_store fate prepared.operations ≡ prepared.operations → StandsForNode ghosts.kind_of ghosts.IsDataOf kinds logs new base.node
    stands_base same = stands_with base.node refl refl refl refl refl refl
        (subst (λ os. StandForOperations os base.node) (sym (c.operated ∙ ap (changed_operations (known old.operations)) same)) p.operates)

    -- where none is opened
    stands_unopened : (next : NextOperation) → prepared.operations ≡ Opened next → fate ≡ StoreFailed → StandsForNode ghosts.kind_of ghosts.IsDataOf kinds logs new (unopened node base).node
    stands_unopened next opens fails =
        let kept : known new.operations ≡ known old.operations = c.operated ∙ ap (λ f. changed_operations (known old.operations) (after_store f prepared.operations)) fails ∙ ap (λ o. changed_operations (known old.operations) (after_store StoreFailed o)) opens in
        stands_with (unopened node base).node refl refl refl refl refl refl (subst (λ os. StandForOperations os (unopened node base).node) (sym kept) (record {
          open_ones = s.operations.open_ones;
          finished = λ op. p.operates.finished op ∙ ap (λ o. finished_at (changed_operations (known old.operations) o) op) opens ∙ finished-pushed (known old.operations) next.asked op;
          next = s.operations.next;
        }))

    spelled : AreSpelled ghosts spelling logs c.items (to_store node base.node)
    spelled = c.stores kinds logs node base.node s.keys (p.declared ∙ s.keys) s.entries p.leads_on

    finish : (st : Stepped Kind Op Shown) → step (replication ghosts spelling) node sent (meant_fate fate) ≡ st → to_store node st.node ≡ to_store node base.node → StandsForNode ghosts.kind_of ghosts.IsDataOf kinds logs new st.node
        → FitsFate (replication ghosts spelling) node sent (meant_fate fate)
        → StandsForOutput kinds logs (after_fate fate prepared.output) st.output → KeepsTable spelling keeping fate (to_store node base.node) old.keeper new.keeper
        → IsImage spelling kinds logs old fate (after_fate fate prepared.output) new node sent
    finish st is same stands fits answers table =
        let there : to_store node (step (replication ghosts spelling) node sent (meant_fate fate)).node ≡ to_store node base.node = ap (λ st. to_store node st.node) is ∙ same in
        record {
          fate_fits = fits;
          stands = subst (λ (st : Stepped Kind Op Shown). StandsForNode ghosts.kind_of ghosts.IsDataOf kinds logs new st.node) (sym is) stands;
          answers = subst (λ (st : Stepped Kind Op Shown). StandsForOutput kinds logs (after_fate fate prepared.output) st.output) (sym is) answers;
          table = subst (λ entries. KeepsTable spelling keeping fate entries old.keeper new.keeper) (sym there) table;
          kept = subst (λ entries. All (λ (k : nodes.KeyState Kind Op). IsKept ghosts spelling k.kind (logs k.name) k.entry) entries) (sym there) spelled.kept;
        }

  -- by what became of the store
  module _ (kinds : Text → Kind) (logs : Text → History Op) (node : nodes.Node Kind Op Shown) (s : StandsForNode ghosts.kind_of ghosts.IsDataOf kinds logs old node) (sent : nodes.Input Op)
      (p : IsPrepared {ghosts = ghosts} kinds logs old.keys.items (known old.operations) node (step (replication ghosts spelling) node sent nodes.Fate.NoStore) prepared) where
    abbrev before : Stepped Kind Op Shown
    before = step (replication ghosts spelling) node sent nodes.Fate.NoStore

    abbrev to_put : List (nodes.KeyState Kind Op)
    to_put = to_store node before.node

    these : c.items ≡ map (spelled_entry spelling) to_put
    these = (spelled kinds logs node s sent p).these

    as_stored : step (replication ghosts spelling) node sent nodes.Fate.Stored ≡ before
    as_stored = same_stored (replication ghosts spelling) node sent

    some_put : c.items ≢ [] → to_put ≢ []
    some_put some none = some (these ∙ ap (map (spelled_entry spelling)) none)

    -- the output of a failed store, by whether an operation was to be opened
    failed_answers : (b : Bool) → is_pending prepared.output.reply ≡ b → StandsForOutput kinds logs (failed_output prepared.output) (failed node before).output
    failed_answers b so = by b (opens_same ∙ so) so
      where
        opens_same : opens before.output.reply ≡ is_pending prepared.output.reply
        opens_same = ap opens (sym p.answers.reply) ∙ opens_meant prepared.output.reply

        by : (b : Bool) → opens before.output.reply ≡ b → is_pending prepared.output.reply ≡ b → StandsForOutput kinds logs (failed_output prepared.output) (failed node before).output
        by true there here =
            subst (λ c. StandsForOutput kinds logs (if c then record prepared.output { reply = reply.StoreFailed; posts = [] } else record prepared.output { reply = failed_code prepared.output.reply; posts = map refused_post_code prepared.output.posts }) (failed node before).output) (sym here)
            (subst (λ c. StandsForOutput kinds logs (record prepared.output { reply = reply.StoreFailed; posts = [] }) (if c then unopened node before else unstored before).output) (sym there) (record { reply = refl; posts = tt; ended = p.answers.ended }))
        by false there here =
            subst (λ c. StandsForOutput kinds logs (if c then record prepared.output { reply = reply.StoreFailed; posts = [] } else record prepared.output { reply = failed_code prepared.output.reply; posts = map refused_post_code prepared.output.posts }) (failed node before).output) (sym here)
            (subst (λ c. StandsForOutput kinds logs (record prepared.output { reply = failed_code prepared.output.reply; posts = map refused_post_code prepared.output.posts }) (if c then unopened node before else unstored before).output) (sym there)
            (record { reply = failed_meant prepared.output.reply ∙ ap failed_reply p.answers.reply; posts = refused_posts kinds logs prepared.output.posts before.output.posts p.answers.posts; ended = p.answers.ended }))

    -- and the member, by what becomes of the operations
    failed_stands : (o : OperationChange) → prepared.operations ≡ o → fate ≡ StoreFailed → StandsForNode ghosts.kind_of ghosts.IsDataOf kinds logs new (failed node before).node
    failed_stands (Opened next) is fails =
        let yes : opens before.output.reply ≡ true = ap opens (sym p.answers.reply) ∙ opens_meant prepared.output.reply ∙ sound.pending ∙ ap opens_one is in
        subst (λ b. StandsForNode ghosts.kind_of ghosts.IsDataOf kinds logs new (if b then unopened node before else unstored before).node) (sym yes) (stands_unopened kinds logs node s sent p next is fails)
    failed_stands Same is fails =
        let not_so : opens before.output.reply ≡ false = ap opens (sym p.answers.reply) ∙ opens_meant prepared.output.reply ∙ sound.pending ∙ ap opens_one is in
        subst (λ b. StandsForNode ghosts.kind_of ghosts.IsDataOf kinds logs new (if b then unopened node before else unstored before).node) (sym not_so)
        (stands_base kinds logs node s sent p (ap (λ f. after_store f prepared.operations) fails ∙ ap (after_store StoreFailed) is ∙ sym is))
    failed_stands (Put op operation) is fails =
        let not_so : opens before.output.reply ≡ false = ap opens (sym p.answers.reply) ∙ opens_meant prepared.output.reply ∙ sound.pending ∙ ap opens_one is in
        subst (λ b. StandsForNode ghosts.kind_of ghosts.IsDataOf kinds logs new (if b then unopened node before else unstored before).node) (sym not_so)
        (stands_base kinds logs node s sent p (ap (λ f. after_store f prepared.operations) fails ∙ ap (after_store StoreFailed) is ∙ sym is))

    failed_store : (b : Bool) → to_store node (if b then unopened node before else unstored before).node ≡ to_store node before.node
    failed_store true = refl
    failed_store false = refl

    by_fate : (f : Fate) → fate ≡ f → IsKeptBy keeping c.items f old.keeper new.keeper → IsImage spelling kinds logs old fate (after_fate fate prepared.output) new node sent
    by_fate NoStore is kept =
        let none : to_put ≡ [] = map_none (spelled_entry spelling) to_put (sym these ∙ kept.0) in
        finish kinds logs node s sent p before (ap (λ f. step (replication ghosts spelling) node sent (meant_fate f)) is) refl
        (stands_base kinds logs node s sent p (ap (λ f. after_store f prepared.operations) is ∙ after_no_store prepared.operations))
        (subst (λ f. FitsFate (replication ghosts spelling) node sent (meant_fate f)) (sym is) (ap (λ st. to_store node st.node) as_stored ∙ none))
        (subst (λ f. StandsForOutput kinds logs (after_fate f prepared.output) before.output) (sym is) p.answers)
        (subst (λ f. KeepsTable spelling keeping f to_put old.keeper new.keeper) (sym is) (subst (λ k. Becomes (keeping.table old.keeper) (keeping.table k) (λ table. table)) (sym kept.1) (becomes_same (keeping.table old.keeper))))
    by_fate Stored is kept =
        finish kinds logs node s sent p before (ap (λ f. step (replication ghosts spelling) node sent (meant_fate f)) is ∙ as_stored) refl
        (stands_base kinds logs node s sent p (ap (λ f. after_store f prepared.operations) is ∙ kept_same prepared.operations))
        (subst (λ f. FitsFate (replication ghosts spelling) node sent (meant_fate f)) (sym is) (λ none. some_put kept.0 (sym (ap (λ st. to_store node st.node) as_stored) ∙ none)))
        (subst (λ f. StandsForOutput kinds logs (after_fate f prepared.output) before.output) (sym is) p.answers)
        (subst (λ f. KeepsTable spelling keeping f to_put old.keeper new.keeper) (sym is) (subst (λ items. Becomes (keeping.table old.keeper) (keeping.table new.keeper) (λ table. put_all table items)) these kept.2))
    by_fate StoreFailed is kept =
        finish kinds logs node s sent p (failed node before)
        (ap (λ f. step (replication ghosts spelling) node sent (meant_fate f)) is ∙ same_failed (replication ghosts spelling) node sent (some_put kept.0)) (failed_store (opens before.output.reply))
        (failed_stands prepared.operations refl is)
        (subst (λ f. FitsFate (replication ghosts spelling) node sent (meant_fate f)) (sym is) (λ none. some_put kept.0 (sym (ap (λ st. to_store node st.node) as_stored) ∙ none)))
        (subst (λ f. StandsForOutput kinds logs (after_fate f prepared.output) (failed node before).output) (sym is) (failed_answers (is_pending prepared.output.reply) refl))
        (subst (λ f. KeepsTable spelling keeping f to_put old.keeper new.keeper) (sym is) kept.2)

  called_by : (f : Fate) → IsKeptBy keeping c.items f old.keeper new.keeper → IsCalled keeping f old.keeper new.keeper
  called_by NoStore kept = kept.1
  called_by _ kept = kept.1

  -- THE STEP
  pub makes_step : (input : Input T Kind Op Delta ghosts) → Prepares spelling old input prepared → IsStepOf spelling old input fate (after_fate fate prepared.output) new
  makes_step input prepares = record {
    image = λ kinds logs node sent s i safe.
        let safe_before = safe_with logs (entries_same (replication ghosts spelling) node sent (meant_fate fate)) safe in
        by_fate kinds logs node s sent (prepares kinds logs node sent s i safe_before) fate refl c.kept;
    called = called_by fate c.kept;
    had_room = few;
    limit = c.limit;
    counted = c.counted;
    identity = c.identity;
    keys = sound.plan.declared new.keys.items c.planned;
  }
