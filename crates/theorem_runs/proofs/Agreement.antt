-- In every run each key, origin and number names one record: all histories are parts of one log for each key.
use Rattle.std.proofs.Common.{◌≡◌, ℕ, ◌+◌, ◌<◌, List, [], ◌∷◌, length, take, drop, refl, sym, ap, subst, ◌∙◌, arith, Bool, true, false, Option, Some, None, inl, inr}
use Rattle.std.specs.Prelude.{if◌then◌else◌, slice_get, ⊤, ◌==◌, nat_le, unwrap_or}
use Rattle.std.specs.List.{AllByRecursion}
use Rattle.std.specs.Str.{bytes_eq}
use Rattle.std.proofs.lemmas.Bool.Decides.{eqb_tells}
use Rattle.model_history.specs.Texts.{Text}
use Rattle.model_history.specs.Table.{identity_limit, with_at}
use Rattle.model_members.specs.View.{View}
use Rattle.model_history.specs.History.{History, at, IsPartOf, IsHistory}
use Rattle.model_members.specs.Entry.{Entry, Group, empty_entry, seen_by, IsGroupOf}
use Rattle.model_members.specs.DataType.{Replication}
use Rattle.model_members.specs.Message.{Keyed, Message, Post, entries_in, groups_in}
use Rattle.model_members.specs.Message.Message.{Deltas, Nack, Status, Gossip, Write, WriteAck, WriteNack, Read, ReadAnswer}
use Rattle.model_members.specs.Node.{Node, Input, Fate}
use Rattle.model_members.specs.Node.Input.{Update, Get, Take, Install, Flush, GossipTo, PruneTick, Timeout}
use Rattle.model_members.specs.Node.Fate.{NoStore, Stored, StoreFailed}
use Rattle.model_members.specs.Node.Reply.{OldView, NotStored, Installed}
use Rattle.model_members.specs.Step.{step, answered, has_failed}
use Rattle.model_members.specs.World.{Link, Links, Store, with_link, with_post, with_posts, moved_on, after_store, with_stored}
use Rattle.model_history.specs.Log.{IsTakenFrom}
use Rattle.theorem_runs.specs.Logs.{IsMessageOf, HasNoPrunes}
use Rattle.model_history.proofs.HistoryLaws.{with_at_same, with_at_other, slice_get-push}
use Rattle.model_history.proofs.PartLaws.{take_whole, taken_grown}
use Rattle.theorem_runs.proofs.Keeping.{AnyTick, NoTick, AreKept, IsKnown, IsKnownInput, keeps_step, if_holds, same_text}
use Rattle.theorem_runs.proofs.Stepping.{BringsInput, keeps_any}
use Rattle.theorem_runs.proofs.Unpruned.{IsMinePlain, quiet_kept}
use Rattle.theorem_runs.proofs.Mine.{IsMine, log_grown, group_grown, mine_kept}
use Rattle.theorem_runs.proofs.Sending.{all_both, IsOwnGroup, IsFrom, AreFrom}

-- A MEMBER'S STEP

module _ {Op : Type 0} (logs : Text → History Op) where
  -- what was the member's before is its own
  pub mine_before : (key : Text) (i : ℕ) (H : History Op) → IsHistory (logs key) → IsTakenFrom (logs key) H → H i ≡ logs key i → IsMine (logs key) i H
  mine_before key i H history taken own =
      record {
        grown = sym (ap (take (at (logs key) i)) own ∙ take_whole (logs key i));
        log = subst IsHistory (sym same) history;
        taken = subst (λ L. IsTakenFrom L H) (sym same) taken;
      }
    where
      rows : (j : ℕ) → with_at (logs key) i (H i) j ≡ logs key j
      rows j = elim (eqb_tells j i) [
        | inl is ↦ rw is.1 (with_at_same (logs key) i (H i) ∙ own)
        | inr isnt ↦ with_at_other (logs key) i (H i) j isnt.1
      ]

      same : with_at (logs key) i (H i) ≡ logs key
      same = λ k j. rows j k

-- what a lawful input brings
abbrev pub IsFair : {Op : Type 0} → (Text → History Op) → Input Op → Type 0
IsFair logs (Take from message) = IsMessageOf logs message
IsFair logs _ = ⊤

module _ {Kind Op Shown : Type 0} (D : Replication Kind Op Shown) (logs : Text → History Op) (i : ℕ) (small : i < identity_limit) where
  abbrev P : Text → Entry Op → Type 0
  P key entry = IsMine (logs key) i entry.history

  abbrev M : Text → Entry Op → Type 0
  M key theirs = IsTakenFrom (logs key) theirs.history

  abbrev G : Text → Group Op → Type 0
  G key group = IsGroupOf (logs key) group

  known : (view : View) (message : Message Op) → IsMessageOf logs message → IsKnown D P M G AnyTick i view (mine_kept logs i view small) message
  known view (Deltas groups entries) of_logs = (of_logs.groups, of_logs.entries)
  known view (Nack keys) of_logs = tt
  known view (Status digests) of_logs = tt
  known view (Gossip entries wants) of_logs = of_logs.entries
  known view (Write op key entry) of_logs = of_logs.entries.0
  known view (WriteAck op) of_logs = tt
  known view (WriteNack op) of_logs = tt
  known view (Read op key) of_logs = tt
  known view (ReadAnswer op key None) of_logs = tt
  known view (ReadAnswer op key (Some entry)) of_logs = of_logs.entries.0

  -- the member's histories are its own after the step
  pub record OwnsAfter (node : Node Kind Op Shown) : Type 0 where
    pub identity : node.identity ≡ i
    pub mine : (key : Text) → IsMine (logs key) i (node.entries key).history

  by_keeping : (node : Node Kind Op Shown) (input : Input Op) (fate : Fate) → OwnsAfter node → IsKnownInput D P M G AnyTick i node.view (mine_kept logs i node.view small) input → OwnsAfter (step D node input fate).node
  by_keeping node input fate owns brought =
      let keeps = keeps_step D P M G AnyTick i node.view (mine_kept logs i node.view small) node.keys node input fate (record { same_identity = owns.identity; same_view = refl; same_keys = refl; entries = owns.mine }) brought in
      record { identity = keeps.same_identity; mine = keeps.entries }

  pub owns_step : (node : Node Kind Op Shown) (input : Input Op) (fate : Fate) → OwnsAfter node → IsFair logs input → OwnsAfter (step D node input fate).node
  owns_step node (Update key op level) fate owns fair = by_keeping node (Update key op level) fate owns tt
  owns_step node (Get key level) fate owns fair = by_keeping node (Get key level) fate owns tt
  owns_step node (Take from message) fate owns fair = by_keeping node (Take from message) fate owns (known node.view message fair)
  owns_step node (Install view) fate owns fair = by_test (nat_le view.number node.view.number)
    where
      by_test : (b : Bool) → OwnsAfter (if b then answered (record node { steps = node.steps + 1 }) OldView else answered (record (record node { steps = node.steps + 1 }) { view = view; entries = λ key. seen_by node.identity view.number (node.entries key) }) (if has_failed fate then NotStored else Installed)).node
      by_test true = record { identity = owns.identity; mine = owns.mine }
      by_test false = record { identity = owns.identity; mine = owns.mine }
  owns_step node Flush fate owns fair = by_keeping node Flush fate owns tt
  owns_step node (GossipTo j) fate owns fair = by_keeping node (GossipTo j) fate owns tt
  owns_step node PruneTick fate owns fair = by_keeping node PruneTick fate owns (λ key r mark. tt)
  owns_step node (Timeout op) fate owns fair = by_keeping node (Timeout op) fate owns tt

  -- THE LOGS AFTER IT, WITHOUT A TICK

  -- the input is no tick
  abbrev pub IsNoTickInput : Input Op → Type 0
  IsNoTickInput PruneTick = ⊥
  IsNoTickInput _ = ⊤

  module _ (plain : (key : Text) → HasNoPrunes (logs key)) where
    brings : (node : Node Kind Op Shown) (input : Input Op) → IsNoTickInput input → IsFair logs input → BringsInput D (IsMinePlain logs plain i small) M G NoTick node input
    brings node (Update key op level) calm fair = tt
    brings node (Get key level) calm fair = tt
    brings node (Take from message) calm fair = λ member. record { entries = fair.entries; groups = fair.groups }
    brings node (Install view) calm fair = λ later key entry p. record { mine = p.mine; unpruned = p.unpruned }
    brings node Flush calm fair = tt
    brings node (GossipTo j) calm fair = tt
    brings node PruneTick calm fair = λ key r. absurd calm
    brings node (Timeout op) calm fair = tt

    pub quiet_step : (node : Node Kind Op Shown) (input : Input Op) (fate : Fate) → node.identity ≡ i → IsNoTickInput input → IsFair logs input → ((key : Text) → IsMinePlain logs plain i small key (node.entries key)) → (key : Text) → HasNoPrunes ((step D node input fate).node.entries key).history
    quiet_step node input fate identity calm fair before key =
        (keeps_any D (IsMinePlain logs plain i small) M G NoTick node (subst (λ j. AreKept (IsMinePlain logs plain i small) M G NoTick j node.view) (sym identity) (quiet_kept logs plain i small node.view)) input fate (brings node input calm fair) before key).unpruned

  -- THE LOGS AFTER IT

  module _ (node : Node Kind Op Shown) (owns : OwnsAfter node) where
    abbrev pub logs_after : Text → History Op
    logs_after key = with_at (logs key) i ((node.entries key).history i)

    pub grown : (key : Text) → IsPartOf (logs key) (logs_after key)
    grown key = log_grown (logs key) i (node.entries key).history small (owns.mine key)

    pub entry_grown : (key : Text) (H : History Op) → IsTakenFrom (logs key) H → IsTakenFrom (logs_after key) H
    entry_grown key H taken = taken_grown H (logs key) (logs_after key) taken (grown key)

    pub message_grown : (message : Message Op) → IsMessageOf logs message → IsMessageOf logs_after message
    message_grown message of_logs =
        record {
          entries = all_both _ _ _ (λ e p q. entry_grown e.key e.item.history p) (entries_in message) of_logs.entries of_logs.entries;
          groups = all_both _ _ _ (λ g p q. group_grown (logs g.key) i (node.entries g.key).history small (owns.mine g.key) g.item p) (groups_in message) of_logs.groups of_logs.groups;
        }

    pub own_entry : (key : Text) (entry : Entry Op) → entry ≡ node.entries key → IsTakenFrom (logs_after key) entry.history
    own_entry key entry e = subst (λ (x : Entry Op). IsTakenFrom (logs_after key) x.history) (sym e) (owns.mine key).taken

    own_group : (to : ℕ) (key : Text) (group : Group Op) → IsOwnGroup node.entries node.identity to key group → IsGroupOf (logs_after key) group
    own_group to key group own =
        let o : group.origin ≡ i = own.origin ∙ owns.identity in
        let row : logs_after key group.origin ≡ (node.entries key).history i = ap (logs_after key) o ∙ with_at_same (logs key) i _ in
        let upto : group.upto ≡ at (node.entries key).history i = own.upto ∙ ap (at (node.entries key).history) owns.identity in
        record {
          within = let e = ap length row in omega (arith, e, upto);
          some = own.some;
          these = own.these ∙ ap (λ j. drop group.after ((node.entries key).history j)) owns.identity ∙ ap (drop group.after) (sym (ap (take group.upto) row ∙ ap (λ n. take n ((node.entries key).history i)) upto ∙ take_whole ((node.entries key).history i)));
        }

    pub own_message : (to : ℕ) (message : Message Op) → IsFrom node.entries node.identity to message → IsMessageOf logs_after message
    own_message to message from =
        record {
          entries = all_both _ _ _ (λ e p q. own_entry e.key e.item p) (entries_in message) from.entries from.entries;
          groups = all_both _ _ _ (λ g p q. own_group to g.key g.item p) (groups_in message) from.groups from.groups;
        }

    pub own_stored : (es : List (Keyed (Entry Op))) → AllByRecursion (λ (e : Keyed (Entry Op)). e.item ≡ node.entries e.key) es → AllByRecursion (λ (e : Keyed (Entry Op)). IsTakenFrom (logs_after e.key) e.item.history) es
    own_stored es all = all_both (λ (e : Keyed (Entry Op)). e.item ≡ node.entries e.key) (λ (e : Keyed (Entry Op)). e.item ≡ node.entries e.key) (λ (e : Keyed (Entry Op)). IsTakenFrom (logs_after e.key) e.item.history) (λ e p q. own_entry e.key e.item p) es all all

    pub own_posts : (posts : List (Post Op)) → AreFrom node.entries node.identity posts → AllByRecursion (λ (post : Post Op). IsMessageOf logs_after post.message) posts
    own_posts posts all = all_both (λ (post : Post Op). IsFrom node.entries node.identity post.to post.message) (λ (post : Post Op). IsFrom node.entries node.identity post.to post.message) (λ (post : Post Op). IsMessageOf logs_after post.message) (λ post p q. own_message post.to post.message p) posts all all

-- LINKS

-- what holds of all messages, by their senders and receivers
module _ {Op : Type 0} (Q : ℕ → ℕ → Message Op → Type 0) where
  abbrev pub AllMessages : Links Op → Type 0
  AllMessages links = (from to index : ℕ) (message : Message Op) → slice_get (links from to).messages index ≡ Some message → Q from to message

  with_link_all : (links : Links Op) (from to : ℕ) (link : Link Op) → AllMessages links → ((index : ℕ) (m : Message Op) → slice_get link.messages index ≡ Some m → Q from to m) → AllMessages (with_link links from to link)
  with_link_all links from to link all here f t index m e = elim (eqb_tells f from) [
    | inl is ↦ subst (λ g. Q g t m) (sym is.1) (elim (eqb_tells t to) [
      | inl is' ↦ subst (λ u. Q from u m) (sym is'.1) (here index m (sym (ap (λ (l : Link Op). slice_get l.messages index) (row is.1 ∙ ap (λ (r : ℕ → Link Op). r t) (with_at_same links from _) ∙ (ap (with_at (links from) to link) is'.1 ∙ with_at_same (links from) to link))) ∙ e))
      | inr isnt' ↦ all from t index m (sym (ap (λ (l : Link Op). slice_get l.messages index) (row is.1 ∙ ap (λ (r : ℕ → Link Op). r t) (with_at_same links from _) ∙ with_at_other (links from) to link t isnt'.1)) ∙ e)
    ])
    | inr isnt ↦ all f t index m (sym (ap (λ (r : ℕ → Link Op). slice_get (r t).messages index) (with_at_other links from _ f isnt.1)) ∙ e)
  ]
    where
      row : f ≡ from → with_link links from to link f t ≡ with_link links from to link from t
      row is = ap (λ g. with_link links from to link g t) is

  with_post_all : (from : ℕ) (links : Links Op) (post : Post Op) → AllMessages links → Q from post.to post.message → AllMessages (with_post from links post)
  with_post_all from links post all q =
      with_link_all links from post.to _ all (λ index m e. elim (slice_get-push (links from post.to).messages post.message m index e) [
        | inl old ↦ all from post.to index m old
        | inr new ↦ subst (Q from post.to) new.1 q
      ])

  pub with_posts_all : (posts : List (Post Op)) (links : Links Op) (from : ℕ) → AllMessages links → AllByRecursion (λ (post : Post Op). Q from post.to post.message) posts → AllMessages (with_posts links from posts)
  with_posts_all [] links from all qs = all
  with_posts_all (post ∷ posts) links from all qs = with_posts_all posts (with_post from links post) from (with_post_all from links post all qs.0) qs.1

  pub moved_on_all : (links : Links Op) (from to index : ℕ) → AllMessages links → AllMessages (moved_on links from to index)
  moved_on_all links from to index all =
      if_holds AllMessages ((links from to).next == index) _ links (with_link_all links from to _ all (λ k m e. all from to k m e)) all

-- STORES

-- what holds of each entry of a store
module _ {Op : Type 0} (Q : Text → Entry Op → Type 0) where
  abbrev pub AllStored : Store Op → Type 0
  AllStored store = (key : Text) (entry : Entry Op) → store key ≡ Some entry → Q key entry

  with_stored_all : (entries : List (Keyed (Entry Op))) (store : Store Op) → AllByRecursion (λ (e : Keyed (Entry Op)). Q e.key e.item) entries → AllStored store → AllStored (with_stored entries store)
  with_stored_all [] store new all = all
  with_stored_all (x ∷ xs) store new all = λ key entry e. by_test key entry (with_stored_all xs store new.1 all key entry) (bytes_eq x.key key) refl e
    where
      by_test : (key : Text) (entry : Entry Op) → (with_stored xs store key ≡ Some entry → Q key entry) → (b : Bool) → bytes_eq x.key key ≡ b → (if b then Some x.item else with_stored xs store key) ≡ Some entry → Q key entry
      by_test key entry later true is e = let same : x.item ≡ entry = cc e in subst (λ k. Q k entry) (same_text x.key key is) (subst (Q x.key) same new.0)
      by_test key entry later false is e = later e

  pub stored_all : (fate : Fate) (entries : List (Keyed (Entry Op))) (store : Store Op) → AllByRecursion (λ (e : Keyed (Entry Op)). Q e.key e.item) entries → AllStored store → AllStored (after_store fate entries store)
  stored_all NoStore entries store new all = all
  stored_all Stored entries store new all = with_stored_all entries store new all
  stored_all StoreFailed entries store new all = all

  -- what a new member finds of a key
  pub found_stored : (store : Store Op) (key : Text) → Q key empty_entry → AllStored store → Q key (unwrap_or (store key) empty_entry)
  found_stored store key nothing all = by_entry (store key) refl
    where
      by_entry : (o : Option (Entry Op)) → store key ≡ o → Q key (unwrap_or o empty_entry)
      by_entry None e = nothing
      by_entry (Some entry) e = all key entry e
