-- What a store holds is part of what its member holds, and so is what the member has sent.
use Rattle.std.proofs.Common.{◌≡◌, ◌≢◌, ℕ, ◌+◌, ◌<◌, ◌≤◌, List, refl, sym, ap, subst, ◌∙◌, arith, Bool, true, false, Option, Some, None}
use Rattle.std.specs.Prelude.{if◌then◌else◌, find, unwrap_or}
use Rattle.std.specs.List.{list_any}
use Rattle.std.specs.Str.{bytes_eq}
use Rattle.model_history.specs.Texts.{Text}
use Rattle.model_history.specs.History.{Record, IsPartOf}
use Rattle.model_history.proofs.PartLaws.{part_trans}
use Rattle.model_history.proofs.PruneLaws.{IsIn, found}
use Rattle.model_members.specs.View.{View, place_of}
use Rattle.model_members.specs.Entry.{Entry, Group, empty_entry, seen_by, is_prune}
use Rattle.model_members.specs.DataType.{Replication}
use Rattle.model_members.specs.Message.{Keyed, Message, entries_in, groups_in}
use Rattle.model_members.specs.Node.{KeyDecl, Node}
use Rattle.model_members.specs.Step.{step}
use Rattle.model_members.specs.World.{World, Store, message_at, loaded_entry, loaded_node}
use Rattle.theorem_runs.specs.Pruning.{HistoryVariables, noted, IsDurable}
use Rattle.theorem_runs.proofs.Keeping.{same_text}
use Rattle.theorem_runs.proofs.Sending.{IsOwnGroup}
use Rattle.theorem_runs.proofs.Growth.{part_same, step_grows}
use Rattle.theorem_runs.proofs.ViewLaws.{IsMemberAfter}
use Rattle.theorem_runs.proofs.ViewLaws.IsMemberAfter.{OldMember, NewMember}
use Rattle.theorem_runs.proofs.Happening.{IsStoreFor, NodeAfter, MessageAfter, StoredAfter, ViewsAfter, Follows, of_all}
use Rattle.theorem_runs.proofs.Happening.IsStoreFor.{Emptied, Reloaded}
use Rattle.theorem_runs.proofs.Happening.NodeAfter.{Same, Stepped, Started}
use Rattle.theorem_runs.proofs.Happening.MessageAfter.{OldMessage, NewMessage}
use Rattle.theorem_runs.proofs.Happening.StoredAfter.{OldStored, NewStored}
use Rattle.theorem_runs.proofs.Happening.ViewsAfter.{SameViews, NextViews}
use Rattle.theorem_runs.proofs.RunViews.{HasViews, same_some, views_follow, last_given}

module _ {Kind Op Shown : Type 0} (D : Replication Kind Op Shown) where
  pub record HasParts (world : World Kind Op Shown) : Type 0 where
    pub stored : (i : ℕ) (node : Node Kind Op Shown) → world.nodes i ≡ Some node → (key : Text) (entry : Entry Op) → world.stores (place_of world.view i) key ≡ Some entry → IsDurable world key → IsPartOf entry.history (node.entries key).history
    pub sent : (from to index : ℕ) (message : Message Op) (node : Node Kind Op Shown) → world.nodes from ≡ Some node → message_at world from to index ≡ Some message → (e : Keyed (Entry Op)) → IsIn (entries_in message) e → IsPartOf e.item.history (node.entries e.key).history
    pub senders : (from to index : ℕ) (message : Message Op) → message_at world from to index ≡ Some message → from < world.view.given
    pub groups : (from to index : ℕ) (message : Message Op) → message_at world from to index ≡ Some message → (g : Keyed (Group Op)) → IsIn (groups_in message) g → (g.item.origin ≡ from) × (list_any (λ (r : Record Op). is_prune r.action) g.item.group_records ≡ false) × (to ≢ from)

  -- WHAT A NEW MEMBER LOADS

  -- an empty entry, where the store has nothing of a durable key, or a stored one with the member in its marks
  pub data LoadedFrom (world next : World Kind Op Shown) (t : ℕ) (key : Text) (entry : Entry Op) : Type 0 where
    LoadedEmpty : entry ≡ empty_entry → (IsDurable world key → (stored : Entry Op) → next.stores (place_of next.view t) key ≡ Some stored → ⊥) → LoadedFrom world next t key entry
    LoadedStored : (j : ℕ) (node : Node Kind Op Shown) (stored : Entry Op) → world.nodes j ≡ Some node → IsDurable world key → place_of next.view t ≡ place_of world.view j → world.stores (place_of world.view j) key ≡ Some stored → entry ≡ seen_by t next.view.number stored → LoadedFrom world next t key entry

  module _ (variables : HistoryVariables Op) (world next : World Kind Op Shown) (has : HasViews D variables world) (follows : Follows D world next) where
    -- the new member's store has nothing but what the old one had
    stored_before : next.view.given ≡ world.view.given + 1 → (p : ℕ) (key : Text) (entry : Entry Op) → next.stores p key ≡ Some entry → world.stores p key ≡ Some entry
    stored_before given p key entry m = go (follows.stored p key entry m)
      where
        go : StoredAfter D world next p key entry → world.stores p key ≡ Some entry
        go (OldStored h) = h
        go (NewStored i new runs place same item) = absurd (let a : next.view.given ≡ world.view.given = ap (λ (v : View). v.given) same in omega arith)

    module _ (t : ℕ) (key : Text) (given : next.view.given ≡ world.view.given + 1) where
      -- by what the store holds of the key
      by_stored : (store : Store Op) (decl : KeyDecl Kind) → find (λ (d : KeyDecl Kind). bytes_eq d.name key) world.keys ≡ Some decl → decl.durable ≡ true → IsStoreFor D world next t store → (o : Option (Entry Op)) → store key ≡ o → LoadedFrom world next t key (seen_by t next.view.number (unwrap_or o empty_entry))
      by_stored store decl is durable (Emptied nothing empty) (Some stored) h = absurd (let f = sym (ap (λ (st : Store Op). st key) nothing) ∙ h in cc f)
      by_stored store decl is durable (Emptied nothing empty) None h = LoadedEmpty refl (λ d stored m. absurd (let f = sym (ap (λ (st : Store Op). st key) empty) ∙ m in cc f))
      by_stored store decl is durable (Reloaded j there place same) (Some stored) h =
          let r = has.all_run.runs j there in
          LoadedStored j r.0 stored r.1 (decl, is, durable) place (sym (ap (λ (st : Store Op). st key) same) ∙ h) refl
      by_stored store decl is durable (Reloaded j there place same) None h = LoadedEmpty refl (λ d stored m.
          let was : world.stores (place_of world.view j) key ≡ Some stored = subst (λ p. world.stores p key ≡ Some stored) place (stored_before given _ key stored m) in
          absurd (let f = sym h ∙ ap (λ (st : Store Op). st key) same ∙ was in cc f))

      by_decl : (store : Store Op) → IsStoreFor D world next t store → (o : Option (KeyDecl Kind)) → find (λ (d : KeyDecl Kind). bytes_eq d.name key) world.keys ≡ o → LoadedFrom world next t key (loaded_entry t next.view store o)
      by_decl store from None is = LoadedEmpty refl (λ d x m. absurd (let f = sym is ∙ d.1 in cc f))
      by_decl store from (Some decl) is = by_durable decl.durable refl
        where
          name_is : decl.name ≡ key
          name_is = same_text decl.name key (found (λ (d : KeyDecl Kind). bytes_eq d.name key) world.keys decl is)

          by_durable : (b : Bool) → decl.durable ≡ b → LoadedFrom world next t key (if b then seen_by t next.view.number (unwrap_or (store decl.name) empty_entry) else empty_entry)
          by_durable true e = subst (λ name. LoadedFrom world next t key (seen_by t next.view.number (unwrap_or (store name) empty_entry))) (sym name_is) (by_stored store decl is e from (store key) refl)
          by_durable false e = LoadedEmpty refl (λ d x m. absurd (let same : decl ≡ d.0 = same_some _ decl d.0 is d.1 in let f = sym e ∙ ap (λ (k : KeyDecl Kind). k.durable) same ∙ d.2 in cc f))

    pub loaded_from : (t : ℕ) (new : Node Kind Op Shown) (store : Store Op) → next.view.given ≡ world.view.given + 1 → new ≡ loaded_node world.keys t next.view store → IsStoreFor D world next t store → (key : Text) → LoadedFrom world next t key (new.entries key)
    loaded_from t new store given made from key =
        subst (λ (n : Node Kind Op Shown). LoadedFrom world next t key (n.entries key)) (sym made) (by_decl t key given store from (find (λ (d : KeyDecl Kind). bytes_eq d.name key) world.keys) refl)

    -- AN EVENT

    module _ (parts : HasParts world) where
      abbrev then : HasViews D (noted variables next) next
      then = views_follow D variables world next has follows

      pub given_later : ViewsAfter D world next → world.view.given ≤ next.view.given
      given_later (SameViews e v) = let a : next.view.given ≡ world.view.given = ap (λ (x : View). x.given) v in omega arith
      given_later (NextViews e n) = n.given

      senders_after : (from to : ℕ) (message : Message Op) → MessageAfter D world next from to message → from < next.view.given
      senders_after from to message (OldMessage index e) = let a = parts.senders from to index message e in let b = given_later follows.views in omega arith
      senders_after from to message (NewMessage new runs is_from) = then.views.below next.view.number next.view from then.views.listed (then.running from new runs).last

      groups_after : (from to : ℕ) (message : Message Op) → MessageAfter D world next from to message → (g : Keyed (Group Op)) → IsIn (groups_in message) g → (g.item.origin ≡ from) × (list_any (λ (r : Record Op). is_prune r.action) g.item.group_records ≡ false) × (to ≢ from)
      groups_after from to message (OldMessage index e) g m = parts.groups from to index message e g m
      groups_after from to message (NewMessage new runs is_from) g m =
          let own = of_all (λ (g : Keyed (Group Op)). IsOwnGroup new.entries new.identity to g.key g.item) (groups_in message) g is_from.groups m in
          let mine = (then.running from new runs).identity in
          (own.origin ∙ mine, own.plain, λ same. own.away (same ∙ sym mine))

      -- what a running member held before is part of what it holds
      pub held_grows : (t : ℕ) (new : Node Kind Op Shown) → NodeAfter D world next t new → (old : Node Kind Op Shown) → world.nodes t ≡ Some old → (key : Text) → IsPartOf (old.entries key).history (new.entries key).history
      held_grows t new (Same e stays) old was key = let same = same_some _ old new was e in subst (λ (n : Node Kind Op Shown). IsPartOf (old.entries key).history (n.entries key).history) same (part_same (old.entries key).history)
      held_grows t new (Stepped before input fate e comes is views) old was key =
          let same = same_some _ old before was e in
          subst (λ (n : Node Kind Op Shown). IsPartOf (old.entries key).history (n.entries key).history) (sym is)
          (subst (λ (b : Node Kind Op Shown). IsPartOf (old.entries key).history ((step D b input fate).node.entries key).history) same (step_grows D old input fate key))
      held_grows t new (Started store is given member made from) old was key = absurd (let a = last_given D variables world next has follows t (has.running t old was).last in omega arith)

      -- a member that ran, or a new one
      pub ran_before : (t : ℕ) (new : Node Kind Op Shown) → NodeAfter D world next t new → t < world.view.given → (old : Node Kind Op Shown) × (world.nodes t ≡ Some old)
      ran_before t new (Same e stays) small = (new, e)
      ran_before t new (Stepped old input fate e comes is views) small = (old, e)
      ran_before t new (Started store is given member made from) small = absurd (omega arith)

      sent_after : (from to : ℕ) (message : Message Op) → MessageAfter D world next from to message → (new : Node Kind Op Shown) → next.nodes from ≡ Some new → (e : Keyed (Entry Op)) → IsIn (entries_in message) e → IsPartOf e.item.history (new.entries e.key).history
      sent_after from to message (OldMessage index is) new runs e m =
          let node_after = follows.nodes from new runs in
          let old = ran_before from new node_after (parts.senders from to index message is) in
          part_trans e.item.history (old.0.entries e.key).history (new.entries e.key).history (parts.sent from to index message old.0 old.1 is e m) (held_grows from new node_after old.0 old.1 e.key)
      sent_after from to message (NewMessage other runs' is_from) new runs e m =
          let same = same_some _ other new runs' runs in
          let item : e.item ≡ other.entries e.key = of_all (λ (e : Keyed (Entry Op)). e.item ≡ other.entries e.key) (entries_in message) e is_from.entries m in
          subst (λ (x : Entry Op). IsPartOf e.item.history x.history) (item ∙ ap (λ (n : Node Kind Op Shown). n.entries e.key) same) (part_same e.item.history)

      -- a member that ran stays at its place
      same_place : (t : ℕ) (old new : Node Kind Op Shown) → world.nodes t ≡ Some old → next.nodes t ≡ Some new → place_of next.view t ≡ place_of world.view t
      same_place t old new was runs = go follows.views
        where
          go : ViewsAfter D world next → place_of next.view t ≡ place_of world.view t
          go (SameViews e v) = ap (λ (x : View). place_of x t) v
          go (NextViews e n) = by_member (n.member t (then.running t new runs).last)
            where
              by_member : IsMemberAfter world.view next.view t → place_of next.view t ≡ place_of world.view t
              by_member (OldMember m p) = p
              by_member (NewMember is g) = absurd (let a = last_given D variables world next has follows t (has.running t old was).last in omega arith)

      -- what is stored newly is what the member at that place holds
      newly_stored : (t i : ℕ) (new other : Node Kind Op Shown) → next.nodes t ≡ Some new → next.nodes i ≡ Some other → place_of next.view t ≡ place_of world.view i → next.view ≡ world.view → (key : Text) (entry : Entry Op) → entry ≡ other.entries key → IsPartOf entry.history (new.entries key).history
      newly_stored t i new other runs runs' place views key entry item =
          let i_is : t ≡ i = (then.views.places next.view.number next.view then.views.listed).apart t i (then.running t new runs).last (then.running i other runs').last (place ∙ sym (ap (λ (v : View). place_of v i) views)) in
          let same = same_some _ other new runs' (ap next.nodes (sym i_is) ∙ runs) in
          subst (λ (x : Entry Op). IsPartOf entry.history x.history) (item ∙ ap (λ (n : Node Kind Op Shown). n.entries key) same) (part_same entry.history)

      durable_before : (key : Text) → IsDurable next key → IsDurable world key
      durable_before key d = (d.0, ap (λ (ks : List (KeyDecl Kind)). find (λ (d : KeyDecl Kind). bytes_eq d.name key) ks) (sym follows.keys) ∙ d.1, d.2)

      stored_by_old : (t : ℕ) (old new : Node Kind Op Shown) → world.nodes t ≡ Some old → next.nodes t ≡ Some new → (key : Text) (entry : Entry Op) → next.stores (place_of next.view t) key ≡ Some entry → IsDurable next key → IsPartOf entry.history (new.entries key).history
      stored_by_old t old new was runs key entry m durable = go (follows.stored (place_of next.view t) key entry m)
        where
          go : StoredAfter D world next (place_of next.view t) key entry → IsPartOf entry.history (new.entries key).history
          go (OldStored h) =
              part_trans entry.history (old.entries key).history (new.entries key).history
              (parts.stored t old was key entry (subst (λ p. world.stores p key ≡ Some entry) (same_place t old new was runs) h) (durable_before key durable)) (held_grows t new (follows.nodes t new runs) old was key)
          go (NewStored i other runs' place views item) = newly_stored t i new other runs runs' place views key entry item

      -- a new member has loaded what its store holds
      stored_by_new : (t : ℕ) (new : Node Kind Op Shown) → next.view.given ≡ world.view.given + 1 → (key : Text) (entry : Entry Op) → next.stores (place_of next.view t) key ≡ Some entry → IsDurable next key → LoadedFrom world next t key (new.entries key) → IsPartOf entry.history (new.entries key).history
      stored_by_new t new given key entry m durable (LoadedEmpty is none) = absurd (none (durable_before key durable) entry m)
      stored_by_new t new given key entry m durable (LoadedStored j node stored runs d place there is) =
          let here = subst (λ p. world.stores p key ≡ Some entry) place (stored_before given _ key entry m) in
          let same : entry ≡ stored = same_some _ entry stored here there in
          subst (λ (x : Entry Op). IsPartOf entry.history x.history) (sym is) (subst (λ (x : Entry Op). IsPartOf entry.history x.history) same (part_same entry.history))

      stored_after : (t : ℕ) (new : Node Kind Op Shown) → next.nodes t ≡ Some new → NodeAfter D world next t new → (key : Text) (entry : Entry Op) → next.stores (place_of next.view t) key ≡ Some entry → IsDurable next key → IsPartOf entry.history (new.entries key).history
      stored_after t new runs (Same was stays) key entry m durable = stored_by_old t new new was runs key entry m durable
      stored_after t new runs (Stepped old input fate was comes is views) key entry m durable = stored_by_old t old new was runs key entry m durable
      stored_after t new runs (Started store is given member made from) key entry m durable = stored_by_new t new given key entry m durable (loaded_from t new store given made from key)

      pub parts_follow : HasParts next
      parts_follow =
          record {
            stored = λ i node runs key entry m durable. stored_after i node runs (follows.nodes i node runs) key entry m durable;
            sent = λ from to index message node runs is e m. sent_after from to message (follows.messages from to index message is) node runs e m;
            senders = λ from to index message is. senders_after from to message (follows.messages from to index message is);
            groups = λ from to index message is g m. groups_after from to message (follows.messages from to index message is) g m;
          }
