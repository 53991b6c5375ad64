-- What a member takes of a message.
-- Items of a message, of which some are passed over.
-- A message that stands for one of the model is told whole.
-- Changes of keys in the course of a step.
-- Groups and entries that a member takes, one after another.
-- Entries that are asked for by name.
use Rattle.std.proofs.Common.{◌≡◌, zero, suc, List, [], ◌∷◌, ◌++◌, refl, sym, ap, ◌∙◌, subst, Some, None, ◌≢◌, ℕ, ◌<◌, length, get_or, set, subst₂, arith, false, not, Option, inl, inr, map, find, option_map, IfSome, bytes_eq, get_or-set_same, get_or-set_other, length-set, true, if◌then◌else◌, Bool, filter, ◌&&◌, append-nil}
use Rattle.std.specs.List.{AllZip, list_any}
use Rattle.std.proofs.lemmas.Bool.{cases_eq}
use Rattle.std.proofs.lemmas.List.{get_or_default, length-map, map-append}
use Rattle.std.proofs.lemmas.List.Elements.{filter-append}
use Rattle.std.proofs.lemmas.Simd.{map-map}
use Rattle.member_node.proofs.Common.{Text, History, VersionVector, IdentitySet, IsTakenFrom, is_unchanged, seen_by, has_records, HasKey, state_of, keyed_entry, bytes_eq-tells, is_unchanged-same, AfterGroups, take_entry, take_group, after_entries, named_entries, Replication, performed_in, Shown, Ghosts, Envelope, StandsFor, parts_of, Message, StandsForKeyed, StandsForKeyedGroup, StandsForMessage, StandsForEntry, Keyed, StandsForTaken, IsEntryPassedOver, KeyState, Change, Flushed, AreDistinct, declared_by, AreOfTheirKinds, changed, AreMade, current_of, IsKept, StandsAfter, LeadsTo, AreHeld, AreExactAt, IsAtWork, gap_told}
use Rattle.model_history.specs.Texts.{contains_text}
use Rattle.model_history.specs.History.{union, IsExactlyPruned}
use Rattle.model_members.specs.Message as sending
use Rattle.model_members.specs.Message.{Message as Sent}
use Rattle.model_members.specs.Entry as model
use Rattle.model_members.specs.Entry.{merged}
use Rattle.model_members.specs.Node as nodes
use Rattle.model_members.specs.Node.{key_states}
use Rattle.model_members.proofs.Steps.{bytes_eq-same}
use Rattle.model_members.proofs.Taking.{take_entry-only, take_entry-at}
use Rattle.model_members.specs.Step.{is_entry_passed_over}
use Rattle.model_members.proofs.Cases.{with_taken_entry}
use Rattle.data_envelope.specs.Images.{StandsForGroup}
use Rattle.data_envelope.specs.Words.{group_parts}
use Rattle.data_envelope.specs.declared.group.Group.{Group}
use Rattle.member_messages.specs.declared.message.Message.TheVariants.{Deltas, Gossip, Write, ReadAnswer}
use Rattle.member_node.specs.Inputs.{Tells, IsGroupPassedOver}
use Rattle.member_node.specs.Inputs.Tells.{nothing, told, passed_over}
use Rattle.member_node.specs.Changes.{IsSparse}
use Rattle.member_node.specs.Entries.{is_changed_at}
use Rattle.member_node.specs.declared.change.ChangeAt.{ChangeAt}
use Rattle.member_node.specs.declared.change.Change.TheVariants.{Entry}
use Rattle.member_node.proofs.Sparse.{stands_at, sparse_at}
use Rattle.std.proofs.lemmas.List.Folds.{list_any_none}
use Rattle.member_node.specs.Taking.{put_at, KeepsOwn, AreHeldBy, judged_for, entry_after, lacking_in, gaps_at}
use Rattle.member_node.specs.declared.groups.GroupTaken.{GroupTaken}
use Rattle.member_node.proofs.Lists.{find_one, IsFound}
use Rattle.member_node.proofs.Standing.{find-map, slice_get-map, apart}
use Rattle.member_node.proofs.Growing.{Judges, take_group-judges, take_group-undeclared, exact_part, taken_one, grows, has_still}

-- ITEMS OF A MESSAGE

module _ {X Y : Type 0} (Stands : X → Y → Type 0) (IsPassedOver : X → Type 0) where
  -- the last item is told, or passed over
  pub data TellsLast (xs : List X) (x : X) (zs : List Y) : Type 0 where
    last_told : (before : List Y) (last : Y) → zs ≡ before ++ last ∷ [] → Tells Stands IsPassedOver xs before → Stands x last → TellsLast xs x zs
    last_passed : Tells Stands IsPassedOver xs zs → IsPassedOver x → TellsLast xs x zs

  pub tells_none : (zs : List Y) → Tells Stands IsPassedOver [] zs → zs ≡ []
  tells_none zs nothing = refl

  more_told : (w : X) (v : Y) (xs : List X) (x : X) (zs : List Y) → Stands w v → TellsLast xs x zs → TellsLast (w ∷ xs) x (v ∷ zs)
  more_told w v xs x zs s (last_told before last is tells stands) = last_told (v ∷ before) last (ap (λ vs. v ∷ vs) is) (told w v xs before s tells) stands
  more_told w v xs x zs s (last_passed tells passes) = last_passed (told w v xs zs s tells) passes

  more_passed : (w : X) (xs : List X) (x : X) (zs : List Y) → IsPassedOver w → TellsLast xs x zs → TellsLast (w ∷ xs) x zs
  more_passed w xs x zs p (last_told before last is tells stands) = last_told before last is (passed_over w xs before p tells) stands
  more_passed w xs x zs p (last_passed tells passes) = last_passed (passed_over w xs zs p tells) passes

  -- the first item is told, or passed over
  data TellsFirst (x : X) (xs : List X) (zs : List Y) : Type 0 where
    first_told : (y : Y) (ys : List Y) → zs ≡ y ∷ ys → Stands x y → Tells Stands IsPassedOver xs ys → TellsFirst x xs zs
    first_passed : IsPassedOver x → Tells Stands IsPassedOver xs zs → TellsFirst x xs zs

  tells_first : (x : X) (xs : List X) (zs : List Y) → Tells Stands IsPassedOver (x ∷ xs) zs → TellsFirst x xs zs
  tells_first v vs zs (told x y xs ys s rest) = first_told y ys refl s rest
  tells_first v vs zs (passed_over x xs ys p rest) = first_passed p rest

  -- of one item, it or nothing is told
  pub data TellsOne (x : X) (zs : List Y) : Type 0 where
    one_told : (y : Y) → zs ≡ y ∷ [] → Stands x y → TellsOne x zs
    one_passed : zs ≡ [] → IsPassedOver x → TellsOne x zs

  pub tells_one : (x : X) (zs : List Y) → Tells Stands IsPassedOver (x ∷ []) zs → TellsOne x zs
  tells_one x zs t = elim (tells_first x [] zs t) [
    | first_told y ys is s rest ↦ one_told y (is ∙ ap (λ vs. y ∷ vs) (tells_none ys rest)) s
    | first_passed p rest ↦ one_passed (tells_none zs rest) p
  ]

  pub tells_last : (xs : List X) (x : X) (zs : List Y) → Tells Stands IsPassedOver (xs ++ x ∷ []) zs → TellsLast xs x zs
  tells_last [] x zs t = elim (tells_first x [] zs t) [
    | first_told y ys is s rest ↦ last_told [] y (is ∙ ap (λ vs. y ∷ vs) (tells_none ys rest)) nothing s
    | first_passed p rest ↦ last_passed (subst (Tells Stands IsPassedOver []) (sym (tells_none zs rest)) nothing) p
  ]
  tells_last (w ∷ ws) x zs t = elim (tells_first w (ws ++ x ∷ []) zs t) [
    | first_told y ys is s rest ↦ subst (TellsLast (w ∷ ws) x) (sym is) (more_told w y ws x ys s (tells_last ws x ys rest))
    | first_passed p rest ↦ more_passed w ws x zs p (tells_last ws x zs rest)
  ]

  -- where none is passed over
  pub tells_all : (xs : List X) (ys : List Y) → AllZip Stands xs ys → Tells Stands IsPassedOver xs ys
  tells_all [] [] z = nothing
  tells_all [] (y ∷ ys) z = absurd z
  tells_all (x ∷ xs) [] z = absurd z
  tells_all (x ∷ xs) (y ∷ ys) z = told x y xs ys z.0 (tells_all xs ys z.1)

-- WHOLE MESSAGES

module _ {T Kind Op Delta : Type 0} {ghosts : Ghosts T Kind Op Delta} (kinds : Text → Kind) (logs : Text → History Op) (keys : List (KeyState T Kind Op Delta)) where
  pub told_whole : (message : Message T Kind Op Delta ghosts) (sent : Sent Op) → StandsForMessage ghosts.kind_of ghosts.IsDataOf kinds logs message sent → StandsForTaken kinds logs keys message sent
  told_whole (Deltas groups entries) sent s = record {
    told_groups = s.sent_groups;
    told_entries = s.sent_entries;
    is = s.is;
    groups_stand = tells_all (StandsForKeyedGroup kinds logs) (IsGroupPassedOver ghosts keys) groups s.sent_groups s.groups_stand;
    entries_stand = tells_all (StandsForKeyed ghosts.kind_of ghosts.IsDataOf kinds logs) (IsEntryPassedOver ghosts keys) entries s.sent_entries s.entries_stand;
  }
  told_whole (Gossip entries wants) sent s = record {
    told_entries = s.sent_entries;
    is = s.is;
    entries_stand = tells_all (StandsForKeyed ghosts.kind_of ghosts.IsDataOf kinds logs) (IsEntryPassedOver ghosts keys) entries s.sent_entries s.entries_stand;
  }
  told_whole (Write op key envelope) sent s = record {
    told_entries = record { key = key; item = s.entry } ∷ [];
    entries_stand = told (record { key = key; item = envelope }) (record { key = key; item = s.entry }) [] [] (record { same = refl; held = s.held }) nothing;
    is = s.is;
  }
  told_whole (ReadAnswer op key None) sent s = record { entry = None; entries_stand = nothing; is = s }
  told_whole (ReadAnswer op key (Some envelope)) sent s = record {
    entry = Some s.entry;
    entries_stand = told (record { key = key; item = envelope }) (record { key = key; item = s.entry }) [] [] (record { same = refl; held = s.held }) nothing;
    is = s.is;
  }
  told_whole _ sent s = s

-- CHANGES OF KEYS

module _ {T Kind Op Delta : Type 0} where
  abbrev no_change : Option (Change T Kind Op Delta)
  no_change = None

  abbrev pub name_at : List (KeyState T Kind Op Delta) → ℕ → KeyState T Kind Op Delta → Text
  name_at keys k d = (get_or keys k d).name

  -- WHAT IS KEPT

  module _ (kind_of : T → Kind) (id : ℕ) where
    pub kept_changed : (state : KeyState T Kind Op Delta) (change : Option (Change T Kind Op Delta)) → IsKept kind_of id state change → KeepsOwn kind_of id state.entry (changed state change).entry
    kept_changed state None kept = kept
    kept_changed state (Some (Entry entry)) kept = kept
    kept_changed state (Some (Flushed flushed)) kept = kept

    kept_same : (envelope : Envelope T Kind Op Delta) → KeepsOwn kind_of id envelope envelope
    kept_same envelope = record { kind = refl; own = λ before. refl; unpruned = λ before. before }

    pub kept_further : (one two three : Envelope T Kind Op Delta) → KeepsOwn kind_of id one two → KeepsOwn kind_of id two three → KeepsOwn kind_of id one three
    kept_further one two three a b = record { kind = b.kind ∙ a.kind; own = λ before. b.own (a.unpruned before) ∙ a.own before; unpruned = λ before. b.unpruned (a.unpruned before) }

  -- no change yet, at each place
  pub unchanged_at : (keys : List (KeyState T Kind Op Delta)) (k : ℕ) (e : Option (Change T Kind Op Delta)) → k < length keys → get_or (map (λ (state : KeyState T Kind Op Delta). no_change) keys) k e ≡ None
  unchanged_at [] k e within = absurd (omega arith)
  unchanged_at (x ∷ keys) zero e within = refl
  unchanged_at (x ∷ keys) (suc k) e within = unchanged_at keys k e (omega arith)

  made_first : (Makes : KeyState T Kind Op Delta → Option (Change T Kind Op Delta) → Type 0) (keys : List (KeyState T Kind Op Delta)) (changes : List (Option (Change T Kind Op Delta))) → changes ≡ map (λ state. None) keys
      → ((k : ℕ) (d : KeyState T Kind Op Delta) → k < length keys → Makes (get_or keys k d) None) → AreMade Makes keys changes
  made_first Makes keys changes is each = subst (AreMade Makes keys) (sym is) (record {
    one_each = length-map keys (λ (state : KeyState T Kind Op Delta). no_change);
    made = λ k d e within. subst (Makes (get_or keys k d)) (sym (unchanged_at keys k e within)) (each k d within);
  })

  pub kept_first : (kind_of : T → Kind) (id : ℕ) (keys : List (KeyState T Kind Op Delta)) (changes : List (Option (Change T Kind Op Delta))) → changes ≡ map (λ state. None) keys → AreMade (IsKept kind_of id) keys changes
  kept_first kind_of id keys changes is = made_first (IsKept kind_of id) keys changes is (λ k d within. kept_same kind_of id (get_or keys k d).entry)

  -- ONE MORE CHANGE

  -- what holds of every change, and of another at a place
  pub made_put : (Makes : KeyState T Kind Op Delta → Option (Change T Kind Op Delta) → Type 0) (keys : List (KeyState T Kind Op Delta)) (changes : List (Option (Change T Kind Op Delta))) (index : ℕ) (at : KeyState T Kind Op Delta) → index < length keys → at ≡ get_or keys index at
      → (taken : Option (Envelope T Kind Op Delta)) → ((envelope : Envelope T Kind Op Delta) → taken ≡ Some envelope → Makes at (Some (Entry envelope))) → AreMade Makes keys changes → AreMade Makes keys (put_at changes index taken)
  made_put Makes keys changes index at within is None makes made = made
  made_put Makes keys changes index at within is (Some envelope) makes made = record {
    one_each = length-set changes index (Some (Entry envelope)) ∙ made.one_each;
    made = λ k d e inside. elim (cases_eq k index) [
      | inl equal ↦
          let state : at ≡ get_or keys k d = is ∙ get_or_default keys index at d within ∙ ap (λ j. get_or keys j d) (sym equal) in
          let change : Some (Entry envelope) ≡ get_or (set changes index (Some (Entry envelope))) k e =
          sym (ap (λ j. get_or (set changes index (Some (Entry envelope))) j e) equal ∙ get_or-set_same changes index (Some (Entry envelope)) e (let l = made.one_each in omega arith)) in
          subst₂ Makes state change (makes envelope refl)
      | inr other ↦ subst (Makes (get_or keys k d)) (sym (get_or-set_other changes index k (Some (Entry envelope)) e other)) (made.made k d e inside)
    ];
  }

  -- each key has its place still
  pub length-put_at : (changes : List (Option (Change T Kind Op Delta))) (index : ℕ) (taken : Option (Envelope T Kind Op Delta)) → length (put_at changes index taken) ≡ length changes
  length-put_at changes index None = refl
  length-put_at changes index (Some envelope) = length-set changes index (Some (Entry envelope))

  -- what the change at a place is
  pub made_at : (Makes : KeyState T Kind Op Delta → Option (Change T Kind Op Delta) → Type 0) (keys : List (KeyState T Kind Op Delta)) (changes : List (Option (Change T Kind Op Delta))) (index : ℕ) (at : KeyState T Kind Op Delta) (change : Option (Change T Kind Op Delta))
      → index < length keys → at ≡ get_or keys index at → change ≡ get_or changes index change → AreMade Makes keys changes → Makes at change
  made_at Makes keys changes index at change within is is' made = subst₂ Makes (sym is) (sym is') (made.made index at change within)

  pub kept_put : (kind_of : T → Kind) (id : ℕ) (keys : List (KeyState T Kind Op Delta)) (changes : List (Option (Change T Kind Op Delta))) (index : ℕ) (at : KeyState T Kind Op Delta) (change : Option (Change T Kind Op Delta)) → index < length keys → at ≡ get_or keys index at → change ≡ get_or changes index change
      → (mine : Envelope T Kind Op Delta) → mine ≡ current_of at change → (taken : Option (Envelope T Kind Op Delta)) → IfSome taken (KeepsOwn kind_of id mine) → AreMade (IsKept kind_of id) keys changes → AreMade (IsKept kind_of id) keys (put_at changes index taken)
  kept_put kind_of id keys changes index at change within is is' mine same None keeps kept = kept
  kept_put kind_of id keys changes index at change within is is' mine same (Some envelope) keeps kept =
      let now : KeepsOwn kind_of id at.entry mine = subst (KeepsOwn kind_of id at.entry) (sym same) (made_at (IsKept kind_of id) keys changes index at change within is is' kept) in
      made_put (IsKept kind_of id) keys changes index at within is (Some envelope)
      (λ other is_other. let e : envelope ≡ other = cc is_other in subst (KeepsOwn kind_of id at.entry) e (kept_further kind_of id at.entry mine envelope now keeps)) kept

  -- an entry is of its key's kind in the course of a step
  pub current_kind : (kind_of : T → Kind) (id : ℕ) (keys : List (KeyState T Kind Op Delta)) (changes : List (Option (Change T Kind Op Delta))) (index : ℕ) (at : KeyState T Kind Op Delta) (change : Option (Change T Kind Op Delta)) → index < length keys → at ≡ get_or keys index at → change ≡ get_or changes index change
      → AreMade (IsKept kind_of id) keys changes → AreOfTheirKinds kind_of keys → kind_of (current_of at change).value ≡ at.kind
  current_kind kind_of id keys changes index at change within is is' made kinds =
      (made_at (IsKept kind_of id) keys changes index at change within is is' made).kind ∙ subst (λ (state : KeyState T Kind Op Delta). kind_of state.entry.value ≡ state.kind) (sym is) (kinds index at within)

  -- KEYS IN THE MODEL

  -- names of different places differ
  pub other_name : (keys : List (KeyState T Kind Op Delta)) → AreDistinct (map (λ (state : KeyState T Kind Op Delta). state.name) keys) → (i j : ℕ) (d e : KeyState T Kind Op Delta) → i < length keys → j < length keys → i ≢ j
      → bytes_eq (name_at keys i d) (name_at keys j e) ≡ false
  other_name keys distinct i j d e within within' other = apart (name_at keys i d) (name_at keys j e) (λ same.
      other (distinct i j (name_at keys j e) (slice_get-map (λ (state : KeyState T Kind Op Delta). state.name) keys i d within ∙ ap Some same) (slice_get-map (λ (state : KeyState T Kind Op Delta). state.name) keys j e within')))

  pub declared_at : {Op' Shown' : Type 0} (node : nodes.Node Kind Op' Shown') (keys : List (KeyState T Kind Op Delta)) → node.keys ≡ map declared_by keys → AreDistinct (map (λ (state : KeyState T Kind Op Delta). state.name) keys)
      → (k : ℕ) (d : KeyState T Kind Op Delta) → k < length keys → find (λ (decl : nodes.KeyDecl Kind). bytes_eq decl.name (name_at keys k d)) node.keys ≡ Some (declared_by (get_or keys k d))
  declared_at node keys declares distinct k d within =
      let name = name_at keys k d in
      ap (find (λ (decl : nodes.KeyDecl Kind). bytes_eq decl.name (name_at keys k d))) declares ∙ find-map (λ (decl : nodes.KeyDecl Kind). bytes_eq decl.name (name_at keys k d)) declared_by keys
      ∙ ap (option_map declared_by) (find_one (λ (state : KeyState T Kind Op Delta). bytes_eq state.name (name_at keys k d)) keys k d within (bytes_eq-same name)
      (λ j e inside holds. distinct j k name (slice_get-map (λ (state : KeyState T Kind Op Delta). state.name) keys j e inside ∙ ap Some (bytes_eq-tells _ name holds)) (slice_get-map (λ (state : KeyState T Kind Op Delta). state.name) keys k d within)))

  pub has_key_at : {Op' Shown' : Type 0} (node : nodes.Node Kind Op' Shown') (keys : List (KeyState T Kind Op Delta)) → node.keys ≡ map declared_by keys → AreDistinct (map (λ (state : KeyState T Kind Op Delta). state.name) keys)
      → (k : ℕ) (d : KeyState T Kind Op Delta) → k < length keys → HasKey node (name_at keys k d) (get_or keys k d).kind
  has_key_at node keys declares distinct k d within = ((get_or keys k d).durable, declared_at node keys declares distinct k d within)

  pub undeclared_in : {Op' Shown' : Type 0} (node : nodes.Node Kind Op' Shown') (keys : List (KeyState T Kind Op Delta)) (key : Text) → node.keys ≡ map declared_by keys → find (λ (state : KeyState T Kind Op Delta). bytes_eq state.name key) keys ≡ None
      → find (λ (decl : nodes.KeyDecl Kind). bytes_eq decl.name key) node.keys ≡ None
  undeclared_in node keys key declares none = ap (find (λ (decl : nodes.KeyDecl Kind). bytes_eq decl.name key)) declares ∙ find-map (λ (decl : nodes.KeyDecl Kind). bytes_eq decl.name key) declared_by keys ∙ ap (option_map declared_by) none

  -- LEADING

  module _ (IsDataOf : T → History Op → VersionVector → IdentitySet → Type 0) (logs : Text → History Op) where
    leads_along : (base now next : Text → model.Entry Op) (state : KeyState T Kind Op Delta) (change : Option (Change T Kind Op Delta)) → next state.name ≡ now state.name → LeadsTo IsDataOf logs base now state change → LeadsTo IsDataOf logs base next state change
    leads_along base now next state None same leads = same ∙ leads
    leads_along base now next state (Some (Entry entry)) same leads = (leads.0, subst (λ (e : model.Entry Op). StandsFor IsDataOf (parts_of entry) (logs state.name) e) (sym same) leads.1)
    leads_along base now next state (Some (Flushed flushed)) same leads = absurd leads

    -- what a key's entry is in the course of a step
    pub stands_current : (base now : Text → model.Entry Op) (state : KeyState T Kind Op Delta) (change : Option (Change T Kind Op Delta)) → LeadsTo IsDataOf logs base now state change → StandsFor IsDataOf (parts_of state.entry) (logs state.name) (base state.name)
        → StandsFor IsDataOf (parts_of (current_of state change)) (logs state.name) (now state.name)
    stands_current base now state None leads held = subst (λ (e : model.Entry Op). StandsFor IsDataOf (parts_of state.entry) (logs state.name) e) (sym leads) held
    stands_current base now state (Some (Entry entry)) leads held = leads.1
    stands_current base now state (Some (Flushed flushed)) leads held = absurd leads

    pub leads_first : (base : Text → model.Entry Op) (keys : List (KeyState T Kind Op Delta)) (changes : List (Option (Change T Kind Op Delta))) → changes ≡ map (λ state. None) keys → AreMade (LeadsTo IsDataOf logs base base) keys changes
    leads_first base keys changes is = made_first (LeadsTo IsDataOf logs base base) keys changes is (λ k d within. refl)

    -- one key's entry is another, or stays
    pub leads_put : (base now next : Text → model.Entry Op) (keys : List (KeyState T Kind Op Delta)) (changes : List (Option (Change T Kind Op Delta))) (index : ℕ) (at : KeyState T Kind Op Delta) → index < length keys → at ≡ get_or keys index at
        → ((k : ℕ) (d : KeyState T Kind Op Delta) → k < length keys → k ≢ index → next (name_at keys k d) ≡ now (name_at keys k d))
        → StandsFor IsDataOf (parts_of at.entry) (logs at.name) (base at.name)
        → (taken : Option (Envelope T Kind Op Delta)) → StandsAfter IsDataOf (logs at.name) taken (now at.name) (next at.name)
        → AreMade (LeadsTo IsDataOf logs base now) keys changes → AreMade (LeadsTo IsDataOf logs base next) keys (put_at changes index taken)
    leads_put base now next keys changes index at within is others held None after made = record {
      one_each = made.one_each;
      made = λ k d e inside. leads_along base now next (get_or keys k d) (get_or changes k e) (elim (cases_eq k index) [
        | inl equal ↦
            let state : at ≡ get_or keys k d = is ∙ get_or_default keys index at d within ∙ ap (λ j. get_or keys j d) (sym equal) in
            subst (λ (s : KeyState T Kind Op Delta). next s.name ≡ now s.name) state after
        | inr other ↦ others k d inside other
      ]) (made.made k d e inside);
    }
    leads_put base now next keys changes index at within is others held (Some envelope) after made = record {
      one_each = length-set changes index (Some (Entry envelope)) ∙ made.one_each;
      made = λ k d e inside. elim (cases_eq k index) [
        | inl equal ↦
            let state : at ≡ get_or keys k d = is ∙ get_or_default keys index at d within ∙ ap (λ j. get_or keys j d) (sym equal) in
            let change : Some (Entry envelope) ≡ get_or (set changes index (Some (Entry envelope))) k e =
            sym (ap (λ j. get_or (set changes index (Some (Entry envelope))) j e) equal ∙ get_or-set_same changes index (Some (Entry envelope)) e (let l = made.one_each in omega arith)) in
            subst₂ (LeadsTo IsDataOf logs base next) state change (held, after)
        | inr other ↦ subst (LeadsTo IsDataOf logs base next (get_or keys k d)) (sym (get_or-set_other changes index k (Some (Entry envelope)) e other)) (leads_along base now next (get_or keys k d) (get_or changes k e) (others k d inside other) (made.made k d e inside))
      ];
    }

-- WHAT CHANGED

module _ {T Kind Op Delta : Type 0} (IsDataOf : T → History Op → VersionVector → IdentitySet → Type 0) (logs : Text → History Op) (old new : Text → model.Entry Op) where
  -- where nothing was taken, nothing changed
  pub unchanged_same : (state : KeyState T Kind Op Delta) → LeadsTo IsDataOf logs old new state None → false ≡ not (is_unchanged (old state.name) (new state.name))
  unchanged_same state same = sym (ap not (ap (is_unchanged (old state.name)) same ∙ is_unchanged-same (old state.name)))

  -- so it is where each that was written is as before
  pub none_changed : (keys : List (KeyState T Kind Op Delta)) (changes : List (Option (Change T Kind Op Delta))) (written : List (ChangeAt T Kind Op Delta)) → IsSparse changes written → AreMade (LeadsTo IsDataOf logs old new) keys changes
      → ((j : ℕ) (d : ChangeAt T Kind Op Delta) (state : KeyState T Kind Op Delta) → j < length written → is_changed_at old new (get_or keys (get_or written j d).index state) ≡ false) → list_any (is_changed_at old new) keys ≡ false
  none_changed keys changes written sparse made still = list_any_none (is_changed_at old new) keys (λ k d within. go k d within (get_or changes k None) refl)
    where
      go : (k : ℕ) (d : KeyState T Kind Op Delta) → k < length keys → (change : Option (Change T Kind Op Delta)) → get_or changes k None ≡ change → is_changed_at old new (get_or keys k d) ≡ false
      go k d within None is = sym (unchanged_same (get_or keys k d) (subst (LeadsTo IsDataOf logs old new (get_or keys k d)) is (made.made k d None within)))
      go k d within (Some change) is =
          let at = stands_at written k change (sym (sparse_at changes written sparse k None (let counted = made.one_each in omega arith)) ∙ is) in
          let one : ChangeAt T Kind Op Delta = record { index = k; change = change } in
          ap (λ j. is_changed_at old new (get_or keys j d)) (sym (at.at one)) ∙ still at.place one d at.within

-- GROUPS AND ENTRIES

-- where a key stands, and what is held of it in the course of a step
record IsPlace {T Kind Op Delta : Type 0} (kind_of : T → Kind) (IsDataOf : T → History Op → VersionVector → IdentitySet → Type 0) (kinds : Text → Kind) (logs : Text → History Op) (id : ℕ) (keys : List (KeyState T Kind Op Delta)) (key : Text)
    (now : Text → model.Entry Op) (index : ℕ) (at : KeyState T Kind Op Delta) (mine : Envelope T Kind Op Delta) : Type 0 where
  named : at.name ≡ key
  here : name_at keys index at ≡ at.name
  kind : kind_of mine.value ≡ kinds key
  unpruned : performed_in (parts_of mine).marks id ≡ false
  current : StandsFor IsDataOf (parts_of mine) (logs at.name) (now at.name)

module _ {T Kind Op Delta : Type 0} (kind_of : T → Kind) (IsDataOf : T → History Op → VersionVector → IdentitySet → Type 0) (kinds : Text → Kind) (logs : Text → History Op) (id : ℕ) (keys : List (KeyState T Kind Op Delta)) (view : ℕ)
    (entries : Text → model.Entry Op) (held : AreHeld kind_of IsDataOf kinds logs id keys entries) (changes : List (Option (Change T Kind Op Delta))) (kept : AreMade (IsKept kind_of id) keys changes) where
  place : (node : nodes.Node Kind Op Shown) → IsAtWork kind_of IsDataOf kinds logs id keys view entries changes node → (key : Text) (index : ℕ) (at : KeyState T Kind Op Delta) (change : Option (Change T Kind Op Delta))
      → IsFound (λ (state : KeyState T Kind Op Delta). bytes_eq state.name key) keys index → at ≡ get_or keys index at → change ≡ get_or changes index change → (mine : Envelope T Kind Op Delta) → mine ≡ current_of at change
      → IsPlace kind_of IsDataOf kinds logs id keys key node.entries index at mine
  place node work key index at change found is is' mine same =
      let here : name_at keys index at ≡ at.name = ap (λ (state : KeyState T Kind Op Delta). state.name) (sym is) in
      let named : at.name ≡ key = sym here ∙ bytes_eq-tells (name_at keys index at) key (found.passes at) in
      let own = made_at (IsKept kind_of id) keys changes index at change found.within is is' kept in
      let first = subst (λ (state : KeyState T Kind Op Delta). StandsForEntry kind_of IsDataOf kinds logs state.name state.entry (entries state.name)) (sym is) (held.held index at found.within) in
      record {
        named = named;
        here = here;
        kind = ap (λ (e : Envelope T Kind Op Delta). kind_of e.value) same ∙ own.kind ∙ first.kind ∙ ap kinds named;
        unpruned = ap (λ (e : Envelope T Kind Op Delta). performed_in (parts_of e).marks id) same ∙ own.unpruned (subst (λ (state : KeyState T Kind Op Delta). performed_in (parts_of state.entry).marks id ≡ false) (sym is) (held.unpruned index at found.within));
        current = subst (λ (e : Envelope T Kind Op Delta). StandsFor IsDataOf (parts_of e) (logs at.name) (node.entries at.name)) (sym same)
            (stands_current IsDataOf logs entries node.entries at change (made_at (LeadsTo IsDataOf logs entries node.entries) keys changes index at change found.within is is' work.leads) first.image);
      }

  -- the key's entry is another, the others stay
  moved : (node next : nodes.Node Kind Op Shown) → IsAtWork kind_of IsDataOf kinds logs id keys view entries changes node → next ≡ record node { entries = next.entries }
      → (index : ℕ) (at : KeyState T Kind Op Delta) → index < length keys → at ≡ get_or keys index at
      → ((k : ℕ) (d : KeyState T Kind Op Delta) → k < length keys → bytes_eq (name_at keys k d) at.name ≡ false → next.entries (name_at keys k d) ≡ node.entries (name_at keys k d))
      → (taken : Option (Envelope T Kind Op Delta)) → StandsAfter IsDataOf (logs at.name) taken (node.entries at.name) (next.entries at.name)
      → IsAtWork kind_of IsDataOf kinds logs id keys view entries (put_at changes index taken) next
  moved node next work only index at within is others taken after =
      let mine = subst (λ (state : KeyState T Kind Op Delta). StandsForEntry kind_of IsDataOf kinds logs state.name state.entry (entries state.name)) (sym is) (held.held index at within) in
      let here : name_at keys index at ≡ at.name = ap (λ (state : KeyState T Kind Op Delta). state.name) (sym is) in
      record {
        identity = ap (λ (n : nodes.Node Kind Op Shown). n.identity) only ∙ work.identity;
        viewed = ap (λ (n : nodes.Node Kind Op Shown). n.view.number) only ∙ work.viewed;
        declares = ap (λ (n : nodes.Node Kind Op Shown). n.keys) only ∙ work.declares;
        leads = leads_put IsDataOf logs entries node.entries next.entries keys changes index at within is
            (λ k d inside other. others k d inside (ap (bytes_eq (name_at keys k d)) (sym here) ∙ other_name keys held.distinct k index d at inside within other)) mine.image taken after work.leads;
      }

  -- A GROUP

  module _ {ghosts : Ghosts T Kind Op Delta} (so_far : AfterGroups Kind Op Shown) (work : IsAtWork kind_of IsDataOf kinds logs id keys view entries changes so_far.node) (keyed : Keyed (Group T Kind Op Delta ghosts)) (sent : sending.Keyed (model.Group Op))
      (s : StandsForKeyedGroup kinds logs keyed sent) where
    -- of no declared key
    pub group_passed : find (λ (state : KeyState T Kind Op Delta). bytes_eq state.name keyed.key) keys ≡ None → take_group so_far sent ≡ so_far
    group_passed none = take_group-undeclared so_far sent (undeclared_in so_far.node keys sent.key work.declares (ap (λ key. find (λ (state : KeyState T Kind Op Delta). bytes_eq state.name key) keys) s.same ∙ none))

    module _ (index : ℕ) (at : KeyState T Kind Op Delta) (change : Option (Change T Kind Op Delta)) (found : IsFound (λ (state : KeyState T Kind Op Delta). bytes_eq state.name keyed.key) keys index) (is : at ≡ get_or keys index at) (is' : change ≡ get_or changes index change)
        (mine : Envelope T Kind Op Delta) (same : mine ≡ current_of at change) (taken : GroupTaken T Kind Op Delta)
        (image : (log : History Op) (before : model.Entry Op) (theirs : model.Group Op) → ghosts.delta_fits_kind (kind_of mine.value) keyed.item.delta ≡ true → StandsFor IsDataOf (parts_of mine) log before
        → StandsForGroup ghosts.IsDeltaOf (group_parts keyed.item) log theirs
        → StandsAfter IsDataOf log taken.entry before (entry_after before theirs (judged_for id before theirs)) × (taken.lacking ≡ lacking_in (judged_for id before theirs))) where
      p : IsPlace kind_of IsDataOf kinds logs id keys keyed.key so_far.node.entries index at mine
      p = place so_far.node work keyed.key index at change found is is' mine same

      outcome : StandsAfter IsDataOf (logs at.name) taken.entry (so_far.node.entries at.name) (entry_after (so_far.node.entries at.name) sent.item (judged_for id (so_far.node.entries at.name) sent.item))
          × (taken.lacking ≡ lacking_in (judged_for id (so_far.node.entries at.name) sent.item))
      outcome =
          image (logs at.name) (so_far.node.entries at.name) sent.item (ap (λ kind. ghosts.delta_fits_kind kind keyed.item.delta) p.kind ∙ s.fits) p.current
          (subst (λ key. StandsForGroup ghosts.IsDeltaOf (group_parts keyed.item) (logs key) sent.item) (sym p.named) s.image)

      judges : Judges so_far (state_of so_far.node (declared_by at)) sent.item (judged_for id (so_far.node.entries at.name) sent.item) (take_group so_far sent)
      judges =
          subst (λ i. Judges so_far (state_of so_far.node (declared_by at)) sent.item (judged_for i (so_far.node.entries at.name) sent.item) (take_group so_far sent)) work.identity
          (take_group-judges so_far (declared_by at) sent
          (ap (λ key. find (λ (decl : nodes.KeyDecl Kind). bytes_eq decl.name key) so_far.node.keys) (s.same ∙ sym p.named ∙ sym p.here) ∙ declared_at so_far.node keys work.declares held.distinct index at found.within ∙ ap (λ (state : KeyState T Kind Op Delta). Some (declared_by state)) (sym is)))

      pub group_taken : IsAtWork kind_of IsDataOf kinds logs id keys view entries (put_at changes index taken.entry) (take_group so_far sent).node
      group_taken =
          moved so_far.node (take_group so_far sent).node work judges.only index at found.within is (λ k d inside other. judges.elsewhere (name_at keys k d) other) taken.entry
          (subst (StandsAfter IsDataOf (logs at.name) taken.entry (so_far.node.entries at.name)) (sym judges.here) outcome.0)

      pub group_gaps : map gap_told (take_group so_far sent).gaps ≡ map gap_told so_far.gaps ++ gaps_at keyed.key taken.lacking
      group_gaps = judges.gapped ∙ (λ i. map gap_told so_far.gaps ++ gaps_at (p.named i) (sym outcome.1 i))

  -- AN ENTRY

  module _ (node : nodes.Node Kind Op Shown) (work : IsAtWork kind_of IsDataOf kinds logs id keys view entries changes node) (keyed : Keyed (Envelope T Kind Op Delta)) (sent : sending.Keyed (model.Entry Op)) (s : StandsForKeyed kind_of IsDataOf kinds logs keyed sent) where
    -- of no declared key
    pub entry_passed : find (λ (state : KeyState T Kind Op Delta). bytes_eq state.name keyed.key) keys ≡ None → take_entry node sent ≡ node
    entry_passed none =
        ap (λ o. with_taken_entry node (option_map (state_of node) o) sent.item) (undeclared_in node keys sent.key work.declares (ap (λ key. find (λ (state : KeyState T Kind Op Delta). bytes_eq state.name key) keys) s.same ∙ none))

    module _ (exact : AreExactAt keys (take_entry node sent).entries) (index : ℕ) (at : KeyState T Kind Op Delta) (change : Option (Change T Kind Op Delta)) (found : IsFound (λ (state : KeyState T Kind Op Delta). bytes_eq state.name keyed.key) keys index) (is : at ≡ get_or keys index at)
        (is' : change ≡ get_or changes index change) (mine : Envelope T Kind Op Delta) (same : mine ≡ current_of at change) (taken : Option (Envelope T Kind Op Delta))
        (image : (log : History Op) (before other : model.Entry Op) → performed_in (parts_of mine).marks id ≡ false → kind_of mine.value ≡ kind_of keyed.item.value → StandsFor IsDataOf (parts_of mine) log before
        → StandsFor IsDataOf (parts_of keyed.item) log other → (is_entry_passed_over id before other ≡ false → IsExactlyPruned (union before.history other.history))
        → StandsAfter IsDataOf log taken before (if is_entry_passed_over id before other then before else seen_by id view (merged before other))) where
      here_is : (take_entry node sent).entries at.name ≡ (if is_entry_passed_over id (node.entries at.name) sent.item then node.entries at.name else seen_by id view (merged (node.entries at.name) sent.item))
      here_is =
          let p = place node work keyed.key index at change found is is' mine same in
          let has : HasKey node at.name at.kind = subst (λ (state : KeyState T Kind Op Delta). HasKey node state.name state.kind) (sym is) (has_key_at node keys work.declares held.distinct index at found.within) in
          let alike : bytes_eq at.name sent.key ≡ true = ap (bytes_eq at.name) (s.same ∙ sym p.named) ∙ bytes_eq-same at.name in
          take_entry-at node at.name at.kind has sent
          ∙ ap (λ b. if b then (if is_entry_passed_over node.identity (node.entries at.name) sent.item then node.entries at.name else seen_by node.identity node.view.number (merged (node.entries at.name) sent.item)) else node.entries at.name) alike
          ∙ (λ i. if is_entry_passed_over (work.identity i) (node.entries at.name) sent.item then node.entries at.name else seen_by (work.identity i) (work.viewed i) (merged (node.entries at.name) sent.item))

      elsewhere_is : (k : ℕ) (d : KeyState T Kind Op Delta) → k < length keys → bytes_eq (name_at keys k d) at.name ≡ false → (take_entry node sent).entries (name_at keys k d) ≡ node.entries (name_at keys k d)
      elsewhere_is k d inside other =
          let p = place node work keyed.key index at change found is is' mine same in
          let name = name_at keys k d in
          let apart : bytes_eq (name_at keys k d) sent.key ≡ false = ap (bytes_eq (name_at keys k d)) (s.same ∙ sym p.named) ∙ other in
          take_entry-at node name (get_or keys k d).kind (has_key_at node keys work.declares held.distinct k d inside) sent
          ∙ ap (λ b. if b then (if is_entry_passed_over node.identity (node.entries (name_at keys k d)) sent.item then node.entries (name_at keys k d) else seen_by node.identity node.view.number (merged (node.entries (name_at keys k d)) sent.item)) else node.entries (name_at keys k d)) apart

      pub entry_taken : IsAtWork kind_of IsDataOf kinds logs id keys view entries (put_at changes index taken) (take_entry node sent)
      entry_taken =
          let p = place node work keyed.key index at change found is is' mine same in
          let theirs : StandsFor IsDataOf (parts_of keyed.item) (logs at.name) sent.item = subst (λ key. StandsFor IsDataOf (parts_of keyed.item) (logs key) sent.item) (sym p.named) s.held.image in
          let exact_here : IsExactlyPruned ((take_entry node sent).entries at.name).history = subst (λ (state : KeyState T Kind Op Delta). IsExactlyPruned ((take_entry node sent).entries state.name).history) (sym is) (exact index at found.within) in
          let merges = λ (not_passed : is_entry_passed_over id (node.entries at.name) sent.item ≡ false). subst (λ (e : model.Entry Op). IsExactlyPruned e.history)
          (here_is ∙ ap (λ b. if b then node.entries at.name else seen_by id view (merged (node.entries at.name) sent.item)) not_passed) exact_here in
          moved node (take_entry node sent) work (take_entry-only node sent) index at found.within is elsewhere_is taken
          (subst (StandsAfter IsDataOf (logs at.name) taken (node.entries at.name)) (sym here_is)
          (image (logs at.name) (node.entries at.name) sent.item p.unpruned (p.kind ∙ sym s.held.kind) p.current theirs merges))

-- NOTHING YET

-- nothing was taken yet
pub work_first : {T Kind Op Delta : Type 0} (kind_of : T → Kind) (IsDataOf : T → History Op → VersionVector → IdentitySet → Type 0) (kinds : Text → Kind) (logs : Text → History Op) (id : ℕ) (keys : List (KeyState T Kind Op Delta)) (view : ℕ) (node : nodes.Node Kind Op Shown)
    → AreHeldBy kind_of IsDataOf kinds logs id keys view node → (changes : List (Option (Change T Kind Op Delta))) → changes ≡ map (λ state. None) keys → IsAtWork kind_of IsDataOf kinds logs id keys view node.entries changes node
work_first kind_of IsDataOf kinds logs id keys view node held changes is = record {
  identity = held.identity;
  viewed = held.viewed;
  declares = held.declares;
  leads = leads_first IsDataOf logs node.entries keys changes is;
}

-- WHAT IS PASSED OVER

module _ {T Kind Op Delta : Type 0} (ghosts : Ghosts T Kind Op Delta) (id : ℕ) (keys : List (KeyState T Kind Op Delta)) (changes : List (Option (Change T Kind Op Delta))) (kinds : AreOfTheirKinds ghosts.kind_of keys) (kept : AreMade (IsKept ghosts.kind_of id) keys changes)
    (key : Text) (index : ℕ) (at : KeyState T Kind Op Delta) (change : Option (Change T Kind Op Delta)) (found : IsFound (λ (state : KeyState T Kind Op Delta). bytes_eq state.name key) keys index) (is : at ≡ get_or keys index at) (is' : change ≡ get_or changes index change)
    (mine : Envelope T Kind Op Delta) (same : mine ≡ current_of at change) where
  mine_kind : ghosts.kind_of mine.value ≡ at.kind
  mine_kind = ap (λ (e : Envelope T Kind Op Delta). ghosts.kind_of e.value) same ∙ current_kind ghosts.kind_of id keys changes index at change found.within is is' kept kinds

  named_so : at.name ≡ key
  named_so = ap (λ (state : KeyState T Kind Op Delta). state.name) is ∙ bytes_eq-tells (name_at keys index at) key (found.passes at)

  -- an entry of another kind
  pub other_kind : (item : Envelope T Kind Op Delta) → IsEntryPassedOver ghosts keys (record { key = key; item = item }) → ghosts.kind_of mine.value ≢ ghosts.kind_of item.value
  other_kind item passed equal =
      subst (λ (state : KeyState T Kind Op Delta). state.name ≡ key → state.kind ≢ ghosts.kind_of item.value) (sym is) (passed index at found.within) named_so (sym mine_kind ∙ equal)

  -- a group of another kind
  pub other_delta : (item : Group T Kind Op Delta ghosts) → IsGroupPassedOver ghosts keys (record { key = key; item = item }) → ghosts.delta_fits_kind (ghosts.kind_of mine.value) item.delta ≡ false
  other_delta item passed =
      ap (λ kind. ghosts.delta_fits_kind kind item.delta) mine_kind
      ∙ subst (λ (state : KeyState T Kind Op Delta). state.name ≡ key → ghosts.delta_fits_kind state.kind item.delta ≡ false) (sym is) (passed index at found.within) named_so

-- EXACT PRUNES

module _ {T Kind Op Delta : Type 0} (kind_of : T → Kind) (IsDataOf : T → History Op → VersionVector → IdentitySet → Type 0) (kinds : Text → Kind) (logs : Text → History Op) (id : ℕ) (keys : List (KeyState T Kind Op Delta)) (view : ℕ)
    (base : Text → model.Entry Op) (held : AreHeld kind_of IsDataOf kinds logs id keys base) (changes : List (Option (Change T Kind Op Delta))) (mid : nodes.Node Kind Op Shown) (work : IsAtWork kind_of IsDataOf kinds logs id keys view base changes mid) where
  -- what is exactly pruned at the end is so after the next entry
  pub exact_before : (e : sending.Keyed (model.Entry Op)) (rest : List (sending.Keyed (model.Entry Op))) → IsTakenFrom (logs e.key) e.item.history → AreExactAt keys (after_entries (take_entry mid e) rest).entries → AreExactAt keys (take_entry mid e).entries
  exact_before e rest theirs exact k d within =
      let name = name_at keys k d in
      let has = has_key_at mid keys work.declares held.distinct k d within in
      let state : KeyState T Kind Op Delta = get_or keys k d in
      let change : Option (Change T Kind Op Delta) = get_or changes k None in
      let mine = (stands_current IsDataOf logs base mid.entries (get_or keys k d) (get_or changes k None) (work.leads.made k d None within) (held.held k d within).image).taken in
      exact_part (logs (name_at keys k d)) ((take_entry mid e).entries (name_at keys k d)).history ((after_entries (take_entry mid e) rest).entries (name_at keys k d)).history
      (taken_one mid (name_at keys k d) (get_or keys k d).kind has e logs mine theirs)
      (grows rest (take_entry mid e) (name_at keys k d) (get_or keys k d).kind (has_still mid (name_at keys k d) (get_or keys k d).kind e has)) (exact k d within)

-- ENTRIES THAT ARE ASKED FOR

module _ {Kind Op : Type 0} (D : Replication Kind Op Shown) (names : List Text) where
  abbrev pub is_asked : nodes.KeyState Kind Op → Bool
  is_asked k = contains_text names k.name && has_records k.entry

  one_named : (k : nodes.KeyState Kind Op) (b : Bool) → is_asked k ≡ b → map keyed_entry (filter is_asked (k ∷ [])) ≡ (if b then keyed_entry k ∷ [] else [])
  one_named k b is = ap (λ x. map keyed_entry (if x then k ∷ [] else [])) is ∙ go b
    where
      go : (b : Bool) → map keyed_entry (if b then k ∷ [] else []) ≡ (if b then keyed_entry k ∷ [] else [])
      go true = refl
      go false = refl

-- where none is named, none is sent
asks_none : {Kind Op : Type 0} (D : Replication Kind Op Shown) (ks : List (nodes.KeyState Kind Op)) → filter (is_asked D []) ks ≡ []
asks_none D [] = refl
asks_none D (k ∷ ks) = asks_none D ks

pub names_none : {Kind Op : Type 0} (D : Replication Kind Op Shown) (node : nodes.Node Kind Op Shown) (names : List Text) → names ≡ [] → named_entries D node names ≡ []
names_none D node names none = ap (named_entries D node) none ∙ ap (map keyed_entry) (asks_none D (key_states node))

module _ {T Kind Op Delta : Type 0} (D : Replication Kind Op Shown) (node : nodes.Node Kind Op Shown) (names : List Text) where
  abbrev state_in : KeyState T Kind Op Delta → nodes.KeyState Kind Op
  state_in state = state_of node (declared_by state)

  -- those of these keys
  abbrev pub named_of : List (KeyState T Kind Op Delta) → List (sending.Keyed (model.Entry Op))
  named_of keys = map keyed_entry (filter (is_asked D names) (map state_in keys))

  pub named_all : (keys : List (KeyState T Kind Op Delta)) → node.keys ≡ map declared_by keys → named_of keys ≡ named_entries D node names
  named_all keys declares = ap (λ ks. map keyed_entry (filter (is_asked D names) ks)) (sym (ap (map (state_of node)) declares ∙ map-map (state_of node) declared_by keys))

  named_more : (keys : List (KeyState T Kind Op Delta)) (state : KeyState T Kind Op Delta) (b : Bool) → is_asked D names (state_of node (declared_by state)) ≡ b
      → named_of (keys ++ state ∷ []) ≡ named_of keys ++ (if b then keyed_entry (state_of node (declared_by state)) ∷ [] else [])
  named_more keys state b is =
      ap (λ ks. map keyed_entry (filter (is_asked D names) ks)) (map-append state_in keys (state ∷ []))
      ∙ ap (map keyed_entry) (filter-append (is_asked D names) (map state_in keys) (state_in state ∷ []))
      ∙ map-append keyed_entry (filter (is_asked D names) (map state_in keys)) (filter (is_asked D names) (state_in state ∷ []))
      ∙ ap (λ xs. map keyed_entry (filter (is_asked D names) (map state_in keys)) ++ xs) (one_named D names (state_in state) b is)

  pub named_one : (keys : List (KeyState T Kind Op Delta)) (state : KeyState T Kind Op Delta) → is_asked D names (state_of node (declared_by state)) ≡ true
      → named_of (keys ++ state ∷ []) ≡ named_of keys ++ keyed_entry (state_of node (declared_by state)) ∷ []
  named_one keys state is = named_more keys state true is

  pub named_none : (keys : List (KeyState T Kind Op Delta)) (state : KeyState T Kind Op Delta) → is_asked D names (state_of node (declared_by state)) ≡ false → named_of (keys ++ state ∷ []) ≡ named_of keys
  named_none keys state is = named_more keys state false is ∙ append-nil (named_of keys)

-- an entry of a key in the course of a step
module _ {T Kind Op Delta : Type 0} (kind_of : T → Kind) (IsDataOf : T → History Op → VersionVector → IdentitySet → Type 0) (kinds : Text → Kind) (logs : Text → History Op) (id : ℕ) (keys : List (KeyState T Kind Op Delta)) (view : ℕ) (entries : Text → model.Entry Op)
    (held : AreHeld kind_of IsDataOf kinds logs id keys entries) (changes : List (Option (Change T Kind Op Delta))) (kept : AreMade (IsKept kind_of id) keys changes) (node : nodes.Node Kind Op Shown) (work : IsAtWork kind_of IsDataOf kinds logs id keys view entries changes node)
    (index : ℕ) (at : KeyState T Kind Op Delta) (change : Option (Change T Kind Op Delta)) (within : index < length keys) (is : at ≡ get_or keys index at) (is' : change ≡ get_or changes index change) (mine : Envelope T Kind Op Delta) (same : mine ≡ current_of at change) where
  pub entry_now : StandsForEntry kind_of IsDataOf kinds logs at.name mine (node.entries at.name)
  entry_now =
      let own = made_at (IsKept kind_of id) keys changes index at change within is is' kept in
      let first = subst (λ (state : KeyState T Kind Op Delta). StandsForEntry kind_of IsDataOf kinds logs state.name state.entry (entries state.name)) (sym is) (held.held index at within) in
      subst (λ (e : Envelope T Kind Op Delta). StandsForEntry kind_of IsDataOf kinds logs at.name e (node.entries at.name)) (sym same) (record {
        kind = own.kind ∙ first.kind;
        image = stands_current IsDataOf logs entries node.entries at change (made_at (LeadsTo IsDataOf logs entries node.entries) keys changes index at change within is is' work.leads) first.image;
      })

  pub keyed_now : (keyed : Keyed (Envelope T Kind Op Delta)) → keyed.key ≡ at.name → keyed.item ≡ mine → StandsForKeyed kind_of IsDataOf kinds logs keyed (record { key = at.name; item = node.entries at.name })
  keyed_now keyed key item = record {
    same = sym key;
    held = subst (λ (k : Text). StandsForEntry kind_of IsDataOf kinds logs k keyed.item (node.entries at.name)) (sym key) (subst (λ (e : Envelope T Kind Op Delta). StandsForEntry kind_of IsDataOf kinds logs at.name e (node.entries at.name)) (sym item) entry_now);
  }
