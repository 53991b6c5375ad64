-- What a message of whole entries does to a member.
use Rattle.std.proofs.Common.{◌≡◌, ℕ, List, [], ◌∷◌, length, refl, sym, ap, ◌∙◌, subst, arith, Bool, true, false, not, ◌&&◌, ◌||◌, Option, Some, None}
use Rattle.std.specs.Prelude.{if◌then◌else◌, option_map, find, fold, map, filter, nat_lt, ◌==◌}
use Rattle.std.specs.List.{list_any, list_all}
use Rattle.std.specs.Str.{bytes_eq}
use Rattle.std.proofs.lemmas.Bool.{eq-eqb}
use Rattle.model_history.specs.Table.{identities}
use Rattle.model_history.specs.Texts.{Text}
use Rattle.model_history.specs.Vector.{IdentitySet}
use Rattle.model_members.specs.View.{is_member}
use Rattle.model_members.specs.Entry.{Entry, Mark, merged, seen_by, same_set, is_same_mark, is_unchanged}
use Rattle.model_members.specs.DataType.{Replication}
use Rattle.model_members.specs.Message.{Keyed, Message}
use Rattle.model_members.specs.Node.{KeyDecl, KeyState, Node, Input, Fate, HasKey, state_of, key_state, with_entry, one_step_later}
use Rattle.model_members.specs.Node.Reply.{NotFromMember, Taken, Already}
use Rattle.model_members.specs.Step.{step, is_entry_passed_over, take_entry, after_entries, is_changed, answered, step_of_take}
use Rattle.model_history.proofs.PruneLaws.{found}
use Rattle.std.proofs.lemmas.Bool.Decides.{nat_tests}
use Rattle.model_members.proofs.Steps.{IsQuiet, bytes_eq-same, bytes_eq-tells, with_text_at-same}
use Rattle.model_members.proofs.Cases.{with_taken_entry}

-- THE ENTRY OF A KEY

-- a key's entry after a message's entry: one of another key, or a strange one, changes nothing
abbrev pub taken_entry : {Op : Type 0} → ℕ → ℕ → Text → Entry Op → Keyed (Entry Op) → Entry Op
taken_entry i view key mine e =
    if bytes_eq key e.key then (if is_entry_passed_over i mine e.item then mine else seen_by i view (merged mine e.item)) else mine

abbrev names : {Kind : Type 0} → Text → KeyDecl Kind → Bool
names key decl = bytes_eq decl.name key

module _ {Kind Op Shown : Type 0} where
  -- nothing but entries changes
  pub take_entry-only : (node : Node Kind Op Shown) (e : Keyed (Entry Op)) → take_entry node e ≡ record node { entries = (take_entry node e).entries }
  take_entry-only node e = by_state (key_state node e.key)
    where
      by_test : (k : KeyState Kind Op) (b : Bool) → (if b then node else with_entry node k.name (seen_by node.identity node.view.number (merged k.entry e.item)))
          ≡ record node { entries = (if b then node else with_entry node k.name (seen_by node.identity node.view.number (merged k.entry e.item))).entries }
      by_test k true = refl
      by_test k false = refl

      by_state : (o : Option (KeyState Kind Op)) → with_taken_entry node o e.item ≡ record node { entries = (with_taken_entry node o e.item).entries }
      by_state None = refl
      by_state (Some k) = by_test k (is_entry_passed_over node.identity k.entry e.item)

  pub after_entries-only : (es : List (Keyed (Entry Op))) (node : Node Kind Op Shown) → after_entries node es ≡ record node { entries = (after_entries node es).entries }
  after_entries-only [] node = refl
  after_entries-only (e ∷ es) node =
      let one = take_entry-only node e in
      let rest = after_entries-only es (take_entry node e) in
      rest ∙ λ i. record (one i) { entries = (after_entries (take_entry node e) es).entries }

  -- an entry of the key
  here : (node : Node Kind Op Shown) (name : Text) (kind : Kind) → HasKey node name kind → (item : Entry Op)
      → (take_entry node (record { key = name; item = item })).entries name ≡ taken_entry node.identity node.view.number name (node.entries name) (record { key = name; item = item })
  here node name kind has item =
      ap (λ o. (with_taken_entry node (option_map (state_of node) o) item).entries name) has.1
      ∙ by_test (is_entry_passed_over node.identity (node.entries name) item)
      ∙ sym (ap (λ b. if b then (if is_entry_passed_over node.identity (node.entries name) item then node.entries name else seen) else node.entries name) (bytes_eq-same name))
    where
      seen : Entry Op
      seen = seen_by node.identity node.view.number (merged (node.entries name) item)

      by_test : (b : Bool) → (if b then node else with_entry node name (seen_by node.identity node.view.number (merged (node.entries name) item))).entries name
          ≡ (if b then node.entries name else seen_by node.identity node.view.number (merged (node.entries name) item))
      by_test true = refl
      by_test false = with_text_at-same node.entries name (seen_by node.identity node.view.number (merged (node.entries name) item))

  -- an entry of another key
  elsewhere : (node : Node Kind Op Shown) (name : Text) (e : Keyed (Entry Op)) → bytes_eq name e.key ≡ false → (take_entry node e).entries name ≡ node.entries name
  elsewhere node name e other = by_search (find (names e.key) node.keys) refl
    where
      by_test : (decl : KeyDecl Kind) (b : Bool) → bytes_eq name decl.name ≡ false
          → (if b then node else with_entry node decl.name (seen_by node.identity node.view.number (merged (node.entries decl.name) e.item))).entries name ≡ node.entries name
      by_test decl true apart = refl
      by_test decl false apart = ap (λ b. if b then seen_by node.identity node.view.number (merged (node.entries decl.name) e.item) else node.entries name) apart

      by_search : (o : Option (KeyDecl Kind)) → find (names e.key) node.keys ≡ o → (with_taken_entry node (option_map (state_of node) o) e.item).entries name ≡ node.entries name
      by_search None is = refl
      by_search (Some decl) is =
          let same : decl.name ≡ e.key = bytes_eq-tells decl.name e.key (found (names e.key) node.keys decl is) in
          by_test decl (is_entry_passed_over node.identity (node.entries decl.name) e.item) (ap (bytes_eq name) same ∙ other)

  pub take_entry-at : (node : Node Kind Op Shown) (name : Text) (kind : Kind) → HasKey node name kind → (e : Keyed (Entry Op))
      → (take_entry node e).entries name ≡ taken_entry node.identity node.view.number name (node.entries name) e
  take_entry-at node name kind has e = by_test (bytes_eq name e.key) refl
    where
      by_test : (b : Bool) → bytes_eq name e.key ≡ b → (take_entry node e).entries name ≡ taken_entry node.identity node.view.number name (node.entries name) e
      by_test true is =
          subst (λ key. (take_entry node (record { key = key; item = e.item })).entries name ≡ taken_entry node.identity node.view.number name (node.entries name) (record { key = key; item = e.item }))
          (bytes_eq-tells name e.key is) (here node name kind has e.item)
      by_test false is =
          elsewhere node name e is
          ∙ sym (ap (λ b. if b then (if is_entry_passed_over node.identity (node.entries name) e.item then node.entries name else seen_by node.identity node.view.number (merged (node.entries name) e.item)) else node.entries name) is)

  still_has : (node : Node Kind Op Shown) (name : Text) (kind : Kind) → HasKey node name kind → (e : Keyed (Entry Op)) → HasKey (take_entry node e) name kind
  still_has node name kind has e = (has.0, ap (λ (n : Node Kind Op Shown). find (names name) n.keys) (take_entry-only node e) ∙ has.1)

  -- the entry of a declared key after all of a message's entries
  pub after_entries-at : (es : List (Keyed (Entry Op))) (node : Node Kind Op Shown) (name : Text) (kind : Kind) → HasKey node name kind
      → (after_entries node es).entries name ≡ fold (taken_entry node.identity node.view.number name) (node.entries name) es
  after_entries-at [] node name kind has = refl
  after_entries-at (e ∷ es) node name kind has =
      let only = take_entry-only node e in
      after_entries-at es (take_entry node e) name kind (still_has node name kind has e)
      ∙ ap (λ (n : Node Kind Op Shown). fold (taken_entry n.identity n.view.number name) ((take_entry node e).entries name) es) only
      ∙ ap (λ (x : Entry Op). fold (taken_entry node.identity node.view.number name) x es) (take_entry-at node name kind has e)

-- WHETHER AN ENTRY CHANGED

all_true : {X : Type 0} (p : X → Bool) → ((x : X) → p x ≡ true) → (xs : List X) → list_all p xs ≡ true
all_true p each [] = refl
all_true p each (x ∷ xs) = ap (λ b. b && list_all p xs) (each x) ∙ all_true p each xs

same_member : (b : Bool) → (if b then b else not b) ≡ true
same_member true = refl
same_member false = refl

pub same_set-same : (set : IdentitySet) → same_set set set ≡ true
same_set-same set = all_true (λ i. if set i then set i else not (set i)) (λ i. same_member (set i)) identities

is_same_mark-same : (o : Option Mark) → is_same_mark o o ≡ true
is_same_mark-same None = refl
is_same_mark-same (Some mark) = ap (λ b. b && (mark.owner == mark.owner) && same_set mark.seen mark.seen) (eq-eqb mark.view mark.view refl) ∙ ap (λ b. b && same_set mark.seen mark.seen) (eq-eqb mark.owner mark.owner refl) ∙ same_set-same mark.seen

pub is_unchanged-same : {Op : Type 0} (entry : Entry Op) → is_unchanged entry entry ≡ true
is_unchanged-same entry =
    all_true _ (λ i. ap (λ b. b && is_same_mark (entry.marks i) (entry.marks i)) (eq-eqb (length (entry.history i)) (length (entry.history i)) refl) ∙ is_same_mark-same (entry.marks i)) identities

some_left : {X Y : Type 0} (p : Y → Bool) (f : X → Y) (xs : List X) → nat_lt 0 (length (filter p (map f xs))) ≡ list_any (λ x. p (f x)) xs
some_left p f [] = refl
some_left p f (x ∷ xs) = go (p (f x)) (some_left p f xs)
  where
    go : (b : Bool) → nat_lt 0 (length (filter p (map f xs))) ≡ list_any (λ x. p (f x)) xs → nat_lt 0 (length (if b then f x ∷ filter p (map f xs) else filter p (map f xs))) ≡ (b || list_any (λ x. p (f x)) xs)
    go true rest = grind (arith, nat_tests)
    go false rest = rest

-- whether some declared key's entry is another
pub is_changed-any : {Kind Op Shown : Type 0} (old new : Node Kind Op Shown) → is_changed old new ≡ list_any (λ (decl : KeyDecl Kind). not (is_unchanged (old.entries decl.name) (new.entries decl.name))) new.keys
is_changed-any {Kind} {Op} old new = some_left (λ (k : KeyState Kind Op). not (is_unchanged (old.entries k.name) k.entry)) (state_of new) new.keys

-- THE STEP

module _ {Kind Op Shown : Type 0} (D : Replication Kind Op Shown) (node : Node Kind Op Shown) (from : ℕ) where
  -- a message from no member
  pub step-take-stranger : (message : Message Op) (fate : Fate) → is_member node.view from ≡ false → step D node (Input.Take from message) fate ≡ answered (one_step_later node) NotFromMember
  step-take-stranger message fate no_member = ap (λ b. if b then step_of_take D (one_step_later node) from fate message else answered (one_step_later node) NotFromMember) no_member

  -- whole entries from a member
  pub step-take-entries : (entries : List (Keyed (Entry Op))) → is_member node.view from ≡ true
      → step D node (Input.Take from (Message.Deltas [] entries)) Fate.NoStore
      ≡ answered (after_entries (one_step_later node) entries) (if not (is_changed (one_step_later node) (after_entries (one_step_later node) entries)) then Already else Taken)
  step-take-entries entries member = ap (λ b. if b then step_of_take D (one_step_later node) from Fate.NoStore (Message.Deltas [] entries) else answered (one_step_later node) NotFromMember) member

  -- taking whole entries sends nothing
  pub step-take-quiet : (entries : List (Keyed (Entry Op))) (fate : Fate) → IsQuiet (step D node (Input.Take from (Message.Deltas [] entries)) fate)
  step-take-quiet entries fate = go (is_member node.view from)
    where
      go : (b : Bool) → IsQuiet (if b then step_of_take D (one_step_later node) from fate (Message.Deltas [] entries) else answered (one_step_later node) NotFromMember)
      go true = record { posts = refl; ended = refl }
      go false = record { posts = refl; ended = refl }
