-- One more key among the keys of a member.
-- A list with one element more at a place.
--     insert_all        what holds of each element, and of the new one
--     map-insert        the list mapped
--     insert_distinct        names that differ, with another one
-- The place of a key.
--     place_within        it is within the list
--     key_placed        the keys that are declared, with one more at that place
-- A member with one more key.
--     undeclared_names        a name that is not declared is no key's
--     stands_declaring        what it stands for
use Rattle.std.proofs.Common.{◌≡◌, ◌≢◌, ℕ, zero, suc, ◌+◌, ◌*◌, ◌<◌, ◌≤◌, List, [], ◌∷◌, length, map, get_or, Bool, true, false, if◌then◌else◌, cond, not, Option, None, Some, unwrap_or, find, option_map, position, slice_get, bytes_eq, refl, sym, ap, subst, ◌∙◌, arith, All}
use Rattle.std.specs.Prelude.{insert}
use Rattle.std.proofs.lemmas.List.Elements.{All-cons}
use Rattle.model_history.specs.Texts.{text_lt}
use Rattle.model_history.specs.History.{IsHistory}
use Rattle.model_members.proofs.Steps.{bytes_eq-same}
use Rattle.model_members.specs.Entry.{Entry}
use Rattle.model_members.specs.Node as nodes
use Rattle.model_members.specs.Node.{with_key}
use Rattle.base_vectors.proofs.Laws.{number_at-empty}
use Rattle.member_node.specs.Declaring.{declaring, declaration_of, place_for, LacksKey}
use Rattle.member_node.specs.declared.key.KeyDecl.{KeyDecl}
use Rattle.member_node.specs.declared.operation.Operation.{Operation}
use Rattle.member_node.specs.Keys.{declared}
use Rattle.member_node.proofs.Common.{Text, VersionVector, IdentitySet, History, Numbers, number_at, Shown, Ghosts, Keeping, StandsFor, parts_of, StandsForLog, Node, KeyState, AreDistinct, declared_by, StandsForKey, StandsForNode, IsFresh, known, StandForOperations, AreOwned, performed_in}
use Rattle.member_node.specs.Own.{IsLogged}
use Rattle.member_node.proofs.Lists.{IsFound}
use Rattle.member_node.proofs.Standing.{find-map, few_fresh, unpruned_fresh, logged_fresh, kinds_fresh}

-- A LIST WITH ONE ELEMENT MORE

module _ {X : Type 0} (P : X → Type 0) where
  pub insert_all : (xs : List X) (place : ℕ) (x : X) → All P xs → P x → All P (insert xs place x)
  insert_all xs zero x all here = All-cons P x xs here all
  insert_all [] (suc place) x all here = All-cons P x [] here all
  insert_all (y ∷ xs) (suc place) x all here = All-cons P y (insert xs place x) (all 0 y (omega arith)) (insert_all xs place x (λ k d within. all (suc k) d (omega arith)) here)

pub map-insert : {X Y : Type 0} (f : X → Y) (xs : List X) (place : ℕ) (x : X) → map f (insert xs place x) ≡ insert (map f xs) place (f x)
map-insert f xs zero x = refl
map-insert f [] (suc place) x = refl
map-insert f (y ∷ xs) (suc place) x = ap (λ ys. f y ∷ ys) (map-insert f xs place x)

-- NAMES THAT DIFFER

-- none of the names is this
abbrev pub IsNone : Text → List Text → Type 0
IsNone x ys = (i : ℕ) → slice_get ys i ≡ Some x → ⊥

distinct_head : (x : Text) (ys : List Text) → AreDistinct (x ∷ ys) → IsNone x ys
distinct_head x ys apart i e = let s = apart zero (suc i) x refl e in omega (arith, s)

distinct_tail : (x : Text) (ys : List Text) → AreDistinct (x ∷ ys) → AreDistinct ys
distinct_tail x ys apart i j n e f = let s = apart (suc i) (suc j) n e f in omega (arith, s)

distinct_cons : (x : Text) (ys : List Text) → IsNone x ys → AreDistinct ys → AreDistinct (x ∷ ys)
distinct_cons x ys none apart zero zero n e f = refl
distinct_cons x ys none apart zero (suc j) n e f = absurd (none j (f ∙ sym e))
distinct_cons x ys none apart (suc i) zero n e f = absurd (none i (e ∙ sym f))
distinct_cons x ys none apart (suc i) (suc j) n e f = ap suc (apart i j n e f)

none_tail : (x y : Text) (ys : List Text) → IsNone x (y ∷ ys) → IsNone x ys
none_tail x y ys none i e = none (suc i) e

none_head : (x y : Text) (ys : List Text) → IsNone x (y ∷ ys) → y ≢ x
none_head x y ys none e = none zero (ap Some e)

none_cons : (x y : Text) (ys : List Text) → y ≢ x → IsNone x ys → IsNone x (y ∷ ys)
none_cons x y ys other none zero e = other (cc e)
none_cons x y ys other none (suc i) e = none i e

none_insert : (x y : Text) (ys : List Text) (place : ℕ) → y ≢ x → IsNone x ys → IsNone x (insert ys place y)
none_insert x y ys zero other none = none_cons x y ys other none
none_insert x y [] (suc place) other none = none_cons x y [] other none
none_insert x y (z ∷ ys) (suc place) other none = none_cons x z (insert ys place y) (none_head x z ys none) (none_insert x y ys place other (none_tail x z ys none))

pub insert_distinct : (x : Text) (ys : List Text) (place : ℕ) → IsNone x ys → AreDistinct ys → AreDistinct (insert ys place x)
insert_distinct x ys zero none apart = distinct_cons x ys none apart
insert_distinct x [] (suc place) none apart = distinct_cons x [] none apart
insert_distinct x (y ∷ ys) (suc place) none apart =
    distinct_cons y (insert ys place x) (none_insert y x ys place (λ e. none_head x y ys none (sym e)) (distinct_head y ys apart)) (insert_distinct x ys place (none_tail x y ys none) (distinct_tail y ys apart))

-- THE PLACE OF A KEY

module _ {T Kind Op Delta : Type 0} where
  pub place_within : (key : Text) (keys : List (KeyState T Kind Op Delta)) → place_for key keys ≤ length keys
  place_within key [] = omega arith
  place_within key (state ∷ keys) = go (text_lt key state.name) (place_within key keys)
    where
      go : (b : Bool) → place_for key keys ≤ length keys → cond (not b) (1 + place_for key keys) 0 ≤ suc (length keys)
      go true rest = omega arith
      go false rest = omega arith

  first_placed : (decl : nodes.KeyDecl Kind) (keys : List (KeyState T Kind Op Delta)) → with_key decl (map declared_by keys) ≡ insert (map declared_by keys) (place_for decl.name keys) decl
  first_placed decl [] = refl
  first_placed decl (state ∷ keys) = go (text_lt decl.name state.name) (first_placed decl keys)
    where
      rest : List (nodes.KeyDecl Kind)
      rest = map declared_by keys

      place : ℕ
      place = place_for decl.name keys

      go : (b : Bool) → with_key decl rest ≡ insert rest place decl
          → (if b then decl ∷ declared_by state ∷ rest else declared_by state ∷ with_key decl rest) ≡ insert (declared_by state ∷ rest) (cond (not b) (1 + place) 0) decl
      go true same = refl
      go false same = ap (λ ks. declared_by state ∷ ks) same ∙ ap (λ n. insert (declared_by state ∷ rest) n decl) one
        where
          one : suc place ≡ 1 + place
          one = omega arith

  -- where none has a later name
  pub place_past : (key : Text) (keys : List (KeyState T Kind Op Delta)) → All (λ state. text_lt key state.name ≡ false) keys → length keys ≡ place_for key keys
  place_past key [] none = refl
  place_past key (state ∷ keys) none =
      let rest = place_past key keys (λ k d within. none (suc k) d (omega arith)) in
      let more : suc (length keys) ≡ 1 + place_for key keys = omega (arith, rest) in
      more ∙ sym (ap (λ b. cond (not b) (1 + place_for key keys) 0) (none 0 state (omega arith)))

  pub key_placed : (decl : KeyDecl T Kind Op Delta) (state : KeyState T Kind Op Delta) (keys : List (KeyState T Kind Op Delta)) → declared_by state ≡ declared decl
      → map declared_by (insert keys (place_for state.name keys) state) ≡ with_key (declared decl) (map declared_by keys)
  key_placed decl state keys is =
      map-insert declared_by keys (place_for state.name keys) state
      ∙ sym (first_placed (declared_by state) keys) ∙ ap (λ d. with_key d (map declared_by keys)) is

  -- a name that isn't found is no key's
  pub undeclared_names : (key : Text) (keys : List (KeyState T Kind Op Delta)) → find (λ (state : KeyState T Kind Op Delta). bytes_eq state.name key) keys ≡ None → IsNone key (map (λ (state : KeyState T Kind Op Delta). state.name) keys)
  undeclared_names key [] none i e = absurd (cc e)
  undeclared_names key (state ∷ keys) none i e = go (bytes_eq state.name key) refl none i e (undeclared_names key keys)
    where
      rest : Option (KeyState T Kind Op Delta)
      rest = find (λ (s : KeyState T Kind Op Delta). bytes_eq s.name key) keys

      go : (b : Bool) → bytes_eq state.name key ≡ b → (if b then Some state else rest) ≡ None → (i : ℕ) → slice_get (map (λ (s : KeyState T Kind Op Delta). s.name) (state ∷ keys)) i ≡ Some key
          → (rest ≡ None → IsNone key (map (λ (s : KeyState T Kind Op Delta). s.name) keys)) → ⊥
      go true is none i e later = absurd (cc none)
      go false is none zero e later =
          let same : state.name ≡ key = cc e in
          absurd (cc (sym is ∙ ap (λ name. bytes_eq name key) same ∙ bytes_eq-same key))
      go false is none (suc i) e later = later none i e

  -- how a key is declared, by its place
  pub declared_so : (key : Text) (keys : List (KeyState T Kind Op Delta)) (index : ℕ) (at : KeyState T Kind Op Delta) → IsFound (λ (state : KeyState T Kind Op Delta). bytes_eq state.name key) keys index → at ≡ get_or keys index at
      → declaration_of key keys ≡ Some (declared_by at)
  declared_so key keys index at found is =
      find-map (λ (decl : nodes.KeyDecl Kind). bytes_eq decl.name key) declared_by keys ∙ ap (option_map declared_by) (found.found at) ∙ ap (λ (state : KeyState T Kind Op Delta). Some (declared_by state)) (sym is)

  pub undeclared_so : (key : Text) (keys : List (KeyState T Kind Op Delta)) → find (λ (state : KeyState T Kind Op Delta). bytes_eq state.name key) keys ≡ None → declaration_of key keys ≡ None
  undeclared_so key keys none = find-map (λ (decl : nodes.KeyDecl Kind). bytes_eq decl.name key) declared_by keys ∙ ap (option_map declared_by) none

-- A MEMBER WITH ONE MORE KEY

-- the operations are those of the member without the key
operates_declaring : {Kind Op : Type 0} (operations : List Operation) (decl : nodes.KeyDecl Kind) (node : nodes.Node Kind Op Shown) → StandForOperations operations node → StandForOperations operations (declaring decl node)
operates_declaring operations decl node s = record { open_ones = s.open_ones; finished = s.finished; next = s.next }

-- what a member keeps of its keys, it keeps of one more
pub owned_more : {T Kind Op Delta : Type 0} (ghosts : Ghosts T Kind Op Delta) (id steps place : ℕ) (keys : List (KeyState T Kind Op Delta)) (state : KeyState T Kind Op Delta) → AreOwned ghosts id steps keys → IsFresh ghosts.kind_of ghosts.IsDataOf ghosts.IsDeltaOf id state
    → find (λ (s : KeyState T Kind Op Delta). bytes_eq s.name state.name) keys ≡ None → AreOwned ghosts id steps (insert keys place state)
owned_more {T} {Kind} {Op} {Delta} ghosts id steps place keys state owned fresh none =
    let one = All-cons (IsFresh ghosts.kind_of ghosts.IsDataOf ghosts.IsDeltaOf id) state [] fresh (λ k d within. absurd (omega arith)) in
    let here = λ (P : KeyState T Kind Op Delta → Type 0) (all : All P keys) (alone : All P (state ∷ [])). insert_all P keys place state all (alone 0 state (omega arith)) in
    record {
      few = here (λ s. number_at (parts_of s.entry).versions id ≤ 255 * steps) owned.few (few_fresh ghosts.kind_of ghosts.IsDataOf ghosts.IsDeltaOf id (state ∷ []) one steps);
      unpruned = here (λ s. performed_in (parts_of s.entry).marks id ≡ false) owned.unpruned (unpruned_fresh ghosts.kind_of ghosts.IsDataOf ghosts.IsDeltaOf id (state ∷ []) one);
      logged = here (IsLogged ghosts.kind_of id) owned.logged (logged_fresh ghosts.kind_of ghosts.IsDataOf ghosts.IsDeltaOf id (state ∷ []) one);
      of_kinds = here (λ s. ghosts.kind_of s.entry.value ≡ s.kind) owned.of_kinds (kinds_fresh ghosts.kind_of ghosts.IsDataOf ghosts.IsDeltaOf id (state ∷ []) one);
      distinct = subst AreDistinct (sym (map-insert (λ (s : KeyState T Kind Op Delta). s.name) keys place state)) (insert_distinct state.name (map (λ (s : KeyState T Kind Op Delta). s.name) keys) place (undeclared_names state.name keys none) owned.distinct);
    }

module _ {T Kind Op Delta : Type 0} (ghosts : Ghosts T Kind Op Delta) (kinds : Text → Kind) (logs : Text → History Op) where
  -- a key without records stands for one that the model's member lacks
  stands_fresh : (id : ℕ) (decl : KeyDecl T Kind Op Delta) (state : KeyState T Kind Op Delta) (node : nodes.Node Kind Op Shown) → ((key : Text) → IsHistory (logs key)) → kinds decl.key ≡ decl.kind → LacksKey decl.key node
      → declared_by state ≡ declared decl → IsFresh ghosts.kind_of ghosts.IsDataOf ghosts.IsDeltaOf id state
      → StandsForKey ghosts.kind_of ghosts.IsDataOf ghosts.IsDeltaOf kinds logs state (node.entries state.name) (node.flushed state.name)
  stands_fresh id decl state node histories kind lacks is fresh =
      let name : state.name ≡ decl.key = ap (λ (d : nodes.KeyDecl Kind). d.name) is in
      let of_kind : kinds state.name ≡ state.kind = ap kinds name ∙ kind ∙ sym (ap (λ (d : nodes.KeyDecl Kind). d.kind) is) in
      let entry = ap node.entries name ∙ lacks.entry in
      record {
        kind = of_kind;
        held = record { kind = fresh.kind_is ∙ sym of_kind; image = subst (λ (e : Entry Op). StandsFor ghosts.IsDataOf (parts_of state.entry) (logs state.name) e) (sym entry) (fresh.image (logs state.name) (histories state.name)) };
        logged = subst (λ (e : Entry Op). StandsForLog ghosts.IsDeltaOf state.log (logs state.name) e) (sym entry) (fresh.logged (logs state.name) (histories state.name));
        sent = λ i. ap (λ (m : Numbers). number_at m i) fresh.sent ∙ number_at-empty i ∙ sym (lacks.sent i) ∙ ap (λ n. node.flushed n i) (sym name);
      }

module _ {T K Kind Op Delta : Type 0} {ghosts : Ghosts T Kind Op Delta} {keeping : Keeping K} (kinds : Text → Kind) (logs : Text → History Op) where
  pub stands_declaring : (decl : KeyDecl T Kind Op Delta) (state : KeyState T Kind Op Delta) (old new : Node T K Kind Op Delta ghosts keeping) (node : nodes.Node Kind Op Shown) → ((key : Text) → IsHistory (logs key)) → kinds decl.key ≡ decl.kind → LacksKey decl.key node
      → declared_by state ≡ declared decl → IsFresh ghosts.kind_of ghosts.IsDataOf ghosts.IsDeltaOf old.id state → new.keys.items ≡ insert old.keys.items (place_for state.name old.keys.items) state
      → new.id ≡ old.id → new.view ≡ old.view → known new.operations ≡ known old.operations → new.steps ≡ old.steps
      → StandsForNode ghosts.kind_of ghosts.IsDataOf kinds logs old node → StandsForNode ghosts.kind_of ghosts.IsDataOf kinds logs new (declaring (declared decl) node)
  stands_declaring decl state old new node histories kind lacks is fresh keys id view operations steps s =
      let old_keys = old.keys.items in
      let place = place_for state.name old_keys in
      record {
        identity = s.identity ∙ sym id;
        view = s.view ∙ sym view;
        keys = ap (with_key (declared decl)) s.keys ∙ sym (key_placed decl state old_keys is) ∙ sym (ap (map declared_by) keys);
        distinct = new.distinct;
        entries = subst (All (λ (x : KeyState T Kind Op Delta). StandsForKey ghosts.kind_of ghosts.IsDataOf ghosts.IsDeltaOf kinds logs x (node.entries x.name) (node.flushed x.name))) (sym keys)
            (insert_all (λ (x : KeyState T Kind Op Delta). StandsForKey ghosts.kind_of ghosts.IsDataOf ghosts.IsDeltaOf kinds logs x (node.entries x.name) (node.flushed x.name)) old_keys place state s.entries
            (stands_fresh ghosts kinds logs old.id decl state node histories kind lacks is fresh));
        operations = subst (λ os. StandForOperations os (declaring (declared decl) node)) (sym operations) (operates_declaring (known old.operations) (declared decl) node s.operations);
        steps = s.steps ∙ sym steps;
      }
