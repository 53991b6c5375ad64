-- Members and their keepers, and what a member stands for.
-- Members with the same fields are the same, whatever the proofs beside them.
-- What is told of a keeper that was not called, and of its member.
-- What a member stands for after a step.
-- A member before its first step.
use Rattle.std.proofs.Common.{◌^◌, ◌≡◌, ℕ, ◌≤◌, List, length, refl, ap, arith, Option, Some, None, Result, Ok, Err, OnOk, OnErr, ◌≢◌, zero, suc, ◌<◌, [], ◌∷◌, get_or, sym, ◌∙◌, subst, Bool, true, false, map, find, option_map, slice_get, if◌then◌else◌, bytes_eq, unwrap_or, All, nat_cmp}
use Rattle.std.proofs.Math.Bridge.{le_prop}
use Rattle.std.proofs.Math.Nat.{ℕ_set}
use Rattle.std.specs.FinMap.{get-empty}
use Rattle.std.proofs.lemmas.List.{get_or-map, length-map}
use Rattle.std.proofs.lemmas.List.Elements.{All-map}
use Rattle.std.proofs.lemmas.Simd.{map-map}
use mathlib.Core.HLevel.{is_prop→PathP}
use mathlib.Core.Bool.{Bool-set}
use Rattle.member_node.proofs.Common.{Text, VersionVector, IdentitySet, History, HasKey, bytes_eq-tells, View, seen_by, Numbers, number_at, performed_in, Shown, Ghosts, Keeping, StandsFor, parts_of, LogParts, StandsForLog, Node, KeyState, HasFewOwn, IsUnpruned, AreLogged, AreOfTheirKinds, AreDistinctKeys, AreDistinct, declared_by, IsUnchanged, StandsForKey, StandsForNode, IsFresh, known, StandForOperations}
use Rattle.model_history.specs.History.{IsHistory}
use Rattle.model_members.specs.Node as nodes
use Rattle.model_members.specs.Entry.{Entry, empty_entry}
use Rattle.model_members.specs.World.{Store, loaded_entry, loaded_node, no_entries}
use Rattle.base_vectors.proofs.Laws.{number_at-empty}
use Rattle.data_markers.specs.Marks.{Marks, is_performed}
use Rattle.thread_machine.specs.Faults.{RoseAt}
use Rattle.member_keeper.specs.Calls.{Becomes}
use Rattle.member_keeper.specs.declared.stored.Stored as kept
use Rattle.member_node.specs.declared.operation.Operation.{Operation}
use Rattle.member_node.specs.Keys.{AreOfKinds, declared}
use Rattle.member_node.specs.Steps.{IsOtherwiseSame, is_failure, TellsSame, IsKeptBy}
use Rattle.member_node.specs.declared.reply.Fate.{Fate}
use Rattle.member_node.specs.declared.reply.Fate.TheVariants.{NoStore}
use Rattle.member_node.specs.Loading.{ComesBack}
use Rattle.member_node.specs.declared.key.KeyDecl.{KeyDecl}
use Rattle.member_node.proofs.Lists.{IsFound}

-- MEMBERS WITH THE SAME FIELDS

steps_once : (steps limit : ℕ) → IsProp (steps ≤ limit)
steps_once steps limit = hlevel (le_prop)

operations_once : (operations : List Operation) (steps : ℕ) → IsProp (length operations ≤ steps)
operations_once operations steps = hlevel (le_prop)

module _ {T Kind Op Delta : Type 0} where
  few_once : (id steps : ℕ) (keys : List (KeyState T Kind Op Delta)) → IsProp (HasFewOwn id steps keys)
  few_once id steps keys = hlevel (le_prop)

  unpruned_once : (id : ℕ) (keys : List (KeyState T Kind Op Delta)) → IsProp (IsUnpruned id keys)
  unpruned_once id keys = hlevel (Bool-set)

  distinct_once : (keys : List (KeyState T Kind Op Delta)) → IsProp (AreDistinctKeys keys)
  distinct_once keys = hlevel (ℕ_set)

  -- where kinds are a set
  logged_once : IsSet Kind → (kind_of : T → Kind) (id : ℕ) (keys : List (KeyState T Kind Op Delta)) → IsProp (AreLogged kind_of id keys)
  logged_once kinds kind_of id keys = hlevel (kinds, ℕ_set)

  kinds_once : IsSet Kind → (kind_of : T → Kind) (keys : List (KeyState T Kind Op Delta)) → IsProp (AreOfTheirKinds kind_of keys)
  kinds_once kinds kind_of keys = hlevel (kinds)

module _ {T K Kind Op Delta : Type 0} {ghosts : Ghosts T Kind Op Delta} {keeping : Keeping K} where
  -- the keeper alone is another
  pub same_otherwise : IsSet Kind → (old new : Node T K Kind Op Delta ghosts keeping) → new.alloc ≡ old.alloc → new.id ≡ old.id → new.view ≡ old.view → new.keys ≡ old.keys → new.operations ≡ old.operations → new.steps ≡ old.steps → new.limit ≡ old.limit
      → IsOtherwiseSame old new
  same_otherwise kinds old new alloc id view keys operations steps limit = λ i. record {
    alloc = alloc i;
    id = id i;
    view = view i;
    keys = keys i;
    places = tt;
    operations = operations i;
    steps = steps i;
    limit = limit i;
    keeper = new.keeper;
    few_steps = is_prop→PathP (λ j. steps j ≤ limit j) (λ j. steps_once (steps j) (limit j)) new.few_steps old.few_steps i;
    few_limit = is_prop→PathP (λ j. limit j ≤ 2 ^ 54) (λ j. steps_once (limit j) (2 ^ 54)) new.few_limit old.few_limit i;
    few_operations = is_prop→PathP (λ j. length (known (operations j)) ≤ steps j) (λ j. operations_once (known (operations j)) (steps j)) new.few_operations old.few_operations i;
    few_own = is_prop→PathP (λ j. HasFewOwn (id j) (steps j) (keys j).items) (λ j. few_once (id j) (steps j) (keys j).items) new.few_own old.few_own i;
    unpruned = is_prop→PathP (λ j. IsUnpruned (id j) (keys j).items) (λ j. unpruned_once (id j) (keys j).items) new.unpruned old.unpruned i;
    logged = is_prop→PathP (λ j. AreLogged ghosts.kind_of (id j) (keys j).items) (λ j. logged_once kinds ghosts.kind_of (id j) (keys j).items) new.logged old.logged i;
    of_kinds = is_prop→PathP (λ j. AreOfTheirKinds ghosts.kind_of (keys j).items) (λ j. kinds_once kinds ghosts.kind_of (keys j).items) new.of_kinds old.of_kinds i;
    distinct = is_prop→PathP (λ j. AreDistinctKeys (keys j).items) (λ j. distinct_once (keys j).items) new.distinct old.distinct i;
  }

-- KEEPERS

pub becomes_same : {X : Type 0} (told : Option X) → Becomes told told (λ x. x)
becomes_same None = tt
becomes_same (Some x) = refl

-- what holds anyway
pub on_err : {X E P : Type 0} (result : Result X E) → P → OnErr result P
on_err (Ok x) p = tt
on_err (Err e) p = p

pub on_ok : {X E P Q : Type 0} (result : Result X E) → (P → Q) → OnOk result P → OnOk result Q
on_ok (Ok x) gives p = gives p
on_ok (Err e) gives p = tt

pub tells_same : {K : Type 0} (keeping : Keeping K) (keeper : K) → TellsSame keeping keeper keeper
tells_same keeping keeper = record { table = becomes_same (keeping.table keeper); answers = becomes_same (keeping.answers keeper); later = omega arith }

-- the count of faults rose exactly where the store failed
pub rose_by : {K : Type 0} (keeping : Keeping K) (items : List kept.Stored) (fate : Fate) (old new : K) → IsKeptBy keeping items fate old new → RoseAt (is_failure fate) (keeping.faults old) (keeping.faults new)
rose_by keeping items NoStore old new told = let same = ap (λ k. keeping.faults k) told.1 in omega arith
rose_by keeping items _ old new told = told.1.1

module _ {T Kind Op Delta K : Type 0} {ghosts : Ghosts T Kind Op Delta} {keeping : Keeping K} (node : Node T K Kind Op Delta ghosts keeping) where
  pub unchanged_same : IsUnchanged node node
  unchanged_same = record { same = refl; told = tells_same keeping node.keeper }

  pub back_same : ComesBack node node
  back_same = record { same = refl; table = becomes_same (keeping.table node.keeper); later = omega arith }

-- KEYS OF A MEMBER

pub slice_get-map : {X Y : Type 0} (f : X → Y) (xs : List X) (k : ℕ) (d : X) → k < length xs → slice_get (map f xs) k ≡ Some (f (get_or xs k d))
slice_get-map f [] k d within = absurd (omega arith)
slice_get-map f (x ∷ xs) zero d within = refl
slice_get-map f (x ∷ xs) (suc k) d within = slice_get-map f xs k d (omega arith)

pub find-map : {X Y : Type 0} (p : Y → Bool) (f : X → Y) (xs : List X) → find p (map f xs) ≡ option_map f (find (λ x. p (f x)) xs)
find-map p f [] = refl
find-map p f (x ∷ xs) = go (p (f x)) (find-map p f xs)
  where
    go : (b : Bool) → find p (map f xs) ≡ option_map f (find (λ x. p (f x)) xs) → (if b then Some (f x) else find p (map f xs)) ≡ option_map f (if b then Some x else find (λ x. p (f x)) xs)
    go true rest = refl
    go false rest = rest

pub apart : (xs ys : Text) → xs ≢ ys → bytes_eq xs ys ≡ false
apart xs ys ne = go (bytes_eq xs ys) refl
  where
    go : (b : Bool) → bytes_eq xs ys ≡ b → b ≡ false
    go true is = absurd (ne (bytes_eq-tells xs ys is))
    go false is = refl

module _ {T Kind Op Delta : Type 0} where
  abbrev name_of : KeyState T Kind Op Delta → Text
  name_of state = state.name

  -- names of different places differ
  other_name : (keys : List (KeyState T Kind Op Delta)) → AreDistinct (map (λ (state : KeyState T Kind Op Delta). state.name) keys) → (i j : ℕ) (d e : KeyState T Kind Op Delta) → i < length keys → j < length keys → i ≢ j
      → name_of (get_or keys i d) ≢ name_of (get_or keys j e)
  other_name keys distinct i j d e within within' other same =
      other (distinct i j (name_of (get_or keys j e)) (slice_get-map (λ (state : KeyState T Kind Op Delta). state.name) keys i d within ∙ ap Some same) (slice_get-map (λ (state : KeyState T Kind Op Delta). state.name) keys j e within'))

module _ {T K Kind Op Delta : Type 0} {ghosts : Ghosts T Kind Op Delta} {keeping : Keeping K} (kind_of : T → Kind) (IsDataOf : T → History Op → VersionVector → IdentitySet → Type 0) (kinds : Text → Kind) (logs : Text → History Op)
    (code : Node T K Kind Op Delta ghosts keeping) (node : nodes.Node Kind Op Shown) (s : StandsForNode kind_of IsDataOf kinds logs code node) where
  abbrev keys : List (KeyState T Kind Op Delta)
  keys = code.keys.items

  -- a key that isn't found isn't declared
  pub undeclared : (key : Text) → find (λ (state : KeyState T Kind Op Delta). bytes_eq state.name key) code.keys.items ≡ None → find (λ (decl : nodes.KeyDecl Kind). bytes_eq decl.name key) node.keys ≡ None
  undeclared key none = ap (find (λ (decl : nodes.KeyDecl Kind). bytes_eq decl.name key)) s.keys ∙ find-map (λ (decl : nodes.KeyDecl Kind). bytes_eq decl.name key) declared_by code.keys.items ∙ ap (option_map declared_by) none

  -- what is held of a key at its place
  pub held_at : (index : ℕ) (at : KeyState T Kind Op Delta) → index < length code.keys.items → at ≡ get_or code.keys.items index at → StandsForKey kind_of IsDataOf ghosts.IsDeltaOf kinds logs at (node.entries at.name) (node.flushed at.name)
  held_at index at within is = subst (λ (state : KeyState T Kind Op Delta). StandsForKey kind_of IsDataOf ghosts.IsDeltaOf kinds logs state (node.entries state.name) (node.flushed state.name)) (sym is) (s.entries index at within)

  -- a key that is found is declared with its kind
  pub has_key : (key : Text) (index : ℕ) (at : KeyState T Kind Op Delta) → IsFound (λ (state : KeyState T Kind Op Delta). bytes_eq state.name key) code.keys.items index → at ≡ get_or code.keys.items index at → HasKey node at.name (kind_of at.entry.value)
  has_key key index at found is =
      let held = held_at index at found.within is in
      let kind : at.kind ≡ kind_of at.entry.value = sym held.kind ∙ sym held.held.kind in
      let same : at.name ≡ key = ap name_of is ∙ bytes_eq-tells _ key (found.passes at) in (
        at.durable,
        ap (λ name. find (λ (decl : nodes.KeyDecl Kind). bytes_eq decl.name name) node.keys) same
            ∙ ap (find (λ (decl : nodes.KeyDecl Kind). bytes_eq decl.name key)) s.keys ∙ find-map (λ (decl : nodes.KeyDecl Kind). bytes_eq decl.name key) declared_by code.keys.items
            ∙ ap (option_map declared_by) (found.found at) ∙ ap (λ (state : KeyState T Kind Op Delta). Some (declared_by state)) (sym is)
            ∙ ap (λ kind. Some (record { name = at.name; kind = kind; durable = at.durable })) kind,
      )

-- BEFORE THE FIRST STEP

module _ {T Kind Op Delta : Type 0} (kind_of : T → Kind) (IsDataOf : T → History Op → VersionVector → IdentitySet → Type 0) (IsDeltaOf : Delta → History Op → ℕ → ℕ → ℕ → Type 0) (id : ℕ) (states : List (KeyState T Kind Op Delta)) (fresh : All (IsFresh kind_of IsDataOf IsDeltaOf id) states) where
  pub few_fresh : (steps : ℕ) → HasFewOwn id steps states
  few_fresh steps k d within = let e = ap (λ (m : Numbers). number_at m id) (fresh k d within).versions ∙ number_at-empty id in omega arith

  pub unpruned_fresh : IsUnpruned id states
  unpruned_fresh k d within = ap (λ (m : Marks). performed_in m id) (fresh k d within).marks ∙ ap is_performed (get-empty nat_cmp id)

  pub logged_fresh : AreLogged kind_of id states
  logged_fresh k d within = let f = fresh k d within in record {
    origin = ap (λ (parts : LogParts Kind Delta). parts.origin) f.log;
    kind = ap (λ (parts : LogParts Kind Delta). parts.kind) f.log ∙ sym f.kind_is;
    last = ap (λ (parts : LogParts Kind Delta). parts.last) f.log ∙ sym (ap (λ (m : Numbers). number_at m id) f.versions ∙ number_at-empty id);
  }

-- the data are of the declared kinds
pub kinds_fresh : {T Kind Op Delta : Type 0} (kind_of : T → Kind) (IsDataOf : T → History Op → VersionVector → IdentitySet → Type 0) (IsDeltaOf : Delta → History Op → ℕ → ℕ → ℕ → Type 0) (id : ℕ) (states : List (KeyState T Kind Op Delta)) → All (IsFresh kind_of IsDataOf IsDeltaOf id) states → AreOfTheirKinds kind_of states
kinds_fresh kind_of IsDataOf IsDeltaOf id states fresh k d within = (fresh k d within).kind_is

-- the names are those that were declared
pub names_fresh : {T Kind Op Delta : Type 0} (states : List (KeyState T Kind Op Delta)) (decls : List (KeyDecl T Kind Op Delta)) → map declared_by states ≡ map declared decls
    → map (λ (state : KeyState T Kind Op Delta). state.name) states ≡ map (λ (decl : KeyDecl T Kind Op Delta). decl.key) decls
names_fresh {T} {Kind} {Op} {Delta} states decls same =
    sym (map-map (λ (decl : nodes.KeyDecl Kind). decl.name) declared_by states) ∙ ap (map (λ (decl : nodes.KeyDecl Kind). decl.name)) same ∙ map-map (λ (decl : nodes.KeyDecl Kind). decl.name) declared decls

-- where nothing is kept, nothing is loaded
nothing_loaded : {T Kind Op Delta : Type 0} (id : ℕ) (view : View) (decls : List (KeyDecl T Kind Op Delta)) (name : Text) → (loaded_node {Op = Op} {Shown = Shown} (map declared decls) id view no_entries).entries name ≡ empty_entry
nothing_loaded {T} {Kind} {Op} {Delta} id view decls name =
    ap (loaded_entry {Op = Op} id view no_entries) (find-map (λ (decl : nodes.KeyDecl Kind). bytes_eq decl.name name) declared decls) ∙ go (find (λ (decl : KeyDecl T Kind Op Delta). bytes_eq decl.key name) decls)
  where
    go : (o : Option (KeyDecl T Kind Op Delta)) → loaded_entry {Op = Op} id view no_entries (option_map declared o) ≡ empty_entry
    go None = refl
    go (Some decl) = by decl.durable
      where
        by : (b : Bool) → (if b then seen_by id view.number (unwrap_or None (empty_entry {Op = Op})) else empty_entry) ≡ empty_entry
        by true = refl
        by false = refl

-- no operation was opened
pub operates_first : {Kind Op : Type 0} (operations : List Operation) (id : ℕ) (view : View) (keys : List (nodes.KeyDecl Kind)) (store : Store Op) → operations ≡ [] → StandForOperations operations (loaded_node {Shown = Shown} keys id view store)
operates_first operations id view keys store none =
    subst (λ os. StandForOperations os (loaded_node {Shown = Shown} keys id view store)) (sym none) (record { open_ones = refl; finished = λ op. refl; next = refl })

module _ {T K Kind Op Delta : Type 0} {ghosts : Ghosts T Kind Op Delta} {keeping : Keeping K} (kind_of : T → Kind) (IsDataOf : T → History Op → VersionVector → IdentitySet → Type 0) (kinds : Text → Kind) (logs : Text → History Op) where
  -- its keys are those that are declared, and fresh
  pub stands_first : (code : Node T K Kind Op Delta ghosts keeping) (decls : List (KeyDecl T Kind Op Delta)) (view : View)
      → map declared_by code.keys.items ≡ map declared decls → All (IsFresh kind_of IsDataOf ghosts.IsDeltaOf code.id) code.keys.items → AreDistinct (map (λ (decl : KeyDecl T Kind Op Delta). decl.key) decls)
      → ((key : Text) → IsHistory (logs key)) → AreOfKinds kinds decls
      → view ≡ code.view → known code.operations ≡ [] → code.steps ≡ 0
      → StandsForNode kind_of IsDataOf kinds logs code (loaded_node (map declared decls) code.id view no_entries)
  stands_first code decls view same fresh distinct histories of_kinds viewed operations steps =
      let keys = code.keys.items in
      let names : map (λ (state : KeyState T Kind Op Delta). state.name) keys ≡ map (λ (decl : KeyDecl T Kind Op Delta). decl.key) decls =
      sym (map-map (λ (decl : nodes.KeyDecl Kind). decl.name) declared_by keys) ∙ ap (map (λ (decl : nodes.KeyDecl Kind). decl.name)) same ∙ map-map (λ (decl : nodes.KeyDecl Kind). decl.name) declared decls in
      let kinds_of : All (λ (decl : nodes.KeyDecl Kind). kinds decl.name ≡ decl.kind) (map declared_by keys) =
      subst (All (λ (decl : nodes.KeyDecl Kind). kinds decl.name ≡ decl.kind)) (sym same) (All-map (λ (decl : nodes.KeyDecl Kind). kinds decl.name ≡ decl.kind) declared decls of_kinds) in
      record {
        identity = refl;
        view = viewed;
        keys = sym same;
        distinct = subst AreDistinct (sym names) distinct;
        entries = λ k d within.
            let state = get_or keys k d in
            let f = fresh k d within in
            let kind : kinds state.name ≡ state.kind = subst (λ (decl : nodes.KeyDecl Kind). kinds decl.name ≡ decl.kind) (get_or-map declared_by keys k d (declared_by d) within)
            (kinds_of k (declared_by d) (let l = length-map keys declared_by in omega arith)) in
            record {
              kind = kind;
              held = record { kind = f.kind_is ∙ sym kind; image = subst (λ (entry : Entry Op). StandsFor IsDataOf (parts_of state.entry) (logs state.name) entry) (sym (nothing_loaded code.id view decls state.name)) (f.image (logs state.name) (histories state.name)) };
              logged = subst (λ (entry : Entry Op). StandsForLog ghosts.IsDeltaOf state.log (logs state.name) entry) (sym (nothing_loaded code.id view decls state.name)) (f.logged (logs state.name) (histories state.name));
              sent = λ i. ap (λ (m : Numbers). number_at m i) f.sent ∙ number_at-empty i;
            };
        operations = operates_first (known code.operations) code.id view (map declared decls) no_entries operations;
        steps = sym steps;
      }
