-- What keepers tell, and what their tables spell.
--     not_called, becomes_told        keepers that were not called, and those that were
--     NamesApart        entries of different keys
--     IsFine        an entry of a key's kind that can be spelled and read again
--     store_stands        after a step the table, if it is told, is that of the model's store
--     tells_nothing        keepers that forgot all, and stores without an entry
use Rattle.std.proofs.Common.{◌≡◌, true, false, List, [], ◌++◌, Option, Some, None, refl, sym, ap, ◌∙◌, arith, ◌≢◌, ℕ, zero, suc, ◌∷◌, map, subst, Bool}
use Rattle.std.specs.Prelude.{is_some, All, Any, if◌then◌else◌, filter, slice_get}
use Rattle.std.specs.List.{AllByRecursion}
use Rattle.std.specs.Str.{bytes_eq}
use Rattle.std.specs.declared.cmp.Ordering.{Ordering}
use Rattle.std.specs.declared.cmp.Ordering.TheVariants.{Less, Equal, Greater}
use Rattle.std.specs.Ordering.{match_ordering}
use Rattle.std.proofs.lemmas.List.Elements.{All-cons, All-head, All-tail, All-nil}
use Rattle.base_bytes.specs.TextOrder.{text_order, IsBelowAll}
use Rattle.base_bytes.proofs.TextLaws.{order_less, order_equal, order_greater, lt_trans, lt_never, eq_texts, texts_eq}
use Rattle.model_history.specs.Texts.{Text, text_lt}
use Rattle.model_history.specs.History.{History}
use Rattle.model_history.proofs.HistoryLaws.{append_nothing}
use Rattle.model_kinds.specs.declared.shown.Shown.{Shown}
use Rattle.model_members.specs.Node as nodes
use Rattle.model_members.specs.Entry.{Entry}
use Rattle.model_members.specs.Message.{Keyed}
use Rattle.model_members.specs.Node.{KeyDecl, keyed_entry, state_of}
use Rattle.model_members.specs.World.{Store, with_stored, after_store, no_entries}
use Rattle.theorem_runs.proofs.Sending.{all_filtered}
use Rattle.member_keeper.specs.declared.keeper.Keeper.{Ghosts as Keeping}
use Rattle.member_keeper.specs.Calls.{Becomes}
use Rattle.member_keeper.specs.declared.stored.Stored.{Stored}
use Rattle.member_keeper.specs.Tables.{Table, IsTable, put, put_all, keys_of}
use Rattle.member_keeper.proofs.Orders.{table_put, table_put_all}
use Rattle.data_lattice.specs.declared.replica.Replica.{Ghosts}
use Rattle.data_lattice.specs.declared.spelled.SpelledData.{Ghosts as Spelling}
use Rattle.member_node.specs.declared.reply.Fate.TheVariants as fate
use Rattle.member_node.specs.declared.reply.Fate.{Fate}
use Rattle.member_node.specs.Keys.{AreDistinct}
use Rattle.member_node.specs.Replies.{meant_fate}
use Rattle.member_node.specs.Steps.{KeepsTable}
use Rattle.member_node.specs.Stores.{spelled_entry, IsKept as IsKeptEntry, SpellsEntry, SpellsStore}
use Rattle.member_node.proofs.Standing.{becomes_same}
use Rattle.world_places.specs.Keeping.{Keeps, KeepsAt, IsKept, IsCleared}
use Rattle.world_places.specs.Standing.{TellsStore}

-- answers that were told stay, with none more
pub becomes_none : {X : Type 0} (old new : Option (List X)) → Becomes old new (λ told. told) → Becomes old new (λ before. before ++ [])
becomes_none None new b = tt
becomes_none (Some xs) new b = b ∙ ap Some (sym (append_nothing xs))

-- what is told after a call was told before it
pub becomes_told : {X : Type 0} (old new : Option X) (change : X → X) (x : X) → is_some old ≡ is_some new → Becomes old new change → new ≡ Some x → (y : X) × (old ≡ Some y) × (x ≡ change y)
becomes_told None new change x alike h e = absurd (let now : false ≡ true = alike ∙ ap is_some e in cc)
becomes_told (Some y) new change x alike h e = (y, refl, let same : Some x ≡ Some (change y) = sym e ∙ h in cc)

module _ {K : Type 0} (keeping : Keeping K) where
  pub not_called : (keeper : K) → Keeps keeping [] keeper keeper
  not_called keeper = record { told = becomes_none (keeping.answers keeper) (keeping.answers keeper) (becomes_same (keeping.answers keeper)); counted = omega arith; table = λ told. told }

  pub not_called_at : (keeper : Option K) → KeepsAt keeping [] keeper keeper
  not_called_at None = refl
  not_called_at (Some keeper) = not_called keeper

  pub kept_same : (keeper : Option K) → IsKept keeping keeper keeper
  kept_same keeper = record { answers = []; keeps = not_called_at keeper }

-- TABLES

less_differs : (x y : Text) → text_lt x y ≡ true → x ≢ y
less_differs x y l e = let p : ◌≡◌ {A = Bool} true false = sym l ∙ sym (ap (text_lt x) e) ∙ lt_never x in cc p

-- what stands behind a key is another
behind : (P : Stored → Type 0) (x : Text) (t : Table) → IsBelowAll x (keys_of t) → All P t → All (λ s. P s × (s.key ≢ x)) t
behind P x [] below h = λ k d within. absurd (omega arith)
behind P x (y ∷ t) below h = All-cons (λ s. P s × (s.key ≢ x)) y t (All-head P y t h, λ e. less_differs x y.key below.0 (sym e)) (behind P x t below.1 (All-tail P y t h))

module _ (P Q : Stored → Type 0) (e : Stored) (other : (s : Stored) → P s → s.key ≢ e.key → Q s) (new : Q e) where
  others : (t : Table) → All (λ s. P s × (s.key ≢ e.key)) t → All Q t
  others t h = λ k d within. let s = h k d within in other _ s.0 s.1

  below_all : (x : Text) (t : Table) → text_lt e.key x ≡ true → IsBelowAll x (keys_of t) → IsBelowAll e.key (keys_of t)
  below_all x [] less below = tt
  below_all x (y ∷ t) less below = (lt_trans e.key x y.key less below.0, below_all x t less below.1)

  pub all_put : (t : Table) → IsTable t → All P t → All Q (put t e)
  all_put [] h all = All-cons Q e [] new (λ k d within. absurd (omega arith))
  all_put (y ∷ t) h all = go (text_order y.key e.key) refl (all_put t h.1 (All-tail P y t all))
    where
      go : (o : Ordering) → text_order y.key e.key ≡ o → All Q (put t e) → All Q (match_ordering o (y ∷ put t e) (e ∷ t) (e ∷ y ∷ t))
      go Less is rest = All-cons Q y (put t e) (other y (All-head P y t all) (less_differs y.key e.key (order_less y.key e.key is))) rest
      go Equal is rest = All-cons Q e t new (others t (behind P e.key t (subst (λ k. IsBelowAll k (keys_of t)) (order_equal y.key e.key is) h.0) (All-tail P y t all)))
      go Greater is rest =
          let less = order_greater y.key e.key is in
          All-cons Q e (y ∷ t) new (others (y ∷ t) (behind P e.key (y ∷ t) (less, below_all y.key t less h.0) all))

-- SOME ELEMENT

module _ (P : Stored → Type 0) where
  any_head : (x : Stored) (xs : Table) → P x → Any P (x ∷ xs)
  any_head x xs p = (0, x, (omega arith), refl, p)

  any_later : (x : Stored) (xs : Table) → Any P xs → Any P (x ∷ xs)
  any_later x xs a = (suc a.0, a.1, (let l = a.2 in omega arith), a.3, a.4)

  any_split : (x : Stored) (xs : Table) → Any P (x ∷ xs) → (Q : Type 0) → (P x → Q) → (Any P xs → Q) → Q
  any_split x xs (zero, y, within, is, p) Q first later = first (subst P (sym is) p)
  any_split x xs (suc k, y, within, is, p) Q first later = later (k, y, (omega arith), is, p)

  module _ (e : Stored) (stays : (y : Stored) → y.key ≡ e.key → P y → P e) where
    pub any_put : (t : Table) → Any P t → Any P (put t e)
    any_put [] a = absurd (let l = a.2 in omega arith)
    any_put (y ∷ t) a = go (text_order y.key e.key) refl (λ b. any_put t b)
      where
        go : (o : Ordering) → text_order y.key e.key ≡ o → (Any P t → Any P (put t e)) → Any P (match_ordering o (y ∷ put t e) (e ∷ t) (e ∷ y ∷ t))
        go Less is rest = any_split y t a (Any P (y ∷ put t e)) (λ p. any_head y (put t e) p) (λ b. any_later y (put t e) (rest b))
        go Equal is rest = any_split y t a (Any P (e ∷ t)) (λ p. any_head e t (stays y (order_equal y.key e.key is) p)) (λ b. any_later e t b)
        go Greater is rest = any_later e (y ∷ t) a

  pub put_has : (e : Stored) (t : Table) → P e → Any P (put t e)
  put_has e [] p = any_head e [] p
  put_has e (y ∷ t) p = go (text_order y.key e.key) (put_has e t p)
    where
      go : (o : Ordering) → Any P (put t e) → Any P (match_ordering o (y ∷ put t e) (e ∷ t) (e ∷ y ∷ t))
      go Less rest = any_later y (put t e) rest
      go Equal rest = any_head e t p
      go Greater rest = any_head e (y ∷ t) p

-- ENTRIES OF DIFFERENT KEYS

module _ {Kind Op : Type 0} where
  abbrev pub NamesApart : List (nodes.KeyState Kind Op) → Type 0
  NamesApart [] = Unit {0}
  NamesApart (k ∷ ks) = AllByRecursion (λ (j : nodes.KeyState Kind Op). j.name ≢ k.name) ks × NamesApart ks

  apart_if : (b : Bool) (k : nodes.KeyState Kind Op) (ks : List (nodes.KeyState Kind Op)) → AllByRecursion (λ (j : nodes.KeyState Kind Op). j.name ≢ k.name) ks → NamesApart ks → NamesApart (if b then k ∷ ks else ks)
  apart_if true k ks differ rest = (differ, rest)
  apart_if false k ks differ rest = rest

  pub apart_filtered : (p : nodes.KeyState Kind Op → Bool) (ks : List (nodes.KeyState Kind Op)) → NamesApart ks → NamesApart (filter p ks)
  apart_filtered p [] apart = tt
  apart_filtered p (k ∷ ks) apart = apart_if (p k) k (filter p ks) (all_filtered (λ (j : nodes.KeyState Kind Op). j.name ≢ k.name) p ks apart.0) (apart_filtered p ks apart.1)

  module _ (node : nodes.Node Kind Op Shown) where
    differ : (name : Text) (decls : List (KeyDecl Kind)) → ((k : ℕ) → slice_get (map (λ (d : KeyDecl Kind). d.name) decls) k ≢ Some name) → AllByRecursion (λ (j : nodes.KeyState Kind Op). j.name ≢ name) (map (state_of node) decls)
    differ name [] h = tt
    differ name (d ∷ decls) h = ((λ e. h 0 (ap Some e)), differ name decls (λ k. h (suc k)))

    pub states_apart : (decls : List (KeyDecl Kind)) → AreDistinct (map (λ (d : KeyDecl Kind). d.name) decls) → NamesApart (map (state_of node) decls)
    states_apart [] h = tt
    states_apart (d ∷ decls) h = (
      differ d.name decls (λ k e. let p : 0 ≡ suc k = h 0 (suc k) d.name refl e in absurd (cc p)),
      states_apart decls (λ i j name e f. let p : suc i ≡ suc j = h (suc i) (suc j) name e f in cc p),
    )

-- STORES

eq_or : (x y : Text) (P : Type 0) → (x ≡ y → P) → (bytes_eq x y ≡ false → P) → P
eq_or x y P same other = go (bytes_eq x y) refl
  where
    go : (b : Bool) → bytes_eq x y ≡ b → P
    go true e = same (eq_texts x y e)
    go false e = other e

differs_eq : (x y : Text) → x ≢ y → bytes_eq x y ≡ false
differs_eq x y h = eq_or x y (bytes_eq x y ≡ false) (λ e. absurd (h e)) (λ e. e)

module _ {Op : Type 0} where
  pub stored_here : (key : Text) (e : Keyed (Entry Op)) (es : List (Keyed (Entry Op))) (store : Store Op) → e.key ≡ key → with_stored (e ∷ es) store key ≡ Some e.item
  stored_here key e es store same = ap (λ b. if b then Some e.item else with_stored es store key) (subst (λ k. bytes_eq e.key k ≡ true) same (texts_eq e.key))

  pub stored_there : (key : Text) (e : Keyed (Entry Op)) (es : List (Keyed (Entry Op))) (store : Store Op) → bytes_eq e.key key ≡ false → with_stored (e ∷ es) store key ≡ with_stored es store key
  stored_there key e es store other = ap (λ b. if b then Some e.item else with_stored es store key) other

  stored_alike : (key : Text) (es : List (Keyed (Entry Op))) (one other : Store Op) → one key ≡ other key → with_stored es one key ≡ with_stored es other key
  stored_alike key [] one other same = same
  stored_alike key (e ∷ es) one other same = ap (λ o. if bytes_eq e.key key then Some e.item else o) (stored_alike key es one other same)

module _ {Kind Op : Type 0} where
  -- entries of other keys
  stored_others : (name : Text) (ks : List (nodes.KeyState Kind Op)) (store : Store Op) → AllByRecursion (λ (j : nodes.KeyState Kind Op). j.name ≢ name) ks → with_stored (map keyed_entry ks) store name ≡ store name
  stored_others name [] store h = refl
  stored_others name (k ∷ ks) store h = stored_there name (keyed_entry k) (map keyed_entry ks) store (differs_eq k.name name h.0) ∙ stored_others name ks store h.1

  one_by_one : (k : nodes.KeyState Kind Op) (ks : List (nodes.KeyState Kind Op)) (store : Store Op) → AllByRecursion (λ (j : nodes.KeyState Kind Op). j.name ≢ k.name) ks
      → (key : Text) → with_stored (map keyed_entry ks) (with_stored (keyed_entry k ∷ []) store) key ≡ with_stored (keyed_entry k ∷ map keyed_entry ks) store key
  one_by_one k ks store h key = eq_or k.name key _
      (λ same.
      subst (λ (name : Text). with_stored (map keyed_entry ks) (with_stored (keyed_entry k ∷ []) store) name ≡ with_stored (keyed_entry k ∷ map keyed_entry ks) store name) same
      (stored_others k.name ks (with_stored (keyed_entry k ∷ []) store) h ∙ stored_here k.name (keyed_entry k) [] store refl ∙ sym (stored_here k.name (keyed_entry k) (map keyed_entry ks) store refl)))
      (λ other. stored_alike key (map keyed_entry ks) (with_stored (keyed_entry k ∷ []) store) store (stored_there key (keyed_entry k) [] store other) ∙ sym (stored_there key (keyed_entry k) (map keyed_entry ks) store other))

module _ {T Kind Op Delta : Type 0} (ghosts : Ghosts T Kind Op Delta) (spelling : Spelling T Kind Op Delta) (kinds : Text → Kind) (logs : Text → History Op) where
  abbrev Spells : Table → Store Op → Type 0
  Spells table store = SpellsStore ghosts spelling kinds logs table store

  pub record IsFine (k : nodes.KeyState Kind Op) : Type 0 where
    pub kind : kinds k.name ≡ k.kind
    pub kept : IsKeptEntry ghosts spelling k.kind (logs k.name) k.entry

  one_put : (k : nodes.KeyState Kind Op) → IsFine k → (table : Table) (store : Store Op) → IsTable table → Spells table store → Spells (put table (spelled_entry spelling k)) (with_stored (keyed_entry k ∷ []) store)
  one_put k fine table store sorted s =
      let e = spelled_entry spelling k in
      let then_store = with_stored (keyed_entry k ∷ []) store in
      record {
        each = all_put (SpellsEntry ghosts spelling kinds logs store) (SpellsEntry ghosts spelling kinds logs then_store) e
            (λ s has differs. record {
              entry = has.entry;
              has = stored_there s.key (keyed_entry k) [] store (differs_eq k.name s.key (λ same. differs (sym same))) ∙ has.has;
              bytes = has.bytes;
              kept = has.kept;
            })
            (record {
              entry = k.entry;
              has = stored_here k.name (keyed_entry k) [] store refl;
              bytes = ap (λ (kind : Kind). (spelled_entry spelling (record k { kind = kind })).bytes) (sym fine.kind);
              kept = subst (λ (kind : Kind). IsKeptEntry ghosts spelling kind (logs k.name) k.entry) (sym fine.kind) fine.kept;
            })
            table sorted s.each;
        all = λ key entry there. eq_or k.name key (Any (λ stored. stored.key ≡ key) (put table e))
            (λ same. put_has (λ stored. stored.key ≡ key) e table same)
            (λ other. any_put (λ stored. stored.key ≡ key) e (λ y same p. sym same ∙ p) table (s.all key entry (sym (stored_there key (keyed_entry k) [] store other) ∙ there)));
      }

  pub all_stored : (ks : List (nodes.KeyState Kind Op)) → NamesApart ks → All IsFine ks → (table : Table) (store : Store Op) → IsTable table → Spells table store → Spells (put_all table (map (spelled_entry spelling) ks)) (with_stored (map keyed_entry ks) store)
  all_stored [] apart fine table store sorted s = s
  all_stored (k ∷ ks) apart fine table store sorted s =
      subst (λ (then_store : Store Op). Spells (put_all (put table (spelled_entry spelling k)) (map (spelled_entry spelling) ks)) then_store) (λ i key. one_by_one k ks store apart.0 key i)
      (all_stored ks apart.1 (All-tail IsFine k ks fine) (put table (spelled_entry spelling k)) (with_stored (keyed_entry k ∷ []) store) (table_put table (spelled_entry spelling k) sorted) (one_put k (All-head IsFine k ks fine) table store sorted s))

  module _ {K : Type 0} (keeping : Keeping K) (alike : (a b : K) → is_some (keeping.table a) ≡ is_some (keeping.table b)) where
    pub store_stays : (old new : K) (store : Store Op) → Becomes (keeping.table old) (keeping.table new) (λ table. table) → TellsStore ghosts keeping spelling kinds logs (Some old) store → TellsStore ghosts keeping spelling kinds logs (Some new) store
    store_stays old new store becomes tells = λ table is.
        let t = becomes_told (keeping.table old) (keeping.table new) (λ (table : Table). table) table (alike old new) becomes is in
        subst (λ (x : Table). IsTable x × Spells x store) (sym t.2) (tells t.0 t.1)

    pub store_stands : (done : Fate) (ks : List (nodes.KeyState Kind Op)) (old new : K) (store : Store Op) → KeepsTable spelling keeping done ks old new → NamesApart ks → All IsFine ks
        → TellsStore ghosts keeping spelling kinds logs (Some old) store → TellsStore ghosts keeping spelling kinds logs (Some new) (after_store (meant_fate done) (map keyed_entry ks) store)
    store_stands fate.NoStore ks old new store keeps apart fine tells = store_stays old new store keeps tells
    store_stands fate.Stored ks old new store keeps apart fine tells = λ table is.
        let t = becomes_told (keeping.table old) (keeping.table new) (λ (table : Table). put_all table (map (spelled_entry spelling) ks)) table (alike old new) keeps is in
        let before = tells t.0 t.1 in
        subst (λ (x : Table). IsTable x × Spells x (with_stored (map keyed_entry ks) store)) (sym t.2)
        (table_put_all t.0 (map (spelled_entry spelling) ks) before.0, all_stored ks apart fine t.0 store before.0 before.1)
    store_stands fate.StoreFailed ks old new store keeps apart fine tells = store_stays old new store keeps tells

-- KEEPERS THAT FORGOT ALL

module _ {T K Kind Op Delta : Type 0} (ghosts : Ghosts T Kind Op Delta) (keeping : Keeping K) (spelling : Spelling T Kind Op Delta) (kinds : Text → Kind) (logs : Text → History Op) where
  pub spells_nothing : SpellsStore ghosts spelling kinds logs [] no_entries
  spells_nothing = record { each = All-nil (SpellsEntry ghosts spelling kinds logs no_entries); all = λ key entry e. absurd (cc e) }

  pub tells_nothing : ((a b : K) → is_some (keeping.table a) ≡ is_some (keeping.table b)) → (before keeper : K) → IsCleared keeping before keeper → TellsStore ghosts keeping spelling kinds logs (Some keeper) no_entries
  tells_nothing alike before keeper cleared = λ table told.
      let was = becomes_told (keeping.table before) (keeping.table keeper) (λ t. []) table (alike before keeper) cleared.table told in
      (subst (λ t. IsTable t) (sym was.2) tt, subst (λ t. SpellsStore ghosts spelling kinds logs t no_entries) (sym was.2) spells_nothing)
