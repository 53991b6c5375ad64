-- What a keeper has, and the member that begins with it.
-- Whom the parts of an entry name, as the loops over identities test it.
-- What a keeper has, key by key: which of it may be loaded, and what a key holds after it.
-- What members stored may be loaded, where it names earlier identities alone.
-- A new member with what a keeper had.
use Rattle.std.proofs.Common.{◌≡◌, ℕ, zero, suc, ◌+◌, ◌/◌, ◌%◌, ◌^◌, ◌<◌, ◌≤◌, ◌⊎◌, Bool, true, false, ◌&&◌, ◌||◌, not, nat_lt, Option, Some, None, refl, ap, sym, ◌∙◌, subst, arith, inl, inr, ◌==◌, pow_mono, eq-eqb, eqb-true, ltb-true, lt-ltb, ◌≢◌, List, [], ◌∷◌, ◌++◌, length, take, get_or, set, ⊎_elim, map, find, slice_get, All, if◌then◌else◌, bytes_eq, get_or-set_same, get_or-set_other, length-set, unwrap_or, option_map, nat_cmp}
use Rattle.std.specs.List.{list_any, range_with_len}
use Rattle.std.proofs.Math.Nat.{div-eq_of_lt}
use Rattle.std.proofs.lemmas.Bool.{cases_lt, cases_Bool, and_parts, cases_eq}
use Rattle.std.proofs.lemmas.List.Folds.{Any-from_list_any}
use Rattle.std.proofs.lemmas.List.{get_or-map, get_or_default, length-map}
use Rattle.std.proofs.lemmas.List.Elements.{All-push}
use Rattle.std.proofs.Math.Seq.{map-set_same, take-append_seam}
use Rattle.std.proofs.lemmas.Option.{get_or_from_slice_get, slice_get_within}
use Rattle.std.specs.FinMap.{empty, get-empty}
use Rattle.std.proofs.lemmas.Simd.{map-map}
use Rattle.member_node.proofs.Common.{known, identity_limit, Text, VersionVector, IdentitySet, History, versions, at, View, bytes_eq-tells, seen_by, number_at, Numbers, mark_of, performed_in, Shown, Ghosts, Keeping, Parts, StandsFor, parts_of, LogParts, StandsForLog, AreSound, HoldsKept, KeyState, AreOfTheirKinds, HasFewOwn, IsUnpruned, AreLogged, AreDistinctKeys, declared_by, IsFresh, Node, StandsForKey, StandsForNode}
use Rattle.model_history.specs.Table.{identities}
use Rattle.model_history.specs.History.{cut, IsHistory}
use Rattle.model_history.specs.Cuts.{IsPrunedCut, Prunes, past_of, without}
use Rattle.model_members.specs.Node as nodes
use Rattle.model_members.proofs.Steps.{bytes_eq-same}
use Rattle.model_members.specs.Entry.{Entry, Mark, empty_entry}
use Rattle.model_members.specs.World.{Store, loaded_entry, loaded_node}
use Rattle.base_vectors.specs.IdSets.{members_in}
use Rattle.base_vectors.specs.Spelling.{AreSpellable}
use Rattle.base_vectors.proofs.Laws.{number_at_above, number_at-empty}
use Rattle.base_vectors.proofs.Walks.{any_identity, none_more}
use Rattle.data_markers.specs.declared.marker.Marker.{Marker}
use Rattle.data_markers.specs.declared.marker.Marker.TheVariants.{Initialized, Performed}
use Rattle.data_markers.specs.Marks.{begun, is_performed, Marks}
use Rattle.data_markers.specs.SpellingLaws.{AreSpellable as AreMarks, IsSpellable}
use Rattle.data_lattice.specs.declared.spelled.SpelledData.{Ghosts as Spelling}
use Rattle.member_keeper.specs.declared.stored.Stored.{Stored}
use Rattle.member_keeper.specs.Tables.{Table}
use Rattle.data_codec.specs.Envelopes.{most_seq, IsEnvelope}
use Rattle.data_codec.specs.Stored.{envelope_stored, entry_stored, IsStored}
use Rattle.data_codec.proofs.Images.{stored_is}
use Rattle.member_node.specs.Stores.{IsEarlier, IsFit, AreFit, SpellsEntry, SpellsStore}
use Rattle.member_node.specs.Loading.{MarkIsEarlier, NamesEarlier, IsSoundAt, IsFirstUnsound}
use Rattle.member_node.specs.Restoring.{is_earlier, mark_names, names_at, is_named, names_others, IsFitFor, IsFitAt, Takes, TakesAt, HoldsOne}
use Rattle.member_node.specs.Keys.{HaveKinds}
use Rattle.member_node.proofs.Lists.{IsFound, find_one}
use Rattle.member_node.proofs.Standing.{slice_get-map, find-map, operates_first}

-- WHOM AN ENTRY NAMES

none_there : (test : ℕ → Bool) → list_any test identities ≡ false → (i : ℕ) → i < identity_limit → test i ≡ false
none_there test none i few = elim (cases_Bool (test i)) [
  | inl e ↦ absurd (let no : true ≡ false = sym (any_identity test i few e) ∙ none in cc no)
  | inr e ↦ e
]

none_below : (test : ℕ → Bool) (n : ℕ) → ((i : ℕ) → i < n → test i ≡ false) → list_any test (range_with_len 0 n) ≡ false
none_below test zero fails = refl
none_below test (suc n) fails =
    let e : suc n ≡ n + 1 = omega arith in
    ap (λ m. list_any test (range_with_len 0 m)) e ∙ none_more test n (none_below test n (λ i l. fails i (omega arith))) (fails n (omega arith))

either : (a b : Bool) → (a || b) ≡ true → (a ≡ true) ⊎ (b ≡ true)
either true b e = inl refl
either false b e = inr e

first_of : (a b : Bool) → a ≡ true → (a || b) ≡ true
first_of true b e = refl
first_of false b e = absurd (cc e)

second_of : (a b : Bool) → b ≡ true → (a || b) ≡ true
second_of true b e = refl
second_of false b e = e

-- a test that fails where the other one passes
passes : (a b : Bool) → (not a && b) ≡ false → b ≡ true → a ≡ true
passes true b e f = refl
passes false b e f = absurd (let no : true ≡ false = sym f ∙ e in cc no)

fails_both : (a b : Bool) → (b ≡ true → a ≡ true) → (not a && b) ≡ false
fails_both true b h = refl
fails_both false true h = absurd (let no : false ≡ true = h refl in cc no)
fails_both false false h = refl

named_itself : (i : ℕ) → (i == i) ≡ true
named_itself i = eq-eqb i i refl

earlier_from : (id given i : ℕ) → is_earlier id given i ≡ true → IsEarlier id given i
earlier_from id given i e =
    let both = and_parts (nat_lt i given) (not (i == id)) e in
    record { below = ltb-true i given both.0; other = λ same. let no : not true ≡ true = sym (ap not (eq-eqb i id same)) ∙ both.1 in cc no }

earlier_tested : (id given i : ℕ) → IsEarlier id given i → is_earlier id given i ≡ true
earlier_tested id given i e = go (nat_lt i given) (i == id) (lt-ltb i given e.below) (λ t. e.other (eqb-true i id t))
  where
    go : (a b : Bool) → a ≡ true → (b ≡ true → ⊥) → (a && not b) ≡ true
    go true true p q = absurd (q refl)
    go true false p q = refl
    go false b p q = absurd (cc p)

-- a set has identities alone
members_few : (seen i : ℕ) → seen < 2 ^ identity_limit → members_in seen i ≡ true → i < identity_limit
members_few seen i small e = elim (cases_lt i identity_limit) [
  | inl few ↦ few
  | inr many ↦ absurd (
      let high : 2 ^ identity_limit ≤ 2 ^ i = pow_mono many in
      let none : seen / 2 ^ i ≡ 0 = div-eq_of_lt (omega arith) in
      let no : (0 % 2 == 1) ≡ true = sym (ap (λ (n : ℕ). n % 2 == 1) none) ∙ e in cc no)
]

-- WHAT IS NAMED

module _ {T Kind Op Delta : Type 0} (ghosts : Ghosts T Kind Op Delta) (id given : ℕ) (parts : Parts T) where
  abbrev named : ℕ → Bool
  named i = is_named ghosts.mentioned parts i

  named_counted : (i : ℕ) → nat_lt 0 (number_at parts.versions i) ≡ true → named i ≡ true
  named_counted i e = first_of _ (list_any (λ r. names_at r (mark_of parts.marks r) i) identities) (first_of (nat_lt 0 (number_at parts.versions i)) (ghosts.mentioned parts.value i) e)

  named_mentioned : (i : ℕ) → ghosts.mentioned parts.value i ≡ true → named i ≡ true
  named_mentioned i e = first_of _ (list_any (λ r. names_at r (mark_of parts.marks r) i) identities) (second_of (nat_lt 0 (number_at parts.versions i)) (ghosts.mentioned parts.value i) e)

  named_marked : (r i : ℕ) → r < identity_limit → names_at r (mark_of parts.marks r) i ≡ true → named i ≡ true
  named_marked r i few e = second_of (nat_lt 0 (number_at parts.versions i) || ghosts.mentioned parts.value i) _ (any_identity (λ r. names_at r (mark_of parts.marks r) i) r few e)

  module _ (marks : AreMarks parts.marks) (versions : AreSpellable most_seq parts.versions) (none : names_others ghosts.mentioned id given parts ≡ false) where
    earlier_named : (i : ℕ) → i < identity_limit → named i ≡ true → IsEarlier id given i
    earlier_named i few e = earlier_from id given i (passes (is_earlier id given i) (named i) (none_there (λ i. not (is_earlier id given i) && named i) none i few) e)

    earlier_marked : (r i : ℕ) (mark : Marker) → mark_of parts.marks r ≡ Some mark → r < identity_limit → i < identity_limit → names_at r (Some mark) i ≡ true → IsEarlier id given i
    earlier_marked r i mark has few few' e = earlier_named i few' (named_marked r i few (ap (λ (o : Option Marker). names_at r o i) has ∙ e))

    earlier_mark : (r : ℕ) (mark : Marker) → mark_of parts.marks r ≡ Some mark → r < identity_limit → IsSpellable mark → MarkIsEarlier id given mark
    earlier_mark r (Initialized view owner seen) has few is = (
      earlier_marked r owner (Initialized view owner seen) has few is.1 (second_of (r == owner) _ (first_of (owner == owner) (members_in seen owner) (named_itself owner))),
      λ i e. earlier_marked r i (Initialized view owner seen) has few (members_few seen i is.2.bits e) (second_of (r == i) _ (second_of (owner == i) (members_in seen i) e)),
    )
    earlier_mark r (Performed owner at upto) has few is = earlier_marked r owner (Performed owner at upto) has few is.0 (second_of (r == owner) _ (named_itself owner))

    few_marks : (r : ℕ) (mark : Marker) → mark_of parts.marks r ≡ Some mark → r < identity_limit
    few_marks r mark has = elim (cases_lt r identity_limit) [
      | inl few ↦ few
      | inr many ↦ absurd (let no : Some mark ≡ None = sym has ∙ marks.few r many in cc no)
    ]

    pub names_earlier : ((i : ℕ) → identity_limit ≤ i → ghosts.mentioned parts.value i ≡ false) → NamesEarlier ghosts id given parts
    names_earlier unmentioned = record {
      counted = λ i some. elim (cases_lt i identity_limit) [
        | inl few ↦ earlier_named i few (named_counted i (lt-ltb 0 (number_at parts.versions i) (omega arith)))
        | inr many ↦ absurd (some (number_at_above parts.versions versions.normal i many))
      ];
      marked = λ r mark has. let few = few_marks r mark has in (
        earlier_marked r r mark has few few (first_of (r == r) (mark_names mark r) (named_itself r)),
        earlier_mark r mark has few (marks.each r mark has),
      );
      mentioned = λ i e. elim (cases_lt i identity_limit) [
        | inl few ↦ earlier_named i few (named_mentioned i e)
        | inr many ↦ absurd (let no : true ≡ false = sym e ∙ unmentioned i many in cc no)
      ];
    }

  module _ (names : NamesEarlier ghosts id given parts) where
    by_mark : (r i : ℕ) (mark : Marker) → IsEarlier id given r × MarkIsEarlier id given mark → ((r == i) || mark_names mark i) ≡ true → IsEarlier id given i
    by_mark r i mark is e = elim (either (r == i) (mark_names mark i) e) [
      | inl same ↦ subst (IsEarlier id given) (eqb-true r i same) is.0
      | inr named ↦ go mark is.1 named
    ]
      where
        go : (mark : Marker) → MarkIsEarlier id given mark → mark_names mark i ≡ true → IsEarlier id given i
        go (Initialized view owner seen) is e = elim (either (owner == i) (members_in seen i) e) [
          | inl same ↦ subst (IsEarlier id given) (eqb-true owner i same) is.0
          | inr member ↦ is.1 i member
        ]
        go (Performed owner at upto) is e = subst (IsEarlier id given) (eqb-true owner i e) is

    by_marks : (r i : ℕ) (o : Option Marker) → mark_of parts.marks r ≡ o → names_at r o i ≡ true → IsEarlier id given i
    by_marks r i None has e = absurd (cc e)
    by_marks r i (Some mark) has e = by_mark r i mark (names.marked r mark has) e

    earlier_all : (i : ℕ) → i < identity_limit → named i ≡ true → IsEarlier id given i
    earlier_all i few e = elim (either _ (list_any (λ r. names_at r (mark_of parts.marks r) i) identities) e) [
      | inl own ↦ elim (either (nat_lt 0 (number_at parts.versions i)) (ghosts.mentioned parts.value i) own) [
        | inl counted ↦ names.counted i (λ zero. let some = ltb-true 0 (number_at parts.versions i) counted in omega arith)
        | inr mentioned ↦ names.mentioned i mentioned
      ]
      | inr marked ↦ let found = Any-from_list_any (λ r. names_at r (mark_of parts.marks r) i) identities marked in by_marks found.1 i (mark_of parts.marks found.1) refl found.4
    ]

    pub no_others : names_others ghosts.mentioned id given parts ≡ false
    no_others = none_below (λ i. not (is_earlier id given i) && named i) identity_limit (λ i few. fails_both (is_earlier id given i) (named i) (λ e. earlier_tested id given i (earlier_all i few e)))

-- KEY BY KEY

pub all_fail : {X : Type 0} (p : X → Bool) (xs : List X) (k : ℕ) (d : X) → find p xs ≡ None → k < length xs → p (get_or xs k d) ≡ false
all_fail p [] k d none within = absurd (omega arith)
all_fail p (x ∷ xs) zero d none within = go (p x) refl none
  where
    go : (b : Bool) → p x ≡ b → (if b then Some x else find p xs) ≡ None → p x ≡ false
    go true is e = absurd (cc e)
    go false is e = is
all_fail p (x ∷ xs) (suc k) d none within = go (p x) none (λ e. all_fail p xs k d e (omega arith))
  where
    go : (b : Bool) → (if b then Some x else find p xs) ≡ None → (find p xs ≡ None → p (get_or xs k d) ≡ false) → p (get_or xs k d) ≡ false
    go true e later = absurd (cc e)
    go false e later = later e

pub get_before : {X : Type 0} (xs ys : List X) (k : ℕ) (x : X) → slice_get xs k ≡ Some x → slice_get (xs ++ ys) k ≡ Some x
get_before [] ys k x e = absurd (cc e)
get_before (y ∷ xs) ys zero x e = e
get_before (y ∷ xs) ys (suc k) x e = get_before xs ys k x e

pub get_next : {X : Type 0} (xs ys : List X) (x : X) → slice_get (xs ++ x ∷ ys) (length xs) ≡ Some x
get_next [] ys x = refl
get_next (y ∷ xs) ys x = get_next xs ys x

-- KEYS

module _ {T Kind Op Delta : Type 0} where
  abbrev name_of : KeyState T Kind Op Delta → Text
  name_of state = state.name

  pub kind_found : (kind_of : T → Kind) (keys : List (KeyState T Kind Op Delta)) (index : ℕ) (at : KeyState T Kind Op Delta) → index < length keys → at ≡ get_or keys index at → AreOfTheirKinds kind_of keys → kind_of at.entry.value ≡ at.kind
  kind_found kind_of keys index at within is of_kinds = subst (λ (state : KeyState T Kind Op Delta). kind_of state.entry.value ≡ state.kind) (sym is) (of_kinds index at within)

  -- keys that are declared alike
  pub same_length : (xs ys : List (KeyState T Kind Op Delta)) → map declared_by xs ≡ map declared_by ys → length xs ≡ length ys
  same_length xs ys same = sym (length-map xs declared_by) ∙ ap length same ∙ length-map ys declared_by

  pub same_declared : (xs ys : List (KeyState T Kind Op Delta)) → map declared_by xs ≡ map declared_by ys → (k : ℕ) (d e : KeyState T Kind Op Delta) → k < length xs → declared_by (get_or xs k d) ≡ declared_by (get_or ys k e)
  same_declared xs ys same k d e within =
      let few : k < length ys = (let l = same_length xs ys same in omega arith) in
      sym (get_or-map declared_by xs k d (declared_by d) within) ∙ ap (λ (l : List (nodes.KeyDecl Kind)). get_or l k (declared_by d)) same ∙ get_or-map declared_by ys k e (declared_by d) few

  -- names of two places differ
  pub names_apart : (keys : List (KeyState T Kind Op Delta)) → AreDistinctKeys keys → (i j : ℕ) (d e : KeyState T Kind Op Delta) → i < length keys → j < length keys → name_of (get_or keys i d) ≡ name_of (get_or keys j e) → i ≡ j
  names_apart keys distinct i j d e within within' same =
      distinct i j (name_of (get_or keys j e)) (slice_get-map name_of keys i d within ∙ ap Some same) (slice_get-map name_of keys j e within')

-- WHAT MAY BE LOADED

module _ {T Kind Op Delta : Type 0} (ghosts : Ghosts T Kind Op Delta) (spelling : Spelling T Kind Op Delta) (id given : ℕ) (keys : List (KeyState T Kind Op Delta)) (stored : Stored) where
  pub unknown_unsound : find (λ (state : KeyState T Kind Op Delta). bytes_eq state.name stored.key) keys ≡ None → IsSoundAt ghosts spelling keys id given stored → ⊥
  unknown_unsound none sound =
      let some = sound.durable in
      let fails : bytes_eq (get_or keys some.0 some.1).name stored.key ≡ false = all_fail (λ (state : KeyState T Kind Op Delta). bytes_eq state.name stored.key) keys some.0 some.1 none some.2 in
      let named : (get_or keys some.0 some.1).name ≡ stored.key = ap name_of some.3 ∙ some.4.0 in
      let no : true ≡ false = sym (ap (λ (name : Text). bytes_eq name stored.key) named ∙ bytes_eq-same stored.key) ∙ fails in
      cc no

  module _ (index : ℕ) (at : KeyState T Kind Op Delta) (found : IsFound (λ (state : KeyState T Kind Op Delta). bytes_eq state.name stored.key) keys index) (is : at ≡ get_or keys index at) where
    -- what is sound is fit for the key that is found
    pub sound_found : AreDistinctKeys keys → (sound : IsSoundAt ghosts spelling keys id given stored) → IsFitFor ghosts spelling id given at stored.bytes sound.parts
    sound_found distinct sound =
        let some = sound.durable in
        let named : name_of (get_or keys some.0 some.1) ≡ name_of (get_or keys index at) = ap name_of some.3 ∙ some.4.0 ∙ sym (bytes_eq-tells _ stored.key (found.passes at)) in
        let place : some.0 ≡ index = names_apart keys distinct some.0 index some.1 at some.2 found.within named in
        let here : some.1 ≡ at = sym some.3 ∙ get_or_default keys some.0 some.1 at some.2 ∙ ap (λ (k : ℕ). get_or keys k at) place ∙ sym is in
        record {
          durable = ap (λ (state : KeyState T Kind Op Delta). state.durable) (sym here) ∙ some.4.1;
          kind = ap (λ (state : KeyState T Kind Op Delta). state.kind) (sym here) ∙ some.4.2;
          envelope = sound.envelope;
          spelled = sound.spelled;
          names = sound.names;
        }

    pub fit_found : (parts : Parts T) → IsFitFor ghosts spelling id given at stored.bytes parts → IsFitAt ghosts spelling id given keys stored index parts
    fit_found parts fit = record {
      within = found.within;
      named = λ d. bytes_eq-tells _ stored.key (found.passes d);
      fit = λ d. subst (λ (state : KeyState T Kind Op Delta). IsFitFor ghosts spelling id given state stored.bytes parts) (is ∙ get_or_default keys index at d found.within) fit;
    }

  pub fit_sound : (index : ℕ) (parts : Parts T) (d : KeyState T Kind Op Delta) → IsFitAt ghosts spelling id given keys stored index parts → IsSoundAt ghosts spelling keys id given stored
  fit_sound index parts d fit =
      let here = get_or keys index d in
      let for = fit.fit d in
      record {
        parts = parts;
        durable = (index, here, fit.within, get_or_default keys index here d fit.within, (fit.named d, for.durable, for.kind));
        envelope = for.envelope;
        spelled = for.spelled;
        names = for.names;
      }

-- ONE MORE ENTRY

module _ {T Kind Op Delta : Type 0} (ghosts : Ghosts T Kind Op Delta) (spelling : Spelling T Kind Op Delta) (id : ℕ) (view : View) (kept : List Stored) (stored : Stored) where
  -- of another key
  holds_still : (state : KeyState T Kind Op Delta) → state.name ≢ stored.key → HoldsKept ghosts spelling id view kept state → HoldsKept ghosts spelling id view (kept ++ stored ∷ []) state
  holds_still state other (inl untouched) = inl (record { fresh = untouched.fresh; none = All-push (λ (s : Stored). state.name ≢ s.key) kept stored untouched.none other })
  holds_still state other (inr one) = inr (record {
    index = one.index;
    stored = one.stored;
    there = get_before kept (stored ∷ []) one.index one.stored one.there;
    named = one.named;
    parts = one.parts;
    fit = one.fit;
    seen = one.seen;
    log = one.log;
    sent = one.sent;
  })

  -- of this one
  holds_next : (old new : KeyState T Kind Op Delta) (parts : Parts T) → HoldsKept ghosts spelling id view kept old → Takes ghosts.IsDataOf id view.number old parts new → old.name ≡ stored.key → IsFitFor ghosts spelling id view.given old stored.bytes parts
      → HoldsOne ghosts spelling id view (kept ++ stored ∷ []) new
  holds_next old new parts held takes named fit = record {
    index = length kept;
    stored = stored;
    there = get_next kept [] stored;
    named = ap name_of takes.others ∙ named;
    parts = parts;
    fit = record {
      durable = ap (λ (state : KeyState T Kind Op Delta). state.durable) takes.others ∙ fit.durable;
      kind = ap (λ (state : KeyState T Kind Op Delta). state.kind) takes.others ∙ fit.kind;
      envelope = fit.envelope;
      spelled = fit.spelled;
      names = fit.names;
    };
    seen = takes.seen;
    log = ap (λ (state : KeyState T Kind Op Delta). state.log) takes.others ∙ (elim held [ inl untouched ↦ untouched.fresh.log | inr one ↦ one.log ])
        ∙ ap (λ (kind : Kind). record { origin = id; kind = kind; last = 0; before = empty; records = [] }) (ap (λ (state : KeyState T Kind Op Delta). state.kind) (sym takes.others));
    sent = ap (λ (state : KeyState T Kind Op Delta). state.flushed) takes.others ∙ (elim held [ inl untouched ↦ untouched.fresh.sent | inr one ↦ one.sent ]);
  }

  module _ (keys states next : List (KeyState T Kind Op Delta)) (distinct : AreDistinctKeys keys) (same : map declared_by states ≡ map declared_by keys) (index : ℕ) (parts : Parts T)
      (fit : IsFitAt ghosts spelling id view.given keys stored index parts) (takes : TakesAt ghosts.IsDataOf id view.number states index parts next) where
    inside : index < length states
    inside = let l = same_length states keys same in let w = fit.within in omega arith

    here : declared_by takes.before ≡ declared_by (get_or keys index takes.before)
    here = ap declared_by takes.there ∙ same_declared states keys same index takes.before takes.before inside

    pub declared_next : map declared_by next ≡ map declared_by keys
    declared_next = ap (map declared_by) takes.set ∙ map-set_same declared_by states index takes.after takes.before (ap declared_by takes.takes.others ∙ ap declared_by takes.there) ∙ same

    before_fit : IsFitFor ghosts spelling id view.given takes.before stored.bytes parts
    before_fit = let for = fit.fit takes.before in record {
      durable = ap (λ (decl : nodes.KeyDecl Kind). decl.durable) here ∙ for.durable;
      kind = ap (λ (decl : nodes.KeyDecl Kind). decl.kind) here ∙ for.kind;
      envelope = for.envelope;
      spelled = for.spelled;
      names = for.names;
    }

    before_named : takes.before.name ≡ stored.key
    before_named = ap (λ (decl : nodes.KeyDecl Kind). decl.name) here ∙ fit.named takes.before

    after_holds : All (HoldsKept ghosts spelling id view kept) states → HoldsOne ghosts spelling id view (kept ++ stored ∷ []) takes.after
    after_holds holds = holds_next takes.before takes.after parts (subst (HoldsKept ghosts spelling id view kept) (sym takes.there) (holds index takes.before inside)) takes.takes before_named before_fit

    pub holds_more : All (HoldsKept ghosts spelling id view kept) states → All (HoldsKept ghosts spelling id view (kept ++ stored ∷ [])) next
    holds_more holds k d within = ⊎_elim
        (λ (e : k ≡ index). subst (HoldsKept ghosts spelling id view (kept ++ stored ∷ [])) (sym (ap (λ (l : List (KeyState T Kind Op Delta)). get_or l k d) takes.set ∙ ap (λ (j : ℕ). get_or (set states index takes.after) j d) e ∙ get_or-set_same states index takes.after d inside))
        (inr (after_holds holds)))
        (λ (ne : k ≢ index). subst (HoldsKept ghosts spelling id view (kept ++ stored ∷ [])) (sym (ap (λ (l : List (KeyState T Kind Op Delta)). get_or l k d) takes.set ∙ get_or-set_other states index k takes.after d ne))
        (holds_still (get_or states k d) (other k d ne (few k within)) (holds k d (few k within))))
        (cases_eq k index)
      where
        few : (k : ℕ) → k < length next → k < length states
        few k within = let e : length next ≡ length states = ap length takes.set ∙ length-set states index takes.after in omega arith

        other : (k : ℕ) (d : KeyState T Kind Op Delta) → k ≢ index → k < length states → (get_or states k d).name ≢ stored.key
        other k d ne inside' e =
            let l = same_length states keys same in
            let named : name_of (get_or keys k d) ≡ name_of (get_or keys index d) = ap (λ (decl : nodes.KeyDecl Kind). decl.name) (sym (same_declared states keys same k d d inside')) ∙ e ∙ sym (fit.named d) in
            ne (names_apart keys distinct k index d d (omega arith) fit.within named)

-- ALL OF THEM

module _ {T Kind Op Delta : Type 0} (ghosts : Ghosts T Kind Op Delta) (spelling : Spelling T Kind Op Delta) where
  pub holds_none : (id : ℕ) (view : View) (states : List (KeyState T Kind Op Delta)) → All (IsFresh ghosts.kind_of ghosts.IsDataOf ghosts.IsDeltaOf id) states → All (HoldsKept ghosts spelling id view []) states
  holds_none id view states fresh k d within = inl (record { fresh = fresh k d within; none = λ j e few. absurd (omega arith) })

  pub sound_none : (keys : List (KeyState T Kind Op Delta)) (id given : ℕ) → AreSound ghosts spelling keys id given []
  sound_none keys id given k d within = absurd (omega arith)

  module _ (keys : List (KeyState T Kind Op Delta)) (id given : ℕ) (kept : List Stored) (stored : Stored) where
    pub sound_more : AreSound ghosts spelling keys id given kept → IsSoundAt ghosts spelling keys id given stored → AreSound ghosts spelling keys id given (kept ++ stored ∷ [])
    sound_more sound next = All-push (IsSoundAt ghosts spelling keys id given) kept stored sound next

    pub first_unsound : (rest all : List Stored) → kept ++ stored ∷ rest ≡ all → AreSound ghosts spelling keys id given kept → (IsSoundAt ghosts spelling keys id given stored → ⊥) → IsFirstUnsound ghosts spelling keys id given all stored.key
    first_unsound rest all split sound unsound = record {
      index = length kept;
      stored = stored;
      there = ap (λ (l : List Stored). slice_get l (length kept)) (sym split) ∙ get_next kept rest stored;
      named = refl;
      unsound = unsound;
      before = subst (AreSound ghosts spelling keys id given) (sym (ap (take (length kept)) (sym split) ∙ take-append_seam kept (stored ∷ rest))) sound;
    }

-- WHAT MEMBERS STORED

module _ {T Kind Op Delta : Type 0} (ghosts : Ghosts T Kind Op Delta) (id given : ℕ)
    (unmentioned : (state : T) (log : History Op) (held : VersionVector) (gone : IdentitySet) (i : ℕ) → ghosts.IsDataOf state log held gone → without gone held i ≡ 0 → ghosts.mentioned state i ≡ false)
    (parts : Parts T) (log : History Op) (entry : Entry Op) (stands : StandsFor ghosts.IsDataOf parts log entry) (marks : AreMarks parts.marks) (fit : IsFit id given entry) where
  abbrev held : VersionVector
  held = versions entry.history

  held_earlier : (i : ℕ) → without (performed_in parts.marks) held i ≢ 0 → IsEarlier id given i
  held_earlier i ne = go (performed_in parts.marks i) ne
    where
      go : (b : Bool) → (if b then 0 else held i) ≢ 0 → IsEarlier id given i
      go true ne = absurd (ne refl)
      go false ne = fit.counted i (let some : held i ≢ 0 = ne in omega arith)

  begun_is : (r view owner seen : ℕ) → mark_of parts.marks r ≡ Some (Initialized view owner seen) → entry.marks r ≡ Some (record { view = view; owner = owner; seen = members_in seen })
  begun_is r view owner seen has = stands.marks r ∙ ap begun has

  prune_named : (r owner at' upto : ℕ) → mark_of parts.marks r ≡ Some (Performed owner at' upto) → 1 ≤ upto → IsEarlier id given r × IsEarlier id given owner
  prune_named r owner at' upto has some =
      let m = stands.holds.marked r (ap is_performed has) in
      let by : ℕ = m.0 in
      let index : ℕ = m.1 in
      let prunes : Prunes log held r by index = m.2 in
      let mark : Some (Performed owner at' upto) ≡ Some (Performed by (index + 1) (past_of log by index r)) = sym has ∙ stands.holds.prunes r by index prunes in
      let who : owner ≡ by = cc mark in
      let past : upto ≡ past_of log by index r = cc mark in
      let frozen : held r ≡ past_of log by index r = stands.holds.exact.frozen r by index prunes in
      let within : index < held by = prunes.within in
      (fit.counted r (let l : 0 < held r = omega arith in l), subst (IsEarlier id given) (sym who) (fit.counted by (let l : 0 < held by = omega arith in l)))

  mark_named : (r : ℕ) (mark : Marker) → mark_of parts.marks r ≡ Some mark → IsEarlier id given r × MarkIsEarlier id given mark
  mark_named r (Initialized view owner seen) has =
      let is = begun_is r view owner seen has in
      let mark : Mark = record { view = view; owner = owner; seen = members_in seen } in
      ((fit.marked r mark is).0, ((fit.marked r mark is).1, λ i member. fit.seen r mark i is member))
  mark_named r (Performed owner at' upto) has = prune_named r owner at' upto has (marks.each r (Performed owner at' upto) has).2.some

  pub names_fit : NamesEarlier ghosts id given parts
  names_fit = record {
    counted = λ i ne. held_earlier i (λ zero. ne (stands.holds.numbers i ∙ zero));
    marked = mark_named;
    mentioned = λ i e. held_earlier i (λ zero. let no : true ≡ false = sym e ∙ unmentioned parts.value log held (performed_in parts.marks) i stands.holds.state zero in cc no);
  }

-- what stands at a key is what is stored of the parts that were kept
stored_parts : {T Kind Op Delta : Type 0} (ghosts : Ghosts T Kind Op Delta) (spelling : Spelling T Kind Op Delta)
    (byte_means : (state : T) (log : History Op) (held : VersionVector) (gone : IdentitySet) → IsPrunedCut log held gone → ghosts.IsDataOf state log held gone → spelling.byte_of state ≡ spelling.history_byte (ghosts.kind_of state) (cut log held))
    (means : (state : T) (log : History Op) (held : VersionVector) (gone : IdentitySet) → IsPrunedCut log held gone → ghosts.IsDataOf state log held gone → spelling.spelled state ≡ spelling.history_spelled (ghosts.kind_of state) (cut log held))
    (kinds : Text → Kind) (logs : Text → History Op) (store : Store Op) (stored : Stored) (e : SpellsEntry ghosts spelling kinds logs store stored) → stored.bytes ≡ envelope_stored spelling.byte_of spelling.spelled e.kept.parts
stored_parts {T} {Kind} ghosts spelling byte_means means kinds logs store stored e =
    e.bytes ∙ ap (λ (kind : Kind). entry_stored spelling.history_byte spelling.history_spelled kind e.entry) (sym e.kept.of_kind)
    ∙ sym (stored_is ghosts.IsDataOf ghosts.kind_of spelling.byte_of spelling.spelled spelling.history_byte spelling.history_spelled byte_means means e.kept.parts (logs stored.key) e.entry e.kept.image)

module _ {T Kind Op Delta : Type 0} (ghosts : Ghosts T Kind Op Delta) (spelling : Spelling T Kind Op Delta)
    (byte_means : (state : T) (log : History Op) (held : VersionVector) (gone : IdentitySet) → IsPrunedCut log held gone → ghosts.IsDataOf state log held gone → spelling.byte_of state ≡ spelling.history_byte (ghosts.kind_of state) (cut log held))
    (means : (state : T) (log : History Op) (held : VersionVector) (gone : IdentitySet) → IsPrunedCut log held gone → ghosts.IsDataOf state log held gone → spelling.spelled state ≡ spelling.history_spelled (ghosts.kind_of state) (cut log held))
    (unmentioned : (state : T) (log : History Op) (held : VersionVector) (gone : IdentitySet) (i : ℕ) → ghosts.IsDataOf state log held gone → without gone held i ≡ 0 → ghosts.mentioned state i ≡ false)
    (id given : ℕ) (keys : List (KeyState T Kind Op Delta)) (kinds : Text → Kind) (logs : Text → History Op) (store : Store Op) (have_kinds : HaveKinds kinds keys) (fit : AreFit keys id given store) where
  sound_one : (stored : Stored) → SpellsEntry ghosts spelling kinds logs store stored → IsSoundAt ghosts spelling keys id given stored
  sound_one stored e =
      let parts = e.kept.parts in
      let f = fit stored.key e.entry e.has in
      let some = f.0 in
      let kind : kinds some.1.name ≡ some.1.kind = subst (λ (state : KeyState T Kind Op Delta). kinds state.name ≡ state.kind) some.3 (have_kinds some.0 some.1 some.2) in
      record {
        parts = parts;
        durable = (some.0, some.1, some.2, some.3, (some.4.0, some.4.1, sym kind ∙ ap kinds some.4.0 ∙ sym e.kept.of_kind));
        envelope = e.kept.readable;
        spelled = inr (stored_parts ghosts spelling byte_means means kinds logs store stored e);
        names = names_fit ghosts id given unmentioned parts (logs stored.key) e.entry e.kept.image e.kept.readable.spelled.marks f.1;
      }

  pub never_unsound : (table : Table) (key : Text) → SpellsStore ghosts spelling kinds logs table store → IsFirstUnsound ghosts spelling keys id given table key → ⊥
  never_unsound table key spells first =
      first.unsound (sound_one first.stored
      (subst (SpellsEntry ghosts spelling kinds logs store) (get_or_from_slice_get table first.index first.stored first.stored first.there) (spells.each first.index first.stored (slice_get_within table first.index first.stored first.there))))

-- A NEW MEMBER

-- nothing is of its own, logged or sent
record IsNewKey {T Kind Op Delta : Type 0} (kind_of : T → Kind) (id : ℕ) (state : KeyState T Kind Op Delta) : Type 0 where
  kind_is : kind_of state.entry.value ≡ state.kind
  few : number_at (parts_of state.entry).versions id ≡ 0
  unpruned : performed_in (parts_of state.entry).marks id ≡ false
  log : state.log ≡ record { origin = id; kind = state.kind; last = 0; before = empty; records = [] }

module _ {T Kind Op Delta : Type 0} (ghosts : Ghosts T Kind Op Delta) (id given : ℕ) (parts : Parts T) (names : NamesEarlier ghosts id given parts) where
  pub none_own : number_at parts.versions id ≡ 0
  none_own = elim (cases_eq (number_at parts.versions id) 0) [ inl e ↦ e | inr ne ↦ absurd ((names.counted id ne).other refl) ]

  pub none_pruned : performed_in parts.marks id ≡ false
  none_pruned = go (mark_of parts.marks id) refl
    where
      go : (o : Option Marker) → mark_of parts.marks id ≡ o → is_performed o ≡ false
      go None has = refl
      go (Some mark) has = absurd ((names.marked id mark has).0.other refl)

module _ {T Kind Op Delta : Type 0} (ghosts : Ghosts T Kind Op Delta) (spelling : Spelling T Kind Op Delta) (id : ℕ) (view : View) (kept : List Stored) where
  new_key : (state : KeyState T Kind Op Delta) → HoldsKept ghosts spelling id view kept state → IsNewKey ghosts.kind_of id state
  new_key state (inl untouched) = record {
    kind_is = untouched.fresh.kind_is;
    few = ap (λ (m : Numbers). number_at m id) untouched.fresh.versions ∙ number_at-empty id;
    unpruned = ap (λ (m : Marks). performed_in m id) untouched.fresh.marks ∙ ap is_performed (get-empty nat_cmp id);
    log = untouched.fresh.log;
  }
  new_key state (inr one) = record {
    kind_is = ap ghosts.kind_of one.seen.value ∙ sym one.fit.kind;
    few = ap (λ (m : Numbers). number_at m id) one.seen.versions ∙ none_own ghosts id view.given one.parts one.fit.names;
    unpruned = one.seen.performed id ∙ none_pruned ghosts id view.given one.parts one.fit.names;
    log = one.log;
  }

  module _ (states : List (KeyState T Kind Op Delta)) (holds : All (HoldsKept ghosts spelling id view kept) states) where
    abbrev new_at : (k : ℕ) (d : KeyState T Kind Op Delta) → k < length states → IsNewKey ghosts.kind_of id (get_or states k d)
    new_at k d within = new_key (get_or states k d) (holds k d within)

    pub few_loaded : (steps : ℕ) → HasFewOwn id steps states
    few_loaded steps k d within = let e = (new_at k d within).few in omega arith

    pub unpruned_loaded : IsUnpruned id states
    unpruned_loaded k d within = (new_at k d within).unpruned

    pub logged_loaded : AreLogged ghosts.kind_of id states
    logged_loaded k d within = let new = new_at k d within in record {
      origin = ap (λ (parts : LogParts Kind Delta). parts.origin) new.log;
      kind = ap (λ (parts : LogParts Kind Delta). parts.kind) new.log ∙ sym new.kind_is;
      last = ap (λ (parts : LogParts Kind Delta). parts.last) new.log ∙ sym new.few;
    }

    pub kinds_loaded : AreOfTheirKinds ghosts.kind_of states
    kinds_loaded k d within = (new_at k d within).kind_is

-- the names are those that were declared
pub names_loaded : {T Kind Op Delta : Type 0} (states keys : List (KeyState T Kind Op Delta)) → map declared_by states ≡ map declared_by keys → AreDistinctKeys keys → AreDistinctKeys states
names_loaded {T} {Kind} {Op} {Delta} states keys same distinct i j name e f =
    distinct i j name (sym (ap (λ (names : List Text). slice_get names i) names) ∙ e) (sym (ap (λ (names : List Text). slice_get names j) names) ∙ f)
  where
    names : map (λ (state : KeyState T Kind Op Delta). state.name) states ≡ map (λ (state : KeyState T Kind Op Delta). state.name) keys
    names = sym (map-map (λ (decl : nodes.KeyDecl Kind). decl.name) declared_by states) ∙ ap (map (λ (decl : nodes.KeyDecl Kind). decl.name)) same ∙ map-map (λ (decl : nodes.KeyDecl Kind). decl.name) declared_by keys

-- WHAT ITS KEYS STAND FOR

-- an empty log stands for an entry with no own record
empty_log : {Kind Op Delta : Type 0} (IsDeltaOf : Delta → History Op → ℕ → ℕ → ℕ → Type 0) (parts : LogParts Kind Delta) (log : History Op) (entry : Entry Op) (id : ℕ) (kind : Kind) {State : Type 0} {D : State → History Op → VersionVector → IdentitySet → Type 0} (held : Parts State)
    → parts ≡ record { origin = id; kind = kind; last = 0; before = empty; records = [] } → StandsFor D held log entry → at entry.history id ≡ 0 → StandsForLog IsDeltaOf parts log entry
empty_log {Kind} {Op} {Delta} IsDeltaOf parts log entry id kind held is stands none =
    subst (λ (parts : LogParts Kind Delta). StandsForLog IsDeltaOf parts log entry) (sym is)
    (record { histories = stands.histories; taken = stands.taken; last = sym none; count = refl; before = λ some. absurd (omega arith); kept = λ k own has. absurd (cc has) })

module _ {T Kind Op Delta : Type 0} (ghosts : Ghosts T Kind Op Delta) (spelling : Spelling T Kind Op Delta)
    (byte_means : (state : T) (log : History Op) (held : VersionVector) (gone : IdentitySet) → IsPrunedCut log held gone → ghosts.IsDataOf state log held gone → spelling.byte_of state ≡ spelling.history_byte (ghosts.kind_of state) (cut log held))
    (means : (state : T) (log : History Op) (held : VersionVector) (gone : IdentitySet) → IsPrunedCut log held gone → ghosts.IsDataOf state log held gone → spelling.spelled state ≡ spelling.history_spelled (ghosts.kind_of state) (cut log held))
    (once : (bytes : List ℕ) (a b : Parts T) → IsEnvelope spelling.IsSound ghosts.mentioned a → IsEnvelope spelling.IsSound ghosts.mentioned b
    → IsStored spelling.byte_of spelling.spelled a bytes → IsStored spelling.byte_of spelling.spelled b bytes → a ≡ b)
    (kinds : Text → Kind) (logs : Text → History Op) (id : ℕ) (view : View) (table : Table) (store : Store Op) (spells : SpellsStore ghosts spelling kinds logs table store) where
  -- what a key took is what the store has
  record IsOfStore (state : KeyState T Kind Op Delta) : Type 0 where
    entry : Entry Op
    has : store state.name ≡ Some entry
    image : StandsFor ghosts.IsDataOf (parts_of state.entry) (logs state.name) (seen_by id view.number entry)
    none : at entry.history id ≡ 0

  spells_one : (index : ℕ) (stored : Stored) → slice_get table index ≡ Some stored → SpellsEntry ghosts spelling kinds logs store stored
  spells_one index stored there = subst (SpellsEntry ghosts spelling kinds logs store) (get_or_from_slice_get table index stored stored there) (spells.each index stored (slice_get_within table index stored there))

  same_parts : (state : KeyState T Kind Op Delta) (one : HoldsOne ghosts spelling id view table state) (e : SpellsEntry ghosts spelling kinds logs store one.stored) → e.kept.parts ≡ one.parts
  same_parts state one e =
      once one.stored.bytes e.kept.parts one.parts e.kept.readable one.fit.envelope (inr (stored_parts ghosts spelling byte_means means kinds logs store one.stored e)) one.fit.spelled

  none_in : (parts : Parts T) (log : History Op) (entry : Entry Op) → StandsFor ghosts.IsDataOf parts log entry → NamesEarlier ghosts id view.given parts → at entry.history id ≡ 0
  none_in parts log entry stands names =
      sym (ap (λ (gone : Bool). if gone then 0 else versions entry.history id) (none_pruned ghosts id view.given parts names)) ∙ sym (stands.holds.numbers id) ∙ none_own ghosts id view.given parts names

  of_store : (state : KeyState T Kind Op Delta) → HoldsOne ghosts spelling id view table state → IsOfStore state
  of_store state one =
      let e = spells_one one.index one.stored one.there in
      let stands : StandsFor ghosts.IsDataOf one.parts (logs one.stored.key) e.entry = subst (λ (parts : Parts T). StandsFor ghosts.IsDataOf parts (logs one.stored.key) e.entry) (same_parts state one e) e.kept.image in
      record {
        entry = e.entry;
        has = ap store one.named ∙ e.has;
        image = subst (λ (name : Text). StandsFor ghosts.IsDataOf (parts_of state.entry) (logs name) (seen_by id view.number e.entry)) (sym one.named) (one.seen.image (logs one.stored.key) e.entry stands);
        none = none_in one.parts (logs one.stored.key) e.entry stands one.fit.names;
      }

  -- a durable key of which nothing is kept
  none_kept : (state : KeyState T Kind Op Delta) → All (λ (stored : Stored). state.name ≢ stored.key) table → store state.name ≡ None
  none_kept state none = go (store state.name) refl
    where
      go : (o : Option (Entry Op)) → store state.name ≡ o → o ≡ None
      go None has = refl
      go (Some entry) has = absurd (let some = spells.all state.name entry has in none some.0 some.1 some.2 (sym some.4 ∙ ap (λ (stored : Stored). stored.key) (sym some.3)))

  abbrev entry_of : KeyState T Kind Op Delta → Entry Op
  entry_of state = if state.durable then seen_by id view.number (unwrap_or (store state.name) empty_entry) else empty_entry

  untouched_entry : (state : KeyState T Kind Op Delta) → All (λ (stored : Stored). state.name ≢ stored.key) table → entry_of state ≡ empty_entry
  untouched_entry state none = ap (λ (o : Option (Entry Op)). if state.durable then seen_by id view.number (unwrap_or o empty_entry) else empty_entry) (none_kept state none) ∙ go state.durable
    where
      go : (b : Bool) → (if b then seen_by id view.number (unwrap_or None (empty_entry {Op = Op})) else empty_entry) ≡ empty_entry
      go true = refl
      go false = refl

  taken_entry : (state : KeyState T Kind Op Delta) (of : IsOfStore state) → state.durable ≡ true → entry_of state ≡ seen_by id view.number of.entry
  taken_entry state of durable =
      ap (λ (b : Bool). if b then seen_by id view.number (unwrap_or (store state.name) empty_entry) else empty_entry) durable ∙ ap (λ (o : Option (Entry Op)). seen_by id view.number (unwrap_or o empty_entry)) of.has

  -- the entry of the key, and its log
  record StandsAtKey (state : KeyState T Kind Op Delta) (entry : Entry Op) : Type 0 where
    image : StandsFor ghosts.IsDataOf (parts_of state.entry) (logs state.name) entry
    logged : StandsForLog ghosts.IsDeltaOf state.log (logs state.name) entry
    sent : (i : ℕ) → number_at state.flushed i ≡ 0

  stands_at : (state : KeyState T Kind Op Delta) → IsHistory (logs state.name) → HoldsKept ghosts spelling id view table state → StandsAtKey state (entry_of state)
  stands_at state histories (inl untouched) = subst (StandsAtKey state) (sym (untouched_entry state untouched.none)) (record {
    image = untouched.fresh.image (logs state.name) histories;
    logged = untouched.fresh.logged (logs state.name) histories;
    sent = λ i. ap (λ (m : Numbers). number_at m i) untouched.fresh.sent ∙ number_at-empty i;
  })
  stands_at state histories (inr one) =
      let of = of_store state one in
      subst (StandsAtKey state) (sym (taken_entry state of one.fit.durable)) (record {
        image = of.image;
        logged = empty_log ghosts.IsDeltaOf state.log (logs state.name) (seen_by id view.number of.entry) id state.kind (parts_of state.entry) one.log of.image of.none;
        sent = λ i. ap (λ (m : Numbers). number_at m i) one.sent ∙ number_at-empty i;
      })

  module _ {K : Type 0} {keeping : Keeping K} (keys : List (KeyState T Kind Op Delta)) (code : Node T K Kind Op Delta ghosts keeping) (distinct : AreDistinctKeys keys) (same : map declared_by code.keys.items ≡ map declared_by keys)
      (holds : All (HoldsKept ghosts spelling id view table) code.keys.items) (histories : (key : Text) → IsHistory (logs key)) (have_kinds : HaveKinds kinds keys) where
    abbrev states : List (KeyState T Kind Op Delta)
    states = code.keys.items

    found_at : (k : ℕ) (d : KeyState T Kind Op Delta) → k < length states → find (λ (decl : nodes.KeyDecl Kind). bytes_eq decl.name (get_or states k d).name) (map declared_by keys) ≡ Some (declared_by (get_or states k d))
    found_at k d within =
        let name = (get_or states k d).name in
        ap (find (λ (decl : nodes.KeyDecl Kind). bytes_eq decl.name name)) (sym same) ∙ find-map (λ (decl : nodes.KeyDecl Kind). bytes_eq decl.name name) declared_by states
        ∙ ap (option_map declared_by) (find_one (λ (state : KeyState T Kind Op Delta). bytes_eq state.name name) states k d within (bytes_eq-same name)
        (λ j e few holds. names_apart states (names_loaded states keys same distinct) j k e d few within (bytes_eq-tells _ name holds)))

    loaded_at : (k : ℕ) (d : KeyState T Kind Op Delta) → k < length states → (loaded_node {Op = Op} {Shown = Shown} (map declared_by keys) id view store).entries (get_or states k d).name ≡ entry_of (get_or states k d)
    loaded_at k d within = ap (loaded_entry id view store) (found_at k d within)

    key_stands : (k : ℕ) (d : KeyState T Kind Op Delta) → k < length states
        → StandsForKey ghosts.kind_of ghosts.IsDataOf ghosts.IsDeltaOf kinds logs (get_or states k d) ((loaded_node {Op = Op} {Shown = Shown} (map declared_by keys) id view store).entries (get_or states k d).name) (λ peer. 0)
    key_stands k d within =
        let state = get_or states k d in
        let few : k < length keys = (let l = same_length states keys same in omega arith) in
        let decl = same_declared states keys same k d d within in
        let kind : kinds state.name ≡ state.kind =
        ap (λ (decl : nodes.KeyDecl Kind). kinds decl.name) decl ∙ have_kinds k d few ∙ ap (λ (decl : nodes.KeyDecl Kind). decl.kind) (sym decl) in
        let s : StandsAtKey state ((loaded_node {Op = Op} {Shown = Shown} (map declared_by keys) id view store).entries state.name) =
        subst (StandsAtKey state) (sym (loaded_at k d within)) (stands_at state (histories state.name) (holds k d within)) in
        record {
          kind = kind;
          held = record { kind = kinds_loaded ghosts spelling id view table states holds k d within ∙ sym kind; image = s.image };
          logged = s.logged;
          sent = s.sent;
        }

    pub stands_loaded : id ≡ code.id → view ≡ code.view → known code.operations ≡ [] → code.steps ≡ 0 → StandsForNode ghosts.kind_of ghosts.IsDataOf kinds logs code (loaded_node (map declared_by keys) id view store)
    stands_loaded identity viewed operations steps = record {
      identity = identity;
      view = viewed;
      keys = sym same;
      distinct = names_loaded states keys same distinct;
      entries = key_stands;
      operations = operates_first (known code.operations) id view (map declared_by keys) store operations;
      steps = sym steps;
    }
