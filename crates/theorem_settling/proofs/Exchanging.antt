-- What an exchange does to a key: both have then what either had, and the leader's marks have one more who stands in them.
use Rattle.std.proofs.Common.{◌<◌, ◌≡◌, ℕ, zero, suc, ◌≤◌, max, List, [], ◌∷◌, refl, sym, ap, subst, ◌∙◌, arith, Bool, true, false, Some, None, ◌⊎◌, inl, inr}
use Rattle.std.specs.Prelude.{if◌then◌else◌, slice_get, fold, filter, map, find, not, ◌&&◌, ◌||◌, is_some, option_map}
use Rattle.std.specs.List.{list_any}
use Rattle.std.specs.Str.{bytes_eq}
use Rattle.model_history.specs.Table.{identity_limit}
use Rattle.model_history.specs.Texts.{Text, contains_text}
use Rattle.model_history.specs.History.{at, union, is_pruned}
use Rattle.model_history.proofs.PruneLaws.{IsIn, found}
use Rattle.model_members.specs.Entry.{Entry, Mark, has_records}
use Rattle.model_members.specs.DataType.{Replication}
use Rattle.model_members.specs.Message.{Keyed}
use Rattle.model_members.specs.Node.{KeyDecl, KeyState, Node, state_of, key_states, keyed_entry}
use Rattle.model_members.specs.Step.{digest_of, named_digest, is_digest, news_for, wanted_from, named_entries}
use Rattle.model_members.proofs.Steps.{bytes_eq-same}
use Rattle.model_members.proofs.Taking.{taken_entry}
use Rattle.theorem_runs.proofs.Keeping.{same_text}
use Rattle.theorem_runs.proofs.Sending.{all_mapped_by, all_filtered, all_mapped}
use Rattle.theorem_operations.proofs.Lists.{to_filter, to_map, find_in}
use Rattle.theorem_settling.proofs.Merging.{AllTheirs, Ordinary, IsBetween, IsBoth, takes_between, takes_both, MarkAt, UpTo, OneMore, mark_weaker, takes_keeps, takes_brings}

-- LISTS

any_text : (texts : List Text) (key : Text) → IsIn texts key → contains_text texts key ≡ true
any_text [] key h = absurd (cc h.1)
any_text (t ∷ ts) key (zero, e) = let same : t ≡ key = cc e in ap (λ x. bytes_eq key x || list_any (bytes_eq key) ts) same ∙ ap (λ b. b || list_any (bytes_eq key) ts) (bytes_eq-same key)
any_text (t ∷ ts) key (suc k, e) = by (bytes_eq key t) (any_text ts key (k, e))
  where
    by : (b : Bool) → contains_text ts key ≡ true → (b || list_any (bytes_eq key) ts) ≡ true
    by true h = refl
    by false h = h

-- entries with as many records, and with marks of one view in which i stands alike
pub record IsAlike {Op : Type 0} (i : ℕ) (A B : Entry Op) : Type 0 where
  pub counts : (o : ℕ) → at A.history o ≡ at B.history o
  pub marks : (r : ℕ) (m : Mark) → r < identity_limit → B.marks r ≡ Some m → (n : Mark) × (A.marks r ≡ Some n) × (n.view ≡ m.view) × (n.seen i ≡ m.seen i)

module _ {Kind Op Shown : Type 0} (D : Replication Kind Op Shown) (key : Text) where
  abbrev names : KeyDecl Kind → Bool
  names d = bytes_eq d.name key

  -- ENTRIES OF ONE'S OWN

  pub own_theirs : (i v : ℕ) (n : Node Kind Op Shown) (p : KeyState Kind Op → Bool) → AllTheirs i v key (n.entries key) (map (keyed_entry) (filter p (key_states n)))
  own_theirs i v n p =
      all_mapped_by (λ (k : KeyState Kind Op). k.entry ≡ n.entries k.name) (λ (e : Keyed (Entry Op)). e.key ≡ key → e.item ≡ n.entries key) (keyed_entry) (λ k h is. h ∙ ap n.entries is)
      (filter p (key_states n)) (all_filtered (λ (k : KeyState Kind Op). k.entry ≡ n.entries k.name) p (key_states n) (all_mapped (λ (k : KeyState Kind Op). k.entry ≡ n.entries k.name) (state_of n) (λ d. refl) n.keys))

  module _ (n : Node Kind Op Shown) (decl : KeyDecl Kind) (declared : find (λ (d : KeyDecl Kind). bytes_eq d.name key) n.keys ≡ Some decl) where
    pub decl_name : decl.name ≡ key
    decl_name = same_text decl.name key (found (λ (d : KeyDecl Kind). bytes_eq d.name key) n.keys decl declared)

    own_state : IsIn (key_states n) (state_of n decl)
    own_state = to_map (state_of n) n.keys decl (find_in (λ (d : KeyDecl Kind). bytes_eq d.name key) n.keys decl declared)

    pub own_sent : (p : KeyState Kind Op → Bool) → p (state_of n decl) ≡ true → (k : ℕ) × (e : Keyed (Entry Op)) × (slice_get (map (keyed_entry) (filter p (key_states n))) k ≡ Some e) × (e.key ≡ key)
    own_sent p passes =
        let h = to_map (keyed_entry) (filter p (key_states n)) (state_of n decl) (to_filter p (key_states n) (state_of n decl) own_state passes) in
        (h.0, keyed_entry (state_of n decl), h.1, decl_name)

    pub own_named : (p : KeyState Kind Op → Bool) → p (state_of n decl) ≡ true → contains_text (map (λ (k : KeyState Kind Op). k.name) (filter p (key_states n))) key ≡ true
    own_named p passes =
        let h = to_map (λ (k : KeyState Kind Op). k.name) (filter p (key_states n)) (state_of n decl) (to_filter p (key_states n) (state_of n decl) own_state passes) in
        any_text _ key (h.0, h.1 ∙ ap Some decl_name)

  -- DIGESTS

  -- what a member says of its keys
  abbrev pub digests_of : Node Kind Op Shown → List (Keyed (List ℕ))
  digests_of n = map (λ (k : KeyState Kind Op). record { key = k.name; item = digest_of D k }) (filter (λ (k : KeyState Kind Op). has_records k.entry) (key_states n))

  abbrev said : Node Kind Op Shown → List (KeyDecl Kind) → List (Keyed (List ℕ))
  said n ds = map (λ (k : KeyState Kind Op). record { key = k.name; item = digest_of D k }) (filter (λ (k : KeyState Kind Op). has_records k.entry) (map (state_of n) ds))

  named_some : (n : Node Kind Op Shown) (decl : KeyDecl Kind) (ds : List (KeyDecl Kind)) → find (λ (d : KeyDecl Kind). bytes_eq d.name key) ds ≡ Some decl → has_records (n.entries key) ≡ true → named_digest D (said n ds) key ≡ Some (D.digest decl.kind (n.entries key))
  named_some n decl [] e has = absurd (cc e)
  named_some n decl (d ∷ ds) e has = by_name (bytes_eq d.name key) refl e (λ f. named_some n decl ds f has)
    where
      by_records : (b : Bool) → bytes_eq d.name key ≡ false → has_records (n.entries d.name) ≡ b → named_digest D (said n ds) key ≡ Some (D.digest decl.kind (n.entries key))
          → option_map (λ (x : Keyed (List ℕ)). x.item) (find (λ (x : Keyed (List ℕ)). bytes_eq x.key key) (map (λ (k : KeyState Kind Op). record { key = k.name; item = digest_of D k }) (if b then state_of n d ∷ filter (λ (k : KeyState Kind Op). has_records k.entry) (map (state_of n) ds) else filter (λ (k : KeyState Kind Op). has_records k.entry) (map (state_of n) ds)))) ≡ Some (D.digest decl.kind (n.entries key))
      by_records true other is rest = ap (λ b. option_map (λ (x : Keyed (List ℕ)). x.item) (if b then Some (record { key = d.name; item = D.digest d.kind (n.entries d.name) }) else find (λ (x : Keyed (List ℕ)). bytes_eq x.key key) (said n ds))) other ∙ rest
      by_records false other is rest = rest

      by_name : (b : Bool) → bytes_eq d.name key ≡ b → (if b then Some d else find (λ (d : KeyDecl Kind). bytes_eq d.name key) ds) ≡ Some decl
          → (find (λ (d : KeyDecl Kind). bytes_eq d.name key) ds ≡ Some decl → named_digest D (said n ds) key ≡ Some (D.digest decl.kind (n.entries key))) → named_digest D (said n (d ∷ ds)) key ≡ Some (D.digest decl.kind (n.entries key))
      by_name true is f rest =
          let name : d.name ≡ key = same_text d.name key is in
          let same : d ≡ decl = cc f in
          ap (λ b. option_map (λ (x : Keyed (List ℕ)). x.item) (find (λ (x : Keyed (List ℕ)). bytes_eq x.key key) (map (λ (k : KeyState Kind Op). record { key = k.name; item = digest_of D k }) (if b then state_of n d ∷ filter (λ (k : KeyState Kind Op). has_records k.entry) (map (state_of n) ds) else filter (λ (k : KeyState Kind Op). has_records k.entry) (map (state_of n) ds)))))
          (ap (λ m. has_records (n.entries m)) name ∙ has)
          ∙ ap (λ b. option_map (λ (x : Keyed (List ℕ)). x.item) (if b then Some (record { key = d.name; item = D.digest d.kind (n.entries d.name) }) else find (λ (x : Keyed (List ℕ)). bytes_eq x.key key) (said n ds))) is
          ∙ (λ j. Some (D.digest ((same j).kind) (n.entries (name j))))
      by_name false is f rest = by_records (has_records (n.entries d.name)) is refl (rest f)

  named_none : (n : Node Kind Op Shown) (ds : List (KeyDecl Kind)) → has_records (n.entries key) ≡ false → named_digest D (said n ds) key ≡ None
  named_none n [] none = refl
  named_none n (d ∷ ds) none = by_records (has_records (n.entries d.name)) refl (bytes_eq d.name key) refl (named_none n ds none)
    where
      by_records : (b : Bool) → has_records (n.entries d.name) ≡ b → (c : Bool) → bytes_eq d.name key ≡ c → named_digest D (said n ds) key ≡ None
          → option_map (λ (x : Keyed (List ℕ)). x.item) (find (λ (x : Keyed (List ℕ)). bytes_eq x.key key) (map (λ (k : KeyState Kind Op). record { key = k.name; item = digest_of D k }) (if b then state_of n d ∷ filter (λ (k : KeyState Kind Op). has_records k.entry) (map (state_of n) ds) else filter (λ (k : KeyState Kind Op). has_records k.entry) (map (state_of n) ds)))) ≡ None
      by_records false is c named rest = rest
      by_records true is true named rest = absurd (let f = sym is ∙ ap (λ m. has_records (n.entries m)) (same_text d.name key named) ∙ none in cc f)
      by_records true is false named rest = ap (λ b. option_map (λ (x : Keyed (List ℕ)). x.item) (if b then Some (record { key = d.name; item = D.digest d.kind (n.entries d.name) }) else find (λ (x : Keyed (List ℕ)). bytes_eq x.key key) (said n ds))) named ∙ rest

  -- AN EXCHANGE

  module _ (i lead v : ℕ) (a b c : Node Kind Op Shown) (decl : KeyDecl Kind) (declared : find (λ (d : KeyDecl Kind). bytes_eq d.name key) a.keys ≡ Some decl) (keys_b : b.keys ≡ a.keys) (keys_c : c.keys ≡ a.keys) where
    abbrev pub digests : List (Keyed (List ℕ))
    digests = digests_of a

    abbrev pub news : List (Keyed (Entry Op))
    news = news_for D b digests

    abbrev pub wants : List Text
    wants = wanted_from D b digests

    abbrev pub reply : List (Keyed (Entry Op))
    reply = named_entries D c wants

    declared_b : find (λ (d : KeyDecl Kind). bytes_eq d.name key) b.keys ≡ Some decl
    declared_b = ap (find (λ (d : KeyDecl Kind). bytes_eq d.name key)) keys_b ∙ declared

    declared_c : find (λ (d : KeyDecl Kind). bytes_eq d.name key) c.keys ≡ Some decl
    declared_c = ap (find (λ (d : KeyDecl Kind). bytes_eq d.name key)) keys_c ∙ declared

    name : decl.name ≡ key
    name = decl_name a decl declared

    abbrev A : Entry Op
    A = a.entries key

    abbrev B : Entry Op
    B = b.entries key

    abbrev C : Entry Op
    C = c.entries key

    -- c is the member after it took the news, and E the leader's entry after it took the reply
    abbrev pub E : Entry Op
    E = fold (taken_entry lead v key) B reply

    module _ (took : C ≡ fold (taken_entry i v key) A news) (ordinary_b : Ordinary i v key B A) (ordinary_c : Ordinary lead v key C B) (tells : D.digest decl.kind A ≡ D.digest decl.kind B → IsAlike i A B)
        (empty_a : has_records A ≡ false → (o : ℕ) → at A.history o ≡ 0) (empty_b : has_records B ≡ false → (o : ℕ) → at B.history o ≡ 0) (nonempty : (x : Entry Op) (o : ℕ) → has_records A ≡ true → ((o : ℕ) → at A.history o ≤ at x.history o) → has_records x ≡ true) where
      news_theirs : AllTheirs i v key B news
      news_theirs = own_theirs i v b _

      reply_theirs : AllTheirs lead v key C reply
      reply_theirs = own_theirs lead v c _

      C_between : IsBetween i v key B A C
      C_between = subst (IsBetween i v key B A) (sym took) (takes_between i v key B news A news_theirs ordinary_b)

      E_between : IsBetween lead v key C B E
      E_between = takes_between lead v key C reply B reply_theirs ordinary_c

      -- with news of the key
      C_both : (has_records B && not (is_digest D (named_digest D digests key) (D.digest decl.kind B))) ≡ true → IsBoth i v key B A C
      C_both passes =
          let s = own_sent b decl declared_b (λ k. has_records k.entry && not (is_digest D (named_digest D digests k.name) (digest_of D k)))
          (ap (λ n. has_records (b.entries n) && not (is_digest D (named_digest D digests n) (D.digest decl.kind (b.entries n)))) name ∙ passes) in
          subst (IsBoth i v key B A) (sym took) (takes_both i v key B news s.0 s.1 s.2 s.3 A news_theirs ordinary_b)

      -- wanted keys
      wanted : (is_some (named_digest D digests key) && (not (has_records B) || not (is_digest D (named_digest D digests key) (D.digest decl.kind B)))) ≡ true → contains_text wants key ≡ true
      wanted passes =
          own_named b decl declared_b (λ k. is_some (named_digest D digests k.name) && (not (has_records k.entry) || not (is_digest D (named_digest D digests k.name) (digest_of D k))))
          (ap (λ n. is_some (named_digest D digests n) && (not (has_records (b.entries n)) || not (is_digest D (named_digest D digests n) (D.digest decl.kind (b.entries n))))) name ∙ passes)

      replied : contains_text wants key ≡ true → has_records C ≡ true → (k : ℕ) × (e : Keyed (Entry Op)) × (slice_get reply k ≡ Some e) × (e.key ≡ key)
      replied w h =
          own_sent c decl declared_c (λ k. contains_text wants k.name && has_records k.entry)
          (ap (λ n. contains_text wants n && has_records (c.entries n)) name ∙ both_are (contains_text wants key) (has_records C) w h)
        where
          both_are : (x y : Bool) → x ≡ true → y ≡ true → (x && y) ≡ true
          both_are true y e f = f
          both_are false y e f = absurd (cc e)

      E_both : contains_text wants key ≡ true → has_records C ≡ true → IsBoth lead v key C B E
      E_both w h = let s = replied w h in takes_both lead v key C reply s.0 s.1 s.2 s.3 B reply_theirs ordinary_c

      -- whether the digests are equal
      data Digests : Type 0 where
        Nothing : has_records A ≡ false → Digests
        Alike : has_records A ≡ true → IsAlike i A B → Digests
        News : has_records A ≡ true → has_records B ≡ true → is_digest D (named_digest D digests key) (D.digest decl.kind B) ≡ false → Digests
        Lacking : has_records A ≡ true → has_records B ≡ false → Digests

      said_some : has_records A ≡ true → named_digest D digests key ≡ Some (D.digest decl.kind A)
      said_some has = named_some a decl a.keys declared has

      compared : Digests
      compared = by_a (has_records A) refl (has_records B) refl
        where
          by_digest : has_records A ≡ true → has_records B ≡ true → (z : Bool) → is_digest D (named_digest D digests key) (D.digest decl.kind B) ≡ z → Digests
          by_digest e f true g = Alike e (tells (same_text (D.digest decl.kind A) (D.digest decl.kind B) (ap (λ o. is_digest D o (D.digest decl.kind B)) (sym (said_some e)) ∙ g)))
          by_digest e f false g = News e f g

          by_a : (x : Bool) → has_records A ≡ x → (y : Bool) → has_records B ≡ y → Digests
          by_a false e y f = Nothing e
          by_a true e true f = by_digest e f (is_digest D (named_digest D digests key) (D.digest decl.kind B)) refl
          by_a true e false f = Lacking e f

      C_has : has_records A ≡ true → has_records C ≡ true
      C_has has = nonempty C 0 has C_between.more

      news_wanted : has_records A ≡ true → has_records B ≡ true → is_digest D (named_digest D digests key) (D.digest decl.kind B) ≡ false → (has_records B && not (is_digest D (named_digest D digests key) (D.digest decl.kind B))) ≡ true
      news_wanted e f g = ap (λ x. x && not (is_digest D (named_digest D digests key) (D.digest decl.kind B))) f ∙ ap not g

      key_wanted : has_records A ≡ true → (has_records B ≡ false) ⊎ (is_digest D (named_digest D digests key) (D.digest decl.kind B) ≡ false) → contains_text wants key ≡ true
      key_wanted e why = wanted (ap (λ o. is_some o && (not (has_records B) || not (is_digest D (named_digest D digests key) (D.digest decl.kind B)))) (said_some e) ∙ by why)
        where
          right : (x : Bool) → (x || true) ≡ true
          right true = refl
          right false = refl

          by : (has_records B ≡ false) ⊎ (is_digest D (named_digest D digests key) (D.digest decl.kind B) ≡ false) → (not (has_records B) || not (is_digest D (named_digest D digests key) (D.digest decl.kind B))) ≡ true
          by (inl f) = ap (λ x. not x || not (is_digest D (named_digest D digests key) (D.digest decl.kind B))) f
          by (inr g) = ap (λ x. not (has_records B) || not x) g ∙ right (not (has_records B))

      -- BOTH HAVE WHAT EITHER HAD

      pub member_has : (o : ℕ) → at C.history o ≡ max (at A.history o) (at B.history o)
      member_has o = by compared
        where
          by_b : (y : Bool) → has_records A ≡ false → has_records B ≡ y → at C.history o ≡ max (at A.history o) (at B.history o)
          by_b true e f =
              C_both (ap (λ x. x && not (is_digest D (named_digest D digests key) (D.digest decl.kind B))) f ∙ ap (λ d. not (is_digest D d (D.digest decl.kind B))) (named_none a a.keys e)) o
          by_b false e f = let x = C_between.more o in let y = C_between.less o in let z = empty_b f o in omega arith

          by : Digests → at C.history o ≡ max (at A.history o) (at B.history o)
          by (Nothing e) = by_b (has_records B) e refl
          by (Alike e same) = let x = C_between.more o in let y = C_between.less o in let z = same.counts o in omega arith
          by (News e f g) = C_both (news_wanted e f g) o
          by (Lacking e f) = let x = C_between.more o in let y = C_between.less o in let z = empty_b f o in omega arith

      pub leader_has : (o : ℕ) → at E.history o ≡ max (at A.history o) (at B.history o)
      leader_has o = by compared (member_has o)
        where
          by : Digests → at C.history o ≡ max (at A.history o) (at B.history o) → at E.history o ≡ max (at A.history o) (at B.history o)
          by (Nothing e) m = let x = E_between.more o in let y = E_between.less o in let z = empty_a e o in omega arith
          by (Alike e same) m = let x = E_between.more o in let y = E_between.less o in let z = same.counts o in omega arith
          by (News e f g) m = let x = E_both (key_wanted e (inr g)) (C_has e) o in omega arith
          by (Lacking e f) m = let x = E_both (key_wanted e (inl f)) (C_has e) o in omega arith

      -- THE LEADER'S MARKS

      module _ (r : ℕ) (small : r < identity_limit) (S : ℕ → Type 0) (up_a : UpTo r v A) (up_b : UpTo r v B) (up_c : UpTo r v C) (a_sees : (m : Mark) → A.marks r ≡ Some m → m.view ≤ v → m.seen i ≡ true)
          (has_a : has_records A ≡ true) (has_b : has_records B ≡ true) (unpruned : is_pruned (union A.history B.history) r ≡ false) (unpruned_c : is_pruned (union B.history C.history) r ≡ false) (leads : MarkAt r v S B) where
        pub leader_marks : MarkAt r v (OneMore i S) E
        leader_marks = by compared
          where
            by : Digests → MarkAt r v (OneMore i S) E
            by (Nothing e) = absurd (let f = sym has_a ∙ e in cc f)
            by (Lacking e f) = absurd (let g = sym has_b ∙ f in cc g)
            by (Alike e same) =
                let own = same.marks r leads.mark small leads.is in
                let sees : leads.mark.seen i ≡ true = sym own.3 ∙ a_sees own.0 own.1 (let z = leads.now in let w = own.2 in omega arith) in
                let here : MarkAt r v (OneMore i S) B = record { mark = leads.mark; is = leads.is; now = leads.now; seen = λ t s. elim s [ inl is ↦ ap leads.mark.seen is ∙ sees | inr s ↦ leads.seen t s ] } in
                takes_keeps lead v key C r up_c (OneMore i S) reply B reply_theirs ordinary_c unpruned_c here
            by (News e f g) =
                let s = own_sent b decl declared_b (λ k. has_records k.entry && not (is_digest D (named_digest D digests k.name) (digest_of D k)))
                (ap (λ n. has_records (b.entries n) && not (is_digest D (named_digest D digests n) (D.digest decl.kind (b.entries n)))) name ∙ news_wanted e f g) in
                let at_member : MarkAt r v (OneMore i S) C = subst (MarkAt r v (OneMore i S)) (sym took) (takes_brings i v key B r up_b S news s.0 s.1 s.2 s.3 A news_theirs ordinary_b unpruned up_a leads) in
                let q = replied (key_wanted e (inr g)) (C_has e) in
                mark_weaker r v (OneMore lead (OneMore i S)) (OneMore i S) E (λ t s. inr s) (takes_brings lead v key C r up_c (OneMore i S) reply q.0 q.1 q.2 q.3 B reply_theirs ordinary_c unpruned_c up_b at_member)
