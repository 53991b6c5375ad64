-- The changes of some keys, in their order, and what contracts see of them.
-- Later keys come later, and no key comes twice.
-- The change of a place, among these.
-- One more change.
-- A change for each key, or none.
use Rattle.std.proofs.Common.{◌≡◌, ℕ, zero, suc, ◌+◌, ◌<◌, ◌≤◌, List, [], ◌∷◌, ◌++◌, length, drop, set, get_or, refl, sym, ap, ◌∙◌, subst, arith, Bool, true, false, ◌==◌, if◌then◌else◌, Option, Some, None, option_map, map, find, inl, inr}
use Rattle.std.specs.List.{insert}
use Rattle.std.proofs.lemmas.List.{ext_get_or, length-set, get_or-set_other, length-map}
use Rattle.std.proofs.lemmas.List.FromFn.{length-map-range_with_len, get_or-map-range_with_len}
use Rattle.std.proofs.lemmas.Bool.{cases_eq, cases_lt, ne_eqb, eq-eqb}
use Rattle.std.proofs.lemmas.Grind.{get_or-set_at}
use Rattle.member_node.specs.Changes.{change_at, AreRising, IsPut, each_of, IsSparse}
use Rattle.member_node.specs.declared.key.KeyState.{KeyState}
use Rattle.member_node.specs.declared.change.Change.{Change}
use Rattle.member_node.specs.declared.change.ChangeAt.{ChangeAt}

module _ {T Kind Op Delta : Type 0} where
  -- LATER KEYS COME LATER

  pub rising_from : (from to : ℕ) (cs : List (ChangeAt T Kind Op Delta)) → AreRising from to cs → (k : ℕ) (d : ChangeAt T Kind Op Delta) → k < length cs → from ≤ (get_or cs k d).index
  rising_from from to [] r k d within = absurd (omega arith)
  rising_from from to (c ∷ cs) r zero d within = r.0
  rising_from from to (c ∷ cs) r (suc k) d within = let later = rising_from (c.index + 1) to cs r.1 k d (omega arith) in let first = r.0 in omega arith

  rising_ends : (from to : ℕ) (cs : List (ChangeAt T Kind Op Delta)) → AreRising from to cs → from ≤ to
  rising_ends from to [] r = r
  rising_ends from to (c ∷ cs) r = let later = rising_ends (c.index + 1) to cs r.1 in let first = r.0 in omega arith

  pub rising_to : (from to : ℕ) (cs : List (ChangeAt T Kind Op Delta)) → AreRising from to cs → (k : ℕ) (d : ChangeAt T Kind Op Delta) → k < length cs → (get_or cs k d).index < to
  rising_to from to [] r k d within = absurd (omega arith)
  rising_to from to (c ∷ cs) r zero d within = let later = rising_ends (c.index + 1) to cs r.1 in omega arith
  rising_to from to (c ∷ cs) r (suc k) d within = rising_to (c.index + 1) to cs r.1 k d (omega arith)

  pub rising_apart : (from to : ℕ) (cs : List (ChangeAt T Kind Op Delta)) → AreRising from to cs → (j k : ℕ) (d e : ChangeAt T Kind Op Delta) → j < k → k < length cs → (get_or cs j d).index < (get_or cs k e).index
  rising_apart from to [] r j k d e before within = absurd (omega arith)
  rising_apart from to (c ∷ cs) r j zero d e before within = absurd (omega arith)
  rising_apart from to (c ∷ cs) r zero (suc k) d e before within = let later = rising_from (c.index + 1) to cs r.1 k e (omega arith) in omega arith
  rising_apart from to (c ∷ cs) r (suc j) (suc k) d e before within = rising_apart (c.index + 1) to cs r.1 j k d e (omega arith) (omega arith)

  -- from a place on
  pub rising_rest : (from to : ℕ) (cs : List (ChangeAt T Kind Op Delta)) → AreRising from to cs → (k : ℕ) (d : ChangeAt T Kind Op Delta) → k < length cs → AreRising ((get_or cs k d).index + 1) to (drop (suc k) cs)
  rising_rest from to [] r k d within = absurd (omega arith)
  rising_rest from to (c ∷ cs) r zero d within = r.1
  rising_rest from to (c ∷ cs) r (suc k) d within = rising_rest (c.index + 1) to cs r.1 k d (omega arith)

  -- past one of them
  pub rising_after : (from to : ℕ) (xs : List (ChangeAt T Kind Op Delta)) (c : ChangeAt T Kind Op Delta) (ys : List (ChangeAt T Kind Op Delta)) → AreRising from to (xs ++ c ∷ ys) → AreRising (c.index + 1) to ys
  rising_after from to [] c ys r = r.1
  rising_after from to (x ∷ xs) c ys r = rising_after (x.index + 1) to xs c ys r.1

  pub rising_within : (from to : ℕ) (xs : List (ChangeAt T Kind Op Delta)) (c : ChangeAt T Kind Op Delta) (ys : List (ChangeAt T Kind Op Delta)) → AreRising from to (xs ++ c ∷ ys) → c.index < to
  rising_within from to xs c ys r = let later = rising_ends (c.index + 1) to ys (rising_after from to xs c ys r) in omega arith

  -- THE CHANGE OF A PLACE

  pub change_first : (c : ChangeAt T Kind Op Delta) (cs : List (ChangeAt T Kind Op Delta)) (k : ℕ) → change_at (c ∷ cs) k ≡ (if c.index == k then Some c.change else change_at cs k)
  change_first c cs k = go (c.index == k)
    where
      go : (b : Bool) → option_map (λ (at : ChangeAt T Kind Op Delta). at.change) (if b then Some c else find (λ (at : ChangeAt T Kind Op Delta). at.index == k) cs) ≡ (if b then Some c.change else change_at cs k)
      go true = refl
      go false = refl

  pub change_here : (c : ChangeAt T Kind Op Delta) (cs : List (ChangeAt T Kind Op Delta)) (k : ℕ) → c.index ≡ k → change_at (c ∷ cs) k ≡ Some c.change
  change_here c cs k same = change_first c cs k ∙ ap (λ b. if b then Some c.change else change_at cs k) (eq-eqb c.index k same)

  pub change_later : (c : ChangeAt T Kind Op Delta) (cs : List (ChangeAt T Kind Op Delta)) (k : ℕ) → (c.index ≡ k → ⊥) → change_at (c ∷ cs) k ≡ change_at cs k
  change_later c cs k other = change_first c cs k ∙ ap (λ b. if b then Some c.change else change_at cs k) (ne_eqb c.index k other)

  pub change_none : (from to : ℕ) (cs : List (ChangeAt T Kind Op Delta)) → AreRising from to cs → (k : ℕ) → k < from → change_at cs k ≡ None
  change_none from to [] r k below = refl
  change_none from to (c ∷ cs) r k below = let first = r.0 in change_later c cs k (λ e. omega arith) ∙ change_none (c.index + 1) to cs r.1 k (omega arith)

  pub change_there : (from to : ℕ) (cs : List (ChangeAt T Kind Op Delta)) → AreRising from to cs → (k : ℕ) (d : ChangeAt T Kind Op Delta) → k < length cs → change_at cs (get_or cs k d).index ≡ Some (get_or cs k d).change
  change_there from to [] r k d within = absurd (omega arith)
  change_there from to (c ∷ cs) r zero d within = change_here c cs c.index refl
  change_there from to (c ∷ cs) r (suc k) d within =
      let later = rising_from (c.index + 1) to cs r.1 k d (omega arith) in
      change_later c cs (get_or cs k d).index (λ e. omega arith) ∙ change_there (c.index + 1) to cs r.1 k d (omega arith)

  -- where it stands
  pub record StandsAt (cs : List (ChangeAt T Kind Op Delta)) (k : ℕ) (change : Change T Kind Op Delta) : Type 0 where
    pub place : ℕ
    pub within : place < length cs
    pub at : (d : ChangeAt T Kind Op Delta) → (get_or cs place d).index ≡ k
    pub is : (d : ChangeAt T Kind Op Delta) → (get_or cs place d).change ≡ change

  pub stands_at : (cs : List (ChangeAt T Kind Op Delta)) (k : ℕ) (change : Change T Kind Op Delta) → change_at cs k ≡ Some change → StandsAt cs k change
  stands_at [] k change e = absurd (cc e)
  stands_at (c ∷ cs) k change e = elim (cases_eq c.index k) [
    | inl same ↦ record { place = 0; within = omega arith; at = λ d. same; is = λ d. (let both : Some c.change ≡ Some change = sym (change_here c cs k same) ∙ e in cc both) }
    | inr other ↦
        let rest = stands_at cs k change (sym (change_later c cs k other) ∙ e) in
        record { place = suc rest.place; within = (let w = rest.within in omega arith); at = rest.at; is = rest.is }
  ]

  -- a key between those of earlier places and those of later ones
  pub nothing_between : (cs : List (ChangeAt T Kind Op Delta)) (place from k : ℕ) → ((j : ℕ) (d : ChangeAt T Kind Op Delta) → j < place → (get_or cs j d).index < from) → ((j : ℕ) (d : ChangeAt T Kind Op Delta) → place ≤ j → j < length cs → k < (get_or cs j d).index)
      → from ≤ k → change_at cs k ≡ None
  nothing_between cs place from k begun ahead past = go (change_at cs k) refl
    where
      go : (o : Option (Change T Kind Op Delta)) → change_at cs k ≡ o → change_at cs k ≡ None
      go None is = is
      go (Some change) is =
          let s = stands_at cs k change is in
          let d : ChangeAt T Kind Op Delta = record { index = 0; change = change } in
          let here = s.at d in
          let inside = s.within in
          elim (cases_lt s.place place) [
            | inl earlier ↦ absurd (let below = begun s.place d earlier in omega arith)
            | inr later ↦ absurd (let above = ahead s.place d later inside in omega arith)
          ]

  -- ONE MORE CHANGE

  all_before : (from to : ℕ) (cs : List (ChangeAt T Kind Op Delta)) → AreRising from to cs → (place index : ℕ) → place ≤ length cs → ((k : ℕ) (d : ChangeAt T Kind Op Delta) → k + 1 ≡ place → (get_or cs k d).index < index)
      → (k : ℕ) (d : ChangeAt T Kind Op Delta) → k < place → (get_or cs k d).index < index
  all_before from to cs r zero index within before k d below = absurd (omega arith)
  all_before from to cs r (suc p) index within before k d below = elim (cases_eq k p) [
    | inl same ↦ before k d (omega arith)
    | inr other ↦ let last = before p d (omega arith) in let apart = rising_apart from to cs r k p d d (omega arith) (omega arith) in omega arith
  ]

  module _ (index : ℕ) (change : Change T Kind Op Delta) where
    abbrev one : ChangeAt T Kind Op Delta
    one = record { index = index; change = change }

    -- between those of earlier and of later keys
    inserted_at : (cs : List (ChangeAt T Kind Op Delta)) (place : ℕ) → place ≤ length cs → ((k : ℕ) (d : ChangeAt T Kind Op Delta) → k < place → (get_or cs k d).index < index) → (k : ℕ) → change_at (insert cs place one) k ≡ (if index == k then Some change else change_at cs k)
    inserted_at cs zero within before k = change_first one cs k
    inserted_at [] (suc p) within before k = absurd (omega arith)
    inserted_at (c ∷ cs) (suc p) within before k = elim (cases_eq c.index k) [
      | inl same ↦
          let first = before 0 c (omega arith) in
          change_here c (insert cs p one) k same ∙ sym (ap (λ b. if b then Some change else change_at (c ∷ cs) k) (ne_eqb index k (λ e. omega arith)) ∙ change_here c cs k same)
      | inr other ↦
          change_later c (insert cs p one) k other ∙ inserted_at cs p (omega arith) (λ j d below. before (suc j) d (omega arith)) k ∙ ap (λ o. if index == k then Some change else o) (sym (change_later c cs k other))
    ]

    inserted_rising : (from to : ℕ) (cs : List (ChangeAt T Kind Op Delta)) (place : ℕ) → AreRising from to cs → from ≤ index → index < to → place ≤ length cs → ((k : ℕ) (d : ChangeAt T Kind Op Delta) → k < place → (get_or cs k d).index < index)
        → ((d : ChangeAt T Kind Op Delta) → place < length cs → index < (get_or cs place d).index) → AreRising from to (insert cs place one)
    inserted_rising from to [] zero r above below within before after = (above, omega arith)
    inserted_rising from to (c ∷ cs) zero r above below within before after = (above, ((let next = after c (omega arith) in omega arith), r.1))
    inserted_rising from to [] (suc p) r above below within before after = absurd (omega arith)
    inserted_rising from to (c ∷ cs) (suc p) r above below within before after =
        (r.0, inserted_rising (c.index + 1) to cs p r.1 (let first = before 0 c (omega arith) in omega arith) below (omega arith) (λ k d under. before (suc k) d (omega arith)) (λ d under. after d (omega arith)))

    -- in place of the one that is there
    put_at_place : (cs : List (ChangeAt T Kind Op Delta)) (place : ℕ) → place < length cs → ((k : ℕ) (d : ChangeAt T Kind Op Delta) → k < place → (get_or cs k d).index < index) → ((d : ChangeAt T Kind Op Delta) → (get_or cs place d).index ≡ index) → (k : ℕ)
        → change_at (set cs place one) k ≡ (if index == k then Some change else change_at cs k)
    put_at_place [] place within before here k = absurd (omega arith)
    put_at_place (c ∷ cs) zero within before here k = elim (cases_eq index k) [
      | inl same ↦ change_here one cs k same ∙ sym (ap (λ b. if b then Some change else change_at (c ∷ cs) k) (eq-eqb index k same))
      | inr other ↦ let equal : c.index ≡ index = here c in change_later one cs k other ∙ sym (ap (λ b. if b then Some change else change_at (c ∷ cs) k) (ne_eqb index k other) ∙ change_later c cs k (λ e. other (sym equal ∙ e)))
    ]
    put_at_place (c ∷ cs) (suc p) within before here k = elim (cases_eq c.index k) [
      | inl same ↦
          let first = before 0 c (omega arith) in
          change_here c (set cs p one) k same ∙ sym (ap (λ b. if b then Some change else change_at (c ∷ cs) k) (ne_eqb index k (λ e. omega arith)) ∙ change_here c cs k same)
      | inr other ↦
          change_later c (set cs p one) k other ∙ put_at_place cs p (omega arith) (λ j d below. before (suc j) d (omega arith)) here k ∙ ap (λ o. if index == k then Some change else o) (sym (change_later c cs k other))
    ]

    put_rising : (from to : ℕ) (cs : List (ChangeAt T Kind Op Delta)) (place : ℕ) → AreRising from to cs → place < length cs → ((d : ChangeAt T Kind Op Delta) → (get_or cs place d).index ≡ index) → AreRising from to (set cs place one)
    put_rising from to [] place r within here = absurd (omega arith)
    put_rising from to (c ∷ cs) zero r within here =
        let equal : c.index ≡ index = here c in (subst (λ i. from ≤ i) equal r.0, subst (λ i. AreRising (i + 1) to cs) equal r.1)
    put_rising from to (c ∷ cs) (suc p) r within here = (r.0, put_rising (c.index + 1) to cs p r.1 (omega arith) here)

    module _ (keys : ℕ) (cs : List (ChangeAt T Kind Op Delta)) (place : ℕ) (rising : AreRising 0 keys cs) (inside : index < keys) (within : place ≤ length cs)
        (before : (k : ℕ) (d : ChangeAt T Kind Op Delta) → k + 1 ≡ place → (get_or cs k d).index < index) where
      pub is_inserted : ((d : ChangeAt T Kind Op Delta) → place < length cs → index < (get_or cs place d).index) → IsPut index change keys cs (insert cs place one)
      is_inserted after =
          let all = all_before 0 keys cs rising place index within before in
          record { rising = inserted_rising 0 keys cs place rising (omega arith) inside within all after; at = inserted_at cs place within all }

      pub is_put : place < length cs → ((d : ChangeAt T Kind Op Delta) → (get_or cs place d).index ≡ index) → IsPut index change keys cs (set cs place one)
      is_put under here =
          let all = all_before 0 keys cs rising place index within before in
          record { rising = put_rising 0 keys cs place rising under here; at = put_at_place cs place under all here }

  -- A CHANGE FOR EACH KEY

  pub each_at : (keys : ℕ) (cs : List (ChangeAt T Kind Op Delta)) (k : ℕ) (e : Option (Change T Kind Op Delta)) → k < keys → get_or (each_of keys cs) k e ≡ change_at cs k
  each_at keys cs k e within = get_or-map-range_with_len (change_at cs) 0 keys k k e within (omega arith)

  pub each_length : (keys : ℕ) (cs : List (ChangeAt T Kind Op Delta)) → length (each_of keys cs) ≡ keys
  each_length keys cs = length-map-range_with_len (change_at cs) 0 keys

  pub each_put : (keys index : ℕ) (change : Change T Kind Op Delta) (old new : List (ChangeAt T Kind Op Delta)) → index < keys → IsPut index change keys old new → each_of keys new ≡ set (each_of keys old) index (Some change)
  each_put keys index change old new inside put =
      ext_get_or None (each_of keys new) (set (each_of keys old) index (Some change)) (each_length keys new ∙ sym (length-set (each_of keys old) index (Some change) ∙ each_length keys old))
      (λ k below.
      let counted = each_length keys new in
      let counted' = each_length keys old in
      each_at keys new k None (omega arith) ∙ put.at k ∙ elim (cases_eq k index) [
        | inl same ↦ ap (λ b. if b then Some change else change_at old k) (eq-eqb index k (sym same)) ∙ sym (get_or-set_at (each_of keys old) index k (Some change) None same (omega arith))
        | inr other ↦ ap (λ b. if b then Some change else change_at old k) (ne_eqb index k (λ e. other (sym e))) ∙ sym (get_or-set_other (each_of keys old) index k (Some change) None other ∙ each_at keys old k None (omega arith))
      ])

  abbrev no_changes : List (ChangeAt T Kind Op Delta)
  no_changes = []

  abbrev no_change : Option (Change T Kind Op Delta)
  no_change = None

  none_at : (keys : List (KeyState T Kind Op Delta)) (k : ℕ) → get_or (map (λ (state : KeyState T Kind Op Delta). no_change) keys) k no_change ≡ None
  none_at [] k = refl
  none_at (x ∷ keys) zero = refl
  none_at (x ∷ keys) (suc k) = none_at keys k

  pub each_none : (keys : List (KeyState T Kind Op Delta)) → each_of (length keys) no_changes ≡ map (λ (state : KeyState T Kind Op Delta). no_change) keys
  each_none keys =
      ext_get_or no_change (each_of (length keys) no_changes) (map (λ (state : KeyState T Kind Op Delta). no_change) keys) (each_length (length keys) no_changes ∙ sym (length-map keys (λ (state : KeyState T Kind Op Delta). no_change)))
      (λ k below. let counted = each_length (length keys) no_changes in each_at (length keys) no_changes k no_change (omega arith) ∙ sym (none_at keys k))

  -- what a key's change is, by those that are kept
  module _ (changes : List (Option (Change T Kind Op Delta))) (cs : List (ChangeAt T Kind Op Delta)) (sparse : IsSparse changes cs) where
    pub sparse_at : (k : ℕ) (e : Option (Change T Kind Op Delta)) → k < length changes → get_or changes k e ≡ change_at cs k
    sparse_at k e within = ap (λ xs. get_or xs k e) sparse.each ∙ each_at (length changes) cs k e within

    pub sparse_there : (k : ℕ) (d : ChangeAt T Kind Op Delta) (e : Option (Change T Kind Op Delta)) → k < length cs → get_or changes (get_or cs k d).index e ≡ Some (get_or cs k d).change
    sparse_there k d e within =
        sparse_at (get_or cs k d).index e (rising_to 0 (length changes) cs sparse.rising k d within) ∙ change_there 0 (length changes) cs sparse.rising k d within

    -- of one of them
    module _ (i : ℕ) (x : ChangeAt T Kind Op Delta) (within : i < length cs) (is : x ≡ get_or cs i x) where
      pub here_within : x.index < length changes
      here_within = let inside = rising_to 0 (length changes) cs sparse.rising i x within in let same : x.index ≡ (get_or cs i x).index = ap (λ (at : ChangeAt T Kind Op Delta). at.index) is in omega arith

      pub change_is : (e : Option (Change T Kind Op Delta)) → get_or changes x.index e ≡ Some x.change
      change_is e = ap (λ (at : ChangeAt T Kind Op Delta). get_or changes at.index e) is ∙ sparse_there i x e within ∙ ap (λ (at : ChangeAt T Kind Op Delta). Some at.change) (sym is)
