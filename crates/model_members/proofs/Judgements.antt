-- How a group is judged, by the records that stand before it.
use Rattle.std.proofs.Common.{◌≡◌, ◌≢◌, ℕ, zero, suc, ◌+◌, ◌<◌, ◌≤◌, max, List, [], ◌∷◌, length, take, refl, sym, ap, ◌∙◌, arith, Bool, true, false, ◌⊎◌, Option, Some, None, inl, inr}
use Rattle.std.proofs.lemmas.Bool.{cases_lt, cases_eq, ltb-true, ltb-false, le-ltb, leb-true, leb-false, le-leb, lt-leb}
use Rattle.std.specs.Prelude.{slice_get, find, fold, nat_le, nat_lt, if◌then◌else◌, ◌↔◌}
use Rattle.std.specs.List.{range_with_len}
use Rattle.model_history.specs.Table.{identity_limit, identities}
use Rattle.model_history.specs.Vector.{VersionVector, none_counted, first_lacking}
use Rattle.model_history.specs.History.{Record, History, at, versions, HasRecord, IsHistory}
use Rattle.model_members.specs.Entry.{Entry, Group, IsGroupOf, Judgement, judged, needs}
use Rattle.model_members.specs.Entry.Judgement.{Wanted, Stale, Missing}
use Rattle.model_members.specs.Relations.{StandsBefore}
use Rattle.model_history.proofs.HistoryLaws.{with_at_same, with_at_other, slice_get-take}
use Rattle.model_history.proofs.PruneLaws.{found}
use Rattle.model_history.proofs.PartLaws.{slice_get-taken, slice_get-dropped}
use Rattle.model_history.proofs.Bridge.{has_at}
use Rattle.model_members.proofs.GroupLaws.{joined_past, past_in_join, lacks_nothing}
use Rattle.model_members.proofs.Cases.{judged_by}

-- SEARCHES

find_nothing : {X : Type 0} (p : X → Bool) (xs : List X) → ((k : ℕ) (x : X) → slice_get xs k ≡ Some x → p x ≡ false) → find p xs ≡ None
find_nothing p [] none = refl
find_nothing p (x ∷ xs) none = ap (λ b. if b then Some x else find p xs) (none 0 x refl) ∙ find_nothing p xs (λ k y e. none (suc k) y e)

-- the first number that passes: none before it does
first_found : (p : ℕ → Bool) (first n i : ℕ) → find p (range_with_len first n) ≡ Some i → (j : ℕ) → first ≤ j → j < i → p j ≡ false
first_found p first zero i e j low high = absurd (cc e)
first_found p first (suc n) i e j low high = go (p first) refl (λ e' l. first_found p (first + 1) n i e' j l high)
  where
    go : (b : Bool) → p first ≡ b → (find p (range_with_len (first + 1) n) ≡ Some i → first + 1 ≤ j → p j ≡ false) → p j ≡ false
    go true is later = absurd (let e' = rw is at e in let same : first ≡ i = cc e' in omega arith)
    go false is later = elim (cases_eq first j) [
      | inl same ↦ ap p (sym same) ∙ is
      | inr other ↦ later (rw is at e) (omega arith)
    ]

-- what is lacking, and what isn't
lacking : (v w : VersionVector) (i : ℕ) → first_lacking v w ≡ Some i → (v i < w i) × ((j : ℕ) → j < i → w j ≤ v j)
lacking v w i e = (
  ltb-true (v i) (w i) (found (λ j. nat_lt (v j) (w j)) identities i e),
  (λ j l. ltb-false (v j) (w j) (first_found (λ j. nat_lt (v j) (w j)) 0 identity_limit i e j (omega arith) l)),
)

nothing_lacking : (v w : VersionVector) → ((i : ℕ) → w i ≤ v i) → first_lacking v w ≡ None
nothing_lacking v w covered = find_nothing (λ i. nat_lt (v i) (w i)) identities (λ k i e. le-ltb (v i) (w i) (covered i))

-- JUDGEMENTS

by_search : (o : Option ℕ) → judged_by o ≡ Wanted → o ≡ None
by_search None e = refl
by_search (Some i) e = absurd (cc e)

by_search_missing : (o : Option ℕ) (i : ℕ) → judged_by o ≡ Missing i → o ≡ Some i
by_search_missing None i e = absurd (cc e)
by_search_missing (Some j) i e = let same : j ≡ i = cc e in ap Some same

never_stale : (o : Option ℕ) → judged_by o ≢ Stale
never_stale None e = cc e
never_stale (Some i) e = cc e

-- the judgement by its two tests
judged_new : (b : Bool) (o : Option ℕ) (j : Judgement) → j ≢ Stale → (if b then Stale else judged_by o) ≡ j → (b ≡ false) × (judged_by o ≡ j)
judged_new true o j other e = absurd (other (sym e))
judged_new false o j other e = (refl, e)

judged_stale : (b : Bool) (o : Option ℕ) → (if b then Stale else judged_by o) ≡ Stale → b ≡ true
judged_stale true o e = refl
judged_stale false o e = absurd (never_stale o e)

module _ {Op : Type 0} where
  pub stale_exactly : (entry : Entry Op) (group : Group Op) → (judged entry group ≡ Stale) ↔ (group.upto ≤ at entry.history group.origin)
  stale_exactly entry group = (
    (λ e. leb-true _ _ (judged_stale (nat_le group.upto (at entry.history group.origin)) (first_lacking (versions entry.history) (needs group)) e)),
    (λ l. ap (λ b. if b then Stale else judged_by (first_lacking (versions entry.history) (needs group))) (le-leb group.upto (at entry.history group.origin) l)),
  )

  -- the join of pasts is nothing or one of them
  join_of_one : (rs : List (Record Op)) (v : VersionVector) (l : ℕ) → (fold joined_past v rs l ≡ v l) ⊎ ((k : ℕ) × (r : Record Op) × (slice_get rs k ≡ Some r) × (r.past l ≡ fold joined_past v rs l))
  join_of_one [] v l = inl refl
  join_of_one (r ∷ rs) v l = elim (join_of_one rs (joined_past v r) l) [
    | inl same ↦ elim (cases_lt (v l) (r.past l)) [
      | inl more ↦ let most : max (v l) (r.past l) ≡ r.past l = omega arith in inr (0, r, refl, sym (same ∙ most))
      | inr less ↦ let most : max (v l) (r.past l) ≡ v l = omega arith in inl (same ∙ most)
    ]
    | inr one ↦ inr (suc one.0, one.1, one.2, one.3)
  ]

  module _ (log : History Op) (entry : Entry Op) (group : Group Op) (history : IsHistory log) (of_log : IsGroupOf log group) where
    abbrev H : History Op
    H = entry.history

    abbrev o : ℕ
    o = group.origin

    needed_of_others : (i : ℕ) → i ≢ o → needs group i ≡ fold joined_past none_counted group.group_records i
    needed_of_others i other = with_at_other (fold joined_past none_counted group.group_records) o group.after i other

    needed_of_origin : (i : ℕ) → i ≡ o → needs group i ≡ group.after
    needed_of_origin i same = ap (needs group) same ∙ with_at_same (fold joined_past none_counted group.group_records) o group.after

    -- the group's first record comes after the own ones before it
    first_record : (r : Record Op) × (slice_get group.group_records 0 ≡ Some r) × (r.past o ≡ group.after)
    first_record =
        let w = of_log.within in
        let s = of_log.some in
        let h = has_at (log o) group.after (omega arith) in
        let place : group.after + 0 ≡ group.after = omega arith in (
          h.0,
          ap (λ xs. slice_get xs 0) of_log.these ∙ slice_get-dropped (take group.upto (log o)) group.after 0 ∙ ap (slice_get (take group.upto (log o))) place ∙ slice_get-taken (log o) group.upto group.after s ∙ h.1,
          history.numbered o group.after h.0 h.1,
        )

    -- a group's record is the log's
    in_log : (k : ℕ) (r : Record Op) → slice_get group.group_records k ≡ Some r → HasRecord log o (group.after + k) r
    in_log k r e =
        let taken : slice_get (take group.upto (log o)) (group.after + k) ≡ Some r = sym (slice_get-dropped (take group.upto (log o)) group.after k) ∙ ap (λ xs. slice_get xs k) (sym of_log.these) ∙ e in
        (slice_get-take (log o) group.upto (group.after + k) r taken).1

    -- what stands before the group is needed
    before_is_needed : (i n : ℕ) → StandsBefore group i n → n ≤ needs group i
    before_is_needed i n b = elim (cases_eq i o) [
      | inl same ↦ let e = needed_of_origin i same in let a = b.outside same in omega arith
      | inr other ↦ let e = needed_of_others i other in let p = b.precedes in let q = past_in_join group.group_records none_counted b.index b.later i b.member in omega arith
    ]

    -- and what is needed stands before the group
    needed_is_before : (i : ℕ) → 0 < needs group i → StandsBefore group i (needs group i)
    needed_is_before i some = elim (cases_eq i o) [
      | inl same ↦
          let e = needed_of_origin i same in
          let f = first_record in
          record { index = 0; later = f.0; member = f.1; precedes = (let past : f.0.past i ≡ group.after = ap f.0.past same ∙ f.2 in omega arith); outside = λ is. omega arith }
      | inr other ↦ by_join other (join_of_one group.group_records none_counted i)
    ]
      where
        by_join : i ≢ o → (fold joined_past none_counted group.group_records i ≡ none_counted i) ⊎ ((k : ℕ) × (r : Record Op) × (slice_get group.group_records k ≡ Some r) × (r.past i ≡ fold joined_past none_counted group.group_records i)) → StandsBefore group i (needs group i)
        by_join other (inl none) = absurd (let e = needed_of_others i other in omega arith)
        by_join other (inr one) = record { index = one.0; later = one.1; member = one.2; precedes = (let e = needed_of_others i other in let p = one.3 in omega arith); outside = λ is. absurd (other is) }

    -- past the 64 identities nothing is needed
    few_needed : (i : ℕ) → identity_limit ≤ i → needs group i ≡ 0
    few_needed i large = elim (cases_lt 0 (needs group i)) [
      | inl some ↦
          let b = needed_is_before i some in
          let c = history.closed o (group.after + b.index) b.later (in_log b.index b.later b.member) i in
          let e = ap length (history.within i large) in
          let p = b.precedes in
          absurd (omega arith)
      | inr none ↦ omega arith
    ]

    covered : ((i : ℕ) → i < identity_limit → needs group i ≤ at H i) → (i : ℕ) → needs group i ≤ at H i
    covered small i = elim (cases_lt i identity_limit) [ inl l ↦ small i l | inr large ↦ (let e = few_needed i large in omega arith) ]

    pub wanted_exactly : (judged entry group ≡ Wanted) ↔ ((at H o < group.upto) × ((i n : ℕ) → StandsBefore group i n → n ≤ at H i))
    wanted_exactly = (
      (λ e.
          let tests = judged_new (nat_le group.upto (at H o)) (first_lacking (versions H) (needs group)) Wanted (λ c. absurd (cc c)) e in (
            leb-false _ _ tests.0,
            (λ i n b. let most = before_is_needed i n b in let c = covered (lacks_nothing (versions H) (needs group) (by_search _ tests.1)) i in omega arith),
          )),
      (λ h.
          ap (λ b. if b then Stale else judged_by (first_lacking (versions H) (needs group))) (lt-leb group.upto (at H o) h.0)
          ∙ ap judged_by (nothing_lacking (versions H) (needs group) (λ i. elim (cases_lt 0 (needs group i)) [ inl some ↦ h.1 i (needs group i) (needed_is_before i some) | inr none ↦ omega arith ]))),
    )

    pub missing_first : (i : ℕ) → judged entry group ≡ Missing i → ((n : ℕ) × StandsBefore group i n × (at H i < n)) × ((j n : ℕ) → j < i → StandsBefore group j n → n ≤ at H j)
    missing_first i e =
        let tests = judged_new (nat_le group.upto (at H o)) (first_lacking (versions H) (needs group)) (Missing i) (λ c. absurd (cc c)) e in
        let l = lacking (versions H) (needs group) i (by_search_missing _ i tests.1) in (
          (needs group i, needed_is_before i (let a = l.0 in omega arith), l.0),
          (λ j n before b. let most = before_is_needed j n b in let c = l.1 j before in omega arith),
        )
