-- A group of a log that is taken leaves a part of the log.
use Rattle.std.proofs.Common.{◌≡◌, ◌≢◌, ℕ, zero, suc, ◌+◌, ◌-◌, ◌<◌, ◌≤◌, max, List, [], ◌∷◌, ◌++◌, length, take, refl, sym, ap, ◌∙◌, arith, Bool, true, false, Option, Some, None, inl, inr, length-take}
use Rattle.std.proofs.lemmas.Bool.{cases_lt, ltb-false, leb-false}
use Rattle.std.proofs.lemmas.Bool.Decides.{eqb_tells}
use Rattle.std.specs.Prelude.{slice_get, find, fold, nat_le, nat_lt, if◌then◌else◌}
use Rattle.model_history.specs.Table.{identity_limit, identities}
use Rattle.model_history.specs.Vector.{VersionVector, join, none_counted, first_lacking}
use Rattle.model_history.specs.History.{Record, History, at, versions, continued, HasRecord, IsPartOf, IsHistory}
use Rattle.model_members.specs.Entry.{Entry, Group, IsGroupOf, judged, needs, with_group}
use Rattle.model_members.specs.Entry.Judgement.{Wanted, Stale}
use Rattle.model_members.proofs.Cases.{judged_by}
use Rattle.model_history.specs.Log.{IsTakenFrom}
use Rattle.model_history.proofs.HistoryLaws.{with_at_same, with_at_other, slice_get-below}
use Rattle.model_history.proofs.PruneLaws.{range_at}
use Rattle.model_history.proofs.PartLaws.{take-take, slice_get-taken, slice_get-dropped, continued-taken, take_and_drop, in_part, in_whole}

-- SEARCHES

find_none : {X : Type 0} (p : X → Bool) (xs : List X) → find p xs ≡ None → (k : ℕ) (x : X) → slice_get xs k ≡ Some x → p x ≡ false
find_none p [] e k x has = absurd (cc has)
find_none p (y ∷ xs) e k x has = go (p y) refl k has (λ k' e' has'. find_none p xs e' k' x has')
  where
    go : (b : Bool) → p y ≡ b → (k : ℕ) → slice_get (y ∷ xs) k ≡ Some x → ((k' : ℕ) → find p xs ≡ None → slice_get xs k' ≡ Some x → p x ≡ false) → p x ≡ false
    go true is k has later = let e' = rw is at e in absurd (cc e')
    go false is zero has later = let same : y ≡ x = cc has in rw (← same) is
    go false is (suc k) has later = later k (rw is at e) has

-- nothing is lacking
pub lacks_nothing : (v w : VersionVector) → first_lacking v w ≡ None → (i : ℕ) → i < identity_limit → w i ≤ v i
lacks_nothing v w e i h =
    let at_i : slice_get identities i ≡ Some i = (let z : 0 + i ≡ i = omega arith in range_at 0 identity_limit i h ∙ ap Some z) in
    ltb-false (v i) (w i) (find_none (λ j. nat_lt (v j) (w j)) identities e i i at_i)

module _ {Op : Type 0} where
  -- a past is at most the join of all
  abbrev pub joined_past : VersionVector → Record Op → VersionVector
  joined_past v r = join v r.past

  joins_keep : (rs : List (Record Op)) (v : VersionVector) (l : ℕ) → v l ≤ fold joined_past v rs l
  joins_keep [] v l = omega arith
  joins_keep (r ∷ rs) v l = let a = joins_keep rs (joined_past v r) l in omega (arith, a)

  pub past_in_join : (rs : List (Record Op)) (v : VersionVector) (k : ℕ) (r : Record Op) (l : ℕ) → slice_get rs k ≡ Some r → r.past l ≤ fold joined_past v rs l
  past_in_join [] v k r l e = absurd (cc e)
  past_in_join (s ∷ rs) v zero r l e = let same : s ≡ r = cc e in let a = joins_keep rs (joined_past v s) l in rw (← same) (omega (arith, a))
  past_in_join (s ∷ rs) v (suc k) r l e = past_in_join rs (joined_past v s) k r l e

  -- THE JUDGEMENT

  wanted : (entry : Entry Op) (group : Group Op) → judged entry group ≡ Wanted → (at entry.history group.origin < group.upto) × (first_lacking (versions entry.history) (needs group) ≡ None)
  wanted entry group e = by_test (nat_le group.upto (at entry.history group.origin)) refl e
    where
      by_search : (o : Option ℕ) → judged_by o ≡ Wanted → o ≡ None
      by_search None e = refl
      by_search (Some i) e = absurd (cc e)

      by_test : (b : Bool) → nat_le group.upto (at entry.history group.origin) ≡ b → (if b then Stale else judged_by (first_lacking (versions entry.history) (needs group))) ≡ Wanted
          → (at entry.history group.origin < group.upto) × (first_lacking (versions entry.history) (needs group) ≡ None)
      by_test true is e = absurd (cc e)
      by_test false is e = (leb-false _ _ is, by_search _ e)

  -- THE ENTRY AFTER IT

  module _ (L : History Op) (entry : Entry Op) (group : Group Op) (history : IsHistory L) (taken : IsTakenFrom L entry.history) (of_log : IsGroupOf L group) (judgement : judged entry group ≡ Wanted) where
    abbrev H : History Op
    H = entry.history

    abbrev o : ℕ
    o = group.origin

    abbrev H' : History Op
    H' = (with_group entry group).history

    pub verdict : (at H o < group.upto) × (first_lacking (versions H) (needs group) ≡ None)
    verdict = wanted entry group judgement

    -- past the 64 identities the log has nothing
    nothing_past : (l : ℕ) → identity_limit ≤ l → at L l ≡ 0
    nothing_past l h = ap length (history.within l h)

    origin_small : o < identity_limit
    origin_small = elim (cases_lt o identity_limit) [
      | inl h ↦ h
      | inr h ↦ absurd (let e = nothing_past o h in let a = of_log.within in let b = of_log.some in omega arith)
    ]

    pub after_known : group.after ≤ at H o
    after_known =
        let covered = lacks_nothing (versions H) (needs group) verdict.1 o origin_small in
        let here = with_at_same (fold joined_past none_counted group.group_records) o group.after in
        omega (arith, covered, here)

    group_part : take group.after (H o) ++ group.group_records ≡ take group.upto (L o)
    group_part =
        let first : take group.after (H o) ≡ take group.after (take group.upto (L o)) =
        ap (take group.after) (taken.part o) ∙ take-take (L o) group.after (at H o) after_known ∙ sym (take-take (L o) group.after group.upto (let b = of_log.some in omega arith)) in
        ap (λ xs. xs ++ group.group_records) first ∙ ap (λ xs. take group.after (take group.upto (L o)) ++ xs) of_log.these ∙ take_and_drop (take group.upto (L o)) group.after

    -- the origin's records then are the log's first ones
    new_row : H' o ≡ take group.upto (L o)
    new_row =
        let most : max (at H o) group.upto ≡ group.upto = (let v = verdict.0 in omega arith) in
        with_at_same H o (continued (H o) (take group.after (H o) ++ group.group_records))
        ∙ ap (continued (H o)) group_part
        ∙ ap (λ xs. continued xs (take group.upto (L o))) (taken.part o)
        ∙ continued-taken (L o) (at H o) group.upto
        ∙ ap (λ n. take n (L o)) most

    pub new_count : at H' o ≡ group.upto
    new_count = let w = of_log.within in let e = ap length new_row in omega (arith, e, length-take group.upto (L o))

    pub other_rows : (j : ℕ) → j ≢ o → H' j ≡ H j
    other_rows j h = with_at_other H o _ j h

    no_fewer : (l : ℕ) → at H l ≤ at H' l
    no_fewer l = elim (eqb_tells l o) [
      | inl is ↦ rw is.1 (let e = new_count in let v = verdict.0 in omega arith)
      | inr isnt ↦ let e = ap length (other_rows l isnt.1) in omega (arith, e)
    ]

    pub part_with_group : IsPartOf H' L
    part_with_group j = elim (eqb_tells j o) [
      | inl is ↦ rw is.1 (new_row ∙ ap (λ n. take n (L o)) (sym new_count))
      | inr isnt ↦ other_rows j isnt.1 ∙ taken.part j ∙ ap (λ n. take n (L j)) (ap length (sym (other_rows j isnt.1)))
    ]

    -- a record of the group has its past in the entry
    new_closed : (k : ℕ) (r : Record Op) → HasRecord L o k r → at H o ≤ k → k < group.upto → (l : ℕ) → l ≢ o → r.past l ≤ at H l
    new_closed k r has low high l other = elim (cases_lt l identity_limit) [
      | inl small ↦
          let place : group.after + (k - group.after) ≡ k = (let a = after_known in omega arith) in
          let in_group : slice_get group.group_records (k - group.after) ≡ Some r =
          ap (λ xs. slice_get xs (k - group.after)) of_log.these ∙ slice_get-dropped (take group.upto (L o)) group.after (k - group.after)
          ∙ ap (slice_get (take group.upto (L o))) place ∙ slice_get-taken (L o) group.upto k high ∙ has in
          let a = past_in_join group.group_records none_counted (k - group.after) r l in_group in
          let b = lacks_nothing (versions H) (needs group) verdict.1 l small in
          let c = with_at_other (fold joined_past none_counted group.group_records) o group.after l other in
          omega (arith, a, b, c)
      | inr large ↦ let a = history.closed o k r has l in let e = nothing_past l large in omega (arith, a, e)
    ]

    closed_row : (k : ℕ) (r : Record Op) → HasRecord H' o k r → (l : ℕ) → r.past l ≤ at H' l
    closed_row k r has l =
        let below = slice_get-below (H' o) r k has in
        let whole = in_whole H' L part_with_group o k r has in
        elim (cases_lt k (at H o)) [
          | inl old ↦ let a = taken.closed o k r (in_part H L taken.part o k r old whole) l in let b = no_fewer l in omega arith
          | inr new ↦ elim (eqb_tells l o) [
            | inl is ↦ let own = history.numbered o k r whole in rw is.1 (omega (arith, own, below))
            | inr isnt ↦ let a = new_closed k r whole new (let e = new_count in omega arith) l isnt.1 in let b = no_fewer l in omega arith
          ]
        ]

    pub taken_with_group : IsTakenFrom L H'
    taken_with_group =
        record {
          part = part_with_group;
          closed = λ i k r has l. elim (eqb_tells i o) [
            | inl is ↦ closed_row k r (rw is.1 at has) l
            | inr isnt ↦ let a = taken.closed i k r (rw (other_rows i isnt.1) at has) l in let b = no_fewer l in omega arith
          ];
        }
