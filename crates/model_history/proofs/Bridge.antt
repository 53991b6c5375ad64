-- A history that is taken from a log, and the cut of the log at the history's versions, are the same thing.
use Rattle.std.proofs.Common.{◌≡◌, ℕ, zero, suc, ◌+◌, ◌<◌, ◌≤◌, List, [], ◌∷◌, ◌++◌, length, take, refl, sym, ap, subst, ◌∙◌, arith, Some, inl, inr, length-append}
use Rattle.std.proofs.lemmas.Bool.{cases_eq, cases_Bool}
use Rattle.std.specs.Prelude.{slice_get, unwrap_or, ◌↔◌}
use Rattle.model_history.specs.Vector.{VersionVector, IdentitySet, Covers, join}
use Rattle.model_history.specs.History.{Action, Record, History, at, versions, cut, union, with_record, HasRecord, IsPartOf, IsHistory, IsExactlyPruned, is_pruned}
use Rattle.model_history.specs.History.Action.{Prune}
use Rattle.model_history.specs.Log.{IsTakenFrom}
use Rattle.model_history.specs.Cuts.{record_at, past_of, grown, IsConsistentCut, IsNext, Prunes, HasExactPrunes, ArePruned, IsPrunedCut}
use Rattle.model_history.proofs.HistoryLaws.{with_at_same, with_at_other, slice_get-below, slice_get-take, at-union}
use Rattle.model_history.proofs.PastLaws.{at-cut, identity_of_record}
use Rattle.model_history.proofs.PartLaws.{in_part, in_whole, part-le, slice_get-taken, take-take, take_whole}
use Rattle.model_history.proofs.PruneLaws.{pruned_has, has_pruned, at_identities}
use Rattle.model_history.proofs.CutLaws.{with_at_is}

module _ {Op : Type 0} where
  -- RECORDS BY INDEX

  pub record_at_is : (log : History Op) (i k : ℕ) (r : Record Op) → HasRecord log i k r → record_at log i k ≡ r
  unfolding record_at
  record_at_is log i k r has = ap (λ o. unwrap_or o (record { action = Prune 0; past = λ j. 0 })) has

  pub has_at : (xs : List (Record Op)) (k : ℕ) → k < length xs → (r : Record Op) × (slice_get xs k ≡ Some r)
  has_at [] k l = absurd (omega arith)
  has_at (x ∷ xs) zero l = (x, refl)
  has_at (x ∷ xs) (suc k) l = has_at xs k (omega arith)

  pub has_record_at : (log : History Op) (i k : ℕ) → k < at log i → HasRecord log i k (record_at log i k)
  has_record_at log i k l = let h = has_at (log i) k l in subst (λ r. HasRecord log i k r) (sym (record_at_is log i k h.0 h.1)) h.1

  -- THE CUT AT A VECTOR

  pub in_cut : (log : History Op) (held : VersionVector) (i k : ℕ) → k < held i → k < at log i → HasRecord (cut log held) i k (record_at log i k)
  in_cut log held i k l m = slice_get-taken (log i) (held i) k l ∙ has_record_at log i k m

  -- a record of the cut is the log's at its index
  pub of_cut : (log : History Op) (held : VersionVector) (i k : ℕ) (r : Record Op) → HasRecord (cut log held) i k r → (k < held i) × (record_at log i k ≡ r)
  of_cut log held i k r has = let h = slice_get-take (log i) (held i) k r has in (h.0, record_at_is log i k r h.1)

  pub versions_cut : (log : History Op) (held : VersionVector) → IsConsistentCut log held → versions (cut log held) ≡ held
  versions_cut log held c = λ j i. same i j
    where
      same : (i : ℕ) → at (cut log held) i ≡ held i
      same i = let m = c.made i in at-cut log held i ∙ omega arith

  pub nothing_at : (xs : List (Record Op)) → length xs ≡ 0 → xs ≡ []
  nothing_at [] e = refl
  nothing_at (x ∷ xs) e = absurd (omega arith)

  -- a consistent cut is a history
  pub cut_is_history : (log : History Op) (held : VersionVector) → IsConsistentCut log held → IsHistory (cut log held)
  cut_is_history log held c =
      let past_is : (i k : ℕ) (r : Record Op) → HasRecord (cut log held) i k r → (l : ℕ) → past_of log i k l ≡ r.past l = λ i k r has l. ap (λ (x : Record Op). x.past l) (of_cut log held i k r has).1 in
      record {
        within = λ i h. nothing_at (cut log held i) (let e = c.few i h in let f = at-cut log held i in omega arith);
        closed = λ i k r has l. let p = past_is i k r has l in let q = c.closed i k l (of_cut log held i k r has).0 in let m = c.made l in let f = at-cut log held l in omega arith;
        numbered = λ i k r has. sym (past_is i k r has i) ∙ c.own i k (of_cut log held i k r has).0;
        transitive = λ i k j m r s has has' before l.
            let p = past_is i k r has l in let q = past_is j m s has' l in
            let b : m < past_of log i k j = subst (λ n. m < n) (sym (past_is i k r has j)) before in
            let t = c.transitive i k j m l (of_cut log held i k r has).0 b in omega arith;
      }

  pub taken_cut : (log : History Op) (held : VersionVector) → IsConsistentCut log held → IsTakenFrom log (cut log held)
  taken_cut log held c =
      record {
        part = λ i. let m = c.made i in sym (ap (λ n. take n (log i)) (at-cut log held i ∙ omega arith));
        closed = (cut_is_history log held c).closed;
      }

  -- the past of a held record is a consistent cut
  pub past_cut : (log : History Op) (held : VersionVector) (i k : ℕ) → IsConsistentCut log held → k < held i → IsConsistentCut log (past_of log i k)
  past_cut log held i k c inside =
      let below : (j : ℕ) → past_of log i k j ≤ held j = λ j. c.closed i k j inside in
      record {
        made = λ j. let a = below j in let b = c.made j in omega arith;
        own = λ j m l. let a = below j in c.own j m (omega arith);
        closed = λ j m t l. c.transitive i k j m t inside l;
        transitive = λ j m t n u l b. let a = below j in c.transitive j m t n u (omega arith) b;
        few = λ j h. let a = below j in let e = c.few j h in omega arith;
      }

  -- HISTORIES THAT ARE TAKEN FROM THE LOG

  -- what a part has at an index is the log's record
  pub record_at_part : (log H : History Op) → IsPartOf H log → (i k : ℕ) → k < at H i → HasRecord H i k (record_at log i k)
  record_at_part log H part i k l = in_part H log part i k (record_at log i k) l (has_record_at log i k (let p = part-le H log part i in omega arith))

  pub part_record_at : (log H : History Op) → IsPartOf H log → (i k : ℕ) (r : Record Op) → HasRecord H i k r → record_at log i k ≡ r
  part_record_at log H part i k r has = record_at_is log i k r (in_whole H log part i k r has)

  pub cut_of_part : (log H : History Op) → IsPartOf H log → cut log (versions H) ≡ H
  cut_of_part log H part = λ j i. sym (part i) j

  pub taken_is_history : (log H : History Op) → IsHistory log → IsTakenFrom log H → IsHistory H
  taken_is_history log H history taken =
      record {
        within = λ i h. nothing_at (H i) (let p = part-le H log taken.part i in let e = ap length (history.within i h) in omega arith);
        closed = taken.closed;
        numbered = λ i k r has. history.numbered i k r (in_whole H log taken.part i k r has);
        transitive = λ i k j m r s has has' before. history.transitive i k j m r s (in_whole H log taken.part i k r has) (in_whole H log taken.part j m s has') before;
      }

  -- a part of the log that is a history is a consistent cut
  pub part_is_cut : (log H : History Op) → IsHistory H → IsPartOf H log → IsConsistentCut log (versions H)
  part_is_cut log H history part =
      let here : (i k : ℕ) → k < at H i → HasRecord H i k (record_at log i k) = record_at_part log H part in
      record {
        made = part-le H log part;
        own = λ i k l. history.numbered i k (record_at log i k) (here i k l);
        closed = λ i k j l. history.closed i k (record_at log i k) (here i k l) j;
        transitive = λ i k j m t l b.
            let inside = history.closed i k (record_at log i k) (here i k l) j in
            history.transitive i k j m (record_at log i k) (record_at log j m) (here i k l) (here j m (omega arith)) b t;
        few = λ i h. ap length (history.within i h);
      }

  pub taken_is_cut : (log H : History Op) → IsHistory log → IsTakenFrom log H → IsConsistentCut log (versions H)
  taken_is_cut log H history taken = part_is_cut log H (taken_is_history log H history taken) taken.part

  -- a history is a consistent cut of itself
  pub own_cut : (H : History Op) → IsHistory H → IsConsistentCut H (versions H)
  own_cut H history = taken_is_cut H H history (record { part = λ i. sym (take_whole (H i)); closed = history.closed })

  -- THE FOUR CHANGES

  pub versions-with_record : (H : History Op) (i : ℕ) (r : Record Op) → versions (with_record H i r) ≡ grown (versions H) i
  versions-with_record H i r = λ k j. same j k
    where
      same : (j : ℕ) → at (with_record H i r) j ≡ grown (versions H) i j
      same j = elim (cases_eq j i) [
        | inl is ↦ ap length (with_at_is H i (H i ++ r ∷ []) j is) ∙ length-append (H i) (r ∷ []) ∙ sym (with_at_is (versions H) i (at H i + 1) j is)
        | inr isnt ↦ ap length (with_at_other H i (H i ++ r ∷ []) j isnt) ∙ sym (with_at_other (versions H) i (at H i + 1) j isnt)
      ]

  last_at : (xs : List (Record Op)) (r : Record Op) → slice_get (xs ++ r ∷ []) (length xs) ≡ Some r
  last_at [] r = refl
  last_at (x ∷ xs) r = last_at xs r

  -- the log's next record is the one that the history goes on with
  pub next_of_log : (log H : History Op) (i : ℕ) (action : Action Op) → IsHistory log → IsTakenFrom log (with_record H i (record { action = action; past = versions H })) → IsNext log (versions H) i action
  next_of_log log H i action history taken =
      let r : Record Op = record { action = action; past = versions H } in
      let row : with_record H i r i ≡ H i ++ r ∷ [] = with_at_same H i (H i ++ r ∷ []) in
      let has : HasRecord (with_record H i r) i (at H i) r = ap (λ xs. slice_get xs (at H i)) row ∙ last_at (H i) r in
      let whole = in_whole (with_record H i r) log taken.part i (at H i) r has in
      let is : record_at log i (at H i) ≡ r = record_at_is log i (at H i) r whole in
      record {
        made = slice_get-below (log i) r (at H i) whole;
        member = identity_of_record log history i (at H i) r whole;
        action = ap (λ (x : Record Op). x.action) is;
        past = λ j. ap (λ (x : Record Op). x.past j) is;
      }

  -- what the history with one more record is taken from, the history was
  pub taken_before : (log H : History Op) (i : ℕ) (r : Record Op) → IsHistory H → IsTakenFrom log (with_record H i r) → IsTakenFrom log H
  taken_before log H i r history taken =
      record {
        part = λ j. elim (cases_eq j i) [
          | inl is ↦ front j is (taken.part j)
          | inr isnt ↦ sym (with_at_other H i (H i ++ r ∷ []) j isnt) ∙ taken.part j ∙ ap (λ n. take n (log j)) (ap length (with_at_other H i (H i ++ r ∷ []) j isnt))
        ];
        closed = history.closed;
      }
    where
      take_push : (xs : List (Record Op)) → take (length xs) (xs ++ r ∷ []) ≡ xs
      take_push [] = refl
      take_push (x ∷ xs) = ap (λ ys. x ∷ ys) (take_push xs)

      front : (j : ℕ) → j ≡ i → with_record H i r j ≡ take (at (with_record H i r) j) (log j) → H j ≡ take (at H j) (log j)
      front j is e =
          let row : with_record H i r j ≡ H j ++ r ∷ [] = with_at_is H i (H i ++ r ∷ []) j is ∙ ap (λ k. H k ++ r ∷ []) (sym is) in
          let n : at H j ≤ at (with_record H i r) j = (let a = ap length row in omega (arith, a, length-append (H j) (r ∷ []))) in
          sym (take_push (H j)) ∙ ap (take (at H j)) (sym row ∙ e) ∙ take-take (log j) (at H j) (at (with_record H i r) j) n

  pub versions-union : (H J : History Op) → versions (union H J) ≡ join (versions H) (versions J)
  versions-union H J = λ k i. at-union H J i k

  -- PRUNES

  prune_here : (log H : History Op) → IsPartOf H log → (r i k : ℕ) → Prunes log (versions H) r i k → HasRecord H i k (record_at log i k) × ((record_at log i k).action ≡ Prune r)
  prune_here log H part r i k p = (record_at_part log H part i k p.within, p.action)

  pub prune_there : (log H : History Op) → IsPartOf H log → (r i k : ℕ) (x : Record Op) → HasRecord H i k x → x.action ≡ Prune r → Prunes log (versions H) r i k
  prune_there log H part r i k x has e = record { within = slice_get-below (H i) x k has; action = ap (λ (y : Record Op). y.action) (part_record_at log H part i k x has) ∙ e }

  -- exactly pruned, as a history and as a cut
  pub exact_part : (log H : History Op) → IsHistory H → IsPartOf H log → IsExactlyPruned H → HasExactPrunes log (versions H)
  exact_part log H history part exact =
      let here = prune_here log H part in
      let frozen : (r i k : ℕ) → Prunes log (versions H) r i k → at H r ≡ past_of log i k r = λ r i k p. exact.nothing_more i k (record_at log i k) r (here r i k p).0 p.action in
      record {
        once = λ r i k j m p q. exact.once i k j m (record_at log i k) (record_at log j m) r (here r i k p).0 (here r j m q).0 p.action q.action;
        frozen = frozen;
        other = λ r i k p same. absurd (
            let own = history.numbered i k (record_at log i k) (here r i k p).0 in
            let f = subst (λ j. at H j ≡ past_of log i k j) same (frozen r i k p) in
            let w = p.within in omega arith);
      }

  pub exact_cut : (log H : History Op) → IsHistory log → IsTakenFrom log H → IsExactlyPruned H → HasExactPrunes log (versions H)
  exact_cut log H history taken = exact_part log H (taken_is_history log H history taken) taken.part

  pub cut_exact : (log H : History Op) → IsPartOf H log → HasExactPrunes log (versions H) → IsExactlyPruned H
  cut_exact log H part exact =
      record {
        once = λ i k j m x y r has has' e e'. exact.once r i k j m (prune_there log H part r i k x has e) (prune_there log H part r j m y has' e');
        nothing_more = λ i k x r has e. exact.frozen r i k (prune_there log H part r i k x has e) ∙ ap (λ (y : Record Op). y.past r) (part_record_at log H part i k x has);
      }

  -- the identities that the history is pruned of
  pub are_pruned : (log H : History Op) → IsHistory H → IsPartOf H log → ArePruned log (versions H) (is_pruned H)
  are_pruned log H history part =
      record {
        all = λ r i k p.
            let here = prune_here log H part r i k p in
            has_pruned H r i k (record_at log i k) (at_identities i (identity_of_record H history i k (record_at log i k) here.0)) here.0 here.1;
        only = λ r e. let p = pruned_has H r e in (p.0, p.1, prune_there log H part r p.0 p.1 p.2 p.4 p.5);
      }

  pub same_pruned : (log : History Op) (held : VersionVector) (gone also : IdentitySet) → ArePruned log held gone → ArePruned log held also → (r : ℕ) → gone r ≡ also r
  same_pruned log held gone also a b r = elim (cases_Bool (gone r)) [
    | inl is ↦ let p = a.only r is in is ∙ sym (b.all r p.0 p.1 p.2)
    | inr never ↦ elim (cases_Bool (also r)) [
      | inl is ↦ let p = b.only r is in absurd (let e = sym (a.all r p.0 p.1 p.2) ∙ never in cc e)
      | inr neither ↦ never ∙ sym neither
    ]
  ]

  -- a pruned cut is an exactly pruned history, and its set is what the history is pruned of
  pub pruned_cut : (log : History Op) (held : VersionVector) (gone : IdentitySet) → IsPrunedCut log held gone → IsExactlyPruned (cut log held) × ((r : ℕ) → gone r ≡ is_pruned (cut log held) r)
  pruned_cut log held gone p =
      let H = cut log held in
      let same = versions_cut log held p.cut in
      let part = (taken_cut log held p.cut).part in (
        cut_exact log H part (subst (λ v. HasExactPrunes log v) (sym same) p.exact),
        same_pruned log held gone (is_pruned H) p.pruned (subst (λ v. ArePruned log v (is_pruned H)) same (are_pruned log H (cut_is_history log held p.cut) part)),
      )

  -- CUTS BY THEIR HISTORIES

  -- an exactly pruned part of the log is a pruned cut, and its set is what it is pruned of
  pub part_is_pruned_cut : (log H : History Op) → IsHistory H → IsPartOf H log → IsExactlyPruned H → IsPrunedCut log (versions H) (is_pruned H)
  part_is_pruned_cut log H history part exact = record { cut = part_is_cut log H history part; exact = exact_part log H history part exact; pruned = are_pruned log H history part }

  versions_within : (log : History Op) (held : VersionVector) → Covers (versions log) held → versions (cut log held) ≡ held
  versions_within log held made = λ j i. same i j
    where
      same : (i : ℕ) → at (cut log held) i ≡ held i
      same i = let m = made i in at-cut log held i ∙ omega arith

  part_within : (log : History Op) (held : VersionVector) → Covers (versions log) held → IsPartOf (cut log held) log
  part_within log held made = λ i. let m = made i in sym (ap (λ n. take n (log i)) (at-cut log held i ∙ omega arith))

  pub consistent_cut : (log : History Op) (held : VersionVector) → IsConsistentCut log held ↔ (Covers (versions log) held × IsHistory (cut log held))
  consistent_cut log held = (
    (λ c. (c.made, cut_is_history log held c)),
    (λ h. subst (λ v. IsConsistentCut log v) (versions_within log held h.0) (part_is_cut log (cut log held) h.1 (part_within log held h.0))),
  )

  -- sets that say the same are the pruned ones of the same cut
  same_gone : (log : History Op) (held : VersionVector) (gone also : IdentitySet) → ((r : ℕ) → gone r ≡ also r) → ArePruned log held also → ArePruned log held gone
  same_gone log held gone also same a = record { all = λ r i k p. same r ∙ a.all r i k p; only = λ r e. a.only r (sym (same r) ∙ e) }

  pub exact_pruned_cut : (log : History Op) (held : VersionVector) (gone : IdentitySet)
      → IsPrunedCut log held gone ↔ (Covers (versions log) held × IsHistory (cut log held) × IsExactlyPruned (cut log held) × ((r : ℕ) → gone r ≡ is_pruned (cut log held) r))
  exact_pruned_cut log held gone = (
    (λ p. let e = pruned_cut log held gone p in (p.cut.made, cut_is_history log held p.cut, e.0, e.1)),
    (λ h.
        let H = cut log held in
        let p = part_is_pruned_cut log H h.1 (part_within log held h.0) h.2 in
        let q = subst (λ v. IsPrunedCut log v (is_pruned H)) (versions_within log held h.0) p in
        record { cut = q.cut; exact = q.exact; pruned = same_gone log held gone (is_pruned H) h.3 q.pruned }),
  )
