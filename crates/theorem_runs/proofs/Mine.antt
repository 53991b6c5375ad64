-- What a member's step does to its histories and to the log: the log grows by the member's own records alone.
use Rattle.std.proofs.Common.{◌≡◌, ◌≢◌, ℕ, ◌<◌, ◌≤◌, [], ◌∷◌, ◌++◌, length, take, drop, sym, ap, subst, ◌∙◌, arith, inl, inr, length-take}
use Rattle.std.proofs.lemmas.List.{take-append-le}
use Rattle.std.proofs.lemmas.Bool.Decides.{eqb_tells}
use Rattle.model_history.specs.Texts.{Text}
use Rattle.model_history.specs.Table.{identity_limit, with_at}
use Rattle.model_members.specs.View.{View}
use Rattle.model_history.specs.History.{Action, Record, History, at, versions, union, with_record, IsPartOf, IsHistory}
use Rattle.model_members.specs.Entry.{Entry, Group, judged, with_group, IsGroupOf}
use Rattle.model_members.specs.Entry.Judgement.{Wanted}
use Rattle.model_history.specs.Log.{IsTakenFrom}
use Rattle.model_history.proofs.HistoryLaws.{with_at_same, with_at_other, at-union}
use Rattle.model_history.proofs.PartLaws.{take-take, take_whole, part-le, taken_grown, part_union, taken_union, history-with_record, taken-with_record}
use Rattle.model_members.proofs.GroupLaws.{taken_with_group, other_rows, verdict}
use Rattle.theorem_runs.proofs.Keeping.{AreKept, AnyTick}

-- H is the history of i after the log was G, which has grown by records of i
pub record IsMine {Op : Type 0} (G : History Op) (i : ℕ) (H : History Op) : Type 0 where
  pub grown : G i ≡ take (at G i) (H i)
  pub log : IsHistory (with_at G i (H i))
  pub taken : IsTakenFrom (with_at G i (H i)) H

module _ {Op : Type 0} (G : History Op) (i : ℕ) (H : History Op) (small : i < identity_limit) (mine : IsMine G i H) where
  abbrev L : History Op
  L = with_at G i (H i)

  L_row : L i ≡ H i
  L_row = with_at_same G i (H i)

  pub no_fewer : at G i ≤ at H i
  no_fewer = let e = ap length mine.grown in omega (arith, e, length-take (at G i) (H i))

  pub log_grown : IsPartOf G L
  log_grown j = elim (eqb_tells j i) [
    | inl is ↦ rw is.1 (mine.grown ∙ ap (take (at G i)) (sym L_row))
    | inr isnt ↦ sym (ap (take (at G j)) (with_at_other G i (H i) j isnt.1) ∙ take_whole (G j))
  ]

  -- a change that leaves the own records
  same_own : (H' : History Op) → H' i ≡ H i → IsTakenFrom L H' → IsMine G i H'
  same_own H' e taken =
      record {
        grown = mine.grown ∙ ap (take (at G i)) (sym e);
        log = subst (λ xs. IsHistory (with_at G i xs)) (sym e) mine.log;
        taken = subst (λ xs. IsTakenFrom (with_at G i xs) H') (sym e) taken;
      }

  -- nobody else has more of the member's records
  pub union_row : (J : History Op) → IsTakenFrom G J → union H J i ≡ H i
  union_row J theirs =
      let J_taken = taken_grown J G L theirs log_grown in
      let row : union H J i ≡ take (at (union H J) i) (L i) = part_union H J L mine.taken.part J_taken.part i in
      let count : at (union H J) i ≡ at H i = (let a = part-le J G theirs.part i in let b = no_fewer in omega (arith, at-union H J i)) in
      row ∙ ap (λ n. take n (L i)) count ∙ ap (take (at H i)) L_row ∙ take_whole (H i)

  pub mine-union : (J : History Op) → IsTakenFrom G J → IsMine G i (union H J)
  mine-union J theirs = same_own (union H J) (union_row J theirs) (taken_union H J L mine.taken (taken_grown J G L theirs log_grown))

  pub group_grown : (group : Group Op) → IsGroupOf G group → IsGroupOf L group
  group_grown group of_log =
      record {
        within = let a = part-le G L log_grown group.origin in let b = of_log.within in omega arith;
        some = of_log.some;
        these = of_log.these ∙ ap (drop group.after) (ap (take group.upto) (log_grown group.origin) ∙ take-take (L group.origin) group.upto (at G group.origin) of_log.within);
      }

  pub mine-with_record : (action : Action Op) → IsMine G i (with_record H i (record { action = action; past = versions H }))
  mine-with_record action =
      record {
        grown = mine.grown ∙ sym (take-append-le (at G i) (H i) (r ∷ []) no_fewer) ∙ ap (take (at G i)) (sym own_row);
        log = subst IsHistory (sym same_log) (history-with_record L H i action mine.log mine.taken L_row small);
        taken = subst (λ K. IsTakenFrom K (with_record H i r)) (sym same_log) (taken-with_record L H i action mine.log mine.taken L_row small);
      }
    where
      r : Record Op
      r = record { action = action; past = versions H }

      own_row : with_record H i (record { action = action; past = versions H }) i ≡ H i ++ record { action = action; past = versions H } ∷ []
      own_row = with_at_same H i (H i ++ record { action = action; past = versions H } ∷ [])

      same_rows : (j : ℕ) → with_at G i (with_record H i (record { action = action; past = versions H }) i) j ≡ with_record L i (record { action = action; past = versions H }) j
      same_rows j = elim (eqb_tells j i) [
        | inl is ↦ rw is.1 (with_at_same G i _ ∙ own_row ∙ sym (with_at_same L i (L i ++ record { action = action; past = versions H } ∷ []) ∙ ap (λ xs. xs ++ record { action = action; past = versions H } ∷ []) L_row))
        | inr isnt ↦ with_at_other G i _ j isnt.1 ∙ sym (with_at_other L i _ j isnt.1 ∙ with_at_other G i (H i) j isnt.1)
      ]

      same_log : with_at G i (with_record H i (record { action = action; past = versions H }) i) ≡ with_record L i (record { action = action; past = versions H })
      same_log = λ k j. same_rows j k

module _ {Op : Type 0} (G : History Op) (i : ℕ) (entry : Entry Op) (small : i < identity_limit) (mine : IsMine G i entry.history) (group : Group Op) (of_log : IsGroupOf G group) (judgement : judged entry group ≡ Wanted) where
  pub group_row : (with_group entry group).history i ≡ entry.history i
  group_row =
      let LL = with_at G i (entry.history i) in
      let in_L = group_grown G i entry.history small mine group of_log in
      let not_own : i ≢ group.origin = (λ e. absurd (
      let v = (verdict LL entry group mine.log mine.taken in_L judgement).0 in
      let a : group.upto ≤ at G i = subst (λ n. group.upto ≤ at G n) (sym e) of_log.within in
      let b : at entry.history i < group.upto = subst (λ n. at entry.history n < group.upto) (sym e) v in
      let c = no_fewer G i entry.history small mine in omega arith)) in
      other_rows LL entry group mine.log mine.taken in_L judgement i not_own

  pub mine-with_group : IsMine G i (with_group entry group).history
  mine-with_group =
      let LL = with_at G i (entry.history i) in
      let in_L = group_grown G i entry.history small mine group of_log in
      same_own G i entry.history small mine (with_group entry group).history group_row (taken_with_group LL entry group mine.log mine.taken in_L judgement)

-- each change of an entry keeps it so
pub mine_kept : {Op : Type 0} (logs : Text → History Op) (i : ℕ) (view : View) → i < identity_limit
    → AreKept (λ key (entry : Entry Op). IsMine (logs key) i entry.history) (λ key theirs. IsTakenFrom (logs key) theirs.history) (λ key group. IsGroupOf (logs key) group) AnyTick i view
mine_kept logs i view small =
    record {
      added = λ key entry op mine. mine-with_record (logs key) i entry.history small mine (Action.Operation op);
      took = λ key mine theirs p m. mine-union (logs key) i mine.history small p theirs.history m;
      grouped = λ key entry group judgement mine g. mine-with_group (logs key) i entry small mine group g judgement;
      marks = λ key entry shares r ticks due mine. mine;
      prunes = λ key entry shares r ticks due seen mine. mine-with_record (logs key) i entry.history small mine (Action.Prune r);
    }
