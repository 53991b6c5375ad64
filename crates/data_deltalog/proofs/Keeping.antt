-- What a log stands for, after one more own record, and after changes that leave the own records as they were.
use Rattle.std.proofs.Common.{◌≡◌, ◌≢◌, ℕ, ◌+◌, ◌-◌, ◌≤◌, [], ◌∷◌, ◌++◌, length, sym, ap, subst, ◌∙◌, arith, not, Option, Some, None, is_some, inl, inr, length-append, length-drop}
use Rattle.model_history.specs.History.{Action, Record, History, at, versions}
use Rattle.model_history.specs.History.Action.{Operation, Prune}
use Rattle.model_history.specs.Log.{IsTakenFrom}
use Rattle.model_history.specs.Cuts.{past_of, IsNext}
use Rattle.model_history.proofs.HistoryLaws.{with_at_same, with_at_other, at-union}
use Rattle.model_history.proofs.PartLaws.{taken_union}
use Rattle.model_history.proofs.Bridge.{next_of_log, versions-with_record}
use Rattle.model_members.specs.Entry.{Entry, Group, with_action, with_prune, with_group, merged, is_prune}
use Rattle.base_vectors.specs.Vectors.{Numbers, number_at}
use Rattle.data_deltalog.specs.Answers.{most_kept}
use Rattle.data_deltalog.specs.Contents.{LogParts, AgreeBut, before_with, appended, last_of}
use Rattle.data_deltalog.specs.Images.{IsKeptOf, StandsForLog}
use Rattle.data_deltalog.proofs.Records.{get_appended}

module _ {Kind Delta Op : Type 0} (IsDeltaOf : Delta → History Op → ℕ → ℕ → ℕ → Type 0) (parts : LogParts Kind Delta) (log : History Op) (entry : Entry Op) where
  -- ONE MORE OWN RECORD

  stands_appended : (next : Entry Op) (action : Action Op) (before : Option Numbers) (own : Option Delta) → StandsForLog IsDeltaOf parts log entry → IsTakenFrom log next.history → at next.history parts.origin ≡ at entry.history parts.origin + 1
      → IsNext log (versions entry.history) parts.origin action → AgreeBut parts.origin (number_at (before_with parts before)) (at entry.history)
      → IsKeptOf IsDeltaOf own log parts.origin (at entry.history parts.origin) → StandsForLog IsDeltaOf (appended parts before own) log next
  stands_appended next action before own s taken more past known is =
      let longer : length (parts.records ++ own ∷ []) ≡ length parts.records + 1 = length-append parts.records (own ∷ []) in
      let long : length (last_of most_kept (parts.records ++ own ∷ [])) ≡ length parts.records + 1 - (length parts.records + 1 - most_kept) =
      length-drop (length (parts.records ++ own ∷ []) - most_kept) (parts.records ++ own ∷ []) ∙ ap (λ n. n - (n - most_kept)) longer in
      record {
        histories = s.histories;
        taken = taken;
        last = ap (λ n. n + 1) s.last ∙ sym more;
        count = let c = s.count in omega arith;
        before = λ some i other.
            let place : at entry.history parts.origin ≡ parts.last + 1 - 1 = (let l = s.last in omega arith) in
            known i other ∙ sym (past.past i) ∙ ap (λ n. past_of log parts.origin n i) place;
        kept = λ k x has. elim (get_appended most_kept parts.records own x k has) [
          | inl old ↦
              let place : parts.last - length parts.records + (length parts.records + 1 - most_kept + k) ≡ parts.last + 1 - length (last_of most_kept (parts.records ++ own ∷ [])) + k = (let c = s.count in omega arith) in
              subst (IsKeptOf IsDeltaOf x log parts.origin) place (s.kept _ x old)
          | inr new ↦
              let place : at entry.history parts.origin ≡ parts.last + 1 - length (last_of most_kept (parts.records ++ own ∷ [])) + k = (let c = s.count in let l = s.last in let e = new.0 in omega arith) in
              subst (IsKeptOf IsDeltaOf x log parts.origin) place (subst (λ (y : Option Delta). IsKeptOf IsDeltaOf y log parts.origin (at entry.history parts.origin)) new.1 is)
        ];
      }

  grown_by_one : (action : Action Op) → at (with_action entry parts.origin action).history parts.origin ≡ at entry.history parts.origin + 1
  grown_by_one action =
      let r : Record Op = record { action = action; past = versions entry.history } in
      ap (λ v. v parts.origin) (versions-with_record entry.history parts.origin r) ∙ with_at_same (versions entry.history) parts.origin (at entry.history parts.origin + 1)

  -- what is kept of the next record
  next_kept : (action : Action Op) (delta : Option Delta) → IsNext log (versions entry.history) parts.origin action → not (is_some delta) ≡ is_prune action
      → ((made : Delta) → delta ≡ Some made → IsDeltaOf made log parts.origin (at entry.history parts.origin) (at entry.history parts.origin + 1)) → IsKeptOf IsDeltaOf delta log parts.origin (at entry.history parts.origin)
  next_kept action delta next lacks is = record {
    placeholder = lacks ∙ ap is_prune (sym next.action);
    delta = is;
  }

  pub stands_operation : (op : Op) (before : Option Numbers) (delta : Option Delta) (made : Delta) → StandsForLog IsDeltaOf parts log entry → IsTakenFrom log (with_action entry parts.origin (Operation op)).history → AgreeBut parts.origin (number_at (before_with parts before)) (at entry.history)
      → delta ≡ Some made → IsDeltaOf made log parts.origin (at entry.history parts.origin) (at entry.history parts.origin + 1) → StandsForLog IsDeltaOf (appended parts before delta) log (with_action entry parts.origin (Operation op))
  stands_operation op before delta made s taken known some is =
      let next = next_of_log log entry.history parts.origin (Operation op) s.histories taken in
      stands_appended (with_action entry parts.origin (Operation op)) (Operation op) before delta s taken (grown_by_one (Operation op)) next known
      (next_kept (Operation op) delta next (ap (λ o. not (is_some o)) some)
      (λ other e. let same : made ≡ other = cc (some, e) in subst (λ d. IsDeltaOf d log parts.origin (at entry.history parts.origin) (at entry.history parts.origin + 1)) same is))

  pub stands_prune : (removed : ℕ) (before : Option Numbers) (delta : Option Delta) → StandsForLog IsDeltaOf parts log entry → IsTakenFrom log (with_prune entry parts.origin removed).history → AgreeBut parts.origin (number_at (before_with parts before)) (at entry.history)
      → delta ≡ None → StandsForLog IsDeltaOf (appended parts before delta) log (with_prune entry parts.origin removed)
  stands_prune removed before delta s taken known none =
      let next = next_of_log log entry.history parts.origin (Prune removed) s.histories taken in
      stands_appended (with_prune entry parts.origin removed) (Prune removed) before delta s taken (grown_by_one (Prune removed)) next known
      (next_kept (Prune removed) delta next (ap (λ o. not (is_some o)) none) (λ made e. absurd (cc (none, e))))

  -- THE OWN RECORDS STAY

  -- another entry of the log with as many own records
  pub stands_still : (next : Entry Op) → StandsForLog IsDeltaOf parts log entry → IsTakenFrom log next.history → at next.history parts.origin ≡ at entry.history parts.origin → StandsForLog IsDeltaOf parts log next
  stands_still next s taken same = record {
    histories = s.histories;
    taken = taken;
    last = s.last ∙ sym same;
    count = s.count;
    before = s.before;
    kept = s.kept;
  }

  -- a merge with an entry that counts no more of the own records
  pub stands_merged : (theirs : Entry Op) → StandsForLog IsDeltaOf parts log entry → IsTakenFrom log theirs.history → at theirs.history parts.origin ≤ at entry.history parts.origin → StandsForLog IsDeltaOf parts log (merged entry theirs)
  stands_merged theirs s taken fewer =
      stands_still (merged entry theirs) s (taken_union entry.history theirs.history log s.taken taken) (at-union entry.history theirs.history parts.origin ∙ omega arith)

  -- a group of another origin
  pub stands_with_group : (group : Group Op) → StandsForLog IsDeltaOf parts log entry → IsTakenFrom log (with_group entry group).history → parts.origin ≢ group.origin → StandsForLog IsDeltaOf parts log (with_group entry group)
  stands_with_group group s taken other =
      stands_still (with_group entry group) s taken (ap length (with_at_other entry.history group.origin _ parts.origin other))
