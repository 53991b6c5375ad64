-- What an envelope stands for after each change.
use Rattle.std.proofs.Common.{◌≡◌, ◌≢◌, ℕ, Bool, true, false, Option, Some, None, refl, ap, sym, ◌∙◌, subst, inl, inr}
use Rattle.std.specs.Prelude.{if◌then◌else◌, length, Result, Ok}
use Rattle.std.specs.FinMap as map
use Rattle.std.proofs.lemmas.Bool.{cases_eq, cases_Bool, or_parts}
use Rattle.model_history.specs.Table.{with_at}
use Rattle.model_history.specs.Vector.{VersionVector, IdentitySet, none_counted, join}
use Rattle.model_history.specs.History.{Action, History, at, versions, cut, union, is_pruned, no_records, IsHistory, IsExactlyPruned}
use Rattle.model_history.specs.History.Action.{Operation, Prune}
use Rattle.model_history.specs.Log.{IsTakenFrom}
use Rattle.model_history.specs.Cuts.{IsConsistentCut, IsNext, HasExactPrunes, grown}
use Rattle.model_history.proofs.HistoryLaws.{with_at_other}
use Rattle.model_history.proofs.PartLaws.{taken_union}
use Rattle.model_history.proofs.CutLaws.{with_at_is}
use Rattle.model_history.proofs.Bridge.{versions-with_record, versions-union, next_of_log, taken_is_history, taken_is_cut, cut_of_part, exact_cut, are_pruned, same_pruned}
use Rattle.model_members.specs.Entry.{Entry, Group, IsGroupOf, judged, merged, merged_mark, with_action, with_prune, with_group, empty_entry}
use Rattle.model_members.specs.Entry.Judgement.{Wanted}
use Rattle.model_members.proofs.GroupLaws.{taken_with_group, other_rows, new_count}
use Rattle.base_vectors.specs.Vectors.{Numbers}
use Rattle.data_markers.specs.declared.marker.Marker.{Marker}
use Rattle.data_markers.specs.declared.marker.Marker.TheVariants.{Initialized, Performed}
use Rattle.data_markers.specs.Marks.{Marks, mark_of, is_performed, performed_in, begun, MergesTo}
use Rattle.data_markers.proofs.Meaning.{begun-merged}
use Rattle.model_meanings.specs.Refusal.{Shares}
use Rattle.data_lattice.specs.Refusals.{IsPruneRefusal}
use Rattle.data_lattice.specs.declared.answers.PruneError.TheVariants as refusal
use Rattle.base_bytes.specs.declared.memory.Memory.{Memory}
use Rattle.data_envelope.specs.declared.outcomes.Perform.{Perform}
use Rattle.data_envelope.specs.declared.outcomes.Perform.TheVariants as outcome
use Rattle.data_envelope.specs.Images.{Parts, Holds, StandsFor}
use Rattle.data_envelope.proofs.Tests.{performed_merge}
use Rattle.data_envelope.proofs.Holding.{held_pruned, holds_empty}

begun-performed : (o : Option Marker) → is_performed o ≡ true → begun o ≡ None
begun-performed None e = refl
begun-performed (Some (Initialized view owner seen)) e = absurd (cc e)
begun-performed (Some (Performed owner at upto)) e = refl

-- which shares a refusal names
pub blocked_shares : (meant : Option Shares) (owner removed : ℕ) → IsPruneRefusal meant (refusal.Blocked owner removed) → meant ≡ Some (record { owner = owner; removed = removed })
blocked_shares None owner removed (inl e) = absurd (cc e)
blocked_shares None owner removed (inr e) = absurd (cc e)
blocked_shares (Some shares) owner removed (inl e) = absurd (cc e)
blocked_shares (Some shares) owner removed (inr e) =
    let a : shares.owner ≡ owner = cc e in
    let b : shares.removed ≡ removed = cc e in
    λ i. Some (record { owner = a i; removed = b i })

-- what is blocked was not deleted, where what was deleted blocks nothing
pub blocked_undeleted : (closed : Bool) (meant : Option Shares) (owner removed : ℕ) → (closed ≡ true → meant ≡ None) → IsPruneRefusal meant (refusal.Blocked owner removed) → closed ≡ false
blocked_undeleted false meant owner removed free r = refl
blocked_undeleted true meant owner removed free r = absurd (let some = sym (free refl) ∙ blocked_shares meant owner removed r in cc some)

pub blocked_same : (meant : Option Shares) (x y x' y' owner removed : ℕ) → IsPruneRefusal meant (refusal.Blocked x y) → x' ≡ x → y' ≡ y → ◌≡◌ {A = Result Perform Memory} (Ok (outcome.Blocked x' y')) (Ok (outcome.Blocked owner removed))
    → meant ≡ Some (record { owner = owner; removed = removed })
blocked_same meant x y x' y' owner removed r p q e =
    let a : x' ≡ owner = cc e in
    let b : y' ≡ removed = cc e in
    blocked_shares meant x y r ∙ λ i. Some (record { owner = (sym p ∙ a) i; removed = (sym q ∙ b) i })

module _ {State Op : Type 0} (D : State → History Op → VersionVector → IdentitySet → Type 0) where
  -- a history with these versions, and these marks
  pub stands : (parts : Parts State) (log : History Op) (entry : Entry Op) (held : VersionVector) → IsHistory log → IsTakenFrom log entry.history → versions entry.history ≡ held → Holds D parts log held
      → ((r : ℕ) → entry.marks r ≡ begun (mark_of parts.marks r)) → StandsFor D parts log entry
  stands parts log entry held histories taken same holds marks = record { histories = histories; taken = taken; holds = subst (λ v. Holds D parts log v) (sym same) holds; marks = marks }

  taken_nothing : (log : History Op) → IsTakenFrom log no_records
  taken_nothing log = record { part = λ i. refl; closed = λ i k r has. absurd (cc has) }

  pub stands_empty : (value : State) (versions : Numbers) (marks : Marks) (log : History Op) → IsHistory log → versions ≡ map.empty → marks ≡ map.empty → ((gone : IdentitySet) → D value log none_counted gone)
      → ((i : ℕ) → mark_of marks i ≡ None) → StandsFor D (record { value = value; versions = versions; marks = marks }) log empty_entry
  stands_empty value versions marks log histories v m d unmarked =
      stands (record { value = value; versions = versions; marks = marks }) log empty_entry none_counted histories (taken_nothing log) refl (holds_empty D value versions marks log none_counted (λ i. refl) v m d unmarked) (λ r. sym (ap begun (unmarked r)))

  -- a performed mark says that the history has a prune
  pub pruned_is : (parts : Parts State) (log : History Op) (H : History Op) → IsHistory log → IsTakenFrom log H → Holds D parts log (versions H) → (r : ℕ) → performed_in parts.marks r ≡ is_pruned H r
  pruned_is parts log H histories taken holds =
      same_pruned log (versions H) (performed_in parts.marks) (is_pruned H) (held_pruned D parts log (versions H) holds).pruned (are_pruned log H (taken_is_history log H histories taken) taken.part)

  pub next_here : (parts : Parts State) (log : History Op) (entry : Entry Op) (id : ℕ) (action : Action Op) → StandsFor D parts log entry → IsTakenFrom log (with_action entry id action).history
      → IsNext log (versions entry.history) id action
  next_here parts log entry id action s taken = next_of_log log entry.history id action s.histories taken

  pub next_of_prune : (parts : Parts State) (log : History Op) (entry : Entry Op) (owner removed : ℕ) → StandsFor D parts log entry → IsTakenFrom log (with_prune entry owner removed).history
      → IsNext log (versions entry.history) owner (Prune removed)
  next_of_prune parts log entry owner removed s taken = next_of_log log entry.history owner (Prune removed) s.histories taken

  -- what the history says, said of the log's cut
  pub whole : (parts : Parts State) (log : History Op) (entry : Entry Op) → StandsFor D parts log entry → cut log (versions entry.history) ≡ entry.history
  whole parts log entry s = cut_of_part log entry.history s.taken.part

  pub stands_acted : (old new : Parts State) (log : History Op) (entry : Entry Op) (id : ℕ) (op : Op) → StandsFor D old log entry → IsTakenFrom log (with_action entry id (Operation op)).history → new.marks ≡ old.marks
      → Holds D new log (grown (versions entry.history) id) → StandsFor D new log (with_action entry id (Operation op))
  stands_acted old new log entry id op s taken same holds =
      stands new log (with_action entry id (Operation op)) (grown (versions entry.history) id) s.histories taken (versions-with_record entry.history id _) holds (λ r. s.marks r ∙ ap (λ m. begun (mark_of m r)) (sym same))

  pub stands_pruned : (old new : Parts State) (log : History Op) (entry : Entry Op) (owner removed : ℕ) → StandsFor D old log entry → IsTakenFrom log (with_prune entry owner removed).history
      → performed_in new.marks removed ≡ true → ((r : ℕ) → r ≢ removed → mark_of new.marks r ≡ mark_of old.marks r)
      → Holds D new log (grown (versions entry.history) owner) → StandsFor D new log (with_prune entry owner removed)
  stands_pruned old new log entry owner removed s taken performed others holds =
      stands new log (with_prune entry owner removed) (grown (versions entry.history) owner) s.histories taken (versions-with_record entry.history owner _) holds
      (λ r. elim (cases_eq r removed) [
        | inl is ↦ with_at_is entry.marks removed None r is ∙ sym (begun-performed (mark_of new.marks r) (ap (performed_in new.marks) is ∙ performed))
        | inr isnt ↦ with_at_other entry.marks removed None r isnt ∙ s.marks r ∙ ap begun (sym (others r isnt))
      ])

  -- the four facts of a group that is taken
  pub group_versions : (log : History Op) (entry : Entry Op) (group : Group Op) (histories : IsHistory log) (taken : IsTakenFrom log entry.history) (of_log : IsGroupOf log group) (verdict : judged entry group ≡ Wanted)
      → versions (with_group entry group).history ≡ with_at (versions entry.history) group.origin group.upto
  group_versions log entry group histories taken of_log wanted = λ k i. same i k
    where
      same : (i : ℕ) → at (with_group entry group).history i ≡ with_at (versions entry.history) group.origin group.upto i
      same i = elim (cases_eq i group.origin) [
        | inl is ↦ ap (at (with_group entry group).history) is ∙ new_count log entry group histories taken of_log wanted ∙ sym (with_at_is (versions entry.history) group.origin group.upto i is)
        | inr isnt ↦ ap length (other_rows log entry group histories taken of_log wanted i isnt) ∙ sym (with_at_other (versions entry.history) group.origin group.upto i isnt)
      ]

  pub stands_taken : (old new : Parts State) (log : History Op) (entry : Entry Op) (group : Group Op) (s : StandsFor D old log entry) (of_log : IsGroupOf log group) (wanted : judged entry group ≡ Wanted) → new.marks ≡ old.marks
      → Holds D new log (with_at (versions entry.history) group.origin group.upto) → StandsFor D new log (with_group entry group)
  stands_taken old new log entry group s of_log wanted same holds =
      stands new log (with_group entry group) (with_at (versions entry.history) group.origin group.upto) s.histories (taken_with_group log entry group s.histories s.taken of_log wanted)
      (group_versions log entry group s.histories s.taken of_log wanted) holds (λ r. s.marks r ∙ ap (λ m. begun (mark_of m r)) (sym same))

  -- the vector after the group is a consistent cut
  pub cut_taken : (old : Parts State) (log : History Op) (entry : Entry Op) (group : Group Op) → StandsFor D old log entry → IsGroupOf log group → judged entry group ≡ Wanted
      → IsConsistentCut log (with_at (versions entry.history) group.origin group.upto)
  cut_taken old log entry group s of_log wanted =
      subst (λ v. IsConsistentCut log v) (group_versions log entry group s.histories s.taken of_log wanted)
      (taken_is_cut log (with_group entry group).history s.histories (taken_with_group log entry group s.histories s.taken of_log wanted))

  pub exact_union : (one two : Parts State) (log : History Op) (mine theirs : Entry Op) → StandsFor D one log mine → StandsFor D two log theirs → IsExactlyPruned (union mine.history theirs.history)
      → HasExactPrunes log (join (versions mine.history) (versions theirs.history))
  exact_union one two log mine theirs s t exact =
      subst (λ v. HasExactPrunes log v) (versions-union mine.history theirs.history)
      (exact_cut log (union mine.history theirs.history) s.histories (taken_union mine.history theirs.history log s.taken t.taken) exact)

  pub stands_merged : (one two new : Parts State) (log : History Op) (mine theirs : Entry Op) → StandsFor D one log mine → StandsFor D two log theirs → MergesTo one.marks two.marks new.marks
      → Holds D new log (join (versions mine.history) (versions theirs.history)) → StandsFor D new log (merged mine theirs)
  stands_merged one two new log mine theirs s t merges holds =
      stands new log (merged mine theirs) (join (versions mine.history) (versions theirs.history)) s.histories taken same holds marks
    where
      H : History Op
      H = union mine.history theirs.history

      taken : IsTakenFrom log (union mine.history theirs.history)
      taken = taken_union mine.history theirs.history log s.taken t.taken

      same : versions (union mine.history theirs.history) ≡ join (versions mine.history) (versions theirs.history)
      same = versions-union mine.history theirs.history

      gone : (r : ℕ) → performed_in new.marks r ≡ is_pruned (union mine.history theirs.history) r
      gone = pruned_is new log (union mine.history theirs.history) s.histories taken (subst (λ v. Holds D new log v) (sym same) holds)

      marks : (r : ℕ) → (if is_pruned (union mine.history theirs.history) r then None else merged_mark (mine.marks r) (theirs.marks r)) ≡ begun (mark_of new.marks r)
      marks r = elim (cases_Bool (performed_in new.marks r)) [
        | inl e ↦ ap (λ b. if b then None else merged_mark (mine.marks r) (theirs.marks r)) (sym (gone r) ∙ e) ∙ sym (begun-performed (mark_of new.marks r) e)
        | inr e ↦
            let none = or_parts (performed_in one.marks r) (performed_in two.marks r) (sym (performed_merge one.marks two.marks new.marks merges r) ∙ e) in
            ap (λ b. if b then None else merged_mark (mine.marks r) (theirs.marks r)) (sym (gone r) ∙ e)
            ∙ ap (λ m. merged_mark m (theirs.marks r)) (s.marks r) ∙ ap (merged_mark (begun (mark_of one.marks r))) (t.marks r)
            ∙ sym (begun-merged (mark_of one.marks r) (mark_of two.marks r) none.0 none.1) ∙ ap begun (sym (merges r))
      ]
