-- How groups are judged, and marks begun.
use Rattle.std.proofs.Common.{◌≡◌, ◌≢◌, ℕ, ◌<◌, ◌≤◌, Bool, true, false, ◌||◌, nat_eq, nat_le, cond, if◌then◌else◌, Option, Some, None, arith, rules, refl, ap, sym, ◌∙◌, subst, ⊎_elim}
use Rattle.std.specs.FinMap as map
use Rattle.std.specs.Option.{IfSome}
use Rattle.std.proofs.lemmas.Bool.{cases_eq, cases_lt}
use mathlib.Core.Bool.{or-true}
use Rattle.model_history.specs.Table.{identity_limit}
use Rattle.model_history.specs.Vector.{VersionVector, IdentitySet, alone, first_lacking}
use Rattle.model_history.specs.History.{History, at, versions, is_pruned}
use Rattle.model_history.proofs.HistoryLaws.{with_at_other}
use Rattle.model_history.proofs.CutLaws.{with_at_is}
use Rattle.model_members.specs.Entry.{Entry, Group, judged, needs}
use Rattle.model_members.specs.Entry.Judgement.{Wanted, Stale, Missing}
use Rattle.model_members.proofs.Cases.{judged_by}
use Rattle.base_vectors.specs.Vectors.{Numbers, number_at, IsFirstLacking}
use Rattle.base_vectors.specs.IdSets.{members_in}
use Rattle.base_vectors.proofs.Sets.{members_in-zero}
use Rattle.base_vectors.proofs.Walks.{lacking_first, lacking_none}
use Rattle.data_markers.specs.declared.marker.Marker.{Marker}
use Rattle.data_markers.specs.declared.marker.Marker.TheVariants.{Initialized}
use Rattle.data_markers.specs.Marks.{Marks, mark_of, begun, is_performed, performed_in}
use Rattle.data_markers.proofs.Laws.{mark_of-insert_same, mark_of-insert_other}
use Rattle.data_envelope.specs.Images.{Parts, StandsFor}
use Rattle.data_envelope.specs.Words.{IsFirstUnknown, with_mark, init_at, init_by}
use Rattle.data_envelope.specs.declared.outcomes.Init.{Init}
use Rattle.data_envelope.specs.declared.outcomes.Init.TheVariants as initial
use Rattle.data_envelope.proofs.Reading.{pruned_at, numbers_at, all_counted}

-- A GROUP

pub judged_stale : {Op : Type 0} (entry : Entry Op) (group : Group Op) → group.upto ≤ at entry.history group.origin → Stale ≡ judged entry group
judged_stale entry group l =
    let t : nat_le group.upto (at entry.history group.origin) ≡ true = grind rules in
    sym (ap (λ b. if b then Stale else judged_by (first_lacking (versions entry.history) (needs group))) t)

unjudged : {Op : Type 0} (entry : Entry Op) (group : Group Op) → at entry.history group.origin < group.upto → judged_by (first_lacking (versions entry.history) (needs group)) ≡ judged entry group
unjudged entry group l =
    let t : nat_le group.upto (at entry.history group.origin) ≡ false = grind rules in
    sym (ap (λ b. if b then Stale else judged_by (first_lacking (versions entry.history) (needs group))) t)

pub judged_missing : {Op : Type 0} (entry : Entry Op) (group : Group Op) (needed : VersionVector) (id : ℕ) → at entry.history group.origin < group.upto → ((i : ℕ) → needed i ≡ needs group i) → IsFirstUnknown (versions entry.history) needed id
    → Missing id ≡ judged entry group
judged_missing entry group needed id l same first =
    sym (ap judged_by (lacking_first (versions entry.history) (needs group) id first.member (subst (λ n. at entry.history id < n) (same id) first.lacking) (λ j m. subst (λ n. n ≤ at entry.history j) (same j) (first.first j m))))
    ∙ unjudged entry group l

pub judged_wanted : {Op : Type 0} (entry : Entry Op) (group : Group Op) (needed : VersionVector) → at entry.history group.origin < group.upto → ((i : ℕ) → needed i ≡ needs group i) → ((i : ℕ) → i < identity_limit → needed i ≤ at entry.history i)
    → Wanted ≡ judged entry group
judged_wanted entry group needed l same covers =
    sym (ap judged_by (lacking_none (versions entry.history) (needs group) (λ j m. subst (λ n. n ≤ at entry.history j) (same j) (covers j m))))
    ∙ unjudged entry group l

-- A MARK

-- a set with a member is not the number 0
pub some_member : (bits id : ℕ) → members_in bits id ≡ true → bits ≡ 0 → ⊥
some_member bits id has e = absurd (let x : true ≡ false = sym has ∙ ap (λ n. members_in n id) e ∙ members_in-zero id in cc)

nothing_there : (b : Bool) (n : ℕ) → cond b 0 n ≡ 0 → ((nat_eq n 0) || b) ≡ true
nothing_there true n e = or-true (nat_eq n 0)
nothing_there false n e = let t : nat_eq n 0 ≡ true = grind rules in ap (λ c. c || false) t

something_there : (b : Bool) (n : ℕ) → 0 < cond b 0 n → ((nat_eq n 0) || b) ≡ false
something_there true n l = absurd (omega arith)
something_there false n l = let t : nat_eq n 0 ≡ false = grind rules in ap (λ c. c || false) t

pruned_there : (n : ℕ) (b : Bool) → b ≡ true → ((nat_eq n 0) || b) ≡ true
pruned_there n b e = ap (λ c. nat_eq n 0 || c) e ∙ or-true (nat_eq n 0)

kept_there : (b : Bool) (n : ℕ) → 0 < cond b 0 n → b ≡ false
kept_there true n l = absurd (omega arith)
kept_there false n l = refl

pub marked_first : (o : Option Marker) (view : ℕ) → o ≡ None → initial.Marked ≡ init_by (begun o) view
marked_first o view e = sym (ap (λ m. init_by (begun m) view) e)

alone_is : (owner i : ℕ) (set : IdentitySet) → ((i : ℕ) → set i ≡ alone owner i) → set ≡ alone owner
alone_is owner i set same = λ j k. same k j

module _ {State Op : Type 0} (D : State → History Op → VersionVector → IdentitySet → Type 0) where
  init_nothing : (entry : Entry Op) (r view : ℕ) → ((nat_eq (at entry.history r) 0) || is_pruned entry.history r) ≡ true → initial.NothingKnown ≡ init_at entry r view
  init_nothing entry r view t = sym (ap (λ b. if b then initial.NothingKnown else init_by (entry.marks r) view) t)

  pub init_absent : (parts : Parts State) (log : History Op) (entry : Entry Op) (r view : ℕ) → StandsFor D parts log entry → number_at parts.versions r ≡ 0 → initial.NothingKnown ≡ init_at entry r view
  init_absent parts log entry r view s none = init_nothing entry r view (nothing_there (is_pruned entry.history r) (at entry.history r) (sym (numbers_at D parts log entry s r) ∙ none))

  pub init_performed : (parts : Parts State) (log : History Op) (entry : Entry Op) (r view : ℕ) → StandsFor D parts log entry → performed_in parts.marks r ≡ true → initial.NothingKnown ≡ init_at entry r view
  init_performed parts log entry r view s gone = init_nothing entry r view (pruned_there (at entry.history r) (is_pruned entry.history r) (sym (pruned_at D parts log entry s r) ∙ gone))

  -- where the identity has records, its mark decides
  pub init_there : (parts : Parts State) (log : History Op) (entry : Entry Op) (r view : ℕ) (init : Init) → StandsFor D parts log entry → 0 < number_at parts.versions r → init ≡ init_by (begun (mark_of parts.marks r)) view → init ≡ init_at entry r view
  init_there parts log entry r view init s some is =
      let there : ((nat_eq (at entry.history r) 0) || is_pruned entry.history r) ≡ false = something_there (is_pruned entry.history r) (at entry.history r) (subst (λ n. 0 < n) (numbers_at D parts log entry s r) some) in
      is ∙ ap (λ m. init_by m view) (sym (s.marks r)) ∙ sym (ap (λ b. if b then initial.NothingKnown else init_by (entry.marks r) view) there)

  pub unpruned_there : (parts : Parts State) (log : History Op) (entry : Entry Op) (r : ℕ) → StandsFor D parts log entry → 0 < number_at parts.versions r → performed_in parts.marks r ≡ false
  unpruned_there parts log entry r s some = pruned_at D parts log entry s r ∙ kept_there (is_pruned entry.history r) (at entry.history r) (subst (λ n. 0 < n) (numbers_at D parts log entry s r) some)

  pub stands_marked : (old : Parts State) (marks : Marks) (log : History Op) (entry : Entry Op) (r owner view seen : ℕ) → StandsFor D old log entry → 0 < number_at old.versions r → marks ≡ map.insert old.marks r (Initialized view owner seen) → ((i : ℕ) → members_in seen i ≡ alone owner i)
      → StandsFor D (record old { marks = marks }) log (with_mark entry r owner view)
  stands_marked old marks log entry r owner view seen s some is members =
      let kept_r = unpruned_there old log entry r s some in
      let here : (i : ℕ) → i ≡ r → mark_of marks i ≡ Some (Initialized view owner seen) = λ i e. ap (λ m. mark_of m i) is ∙ mark_of-insert_same old.marks r i (Initialized view owner seen) e in
      let apart : (i : ℕ) → i ≢ r → mark_of marks i ≡ mark_of old.marks i = λ i ne. ap (λ m. mark_of m i) is ∙ mark_of-insert_other old.marks r i (Initialized view owner seen) ne in
      let gone : (i : ℕ) → performed_in old.marks i ≡ performed_in marks i = λ i. ⊎_elim (λ (e : i ≡ r). ap (performed_in old.marks) e ∙ kept_r ∙ sym (ap is_performed (here i e))) (λ (ne : i ≢ r). ap is_performed (sym (apart i ne))) (cases_eq i r) in
      record {
        histories = s.histories;
        taken = s.taken;
        holds = record {
          cut = s.holds.cut;
          exact = s.holds.exact;
          prunes = λ q o k p. ⊎_elim
              (λ (e : q ≡ r). absurd (let x : true ≡ false = sym (ap is_performed (s.holds.prunes q o k p)) ∙ ap (performed_in old.marks) e ∙ kept_r in cc))
              (λ (ne : q ≢ r). apart q ne ∙ s.holds.prunes q o k p) (cases_eq q r);
          marked = λ q g. s.holds.marked q (gone q ∙ g);
          state = subst (D old.value log (versions entry.history)) (λ j i. gone i j) s.holds.state;
          numbers = λ i. s.holds.numbers i ∙ ap (λ b. cond b 0 (at entry.history i)) (gone i);
        };
        marks = λ q. ⊎_elim
            (λ (e : q ≡ r). with_at_is entry.marks r _ q e ∙ sym (ap begun (here q e) ∙ λ j. Some (record { view = view; owner = owner; seen = λ i. members i j })))
            (λ (ne : q ≢ r). with_at_other entry.marks r _ q ne ∙ s.marks q ∙ ap begun (sym (apart q ne))) (cases_eq q r);
      }

  -- without a mark the versions tell which record is lacking first
  pub first_unknown : (r : Option ℕ) (parts : Parts State) (log : History Op) (entry : Entry Op) (needs : Numbers) (limit : ℕ) → StandsFor D parts log entry → ((i : ℕ) → mark_of parts.marks i ≡ None) → limit ≤ identity_limit
      → ((i : ℕ) → limit ≤ i → number_at needs i ≡ 0) → IfSome r (IsFirstLacking parts.versions needs) → IfSome r (IsFirstUnknown (versions entry.history) (number_at needs))
  first_unknown None parts log entry needs limit s unmarked few none h = tt
  first_unknown (Some id) parts log entry needs limit s unmarked few none h = record {
    member = ⊎_elim (λ (l : id < identity_limit). l) (λ (l : identity_limit ≤ id). absurd (let zero = none id (omega arith) in let lacks = h.lacking in omega arith)) (cases_lt id identity_limit);
    lacking = subst (λ n. n < number_at needs id) (all_counted D parts log entry s unmarked id) h.lacking;
    first = λ i l. subst (λ n. number_at needs i ≤ n) (all_counted D parts log entry s unmarked i) (h.first i l);
  }
