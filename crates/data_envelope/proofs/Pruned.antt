-- What an envelope counts and marks after the steps of a prune.
use Rattle.std.proofs.Common.{◌≡◌, ℕ, ◌+◌, ◌<◌, true, false, max, Option, Some, None, refl, ap, sym, ◌∙◌, arith, rules, inl, inr}
use Rattle.std.specs.Prelude.{if◌then◌else◌, ◌==◌}
use Rattle.std.specs.FinMap as map
use Rattle.std.proofs.lemmas.Bool.{cases_eq, cases_lt}
use Rattle.model_history.specs.Table.{identity_limit, with_at}
use Rattle.model_history.proofs.HistoryLaws.{with_at_other}
use Rattle.model_history.specs.Vector.{with_member}
use Rattle.model_history.proofs.CutLaws.{with_at_is, with_member_is, with_member_other}
use Rattle.base_vectors.specs.Vectors.{Numbers, number_at, raised, removed, IsNormal}
use Rattle.base_vectors.proofs.Laws.{number_at-raised_same, number_at-raised_other, number_at-numbers_of, number_at-numbers_of_above, number_at_above}
use Rattle.data_markers.specs.declared.marker.Marker.{Marker}
use Rattle.data_markers.specs.declared.marker.Marker.TheVariants.{Initialized, Performed}
use Rattle.data_markers.specs.Marks.{Marks, mark_of, is_performed, performed_in}
use Rattle.data_markers.proofs.Laws.{mark_of-insert_same, mark_of-insert_other}
use Rattle.data_envelope.specs.Pruning.{init_as, init_of}
use Rattle.data_envelope.specs.Images.{Parts}
use Rattle.data_envelope.specs.declared.outcomes.Init.{Init}
use Rattle.data_envelope.specs.declared.outcomes.Init.TheVariants as initial

-- one number more at the owner, and none at the removed identity
pub pruned_numbers : (m n : Numbers) (owner r : ℕ) → IsNormal m → owner < identity_limit → n ≡ removed (raised m owner (number_at m owner + 1)) r
    → (i : ℕ) → number_at n i ≡ with_at (with_at (number_at m) owner (number_at m owner + 1)) r 0 i
pruned_numbers m n owner r normal member is i = ap (λ x. number_at x i) is ∙ elim (cases_lt i identity_limit) [
  | inl small ↦ number_at-numbers_of (with_at (number_at more) r 0) i small ∙ elim (cases_eq i r) [
    | inl same ↦ with_at_is (number_at more) r 0 i same ∙ sym (with_at_is now r 0 i same)
    | inr other ↦ with_at_other (number_at more) r 0 i other ∙ below i small ∙ sym (with_at_other now r 0 i other)
  ]
  | inr large ↦ number_at-numbers_of_above (with_at (number_at more) r 0) i large ∙ elim (cases_eq i r) [
    | inl same ↦ sym (with_at_is now r 0 i same)
    | inr other ↦ sym (with_at_other now r 0 i other ∙ with_at_other (number_at m) owner (number_at m owner + 1) i (λ e. absurd (omega arith)) ∙ number_at_above m normal i large)
  ]
]
  where
    more : Numbers
    more = raised m owner (number_at m owner + 1)

    now : ℕ → ℕ
    now = with_at (number_at m) owner (number_at m owner + 1)

    below : (i : ℕ) → i < identity_limit → number_at (raised m owner (number_at m owner + 1)) i ≡ with_at (number_at m) owner (number_at m owner + 1) i
    below i small = elim (cases_eq i owner) [
      | inl same ↦ number_at-raised_same m owner (number_at m owner + 1) i small same ∙ (let e : max (number_at m owner) (number_at m owner + 1) ≡ number_at m owner + 1 = omega arith in e) ∙ sym (with_at_is (number_at m) owner (number_at m owner + 1) i same)
      | inr other ↦ number_at-raised_other m owner (number_at m owner + 1) i small other ∙ sym (with_at_other (number_at m) owner (number_at m owner + 1) i other)
    ]

-- one mark is another
pub marks_with : (old new : Marks) (r : ℕ) (mark : Marker) → new ≡ map.insert old r mark → (i : ℕ) → mark_of new i ≡ with_at (mark_of old) r (Some mark) i
marks_with old new r mark is i = ap (λ m. mark_of m i) is ∙ elim (cases_eq i r) [
  | inl same ↦ mark_of-insert_same old r i mark same ∙ sym (with_at_is (mark_of old) r (Some mark) i same)
  | inr other ↦ mark_of-insert_other old r i mark other ∙ sym (with_at_other (mark_of old) r (Some mark) i other)
]

-- one more identity was pruned
pub performed_with : (old new : Marks) (r owner seq upto : ℕ) → ((i : ℕ) → mark_of new i ≡ with_at (mark_of old) r (Some (Performed owner seq upto)) i) → (i : ℕ) → performed_in new i ≡ with_member (performed_in old) r i
performed_with old new r owner seq upto marks i = ap is_performed (marks i) ∙ elim (cases_eq i r) [
  | inl same ↦ ap is_performed (with_at_is (mark_of old) r (Some (Performed owner seq upto)) i same) ∙ sym (with_member_is (performed_in old) r i same)
  | inr other ↦ ap is_performed (with_at_other (mark_of old) r (Some (Performed owner seq upto)) i other) ∙ sym (with_member_other (performed_in old) r i other)
]

-- a begun mark in place of one that is not performed prunes nobody
pub performed_still : (old new : Marks) (r view owner seen : ℕ) → new ≡ map.insert old r (Initialized view owner seen) → performed_in old r ≡ false → (i : ℕ) → performed_in new i ≡ performed_in old i
performed_still old new r view owner seen is none i = elim (cases_eq i r) [
  | inl same ↦ ap is_performed (ap (λ m. mark_of m i) is ∙ mark_of-insert_same old r i (Initialized view owner seen) same) ∙ sym (ap (performed_in old) same ∙ none)
  | inr other ↦ ap is_performed (ap (λ m. mark_of m i) is ∙ mark_of-insert_other old r i (Initialized view owner seen) other)
]

-- whoever was pruned gets no mark
pub unperformed : (o : Option Marker) (view : ℕ) → init_as o view ≡ initial.Marked → is_performed o ≡ false
unperformed None view e = refl
unperformed (Some (Initialized begun owner seen)) view e = refl
unperformed (Some (Performed owner at upto)) view e = absurd (cc e)

module _ {State : Type 0} (parts : Parts State) (r view : ℕ) where
  pub init_none : number_at parts.versions r ≡ 0 → initial.NothingKnown ≡ init_of parts r view
  init_none e = sym (ap (λ b. if b then initial.NothingKnown else init_as (mark_of parts.marks r) view) (let t : (number_at parts.versions r == 0) ≡ true = grind rules in t))

  pub init_some : (init : Init) → 0 < number_at parts.versions r → init ≡ init_as (mark_of parts.marks r) view → init ≡ init_of parts r view
  init_some init some is = is ∙ sym (ap (λ b. if b then initial.NothingKnown else init_as (mark_of parts.marks r) view) (let t : (number_at parts.versions r == 0) ≡ false = grind rules in t))
