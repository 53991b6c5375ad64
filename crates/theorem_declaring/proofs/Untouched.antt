-- An entry without records is nothing to send, to store or to tick, and an entry is unchanged from itself.
use Rattle.std.proofs.Common.{◌≡◌, ℕ, List, [], ◌∷◌, refl, sym, ap, ◌∙◌, Bool, true, false, not, ◌&&◌, Option, Some, None, fold, if◌then◌else◌, ◌==◌}
use Rattle.std.proofs.lemmas.Bool.{and_from, eq-eqb}
use Rattle.model_history.specs.Table.{identities}
use Rattle.model_history.specs.History.{at}
use Rattle.model_members.specs.DataType.{Replication}
use Rattle.model_members.specs.Entry.{Entry, Mark, empty_entry, has_records, same_set, is_same_mark, is_unchanged, seen_by}
use Rattle.model_members.specs.Node.{KeyState, Node}
use Rattle.model_members.specs.Step.{Ticking, tick_identity, tick_key}
use Rattle.model_members.specs.View.{removed_of}
use Rattle.theorem_declaring.proofs.Lists.{all_pass}

same_set_itself : (s : ℕ → Bool) → same_set s s ≡ true
same_set_itself s = all_pass (λ i. if s i then s i else not (s i)) (λ i. by (s i)) identities
  where
    by : (b : Bool) → (if b then b else not b) ≡ true
    by true = refl
    by false = refl

same_mark_itself : (mark : Option Mark) → is_same_mark mark mark ≡ true
same_mark_itself None = refl
same_mark_itself (Some m) =
    and_from ((m.view == m.view) && (m.owner == m.owner)) (same_set m.seen m.seen) (and_from (m.view == m.view) (m.owner == m.owner) (eq-eqb m.view m.view refl) (eq-eqb m.owner m.owner refl)) (same_set_itself m.seen)

pub unchanged_itself : {Op : Type 0} (entry : Entry Op) → is_unchanged entry entry ≡ true
unchanged_itself entry =
    all_pass (λ i. (at entry.history i == at entry.history i) && is_same_mark (entry.marks i) (entry.marks i))
    (λ i. and_from (at entry.history i == at entry.history i) (is_same_mark (entry.marks i) (entry.marks i)) (eq-eqb (at entry.history i) (at entry.history i) refl) (same_mark_itself (entry.marks i))) identities

pub unchanged_same : {Op : Type 0} (old new : Entry Op) → old ≡ empty_entry → new ≡ empty_entry → is_unchanged old new ≡ true
unchanged_same old new before after = ap (λ (x : Entry _). is_unchanged x new) (before ∙ sym after) ∙ unchanged_itself new

pub no_records_in : {Op : Type 0} (entry : Entry Op) → entry ≡ empty_entry → has_records entry ≡ false
no_records_in entry empty = ap has_records empty

pub seen_empty : {Op : Type 0} (i view : ℕ) (entry : Entry Op) → entry ≡ empty_entry → seen_by i view entry ≡ empty_entry
seen_empty i view entry empty = ap (seen_by i view) empty

module _ {Kind Op Shown : Type 0} (D : Replication Kind Op Shown) (node : Node Kind Op Shown) (k : KeyState Kind Op) where
  passes_over : (so_far : Ticking Op) (r : ℕ) → so_far.entry ≡ empty_entry → tick_identity D node k so_far r ≡ so_far
  passes_over so_far r empty = let none : (at so_far.entry.history r == 0) ≡ true = ap (λ (x : Entry Op). at x.history r == 0) empty in rw none refl

  passes_over_all : (rs : List ℕ) (so_far : Ticking Op) → so_far.entry ≡ empty_entry → fold (tick_identity D node k) so_far rs ≡ so_far
  passes_over_all [] so_far empty = refl
  passes_over_all (r ∷ rs) so_far empty = ap (λ (t : Ticking Op). fold (tick_identity D node k) t rs) (passes_over so_far r empty) ∙ passes_over_all rs so_far empty

  pub nothing_ticked : k.entry ≡ empty_entry → tick_key D node k ≡ record { entry = k.entry; outcomes = [] }
  nothing_ticked empty = passes_over_all (removed_of node.view) (record { entry = k.entry; outcomes = [] }) empty
