-- In every run each member stands in the marks that it holds.
use Rattle.std.proofs.Common.{◌≡◌, ℕ, ◌≤◌, refl, sym, ap, subst, ◌∙◌, arith, Bool, true, false, Option, Some, None, inl, inr}
use Rattle.std.specs.Prelude.{if◌then◌else◌, nat_le, ⊤}
use Rattle.std.proofs.lemmas.Bool.Decides.{eqb_tells, nat_tests}
use Rattle.model_history.specs.Table.{with_at}
use Rattle.model_history.specs.Vector.{with_member, alone}
use Rattle.model_members.specs.View.{View}
use Rattle.model_members.specs.Entry.{Entry, Mark, Marks, seen_mark, seen_by, merged}
use Rattle.theorem_runs.specs.Pruning.{SeesMarks}
use Rattle.model_history.proofs.HistoryLaws.{with_at_same, with_at_other}
use Rattle.theorem_runs.proofs.Keeping.{AreKept, AnyTick}

-- a set with one more member
in_with_member : (set : ℕ → Bool) (i : ℕ) → with_member set i i ≡ true
in_with_member set i = grind (arith, nat_tests)

not_le : (a b : ℕ) → nat_le a b ≡ false → a ≤ b → ⊥
not_le a b e h = grind (arith, nat_tests)

in_alone : (i : ℕ) → alone i i ≡ true
in_alone i = grind (arith, nat_tests)

-- the mark that a member has just seen, whatever it was
seen_mark_by : (i view : ℕ) (b : Bool) (m mark : Mark) → nat_le m.view view ≡ b → (if b then Some (record m { seen = with_member m.seen i }) else Some m) ≡ Some mark → mark.view ≤ view → mark.seen i ≡ true
seen_mark_by i view true m mark is e h =
    let same : record m { seen = with_member m.seen i } ≡ mark = cc e in
    subst (λ (x : Mark). x.seen i ≡ true) same (in_with_member m.seen i)
seen_mark_by i view false m mark is e h =
    let same : m ≡ mark = cc e in
    absurd (not_le m.view view is (subst (λ (x : Mark). x.view ≤ view) (sym same) h))

seen_mark_sees : (i view : ℕ) (o : Option Mark) (mark : Mark) → seen_mark i view o ≡ Some mark → mark.view ≤ view → mark.seen i ≡ true
seen_mark_sees i view None mark e h = absurd (cc e)
seen_mark_sees i view (Some m) mark e h = seen_mark_by i view (nat_le m.view view) m mark refl e h

sees_marks : (i : ℕ) (view : ℕ) (marks : Marks) (r : ℕ) (o : Option Mark) → ((m : Mark) → o ≡ Some m → m.seen i ≡ true)
    → ((q : ℕ) (m : Mark) → marks q ≡ Some m → m.view ≤ view → m.seen i ≡ true)
    → (q : ℕ) (m : Mark) → with_at marks r o q ≡ Some m → m.view ≤ view → m.seen i ≡ true
sees_marks i view marks r o new old q m e h = elim (eqb_tells q r) [
  | inl is ↦ new m (sym (with_at_same marks r o) ∙ ap (with_at marks r o) (sym is.1) ∙ e)
  | inr isnt ↦ old q m (sym (with_at_other marks r o q isnt.1) ∙ e) h
]

module _ {Op : Type 0} where
  -- whoever has just seen the marks stands in them
  pub sees_seen : (i view : ℕ) (entry : Entry Op) → SeesMarks i view (seen_by i view entry)
  sees_seen i view entry r mark e h = seen_mark_sees i view (entry.marks r) mark e h

  -- each change of an entry keeps it so, whatever comes in a message
  pub sees_kept : (i : ℕ) (view : View) → AreKept (λ key. SeesMarks {Op = Op} i view.number) (λ key theirs. ⊤) (λ key group. ⊤) AnyTick i view
  sees_kept i view =
      record {
        added = λ key entry op p. p;
        took = λ key mine theirs p m. sees_seen i view.number (merged mine theirs);
        grouped = λ key entry group is p g. p;
        marks = λ key entry shares r ticks due p. sees_marks i view.number entry.marks r _ (λ m e. let same : record { view = view.number; owner = i; seen = alone i } ≡ m = cc e in subst (λ (x : Mark). x.seen i ≡ true) same (in_alone i)) p;
        prunes = λ key entry shares r ticks due seen p. sees_marks i view.number entry.marks r None (λ m e. absurd (cc e)) p;
      }
