-- Who stands in a mark has installed its view, and what it had of the removed identity when it first joined is in the entry: of all entries that are held, in messages, and in stores.
use Rattle.std.proofs.Common.{◌≡◌, ℕ, ◌<◌, ◌≤◌, List, [], ◌∷◌, refl, sym, ap, subst, ◌∙◌, arith, true, false, Option, Some, None, ◌⊎◌, inl, inr}
use Rattle.std.specs.Prelude.{slice_get, ◌==◌, nat_le}
use Rattle.std.specs.List.{AllByRecursion}
use Rattle.std.proofs.lemmas.Bool.Decides.{eqb_tells}
use Rattle.std.proofs.lemmas.Bool.{leb-true}
use Rattle.model_history.specs.Texts.{Text}
use Rattle.model_history.specs.Table.{with_at}
use Rattle.model_history.specs.History.{at, union}
use Rattle.model_history.specs.Vector.{alone}
use Rattle.model_history.proofs.HistoryLaws.{with_at_same, with_at_other, at-union}
use Rattle.model_history.proofs.PartLaws.{part-le, part_with_record}
use Rattle.model_members.specs.View.{View, is_member}
use Rattle.model_members.specs.Entry.{Entry, Mark, Group, seen_by, merged, merged_mark}
use Rattle.model_members.specs.DataType.{Replication}
use Rattle.model_members.specs.Message.{Keyed, entries_in, groups_in}
use Rattle.model_members.specs.Node.{Node, Input, Fate, Stepped}
use Rattle.model_members.specs.Node.Input.{Update, Get, Take, Install, Flush, GossipTo, PruneTick, Timeout}
use Rattle.model_members.specs.Step.{step}
use Rattle.theorem_runs.specs.Pruning.{HistoryVariables, Standing}
use Rattle.theorem_runs.proofs.Keeping.{AreKept, AnyTick, if_tells}
use Rattle.theorem_runs.proofs.Stepping.{BringsInput, HasView, keeps_any, moves}
use Rattle.theorem_runs.proofs.Stepping.HasView.{SameView, NewView}
use Rattle.theorem_runs.proofs.Growth.{part_with_group}
use Rattle.theorem_runs.proofs.MarkLaws.{seen_from, merged_from, kept_mark, IsOneOf}
use Rattle.theorem_runs.proofs.MarkLaws.IsOneOf.{First, Second}

-- VIEWS AND STANDINGS

-- the view of a mark is one of the list, and the identity is removed as of it
pub record IsGone (views : List View) (v r : ℕ) : Type 0 where
  pub view : View
  pub listed : slice_get views v ≡ Some view
  pub given : r < view.given
  pub removed : is_member view r ≡ false

-- a member has stood in a mark of this view, and this many records hold what it then had
pub record Stands {Op : Type 0} (variables : HistoryVariables Op) (key : Text) (r v t n : ℕ) : Type 0 where
  pub installed : v ≤ variables.installed t
  pub standing : Standing
  pub joined : variables.joined key r v t ≡ Some standing
  pub kept : standing.had ≤ n

pub stands_more : {Op : Type 0} (variables : HistoryVariables Op) (key : Text) (r v t n m : ℕ) → n ≤ m → Stands variables key r v t n → Stands variables key r v t m
stands_more variables key r v t n m h s = record { installed = s.installed; standing = s.standing; joined = s.joined; kept = let a = s.kept in omega arith }

-- what is known of an entry's marks
pub record MarksKnown {Op : Type 0} (views : List View) (variables : HistoryVariables Op) (key : Text) (entry : Entry Op) : Type 0 where
  pub gone : (r : ℕ) (mark : Mark) → entry.marks r ≡ Some mark → IsGone views mark.view r
  pub seen : (r t : ℕ) (mark : Mark) → entry.marks r ≡ Some mark → mark.seen t ≡ true → Stands variables key r mark.view t (at entry.history r)

-- an entry in the course of a member's step: who stands in its marks did before, or is the member, whose view is then at most the last
pub record StepMarks {Op : Type 0} (views : List View) (variables : HistoryVariables Op) (i top : ℕ) (key : Text) (entry : Entry Op) : Type 0 where
  pub gone : (r : ℕ) (mark : Mark) → entry.marks r ≡ Some mark → IsGone views mark.view r
  pub others : (r t : ℕ) (mark : Mark) → entry.marks r ≡ Some mark → mark.seen t ≡ true → Stands variables key r mark.view t (at entry.history r) ⊎ ((t ≡ i) × (mark.view ≤ top))

module _ {Op : Type 0} (views : List View) (variables : HistoryVariables Op) (i top : ℕ) where
  pub from_known : (key : Text) (entry : Entry Op) → MarksKnown views variables key entry → StepMarks views variables i top key entry
  from_known key entry known = record { gone = known.gone; others = λ r t mark e s. inl (known.seen r t mark e s) }

  -- more records, the same marks
  more_records : (key : Text) (entry after : Entry Op) → after.marks ≡ entry.marks → ((r : ℕ) → at entry.history r ≤ at after.history r) → StepMarks views variables i top key entry → StepMarks views variables i top key after
  more_records key entry after same more p =
      record {
        gone = λ r mark e. p.gone r mark (sym (ap (λ (ms : ℕ → Option Mark). ms r) same) ∙ e);
        others = λ r t mark e s. elim (p.others r t mark (sym (ap (λ (ms : ℕ → Option Mark). ms r) same) ∙ e) s) [
          | inl stands ↦ inl (stands_more variables key r mark.view t (at entry.history r) (at after.history r) (more r) stands)
          | inr self ↦ inr self
        ];
      }

  -- the member sees the marks
  pub seen_marks : (key : Text) (entry : Entry Op) (view : ℕ) → view ≤ top → StepMarks views variables i top key entry → StepMarks views variables i top key (seen_by i view entry)
  seen_marks key entry view late p =
      record {
        gone = λ r mark e. let f = seen_from i view (entry.marks r) mark e in subst (λ v. IsGone views v r) f.same_view (p.gone r f.before f.was);
        others = λ r t mark e s.
            let f = seen_from i view (entry.marks r) mark e in
            elim (f.from t s) [
              | inl old ↦ elim (p.others r t f.before f.was old) [
                | inl stands ↦ inl (subst (λ v. Stands variables key r v t (at entry.history r)) f.same_view stands)
                | inr self ↦ inr (self.0, let a = f.same_view in let b = self.1 in omega arith)
              ]
              | inr self ↦ inr (self.0, let a = self.1 in omega arith)
            ];
      }

  -- two entries are merged
  merged_marks : (key : Text) (mine theirs : Entry Op) → StepMarks views variables i top key mine → MarksKnown views variables key theirs → StepMarks views variables i top key (merged mine theirs)
  merged_marks key mine theirs p m =
      record {
        gone = λ r mark e. let f = merged_from (mine.marks r) (theirs.marks r) mark (kept_mark (union mine.history theirs.history) (λ x. merged_mark (mine.marks x) (theirs.marks x)) r mark e) in gone_of r mark f.one;
        others = λ r t mark e s. let f = merged_from (mine.marks r) (theirs.marks r) mark (kept_mark (union mine.history theirs.history) (λ x. merged_mark (mine.marks x) (theirs.marks x)) r mark e) in seen_of r t mark (f.from t s);
      }
    where
      gone_of : (r : ℕ) (mark : Mark) → IsOneOf (mine.marks r) (theirs.marks r) mark.view (λ x. x ≡ x) → IsGone views mark.view r
      gone_of r mark (First a is same any) = subst (λ v. IsGone views v r) same (p.gone r a is)
      gone_of r mark (Second b is same any) = subst (λ v. IsGone views v r) same (m.gone r b is)

      seen_of : (r t : ℕ) (mark : Mark) → IsOneOf (mine.marks r) (theirs.marks r) mark.view (λ x. x.seen t ≡ true) → Stands variables key r mark.view t (at (union mine.history theirs.history) r) ⊎ ((t ≡ i) × (mark.view ≤ top))
      seen_of r t mark (First a is same s) = elim (p.others r t a is s) [
        | inl stands ↦ inl (subst (λ v. Stands variables key r v t (at (union mine.history theirs.history) r)) same (stands_more variables key r a.view t (at mine.history r) _ (omega (arith, at-union mine.history theirs.history r)) stands))
        | inr self ↦ inr (self.0, let b = self.1 in omega arith)
      ]
      seen_of r t mark (Second b is same s) = inl (subst (λ v. Stands variables key r v t (at (union mine.history theirs.history) r)) same (stands_more variables key r b.view t (at theirs.history r) _ (omega (arith, at-union mine.history theirs.history r)) (m.seen r t b is s)))

  -- a mark is made, or goes
  with_mark : (key : Text) (entry : Entry Op) (r : ℕ) (view : ℕ) → view ≤ top → IsGone views view r → StepMarks views variables i top key entry → StepMarks views variables i top key (record entry { marks = with_at entry.marks r (Some (record { view = view; owner = i; seen = alone i })) })
  with_mark key entry r view late gone p =
      record {
        gone = λ q mark e. elim (eqb_tells q r) [
          | inl is ↦ let same = here q mark is.1 e in subst (λ (x : Mark). IsGone views x.view q) same (subst (λ x. IsGone views view x) (sym is.1) gone)
          | inr isnt ↦ p.gone q mark (sym (with_at_other entry.marks r _ q isnt.1) ∙ e)
        ];
        others = λ q t mark e s. elim (eqb_tells q r) [
          | inl is ↦ let same = here q mark is.1 e in inr (in_alone t (ap (λ (x : Mark). x.seen t) same ∙ s), (let a : view ≡ mark.view = ap (λ (x : Mark). x.view) same in omega arith))
          | inr isnt ↦ p.others q t mark (sym (with_at_other entry.marks r _ q isnt.1) ∙ e) s
        ];
      }
    where
      here : (q : ℕ) (mark : Mark) → q ≡ r → with_at entry.marks r (Some (record { view = view; owner = i; seen = alone i })) q ≡ Some mark → record { view = view; owner = i; seen = alone i } ≡ mark
      here q mark is e = let f : Some (record { view = view; owner = i; seen = alone i }) ≡ Some mark = sym (with_at_same entry.marks r _) ∙ ap (with_at entry.marks r _) (sym is) ∙ e in cc f

      in_alone : (t : ℕ) → (t == i) ≡ true → t ≡ i
      in_alone t e = elim (eqb_tells t i) [ inl is ↦ is.1 | inr isnt ↦ absurd (let f = sym e ∙ isnt.0 in cc f) ]

  without_mark : (key : Text) (entry : Entry Op) (r : ℕ) → StepMarks views variables i top key entry → StepMarks views variables i top key (record entry { marks = with_at entry.marks r None })
  without_mark key entry r p =
      record {
        gone = λ q mark e. p.gone q mark (was q mark e);
        others = λ q t mark e s. p.others q t mark (was q mark e) s;
      }
    where
      was : (q : ℕ) (mark : Mark) → with_at entry.marks r None q ≡ Some mark → entry.marks q ≡ Some mark
      was q mark e = elim (eqb_tells q r) [
        | inl is ↦ absurd (let f : ◌≡◌ {A = Option Mark} None (Some mark) = sym (with_at_same entry.marks r None) ∙ ap (with_at entry.marks r None) (sym is.1) ∙ e in cc f)
        | inr isnt ↦ sym (with_at_other entry.marks r None q isnt.1) ∙ e
      ]

  -- each change of an entry keeps it so, while the member's view is one of the list
  marks_kept : (view : View) → view.number ≤ top → slice_get views view.number ≡ Some view → AreKept (StepMarks views variables i top) (MarksKnown views variables) (λ key group. group ≡ group) AnyTick i view
  marks_kept view late listed =
      record {
        added = λ key entry op p. more_records key entry _ refl (λ r. part-le entry.history _ (part_with_record entry.history i _) r) p;
        took = λ key mine theirs p m. seen_marks key (merged mine theirs) view.number late (merged_marks key mine theirs p m);
        grouped = λ key entry group judgement p g. more_records key entry _ refl (λ r. part-le entry.history _ (part_with_group entry group) r) p;
        marks = λ key entry shares r ticks due p. with_mark key entry r view.number late (record { view = view; listed = listed; given = due.given; removed = due.removed }) p;
        prunes = λ key entry shares r ticks due seen p.
            let bare : Entry Op = record entry { marks = with_at entry.marks r None } in
            more_records key bare _ refl (λ q. part-le entry.history _ (part_with_record entry.history i _) q) (without_mark key entry r p);
      }

-- A STEP

module _ {Kind Op Shown : Type 0} (D : Replication Kind Op Shown) where
  abbrev AnyGroup : Text → Group Op → Type 0
  AnyGroup key group = group ≡ group

  -- an installation reaches its view
  installs_number : (node : Node Kind Op Shown) (view : View) (fate : Fate) → node.view.number < view.number → view.number ≤ (step D node (Install view) fate).node.view.number
  installs_number node view fate later =
      if_tells (λ (s : Stepped Kind Op Shown). view.number ≤ s.node.view.number) (nat_le view.number node.view.number) _ _
      (λ old. absurd (not_later old)) (λ new. omega arith)
    where
      not_later : nat_le view.number node.view.number ≡ true → ⊥
      not_later e = let a = leb-true view.number node.view.number e in omega arith

  number_rises : (node : Node Kind Op Shown) (input : Input Op) (after : Node Kind Op Shown) → HasView node input after → node.view.number ≤ after.view.number
  number_rises node input after (SameView e) = let a : after.view.number ≡ node.view.number = ap (λ (v : View). v.number) e in omega arith
  number_rises node input after (NewView view is later e) = let a : after.view.number ≡ view.number = ap (λ (v : View). v.number) e in omega arith

  pub view_rises : (node : Node Kind Op Shown) (input : Input Op) (fate : Fate) → node.view.number ≤ (step D node input fate).node.view.number
  view_rises node input fate = number_rises node input (step D node input fate).node (moves D node input fate).view

  module _ (views : List View) (variables : HistoryVariables Op) (node : Node Kind Op Shown) (fate : Fate) where
    all_groups : (gs : List (Keyed (Group Op))) → AllByRecursion (λ (g : Keyed (Group Op)). g.item ≡ g.item) gs
    all_groups [] = tt
    all_groups (g ∷ gs) = (refl, all_groups gs)

    -- what an input brings: entries of messages whose marks are known
    abbrev pub BringsMarks : Input Op → Type 0
    BringsMarks (Take from message) = AllByRecursion (λ (e : Keyed (Entry Op)). MarksKnown views variables e.key e.item) (entries_in message)
    BringsMarks _ = Unit {0}

    brings : (input : Input Op) → BringsMarks input → BringsInput D (StepMarks views variables node.identity (step D node input fate).node.view.number) (MarksKnown views variables) AnyGroup AnyTick node input
    brings (Update key op level) known = tt
    brings (Get key level) known = tt
    brings (Take from message) known = λ member. record { entries = known; groups = all_groups (groups_in message) }
    brings (Install view) known = λ later key entry p. seen_marks views variables node.identity _ key entry view.number (installs_number node view fate later) p
    brings Flush known = tt
    brings (GossipTo i) known = tt
    brings PruneTick known = λ key r. tt
    brings (Timeout op) known = tt

    pub step_marks : (input : Input Op) → slice_get views node.view.number ≡ Some node.view → BringsMarks input → ((key : Text) → MarksKnown views variables key (node.entries key))
        → (key : Text) → StepMarks views variables node.identity (step D node input fate).node.view.number key ((step D node input fate).node.entries key)
    step_marks input listed known before key =
        keeps_any D (StepMarks views variables node.identity (step D node input fate).node.view.number) (MarksKnown views variables) AnyGroup AnyTick node
        (marks_kept views variables node.identity (step D node input fate).node.view.number node.view (view_rises node input fate) listed) input fate (brings input known)
        (λ k. from_known views variables node.identity _ k (node.entries k) (before k)) key
