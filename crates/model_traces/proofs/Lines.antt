-- Lines one after another, and what each kind of line needs to be lawful.
use Rattle.std.proofs.Common.{◌≡◌, ◌≢◌, ℕ, ◌<◌, List, [], ◌∷◌, ◌++◌, refl, sym, ap, ◌∙◌, Bool, true, false, Option, Some, None, inl, inr}
use Rattle.std.specs.Prelude.{◌&&◌, not, ◌==◌, nat_lt, find, if◌then◌else◌}
use Rattle.std.specs.Str.{bytes_eq}
use Rattle.std.proofs.lemmas.Bool.{lt-ltb}
use Rattle.std.proofs.lemmas.Bool.Decides.{eqb_tells}
use Rattle.std.proofs.lemmas.Slice.Eq.{bytes_eq-Decides}
use Rattle.model_history.specs.Table.{with_at}
use Rattle.model_history.specs.Texts.{Text}
use Rattle.model_history.specs.Log.{IsTakenFrom}
use Rattle.model_history.specs.History.{History, at, versions, cut, is_pruned, IsPartOf, IsExactlyPruned}
use Rattle.model_history.specs.History.Action.{Operation, Prune}
use Rattle.model_history.proofs.HistoryLaws.{with_at_same, with_at_other}
use Rattle.model_history.proofs.PartLaws.{part-le}
use Rattle.model_history.proofs.Bridge.{cut_of_part}
use Rattle.model_members.specs.DataType.{DataType, meaning}
use Rattle.model_members.specs.Node.{KeyDecl, with_text_at}
use Rattle.model_members.proofs.Steps.{bytes_eq-same, with_text_at-same}
use Rattle.model_traces.specs.Traces.{Act, TraceLine, TraceState, recorded, made_after, held_after, after_line, after_lines, is_none, may_record, may_hold, is_exactly_pruned, is_closed, covers, may_show, meaning_text, broken_by, broken_rule, AreLawful}
use Rattle.model_traces.specs.Traces.Act.{Records, Holds, Shows}
use Rattle.model_traces.proofs.Tests.{both_true, covers_holds, closed_holds, exactly_pruned_holds}

-- ONE LINE AFTER ANOTHER

module _ {Kind Op Shown : Type 0} (D : DataType Kind Op Shown) (value_text : Shown → Text) (keys : List (KeyDecl Kind)) where
  pub lawful_both : (state : TraceState Op) (xs ys : List (TraceLine Op)) → AreLawful D value_text keys state xs → AreLawful D value_text keys (after_lines state xs) ys → AreLawful D value_text keys state (xs ++ ys)
  lawful_both state [] ys first rest = rest
  lawful_both state (x ∷ xs) ys first rest = (first.0, lawful_both (after_line state x) xs ys first.1 rest)

pub after_both : {Op : Type 0} (state : TraceState Op) (xs ys : List (TraceLine Op)) → after_lines state (xs ++ ys) ≡ after_lines (after_lines state xs) ys
after_both state [] ys = refl
after_both state (x ∷ xs) ys = after_both (after_line state x) xs ys

-- what stands at a place already, put there
pub with_at_own : {X : Type 0} (f : ℕ → X) (i : ℕ) (x : X) → x ≡ f i → with_at f i x ≡ f
with_at_own f i x e = λ k j. rows j k
  where
    rows : (j : ℕ) → with_at f i x j ≡ f j
    rows j = elim (eqb_tells j i) [
      | inl is ↦ ap (with_at f i x) is.1 ∙ with_at_same f i x ∙ e ∙ ap f (sym is.1)
      | inr isnt ↦ with_at_other f i x j isnt.1
    ]

-- WHAT A LINE LEAVES

pub other_text : {X : Type 0} (f : Text → X) (key : Text) (x : X) (other : Text) → other ≢ key → with_text_at f key x other ≡ f other
other_text f key x other isnt = go (bytes_eq other key) refl
  where
    go : (b : Bool) → bytes_eq other key ≡ b → (if b then x else f other) ≡ f other
    go true e = absurd (isnt ((bytes_eq-Decides other key).0 e))
    go false e = refl

module _ {Op : Type 0} (state : TraceState Op) (line : TraceLine Op) where
  abbrev all : History Op
  all = state.made line.key

  abbrev own : History Op
  own = state.held line.member line.key

  pub made_here : (after_line state line).made line.key ≡ made_after all line.member own line.act
  made_here = with_text_at-same state.made line.key (made_after all line.member own line.act)

  pub made_there : (key : Text) → key ≢ line.key → (after_line state line).made key ≡ state.made key
  made_there key other = other_text state.made line.key (made_after all line.member own line.act) key other

  abbrev row : Text → History Op
  row = with_text_at (state.held line.member) line.key (held_after all line.member own line.act)

  pub held_here : (after_line state line).held line.member line.key ≡ held_after all line.member own line.act
  held_here = ap (λ (f : Text → History Op). f line.key) (with_at_same state.held line.member row) ∙ with_text_at-same (state.held line.member) line.key (held_after all line.member own line.act)

  pub held_of_another : (i : ℕ) (key : Text) → i ≢ line.member → (after_line state line).held i key ≡ state.held i key
  held_of_another i key other = ap (λ (f : Text → History Op). f key) (with_at_other state.held line.member row i other)

  pub held_there : (i : ℕ) (key : Text) → key ≢ line.key → (after_line state line).held i key ≡ state.held i key
  held_there i key other = elim (eqb_tells i line.member) [
    | inl is ↦
        ap (λ j. (after_line state line).held j key) is.1 ∙ ap (λ (f : Text → History Op). f key) (with_at_same state.held line.member row)
        ∙ other_text (state.held line.member) line.key (held_after all line.member own line.act) key other ∙ ap (λ j. state.held j key) (sym is.1)
    | inr isnt ↦ held_of_another i key isnt.1
  ]

-- LAWFUL LINES

module _ {Kind Op Shown : Type 0} (D : DataType Kind Op Shown) (value_text : Shown → Text) where
  abbrev pub by_tests : Bool → Bool → Bool → Bool → Option ℕ
  by_tests a b c d = if not a then Some 1 else (if not b then Some 2 else (if not c then Some 3 else (if not d then Some 4 else None)))

  -- a line that passes all four tests
  pub breaks_none : (kind : Kind) (made : History Op) (i : ℕ) (H : History Op) (act : Act Op) → may_record D value_text kind i H act ≡ true → may_hold D value_text made H act ≡ true
      → is_exactly_pruned (held_after made i H act) ≡ true → may_show D value_text kind (held_after made i H act) act ≡ true → broken_by D value_text kind made i H act ≡ None
  breaks_none kind made i H act one two three four =
      go (may_record D value_text kind i H act) (may_hold D value_text made H act) (is_exactly_pruned (held_after made i H act)) (may_show D value_text kind (held_after made i H act) act) one two three four
    where
      go : (a b c d : Bool) → a ≡ true → b ≡ true → c ≡ true → d ≡ true → by_tests a b c d ≡ None
      go true true true true e f g h = refl
      go false b c d e f g h = absurd (cc e)
      go true false c d e f g h = absurd (cc f)
      go true true false d e f g h = absurd (cc g)
      go true true true false e f g h = absurd (cc h)

  -- of a declared key
  pub of_declared : (keys : List (KeyDecl Kind)) (state : TraceState Op) (line : TraceLine Op) (decl : KeyDecl Kind) → find (λ (d : KeyDecl Kind). bytes_eq d.name line.key) keys ≡ Some decl
      → broken_by D value_text decl.kind (state.made line.key) line.member (state.held line.member line.key) line.act ≡ None → broken_rule D value_text keys state line ≡ None
  of_declared keys state line decl is none =
      ap (λ (o : Option (KeyDecl Kind)). elim o [ None ↦ Some 1 | Some decl ↦ broken_by D value_text decl.kind (state.made line.key) line.member (state.held line.member line.key) line.act ]) is ∙ none

  pub operation_lawful : (kind : Kind) (made : History Op) (i : ℕ) (H : History Op) (op : Op) → D.fits kind op ≡ true → D.deleted H ≡ false → IsExactlyPruned (recorded H i H (Operation op)) → broken_by D value_text kind made i H (Records (Operation op)) ≡ None
  operation_lawful kind made i H op fits undeleted exact = breaks_none kind made i H (Records (Operation op)) (both_true (D.fits kind op) (not (D.deleted H)) fits (ap not undeleted)) refl (exactly_pruned_holds (recorded H i H (Operation op)) exact) refl

  pub prune_lawful : (kind : Kind) (made : History Op) (i : ℕ) (H : History Op) (r : ℕ) → (r == i) ≡ false → 0 < at H r → is_pruned H r ≡ false → IsExactlyPruned (recorded H i H (Prune r)) → broken_by D value_text kind made i H (Records (Prune r)) ≡ None
  prune_lawful kind made i H r other some fresh exact =
      breaks_none kind made i H (Records (Prune r))
      (both_true (not (r == i) && nat_lt 0 (at H r)) (not (is_pruned H r)) (both_true (not (r == i)) (nat_lt 0 (at H r)) (ap not other) (lt-ltb 0 (at H r) some)) (ap not fresh))
      refl (exactly_pruned_holds (recorded H i H (Prune r)) exact) refl

  -- what a member holds of the records made
  pub hold_lawful : (kind : Kind) (made : History Op) (i : ℕ) (H J : History Op) → IsTakenFrom made J → IsPartOf H J → IsExactlyPruned J → broken_by D value_text kind made i H (Holds (versions J)) ≡ None
  hold_lawful kind made i H J taken part exact =
      let same = cut_of_part made J taken.part in
      breaks_none kind made i H (Holds (versions J)) refl
      (both_true (covers (versions J) (versions H) && covers (versions made) (versions J)) (is_closed (cut made (versions J)))
      (both_true (covers (versions J) (versions H)) (covers (versions made) (versions J))
      (covers_holds (versions J) (versions H) (λ j small. part-le H J part j)) (covers_holds (versions made) (versions J) (λ j small. part-le J made taken.part j)))
      (ap is_closed same ∙ closed_holds J taken.closed))
      (ap is_exactly_pruned same ∙ exactly_pruned_holds J exact) refl

  pub show_lawful : (kind : Kind) (made : History Op) (i : ℕ) (H : History Op) (text : Text) → is_none H ≡ false → meaning_text value_text (meaning D kind H) ≡ text → IsExactlyPruned H → broken_by D value_text kind made i H (Shows text) ≡ None
  show_lawful kind made i H text some same exact =
      breaks_none kind made i H (Shows text) refl refl (exactly_pruned_holds H exact)
      (both_true (not (is_none H)) (bytes_eq (meaning_text value_text (meaning D kind H)) text) (ap not some) (ap (λ t. bytes_eq t text) same ∙ bytes_eq-same text))
