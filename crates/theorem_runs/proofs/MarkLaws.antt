-- Where a mark comes from, and who stands in it, after marks were merged and seen.
use Rattle.std.proofs.Common.{◌≡◌, ℕ, ◌≤◌, refl, sym, ap, ◌∙◌, arith, Bool, true, false, Option, Some, None, ◌⊎◌, inl, inr}
use Rattle.std.specs.Prelude.{if◌then◌else◌, min, nat_lt, nat_le, ◌==◌}
use Rattle.std.proofs.lemmas.Bool.Decides.{eqb_tells}
use Rattle.std.proofs.lemmas.Bool.{or_cases, leb-true}
use Rattle.model_history.specs.History.{History, is_pruned}
use Rattle.model_history.specs.Vector.{with_member, united}
use Rattle.model_members.specs.Entry.{Mark, Marks, newer_mark, merged_mark, seen_mark, unpruned_marks}
use Rattle.theorem_runs.proofs.Keeping.{neither_less}

-- a mark that was seen: the view stays, and only the one who saw it is new in it
pub record SeenFrom (i view : ℕ) (o : Option Mark) (mark : Mark) : Type 0 where
  pub before : Mark
  pub was : o ≡ Some before
  pub same_view : before.view ≡ mark.view
  pub from : (t : ℕ) → mark.seen t ≡ true → (before.seen t ≡ true) ⊎ ((t ≡ i) × (mark.view ≤ view))

in_with_member : (set : ℕ → Bool) (i t : ℕ) → with_member set i t ≡ true → (set t ≡ true) ⊎ (t ≡ i)
in_with_member set i t e = elim (or_cases (t == i) (set t) e) [
  | inl new ↦ elim (eqb_tells t i) [ inl is ↦ inr is.1 | inr isnt ↦ absurd (let f = sym new ∙ isnt.0 in cc f) ]
  | inr old ↦ inl old
]

seen_by_test : (i view : ℕ) (m mark : Mark) (b : Bool) → nat_le m.view view ≡ b → (if b then Some (record m { seen = with_member m.seen i }) else Some m) ≡ Some mark → SeenFrom i view (Some m) mark
seen_by_test i view m mark true is e =
    let same : record m { seen = with_member m.seen i } ≡ mark = cc e in
    let v : m.view ≡ mark.view = ap (λ (x : Mark). x.view) same in
    record {
      before = m;
      was = refl;
      same_view = v;
      from = λ t h. elim (in_with_member m.seen i t (ap (λ (x : Mark). x.seen t) same ∙ h)) [
        | inl old ↦ inl old
        | inr new ↦ inr (new, let a = leb-true m.view view is in omega arith)
      ];
    }
seen_by_test i view m mark false is e =
    let same : m ≡ mark = cc e in
    record { before = m; was = refl; same_view = ap (λ (x : Mark). x.view) same; from = λ t h. inl (ap (λ (x : Mark). x.seen t) same ∙ h) }

pub seen_from : (i view : ℕ) (o : Option Mark) (mark : Mark) → seen_mark i view o ≡ Some mark → SeenFrom i view o mark
seen_from i view None mark e = absurd (cc e)
seen_from i view (Some m) mark e = seen_by_test i view m mark (nat_le m.view view) refl e

-- one of two marks, with the merged one's view
pub data IsOneOf (a b : Option Mark) (view : ℕ) (P : Mark → Type 0) : Type 0 where
  First : (m : Mark) → a ≡ Some m → m.view ≡ view → P m → IsOneOf a b view P
  Second : (m : Mark) → b ≡ Some m → m.view ≡ view → P m → IsOneOf a b view P

pub record MergedFrom (a b : Option Mark) (mark : Mark) : Type 0 where
  pub one : IsOneOf a b mark.view (λ m. m ≡ m)
  pub from : (t : ℕ) → mark.seen t ≡ true → IsOneOf a b mark.view (λ m. m.seen t ≡ true)

newer_by_test : (a b mark : Mark) (later earlier : Bool) → nat_lt a.view b.view ≡ later → nat_lt b.view a.view ≡ earlier
    → (if later then b else (if earlier then a else record { view = a.view; owner = min a.owner b.owner; seen = united a.seen b.seen })) ≡ mark → MergedFrom (Some a) (Some b) mark
newer_by_test a b mark true earlier l f e =
    record { one = Second b refl (ap (λ (x : Mark). x.view) e) refl; from = λ t h. Second b refl (ap (λ (x : Mark). x.view) e) (ap (λ (x : Mark). x.seen t) e ∙ h) }
newer_by_test a b mark false true l f e =
    record { one = First a refl (ap (λ (x : Mark). x.view) e) refl; from = λ t h. First a refl (ap (λ (x : Mark). x.view) e) (ap (λ (x : Mark). x.seen t) e ∙ h) }
newer_by_test a b mark false false l f e =
    let v : a.view ≡ mark.view = ap (λ (x : Mark). x.view) e in
    record {
      one = First a refl v refl;
      from = λ t h. elim (or_cases (a.seen t) (b.seen t) (ap (λ (x : Mark). x.seen t) e ∙ h)) [
        | inl mine ↦ First a refl v mine
        | inr theirs ↦ Second b refl (sym (neither_less a.view b.view l f) ∙ v) theirs
      ];
    }

pub merged_from : (a b : Option Mark) (mark : Mark) → merged_mark a b ≡ Some mark → MergedFrom a b mark
merged_from None b mark e = record { one = Second mark e refl refl; from = λ t h. Second mark e refl h }
merged_from (Some a) None mark e = let same : a ≡ mark = cc e in record { one = First a refl (ap (λ (x : Mark). x.view) same) refl; from = λ t h. First a refl (ap (λ (x : Mark). x.view) same) (ap (λ (x : Mark). x.seen t) same ∙ h) }
merged_from (Some a) (Some b) mark e =
    let same : newer_mark a b ≡ mark = cc e in
    newer_by_test a b mark (nat_lt a.view b.view) (nat_lt b.view a.view) refl refl same

-- a mark beside no prune was there
pub kept_mark : {Op : Type 0} (H : History Op) (marks : Marks) (r : ℕ) (mark : Mark) → unpruned_marks H marks r ≡ Some mark → marks r ≡ Some mark
kept_mark H marks r mark e = go (is_pruned H r) e
  where
    go : (b : Bool) → (if b then None else marks r) ≡ Some mark → marks r ≡ Some mark
    go true f = absurd (cc f)
    go false f = f
