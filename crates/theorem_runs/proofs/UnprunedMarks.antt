-- In every run no entry has both a mark and a prune of one identity.
use Rattle.std.proofs.Common.{◌≡◌, ◌≢◌, ℕ, zero, suc, ◌<◌, List, [], ◌∷◌, ◌++◌, length, take, drop, refl, sym, ap, subst, ◌∙◌, Bool, true, false, Option, Some, None, inl, inr}
use Rattle.std.specs.Prelude.{if◌then◌else◌, slice_get, ◌||◌}
use Rattle.std.specs.List.{list_any}
use Rattle.std.proofs.lemmas.Bool.Decides.{eqb_tells}
use Rattle.model_history.specs.Table.{identity_limit, with_at}
use Rattle.model_history.specs.History.{Record, History, continued, union, is_pruned, HasRecord}
use Rattle.model_history.specs.History.Action.{Prune}
use Rattle.model_members.specs.Entry.{Entry, Mark, Group, seen_mark, merged, merged_mark, with_group, is_prune}
use Rattle.theorem_runs.specs.Pruning.{HasUnprunedMarks}
use Rattle.model_history.proofs.HistoryLaws.{with_at_same, with_at_other, slice_get-take}
use Rattle.model_history.proofs.PruneLaws.{IsIn, in_append, pruned_has, has_pruned, at_identities, unpruned-with_record}
use Rattle.theorem_runs.proofs.EntriesOverRuns.{IsKeptAlways}

-- a mark that was seen was there
was_there : (i view : ℕ) (o : Option Mark) (m : Mark) → seen_mark i view o ≡ Some m → (before : Mark) × (o ≡ Some before)
was_there i view None m e = absurd (cc e)
was_there i view (Some before) m e = (before, refl)

-- a drop of a list
in_drop : {X : Type 0} (n : ℕ) (xs : List X) (x : X) → IsIn (drop n xs) x → IsIn xs x
in_drop zero xs x h = h
in_drop (suc n) [] x h = h
in_drop (suc n) (y ∷ xs) x h = let r = in_drop n xs x h in (suc r.0, r.1)

module _ {Op : Type 0} where
  -- no record of a plain group is a prune
  pub plain : (rs : List (Record Op)) (r : Record Op) (q : ℕ) → list_any (λ (r : Record Op). is_prune r.action) rs ≡ false → IsIn rs r → r.action ≢ Prune q
  plain [] r q e h = absurd (cc h.1)
  plain (s ∷ rs) r q e (zero, is) = λ prune.
      let same : s ≡ r = cc is in
      let a : is_prune s.action ≡ true = ap (λ (x : Record Op). is_prune x.action) same ∙ ap is_prune prune in
      let f = sym e ∙ ap (λ b. b || list_any (λ (r : Record Op). is_prune r.action) rs) a in cc f
  plain (s ∷ rs) r q e (suc k, is) = plain rs r q (rest (is_prune s.action) e) (k, is)
    where
      rest : (b : Bool) → (b || list_any (λ (r : Record Op). is_prune r.action) rs) ≡ false → list_any (λ (r : Record Op). is_prune r.action) rs ≡ false
      rest true e = absurd (cc e)
      rest false e = e

  -- a plain group prunes nothing
  pub unpruned-with_group : (entry : Entry Op) (group : Group Op) (q : ℕ) → list_any (λ (r : Record Op). is_prune r.action) group.group_records ≡ false → is_pruned entry.history q ≡ false → is_pruned (with_group entry group).history q ≡ false
  unpruned-with_group entry group q no_prunes before = go (is_pruned (with_group entry group).history q) refl
    where
      in_row : (k : ℕ) (x : Record Op) → x.action ≡ Prune q → group.origin < identity_limit → IsIn (continued (entry.history group.origin) (take group.after (entry.history group.origin) ++ group.group_records)) x → ⊥
      in_row k x prune small member = elim (in_append (entry.history group.origin) _ x member) [
        | inl old ↦ let f = sym before ∙ has_pruned entry.history q group.origin old.0 x (at_identities group.origin small) old.1 prune in cc f
        | inr new ↦ elim (in_append (take group.after (entry.history group.origin)) group.group_records x (in_drop (length (entry.history group.origin)) _ x new)) [
          | inl old ↦ let h = slice_get-take (entry.history group.origin) group.after old.0 x old.1 in let f = sym before ∙ has_pruned entry.history q group.origin old.0 x (at_identities group.origin small) h.1 prune in cc f
          | inr fresh ↦ plain group.group_records x q no_prunes fresh prune
        ]
      ]

      at_row : (i k : ℕ) (x : Record Op) → i < identity_limit → HasRecord (with_group entry group).history i k x → x.action ≡ Prune q → ⊥
      at_row i k x small has prune = elim (eqb_tells i group.origin) [
        | inl is ↦ in_row k x prune (subst (λ j. j < identity_limit) is.1 small) (k, sym (ap (λ (xs : List (Record Op)). slice_get xs k) (ap (with_group entry group).history is.1 ∙ with_at_same entry.history group.origin _)) ∙ has)
        | inr isnt ↦ let f = sym before ∙ has_pruned entry.history q i k x (at_identities i small) (sym (ap (λ (xs : List (Record Op)). slice_get xs k) (with_at_other entry.history group.origin _ i isnt.1)) ∙ has) prune in cc f
      ]

      go : (b : Bool) → is_pruned (with_group entry group).history q ≡ b → b ≡ false
      go false e = refl
      go true e = absurd (let p = pruned_has (with_group entry group).history q e in at_row p.0 p.1 p.2 p.3 p.4 p.5)

  -- of a merge only marks without a prune are left
  merged_unpruned : (H : History Op) (r : ℕ) (b : Bool) (o : Option Mark) (m : Mark) → is_pruned H r ≡ b → (if b then None else o) ≡ Some m → is_pruned H r ≡ false
  merged_unpruned H r true o m is e = absurd (cc e)
  merged_unpruned H r false o m is e = is

  pub unpruned_always : IsKeptAlways (HasUnprunedMarks {Op = Op})
  unpruned_always =
      record {
        nothing = λ r m e. absurd (cc e);
        seen = λ i view entry p r m e. let was = was_there i view (entry.marks r) m e in p r was.0 was.1;
        changes = λ i view. record {
          added = λ key entry op p r m e. unpruned-with_record entry.history i _ r (p r m e) (λ f. cc f);
          took = λ key mine theirs p q r m e.
              let H = union mine.history theirs.history in
              let was = was_there i view.number ((merged mine theirs).marks r) m e in
              merged_unpruned H r (is_pruned H r) (merged_mark (mine.marks r) (theirs.marks r)) was.0 refl was.1;
          grouped = λ key entry group judgement p plain r m e. unpruned-with_group entry group r plain (p r m e);
          marks = λ key entry shares r ticks due p q m e. elim (eqb_tells q r) [
            | inl is ↦ subst (λ j. is_pruned entry.history j ≡ false) (sym is.1) due.unpruned
            | inr isnt ↦ p q m (sym (with_at_other entry.marks r _ q isnt.1) ∙ e)
          ];
          prunes = λ key entry shares r ticks due seen p q m e. elim (eqb_tells q r) [
            | inl is ↦ absurd (let f : ◌≡◌ {A = Option Mark} None (Some m) = sym (with_at_same entry.marks r None) ∙ ap (with_at entry.marks r None) (sym is.1) ∙ e in cc f)
            | inr isnt ↦ unpruned-with_record entry.history i _ q (p q m (sym (with_at_other entry.marks r None q isnt.1) ∙ e)) (λ f. isnt.1 (cc f))
          ];
        };
      }
