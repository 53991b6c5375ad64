-- Marks stay well formed.
use Rattle.model_history.specs.Table.{identity_limit}
use Rattle.std.proofs.Common.{◌≡◌, ℕ, ◌<◌, Bool, true, false, cond, min, nat_lt, bit_or, List, Option, Some, None, IfSome, if◌then◌else◌, rules, arith, refl, ap, sym, ◌∙◌, subst, ⊎_elim}
use Rattle.std.specs.Ordering.{nat_cmp}
use Rattle.std.specs.Map.{lookup}
use Rattle.std.specs.BTreeMap.{is_at}
use Rattle.std.proofs.lemmas.Nat.{le_or_l}
use Rattle.std.proofs.lemmas.Bool.{cases_Bool}
use Rattle.data_markers.specs.declared.marker.Marker.{Marker}
use Rattle.data_markers.specs.declared.marker.Marker.TheVariants.{Initialized, Performed}
use Rattle.data_markers.specs.Merging.{merged}
use Rattle.data_markers.specs.Kept.{IsSeq, IsMark, AreMarks}

pub if_marks : (o : Option Marker) → ((mark : Marker) → o ≡ Some mark → IsMark mark) → IfSome o IsMark
if_marks None marks = tt
if_marks (Some mark) marks = marks mark refl

choice : (b : Bool) (x y : Marker) → IsMark x → IsMark y → IsMark (if b then x else y)
choice true x y p q = p
choice false x y p q = q

least : (m n : ℕ) → IsSeq m → IsSeq n → IsSeq (min m n)
least m n p q = record { some = (let x = p.some in let y = q.some in omega arith); small = (let x = p.small in omega arith) }

united_seen : (a b : ℕ) → (a ≡ 0 → ⊥) → bit_or a b ≡ 0 → ⊥
united_seen a b some e = some (let l = le_or_l a b in omega arith)

pub merged_mark : (a b : Marker) → IsMark a → IsMark b → IsMark (merged a b)
merged_mark (Initialized view owner seen) (Initialized view' owner' seen') p q =
    choice (nat_lt view view') _ _ q (choice (nat_lt view' view) _ _ p (united_seen seen seen' p))
merged_mark (Initialized view owner seen) (Performed owner' at' upto') p q = q
merged_mark (Performed owner at upto) (Initialized view' owner' seen') p q = p
merged_mark (Performed owner at upto) (Performed owner' at' upto') p q =
    choice (nat_lt owner owner') _ _ p (choice (nat_lt owner' owner) _ _ q (choice (nat_lt at at') _ _ p (choice (nat_lt at' at) _ _ q (p.0, least upto upto' p.1 q.1))))

some_same : (a b : Marker) → Some a ≡ Some b → a ≡ b
some_same a b e = cc

-- entries that differ at one key are kept well
pub marks_changed : (es fs : List (ℕ × Marker)) (id : ℕ) (x : Marker) → id < identity_limit → IsMark x → AreMarks es
    → ((q : ℕ) → lookup (is_at (nat_cmp q)) fs ≡ cond (is_at (nat_cmp id) q) (Some x) (lookup (is_at (nat_cmp q)) es)) → AreMarks fs
marks_changed es fs id x few mark kept updates = record {
  few = λ q l. let t : is_at (nat_cmp id) q ≡ false = grind rules in updates q ∙ ap (λ b. cond b (Some x) (lookup (is_at (nat_cmp q)) es)) t ∙ kept.few q l;
  marks = λ q m e. ⊎_elim
      (λ (t : is_at (nat_cmp id) q ≡ true). subst IsMark (some_same x m (sym (updates q ∙ ap (λ b. cond b (Some x) (lookup (is_at (nat_cmp q)) es)) t) ∙ e)) mark)
      (λ (t : is_at (nat_cmp id) q ≡ false). kept.marks q m (sym (updates q ∙ ap (λ b. cond b (Some x) (lookup (is_at (nat_cmp q)) es)) t) ∙ e)) (cases_Bool (is_at (nat_cmp id) q));
}
