-- Which identities have a performed mark after a change of the marks.
use Rattle.std.proofs.Common.{rules, arith, min, if◌then◌else◌, ◌≡◌, ◌≢◌, ℕ, Bool, true, false, ◌||◌, Option, Some, None, cond, nat_lt, refl, ap, sym, ◌∙◌, ⊎_elim}
use Rattle.std.specs.FinMap as map
use Rattle.std.proofs.lemmas.Bool.{cases_eq}
use mathlib.Core.Bool.{or-true, or-false}
use Rattle.model_history.specs.Vector.{with_member, united}
use Rattle.model_history.proofs.CutLaws.{with_member_is, with_member_other}
use Rattle.data_markers.specs.declared.marker.Marker.{Marker}
use Rattle.data_markers.specs.declared.marker.Marker.TheVariants.{Initialized, Performed}
use Rattle.data_markers.specs.Merging.{merged, least_performed}
use Rattle.data_markers.specs.Marks.{Marks, mark_of, is_performed, performed_in, merged_option, MergesTo}
use Rattle.data_markers.proofs.Laws.{mark_of-insert_same, mark_of-insert_other}
use Rattle.std.specs.FinMap.{get-empty}
use Rattle.std.specs.Ordering.{nat_cmp}

pub performed_empty : (i : ℕ) → performed_in map.empty i ≡ false
performed_empty i = ap is_performed (get-empty nat_cmp i)

pub performed_insert : (marks : Marks) (id owner seq upto i : ℕ) → performed_in (map.insert marks id (Performed owner seq upto)) i ≡ with_member (performed_in marks) id i
performed_insert marks id owner seq upto i = ⊎_elim
    (λ (e : i ≡ id). ap is_performed (mark_of-insert_same marks id i (Performed owner seq upto) e) ∙ sym (with_member_is (performed_in marks) id i e))
    (λ (ne : i ≢ id). ap is_performed (mark_of-insert_other marks id i (Performed owner seq upto) ne) ∙ sym (with_member_other (performed_in marks) id i ne)) (cases_eq i id)

choice : (b c : Bool) (x y z : Marker) → is_performed (Some x) ≡ false → is_performed (Some y) ≡ false → is_performed (Some z) ≡ false → is_performed (Some (cond b x (cond c y z))) ≡ false
choice true c x y z p q r = p
choice false true x y z p q r = q
choice false false x y z p q r = r

performed_choice : (b : Bool) (x y : Marker) → is_performed (Some x) ≡ true → is_performed (Some y) ≡ true → is_performed (Some (if b then x else y)) ≡ true
performed_choice true x y p q = p
performed_choice false x y p q = q

performed_least : (owner seq upto owner' seq' upto' : ℕ) → is_performed (Some (least_performed owner seq upto owner' seq' upto')) ≡ true
performed_least owner seq upto owner' seq' upto' =
    performed_choice (nat_lt owner owner') _ _ refl (performed_choice (nat_lt owner' owner) _ _ refl (performed_choice (nat_lt seq seq') _ _ refl (performed_choice (nat_lt seq' seq) _ _ refl refl)))

performed_merged : (a b : Marker) → is_performed (Some (merged a b)) ≡ (is_performed (Some a) || is_performed (Some b))
performed_merged (Initialized view owner seen) (Initialized view' owner' seen') = choice (nat_lt view view') (nat_lt view' view) _ _ _ refl refl refl
performed_merged (Initialized view owner seen) (Performed owner' seq' upto') = refl
performed_merged (Performed owner seq upto) (Initialized view' owner' seen') = refl
performed_merged (Performed owner seq upto) (Performed owner' seq' upto') = performed_least owner seq upto owner' seq' upto'

performed_option : (a b : Option Marker) → is_performed (merged_option a b) ≡ (is_performed a || is_performed b)
performed_option None b = refl
performed_option (Some a) None = sym (or-false (is_performed (Some a)))
performed_option (Some a) (Some b) = performed_merged a b

pub performed_merge : (marks other both : Marks) → MergesTo marks other both → (i : ℕ) → performed_in both i ≡ united (performed_in marks) (performed_in other) i
performed_merge marks other both m i = ap is_performed (m i) ∙ performed_option (mark_of marks i) (mark_of other i)

pub merged_performed : (owner seq upto : ℕ) (b : Option Marker) → is_performed b ≡ false → merged_option (Some (Performed owner seq upto)) b ≡ Some (Performed owner seq upto)
merged_performed owner seq upto None e = refl
merged_performed owner seq upto (Some (Initialized view by seen)) e = refl
merged_performed owner seq upto (Some (Performed o a u)) e = absurd (cc e)

pub merged_into_performed : (a : Option Marker) (owner seq upto : ℕ) → is_performed a ≡ false → merged_option a (Some (Performed owner seq upto)) ≡ Some (Performed owner seq upto)
merged_into_performed None owner seq upto none = refl
merged_into_performed (Some (Initialized view by seen)) owner seq upto none = refl
merged_into_performed (Some (Performed o a u)) owner seq upto none = absurd (cc none)

not_less : (n : ℕ) → nat_lt n n ≡ false
not_less n = grind rules

least_same : (n : ℕ) → min n n ≡ n
least_same n = omega arith

chosen : (b c : Bool) (x y z : Marker) → b ≡ false → c ≡ false → (if b then x else (if b then y else (if c then x else (if c then y else z)))) ≡ z
chosen true c x y z e f = absurd (let t : true ≡ false = e in cc)
chosen false true x y z e f = absurd (let t : true ≡ false = f in cc)
chosen false false x y z e f = refl

-- a performed mark merged with itself
pub merged_same : (owner seq upto : ℕ) → merged_option (Some (Performed owner seq upto)) (Some (Performed owner seq upto)) ≡ Some (Performed owner seq upto)
merged_same owner seq upto = ap Some (chosen (nat_lt owner owner) (nat_lt seq seq) _ _ _ (not_less owner) (not_less seq) ∙ ap (Performed owner seq) (least_same upto))

-- what the one test holds of, both hold of
pub either_again : (b c d : Bool) → d ≡ (b || c) → (b || d) ≡ d
either_again true c d e = sym e
either_again false c d e = refl

pub either_again' : (b c d : Bool) → d ≡ (b || c) → (c || d) ≡ d
either_again' b true d e = sym (e ∙ or-true b)
either_again' b false d e = refl

pub cond_again : (b c d : Bool) (n : ℕ) → d ≡ (b || c) → cond d 0 (cond b 0 n) ≡ cond d 0 n
cond_again b c true n e = refl
cond_again true c false n e = absurd (let x : false ≡ true = e in cc)
cond_again false c false n e = refl

pub cond_again' : (b c d : Bool) (n : ℕ) → d ≡ (b || c) → cond d 0 (cond c 0 n) ≡ cond d 0 n
cond_again' b c true n e = refl
cond_again' b true false n e = absurd (let x : false ≡ true = e ∙ or-true b in cc)
cond_again' b false false n e = refl

-- where both tests agree, either is each
pub either_alike : (b c d : Bool) → d ≡ (b || c) → b ≡ c → b ≡ d
either_alike true c d e same = sym e
either_alike false c d e same = same ∙ sym e
