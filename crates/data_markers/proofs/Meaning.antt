-- Merging markers merges the marks that they stand for.
use Rattle.std.proofs.Common.{rules, ◌↔◌, IsTrue, not, ℕ, ◌<◌, inl, inr, ◌≡◌, Bool, true, false, Option, Some, None, min, nat_lt, nat_eq, nat_le, ◌&&◌, refl, ap, sym, ◌∙◌}
use Rattle.std.specs.Prelude.{if◌then◌else◌}
use Rattle.std.proofs.lemmas.Bool.{cases_Bool, cases_eq, eq-eqb}
use Rattle.model_members.proofs.Taking.{same_set-same}
use Rattle.model_history.specs.Table.{identity_limit}
use Rattle.model_history.specs.Vector.{IdentitySet, united, with_member}
use Rattle.model_history.proofs.CutLaws.{with_member_is, with_member_other}
use Rattle.model_members.specs.Entry.{Mark, merged_mark, same_set, is_same_mark, seen_mark}
use Rattle.base_vectors.specs.IdSets.{members_in}
use Rattle.base_vectors.proofs.Sets.{members_in-or, members_in-with}
use Rattle.base_vectors.proofs.Walks.{all_identities, each_identity}
use Rattle.data_markers.specs.declared.marker.Marker.{Marker}
use Rattle.data_markers.specs.declared.marker.Marker.TheVariants.{Initialized, Performed}
use Rattle.data_markers.specs.Marks.{begun, is_performed, merged_option, marker_seen_by, is_unseen_by}

choice : (b : Bool) (x y : Marker) → begun (Some (if b then x else y)) ≡ (if b then begun (Some x) else begun (Some y))
choice true x y = refl
choice false x y = refl

some_choice : (b : Bool) (x y : Mark) → Some (if b then x else y) ≡ (if b then Some x else Some y)
some_choice true x y = refl
some_choice false x y = refl

-- what is merged has begun, where neither was performed
pub begun-merged : (a b : Option Marker) → is_performed a ≡ false → is_performed b ≡ false → begun (merged_option a b) ≡ merged_mark (begun a) (begun b)
begun-merged None None p q = refl
begun-merged None (Some (Initialized view owner seen)) p q = refl
begun-merged None (Some (Performed owner at upto)) p q = absurd (cc q)
begun-merged (Some (Initialized view owner seen)) None p q = refl
begun-merged (Some (Performed owner at upto)) b p q = absurd (cc p)
begun-merged (Some (Initialized view owner seen)) (Some (Performed owner' at' upto')) p q = absurd (cc q)
begun-merged (Some (Initialized view owner seen)) (Some (Initialized view' owner' seen')) p q =
    let mine : Mark = record { view = view; owner = owner; seen = members_in seen } in
    let theirs : Mark = record { view = view'; owner = owner'; seen = members_in seen' } in
    let both : Mark = record { view = view; owner = min owner owner'; seen = united (members_in seen) (members_in seen') } in
    choice (nat_lt view view') _ _
    ∙ ap (λ o. if nat_lt view view' then Some theirs else o)
    (choice (nat_lt view' view) _ _ ∙ ap (λ o. if nat_lt view' view then Some mine else o) (λ k. Some (record { view = view; owner = min owner owner'; seen = λ i. members_in-or seen seen' i k })) ∙ sym (some_choice (nat_lt view' view) mine both))
    ∙ sym (some_choice (nat_lt view view') theirs (if nat_lt view' view then mine else both))

-- SETS OF THOSE WHO HAVE SEEN A MARK

same_or_not : (b c : Bool) → b ≡ c → (if b then c else not c) ≡ true
same_or_not true c e = sym e
same_or_not false true e = e
same_or_not false false e = refl

both_or_none : (b c : Bool) → (if b then c else not c) ≡ true → b ≡ c
both_or_none true c e = sym e
both_or_none false true e = e
both_or_none false false e = refl

all_same : (s t : IdentitySet) → same_set s t ≡ true → (i : ℕ) → i < identity_limit → s i ≡ t i
all_same s t e i l = both_or_none (s i) (t i) (each_identity (λ i. if s i then t i else not (t i)) e i l)

same_all : (s t : IdentitySet) → ((i : ℕ) → i < identity_limit → s i ≡ t i) → same_set s t ≡ true
same_all s t h = all_identities (λ i. if s i then t i else not (t i)) (λ i l. same_or_not (s i) (t i) (h i l))

-- a test that is true where the members are the same
pub same_by_members : (r : Bool) (s t : IdentitySet) → (IsTrue r ↔ ((i : ℕ) → i < identity_limit → s i ≡ t i)) → r ≡ same_set s t
same_by_members r s t h = elim (cases_Bool r) [
  | inl e ↦ e ∙ sym (same_all s t (h.0 (search rules)))
  | inr e ↦ elim (cases_Bool (same_set s t)) [
    | inl is ↦ absurd (let x : IsTrue r = h.1 (all_same s t is) in search rules)
    | inr isnt ↦ e ∙ sym isnt
  ]
]

and_both : (b c d : Bool) → b ≡ true → c ≡ true → d ≡ (b && c && d)
and_both true true d e f = refl
and_both true false d e f = absurd (let x : false ≡ true = f in cc)
and_both false c d e f = absurd (let x : false ≡ true = e in cc)

pub both_begun : (r : Bool) (view owner seen view' owner' seen' : ℕ) → nat_eq view view' ≡ true → nat_eq owner owner' ≡ true → r ≡ same_set (members_in seen) (members_in seen')
    → r ≡ is_same_mark (begun (Some (Initialized view owner seen))) (begun (Some (Initialized view' owner' seen')))
both_begun r view owner seen view' owner' seen' e f same = same ∙ and_both (nat_eq view view') (nat_eq owner owner') (same_set (members_in seen) (members_in seen')) e f

seen_choice : (b m : Bool) (x y : Option Marker) (p q : Option Mark) → begun x ≡ p → begun y ≡ q → (m ≡ true → p ≡ q) → begun (if b && not m then x else y) ≡ (if b then p else q)
seen_choice true true x y p q e f same = f ∙ sym (same refl)
seen_choice true false x y p q e f same = e
seen_choice false m x y p q e f same = f

member_again : (set : IdentitySet) (id i : ℕ) → set id ≡ true → with_member set id i ≡ set i
member_again set id i e = elim (cases_eq i id) [
  | inl same ↦ with_member_is set id i same ∙ sym (ap set same ∙ e)
  | inr apart ↦ with_member_other set id i apart
]

performed_choice : (b : Bool) (x y : Option Marker) → is_performed x ≡ false → is_performed y ≡ false → is_performed (if b then x else y) ≡ false
performed_choice true x y e f = e
performed_choice false x y e f = f

-- what was begun, after it was seen
pub begun-seen : (id view : ℕ) (o : Option Marker) → begun (marker_seen_by id view o) ≡ seen_mark id view (begun o)
begun-seen id view None = refl
begun-seen id view (Some (Performed owner at upto)) = refl
begun-seen id view (Some (Initialized first owner seen)) = seen_choice (nat_le first view) (members_in seen id) _ _ _ _
    (λ k. Some (record { view = first; owner = owner; seen = λ i. members_in-with seen id i k })) refl
    (λ e k. Some (record { view = first; owner = owner; seen = λ i. member_again (members_in seen) id i e k }))

pub performed-seen : (id view : ℕ) (o : Option Marker) → is_performed (marker_seen_by id view o) ≡ is_performed o
performed-seen id view None = refl
performed-seen id view (Some (Performed owner at upto)) = refl
performed-seen id view (Some (Initialized first owner seen)) = performed_choice (nat_le first view && not (members_in seen id)) _ _ refl refl

-- one more member changes a set that hasn't got it
same_set_with : (s : IdentitySet) (id : ℕ) → id < identity_limit → same_set s (with_member s id) ≡ s id
same_set_with s id l = elim (cases_Bool (s id)) [
  | inl has ↦ same_all s (with_member s id) (λ i few. sym (member_again s id i has)) ∙ sym has
  | inr lacks ↦ elim (cases_Bool (same_set s (with_member s id))) [
    | inl is ↦ absurd (let x : false ≡ true = sym lacks ∙ all_same s (with_member s id) is id l ∙ with_member_is s id id refl in cc)
    | inr isnt ↦ isnt ∙ sym lacks
  ]
]

double_not : (b : Bool) → b ≡ not (not b)
double_not true = refl
double_not false = refl

seen_again : (b : Bool) (view owner : ℕ) (s : IdentitySet) (id : ℕ) → id < identity_limit
    → is_same_mark (Some (record { view = view; owner = owner; seen = s })) (if b then Some (record { view = view; owner = owner; seen = with_member s id }) else Some (record { view = view; owner = owner; seen = s })) ≡ not (b && not (s id))
seen_again true view owner s id l = sym (and_both (nat_eq view view) (nat_eq owner owner) _ (eq-eqb view view refl) (eq-eqb owner owner refl)) ∙ same_set_with s id l ∙ double_not (s id)
seen_again false view owner s id l = sym (and_both (nat_eq view view) (nat_eq owner owner) _ (eq-eqb view view refl) (eq-eqb owner owner refl)) ∙ same_set-same s

-- a mark stays the same where it isn't still to be seen
pub same_seen : (id view : ℕ) (o : Option Marker) → id < identity_limit → is_same_mark (begun o) (seen_mark id view (begun o)) ≡ not (is_unseen_by id view o)
same_seen id view None l = refl
same_seen id view (Some (Performed owner at upto)) l = refl
same_seen id view (Some (Initialized first owner seen)) l = seen_again (nat_le first view) first owner (members_in seen) id l
