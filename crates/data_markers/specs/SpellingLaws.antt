-- Marks that are read are those that were spelled, and what was spelled is read again.
use Rattle.std.proofs.Common.{◌≡◌, ℕ, zero, suc, ◌+◌, ◌^◌, ◌<◌, ◌≤◌, Bool, true, false, cond, nat_lt, List, [], ◌∷◌, ◌++◌, length, Option, None, Some, Result, Ok, refl, sym, ap, subst, ◌∙◌, append_assoc, arith, rules, ⊎_elim, lit<}
use Rattle.std.specs.Prelude.{flat_map, filter_map, map, option_map, nat_le, ◌==◌, if◌then◌else◌}
use Rattle.std.specs.List.{range_with_len, cons_option}
use Rattle.std.specs.FinMap as map
use Rattle.std.specs.FinMap.{get-insert, get-empty, same_map, nat_cmp-IsAntisymmetric}
use Rattle.std.specs.Ordering.{nat_cmp, eq_by_cmp}
use Rattle.std.specs.Cmp.{nat_cmp_total}
use Rattle.std.proofs.lemmas.Bool.{cases_eq, cases_lt, le-leb, ltb-true}
use Rattle.std.proofs.lemmas.List.Concat.{flat_map-cons}
use Rattle.model_history.specs.Table.{identity_limit, identities}
use Rattle.base_bytes.specs.declared.fault.Fault.{Fault}
use Rattle.base_bytes.specs.Fields.{◌>>=◌, kept, byte_in, word_in}
use Rattle.base_bytes.specs.Spelling.{word_spelled, number_spelled, AreBytes, Takes}
use Rattle.base_bytes.specs.FieldLaws.{bind_ok, kept_ok, kept_on, ok_is, takes_nothing, takes_then, byte_takes, word_takes, word_again}
use Rattle.base_vectors.specs.IdSets.{members_in}
use Rattle.base_vectors.specs.Fields.{identity_in, positive_in}
use Rattle.base_vectors.specs.FieldLaws.{IsAllowed, IsPositive, identity_takes, identity_again, positive_takes, positive_again}
use Rattle.base_vectors.specs.Spelling.{nobody, ids_spelled, ids_in, IsSomeSet}
use Rattle.base_vectors.proofs.Spellings.{ids_take, ids_again}
use Rattle.data_markers.specs.declared.marker.Marker.{Marker}
use Rattle.data_markers.specs.declared.marker.Marker.TheVariants.{Initialized, Performed}
use Rattle.data_markers.specs.Marks.{Marks, mark_of}
use Rattle.data_markers.specs.Spelling.{tail_spelled, mark_spelled, piece_of, marks_spelled, begun_in, performed_in_front, marker_in, mark_in, marks_from, all_put, put_by, marks_in}

-- A MARK

-- a mark of identities and numbers, and somebody has seen one that was begun
abbrev pub IsSpellable : Marker → Type 0
IsSpellable (Initialized view owner seen) = (view < 2 ^ 32) × (owner < identity_limit) × IsSomeSet seen
IsSpellable (Performed owner at upto) = (owner < identity_limit) × IsPositive (2 ^ 62) at × IsPositive (2 ^ 62) upto

begun_takes : (bytes : List ℕ) (x : Marker × List ℕ) → AreBytes bytes → begun_in bytes ≡ Ok x → Takes (0 ∷ bytes) (tail_spelled x.0) x.1 × IsSpellable x.0
unfolding begun_in
begun_takes bytes x fits e =
    let a = bind_ok (word_in bytes) (λ view. identity_in 0 nobody view.1 >>= λ owner. ids_in owner.1 >>= λ seen. Ok (Initialized view.0 owner.0 seen.0, seen.1)) x e in
    let b = bind_ok (identity_in 0 nobody a.0.1) (λ owner. ids_in owner.1 >>= λ seen. Ok (Initialized a.0.0 owner.0 seen.0, seen.1)) x a.2 in
    let c = bind_ok (ids_in b.0.1) (λ seen. Ok (Initialized a.0.0 b.0.0 seen.0, seen.1)) x b.2 in
    let ta = word_takes bytes a.0.0 a.0.1 fits a.1 in
    let tb = identity_takes 0 nobody a.0.1 b.0.0 b.0.1 ta.0.rest_are_bytes b.1 in
    let tc = ids_take b.0.1 c.0.0 c.0.1 tb.0.rest_are_bytes c.1 in
    let bc = takes_then a.0.1 (b.0.0 ∷ []) b.0.1 (ids_spelled (members_in c.0.0)) c.0.1 tb.0 tc.0 in
    let abc = takes_then bytes (word_spelled a.0.0) a.0.1 (b.0.0 ∷ ids_spelled (members_in c.0.0)) c.0.1 ta.0 bc in
    let made : Marker × List ℕ = (Initialized a.0.0 b.0.0 c.0.0, c.0.1) in
    subst (λ (y : Marker × List ℕ). Takes (0 ∷ bytes) (tail_spelled y.0) y.1 × IsSpellable y.0) (ok_is made x c.2)
    (record { parts = ap (λ (t : List ℕ). 0 ∷ t) abc.parts; rest_are_bytes = abc.rest_are_bytes }, (ta.1, tb.1.small, tc.1))

performed_takes : (bytes : List ℕ) (x : Marker × List ℕ) → AreBytes bytes → performed_in_front bytes ≡ Ok x → Takes (1 ∷ bytes) (tail_spelled x.0) x.1 × IsSpellable x.0
unfolding performed_in_front
performed_takes bytes x fits e =
    let a = bind_ok (identity_in 0 nobody bytes) (λ owner. positive_in (2 ^ 62) owner.1 >>= λ at. positive_in (2 ^ 62) at.1 >>= λ upto. Ok (Performed owner.0 at.0 upto.0, upto.1)) x e in
    let b = bind_ok (positive_in (2 ^ 62) a.0.1) (λ at. positive_in (2 ^ 62) at.1 >>= λ upto. Ok (Performed a.0.0 at.0 upto.0, upto.1)) x a.2 in
    let c = bind_ok (positive_in (2 ^ 62) b.0.1) (λ upto. Ok (Performed a.0.0 b.0.0 upto.0, upto.1)) x b.2 in
    let ta = identity_takes 0 nobody bytes a.0.0 a.0.1 fits a.1 in
    let tb = positive_takes (2 ^ 62) a.0.1 b.0.0 b.0.1 ta.0.rest_are_bytes b.1 in
    let tc = positive_takes (2 ^ 62) b.0.1 c.0.0 c.0.1 tb.0.rest_are_bytes c.1 in
    let bc = takes_then a.0.1 (number_spelled b.0.0) b.0.1 (number_spelled c.0.0) c.0.1 tb.0 tc.0 in
    let abc = takes_then bytes (a.0.0 ∷ []) a.0.1 (number_spelled b.0.0 ++ number_spelled c.0.0) c.0.1 ta.0 bc in
    let made : Marker × List ℕ = (Performed a.0.0 b.0.0 c.0.0, c.0.1) in
    subst (λ (y : Marker × List ℕ). Takes (1 ∷ bytes) (tail_spelled y.0) y.1 × IsSpellable y.0) (ok_is made x c.2)
    (record { parts = ap (λ (t : List ℕ). 1 ∷ t) abc.parts; rest_are_bytes = abc.rest_are_bytes }, (ta.1.small, tb.1, tc.1))

pub marker_takes : (bytes : List ℕ) (x : Marker × List ℕ) → AreBytes bytes → marker_in bytes ≡ Ok x → Takes bytes (tail_spelled x.0) x.1 × IsSpellable x.0
unfolding marker_in
marker_takes bytes x fits e =
    let a = bind_ok (byte_in bytes) (λ tag. kept (nat_lt tag.0 2) (length bytes) >>= λ _. if tag.0 == 0 then begun_in tag.1 else performed_in_front tag.1) x e in
    let tag : ℕ = a.0.0 in
    let rest : List ℕ = a.0.1 in
    let rule = kept_ok (nat_lt tag 2) (length bytes) (λ _. if tag == 0 then begun_in rest else performed_in_front rest) x a.2 in
    let ta = byte_takes bytes tag rest fits a.1 in
    let small : tag < 2 = ltb-true tag 2 rule.0 in
    ⊎_elim
    (λ (is : tag ≡ 0).
    let t : (tag == 0) ≡ true = grind rules in
    let found : begun_in rest ≡ Ok x = sym (ap (λ (b : Bool). if b then begun_in rest else performed_in_front rest) t) ∙ rule.1 in
    let front : bytes ≡ 0 ∷ rest = ta.0.parts ∙ ap (λ (n : ℕ). n ∷ rest) is in
    subst (λ (bs : List ℕ). Takes bs (tail_spelled x.0) x.1 × IsSpellable x.0) (sym front) (begun_takes rest x ta.0.rest_are_bytes found))
    (λ ne.
    let t : (tag == 0) ≡ false = grind rules in
    let one : tag ≡ 1 = omega arith in
    let found : performed_in_front rest ≡ Ok x = sym (ap (λ (b : Bool). if b then begun_in rest else performed_in_front rest) t) ∙ rule.1 in
    let front : bytes ≡ 1 ∷ rest = ta.0.parts ∙ ap (λ (n : ℕ). n ∷ rest) one in
    subst (λ (bs : List ℕ). Takes bs (tail_spelled x.0) x.1 × IsSpellable x.0) (sym front) (performed_takes rest x ta.0.rest_are_bytes found))
    (cases_eq tag 0)

anybody : (least i : ℕ) → least ≤ i → i < identity_limit → IsAllowed least nobody i
anybody least i from small = record { from = from; small = small; free = refl }

abbrev after_seen : ℕ → ℕ → Result (ℕ × List ℕ) Fault → Result (Marker × List ℕ) Fault
after_seen view owner r = r >>= λ seen. Ok (Initialized view owner seen.0, seen.1)

abbrev after_owner : ℕ → Result (ℕ × List ℕ) Fault → Result (Marker × List ℕ) Fault
after_owner view r = r >>= λ owner. after_seen view owner.0 (ids_in owner.1)

abbrev after_view : Result (ℕ × List ℕ) Fault → Result (Marker × List ℕ) Fault
after_view r = r >>= λ view. after_owner view.0 (identity_in 0 nobody view.1)

begun_again : (view owner seen : ℕ) (rest : List ℕ) → IsSpellable (Initialized view owner seen) → begun_in ((word_spelled view ++ (owner ∷ ids_spelled (members_in seen))) ++ rest) ≡ Ok (Initialized view owner seen, rest)
unfolding begun_in
begun_again view owner seen rest is =
    let ids : List ℕ = ids_spelled (members_in seen) in
    let regrouped : (word_spelled view ++ (owner ∷ ids)) ++ rest ≡ word_spelled view ++ ((owner ∷ []) ++ (ids ++ rest)) = append_assoc (word_spelled view) (owner ∷ ids) rest in
    ap (λ (bytes : List ℕ). after_view (word_in bytes)) regrouped ∙ ap after_view (word_again view ((owner ∷ []) ++ (ids ++ rest)) is.0)
    ∙ ap (after_owner view) (identity_again 0 nobody owner (ids ++ rest) (anybody 0 owner (omega arith) is.1))
    ∙ ap (after_seen view owner) (ids_again seen rest is.2)

abbrev after_upto : ℕ → ℕ → Result (ℕ × List ℕ) Fault → Result (Marker × List ℕ) Fault
after_upto owner at r = r >>= λ upto. Ok (Performed owner at upto.0, upto.1)

abbrev after_at : ℕ → Result (ℕ × List ℕ) Fault → Result (Marker × List ℕ) Fault
after_at owner r = r >>= λ at. after_upto owner at.0 (positive_in (2 ^ 62) at.1)

abbrev after_pruner : Result (ℕ × List ℕ) Fault → Result (Marker × List ℕ) Fault
after_pruner r = r >>= λ owner. after_at owner.0 (positive_in (2 ^ 62) owner.1)

performed_again : (owner at upto : ℕ) (rest : List ℕ) → IsSpellable (Performed owner at upto) → performed_in_front ((owner ∷ (number_spelled at ++ number_spelled upto)) ++ rest) ≡ Ok (Performed owner at upto, rest)
unfolding performed_in_front
performed_again owner at upto rest is =
    let regrouped : (number_spelled at ++ number_spelled upto) ++ rest ≡ number_spelled at ++ (number_spelled upto ++ rest) = append_assoc (number_spelled at) (number_spelled upto) rest in
    let limit : 2 ^ 62 < 2 ^ 64 = lit< tt in
    ap (λ (bytes : List ℕ). after_pruner (identity_in 0 nobody ((owner ∷ []) ++ bytes))) regrouped
    ∙ ap after_pruner (identity_again 0 nobody owner (number_spelled at ++ (number_spelled upto ++ rest)) (anybody 0 owner (omega arith) is.0))
    ∙ ap (after_at owner) (positive_again (2 ^ 62) at (number_spelled upto ++ rest) limit is.1)
    ∙ ap (after_upto owner at) (positive_again (2 ^ 62) upto rest limit is.2)

marker_again : (m : Marker) (rest : List ℕ) → IsSpellable m → marker_in (tail_spelled m ++ rest) ≡ Ok (m, rest)
unfolding marker_in
marker_again (Initialized view owner seen) rest is = begun_again view owner seen rest is
marker_again (Performed owner at upto) rest is = performed_again owner at upto rest is

-- MARKS BEHIND THEIR IDENTITIES

abbrev one_spelled : ℕ × Marker → List ℕ
one_spelled m = mark_spelled m.0 m.1

pub mark_takes : (least : ℕ) (bytes : List ℕ) (x : (ℕ × Marker) × List ℕ) → AreBytes bytes → mark_in least bytes ≡ Ok x → Takes bytes (one_spelled x.0) x.1 × (least ≤ x.0.0) × (x.0.0 < identity_limit) × IsSpellable x.0.1
unfolding mark_in
mark_takes least bytes x fits e =
    let a = bind_ok (identity_in least nobody bytes) (λ removed. marker_in removed.1 >>= λ mark. Ok ((removed.0, mark.0), mark.1)) x e in
    let b = bind_ok (marker_in a.0.1) (λ mark. Ok ((a.0.0, mark.0), mark.1)) x a.2 in
    let ta = identity_takes least nobody bytes a.0.0 a.0.1 fits a.1 in
    let tb = marker_takes a.0.1 b.0 ta.0.rest_are_bytes b.1 in
    let whole = takes_then bytes (a.0.0 ∷ []) a.0.1 (tail_spelled b.0.0) b.0.1 ta.0 tb.0 in
    let made : (ℕ × Marker) × List ℕ = ((a.0.0, b.0.0), b.0.1) in
    subst (λ (y : (ℕ × Marker) × List ℕ). Takes bytes (one_spelled y.0) y.1 × (least ≤ y.0.0) × (y.0.0 < identity_limit) × IsSpellable y.0.1) (ok_is made x b.2)
    (whole, ta.1.from, ta.1.small, tb.1)

abbrev after_removed : Result (ℕ × List ℕ) Fault → Result ((ℕ × Marker) × List ℕ) Fault
after_removed r = r >>= λ removed. marker_in removed.1 >>= λ mark. Ok ((removed.0, mark.0), mark.1)

abbrev after_marker : ℕ → Result (Marker × List ℕ) Fault → Result ((ℕ × Marker) × List ℕ) Fault
after_marker removed r = r >>= λ mark. Ok ((removed, mark.0), mark.1)

mark_again : (least removed : ℕ) (m : Marker) (rest : List ℕ) → least ≤ removed → removed < identity_limit → IsSpellable m → mark_in least (mark_spelled removed m ++ rest) ≡ Ok ((removed, m), rest)
unfolding mark_in
mark_again least removed m rest from small is =
    ap after_removed (identity_again least nobody removed (tail_spelled m ++ rest) (anybody least removed from small))
    ∙ ap (after_marker removed) (marker_again m rest is)

-- marks of identities, rising from a least one
abbrev AreRising : ℕ → List (ℕ × Marker) → Type 0
AreRising least [] = Unit {0}
AreRising least (m ∷ ms) = (least ≤ m.0) × (m.0 < identity_limit) × IsSpellable m.1 × AreRising (suc m.0) ms

marks_take : (least count : ℕ) (bytes : List ℕ) (x : List (ℕ × Marker) × List ℕ) → AreBytes bytes → marks_from least count bytes ≡ Ok x → Takes bytes (flat_map one_spelled x.0) x.1 × (length x.0 ≡ count) × AreRising least x.0
unfolding marks_from
marks_take least zero bytes x fits e =
    subst (λ (y : List (ℕ × Marker) × List ℕ). Takes bytes (flat_map one_spelled y.0) y.1 × (length y.0 ≡ 0) × AreRising least y.0) (ok_is ([], bytes) x e) (takes_nothing bytes fits, refl, tt)
marks_take least (suc count) bytes x fits e =
    let a = bind_ok (mark_in least bytes) (λ first. marks_from (suc first.0.0) count first.1 >>= λ others. Ok (first.0 ∷ others.0, others.1)) x e in
    let b = bind_ok (marks_from (suc a.0.0.0) count a.0.1) (λ others. Ok (a.0.0 ∷ others.0, others.1)) x a.2 in
    let first = mark_takes least bytes a.0 fits a.1 in
    let second = marks_take (suc a.0.0.0) count a.0.1 b.0 first.0.rest_are_bytes b.1 in
    let both = takes_then bytes (one_spelled a.0.0) a.0.1 (flat_map one_spelled b.0.0) b.0.1 first.0 second.0 in
    let made : List (ℕ × Marker) × List ℕ = (a.0.0 ∷ b.0.0, b.0.1) in
    subst (λ (y : List (ℕ × Marker) × List ℕ). Takes bytes (flat_map one_spelled y.0) y.1 × (length y.0 ≡ suc count) × AreRising least y.0) (ok_is made x b.2)
    (rw flat_map-cons both, ap suc second.1, (first.1, first.2, first.3, second.2))

abbrev after_first : ℕ → Result ((ℕ × Marker) × List ℕ) Fault → Result (List (ℕ × Marker) × List ℕ) Fault
after_first count r = r >>= λ first. marks_from (suc first.0.0) count first.1 >>= λ others. Ok (first.0 ∷ others.0, others.1)

abbrev after_others : ℕ × Marker → Result (List (ℕ × Marker) × List ℕ) Fault → Result (List (ℕ × Marker) × List ℕ) Fault
after_others m r = r >>= λ others. Ok (m ∷ others.0, others.1)

marks_again : (least : ℕ) (ms : List (ℕ × Marker)) (rest : List ℕ) → AreRising least ms → marks_from least (length ms) (flat_map one_spelled ms ++ rest) ≡ Ok (ms, rest)
unfolding marks_from
marks_again least [] rest is = refl
marks_again least (m ∷ ms) rest is =
    let regrouped : flat_map one_spelled (m ∷ ms) ++ rest ≡ one_spelled m ++ (flat_map one_spelled ms ++ rest) = ap (λ (t : List ℕ). t ++ rest) (flat_map-cons one_spelled m ms) ∙ append_assoc (one_spelled m) (flat_map one_spelled ms) rest in
    ap (λ (bytes : List ℕ). after_first (length ms) (mark_in least bytes)) regrouped
    ∙ ap (after_first (length ms)) (mark_again least m.0 m.1 (flat_map one_spelled ms ++ rest) is.0 is.1 is.2)
    ∙ ap (after_others m) (marks_again (suc m.0) ms rest is.3)

-- A LIST OF MARKS AND THE MAP OF THEM

-- the mark that a list has for an identity
abbrev listed_at : List (ℕ × Marker) → ℕ → Option Marker
listed_at [] q = None
listed_at (m ∷ ms) q = if q == m.0 then Some m.1 else listed_at ms q

abbrev or_else : Option Marker → Option Marker → Option Marker
or_else None other = other
or_else (Some m) other = Some m

get_put : (marks : Marks) (r : ℕ) (m : Marker) (q : ℕ) → mark_of (map.insert marks r m) q ≡ (if q == r then Some m else mark_of marks q)
get_put marks r m q = get-insert nat_cmp_total marks r m q ∙ ap (λ (b : Bool). cond b (Some m) (mark_of marks q)) same
  where
    same : eq_by_cmp nat_cmp q r ≡ (q == r)
    same = grind rules

-- nothing is listed below the least identity
none_below : (least : ℕ) (ms : List (ℕ × Marker)) (q : ℕ) → AreRising least ms → q < least → listed_at ms q ≡ None
none_below least [] q is lt = refl
none_below least (m ∷ ms) q is lt =
    let from = is.0 in
    let t : (q == m.0) ≡ false = (let ne : q ≡ m.0 → ⊥ = λ e. omega arith in grind rules) in
    ap (λ (b : Bool). if b then Some m.1 else listed_at ms q) t ∙ none_below (suc m.0) ms q is.3 (omega arith)

put_all : (least : ℕ) (marks : Marks) (ms : List (ℕ × Marker)) (q : ℕ) → AreRising least ms → mark_of (all_put marks ms) q ≡ or_else (listed_at ms q) (mark_of marks q)
put_all least marks [] q is = refl
put_all least marks (m ∷ ms) q is = go (q == m.0) refl (put_all (suc m.0) (map.insert marks m.0 m.1) ms q is.3)
  where
    put : Marks
    put = map.insert marks m.0 m.1

    go : (b : Bool) → (q == m.0) ≡ b → mark_of (all_put put ms) q ≡ or_else (listed_at ms q) (mark_of put q) → mark_of (all_put put ms) q ≡ or_else (listed_at (m ∷ ms) q) (mark_of marks q)
    go true e later =
        let same : q ≡ m.0 = grind rules in
        let below : q < suc m.0 = omega arith in
        later
        ∙ ap (λ (o : Option Marker). or_else o (mark_of put q)) (none_below (suc m.0) ms q is.3 below)
        ∙ get_put marks m.0 m.1 q ∙ ap (λ (b : Bool). if b then Some m.1 else mark_of marks q) e
        ∙ sym (ap (λ (b : Bool). or_else (if b then Some m.1 else listed_at ms q) (mark_of marks q)) e)
    go false e later =
        later
        ∙ ap (or_else (listed_at ms q)) (get_put marks m.0 m.1 q ∙ ap (λ (b : Bool). if b then Some m.1 else mark_of marks q) e)
        ∙ sym (ap (λ (b : Bool). or_else (if b then Some m.1 else listed_at ms q) (mark_of marks q)) e)

-- the marks of a range of identities, each behind its identity
abbrev marked : Marks → ℕ → Option (ℕ × Marker)
marked marks r = option_map (λ m. (r, m)) (mark_of marks r)

abbrev in_range : Marks → ℕ → ℕ → List (ℕ × Marker)
in_range marks first n = filter_map (marked marks) (range_with_len first n)

pieces_are : (marks : Marks) (is : List ℕ) → filter_map (piece_of marks) is ≡ map one_spelled (filter_map (marked marks) is)
pieces_are marks [] = refl
pieces_are marks (r ∷ is) = go (mark_of marks r) (pieces_are marks is)
  where
    go : (o : Option Marker) → filter_map (piece_of marks) is ≡ map one_spelled (filter_map (marked marks) is)
        → cons_option (option_map (mark_spelled r) o) (filter_map (piece_of marks) is) ≡ map one_spelled (cons_option (option_map (λ m. (r, m)) o) (filter_map (marked marks) is))
    go None e = e
    go (Some m) e = ap (λ (xs : List (List ℕ)). mark_spelled r m ∷ xs) e

flat_pieces : (ms : List (ℕ × Marker)) → flat_map (λ (bytes : List ℕ). bytes) (map one_spelled ms) ≡ flat_map one_spelled ms
flat_pieces [] = refl
flat_pieces (m ∷ ms) = flat_map-cons (λ (bytes : List ℕ). bytes) (one_spelled m) (map one_spelled ms) ∙ ap (λ (t : List ℕ). one_spelled m ++ t) (flat_pieces ms) ∙ sym (flat_map-cons one_spelled m ms)

length_map : (ms : List (ℕ × Marker)) → length (map one_spelled ms) ≡ length ms
length_map [] = refl
length_map (m ∷ ms) = ap suc (length_map ms)

-- marks of identities alone, each of which can be spelled
pub record AreSpellable (marks : Marks) : Type 0 where
  pub few : (q : ℕ) → identity_limit ≤ q → mark_of marks q ≡ None
  pub each : (q : ℕ) (m : Marker) → mark_of marks q ≡ Some m → IsSpellable m

pub spelled_as : (marks : Marks) → marks_spelled marks ≡ length (in_range marks 0 identity_limit) ∷ flat_map one_spelled (in_range marks 0 identity_limit)
unfolding marks_spelled
spelled_as marks =
    let pieces = pieces_are marks identities in
    ap (λ (ps : List (List ℕ)). length ps ∷ flat_map (λ (bytes : List ℕ). bytes) ps) pieces
    ∙ ap (λ (n : ℕ). n ∷ flat_map (λ (bytes : List ℕ). bytes) (map one_spelled (in_range marks 0 identity_limit))) (length_map (in_range marks 0 identity_limit))
    ∙ ap (λ (t : List ℕ). length (in_range marks 0 identity_limit) ∷ t) (flat_pieces (in_range marks 0 identity_limit))

from_more : (least : ℕ) (ms : List (ℕ × Marker)) → AreRising (suc least) ms → AreRising least ms
from_more least [] r = tt
from_more least (m ∷ ms) r = (let f = r.0 in omega arith, r.1, r.2, r.3)

-- a range of a map's marks rises
range_rises : (marks : Marks) (first n : ℕ) → AreSpellable marks → first + n ≤ identity_limit → AreRising first (in_range marks first n)
range_rises marks first zero is le = tt
range_rises marks first (suc n) is le = go (mark_of marks first) refl (range_rises marks (first + 1) n is (omega arith))
  where
    go : (o : Option Marker) → mark_of marks first ≡ o → AreRising (first + 1) (in_range marks (first + 1) n) → AreRising first (cons_option (option_map (λ m. (first, m)) o) (in_range marks (first + 1) n))
    go None e later = let more : first + 1 ≡ suc first = omega arith in from_more first (in_range marks (first + 1) n) (subst (λ (k : ℕ). AreRising k (in_range marks (first + 1) n)) more later)
    go (Some m) e later = let more : first + 1 ≡ suc first = omega arith in (omega arith, omega arith, is.each first m e, subst (λ (k : ℕ). AreRising k (in_range marks (first + 1) n)) more later)

-- and lists nothing outside it
range_nothing : (marks : Marks) (first n q : ℕ) → (first ≤ q → q < first + n → ⊥) → listed_at (in_range marks first n) q ≡ None
range_nothing marks first zero q outside = refl
range_nothing marks first (suc n) q outside = go (mark_of marks first) (range_nothing marks (first + 1) n q (λ from below. outside (omega arith) (omega arith)))
  where
    other : (q == first) ≡ false
    other = let ne : q ≡ first → ⊥ = λ e. outside (omega arith) (omega arith) in grind rules

    go : (o : Option Marker) → listed_at (in_range marks (first + 1) n) q ≡ None → listed_at (cons_option (option_map (λ m. (first, m)) o) (in_range marks (first + 1) n)) q ≡ None
    go None e = e
    go (Some m) e = ap (λ (b : Bool). if b then Some m else listed_at (in_range marks (first + 1) n) q) other ∙ e

-- and inside it what the map has there
range_lists : (marks : Marks) (first n q : ℕ) → first ≤ q → q < first + n → listed_at (in_range marks first n) q ≡ mark_of marks q
range_lists marks first zero q from below = absurd (omega arith)
range_lists marks first (suc n) q from below = ⊎_elim
    (λ (same : q ≡ first). here (mark_of marks first) refl same)
    (λ ne. there (mark_of marks first) ne (range_lists marks (first + 1) n q (omega arith) (omega arith))) (cases_eq q first)
  where
    rest : List (ℕ × Marker)
    rest = in_range marks (first + 1) n

    here : (o : Option Marker) → mark_of marks first ≡ o → q ≡ first → listed_at (cons_option (option_map (λ m. (first, m)) o) rest) q ≡ mark_of marks q
    here None e same = range_nothing marks (first + 1) n q (λ from below. omega arith) ∙ sym (ap (mark_of marks) same ∙ e)
    here (Some m) e same = let t : (q == first) ≡ true = grind rules in ap (λ (b : Bool). if b then Some m else listed_at rest q) t ∙ sym (ap (mark_of marks) same ∙ e)

    there : (o : Option Marker) → (q ≡ first → ⊥) → listed_at rest q ≡ mark_of marks q → listed_at (cons_option (option_map (λ m. (first, m)) o) rest) q ≡ mark_of marks q
    there None ne e = e
    there (Some m) ne e = let t : (q == first) ≡ false = grind rules in ap (λ (b : Bool). if b then Some m else listed_at rest q) t ∙ e

range_length : (marks : Marks) (first n : ℕ) → length (in_range marks first n) ≤ n
range_length marks first zero = omega arith
range_length marks first (suc n) = go (mark_of marks first) (range_length marks (first + 1) n)
  where
    go : (o : Option Marker) → length (in_range marks (first + 1) n) ≤ n → length (cons_option (option_map (λ m. (first, m)) o) (in_range marks (first + 1) n)) ≤ suc n
    go None le = omega arith
    go (Some m) le = omega arith

-- the range lists just the list that the map was made of
range_back : (marks : Marks) (n first : ℕ) (ms : List (ℕ × Marker)) → AreRising first ms → first + n ≡ identity_limit → ((q : ℕ) → first ≤ q → mark_of marks q ≡ listed_at ms q) → in_range marks first n ≡ ms
range_back marks zero first [] is all has = refl
range_back marks zero first (m ∷ ms) is all has = absurd (let from = is.0 in let small = is.1 in omega arith)
range_back marks (suc n) first [] is all has =
    ap (λ (o : Option Marker). cons_option (option_map (λ m. (first, m)) o) (in_range marks (first + 1) n)) (has first (omega arith))
    ∙ range_back marks n (first + 1) [] tt (omega arith) (λ q from. has q (omega arith))
range_back marks (suc n) first (m ∷ ms) is all has = ⊎_elim
    (λ (same : first ≡ m.0).
    let t : (first == m.0) ≡ true = grind rules in
    let here : mark_of marks first ≡ Some m.1 = has first (omega arith) ∙ ap (λ (b : Bool). if b then Some m.1 else listed_at ms first) t in
    let next : suc m.0 ≡ first + 1 = omega arith in
    let later : AreRising (first + 1) ms = subst (λ (k : ℕ). AreRising k ms) next is.3 in
    ap (λ (o : Option Marker). cons_option (option_map (λ m. (first, m)) o) (in_range marks (first + 1) n)) here
    ∙ ap (λ (k : ℕ). (k, m.1) ∷ in_range marks (first + 1) n) same
    ∙ ap (λ (rest : List (ℕ × Marker)). m ∷ rest) (range_back marks n (first + 1) ms later (omega arith) (λ q from.
    let u : (q == m.0) ≡ false = (let ne : q ≡ m.0 → ⊥ = λ e. omega arith in grind rules) in
    has q (omega arith) ∙ ap (λ (b : Bool). if b then Some m.1 else listed_at ms q) u)))
    (λ (ne : first ≡ m.0 → ⊥).
    let from = is.0 in
    let t : (first == m.0) ≡ false = grind rules in
    let here : mark_of marks first ≡ None = has first (omega arith) ∙ ap (λ (b : Bool). if b then Some m.1 else listed_at ms first) t ∙ none_below (suc m.0) ms first is.3 (omega arith) in
    ap (λ (o : Option Marker). cons_option (option_map (λ m. (first, m)) o) (in_range marks (first + 1) n)) here
    ∙ range_back marks n (first + 1) (m ∷ ms) (omega arith, is.1, is.2, is.3) (omega arith) (λ q from. has q (omega arith)))
    (cases_eq first m.0)

or_nothing : (o : Option Marker) → or_else o None ≡ o
or_nothing None = refl
or_nothing (Some m) = refl

-- the map of a rising list has what is listed
made_has : (ms : List (ℕ × Marker)) (q : ℕ) → AreRising 0 ms → mark_of (all_put map.empty ms) q ≡ listed_at ms q
made_has ms q is = put_all 0 map.empty ms q is ∙ ap (or_else (listed_at ms q)) (get-empty nat_cmp q) ∙ or_nothing (listed_at ms q)

listed_small : (least : ℕ) (ms : List (ℕ × Marker)) (q : ℕ) → AreRising least ms → identity_limit ≤ q → listed_at ms q ≡ None
listed_small least [] q is le = refl
listed_small least (m ∷ ms) q is le =
    let small = is.1 in
    let t : (q == m.0) ≡ false = (let ne : q ≡ m.0 → ⊥ = λ e. omega arith in grind rules) in
    ap (λ (b : Bool). if b then Some m.1 else listed_at ms q) t ∙ listed_small (suc m.0) ms q is.3 le

listed_spellable : (least : ℕ) (ms : List (ℕ × Marker)) (q : ℕ) (m : Marker) → AreRising least ms → listed_at ms q ≡ Some m → IsSpellable m
listed_spellable least [] q m is e = absurd cc
listed_spellable least (x ∷ ms) q m is e = go (q == x.0) e (listed_spellable (suc x.0) ms q m is.3)
  where
    go : (b : Bool) → (if b then Some x.1 else listed_at ms q) ≡ Some m → (listed_at ms q ≡ Some m → IsSpellable m) → IsSpellable m
    go true e later = let same : x.1 ≡ m = cc e in subst IsSpellable same is.2
    go false e later = later e

-- MARKS

pub marks_takes : (bytes : List ℕ) (marks : Marks) (rest : List ℕ) → AreBytes bytes → marks_in bytes ≡ Ok (marks, rest) → Takes bytes (marks_spelled marks) rest × AreSpellable marks
unfolding marks_in
marks_takes bytes marks rest fits e =
    let a = bind_ok (byte_in bytes) (λ count. kept (nat_le count.0 identity_limit) (length bytes) >>= λ _. put_by map.empty (marks_from 0 count.0 count.1)) (marks, rest) e in
    let count : ℕ = a.0.0 in
    let after : List ℕ = a.0.1 in
    let rule = kept_ok (nat_le count identity_limit) (length bytes) (λ _. put_by map.empty (marks_from 0 count after)) (marks, rest) a.2 in
    let b = bind_ok (marks_from 0 count after) (λ found. Ok (all_put map.empty found.0, found.1)) (marks, rest) rule.1 in
    let ms : List (ℕ × Marker) = b.0.0 in
    let ta = byte_takes bytes count after fits a.1 in
    let tb = marks_take 0 count after b.0 ta.0.rest_are_bytes b.1 in
    let made : Marks = all_put map.empty ms in
    let back : in_range made 0 identity_limit ≡ ms = range_back made identity_limit 0 ms tb.2 refl (λ q from. made_has ms q tb.2) in
    let spelled : marks_spelled made ≡ count ∷ flat_map one_spelled ms = spelled_as made ∙ ap (λ (xs : List (ℕ × Marker)). length xs ∷ flat_map one_spelled xs) back ∙ ap (λ (n : ℕ). n ∷ flat_map one_spelled ms) tb.1 in
    let whole : Takes bytes (count ∷ flat_map one_spelled ms) b.0.1 = takes_then bytes (count ∷ []) after (flat_map one_spelled ms) b.0.1 ta.0 tb.0 in
    let fine : AreSpellable made = record {
      few = λ q le. made_has ms q tb.2 ∙ listed_small 0 ms q tb.2 le;
      each = λ q m has. listed_spellable 0 ms q m tb.2 (sym (made_has ms q tb.2) ∙ has);
    } in
    subst (λ (y : Marks × List ℕ). Takes bytes (marks_spelled y.0) y.1 × AreSpellable y.0) (ok_is (made, b.0.1) (marks, rest) b.2)
    (subst (λ (t : List ℕ). Takes bytes t b.0.1) (sym spelled) whole, fine)

same_again : (marks : Marks) → AreSpellable marks → all_put map.empty (in_range marks 0 identity_limit) ≡ marks
same_again marks is = same_map nat_cmp_total nat_cmp-IsAntisymmetric _ _ (λ q.
    made_has (in_range marks 0 identity_limit) q rising ∙ ⊎_elim
    (λ (l : q < identity_limit). range_lists marks 0 identity_limit q (omega arith) (omega arith))
    (λ (l : identity_limit ≤ q). range_nothing marks 0 identity_limit q (λ from below. omega arith) ∙ sym (is.few q l)) (cases_lt q identity_limit))
  where
    rising : AreRising 0 (in_range marks 0 identity_limit)
    rising = range_rises marks 0 identity_limit is (omega arith)

pub marks_again_read : (marks : Marks) (rest : List ℕ) → AreSpellable marks → marks_in (marks_spelled marks ++ rest) ≡ Ok (marks, rest)
unfolding marks_in
marks_again_read marks rest is =
    let ms : List (ℕ × Marker) = in_range marks 0 identity_limit in
    let rising : AreRising 0 ms = range_rises marks 0 identity_limit is (omega arith) in
    ap (λ (t : List ℕ). byte_in (t ++ rest) >>= λ count. kept (nat_le count.0 identity_limit) (length (t ++ rest)) >>= λ _. put_by map.empty (marks_from 0 count.0 count.1)) (spelled_as marks)
    ∙ kept_on (nat_le (length ms) identity_limit) (length (length ms ∷ (flat_map one_spelled ms ++ rest))) (λ _. put_by map.empty (marks_from 0 (length ms) (flat_map one_spelled ms ++ rest))) (le-leb _ _ (range_length marks 0 identity_limit))
    ∙ ap (put_by map.empty) (marks_again 0 ms rest rising)
    ∙ ap (λ (found : Marks). Ok (found, rest)) (same_again marks is)
