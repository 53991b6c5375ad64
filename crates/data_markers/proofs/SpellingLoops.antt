-- Reading marks one after the other, as a loop does; and spelling them so.
use Rattle.std.proofs.Common.{◌≡◌, ◌≢◌, OnOk, IfOk, Bor, ℕ, zero, suc, ◌+◌, ◌-◌, ◌^◌, ◌≤◌, ◌<◌, Bool, true, false, cond, List, [], ◌∷◌, ◌++◌, length, filter, Option, None, Some, Result, Ok, Err, refl, sym, ap, subst, ◌∙◌, append_assoc, arith, rules, ⊎_elim}
use Rattle.std.specs.Prelude.{filter_map, flat_map, option_map, nat_lt, ◌&&◌, ◌||◌, ◌==◌}
use Rattle.std.specs.List.{range_with_len, cons_option}
use Rattle.std.specs.FinMap as map
use Rattle.std.proofs.lemmas.List.{append-nil, flat_map_more, length-append}
use Rattle.std.proofs.lemmas.Bool.{cases_eq, cases_lt, lt-ltb, le-ltb}
use Rattle.std.proofs.lemmas.Nat.{pow_pos}
use Rattle.std.proofs.lemmas.List.Elements.{filter_map-append}
use mathlib.Core.Bool.{and-false}
use Rattle.model_history.specs.Table.{identity_limit}
use Rattle.base_bytes.specs.declared.fault.Fault.{Fault}
use Rattle.base_bytes.specs.declared.fault.FieldError.{FieldError}
use Rattle.base_bytes.specs.declared.fault.FieldError.TheVariants as errors
use Rattle.base_bytes.specs.Fields.{◌>>=◌, Fails, Gives}
use Rattle.base_bytes.specs.Spelling.{AreBytes}
use Rattle.base_vectors.specs.IdSets.{members_in, member_count}
use Rattle.base_vectors.specs.Spelling.{IsSomeSet}
use Rattle.base_vectors.proofs.Walks.{range_more, filter_map_end}
use Rattle.base_vectors.proofs.Sets.{members_in-zero, same_members}
use Rattle.data_markers.specs.declared.marker.Marker.{Marker}
use Rattle.data_markers.specs.declared.marker.Marker.TheVariants.{Initialized, Performed}
use Rattle.model_history.specs.Vector.{with_member}
use Rattle.data_markers.specs.Marks.{Marks, mark_of, is_performed, performed_in}
use Rattle.data_markers.specs.Kept.{IsMark}
use Rattle.data_markers.specs.Spelling.{mark_spelled, piece_of, all_pieces, marks_spelled, marker_in, mark_in, marks_from, put_by}
use Rattle.data_markers.specs.SpellingLaws.{IsSpellable, AreSpellable, marker_takes}

-- READING

put_on : (marks : Marks) (mark : ℕ × Marker) (read : Result (List (ℕ × Marker) × List ℕ) Fault) → put_by marks (read >>= λ others. Ok (mark ∷ others.0, others.1)) ≡ put_by (map.insert marks mark.0 mark.1) read
put_on marks mark (Ok x) = refl
put_on marks mark (Err fault) = refl

pub marks_on : (least count i : ℕ) (marks : Marks) (bytes : List ℕ) (mark : ℕ × Marker) (after : List ℕ) (more : Marks) (last : ℕ) (total : Result (Marks × List ℕ) Fault) → i < count → mark_in least bytes ≡ Ok (mark, after)
    → more ≡ map.insert marks mark.0 mark.1 → last ≡ mark.0 → put_by marks (marks_from least (count - i) bytes) ≡ total → put_by more (marks_from (last + 1) (count - (i + 1)) after) ≡ total
unfolding marks_from
marks_on least count i marks bytes mark after more last total lt h added is so_far =
    let k : count - i ≡ suc (count - (i + 1)) = omega arith in
    let next : last + 1 ≡ suc mark.0 = omega arith in
    let one : put_by marks (marks_from least (count - i) bytes) ≡ put_by (map.insert marks mark.0 mark.1) (marks_from (suc mark.0) (count - (i + 1)) after) =
    rw (k, h) (put_on marks mark (marks_from (suc mark.0) (count - (i + 1)) after)) in
    ap (λ (m : Marks). put_by m (marks_from (last + 1) (count - (i + 1)) after)) added ∙ ap (λ (n : ℕ). put_by (map.insert marks mark.0 mark.1) (marks_from n (count - (i + 1)) after)) next ∙ sym one ∙ so_far

pub marks_fail : (e : FieldError) (least count i : ℕ) (marks : Marks) (bytes : List ℕ) (total : Result (Marks × List ℕ) Fault) → i < count → Fails e (mark_in least bytes)
    → put_by marks (marks_from least (count - i) bytes) ≡ total → Fails e total
unfolding marks_from
marks_fail errors.Memory least count i marks bytes total lt h so_far = tt
marks_fail (errors.Fault fault) least count i marks bytes total lt h so_far =
    let k : count - i ≡ suc (count - (i + 1)) = omega arith in
    let one : put_by marks (marks_from least (count - i) bytes) ≡ Err fault = rw (k, h) refl in
    sym so_far ∙ one

pub marks_done : (least count i : ℕ) (marks : Marks) (bytes : List ℕ) (total : Result (Marks × List ℕ) Fault) → count ≤ i → put_by marks (marks_from least (count - i) bytes) ≡ total → total ≡ Ok (marks, bytes)
unfolding marks_from
marks_done least count i marks bytes total le so_far =
    let k : count - i ≡ 0 = omega arith in
    let one : put_by marks (marks_from least (count - i) bytes) ≡ Ok (marks, bytes) = rw k refl in
    sym so_far ∙ one

-- SPELLING

-- what is spelled of the marks of the identities below a limit
abbrev pub pieces_in : Marks → ℕ → List (List ℕ)
pieces_in marks limit = filter_map (piece_of marks) (range_with_len 0 limit)

pub pieces_all : (marks : Marks) (n : ℕ) → n ≤ identity_limit → ((q : ℕ) → n ≤ q → mark_of marks q ≡ None) → pieces_in marks n ≡ all_pieces marks
unfolding all_pieces
pieces_all marks n few none = filter_map_end (piece_of marks) n few (λ q l. ap (option_map (mark_spelled q)) (none q l))

pub spelled_pieces : (marks : Marks) → marks_spelled marks ≡ length (all_pieces marks) ∷ flat_map (λ (bytes : List ℕ). bytes) (all_pieces marks)
unfolding all_pieces marks_spelled
spelled_pieces marks = refl

pieces_next : (marks : Marks) (n : ℕ) → pieces_in marks (n + 1) ≡ pieces_in marks n ++ filter_map (piece_of marks) (n ∷ [])
pieces_next marks n =
    let same : 0 + n ≡ n = omega arith in
    ap (filter_map (piece_of marks)) (range_more 0 n) ∙ filter_map-append (piece_of marks) (range_with_len 0 n) ((0 + n) ∷ []) ∙ ap (λ (k : ℕ). pieces_in marks n ++ filter_map (piece_of marks) (k ∷ [])) same

pub pieces_skip : (marks : Marks) (n : ℕ) → mark_of marks n ≡ None → pieces_in marks (n + 1) ≡ pieces_in marks n
pieces_skip marks n none = pieces_next marks n ∙ ap (λ (o : Option Marker). pieces_in marks n ++ cons_option (option_map (mark_spelled n) o) []) none ∙ append-nil (pieces_in marks n)

pub pieces_more : (marks : Marks) (n : ℕ) (m : Marker) → mark_of marks n ≡ Some m → pieces_in marks (n + 1) ≡ pieces_in marks n ++ mark_spelled n m ∷ []
pieces_more marks n m some = pieces_next marks n ∙ ap (λ (o : Option Marker). pieces_in marks n ++ cons_option (option_map (mark_spelled n) o) []) some

pub pieces_few : (marks : Marks) (first n : ℕ) → length (filter_map (piece_of marks) (range_with_len first n)) ≤ n
pieces_few marks first zero = omega arith
pieces_few marks first (suc n) = go (piece_of marks first) (pieces_few marks (first + 1) n)
  where
    go : (o : Option (List ℕ)) → length (filter_map (piece_of marks) (range_with_len (first + 1) n)) ≤ n → length (cons_option o (filter_map (piece_of marks) (range_with_len (first + 1) n))) ≤ suc n
    go None le = omega arith
    go (Some m) le = omega arith

-- one more mark is counted, and spelled
pub counts_more : (marks : Marks) (n count : ℕ) (m : Marker) → mark_of marks n ≡ Some m → count ≡ length (pieces_in marks n) → count + 1 ≡ length (pieces_in marks (n + 1))
counts_more marks n count m some is = let all : length (pieces_in marks (n + 1)) ≡ length (pieces_in marks n ++ mark_spelled n m ∷ []) = ap length (pieces_more marks n m some) in omega (arith, all, is, length-append (pieces_in marks n) (mark_spelled n m ∷ []))

pub counts_same : (marks : Marks) (n count : ℕ) → mark_of marks n ≡ None → count ≡ length (pieces_in marks n) → count ≡ length (pieces_in marks (n + 1))
counts_same marks n count none is = is ∙ ap length (sym (pieces_skip marks n none))

abbrev joined : List (List ℕ) → List ℕ
joined pieces = flat_map (λ (bytes : List ℕ). bytes) pieces

pub spells_more : (marks : Marks) (n : ℕ) (m : Marker) (before now after : List ℕ) → mark_of marks n ≡ Some m → now ≡ before ++ joined (pieces_in marks n) → after ≡ now ++ mark_spelled n m → after ≡ before ++ joined (pieces_in marks (n + 1))
spells_more marks n m before now after some is added =
    added ∙ ap (λ (t : List ℕ). t ++ mark_spelled n m) is ∙ flat_map_more (λ (bytes : List ℕ). bytes) before (pieces_in marks n) (mark_spelled n m) ∙ ap (λ (ps : List (List ℕ)). before ++ joined ps) (sym (pieces_more marks n m some))

pub spells_same : (marks : Marks) (n : ℕ) (before now : List ℕ) → mark_of marks n ≡ None → now ≡ before ++ joined (pieces_in marks n) → now ≡ before ++ joined (pieces_in marks (n + 1))
spells_same marks n before now none is = is ∙ ap (λ (ps : List (List ℕ)). before ++ joined ps) (sym (pieces_skip marks n none))

pub each_more : (marks : Marks) (n : ℕ) (m : Marker) → mark_of marks n ≡ Some m → IsSpellable m → ((q : ℕ) (x : Marker) → q < n → mark_of marks q ≡ Some x → IsSpellable x) → (q : ℕ) (x : Marker) → q < n + 1 → mark_of marks q ≡ Some x → IsSpellable x
each_more marks n m some is each q x lt e = ⊎_elim
    (λ (same : q ≡ n). let one : Some m ≡ Some x = sym some ∙ ap (mark_of marks) (sym same) ∙ e in let equal : m ≡ x = cc one in subst IsSpellable equal is)
    (λ (ne : q ≡ n → ⊥). each q x (omega arith) e) (cases_eq q n)

pub each_same : (marks : Marks) (n : ℕ) → mark_of marks n ≡ None → ((q : ℕ) (x : Marker) → q < n → mark_of marks q ≡ Some x → IsSpellable x) → (q : ℕ) (x : Marker) → q < n + 1 → mark_of marks q ≡ Some x → IsSpellable x
each_same marks n none each q x lt e = ⊎_elim
    (λ (same : q ≡ n). absurd (let no : None ≡ Some x = sym none ∙ ap (mark_of marks) (sym same) ∙ e in cc no))
    (λ (ne : q ≡ n → ⊥). each q x (omega arith) e) (cases_eq q n)

-- THE PRUNED IDENTITIES

pub ids_are : (marks : Marks) (ids n : ℕ) → ((q : ℕ) → n ≤ q → mark_of marks q ≡ None) → ((i : ℕ) → members_in ids i ≡ (nat_lt i n && performed_in marks i)) → members_in ids ≡ performed_in marks
ids_are marks ids n few each = λ j i. each_is i j
  where
    each_is : (i : ℕ) → members_in ids i ≡ performed_in marks i
    each_is i = ⊎_elim
        (λ (l : i < n). each i ∙ ap (λ (b : Bool). b && performed_in marks i) (lt-ltb i n l))
        (λ (l : n ≤ i). each i ∙ ap (λ (b : Bool). b && performed_in marks i) (le-ltb i n l) ∙ sym (ap is_performed (few i l))) (cases_lt i n)

-- one more identity looked at
below_more : (i n : ℕ) → i ≢ n → nat_lt i (n + 1) ≡ nat_lt i n
below_more i n ne = ⊎_elim
    (λ (l : i < n). lt-ltb i (n + 1) (omega arith) ∙ sym (lt-ltb i n l))
    (λ (l : n ≤ i). le-ltb i (n + 1) (omega arith) ∙ sym (le-ltb i n l)) (cases_lt i n)

here_true : (marks : Marks) (n i : ℕ) → i ≡ n → performed_in marks n ≡ true → (nat_lt i (n + 1) && performed_in marks i) ≡ true
here_true marks n i same there = ap (λ (b : Bool). b && performed_in marks i) (lt-ltb i (n + 1) (omega arith)) ∙ ap (performed_in marks) same ∙ there

pub ids_more : (marks : Marks) (ids next n : ℕ) → performed_in marks n ≡ true → ((i : ℕ) → members_in next i ≡ with_member (members_in ids) n i) → ((i : ℕ) → members_in ids i ≡ (nat_lt i n && performed_in marks i)) → (i : ℕ) → members_in next i ≡ (nat_lt i (n + 1) && performed_in marks i)
ids_more marks ids next n there added each i = ⊎_elim
    (λ (same : i ≡ n). let t : (i == n) ≡ true = grind rules in added i ∙ ap (λ (b : Bool). b || members_in ids i) t ∙ sym (here_true marks n i same there))
    (λ (ne : i ≡ n → ⊥). let t : (i == n) ≡ false = grind rules in added i ∙ ap (λ (b : Bool). b || members_in ids i) t ∙ each i ∙ ap (λ (b : Bool). b && performed_in marks i) (sym (below_more i n ne))) (cases_eq i n)

pub ids_same : (marks : Marks) (ids n : ℕ) → performed_in marks n ≡ false → ((i : ℕ) → members_in ids i ≡ (nat_lt i n && performed_in marks i)) → (i : ℕ) → members_in ids i ≡ (nat_lt i (n + 1) && performed_in marks i)
ids_same marks ids n none each i = ⊎_elim
    (λ (same : i ≡ n).
    let here : performed_in marks i ≡ false = ap (performed_in marks) same ∙ none in
    each i ∙ ap (λ (b : Bool). nat_lt i n && b) here ∙ and-false (nat_lt i n) ∙ sym (ap (λ (b : Bool). nat_lt i (n + 1) && b) here ∙ and-false (nat_lt i (n + 1))))
    (λ (ne : i ≡ n → ⊥). each i ∙ ap (λ (b : Bool). b && performed_in marks i) (sym (below_more i n ne))) (cases_eq i n)

-- SOMEBODY HAS SEEN A MARK

pub spellable_is_mark : (m : Marker) → IsSpellable m → IsMark m
unfolding member_count
spellable_is_mark (Initialized view owner seen) is = λ none. (
    let some = is.2.some in
    let zero : member_count (members_in seen) ≡ member_count (members_in 0) = ap (λ n. member_count (members_in n)) none in
    omega (arith, zero, some))
spellable_is_mark (Performed owner at upto) is = (record { some = is.1.some; small = is.1.small }, record { some = is.2.some; small = is.2.small })

filter_nothing : (test : ℕ → Bool) (first n : ℕ) → length (filter test (range_with_len first n)) ≡ 0 → (i : ℕ) → first ≤ i → i < first + n → test i ≡ false
filter_nothing test first zero none i from below = absurd (omega arith)
filter_nothing test first (suc n) none i from below = go (test first) refl none (filter_nothing test (first + 1) n)
  where
    go : (b : Bool) → test first ≡ b → length (cond b (first ∷ filter test (range_with_len (first + 1) n)) (filter test (range_with_len (first + 1) n))) ≡ 0
        → (length (filter test (range_with_len (first + 1) n)) ≡ 0 → (k : ℕ) → first + 1 ≤ k → k < first + 1 + n → test k ≡ false) → test i ≡ false
    go true e none later = absurd (omega (arith, none))
    go false e none later = ⊎_elim (λ (same : i ≡ first). ap test same ∙ e) (λ (ne : i ≡ first → ⊥). later none i (omega arith) (omega arith)) (cases_eq i first)

-- a number that isn't 0 is a set with a member
pub some_member : (set : ℕ) → set < 2 ^ identity_limit → (set ≡ 0 → ⊥) → IsSomeSet set
unfolding member_count
some_member set small some = record {
  bits = small;
  some = ⊎_elim (λ (l : 0 < member_count (members_in set)). l)
      (λ (l : member_count (members_in set) ≤ 0). absurd (some (same_members identity_limit set 0 small (pow_pos identity_limit) (λ i few. filter_nothing (members_in set) 0 identity_limit (omega (arith, l)) i (omega arith) (omega arith) ∙ sym (members_in-zero i)))))
      (cases_lt 0 (member_count (members_in set)));
}

pub on_ok : {X E : Type 0} {P : Type 0} (r : Result X E) → P → OnOk r P
on_ok (Ok x) p = p
on_ok (Err e) p = tt

-- identities alone have marks, and each mark can be spelled
pub all_spellable : (marks : Marks) (n : ℕ) → n ≤ identity_limit → ((q : ℕ) → n ≤ q → mark_of marks q ≡ None) → ((q : ℕ) (m : Marker) → q < n → mark_of marks q ≡ Some m → IsSpellable m) → AreSpellable marks
all_spellable marks n small none each = record {
  few = λ q l. none q (omega arith);
  each = λ q m e. ⊎_elim
      (λ (l : q < n). each q m l e)
      (λ (l : n ≤ q). absurd (let no : None ≡ Some m = sym (none q l) ∙ e in cc no)) (cases_lt q n);
}

-- how many they are, and each of them
pub spells_all : {E : Type 0} (r : Result (Unit {0}) E) (marks : Marks) (count : ℕ) (before pushed after : List ℕ) → pushed ≡ before ++ count ∷ [] → count ≡ length (all_pieces marks) → OnOk r (after ≡ pushed ++ joined (all_pieces marks)) → OnOk r (after ≡ before ++ marks_spelled marks)
spells_all (Ok x) marks count before pushed after first counted rest =
    rest ∙ ap (λ (t : List ℕ). t ++ joined (all_pieces marks)) first ∙ append_assoc before (count ∷ []) (joined (all_pieces marks))
    ∙ ap (λ (n : ℕ). before ++ n ∷ joined (all_pieces marks)) counted ∙ ap (λ (t : List ℕ). before ++ t) (sym (spelled_pieces marks))
spells_all (Err e) marks count before pushed after first counted rest = tt

-- a mark that is read is well formed
pub read_is_mark : (bytes : List ℕ) (r : Result (Marker × Bor (List ℕ)) FieldError) → AreBytes bytes → Gives (λ x. (x.0, x.1.now)) r (marker_in bytes) → IfOk r (λ x. IsMark x.0)
read_is_mark bytes (Ok x) fits given = spellable_is_mark x.0 (marker_takes bytes (x.0, x.1.now) fits given).1
read_is_mark bytes (Err e) fits given = tt
