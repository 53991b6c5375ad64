-- Reading pairs and members one after the other, as loops do; and spelling them so.
use Rattle.std.proofs.Common.{◌≡◌, ℕ, zero, suc, ◌+◌, ◌-◌, ◌^◌, ◌≤◌, ◌<◌, Bool, true, false, cond, List, [], ◌∷◌, ◌++◌, length, filter, Some, Result, Ok, Err, refl, sym, ap, subst, ◌∙◌, arith, bit_or}
use Rattle.std.specs.List.{range_with_len, filter_map, cons_option}
use Rattle.std.proofs.lemmas.List.{append-nil}
use Rattle.std.proofs.lemmas.List.Elements.{filter_map-append, filter-append}
use Rattle.model_history.specs.Table.{identity_limit}
use Rattle.model_history.specs.Vector.{IdentitySet, members_of}
use Rattle.base_bytes.specs.declared.fault.Fault.{Fault}
use Rattle.base_bytes.specs.declared.fault.FieldError.{FieldError}
use Rattle.base_bytes.specs.declared.fault.FieldError.TheVariants as errors
use Rattle.base_bytes.specs.Fields.{◌>>=◌, kept, Fails, number_in}
use Rattle.base_bytes.specs.FieldLaws.{bind_ok, ok_is, kept_ok}
use Rattle.std.specs.Prelude.{◌&&◌, nat_le}
use Rattle.std.proofs.lemmas.Bool.{leb-true, and_parts}
use Rattle.base_vectors.specs.Vectors.{Numbers, raised}
use Rattle.base_vectors.specs.Fields.{identity_in, positive_in}
use Rattle.base_vectors.specs.IdSets.{member_count}
use Rattle.base_vectors.specs.Spelling.{ids_spelled, pair_unless_zero, pair_at, pairs_of, pair_in, pairs_in, raised_by, nobody, members_from, added_by}
use Rattle.base_vectors.proofs.Walks.{range_more, filter_map_end}

-- PAIRS

-- a number that is read is not 0
pub pair_positive : (most : ℕ) (barred : IdentitySet) (least : ℕ) (bytes : List ℕ) (pair : ℕ × ℕ) (rest : List ℕ) → pair_in most barred least bytes ≡ Ok (pair, rest) → 1 ≤ pair.1
unfolding pair_in positive_in
pair_positive most barred least bytes pair rest e =
    let a = bind_ok (identity_in least barred bytes) (λ id. positive_in most id.1 >>= λ number. Ok ((id.0, number.0), number.1)) (pair, rest) e in
    let b = bind_ok (positive_in most a.0.1) (λ number. Ok ((a.0.0, number.0), number.1)) (pair, rest) a.2 in
    let n : ℕ × List ℕ = b.0 in
    let c = bind_ok (number_in a.0.1) (λ x. kept (nat_le 1 x.0 && nat_le x.0 most) (length a.0.1) >>= λ _. Ok x) n b.1 in
    let rule = kept_ok (nat_le 1 c.0.0 && nat_le c.0.0 most) (length a.0.1) (λ _. Ok c.0) n c.2 in
    let some : 1 ≤ c.0.0 = leb-true 1 c.0.0 (and_parts (nat_le 1 c.0.0) (nat_le c.0.0 most) rule.0).0 in
    let here : 1 ≤ n.0 = subst (λ (x : ℕ × List ℕ). 1 ≤ x.0) (ok_is c.0 n rule.1) some in
    subst (λ (x : (ℕ × ℕ) × List ℕ). 1 ≤ x.0.1) (ok_is ((a.0.0, n.0), n.1) (pair, rest) b.2) here

raised_on : (numbers : Numbers) (pair : ℕ × ℕ) (read : Result (List (ℕ × ℕ) × List ℕ) Fault) → raised_by numbers (read >>= λ others. Ok (pair ∷ others.0, others.1)) ≡ raised_by (raised numbers pair.0 pair.1) read
raised_on numbers pair (Ok x) = refl
raised_on numbers pair (Err fault) = refl

pub pairs_on : (most : ℕ) (barred : IdentitySet) (least count i : ℕ) (numbers : Numbers) (bytes : List ℕ) (pair : ℕ × ℕ) (after : List ℕ) (more : Numbers) (last : ℕ) (total : Result (Numbers × List ℕ) Fault) → i < count → pair_in most barred least bytes ≡ Ok (pair, after)
    → more ≡ raised numbers pair.0 pair.1 → last ≡ pair.0 → raised_by numbers (pairs_in most barred least (count - i) bytes) ≡ total → raised_by more (pairs_in most barred (last + 1) (count - (i + 1)) after) ≡ total
unfolding pairs_in
pairs_on most barred least count i numbers bytes pair after more last total lt h added is so_far =
    let k : count - i ≡ suc (count - (i + 1)) = omega arith in
    let next : last + 1 ≡ suc pair.0 = omega arith in
    let one : raised_by numbers (pairs_in most barred least (count - i) bytes) ≡ raised_by (raised numbers pair.0 pair.1) (pairs_in most barred (suc pair.0) (count - (i + 1)) after) =
    rw (k, h) (raised_on numbers pair (pairs_in most barred (suc pair.0) (count - (i + 1)) after)) in
    ap (λ (m : Numbers). raised_by m (pairs_in most barred (last + 1) (count - (i + 1)) after)) added ∙ ap (λ (n : ℕ). raised_by (raised numbers pair.0 pair.1) (pairs_in most barred n (count - (i + 1)) after)) next ∙ sym one ∙ so_far

pub pairs_fail : (e : FieldError) (most : ℕ) (barred : IdentitySet) (least count i : ℕ) (numbers : Numbers) (bytes : List ℕ) (total : Result (Numbers × List ℕ) Fault) → i < count → Fails e (pair_in most barred least bytes)
    → raised_by numbers (pairs_in most barred least (count - i) bytes) ≡ total → Fails e total
unfolding pairs_in
pairs_fail errors.Memory most barred least count i numbers bytes total lt h so_far = tt
pairs_fail (errors.Fault fault) most barred least count i numbers bytes total lt h so_far =
    let k : count - i ≡ suc (count - (i + 1)) = omega arith in
    let one : raised_by numbers (pairs_in most barred least (count - i) bytes) ≡ Err fault = rw (k, h) refl in
    sym so_far ∙ one

pub pairs_done : (most : ℕ) (barred : IdentitySet) (least count i : ℕ) (numbers : Numbers) (bytes : List ℕ) (total : Result (Numbers × List ℕ) Fault) → count ≤ i → raised_by numbers (pairs_in most barred least (count - i) bytes) ≡ total → total ≡ Ok (numbers, bytes)
unfolding pairs_in
pairs_done most barred least count i numbers bytes total le so_far =
    let k : count - i ≡ 0 = omega arith in
    let one : raised_by numbers (pairs_in most barred least (count - i) bytes) ≡ Ok (numbers, bytes) = rw k refl in
    sym so_far ∙ one

-- MEMBERS

added_on : (bits id : ℕ) (read : Result (List ℕ × List ℕ) Fault) → added_by bits (read >>= λ others. Ok (id ∷ others.0, others.1)) ≡ added_by (bit_or bits (2 ^ id)) read
added_on bits id (Ok x) = refl
added_on bits id (Err fault) = refl

pub members_on : (least count i bits : ℕ) (bytes : List ℕ) (id : ℕ) (after : List ℕ) (more last : ℕ) (total : Result (ℕ × List ℕ) Fault) → i < count → identity_in least nobody bytes ≡ Ok (id, after)
    → more ≡ bit_or bits (2 ^ id) → last ≡ id → added_by bits (members_from least (count - i) bytes) ≡ total → added_by more (members_from (last + 1) (count - (i + 1)) after) ≡ total
unfolding members_from
members_on least count i bits bytes id after more last total lt h added is so_far =
    let k : count - i ≡ suc (count - (i + 1)) = omega arith in
    let next : last + 1 ≡ suc id = omega arith in
    let one : added_by bits (members_from least (count - i) bytes) ≡ added_by (bit_or bits (2 ^ id)) (members_from (suc id) (count - (i + 1)) after) =
    rw (k, h) (added_on bits id (members_from (suc id) (count - (i + 1)) after)) in
    ap (λ (b : ℕ). added_by b (members_from (last + 1) (count - (i + 1)) after)) added ∙ ap (λ (n : ℕ). added_by (bit_or bits (2 ^ id)) (members_from n (count - (i + 1)) after)) next ∙ sym one ∙ so_far

pub members_fail : (e : FieldError) (least count i bits : ℕ) (bytes : List ℕ) (total : Result (ℕ × List ℕ) Fault) → i < count → Fails e (identity_in least nobody bytes)
    → added_by bits (members_from least (count - i) bytes) ≡ total → Fails e total
unfolding members_from
members_fail errors.Memory least count i bits bytes total lt h so_far = tt
members_fail (errors.Fault fault) least count i bits bytes total lt h so_far =
    let k : count - i ≡ suc (count - (i + 1)) = omega arith in
    let one : added_by bits (members_from least (count - i) bytes) ≡ Err fault = rw (k, h) refl in
    sym so_far ∙ one

pub members_done : (least count i bits : ℕ) (bytes : List ℕ) (total : Result (ℕ × List ℕ) Fault) → count ≤ i → added_by bits (members_from least (count - i) bytes) ≡ total → total ≡ Ok (bits, bytes)
unfolding members_from
members_done least count i bits bytes total le so_far =
    let k : count - i ≡ 0 = omega arith in
    let one : added_by bits (members_from least (count - i) bytes) ≡ Ok (bits, bytes) = rw k refl in
    sym so_far ∙ one

-- GOING UP

-- the pairs of the first identities
abbrev pub pairs_below : (ℕ → ℕ) → ℕ → List (ℕ × ℕ)
pairs_below number n = filter_map (pair_at number) (range_with_len 0 n)

pairs_one : (number : ℕ → ℕ) (n : ℕ) → pairs_below number (n + 1) ≡ pairs_below number n ++ cons_option (pair_at number n) []
pairs_one number n =
    let e : 0 + n ≡ n = omega arith in
    ap (filter_map (pair_at number)) (range_more 0 n ∙ ap (λ m. range_with_len 0 n ++ m ∷ []) e) ∙ filter_map-append (pair_at number) (range_with_len 0 n) (n ∷ [])

pub pairs_zero : (number : ℕ → ℕ) (n : ℕ) → number n ≡ 0 → pairs_below number (n + 1) ≡ pairs_below number n
pairs_zero number n none = pairs_one number n ∙ ap (λ k. pairs_below number n ++ cons_option (pair_unless_zero n k) []) none ∙ append-nil (pairs_below number n)

pub pair_some : (id n : ℕ) → 1 ≤ n → pair_unless_zero id n ≡ Some (id, n)
pair_some id zero some = absurd (omega arith)
pair_some id (suc n) some = refl

pub pairs_more : (number : ℕ → ℕ) (n : ℕ) → 1 ≤ number n → pairs_below number (n + 1) ≡ pairs_below number n ++ (n, number n) ∷ []
pairs_more number n some = pairs_one number n ∙ ap (λ o. pairs_below number n ++ cons_option o []) (pair_some n (number n) some)

pub pairs_few : (number : ℕ → ℕ) (first n : ℕ) → length (filter_map (pair_at number) (range_with_len first n)) ≤ n
pairs_few number first zero = omega arith
pairs_few number first (suc n) = go (number first) (pairs_few number (first + 1) n)
  where
    go : (k : ℕ) → length (filter_map (pair_at number) (range_with_len (first + 1) n)) ≤ n → length (cons_option (pair_unless_zero first k) (filter_map (pair_at number) (range_with_len (first + 1) n))) ≤ suc n
    go zero few = omega arith
    go (suc k) few = omega arith

-- there is no number from the end on
pub pairs_end : (number : ℕ → ℕ) (n : ℕ) → n ≤ identity_limit → ((i : ℕ) → n ≤ i → number i ≡ 0) → pairs_below number n ≡ pairs_of number
unfolding pairs_of
pairs_end number n few none = filter_map_end (pair_at number) n few (λ i l. ap (pair_unless_zero i) (none i l))

-- the members among the first identities
abbrev pub members_below : IdentitySet → ℕ → List ℕ
members_below set n = filter set (range_with_len 0 n)

members_one : (set : IdentitySet) (n : ℕ) → members_below set (n + 1) ≡ members_below set n ++ cond (set n) (n ∷ []) []
members_one set n =
    let e : 0 + n ≡ n = omega arith in
    ap (filter set) (range_more 0 n ∙ ap (λ m. range_with_len 0 n ++ m ∷ []) e) ∙ filter-append set (range_with_len 0 n) (n ∷ [])

pub members_skip : (set : IdentitySet) (n : ℕ) → set n ≡ false → members_below set (n + 1) ≡ members_below set n
members_skip set n out = members_one set n ∙ ap (λ b. members_below set n ++ cond b (n ∷ []) []) out ∙ append-nil (members_below set n)

pub members_more : (set : IdentitySet) (n : ℕ) → set n ≡ true → members_below set (n + 1) ≡ members_below set n ++ n ∷ []
members_more set n member = members_one set n ∙ ap (λ b. members_below set n ++ cond b (n ∷ []) []) member

pub members_few : (set : IdentitySet) (first n : ℕ) → length (filter set (range_with_len first n)) ≤ n
members_few set first zero = omega arith
members_few set first (suc n) = go (set first) (members_few set (first + 1) n)
  where
    go : (b : Bool) → length (filter set (range_with_len (first + 1) n)) ≤ n → length (cond b (first ∷ filter set (range_with_len (first + 1) n)) (filter set (range_with_len (first + 1) n))) ≤ suc n
    go true few = omega arith
    go false few = omega arith

members_past : (set : IdentitySet) (n more : ℕ) → ((i : ℕ) → n ≤ i → set i ≡ false) → members_below set (n + more) ≡ members_below set n
members_past set n zero none = let e : n + 0 ≡ n = omega arith in ap (members_below set) e
members_past set n (suc more) none =
    let e : n + suc more ≡ n + more + 1 = omega arith in
    ap (members_below set) e ∙ members_skip set (n + more) (none (n + more) (omega arith)) ∙ members_past set n more none

-- there is no member from the end on
pub members_end : (set : IdentitySet) (n : ℕ) → n ≤ identity_limit → ((i : ℕ) → n ≤ i → set i ≡ false) → members_below set n ≡ members_of set
members_end set n few none =
    let e : n + (identity_limit - n) ≡ identity_limit = omega arith in
    sym (members_past set n (identity_limit - n) none) ∙ ap (members_below set) e

pub members_all : (set : IdentitySet) (n : ℕ) → n ≤ identity_limit → ((i : ℕ) → n ≤ i → set i ≡ false) → member_count set ∷ members_below set n ≡ ids_spelled set
unfolding ids_spelled
members_all set n few none = ap (λ (xs : List ℕ). member_count set ∷ xs) (members_end set n few none)

pub count_small : (set : IdentitySet) → member_count set ≤ identity_limit
unfolding member_count
count_small set = members_few set 0 identity_limit
