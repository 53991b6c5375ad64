-- Numbers and sets that are read are spelled so, and what is spelled so is read again.
use Rattle.std.proofs.Common.{◌≡◌, ◌≢◌, ℕ, zero, suc, ◌+◌, ◌^◌, ◌<◌, ◌≤◌, max, Bool, true, false, cond, List, [], ◌∷◌, ◌++◌, length, filter, Result, Ok, Err, Bor, refl, sym, ap, subst, ◌∙◌, append_assoc, arith, rules, nat_eq, bit_or, inl, inr}
use Rattle.std.specs.Prelude.{◌||◌, ◌==◌, nat_le, if◌then◌else◌, IfOk}
use Rattle.std.specs.List.{range_with_len, filter_map, flat_map, cons_option}
use Rattle.std.specs.FinMap as map
use Rattle.std.proofs.lemmas.Bool.{cases_eq, cases_lt, cases_Bool, leb-true, le-leb}
use Rattle.std.proofs.lemmas.List.Concat.{flat_map-cons}
use Rattle.std.proofs.lemmas.Nat.{or_lt, pow_below, pow_pos}
use Rattle.model_history.specs.Table.{identity_limit, identities, with_at}
use Rattle.model_history.specs.Vector.{IdentitySet, members_of}
use Rattle.base_bytes.specs.declared.fault.Fault.{Fault}
use Rattle.base_bytes.specs.declared.fault.FieldError.{FieldError}
use Rattle.base_bytes.specs.Fields.{◌>>=◌, Gives, kept, byte_in}
use Rattle.base_bytes.specs.Spelling.{AreBytes, Takes, number_spelled}
use Rattle.base_bytes.specs.FieldLaws.{bind_ok, kept_ok, kept_on, ok_is, takes_nothing, takes_then, byte_takes}
use Rattle.base_vectors.specs.Vectors.{Numbers, number_at, raised, IsNormal}
use Rattle.base_vectors.specs.IdSets.{members_in, member_count}
use Rattle.base_vectors.specs.Fields.{identity_in, positive_in}
use Rattle.base_vectors.specs.FieldLaws.{IsAllowed, IsPositive, identity_takes, identity_again, positive_takes, positive_again}
use Rattle.base_vectors.specs.Spelling.{pair_unless_zero, pair_at, pairs_of, pair_spelled, numbers_spelled, pair_in, pairs_in, all_raised, raised_by, numbers_in, AreSpellable, AreFree, ids_spelled, nobody, members_from, all_added, added_by, ids_in, IsSomeSet}
use Rattle.base_vectors.proofs.Laws.{IsNormal-numbers_of, empty-numbers_of, same_numbers, number_at-empty, number_at_above, number_at-raised_same, number_at-raised_other}
use Rattle.base_vectors.proofs.Sets.{members_in-with, members_in-zero, same_members}
use Rattle.base_vectors.proofs.Readings.{pair_some, pairs_few}

-- PAIRS

-- identities from a least one on, rising, none barred, with numbers from 1 to a greatest one
abbrev pub AreRising : ℕ → IdentitySet → ℕ → List (ℕ × ℕ) → Type 0
AreRising most barred least [] = Unit {0}
AreRising most barred least (pair ∷ pairs) = IsAllowed least barred pair.0 × IsPositive most pair.1 × AreRising most barred (suc pair.0) pairs

pair_takes : (most : ℕ) (barred : IdentitySet) (least : ℕ) (bytes : List ℕ) (pair : ℕ × ℕ) (rest : List ℕ) → AreBytes bytes → pair_in most barred least bytes ≡ Ok (pair, rest) → Takes bytes (pair_spelled pair) rest × IsAllowed least barred pair.0 × IsPositive most pair.1
unfolding pair_in
pair_takes most barred least bytes pair rest fits e =
    let a = bind_ok (identity_in least barred bytes) (λ id. positive_in most id.1 >>= λ number. Ok ((id.0, number.0), number.1)) (pair, rest) e in
    let b = bind_ok (positive_in most a.0.1) (λ number. Ok ((a.0.0, number.0), number.1)) (pair, rest) a.2 in
    let first = identity_takes least barred bytes a.0.0 a.0.1 fits a.1 in
    let second = positive_takes most a.0.1 b.0.0 b.0.1 first.0.rest_are_bytes b.1 in
    let both = takes_then bytes (a.0.0 ∷ []) a.0.1 (number_spelled b.0.0) b.0.1 first.0 second.0 in
    subst (λ (x : (ℕ × ℕ) × List ℕ). Takes bytes (pair_spelled x.0) x.1 × IsAllowed least barred x.0.0 × IsPositive most x.0.1) (ok_is ((a.0.0, b.0.0), b.0.1) (pair, rest) b.2)
    (both, first.1, second.1)

pair_again : (most : ℕ) (barred : IdentitySet) (least : ℕ) (pair : ℕ × ℕ) (rest : List ℕ) → most < 2 ^ 64 → IsAllowed least barred pair.0 → IsPositive most pair.1 → pair_in most barred least (pair_spelled pair ++ rest) ≡ Ok (pair, rest)
unfolding pair_in
pair_again most barred least pair rest limit allowed positive =
    ap (λ (r : Result (ℕ × List ℕ) Fault). r >>= λ id. positive_in most id.1 >>= λ number. Ok ((id.0, number.0), number.1)) (identity_again least barred pair.0 (number_spelled pair.1 ++ rest) allowed)
    ∙ ap (λ (r : Result (ℕ × List ℕ) Fault). r >>= λ number. Ok ((pair.0, number.0), number.1)) (positive_again most pair.1 rest limit positive)

pairs_take : (most : ℕ) (barred : IdentitySet) (least count : ℕ) (bytes : List ℕ) (pairs : List (ℕ × ℕ)) (rest : List ℕ) → AreBytes bytes → pairs_in most barred least count bytes ≡ Ok (pairs, rest) → Takes bytes (flat_map pair_spelled pairs) rest × (length pairs ≡ count) × AreRising most barred least pairs
unfolding pairs_in
pairs_take most barred least zero bytes pairs rest fits e =
    subst (λ (x : List (ℕ × ℕ) × List ℕ). Takes bytes (flat_map pair_spelled x.0) x.1 × (length x.0 ≡ 0) × AreRising most barred least x.0) (ok_is ([], bytes) (pairs, rest) e) (takes_nothing bytes fits, refl, tt)
pairs_take most barred least (suc count) bytes pairs rest fits e =
    let a = bind_ok (pair_in most barred least bytes) (λ first. pairs_in most barred (suc first.0.0) count first.1 >>= λ others. Ok (first.0 ∷ others.0, others.1)) (pairs, rest) e in
    let b = bind_ok (pairs_in most barred (suc a.0.0.0) count a.0.1) (λ others. Ok (a.0.0 ∷ others.0, others.1)) (pairs, rest) a.2 in
    let first = pair_takes most barred least bytes a.0.0 a.0.1 fits a.1 in
    let second = pairs_take most barred (suc a.0.0.0) count a.0.1 b.0.0 b.0.1 first.0.rest_are_bytes b.1 in
    let both = takes_then bytes (pair_spelled a.0.0) a.0.1 (flat_map pair_spelled b.0.0) b.0.1 first.0 second.0 in
    subst (λ (x : List (ℕ × ℕ) × List ℕ). Takes bytes (flat_map pair_spelled x.0) x.1 × (length x.0 ≡ suc count) × AreRising most barred least x.0) (ok_is (a.0.0 ∷ b.0.0, b.0.1) (pairs, rest) b.2)
    (rw flat_map-cons both, ap suc second.1, (first.1, first.2, second.2))

pairs_again : (most : ℕ) (barred : IdentitySet) (least : ℕ) (pairs : List (ℕ × ℕ)) (rest : List ℕ) → most < 2 ^ 64 → AreRising most barred least pairs → pairs_in most barred least (length pairs) (flat_map pair_spelled pairs ++ rest) ≡ Ok (pairs, rest)
unfolding pairs_in
pairs_again most barred least [] rest limit rising = refl
pairs_again most barred least (pair ∷ pairs) rest limit rising =
    let regrouped : flat_map pair_spelled (pair ∷ pairs) ++ rest ≡ pair_spelled pair ++ (flat_map pair_spelled pairs ++ rest) = ap (λ (x : List ℕ). x ++ rest) (flat_map-cons pair_spelled pair pairs) ∙ append_assoc (pair_spelled pair) (flat_map pair_spelled pairs) rest in
    ap (pairs_in most barred least (suc (length pairs))) regrouped
    ∙ ap (λ (r : Result ((ℕ × ℕ) × List ℕ) Fault). r >>= λ first. pairs_in most barred (suc first.0.0) (length pairs) first.1 >>= λ others. Ok (first.0 ∷ others.0, others.1)) (pair_again most barred least pair (flat_map pair_spelled pairs ++ rest) limit rising.0 rising.1)
    ∙ ap (λ (r : Result (List (ℕ × ℕ) × List ℕ) Fault). r >>= λ others. Ok (pair ∷ others.0, others.1)) (pairs_again most barred (suc pair.0) pairs rest limit rising.2)

-- THE NUMBERS OF PAIRS

-- the greatest number beside an identity
abbrev greatest : List (ℕ × ℕ) → ℕ → ℕ
greatest [] i = 0
greatest (pair ∷ pairs) i = if i == pair.0 then max pair.1 (greatest pairs i) else greatest pairs i

greatest_here : (pair : ℕ × ℕ) (pairs : List (ℕ × ℕ)) (i : ℕ) → i ≡ pair.0 → greatest (pair ∷ pairs) i ≡ max pair.1 (greatest pairs i)
greatest_here pair pairs i e = let u : nat_eq i pair.0 ≡ true = grind rules in ap (λ b. cond b (max pair.1 (greatest pairs i)) (greatest pairs i)) u

greatest_other : (pair : ℕ × ℕ) (pairs : List (ℕ × ℕ)) (i : ℕ) → i ≢ pair.0 → greatest (pair ∷ pairs) i ≡ greatest pairs i
greatest_other pair pairs i ne = let u : nat_eq i pair.0 ≡ false = grind rules in ap (λ b. cond b (max pair.1 (greatest pairs i)) (greatest pairs i)) u

greatest_below : (most : ℕ) (barred : IdentitySet) (least : ℕ) (pairs : List (ℕ × ℕ)) (i : ℕ) → AreRising most barred least pairs → i < least → greatest pairs i ≡ 0
greatest_below most barred least [] i rising lt = refl
greatest_below most barred least (pair ∷ pairs) i rising lt =
    let from = rising.0.from in
    greatest_other pair pairs i (λ e. omega arith) ∙ greatest_below most barred (suc pair.0) pairs i rising.2 (omega arith)

greatest_small : (most : ℕ) (barred : IdentitySet) (least : ℕ) (pairs : List (ℕ × ℕ)) (i : ℕ) → AreRising most barred least pairs → greatest pairs i ≤ most
greatest_small most barred least [] i rising = omega arith
greatest_small most barred least (pair ∷ pairs) i rising =
    let small = rising.1.small in
    let others = greatest_small most barred (suc pair.0) pairs i rising.2 in
    elim (cases_eq i pair.0) [
      | inl e ↦ omega (arith, greatest_here pair pairs i e)
      | inr ne ↦ omega (arith, greatest_other pair pairs i ne)
    ]

greatest_free : (most : ℕ) (barred : IdentitySet) (least : ℕ) (pairs : List (ℕ × ℕ)) (i : ℕ) → AreRising most barred least pairs → barred i ≡ true → greatest pairs i ≡ 0
greatest_free most barred least [] i rising bar = refl
greatest_free most barred least (pair ∷ pairs) i rising bar =
    greatest_other pair pairs i (λ e. let no : true ≡ false = sym bar ∙ ap barred e ∙ rising.0.free in cc) ∙ greatest_free most barred (suc pair.0) pairs i rising.2 bar

rising_from : (most : ℕ) (barred : IdentitySet) (least from : ℕ) (pairs : List (ℕ × ℕ)) → from ≤ least → AreRising most barred least pairs → AreRising most barred from pairs
rising_from most barred least from [] le rising = tt
rising_from most barred least from (pair ∷ pairs) le rising =
    let at_least = rising.0.from in
    (record { from = omega arith; small = rising.0.small; free = rising.0.free }, rising.1, rising.2)

-- the pairs of the numbers that they make are they
pairs_back : (most : ℕ) (barred : IdentitySet) (number : ℕ → ℕ) (n first : ℕ) (pairs : List (ℕ × ℕ)) → first + n ≡ identity_limit → AreRising most barred first pairs
    → ((i : ℕ) → first ≤ i → i < identity_limit → number i ≡ greatest pairs i) → filter_map (pair_at number) (range_with_len first n) ≡ pairs
pairs_back most barred number zero first [] len rising same = refl
pairs_back most barred number zero first (pair ∷ pairs) len rising same = let from = rising.0.from in let small = rising.0.small in absurd (omega arith)
pairs_back most barred number (suc n) first [] len rising same =
    ap (λ k. cons_option (pair_unless_zero first k) (filter_map (pair_at number) (range_with_len (first + 1) n))) (same first (omega arith) (omega arith))
    ∙ pairs_back most barred number n (first + 1) [] (omega arith) tt (λ i l m. same i (omega arith) m)
pairs_back most barred number (suc n) first (pair ∷ pairs) len rising same =
    let from = rising.0.from in
    elim (cases_eq first pair.0) [
      | inl e ↦
          let none : greatest pairs first ≡ 0 = greatest_below most barred (suc pair.0) pairs first rising.2 (omega arith) in
          let here : number first ≡ pair.1 = omega (arith, same first (omega arith) (omega arith), greatest_here pair pairs first e, none) in
          let next : suc pair.0 ≡ first + 1 = omega arith in
          ap (λ k. cons_option (pair_unless_zero first k) (filter_map (pair_at number) (range_with_len (first + 1) n))) here
          ∙ ap (λ j. cons_option (pair_unless_zero j pair.1) (filter_map (pair_at number) (range_with_len (first + 1) n))) e
          ∙ ap (λ o. cons_option o (filter_map (pair_at number) (range_with_len (first + 1) n))) (pair_some pair.0 pair.1 rising.1.some)
          ∙ ap (λ ps. pair ∷ ps) (pairs_back most barred number n (first + 1) pairs (omega arith) (subst (λ l. AreRising most barred l pairs) next rising.2)
          (λ i l m. same i (omega arith) m ∙ greatest_other pair pairs i (λ f. omega arith)))
      | inr ne ↦
          let later : AreRising most barred (first + 1) (pair ∷ pairs) = (record { from = omega arith; small = rising.0.small; free = rising.0.free }, rising.1, rising.2) in
          ap (λ k. cons_option (pair_unless_zero first k) (filter_map (pair_at number) (range_with_len (first + 1) n))) (same first (omega arith) (omega arith) ∙ greatest_below most barred (first + 1) (pair ∷ pairs) first later (omega arith))
          ∙ pairs_back most barred number n (first + 1) (pair ∷ pairs) (omega arith) later (λ i l m. same i (omega arith) m)
    ]

-- the pairs of numbers rise
rise_one : (most : ℕ) (barred : IdentitySet) (first k : ℕ) (pairs : List (ℕ × ℕ)) → first < identity_limit → k ≤ most → (barred first ≡ true → k ≡ 0) → AreRising most barred (first + 1) pairs → AreRising most barred first (cons_option (pair_unless_zero first k) pairs)
rise_one most barred first zero pairs few small free rising = rising_from most barred (first + 1) first pairs (omega arith) rising
rise_one most barred first (suc k) pairs few small free rising =
    let next : first + 1 ≡ suc first = omega arith in
    let unbarred : barred first ≡ false = elim (cases_Bool (barred first)) [ inl e ↦ absurd (let none = free e in omega arith) | inr e ↦ e ] in
    (record { from = omega arith; small = few; free = unbarred }, record { some = omega arith; small = small }, subst (λ l. AreRising most barred l pairs) next rising)

pairs_rise : (most : ℕ) (barred : IdentitySet) (number : ℕ → ℕ) (n first : ℕ) → first + n ≡ identity_limit → ((i : ℕ) → number i ≤ most) → ((i : ℕ) → barred i ≡ true → number i ≡ 0) → AreRising most barred first (filter_map (pair_at number) (range_with_len first n))
pairs_rise most barred number zero first len small free = tt
pairs_rise most barred number (suc n) first len small free =
    rise_one most barred first (number first) (filter_map (pair_at number) (range_with_len (first + 1) n)) (omega arith) (small first) (free first) (pairs_rise most barred number n (first + 1) (omega arith) small free)

greatest_step : (first k i : ℕ) (pairs : List (ℕ × ℕ)) → i ≢ first → greatest (cons_option (pair_unless_zero first k) pairs) i ≡ greatest pairs i
greatest_step first zero i pairs ne = refl
greatest_step first (suc k) i pairs ne = greatest_other (first, suc k) pairs i ne

greatest_first : (first k : ℕ) (pairs : List (ℕ × ℕ)) → greatest pairs first ≡ 0 → greatest (cons_option (pair_unless_zero first k) pairs) first ≡ k
greatest_first first zero pairs none = none
greatest_first first (suc k) pairs none = omega (arith, greatest_here (first, suc k) pairs first refl, none)

greatest_before : (number : ℕ → ℕ) (n first i : ℕ) → i < first → greatest (filter_map (pair_at number) (range_with_len first n)) i ≡ 0
greatest_before number zero first i lt = refl
greatest_before number (suc n) first i lt =
    greatest_step first (number first) i (filter_map (pair_at number) (range_with_len (first + 1) n)) (λ e. omega arith) ∙ greatest_before number n (first + 1) i (omega arith)

greatest_is : (number : ℕ → ℕ) (n first i : ℕ) → first ≤ i → i < first + n → greatest (filter_map (pair_at number) (range_with_len first n)) i ≡ number i
greatest_is number zero first i le lt = absurd (omega arith)
greatest_is number (suc n) first i le lt =
    let others : List (ℕ × ℕ) = filter_map (pair_at number) (range_with_len (first + 1) n) in
    elim (cases_eq i first) [
      | inl e ↦ ap (greatest (cons_option (pair_at number first) others)) e ∙ greatest_first first (number first) others (greatest_before number n (first + 1) first (omega arith)) ∙ ap number (sym e)
      | inr ne ↦ greatest_step first (number first) i others ne ∙ greatest_is number n (first + 1) i (omega arith) (omega arith)
    ]

number_at-all_raised : (numbers : Numbers) (pairs : List (ℕ × ℕ)) (i : ℕ) → i < identity_limit → number_at (all_raised numbers pairs) i ≡ max (number_at numbers i) (greatest pairs i)
number_at-all_raised numbers [] i few = omega arith
number_at-all_raised numbers (pair ∷ pairs) i few =
    let rest = number_at-all_raised (raised numbers pair.0 pair.1) pairs i few in
    elim (cases_eq i pair.0) [
      | inl e ↦
          let one = number_at-raised_same numbers pair.0 pair.1 i few e in
          let all = greatest_here pair pairs i e in
          let same : number_at numbers i ≡ number_at numbers pair.0 = ap (number_at numbers) e in
          omega (arith, rest, one, all, same)
      | inr ne ↦ omega (arith, rest, number_at-raised_other numbers pair.0 pair.1 i few ne, greatest_other pair pairs i ne)
    ]

IsNormal-all_raised : (numbers : Numbers) (pairs : List (ℕ × ℕ)) → IsNormal numbers → IsNormal (all_raised numbers pairs)
IsNormal-all_raised numbers [] normal = normal
IsNormal-all_raised numbers (pair ∷ pairs) normal = IsNormal-all_raised (raised numbers pair.0 pair.1) pairs (IsNormal-numbers_of (with_at (number_at numbers) pair.0 (max (number_at numbers pair.0) pair.1)))

empty_normal : IsNormal map.empty
empty_normal = subst IsNormal (sym (empty-numbers_of (λ i. 0) (λ i. refl))) (IsNormal-numbers_of (λ i. 0))

raised_is : (pairs : List (ℕ × ℕ)) (i : ℕ) → i < identity_limit → number_at (all_raised map.empty pairs) i ≡ greatest pairs i
raised_is pairs i few = omega (arith, number_at-all_raised map.empty pairs i few, number_at-empty i)

raised_spellable : (most : ℕ) (barred : IdentitySet) (pairs : List (ℕ × ℕ)) → AreRising most barred 0 pairs → AreSpellable most (all_raised map.empty pairs) × AreFree barred (all_raised map.empty pairs)
raised_spellable most barred pairs rising =
    let normal = IsNormal-all_raised map.empty pairs empty_normal in (
      record {
        normal = normal;
        small = λ i. elim (cases_lt i identity_limit) [
          | inl lt ↦ omega (arith, raised_is pairs i lt, greatest_small most barred 0 pairs i rising)
          | inr le ↦ omega (arith, number_at_above (all_raised map.empty pairs) normal i le)
        ];
      },
      λ i bar. elim (cases_lt i identity_limit) [
        | inl lt ↦ raised_is pairs i lt ∙ greatest_free most barred 0 pairs i rising bar
        | inr le ↦ number_at_above (all_raised map.empty pairs) normal i le
      ],
    )

pairs_of-raised : (most : ℕ) (barred : IdentitySet) (pairs : List (ℕ × ℕ)) → AreRising most barred 0 pairs → pairs_of (number_at (all_raised map.empty pairs)) ≡ pairs
unfolding pairs_of
pairs_of-raised most barred pairs rising = pairs_back most barred (number_at (all_raised map.empty pairs)) identity_limit 0 pairs refl rising (λ i l m. raised_is pairs i m)

pairs_of-rising : (most : ℕ) (barred : IdentitySet) (numbers : Numbers) → AreSpellable most numbers → AreFree barred numbers → AreRising most barred 0 (pairs_of (number_at numbers))
unfolding pairs_of
pairs_of-rising most barred numbers is free = pairs_rise most barred (number_at numbers) identity_limit 0 refl is.small free

raised-pairs_of : (numbers : Numbers) → IsNormal numbers → all_raised map.empty (pairs_of (number_at numbers)) ≡ numbers
unfolding pairs_of
raised-pairs_of numbers normal =
    let pairs : List (ℕ × ℕ) = filter_map (pair_at (number_at numbers)) identities in
    same_numbers (all_raised map.empty pairs) numbers (IsNormal-all_raised map.empty pairs empty_normal) normal
    (λ i few. raised_is pairs i few ∙ greatest_is (number_at numbers) identity_limit 0 i (omega arith) few)

pub few_pairs : (number : ℕ → ℕ) → length (pairs_of number) ≤ identity_limit
unfolding pairs_of
few_pairs number = pairs_few number 0 identity_limit

pairs_same : (f g : ℕ → ℕ) (n first : ℕ) → ((i : ℕ) → i < first + n → f i ≡ g i) → filter_map (pair_at f) (range_with_len first n) ≡ filter_map (pair_at g) (range_with_len first n)
pairs_same f g zero first same = refl
pairs_same f g (suc n) first same =
    ap (λ k. cons_option (pair_unless_zero first k) (filter_map (pair_at f) (range_with_len (first + 1) n))) (same first (omega arith))
    ∙ ap (cons_option (pair_at g first)) (pairs_same f g n (first + 1) (λ i l. same i (omega arith)))

-- only the numbers at identities are spelled
pub pairs_of-same : (f g : ℕ → ℕ) → ((i : ℕ) → i < identity_limit → f i ≡ g i) → pairs_of f ≡ pairs_of g
unfolding pairs_of
pairs_of-same f g same = pairs_same f g identity_limit 0 same

pub numbers_spelled-same : (f g : ℕ → ℕ) → ((i : ℕ) → i < identity_limit → f i ≡ g i) → numbers_spelled f ≡ numbers_spelled g
numbers_spelled-same f g same = ap (λ (pairs : List (ℕ × ℕ)). length pairs ∷ flat_map pair_spelled pairs) (pairs_of-same f g same)

-- NUMBERS

pub numbers_takes : (most : ℕ) (barred : IdentitySet) (bytes : List ℕ) (numbers : Numbers) (rest : List ℕ) → AreBytes bytes → numbers_in most barred bytes ≡ Ok (numbers, rest) → Takes bytes (numbers_spelled (number_at numbers)) rest × AreSpellable most numbers × AreFree barred numbers
unfolding numbers_in
numbers_takes most barred bytes numbers rest fits e =
    let a = bind_ok (byte_in bytes) (λ count. kept (nat_le count.0 identity_limit) (length bytes) >>= λ _. raised_by map.empty (pairs_in most barred 0 count.0 count.1)) (numbers, rest) e in
    let rule = kept_ok (nat_le a.0.0 identity_limit) (length bytes) (λ _. raised_by map.empty (pairs_in most barred 0 a.0.0 a.0.1)) (numbers, rest) a.2 in
    let b = bind_ok (pairs_in most barred 0 a.0.0 a.0.1) (λ pairs. Ok (all_raised map.empty pairs.0, pairs.1)) (numbers, rest) rule.1 in
    let pairs : List (ℕ × ℕ) = b.0.0 in
    let first = byte_takes bytes a.0.0 a.0.1 fits a.1 in
    let second = pairs_take most barred 0 a.0.0 a.0.1 pairs b.0.1 first.0.rest_are_bytes b.1 in
    let both : Takes bytes (a.0.0 ∷ flat_map pair_spelled pairs) b.0.1 = takes_then bytes (a.0.0 ∷ []) a.0.1 (flat_map pair_spelled pairs) b.0.1 first.0 second.0 in
    let counted : Takes bytes (length pairs ∷ flat_map pair_spelled pairs) b.0.1 = subst (λ (n : ℕ). Takes bytes (n ∷ flat_map pair_spelled pairs) b.0.1) (sym second.1) both in
    let whole : Takes bytes (numbers_spelled (number_at (all_raised map.empty pairs))) b.0.1 =
    subst (λ (ps : List (ℕ × ℕ)). Takes bytes (length ps ∷ flat_map pair_spelled ps) b.0.1) (sym (pairs_of-raised most barred pairs second.2)) counted in
    subst (λ (x : Numbers × List ℕ). Takes bytes (numbers_spelled (number_at x.0)) x.1 × AreSpellable most x.0 × AreFree barred x.0) (ok_is (all_raised map.empty pairs, b.0.1) (numbers, rest) b.2)
    (let sound = raised_spellable most barred pairs second.2 in (whole, sound.0, sound.1))

pub numbers_again : (most : ℕ) (barred : IdentitySet) (numbers : Numbers) (rest : List ℕ) → most < 2 ^ 64 → AreSpellable most numbers → AreFree barred numbers → numbers_in most barred (numbers_spelled (number_at numbers) ++ rest) ≡ Ok (numbers, rest)
unfolding numbers_in
numbers_again most barred numbers rest limit is free =
    let pairs : List (ℕ × ℕ) = pairs_of (number_at numbers) in
    kept_on (nat_le (length pairs) identity_limit) (suc (length (flat_map pair_spelled pairs ++ rest))) (λ _. raised_by map.empty (pairs_in most barred 0 (length pairs) (flat_map pair_spelled pairs ++ rest))) (le-leb _ _ (few_pairs (number_at numbers)))
    ∙ ap (raised_by map.empty) (pairs_again most barred 0 pairs rest limit (pairs_of-rising most barred numbers is free))
    ∙ ap (λ (m : Numbers). Ok (m, rest)) (raised-pairs_of numbers is.normal)

-- SETS

abbrev AreIds : ℕ → List ℕ → Type 0
AreIds least [] = Unit {0}
AreIds least (id ∷ ids) = IsAllowed least nobody id × AreIds (suc id) ids

members_take : (least count : ℕ) (bytes ids rest : List ℕ) → AreBytes bytes → members_from least count bytes ≡ Ok (ids, rest) → Takes bytes ids rest × (length ids ≡ count) × AreIds least ids
unfolding members_from
members_take least zero bytes ids rest fits e =
    subst (λ (x : List ℕ × List ℕ). Takes bytes x.0 x.1 × (length x.0 ≡ 0) × AreIds least x.0) (ok_is ([], bytes) (ids, rest) e) (takes_nothing bytes fits, refl, tt)
members_take least (suc count) bytes ids rest fits e =
    let a = bind_ok (identity_in least nobody bytes) (λ first. members_from (suc first.0) count first.1 >>= λ others. Ok (first.0 ∷ others.0, others.1)) (ids, rest) e in
    let b = bind_ok (members_from (suc a.0.0) count a.0.1) (λ others. Ok (a.0.0 ∷ others.0, others.1)) (ids, rest) a.2 in
    let first = identity_takes least nobody bytes a.0.0 a.0.1 fits a.1 in
    let second = members_take (suc a.0.0) count a.0.1 b.0.0 b.0.1 first.0.rest_are_bytes b.1 in
    let both = takes_then bytes (a.0.0 ∷ []) a.0.1 b.0.0 b.0.1 first.0 second.0 in
    subst (λ (x : List ℕ × List ℕ). Takes bytes x.0 x.1 × (length x.0 ≡ suc count) × AreIds least x.0) (ok_is (a.0.0 ∷ b.0.0, b.0.1) (ids, rest) b.2)
    (both, ap suc second.1, (first.1, second.2))

members_again : (least : ℕ) (ids rest : List ℕ) → AreIds least ids → members_from least (length ids) (ids ++ rest) ≡ Ok (ids, rest)
unfolding members_from
members_again least [] rest rising = refl
members_again least (id ∷ ids) rest rising =
    ap (λ (r : Result (ℕ × List ℕ) Fault). r >>= λ first. members_from (suc first.0) (length ids) first.1 >>= λ others. Ok (first.0 ∷ others.0, others.1)) (identity_again least nobody id (ids ++ rest) rising.0)
    ∙ ap (λ (r : Result (List ℕ × List ℕ) Fault). r >>= λ others. Ok (id ∷ others.0, others.1)) (members_again (suc id) ids rest rising.1)

abbrev among : List ℕ → ℕ → Bool
among [] i = false
among (id ∷ ids) i = (i == id) || among ids i

among_here : (id : ℕ) (ids : List ℕ) (i : ℕ) → i ≡ id → among (id ∷ ids) i ≡ true
among_here id ids i e = let u : nat_eq i id ≡ true = grind rules in ap (λ b. b || among ids i) u

among_other : (id : ℕ) (ids : List ℕ) (i : ℕ) → i ≢ id → among (id ∷ ids) i ≡ among ids i
among_other id ids i ne = let u : nat_eq i id ≡ false = grind rules in ap (λ b. b || among ids i) u

among_below : (least : ℕ) (ids : List ℕ) (i : ℕ) → AreIds least ids → i < least → among ids i ≡ false
among_below least [] i rising lt = refl
among_below least (id ∷ ids) i rising lt =
    let from = rising.0.from in
    among_other id ids i (λ e. omega arith) ∙ among_below (suc id) ids i rising.1 (omega arith)

ids_from : (least from : ℕ) (ids : List ℕ) → from ≤ least → AreIds least ids → AreIds from ids
ids_from least from [] le rising = tt
ids_from least from (id ∷ ids) le rising =
    let at_least = rising.0.from in
    (record { from = omega arith; small = rising.0.small; free = refl }, rising.1)

-- the members of a set that has these members
ids_back : (set : IdentitySet) (n first : ℕ) (ids : List ℕ) → first + n ≡ identity_limit → AreIds first ids → ((i : ℕ) → first ≤ i → set i ≡ among ids i) → filter set (range_with_len first n) ≡ ids
ids_back set zero first [] len rising same = refl
ids_back set zero first (id ∷ ids) len rising same = let from = rising.0.from in let small = rising.0.small in absurd (omega arith)
ids_back set (suc n) first [] len rising same =
    ap (λ b. cond b (first ∷ filter set (range_with_len (first + 1) n)) (filter set (range_with_len (first + 1) n))) (same first (omega arith))
    ∙ ids_back set n (first + 1) [] (omega arith) tt (λ i l. same i (omega arith))
ids_back set (suc n) first (id ∷ ids) len rising same =
    let from = rising.0.from in
    elim (cases_eq first id) [
      | inl e ↦
          let next : suc id ≡ first + 1 = omega arith in
          ap (λ b. cond b (first ∷ filter set (range_with_len (first + 1) n)) (filter set (range_with_len (first + 1) n))) (same first (omega arith) ∙ among_here id ids first e)
          ∙ ap (λ j. j ∷ filter set (range_with_len (first + 1) n)) e
          ∙ ap (λ is. id ∷ is) (ids_back set n (first + 1) ids (omega arith) (subst (λ l. AreIds l ids) next rising.1) (λ i l. same i (omega arith) ∙ among_other id ids i (λ f. omega arith)))
      | inr ne ↦
          let later : AreIds (first + 1) (id ∷ ids) = (record { from = omega arith; small = rising.0.small; free = refl }, rising.1) in
          ap (λ b. cond b (first ∷ filter set (range_with_len (first + 1) n)) (filter set (range_with_len (first + 1) n))) (same first (omega arith) ∙ among_below (first + 1) (id ∷ ids) first later (omega arith))
          ∙ ids_back set n (first + 1) (id ∷ ids) (omega arith) later (λ i l. same i (omega arith))
    ]

ids_rise_one : (first : ℕ) (b : Bool) (ids : List ℕ) → first < identity_limit → AreIds (first + 1) ids → AreIds first (cond b (first ∷ ids) ids)
ids_rise_one first true ids few rising =
    let next : first + 1 ≡ suc first = omega arith in
    (record { from = omega arith; small = few; free = refl }, subst (λ l. AreIds l ids) next rising)
ids_rise_one first false ids few rising = ids_from (first + 1) first ids (omega arith) rising

ids_rise : (set : IdentitySet) (n first : ℕ) → first + n ≡ identity_limit → AreIds first (filter set (range_with_len first n))
ids_rise set zero first len = tt
ids_rise set (suc n) first len = ids_rise_one first (set first) (filter set (range_with_len (first + 1) n)) (omega arith) (ids_rise set n (first + 1) (omega arith))

among_step : (first : ℕ) (b : Bool) (i : ℕ) (ids : List ℕ) → i ≢ first → among (cond b (first ∷ ids) ids) i ≡ among ids i
among_step first true i ids ne = among_other first ids i ne
among_step first false i ids ne = refl

among_first : (first : ℕ) (b : Bool) (ids : List ℕ) → among ids first ≡ false → among (cond b (first ∷ ids) ids) first ≡ b
among_first first true ids none = among_here first ids first refl
among_first first false ids none = none

among_before : (set : IdentitySet) (n first i : ℕ) → i < first → among (filter set (range_with_len first n)) i ≡ false
among_before set zero first i lt = refl
among_before set (suc n) first i lt =
    among_step first (set first) i (filter set (range_with_len (first + 1) n)) (λ e. omega arith) ∙ among_before set n (first + 1) i (omega arith)

among_is : (set : IdentitySet) (n first i : ℕ) → first ≤ i → i < first + n → among (filter set (range_with_len first n)) i ≡ set i
among_is set zero first i le lt = absurd (omega arith)
among_is set (suc n) first i le lt =
    let others : List ℕ = filter set (range_with_len (first + 1) n) in
    elim (cases_eq i first) [
      | inl e ↦ ap (among (cond (set first) (first ∷ others) others)) e ∙ among_first first (set first) others (among_before set n (first + 1) first (omega arith)) ∙ ap set (sym e)
      | inr ne ↦ among_step first (set first) i others ne ∙ among_is set n (first + 1) i (omega arith) (omega arith)
    ]

or_among : (a b c : Bool) → ((a || b) || c) ≡ (b || (a || c))
or_among true true c = refl
or_among true false c = refl
or_among false true c = refl
or_among false false c = refl

members_in-all_added : (bits : ℕ) (ids : List ℕ) (i : ℕ) → members_in (all_added bits ids) i ≡ (members_in bits i || among ids i)
members_in-all_added bits [] i = elim (cases_Bool (members_in bits i)) [
  | inl e ↦ e ∙ sym (ap (λ b. b || false) e)
  | inr e ↦ e ∙ sym (ap (λ b. b || false) e)
]
members_in-all_added bits (id ∷ ids) i =
    members_in-all_added (bit_or bits (2 ^ id)) ids i ∙ ap (λ b. b || among ids i) (members_in-with bits id i) ∙ or_among (i == id) (members_in bits i) (among ids i)

all_added_small : (bits least : ℕ) (ids : List ℕ) → bits < 2 ^ identity_limit → AreIds least ids → all_added bits ids < 2 ^ identity_limit
all_added_small bits least [] small rising = small
all_added_small bits least (id ∷ ids) small rising = all_added_small (bit_or bits (2 ^ id)) (suc id) ids (or_lt identity_limit bits (2 ^ id) small (pow_below id identity_limit rising.0.small)) rising.1

added_is : (ids : List ℕ) (i : ℕ) → members_in (all_added 0 ids) i ≡ among ids i
added_is ids i = members_in-all_added 0 ids i ∙ ap (λ b. b || among ids i) (members_in-zero i)

members_of-added : (ids : List ℕ) → AreIds 0 ids → members_of (members_in (all_added 0 ids)) ≡ ids
members_of-added ids rising = ids_back (members_in (all_added 0 ids)) identity_limit 0 ids refl rising (λ i l. added_is ids i)

added-members_of : (set : ℕ) → set < 2 ^ identity_limit → all_added 0 (members_of (members_in set)) ≡ set
added-members_of set small =
    let ids : List ℕ = members_of (members_in set) in
    same_members identity_limit (all_added 0 ids) set (all_added_small 0 0 ids (pow_pos identity_limit) (ids_rise (members_in set) identity_limit 0 refl)) small
    (λ i few. added_is ids i ∙ among_is (members_in set) identity_limit 0 i (omega arith) few)

count_is : (set : IdentitySet) → member_count set ≡ length (members_of set)
unfolding member_count
count_is set = refl

pub ids_take : (bytes : List ℕ) (set : ℕ) (rest : List ℕ) → AreBytes bytes → ids_in bytes ≡ Ok (set, rest) → Takes bytes (ids_spelled (members_in set)) rest × IsSomeSet set
unfolding ids_in ids_spelled member_count
ids_take bytes set rest fits e =
    let a = bind_ok (byte_in bytes) (λ count. kept (nat_le 1 count.0) (length bytes) >>= λ _. added_by 0 (members_from 0 count.0 count.1)) (set, rest) e in
    let rule = kept_ok (nat_le 1 a.0.0) (length bytes) (λ _. added_by 0 (members_from 0 a.0.0 a.0.1)) (set, rest) a.2 in
    let b = bind_ok (members_from 0 a.0.0 a.0.1) (λ ids. Ok (all_added 0 ids.0, ids.1)) (set, rest) rule.1 in
    let ids : List ℕ = b.0.0 in
    let first = byte_takes bytes a.0.0 a.0.1 fits a.1 in
    let second = members_take 0 a.0.0 a.0.1 ids b.0.1 first.0.rest_are_bytes b.1 in
    let both : Takes bytes (a.0.0 ∷ ids) b.0.1 = takes_then bytes (a.0.0 ∷ []) a.0.1 ids b.0.1 first.0 second.0 in
    let counted : Takes bytes (length ids ∷ ids) b.0.1 = subst (λ (n : ℕ). Takes bytes (n ∷ ids) b.0.1) (sym second.1) both in
    let same : members_of (members_in (all_added 0 ids)) ≡ ids = members_of-added ids second.2 in
    let some : 1 ≤ a.0.0 = leb-true 1 a.0.0 rule.0 in
    let members : member_count (members_in (all_added 0 ids)) ≡ length ids = count_is (members_in (all_added 0 ids)) ∙ ap length same in
    let whole : Takes bytes (length (members_of (members_in (all_added 0 ids))) ∷ members_of (members_in (all_added 0 ids))) b.0.1 = subst (λ (is : List ℕ). Takes bytes (length is ∷ is) b.0.1) (sym same) counted in
    subst (λ (x : ℕ × List ℕ). Takes bytes (ids_spelled (members_in x.0)) x.1 × IsSomeSet x.0) (ok_is (all_added 0 ids, b.0.1) (set, rest) b.2)
    (whole, record { bits = all_added_small 0 0 ids (pow_pos identity_limit) second.2; some = omega (arith, members, second.1, some) })

pub ids_again : (set : ℕ) (rest : List ℕ) → IsSomeSet set → ids_in (ids_spelled (members_in set) ++ rest) ≡ Ok (set, rest)
unfolding ids_in ids_spelled member_count
ids_again set rest is =
    let ids : List ℕ = members_of (members_in set) in
    let some : 1 ≤ length ids = subst (λ (n : ℕ). 1 ≤ n) (count_is (members_in set)) is.some in
    kept_on (nat_le 1 (length ids)) (suc (length (ids ++ rest))) (λ _. added_by 0 (members_from 0 (length ids) (ids ++ rest))) (le-leb _ _ some)
    ∙ ap (added_by 0) (members_again 0 ids rest (ids_rise (members_in set) identity_limit 0 refl))
    ∙ ap (λ (s : ℕ). Ok (s, rest)) (added-members_of set is.bits)

-- numbers that a function read
pub read_spellable : (most : ℕ) (barred : IdentitySet) (bytes : List ℕ) (r : Result (Numbers × Bor (List ℕ)) FieldError) → AreBytes bytes → Gives (λ x. (x.0, x.1.now)) r (numbers_in most barred bytes) → IfOk r (λ x. AreSpellable most x.0)
read_spellable most barred bytes (Ok x) fits given = (numbers_takes most barred bytes x.0 x.1.now fits given).1
read_spellable most barred bytes (Err e) fits given = tt
