-- Counters that are read are spelled so, what is spelled so is read again, and the history says the spelling.
use Rattle.std.proofs.Common.{◌≡◌, ℕ, Bool, true, false, not, cond, nat_eq, List, ◌++◌, Result, Ok, refl, sym, ap, subst, ◌∙◌, append_assoc, arith, inl, inr}
use Rattle.std.specs.Prelude.{◌≤◌, ◌||◌, ◌==◌}
use Rattle.std.proofs.lemmas.Bool.{cases_Bool, eqb-true, or_parts}
use Rattle.model_history.specs.Table.{identity_limit}
use Rattle.model_history.specs.Vector.{VersionVector, IdentitySet}
use Rattle.model_history.specs.History.{History, cut, is_pruned}
use Rattle.model_history.specs.Cuts.{IsPrunedCut}
use Rattle.model_history.proofs.Bridge.{pruned_cut}
use Rattle.model_meanings.specs.Refusal.{greatest_share}
use Rattle.model_meanings.specs.Counter.{share}
use Rattle.model_meanings.proofs.SharesOfLogs.{share_is}
use Rattle.base_bytes.specs.declared.fault.Fault.{Fault}
use Rattle.base_bytes.specs.Fields.{◌>>=◌}
use Rattle.base_bytes.specs.Spelling.{AreBytes, Takes}
use Rattle.base_bytes.specs.FieldLaws.{bind_ok, ok_is, takes_then}
use Rattle.base_vectors.specs.Vectors.{Numbers, number_at}
use Rattle.base_vectors.specs.Spelling.{numbers_spelled, numbers_in, AreFree}
use Rattle.base_vectors.proofs.Laws.{number_at_above}
use Rattle.base_vectors.proofs.Spellings.{numbers_takes, numbers_again, numbers_spelled-same}
use Rattle.model_kinds.specs.SixKinds.{increment, decrement}
use Rattle.model_kinds.specs.declared.operation.Op.{Op}
use Rattle.data_counters.specs.declared.counter.GCounter.{GCounter}
use Rattle.data_counters.specs.declared.counter.PnCounter.{PnCounter}
use Rattle.data_counters.specs.Counter.{counter_mentioned, AreShares}
use Rattle.data_counters.specs.Signed.{signed_mentioned, AreBothShares}
use Rattle.data_counters.specs.Spelled.{growing_byte, signed_byte, counter_spelled, signed_spelled, counter_in, signed_in, IsSoundCounter, IsSoundSigned, share_left, signed_history_spelled}

-- GROWING

pub counter_takes : (barred : IdentitySet) (bytes : List ℕ) (x : GCounter) (rest : List ℕ) → AreBytes bytes → counter_in barred bytes ≡ Ok (x, rest) → Takes bytes (counter_spelled x) rest × IsSoundCounter x × AreFree barred x.shares
unfolding counter_in
counter_takes barred bytes x rest fits e =
    let a = bind_ok (numbers_in greatest_share barred bytes) (λ shares. Ok (record { shares = shares.0 }, shares.1)) (x, rest) e in
    subst (λ (y : GCounter × List ℕ). Takes bytes (counter_spelled y.0) y.1 × IsSoundCounter y.0 × AreFree barred y.0.shares) (ok_is (record { shares = a.0.0 }, a.0.1) (x, rest) a.2)
    (numbers_takes greatest_share barred bytes a.0.0 a.0.1 fits a.1)

pub counter_again : (barred : IdentitySet) (x : GCounter) (rest : List ℕ) → IsSoundCounter x → AreFree barred x.shares → counter_in barred (counter_spelled x ++ rest) ≡ Ok (x, rest)
unfolding counter_in
counter_again barred x rest sound free =
    ap (λ (r : Result (Numbers × List ℕ) Fault). r >>= λ shares. Ok (record { shares = shares.0 }, shares.1)) (numbers_again greatest_share barred x.shares rest (omega arith) sound free)

unmentioned : (state : GCounter) (i : ℕ) → number_at state.shares i ≡ 0 → counter_mentioned state i ≡ false
unmentioned state i none = ap (λ n. not (nat_eq n 0)) none

is_zero : (n : ℕ) → not (nat_eq n 0) ≡ false → n ≡ 0
is_zero n none = elim (cases_Bool (nat_eq n 0)) [
  | inl e ↦ eqb-true n 0 e
  | inr e ↦ absurd (let no : true ≡ false = sym (ap not e) ∙ none in cc)
]

pub growing_takes : (kind : ℕ) (barred : IdentitySet) (bytes : List ℕ) (x : GCounter) (rest : List ℕ) → (kind == growing_byte) ≡ true → AreBytes bytes → counter_in barred bytes ≡ Ok (x, rest)
    → Takes bytes (counter_spelled x) rest × IsSoundCounter x × (growing_byte ≡ kind) × ((i : ℕ) → barred i ≡ true → counter_mentioned x i ≡ false)
growing_takes kind barred bytes x rest known fits e =
    let t = counter_takes barred bytes x rest fits e in
    (t.0, t.1, sym (eqb-true kind growing_byte known), λ i bar. unmentioned x i (t.2 i bar))

pub growing_again : (x : GCounter) (barred : IdentitySet) (rest : List ℕ) → IsSoundCounter x → ((i : ℕ) → barred i ≡ true → counter_mentioned x i ≡ false) → counter_in barred (counter_spelled x ++ rest) ≡ Ok (x, rest)
growing_again x barred rest sound free = counter_again barred x rest sound (λ i bar. is_zero (number_at x.shares i) (free i bar))

pub growing_few : (x : GCounter) (id : ℕ) → IsSoundCounter x → identity_limit ≤ id → counter_mentioned x id ≡ false
growing_few x id sound many = unmentioned x id (number_at_above x.shares sound.normal id many)

pub shares_mean : {Op : Type 0} (amount : Op → ℕ) (state : GCounter) (log : History Op) (held : VersionVector) (gone : IdentitySet) → IsPrunedCut log held gone → AreShares amount state log held gone
    → counter_spelled state ≡ numbers_spelled (share_left amount (cut log held))
shares_mean amount state log held gone h p = numbers_spelled-same (number_at state.shares) (share_left amount (cut log held)) (λ i few.
    let same : gone i ≡ is_pruned (cut log held) i = (pruned_cut log held gone h).1 i in
    elim (cases_Bool (gone i)) [
      | inl away ↦ p.away i away ∙ ap (λ b. cond b 0 (share amount (cut log held) i)) (sym away ∙ same)
      | inr kept ↦ share_is amount log held i (number_at state.shares i) h.cut (p.share i few kept) ∙ ap (λ b. cond b 0 (share amount (cut log held) i)) (sym kept ∙ same)
    ])

-- BOTH WAYS

signed_takes : (barred : IdentitySet) (bytes : List ℕ) (x : PnCounter) (rest : List ℕ) → AreBytes bytes → signed_in barred bytes ≡ Ok (x, rest) → Takes bytes (signed_spelled x) rest × IsSoundSigned x × AreFree barred x.plus.shares × AreFree barred x.minus.shares
unfolding signed_in
signed_takes barred bytes x rest fits e =
    let a = bind_ok (counter_in barred bytes) (λ plus. counter_in barred plus.1 >>= λ minus. Ok (record { plus = plus.0; minus = minus.0 }, minus.1)) (x, rest) e in
    let b = bind_ok (counter_in barred a.0.1) (λ minus. Ok (record { plus = a.0.0; minus = minus.0 }, minus.1)) (x, rest) a.2 in
    let first = counter_takes barred bytes a.0.0 a.0.1 fits a.1 in
    let second = counter_takes barred a.0.1 b.0.0 b.0.1 first.0.rest_are_bytes b.1 in
    subst (λ (y : PnCounter × List ℕ). Takes bytes (signed_spelled y.0) y.1 × IsSoundSigned y.0 × AreFree barred y.0.plus.shares × AreFree barred y.0.minus.shares) (ok_is (record { plus = a.0.0; minus = b.0.0 }, b.0.1) (x, rest) b.2)
    (takes_then bytes (counter_spelled a.0.0) a.0.1 (counter_spelled b.0.0) b.0.1 first.0 second.0, record { plus = first.1; minus = second.1 }, first.2, second.2)

pub both_take : (kind : ℕ) (barred : IdentitySet) (bytes : List ℕ) (x : PnCounter) (rest : List ℕ) → (kind == signed_byte) ≡ true → AreBytes bytes → signed_in barred bytes ≡ Ok (x, rest)
    → Takes bytes (signed_spelled x) rest × IsSoundSigned x × (signed_byte ≡ kind) × ((i : ℕ) → barred i ≡ true → signed_mentioned x i ≡ false)
both_take kind barred bytes x rest known fits e =
    let t = signed_takes barred bytes x rest fits e in
    (t.0, t.1, sym (eqb-true kind signed_byte known), λ i bar. ap (λ b. b || counter_mentioned x.minus i) (unmentioned x.plus i (t.2 i bar)) ∙ unmentioned x.minus i (t.3 i bar))

pub both_few : (x : PnCounter) (id : ℕ) → IsSoundSigned x → identity_limit ≤ id → signed_mentioned x id ≡ false
both_few x id sound many = ap (λ b. b || counter_mentioned x.minus id) (growing_few x.plus id sound.plus many) ∙ growing_few x.minus id sound.minus many

pub both_again : (x : PnCounter) (barred : IdentitySet) (rest : List ℕ) → IsSoundSigned x → ((i : ℕ) → barred i ≡ true → signed_mentioned x i ≡ false) → signed_in barred (signed_spelled x ++ rest) ≡ Ok (x, rest)
unfolding signed_in
both_again x barred rest sound free =
    let neither : (i : ℕ) → barred i ≡ true → (counter_mentioned x.plus i ≡ false) × (counter_mentioned x.minus i ≡ false) = λ i bar. or_parts (counter_mentioned x.plus i) (counter_mentioned x.minus i) (free i bar) in
    ap (signed_in barred) (append_assoc (counter_spelled x.plus) (counter_spelled x.minus) rest)
    ∙ ap (λ (r : Result (GCounter × List ℕ) Fault). r >>= λ plus. counter_in barred plus.1 >>= λ minus. Ok (record { plus = plus.0; minus = minus.0 }, minus.1)) (growing_again x.plus barred (counter_spelled x.minus ++ rest) sound.plus (λ i bar. (neither i bar).0))
    ∙ ap (λ (r : Result (GCounter × List ℕ) Fault). r >>= λ minus. Ok (record { plus = x.plus; minus = minus.0 }, minus.1)) (growing_again x.minus barred rest sound.minus (λ i bar. (neither i bar).1))

pub both_mean : (state : PnCounter) (log : History Op) (held : VersionVector) (gone : IdentitySet) → IsPrunedCut log held gone → AreBothShares state log held gone → signed_spelled state ≡ signed_history_spelled (cut log held)
both_mean state log held gone h p =
    ap (λ (bytes : List ℕ). bytes ++ counter_spelled state.minus) (shares_mean increment state.plus log held gone h p.plus)
    ∙ ap (λ (bytes : List ℕ). numbers_spelled (share_left increment (cut log held)) ++ bytes) (shares_mean decrement state.minus log held gone h p.minus)
