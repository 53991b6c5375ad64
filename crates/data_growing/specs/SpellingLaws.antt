-- What is read is spelled so, what is spelled so is read again, and data of a history are spelled as the history says.
use Rattle.std.proofs.Common.{◌≡◌, ℕ, zero, suc, ◌^◌, ◌<◌, ◌≤◌, Bool, true, false, List, [], ◌∷◌, ◌++◌, length, Option, None, Some, Result, Ok, refl, sym, ap, subst, ◌∙◌, append_assoc, arith}
use Rattle.std.specs.Prelude.{nat_le, nat_lt, ◌==◌, if◌then◌else◌}
use Rattle.std.specs.List.{flat_map, AllByRecursion}
use Rattle.std.proofs.lemmas.Bool.{eqb-true, eqb-false, leb-true, le-leb, ltb-true, lt-ltb}
use Rattle.std.proofs.lemmas.List.Concat.{flat_map-cons}
use Rattle.model_history.specs.Table.{identity_limit}
use Rattle.model_history.specs.Texts.{Text}
use Rattle.model_history.specs.Vector.{IdentitySet}
use Rattle.model_meanings.specs.Refusal.{greatest_share}
use Rattle.base_bytes.specs.declared.fault.Fault.{Fault}
use Rattle.base_bytes.specs.Fields.{◌>>=◌, kept, byte_in, number_in, text_in, is_after}
use Rattle.base_bytes.specs.Spelling.{IsText, number_spelled, text_spelled, AreBytes, Takes}
use Rattle.base_bytes.specs.FieldLaws.{bind_ok, kept_ok, kept_on, ok_is, takes_nothing, takes_then, byte_takes, number_takes, number_again, text_takes, text_again}
use Rattle.base_bytes.specs.TextOrder.{IsBelowAll, IsRising}
use Rattle.data_growing.specs.declared.flag.Flag.{Flag}
use Rattle.data_growing.specs.declared.register.Written.{Written}
use Rattle.data_growing.specs.TextSetLaws.{below_all_of_less}
use Rattle.data_growing.specs.Spelling.{set_spelled, IsSoundSet, switch_spelled, register_spelled, IsSoundWrite, IsSoundRegister}
use Rattle.data_growing.specs.Reading.{texts_in, set_in, flag_in, written_in, register_in}

-- SETS

-- each text comes after the one before them, where there is one
abbrev AreAfter : Option Text → List Text → Type 0
AreAfter None texts = Unit {0}
AreAfter (Some before) texts = IsBelowAll before texts

nothing_after : (before : Option Text) → AreAfter before []
nothing_after None = tt
nothing_after (Some before) = tt

after_first : (before : Option Text) (x : Text) (xs : List Text) → is_after before x ≡ true → IsBelowAll x xs → AreAfter before (x ∷ xs)
after_first None x xs p h = tt
after_first (Some before) x xs p h = (p, below_all_of_less before x xs p h)

first_after : (before : Option Text) (x : Text) (xs : List Text) → AreAfter before (x ∷ xs) → is_after before x ≡ true
first_after None x xs h = refl
first_after (Some before) x xs h = h.0

-- texts in order, after the one before them
record AreTexts (before : Option Text) (n : ℕ) (texts : List Text) : Type 0 where
  after : AreAfter before texts
  rising : IsRising texts
  each : AllByRecursion IsText texts
  counted : length texts ≡ n

texts_take : (n : ℕ) (before : Option Text) (bytes : List ℕ) (texts : List Text) (rest : List ℕ) → AreBytes bytes → texts_in n before bytes ≡ Ok (texts, rest) → Takes bytes (flat_map text_spelled texts) rest × AreTexts before n texts
unfolding texts_in
texts_take zero before bytes texts rest fits e =
    subst (λ (x : List Text × List ℕ). Takes bytes (flat_map text_spelled x.0) x.1 × AreTexts before 0 x.0) (ok_is ([], bytes) (texts, rest) e)
    (takes_nothing bytes fits, record { after = nothing_after before; rising = tt; each = tt; counted = refl })
texts_take (suc n) before bytes texts rest fits e =
    let a = bind_ok (text_in before bytes) (λ first. texts_in n (Some first.0) first.1 >>= λ others. Ok (first.0 ∷ others.0, others.1)) (texts, rest) e in
    let x : Text × List ℕ = a.0 in
    let b = bind_ok (texts_in n (Some x.0) x.1) (λ others. Ok (x.0 ∷ others.0, others.1)) (texts, rest) a.2 in
    let xs : List Text × List ℕ = b.0 in
    let first = text_takes before bytes x.0 x.1 fits a.1 in
    let second = texts_take n (Some x.0) x.1 xs.0 xs.1 first.0.rest_are_bytes b.1 in
    let both = takes_then bytes (text_spelled x.0) x.1 (flat_map text_spelled xs.0) xs.1 first.0 second.0 in
    subst (λ (y : List Text × List ℕ). Takes bytes (flat_map text_spelled y.0) y.1 × AreTexts before (suc n) y.0) (ok_is (x.0 ∷ xs.0, xs.1) (texts, rest) b.2) (
      rw flat_map-cons both,
      record {
        after = after_first before x.0 xs.0 first.2 second.1.after;
        rising = (second.1.after, second.1.rising);
        each = (first.1, second.1.each);
        counted = ap suc second.1.counted;
      },
    )

texts_again : (before : Option Text) (texts : List Text) (rest : List ℕ) → AreAfter before texts → IsRising texts → AllByRecursion IsText texts → texts_in (length texts) before (flat_map text_spelled texts ++ rest) ≡ Ok (texts, rest)
unfolding texts_in
texts_again before [] rest after rising each = refl
texts_again before (x ∷ xs) rest after rising each =
    let others : List ℕ = flat_map text_spelled xs ++ rest in
    let regrouped : flat_map text_spelled (x ∷ xs) ++ rest ≡ text_spelled x ++ others = ap (λ (t : List ℕ). t ++ rest) (flat_map-cons text_spelled x xs) ∙ append_assoc (text_spelled x) (flat_map text_spelled xs) rest in
    ap (texts_in (suc (length xs)) before) regrouped
    ∙ ap (λ (r : Result (Text × List ℕ) Fault). r >>= λ first. texts_in (length xs) (Some first.0) first.1 >>= λ more. Ok (first.0 ∷ more.0, more.1)) (text_again before x others each.0 (first_after before x xs after))
    ∙ ap (λ (r : Result (List Text × List ℕ) Fault). r >>= λ more. Ok (x ∷ more.0, more.1)) (texts_again (Some x) xs rest rising.0 rising.1 each.1)

-- what is read rises
pub texts_rise : (n : ℕ) (bytes : List ℕ) (texts : List Text) (rest : List ℕ) → AreBytes bytes → texts_in n None bytes ≡ Ok (texts, rest) → IsRising texts
texts_rise n bytes texts rest fits e = let t = texts_take n None bytes texts rest fits e in t.1.rising

pub set_takes : (bytes : List ℕ) (elements : List Text) (rest : List ℕ) → AreBytes bytes → set_in bytes ≡ Ok (elements, rest) → Takes bytes (set_spelled elements) rest × IsSoundSet elements
unfolding set_in
set_takes bytes elements rest fits e =
    let a = bind_ok (number_in bytes) (λ n. texts_in n.0 None n.1) (elements, rest) e in
    let n : ℕ × List ℕ = a.0 in
    let first = number_takes bytes n.0 n.1 fits a.1 in
    let second = texts_take n.0 None n.1 elements rest first.0.rest_are_bytes a.2 in
    let same : n.0 ≡ length elements = sym second.1.counted in
    let both = takes_then bytes (number_spelled n.0) n.1 (flat_map text_spelled elements) rest first.0 second.0 in (
      subst (λ (k : ℕ). Takes bytes (number_spelled k ++ flat_map text_spelled elements) rest) same both,
      record { rising = second.1.rising; texts = second.1.each; counted = subst (λ k. k < 2 ^ 64) same first.1 },
    )

pub set_again : (elements : List Text) (rest : List ℕ) → IsSoundSet elements → set_in (set_spelled elements ++ rest) ≡ Ok (elements, rest)
unfolding set_in
set_again elements rest is =
    ap set_in (append_assoc (number_spelled (length elements)) (flat_map text_spelled elements) rest)
    ∙ ap (λ (r : Result (ℕ × List ℕ) Fault). r >>= λ n. texts_in n.0 None n.1) (number_again (length elements) (flat_map text_spelled elements ++ rest) is.counted)
    ∙ texts_again None elements rest tt is.rising is.texts

-- FLAGS

switch_byte : (b : ℕ) → b ≤ 1 → b ≡ (if b == 1 then 1 else 0)
switch_byte zero le = refl
switch_byte (suc zero) le = refl
switch_byte (suc (suc b)) le = absurd (omega arith)

switch_small : (on : Bool) → nat_le (if on then 1 else 0) 1 ≡ true
switch_small true = refl
switch_small false = refl

switch_back : (on : Bool) → ((if on then 1 else 0) == 1) ≡ on
switch_back true = refl
switch_back false = refl

pub flag_takes : (bytes : List ℕ) (flag : Flag) (rest : List ℕ) → AreBytes bytes → flag_in bytes ≡ Ok (flag, rest) → Takes bytes (switch_spelled flag.on) rest × Unit {0}
unfolding flag_in
flag_takes bytes flag rest fits e =
    let a = bind_ok (byte_in bytes) (λ switch. kept (nat_le switch.0 1) (length bytes) >>= λ _. Ok (record { on = switch.0 == 1 }, switch.1)) (flag, rest) e in
    let b : ℕ × List ℕ = a.0 in
    let made : Flag × List ℕ = (record { on = b.0 == 1 }, b.1) in
    let rule = kept_ok (nat_le b.0 1) (length bytes) (λ _. Ok made) (flag, rest) a.2 in
    let taken = byte_takes bytes b.0 b.1 fits a.1 in
    let small : b.0 ≤ 1 = leb-true _ _ rule.0 in
    (subst (λ (x : Flag × List ℕ). Takes bytes (switch_spelled x.0.on) x.1) (ok_is made (flag, rest) rule.1) (subst (λ (k : ℕ). Takes bytes (k ∷ []) b.1) (switch_byte b.0 small) taken.0), tt)

pub flag_again : (flag : Flag) (rest : List ℕ) → flag_in (switch_spelled flag.on ++ rest) ≡ Ok (flag, rest)
unfolding flag_in
flag_again flag rest =
    let byte : ℕ = if flag.on then 1 else 0 in
    kept_on (nat_le byte 1) (length (byte ∷ rest)) (λ _. Ok (record { on = byte == 1 }, rest)) (switch_small flag.on)
    ∙ ap (λ (on : Bool). Ok (record { on = on }, rest)) (switch_back flag.on)

-- REGISTERS

-- what follows the timestamp of a write: its writer and its text
abbrev stamped_spelled : Written → List ℕ
stamped_spelled write = write.writer ∷ text_spelled write.text

written_takes : (timestamp : ℕ) (bytes : List ℕ) (write : Written) (rest : List ℕ) → AreBytes bytes → written_in timestamp bytes ≡ Ok (write, rest)
    → Takes bytes (stamped_spelled write) rest × (write.timestamp ≡ timestamp) × (write.writer < identity_limit) × IsText write.text
unfolding written_in
written_takes timestamp bytes write rest fits e =
    let a = bind_ok (byte_in bytes) (λ writer. kept (nat_lt writer.0 identity_limit) (length bytes) >>= λ _. text_in None writer.1 >>= λ text. Ok (record { text = text.0; timestamp = timestamp; writer = writer.0 }, text.1)) (write, rest) e in
    let w : ℕ × List ℕ = a.0 in
    let rule = kept_ok (nat_lt w.0 identity_limit) (length bytes) (λ _. text_in None w.1 >>= λ text. Ok (record { text = text.0; timestamp = timestamp; writer = w.0 }, text.1)) (write, rest) a.2 in
    let b = bind_ok (text_in None w.1) (λ text. Ok (record { text = text.0; timestamp = timestamp; writer = w.0 }, text.1)) (write, rest) rule.1 in
    let t : Text × List ℕ = b.0 in
    let first = byte_takes bytes w.0 w.1 fits a.1 in
    let second = text_takes None w.1 t.0 t.1 first.0.rest_are_bytes b.1 in
    let made : Written × List ℕ = (record { text = t.0; timestamp = timestamp; writer = w.0 }, t.1) in
    subst (λ (x : Written × List ℕ). Takes bytes (stamped_spelled x.0) x.1 × (x.0.timestamp ≡ timestamp) × (x.0.writer < identity_limit) × IsText x.0.text) (ok_is made (write, rest) b.2)
    (takes_then bytes (w.0 ∷ []) w.1 (text_spelled t.0) t.1 first.0 second.0, refl, ltb-true _ _ rule.0, second.1)

written_again : (write : Written) (rest : List ℕ) → IsSoundWrite write → written_in write.timestamp (stamped_spelled write ++ rest) ≡ Ok (write, rest)
unfolding written_in
written_again write rest is =
    kept_on (nat_lt write.writer identity_limit) (length (stamped_spelled write ++ rest)) (λ _. text_in None (text_spelled write.text ++ rest) >>= λ text. Ok (record { text = text.0; timestamp = write.timestamp; writer = write.writer }, text.1)) (lt-ltb _ _ is.writer_within)
    ∙ ap (λ (r : Result (Text × List ℕ) Fault). r >>= λ text. Ok (record { text = text.0; timestamp = write.timestamp; writer = write.writer }, text.1)) (text_again None write.text rest is.text_is refl)

-- what follows a timestamp, if it is 0 and if it isn't
abbrev unwritten : List ℕ → Result (Option Written × List ℕ) Fault
unwritten rest = Ok (None, rest)

abbrev write_in : ℕ → List ℕ → Result (Option Written × List ℕ) Fault
write_in timestamp bytes = written_in timestamp bytes >>= λ write. Ok (Some write.0, write.1)

abbrev after_timestamp : ℕ × List ℕ → Result (Option Written × List ℕ) Fault
after_timestamp n = if n.0 == 0 then unwritten n.1 else write_in n.0 n.1

after_takes : (bytes : List ℕ) (n : ℕ × List ℕ) (state : Option Written) (rest : List ℕ) → n.0 ≤ greatest_share → Takes bytes (number_spelled n.0) n.1 → after_timestamp n ≡ Ok (state, rest) → Takes bytes (register_spelled state) rest × IsSoundRegister state
after_takes bytes n state rest within first e = go (n.0 == 0) refl e
  where
    go : (none : Bool) → (n.0 == 0) ≡ none → (if none then unwritten n.1 else write_in n.0 n.1) ≡ Ok (state, rest) → Takes bytes (register_spelled state) rest × IsSoundRegister state
    go true is e =
        let nothing : n.0 ≡ 0 = eqb-true n.0 0 is in
        subst (λ (x : Option Written × List ℕ). Takes bytes (register_spelled x.0) x.1 × IsSoundRegister x.0) (ok_is (None, n.1) (state, rest) e)
        (subst (λ (k : ℕ). Takes bytes (number_spelled k) n.1) nothing first, tt)
    go false is e =
        let a = bind_ok (written_in n.0 n.1) (λ write. Ok (Some write.0, write.1)) (state, rest) e in
        let w : Written × List ℕ = a.0 in
        let second = written_takes n.0 n.1 w.0 w.1 first.rest_are_bytes a.1 in
        let same : n.0 ≡ w.0.timestamp = sym second.1 in
        let both = takes_then bytes (number_spelled n.0) n.1 (stamped_spelled w.0) w.1 first second.0 in
        let some = eqb-false n.0 0 is in
        subst (λ (x : Option Written × List ℕ). Takes bytes (register_spelled x.0) x.1 × IsSoundRegister x.0) (ok_is (Some w.0, w.1) (state, rest) a.2)
        (subst (λ (k : ℕ). Takes bytes (number_spelled k ++ stamped_spelled w.0) w.1) same both, record { above = omega (arith, same, some); within = omega (arith, same, within); writer_within = second.2; text_is = second.3 })

pub register_takes : (bytes : List ℕ) (state : Option Written) (rest : List ℕ) → AreBytes bytes → register_in bytes ≡ Ok (state, rest) → Takes bytes (register_spelled state) rest × IsSoundRegister state
unfolding register_in
register_takes bytes state rest fits e =
    let a = bind_ok (number_in bytes) (λ n. kept (nat_le n.0 greatest_share) (length bytes) >>= λ _. after_timestamp n) (state, rest) e in
    let n : ℕ × List ℕ = a.0 in
    let rule = kept_ok (nat_le n.0 greatest_share) (length bytes) (λ _. after_timestamp n) (state, rest) a.2 in
    let first = number_takes bytes n.0 n.1 fits a.1 in
    after_takes bytes n state rest (leb-true _ _ rule.0) first.0 rule.1

number_then : (n : ℕ) (text rest : List ℕ) → n ≤ greatest_share → register_in (number_spelled n ++ (text ++ rest)) ≡ after_timestamp (n, text ++ rest)
unfolding register_in
number_then n text rest within =
    ap (λ (r : Result (ℕ × List ℕ) Fault). r >>= λ x. kept (nat_le x.0 greatest_share) (length (number_spelled n ++ (text ++ rest))) >>= λ _. after_timestamp x) (number_again n (text ++ rest) (omega arith))
    ∙ kept_on (nat_le n greatest_share) (length (number_spelled n ++ (text ++ rest))) (λ _. after_timestamp (n, text ++ rest)) (le-leb _ _ within)

pub register_again : (state : Option Written) (rest : List ℕ) → IsSoundRegister state → register_in (register_spelled state ++ rest) ≡ Ok (state, rest)
register_again None rest is = number_then 0 [] rest (omega arith)
register_again (Some write) rest is =
    ap register_in (append_assoc (number_spelled write.timestamp) (stamped_spelled write) rest) ∙ number_then write.timestamp (stamped_spelled write) rest is.within ∙ go (write.timestamp == 0) refl
  where
    go : (none : Bool) → (write.timestamp == 0) ≡ none → (if none then unwritten (stamped_spelled write ++ rest) else write_in write.timestamp (stamped_spelled write ++ rest)) ≡ Ok (Some write, rest)
    go true e = absurd (let nothing = eqb-true write.timestamp 0 e in let some = is.above in omega arith)
    go false e = ap (λ (r : Result (Written × List ℕ) Fault). r >>= λ w. Ok (Some w.0, w.1)) (written_again write rest is)

-- THE SAME, OF THE KIND WITH A BYTE

-- a type of one kind, whose data name no identity that could be barred
pub of_one_kind : {Taken Sound : Type 0} (own kind : ℕ) (barred : IdentitySet) → (kind == own) ≡ true → Taken × Sound → Taken × Sound × (own ≡ kind) × ((i : ℕ) → barred i ≡ true → ◌≡◌ {A = Bool} false false)
of_one_kind own kind barred known both = (both.0, both.1, sym (eqb-true kind own known), λ i bars. refl)
