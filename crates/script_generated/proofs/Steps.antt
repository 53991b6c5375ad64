-- The steps of generated scripts keep their bounds, and are what is read of their text.
use Rattle.std.proofs.Common.{◌≡◌, ℕ, zero, suc, ◌+◌, ◌-◌, ◌*◌, ◌%◌, ◌^◌, ◌<◌, ◌≤◌, ◌==◌, Bool, true, false, cond, nat_le, List, [], ◌∷◌, ◌++◌, length, map, codes, decimal, Ok, refl, arith, le-leb}
use Rattle.std.specs.Str.{IsUtf8}
use Rattle.std.specs.List.{range_with_len}
use Rattle.model_history.specs.Table.{identity_limit}
use Rattle.model_kinds.specs.declared.operation.Op.TheVariants as op
use Rattle.script_reading.specs.declared.ask.Ask.TheVariants.{Flush, Gossip}
use Rattle.script_reading.specs.declared.clients.Clients.{Clients}
use Rattle.script_reading.specs.declared.clients.Clients.TheVariants.{Refused}
use Rattle.script_reading.specs.declared.clients.RunStep.{RunStep}
use Rattle.script_reading.specs.declared.clients.RunStep.TheVariants.{Plain}
use Rattle.script_reading.specs.declared.script.Step.{Step}
use Rattle.script_reading.specs.declared.script.Step.TheVariants.{Ask, Round, Remove, Settle}
use Rattle.script_reading.specs.Levels.{level_of}
use Rattle.script_reading.specs.Operations.{element_of, assign_of, op_of}
use Rattle.script_reading.specs.Forms.{update_of, flush_of, gossip_of, round_of, remove_of, settle_of, plain_of}
use Rattle.script_reading.specs.Reading.{form_of, step_of}
use Rattle.script_reading.specs.WellFormed.{IsRunStep, IsAllowed}
use Rattle.script_generated.specs.Generated.{item_named, own_update, generated_step}
use Rattle.script_generated.specs.Texts.{whole, step_members, step_data}
use Rattle.script_generated.proofs.Names.{item_short, item_utf8, note_short, note_utf8}
use Rattle.script_generated.proofs.Written.{Each, IsWritten, whole_written, text_written, ascii_written, fields_written}

pub record IsSaid (s : RunStep) : Type 0 where
  pub written : IsWritten 1 (step_data s)
  pub reads : (clients : Clients) (number : ℕ) → step_of clients number (step_data s) ≡ Ok s
  pub bounds : IsRunStep s
  pub plain : IsAllowed Refused s

abbrev AreSaid : Step → Type 0
AreSaid step = IsSaid (Plain step)

module _ (at : ℕ) (small : at ≤ identity_limit - 1) where
  at_written : IsWritten 0 (whole at)
  at_written = whole_written 0 at (omega arith)

  at_is : (nat_le 0 at ≡ true) × (nat_le at (identity_limit - 1) ≡ true)
  at_is = (le-leb 0 at (omega arith), le-leb at (identity_limit - 1) small)

  increment_said : (by : ℕ) → 1 ≤ by → by ≤ 4094 → AreSaid (own_update at (codes "hits") (op.Increment by))
  unfolding step_of form_of plain_of update_of op_of level_of
  increment_said by low high =
      let least : nat_le 1 by ≡ true = le-leb 1 by low in
      let most : nat_le by (2 ^ 63 - 1) ≡ true = le-leb by (2 ^ 63 - 1) (omega arith) in
      let numbers = whole_written 0 by (omega arith) in
      record {
        written = fields_written 0 (step_members (Plain (own_update at (codes "hits") (op.Increment by)))) (at_written, (numbers, (ascii_written 0 _ refl, (ascii_written 0 _ refl, (ascii_written 0 _ refl, tt))))) refl refl;
        reads = λ clients number. simp (at_is.0, at_is.1, least, most);
        bounds = (omega arith, ((omega arith, omega arith), tt));
        plain = tt;
      }

  decrement_said : (by : ℕ) → 1 ≤ by → by ≤ 4094 → AreSaid (own_update at (codes "bal") (op.Decrement by))
  unfolding step_of form_of plain_of update_of op_of level_of
  decrement_said by low high =
      let least : nat_le 1 by ≡ true = le-leb 1 by low in
      let most : nat_le by (2 ^ 63 - 1) ≡ true = le-leb by (2 ^ 63 - 1) (omega arith) in
      let numbers = whole_written 0 by (omega arith) in
      record {
        written = fields_written 0 (step_members (Plain (own_update at (codes "bal") (op.Decrement by)))) (at_written, (numbers, (ascii_written 0 _ refl, (ascii_written 0 _ refl, (ascii_written 0 _ refl, tt))))) refl refl;
        reads = λ clients number. simp (at_is.0, at_is.1, least, most);
        bounds = (omega arith, ((omega arith, omega arith), tt));
        plain = tt;
      }

  add_said : (element : List ℕ) → length element ≤ 64 → IsUtf8 element → AreSaid (own_update at (codes "cart") (op.Add element))
  unfolding step_of form_of plain_of update_of op_of element_of level_of
  add_said element short utf8 =
      let is_short : nat_le (length element) 64 ≡ true = le-leb (length element) 64 short in
      record {
        written = fields_written 0 (step_members (Plain (own_update at (codes "cart") (op.Add element)))) (at_written, (ascii_written 0 _ refl, (text_written 0 element utf8, (ascii_written 0 _ refl, (ascii_written 0 _ refl, tt))))) refl refl;
        reads = λ clients number. simp (at_is.0, at_is.1, is_short);
        bounds = (omega arith, (short, tt));
        plain = tt;
      }

  remove_said : (element : List ℕ) → length element ≤ 64 → IsUtf8 element → AreSaid (own_update at (codes "cart") (op.Remove element))
  unfolding step_of form_of plain_of update_of op_of element_of level_of
  remove_said element short utf8 =
      let is_short : nat_le (length element) 64 ≡ true = le-leb (length element) 64 short in
      record {
        written = fields_written 0 (step_members (Plain (own_update at (codes "cart") (op.Remove element)))) (at_written, (ascii_written 0 _ refl, (text_written 0 element utf8, (ascii_written 0 _ refl, (ascii_written 0 _ refl, tt))))) refl refl;
        reads = λ clients number. simp (at_is.0, at_is.1, is_short);
        bounds = (omega arith, (short, tt));
        plain = tt;
      }

  assign_said : (text : List ℕ) (now : ℕ) → length text ≤ 64 → IsUtf8 text → now ≤ 4094 → AreSaid (own_update at (codes "note") (op.Assign text now))
  unfolding step_of form_of plain_of update_of op_of assign_of level_of
  assign_said text now short utf8 high =
      let is_short : nat_le (length text) 64 ≡ true = le-leb (length text) 64 short in
      let least : nat_le 0 now ≡ true = le-leb 0 now (omega arith) in
      let most : nat_le now (2 ^ 63 - 1) ≡ true = le-leb now (2 ^ 63 - 1) (omega arith) in
      record {
        written = fields_written 0 (step_members (Plain (own_update at (codes "note") (op.Assign text now)))) (at_written, (ascii_written 0 _ refl, (ascii_written 0 _ refl, (whole_written 0 now (omega arith), (ascii_written 0 _ refl, (text_written 0 text utf8, tt)))))) refl refl;
        reads = λ clients number. simp (at_is.0, at_is.1, least, most, is_short);
        bounds = (omega arith, ((short, omega arith), tt));
        plain = tt;
      }

  flush_said : AreSaid (Ask at Flush)
  unfolding step_of form_of plain_of flush_of
  flush_said = record {
    written = fields_written 0 (step_members (Plain (Ask at Flush))) (at_written, (ascii_written 0 _ refl, tt)) refl refl;
    reads = λ clients number. simp (at_is.0, at_is.1);
    bounds = (omega arith, tt);
    plain = tt;
  }

  gossip_said : (to : ℕ) → to ≤ identity_limit - 1 → AreSaid (Ask at (Gossip to))
  unfolding step_of form_of plain_of gossip_of
  gossip_said to to_small =
      let to_low : nat_le 0 to ≡ true = le-leb 0 to (omega arith) in
      let to_high : nat_le to (identity_limit - 1) ≡ true = le-leb to (identity_limit - 1) to_small in
      record {
        written = fields_written 0 (step_members (Plain (Ask at (Gossip to)))) (at_written, (ascii_written 0 _ refl, (whole_written 0 to (omega arith), tt))) refl refl;
        reads = λ clients number. simp (at_is.0, at_is.1, to_low, to_high);
        bounds = (omega arith, omega arith);
        plain = tt;
      }

round_said : AreSaid Round
unfolding step_of form_of plain_of round_of
round_said = record { written = fields_written 0 (step_members (Plain Round)) (ascii_written 0 _ refl, tt) refl refl; reads = λ clients number. refl; bounds = tt; plain = tt }

leaves_said : AreSaid (Remove 4)
unfolding step_of form_of plain_of remove_of
leaves_said = record { written = fields_written 0 (step_members (Plain (Remove 4))) (ascii_written 0 _ refl, (whole_written 0 4 (omega arith), tt)) refl refl; reads = λ clients number. refl; bounds = omega arith; plain = tt }

settle_said : AreSaid Settle
unfolding step_of form_of plain_of settle_of
settle_said = record { written = fields_written 0 (step_members (Plain Settle)) (ascii_written 0 _ refl, tt) refl refl; reads = λ clients number. refl; bounds = tt; plain = tt }

either : (b : Bool) (s t : Step) → AreSaid s → AreSaid t → AreSaid (cond b s t)
either true s t h k = h
either false s t h k = k

step_said : (i : ℕ) → 1 ≤ i → i ≤ 4094 → IsSaid (generated_step i)
unfolding generated_step
step_said i low high =
    let a : i % 5 ≤ identity_limit - 1 = omega arith in
    let k : i % 40 < 40 = omega arith in
    let j : (7 * i + 7) % 40 < 40 = omega arith in
    either (i % 8 == 1) _ _ (increment_said (i % 5) a i low high)
    (either (i % 8 == 2) _ _ (add_said (i % 5) a (item_named (i % 40)) (item_short (i % 40) k) (item_utf8 (i % 40) k))
    (either (i % 8 == 3) _ _ (decrement_said (i % 5) a i low high)
    (either (i % 8 == 4) _ _ (flush_said (i % 5) a)
    (either (i % 8 == 5) _ _ (remove_said (i % 5) a (item_named ((7 * i + 7) % 40)) (item_short ((7 * i + 7) % 40) j) (item_utf8 ((7 * i + 7) % 40) j))
    (either (i % 8 == 6) _ _ (gossip_said (i % 5) a ((i % 5 + 1) % 5) (omega arith))
    (either (i % 8 == 7) _ _ round_said
    (assign_said (i % 5) a (codes "n" ++ decimal i) i (note_short i high) (note_utf8 i high) high)))))))

pub steps_said : (a n : ℕ) → 1 ≤ a → a + n ≤ 4095 → Each IsSaid (map generated_step (range_with_len a n) ++ Plain (Remove 4) ∷ Plain Settle ∷ [])
steps_said a zero low high = (leaves_said, (settle_said, tt))
steps_said a (suc n) low high = (step_said a low (omega arith), steps_said (a + 1) n (omega arith) (omega arith))
