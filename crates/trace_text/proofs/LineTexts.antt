-- A line that is written is read again.
use Rattle.std.proofs.Common.{◌≡◌, ℕ, ◌-◌, ◌^◌, ◌≤◌, true, nat_le, nat_lt, List, [], ◌∷◌, length, map, Some, ◌&&◌, refl, ap₂, arith, le-leb}
use Rattle.std.specs.FinMap as map
use Rattle.std.specs.Str.{IsUtf8}
use Rattle.std.specs.List.{list_all}
use Rattle.std.proofs.lemmas.Bool.{and_parts}
use Rattle.std.proofs.lemmas.Bool.Decides.{nat_tests}
use Rattle.std.proofs.lemmas.Str.{IsUtf8-from_is_utf8}
use Rattle.json.proofs.Printed.Utf8.{are_ascii, IsUtf8-are_ascii}
use Rattle.serde_json.specs.Data.{string}
use Rattle.serde_json.specs.View.{items_of}
use Rattle.model_history.specs.Table.{identity_limit}
use Rattle.model_kinds.specs.declared.operation.Op.{Op}
use Rattle.model_kinds.specs.declared.operation.Op.TheVariants as op
use Rattle.base_vectors.specs.Vectors.{Numbers, number_at}
use Rattle.base_vectors.specs.Spelling.{pairs_of}
use Rattle.script_reading.specs.Fields.{is_key_byte, is_key_name}
use Rattle.script_reading.specs.WellFormed.{IsOperation}
use Rattle.script_generated.proofs.Written.{IsWritten, whole_written, text_written, ascii_written, list_written, fields_written}
use Rattle.script_generated.specs.Texts.{whole}
use Rattle.base_bytes.specs.Spelling.{IsText}
use Rattle.trace_lines.specs.declared.trace.TraceAct.{TraceAct}
use Rattle.trace_lines.specs.declared.trace.TraceAct.TheVariants as act
use Rattle.trace_lines.specs.declared.trace.TraceLine.{TraceLine}
use Rattle.trace_lines.specs.Meant.{act_meant, line_meant}
use Rattle.trace_lines.specs.WellFormed.{IsAct, IsLine}
use Rattle.trace_text.specs.Acts.{amount_of, element_of, assign_of, plain_of, prune_of, record_of, hold_of, show_of, known_after}
use Rattle.trace_text.specs.Reading.{line_of}
use Rattle.trace_text.specs.Texts.{pair_data, line_members, line_data}
use Rattle.trace_text.specs.Said.{HasTexts, SaysTexts}
use Rattle.trace_text.proofs.Pairs.{known_again, pairs_written}

-- a line is read as it is
abbrev IsRead : TraceLine → Type 0
IsRead line = line_of (line_data (line_meant line)) ≡ Some line

abbrev line_with : ℕ → List ℕ → TraceAct → TraceLine
line_with at key act = record { at = at; key = key; act = act }

module _ (at : ℕ) (key : List ℕ) (small : at ≤ identity_limit - 1) (named : is_key_name key ≡ true) where
  at_least : nat_le 0 at ≡ true
  at_least = le-leb 0 at (omega arith)

  at_most : nat_le at (identity_limit - 1) ≡ true
  at_most = le-leb at (identity_limit - 1) small

  amount_read : (by : ℕ) → 1 ≤ by → by ≤ 2 ^ 63 - 1 → IsRead (line_with at key (act.Record (op.Increment by))) × IsRead (line_with at key (act.Record (op.Decrement by)))
  unfolding line_of record_of amount_of
  amount_read by low high =
      let least : nat_le 1 by ≡ true = le-leb 1 by low in
      let most : nat_le by (2 ^ 63 - 1) ≡ true = le-leb by (2 ^ 63 - 1) high in
      (simp (at_least, at_most, named, least, most), simp (at_least, at_most, named, least, most))

  element_read : (element : List ℕ) → length element ≤ 64 → IsRead (line_with at key (act.Record (op.Add element))) × IsRead (line_with at key (act.Record (op.Remove element)))
  unfolding line_of record_of element_of
  element_read element short =
      let is_short : nat_le (length element) 64 ≡ true = le-leb (length element) 64 short in
      (simp (at_least, at_most, named, is_short), simp (at_least, at_most, named, is_short))

  assign_read : (text : List ℕ) (now : ℕ) → length text ≤ 64 → now ≤ 2 ^ 63 - 1 → IsRead (line_with at key (act.Record (op.Assign text now)))
  unfolding line_of record_of assign_of
  assign_read text now short high =
      let is_short : nat_le (length text) 64 ≡ true = le-leb (length text) 64 short in
      let least : nat_le 0 now ≡ true = le-leb 0 now (omega arith) in
      let most : nat_le now (2 ^ 63 - 1) ≡ true = le-leb now (2 ^ 63 - 1) high in
      simp (at_least, at_most, named, is_short, least, most)

  plain_read : IsRead (line_with at key (act.Record op.Enable)) × IsRead (line_with at key (act.Record op.Delete))
  unfolding line_of record_of plain_of
  plain_read = (simp (at_least, at_most, named), simp (at_least, at_most, named))

  prune_read : (id : ℕ) → id ≤ identity_limit - 1 → IsRead (line_with at key (act.Prune id))
  unfolding line_of record_of prune_of
  prune_read id high =
      let least : nat_le 0 id ≡ true = le-leb 0 id (omega arith) in
      let most : nat_le id (identity_limit - 1) ≡ true = le-leb id (identity_limit - 1) high in
      simp (at_least, at_most, named, least, most)

  show_read : (text : List ℕ) → IsRead (line_with at key (act.Show text))
  unfolding line_of show_of
  show_read text = simp (at_least, at_most, named)

  hold_read : (known : Numbers) → known_after 0 map.empty (items_of (map pair_data (pairs_of (number_at known)))) ≡ Some known → IsRead (line_with at key (act.Hold known))
  unfolding line_of hold_of
  hold_read known again = simp (at_least, at_most, named, again)

  operation_read : (op : Op) → IsOperation op → IsRead (line_with at key (act.Record op))
  operation_read (op.Increment by) h = (amount_read by h.0 h.1).0
  operation_read (op.Decrement by) h = (amount_read by h.0 h.1).1
  operation_read (op.Add element) h = (element_read element h).0
  operation_read (op.Remove element) h = (element_read element h).1
  operation_read op.Enable h = plain_read.0
  operation_read (op.Assign text now) h = assign_read text now h.0 h.1
  operation_read op.Delete h = plain_read.1

  act_read : (act : TraceAct) → IsAct act → IsRead (line_with at key act)
  act_read (act.Record op) h = operation_read op h
  act_read (act.Prune id) h = prune_read id (omega arith)
  act_read (act.Hold known) h = hold_read known (known_again known h.0 h.1)
  act_read (act.Show text) h = show_read text

pub line_read : (line : TraceLine) → IsLine line → IsRead line
line_read line is = let member = is.member in act_read line.at line.key (omega arith) is.key line.act is.act

-- ---- what is written

key_byte_ascii : (b : ℕ) → is_key_byte b ≡ true → nat_lt b 128 ≡ true
key_byte_ascii b e = grind (arith, nat_tests)

key_bytes_ascii : (bytes : List ℕ) → list_all is_key_byte bytes ≡ true → are_ascii bytes ≡ true
key_bytes_ascii [] e = refl
key_bytes_ascii (b ∷ bytes) e = let both = and_parts (is_key_byte b) (list_all is_key_byte bytes) e in ap₂ (λ x y. x && y) (key_byte_ascii b both.0) (key_bytes_ascii bytes both.1)

-- the bytes of a key's name are those of a text
pub key_utf8 : (key : List ℕ) → is_key_name key ≡ true → IsUtf8 key
key_utf8 key named =
    let few = and_parts (nat_le 1 (length key)) _ named in
    IsUtf8-are_ascii key (key_bytes_ascii key (and_parts (nat_le (length key) 32) (list_all is_key_byte key) few.1).1)

module _ (at : ℕ) (key : List ℕ) (small : at ≤ identity_limit - 1) (utf8 : IsUtf8 key) where
  at_written : IsWritten 2 (whole at)
  at_written = whole_written 2 at (omega arith)

  key_written : IsWritten 2 (string key)
  key_written = text_written 2 key utf8

  word : (text : List ℕ) → are_ascii text ≡ true → IsWritten 2 (string text)
  word = ascii_written 2

  short_written : (text : List ℕ) → IsText text → IsWritten 2 (string text)
  short_written text is = text_written 2 text (IsUtf8-from_is_utf8 text is.utf8)

  operation_written : (op : Op) → IsOperation op → HasTexts op → IsWritten 3 (line_data (line_meant (line_with at key (act.Record op))))
  operation_written (op.Increment by) h t =
      let high = h.1 in
      fields_written 2 (line_members at key (act_meant (act.Record (op.Increment by)))) (at_written, (whole_written 2 by (omega arith), (word _ refl, (key_written, (word _ refl, tt))))) refl refl
  operation_written (op.Decrement by) h t =
      let high = h.1 in
      fields_written 2 (line_members at key (act_meant (act.Record (op.Decrement by)))) (at_written, (whole_written 2 by (omega arith), (word _ refl, (key_written, (word _ refl, tt))))) refl refl
  operation_written (op.Add element) h t =
      fields_written 2 (line_members at key (act_meant (act.Record (op.Add element)))) (at_written, (word _ refl, (short_written element t, (key_written, (word _ refl, tt))))) refl refl
  operation_written (op.Remove element) h t =
      fields_written 2 (line_members at key (act_meant (act.Record (op.Remove element)))) (at_written, (word _ refl, (short_written element t, (key_written, (word _ refl, tt))))) refl refl
  operation_written op.Enable h t = fields_written 2 (line_members at key (act_meant (act.Record op.Enable))) (at_written, (word _ refl, (key_written, (word _ refl, tt)))) refl refl
  operation_written (op.Assign text now) h t =
      let high = h.1 in
      fields_written 2 (line_members at key (act_meant (act.Record (op.Assign text now))))
      (at_written, (word _ refl, (key_written, (whole_written 2 now (omega arith), (word _ refl, (short_written text t, tt)))))) refl refl
  operation_written op.Delete h t = fields_written 2 (line_members at key (act_meant (act.Record op.Delete))) (at_written, (word _ refl, (key_written, (word _ refl, tt)))) refl refl

  act_written : (act : TraceAct) → IsAct act → SaysTexts act → IsWritten 3 (line_data (line_meant (line_with at key act)))
  act_written (act.Record op) h t = operation_written op h t
  act_written (act.Prune id) h t = fields_written 2 (line_members at key (act_meant (act.Prune id))) (at_written, (word _ refl, (whole_written 2 id (omega arith), (key_written, (word _ refl, tt))))) refl refl
  act_written (act.Hold known) h t = fields_written 2 (line_members at key (act_meant (act.Hold known))) (at_written, (word _ refl, (key_written, (list_written 1 _ (pairs_written known h.0 h.1), tt)))) refl refl
  act_written (act.Show text) h t = fields_written 2 (line_members at key (act_meant (act.Show text))) (at_written, (word _ refl, (key_written, (text_written 2 text h, tt)))) refl refl

pub line_written : (line : TraceLine) → IsLine line → SaysTexts line.act → IsWritten 3 (line_data (line_meant line))
line_written line is says = let member = is.member in act_written line.at line.key (omega arith) (key_utf8 line.key is.key) line.act is.act says
