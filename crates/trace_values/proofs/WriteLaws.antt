-- The last writes that are kept are those of every history taken from the records.
use Rattle.std.proofs.Common.{◌≡◌, ℕ, zero, suc, ◌+◌, ◌-◌, ◌<◌, ◌≤◌, max, List, [], ◌∷◌, ◌++◌, length, map, refl, sym, ap, ap₂, ◌∙◌, arith, Bool, true, false, Option, Some, None, inl, inr}
use Rattle.std.specs.Prelude.{◌&&◌, not, ◌==◌, if◌then◌else◌, slice_get, is_some, find, option_map, unwrap_or}
use Rattle.std.specs.List.{range_with_len}
use Rattle.std.proofs.lemmas.Bool.{cases_lt, eqb-true, eq-eqb}
use Rattle.std.proofs.lemmas.Bool.Decides.{eqb_tells, nat_tests}
use Rattle.std.proofs.lemmas.List.{map-append}
use Rattle.std.proofs.lemmas.List.Sums.{fold_push}
use Rattle.base_vectors.proofs.Walks.{counted_more}
use Rattle.model_history.specs.Table.{identity_limit, identities}
use Rattle.model_history.specs.Vector.{VersionVector}
use Rattle.model_history.specs.Cuts.{record_at}
use Rattle.model_history.specs.Log.{IsTakenFrom}
use Rattle.model_history.specs.History.{Action, Record as Meant, Stamped, History, at, versions, cut, with_record, all_records, HasRecord, IsHistory}
use Rattle.model_history.proofs.Bridge.{record_at_is, has_record_at, record_at_part, cut_of_part, taken_is_history}
use Rattle.model_history.proofs.HistoryLaws.{with_at_same}
use Rattle.model_history.proofs.PartLaws.{part-le, part_with_record, part_trans, in_whole, history-with_record}
use Rattle.model_history.proofs.PruneLaws.{IsIn, found as found_passes}
use Rattle.model_meanings.specs.Growing.{Assignment, greatest, timestamp, timestamp_after, found, newest, winning_text}
use Rattle.model_meanings.proofs.EquationsOfMeanings.{timestamp_equation}
use Rattle.model_traces.proofs.Tests.{stamped, first_true, second_true}
use Rattle.model_kinds.specs.SixKinds.{assigned}
use Rattle.model_kinds.specs.declared.operation.Op.{Op}
use Rattle.theorem_latest.specs.Writes.{record_of, writes_at, last_write, last_write_of, last_timestamp, last_newest}
use Rattle.theorem_latest.proofs.Staying.{timestamps_stay}
use Rattle.theorem_latest.proofs.Writing.{winner_is_last, same_top}
use Rattle.theorem_latest.proofs.Touching.{not_zero}
use Rattle.data_meaning.specs.declared.record.Record.{Record}
use Rattle.data_meaning.specs.Records.{action_of}
use Rattle.data_meaning.specs.Stamping.{text_in}
use Rattle.trace_values.specs.declared.writes.LastWrite.{LastWrite}
use Rattle.trace_values.specs.Rows.{IsPushed, AreRows, last_of}
use Rattle.trace_values.specs.Writes.{no_write, write_meant, write_after, timestamp_at, newest_of, has_newest, first_newest, text_at, text_of, winning_text as code_text, AreWrites}
use Rattle.trace_values.proofs.Firsts.{get_last, first_then, positive}
use Rattle.trace_values.proofs.RowLaws.{has_row}

-- LOOPS

max_other : (m n : ℕ) → max m n ≡ max n m
max_other m n = omega arith

pub newest_more : (writes : List (List LastWrite)) (known : VersionVector) (n id count old new : ℕ) (none last : LastWrite) → old ≡ newest_of writes known (range_with_len 0 n) → id ≡ n → count ≡ known id → none ≡ no_write → last ≡ last_of none writes id count → new ≡ max last.timestamp old
    → new ≡ newest_of writes known (range_with_len 0 (n + 1))
unfolding newest_of
newest_more writes known n id count old new none last old_is id_is count_is none_is last_is new_is =
    new_is
    ∙ ap₂ (λ (w : LastWrite) (m : ℕ). max w.timestamp m) (last_is ∙ ap (λ m. last_of none writes id m) count_is ∙ ap (λ z. last_of z writes id (known id)) none_is ∙ ap (λ i. last_of no_write writes i (known i)) id_is) old_is
    ∙ max_other (timestamp_at writes known n) (newest_of writes known (range_with_len 0 n))
    ∙ sym (ap (λ ns. greatest (map (timestamp_at writes known) ns)) (counted_more n) ∙ ap greatest (map-append (timestamp_at writes known) (range_with_len 0 n) (n ∷ [])) ∙ fold_push max 0 (map (timestamp_at writes known) (range_with_len 0 n)) (timestamp_at writes known n))

-- the first that has the timestamp
pub is_newest : (writes : List (List LastWrite)) (known : VersionVector) (newest id count : ℕ) (none last : LastWrite) → count ≡ known id → none ≡ no_write → last ≡ last_of none writes id count → (newest ≡ 0 → ⊥) → last.timestamp ≡ newest → has_newest writes known newest id ≡ true
is_newest writes known newest id count none last count_is none_is last_is some same = elim (eqb_tells newest 0) [
  | inl zero_is ↦ absurd (some zero_is.1)
  | inr other ↦
      ap (λ b. not b && (timestamp_at writes known id == newest)) other.0
      ∙ eq-eqb (timestamp_at writes known id) newest
      (ap (λ (w : LastWrite). w.timestamp) (sym (last_is ∙ ap (λ m. last_of none writes id m) count_is ∙ ap (λ z. last_of z writes id (known id)) none_is)) ∙ same)
]

-- WHAT IS SETTLED

module _ (J H : History Op) (history : IsHistory J) (taken : IsTakenFrom J H) where
  of_same : (i k : ℕ) → k < at H i → record_of assigned H i k ≡ record_of assigned J i k
  of_same i k h = ap (λ (r : Meant Op). record { origin = i; number = suc k; action = r.action; past = r.past }) (record_at_is H i k (record_at J i k) (record_at_part J H taken.part i k h))

  last_same : (i n : ℕ) → n ≤ at H i → last_write assigned H i n ≡ last_write assigned J i n
  last_same i zero few = refl
  last_same i (suc n) few =
      ap₂ (λ (b : Bool) (m : ℕ). if b then suc n else m) (ap (λ (x : Stamped Op). is_some (found assigned x.action)) (of_same i n (omega (arith, few)))) (last_same i n (omega (arith, few)))

  time_same : (i k : ℕ) → i < identity_limit → k < at H i → timestamp assigned H (record_of assigned H i k) ≡ timestamp assigned J (record_of assigned J i k)
  time_same i k small h = timestamps_stay J H history taken (record_of assigned H i k) (stamped H i k (record_at H i k) small (has_record_at H i k h)) assigned ∙ ap (timestamp assigned J) (of_same i k h)

  last_within : (i n : ℕ) → last_write assigned H i n ≤ n
  last_within i zero = omega arith
  last_within i (suc n) = go (writes_at assigned H i n) (last_within i n)
    where
      go : (b : Bool) → last_write assigned H i n ≤ n → (if b then suc n else last_write assigned H i n) ≤ suc n
      go true h = omega arith
      go false h = omega (arith, h)

  nothing_far : (i : ℕ) → identity_limit ≤ i → at H i ≡ 0
  nothing_far i far = let few = part-le H J taken.part i in let none = ap length (history.within i far) in omega (arith, few, none)

  pub meant_same : (i n : ℕ) → n ≤ at H i → write_meant H i n ≡ write_meant J i n
  meant_same i n few = elim (cases_lt i identity_limit) [
    | inl small ↦ (λ k. record { number = last_same i n few k; timestamp = times small k })
    | inr far ↦ (let none : n ≡ 0 = (let h = nothing_far i far in omega (arith, few, h)) in ap (write_meant H i) none ∙ ap (write_meant J i) (sym none))
  ]
    where
      times : i < identity_limit → (write_meant H i n).timestamp ≡ (write_meant J i n).timestamp
      times small = go (last_write assigned H i n == 0) refl ∙ ap (λ m. if m == 0 then 0 else timestamp assigned J (record_of assigned J i (m - 1))) (last_same i n few)
        where
          go : (b : Bool) → (last_write assigned H i n == 0) ≡ b
              → (if b then 0 else timestamp assigned H (record_of assigned H i (last_write assigned H i n - 1))) ≡ (if b then 0 else timestamp assigned J (record_of assigned J i (last_write assigned H i n - 1)))
          go true e = refl
          go false e =
              let some = positive (last_write assigned H i n) e in
              let bound = last_within i n in
              time_same i (last_write assigned H i n - 1) small (omega (arith, some, bound, few))

  -- WHAT IS SHOWN

  module _ (writes : List (List LastWrite)) (are : AreWrites writes J) (known : VersionVector) (known_is : known ≡ versions H) where
    last_is : (i : ℕ) → last_of no_write writes i (known i) ≡ write_meant H i (at H i)
    last_is i = ap (λ (v : VersionVector). last_of no_write writes i (v i)) known_is ∙ are.each i (at H i) (part-le H J taken.part i) ∙ sym (meant_same i (at H i) (omega arith))

    time_is : (i : ℕ) → timestamp_at writes known i ≡ last_timestamp assigned H i
    time_is i = ap (λ (w : LastWrite). w.timestamp) (last_is i)

    last_newest_is : newest_of writes known identities ≡ last_newest assigned H
    unfolding newest_of
    last_newest_is = ap (λ (f : ℕ → ℕ). greatest (map f identities)) (λ k i. time_is i k)

    pub newest_is : newest_of writes known identities ≡ newest assigned H
    newest_is = last_newest_is ∙ sym (same_top assigned H (taken_is_history J H history taken))

    abbrev wins : ℕ → Bool
    wins i = not (last_newest assigned H == 0) && (last_timestamp assigned H i == last_newest assigned H)

    wins_is : (i : ℕ) → has_newest writes known (newest_of writes known identities) i ≡ wins i
    wins_is i = ap₂ (λ (n t : ℕ). not (n == 0) && (t == n)) last_newest_is (time_is i)

    -- the winner is a write
    is_write : (i : ℕ) → wins i ≡ true → 0 < last_write assigned H i (at H i)
    is_write i e = go (last_write assigned H i (at H i) == 0) refl
      where
        go : (b : Bool) → (last_write assigned H i (at H i) == 0) ≡ b → 0 < last_write assigned H i (at H i)
        go false f = positive _ f
        go true f = absurd (
            let some = not_zero (last_newest assigned H) (first_true (not (last_newest assigned H == 0)) (last_timestamp assigned H i == last_newest assigned H) e) in
            let same = eqb-true (last_timestamp assigned H i) (last_newest assigned H) (second_true (not (last_newest assigned H == 0)) (last_timestamp assigned H i == last_newest assigned H) e) in
            let none : last_timestamp assigned H i ≡ 0 = ap (λ b. if b then 0 else timestamp assigned H (last_write_of assigned H i)) f in
            clash (last_newest assigned H) (last_timestamp assigned H i) some same none)
          where
            clash : (n t : ℕ) → 0 < n → t ≡ n → t ≡ 0 → ⊥
            clash n t some same none = omega (arith, some, same, none)

    text_found : (o : Option Assignment) → text_in o ≡ unwrap_or (option_map (λ (a : Assignment). a.text) o) []
    text_found None = refl
    text_found (Some a) = refl

    module _ (rows : List (List Record)) (rows_are : AreRows rows J) where
      text_there : (i : ℕ) → wins i ≡ true → text_at rows i (last_of no_write writes i (known i)).number ≡ text_in (found assigned (last_write_of assigned H i).action)
      text_there i e =
          let some = is_write i e in
          let bound = last_within i (at H i) in
          let place : last_write assigned H i (at H i) - 1 < at H i = omega (arith, some, bound) in
          let r = has_row rows J rows_are i (last_write assigned H i (at H i) - 1) (record_at J i (last_write assigned H i (at H i) - 1)) (in_whole H J taken.part i _ _ (record_at_part J H taken.part i _ place)) in
          ap (λ (w : LastWrite). text_at rows i w.number) (last_is i) ∙ ap (λ (o : Option Record). elim o [ None ↦ [] | Some r ↦ text_in (found assigned (action_of r.action)) ]) r.1
          ∙ ap (λ (a : Action Op). text_in (found assigned a)) (r.2.action ∙ sym (ap (λ (x : Stamped Op). x.action) (of_same i _ place)))

      text_is : (o : Option ℕ) → find wins identities ≡ o → text_of rows writes known o
          ≡ unwrap_or (option_map (λ (a : Assignment). a.text) (unwrap_or (option_map (λ (x : Stamped Op). found assigned x.action) (option_map (last_write_of assigned H) o)) None)) []
      text_is None e = refl
      text_is (Some i) e = text_there i (found_passes wins identities i e) ∙ text_found (found assigned (last_write_of assigned H i).action)

      pub winning_is : code_text rows writes known ≡ winning_text assigned H
      unfolding first_newest
      winning_is =
          ap (λ (f : ℕ → Bool). text_of rows writes known (find f identities)) (λ k i. wins_is i k) ∙ text_is (find wins identities) refl
          ∙ ap (λ (o : Option (Stamped Op)). unwrap_or (option_map (λ (a : Assignment). a.text) (unwrap_or (option_map (λ (x : Stamped Op). found assigned x.action) o) None)) [])
          (sym (winner_is_last assigned H (taken_is_history J H history taken)))

-- ONE RECORD MORE

-- the write with this number
abbrev of_last : History Op → ℕ → ℕ → LastWrite
of_last J i m = record { number = m; timestamp = if m == 0 then 0 else timestamp assigned J (record_of assigned J i (m - 1)) }

module _ (made H : History Op) (history : IsHistory made) (taken : IsTakenFrom made H) (i : ℕ) (small : i < identity_limit) (own : H i ≡ made i) (action : Action Op) where
  abbrev next : Meant Op
  next = record { action = action; past = versions H }

  abbrev then_made : History Op
  then_made = with_record made i next

  pub then_history : IsHistory then_made
  then_history = history-with_record made H i action history taken (sym own) small

  pub made_taken : IsTakenFrom then_made made
  made_taken = record { part = part_with_record made i next; closed = history.closed }

  pub held_taken : IsTakenFrom then_made H
  held_taken = record {
    part = part_trans H made then_made taken.part made_taken.part;
    closed = taken.closed;
  }

  pub has_next : HasRecord then_made i (at made i) next
  has_next = ap (λ xs. slice_get xs (at made i)) (with_at_same made i (made i ++ next ∷ [])) ∙ get_last (made i) next

  pub next_at : record_at then_made i (at made i) ≡ next
  next_at = record_at_is then_made i (at made i) next has_next

  -- the record, with its number
  abbrev pub stamp : Stamped Op
  stamp = record { origin = i; number = suc (at made i); action = action; past = versions H }

  pub in_all : IsIn (all_records then_made) stamp
  in_all = stamped then_made i (at made i) next small has_next

  pub past_is : cut then_made (versions H) ≡ H
  past_is = cut_of_part then_made H held_taken.part

  timestamp_is : timestamp assigned then_made stamp ≡ timestamp_after (newest assigned H) (found assigned action)
  timestamp_is = timestamp_equation assigned then_made then_history stamp in_all ∙ ap (λ (K : History Op). timestamp_after (newest assigned K) (found assigned action)) past_is

  -- the last write with the record
  meant_then : write_after (write_meant then_made i (at made i)) (newest assigned H) (suc (at made i)) action ≡ write_meant then_made i (suc (at made i))
  meant_then = go (found assigned action) refl
    where
      writes_is : (o : Option Assignment) → found assigned action ≡ o → writes_at assigned then_made i (at made i) ≡ is_some o
      writes_is o e = ap (λ (r : Meant Op). is_some (found assigned r.action)) next_at ∙ ap is_some e

      go : (o : Option Assignment) → found assigned action ≡ o → (elim o [ None ↦ write_meant then_made i (at made i) | Some write ↦ record { number = suc (at made i); timestamp = timestamp_after (newest assigned H) (Some write) } ]) ≡ write_meant then_made i (suc (at made i))
      go None e = sym (ap (λ b. of_last then_made i (if b then suc (at made i) else last_write assigned then_made i (at made i))) (writes_is None e))
      go (Some write) e =
          (λ k. record { number = suc (at made i); timestamp = times k })
          ∙ sym (ap (λ b. of_last then_made i (if b then suc (at made i) else last_write assigned then_made i (at made i))) (writes_is (Some write) e))
        where
          not_none : (n : ℕ) → (suc n == 0) ≡ false
          not_none n = grind (arith, nat_tests)

          times : timestamp_after (newest assigned H) (Some write) ≡ (if suc (at made i) == 0 then 0 else timestamp assigned then_made (record_of assigned then_made i (suc (at made i) - 1)))
          times =
              let back : suc (at made i) - 1 ≡ at made i = omega arith in
              ap (timestamp_after (newest assigned H)) (sym e) ∙ sym timestamp_is
              ∙ sym (ap (λ b. if b then 0 else timestamp assigned then_made (record_of assigned then_made i (suc (at made i) - 1))) (not_none (at made i))
              ∙ ap (λ n. timestamp assigned then_made (record_of assigned then_made i n)) back
              ∙ ap (λ (r : Meant Op). timestamp assigned then_made (record { origin = i; number = suc (at made i); action = r.action; past = r.past })) next_at)

  pub writes_then : (old new : List (List LastWrite)) (known : VersionVector) (number : ℕ) → AreWrites old made → known ≡ versions H → number ≡ at made i + 1 → IsPushed old new i (write_after (last_of no_write old i (number - 1)) (newest_of old known identities) number action)
      → AreWrites new then_made
  writes_then old new known number are known_is number_is pushed =
      first_then no_write (write_meant made) (write_meant then_made) made i next old new _ are pushed (λ j n few. sym (meant_same then_made made then_history made_taken j n few)) is
    where
      next_is : at made i + 1 ≡ suc (at made i)
      next_is = omega arith

      before : number - 1 ≡ at made i
      before = omega (arith, number_is)

      is : write_after (last_of no_write old i (number - 1)) (newest_of old known identities) number action ≡ write_meant then_made i (at made i + 1)
      is =
          ap₂ (λ (w : LastWrite) (n : ℕ). write_after w n number action)
          (ap (λ m. last_of no_write old i m) before ∙ are.each i (at made i) (omega arith) ∙ meant_same then_made made then_history made_taken i (at made i) (omega arith))
          (newest_is made H history taken old are known known_is)
          ∙ ap (λ n. write_after (write_meant then_made i (at made i)) (newest assigned H) n action) (number_is ∙ next_is) ∙ meant_then ∙ ap (write_meant then_made i) (sym next_is)
