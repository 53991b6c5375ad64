-- The elements that are kept and pass a test are those that a history shows.
use Rattle.std.proofs.Common.{◌≡◌, ℕ, zero, suc, ◌<◌, List, [], ◌∷◌, filter, refl, sym, ap, ◌∙◌, arith, Bool, true, false, ◌||◌, Option, Some, None, inl, inr}
use Rattle.std.specs.Prelude.{◌&&◌, not, ◌==◌, if◌then◌else◌, slice_get, filter_map}
use Rattle.std.specs.List.{list_any}
use Rattle.std.specs.Str.{bytes_eq}
use Rattle.std.proofs.lemmas.Bool.{cases_lt}
use Rattle.model_history.specs.Table.{identity_limit, identities}
use Rattle.model_history.specs.Texts.{Text, contains_text}
use Rattle.model_history.specs.Vector.{VersionVector}
use Rattle.model_history.specs.Cuts.{record_at}
use Rattle.model_history.specs.Log.{IsTakenFrom}
use Rattle.model_history.specs.History.{Action, Record as Meant, Stamped, History, at, versions, all_records, IsHistory}
use Rattle.model_history.specs.History.Action.{Operation, Prune}
use Rattle.model_history.proofs.Bridge.{record_at_is, record_at_part, taken_is_history}
use Rattle.model_history.proofs.PastLaws.{identity_of_record}
use Rattle.model_history.proofs.HistoryLaws.{slice_get-below}
use Rattle.model_history.proofs.PartLaws.{part-le, in_whole}
use Rattle.model_history.proofs.PruneLaws.{in_range, at_identities}
use Rattle.model_meanings.specs.Growing.{found, is_operation, has_operation, added_elements}
use Rattle.model_meanings.specs.ObservedRemove.{is_live, live_elements}
use Rattle.model_traces.proofs.Tests.{is_stamped, stamped}
use Rattle.model_kinds.specs.SixKinds.{set_operations, adds, added}
use Rattle.model_kinds.specs.declared.operation.Op.{Op}
use Rattle.model_kinds.specs.declared.operation.Op.TheVariants.{Add}
use Rattle.theorem_latest.proofs.Touching.{any_tells, any_holds, not_zero, some_zero, last_touches_are_enough}
use Rattle.base_bytes.specs.TextOrder.{IsBelowAll, IsRising}
use Rattle.base_bytes.proofs.TextLaws.{eq_texts, texts_eq}
use Rattle.data_growing.specs.Bits.{same_bits}
use Rattle.data_growing.specs.TextSetLaws.{same_texts, contains_set, rising_set}
use Rattle.data_meaning.specs.declared.record.Record.{Record}
use Rattle.trace_values.specs.declared.sets.Element.{Element}
use Rattle.trace_values.specs.Rows.{row_of, AreRows}
use Rattle.trace_values.specs.Touches.{last_counted, last_at, is_added}
use Rattle.trace_values.specs.Elements.{names, adds_at, AreAdds, counts_add, counts_live, StandForElements}
use Rattle.trace_values.proofs.TouchLaws.{last_passing, counted_last, live_any}
use Rattle.trace_values.proofs.ElementLaws.{and_none, none_adds}
use Rattle.trace_values.proofs.Unnamed.{NoneAdds, live_none}

-- SOME OF THE TEXTS

contains_filter : (p : Text → Bool) (xs : List Text) (e : Text) → contains_text (filter p xs) e ≡ (contains_text xs e && p e)
contains_filter p [] e = refl
contains_filter p (x ∷ xs) e = go (p x) refl (bytes_eq e x) refl (contains_filter p xs e)
  where
    go : (b : Bool) → p x ≡ b → (c : Bool) → bytes_eq e x ≡ c → contains_text (filter p xs) e ≡ (contains_text xs e && p e)
        → contains_text (if b then x ∷ filter p xs else filter p xs) e ≡ ((c || contains_text xs e) && p e)
    go true is true here later = ap (λ c. c || contains_text (filter p xs) e) here ∙ sym is ∙ ap p (sym (eq_texts e x here))
    go true is false here later = ap (λ c. c || contains_text (filter p xs) e) here ∙ later
    go false is true here later = later ∙ none (contains_text xs e) (p e) (ap p (eq_texts e x here) ∙ is)
      where
        none : (a b : Bool) → b ≡ false → (a && b) ≡ b
        none true b f = refl
        none false b f = sym f
    go false is false here later = later

below_filter : (p : Text → Bool) (x : Text) (xs : List Text) → IsBelowAll x xs → IsBelowAll x (filter p xs)
below_filter p x [] h = tt
below_filter p x (y ∷ ys) h = go (p y) (below_filter p x ys h.1)
  where
    go : (b : Bool) → IsBelowAll x (filter p ys) → IsBelowAll x (if b then y ∷ filter p ys else filter p ys)
    go true later = (h.0, later)
    go false later = later

rising_filter : (p : Text → Bool) (xs : List Text) → IsRising xs → IsRising (filter p xs)
rising_filter p [] h = tt
rising_filter p (x ∷ xs) h = go (p x) (rising_filter p xs h.1)
  where
    go : (b : Bool) → IsRising (filter p xs) → IsRising (if b then x ∷ filter p xs else filter p xs)
    go true later = (below_filter p x xs h.0, later)
    go false later = later

-- what passes has what a text that passes has, where each list has all that pass
same_filter : (p : Text → Bool) (xs ys : List Text) → IsRising xs → IsRising ys → ((e : Text) → p e ≡ true → contains_text xs e ≡ true) → ((e : Text) → p e ≡ true → contains_text ys e ≡ true) → filter p xs ≡ filter p ys
same_filter p xs ys rising too here there =
    same_texts (filter p xs) (filter p ys) (rising_filter p xs rising) (rising_filter p ys too) (λ e. contains_filter p xs e ∙ go e (p e) refl ∙ sym (contains_filter p ys e))
  where
    go : (e : Text) (b : Bool) → p e ≡ b → (contains_text xs e && p e) ≡ (contains_text ys e && p e)
    go e true is = ap (λ c. c && p e) (here e is ∙ sym (there e is))
    go e false is = ap (λ c. contains_text xs e && c) is ∙ and_none (contains_text xs e) ∙ sym (and_none (contains_text ys e)) ∙ ap (λ c. contains_text ys e && c) (sym is)

names_filter : (test : Element → Bool) (p : Text → Bool) (xs : List Element) → ((k : ℕ) (x : Element) → slice_get xs k ≡ Some x → test x ≡ p x.name) → names (filter test xs) ≡ filter p (names xs)
names_filter test p [] same = refl
names_filter test p (x ∷ xs) same = go (test x) (p x.name) (same 0 x refl) (names_filter test p xs (λ k y e. same (suc k) y e))
  where
    go : (a b : Bool) → a ≡ b → names (filter test xs) ≡ filter p (names xs) → names (if a then x ∷ filter test xs else filter test xs) ≡ (if b then x.name ∷ filter p (names xs) else filter p (names xs))
    go true true e later = ap (λ ns. x.name ∷ ns) later
    go true false e later = absurd (cc e)
    go false true e later = absurd (cc e)
    go false false e later = later

-- ADDED ELEMENTS

added_none : (action : Action Op) (e : Text) → found added action ≡ None → is_operation (λ op. adds op e) action ≡ false
added_none (Operation (Add x)) e h = absurd (cc h)
added_none (Operation op) e h = refl
added_none (Prune r) e h = refl

added_some : (action : Action Op) (e z : Text) → found added action ≡ Some z → is_operation (λ op. adds op e) action ≡ bytes_eq z e
added_some (Operation (Add x)) e z h = let same : x ≡ z = cc h in ap (λ y. bytes_eq y e) same
added_some (Operation op) e z h = absurd (cc h)
added_some (Prune r) e z h = absurd (cc h)

eq_both : (e z : Text) → bytes_eq e z ≡ bytes_eq z e
eq_both e z = same_bits (bytes_eq e z) (bytes_eq z e) (λ h. ap (bytes_eq z) (eq_texts e z h) ∙ texts_eq z) (λ h. ap (bytes_eq e) (eq_texts z e h) ∙ texts_eq e)

abbrev is_add_of : Text → Stamped Op → Bool
is_add_of e x = is_operation (λ op. adds op e) x.action

abbrev added_by : Stamped Op → Option Text
added_by x = found added x.action

contains_added : (xs : List (Stamped Op)) (e : Text) → contains_text (filter_map added_by xs) e ≡ list_any (is_add_of e) xs
contains_added [] e = refl
contains_added (x ∷ xs) e = go (found added x.action) refl (contains_added xs e)
  where
    go : (o : Option Text) → found added x.action ≡ o → contains_text (filter_map added_by xs) e ≡ list_any (is_add_of e) xs → contains_text (filter_map added_by (x ∷ xs)) e ≡ (is_add_of e x || list_any (is_add_of e) xs)
    go None is later = rw is (later ∙ ap (λ b. b || list_any (is_add_of e) xs) (sym (added_none x.action e is)))
    go (Some z) is later = rw is (ap (λ b. b || contains_text (filter_map added_by xs) e) (eq_both e z ∙ sym (added_some x.action e z is)) ∙ ap (λ b. is_add_of e x || b) later)

-- THE LAST THAT PASSES

some_passes : (test : ℕ → Bool) (n : ℕ) → 0 < last_passing test n → (k : ℕ) × (k < n) × (test k ≡ true)
some_passes test zero h = absurd (omega (arith, h))
some_passes test (suc n) h = go (test n) refl h (some_passes test n)
  where
    go : (b : Bool) → test n ≡ b → 0 < (if b then suc n else last_passing test n) → (0 < last_passing test n → (k : ℕ) × (k < n) × (test k ≡ true)) → (k : ℕ) × (k < suc n) × (test k ≡ true)
    go true is h later = (n, omega arith, is)
    go false is h later = let r = later h in (r.0, (let small = r.1 in omega (arith, small)), r.2)

passes_some : (test : ℕ → Bool) (n k : ℕ) → k < n → test k ≡ true → 0 < last_passing test n
passes_some test zero k h is = absurd (omega (arith, h))
passes_some test (suc n) k h is = go (test n) refl (λ before. passes_some test n k before is)
  where
    go : (b : Bool) → test n ≡ b → (k < n → 0 < last_passing test n) → 0 < (if b then suc n else last_passing test n)
    go true e later = omega arith
    go false e later = elim (cases_lt k n) [
      | inl before ↦ later before
      | inr last ↦ absurd (let same : k ≡ n = omega (arith, h, last) in let f = sym is ∙ ap test same ∙ e in cc f)
    ]

-- WHAT A PART OF THE RECORDS SHOWS

module _ (made H : History Op) (history : IsHistory made) (taken : IsTakenFrom made H) (known : VersionVector) (known_is : known ≡ versions H) where
  abbrev adds_some : Text → Bool
  adds_some e = has_operation (λ op. adds op e) H

  abbrev lives : Text → Bool
  lives e = list_any (is_live set_operations e H) (all_records H)

  module _ (e : Text) (adding : List (List ℕ)) (are : AreAdds e adding made) where
    last_is : (i : ℕ) → last_at adding known i ≡ last_passing (adds_at e made i) (at H i)
    last_is i =
        ap (λ (v : VersionVector). last_counted (row_of adding i) (v i)) known_is ∙ ap (λ ns. last_counted ns (at H i)) (are i)
        ∙ counted_last (adds_at e made i) (at made i) (at H i) (part-le H made taken.part i)

    added_is : is_added adding known ≡ adds_some e
    unfolding is_added
    added_is = same_bits (list_any (λ i. not (last_at adding known i == 0)) identities) (adds_some e)
        (λ h.
        let found_at = any_tells (λ i. not (last_at adding known i == 0)) identities h in
        let i : ℕ = found_at.0 in
        let small = in_range 0 identity_limit i found_at.1 in
        let k = some_passes (adds_at e made i) (at H i) (let some = not_zero (last_at adding known i) found_at.2 in let is = last_is i in omega (arith, some, is)) in
        any_holds (is_add_of e) (all_records H) _ (stamped H i k.0 (record_at made i k.0) (let near = small.1 in omega (arith, near)) (record_at_part made H taken.part i k.0 k.1)) k.2)
        (λ h.
        let x = any_tells (is_add_of e) (all_records H) h in
        let s = is_stamped H x.0 x.1 in
        let is = record_at_is made x.0.origin s.index _ (in_whole H made taken.part x.0.origin s.index _ s.has) in
        let some = passes_some (adds_at e made x.0.origin) (at H x.0.origin) s.index (slice_get-below (H x.0.origin) _ s.index s.has) (ap (λ (r : Meant Op). is_operation (λ op. adds op e) r.action) is ∙ x.2) in
        any_holds (λ i. not (last_at adding known i == 0)) identities x.0.origin (at_identities x.0.origin s.small)
        (some_zero (last_at adding known x.0.origin) (let same = last_is x.0.origin in omega (arith, some, same))))

  -- what no record of the whole adds, none of the part does
  part_none : (e : Text) → NoneAdds e made → NoneAdds e H
  part_none e none i k r has = none i k r (in_whole H made taken.part i k r has)

  none_added : (e : Text) → NoneAdds e H → adds_some e ≡ false
  none_added e none = go (adds_some e) refl
    where
      go : (b : Bool) → adds_some e ≡ b → b ≡ false
      go true is = absurd (
          let x = any_tells (is_add_of e) (all_records H) is in
          let s = is_stamped H x.0 x.1 in
          let f = sym x.2 ∙ none x.0.origin s.index _ s.has in cc f)
      go false is = refl

  no_add : (e : Text) → adds_some e ≡ false → NoneAdds e H
  no_add e none i k r has = go (is_operation (λ op. adds op e) r.action) refl
    where
      go : (b : Bool) → is_operation (λ op. adds op e) r.action ≡ b → b ≡ false
      go true is = absurd (
          let small = identity_of_record H (taken_is_history made H history taken) i k r has in
          let f = sym (any_holds (is_add_of e) (all_records H) _ (stamped H i k r small has) is) ∙ none in cc f)
      go false is = refl

  module _ (elements : List Element) (stands : StandForElements elements made) where
    none_in : (e : Text) → contains_text (names elements) e ≡ false → NoneAdds e H
    none_in e absent = part_none e (none_adds e made (stands.named e absent))

    -- what passes a test that nothing passes which no record adds is there
    there_if : (p : Text → Bool) (xs : List Text) → ((e : Text) → contains_text xs e ≡ false → p e ≡ false) → (e : Text) → p e ≡ true → contains_text xs e ≡ true
    there_if p xs none e is = go (contains_text xs e) refl
      where
        go : (b : Bool) → contains_text xs e ≡ b → b ≡ true
        go true here = refl
        go false absent = absurd (let f = sym is ∙ none e absent in cc f)

    pub added_shown : names (filter (counts_add known) elements) ≡ added_elements added H
    added_shown =
        names_filter (counts_add known) adds_some elements (λ k x here. added_is x.name x.adds.items (stands.each k x here).adds)
        ∙ same_texts (filter adds_some (names elements)) (added_elements added H) (rising_filter adds_some (names elements) stands.rising) (rising_set (filter_map added_by (all_records H)))
        (λ e. contains_filter adds_some (names elements) e ∙ both e (adds_some e) refl ∙ sym (contains_set (filter_map added_by (all_records H)) e ∙ contains_added (all_records H) e))
      where
        both : (e : Text) (b : Bool) → adds_some e ≡ b → (contains_text (names elements) e && adds_some e) ≡ adds_some e
        both e true is = ap (λ c. c && adds_some e) (there_if adds_some (names elements) (λ f absent. none_added f (none_in f absent)) e is)
        both e false is = ap (λ c. contains_text (names elements) e && c) is ∙ and_none (contains_text (names elements) e) ∙ sym is

    pub live_shown : (rows : List (List Record)) → AreRows rows made → names (filter (counts_live rows known) elements) ≡ live_elements set_operations H
    live_shown rows rows_are =
        names_filter (counts_live rows known) lives elements (λ k x here.
        live_any x.name made H history taken rows rows_are x.touches.items (stands.each k x here).touches known known_is ∙ sym (last_touches_are_enough set_operations x.name H (taken_is_history made H history taken)))
        ∙ same_filter lives (names elements) (added_elements added H) stands.rising (rising_set (filter_map added_by (all_records H)))
        (there_if lives (names elements) (λ e absent. live_none e H (none_in e absent)))
        (there_if lives (added_elements added H) (λ e absent. live_none e H (no_add e (sym (contains_set (filter_map added_by (all_records H)) e ∙ contains_added (all_records H) e) ∙ absent))))
