-- Data of a history are spelled as the history says: each live element with its live adding records.
use Rattle.std.proofs.Common.{◌≡◌, ℕ, zero, suc, ◌+◌, ◌<◌, ◌≤◌, Bool, true, false, cond, ◌&&◌, ◌||◌, List, [], ◌∷◌, ◌++◌, refl, ap, sym, ◌∙◌, subst, inl, inr, ◌⊎◌, arith}
use Rattle.std.proofs.lemmas.List.{map-append}
use Rattle.std.specs.Prelude.{map}
use Rattle.std.specs.List.{filter, flat_map, list_any, range_with_len}
use Rattle.std.specs.Ordering.{nat_cmp, eq_by_cmp}
use Rattle.std.specs.Cmp.Lexicographic.{slice_cmp}
use Rattle.std.specs.FinSet as set
use Rattle.std.proofs.lemmas.Bool.{and_parts, and_from}
use Rattle.model_history.specs.Table.{identity_limit}
use Rattle.model_history.specs.Texts.{Text}
use Rattle.model_history.specs.Vector.{VersionVector, IdentitySet}
use Rattle.model_history.specs.History.{Record, History, Stamped, cut, stamped_from, all_records}
use Rattle.model_history.specs.Cuts.{IsPrunedCut}
use Rattle.model_meanings.specs.ObservedRemove.{is_live, live_records, live_elements}
use Rattle.model_kinds.specs.SixKinds.{set_operations}
use Rattle.model_kinds.specs.declared.operation.Op.{Op}
use Rattle.data_growing.specs.Bits.{same_bits}
use Rattle.base_bytes.proofs.TextLaws.{texts_eq}
use Rattle.base_vectors.specs.declared.id.Dot.{Dot}
use Rattle.data_orset.specs.Placing.{key}
use Rattle.data_orset.specs.Dots.{Dots, is_element}
use Rattle.data_orset.specs.DotLaws.{same_item, itself}
use Rattle.data_orset.specs.Live.{IsLive}
use Rattle.data_orset.specs.LiveLaws.{any_held, held_any, live_in_log, live_in_cut}
use Rattle.data_orset.specs.DataOf.{AreLiveDots}
use Rattle.data_orset.specs.DataLaws.{live_not_gone}
use Rattle.data_orset.specs.ShownLaws.{elements_mean}
use Rattle.data_orset.specs.Elements.{Element, AreRising, element_at, elements_of, dot_named, history_element, history_elements}
use Rattle.data_orset.specs.ElementLaws.{key_at, of_parts, rising_from, element_is, element_named}

-- RECORDS RISE

-- a record comes after a dot with this origin and number
abbrev Comes : ℕ → ℕ → ℕ → ℕ → Type 0
Comes origin seq i n = (origin < i) ⊎ ((origin ≡ i) × (seq < n))

-- the records of an identity, and what comes after them
rising_row : (i n : ℕ) (rs : List (Record Op)) (later : List Dot) (origin seq : ℕ) → Comes origin seq i n
    → ((o s : ℕ) → (o ≤ i) → Comes o s (suc i) 1 → AreRising o s later) → AreRising origin seq (map dot_named (stamped_from i n rs) ++ later)
rising_row i n [] later origin seq comes rest = rest origin seq (go comes) (inl (let le = go comes in omega arith))
  where
    go : Comes origin seq i n → origin ≤ i
    go (inl less) = omega arith
    go (inr both) = let same = both.0 in omega arith
rising_row i n (r ∷ rs) later origin seq comes rest =
    let d : Dot = record { origin = i; seq = n } in
    let after = of_parts origin seq d comes in
    (after.0, after.1, rising_row i (suc n) rs later i n (inr (refl, omega arith)) rest)

rising_rows : (H : History Op) (i n origin seq : ℕ) → Comes origin seq i 1 → AreRising origin seq (map dot_named (flat_map (λ i. stamped_from i 1 (H i)) (range_with_len i n)))
rising_rows H i zero origin seq comes = tt
rising_rows H i (suc n) origin seq comes =
    let next : suc i ≡ i + 1 = omega arith in
    subst (AreRising origin seq) (sym (map-append dot_named (stamped_from i 1 (H i)) (flat_map (λ i. stamped_from i 1 (H i)) (range_with_len (i + 1) n))))
    (rising_row i 1 (H i) (map dot_named (flat_map (λ i. stamped_from i 1 (H i)) (range_with_len (i + 1) n))) origin seq comes
    (λ o s le after. rising_rows H (i + 1) n o s (subst (λ m. Comes o s m 1) next after)))

rising_passing : (t : Stamped Op → Bool) (xs : List (Stamped Op)) (origin seq : ℕ) → AreRising origin seq (map dot_named xs) → AreRising origin seq (map dot_named (filter t xs))
rising_passing t [] origin seq h = tt
rising_passing t (x ∷ xs) origin seq h = go (t x) (rising_passing t xs x.origin x.number h.2)
  where
    go : (b : Bool) → AreRising x.origin x.number (map dot_named (filter t xs)) → AreRising origin seq (map dot_named (cond b (x ∷ filter t xs) (filter t xs)))
    go true later = (h.0, h.1, later)
    go false later = rising_from origin seq (dot_named x) (map dot_named (filter t xs)) (h.0, h.1) later

-- TESTS OF RECORDS

any_passing : (t : Stamped Op → Bool) (p : List ℕ → Bool) (e : Text) (xs : List (Stamped Op))
    → list_any p (map (key_at e) (map dot_named (filter t xs))) ≡ list_any (λ x. t x && p (key e x.origin x.number)) xs
any_passing t p e [] = refl
any_passing t p e (x ∷ xs) = go (t x) (any_passing t p e xs)
  where
    go : (b : Bool) → list_any p (map (key_at e) (map dot_named (filter t xs))) ≡ list_any (λ x. t x && p (key e x.origin x.number)) xs
        → list_any p (map (key_at e) (map dot_named (cond b (x ∷ filter t xs) (filter t xs)))) ≡ ((b && p (key e x.origin x.number)) || list_any (λ x. t x && p (key e x.origin x.number)) xs)
    go true later = ap (λ b. p (key e x.origin x.number) || b) later
    go false later = later

-- THE ELEMENTS OF A HISTORY

module _ (state : Dots) (log : History Op) (held : VersionVector) (gone : IdentitySet) (pruned : IsPrunedCut log held gone) (is : AreLiveDots state log held gone) where
  abbrev same_key : List ℕ → List ℕ → Bool
  same_key = eq_by_cmp (slice_cmp nat_cmp)

  -- a live record that the key names
  abbrev is_named : Text → List ℕ → Stamped Op → Bool
  is_named e k x = is_live set_operations e (cut log held) x && same_key k (key e x.origin x.number)

  dot_live : (e : Text) (k : List ℕ) → (set.contains state k && is_element e k) ≡ true → list_any (is_named e k) (all_records (cut log held)) ≡ true
  dot_live e k h =
      let parts = and_parts _ _ h in
      let shape = is.shaped k parts.0 in
      let i : ℕ = shape.1 in
      let n : ℕ = shape.2 in
      let l = (is.live shape.0 i n (ap (set.contains state) (sym shape.3) ∙ parts.0)).1 in
      let same : shape.0 ≡ e = sym (element_named e (key shape.0 i (n + 1)) (ap (is_element e) (sym shape.3) ∙ parts.1)) in
      let live : IsLive log e held i n = subst (λ z. IsLive log z held i n) same l in
      let number : n + 1 ≡ 1 + n = omega arith in
      let named : k ≡ key e i (1 + n) = shape.3 ∙ ap (λ z. key z i (n + 1)) same ∙ ap (key e i) number in
      any_held log held pruned.cut (is_named e k) i n live.within
      (and_from _ _ (live_in_cut log e held i n pruned.cut live.within live) (ap (λ z. same_key z (key e i (1 + n))) named ∙ itself (key e i (1 + n))))

  live_dot : (e : Text) (k : List ℕ) → list_any (is_named e k) (all_records (cut log held)) ≡ true → (set.contains state k && is_element e k) ≡ true
  live_dot e k h =
      let y = held_any log held pruned.cut (is_named e k) h in
      let i : ℕ = y.0 in
      let n : ℕ = y.1 in
      let parts = and_parts _ _ y.3 in
      let live = live_in_log log e held i n pruned.cut y.2 parts.0 in
      let number : 1 + n ≡ n + 1 = omega arith in
      let named : k ≡ key e i (n + 1) = same_item k (key e i (1 + n)) parts.1 ∙ ap (key e i) number in
      and_from _ _ (ap (set.contains state) named ∙ is.all e i n (live_not_gone log e held gone i n pruned live) live) (ap (is_element e) named ∙ texts_eq e)

  element_means : (e : Text) → element_at state e ≡ history_element (cut log held) e
  element_means e =
      let H : History Op = cut log held in
      element_is state e (map dot_named (live_records set_operations e H))
      (rising_passing (is_live set_operations e H) (all_records H) 0 0 (rising_rows H 0 identity_limit 0 0 (inr (refl, omega arith))))
      (λ k. same_bits _ _ (dot_live e k) (live_dot e k) ∙ sym (any_passing (is_live set_operations e H) (same_key k) e (all_records H)))

  same_map : (xs : List Text) → map (element_at state) xs ≡ map (history_element (cut log held)) xs
  same_map [] = refl
  same_map (e ∷ xs) = ap (λ (y : Element). y ∷ map (element_at state) xs) (element_means e) ∙ ap (λ (ys : List Element). history_element (cut log held) e ∷ ys) (same_map xs)

  pub elements_are : elements_of state ≡ history_elements (cut log held)
  elements_are = ap (map (element_at state)) (elements_mean state log held gone pruned is) ∙ same_map (live_elements set_operations (cut log held))
