-- What is kept of elements, when another is put in its place, and after one record more.
use Rattle.std.proofs.Common.{◌≡◌, ℕ, zero, suc, ◌+◌, ◌<◌, ◌≤◌, List, [], ◌∷◌, ◌++◌, length, take, drop, set, get_or, length-set, refl, sym, ap, ap₂, subst, ◌∙◌, arith, Bool, true, false, ◌||◌, ◌⊎◌, Some, inl, inr}
use Rattle.std.specs.Prelude.{◌&&◌, if◌then◌else◌, slice_get}
use Rattle.std.specs.List.{insert}
use Rattle.std.specs.Str.{bytes_eq}
use Rattle.std.proofs.Math.Bool.{or-false}
use Rattle.std.proofs.lemmas.Bool.{cases_lt}
use Rattle.std.proofs.lemmas.Bool.Decides.{eqb_tells}
use Rattle.std.proofs.lemmas.List.Edits.{length-insert, get_or-insert_at}
use Rattle.std.proofs.lemmas.Option.{slice_get-get_or, get_or_from_slice_get}
use Rattle.std.proofs.lemmas.List.{map-append, take-map, drop-map}
use Rattle.model_history.specs.Table.{identity_limit}
use Rattle.model_history.specs.Texts.{Text, text_lt, text_set, contains_text}
use Rattle.model_history.specs.Vector.{VersionVector}
use Rattle.model_history.specs.Cuts.{record_at}
use Rattle.model_history.specs.Log.{IsTakenFrom}
use Rattle.model_history.specs.History.{Action, Record as Meant, History, at, versions, with_record, IsHistory}
use Rattle.model_history.specs.History.Action.{Operation, Prune}
use Rattle.model_history.proofs.Bridge.{has_record_at}
use Rattle.model_history.proofs.HistoryLaws.{has_with_record, slice_get-take}
use Rattle.model_history.proofs.PruneLaws.{IsIn, in_append}
use Rattle.model_meanings.specs.Growing.{is_operation}
use Rattle.model_kinds.specs.SixKinds.{set_operations, adds, removes}
use Rattle.model_kinds.specs.declared.operation.Op.{Op}
use Rattle.model_kinds.specs.declared.operation.Op.TheVariants.{Add, Remove}
use Rattle.theorem_latest.specs.Latest.{touches_at, stamped_at}
use Rattle.base_bytes.specs.TextOrder.{IsRising}
use Rattle.base_bytes.proofs.TextLaws.{eq_texts, texts_eq, lt_never}
use Rattle.data_growing.specs.Texts.{IsPlace}
use Rattle.data_growing.specs.TextSetLaws.{rising_set, contains_both}
use Rattle.data_growing.proofs.Searching.{rising_at, contains_at}
use Rattle.data_meaning.specs.declared.record.Record.{Record}
use Rattle.trace_values.specs.declared.sets.Element.{Element}
use Rattle.trace_values.specs.Rows.{row_of, AreRows}
use Rattle.trace_values.specs.Touches.{IsPushedIf, passing, AreTouches}
use Rattle.trace_values.specs.Elements.{names, names_it, NoneNames, adds_at, AreAdds, IsElement, StandForElements, IsMarked, AreMarked, IsPlaced, IsNamed, IsKept, is_pruned}
use Rattle.trace_values.proofs.Firsts.{set_here, set_there}
use Rattle.trace_values.proofs.RowLaws.{get_some, get_below}
use Rattle.trace_values.proofs.TouchLaws.{touches_then, adds_then, touch_next, prune_next, live_is}
use Rattle.trace_values.proofs.Unnamed.{NoneAdds, untouched}

-- NAMES

pub name_at : (xs : List Element) (k : ℕ) (x : Element) → slice_get xs k ≡ Some x → slice_get (names xs) k ≡ Some x.name
name_at [] k x e = absurd (cc e)
name_at (y ∷ xs) zero x e = let same : y ≡ x = cc e in ap (λ (z : Element). Some z.name) same
name_at (y ∷ xs) (suc k) x e = name_at xs k x e

pub name_read : (xs : List Element) (k : ℕ) (d : Element) (e : Text) → k < length xs → (get_or xs k d).name ≡ get_or (names xs) k e
name_read [] k d e h = absurd (omega (arith, h))
name_read (y ∷ xs) zero d e h = refl
name_read (y ∷ xs) (suc k) d e h = name_read xs k d e (omega (arith, h))

pub long_names : (xs : List Element) → length (names xs) ≡ length xs
long_names [] = refl
long_names (x ∷ xs) = ap suc (long_names xs)

names_insert : (xs : List Element) (k : ℕ) (x : Element) → names (insert xs k x) ≡ insert (names xs) k x.name
names_insert xs k x = map-append (λ (y : Element). y.name) (take k xs) (x ∷ drop k xs) ∙ ap₂ (λ (a b : List Text). a ++ x.name ∷ b) (sym (take-map (λ (y : Element). y.name) k xs)) (sym (drop-map (λ (y : Element). y.name) k xs))

names_same : (xs ys : List Element) → length ys ≡ length xs → ((k : ℕ) (x : Element) → slice_get xs k ≡ Some x → (y : Element) × (slice_get ys k ≡ Some y) × (y.name ≡ x.name)) → names ys ≡ names xs
names_same [] [] long each = refl
names_same [] (y ∷ ys) long each = absurd (omega (arith, long))
names_same (x ∷ xs) [] long each = absurd (omega (arith, long))
names_same (x ∷ xs) (y ∷ ys) long each =
    let first = each 0 x refl in
    let same : y ≡ first.0 = cc first.1 in
    ap₂ (λ (a : Text) (b : List Text). a ∷ b) (ap (λ (z : Element). z.name) same ∙ first.2) (names_same xs ys (omega (arith, long)) (λ k z e. each (suc k) z e))

in_drop : (k : ℕ) (xs : List Element) (x : Element) → IsIn (drop k xs) x → IsIn xs x
in_drop zero xs x h = h
in_drop (suc k) [] x h = h
in_drop (suc k) (y ∷ xs) x h = let there = in_drop k xs x h in (suc there.0, there.1)

in_insert : (xs : List Element) (k : ℕ) (z x : Element) → IsIn (insert xs k z) x → (x ≡ z) ⊎ IsIn xs x
in_insert xs k z x h = elim (in_append (take k xs) (z ∷ drop k xs) x h) [
  | inl before ↦ inr (before.0, (slice_get-take xs k before.0 x before.1).1)
  | inr after ↦ here after.0 after.1
]
  where
    here : (n : ℕ) → slice_get (z ∷ drop k xs) n ≡ Some x → (x ≡ z) ⊎ IsIn xs x
    here zero e = (let same : z ≡ x = cc e in inl (sym same))
    here (suc n) e = inr (in_drop k xs x (n, e))

-- AN ELEMENT THAT NO RECORD NAMES

or_none : (a b : Bool) → (a || b) ≡ false → a ≡ false
or_none true b e = e
or_none false b e = refl

none_passes : (test : ℕ → Bool) (n : ℕ) → ((k : ℕ) → k < n → test k ≡ false) → passing test n ≡ []
none_passes test zero none = refl
none_passes test (suc n) none = ap (λ b. if b then passing test n ++ suc n ∷ [] else passing test n) (none n (omega arith)) ∙ none_passes test n (λ k h. none k (omega (arith, h)))

module _ (e : Text) (made : History Op) (none : NoneNames e made) where
  pub none_adds : NoneAdds e made
  none_adds i k r has = go r.action (none i k r has)
    where
      go : (action : Action Op) → is_operation (names_it e) action ≡ false → is_operation (λ op. adds op e) action ≡ false
      go (Operation op) h = or_none (adds op e) (removes op e) h
      go (Prune r) h = refl

  unnamed_is : (x : Element) → x.name ≡ e → x.touches.items ≡ [] → x.adds.items ≡ [] → IsElement made x
  unnamed_is x name touching adding = record {
    touches = λ i. ap (λ (rows : List (List ℕ)). row_of rows i) touching
        ∙ sym (none_passes (touches_at set_operations x.name made i) (at made i) (λ k h. ap (λ (f : Text). touches_at set_operations f made i k) name
        ∙ untouched e made none_adds (stamped_at set_operations e made i k) (none i k (record_at made i k) (has_record_at made i k h))));
    adds = λ i. ap (λ (rows : List (List ℕ)). row_of rows i) adding
        ∙ sym (none_passes (adds_at x.name made i) (at made i) (λ k h. ap (λ (f : Text). adds_at f made i k) name ∙ none_adds i k (record_at made i k) (has_record_at made i k h)));
  }

pub put_stands : (old : List Element) (k : ℕ) (x : Element) (e : Text) → x.name ≡ e → x.touches.items ≡ [] → x.adds.items ≡ [] → (IsRising (names old) → IsPlace (names old) e k) → (made : History Op) → StandForElements old made → StandForElements (insert old k x) made
put_stands old k x e name touching adding belongs made stands = record {
  rising = subst IsRising (sym now) (rising_set (names old ++ e ∷ []));
  each = λ j y here. elim (in_insert old k x y (j, here)) [
    | inl new ↦ subst (IsElement made) (sym new) (unnamed_is e made (stands.named e place.absent) x name touching adding)
    | inr before ↦ stands.each before.0 y before.1
  ];
  named = λ f absent. stands.named f (or_none (contains_text (names old) f) (contains_text (e ∷ []) f) (sym (contains_both (names old) (e ∷ []) f) ∙ ap (λ (ns : List Text). contains_text ns f) (sym now) ∙ absent));
}
  where
    place : IsPlace (names old) e k
    place = belongs stands.rising

    now : names (insert old k x) ≡ text_set (names old ++ e ∷ [])
    now = names_insert old k x ∙ ap (insert (names old) k) name ∙ place.sorted

pub put_placed : (old kept new : List Element) (k : ℕ) (x : Element) (e : Text) → kept ≡ old → k ≤ length kept → (IsRising (names kept) → IsPlace (names kept) e k) → x.name ≡ e → x.touches.items ≡ [] → x.adds.items ≡ [] → new ≡ insert old k x → IsPlaced old new e k
put_placed old kept new k x e kept_is few belongs name touching adding new_is = record {
  within = (let long = ap length new_is ∙ length-insert old k x few_old in omega (arith, long, few_old));
  here = λ rising. ap (λ (xs : List Element). get_or (names xs) k []) new_is ∙ ap (λ (ns : List Text). get_or ns k []) (names_insert old k x) ∙ get_or-insert_at (names old) k x.name [] (let long = long_names old in omega (arith, few_old, long)) ∙ name;
  stands = λ made stands. subst (λ (xs : List Element). StandForElements xs made) (sym new_is) (put_stands old k x e name touching adding (λ rising. subst (λ (xs : List Element). IsPlace (names xs) e k) kept_is (belongs (subst (λ (xs : List Element). IsRising (names xs)) (sym kept_is) rising))) made stands);
}
  where
    few_old : k ≤ length old
    few_old = let same = ap length kept_is in omega (arith, few, same)

-- ONE RECORD MORE

pub names_marked : (touching adding : Element → Bool) (id number : ℕ) (old new : List Element) → AreMarked (length old) touching adding id number old new → names new ≡ names old
names_marked touching adding id number old new marked =
    names_same old new marked.count (λ k x here. let there = marked.first k x (get_below old k x here) here in (there.0, there.1, there.2.name))

-- what stands at one place of a rising list stands at no other
apart : (xs : List Text) → IsRising xs → (j k : ℕ) → j < length xs → k < length xs → get_or xs j [] ≡ get_or xs k [] → j ≡ k
apart xs rising j k near far same = elim (cases_lt j k) [
  | inl before ↦ absurd (let f = sym (lt_never (get_or xs k [])) ∙ ap (λ (e : Text). text_lt e (get_or xs k [])) (sym same) ∙ rising_at xs j k rising before far in cc f)
  | inr not_before ↦ elim (cases_lt k j) [
    | inl after ↦ absurd (let f = sym (lt_never (get_or xs j [])) ∙ ap (λ (e : Text). text_lt e (get_or xs j [])) same ∙ rising_at xs k j rising after near in cc f)
    | inr not_after ↦ omega (arith, not_before, not_after)
  ]
]

pub and_none : (a : Bool) → (a && false) ≡ false
and_none true = refl
and_none false = refl

-- an element alone was marked, where no other has its name
pub named_one : (old placed : List Element) (place : ℕ) (name : Text) (adding : Bool) (id number : ℕ) (x y : Element) → IsPlaced old placed name place → x ≡ get_or placed place x → IsMarked true adding id number x y
    → IsNamed name adding id number old (set placed place y)
named_one old placed place name adding id number x y is at marked made stands =
    (placed, now, ap (contains_text (names placed)) (sym here) ∙ contains_at (names placed) place (omega (arith, within, long)), record { count = length-set placed place y; first = first; rest = rest })
  where
    now : StandForElements placed made
    now = is.stands made stands

    within : place < length placed
    within = is.within

    long : length (names placed) ≡ length placed
    long = long_names placed

    here : get_or (names placed) place [] ≡ name
    here = is.here stands.rising

    first : (k : ℕ) (z : Element) → k < length placed → slice_get placed k ≡ Some z → (w : Element) × (slice_get (set placed place y) k ≡ Some w) × IsMarked (bytes_eq name z.name) (adding && bytes_eq name z.name) id number z w
    first k z h there = elim (eqb_tells k place) [
      | inl same ↦
          (let one : z ≡ x = (let e = sym there ∙ ap (slice_get placed) same.1 ∙ slice_get-get_or placed place x within ∙ ap Some (sym at) in cc e) in
          let named : bytes_eq name z.name ≡ true = ap (bytes_eq name) (ap (λ (w : Element). w.name) one ∙ ap (λ (w : Element). w.name) at ∙ name_read placed place x [] within ∙ here) ∙ texts_eq name in (
            y,
            ap (slice_get (set placed place y)) same.1 ∙ set_here placed place y within,
            subst (λ b. IsMarked b (adding && b) id number z y) (sym named) (subst (λ (w : Element). IsMarked true (adding && true) id number w y) (sym one) (subst (λ b. IsMarked true b id number x y) (sym (and_all adding)) marked)),
          ))
      | inr other ↦ (z, set_there placed place k y other.1 ∙ there, subst (λ b. IsMarked b (adding && b) id number z z) (sym (differs other.1)) (subst (λ b. IsMarked false b id number z z) (sym (and_none adding)) unmarked))
    ]
      where
        and_all : (a : Bool) → (a && true) ≡ a
        and_all true = refl
        and_all false = refl

        unmarked : IsMarked false false id number z z
        unmarked = record { name = refl; touches = λ rise i. refl; adds = λ rise i. refl }

        differs : (k ≡ place → ⊥) → bytes_eq name z.name ≡ false
        differs other = go (bytes_eq name z.name) refl
          where
            go : (b : Bool) → bytes_eq name z.name ≡ b → b ≡ false
            go true e = absurd (other (apart (names placed) now.rising k place (omega (arith, h, long)) (omega (arith, within, long))
                (get_or_from_slice_get (names placed) k z.name [] (name_at placed k z there) ∙ sym (eq_texts name z.name e) ∙ sym here)))
            go false e = refl

    rest : (k : ℕ) → length placed ≤ k → slice_get (set placed place y) k ≡ slice_get placed k
    rest k far = set_there placed place k y (λ e. absurd (omega (arith, far, within, e)))

-- the next one was marked
pub marked_more : (touching adding : Element → Bool) (id number n : ℕ) (old now : List Element) (x y : Element) → AreMarked n touching adding id number old now → n < length now → x ≡ get_or now n x
    → (b : Bool) → b ≡ touching x → IsMarked b (adding x) id number x y → AreMarked (n + 1) touching adding id number old (set now n y)
marked_more touching adding id number n old now x y marked within at b b_is more = record { count = length-set now n y ∙ marked.count; first = first; rest = rest }
  where
    first : (k : ℕ) (z : Element) → k < n + 1 → slice_get old k ≡ Some z → (w : Element) × (slice_get (set now n y) k ≡ Some w) × IsMarked (touching z) (adding z) id number z w
    first k z h there = elim (cases_lt k n) [
      | inl before ↦ (let w = marked.first k z before there in (w.0, set_there now n k y (λ e. absurd (omega (arith, before, e))) ∙ w.1, w.2))
      | inr not_before ↦
          (let last : k ≡ n = omega (arith, h, not_before) in
          let one : x ≡ z = (let e = sym (slice_get-get_or now n x within ∙ ap Some (sym at)) ∙ marked.rest n (omega arith) ∙ ap (slice_get old) (sym last) ∙ there in cc e) in
          (y, ap (slice_get (set now n y)) last ∙ set_here now n y within, subst (λ (w : Element). IsMarked (touching w) (adding w) id number w y) one (subst (λ c. IsMarked c (adding x) id number x y) b_is more)))
    ]

    rest : (k : ℕ) → n + 1 ≤ k → slice_get (set now n y) k ≡ slice_get old k
    rest k far = set_there now n k y (λ e. absurd (omega (arith, far, e))) ∙ marked.rest k (omega (arith, far))

module _ (made H : History Op) (history : IsHistory made) (taken : IsTakenFrom made H) (i : ℕ) (small : i < identity_limit) (own : H i ≡ made i) (action : Action Op) where
  abbrev next : Meant Op
  next = record { action = action; past = versions H }

  abbrev J : History Op
  J = with_record made i next

  pub marked_stand : (touching adding : Element → Bool) (number : ℕ) (old new : List Element) → StandForElements old made → number ≡ suc (at made i) → AreMarked (length old) touching adding i number old new
      → ((k : ℕ) (x : Element) → slice_get old k ≡ Some x → touches_at set_operations x.name J i (at made i) ≡ touching x)
      → ((k : ℕ) (x : Element) → slice_get old k ≡ Some x → is_operation (λ op. adds op x.name) action ≡ adding x)
      → ((e : Text) → contains_text (names old) e ≡ false → is_operation (names_it e) action ≡ false)
      → StandForElements new J
  marked_stand touching adding number old new stands number_is marked touch add name = record {
    rising = subst IsRising (sym same) stands.rising;
    each = each;
    named = λ e absent. named e (ap (λ (ns : List Text). contains_text ns e) (sym same) ∙ absent);
  }
    where
      same : names new ≡ names old
      same = names_marked touching adding i number old new marked

      each : (k : ℕ) (y : Element) → slice_get new k ≡ Some y → IsElement J y
      each k y here =
          let below = get_below new k y here in
          let count = marked.count in
          let x = get_some old k (omega (arith, below, count)) in
          let there = marked.first k x.0 (get_below old k x.0 x.1) x.1 in
          let is : there.0 ≡ y = (let e = sym there.1 ∙ here in cc e) in
          let before = stands.each k x.0 x.1 in
          subst (IsElement J) is (record {
            touches = subst (λ e. AreTouches e there.0.touches.items J) (sym there.2.name)
                (touches_then x.0.name made H history taken i small own action x.0.touches.items there.0.touches.items (touching x.0) before.touches (touch k x.0 x.1)
                (subst (λ n. IsPushedIf (touching x.0) x.0.touches.items there.0.touches.items i n) number_is there.2.touches));
            adds = subst (λ e. AreAdds e there.0.adds.items J) (sym there.2.name)
                (adds_then x.0.name made H history taken i small own action x.0.adds.items there.0.adds.items (adding x.0) before.adds (add k x.0 x.1)
                (subst (λ n. IsPushedIf (adding x.0) x.0.adds.items there.0.adds.items i n) number_is there.2.adds));
          })

      named : (e : Text) → contains_text (names old) e ≡ false → NoneNames e J
      named e absent j k r has = elim (has_with_record made i next j k r has) [
        | inl before ↦ stands.named e absent j k r before
        | inr new ↦ ap (λ (z : Meant Op). is_operation (names_it e) z.action) (sym new.2) ∙ name e absent
      ]

module _ (made H : History Op) (history : IsHistory made) (taken : IsTakenFrom made H) (i : ℕ) (small : i < identity_limit) (own : H i ≡ made i) where
  named_stand : (op : Op) (name : Text) (adding : Bool) (number : ℕ) → number ≡ length (made i) + 1 → (old new : List Element) → StandForElements old made → IsNamed name adding i number old new
      → ((e : Text) → (adds op e || removes op e) ≡ bytes_eq name e) → ((e : Text) → adds op e ≡ (adding && bytes_eq name e)) → StandForElements new (with_record made i (record { action = Operation op; past = versions H }))
  named_stand op name adding number number_is old new stands kept touches_it adds_it =
      let now = kept made stands in
      let next : number ≡ suc (at made i) = omega (arith, number_is) in
      marked_stand made H history taken i small own (Operation op) (λ x. bytes_eq name x.name) (λ x. adding && bytes_eq name x.name) number now.0 new now.1 next now.3
      (λ k x here. touch_next x.name made H history taken i small own (Operation op) ∙ touches_it x.name) (λ k x here. adds_it x.name)
      (λ e absent. touches_it e ∙ other now.0 now.2 e absent (bytes_eq name e) refl)
    where
      other : (placed : List Element) → contains_text (names placed) name ≡ true → (e : Text) → contains_text (names placed) e ≡ false → (b : Bool) → bytes_eq name e ≡ b → b ≡ false
      other placed there e absent true is = absurd (let f = sym there ∙ ap (contains_text (names placed)) (eq_texts name e is) ∙ absent in cc f)
      other placed there e absent false is = refl

  -- what names no element
  free_stand : (op : Op) (number : ℕ) → number ≡ length (made i) + 1 → (old new : List Element) → StandForElements old made → new ≡ old → ((e : Text) → (adds op e || removes op e) ≡ false) → StandForElements new (with_record made i (record { action = Operation op; past = versions H }))
  free_stand op number number_is old new stands same free =
      let next : number ≡ suc (at made i) = omega (arith, number_is) in
      subst (λ (xs : List Element). StandForElements xs (with_record made i (record { action = Operation op; past = versions H }))) (sym same)
      (marked_stand made H history taken i small own (Operation op) (λ x. false) (λ x. false) number old old stands next
      (record { count = refl; first = λ k x h here. (x, here, record { name = refl; touches = λ rise j. refl; adds = λ rise j. refl }); rest = λ k h. refl })
      (λ k x here. touch_next x.name made H history taken i small own (Operation op) ∙ free x.name) (λ k x here. or_none (adds op x.name) (removes op x.name) (free x.name)) (λ e absent. free e))

  pub operation_stand : (op : Op) (number : ℕ) → number ≡ length (made i) + 1 → (old new : List Element) → StandForElements old made → IsKept op i number old new → StandForElements new (with_record made i (record { action = Operation op; past = versions H }))
  operation_stand (Add name) number number_is old new stands kept = named_stand (Add name) name true number number_is old new stands kept (λ e. or-false (bytes_eq name e)) (λ e. refl)
  operation_stand (Remove name) number number_is old new stands kept = named_stand (Remove name) name false number number_is old new stands kept (λ e. refl) (λ e. refl)
  operation_stand op number number_is old new stands kept = free_stand op number number_is old new stands kept (λ e. refl)

  pub prune_stand : (r : ℕ) → r < identity_limit → (number : ℕ) → number ≡ length (made i) + 1 → (old new : List Element) → StandForElements old made → (rows : List (List Record)) → AreRows rows made → (past : VersionVector) → past ≡ versions H
      → AreMarked (length old) (is_pruned rows past r) (λ x. false) i number old new → StandForElements new (with_record made i (record { action = Prune r; past = versions H }))
  prune_stand r near number number_is old new stands rows rows_are past past_is marked =
      let next : number ≡ suc (at made i) = omega (arith, number_is) in
      marked_stand made H history taken i small own (Prune r) (is_pruned rows past r) (λ x. false) number old new stands next marked
      (λ k x here. prune_next x.name made H history taken i small own (Prune r) r near refl ∙ sym (live_is x.name made H history taken rows rows_are x.touches.items (stands.each k x here).touches past past_is r near))
      (λ k x here. refl) (λ e absent. refl)
