-- Entries up to a stamp begin a history; what holds of the member after them goes on holding.
use Rattle.std.proofs.Common.{◌≡◌, ℕ, zero, suc, ◌<◌, ◌≤◌, List, [], ◌∷◌, ◌++◌, length, refl, sym, ap, subst, ◌∙◌, arith, Bool, true, false, true≢false, cond, Some}
use Rattle.std.specs.Prelude.{nat_le, slice_get}
use Rattle.std.specs.List.{AllByRecursion}
use Rattle.std.proofs.lemmas.Bool.{le-leb, leb-true, leb-false}
use Rattle.std.proofs.lemmas.List.{append-nil}
use Rattle.std.proofs.lemmas.List.Elements.{filter-append}
use Rattle.model_members.specs.DataType.{Replication}
use Rattle.model_members.specs.Node.{Node, Reply, Output}
use Rattle.model_members.specs.Step.{step, is_full}
use Rattle.theorem_sections.specs.Sections.{is_open}
use Rattle.theorem_sections.specs.Histories.{Entry, RiseAbove, AreSteps, replayed}
use Rattle.theorem_sections.specs.Paths.{until}
use Rattle.theorem_sections.proofs.Questions.{number_grows, closed_stays}
use Rattle.theorem_operations.proofs.Opening.{opening_tells}

module _ {Op Shown : Type 0} where
  -- kept or not
  pub until_in : (u : ℕ) (e : Entry Op Shown) (es : List (Entry Op Shown)) → e.stamp ≤ u → until u (e ∷ es) ≡ e ∷ until u es
  until_in u e es h = ap (λ b. cond b (e ∷ until u es) (until u es)) (le-leb e.stamp u h)

  until_out : (u : ℕ) (e : Entry Op Shown) (es : List (Entry Op Shown)) → u < e.stamp → until u (e ∷ es) ≡ until u es
  until_out u e es h = ap (λ b. cond b (e ∷ until u es) (until u es)) (by_test (nat_le e.stamp u) refl)
    where
      by_test : (b : Bool) → nat_le e.stamp u ≡ b → nat_le e.stamp u ≡ false
      by_test true is = absurd (let a = leb-true e.stamp u is in omega (arith, a, h))
      by_test false is = is

  pub rise_more : (n m : ℕ) (es : List (Entry Op Shown)) → n ≤ m → RiseAbove m es → RiseAbove n es
  rise_more n m [] h r = tt
  rise_more n m (e ∷ es) h r = ((let a = r.0 in omega (arith, a, h)), r.1)

  pub rise_at : (m : ℕ) (es : List (Entry Op Shown)) (k : ℕ) (e : Entry Op Shown) → RiseAbove m es → slice_get es k ≡ Some e → m < e.stamp
  rise_at m [] k e r h = absurd (cc h)
  rise_at m (y ∷ es) zero e r h = let same : y ≡ e = cc h in subst (λ (x : Entry Op Shown). m < x.stamp) same r.0
  rise_at m (y ∷ es) (suc k) e r h = let a = rise_at y.stamp es k e r.1 h in let b = r.0 in omega (arith, a, b)

  -- none is up to a stamp below
  pub until_none : (u : ℕ) (es : List (Entry Op Shown)) → RiseAbove u es → until u es ≡ []
  until_none u [] r = refl
  until_none u (e ∷ es) r = until_out u e es r.0 ∙ until_none u es (rise_more u e.stamp es (let a = r.0 in omega (arith, a)) r.1)

  pub until_late : (u : ℕ) (es : List (Entry Op Shown)) → AllByRecursion (λ (e : Entry Op Shown). u < e.stamp) es → until u es ≡ []
  until_late u [] h = refl
  until_late u (e ∷ es) h = until_out u e es h.0 ∙ until_late u es h.1

  pub until_all : (u : ℕ) (es : List (Entry Op Shown)) → AllByRecursion (λ (e : Entry Op Shown). e.stamp ≤ u) es → until u es ≡ es
  until_all u [] h = refl
  until_all u (e ∷ es) h = until_in u e es h.0 ∙ ap (λ xs. e ∷ xs) (until_all u es h.1)

  pub until-append : (u : ℕ) (es fs : List (Entry Op Shown)) → until u (es ++ fs) ≡ until u es ++ until u fs
  until-append u es fs = filter-append (λ (e : Entry Op Shown). nat_le e.stamp u) es fs

  -- the entries up to a stamp are the first ones
  pub until_begins : (u m : ℕ) (es : List (Entry Op Shown)) → RiseAbove m es → (more : List (Entry Op Shown)) × (until u es ++ more ≡ es)
  until_begins u m [] r = ([], refl)
  until_begins u m (e ∷ es) r = by_test (nat_le e.stamp u) refl (until_begins u e.stamp es r.1)
    where
      by_test : (b : Bool) → nat_le e.stamp u ≡ b → (more : List (Entry Op Shown)) × (until u es ++ more ≡ es) → (more : List (Entry Op Shown)) × (until u (e ∷ es) ++ more ≡ e ∷ es)
      by_test true is later = (later.0, ap (λ xs. xs ++ later.0) (until_in u e es (leb-true e.stamp u is)) ∙ ap (λ xs. e ∷ xs) later.1)
      by_test false is later = (e ∷ es, ap (λ xs. xs ++ e ∷ es) (until_out u e es (leb-false e.stamp u is) ∙ until_none u es (rise_more u e.stamp es (let a = leb-false e.stamp u is in omega (arith, a)) r.1)))

  pub rise_last : (m : ℕ) (es fs : List (Entry Op Shown)) → RiseAbove m (es ++ fs) → RiseAbove m es
  rise_last m [] fs r = tt
  rise_last m (e ∷ es) fs r = (r.0, rise_last e.stamp es fs r.1)

  -- what stands before an entry has lower stamps
  pub rise_before : (m : ℕ) (es fs : List (Entry Op Shown)) (e : Entry Op Shown) → RiseAbove m (es ++ e ∷ fs) → AllByRecursion (λ (x : Entry Op Shown). x.stamp ≤ e.stamp) es
  rise_before m [] fs e r = tt
  rise_before m (y ∷ es) fs e r = ((let a = rise_at y.stamp (es ++ e ∷ fs) (length es) e r.1 (at_length es) in omega (arith, a)), rise_before y.stamp es fs e r.1)
    where
      at_length : (es : List (Entry Op Shown)) → slice_get (es ++ e ∷ fs) (length es) ≡ Some e
      at_length [] = refl
      at_length (y ∷ es) = at_length es

module _ {Kind Op Shown : Type 0} (D : Replication Kind Op Shown) where
  pub replayed-append : (n : Node Kind Op Shown) (es fs : List (Entry Op Shown)) → replayed D n (es ++ fs) ≡ replayed D (replayed D n es) fs
  replayed-append n [] fs = refl
  replayed-append n (e ∷ es) fs = replayed-append (step D n e.input e.fate).node es fs

  pub steps_after : (n : Node Kind Op Shown) (es fs : List (Entry Op Shown)) → AreSteps D n (es ++ fs) → AreSteps D (replayed D n es) fs
  steps_after n [] fs h = h
  steps_after n (e ∷ es) fs h = steps_after (step D n e.input e.fate).node es fs h.3

  pub steps_first : (n : Node Kind Op Shown) (es fs : List (Entry Op Shown)) → AreSteps D n (es ++ fs) → AreSteps D n es
  steps_first n [] fs h = tt
  steps_first n (e ∷ es) fs h = (h.0, h.1, h.2, steps_first (step D n e.input e.fate).node es fs h.3)

  -- a full member makes no more steps
  pub full_ends : (n : Node Kind Op Shown) (fs : List (Entry Op Shown)) → AreSteps D n fs → is_full D n ≡ true → fs ≡ []
  full_ends n [] h full = refl
  full_ends n (f ∷ fs) h full = absurd (true≢false (sym full ∙ h.0))

  pub full_stays : (n : Node Kind Op Shown) (es fs : List (Entry Op Shown)) → AreSteps D n (es ++ fs) → is_full D (replayed D n es) ≡ true → is_full D (replayed D n (es ++ fs)) ≡ true
  full_stays n es fs h full =
      ap (λ xs. is_full D (replayed D n (es ++ xs))) (full_ends (replayed D n es) fs (steps_after n es fs h) full) ∙ ap (λ xs. is_full D (replayed D n xs)) (append-nil es) ∙ full

  pub numbers_grow : (n : Node Kind Op Shown) (es : List (Entry Op Shown)) → n.next_op ≤ (replayed D n es).next_op
  numbers_grow n [] = omega arith
  numbers_grow n (e ∷ es) = let a = number_grows D n e.input e.fate in let b = numbers_grow (step D n e.input e.fate).node es in omega (arith, a, b)

  -- a closed operation stays closed
  pub closed_since : (op : ℕ) (n : Node Kind Op Shown) (es : List (Entry Op Shown)) → op < n.next_op → is_open op (Some n) ≡ false → is_open op (Some (replayed D n es)) ≡ false
  closed_since op n [] given e = e
  closed_since op n (x ∷ es) given e =
      closed_since op (step D n x.input x.fate).node es (let a = number_grows D n x.input x.fate in omega (arith, a, given)) (closed_stays D n x.input x.fate op given e)

  -- an operation that was answered Pending has a number below the next one
  pub number_below : (op u m : ℕ) (n : Node Kind Op Shown) (es : List (Entry Op Shown)) (k : ℕ) (e : Entry Op Shown) → RiseAbove m es → AreSteps D n es → slice_get es k ≡ Some e → e.output.reply ≡ Reply.Pending op → e.stamp ≤ u
      → op < (replayed D n (until u es)).next_op
  number_below op u m n [] k e r steps at reply early = absurd (cc at)
  number_below op u m n (y ∷ es) zero e r steps at reply early =
      let same : y ≡ e = cc at in
      let s = step D n y.input y.fate in
      let opens = opening_tells D n 0 op y.input y.fate (sym (ap (λ (o : Output Op Shown). o.reply) steps.2) ∙ ap (λ (x : Entry Op Shown). x.output.reply) same ∙ reply) in
      let a = opens.number in let b = opens.next in let c = numbers_grow s.node (until u es) in
      subst (λ xs. op < (replayed D n xs).next_op) (sym (until_in u y es (subst (λ (x : Entry Op Shown). x.stamp ≤ u) (sym same) early)))
      (omega (arith, a, b, c))
  number_below op u m n (y ∷ es) (suc k) e r steps at reply early =
      let a = rise_at y.stamp es k e r.1 at in
      subst (λ xs. op < (replayed D n xs).next_op) (sym (until_in u y es (omega (arith, a, early))))
      (number_below op u y.stamp (step D n y.input y.fate).node es k e r.1 steps.3 at reply early)
