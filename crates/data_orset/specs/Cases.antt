-- What the tests of joins and deltas come to, case by case.
use Rattle.std.proofs.Common.{◌≡◌, ◌⊎◌, Bool, true, false, not, ◌&&◌, ◌||◌, refl, ap, sym, ◌∙◌, ⊎_elim, inl, inr}
use Rattle.std.proofs.lemmas.Bool.{and_parts, and_from}

-- what stays of two sets' dots
abbrev pub kept : Bool → Bool → Bool → Bool → Bool
kept a b theirs mine = (a && b) || ((a && not theirs) || (b && not mine))

-- what stays of a set's dot after a delta
abbrev pub remaining : Bool → Bool → Bool → Bool → Bool
remaining state seen fresh mine = (state && (not seen || fresh)) || (fresh && not mine)

pub keeps_some : (a b theirs mine : Bool) → ((a || b) && kept a b theirs mine) ≡ kept a b theirs mine
keeps_some true true theirs mine = refl
keeps_some true false theirs mine = refl
keeps_some false true theirs mine = refl
keeps_some false false theirs mine = refl

pub which : (a b theirs mine : Bool) → kept a b theirs mine ≡ true
    → ((a ≡ true) × (b ≡ true)) ⊎ (((a ≡ true) × (theirs ≡ false)) ⊎ ((b ≡ true) × (mine ≡ false)))
which true true theirs mine e = inl (refl, refl)
which true false true mine e = absurd (let x : false ≡ true = e in cc)
which true false false mine e = inr (inl (refl, refl))
which false true theirs true e = absurd (let x : false ≡ true = e in cc)
which false true theirs false e = inr (inr (refl, refl))
which false false theirs mine e = absurd (let x : false ≡ true = e in cc)

pub kept_left : (a b theirs mine : Bool) → a ≡ true → (b ≡ true) ⊎ (theirs ≡ false) → kept a b theirs mine ≡ true
kept_left true true theirs mine e h = refl
kept_left true false true mine e h = ⊎_elim (λ (x : false ≡ true). x) (λ (x : true ≡ false). sym x) h
kept_left true false false mine e h = refl
kept_left false b theirs mine e h = absurd (let x : false ≡ true = e in cc)

pub kept_right : (a b theirs mine : Bool) → b ≡ true → mine ≡ false → kept a b theirs mine ≡ true
kept_right true true theirs mine e h = refl
kept_right false true theirs true e h = absurd (let x : true ≡ false = h in cc)
kept_right false true theirs false e h = refl
kept_right a false theirs mine e h = absurd (let x : false ≡ true = e in cc)

pub absorbed_from : (a s f m : Bool) → remaining a s f m ≡ true → ((a ≡ true) × ((s ≡ false) ⊎ (f ≡ true))) ⊎ ((f ≡ true) × (m ≡ false))
absorbed_from true false f m e = inl (refl, inl refl)
absorbed_from true true true m e = inl (refl, inr refl)
absorbed_from true true false m e = absurd (let x : false ≡ true = e in cc)
absorbed_from false s true true e = absurd (let x : false ≡ true = e in cc)
absorbed_from false s true false e = inr (refl, refl)
absorbed_from false s false m e = absurd (let x : false ≡ true = e in cc)

pub absorbed_kept : (a s f m : Bool) → a ≡ true → (s ≡ false) ⊎ (f ≡ true) → remaining a s f m ≡ true
absorbed_kept true false f m e h = refl
absorbed_kept true true true m e h = refl
absorbed_kept true true false m e h = ⊎_elim (λ (x : true ≡ false). sym x) (λ (x : false ≡ true). x) h
absorbed_kept false s f m e h = absurd (let x : false ≡ true = e in cc)

pub absorbed_new : (a s f m : Bool) → f ≡ true → m ≡ false → remaining a s f m ≡ true
absorbed_new true false f m e h = refl
absorbed_new true true true m e h = refl
absorbed_new false s true false e h = refl
absorbed_new false s true true e h = absurd (let x : true ≡ false = h in cc)
absorbed_new true true false m e h = absurd (let x : false ≡ true = e in cc)
absorbed_new false s false m e h = absurd (let x : false ≡ true = e in cc)

-- TESTS OF SIX BITS, BY TRYING ALL

abbrev every : (Bool → Bool) → Bool
every p = p true && p false

every_at : (p : Bool → Bool) → every p ≡ true → (b : Bool) → p b ≡ true
every_at p e true = (and_parts _ _ e).0
every_at p e false = (and_parts _ _ e).1

abbrev every_six : (Bool → Bool → Bool → Bool → Bool → Bool → Bool) → Bool
every_six p = every (λ a. every (λ b. every (λ c. every (λ d. every (λ e. every (λ f. p a b c d e f))))))

six_at : (p : Bool → Bool → Bool → Bool → Bool → Bool → Bool) → every_six p ≡ true → (a b c d e f : Bool) → p a b c d e f ≡ true
six_at p all a b c d e f =
    let one = every_at (λ a. every (λ b. every (λ c. every (λ d. every (λ e. every (λ f. p a b c d e f)))))) all a in
    let two = every_at (λ b. every (λ c. every (λ d. every (λ e. every (λ f. p a b c d e f))))) one b in
    let three = every_at (λ c. every (λ d. every (λ e. every (λ f. p a b c d e f)))) two c in
    let four = every_at (λ d. every (λ e. every (λ f. p a b c d e f))) three d in
    every_at (λ f. p a b c d e f) (every_at (λ e. every (λ f. p a b c d e f)) four e) f

abbrev implies : Bool → Bool → Bool
implies a b = not a || b

implied : (a b : Bool) → (a ≡ true → b ≡ true) → implies a b ≡ true
implied true b h = h refl
implied false b h = refl

implying : (a b : Bool) → implies a b ≡ true → a ≡ true → b ≡ true
implying true b e h = e
implying false b e h = absurd (cc h)

abbrev same : Bool → Bool → Bool
same true b = b
same false b = not b

same_is : (a b : Bool) → same a b ≡ true → a ≡ b
same_is true true e = refl
same_is true false e = absurd (cc e)
same_is false true e = absurd (cc e)
same_is false false e = refl

abbrev upper_claim : Bool → Bool → Bool → Bool → Bool → Bool → Bool
upper_claim a b v w x y = implies (implies a v) (same (kept a (kept a b w v) (v || w) v) (kept a b w v))

upper_cases : (a b v w : Bool) → (a ≡ true → v ≡ true) → kept a (kept a b w v) (v || w) v ≡ kept a b w v
upper_cases a b v w h = same_is _ _ (implying _ _ (six_at upper_claim refl a b v w true true) (implied a v h))

-- a set joined with a join of it
pub upper_test : (a b v w m c : Bool) → m ≡ kept a b w v → c ≡ (v || w) → (a ≡ true → v ≡ true) → kept a m c v ≡ kept a b w v
upper_test a b v w m c e f h = ap (λ x. kept a x c v) e ∙ ap (λ y. kept a (kept a b w v) y v) f ∙ upper_cases a b v w h

abbrev assoc_claim : Bool → Bool → Bool → Bool → Bool → Bool → Bool
assoc_claim a b c u v w = implies (implies a u && (implies b v && implies c w)) (same (kept (kept a b v u) c w (u || v)) (kept a (kept b c w v) (v || w) u))

assoc_cases : (a b c u v w : Bool) → (a ≡ true → u ≡ true) → (b ≡ true → v ≡ true) → (c ≡ true → w ≡ true) → kept (kept a b v u) c w (u || v) ≡ kept a (kept b c w v) (v || w) u
assoc_cases a b c u v w p q r = same_is _ _ (implying _ _ (six_at assoc_claim refl a b c u v w) (and_from _ _ (implied a u p) (and_from _ _ (implied b v q) (implied c w r))))

-- three sets, joined from either side
pub assoc_test : (a b c u v w ab bc uv vw : Bool) → ab ≡ kept a b v u → bc ≡ kept b c w v → uv ≡ (u || v) → vw ≡ (v || w) → (a ≡ true → u ≡ true) → (b ≡ true → v ≡ true) → (c ≡ true → w ≡ true)
    → kept ab c w uv ≡ kept a bc vw u
assoc_test a b c u v w ab bc uv vw e f g h p q r =
    ap (λ x. kept x c w uv) e ∙ ap (λ y. kept (kept a b v u) c w y) g ∙ assoc_cases a b c u v w p q r ∙ sym (ap (λ x. kept a x vw u) f ∙ ap (λ y. kept a (kept b c w v) y u) h)

abbrev absorb_claim : Bool → Bool → Bool → Bool → Bool → Bool → Bool
absorb_claim st el fr ct x y = implies (implies fr (not ct)) (same (remaining st ((st && el) || fr) fr ct) ((st && not el) || fr))

pub absorb_cases : (st el fr ct : Bool) → (fr ≡ true → ct ≡ false) → remaining st ((st && el) || fr) fr ct ≡ ((st && not el) || fr)
absorb_cases st el fr ct h = same_is _ _ (implying _ _ (six_at absorb_claim refl st el fr ct true true) (implied fr (not ct) (λ e. ap not (h e))))

abbrev combine_claim : Bool → Bool → Bool → Bool → Bool → Bool → Bool
combine_claim st s1 f1 s2 f2 ct = implies (implies f2 (not s1)) (same (remaining st (s1 || s2) (f2 || (f1 && not s2)) ct) (remaining (remaining st s1 f1 ct) s2 f2 ct))

pub combine_cases : (st s1 f1 s2 f2 ct : Bool) → (f2 ≡ true → s1 ≡ false) → remaining st (s1 || s2) (f2 || (f1 && not s2)) ct ≡ remaining (remaining st s1 f1 ct) s2 f2 ct
combine_cases st s1 f1 s2 f2 ct h = same_is _ _ (implying _ _ (six_at combine_claim refl st s1 f1 s2 f2 ct) (implied f2 (not s1) (λ e. ap not (h e))))
