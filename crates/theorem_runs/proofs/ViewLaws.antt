-- Members and places of a view, and of the view after it.
use Rattle.std.proofs.Common.{◌≡◌, ◌≢◌, ℕ, ◌+◌, ◌<◌, ◌≤◌, List, [], ◌∷◌, ◌++◌, length, map, refl, sym, ap, subst, ◌∙◌, arith, Bool, true, false, Some, None, ◌⊎◌, inl, inr, zero, suc}
use Rattle.std.specs.Prelude.{⊤, if◌then◌else◌, not, filter, find, option_map, unwrap_or, slice_get, ◌==◌, ◌||◌}
use Rattle.std.specs.List.{list_any, range_with_len}
use Rattle.std.proofs.lemmas.Bool.Decides.{eqb_tells}
use Rattle.std.proofs.lemmas.Bool.{eq-eqb, ne_eqb, cases_lt}
use Rattle.model_members.specs.View.{Member, View, first_view, is_member, is_taken, place_of, without_member, with_joined, with_replaced}
use Rattle.theorem_runs.specs.Views.{IsSoundView}

-- MEMBERS AS A LIST

abbrev has : List Member → ℕ → Bool
has ms t = list_any (λ j. j == t) (map (λ (m : Member). m.identity) ms)

abbrev stays_at : List Member → ℕ → ℕ
stays_at ms t = unwrap_or (option_map (λ (m : Member). m.place) (find (λ (m : Member). m.identity == t) ms)) 0

abbrev leaving : ℕ → List Member → List Member
leaving i ms = filter (λ (m : Member). not (m.identity == i)) ms

has_append : (ms : List Member) (m : Member) (t : ℕ) → has (ms ++ m ∷ []) t ≡ true → (has ms t ≡ true) ⊎ (m.identity ≡ t)
has_append [] m t e = elim (eqb_tells m.identity t) [
  | inl is ↦ inr is.1
  | inr isnt ↦ absurd (let f : (m.identity == t) || false ≡ false = ap (λ b. b || false) isnt.0 in let g = sym e ∙ f in cc g)
]
has_append (n ∷ ms) m t e = go (n.identity == t) e (λ h. has_append ms m t h)
  where
    go : (b : Bool) → (b || has (ms ++ m ∷ []) t) ≡ true → (has (ms ++ m ∷ []) t ≡ true → (has ms t ≡ true) ⊎ (m.identity ≡ t)) → ((b || has ms t) ≡ true) ⊎ (m.identity ≡ t)
    go true h later = inl refl
    go false h later = later h

has_left : (ms : List Member) (m : Member) (t : ℕ) → has ms t ≡ true → has (ms ++ m ∷ []) t ≡ true
has_left [] m t e = absurd (cc e)
has_left (n ∷ ms) m t e = go (n.identity == t) e (λ h. has_left ms m t h)
  where
    go : (b : Bool) → (b || has ms t) ≡ true → (has ms t ≡ true → has (ms ++ m ∷ []) t ≡ true) → (b || has (ms ++ m ∷ []) t) ≡ true
    go true h later = refl
    go false h later = later h

has_last : (ms : List Member) (m : Member) → has (ms ++ m ∷ []) m.identity ≡ true
has_last [] m = ap (λ b. b || false) (eq-eqb m.identity m.identity refl)
has_last (n ∷ ms) m = go (n.identity == m.identity) (has_last ms m)
  where
    go : (b : Bool) → has (ms ++ m ∷ []) m.identity ≡ true → (b || has (ms ++ m ∷ []) m.identity) ≡ true
    go true h = refl
    go false h = h

has_filter : (i : ℕ) (ms : List Member) (t : ℕ) → has (leaving i ms) t ≡ true → (has ms t ≡ true) × (t ≢ i)
has_filter i [] t e = absurd (cc e)
has_filter i (n ∷ ms) t e = elim (eqb_tells n.identity i) [
  | inl is ↦ let h = has_filter i ms t (sym (ap (λ b. has (if not b then n ∷ leaving i ms else leaving i ms) t) is.0) ∙ e) in (more (n.identity == t) h.0, h.1)
  | inr isnt ↦ kept isnt.1 (n.identity == t) refl (sym (ap (λ b. has (if not b then n ∷ leaving i ms else leaving i ms) t) isnt.0) ∙ e) (λ f. has_filter i ms t f)
]
  where
    more : (b : Bool) → has ms t ≡ true → (b || has ms t) ≡ true
    more true h = refl
    more false h = h

    kept : n.identity ≢ i → (b : Bool) → (n.identity == t) ≡ b → (b || has (leaving i ms) t) ≡ true → (has (leaving i ms) t ≡ true → (has ms t ≡ true) × (t ≢ i)) → ((b || has ms t) ≡ true) × (t ≢ i)
    kept other true is h later = elim (eqb_tells n.identity t) [
      | inl same ↦ (refl, λ f. other (same.1 ∙ f))
      | inr isnt ↦ absurd (let g = sym is ∙ isnt.0 in cc g)
    ]
    kept other false is h later = later h

has_kept : (i : ℕ) (ms : List Member) (t : ℕ) → t ≢ i → has ms t ≡ true → has (leaving i ms) t ≡ true
has_kept i [] t other e = absurd (cc e)
has_kept i (n ∷ ms) t other e = elim (eqb_tells n.identity i) [
  | inl is ↦ ap (λ b. has (if not b then n ∷ leaving i ms else leaving i ms) t) is.0 ∙ has_kept i ms t other (sym (ap (λ b. b || has ms t) (ne_eqb n.identity t (λ f. other (sym f ∙ is.1)))) ∙ e)
  | inr isnt ↦ ap (λ b. has (if not b then n ∷ leaving i ms else leaving i ms) t) isnt.0 ∙ go (n.identity == t) e (λ h. has_kept i ms t other h)
]
  where
    go : (b : Bool) → (b || has ms t) ≡ true → (has ms t ≡ true → has (leaving i ms) t ≡ true) → (b || has (leaving i ms) t) ≡ true
    go true h later = refl
    go false h later = later h

-- PLACES

place_append : (ms : List Member) (m : Member) (t : ℕ) → has ms t ≡ true → stays_at (ms ++ m ∷ []) t ≡ stays_at ms t
place_append [] m t e = absurd (cc e)
place_append (n ∷ ms) m t e = go (n.identity == t) e (λ h. place_append ms m t h)
  where
    go : (b : Bool) → (b || has ms t) ≡ true → (has ms t ≡ true → stays_at (ms ++ m ∷ []) t ≡ stays_at ms t)
        → unwrap_or (option_map (λ (x : Member). x.place) (if b then Some n else find (λ (x : Member). x.identity == t) (ms ++ m ∷ []))) 0 ≡ unwrap_or (option_map (λ (x : Member). x.place) (if b then Some n else find (λ (x : Member). x.identity == t) ms)) 0
    go true h later = refl
    go false h later = later h

place_new : (ms : List Member) (m : Member) → has ms m.identity ≡ false → stays_at (ms ++ m ∷ []) m.identity ≡ m.place
place_new [] m e = ap (λ b. unwrap_or (option_map (λ (x : Member). x.place) (if b then Some m else None)) 0) (eq-eqb m.identity m.identity refl)
place_new (n ∷ ms) m e = go (n.identity == m.identity) e (λ h. place_new ms m h)
  where
    go : (b : Bool) → (b || has ms m.identity) ≡ false → (has ms m.identity ≡ false → stays_at (ms ++ m ∷ []) m.identity ≡ m.place)
        → unwrap_or (option_map (λ (x : Member). x.place) (if b then Some n else find (λ (x : Member). x.identity == m.identity) (ms ++ m ∷ []))) 0 ≡ m.place
    go true h later = absurd (cc h)
    go false h later = later h

place_filter : (i : ℕ) (ms : List Member) (t : ℕ) → t ≢ i → stays_at (leaving i ms) t ≡ stays_at ms t
place_filter i [] t other = refl
place_filter i (n ∷ ms) t other = elim (eqb_tells n.identity i) [
  | inl is ↦
      ap (λ b. stays_at (if not b then n ∷ leaving i ms else leaving i ms) t) is.0 ∙ place_filter i ms t other
      ∙ sym (ap (λ b. unwrap_or (option_map (λ (x : Member). x.place) (if b then Some n else find (λ (x : Member). x.identity == t) ms)) 0) (ne_eqb n.identity t (λ f. other (sym f ∙ is.1))))
  | inr isnt ↦ ap (λ b. stays_at (if not b then n ∷ leaving i ms else leaving i ms) t) isnt.0 ∙ go (n.identity == t) (place_filter i ms t other)
]
  where
    go : (b : Bool) → stays_at (leaving i ms) t ≡ stays_at ms t
        → unwrap_or (option_map (λ (x : Member). x.place) (if b then Some n else find (λ (x : Member). x.identity == t) (leaving i ms))) 0 ≡ unwrap_or (option_map (λ (x : Member). x.place) (if b then Some n else find (λ (x : Member). x.identity == t) ms)) 0
    go true h = refl
    go false h = h

not_taken : (place : ℕ) (ms : List Member) (t : ℕ) → list_any (λ (m : Member). m.place == place) ms ≡ false → has ms t ≡ true → stays_at ms t ≢ place
not_taken place [] t free e = absurd (cc e)
not_taken place (n ∷ ms) t free e = go (n.place == place) refl free (n.identity == t) e (λ f h. not_taken place ms t f h)
  where
    go : (taken : Bool) → (n.place == place) ≡ taken → (taken || list_any (λ (m : Member). m.place == place) ms) ≡ false → (b : Bool) → (b || has ms t) ≡ true → (list_any (λ (m : Member). m.place == place) ms ≡ false → has ms t ≡ true → stays_at ms t ≢ place)
        → unwrap_or (option_map (λ (x : Member). x.place) (if b then Some n else find (λ (x : Member). x.identity == t) ms)) 0 ≢ place
    go true is f b h later = absurd (cc f)
    go false is f true h later = λ same. absurd (let g : (n.place == place) ≡ true = ap (λ p. n.place == p) (sym same) ∙ eq-eqb n.place n.place refl in let k = sym is ∙ g in cc k)
    go false is f false h later = later f h

-- RISING IDENTITIES

-- the members' identities rise, from one bound to another
abbrev pub IsRising : ℕ → ℕ → List Member → Type 0
IsRising low high [] = ⊤
IsRising low high (m ∷ ms) = (low ≤ m.identity) × (m.identity < high) × IsRising (m.identity + 1) high ms

rising_from : (low lower high : ℕ) (ms : List Member) → lower ≤ low → IsRising low high ms → IsRising lower high ms
rising_from low lower high [] h all = tt
rising_from low lower high (m ∷ ms) h all = ((let a = all.0 in omega arith), all.1, all.2)

rising_filter : (i low high : ℕ) (ms : List Member) → IsRising low high ms → IsRising low high (leaving i ms)
rising_filter i low high [] all = tt
rising_filter i low high (m ∷ ms) all =
    go (m.identity == i) (all.0, all.1, rising_filter i (m.identity + 1) high ms all.2) (rising_from (m.identity + 1) low high (leaving i ms) (let a = all.0 in omega arith) (rising_filter i (m.identity + 1) high ms all.2))
  where
    go : (b : Bool) → IsRising low high (m ∷ leaving i ms) → IsRising low high (leaving i ms) → IsRising low high (if not b then m ∷ leaving i ms else leaving i ms)
    go true with_it without = without
    go false with_it without = with_it

rising_push : (place low high : ℕ) (ms : List Member) → low ≤ high → IsRising low high ms → IsRising low (high + 1) (ms ++ record { identity = high; place = place } ∷ [])
rising_push place low high [] h all = (h, (omega arith), tt)
rising_push place low high (m ∷ ms) h all = (all.0, (let a = all.1 in omega arith), rising_push place (m.identity + 1) high ms (let a = all.1 in omega arith) all.2)

pub rising_range : (first n : ℕ) → IsRising first (first + n) (map (λ i. record { identity = i; place = i }) (range_with_len first n))
rising_range first zero = tt
rising_range first (suc n) = ((omega arith), (omega arith), (let e : first + 1 + n ≡ first + suc n = omega arith in subst (λ k. IsRising (first + 1) k (map (λ i. record { identity = i; place = i }) (range_with_len (first + 1) n))) e (rising_range (first + 1) n)))

has_first : (m : Member) (ms : List Member) → has (m ∷ ms) m.identity ≡ true
has_first m ms = ap (λ b. b || has ms m.identity) (eq-eqb m.identity m.identity refl)

-- of two members one is another than i
some_other : (i low high : ℕ) (ms : List Member) → IsRising low high ms → 1 < length ms → (t : ℕ) × (has (leaving i ms) t ≡ true)
some_other i low high [] all more = absurd (omega arith)
some_other i low high (m ∷ []) all more = absurd (omega arith)
some_other i low high (m ∷ n ∷ ms) all more = elim (eqb_tells m.identity i) [
  | inl is ↦ (n.identity, has_kept i (m ∷ n ∷ ms) n.identity (λ e. absurd (let a = all.2.0 in let b = is.1 in omega arith)) (second (m.identity == n.identity) (has_first n ms)))
  | inr isnt ↦ (m.identity, has_kept i (m ∷ n ∷ ms) m.identity isnt.1 (has_first m (n ∷ ms)))
]
  where
    second : (b : Bool) → has (n ∷ ms) n.identity ≡ true → (b || has (n ∷ ms) n.identity) ≡ true
    second true h = refl
    second false h = h

-- no two members share a place
pub record HasPlaces (view : View) : Type 0 where
  pub apart : (t u : ℕ) → is_member view t ≡ true → is_member view u ≡ true → place_of view t ≡ place_of view u → t ≡ u

-- MEMBERS BY POSITION

rising_at : (low high : ℕ) (ms : List Member) → IsRising low high ms → (k : ℕ) (m : Member) → slice_get ms k ≡ Some m → low ≤ m.identity
rising_at low high [] all k m e = absurd (cc e)
rising_at low high (n ∷ ms) all zero m e = let same : n ≡ m = cc e in subst (λ (x : Member). low ≤ x.identity) same all.0
rising_at low high (n ∷ ms) all (suc k) m e = let a = rising_at (n.identity + 1) high ms all.2 k m e in let b = all.0 in omega arith

rising_pair : (low high : ℕ) (ms : List Member) → IsRising low high ms → (k l : ℕ) (a b : Member) → k < l → slice_get ms k ≡ Some a → slice_get ms l ≡ Some b → a.identity < b.identity
rising_pair low high [] all k l a b h ea eb = absurd (cc ea)
rising_pair low high (n ∷ ms) all k zero a b h ea eb = absurd (omega arith)
rising_pair low high (n ∷ ms) all zero (suc l) a b h ea eb = let same : n ≡ a = cc ea in subst (λ (x : Member). x.identity < b.identity) same (let c = rising_at (n.identity + 1) high ms all.2 l b eb in omega arith)
rising_pair low high (n ∷ ms) all (suc k) (suc l) a b h ea eb = rising_pair (n.identity + 1) high ms all.2 k l a b (omega arith) ea eb

-- who stands in the list is a member, at its place
placed : (low high : ℕ) (ms : List Member) → IsRising low high ms → (k : ℕ) (m : Member) → slice_get ms k ≡ Some m → (has ms m.identity ≡ true) × (stays_at ms m.identity ≡ m.place)
placed low high [] all k m e = absurd (cc e)
placed low high (n ∷ ms) all zero m e =
    let same : n ≡ m = cc e in
    subst (λ (x : Member). (has (n ∷ ms) x.identity ≡ true) × (stays_at (n ∷ ms) x.identity ≡ x.place)) same
    (has_first n ms, ap (λ b. unwrap_or (option_map (λ (x : Member). x.place) (if b then Some n else find (λ (x : Member). x.identity == n.identity) ms)) 0) (eq-eqb n.identity n.identity refl))
placed low high (n ∷ ms) all (suc k) m e =
    let later = placed (n.identity + 1) high ms all.2 k m e in
    let other : (n.identity == m.identity) ≡ false = ne_eqb n.identity m.identity (λ same. absurd (let a = rising_at (n.identity + 1) high ms all.2 k m e in omega arith)) in (
      ap (λ b. b || has ms m.identity) other ∙ later.0,
      ap (λ b. unwrap_or (option_map (λ (x : Member). x.place) (if b then Some n else find (λ (x : Member). x.identity == m.identity) ms)) 0) other ∙ later.1,
    )

has_some : (ms : List Member) (t : ℕ) → has ms t ≡ true → 0 < length ms
has_some [] t e = absurd (cc e)
has_some (m ∷ ms) t e = omega arith

pub some_members : (view : View) (t : ℕ) → is_member view t ≡ true → 0 < length view.members
some_members view t e = has_some view.members t e

pub sound : (number : ℕ) (view : View) → view.number ≡ number → 0 < length view.members → IsRising 0 view.given view.members → ((t : ℕ) → is_member view t ≡ true → t < view.given) → HasPlaces view → IsSoundView number view
sound number view numbered some rising below places =
    record { numbered = numbered; some = some; rising = rising_pair 0 view.given view.members rising; given = below; apart = apart }
  where
    apart : (k l : ℕ) (a b : Member) → slice_get view.members k ≡ Some a → slice_get view.members l ≡ Some b → a.place ≡ b.place → k ≡ l
    apart k l a b ea eb same =
        let pa = placed 0 view.given view.members rising k a ea in
        let pb = placed 0 view.given view.members rising l b eb in
        let one : a.identity ≡ b.identity = places.apart a.identity b.identity pa.0 pb.0 (pa.1 ∙ same ∙ sym pb.1) in
        elim (cases_lt k l) [
          | inl before ↦ absurd (let c = rising_pair 0 view.given view.members rising k l a b before ea eb in omega arith)
          | inr not_before ↦ elim (cases_lt l k) [
            | inl after ↦ absurd (let c = rising_pair 0 view.given view.members rising l k b a after eb ea in omega arith)
            | inr not_after ↦ omega arith
          ]
        ]

-- THE NEXT VIEW

pub data IsMemberAfter (view next : View) (t : ℕ) : Type 0 where
  OldMember : is_member view t ≡ true → place_of next t ≡ place_of view t → IsMemberAfter view next t
  NewMember : t ≡ view.given → next.given ≡ view.given + 1 → IsMemberAfter view next t

-- what the next view shares with the one before
pub record IsNextView (view next : View) : Type 0 where
  pub number : next.number ≡ view.number + 1
  pub given : view.given ≤ next.given
  pub member : (t : ℕ) → is_member next t ≡ true → IsMemberAfter view next t
  pub some : (t : ℕ) × (is_member next t ≡ true)
  pub rising : IsRising 0 view.given view.members → IsRising 0 next.given next.members
  pub places : HasPlaces view → HasPlaces next

-- A MEMBER LEAVES

module _ (view : View) (i : ℕ) where
  pub stays_without : (t : ℕ) → t ≢ i → is_member view t ≡ true → is_member (without_member view i) t ≡ true
  stays_without t other e = has_kept i view.members t other e

  without_places : HasPlaces view → HasPlaces (without_member view i)
  without_places places =
      record {
        apart = λ t u mt mu e.
            let ht = has_filter i view.members t mt in let hu = has_filter i view.members u mu in
            places.apart t u ht.0 hu.0 (sym (place_filter i view.members t ht.1) ∙ e ∙ place_filter i view.members u hu.1);
      }

  pub member_without : (t : ℕ) → is_member (without_member view i) t ≡ true → (is_member view t ≡ true) × (t ≢ i)
  member_without t e = has_filter i view.members t e

  pub place_without : (t : ℕ) → t ≢ i → place_of (without_member view i) t ≡ place_of view t
  place_without t other = place_filter i view.members t other

  pub next_without : IsRising 0 view.given view.members → 1 < length view.members → IsNextView view (without_member view i)
  next_without rising more =
      record {
        number = refl;
        given = omega arith;
        member = λ t e. let h = member_without t e in OldMember h.0 (place_without t h.1);
        some = some_other i 0 view.given view.members rising more;
        rising = λ r. rising_filter i 0 view.given view.members r;
        places = without_places;
      }

-- A MEMBER COMES

module _ (view : View) (place : ℕ) (below : (t : ℕ) → is_member view t ≡ true → t < view.given) where
  fresh : has view.members view.given ≡ false
  fresh = go (has view.members view.given) refl
    where
      go : (b : Bool) → has view.members view.given ≡ b → b ≡ false
      go true e = absurd (let h = below view.given e in omega arith)
      go false e = refl

  pub stays_joined : (t : ℕ) → is_member view t ≡ true → is_member (with_joined view place) t ≡ true
  stays_joined t e = has_left view.members (record { identity = view.given; place = place }) t e

  pub joins : is_member (with_joined view place) view.given ≡ true
  joins = has_last view.members (record { identity = view.given; place = place })

  pub joins_at : place_of (with_joined view place) view.given ≡ place
  joins_at = place_new view.members (record { identity = view.given; place = place }) fresh

  joined_member : (t : ℕ) → is_member (with_joined view place) t ≡ true → IsMemberAfter view (with_joined view place) t
  joined_member t e = elim (has_append view.members (record { identity = view.given; place = place }) t e) [
    | inl old ↦ OldMember old (place_append view.members (record { identity = view.given; place = place }) t old)
    | inr new ↦ NewMember (sym new) refl
  ]

  joined_places : ((t : ℕ) → is_member view t ≡ true → place_of view t ≢ place) → HasPlaces view → HasPlaces (with_joined view place)
  joined_places free places =
      record { apart = λ t u mt mu e. both t u (joined_member t mt) (joined_member u mu) e }
    where
      both : (t u : ℕ) → IsMemberAfter view (with_joined view place) t → IsMemberAfter view (with_joined view place) u → place_of (with_joined view place) t ≡ place_of (with_joined view place) u → t ≡ u
      both t u (OldMember mt pt) (OldMember mu pu) e = places.apart t u mt mu (sym pt ∙ e ∙ pu)
      both t u (OldMember mt pt) (NewMember iu g) e = absurd (free t mt (sym pt ∙ e ∙ ap (place_of (with_joined view place)) iu ∙ joins_at))
      both t u (NewMember it g) (OldMember mu pu) e = absurd (free u mu (sym pu ∙ sym e ∙ ap (place_of (with_joined view place)) it ∙ joins_at))
      both t u (NewMember it g) (NewMember iu h) e = it ∙ sym iu

  pub next_joined : is_taken view place ≡ false → IsNextView view (with_joined view place)
  next_joined free =
      record {
        number = refl;
        given = omega arith;
        member = joined_member;
        some = (view.given, joins);
        rising = λ r. rising_push place 0 view.given view.members (omega arith) r;
        places = joined_places (λ t e. not_taken place view.members t free e);
      }

-- A MEMBER COMES BACK UNDER A NEW IDENTITY

module _ (view : View) (i : ℕ) (below : (t : ℕ) → is_member view t ≡ true → t < view.given) where
  abbrev rest : View
  rest = without_member view i

  below_rest : (t : ℕ) → is_member rest t ≡ true → t < rest.given
  below_rest t e = below t (member_without view i t e).0

  pub stays_replaced : (t : ℕ) → t ≢ i → is_member view t ≡ true → is_member (with_replaced view i) t ≡ true
  stays_replaced t other e = stays_joined rest (place_of view i) below_rest t (stays_without view i t other e)

  pub replaces : is_member (with_replaced view i) view.given ≡ true
  replaces = joins rest (place_of view i) below_rest

  pub replaces_at : place_of (with_replaced view i) view.given ≡ place_of view i
  replaces_at = joins_at rest (place_of view i) below_rest

  pub next_replaced : is_member view i ≡ true → IsNextView view (with_replaced view i)
  next_replaced is_there =
      record {
        number = refl;
        given = omega arith;
        member = λ t e. one t (joined_member rest (place_of view i) below_rest t e);
        some = (view.given, replaces);
        rising = λ r. rising_push (place_of view i) 0 view.given (leaving i view.members) (omega arith) (rising_filter i 0 view.given view.members r);
        places = λ places. record {
          apart = (joined_places rest (place_of view i) below_rest
              (λ t e same. let h = member_without view i t e in h.1 (places.apart t i h.0 is_there (sym (place_without view i t h.1) ∙ same))) (without_places view i places)).apart;
        };
      }
    where
      one : (t : ℕ) → IsMemberAfter rest (with_joined rest (place_of view i)) t → IsMemberAfter view (with_replaced view i) t
      one t (OldMember e p) = let h = member_without view i t e in OldMember h.0 (p ∙ place_without view i t h.1)
      one t (NewMember e g) = NewMember e g

  pub replaced_member : (t : ℕ) → is_member (with_replaced view i) t ≡ true → t ≢ view.given → t ≢ i
  replaced_member t e other = go (joined_member rest (place_of view i) below_rest t e)
    where
      go : IsMemberAfter rest (with_joined rest (place_of view i)) t → t ≢ i
      go (OldMember m p) = (member_without view i t m).1
      go (NewMember is g) = absurd (other is)

-- THE FIRST VIEW

range_members : (first n t : ℕ) → has (map (λ i. record { identity = i; place = i }) (range_with_len first n)) t ≡ true → (first ≤ t) × (t < first + n)
range_members first zero t e = absurd (cc e)
range_members first (suc n) t e = elim (eqb_tells first t) [
  | inl is ↦ ((let a = is.1 in omega arith), (let a = is.1 in omega arith))
  | inr isnt ↦ let r = range_members (first + 1) n t (sym (ap (λ b. b || has (map (λ i. record { identity = i; place = i }) (range_with_len (first + 1) n)) t) isnt.0) ∙ e) in ((let a = r.0 in omega arith), (let a = r.1 in omega arith))
]

member_of_range : (first n t : ℕ) → first ≤ t → t < first + n → has (map (λ i. record { identity = i; place = i }) (range_with_len first n)) t ≡ true
member_of_range first zero t a b = absurd (omega arith)
member_of_range first (suc n) t a b = elim (eqb_tells first t) [
  | inl is ↦ ap (λ c. c || has (map (λ i. record { identity = i; place = i }) (range_with_len (first + 1) n)) t) is.0
  | inr isnt ↦ ap (λ c. c || has (map (λ i. record { identity = i; place = i }) (range_with_len (first + 1) n)) t) isnt.0 ∙ member_of_range (first + 1) n t (let d = isnt.1 in omega arith) (omega arith)
]

place_of_range : (first n t : ℕ) → first ≤ t → t < first + n → stays_at (map (λ i. record { identity = i; place = i }) (range_with_len first n)) t ≡ t
place_of_range first zero t a b = absurd (omega arith)
place_of_range first (suc n) t a b = elim (eqb_tells first t) [
  | inl is ↦ ap (λ c. unwrap_or (option_map (λ (x : Member). x.place) (if c then Some (record { identity = first; place = first }) else find (λ (x : Member). x.identity == t) (map (λ i. record { identity = i; place = i }) (range_with_len (first + 1) n)))) 0) is.0 ∙ is.1
  | inr isnt ↦
      ap (λ c. unwrap_or (option_map (λ (x : Member). x.place) (if c then Some (record { identity = first; place = first }) else find (λ (x : Member). x.identity == t) (map (λ i. record { identity = i; place = i }) (range_with_len (first + 1) n)))) 0) isnt.0
      ∙ place_of_range (first + 1) n t (let d = isnt.1 in omega arith) (omega arith)
]

module _ (n : ℕ) where
  pub first_below : (t : ℕ) → is_member (first_view n) t ≡ true → t < n
  first_below t e = let r = range_members 0 n t e in let a = r.1 in omega arith

  pub first_member : (t : ℕ) → t < n → is_member (first_view n) t ≡ true
  first_member t h = member_of_range 0 n t (omega arith) (omega arith)

  pub first_places : HasPlaces (first_view n)
  first_places =
      record {
        apart = λ t u mt mu e. sym (place_of_range 0 n t (omega arith) (let a = first_below t mt in omega arith)) ∙ e ∙ place_of_range 0 n u (omega arith) (let a = first_below u mu in omega arith);
      }

  pub first_rising : IsRising 0 n (first_view n).members
  first_rising = let e : 0 + n ≡ n = omega arith in subst (λ k. IsRising 0 k (first_view n).members) e (rising_range 0 n)
