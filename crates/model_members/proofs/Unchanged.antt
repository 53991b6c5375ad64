-- Unchanged entries have the same history and the same marks.
use Rattle.std.proofs.Common.{◌≡◌, ℕ, zero, suc, ◌<◌, ◌≤◌, List, [], ◌∷◌, take, refl, sym, ap, ◌∙◌, subst, arith, Bool, true, false, not, ◌&&◌, Option, Some, None, inl, inr}
use Rattle.std.proofs.lemmas.Bool.{cases_lt, and_parts, and_from, eqb-true, eq-eqb}
use Rattle.std.specs.Prelude.{slice_get, if◌then◌else◌, ◌==◌, ◌↔◌}
use Rattle.std.specs.List.{list_all}
use Rattle.model_history.specs.Table.{identity_limit, identities}
use Rattle.model_history.specs.History.{History, at, IsPartOf}
use Rattle.model_members.specs.Entry.{Entry, Mark, same_set, is_same_mark, is_unchanged}
use Rattle.model_members.specs.Relations.{AreSameMark, AreOfIdentities}
use Rattle.model_history.proofs.PruneLaws.{in_range, at_identities}
use Rattle.model_history.proofs.PartLaws.{take_whole, take_none}

-- A TEST AT EACH IDENTITY

each : {X : Type 0} (p : X → Bool) (xs : List X) → list_all p xs ≡ true → (k : ℕ) (x : X) → slice_get xs k ≡ Some x → p x ≡ true
each p [] e k x has = absurd (cc has)
each p (y ∷ xs) e zero x has = let same : y ≡ x = cc has in ap p (sym same) ∙ (and_parts (p y) (list_all p xs) e).0
each p (y ∷ xs) e (suc k) x has = each p xs (and_parts (p y) (list_all p xs) e).1 k x has

all : {X : Type 0} (p : X → Bool) (xs : List X) → ((k : ℕ) (x : X) → slice_get xs k ≡ Some x → p x ≡ true) → list_all p xs ≡ true
all p [] h = refl
all p (x ∷ xs) h = and_from (p x) (list_all p xs) (h 0 x refl) (all p xs (λ k y e. h (suc k) y e))

each_identity : (p : ℕ → Bool) → list_all p identities ≡ true → (i : ℕ) → i < identity_limit → p i ≡ true
each_identity p e i l = let there = at_identities i l in each p identities e there.0 i there.1

all_identities : (p : ℕ → Bool) → ((i : ℕ) → i < identity_limit → p i ≡ true) → list_all p identities ≡ true
all_identities p h = all p identities (λ k i e. h i (let r = in_range 0 identity_limit i (k, e) in omega (arith, r.1)))

-- MARKS

same_member : (b c : Bool) → (if b then c else not c) ≡ true → b ≡ c
same_member true c e = sym e
same_member false true e = e
same_member false false e = refl

member_same : (b c : Bool) → b ≡ c → (if b then c else not c) ≡ true
member_same true c e = sym e
member_same false true e = e
member_same false false e = refl

same_marks : (a b : Option Mark) → is_same_mark a b ≡ true → AreSameMark a b
same_marks None None e = tt
same_marks None (Some b) e = cc e
same_marks (Some a) None e = cc e
same_marks (Some a) (Some b) e =
    let outer = and_parts ((a.view == b.view) && (a.owner == b.owner)) (same_set a.seen b.seen) e in
    let inner = and_parts (a.view == b.view) (a.owner == b.owner) outer.0 in (
      eqb-true a.view b.view inner.0,
      eqb-true a.owner b.owner inner.1,
      (λ i l. same_member (a.seen i) (b.seen i) (each_identity (λ i. if a.seen i then b.seen i else not (b.seen i)) outer.1 i l)),
    )

marks_same : (a b : Option Mark) → AreSameMark a b → is_same_mark a b ≡ true
marks_same None None h = refl
marks_same None (Some b) h = absurd h
marks_same (Some a) None h = absurd h
marks_same (Some a) (Some b) h =
    and_from ((a.view == b.view) && (a.owner == b.owner)) (same_set a.seen b.seen) (and_from (a.view == b.view) (a.owner == b.owner) (eq-eqb a.view b.view h.0) (eq-eqb a.owner b.owner h.1))
    (all_identities (λ i. if a.seen i then b.seen i else not (b.seen i)) (λ i l. member_same (a.seen i) (b.seen i) (h.2 i l)))

module _ {Op : Type 0} (old new : Entry Op) (part : IsPartOf old.history new.history) (few : (i : ℕ) → identity_limit ≤ i → new.history i ≡ []) where
  abbrev is_same_at : ℕ → Bool
  is_same_at i = (at old.history i == at new.history i) && is_same_mark (old.marks i) (new.marks i)

  same_rows : ((i : ℕ) → i < identity_limit → at old.history i ≡ at new.history i) → (i : ℕ) → old.history i ≡ new.history i
  same_rows h i = elim (cases_lt i identity_limit) [
    | inl small ↦ part i ∙ ap (λ n. take n (new.history i)) (h i small) ∙ take_whole (new.history i)
    | inr large ↦ part i ∙ ap (take (at old.history i)) (few i large) ∙ take_none (at old.history i) ∙ sym (few i large)
  ]

  pub unchanged_exactly : (is_unchanged old new ≡ true) ↔ ((old.history ≡ new.history) × ((r : ℕ) → r < identity_limit → AreSameMark (old.marks r) (new.marks r)))
  unchanged_exactly = (
    (λ e.
        let tests : (i : ℕ) → i < identity_limit → ((at old.history i == at new.history i) ≡ true) × (is_same_mark (old.marks i) (new.marks i) ≡ true) =
        λ i l. and_parts (at old.history i == at new.history i) (is_same_mark (old.marks i) (new.marks i)) (each_identity is_same_at e i l) in (
          (λ j i. same_rows (λ i l. eqb-true (at old.history i) (at new.history i) (tests i l).0) i j),
          (λ r l. same_marks (old.marks r) (new.marks r) (tests r l).1),
        )),
    (λ h.
        all_identities is_same_at (λ i l.
        and_from (at old.history i == at new.history i) (is_same_mark (old.marks i) (new.marks i))
        (eq-eqb (at old.history i) (at new.history i) (ap (λ (K : History Op). at K i) h.0)) (marks_same (old.marks i) (new.marks i) (h.1 i l)))),
  )

  -- EQUAL ENTRIES

  module _ (mine : AreOfIdentities old.marks) (theirs : AreOfIdentities new.marks) where
    equal_seen : (r : ℕ) (a b : Mark) → old.marks r ≡ Some a → new.marks r ≡ Some b → ((i : ℕ) → i < identity_limit → a.seen i ≡ b.seen i) → (i : ℕ) → a.seen i ≡ b.seen i
    equal_seen r a b is is' same i = elim (cases_lt i identity_limit) [
      | inl small ↦ same i small
      | inr large ↦ mine.seen r a is i large ∙ sym (theirs.seen r b is' i large)
    ]

    equal_mark : (r : ℕ) (a b : Option Mark) → old.marks r ≡ a → new.marks r ≡ b → AreSameMark a b → a ≡ b
    equal_mark r None None is is' h = refl
    equal_mark r None (Some b) is is' h = absurd h
    equal_mark r (Some a) None is is' h = absurd h
    equal_mark r (Some a) (Some b) is is' h = let seen = equal_seen r a b is is' h.2 in λ j. Some (record { view = h.0 j; owner = h.1 j; seen = λ i. seen i j })

    equal_marks : ((r : ℕ) → r < identity_limit → AreSameMark (old.marks r) (new.marks r)) → (r : ℕ) → old.marks r ≡ new.marks r
    equal_marks same r = elim (cases_lt r identity_limit) [
      | inl small ↦ equal_mark r (old.marks r) (new.marks r) refl refl (same r small)
      | inr large ↦ mine.marked r large ∙ sym (theirs.marked r large)
    ]

    itself : (a : Option Mark) → AreSameMark a a
    itself None = tt
    itself (Some a) = (refl, refl, (λ i l. refl))

    pub unchanged_equal : (is_unchanged old new ≡ true) ↔ (old ≡ new)
    unchanged_equal = (
      (λ e. let h = unchanged_exactly.0 e in let marks = equal_marks h.1 in λ j. record { history = h.0 j; marks = λ r. marks r j }),
      (λ e. unchanged_exactly.1 (ap (λ (x : Entry Op). x.history) e, (λ r l. subst (λ (x : Entry Op). AreSameMark (old.marks r) (x.marks r)) e (itself (old.marks r))))),
    )
