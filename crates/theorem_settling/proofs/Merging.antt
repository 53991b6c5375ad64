-- Entries of one key taken one after another: how many records there are then, and which marks.
use Rattle.std.proofs.Common.{◌≡◌, ◌≢◌, ℕ, zero, suc, ◌≤◌, max, List, [], ◌∷◌, refl, sym, ap, subst, ◌∙◌, arith, Bool, true, false, Option, Some, None, ◌⊎◌, inl, inr}
use Rattle.std.specs.Prelude.{if◌then◌else◌, slice_get, fold, nat_lt, ◌==◌, ◌||◌, min}
use Rattle.std.specs.List.{AllByRecursion}
use Rattle.std.specs.Str.{bytes_eq}
use Rattle.std.proofs.lemmas.Bool.Decides.{nat_tests}
use Rattle.std.proofs.lemmas.Bool.{le-leb, eq-eqb}
use Rattle.model_history.specs.Texts.{Text}
use Rattle.model_history.specs.Vector.{with_member, united}
use Rattle.model_history.specs.History.{History, at, union, is_pruned}
use Rattle.model_history.proofs.HistoryLaws.{at-union, union_assoc, union_same}
use Rattle.model_members.specs.Entry.{Entry, Mark, merged, merged_mark, newer_mark, seen_by, seen_mark}
use Rattle.model_members.specs.Message.{Keyed}
use Rattle.model_members.specs.Step.{is_entry_passed_over}
use Rattle.model_members.proofs.Steps.{bytes_eq-same}
use Rattle.model_members.proofs.Taking.{taken_entry}
use Rattle.theorem_runs.proofs.Keeping.{same_text}
use Rattle.theorem_operations.proofs.Lists.{or_left, or_right}

not_below : (a b : ℕ) → b ≤ a → nat_lt a b ≡ false
not_below a b h = grind (arith, nat_tests)

-- MARKS

-- the entry has a mark of r of this view, in which all of these stand
pub record MarkAt {Op : Type 0} (r v : ℕ) (S : ℕ → Type 0) (entry : Entry Op) : Type 0 where
  pub mark : Mark
  pub is : entry.marks r ≡ Some mark
  pub now : mark.view ≡ v
  pub seen : (t : ℕ) → S t → mark.seen t ≡ true

-- its marks of r are of views up to this
abbrev pub UpTo : {Op : Type 0} → ℕ → ℕ → Entry Op → Type 0
UpTo r v entry = (mark : Mark) → entry.marks r ≡ Some mark → mark.view ≤ v

-- one more stands there
abbrev pub OneMore : ℕ → (ℕ → Type 0) → ℕ → Type 0
OneMore i S t = (t ≡ i) ⊎ S t

module _ (r v i : ℕ) (S : ℕ → Type 0) where
  pub first_newer : (a b : Mark) → a.view ≡ v → ((t : ℕ) → S t → a.seen t ≡ true) → b.view ≤ v → ((newer_mark a b).view ≡ v) × ((t : ℕ) → S t → (newer_mark a b).seen t ≡ true)
  first_newer a b is seen less = by (nat_lt b.view a.view)
    where
      first : newer_mark a b ≡ (if nat_lt b.view a.view then a else record { view = a.view; owner = min a.owner b.owner; seen = united a.seen b.seen })
      first = ap (λ c. if c then b else (if nat_lt b.view a.view then a else record { view = a.view; owner = min a.owner b.owner; seen = united a.seen b.seen })) (not_below a.view b.view (omega arith))

      case : (c : Bool) → ((if c then a else record { view = a.view; owner = min a.owner b.owner; seen = united a.seen b.seen }).view ≡ v) × ((t : ℕ) → S t → (if c then a else record { view = a.view; owner = min a.owner b.owner; seen = united a.seen b.seen }).seen t ≡ true)
      case true = (is, seen)
      case false = (is, λ t s. or_left (a.seen t) (b.seen t) (seen t s))

      by : (c : Bool) → ((newer_mark a b).view ≡ v) × ((t : ℕ) → S t → (newer_mark a b).seen t ≡ true)
      by c = subst (λ (m : Mark). (m.view ≡ v) × ((t : ℕ) → S t → m.seen t ≡ true)) (sym first) (case (nat_lt b.view a.view))

  pub second_newer : (a b : Mark) → b.view ≡ v → ((t : ℕ) → S t → b.seen t ≡ true) → a.view ≤ v → ((newer_mark a b).view ≡ v) × ((t : ℕ) → S t → (newer_mark a b).seen t ≡ true)
  second_newer a b is seen less = case (nat_lt a.view b.view) refl
    where
      at_least : nat_lt a.view b.view ≡ false → b.view ≤ a.view
      at_least e = grind (arith, nat_tests)

      rest : (e : nat_lt a.view b.view ≡ false) → ((if nat_lt b.view a.view then a else record { view = a.view; owner = min a.owner b.owner; seen = united a.seen b.seen }).view ≡ v)
          × ((t : ℕ) → S t → (if nat_lt b.view a.view then a else record { view = a.view; owner = min a.owner b.owner; seen = united a.seen b.seen }).seen t ≡ true)
      rest e =
          let l = at_least e in
          subst (λ c. ((if c then a else record { view = a.view; owner = min a.owner b.owner; seen = united a.seen b.seen }).view ≡ v) × ((t : ℕ) → S t → (if c then a else record { view = a.view; owner = min a.owner b.owner; seen = united a.seen b.seen }).seen t ≡ true))
          (sym (not_below b.view a.view (omega arith))) ((let z : a.view ≡ v = omega arith in z), λ t s. or_right (a.seen t) (b.seen t) (seen t s))

      case : (c : Bool) → nat_lt a.view b.view ≡ c → ((if c then b else (if nat_lt b.view a.view then a else record { view = a.view; owner = min a.owner b.owner; seen = united a.seen b.seen })).view ≡ v)
          × ((t : ℕ) → S t → (if c then b else (if nat_lt b.view a.view then a else record { view = a.view; owner = min a.owner b.owner; seen = united a.seen b.seen })).seen t ≡ true)
      case true e = (is, seen)
      case false e = rest e

module _ {Op : Type 0} (i v : ℕ) (key : Text) (theirs : Entry Op) where
  -- my entry after theirs was taken
  abbrev pub joined : Entry Op → Entry Op
  joined mine = seen_by i v (merged mine theirs)

  -- theirs is not passed over
  pub record Ordinary (mine : Entry Op) : Type 0 where
    pub few : at theirs.history i ≤ at mine.history i
    pub unpruned : is_pruned theirs.history i ≡ false

  ordinary_joined : (mine : Entry Op) → Ordinary mine → Ordinary (joined mine)
  ordinary_joined mine o = record { few = let a = at-union mine.history theirs.history i in let b = o.few in omega arith; unpruned = o.unpruned }

  not_passed_over : (mine : Entry Op) → Ordinary mine → is_entry_passed_over i mine theirs ≡ false
  not_passed_over mine o = ap (λ b. b || is_pruned theirs.history i) (not_below (at mine.history i) (at theirs.history i) o.few) ∙ o.unpruned

  -- each entry of this key among these is theirs
  abbrev pub AllTheirs : List (Keyed (Entry Op)) → Type 0
  AllTheirs es = AllByRecursion (λ (e : Keyed (Entry Op)). e.key ≡ key → e.item ≡ theirs) es

  -- one of these
  taken_is : (mine : Entry Op) (e : Keyed (Entry Op)) → Ordinary mine → (e.key ≡ key → e.item ≡ theirs) → (taken_entry i v key mine e ≡ joined mine) ⊎ ((taken_entry i v key mine e ≡ mine) × (e.key ≢ key))
  taken_is mine e o same = by_test (bytes_eq key e.key) refl
    where
      by_test : (b : Bool) → bytes_eq key e.key ≡ b → ((if b then (if is_entry_passed_over i mine e.item then mine else seen_by i v (merged mine e.item)) else mine) ≡ joined mine)
          ⊎ (((if b then (if is_entry_passed_over i mine e.item then mine else seen_by i v (merged mine e.item)) else mine) ≡ mine) × (e.key ≢ key))
      by_test false is = inr (refl, λ f. let g = sym is ∙ ap (bytes_eq key) f ∙ bytes_eq-same key in absurd (cc g))
      by_test true is =
          let item = same (sym (same_text key e.key is)) in
          inl (ap (λ (x : Entry Op). if is_entry_passed_over i mine x then mine else seen_by i v (merged mine x)) item ∙ ap (λ b. if b then mine else joined mine) (not_passed_over mine o))

  -- what holds before and is kept holds after
  pub takes_all : (P : Entry Op → Type 0) → ((x : Entry Op) → P x → P (joined x)) → (es : List (Keyed (Entry Op))) (mine : Entry Op) → AllTheirs es → Ordinary mine → P mine → P (fold (taken_entry i v key) mine es)
  takes_all P kept [] mine all o p = p
  takes_all P kept (e ∷ es) mine all o p = by (taken_is mine e o all.0) (λ next o' p'. takes_all P kept es next all.1 o' p')
    where
      by : (taken_entry i v key mine e ≡ joined mine) ⊎ ((taken_entry i v key mine e ≡ mine) × (e.key ≢ key)) → ((next : Entry Op) → Ordinary next → P next → P (fold (taken_entry i v key) next es)) → P (fold (taken_entry i v key) (taken_entry i v key mine e) es)
      by (inl is) rest = subst (λ (x : Entry Op). P (fold (taken_entry i v key) x es)) (sym is) (rest (joined mine) (ordinary_joined mine o) (kept mine p))
      by (inr is) rest = subst (λ (x : Entry Op). P (fold (taken_entry i v key) x es)) (sym is.0) (rest mine o p)

  -- and what one of them brings
  takes_some : (P Q : Entry Op → Type 0) → ((x : Entry Op) → P x → Q (joined x)) → ((x : Entry Op) → Q x → Q (joined x)) → (es : List (Keyed (Entry Op))) (k : ℕ) (e : Keyed (Entry Op)) → slice_get es k ≡ Some e → e.key ≡ key → (mine : Entry Op) → AllTheirs es → Ordinary mine → P mine
      → Q (fold (taken_entry i v key) mine es)
  takes_some P Q brings kept [] k e has is mine all o p = absurd (cc has)
  takes_some P Q brings kept (x ∷ es) k e has is mine all o p = by (taken_is mine x o all.0) k has (λ k' has' next o' p'. takes_some P Q brings kept es k' e has' is next all.1 o' p')
    where
      by : (taken_entry i v key mine x ≡ joined mine) ⊎ ((taken_entry i v key mine x ≡ mine) × (x.key ≢ key)) → (k : ℕ) → slice_get (x ∷ es) k ≡ Some e
          → ((k' : ℕ) → slice_get es k' ≡ Some e → (next : Entry Op) → Ordinary next → P next → Q (fold (taken_entry i v key) next es)) → Q (fold (taken_entry i v key) (taken_entry i v key mine x) es)
      by (inl f) k h rest = subst (λ (y : Entry Op). Q (fold (taken_entry i v key) y es)) (sym f) (takes_all Q kept es (joined mine) all.1 (ordinary_joined mine o) (brings mine p))
      by (inr f) zero h rest = absurd (let same : x ≡ e = cc h in f.1 (ap (λ (y : Keyed (Entry Op)). y.key) same ∙ is))
      by (inr f) (suc k) h rest = subst (λ (y : Entry Op). Q (fold (taken_entry i v key) y es)) (sym f.0) (rest k h mine o p)

  -- HOW MANY RECORDS

  pub record IsBetween (mine x : Entry Op) : Type 0 where
    pub more : (o : ℕ) → at mine.history o ≤ at x.history o
    pub less : (o : ℕ) → at x.history o ≤ max (at mine.history o) (at theirs.history o)

  pub takes_between : (es : List (Keyed (Entry Op))) (mine : Entry Op) → AllTheirs es → Ordinary mine → IsBetween mine (fold (taken_entry i v key) mine es)
  takes_between es mine all o =
      takes_all (IsBetween mine) (λ x p. record {
        more = λ q. let a = p.more q in let b = at-union x.history theirs.history q in omega arith;
        less = λ q. let a = p.less q in let b = at-union x.history theirs.history q in omega arith;
      }) es mine all o (record { more = λ q. omega arith; less = λ q. omega arith })

  abbrev pub IsBoth : Entry Op → Entry Op → Type 0
  IsBoth mine x = (o : ℕ) → at x.history o ≡ max (at mine.history o) (at theirs.history o)

  pub takes_both : (es : List (Keyed (Entry Op))) (k : ℕ) (e : Keyed (Entry Op)) → slice_get es k ≡ Some e → e.key ≡ key → (mine : Entry Op) → AllTheirs es → Ordinary mine → IsBoth mine (fold (taken_entry i v key) mine es)
  takes_both es k e has is mine all o =
      takes_some (IsBetween mine) (IsBoth mine)
      (λ x p q. let a = p.more q in let c = p.less q in let b = at-union x.history theirs.history q in omega arith)
      (λ x p q. let a = p q in let b = at-union x.history theirs.history q in omega arith)
      es k e has is mine all o (record { more = λ q. omega arith; less = λ q. omega arith })

  -- WHICH MARKS

  module _ (r : ℕ) (S : ℕ → Type 0) (theirs_up : UpTo r v theirs) where
    -- the marks of r after taking theirs, where neither history has a prune of it
    after_seen : (o : Option Mark) (mark : Mark) → o ≡ Some mark → mark.view ≡ v → (s : (t : ℕ) → S t → mark.seen t ≡ true) → (m : Mark) × (seen_mark i v o ≡ Some m) × (m.view ≡ v) × ((t : ℕ) → OneMore i S t → m.seen t ≡ true)
    after_seen o mark is now s = (
      record mark { seen = with_member mark.seen i },
      ap (seen_mark i v) is ∙ ap (λ b. if b then Some (record mark { seen = with_member mark.seen i }) else Some mark) (le-leb mark.view v (omega arith)),
      now,
      λ t m. by t m,
    )
      where
        by : (t : ℕ) → OneMore i S t → with_member mark.seen i t ≡ true
        by t (inl e) = or_left (t == i) (mark.seen t) (eq-eqb t i e)
        by t (inr e) = or_right (t == i) (mark.seen t) (s t e)

    finish : (x : Entry Op) → is_pruned (union x.history theirs.history) r ≡ false → (mark : Mark) → merged_mark (x.marks r) (theirs.marks r) ≡ Some mark → mark.view ≡ v → ((t : ℕ) → S t → mark.seen t ≡ true) → MarkAt r v (OneMore i S) (joined x)
    finish x unpruned mark is now s =
        let after = after_seen (if is_pruned (union x.history theirs.history) r then None else merged_mark (x.marks r) (theirs.marks r)) mark
        (ap (λ b. if b then None else merged_mark (x.marks r) (theirs.marks r)) unpruned ∙ is) now s in
        record { mark = after.0; is = after.1; now = after.2; seen = after.3 }

    -- my mark stays
    pub joined_keeps : (x : Entry Op) → is_pruned (union x.history theirs.history) r ≡ false → MarkAt r v S x → MarkAt r v (OneMore i S) (joined x)
    joined_keeps x unpruned m = by (theirs.marks r) refl
      where
        by : (o : Option Mark) → theirs.marks r ≡ o → MarkAt r v (OneMore i S) (joined x)
        by None e = finish x unpruned m.mark ((λ j. merged_mark (m.is j) (e j))) m.now m.seen
        by (Some b) e = let n = first_newer r v i S m.mark b m.now m.seen (theirs_up b e) in finish x unpruned (newer_mark m.mark b) (λ j. merged_mark (m.is j) (e j)) n.0 n.1

    -- their mark comes
    pub joined_brings : (x : Entry Op) → is_pruned (union x.history theirs.history) r ≡ false → UpTo r v x → MarkAt r v S theirs → MarkAt r v (OneMore i S) (joined x)
    joined_brings x unpruned up m = by (x.marks r) refl
      where
        by : (o : Option Mark) → x.marks r ≡ o → MarkAt r v (OneMore i S) (joined x)
        by None e = finish x unpruned m.mark ((λ j. merged_mark (e j) (m.is j))) m.now m.seen
        by (Some a) e = let n = second_newer r v i S a m.mark m.now m.seen (up a e) in finish x unpruned (newer_mark a m.mark) (λ j. merged_mark (e j) (m.is j)) n.0 n.1

pub mark_weaker : {Op : Type 0} (r v : ℕ) (S T : ℕ → Type 0) (entry : Entry Op) → ((t : ℕ) → T t → S t) → MarkAt r v S entry → MarkAt r v T entry
mark_weaker r v S T entry h m = record { mark = m.mark; is = m.is; now = m.now; seen = λ t s. m.seen t (h t s) }

module _ {Op : Type 0} (i v : ℕ) (key : Text) (theirs : Entry Op) (r : ℕ) (theirs_up : UpTo r v theirs) where
  -- neither history has a prune of r
  abbrev pub Both : Entry Op → Type 0
  Both x = is_pruned (union x.history theirs.history) r ≡ false

  both_joined : (x : Entry Op) → Both x → Both (joined i v key theirs x)
  both_joined x b = ap (λ (H : History Op). is_pruned H r) (union_assoc x.history theirs.history theirs.history ∙ ap (union x.history) (union_same theirs.history)) ∙ b

  -- a mark that stood stays
  pub takes_keeps : (S : ℕ → Type 0) (es : List (Keyed (Entry Op))) (mine : Entry Op) → AllTheirs i v key theirs es → Ordinary i v key theirs mine → Both mine → MarkAt r v S mine → MarkAt r v S (fold (taken_entry i v key) mine es)
  takes_keeps S es mine all o b m =
      (takes_all i v key theirs (λ x. Both x × MarkAt r v S x)
      (λ x p. (both_joined x p.0, mark_weaker r v (OneMore i S) S (joined i v key theirs x) (λ t s. inr s) (joined_keeps i v key theirs r S theirs_up x p.0 p.1))) es mine all o (b, m)).1

  -- a mark that they have comes
  pub takes_brings : (S : ℕ → Type 0) (es : List (Keyed (Entry Op))) (k : ℕ) (e : Keyed (Entry Op)) → slice_get es k ≡ Some e → e.key ≡ key → (mine : Entry Op) → AllTheirs i v key theirs es → Ordinary i v key theirs mine → Both mine → UpTo r v mine → MarkAt r v S theirs
      → MarkAt r v (OneMore i S) (fold (taken_entry i v key) mine es)
  takes_brings S es k e has is mine all o b up m =
      (takes_some i v key theirs (λ x. Both x × UpTo r v x) (λ x. Both x × MarkAt r v (OneMore i S) x)
      (λ x p. (both_joined x p.0, joined_brings i v key theirs r S theirs_up x p.0 p.1 m))
      (λ x p. (both_joined x p.0, mark_weaker r v (OneMore i (OneMore i S)) (OneMore i S) (joined i v key theirs x) (λ t s. inr s) (joined_keeps i v key theirs r (OneMore i S) theirs_up x p.0 p.1))) es k e has is mine all o (b, up)).1
