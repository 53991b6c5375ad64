-- Histories whose stamps rise have a run order: each entry is put before the first one that comes after it.
use Rattle.std.proofs.Common.{◌≡◌, ◌≢◌, inl, inr, ℕ, zero, suc, ◌<◌, ◌≤◌, List, [], ◌∷◌, refl, sym, ap, subst, ◌∙◌, arith, Some}
use Rattle.std.specs.Prelude.{⊤, ◌==◌, if◌then◌else◌, slice_get}
use Rattle.std.specs.List.{AllByRecursion}
use Rattle.std.proofs.lemmas.Bool.Decides.{eqb_tells, Decides-eqb}
use Rattle.thread_machine.specs.declared.entry.Entry.{Entry}
use Rattle.thread_cell.specs.Stamps.{Rises}
use Rattle.thread_run_order.specs.Orders.{AtPlace, entries_of, ComesBefore, AreSorted, IsRunOrder}

-- which of two comes first
pub data Order (a b : ℕ) : Type 0 where
  less : a < b → Order a b
  even : a ≡ b → Order a b
  more : b < a → Order a b

pub order : (a b : ℕ) → Order a b
order zero zero = even refl
order zero (suc b) = less (omega arith)
order (suc a) zero = more (omega arith)
order (suc a) (suc b) = go (order a b)
  where
    go : Order a b → Order (suc a) (suc b)
    go (less l) = less (omega arith)
    go (even e) = even (ap suc e)
    go (more l) = more (omega arith)

module _ {M I F O R : Type 0} where
  -- stamps rise from above this number
  abbrev pub RiseAbove : ℕ → List (Entry M I F O R) → Type 0
  RiseAbove stamp [] = ⊤
  RiseAbove stamp (e ∷ es) = (stamp < e.stamp) × RiseAbove e.stamp es

  pub rise_above : (stamp : ℕ) (h : List (Entry M I F O R)) → ((i : ℕ) (e : Entry M I F O R) → slice_get h i ≡ Some e → stamp < e.stamp)
      → ((i j : ℕ) (e f : Entry M I F O R) → i < j → slice_get h i ≡ Some e → slice_get h j ≡ Some f → e.stamp < f.stamp) → RiseAbove stamp h
  rise_above stamp [] above rising = tt
  rise_above stamp (e ∷ h) above rising = (above 0 e refl, rise_above e.stamp h (λ i f at. rising 0 (suc i) e f (omega arith) refl at) (λ i j f g lt at_i at_j. rising (suc i) (suc j) f g (omega arith) at_i at_j))

  pub rise_all : (h : List (Entry M I F O R)) → Rises h → RiseAbove 0 h
  rise_all h rises = rise_above 0 h rises.above rises.rising

  before_trans : (x y z : AtPlace (Entry M I F O R)) → ComesBefore x y → ComesBefore y z → ComesBefore x z
  before_trans x y z (inl a) (inl b) = inl (omega arith)
  before_trans x y z (inl a) (inr b) = let s = b.0 in inl (omega arith)
  before_trans x y z (inr a) (inl b) = let s = a.0 in inl (omega arith)
  before_trans x y z (inr a) (inr b) = let s = a.1 in let t = b.1 in inr (a.0 ∙ b.0, omega arith)

  all_after : (x y : AtPlace (Entry M I F O R)) (ys : List (AtPlace (Entry M I F O R))) → ComesBefore x y → AllByRecursion (ComesBefore y) ys → AllByRecursion (ComesBefore x) ys
  all_after x y [] h all = tt
  all_after x y (z ∷ ys) h all = (before_trans x y z h all.0, all_after x y ys h all.1)

  -- an entry is put before the first one that comes after it
  module _ (x : AtPlace (Entry M I F O R)) where
    data Turn (y : AtPlace (Entry M I F O R)) : Type 0 where
      first : ComesBefore x y → Turn y
      later : ComesBefore y x → y.place ≢ x.place → Turn y

    -- of its own place all are later
    abbrev IsEarlier : AtPlace (Entry M I F O R) → Type 0
    IsEarlier y = y.place ≡ x.place → x.entry.stamp < y.entry.stamp

    turn : (y : AtPlace (Entry M I F O R)) → IsEarlier y → Turn y
    turn y earlier = go (order x.entry.stamp y.entry.stamp) (order x.place y.place)
      where
        go : Order x.entry.stamp y.entry.stamp → Order x.place y.place → Turn y
        go (less l) o = first (inl l)
        go (even e) (less l) = first (inr (e, l))
        go (even e) (even p) = absurd (let l = earlier (sym p) in omega arith)
        go (even e) (more l) = later (inr (sym e, l)) (λ p. omega arith)
        go (more l) (less k) = later (inl l) (λ p. omega arith)
        go (more l) (even p) = absurd (let k = earlier (sym p) in omega arith)
        go (more l) (more k) = later (inl l) (λ p. omega arith)

    -- a list with the entry in its place
    record Inserted (ys : List (AtPlace (Entry M I F O R))) : Type 1 where
      list : List (AtPlace (Entry M I F O R))
      sorted : AreSorted list
      all : (P : AtPlace (Entry M I F O R) → Type 0) → P x → AllByRecursion P ys → AllByRecursion P list
      here : entries_of x.place list ≡ x.entry ∷ entries_of x.place ys
      others : (p : ℕ) → x.place ≢ p → entries_of p list ≡ entries_of p ys

    pub same_place : (p : ℕ) (y : AtPlace (Entry M I F O R)) (ys : List (AtPlace (Entry M I F O R))) → y.place ≡ p → entries_of p (y ∷ ys) ≡ y.entry ∷ entries_of p ys
    same_place p y ys e = ap (λ b. if b then y.entry ∷ entries_of p ys else entries_of p ys) ((Decides-eqb y.place p).1 e)

    pub other_place : (p : ℕ) (y : AtPlace (Entry M I F O R)) (ys : List (AtPlace (Entry M I F O R))) → y.place ≢ p → entries_of p (y ∷ ys) ≡ entries_of p ys
    other_place p y ys other = elim (eqb_tells y.place p) [ inl e ↦ absurd (other e.1) | inr e ↦ ap (λ b. if b then y.entry ∷ entries_of p ys else entries_of p ys) e.0 ]

    inserted : (ys : List (AtPlace (Entry M I F O R))) → AreSorted ys → AllByRecursion IsEarlier ys → Inserted ys
    inserted [] sorted earlier =
        record { list = x ∷ []; sorted = (tt, tt); all = λ P h all. (h, tt); here = same_place x.place x [] refl; others = λ p other. other_place p x [] other }
    inserted (y ∷ ys) sorted earlier = go (inserted ys sorted.1 earlier.1) (turn y earlier.0)
      where
        go : Inserted ys → Turn y → Inserted (y ∷ ys)
        go rest (first h) =
            record {
              list = x ∷ y ∷ ys;
              sorted = ((h, all_after x y ys h sorted.0), sorted);
              all = λ P h all. (h, all);
              here = same_place x.place x (y ∷ ys) refl;
              others = λ p other. other_place p x (y ∷ ys) other;
            }
        go rest (later h apart) =
            record {
              list = y ∷ rest.list;
              sorted = (rest.all (ComesBefore y) h sorted.0, rest.sorted);
              all = λ P h all. (all.0, rest.all P h all.1);
              here = other_place x.place y rest.list apart ∙ rest.here ∙ ap (λ es. x.entry ∷ es) (sym (other_place x.place y ys apart));
              others = λ p other. ap (λ es. if y.place == p then y.entry ∷ es else es) (rest.others p other);
            }

  -- a whole history of a place of which there was none
  record Merged (place stamp : ℕ) (es : List (Entry M I F O R)) (ys : List (AtPlace (Entry M I F O R))) : Type 1 where
    list : List (AtPlace (Entry M I F O R))
    sorted : AreSorted list
    all : (P : AtPlace (Entry M I F O R) → Type 0) → AllByRecursion (λ e. P (record { place = place; entry = e })) es → AllByRecursion P ys → AllByRecursion P list
    later : AllByRecursion (λ (y : AtPlace (Entry M I F O R)). y.place ≡ place → stamp < y.entry.stamp) list
    here : entries_of place list ≡ es
    others : (p : ℕ) → place ≢ p → entries_of p list ≡ entries_of p ys

  later_all : (place stamp late : ℕ) (ys : List (AtPlace (Entry M I F O R))) → stamp < late → AllByRecursion (λ (y : AtPlace (Entry M I F O R)). y.place ≡ place → late < y.entry.stamp) ys → AllByRecursion (λ (y : AtPlace (Entry M I F O R)). y.place ≡ place → stamp < y.entry.stamp) ys
  later_all place stamp late [] l all = tt
  later_all place stamp late (y ∷ ys) l all = ((λ e. let k = all.0 e in omega arith), later_all place stamp late ys l all.1)

  none_here : (place stamp : ℕ) (ys : List (AtPlace (Entry M I F O R))) → AllByRecursion (λ (y : AtPlace (Entry M I F O R)). y.place < place) ys → AllByRecursion (λ (y : AtPlace (Entry M I F O R)). y.place ≡ place → stamp < y.entry.stamp) ys
  none_here place stamp [] all = tt
  none_here place stamp (y ∷ ys) all = ((λ e. absurd (let l = all.0 in omega arith)), none_here place stamp ys all.1)

  no_entries : (place : ℕ) (ys : List (AtPlace (Entry M I F O R))) → AllByRecursion (λ (y : AtPlace (Entry M I F O R)). y.place < place) ys → (p : ℕ) → place ≤ p → entries_of p ys ≡ []
  no_entries place [] all p l = refl
  no_entries place (y ∷ ys) all p l = other_place y p y ys (λ e. let k = all.0 in omega arith) ∙ no_entries place ys all.1 p l

  merged : (place stamp : ℕ) (es : List (Entry M I F O R)) (ys : List (AtPlace (Entry M I F O R))) → RiseAbove stamp es → AreSorted ys → AllByRecursion (λ (y : AtPlace (Entry M I F O R)). y.place < place) ys → Merged place stamp es ys
  merged place stamp [] ys rise sorted below =
      record { list = ys; sorted = sorted; all = λ P h all. all; later = none_here place stamp ys below; here = no_entries place ys below place (omega arith); others = λ p other. refl }
  merged place stamp (e ∷ es) ys rise sorted below =
      let rest = merged place e.stamp es ys rise.1 sorted below in
      let x : AtPlace (Entry M I F O R) = record { place = place; entry = e } in
      let put = inserted x rest.list rest.sorted rest.later in
      record {
        list = put.list;
        sorted = put.sorted;
        all = λ P h all. put.all P h.0 (rest.all P h.1 all);
        later = put.all (λ (y : AtPlace (Entry M I F O R)). y.place ≡ place → stamp < y.entry.stamp) (λ _. rise.0) (later_all place stamp e.stamp rest.list rise.0 rest.later);
        here = put.here ∙ ap (λ es. e ∷ es) rest.here;
        others = λ p other. put.others p other ∙ rest.others p other;
      }

  module _ (histories : ℕ → List (Entry M I F O R)) (rises : (p : ℕ) → RiseAbove 0 (histories p)) where
    -- the entries of the first places
    record Firsts (n : ℕ) : Type 0 where
      list : List (AtPlace (Entry M I F O R))
      sorted : AreSorted list
      below : AllByRecursion (λ (y : AtPlace (Entry M I F O R)). y.place < n) list
      whole : (p : ℕ) → p < n → entries_of p list ≡ histories p

    below_more : (n : ℕ) (ys : List (AtPlace (Entry M I F O R))) → AllByRecursion (λ (y : AtPlace (Entry M I F O R)). y.place < n) ys → AllByRecursion (λ (y : AtPlace (Entry M I F O R)). y.place < suc n) ys
    below_more n [] all = tt
    below_more n (y ∷ ys) all = ((let l = all.0 in omega arith), below_more n ys all.1)

    all_below : (n : ℕ) (es : List (Entry M I F O R)) → AllByRecursion (λ (e : Entry M I F O R). n < suc n) es
    all_below n [] = tt
    all_below n (e ∷ es) = (omega arith, all_below n es)

    firsts : (n : ℕ) → Firsts n
    firsts zero = record { list = []; sorted = tt; below = tt; whole = λ p l. absurd (omega arith) }
    firsts (suc n) =
        let rest = firsts n in
        let with_more = merged n 0 (histories n) rest.list (rises n) rest.sorted rest.below in
        record {
          list = with_more.list;
          sorted = with_more.sorted;
          below = with_more.all (λ (y : AtPlace (Entry M I F O R)). y.place < suc n) (all_below n (histories n)) (below_more n rest.list rest.below);
          whole = λ p l. elim (eqb_tells n p) [
            | inl here ↦ subst (λ k. entries_of k with_more.list ≡ histories k) here.1 with_more.here
            | inr other ↦ with_more.others p other.1 ∙ rest.whole p (let o = other.1 in lower n p l o)
          ];
        }
      where
        lower : (n p : ℕ) → p < suc n → n ≢ p → p < n
        lower n p l other = go (order p n)
          where
            go : Order p n → p < n
            go (less k) = k
            go (even e) = absurd (other (sym e))
            go (more k) = absurd (omega arith)

    -- where only the first places have entries, these are all
    pub have_run_order : (n : ℕ) → ((p : ℕ) → n ≤ p → histories p ≡ []) → (xs : List (AtPlace (Entry M I F O R))) × IsRunOrder histories xs
    have_run_order n none =
        let all = firsts n in (
          all.list,
          record {
            sorted = all.sorted;
            whole = λ p. go p (order p n);
          },
        )
      where
        go : (p : ℕ) → Order p n → entries_of p (firsts n).list ≡ histories p
        go p (less l) = (firsts n).whole p l
        go p (even e) = no_entries n (firsts n).list (firsts n).below p (omega arith) ∙ sym (none p (omega arith))
        go p (more l) = no_entries n (firsts n).list (firsts n).below p (omega arith) ∙ sym (none p (omega arith))
