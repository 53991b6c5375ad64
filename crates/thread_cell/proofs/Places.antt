-- Each kind of step keeps the half of the rule that speaks of places.
use Rattle.std.proofs.Common.{◌≡◌, ◌≢◌, ℕ, ◌+◌, ◌<◌, ◌≤◌, List, [], ◌∷◌, ◌++◌, length, set, get_or, Some, None, refl, ap, sym, ◌∙◌, subst, ⊎_elim, inl, inr, arith, length-append, length-set, get_or-set_same, get_or-set_other}
use mathlib.Core.Option.{some, some-ne-none}
use mathlib.Core.List.{IsPrefix}
use mathlib.Core.Logic.{dite}
use native.Mathlib.Decide.{ℕ_discrete}
use lib.ListN.{get_elem?}
use Rattle.atomic_table.proofs.Lists.{set_else}
use Rattle.thread_cell.specs.declared.view.ClientCalls.{ClientCalls}
use Rattle.thread_cell.specs.declared.view.View.{View}
use Rattle.thread_cell.specs.Lists.{longer, at, with_at, same, times}
use Rattle.thread_cell.specs.Views.{IsLive, nobody, beginner, standing_for, met, extended}
use Rattle.thread_cell.specs.Rule.{most, word_of, stands, FitsPlaces, KeepsPlaces, Looked}
use Rattle.thread_cell.proofs.Prefixes.{prefix_self, prefix_trans, prefix_more, prefix_length, longer_begins, begins_longer, begins_longer_too, longer_whole, longer_whole_too}
use Rattle.thread_cell.proofs.Lists.{at-with_at, at-with_other, with_at_ind, with_at_within, at-longer_each, longer_each_within, weigh-append, weigh-set, weigh_at_least, weigh_two, weigh_within, weigh_met, each_set, each_snoc}

module _ {E K : Type 0} (places : List ℕ) (key : K) where
  spent_fits : (log : List (List E)) → FitsPlaces key log nobody
  spent_fits log = record {
    few = omega arith;
    begins = λ p. (at log p, refl);
    first_begins = λ p. ([], refl);
    second_begins = λ p. ([], refl);
    second_behind = λ p _. ([], refl);
    first_behind = λ p _. ([], refl);
    whole = λ p h. absurd (omega arith);
    opening = inr refl;
  }

  live_began : (log : List (List E)) (v : View E K) → IsLive v → FitsPlaces key log v → (v.began ≡ Some key) × (v.met_began ≡ Some key)
  live_began log v live fits = ⊎_elim (λ o. o) (λ o. absurd (let none : v.began ≡ None = ap (λ (u : View E K). u.began) o in let is = live.1 in cc)) fits.opening

  -- a view that stands for no more
  less_fits : (log : List (List E)) (v : View E K) (ps : List ℕ) (cs : List ClientCalls) → FitsPlaces key log v → ((p : ℕ) → times p ps ≤ times p v.places) → (v ≡ nobody → standing_for v ps cs ≡ nobody) → FitsPlaces key log (standing_for v ps cs)
  less_fits log v ps cs fits less spent = record {
    few = fits.few;
    begins = fits.begins;
    first_begins = fits.first_begins;
    second_begins = fits.second_begins;
    second_behind = fits.second_behind;
    first_behind = fits.first_behind;
    whole = λ p h. let l = less p in fits.whole p (omega arith);
    opening = ⊎_elim (λ o. inl o) (λ o. inr (spent o)) fits.opening;
  }

  module _ (log : List (List E)) (words : List ℕ) (views : List (View E K)) (kept : KeepsPlaces places key log words views) (id : ℕ) (v : View E K) (here : get_elem? views id ≡ some v) where
    mine : FitsPlaces key log v
    mine = kept.each id v here

    -- note and part
    pub parts_places : (ps qs : List ℕ) (cs ds : List ClientCalls) → ((p : ℕ) → times p ps + times p qs ≡ times p v.places) → (v ≡ nobody → standing_for v ps cs ≡ nobody) → (v ≡ nobody → standing_for v qs ds ≡ nobody)
        → KeepsPlaces places key log words (set views id (standing_for v ps cs) ++ standing_for v qs ds ∷ [])
    parts_places ps qs cs ds sum left_spent right_spent =
        let left : View E K = standing_for v ps cs in
        let right : View E K = standing_for v qs ds in
        record {
          count = kept.count;
          lengths = kept.lengths;
          bound = kept.bound;
          inside = kept.inside;
          once = kept.once;
          stood = λ p.
              let one = weigh-append (stands p) (set views id left) (right ∷ []) in
              let two = weigh-set (stands p) views id v left here in
              let all = kept.stood p in
              let s = sum p in omega arith;
          idle = kept.idle;
          each = each_snoc (FitsPlaces key log) (set views id left) right
              (less_fits log v qs ds mine (λ p. let s = sum p in omega arith) right_spent)
              (each_set (FitsPlaces key log) views id left
              (less_fits log v ps cs mine (λ p. let s = sum p in omega arith) left_spent)
              (λ j u apart e. kept.each j u e));
        }

    -- meet
    met_fits : (w : View E K) → IsLive v → IsLive w → FitsPlaces key log w → FitsPlaces key log (met v w)
    met_fits w live live' theirs = record {
      few = longer_each_within v.known w.known 8 mine.few theirs.few;
      begins = λ p. subst (λ h. IsPrefix h (at log p)) (sym (at-longer_each v.known w.known p)) (longer_begins _ _ _ (mine.begins p) (theirs.begins p));
      first_begins = λ p. subst (IsPrefix (at v.known p)) (sym (at-longer_each v.known w.known p)) (begins_longer _ _ _ (mine.begins p) (theirs.begins p));
      second_begins = λ p. subst (IsPrefix (at w.known p)) (sym (at-longer_each v.known w.known p)) (begins_longer_too _ _ _ (mine.begins p) (theirs.begins p));
      second_behind = λ p h. subst (IsPrefix (at w.known p)) (sym (mine.whole p h)) (theirs.begins p);
      first_behind = λ p h. subst (IsPrefix (at v.known p)) (sym (theirs.whole p h)) (mine.begins p);
      whole = λ p h.
          at-longer_each v.known w.known p
          ∙ dite (ℕ_discrete (times p v.places) 0)
          (λ none.
          let sum = weigh-append (same p) v.places w.places in
          let is : at w.known p ≡ at log p = theirs.whole p (omega arith) in
          ap (longer (at v.known p)) is ∙ longer_whole_too (at v.known p) (at log p) (mine.begins p))
          (λ some_there.
          let is : at v.known p ≡ at log p = mine.whole p (omega arith) in
          ap (λ h. longer h (at w.known p)) is ∙ longer_whole (at log p) (at w.known p) (theirs.begins p));
      opening = inl ((live_began log v live mine).0, (live_began log w live' theirs).0);
    }

    pub meets_places : (other : ℕ) (w : View E K) → IsLive v → IsLive w → ¬ (other ≡ id) → get_elem? (set views id (met v w)) other ≡ some w
        → KeepsPlaces places key log words (set (set views id (met v w)) other nobody)
    meets_places other w live live' apart there =
        let theirs : FitsPlaces key log w = kept.each other w (sym (set_else views id other (met v w) apart) ∙ there) in
        record {
          count = kept.count;
          lengths = kept.lengths;
          bound = kept.bound;
          inside = kept.inside;
          once = kept.once;
          stood = λ p. weigh_met (stands p) views id other v w (met v w) nobody here there (weigh-append (same p) v.places w.places) refl ∙ kept.stood p;
          idle = kept.idle;
          each = each_set (FitsPlaces key log) (set views id (met v w)) other nobody (spent_fits log)
              (λ j u _ e. each_set (FitsPlaces key log) views id (met v w) (met_fits w live live' theirs) (λ i x _ e'. kept.each i x e') j u e);
        }

    -- look
    pub looked : Looked v
    looked = record {
      first = mine.first_begins;
      second = mine.second_begins;
      behind = mine.second_behind;
      first_behind = mine.first_behind;
      bound = weigh_within v.known 8 most mine.few (λ p. let l = prefix_length (at v.known p) (at log p) (mine.begins p) in let b = kept.bound p in omega arith);
      opening = ⊎_elim (λ o. o.1 ∙ sym o.0) (λ o. ap (λ (u : View E K). u.met_began) o ∙ sym (ap (λ (u : View E K). u.began) o)) mine.opening;
    }

    -- extend
    module _ (p : ℕ) (e : E) (stood : 0 < stands p v) (room : length (at v.known p) < most) where
      abbrev longer_log : List (List E)
      longer_log = with_at log p (at log p ++ e ∷ [])

      is_whole : at v.known p ≡ at log p
      is_whole = mine.whole p stood

      is_place : 0 < times p places
      is_place = let a = weigh_at_least (stands p) views id v here in let b = kept.stood p in omega arith

      only_here : (j : ℕ) (u : View E K) → j ≢ id → get_elem? views j ≡ some u → stands p u ≡ 0
      only_here j u apart there = let a = weigh_two (stands p) views j id u v apart there here in let b = kept.stood p in let c = kept.once p in omega arith

      others_fit : (j : ℕ) (u : View E K) → j ≢ id → get_elem? views j ≡ some u → FitsPlaces key longer_log u
      others_fit j u apart there =
          let fits : FitsPlaces key log u = kept.each j u there in
          record {
            few = fits.few;
            begins = with_at_ind (λ q h. IsPrefix (at u.known q) h) log p (at log p ++ e ∷ []) (prefix_more _ _ _ (fits.begins p)) (λ q _. fits.begins q);
            first_begins = fits.first_begins;
            second_begins = fits.second_begins;
            second_behind = fits.second_behind;
            first_behind = fits.first_behind;
            whole = with_at_ind (λ q h. 0 < stands q u → at u.known q ≡ h) log p (at log p ++ e ∷ []) (λ h. absurd (let none = only_here j u apart there in omega arith)) (λ q _. fits.whole q);
            opening = fits.opening;
          }

      known_more : (q : ℕ) → IsPrefix (at v.known q) (at (extended p e v).known q)
      known_more = with_at_ind (λ q h. IsPrefix (at v.known q) h) v.known p (at v.known p ++ e ∷ []) (e ∷ [], refl) (λ q _. prefix_self (at v.known q))

      extended_fits : FitsPlaces key longer_log (extended p e v)
      extended_fits = record {
        few = with_at_within v.known p (at v.known p ++ e ∷ []) 8 mine.few (kept.inside p is_place);
        begins = with_at_ind (λ q h. IsPrefix h (at longer_log q)) v.known p (at v.known p ++ e ∷ [])
            (subst (IsPrefix (at v.known p ++ e ∷ [])) (sym (at-with_at log p (at log p ++ e ∷ []))) (subst (λ h. IsPrefix (h ++ e ∷ []) (at log p ++ e ∷ [])) (sym is_whole) (prefix_self (at log p ++ e ∷ []))))
            (λ q n. subst (IsPrefix (at v.known q)) (sym (at-with_other log p q (at log p ++ e ∷ []) n)) (mine.begins q));
        first_begins = λ q. prefix_trans _ _ _ (mine.first_begins q) (known_more q);
        second_begins = λ q. prefix_trans _ _ _ (mine.second_begins q) (known_more q);
        second_behind = mine.second_behind;
        first_behind = mine.first_behind;
        whole = with_at_ind (λ q h. 0 < stands q v → h ≡ at longer_log q) v.known p (at v.known p ++ e ∷ [])
            (λ _. ap (λ h. h ++ e ∷ []) is_whole ∙ sym (at-with_at log p (at log p ++ e ∷ [])))
            (λ q n h. mine.whole q h ∙ sym (at-with_other log p q (at log p ++ e ∷ []) n));
        opening = ⊎_elim (λ o. inl o) (λ o. absurd (let none : stands p v ≡ 0 = ap (stands p) o in omega arith)) mine.opening;
      }

      pub extends_places : KeepsPlaces places key longer_log (set words (word_of p) (length (at v.known p) + 1)) (set views id (extended p e v))
      extends_places =
          let n : length (at v.known p) ≡ length (at log p) = ap (λ (h : List E). length h) is_whole in
          let inside : p < 8 = kept.inside p is_place in
          let count = kept.count in
          let one_more = length-append (at log p) (e ∷ []) in
          record {
            count = length-set words (word_of p) _ ∙ count;
            lengths = with_at_ind (λ q h. q < 8 → get_or (set words (word_of p) (length (at v.known p) + 1)) (word_of q) 0 ≡ length h) log p (at log p ++ e ∷ [])
                (λ _. get_or-set_same words (word_of p) (length (at v.known p) + 1) 0 (omega arith) ∙ omega arith)
                (λ q away l. get_or-set_other words (word_of p) (word_of q) (length (at v.known p) + 1) 0 (λ same. away (omega arith)) ∙ kept.lengths q l);
            bound = with_at_ind (λ q h. length h ≤ most) log p (at log p ++ e ∷ []) (omega arith) (λ q _. kept.bound q);
            inside = kept.inside;
            once = kept.once;
            stood = λ q. let s = weigh-set (stands q) views id v (extended p e v) here in let t = kept.stood q in omega arith;
            idle = with_at_ind (λ q h. times q places ≡ 0 → h ≡ []) log p (at log p ++ e ∷ []) (λ none. absurd (let some_there = is_place in omega arith)) (λ q _. kept.idle q);
            each = each_set (FitsPlaces key longer_log) views id (extended p e v) extended_fits others_fit;
          }

-- the table at its beginning
pub begins_places : (E : Type 0) {K : Type 0} (places : List ℕ) (key : K) (clients : List ℕ) (words : List ℕ) → length words ≡ 144 → ((p : ℕ) → get_or words p 0 ≡ 0) → ((p : ℕ) → 0 < times p places → p < 8) → ((p : ℕ) → times p places ≤ 1)
    → KeepsPlaces {E = E} places key [] words (beginner places clients key ∷ [])
begins_places E places key clients words count zeros inside once = record {
  count = count;
  lengths = λ p _. zeros (word_of p);
  bound = λ p. omega arith;
  inside = inside;
  once = once;
  stood = λ p. omega arith;
  idle = λ p _. refl;
  each = λ j u e. each_snoc (FitsPlaces {E = E} key []) [] (beginner places clients key)
      (record {
        few = omega arith;
        begins = λ p. ([], refl);
        first_begins = λ p. ([], refl);
        second_begins = λ p. ([], refl);
        second_behind = λ p _. ([], refl);
        first_behind = λ p _. ([], refl);
        whole = λ p _. refl;
        opening = inl (refl, refl);
      })
      (λ i x none. absurd (some-ne-none x (sym none))) j u e;
}
