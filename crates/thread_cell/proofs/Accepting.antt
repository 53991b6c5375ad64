-- What a step of a cell for a session leaves of both.
use Rattle.std.proofs.Common.{◌≡◌, ◌≢◌, ℕ, zero, suc, ◌+◌, ◌<◌, ◌≤◌, max, List, [], ◌∷◌, ◌++◌, length, slice_get, Some, refl, ap, sym, ◌∙◌, subst, ⊎_elim, arith, length-append}
use mathlib.Core.List.{IsPrefix}
use Rattle.thread_machine.specs.declared.entry.Entry.{Entry}
use Rattle.thread_cell.specs.declared.opening.Opening.{Opening}
use Rattle.thread_cell.specs.declared.view.ClientCalls.{ClientCalls}
use Rattle.thread_cell.specs.declared.view.View.{View}
use Rattle.thread_cell.specs.Lists.{first, rest, longer, at, with_at, longer_each}
use Rattle.thread_cell.specs.Views.{with_call}
use Rattle.thread_cell.specs.Rule.{calls_at}
use Rattle.thread_cell.specs.Seats.{client, IsAtPlace, IsOfClient, lent, Calls}
use Rattle.thread_cell.specs.Stamps.{total, IsTimed, Rises}
use Rattle.thread_machine.proofs.Replaying.{get_pushed}
use Rattle.thread_cell.proofs.Prefixes.{prefix_self, prefix_trans, longer_whole_too}
use Rattle.thread_cell.proofs.Lists.{at-with_at, at-with_other, with_at_ind, at-longer_each}
use Rattle.thread_cell.proofs.Lending.{home_stands, lent_whole, lent_clients}
use Rattle.thread_cell.proofs.Meetings.{longer_get, total_longer, total_longer_too}

module _ {A : Type 0} where
  total-with_at : (hs : List (List A)) (p : ℕ) (h : List A) → total (with_at hs p h) + length (at hs p) ≡ total hs + length h
  total-with_at [] zero h = omega arith
  total-with_at [] (suc p) h = let more = total-with_at [] p h in omega arith
  total-with_at (g ∷ hs) zero h = omega arith
  total-with_at (g ∷ hs) (suc p) h = let more = total-with_at hs p h in omega arith

-- the two views after a call
module _ {E K : Type 0} (p c : ℕ) (calls : List (ℕ × ℕ)) (e : E) (v w v' w' : View E K) (home : IsAtPlace p v) (guest : IsOfClient c calls w) (made : Calls p e v w v' w') where
  abbrev both : List (List E)
  both = longer_each v.known w.known

  both_whole : at both p ≡ at v.known p
  both_whole = lent_whole p c calls v w home guest made.lending

  pub new_after : calls_at p (length (at v.known p)) calls ≡ 0
  new_after = ap (λ (h : List E). calls_at p (length h) calls) (sym both_whole) ∙ made.is_new.none_of (client c calls) [] (lent_clients p c calls v w home guest)

  pub known_after : v'.known ≡ with_at both p (at both p ++ e ∷ [])
  known_after = ap (λ (u : View E K). u.known) made.home

  pub history_after : at v'.known p ≡ at v.known p ++ e ∷ []
  history_after = ap (λ hs. at hs p) known_after ∙ (at-with_at both p (at both p ++ e ∷ []) ∙ ap (λ h. h ++ e ∷ []) both_whole)

  pub elsewhere_after : (q : ℕ) → q ≢ p → at v'.known q ≡ longer (at v.known q) (at w.known q)
  elsewhere_after q away = ap (λ hs. at hs q) known_after ∙ (at-with_other both p q (at both p ++ e ∷ []) away ∙ at-longer_each v.known w.known q)

  grows : (q : ℕ) → IsPrefix (at both q) (at v'.known q)
  grows q = subst (λ hs. IsPrefix (at both q) (at hs q)) (sym known_after) (with_at_ind (λ r h. IsPrefix (at both r) h) both p (at both p ++ e ∷ []) (e ∷ [], refl) (λ r _. prefix_self (at both r)) q)

  pub home_knew : (q : ℕ) → IsPrefix (at v.known q) (at v'.known q)
  home_knew q = prefix_trans (at v.known q) (at both q) (at v'.known q) (made.lending.first q) (grows q)

  -- the guest knew no more of the place
  pub guest_behind : IsPrefix (at w.known p) (at v.known p)
  guest_behind = made.lending.behind p (home_stands p c calls v w home guest)

  pub guest_knew : (q : ℕ) → IsPrefix (at w.known q) (at v'.known q)
  guest_knew q = prefix_trans (at w.known q) (at both q) (at v'.known q) (made.lending.second q) (grows q)

  guest_known : w'.known ≡ longer_each w.known v'.known
  guest_known = ap (λ (u : View E K). u.known) made.guest ∙ ap (longer_each w.known) (sym known_after)

  pub same_after : (q : ℕ) → at w'.known q ≡ at v'.known q
  same_after q = ap (λ hs. at hs q) guest_known ∙ (at-longer_each w.known v'.known q ∙ longer_whole_too (at w.known q) (at v'.known q) (guest_knew q))

  pub began_after : (v'.began ≡ v.began) × (w'.began ≡ w.began) × (w.began ≡ v.began)
  began_after = (ap (λ (u : View E K). u.began) made.home, ap (λ (u : View E K). u.began) made.guest, made.lending.opening)

  pub home_is : IsAtPlace p v'
  home_is = record {
    live = (home.live.0, began_after.0 ∙ home.live.1);
    places = ap (λ (u : View E K). u.places) made.home ∙ ap (λ (ps : List ℕ). ps ++ []) home.places;
    clients = ap (λ (u : View E K). u.clients) made.home ∙ ap (λ (cs : List ClientCalls). rest (with_call cs (p, length (at both p)))) (lent_clients p c calls v w home guest);
  }

  pub guest_is : IsOfClient c (calls ++ (p, length (at v.known p)) ∷ []) w'
  guest_is = record {
    live = (guest.live.0, began_after.1 ∙ guest.live.1);
    places = ap (λ (u : View E K). u.places) made.guest ∙ ap (λ (ps : List ℕ). ps ++ []) guest.places;
    clients =
        ap (λ (u : View E K). u.clients) made.guest
        ∙ (ap (λ (cs : List ClientCalls). rest cs ++ first (with_call (lent v w).clients (p, length (at both p)))) guest.clients
        ∙ (ap (λ (cs : List ClientCalls). first (with_call cs (p, length (at both p)))) (lent_clients p c calls v w home guest)
        ∙ ap (λ (n : ℕ). client c (calls ++ (p, n) ∷ []) ∷ []) (ap (λ (h : List E). length h) both_whole)));
  }

module _ {M I F O R : Type 0} where
  -- stamps after a call
  module _ (p c : ℕ) (calls : List (ℕ × ℕ)) (e : Entry M I F O R) (v w v' w' : View (Entry M I F O R) (Opening M I F O R)) (home : IsAtPlace p v) (guest : IsOfClient c calls w) (made : Calls p e v w v' w')
      (clock stamp : ℕ) (timed : IsTimed v.known clock) (timed' : IsTimed w.known stamp) (stamped : e.stamp ≡ max clock stamp + 1) where
    abbrev joint : List (List (Entry M I F O R))
    joint = longer_each v.known w.known

    before : (q i : ℕ) (x : Entry M I F O R) → slice_get (at joint q) i ≡ Some x → x.stamp ≤ max clock stamp
    before q i x is =
        let is' = subst (λ h. slice_get h i ≡ Some x) (at-longer_each v.known w.known q) is in
        ⊎_elim
        (λ one. let l = timed.at_least q i x one in let r : x.stamp ≤ max clock stamp = omega arith in r)
        (λ other. let l = timed'.at_least q i x other in let r : x.stamp ≤ max clock stamp = omega arith in r)
        (longer_get (at v.known q) (at w.known q) i x is')

    at_least_after : (q i : ℕ) (x : Entry M I F O R) → slice_get (at v'.known q) i ≡ Some x → x.stamp ≤ max clock stamp + 1
    at_least_after q i x is =
        let P : ℕ → List (Entry M I F O R) → Type 0 = λ r h. slice_get h i ≡ Some x → x.stamp ≤ max clock stamp + 1 in
        let is' = subst (λ hs. slice_get (at hs q) i ≡ Some x) (known_after p c calls e v w v' w' home guest made) is in
        with_at_ind P joint p (at joint p ++ e ∷ [])
        (λ there. ⊎_elim (λ t. let l = before p i x t.0 in let r : x.stamp ≤ max clock stamp + 1 = omega arith in r) (λ t. let l = ap (λ (y : Entry M I F O R). y.stamp) t.0 in let r : x.stamp ≤ max clock stamp + 1 = omega arith in r) (get_pushed (at joint p) e i x there))
        (λ r _ there. let l = before r i x there in let s : x.stamp ≤ max clock stamp + 1 = omega arith in s)
        q is'

    total_after : total v'.known ≡ total joint + 1
    total_after =
        let a = total-with_at joint p (at joint p ++ e ∷ []) in
        let b = length-append (at joint p) (e ∷ []) in
        let k = ap (λ (hs : List (List (Entry M I F O R))). total hs) (known_after p c calls e v w v' w' home guest made) in omega arith

    guest_total : total w'.known ≡ total (longer_each w.known v'.known)
    guest_total = ap (λ (hs : List (List (Entry M I F O R))). total hs) (guest_known p c calls e v w v' w' home guest made)

    pub home_timed : IsTimed v'.known (max clock stamp + 1)
    home_timed = record {
      at_least = at_least_after;
      at_most = let a = timed.at_most in let b = timed'.at_most in let x = total_longer v.known w.known in let y = total_longer_too v.known w.known in let t = total_after in omega arith;
      bound = let b = made.return.bound in let k = ap (λ (u : View (Entry M I F O R) (Opening M I F O R)). total u.known) made.guest in let t = guest_total in let l = total_longer_too w.known v'.known in omega arith;
    }

    pub guest_timed : IsTimed w'.known (max clock stamp + 1)
    guest_timed = record {
      at_least = λ q i x is. at_least_after q i x (subst (λ h. slice_get h i ≡ Some x) (same_after p c calls e v w v' w' home guest made q) is);
      at_most = let h = home_timed.at_most in let t = guest_total in let l = total_longer_too w.known v'.known in omega arith;
      bound = let b = made.return.bound in let k = ap (λ (u : View (Entry M I F O R) (Opening M I F O R)). total u.known) made.guest in omega arith;
    }

  pub rises_more : (h : List (Entry M I F O R)) (e : Entry M I F O R) (clock : ℕ) → Rises h → ((i : ℕ) (x : Entry M I F O R) → slice_get h i ≡ Some x → x.stamp ≤ clock) → clock < e.stamp → Rises (h ++ e ∷ [])
  rises_more h e clock rises below above = record {
    above = λ i x at_i. ⊎_elim
        (λ t. rises.above i x t.0)
        (λ t. let k = ap (λ (z : Entry M I F O R). z.stamp) t.0 in omega arith)
        (get_pushed h e i x at_i);
    rising = λ i j x y lt at_i at_j.
        ⊎_elim
        (λ t. ⊎_elim
        (λ u. rises.rising i j x y lt t.0 u.0)
        (λ u. let l = below i x t.0 in let k = ap (λ (z : Entry M I F O R). z.stamp) u.0 in let r : x.stamp < y.stamp = omega arith in r)
        (get_pushed h e j y at_j))
        (λ t. absurd (let k = t.1 in let within : j ≤ length h = ⊎_elim (λ u. let l = u.1 in let r : j ≤ length h = omega arith in r) (λ u. let l = u.1 in let r : j ≤ length h = omega arith in r) (get_pushed h e j y at_j) in omega arith))
        (get_pushed h e i x at_i);
  }
