-- Each kind of step keeps the half of the rule that speaks of clients.
use Rattle.std.proofs.Common.{◌≡◌, ◌≢◌, ◌⊎◌, ℕ, zero, suc, ◌+◌, ◌<◌, ◌≤◌, ◌==◌, if◌then◌else◌, List, [], ◌∷◌, ◌++◌, map, length, set, Some, slice_get, refl, ap, sym, ◌∙◌, subst, ⊎_elim, inl, inr, arith, eq-eqb, ne_eqb, Bool, true, false}
use mathlib.Core.List.{map-append}
use Rattle.std.proofs.lemmas.Bool.Decides.{nat_tests}
use mathlib.Core.Option.{some, some-ne-none, some-injective}
use lib.ListN.{get_elem?}
use Rattle.atomic_table.proofs.Lists.{set_else}
use Rattle.thread_cell.specs.declared.view.ClientCalls.{ClientCalls}
use Rattle.thread_cell.specs.declared.view.View.{View}
use Rattle.thread_cell.specs.Lists.{at, with_at, same, times}
use Rattle.thread_cell.specs.Views.{number_of, numbers, newcomer, with_call, nobody, beginner, standing_for, met}
use Rattle.thread_cell.specs.Rule.{serves, same_call, calls_at, made_by, FitsClients, KeepsClients}
use Rattle.thread_cell.proofs.Lists.{at-with_at, at-with_other, with_at_ind, weigh-append, weigh-set, weigh_at_least, weigh_two, weigh_met, each_set, each_snoc, at_append, same_refl, same_apart}

numbers-append : (xs ys : List ClientCalls) → numbers (xs ++ ys) ≡ numbers xs ++ numbers ys
numbers-append xs ys = map-append number_of xs ys

pub times-numbers-append : (c : ℕ) (xs ys : List ClientCalls) → times c (numbers (xs ++ ys)) ≡ times c (numbers xs) + times c (numbers ys)
times-numbers-append c xs ys = ap (times c) (numbers-append xs ys) ∙ weigh-append (same c) (numbers xs) (numbers ys)

pub numbers-with_call : (xs : List ClientCalls) (call : ℕ × ℕ) → numbers (with_call xs call) ≡ numbers xs
numbers-with_call [] call = refl
numbers-with_call (who ∷ others) call = refl

-- who is served is counted
pub served : (xs : List ClientCalls) (k : ℕ) (who : ClientCalls) → get_elem? xs k ≡ some who → 0 < times who.number (numbers xs)
served [] k who e = absurd (some-ne-none who (sym e))
served (x ∷ xs) zero who e = let one = ap (λ (z : ClientCalls). same who.number z.number) (some-injective x who e) ∙ same_refl who.number in omega arith
served (x ∷ xs) (suc k) who e = let more = served xs k who e in omega arith

same_call-here : (p i j : ℕ) → same_call p i (p, j) ≡ same i j
same_call-here p i j = ap (λ b. if b then same i j else 0) (eq-eqb p p refl)

same_call-other : (p q i j : ℕ) → q ≢ p → same_call p i (q, j) ≡ 0
same_call-other p q i j n = ap (λ b. if b then same i j else 0) (ne_eqb q p n)

calls_at-more : (p i : ℕ) (calls : List (ℕ × ℕ)) (call : ℕ × ℕ) → calls_at p i (calls ++ call ∷ []) ≡ calls_at p i calls + same_call p i call
calls_at-more p i calls call = let s = weigh-append (same_call p i) calls (call ∷ []) in omega arith

module _ {E : Type 0} (client_of : E → ℕ) where
  unless : (c i n : ℕ) (e : E) (x : ℕ) → i ≢ n → {y : ℕ} → y ≡ x → y ≡ x + (if i == n then same c (client_of e) else 0)
  unless c i n e x away same_as = let none : (if i == n then same c (client_of e) else 0) ≡ 0 = ap (λ b. if b then same c (client_of e) else 0) (ne_eqb i n away) in omega arith

  one_less : (i n : ℕ) → (i == n) ≡ (suc i == suc n)
  one_less i n = grind (arith, nat_tests)

  made_by-more : (c : ℕ) (h : List E) (e : E) (i : ℕ) → made_by client_of c (slice_get (h ++ e ∷ []) i) ≡ made_by client_of c (slice_get h i) + (if i == length h then same c (client_of e) else 0)
  made_by-more c [] e zero = omega arith
  made_by-more c [] e (suc i) = unless c (suc i) 0 e 0 (λ h. omega arith) refl
  made_by-more c (x ∷ h) e zero = unless c 0 (suc (length h)) e (same c (client_of x)) (λ z. omega arith) refl
  made_by-more c (x ∷ h) e (suc i) = made_by-more c h e i ∙ ap (λ b. made_by client_of c (slice_get h i) + (if b then same c (client_of e) else 0)) (one_less i (length h))

  get-more : (h : List E) (e : E) (i : ℕ) (x : E) → slice_get (h ++ e ∷ []) i ≡ Some x → (slice_get h i ≡ Some x) ⊎ (e ≡ x)
  get-more [] e zero x is = inr (cc)
  get-more [] e (suc i) x is = absurd (cc)
  get-more (y ∷ h) e zero x is = inl is
  get-more (y ∷ h) e (suc i) x is = get-more h e i x is

module _ {E K : Type 0} (client_of : E → ℕ) (clients : List ℕ) where
  spent_fits : (own : List (List (ℕ × ℕ))) → FitsClients {E = E} {K = K} client_of own nobody
  spent_fits own = record { mine = λ k who e. absurd (some-ne-none who (sym e)) }

  module _ (log : List (List E)) (own : List (List (ℕ × ℕ))) (views : List (View E K)) (kept : KeepsClients client_of clients log own views) (id : ℕ) (v : View E K) (here : get_elem? views id ≡ some v) where
    mine : FitsClients client_of own v
    mine = kept.each id v here

    -- note and part
    pub parts_clients : (ps qs : List ℕ) (cs ds : List ClientCalls) → ((c : ℕ) → times c (numbers cs) + times c (numbers ds) ≡ times c (numbers v.clients))
        → ((k : ℕ) (who : ClientCalls) → get_elem? cs k ≡ some who → (i : ℕ) × (get_elem? v.clients i ≡ some who))
        → ((k : ℕ) (who : ClientCalls) → get_elem? ds k ≡ some who → (i : ℕ) × (get_elem? v.clients i ≡ some who))
        → KeepsClients client_of clients log own (set views id (standing_for v ps cs) ++ standing_for v qs ds ∷ [])
    parts_clients ps qs cs ds sum in_left in_right =
        let left : View E K = standing_for v ps cs in
        let right : View E K = standing_for v qs ds in
        record {
          once = kept.once;
          stood = λ c.
              let one = weigh-append (serves c) (set views id left) (right ∷ []) in
              let two = weigh-set (serves c) views id v left here in
              let all = kept.stood c in
              let s = sum c in omega arith;
          theirs = kept.theirs;
          calls = kept.calls;
          each = each_snoc (FitsClients client_of own) (set views id left) right
              (record { mine = λ k who e. let there = in_right k who e in mine.mine there.0 who there.1 })
              (each_set (FitsClients client_of own) views id left
              (record { mine = λ k who e. let there = in_left k who e in mine.mine there.0 who there.1 })
              (λ j u apart e. kept.each j u e));
        }

    -- meet
    pub meets_clients : (other : ℕ) (w : View E K) → ¬ (other ≡ id) → get_elem? (set views id (met v w)) other ≡ some w
        → KeepsClients client_of clients log own (set (set views id (met v w)) other nobody)
    meets_clients other w apart there =
        let theirs : FitsClients client_of own w = kept.each other w (sym (set_else views id other (met v w) apart) ∙ there) in
        record {
          once = kept.once;
          stood = λ c. weigh_met (serves c) views id other v w (met v w) nobody here there (times-numbers-append c v.clients w.clients) refl ∙ kept.stood c;
          theirs = kept.theirs;
          calls = kept.calls;
          each = each_set (FitsClients client_of own) (set views id (met v w)) other nobody (spent_fits own)
              (λ j u _ e. each_set (FitsClients client_of own) views id (met v w)
              (record { mine = λ k who is. ⊎_elim (λ t. mine.mine k who t) (λ t. theirs.mine t.0 who t.1) (at_append v.clients w.clients k who is) })
              (λ i x _ e'. kept.each i x e') j u e);
        }

    -- extend
    module _ (p : ℕ) (e : E) (n : ℕ) (who : ClientCalls) (others : List ClientCalls) (first_is : v.clients ≡ who ∷ others) (by : who.number ≡ client_of e)
        (is_length : n ≡ length (at log p)) where
      abbrev c : ℕ
      c = client_of e

      abbrev call : ℕ × ℕ
      call = (p, n)

      abbrev longer_log : List (List E)
      longer_log = with_at log p (at log p ++ e ∷ [])

      abbrev longer_own : List (List (ℕ × ℕ))
      longer_own = with_at own c (at own c ++ call ∷ [])

      serves_c : serves c v ≡ 1 + times c (numbers others)
      serves_c = ap (λ (xs : List ClientCalls). times c (numbers xs)) first_is ∙ ap (λ (x : ℕ). same c x + times c (numbers others)) by ∙ ap (λ (x : ℕ). x + times c (numbers others)) (same_refl c)

      is_client : 0 < times c clients
      is_client = let a = weigh_at_least (serves c) views id v here in let b = kept.stood c in let s = serves_c in omega arith

      once_here : times c (numbers others) ≡ 0
      once_here = let a = weigh_at_least (serves c) views id v here in let b = kept.stood c in let o = kept.once c in let s = serves_c in omega arith

      only_here : (j : ℕ) (u : View E K) → j ≢ id → get_elem? views j ≡ some u → serves c u ≡ 0
      only_here j u apart there = let a = weigh_two (serves c) views j id u v apart there here in let b = kept.stood c in let o = kept.once c in let s = serves_c in omega arith

      other_client : (xs : List ClientCalls) (k : ℕ) (x : ClientCalls) → times c (numbers xs) ≡ 0 → get_elem? xs k ≡ some x → at longer_own x.number ≡ at own x.number
      other_client xs k x none there =
          at-with_other own c x.number (at own c ++ call ∷ []) (λ is. absurd (let s = served xs k x there in let none' : times x.number (numbers xs) ≡ 0 = ap (λ (y : ℕ). times y (numbers xs)) is ∙ none in omega arith))

      mine_after : (xs : List ClientCalls) → xs ≡ who ∷ others → (k : ℕ) (x : ClientCalls) → get_elem? (with_call xs call) k ≡ some x → x.calls ≡ at longer_own x.number
      mine_after [] is k x there = absurd (cc (is))
      mine_after (y ∷ ys) is zero x there =
          let first_one : y ≡ who = cc (is) in
          let same_as = some-injective _ x there in
          let was : y.calls ≡ at own c = ap (λ (z : ClientCalls). z.calls) first_one ∙ (mine.mine 0 who (ap (λ (zs : List ClientCalls). get_elem? zs 0) first_is) ∙ ap (at own) by) in
          let number : x.number ≡ c = sym (ap (λ (z : ClientCalls). z.number) same_as) ∙ (ap (λ (z : ClientCalls). z.number) first_one ∙ by) in
          sym (ap (λ (z : ClientCalls). z.calls) same_as) ∙ (ap (λ w. w ++ call ∷ []) was ∙ (sym (at-with_at own c (at own c ++ call ∷ [])) ∙ ap (at longer_own) (sym number)))
      mine_after (y ∷ ys) is (suc k) x there =
          let tail : ys ≡ others = cc (is) in
          let there' : get_elem? others k ≡ some x = subst (λ (zs : List ClientCalls). get_elem? zs k ≡ some x) tail there in
          mine.mine (suc k) x (ap (λ (zs : List ClientCalls). get_elem? zs (suc k)) first_is ∙ there') ∙ sym (other_client others k x once_here there')

      calls_after : (c' q i : ℕ) → calls_at q i (at longer_own c') ≡ made_by client_of c' (slice_get (at longer_log q) i)
      calls_after c' q i =
          let P : ℕ → List (ℕ × ℕ) → Type 0 = λ b calls. calls_at q i calls ≡ made_by client_of b (slice_get (at longer_log q) i) in
          with_at_ind P own c (at own c ++ call ∷ [])
          (let Q : ℕ → List E → Type 0 = λ r h. calls_at r i (at own c ++ call ∷ []) ≡ made_by client_of c (slice_get h i) in
          with_at_ind Q log p (at log p ++ e ∷ [])
          (calls_at-more p i (at own c) call ∙ (ap (λ (x : ℕ). x + same_call p i call) (kept.calls c p i) ∙ (ap (λ (x : ℕ). made_by client_of c (slice_get (at log p) i) + x) (added i) ∙ sym (made_by-more client_of c (at log p) e i))))
          (λ r away. calls_at-more r i (at own c) call ∙ (ap (λ (x : ℕ). calls_at r i (at own c) + x) (same_call-other r p i n (λ is. away (sym is))) ∙ (none_more (calls_at r i (at own c)) ∙ kept.calls c r i))) q)
          (λ b away.
          let Q : ℕ → List E → Type 0 = λ r h. calls_at r i (at own b) ≡ made_by client_of b (slice_get h i) in
          with_at_ind Q log p (at log p ++ e ∷ [])
          (kept.calls b p i ∙ (sym (none_more (made_by client_of b (slice_get (at log p) i))) ∙ (ap (λ (x : ℕ). made_by client_of b (slice_get (at log p) i) + x) (sym (none_added b i away)) ∙ sym (made_by-more client_of b (at log p) e i))))
          (λ r _. kept.calls b r i) q)
          c'
        where
          none_more : (x : ℕ) → x + 0 ≡ x
          none_more x = omega arith

          added : (j : ℕ) → same_call p j call ≡ (if j == length (at log p) then same c (client_of e) else 0)
          added j = same_call-here p j n ∙ (ap (same j) is_length ∙ ap (λ (x : ℕ). if j == length (at log p) then x else 0) (sym (same_refl c)))

          chosen : (b : ℕ) (t : Bool) → b ≢ c → (if t then same b (client_of e) else 0) ≡ 0
          chosen b true away = same_apart b c away
          chosen b false away = refl

          none_added : (b j : ℕ) → b ≢ c → (if j == length (at log p) then same b (client_of e) else 0) ≡ 0
          none_added b j away = chosen b (j == length (at log p)) away

      pub extends_clients : KeepsClients client_of clients longer_log longer_own (set views id (record { began = v.began; known = with_at v.known p (at v.known p ++ e ∷ []); first_met = v.first_met; first_places = v.first_places; second_met = v.second_met; second_places = v.second_places; met_began = v.met_began; places = v.places; clients = with_call v.clients call }))
      extends_clients =
          let w : View E K = record { began = v.began; known = with_at v.known p (at v.known p ++ e ∷ []); first_met = v.first_met; first_places = v.first_places; second_met = v.second_met; second_places = v.second_places; met_began = v.met_began; places = v.places; clients = with_call v.clients call } in
          record {
            once = kept.once;
            stood = λ b. let s = weigh-set (serves b) views id v w here in let t = kept.stood b in let u : serves b w ≡ serves b v = ap (times b) (numbers-with_call v.clients call) in omega arith;
            theirs = λ q i x is.
                let Q : ℕ → List E → Type 0 = λ r h. slice_get h i ≡ Some x → 0 < times (client_of x) clients in
                with_at_ind Q log p (at log p ++ e ∷ [])
                (λ there. ⊎_elim (λ was. kept.theirs p i x was) (λ now. subst (λ (y : E). 0 < times (client_of y) clients) now is_client) (get-more client_of (at log p) e i x there))
                (λ r _ there. kept.theirs r i x there) q is;
            calls = calls_after;
            each = each_set (FitsClients client_of longer_own) views id w
                (record { mine = mine_after v.clients first_is })
                (λ j u apart there. record { mine = λ k x is. (kept.each j u there).mine k x is ∙ sym (other_client u.clients k x (only_here j u apart there) is) });
          }

times-newcomers : (c : ℕ) (clients : List ℕ) → numbers (map newcomer clients) ≡ clients
times-newcomers c [] = refl
times-newcomers c (x ∷ xs) = ap (λ ys. x ∷ ys) (times-newcomers c xs)

newcomers_idle : (clients : List ℕ) (k : ℕ) (who : ClientCalls) → get_elem? (map newcomer clients) k ≡ some who → who.calls ≡ []
newcomers_idle [] k who e = absurd (some-ne-none who (sym e))
newcomers_idle (c ∷ cs) zero who e = sym (ap (λ (x : ClientCalls). x.calls) (some-injective (newcomer c) who e))
newcomers_idle (c ∷ cs) (suc k) who e = newcomers_idle cs k who e

-- the table at its beginning
pub begins_clients : {E K : Type 0} (client_of : E → ℕ) (places clients : List ℕ) (key : K) → ((c : ℕ) → times c clients ≤ 1) → KeepsClients client_of clients [] [] (beginner places clients key ∷ [])
begins_clients {E} {K} client_of places clients key once = record {
  once = once;
  stood = λ c. let t = ap (times c) (times-newcomers c clients) in omega arith;
  theirs = λ p i e is. absurd (cc);
  calls = λ c p i. refl;
  each = λ j u e. each_snoc (FitsClients {E = E} {K = K} client_of []) [] (beginner places clients key)
      (record { mine = newcomers_idle clients })
      (λ i x none. absurd (some-ne-none x (sym none))) j u e;
}
