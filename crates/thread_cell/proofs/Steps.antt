-- The five kinds of step keep the rule: extend, look, note, part and meet.
use Rattle.std.proofs.Common.{◌≡◌, ℕ, zero, suc, ◌+◌, ◌<◌, ◌≤◌, ◌==◌, List, [], ◌∷◌, ◌++◌, length, set, get_or, None, slice_get, inl, refl, ap, sym, ◌∙◌, subst, arith, eq-eqb}
use mathlib.Core.Option.{some}
use mathlib.Core.Option as maybe
use lib.ListN.{get_elem?}
use lib.Seq.{set-get_or}
use prog.Atomic.{either}
use Rattle.atomic_table.specs.Table.{Me, step, keeps, Allows, Enters, Splits, Joins, opening}
use Rattle.atomic_table.proofs.Lists.{set_again}
use Rattle.thread_cell.specs.declared.view.ClientCalls.{ClientCalls}
use Rattle.thread_cell.specs.declared.view.View.{View}
use Rattle.thread_cell.specs.Lists.{first, rest, at, with_at, same, times}
use Rattle.thread_cell.specs.Views.{IsLive, numbers, with_call, nobody, beginner, standing_for, noted, place_left, place_given, client_left, client_given, met, extended}
use Rattle.thread_cell.specs.Rule.{most, word_of, place_at, stands, serves, calls_at, made_by, FitsPlaces, FitsClients, KeepsPlaces, KeepsClients, IsKept, looks, IsNewCall, extends, arrives}
use Rattle.thread_cell.proofs.Lists.{each_snoc, weigh-append, weigh_at_least, weigh-parts, at_first, at_rest}
use Rattle.thread_cell.proofs.Places.{parts_places, meets_places, looked, extends_places, begins_places}
use Rattle.thread_cell.proofs.Clients.{parts_clients, meets_clients, extends_clients, begins_clients}

get_past : {A : Type 0} (h : List A) (i : ℕ) → length h ≤ i → slice_get h i ≡ None
get_past [] i le = refl
get_past (x ∷ h) zero le = absurd (omega arith)
get_past (x ∷ h) (suc i) le = get_past h i (omega arith)

pub place_of_word : (p : ℕ) → place_at (word_of p) ≡ p
place_of_word p = omega arith

numbers-parts : (c : ℕ) (xs : List ClientCalls) → times c (numbers (rest xs)) + times c (numbers (first xs)) ≡ times c (numbers xs)
numbers-parts c [] = refl
numbers-parts c (x ∷ xs) = omega arith

module _ {E K : Type 0} (client_of : E → ℕ) (places clients : List ℕ) (key : K) where
  module _ (slots id : ℕ) (me : Me E (View E K)) where
    -- extend
    pub extend_allowed : (p n : ℕ) (e : E) (who : ClientCalls) (others : List ClientCalls) → 0 < stands p me.0 → n ≡ length (at me.0.known p) → n < most → me.0.clients ≡ who ∷ others → who.number ≡ client_of e
        → Allows (IsKept client_of places clients key) slots id me (word_of p) (λ m. either (m == n) (n + 1) m) (extends (step slots (word_of p) n (n + 1) (some e)) me)
    extend_allowed p n e who others stood is_length room first_is by s kept _ here _ =
        let a = kept.of_places in
        let fits = a.each id me.0 here in
        let whole : at me.0.known p ≡ at kept.log p = fits.whole p stood in
        let is_log : n ≡ length (at kept.log p) = is_length ∙ ap (λ (h : List E). length h) whole in
        let place : 0 < times p places = let w = weigh_at_least (stands p) s.views id me.0 here in let t = a.stood p in omega arith in
        let found : get_or s.words (word_of p) 0 ≡ n = a.lengths p (a.inside p place) ∙ sym is_log in
        let next : either (get_or s.words (word_of p) 0 == n) (n + 1) (get_or s.words (word_of p) 0) ≡ length (at me.0.known p) + 1 = ap (λ b. either b (n + 1) (get_or s.words (word_of p) 0)) (eq-eqb (get_or s.words (word_of p) 0) n found) ∙ ap (λ (k : ℕ). k + 1) is_length in
        let clients_kept = extends_clients client_of clients kept.log kept.own s.views kept.of_clients id me.0 here p e n who others first_is by is_log in (
          extended p e me.0,
          keeps,
          tt,
          record {
            log = with_at kept.log p (at kept.log p ++ e ∷ []);
            own = with_at kept.own (client_of e) (at kept.own (client_of e) ++ (p, n) ∷ []);
            of_places = subst (λ (k : ℕ). KeepsPlaces places key (with_at kept.log p (at kept.log p ++ e ∷ [])) (set s.words (word_of p) k) (set s.views id (extended p e me.0))) (sym next)
                (extends_places places key kept.log s.words s.views a id me.0 here p e stood (let l = is_length in omega arith));
            of_clients = subst (λ (k : ℕ). KeepsClients client_of clients (with_at kept.log p (at kept.log p ++ e ∷ [])) (with_at kept.own (client_of e) (at kept.own (client_of e) ++ (p, n) ∷ [])) (set s.views id (record { began = me.0.began; known = with_at me.0.known p (at me.0.known p ++ e ∷ []); first_met = me.0.first_met; first_places = me.0.first_places; second_met = me.0.second_met; second_places = me.0.second_places; met_began = me.0.met_began; places = me.0.places; clients = with_call me.0.clients (p, k) }))) is_length clients_kept;
          },
          (λ x is.
              let new : IsNewCall p (length (at me.0.known p)) me.0 = new_call kept.log kept.own p n kept.of_clients.calls is_log s.views kept.of_clients.each here is_length in
              subst (λ (q : ℕ). (get_or s.words (word_of p) 0 ≡ n) × ◌≡◌ {A = Me E (View E K)} (extended p e me.0, me.1) (extended q x me.0, me.1) × IsNewCall q (length (at me.0.known q)) me.0) (sym (place_of_word p))
              (found, ap (λ (y : E). (extended p y me.0, me.1)) (maybe.some-injective e x is), new)),
        )
      where
        new_call : (log : List (List E)) (own : List (List (ℕ × ℕ))) (q n : ℕ) → ((c q i : ℕ) → calls_at q i (at own c) ≡ made_by client_of c (slice_get (at log q) i)) → n ≡ length (at log q) → (views : List (View E K))
            → ((j : ℕ) (u : View E K) → get_elem? views j ≡ some u → FitsClients client_of own u) → get_elem? views id ≡ some me.0 → n ≡ length (at me.0.known q) → IsNewCall q (length (at me.0.known q)) me.0
        new_call log own q n calls is_log views each here is_length = record {
          none_of = λ who others is.
              let mine : who.calls ≡ at own who.number = (each id me.0 here).mine 0 who (ap (λ (cs : List ClientCalls). get_elem? cs 0) is) in
              ap (calls_at q (length (at me.0.known q))) mine ∙ (calls who.number q (length (at me.0.known q)) ∙ ap (made_by client_of who.number) (get_past (at log q) (length (at me.0.known q)) (omega arith)));
        }

    -- look
    pub look_allowed : (i : ℕ) → Allows (IsKept client_of places clients key) slots id me i (λ n. n) (looks (step slots i 0 0 maybe.none) me)
    look_allowed i s kept _ here _ =
        let words_same : set s.words i (get_or s.words i 0) ≡ s.words = set-get_or s.words i 0 in
        let views_same : set s.views id me.0 ≡ s.views = set_again s.views id me.0 here in (
          me.0,
          keeps,
          tt,
          record {
            log = kept.log;
            own = kept.own;
            of_places = subst (λ (ws : List ℕ). KeepsPlaces places key kept.log ws (set s.views id me.0)) (sym words_same) (subst (KeepsPlaces places key kept.log s.words) (sym views_same) kept.of_places);
            of_clients = subst (KeepsClients client_of clients kept.log kept.own) (sym views_same) kept.of_clients;
          },
          (refl, looked places key kept.log s.words s.views kept.of_places id me.0 here),
        )

  module _ (id : ℕ) (v : View E K) where
    splits : (ps qs : List ℕ) (cs ds : List ClientCalls) → ((p : ℕ) → times p ps + times p qs ≡ times p v.places) → (v ≡ nobody → standing_for v ps cs ≡ nobody) → (v ≡ nobody → standing_for v qs ds ≡ nobody)
        → ((c : ℕ) → times c (numbers cs) + times c (numbers ds) ≡ times c (numbers v.clients))
        → ((k : ℕ) (who : ClientCalls) → get_elem? cs k ≡ some who → (i : ℕ) × (get_elem? v.clients i ≡ some who))
        → ((k : ℕ) (who : ClientCalls) → get_elem? ds k ≡ some who → (i : ℕ) × (get_elem? v.clients i ≡ some who))
        → Splits (IsKept client_of places clients key) id v (standing_for v ps cs) (standing_for v qs ds)
    splits ps qs cs ds sum left_spent right_spent sum_clients in_left in_right s kept here = record {
      log = kept.log;
      own = kept.own;
      of_places = parts_places places key kept.log s.words s.views kept.of_places id v here ps qs cs ds sum left_spent right_spent;
      of_clients = parts_clients client_of clients kept.log kept.own s.views kept.of_clients id v here ps qs cs ds sum_clients in_left in_right;
    }

    -- note
    pub note_splits : Splits (IsKept client_of places clients key) id v v (noted v)
    note_splits = splits v.places [] v.clients [] (λ p. omega arith) (λ e. e) (λ e. ap noted e) (λ c. omega arith) (λ k who e. (k, e)) (λ k who e. absurd (maybe.some-ne-none who (sym e)))

    -- part, of a place and of a client
    pub place_splits : Splits (IsKept client_of places clients key) id v (place_left v) (place_given v)
    place_splits = splits (rest v.places) (first v.places) v.clients [] (λ p. weigh-parts (same p) v.places) (λ e. ap place_left e) (λ e. ap place_given e) (λ c. omega arith) (λ k who e. (k, e)) (λ k who e. absurd (maybe.some-ne-none who (sym e)))

    pub client_splits : Splits (IsKept client_of places clients key) id v (client_left v) (client_given v)
    client_splits = splits v.places [] (rest v.clients) (first v.clients) (λ p. omega arith) (λ e. ap client_left e) (λ e. ap client_given e) (λ c. numbers-parts c v.clients) (λ k who e. (suc k, at_rest v.clients k who e)) (λ k who e. (0, at_first v.clients k who e))

    -- meet
    pub meet_joins : (other : ℕ) (w : View E K) → IsLive v → IsLive w → Joins (IsKept client_of places clients key) id v other w (met v w) nobody
    meet_joins other w live live' s kept here apart there = record {
      log = kept.log;
      own = kept.own;
      of_places = meets_places places key kept.log s.words s.views kept.of_places id v here other w live live' apart there;
      of_clients = meets_clients client_of clients kept.log kept.own s.views kept.of_clients id v here other w apart there;
    }

-- a new seat
pub seat_enters : {E K : Type 0} (client_of : E → ℕ) (places clients : List ℕ) (key : K) (slots i : ℕ) (ps cs : List ℕ)
    → Enters (IsKept client_of places clients key) slots i (λ n w. arrives (step slots i 0 0 maybe.none) (beginner ps cs key, []) n (w, []))
seat_enters {E} {K} client_of places clients key slots i ps cs s kept _ _ =
    let w : View E K = noted (beginner ps cs key) in
    let a = kept.of_places in
    let b = kept.of_clients in (
      w,
      record {
        log = kept.log;
        own = kept.own;
        of_places = record {
          count = a.count;
          lengths = a.lengths;
          bound = a.bound;
          inside = a.inside;
          once = a.once;
          stood = λ p. let one = weigh-append (stands p) s.views (w ∷ []) in let all = a.stood p in omega arith;
          idle = a.idle;
          each = each_snoc (FitsPlaces key kept.log) s.views w
              (record {
                few = omega arith;
                begins = λ p. (at kept.log p, refl);
                first_begins = λ p. ([], refl);
                second_begins = λ p. ([], refl);
                second_behind = λ p _. ([], refl);
                first_behind = λ p _. ([], refl);
                whole = λ p h. absurd (omega arith);
                opening = inl (refl, refl);
              })
              a.each;
        };
        of_clients = record {
          once = b.once;
          stood = λ c. let one = weigh-append (serves c) s.views (w ∷ []) in let all = b.stood c in omega arith;
          theirs = b.theirs;
          calls = b.calls;
          each = each_snoc (FitsClients client_of kept.own) s.views w (record { mine = λ k who e. absurd (maybe.some-ne-none who (sym e)) }) b.each;
        };
      },
      refl,
    )

-- the table at its beginning
pub begins_kept : {E K : Type 0} (client_of : E → ℕ) (places clients : List ℕ) (key : K) (words : List ℕ) → length words ≡ 144 → ((p : ℕ) → get_or words p 0 ≡ 0) → ((p : ℕ) → 0 < times p places → p < 8) → ((p : ℕ) → times p places ≤ 1) → ((c : ℕ) → times c clients ≤ 1)
    → IsKept client_of places clients key (opening words [] (beginner places clients key))
begins_kept {E} client_of places clients key words count zeros inside once once_clients = record {
  log = [];
  own = [];
  of_places = begins_places E places key clients words count zeros inside once;
  of_clients = begins_clients client_of places clients key once_clients;
}
