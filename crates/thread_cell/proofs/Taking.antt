-- One place after another goes to the seat that is left.
use Rattle.std.proofs.Common.{◌≡◌, ℕ, zero, suc, ◌+◌, ◌<◌, Bool, true, false, List, [], ◌∷◌, ◌++◌, map, length, drop, replicate, slice_get, Option, Some, None, refl, ap, sym, ◌∙◌, subst, arith, append-nil, length-append}
use Rattle.std.proofs.lemmas.List.{length-replicate}
use Rattle.std.specs.Prelude.{is_some}
use mathlib.Core.Logic.{dite}
use native.Mathlib.Decide.{ℕ_discrete, dec_lt}
use Rattle.atomic_table.proofs.Lists.{at_longer, at_last}
use Rattle.atomic_table.specs.Table.{Me}
use Rattle.thread_cell.specs.Beginnings.{Opens}
use mathlib.Core.Option.{some}
use lib.ListN.{get_elem?}
use Rattle.thread_machine.specs.declared.machine.Machine.{Ghosts}
use Rattle.thread_machine.specs.declared.entry.Entry.{Entry}
use Rattle.thread_machine.specs.declared.machines.Machines.{Machines}
use Rattle.thread_cell.specs.declared.histories.Histories.{Histories}
use Rattle.thread_cell.specs.declared.opening.Opening.{Opening}
use Rattle.thread_cell.specs.declared.view.ClientCalls.{ClientCalls}
use Rattle.thread_cell.specs.declared.view.View.{View}
use Rattle.thread_cell.specs.Lists.{at, weigh, same, times}
use Rattle.thread_cell.specs.Views.{numbers}
use Rattle.thread_cell.specs.Rule.{calls_at, made_by}
use Rattle.thread_machine.specs.Machines.{flags, machine_at}
use Rattle.thread_cell.specs.Entries.{places_from, places_of, client_of, history_at}
use Rattle.thread_cell.specs.Calls.{AreAll, entries_in, AreAllCalls}
use Rattle.thread_cell.specs.Values.{Began, ClientParts, CellParts, client_calls}
use Rattle.thread_cell.specs.Stamps.{Rises}
use Rattle.thread_machine.specs.Replays.{IsReplay}
use Rattle.thread_cell.specs.Endings.{Gathers, Ends}
use Rattle.thread_cell.specs.Closings.{EndsAt, Takes, Served, AreReplayed, SessionsKnew, GivesUp, CellKnew}
use mathlib.Core.List.{IsPrefix}
use Rattle.thread_cell.proofs.Prefixes.{prefix_self, prefix_trans}
use Rattle.thread_cell.proofs.Lists.{weigh-append, same_refl, same_apart}
use Rattle.thread_cell.proofs.Openings.{flag_first, each_inside}
use Rattle.thread_cell.proofs.Counting.{numbers-push, weigh_alike, weigh_none, weigh_numbers, contained, get_map}

module _ {M I F O R : Type 0} (meaning : Ghosts M I F O R) (key : Opening M I F O R) (p : ℕ) (v : View (Entry M I F O R) (Opening M I F O R)) (began : v.began ≡ Some key) where
  some_start : (machine : M) → machine_at key.machines p ≡ Some machine → (start : Option M) → machine_at key.machines p ≡ start → places_from p (is_some start ∷ []) ≡ p ∷ []
  some_start machine there None is = absurd (cc (there, is))
  some_start machine there (Some m) is = refl

  -- a place with a cell
  pub takes_cell : (v' : View (Entry M I F O R) (Opening M I F O R)) (known : List (List (Entry M I F O R))) (machine : M) (history : List (Entry M I F O R)) → history ≡ at known p
      → Gathers (p ∷ []) [] known v v' → Rises history → Began meaning p v.began history machine → Takes meaning p (machine_at key.machines p) (Some machine) history v v'
  takes_cell v' known machine history is gathers rises replays =
      let opening : replays.opening ≡ key = let same : Some replays.opening ≡ Some key = sym replays.began_is ∙ began in cc in
      let there : machine_at key.machines p ≡ Some replays.start = ap (λ (k : Opening M I F O R). machine_at k.machines p) (sym opening) ∙ replays.start_is in
      let one = some_start replays.start there (machine_at key.machines p) refl in record {
        ends = record {
          replay = λ m starts. let same : m ≡ replays.start = cc (starts, there) in (machine, refl, subst (λ x. IsReplay meaning x history machine) (sym same) replays.replay);
          none = λ n. absurd (cc (n, there));
          rises = rises;
        };
        places = gathers.places ∙ ap (λ ps. v.places ++ ps) (sym one);
        clients = gathers.clients ∙ append-nil v.clients;
        here = λ _. gathers.here p (let s = same_refl p in omega arith) ∙ sym is;
        keeps = gathers.keeps;
        more = gathers.knew;
      }

  -- a place without one
  pub takes_none : (start : Option M) → start ≡ None → (history : List (Entry M I F O R)) → history ≡ [] → Takes meaning p start None history v v
  takes_none start none history empty =
      let nothing : places_from p (is_some start ∷ []) ≡ [] = ap (λ (o : Option M). places_from p (is_some o ∷ [])) none in record {
        ends = record {
          replay = λ m starts. absurd (cc (starts, none));
          none = λ _. (refl, empty);
          rises = subst Rises (sym empty) (record { above = λ i e at_i. absurd (cc); rising = λ i j e f lt at_i at_j. absurd (cc) });
        };
        places = sym (append-nil v.places) ∙ ap (λ ps. v.places ++ ps) (sym nothing);
        clients = refl;
        here = λ h. absurd (let n = ap (times p) nothing in omega arith);
        keeps = λ q h. refl;
        more = λ q. prefix_self (at v.known q);
      }

  pub none_given : {X : Type 0} (cell : Option X) → cell ≡ None → is_some cell ≡ is_some (machine_at key.machines p) → (start : Option M) → machine_at key.machines p ≡ start → start ≡ None
  none_given cell none same None is = refl
  none_given cell none same (Some m) is = absurd (let a = ap is_some none in let b = ap is_some is in cc (a, b, same))

append_flags : (from : ℕ) (fs : List Bool) (b : Bool) → places_from from (fs ++ b ∷ []) ≡ places_from from fs ++ places_from (from + length fs) (b ∷ [])
append_flags from [] b = ap (λ (n : ℕ). places_from n (b ∷ [])) (let e : from ≡ from + 0 = omega arith in e)
append_flags from (true ∷ fs) b = ap (λ ps. from ∷ ps) (append_flags (suc from) fs b ∙ ap (λ (n : ℕ). places_from (suc from) fs ++ places_from n (b ∷ [])) (let e : suc from + length fs ≡ from + suc (length fs) = omega arith in e))
append_flags from (false ∷ fs) b = append_flags (suc from) fs b ∙ ap (λ (n : ℕ). places_from (suc from) fs ++ places_from n (b ∷ [])) (let e : suc from + length fs ≡ from + suc (length fs) = omega arith in e)

counted : (from : ℕ) (fs more : List Bool) (p : ℕ) → drop p fs ≡ true ∷ more → 0 < times (from + p) (places_from from fs)
counted from [] more zero is = absurd (cc (is))
counted from [] more (suc p) is = absurd (cc (is))
counted from (true ∷ fs) more zero is = let e : from ≡ from + 0 = omega arith in let s = ap (λ (k : ℕ). same k from) (sym e) ∙ same_refl from in omega arith
counted from (false ∷ fs) more zero is = absurd (cc (is))
counted from (true ∷ fs) more (suc p) is = let m = counted (suc from) fs more p is in let e : suc from + p ≡ from + suc p = omega arith in let t = ap (λ (k : ℕ). times k (places_from (suc from) fs)) e in omega arith
counted from (false ∷ fs) more (suc p) is = let m = counted (suc from) fs more p is in let e : suc from + p ≡ from + suc p = omega arith in let t = ap (λ (k : ℕ). times k (places_from (suc from) fs)) e in omega arith

get_at : {A : Type 0} (xs : List A) (k : ℕ) (x : A) → slice_get xs k ≡ Some x → get_elem? xs k ≡ some x
get_at [] k x is = absurd (cc)
get_at (y ∷ xs) zero x is = ap some (let e : y ≡ x = cc (is) in e)
get_at (y ∷ xs) (suc k) x is = get_at xs k x is

module _ {M I F O R : Type 0} (meaning : Ghosts M I F O R) (key : Opening M I F O R) (sessions : List (ClientParts M I F O R)) (machines : Machines M I F O R) (histories : Histories M I F O R) where
  -- after the first places: the seat stands for those that have a machine, and knows their histories
  pub record Taken (n : ℕ) (fs : List Bool) (v : View (Entry M I F O R) (Opening M I F O R)) : Type 0 where
    pub count : length fs ≡ n
    pub places : v.places ≡ places_from 0 fs
    pub clients : (k : ℕ) (s : ClientParts M I F O R) → slice_get sessions k ≡ Some s → (i : ℕ) × (get_elem? v.clients i ≡ some (client_calls s))
    pub counted : (c : ℕ) → times c (numbers (map client_calls sessions)) ≡ times c (numbers v.clients)
    pub known : (q : ℕ) → 0 < times q v.places → at v.known q ≡ history_at histories q
    pub knows : (k : ℕ) (s : ClientParts M I F O R) → slice_get sessions k ≡ Some s → (p : ℕ) → IsPrefix (at s.seen.known p) (at v.known p)
    pub ends : (q : ℕ) → q < n → EndsAt meaning (machine_at key.machines q) (machine_at machines q) (history_at histories q)

  pub takes_more : (n : ℕ) (fs : List Bool) (v v' : View (Entry M I F O R) (Opening M I F O R)) (now : Option M) (history : List (Entry M I F O R)) → Taken n fs v → Takes meaning n (machine_at key.machines n) now history v v' → machine_at machines n ≡ now → history_at histories n ≡ history
      → Taken (suc n) (fs ++ is_some (machine_at key.machines n) ∷ []) v'
  takes_more n fs v v' now history taken takes now_is history_is =
      let flag : Bool = is_some (machine_at key.machines n) in
      let more : List ℕ = places_from n (flag ∷ []) in
      let places_are : v'.places ≡ v.places ++ more = takes.places in record {
        count = let l = length-append fs (flag ∷ []) in let c = taken.count in omega arith;
        places = places_are ∙ (ap (λ ps. ps ++ more) taken.places ∙ (ap (λ (k : ℕ). places_from 0 fs ++ places_from k (flag ∷ [])) (let c = taken.count in let e : n ≡ 0 + length fs = omega arith in e) ∙ sym (append_flags 0 fs flag)));
        clients = λ k s is. let there = taken.clients k s is in (there.0, ap (λ cs. get_elem? cs there.0) takes.clients ∙ there.1);
        counted = λ c. taken.counted c ∙ ap (λ (cs : List ClientCalls). times c (numbers cs)) (sym takes.clients);
        knows = λ k s is q. prefix_trans (at s.seen.known q) (at v.known q) (at v'.known q) (taken.knows k s is q) (takes.more q);
        known = λ q h.
            let sum : times q v'.places ≡ times q v.places + times q more = ap (times q) places_are ∙ weigh-append (same q) v.places more in
            dite (ℕ_discrete (times q v.places) 0)
            (λ none. let there : 0 < times q more = omega arith in at_new q flag refl there)
            (λ some_there. takes.keeps q (omega arith) ∙ taken.known q (omega arith));
        ends = λ q lt. dite (ℕ_discrete q n)
            (λ is. subst (λ (k : ℕ). EndsAt meaning (machine_at key.machines k) (machine_at machines k) (history_at histories k)) (sym is)
            (subst (λ h. EndsAt meaning (machine_at key.machines n) (machine_at machines n) h) (sym history_is) (subst (λ m. EndsAt meaning (machine_at key.machines n) m history) (sym now_is) takes.ends)))
            (λ away. taken.ends q (omega arith));
      }
    where
      at_new : (q : ℕ) (b : Bool) → is_some (machine_at key.machines n) ≡ b → 0 < times q (places_from n (b ∷ [])) → at v'.known q ≡ history_at histories q
      at_new q false is h = absurd (omega arith)
      at_new q true is h = dite (ℕ_discrete q n)
          (λ here. subst (λ (k : ℕ). at v'.known k ≡ history_at histories k) (sym here) (takes.here (subst (λ b. 0 < times n (places_from n (b ∷ []))) (sym is) (let s = same_refl n in omega arith)) ∙ sym history_is))
          (λ away. absurd (let s = same_apart q n away in omega arith))

  -- a place without a machine has no history
  idle_of : (v : View (Entry M I F O R) (Opening M I F O R)) → Taken 8 (flags key.machines) v → (p : ℕ) → times p (places_of key) ≡ 0 → history_at histories p ≡ []
  idle_of v taken p none = dite (dec_lt p 8) (λ lt. of_start lt (machine_at key.machines p) refl) (λ ge. beyond p ge)
    where
      of_start : p < 8 → (o : Option M) → machine_at key.machines p ≡ o → history_at histories p ≡ []
      of_start lt None is = ((taken.ends p lt).none is).1
      of_start lt (Some m) is =
          let first_flag : drop p (flags key.machines) ≡ true ∷ drop (suc p) (flags key.machines) = flag_first key.machines p lt ∙ ap (λ (x : Option M). is_some x ∷ drop (suc p) (flags key.machines)) is in
          let c = counted 0 (flags key.machines) (drop (suc p) (flags key.machines)) p first_flag in
          let e : times (0 + p) (places_of key) ≡ times p (places_of key) = ap (λ (k : ℕ). times k (places_of key)) (let z : 0 + p ≡ p = omega arith in z) in absurd (omega arith)

      beyond : (q : ℕ) → ¬ (q < 8) → history_at histories q ≡ []
      beyond (suc (suc (suc (suc (suc (suc (suc (suc q)))))))) ge = refl
      beyond _ ge = absurd (ge (omega arith))

  -- the machine of each place
  replayed_all : (v : View (Entry M I F O R) (Opening M I F O R)) → Taken 8 (flags key.machines) v → AreReplayed meaning key.machines machines histories
  replayed_all v taken = record { each = λ p. dite (dec_lt p 8) (λ lt. taken.ends p lt) (λ ge. beyond p (λ lt. ge lt)) }
    where
      beyond : (q : ℕ) → ¬ (q < 8) → EndsAt meaning (machine_at key.machines q) (machine_at machines q) (history_at histories q)
      beyond (suc (suc (suc (suc (suc (suc (suc (suc q)))))))) ge = record { replay = λ m is. absurd (cc (is)); none = λ _. (refl, refl); rises = record { above = λ i e at_i. absurd (cc); rising = λ i j e f lt at_i at_j. absurd (cc) } }
      beyond _ ge = absurd (ge (omega arith))

  -- the seat that is left, with all places and clients
  module _ (v : View (Entry M I F O R) (Opening M I F O R)) (taken : Taken 8 (flags key.machines) v) (all : Ends key v) where
    same_log : (p : ℕ) → at all.log p ≡ history_at histories p
    same_log p = dite (ℕ_discrete (times p (places_of key)) 0)
        (λ none. all.idle p none ∙ sym (idle_of v taken p none))
        (λ some_there. let there : 0 < times p v.places = let t = ap (times p) taken.places in omega arith in sym (all.whole p there) ∙ taken.known p there)

    knows_all : (p : ℕ) → IsPrefix (at v.known p) (history_at histories p)
    knows_all p = subst (IsPrefix (at v.known p)) (same_log p) (all.begins p)

    sessions_knew_all : SessionsKnew sessions histories
    sessions_knew_all = record { each = λ k s is p. prefix_trans (at s.seen.known p) (at v.known p) (history_at histories p) (taken.knows k s is p) (knows_all p) }

    made_calls : (k : ℕ) (who : ClientCalls) → slice_get (map client_calls sessions) k ≡ Some who → (p i : ℕ) → calls_at p i who.calls ≡ made_by client_of who.number (slice_get (history_at histories p) i)
    made_calls k who is p i =
        let session = get_map client_calls sessions k who is in
        let there = taken.clients k session.0 session.1 in
        let mine : who.calls ≡ at all.own who.number = all.mine there.0 who (there.1 ∙ ap some session.2) in
        ap (calls_at p i) mine ∙ (all.calls who.number p i ∙ ap (λ h. made_by client_of who.number (slice_get h i)) (same_log p))

    module _ (complete : AreAll key.clients (map client_calls sessions)) where
      one_client : (p i : ℕ) (e : Entry M I F O R) → slice_get (history_at histories p) i ≡ Some e → times e.client (numbers (map client_calls sessions)) ≡ 1
      one_client p i e is =
          let some_there = all.theirs p i e (subst (λ h. slice_get h i ≡ Some e) (sym (same_log p)) is) in
          let inside = each_inside 0 (replicate key.clients true) e.client some_there in
          let count = length-replicate key.clients true in
          let least = contained (numbers (map client_calls sessions)) e.client (complete e.client (omega arith)) in
          let most = all.once e.client in
          let sum = taken.counted e.client in omega arith

      count_at : (p i : ℕ) (o : Option (Entry M I F O R)) → slice_get (history_at histories p) i ≡ o → weigh (λ (who : ClientCalls). calls_at p i who.calls) (map client_calls sessions) ≡ entries_in o
      count_at p i None is =
          weigh_alike (λ who. calls_at p i who.calls) (λ who. 0) (map client_calls sessions) (λ k who there. made_calls k who there p i ∙ ap (made_by client_of who.number) is)
          ∙ weigh_none (map client_calls sessions)
      count_at p i (Some e) is =
          weigh_alike (λ who. calls_at p i who.calls) (λ who. same who.number e.client) (map client_calls sessions) (λ k who there. made_calls k who there p i ∙ ap (made_by client_of who.number) is)
          ∙ (weigh_numbers e.client (map client_calls sessions) ∙ one_client p i e is)

      all_calls : AreAllCalls (map client_calls sessions) histories
      all_calls = record { theirs = made_calls; each_once = λ p i. count_at p i (slice_get (history_at histories p) i) refl }

-- sessions one after another give their clients to the seat
module _ {M I F O R : Type 0} where
  pub serves_more : (sessions : List (ClientParts M I F O R)) (s : ClientParts M I F O R) (v v' : View (Entry M I F O R) (Opening M I F O R)) (known : List (List (Entry M I F O R))) → Served sessions v → Gathers [] (client_calls s ∷ []) s.seen.known v v' → Served (s ∷ sessions) v'
  serves_more sessions s v v' known served gathers = record {
    places = gathers.places ∙ (append-nil v.places ∙ served.places);
    clients = each;
    counted = λ c.
        let old = served.counted c in
        let new = ap (λ (cs : List ClientCalls). times c (numbers cs)) gathers.clients in
        let one = numbers-push c v.clients (client_calls s) in omega arith;
    knows = each_known;
  }
    where
      each_known : (k : ℕ) (x : ClientParts M I F O R) → slice_get (s ∷ sessions) k ≡ Some x → (p : ℕ) → IsPrefix (at x.seen.known p) (at v'.known p)
      each_known zero x is p = let e : s ≡ x = cc (is) in subst (λ (y : ClientParts M I F O R). IsPrefix (at y.seen.known p) (at v'.known p)) e (gathers.other_knew p)
      each_known (suc k) x is p = prefix_trans (at x.seen.known p) (at v.known p) (at v'.known p) (served.knows k x is p) (gathers.knew p)

      each : (k : ℕ) (x : ClientParts M I F O R) → slice_get (s ∷ sessions) k ≡ Some x → (i : ℕ) × (get_elem? v'.clients i ≡ some (client_calls x))
      each zero x is = (length v.clients, ap (λ cs. get_elem? cs (length v.clients)) gathers.clients ∙ (at_last v.clients (client_calls s) (length v.clients) refl ∙ ap (λ (y : ClientParts M I F O R). some (client_calls y)) (let e : s ≡ x = cc (is) in e)))
      each (suc k) x is = let there = served.clients k x is in (there.0, ap (λ cs. get_elem? cs there.0) gathers.clients ∙ at_longer v.clients (client_calls s ∷ []) there.0 (client_calls x) there.1)

  pub serves_none : (key : Opening M I F O R) (me : Me (Entry M I F O R) (View (Entry M I F O R) (Opening M I F O R))) → Opens key [] [] me → Served [] me.0
  serves_none key me opens = record { places = opens.places; clients = λ k s is. absurd (cc (is)); counted = λ c. ap (λ (cs : List ClientCalls). times c (numbers cs)) (sym opens.clients); knows = λ k s is. absurd (cc (is)) }

  pub taken_none : (meaning : Ghosts M I F O R) (key : Opening M I F O R) (sessions : List (ClientParts M I F O R)) (machines : Machines M I F O R) (histories : Histories M I F O R) (v : View (Entry M I F O R) (Opening M I F O R)) → Served sessions v → Taken meaning key sessions machines histories 0 [] v
  taken_none meaning key sessions machines histories v served = record {
    count = refl;
    places = served.places;
    clients = served.clients;
    counted = served.counted;
    knows = served.knows;
    known = λ q h. absurd (let n = ap (times q) served.places in omega arith);
    ends = λ q lt. absurd (omega arith);
  }

  -- all sessions, and then all places
  module _ (meaning : Ghosts M I F O R) (key : Opening M I F O R) (sessions : List (ClientParts M I F O R)) (machines : Machines M I F O R) (histories : Histories M I F O R) where
    -- what the seat that is left tells
    pub record Closes (v : View (Entry M I F O R) (Opening M I F O R)) : Type 0 where
      pub replayed : AreReplayed meaning key.machines machines histories
      pub calls : AreAllCalls (map client_calls sessions) histories
      pub sessions_knew : SessionsKnew sessions histories
      pub knows : (p : ℕ) → IsPrefix (at v.known p) (history_at histories p)

    pub closes : (v0 v1 v2 v3 v4 v5 v6 v7 v8 : View (Entry M I F O R) (Opening M I F O R)) → Served sessions v0
        → Takes meaning 0 (machine_at key.machines 0) machines.p0 histories.p0.items v0 v1 → Takes meaning 1 (machine_at key.machines 1) machines.p1 histories.p1.items v1 v2
        → Takes meaning 2 (machine_at key.machines 2) machines.p2 histories.p2.items v2 v3 → Takes meaning 3 (machine_at key.machines 3) machines.p3 histories.p3.items v3 v4
        → Takes meaning 4 (machine_at key.machines 4) machines.p4 histories.p4.items v4 v5 → Takes meaning 5 (machine_at key.machines 5) machines.p5 histories.p5.items v5 v6
        → Takes meaning 6 (machine_at key.machines 6) machines.p6 histories.p6.items v6 v7 → Takes meaning 7 (machine_at key.machines 7) machines.p7 histories.p7.items v7 v8
        → Ends key v8 → AreAll key.clients (map client_calls sessions) → Closes v8
    closes v0 v1 v2 v3 v4 v5 v6 v7 v8 served a0 a1 a2 a3 a4 a5 a6 a7 all complete =
        let t0 = taken_none meaning key sessions machines histories v0 served in
        let t1 = takes_more meaning key sessions machines histories 0 [] v0 v1 machines.p0 histories.p0.items t0 a0 refl refl in
        let t2 = takes_more meaning key sessions machines histories 1 _ v1 v2 machines.p1 histories.p1.items t1 a1 refl refl in
        let t3 = takes_more meaning key sessions machines histories 2 _ v2 v3 machines.p2 histories.p2.items t2 a2 refl refl in
        let t4 = takes_more meaning key sessions machines histories 3 _ v3 v4 machines.p3 histories.p3.items t3 a3 refl refl in
        let t5 = takes_more meaning key sessions machines histories 4 _ v4 v5 machines.p4 histories.p4.items t4 a4 refl refl in
        let t6 = takes_more meaning key sessions machines histories 5 _ v5 v6 machines.p5 histories.p5.items t5 a5 refl refl in
        let t7 = takes_more meaning key sessions machines histories 6 _ v6 v7 machines.p6 histories.p6.items t6 a6 refl refl in
        let taken : Taken meaning key sessions machines histories 8 (flags key.machines) v8 = takes_more meaning key sessions machines histories 7 _ v7 v8 machines.p7 histories.p7.items t7 a7 refl refl in
        record {
          replayed = replayed_all meaning key sessions machines histories v8 taken;
          calls = all_calls meaning key sessions machines histories v8 taken all complete;
          sessions_knew = sessions_knew_all meaning key sessions machines histories v8 taken all;
          knows = knows_all meaning key sessions machines histories v8 taken all;
        }

  -- a cell that gave up its place, with all that came after it
  pub cell_knew : (p : ℕ) (cell : Option (CellParts M I F O R)) (history : List (Entry M I F O R)) (known : List (List (Entry M I F O R))) (histories : Histories M I F O R) → GivesUp p cell history known → history_at histories p ≡ history
      → ((q : ℕ) → IsPrefix (at known q) (history_at histories q)) → CellKnew p cell histories
  cell_knew p cell history known histories gives is more = record {
    own = λ c e. is ∙ gives.own c e;
    begins = λ c e q. prefix_trans (at c.seen.known q) (at known q) (history_at histories q) (gives.begins c e q) (more q);
  }

  pub further : (v v' : View (Entry M I F O R) (Opening M I F O R)) (histories : Histories M I F O R) → ((q : ℕ) → IsPrefix (at v.known q) (at v'.known q)) → ((q : ℕ) → IsPrefix (at v'.known q) (history_at histories q)) → (q : ℕ) → IsPrefix (at v.known q) (history_at histories q)
  further v v' histories a b q = prefix_trans (at v.known q) (at v'.known q) (history_at histories q) (a q) (b q)

  pub gives_cell : (p : ℕ) (given : Option (CellParts M I F O R)) (cell : CellParts M I F O R) (history : List (Entry M I F O R)) (known : List (List (Entry M I F O R))) → given ≡ Some cell → history ≡ at cell.seen.known p → ((q : ℕ) → IsPrefix (at cell.seen.known q) (at known q)) → GivesUp p given history known
  gives_cell p given cell history known is own begins = record {
    own = λ c e. let same : cell ≡ c = cc (is, e) in own ∙ ap (λ (x : CellParts M I F O R). at x.seen.known p) same;
    begins = λ c e. let same : cell ≡ c = cc (is, e) in subst (λ (x : CellParts M I F O R). (q : ℕ) → IsPrefix (at x.seen.known q) (at known q)) same begins;
  }

  pub gives_none : (p : ℕ) (given : Option (CellParts M I F O R)) (history : List (Entry M I F O R)) (known : List (List (Entry M I F O R))) → given ≡ None → GivesUp p given history known
  gives_none p given history known is = record { own = λ c e. absurd (cc (is, e)); begins = λ c e. absurd (cc (is, e)) }
