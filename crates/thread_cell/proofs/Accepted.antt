-- A step of a cell for a session, whole, and a refusal.
use Rattle.std.proofs.Common.{◌≡◌, ℕ, ◌+◌, ◌<◌, max, List, [], ◌∷◌, ◌++◌, length, slice_get, Some, refl, ap, sym, ◌∙◌, subst, arith, length-append}
use Rattle.atomic_table.specs.Table.{Me}
use Rattle.atomic_table.specs.Seated.{TableId}
use Rattle.thread_machine.specs.declared.machine.Machine.{Ghosts}
use Rattle.thread_machine.specs.declared.entry.Entry.{Entry}
use Rattle.thread_cell.specs.declared.opening.Opening.{Opening}
use Rattle.thread_cell.specs.declared.receipt.Receipt.{Receipt}
use Rattle.thread_cell.specs.declared.view.View.{View}
use Rattle.thread_machine.specs.Faults.{RoseAt, Stays}
use Rattle.thread_cell.specs.Lists.{at}
use Rattle.thread_cell.specs.Rule.{most}
use Rattle.thread_cell.specs.Seats.{IsOfClient, Calls}
use Rattle.thread_cell.specs.Values.{IsSession, IsCell, Accepts, seen_by}
use Rattle.thread_machine.proofs.Replaying.{replay_more, replay_refused}
use Rattle.thread_cell.proofs.Accepting.{new_after, history_after, elsewhere_after, home_knew, guest_behind, guest_knew, same_after, began_after, home_is, guest_is, home_timed, guest_timed, rises_more}

module _ {M I F O R : Type 0} (meaning : Ghosts M I F O R) (p : ℕ) (machine next : M) (history : List (Entry M I F O R)) (clock : ℕ) (number : ℕ) (calls : List (ℕ × ℕ)) (stamp : ℕ)
    (me ms me' ms' : Me (Entry M I F O R) (View (Entry M I F O R) (Opening M I F O R)))
    (cell : IsCell meaning p machine history clock me) (session : IsSession number calls stamp ms)
    (e : Entry M I F O R) (made : Calls p e me.0 ms.0 me'.0 ms'.0) (slots : (me'.1 ≡ me.1) × (ms'.1 ≡ ms.1))
    (stamped : e.stamp ≡ max clock stamp + 1) where
  pub session_after : IsSession number (calls ++ (p, length history) ∷ []) (max clock stamp + 1) ms'
  session_after = record {
    seat = subst (λ h. IsOfClient number (calls ++ (p, length h) ∷ []) ms'.0) cell.whole (guest_is p number calls e me.0 ms.0 me'.0 ms'.0 cell.seat session.seat made);
    slots = slots.1 ∙ session.slots;
    timed = guest_timed p number calls e me.0 ms.0 me'.0 ms'.0 cell.seat session.seat made clock stamp cell.timed session.timed stamped;
  }

  module _ (room : length history < most) (steps : meaning.Steps machine e.input e.fate e.output next)
      (fault : RoseAt (meaning.is_fault e.fate) (meaning.faults machine) (meaning.faults next)) where
    began : me'.0.began ≡ me.0.began
    began = (began_after p number calls e me.0 ms.0 me'.0 ms'.0 cell.seat session.seat made).0

    pub cell_after : IsCell meaning p next (history ++ e ∷ []) (max clock stamp + 1) me'
    cell_after = record {
      inside = cell.inside;
      seat = home_is p number calls e me.0 ms.0 me'.0 ms'.0 cell.seat session.seat made;
      slots = slots.0 ∙ cell.slots;
      timed = home_timed p number calls e me.0 ms.0 me'.0 ms'.0 cell.seat session.seat made clock stamp cell.timed session.timed stamped;
      whole = history_after p number calls e me.0 ms.0 me'.0 ms'.0 cell.seat session.seat made ∙ ap (λ h. h ++ e ∷ []) cell.whole;
      few = let l = length-append history (e ∷ []) in omega arith;
      rises = rises_more history e clock cell.rises (λ i x is. cell.timed.at_least p i x (subst (λ h. slice_get h i ≡ Some x) (sym cell.whole) is)) (omega arith);
      replayed = record {
        opening = cell.replayed.opening;
        start = cell.replayed.start;
        began_is = began ∙ cell.replayed.began_is;
        start_is = cell.replayed.start_is;
        replay = replay_more meaning cell.replayed.start machine next history e cell.replayed.replay steps fault;
      };
    }

    pub accepts_made : (input : I) (t ts t' ts' : TableId) (receipt : Receipt M I F O R) → e.input ≡ input → e.client ≡ number → ts' ≡ ts → receipt ≡ record { place = p; index = length history; stamp = e.stamp; output = e.output }
        → Accepts meaning p input (record { seen = seen_by t me.0 clock; machine = machine }) (record { seen = seen_by ts ms.0 stamp; number = number; calls = calls })
        (record { seen = seen_by t' me'.0 e.stamp; machine = next }) (record { seen = seen_by ts' ms'.0 e.stamp; number = number; calls = calls ++ (p, length history) ∷ [] }) receipt
    accepts_made input t ts t' ts' receipt input_is client_is table receipt_is =
        let n : length (at me.0.known p) ≡ length history = ap (λ (h : List (Entry M I F O R)). length h) cell.whole in
        record {
          entry = e;
          input_is = input_is;
          client_is = client_is;
          stamp_is = stamped;
          receipt_is = receipt_is ∙ ap (λ (k : ℕ). record { place = p; index = k; stamp = e.stamp; output = e.output }) (sym n);
          steps = subst (λ i. meaning.Steps machine i e.fate e.output next) input_is steps;
          fault = fault;
          history = history_after p number calls e me.0 ms.0 me'.0 ms'.0 cell.seat session.seat made;
          elsewhere = elsewhere_after p number calls e me.0 ms.0 me'.0 ms'.0 cell.seat session.seat made;
          cell_knew = home_knew p number calls e me.0 ms.0 me'.0 ms'.0 cell.seat session.seat made;
          behind = guest_behind p number calls e me.0 ms.0 me'.0 ms'.0 cell.seat session.seat made;
          client_knew = guest_knew p number calls e me.0 ms.0 me'.0 ms'.0 cell.seat session.seat made;
          same = same_after p number calls e me.0 ms.0 me'.0 ms'.0 cell.seat session.seat made;
          clock = refl;
          stamp = refl;
          number = refl;
          calls = ap (λ (k : ℕ). calls ++ (p, k) ∷ []) (sym n);
          is_new = new_after p number calls e me.0 ms.0 me'.0 ms'.0 cell.seat session.seat made;
          table = table;
          began = began_after p number calls e me.0 ms.0 me'.0 ms'.0 cell.seat session.seat made;
        }

-- a refused step leaves a cell a cell
module _ {M I F O R : Type 0} (meaning : Ghosts M I F O R) (p : ℕ) (machine next : M) (history kept : List (Entry M I F O R)) (clock : ℕ) (me : Me (Entry M I F O R) (View (Entry M I F O R) (Opening M I F O R))) where
  pub cell_refused : IsCell meaning p machine history clock me → kept ≡ history → meaning.IsUnchanged machine next → Stays (meaning.faults machine) (meaning.faults next) → IsCell meaning p next kept clock me
  cell_refused cell is unchanged later = subst (λ h. IsCell meaning p next h clock me) (sym is)
      (record {
        inside = cell.inside;
        seat = cell.seat;
        slots = cell.slots;
        timed = cell.timed;
        whole = cell.whole;
        few = cell.few;
        rises = cell.rises;
        replayed = record {
          opening = cell.replayed.opening;
          start = cell.replayed.start;
          began_is = cell.replayed.began_is;
          start_is = cell.replayed.start_is;
          replay = replay_refused meaning cell.replayed.start machine next history cell.replayed.replay unchanged later;
        };
      })

-- the same, from what the calls of the body say
module _ {M I F O R : Type 0} (meaning : Ghosts M I F O R) (p q : ℕ) (q_is : q ≡ p) (machine next : M) (history kept history' : List (Entry M I F O R)) (clock : ℕ) (number : ℕ) (calls kept_calls calls' : List (ℕ × ℕ)) (stamp n : ℕ)
    (me ms me' ms' : Me (Entry M I F O R) (View (Entry M I F O R) (Opening M I F O R)))
    (cell : IsCell meaning p machine history clock me) (session : IsSession number calls stamp ms)
    (input : I) (fate : F) (output : O)
    (e : Entry M I F O R) (e_is : e ≡ record { input = input; fate = fate; output = output; stamp = n + 1; client = number })
    (made_at : Calls q e me.0 ms.0 me'.0 ms'.0) (slots : (me'.1 ≡ me.1) × (ms'.1 ≡ ms.1))
    (latest : n ≡ max clock stamp) (kept_is : kept ≡ history) (pushed : history' ≡ kept ++ e ∷ []) (kept_calls_is : kept_calls ≡ calls) (called_at : calls' ≡ kept_calls ++ (q, length kept) ∷ []) where
  made : Calls p e me.0 ms.0 me'.0 ms'.0
  made = subst (λ (k : ℕ). Calls k e me.0 ms.0 me'.0 ms'.0) q_is made_at

  called : calls' ≡ kept_calls ++ (p, length kept) ∷ []
  called = subst (λ (k : ℕ). calls' ≡ kept_calls ++ (k, length kept) ∷ []) q_is called_at

  stamp_is : e.stamp ≡ n + 1
  stamp_is = ap (λ (x : Entry M I F O R). x.stamp) e_is

  stamped : e.stamp ≡ max clock stamp + 1
  stamped = stamp_is ∙ ap (λ (k : ℕ). k + 1) latest

  calls_is : calls' ≡ calls ++ (p, length history) ∷ []
  calls_is = called ∙ (ap (λ (cs : List (ℕ × ℕ)). cs ++ (p, length kept) ∷ []) kept_calls_is ∙ ap (λ (h : List (Entry M I F O R)). calls ++ (p, length h) ∷ []) kept_is)

  pub session_kept : IsSession number calls' (n + 1) ms'
  session_kept = subst (λ (cs : List (ℕ × ℕ)). IsSession number cs (n + 1) ms') (sym calls_is) (subst (λ (k : ℕ). IsSession number (calls ++ (p, length history) ∷ []) (k + 1) ms') (sym latest)
      (session_after meaning p machine next history clock number calls stamp me ms me' ms' cell session e made slots stamped))

  module _ (room : length history < most)
      (steps : meaning.Steps machine input fate output next)
      (fault : RoseAt (meaning.is_fault fate) (meaning.faults machine) (meaning.faults next)) where
    abbrev Stepped : Entry M I F O R → Type 0
    Stepped x = meaning.Steps machine x.input x.fate x.output next × RoseAt (meaning.is_fault x.fate) (meaning.faults machine) (meaning.faults next)

    stepped : Stepped e
    stepped = subst Stepped (sym e_is) (steps, fault)

    pub cell_kept : IsCell meaning p next history' (n + 1) me'
    cell_kept = subst (λ h. IsCell meaning p next h (n + 1) me') (sym (pushed ∙ ap (λ h. h ++ e ∷ []) kept_is)) (subst (λ (k : ℕ). IsCell meaning p next (history ++ e ∷ []) (k + 1) me') (sym latest)
        (cell_after meaning p machine next history clock number calls stamp me ms me' ms' cell session e made slots stamped room stepped.0 stepped.1))

    pub accepts_kept : (answer : O) (t ts t' ts' : TableId) (index : ℕ) → index ≡ length history → answer ≡ output → ts' ≡ ts
        → Accepts meaning p input (record { seen = seen_by t me.0 clock; machine = machine }) (record { seen = seen_by ts ms.0 stamp; number = number; calls = calls })
        (record { seen = seen_by t' me'.0 (n + 1); machine = next }) (record { seen = seen_by ts' ms'.0 (n + 1); number = number; calls = calls' }) (record { place = q; index = index; stamp = n + 1; output = answer })
    accepts_kept answer t ts t' ts' index index_is same table =
        let field_of : e.output ≡ output = ap (λ (x : Entry M I F O R). x.output) e_is in
        let P : ℕ → List (ℕ × ℕ) → Type 0 = λ k cs. Accepts meaning p input (record { seen = seen_by t me.0 clock; machine = machine }) (record { seen = seen_by ts ms.0 stamp; number = number; calls = calls })
        (record { seen = seen_by t' me'.0 k; machine = next }) (record { seen = seen_by ts' ms'.0 k; number = number; calls = cs }) (record { place = q; index = index; stamp = n + 1; output = answer }) in
        subst (λ (cs : List (ℕ × ℕ)). P (n + 1) cs) (sym calls_is) (subst (λ (k : ℕ). P k (calls ++ (p, length history) ∷ [])) stamp_is
        (accepts_made meaning p machine next history clock number calls stamp me ms me' ms' cell session e made slots stamped room stepped.0 stepped.1 input t ts t' ts'
        (record { place = q; index = index; stamp = n + 1; output = answer })
        (ap (λ (x : Entry M I F O R). x.input) e_is) (ap (λ (x : Entry M I F O R). x.client) e_is) table
        (λ i. record { place = q_is i; index = index_is i; stamp = sym stamp_is i; output = (same ∙ sym field_of) i })))
