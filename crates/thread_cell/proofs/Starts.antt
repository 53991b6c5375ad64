-- Cells and sessions at their beginning.
use Rattle.std.proofs.Common.{◌≡◌, ℕ, zero, suc, ◌+◌, ◌-◌, ◌<◌, true, List, [], ◌∷◌, ◌++◌, map, length, drop, replicate, Option, Some, None, refl, ap, sym, ◌∙◌, subst, arith, add-one, length-append}
use Rattle.std.specs.Prelude.{is_some}
use Rattle.atomic_table.specs.Table.{Me}
use Rattle.thread_machine.specs.declared.machine.Machine.{Ghosts}
use Rattle.thread_machine.specs.declared.entry.Entry.{Entry}
use Rattle.thread_cell.specs.declared.opening.Opening.{Opening}
use Rattle.thread_cell.specs.declared.view.ClientCalls.{ClientCalls}
use Rattle.thread_cell.specs.declared.view.View.{View}
use Rattle.thread_cell.specs.Lists.{first, rest, at}
use Rattle.thread_cell.specs.Views.{numbers, newcomer, place_left, place_given, client_left, client_given}
use Rattle.thread_machine.specs.Machines.{flags, machine_at}
use Rattle.thread_cell.specs.Entries.{places_from}
use Rattle.thread_machine.specs.Replays.Replays.{begins}
use Rattle.thread_cell.specs.Stamps.{IsTimed}
use Rattle.atomic_table.specs.Seated.{TableId}
use Rattle.thread_cell.specs.Values.{IsSession, IsCell, ClientParts, client_calls, seen_by}
use Rattle.thread_cell.specs.Beginnings.{Opens, places_left, clients_left, begun, begun_session, begun_sessions}
use Rattle.std.specs.List.{All, Contains}
use Rattle.std.proofs.lemmas.List.Elements.{All-push, Contains-append_left, Contains-append_right}
use mathlib.Core.Logic.{dite}
use native.Mathlib.Decide.{ℕ_discrete}
use Rattle.thread_cell.specs.Calls.{AreAll}
use Rattle.thread_cell.proofs.Openings.{flag_first}

module _ {M I F O R : Type 0} where
  untimed : (known : List (List (Entry M I F O R))) → known ≡ [] → IsTimed known 0
  untimed known none = subst (λ hs. IsTimed hs 0) (sym none) (record { at_least = λ p i e is. absurd (cc); at_most = omega arith; bound = omega arith })

  places_step : (key : Opening M I F O R) (p : ℕ) → p < 8 → (machine : Option M) → machine_at key.machines p ≡ machine → places_left key p ≡ places_from p (is_some machine ∷ drop (suc p) (flags key.machines))
  places_step key p lt machine is = ap (places_from p) (flag_first key.machines p lt ∙ ap (λ (m : Option M). is_some m ∷ drop (suc p) (flags key.machines)) is)

  module _ (key : Opening M I F O R) (p : ℕ) (me : Me (Entry M I F O R) (View (Entry M I F O R) (Opening M I F O R))) (inside : p < 8) (opens : Opens key (places_left key p) [] me) where
    pub skipped : (machine : Option M) → machine ≡ None → machine_at key.machines p ≡ machine → Opens key (places_left key (p + 1)) [] me
    skipped machine none is = record {
      began = opens.began;
      known = opens.known;
      places = opens.places ∙ (places_step key p inside None (is ∙ none) ∙ ap (places_left key) (sym (add-one p)));
      clients = opens.clients;
      slots = opens.slots;
    }

    module _ (machine : M) (there : machine_at key.machines p ≡ Some machine) where
      here : me.0.places ≡ p ∷ places_from (suc p) (drop (suc p) (flags key.machines))
      here = opens.places ∙ places_step key p inside (Some machine) there

      pub left_over : Opens key (places_left key (p + 1)) [] (place_left me.0, me.1)
      left_over = record {
        began = opens.began;
        known = opens.known;
        places = ap (λ (ps : List ℕ). rest ps) here ∙ ap (places_left key) (sym (add-one p));
        clients = opens.clients;
        slots = opens.slots;
      }

      pub cell_begins : (meaning : Ghosts M I F O R) → IsCell meaning p machine [] 0 (place_given me.0, [])
      cell_begins meaning = record {
        inside = inside;
        seat = record { live = (key, opens.began); places = ap (λ (ps : List ℕ). first ps) here; clients = refl };
        slots = refl;
        timed = untimed me.0.known opens.known;
        whole = ap (λ hs. at hs p) opens.known;
        few = omega arith;
        rises = record { above = λ i e at_i. absurd (cc); rising = λ i j e f lt at_i at_j. absurd (cc) };
        replayed = record {
          opening = key;
          start = machine;
          began_is = opens.began;
          start_is = there;
          replay = record { replays = begins machine; faults = omega arith };
        };
      }

  module _ (key : Opening M I F O R) (ps : List ℕ) (all number : ℕ) (me : Me (Entry M I F O R) (View (Entry M I F O R) (Opening M I F O R))) (less : number < all) (opens : Opens key ps (clients_left all number) me) where
    clients_here : me.0.clients ≡ newcomer number ∷ clients_left all (number + 1)
    clients_here =
        let one_less : all - number ≡ suc (all - (number + 1)) = omega arith in
        opens.clients
        ∙ (ap (λ (n : ℕ). map newcomer (places_from number (replicate n true))) one_less
        ∙ ap (λ (n : ℕ). newcomer number ∷ map newcomer (places_from n (replicate (all - (number + 1)) true))) (sym (add-one number)))

    pub clients_over : Opens key ps (clients_left all (number + 1)) (client_left me.0, me.1)
    clients_over = record {
      began = opens.began;
      known = opens.known;
      places = opens.places;
      clients = ap (λ (cs : List ClientCalls). rest cs) clients_here;
      slots = opens.slots;
    }

    pub session_begins : IsSession number [] 0 (client_given me.0, [])
    session_begins = record {
      seat = record { live = (key, opens.began); places = refl; clients = ap (λ (cs : List ClientCalls). first cs) clients_here };
      slots = refl;
      timed = untimed me.0.known opens.known;
    }

    pub session_value : (table given : TableId) (me' : Me (Entry M I F O R) (View (Entry M I F O R) (Opening M I F O R))) (calls : List (ℕ × ℕ)) → given ≡ table → me' ≡ (client_given me.0, []) → calls ≡ []
        → ◌≡◌ {A = ClientParts M I F O R} (record { seen = seen_by given me'.0 0; number = number; calls = calls }) (begun_session table key number)
    session_value table given me' calls is view none =
        ap (λ (t : TableId). record { seen = seen_by t me'.0 0; number = number; calls = calls }) is
        ∙ (ap (λ (m : Me (Entry M I F O R) (View (Entry M I F O R) (Opening M I F O R))). record { seen = seen_by table m.0 0; number = number; calls = calls }) view
        ∙ (ap (λ (cs : List (ℕ × ℕ)). record { seen = seen_by table me.0 0; number = number; calls = cs }) none
        ∙ (λ i. record { seen = record { table = table; began = opens.began i; known = opens.known i; stamp = 0 }; number = number; calls = [] })))

pub length-begun_sessions : {M I F O R : Type 0} (table : TableId) (key : Opening M I F O R) (n : ℕ) → length (begun_sessions table key n) ≡ n
length-begun_sessions table key zero = refl
length-begun_sessions table key (suc n) = let more = length-begun_sessions table key n in let sum = length-append (begun_sessions table key n) (begun_session table key n ∷ []) in omega arith

pub begun_tables : {M I F O R : Type 0} (table : TableId) (key : Opening M I F O R) (n : ℕ) → All (λ (s : ClientParts M I F O R). s.seen.table ≡ table) (begun_sessions table key n)
begun_tables table key zero = λ k d l. absurd (omega arith)
begun_tables table key (suc n) = All-push (λ s. s.seen.table ≡ table) (begun_sessions table key n) (begun_session table key n) (begun_tables table key n) refl

pub begun_some : {M I F O R : Type 0} (table : TableId) (key : Opening M I F O R) (machine : Option M) → is_some (begun table key machine) ≡ is_some machine
begun_some table key None = refl
begun_some table key (Some m) = refl

pub session_numbers-push : {M I F O R : Type 0} (sessions : List (ClientParts M I F O R)) (s : ClientParts M I F O R) → numbers (map client_calls (sessions ++ s ∷ [])) ≡ numbers (map client_calls sessions) ++ s.number ∷ []
session_numbers-push [] s = refl
session_numbers-push (x ∷ sessions) s = ap (λ ns. x.number ∷ ns) (session_numbers-push sessions s)

pub begun_all : {M I F O R : Type 0} (table : TableId) (key : Opening M I F O R) (n : ℕ) → AreAll n (map client_calls (begun_sessions table key n))
begun_all table key zero = λ c less. absurd (omega arith)
begun_all table key (suc n) = λ c less.
    subst (λ ns. Contains ns c) (sym (session_numbers-push (begun_sessions table key n) (begun_session table key n)))
    (dite (ℕ_discrete c n)
    (λ e. Contains-append_right (numbers (map client_calls (begun_sessions table key n))) (n ∷ []) c (0, omega arith, sym e))
    (λ away. Contains-append_left (numbers (map client_calls (begun_sessions table key n))) (n ∷ []) c (begun_all table key n c (omega arith))))
