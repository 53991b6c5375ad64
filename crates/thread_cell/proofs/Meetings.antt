-- What holds of a cell's or session's seat after it met a note's.
use Rattle.std.proofs.Common.{◌≡◌, ◌⊎◌, ℕ, zero, suc, ◌+◌, ◌*◌, ◌<◌, ◌≤◌, max, List, [], ◌∷◌, ◌++◌, slice_get, Some, ap, ◌∙◌, subst, ⊎_elim, inl, inr, arith}
use Rattle.atomic_table.specs.Table.{Me}
use Rattle.thread_machine.specs.declared.machine.Machine.{Ghosts}
use Rattle.thread_machine.specs.declared.entry.Entry.{Entry}
use Rattle.thread_cell.specs.declared.opening.Opening.{Opening}
use Rattle.thread_cell.specs.declared.view.ClientCalls.{ClientCalls}
use Rattle.thread_cell.specs.declared.view.View.{View}
use Rattle.thread_cell.specs.Lists.{longer, at, longer_each, same, times}
use Rattle.thread_cell.specs.Views.{met}
use Rattle.thread_cell.specs.Rule.{most, Looked}
use Rattle.thread_cell.specs.Stamps.{total, IsTimed}
use Rattle.thread_cell.specs.Values.{IsNote, IsSession, IsCell}
use Rattle.thread_cell.proofs.Prefixes.{longer_whole, longer_length, longer_length_too}
use Rattle.thread_cell.proofs.Lists.{at-longer_each, same_refl}

module _ {A : Type 0} where
  pub longer_get : (xs ys : List A) (i : ℕ) (x : A) → slice_get (longer xs ys) i ≡ Some x → (slice_get xs i ≡ Some x) ⊎ (slice_get ys i ≡ Some x)
  longer_get [] ys i x is = inr is
  longer_get (z ∷ xs) [] i x is = inl is
  longer_get (z ∷ xs) (y ∷ ys) zero x is = inl is
  longer_get (z ∷ xs) (y ∷ ys) (suc i) x is = longer_get xs ys i x is

  pub total_longer : (xs ys : List (List A)) → total xs ≤ total (longer_each xs ys)
  total_longer [] ys = omega arith
  total_longer (x ∷ xs) [] = omega arith
  total_longer (x ∷ xs) (y ∷ ys) = let more = total_longer xs ys in let head = longer_length x y in omega arith

  pub total_longer_too : (xs ys : List (List A)) → total ys ≤ total (longer_each xs ys)
  total_longer_too [] ys = omega arith
  total_longer_too (x ∷ xs) [] = omega arith
  total_longer_too (x ∷ xs) (y ∷ ys) = let more = total_longer_too xs ys in let head = longer_length_too x y in omega arith

module _ {M I F O R : Type 0} where
  pub timed_met : (known known' : List (List (Entry M I F O R))) (stamp stamp' : ℕ) → IsTimed known stamp → IsTimed known' stamp' → total (longer_each known known') ≤ 8 * most → IsTimed (longer_each known known') (max stamp stamp')
  timed_met known known' stamp stamp' timed timed' bound = record {
    at_least = λ p i e is.
        let is' = subst (λ h. slice_get h i ≡ Some e) (at-longer_each known known' p) is in
        ⊎_elim
        (λ one. let l = timed.at_least p i e one in let r : e.stamp ≤ max stamp stamp' = omega arith in r)
        (λ other. let l = timed'.at_least p i e other in let r : e.stamp ≤ max stamp stamp' = omega arith in r)
        (longer_get (at known p) (at known' p) i e is');
    at_most =
        let a = timed.at_most in
        let b = timed'.at_most in
        let c = total_longer known known' in
        let d = total_longer_too known known' in omega arith;
    bound = bound;
  }

  module _ (me me' : Me (Entry M I F O R) (View (Entry M I F O R) (Opening M I F O R))) (stamp' : ℕ) (note : IsNote stamp' me') (looked : Looked (met me.0 me'.0)) where
    pub session_met : (number : ℕ) (calls : List (ℕ × ℕ)) (stamp : ℕ) → IsSession number calls stamp me → IsSession number calls (max stamp stamp') (met me.0 me'.0, me.1)
    session_met number calls stamp session = record {
      seat = record {
        live = session.seat.live;
        places = ap (λ (ps : List ℕ). ps ++ me'.0.places) session.seat.places ∙ note.seat.places;
        clients = ap (λ (cs : List ClientCalls). cs ++ me'.0.clients) session.seat.clients ∙ ap (λ (cs : List ClientCalls). record { number = number; calls = calls } ∷ cs) note.seat.clients;
      };
      slots = session.slots;
      timed = timed_met me.0.known me'.0.known stamp stamp' session.timed note.timed looked.bound;
    }

    module _ (meaning : Ghosts M I F O R) (p : ℕ) (machine : M) (history : List (Entry M I F O R)) (clock : ℕ) (cell : IsCell meaning p machine history clock me) where
      stands_there : 0 < times p me.0.places
      stands_there = let one : times p me.0.places ≡ same p p + 0 = ap (times p) cell.seat.places in let s = same_refl p in omega arith

      pub whole_met : at (longer_each me.0.known me'.0.known) p ≡ at me.0.known p
      whole_met = at-longer_each me.0.known me'.0.known p ∙ longer_whole (at me.0.known p) (at me'.0.known p) (looked.behind p stands_there)

      pub cell_met : IsCell meaning p machine history (max clock stamp') (met me.0 me'.0, me.1)
      cell_met = record {
        inside = cell.inside;
        seat = record {
          live = cell.seat.live;
          places = ap (λ (ps : List ℕ). ps ++ me'.0.places) cell.seat.places ∙ ap (λ (ps : List ℕ). p ∷ ps) note.seat.places;
          clients = ap (λ (cs : List ClientCalls). cs ++ me'.0.clients) cell.seat.clients ∙ note.seat.clients;
        };
        slots = cell.slots;
        timed = timed_met me.0.known me'.0.known clock stamp' cell.timed note.timed looked.bound;
        whole = whole_met ∙ cell.whole;
        few = cell.few;
        rises = cell.rises;
        replayed = record {
          opening = cell.replayed.opening;
          start = cell.replayed.start;
          began_is = cell.replayed.began_is;
          start_is = cell.replayed.start_is;
          replay = cell.replayed.replay;
        };
      }
