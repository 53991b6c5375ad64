-- What whoever holds all seats knows.
use Rattle.std.proofs.Common.{◌≡◌, ℕ, List, Some, None, refl, ap, sym, ◌∙◌, subst, ⊎_elim, arith}
use Rattle.atomic_table.specs.Table.{State, Seen}
use Rattle.thread_machine.specs.declared.entry.Entry.{Entry}
use Rattle.thread_cell.specs.declared.opening.Opening.{Opening}
use Rattle.thread_cell.specs.declared.view.ClientCalls.{ClientCalls}
use Rattle.thread_cell.specs.declared.view.View.{View}
use Rattle.thread_cell.specs.Lists.{at}
use Rattle.thread_cell.specs.Views.{met}
use Rattle.thread_cell.specs.Rule.{serves, IsKept, Looked}
use Rattle.thread_cell.specs.Entries.{client_of, places_of, clients_of}
use Rattle.thread_cell.specs.Endings.{Gathers, Ends}
use Rattle.thread_cell.proofs.Prefixes.{longer_whole, longer_whole_too}
use Rattle.thread_cell.proofs.Lists.{weigh_at_least, at-longer_each}

module _ {E K : Type 0} where
  pub gathered : (v w : View E K) → Looked (met v w) → Gathers w.places w.clients w.known v (met v w)
  gathered v w looked = record {
    began = refl;
    places = refl;
    clients = refl;
    here = λ p h. at-longer_each v.known w.known p ∙ longer_whole_too (at v.known p) (at w.known p) (looked.first_behind p h);
    keeps = λ p h. at-longer_each v.known w.known p ∙ longer_whole (at v.known p) (at w.known p) (looked.behind p h);
    knew = looked.first;
    other_knew = looked.second;
  }

  pub gathered_as : (v w v' : View E K) (ps : List ℕ) (cs : List ClientCalls) → v' ≡ met v w → w.places ≡ ps → w.clients ≡ cs → Looked (met v w) → Gathers ps cs w.known v v'
  gathered_as v w v' ps cs is places clients looked = subst (Gathers ps cs w.known v) (sym is) (subst (λ qs. Gathers qs cs w.known v (met v w)) places (subst (λ ds. Gathers w.places ds w.known v (met v w)) clients (gathered v w looked)))

module _ {M I F O R : Type 0} where
  pub ends : (key : Opening M I F O R) (id : ℕ) (v : View (Entry M I F O R) (Opening M I F O R)) (s : State (Entry M I F O R) (View (Entry M I F O R) (Opening M I F O R)))
      → Seen (IsKept client_of (places_of key) (clients_of key) key) id v s → Ends key v
  ends key id v s seen =
      let kept = seen.0 in
      let fits = kept.of_places.each id v seen.1 in record {
        log = kept.log;
        own = kept.own;
        begins = fits.begins;
        whole = fits.whole;
        idle = kept.of_places.idle;
        mine = (kept.of_clients.each id v seen.1).mine;
        calls = kept.of_clients.calls;
        once = λ c. let w = weigh_at_least (serves c) s.views id v seen.1 in let t = kept.of_clients.stood c in let o = kept.of_clients.once c in omega arith;
        theirs = kept.of_clients.theirs;
        opening = λ k is. ⊎_elim
            (λ o. let same : Some k ≡ Some key = sym is ∙ o.0 in cc)
            (λ o. absurd (let none : v.began ≡ None = ap (λ (u : View (Entry M I F O R) (Opening M I F O R)). u.began) o in cc))
            fits.opening;
      }
