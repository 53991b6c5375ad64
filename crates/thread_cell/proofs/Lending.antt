-- What a call leaves of the two views.
use Rattle.std.proofs.Common.{◌≡◌, ℕ, ◌+◌, ◌<◌, List, [], ◌∷◌, ◌++◌, refl, ap, ◌∙◌, arith}
use Rattle.thread_cell.specs.declared.view.ClientCalls.{ClientCalls}
use Rattle.thread_cell.specs.declared.view.View.{View}
use Rattle.thread_cell.specs.Lists.{first, at, same, times}
use Rattle.thread_cell.specs.Rule.{stands, Serves, Looked}
use Rattle.thread_cell.specs.Seats.{client, IsAtPlace, IsOfClient, lent}
use Rattle.thread_cell.proofs.Prefixes.{longer_whole}
use Rattle.thread_cell.proofs.Lists.{at-longer_each, same_refl}

module _ {E K : Type 0} (p c : ℕ) (calls : List (ℕ × ℕ)) (v w : View E K) (home : IsAtPlace p v) (guest : IsOfClient c calls w) where
  pub home_stands : 0 < stands p v
  home_stands = let one : stands p v ≡ same p p + 0 = ap (times p) home.places in let s = same_refl p in omega arith

  pub lent_stands : 0 < stands p (lent v w)
  lent_stands = let one : stands p (lent v w) ≡ same p p + 0 = ap (λ (ps : List ℕ). times p (ps ++ [])) home.places in let s = same_refl p in omega arith

  pub lent_clients : (lent v w).clients ≡ client c calls ∷ []
  lent_clients = ap (λ (cs : List ClientCalls). cs ++ first w.clients) home.clients ∙ ap (λ (cs : List ClientCalls). first cs) guest.clients

  pub lent_serves : Serves c (lent v w)
  lent_serves = (client c calls, [], lent_clients, refl)

  pub lent_whole : Looked (lent v w) → at (lent v w).known p ≡ at v.known p
  lent_whole looked = at-longer_each v.known w.known p ∙ longer_whole (at v.known p) (at w.known p) (looked.behind p home_stands)
