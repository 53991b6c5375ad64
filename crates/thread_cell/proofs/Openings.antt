-- The table at its beginning.
use Rattle.std.proofs.Common.{◌≡◌, ℕ, zero, suc, ◌+◌, ◌<◌, ◌≤◌, Bool, true, false, List, [], ◌∷◌, length, drop, get_or, replicate, refl, ap, sym, ◌∙◌, arith}
use Rattle.std.proofs.lemmas.List.{length-replicate}
use Rattle.std.specs.Prelude.{is_some}
use mathlib.Core.Logic.{dite}
use native.Mathlib.Decide.{ℕ_discrete}
use Rattle.atomic_table.specs.Table.{opening}
use Rattle.thread_machine.specs.declared.entry.Entry.{Entry}
use Rattle.thread_machine.specs.declared.machines.Machines.{Machines}
use Rattle.thread_cell.specs.declared.opening.Opening.{Opening}
use Rattle.thread_cell.specs.Lists.{same, times}
use Rattle.thread_cell.specs.Views.{beginner}
use Rattle.thread_cell.specs.Rule.{IsKept}
use Rattle.thread_machine.specs.Machines.{flags, machine_at}
use Rattle.thread_cell.specs.Entries.{places_from, client_of, places_of, clients_of}
use Rattle.thread_cell.proofs.Lists.{same_refl, same_apart}
use Rattle.thread_cell.proofs.Steps.{begins_kept}

none_below : (from : ℕ) (fs : List Bool) (p : ℕ) → p < from → times p (places_from from fs) ≡ 0
none_below from [] p lt = refl
none_below from (true ∷ fs) p lt = let a = same_apart p from (λ e. omega arith) in let b = none_below (suc from) fs p (omega arith) in omega arith
none_below from (false ∷ fs) p lt = none_below (suc from) fs p (omega arith)

pub each_once : (from : ℕ) (fs : List Bool) (p : ℕ) → times p (places_from from fs) ≤ 1
each_once from [] p = omega arith
each_once from (true ∷ fs) p =
    dite (ℕ_discrete p from)
    (λ e. let a = ap (same p) (sym e) ∙ same_refl p in let b = none_below (suc from) fs p (omega arith) in let r : times p (places_from from (true ∷ fs)) ≤ 1 = omega arith in r)
    (λ n. let a = same_apart p from n in let b = each_once (suc from) fs p in let r : times p (places_from from (true ∷ fs)) ≤ 1 = omega arith in r)
each_once from (false ∷ fs) p = each_once (suc from) fs p

pub each_inside : (from : ℕ) (fs : List Bool) (p : ℕ) → 0 < times p (places_from from fs) → p < from + length fs
each_inside from [] p h = absurd (omega arith)
each_inside from (true ∷ fs) p h =
    dite (ℕ_discrete p from)
    (λ e. let r : p < from + length (true ∷ fs) = omega arith in r)
    (λ n. let a = same_apart p from n in let b = each_inside (suc from) fs p (omega arith) in let r : p < from + length (true ∷ fs) = omega arith in r)
each_inside from (false ∷ fs) p h = let b = each_inside (suc from) fs p h in omega arith

zeros : (n p : ℕ) → ◌≡◌ {A = ℕ} (get_or (replicate n 0) p 0) 0
zeros zero p = refl
zeros (suc n) zero = refl
zeros (suc n) (suc p) = zeros n p

module _ {M I F O R : Type 0} where
  pub opens : (key : Opening M I F O R) → IsKept {E = Entry M I F O R} client_of (places_of key) (clients_of key) key (opening (replicate 144 0) [] (beginner (places_of key) (clients_of key) key))
  opens key = begins_kept {E = Entry M I F O R} client_of (places_of key) (clients_of key) key (replicate 144 0) (length-replicate {A = ℕ} 144 0) (zeros 144) (each_inside 0 (flags key.machines)) (each_once 0 (flags key.machines)) (each_once 0 (replicate key.clients true))

  -- the flag of a place comes first of those from there on
  pub flag_first : (ms : Machines M I F O R) (p : ℕ) → p < 8 → drop p (flags ms) ≡ is_some (machine_at ms p) ∷ drop (suc p) (flags ms)
  flag_first ms zero lt = refl
  flag_first ms (suc zero) lt = refl
  flag_first ms (suc (suc zero)) lt = refl
  flag_first ms (suc (suc (suc zero))) lt = refl
  flag_first ms (suc (suc (suc (suc zero)))) lt = refl
  flag_first ms (suc (suc (suc (suc (suc zero))))) lt = refl
  flag_first ms (suc (suc (suc (suc (suc (suc zero)))))) lt = refl
  flag_first ms (suc (suc (suc (suc (suc (suc (suc zero))))))) lt = refl
  flag_first ms (suc (suc (suc (suc (suc (suc (suc (suc p)))))))) lt = absurd (omega arith)
