-- What clients did, from the sessions that they left.
--     did_all        as the paths of a section
--     owned_all        each entry is a call of one of them
--     all_given        each entry is given as a section gives it
--     are_all        the sessions are those of all clients
use Rattle.std.proofs.Common.{◌≡◌, inl, inr, ⊎_elim, ℕ, zero, suc, ◌+◌, ◌<◌, List, [], ◌∷◌, length, map, refl, sym, ap, subst, ◌∙◌, arith, Option, Some}
use Rattle.std.specs.Prelude.{slice_get, ◌==◌, if◌then◌else◌}
use Rattle.std.specs.List.{All, AllByRecursion, Contains}
use Rattle.std.proofs.lemmas.Bool.Decides.{eqb_tells}
use mathlib.Core.List.{IsPrefix}
use Rattle.atomic_table.specs.Seated.{TableId}
use Rattle.model_history.proofs.PruneLaws.{IsIn, in_tail}
use Rattle.theorem_runs.proofs.Happening.{all_of}
use Rattle.model_members.specs.View.{View}
use Rattle.model_kinds.specs.declared.operation.Op.{Op}
use Rattle.data_lattice.specs.declared.replica.Replica.{Ghosts}
use Rattle.member_keeper.specs.declared.keeper.Keeper.{Ghosts as Keeping}
use Rattle.thread_machine.specs.declared.machine.Machine.{Ghosts as Machine}
use Rattle.thread_cell.specs.declared.opening.Opening.{Opening}
use Rattle.thread_cell.specs.declared.view.ClientCalls.{ClientCalls}
use Rattle.thread_cell.specs.Calls.{AreAll}
use Rattle.thread_cell.specs.Lists.{at, weigh, same}
use Rattle.thread_cell.specs.Rule.{calls_at}
use Rattle.thread_cell.specs.Values.{ClientParts, client_calls}
use Rattle.thread_cell.specs.Views.{numbers}
use Rattle.member_node.specs.declared.input.Input.{Input}
use Rattle.member_node.specs.declared.node.Node.{Node}
use Rattle.member_node.specs.declared.reply.Fate.{Fate}
use Rattle.member_node.specs.declared.reply.Output.{Output}
use Rattle.member_node.specs.declared.reply.StepError.{StepError}
use Rattle.script_reading.specs.declared.clients.Repeated.{Repeated}
use Rattle.world_members.specs.declared.client_line.ClientLine.{ClientLine}
use Rattle.world_places.specs.Places.{identity_at}
use Rattle.thread_run_order.specs.Images.{EntryOf}
use Rattle.thread_run_order.specs.Section.{IsGiven}
use Rattle.thread_clients.specs.Commands as given
use Rattle.thread_section.specs.Clients.{HaveDone}
use Rattle.thread_section.proofs.Assembled.{AllDid, Owned}
use Rattle.thread_section.proofs.Given.{GivenAt, path_given}

-- CALLS

-- a call that counts stands among the calls
module _ (p i a b : ℕ) (calls : List (ℕ × ℕ)) (some : 0 < calls_at p i ((a, b) ∷ calls)) (rest : 0 < calls_at p i calls → IsIn calls (p, i)) where
  later : (if a == p then same i b else 0) ≡ 0 → IsIn ((a, b) ∷ calls) (p, i)
  later none = in_tail (a, b) calls (p, i) (rest (let s = some in omega (arith, s, none)))

  first_or_later : IsIn ((a, b) ∷ calls) (p, i)
  first_or_later = elim (eqb_tells a p) [
    | inl here ↦ elim (eqb_tells i b) [
      | inl this ↦ (zero, ap Some (ap (λ x. (x, b)) here.1 ∙ ap (λ y. (p, y)) (sym this.1)))
      | inr other ↦ later (ap (λ t. (if t then same i b else 0)) here.0 ∙ ap (λ t. (if t then 1 else 0)) other.0)
    ]
    | inr away ↦ later (ap (λ t. (if t then same i b else 0)) away.0)
  ]

is_in : (p i : ℕ) (calls : List (ℕ × ℕ)) → 0 < calls_at p i calls → IsIn calls (p, i)
is_in p i [] some = absurd (omega (arith, some))
is_in p i ((a, b) ∷ calls) some = first_or_later p i a b calls some (λ s. is_in p i calls s)

all_from : {X : Type 0} (P : X → Type 0) (xs : List X) → ((k : ℕ) (x : X) → slice_get xs k ≡ Some x → P x) → All P xs
all_from P [] each k d less = absurd (omega (arith, less))
all_from P (x ∷ xs) each zero d less = each zero x refl
all_from P (x ∷ xs) each (suc k) d less = all_from P xs (λ j y e. each (suc j) y e) k d (omega (arith, less))

module _ {T K Kind Delta : Type 0} {ghosts : Ghosts T Kind Op Delta} {keeping : Keeping K} (meaning : Machine (Node T K Kind Op Delta ghosts keeping) (Input T Kind Op Delta ghosts) Fate (Output T Kind Op Delta ghosts) StepError) (ids : ℕ → Option ℕ) (views : List View) (table : TableId)
    (opening : Opening (Node T K Kind Op Delta ghosts keeping) (Input T Kind Op Delta ghosts) Fate (Output T Kind Op Delta ghosts) StepError) where
  abbrev Session : Type 0
  Session = ClientParts (Node T K Kind Op Delta ghosts keeping) (Input T Kind Op Delta ghosts) Fate (Output T Kind Op Delta ghosts) StepError

  abbrev Done : ℕ → List (List Repeated) → List Session → List (List ClientLine) → Type 0
  Done = HaveDone meaning ids views table opening

  -- THE SESSIONS

  pub as_many : (client : ℕ) (cs : List (List Repeated)) (ss : List Session) (ls : List (List ClientLine)) → Done client cs ss ls → length ss ≡ length cs
  as_many client [] [] [] done = refl
  as_many client (c ∷ cs) (s ∷ ss) (l ∷ ls) done = ap suc (as_many (suc client) cs ss ls done.1)
  as_many client [] [] (l ∷ ls) done = absurd done
  as_many client [] (s ∷ ss) ls done = absurd done
  as_many client (c ∷ cs) [] ls done = absurd done
  as_many client (c ∷ cs) (s ∷ ss) [] done = absurd done

  numbers_in : (client : ℕ) (cs : List (List Repeated)) (ss : List Session) (ls : List (List ClientLine)) → Done client cs ss ls → (k : ℕ) → k < length cs → Contains (numbers (map client_calls ss)) (client + k)
  numbers_in client [] [] [] done k less = absurd (omega (arith, less))
  numbers_in client (c ∷ cs) (s ∷ ss) (l ∷ ls) done zero less = (zero, omega arith, done.0.number ∙ omega arith)
  numbers_in client (c ∷ cs) (s ∷ ss) (l ∷ ls) done (suc k) less =
      let r = numbers_in (suc client) cs ss ls done.1 k (omega (arith, less)) in
      let e : suc client + k ≡ client + suc k = omega arith in
      let there = subst (Contains (numbers (map client_calls ss))) e r in
      (suc there.0, (let b = there.1 in omega (arith, b)), there.2)
  numbers_in client [] [] (l ∷ ls) done k less = absurd done
  numbers_in client [] (s ∷ ss) ls done k less = absurd done
  numbers_in client (c ∷ cs) [] ls done k less = absurd done
  numbers_in client (c ∷ cs) (s ∷ ss) [] done k less = absurd done

  pub are_all : (count : ℕ) (cs : List (List Repeated)) (ss : List Session) (ls : List (List ClientLine)) → count ≡ length cs → Done 0 cs ss ls → AreAll count (map client_calls ss)
  are_all count cs ss ls long done c less = let e : 0 + c ≡ c = omega arith in subst (Contains (numbers (map client_calls ss))) e (numbers_in 0 cs ss ls done c (omega (arith, less, long)))

  each_in : (client : ℕ) (cs : List (List Repeated)) (ss : List Session) (ls : List (List ClientLine)) → Done client cs ss ls → (k : ℕ) (s : Session) → slice_get ss k ≡ Some s → (s.seen.table ≡ table) × (s.seen.began ≡ Some opening)
  each_in client [] [] [] done k s e = absurd (cc e)
  each_in client (c ∷ cs) (t ∷ ss) (l ∷ ls) done zero s e = let is : t ≡ s = cc e in subst (λ (x : Session). (x.seen.table ≡ table) × (x.seen.began ≡ Some opening)) is (done.0.in_table, done.0.opened)
  each_in client (c ∷ cs) (t ∷ ss) (l ∷ ls) done (suc k) s e = each_in (suc client) cs ss ls done.1 k s e
  each_in client [] [] (l ∷ ls) done k s e = absurd done
  each_in client [] (t ∷ ss) ls done k s e = absurd done
  each_in client (c ∷ cs) [] ls done k s e = absurd done
  each_in client (c ∷ cs) (t ∷ ss) [] done k s e = absurd done

  pub all_in_table : (cs : List (List Repeated)) (ss : List Session) (ls : List (List ClientLine)) → Done 0 cs ss ls → All (λ (s : Session). s.seen.table ≡ table) ss
  all_in_table cs ss ls done = all_from (λ (s : Session). s.seen.table ≡ table) ss (λ k s e. (each_in 0 cs ss ls done k s e).0)

  pub all_opened : (cs : List (List Repeated)) (ss : List Session) (ls : List (List ClientLine)) → Done 0 cs ss ls → All (λ (s : Session). s.seen.began ≡ Some opening) ss
  all_opened cs ss ls done = all_from (λ (s : Session). s.seen.began ≡ Some opening) ss (λ k s e. (each_in 0 cs ss ls done k s e).1)

  -- THEIR PATHS, in the histories

  module _ (h : ℕ → List (EntryOf ghosts keeping)) where
    abbrev Knew : List Session → Type 0
    Knew ss = (k : ℕ) (s : Session) → slice_get ss k ≡ Some s → (p : ℕ) → IsPrefix (at s.seen.known p) (h p)

    pub did_all : (client : ℕ) (cs : List (List Repeated)) (ss : List Session) (ls : List (List ClientLine)) → Done client cs ss ls → Knew ss → AllDid meaning ids opening h views client cs ls
    did_all client [] [] [] done knew = tt
    did_all client (c ∷ cs) (s ∷ ss) (l ∷ ls) done knew = (
      record { first = done.0.first; last = s; number = done.0.number; opened = done.0.opened; begins = knew 0 s refl; fresh = done.0.fresh; path = done.0.path },
      did_all (suc client) cs ss ls done.1 (λ k t e. knew (suc k) t e),
    )
    did_all client [] [] (l ∷ ls) done knew = absurd done
    did_all client [] (s ∷ ss) ls done knew = absurd done
    did_all client (c ∷ cs) [] ls done knew = absurd done
    did_all client (c ∷ cs) (s ∷ ss) [] done knew = absurd done

    abbrev Own : (client : ℕ) (cs : List (List Repeated)) (ls : List (List ClientLine)) → AllDid meaning ids opening h views client cs ls → ℕ × ℕ → Type 0
    Own = Owned meaning ids opening h views

    -- a call that counts is one of theirs
    pub owned_all : (client : ℕ) (cs : List (List Repeated)) (ss : List Session) (ls : List (List ClientLine)) (done : Done client cs ss ls) (knew : Knew ss) (p i : ℕ) → 0 < weigh (λ (who : ClientCalls). calls_at p i who.calls) (map client_calls ss)
        → Own client cs ls (did_all client cs ss ls done knew) (p, i)
    unfolding did_all
    owned_all client [] [] [] done knew p i some = absurd (omega (arith, some))
    owned_all client (c ∷ cs) (s ∷ ss) (l ∷ ls) done knew p i some = by (λ more. owned_all (suc client) cs ss ls done.1 (λ k t e. knew (suc k) t e) p i more) (calls_at p i s.calls) refl
      where
        by : (0 < weigh (λ (who : ClientCalls). calls_at p i who.calls) (map client_calls ss) → Own (suc client) cs ls (did_all (suc client) cs ss ls done.1 (λ k t e. knew (suc k) t e)) (p, i))
            → (n : ℕ) → calls_at p i s.calls ≡ n → Own client (c ∷ cs) (l ∷ ls) (did_all client (c ∷ cs) (s ∷ ss) (l ∷ ls) done knew) (p, i)
        by rest zero none = inr (rest (let a = some in omega (arith, a, none)))
        by rest (suc n) more = inl (is_in p i s.calls (omega (arith, more)))
    owned_all client [] [] (l ∷ ls) done knew p i some = absurd done
    owned_all client [] (s ∷ ss) ls done knew p i some = absurd done
    owned_all client (c ∷ cs) [] ls done knew p i some = absurd done
    owned_all client (c ∷ cs) (s ∷ ss) [] done knew p i some = absurd done

    module _ (view : View) (ids_are : (place : ℕ) → ids place ≡ identity_at view place) where
      abbrev Given : ℕ × ℕ → Type 0
      Given = GivenAt meaning ids h view views ids_are

      owned_given : (client : ℕ) (cs : List (List Repeated)) (ls : List (List ClientLine)) (all : AllDid meaning ids opening h views client cs ls) (call : ℕ × ℕ) → Own client cs ls all call → Given call
      owned_given client [] [] all call own = absurd own
      owned_given client [] (l ∷ ls) all call own = absurd own
      owned_given client (c ∷ cs) [] all call own = absurd own
      owned_given client (c ∷ cs) (l ∷ ls) all call own = ⊎_elim (λ (m : IsIn all.0.last.calls call). here m) (λ (o : Own (suc client) cs ls all.1 call). owned_given (suc client) cs ls all.1 call o) own
        where
          here : IsIn all.0.last.calls call → Given call
          here m =
              ⊎_elim (λ (old : IsIn all.0.first.calls call). absurd (let none = subst (λ calls. IsIn calls call) all.0.fresh.1 old in cc none.1)) (λ (g : Given call). g)
              ((path_given meaning ids h view views ids_are client all.0.first all.0.last (given.commands_of c) l all.0.path).adds all.0.begins call m)

      pub all_given : (client : ℕ) (cs : List (List Repeated)) (ls : List (List ClientLine)) (all : AllDid meaning ids opening h views client cs ls) → ((p n : ℕ) (e : EntryOf ghosts keeping) → slice_get (h p) n ≡ Some e → Own client cs ls all (p, n))
          → (place : ℕ) → AllByRecursion (λ (e : EntryOf ghosts keeping). IsGiven view views e.input) (h place)
      all_given client cs ls all owned place =
          all_of (λ (e : EntryOf ghosts keeping). IsGiven view views e.input) (h place)
          (λ e m.
          let g = owned_given client cs ls all (place, m.0) (owned place m.0 e m.1) in
          let is : g.entry ≡ e = cc (sym g.stands ∙ m.1) in
          subst (λ (x : EntryOf ghosts keeping). IsGiven view views x.input) is g.given)
