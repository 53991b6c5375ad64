-- What was asked of a database that is open, or was opened.
use Rattle.std.proofs.Common.{◌≡◌, true, false, List, [], ◌∷◌, length, get_or, refl, sym, subst, subst₂, inl, arith, Result, Ok, Err, Some, None}
use Rattle.std.specs.Prelude.{Option, is_some}
use Rattle.sqlite_trees.specs.declared.memory.MemStore.{MemStore}
use Rattle.sqlite.specs.Held.{Held}
use Rattle.member_keeper.specs.declared.keeper.KeeperError.{KeeperError}
use Rattle.member_keeper.specs.declared.keeper.KeeperError.TheVariants.{Failed, Memory}
use Rattle.member_sqlite.specs.declared.causes.Refusal.{Refusal}
use Rattle.member_sqlite.specs.declared.causes.Refusal.TheVariants as refusal
use Rattle.member_sqlite.specs.Causes.{answer_to}
use Rattle.member_sqlite.specs.Asked.{IsOpened, IsReady, IsUnopened, Asks, Answers}
use Rattle.member_sqlite.specs.InStore.{PutsAllIn, AnswersIn}
use Rattle.member_sqlite.specs.Statements.{PutsOne, PutsTogether}
use Rattle.sqlite.specs.State.{Executes}
use Rattle.sqlite_trees.specs.declared.store.Store.{Ghosts}
use Rattle.member_keeper.specs.declared.stored.Stored.{Stored}

-- an entry alone, and several
module _ {S : Type 0} (g : Ghosts S) where
  pub puts_alone : (entries : List Stored) (entry : Stored) (old new : Held S) (outcome : Result (Unit {0}) Refusal) → length entries ≡ 1 → entry ≡ get_or entries 0 entry → PutsOne g Executes entry old new outcome
      → PutsAllIn g entries old new outcome
  puts_alone [] entry old new outcome one is put = absurd (omega arith)
  puts_alone (first ∷ []) entry old new outcome one is put = subst (λ (e : Stored). PutsOne g Executes e old new outcome) is put
  puts_alone (first ∷ second ∷ more) entry old new outcome one is put = absurd (omega arith)

  pub puts_several : (entries : List Stored) (old new : Held S) (outcome : Result (Unit {0}) Refusal) → (length entries ≡ 1 → ⊥) → PutsTogether g entries old new outcome → PutsAllIn g entries old new outcome
  puts_several [] old new outcome several put = put
  puts_several (first ∷ []) old new outcome several put = absurd (several refl)
  puts_several (first ∷ second ∷ more) old new outcome several put = put

-- one that is open is ready
pub ready_open : (old : Option (Held MemStore)) → is_some old ≡ true → IsReady old old
ready_open (Some conn) some = refl
ready_open None some = absurd (let e = some in cc)

pub ready_opened : (old : Option (Held MemStore)) (conn : Held MemStore) → is_some old ≡ false → IsOpened conn → IsReady old (Some conn)
ready_opened (Some first) conn none opened = absurd (let e = none in cc)
ready_opened None conn none opened = opened

pub none_open : (old : Option (Held MemStore)) → is_some old ≡ false → (old ≡ None) × (old ≡ None)
none_open (Some first) none = absurd (let e = none in cc)
none_open None none = (refl, refl)

pub never_unready : (old : Option (Held MemStore)) → IsReady old None → ⊥
never_unready (Some conn) ready = let e = ready in cc
never_unready None ready = ready

module _ (Does : Held MemStore → Held MemStore → Result (Unit {0}) Refusal → Type 0) where
  pub asks_ready : (old : Option (Held MemStore)) (conn new : Held MemStore) (outcome : Result (Unit {0}) Refusal) → IsReady old (Some conn) → Does conn new outcome → Asks Does old (Some new) outcome
  asks_ready (Some first) conn new outcome ready did = let same : conn ≡ first = (let e = ready in cc) in subst (λ (h : Held MemStore). Does h new outcome) same did
  asks_ready None conn new outcome ready did = (conn, ready, did)

  pub asks_nothing : (old new : Option (Held MemStore)) (why : Refusal) → old ≡ None → new ≡ None → IsUnopened why → Asks Does old new (Err why)
  asks_nothing old new why was is unopened = subst₂ (λ (a b : Option (Held MemStore)). Asks Does a b (Err why)) (sym was) (sym is) unopened

  answers_outcome : (old new : Option (Held MemStore)) (outcome : Result (Unit {0}) Refusal) → Asks Does old new outcome → Answers Does old new (answer_to outcome)
  answers_outcome old new (Ok done) asked = asked
  answers_outcome old new (Err refusal.Memory) asked = inl asked
  answers_outcome old new (Err refusal.Other) asked = asked

  -- what the database answered is told
  pub answers_told : (old new : Option (Held MemStore)) (outcome : Result (Unit {0}) Refusal) (result : Result (Unit {0}) KeeperError) → result ≡ answer_to outcome → Asks Does old new outcome → Answers Does old new result
  answers_told old new outcome result is asked = subst (Answers Does old new) (sym is) (answers_outcome old new outcome asked)

  -- of any type of answers an error is told so
  pub err_told : (T : Type 0) (old new : Option (Held MemStore)) (error : KeeperError) → Answers {T = Unit {0}} Does old new (Err error) → Answers {T = T} Does old new (Err error)
  err_told T old new Failed told = told
  err_told T old new Memory told = told

-- the same of a database that is open
module _ {S : Type 0} (Does : Held S → Held S → Result (Unit {0}) Refusal → Type 0) where
  answers_outcome_in : (old new : Held S) (outcome : Result (Unit {0}) Refusal) → Does old new outcome → AnswersIn Does old new (answer_to outcome)
  answers_outcome_in old new (Ok done) did = did
  answers_outcome_in old new (Err refusal.Memory) did = inl did
  answers_outcome_in old new (Err refusal.Other) did = did

  -- what the database answered is told
  pub answers_in : (old new : Held S) (outcome : Result (Unit {0}) Refusal) (result : Result (Unit {0}) KeeperError) → result ≡ answer_to outcome → Does old new outcome → AnswersIn Does old new result
  answers_in old new outcome result is did = subst (AnswersIn Does old new) (sym is) (answers_outcome_in old new outcome did)

  -- of any type of answers an error is told so
  pub err_in : (T : Type 0) (old new : Held S) (error : KeeperError) → AnswersIn {T = Unit {0}} Does old new (Err error) → AnswersIn {T = T} Does old new (Err error)
  err_in T old new Failed told = told
  err_in T old new Memory told = told
