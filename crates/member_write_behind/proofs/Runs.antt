-- What the inner keeper holds after each call: the first of the accepted stores, and what is pending are the others.
use Rattle.std.proofs.Common.{◌≡◌, ℕ, ◌+◌, ◌<◌, ◌≤◌, List, [], ◌∷◌, ◌++◌, length, take, drop, refl, ap, sym, ◌∙◌, subst, arith}
use Rattle.std.specs.Prelude.{Result, Ok, Err, None, Some, Bool, true, false, nat_lt, nat_eq, min, fold, count_by, if◌then◌else◌, Option, OnErr, MatchBool}
use Rattle.std.proofs.Math.Seq.{take-length}
use Rattle.std.proofs.lemmas.List.Sums.{sum_by-append}
use Rattle.std.proofs.lemmas.List.{drop_all, take-append-drop, take-append-le, drop-append-le, length-append}
use Rattle.thread_machine.specs.Faults.{RoseBy, last}
use Rattle.base_outside.specs.Causes.{Rose}
use Rattle.member_keeper.specs.declared.stored.Stored.{Stored}
use Rattle.member_keeper.specs.declared.keeper.Keeper.{Ghosts as Keeping}
use Rattle.member_keeper.specs.declared.keeper.KeeperError.{KeeperError}
use Rattle.member_keeper.specs.declared.keeper.KeeperError.TheVariants as error
use Rattle.member_keeper.specs.Tables.{Table, put_all, IsTable}
use Rattle.member_keeper.specs.Calls.{Becomes, Changes, IsCaused}
use Rattle.member_keeper.proofs.Orders.{table_put_all}
use Rattle.member_write_behind.specs.declared.calls.StoreCall.{StoreCall}
use Rattle.member_write_behind.specs.declared.calls.StoreCall.TheVariants.{Store, Flush, Clear}
use Rattle.member_write_behind.specs.declared.calls.Answered.{Answered}
use Rattle.member_write_behind.specs.declared.calls.Answered.TheVariants as answer
use Rattle.member_write_behind.specs.Gathering.{Gathered, IsGathering, Waits, HandsOn, StoresBehind, Flushes, ClearsBehind}
use Rattle.member_write_behind.specs.Runs.{outcome_of, is_failed, Accepted, nothing_since, after_accepted, after_call, after_calls, stored, HoldsFirst, Calls, RunsTo, RunsInPart}
use Rattle.member_write_behind.proofs.Puts.{puts_over}
use Rattle.member_write_behind.proofs.Tellings.{store_caused}
use Rattle.std.proofs.lemmas.Bool.Decides.{nat_tests}

-- STORES OVER A TABLE

stored_more : (table : Table) (stores : List (List Stored)) (entries : List Stored) → stored table (stores ++ entries ∷ []) ≡ put_all (stored table stores) entries
stored_more table [] entries = refl
stored_more table (x ∷ stores) entries = stored_more (put_all table x) stores entries

stored_after : (table : Table) (before after : List (List Stored)) → stored table (before ++ after) ≡ stored (stored table before) after
stored_after table [] after = refl
stored_after table (x ∷ before) after = stored_after (put_all table x) before after

-- what waits was put into a table of its own
stored_over : (table m : Table) (stores : List (List Stored)) → IsTable m → put_all table (stored m stores) ≡ stored (put_all table m) stores
stored_over table m [] is = refl
stored_over table m (x ∷ stores) is = stored_over table (put_all m x) stores (table_put_all m x is) ∙ ap (λ (t : Table). stored t stores) (puts_over table m x is)

-- WHERE A KEEPER STANDS AFTER CALLS

-- the first of the accepted stores are in the inner table, and the others are pending
pub record Stands (a : Accepted) (table : Table) (waiting : ℕ) (pending : Table) : Type 0 where
  pub first : ℕ
  pub counted : first + waiting ≡ length a.stores
  pub flushed : a.flushed ≤ first
  pub holds : table ≡ stored a.base (take first a.stores)
  pub others : pending ≡ stored [] (drop first a.stores)

stands_at_first : (base : Table) (waiting : ℕ) (pending : Table) → waiting ≡ 0 → pending ≡ [] → Stands (nothing_since base) base waiting pending
stands_at_first base waiting pending none empty = record { first = 0; counted = omega (arith, none); flushed = omega arith; holds = refl; others = empty }

module _ (a : Accepted) (table : Table) (waiting : ℕ) (pending : Table) (s : Stands a table waiting pending) where
  -- what was pending put over the inner table is all that was accepted
  all_stored : put_all table pending ≡ stored a.base a.stores
  all_stored =
      ap (put_all table) s.others ∙ stored_over table [] (drop s.first a.stores) tt ∙ ap (λ (t : Table). stored t (drop s.first a.stores)) s.holds
      ∙ sym (stored_after a.base (take s.first a.stores) (drop s.first a.stores)) ∙ ap (stored a.base) (take-append-drop s.first a.stores)

  first_within : s.first ≤ length a.stores
  first_within = let counted = s.counted in omega (arith, counted)

  one_waits : (entries : List Stored) → Stands (after_accepted a (Store entries)) table (waiting + 1) (put_all pending entries)
  one_waits entries = record {
    first = s.first;
    counted = let counted = s.counted in let more = length-append a.stores (entries ∷ []) in omega (arith, counted, more);
    flushed = s.flushed;
    holds = s.holds ∙ ap (stored a.base) (sym (take-append-le s.first a.stores (entries ∷ []) first_within));
    others = ap (λ (t : Table). put_all t entries) s.others ∙ sym (stored_more [] (drop s.first a.stores) entries) ∙ ap (stored []) (sym (drop-append-le s.first a.stores (entries ∷ []) first_within));
  }

  all_handed : (entries : List Stored) (now : Table) → now ≡ put_all table (put_all pending entries) → IsTable pending → Stands (after_accepted a (Store entries)) now 0 []
  all_handed entries now is sorted =
      let all = a.stores ++ entries ∷ [] in
      record {
        first = length all;
        counted = omega arith;
        flushed = let more = length-append a.stores (entries ∷ []) in let flushed = s.flushed in let within = first_within in omega (arith, more, flushed, within);
        holds = is ∙ puts_over table pending entries sorted ∙ ap (λ (t : Table). put_all t entries) all_stored ∙ sym (stored_more a.base a.stores entries) ∙ ap (stored a.base) (sym (take-length all));
        others = ap (stored []) (sym (drop_all (length all) all (omega arith)));
      }

  all_flushed : (now : Table) → now ≡ put_all table pending → Stands (after_accepted a Flush) now 0 []
  all_flushed now is = record {
    first = length a.stores;
    counted = omega arith;
    flushed = omega arith;
    holds = is ∙ all_stored ∙ ap (stored a.base) (sym (take-length a.stores));
    others = ap (stored []) (sym (drop_all (length a.stores) a.stores (omega arith)));
  }

  -- nothing is pending, so a flush finds all in the inner table
  flushed_alone : waiting ≡ 0 → Stands (after_accepted a Flush) table waiting pending
  flushed_alone none =
      let counted = s.counted in
      record {
        first = s.first;
        counted = counted;
        flushed = omega (arith, counted, none);
        holds = s.holds;
        others = s.others;
      }

  same_stands : (now : Table) (waits : ℕ) (left : Table) → now ≡ table → waits ≡ waiting → left ≡ pending → Stands a now waits left
  same_stands now waits left same still kept = record {
    first = s.first;
    counted = ap (λ n. s.first + n) still ∙ s.counted;
    flushed = s.flushed;
    holds = same ∙ s.holds;
    others = kept ∙ s.others;
  }

  holds_first : (period : ℕ) → waiting < period → HoldsFirst period a table
  holds_first period few =
      let counted = s.counted in
      record {
        first = s.first;
        within = first_within;
        flushed = s.flushed;
        few = omega (arith, counted, few);
        holds = s.holds;
      }

-- AFTER ONE CALL

module _ {D : Type 0} (keeping : Keeping D) (old new : Gathered D) where
  -- the inner keeper tells this table, and the keeper stands after these calls
  abbrev pub StandsAt : Accepted → Gathered D → Type 0
  StandsAt a w = (table : Table) × (keeping.table w.inner ≡ Some table) × Stands a table w.waiting w.pending

  becomes : (told after : Option Table) (table : Table) (change : Table → Table) → told ≡ Some table → Becomes told after change → after ≡ Some (change table)
  becomes told after table change is h = subst (λ (o : Option Table). Becomes o after change) is h

  stands_emptied : {b : Accepted} {t : Table} → Stands b t 0 [] → (new.waiting ≡ 0) × (new.pending ≡ []) → Stands b t new.waiting new.pending
  stands_emptied {b = b} {t = t} s h = same_stands b t 0 [] s t new.waiting new.pending refl h.0 h.1

  stands_kept : (a : Accepted) → StandsAt a old → Becomes (keeping.table old.inner) (keeping.table new.inner) (λ t. t) → (new.waiting ≡ old.waiting) × (new.pending ≡ old.pending) → StandsAt a new
  stands_kept a (table, is, s) same h = (table, becomes (keeping.table old.inner) (keeping.table new.inner) table (λ t. t) is same, same_stands a table old.waiting old.pending s table new.waiting new.pending refl h.0 h.1)

  stands_same : (a : Accepted) → StandsAt a old → new ≡ old → StandsAt a new
  stands_same a s same = subst (StandsAt a) (sym same) s

  after_handed : (a : Accepted) (entries : List Stored) → StandsAt a old → IsTable old.pending → HandsOn keeping old new entries (Ok tt) → StandsAt (after_accepted a (Store entries)) new
  after_handed a entries (table, is, s) sorted h =
      let now = put_all table (put_all old.pending entries) in
      (now, becomes (keeping.table old.inner) (keeping.table new.inner) table (λ t. put_all t (put_all old.pending entries)) is h.inner, stands_emptied (all_handed a table old.waiting old.pending s entries now refl sorted) h.ok)

  after_waited : (a : Accepted) (entries : List Stored) → StandsAt a old → Waits keeping old new entries (Ok tt) → StandsAt (after_accepted a (Store entries)) new
  after_waited a entries (table, is, s) h = subst (StandsAt (after_accepted a (Store entries))) (sym h.ok) (table, is, one_waits a table old.waiting old.pending s entries)

  after_flushed : (a : Accepted) → StandsAt a old → HandsOn keeping old new [] (Ok tt) → StandsAt (after_accepted a Flush) new
  after_flushed a (table, is, s) h =
      let now = put_all table old.pending in
      (now, becomes (keeping.table old.inner) (keeping.table new.inner) table (λ t. put_all t old.pending) is h.inner, stands_emptied (all_flushed a table old.waiting old.pending s now refl) h.ok)

  after_idle : (a : Accepted) → StandsAt a old → old.waiting ≡ 0 → new ≡ old → StandsAt (after_accepted a Flush) new
  after_idle a (table, is, s) none same = subst (StandsAt (after_accepted a Flush)) (sym same) (table, is, flushed_alone a table old.waiting old.pending s none)

  after_cleared : (a : Accepted) → StandsAt a old → ClearsBehind keeping old new (Ok tt) → StandsAt (after_accepted a Clear) new
  after_cleared a (table, is, s) h = ([], becomes (keeping.table old.inner) (keeping.table new.inner) table (λ t. []) is h.inner, stands_at_first [] new.waiting new.pending h.ok.0 h.ok.1)

  abbrev made : Result (Unit {0}) KeeperError
  made = Ok tt

  -- an accepted call
  after_ok : (a : Accepted) (call : StoreCall) → StandsAt a old → IsTable old.pending → Calls keeping old new call (Ok tt) → StandsAt (after_accepted a call) new
  after_ok a (Store entries) s sorted h = go (nat_lt (old.waiting + 1) old.period) h
    where
      go : (b : Bool) → MatchBool b (Waits keeping old new entries (Ok tt)) (HandsOn keeping old new entries (Ok tt)) → StandsAt (after_accepted a (Store entries)) new
      go true h = after_waited a entries s h
      go false h = after_handed a entries s sorted h
  after_ok a Flush s sorted h = go (nat_eq old.waiting 0) refl h
    where
      go : (b : Bool) → nat_eq old.waiting 0 ≡ b → MatchBool b ((new ≡ old) × (made ≡ made)) (HandsOn keeping old new [] (Ok tt)) → StandsAt (after_accepted a Flush) new
      go true is h = after_idle a s (grind (arith, nat_tests, is)) h.0
      go false is h = after_flushed a s h
  after_ok a Clear s sorted h = after_cleared a s h

  -- a call that was refused
  after_err : (a : Accepted) (call : StoreCall) (e : KeeperError) → StandsAt a old → Calls keeping old new call (Err e) → StandsAt a new
  after_err a (Store entries) e s h = go (nat_lt (old.waiting + 1) old.period) h
    where
      go : (b : Bool) → MatchBool b (Waits keeping old new entries (Err e)) (HandsOn keeping old new entries (Err e)) → StandsAt a new
      go true h = stands_same a s h.err.0
      go false h = stands_kept a s h.inner h.err
  after_err a Flush e s h = go (nat_eq old.waiting 0) h
    where
      go : (b : Bool) → MatchBool b ((new ≡ old) × (Err e ≡ made)) (HandsOn keeping old new [] (Err e)) → StandsAt a new
      go true h = stands_same a s h.0
      go false h = stands_kept a s h.inner h.err
  after_err a Clear e s h = stands_kept a s h.inner h.err

  -- the count of faults did not fall, and rose where the call failed
  pub call_caused : (call : StoreCall) (result : Result (Unit {0}) KeeperError) → Calls keeping old new call result → IsCaused (keeping.faults old.inner) (keeping.faults new.inner) result
  call_caused (Store entries) result h = store_caused keeping old new entries result h
  call_caused Flush result h = go (nat_eq old.waiting 0) h
    where
      go : (b : Bool) → MatchBool b ((new ≡ old) × (result ≡ Ok tt)) (HandsOn keeping old new [] result) → IsCaused (keeping.faults old.inner) (keeping.faults new.inner) result
      go true h =
          let same = ap (λ (w : Gathered D). keeping.faults w.inner) h.0 in
          subst (IsCaused (keeping.faults old.inner) (keeping.faults new.inner)) (sym h.1) (record { later = omega (arith, same); failed = tt })
      go false h = h.cause
  call_caused Clear result h = h.cause

  pub same_period : (call : StoreCall) (result : Result (Unit {0}) KeeperError) → Calls keeping old new call result → new.period ≡ old.period
  same_period (Store entries) result h = go (nat_lt (old.waiting + 1) old.period) result h
    where
      go : (b : Bool) (r : Result (Unit {0}) KeeperError) → MatchBool b (Waits keeping old new entries r) (HandsOn keeping old new entries r) → new.period ≡ old.period
      go true (Ok x) h = ap (λ (w : Gathered D). w.period) h.ok
      go true (Err e) h = ap (λ (w : Gathered D). w.period) h.err.0
      go false r h = h.period
  same_period Flush result h = go (nat_eq old.waiting 0) h
    where
      go : (b : Bool) → MatchBool b ((new ≡ old) × (result ≡ Ok tt)) (HandsOn keeping old new [] result) → new.period ≡ old.period
      go true h = ap (λ (w : Gathered D). w.period) h.0
      go false h = h.period
  same_period Clear result h = h.period

  pub after_one : (a : Accepted) (call : StoreCall) (given : Answered) → StandsAt a old → IsTable old.pending → Calls keeping old new call (outcome_of given) → StandsAt (after_call a call given) new
  after_one a call answer.Ok s sorted h = after_ok a call s sorted h
  after_one a call answer.Failed s sorted h = after_err a call error.Failed s h

  pub after_memory : (a : Accepted) (call : StoreCall) → StandsAt a old → Calls keeping old new call (Err error.Memory) → StandsAt a new
  after_memory a call s h = after_err a call error.Memory s h

-- AFTER MANY

after_one_more : (a : Accepted) (calls : List StoreCall) (answers : List Answered) (call : StoreCall) (given : Answered) → length answers ≡ length calls → after_calls a (calls ++ call ∷ []) (answers ++ given ∷ []) ≡ after_call (after_calls a calls answers) call given
after_one_more a [] [] call given same = refl
after_one_more a [] (x ∷ answers) call given same = absurd (omega (arith, same))
after_one_more a (c ∷ calls) [] call given same = absurd (omega (arith, same))
after_one_more a (c ∷ calls) (x ∷ answers) call given same = after_one_more (after_call a c x) calls answers call given (omega (arith, same))

-- one more that is no failure, and one that is
no_failure_more : (answers : List Answered) → count_by is_failed (answers ++ answer.Ok ∷ []) ≡ count_by is_failed answers
no_failure_more answers = let sum = sum_by-append (λ x. if is_failed x then 1 else 0) answers (answer.Ok ∷ []) in omega (arith, sum)

failure_more : (answers : List Answered) → count_by is_failed (answers ++ answer.Failed ∷ []) ≡ count_by is_failed answers + 1
failure_more answers = let sum = sum_by-append (λ x. if is_failed x then 1 else 0) answers (answer.Failed ∷ []) in omega (arith, sum)

failed_more : (answers : List Answered) (given : Answered) (before between now : ℕ) → RoseBy (count_by is_failed answers) before between → IsCaused between now (outcome_of given) → RoseBy (count_by is_failed (answers ++ given ∷ [])) before now
failed_more answers answer.Ok before between now rose caused =
    let later = caused.later in
    subst (λ n. RoseBy n before now) (sym (no_failure_more answers)) (omega (arith, rose, later))
failed_more answers answer.Failed before between now rose caused =
    let risen = caused.failed refl in
    subst (λ n. RoseBy n before now) (sym (failure_more answers)) (risen_more (count_by is_failed answers) before between now rose risen)
  where
    risen_more : (n before between now : ℕ) → RoseBy n before between → Rose between now → RoseBy (n + 1) before now
    risen_more n before between now rose risen = grind (arith, rose, risen)

-- where a keeper stands after these calls were answered so
pub record IsAfter {D : Type 0} (keeping : Keeping D) (old new : Gathered D) (calls : List StoreCall) (answers : List Answered) : Type 0 where
  pub period : new.period ≡ old.period
  pub sound : IsGathering new.period new.waiting new.pending
  pub count : length answers ≡ length calls
  pub failed : RoseBy (count_by is_failed answers) (keeping.faults old.inner) (keeping.faults new.inner)
  pub stands : (start : Table) → keeping.table old.inner ≡ Some start → StandsAt keeping new new (after_calls (nothing_since start) calls answers) new

-- whatever holds, after a refusal
pub after_err_result : {T E : Type 0} {X : Type 0} (result : Result T E) → X → OnErr result X
after_err_result (Ok value) x = tt
after_err_result (Err e) x = x

module _ {D : Type 0} (keeping : Keeping D) where
  pub nothing_made : (old : Gathered D) → old.waiting ≡ 0 → IsGathering old.period old.waiting old.pending → IsAfter keeping old old [] []
  nothing_made old none sound = record {
    period = refl;
    sound = sound;
    count = refl;
    failed = omega arith;
    stands = λ start is. (start, is, stands_at_first start old.waiting old.pending none (sound.none none));
  }

  pub one_more_made : (old between new : Gathered D) (calls : List StoreCall) (answers : List Answered) (call : StoreCall) (given : Answered) → IsAfter keeping old between calls answers → Calls keeping between new call (outcome_of given) → IsGathering new.period new.waiting new.pending
      → IsAfter keeping old new (calls ++ call ∷ []) (answers ++ given ∷ [])
  one_more_made old between new calls answers call given h does sound = record {
    period = same_period keeping between new call (outcome_of given) does ∙ h.period;
    sound = sound;
    count = let count = h.count in let a = length-append answers (given ∷ []) in let b = length-append calls (call ∷ []) in omega (arith, count, a, b);
    failed = failed_more answers given (keeping.faults old.inner) (keeping.faults between.inner) (keeping.faults new.inner) h.failed (call_caused keeping between new call (outcome_of given) does);
    stands = λ start is. subst (λ a. StandsAt keeping new new a new) (sym (after_one_more (nothing_since start) calls answers call given h.count)) (after_one keeping between new (after_calls (nothing_since start) calls answers) call given (h.stands start is) h.sound.table does);
  }

  none_more_made : (old between new : Gathered D) (calls : List StoreCall) (answers : List Answered) (call : StoreCall) → IsAfter keeping old between calls answers → Calls keeping between new call (Err error.Memory) → IsGathering new.period new.waiting new.pending → IsAfter keeping old new calls answers
  none_more_made old between new calls answers call h does sound = record {
    period = same_period keeping between new call (Err error.Memory) does ∙ h.period;
    sound = sound;
    count = h.count;
    failed = let rose = h.failed in let later = (call_caused keeping between new call (Err error.Memory) does).later in omega (arith, rose, later);
    stands = λ start is. after_memory keeping between new (after_calls (nothing_since start) calls answers) call (h.stands start is) does;
  }

  pub runs_to : (old new : Gathered D) (calls : List StoreCall) (answers : List Answered) → IsAfter keeping old new calls answers → RunsTo keeping old new calls answers
  runs_to old new calls answers h = record {
    count = h.count;
    failed = h.failed;
    holds = λ start is. go start (h.stands start is);
  }
    where
      go : (start : Table) → StandsAt keeping new new (after_calls (nothing_since start) calls answers) new → (now : Table) × (keeping.table new.inner ≡ Some now) × HoldsFirst old.period (after_calls (nothing_since start) calls answers) now
      go start (table, is, s) = (table, is, holds_first (after_calls (nothing_since start) calls answers) table new.waiting new.pending s old.period (let few = h.sound.waits in let period = h.period in omega (arith, few, period)))

  pub made_in_part : (old new : Gathered D) (calls : List StoreCall) (answers : List Answered) (made : ℕ) → IsAfter keeping old new (take made calls) answers → RunsInPart keeping old new calls
  made_in_part old new calls answers made h = record { made = made; answers = answers; runs = runs_to old new (take made calls) answers h }

  pub refused_in_part : (old between new : Gathered D) (calls : List StoreCall) (answers : List Answered) (made : ℕ) (call : StoreCall) → IsAfter keeping old between (take made calls) answers → Calls keeping between new call (Err error.Memory) → IsGathering new.period new.waiting new.pending → RunsInPart keeping old new calls
  refused_in_part old between new calls answers made call h does sound = made_in_part old new calls answers made (none_more_made old between new (take made calls) answers call h does sound)
