-- What a keeper's own clauses say of a table that it tells and of its calls, in the words of the trait.
use Rattle.std.proofs.Common.{◌≡◌, false, true, not, ◌∷◌, [], ◌++◌, ap, sym, subst, ◌∙◌, add-one}
use Rattle.std.specs.Prelude.{Result, Ok, Err, None, Some, Bool, List, Option, OnOk, OnErr, IfOk}
use Rattle.member_keeper.specs.declared.keeper.KeeperError.{KeeperError}
use Rattle.member_keeper.specs.declared.keeper.KeeperError.TheVariants.{Failed, Memory}
use Rattle.member_keeper.specs.Tables.{Table, IsTable}
use Rattle.member_keeper.specs.Calls.{Changes, Joins, Gives}
use Rattle.member_keeper.specs.InMemory.{Counted, Counts, answers_of, first_answers, is_named, with_call}

-- a call more adds its answer
answers_more : (counted : Counted) (named : Bool) → is_named counted.failing counted.calls ≡ named → answers_of (with_call counted) ≡ answers_of counted ++ not named ∷ []
answers_more counted named is =
    ap (first_answers counted.failing) (add-one counted.calls) ∙ ap (λ b. first_answers counted.failing counted.calls ++ not b ∷ []) is

pub joins_of_counts : {T : Type 0} (old new : Counted) (result : Result T KeeperError) → Counts old new result → Joins (Some (answers_of old)) (Some (answers_of new)) result
joins_of_counts old new (Ok value) h = ap (λ c. Some (answers_of c)) h.0 ∙ ap Some (answers_more old false h.1)
joins_of_counts old new (Err Failed) h = ap (λ c. Some (answers_of c)) h.0 ∙ ap Some (answers_more old true h.1)
joins_of_counts old new (Err Memory) h = ap (λ c. Some (answers_of c)) h

-- of answers that are not told nothing is said
pub joins_untold : {T : Type 0} (new : Option (List Bool)) (result : Result T KeeperError) → Joins None new result
joins_untold new (Ok value) = tt
joins_untold new (Err Failed) = tt
joins_untold new (Err Memory) = tt

pub changes_of : {T : Type 0} (old new : Table) (change : Table → Table) (result : Result T KeeperError) → OnOk result (new ≡ change old) → OnErr result (new ≡ old) → Changes (Some old) (Some new) change result
changes_of old new change (Ok value) ok err = ap Some ok
changes_of old new change (Err error) ok err = ap Some err

pub gives_of : {T : Type 0} (table : Table) (items : T → Table) (result : Result T KeeperError) → IfOk result (λ loaded. items loaded ≡ table) → IsTable table → IfOk result (λ loaded. Gives (Some table) (items loaded))
gives_of table items (Ok loaded) same in_order = (same, subst IsTable (sym same) in_order)
gives_of table items (Err error) same in_order = tt
