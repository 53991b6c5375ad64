-- Logs to which several records are added.
use Rattle.std.proofs.Common.{◌≡◌, ◌+◌, ◌-◌, List, [], ◌∷◌, ◌++◌, length, get_or, refl, sym, ap, ◌∙◌, subst, arith, Option, length-append, length-drop}
use Rattle.std.specs.Prelude.{All}
use Rattle.base_vectors.specs.Vectors.{Numbers}
use Rattle.data_deltalog.specs.declared.delta_log.NextRecord.{NextRecord}
use Rattle.data_deltalog.specs.Answers.{most_kept}
use Rattle.data_deltalog.specs.Contents.{LogParts, appended}
use Rattle.data_deltalog.specs.Words.{HasRoom, all_appended}

-- what holds of each holds of one in the middle
pub All-middle : {X : Type 0} (P : X → Type 0) (before rest all : List X) (x : X) → before ++ x ∷ rest ≡ all → All P all → P x
All-middle {X} P before rest all x is each = subst P (there before) (each (length before) x (let e = ap length is in let l = length-append before (x ∷ rest) in omega (arith, e, l)))
  where
    at : (xs : List X) → get_or (xs ++ x ∷ rest) (length xs) x ≡ x
    at [] = refl
    at (y ∷ ys) = at ys

    there : (xs : List X) → get_or all (length before) x ≡ x
    there xs = ap (λ l. get_or l (length before) x) (sym is) ∙ at before

module _ {Kind Delta : Type 0} where
  appended_some : (parts : LogParts Kind Delta) (before : Option Numbers) (delta : Option Delta) → length (appended parts before delta).records ≡ 0 → ⊥
  appended_some parts before delta none =
      let long = length-drop (length (parts.records ++ delta ∷ []) - most_kept) (parts.records ++ delta ∷ []) in
      let longer = length-append parts.records (delta ∷ []) in
      omega (arith, none, long, longer)

  pub room_later : (parts : LogParts Kind Delta) (records : List (NextRecord Delta)) (next : NextRecord Delta) → HasRoom parts next → HasRoom (all_appended parts records) next
  room_later parts [] next room = room
  room_later parts (r ∷ records) next room = room_later (appended parts r.before r.delta) records next (λ none. absurd (appended_some parts r.before r.delta none))

  pub last_later : (parts : LogParts Kind Delta) (records : List (NextRecord Delta)) → (all_appended parts records).last ≡ parts.last + length records
  last_later parts [] = omega arith
  last_later parts (r ∷ records) = last_later (appended parts r.before r.delta) records ∙ omega arith

  pub kind_later : (parts : LogParts Kind Delta) (records : List (NextRecord Delta)) → (all_appended parts records).kind ≡ parts.kind
  kind_later parts [] = refl
  kind_later parts (r ∷ records) = kind_later (appended parts r.before r.delta) records

  pub origin_later : (parts : LogParts Kind Delta) (records : List (NextRecord Delta)) → (all_appended parts records).origin ≡ parts.origin
  origin_later parts [] = refl
  origin_later parts (r ∷ records) = origin_later (appended parts r.before r.delta) records
