-- The answers that keepers are to give, from those that they gave.
use Rattle.std.proofs.Common.{◌≡◌, ℕ, zero, suc, ◌+◌, ◌-◌, ◌<◌, List, [], ◌∷◌, ◌++◌, length, get_or, map, Bool, true, refl, ap, ap₂, ◌∙◌, arith}
use Rattle.std.specs.List.{range_with_len}
use Rattle.std.proofs.lemmas.List.{get_or_append_left, get_or-append-add}
use Rattle.model_members.specs.Script.{KeeperAnswers, answers_between}
use Rattle.world_places.specs.Keeping.{Given}
use Rattle.report_lines.specs.Kept.{answers_by}

from_list : (f : ℕ → Bool) (xs : List Bool) (c : ℕ) → ((k : ℕ) → k < length xs → f (c + k) ≡ get_or xs k true) → map f (range_with_len c (length xs)) ≡ xs
from_list f [] c h = refl
from_list f (x ∷ xs) c h =
    let here : c ≡ c + 0 = omega arith in
    ap₂ (λ (y : Bool) ys. y ∷ ys) (ap f here ∙ h zero (omega arith))
    (from_list f xs (c + 1) (λ k less. let on : c + 1 + k ≡ c + suc k = omega arith in ap f on ∙ h (suc k) (omega (arith, less))))

-- the answers from a call on
pub foretold : (answers : KeeperAnswers) (place c : ℕ) (xs : List Bool) → ((k : ℕ) → k < length xs → answers place (c + k) ≡ get_or xs k true) → answers_between answers place c (c + length xs) ≡ xs
foretold answers place c xs h = let count : c + length xs - c ≡ length xs = omega arith in ap (λ n. map (answers place) (range_with_len c n)) count ∙ from_list (answers place) xs c h

-- answers in the middle of those of the whole run
pub foretold_between : (given : Given) (place : ℕ) (before xs after : List Bool) → given place ≡ before ++ (xs ++ after) → answers_between (answers_by given) place (length before) (length before + length xs) ≡ xs
foretold_between given place before xs after is =
    foretold (answers_by given) place (length before) xs (λ k less. ap (λ l. get_or l (length before + k) true) is ∙ get_or-append-add before (xs ++ after) k true ∙ get_or_append_left xs after true k less)
