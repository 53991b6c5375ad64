-- The text of a script, step by step.
use Rattle.std.proofs.Common.{◌≡◌, ℕ, ◌+◌, List, [], ◌∷◌, ◌++◌, map, flat_map, true, false, refl, sym, ap, ◌∙◌, append_assoc, append-nil, arith}
use Rattle.std.specs.Fmt.{digits}
use Rattle.std.specs.List.{range_with_len}
use Rattle.std.proofs.lemmas.Grind.{flat_map-append}
use Rattle.std.proofs.lemmas.List.FromFn.{map-range_with_len_more}
use Rattle.json.specs.Print.{escape_byte}
use Rattle.serde_json.specs.View.{items_of}
use Rattle.serde_json.specs.Written.{compact_text, items_text}
use Rattle.script_reading.specs.declared.clients.RunStep.{RunStep}
use Rattle.script_reading.specs.declared.clients.RunStep.TheVariants.{Plain}
use Rattle.script_reading.specs.declared.script.Step.TheVariants.{Remove, Settle}
use Rattle.script_generated.specs.declared.text.TheConstants.{HEAD, TAIL}
use Rattle.script_generated.specs.Generated.{generated_step}
use Rattle.script_generated.specs.Texts.{step_data, generated_text}

-- a step before others
abbrev pub piece : RunStep → List ℕ
piece step = compact_text (step_data step) ++ 44 ∷ []

-- the steps of these numbers, from 1 on
abbrev pub pieces : ℕ → List ℕ
pieces n = flat_map piece (map generated_step (range_with_len 1 n))

regroup : (old step all : List ℕ) → (old ++ all) ++ (step ++ 44 ∷ []) ≡ old ++ (all ++ ((step ++ 44 ∷ []) ++ []))
regroup old step all = rw append-nil (append_assoc old all (step ++ 44 ∷ []))

pub one_more : (n : ℕ) (start old : List ℕ) → old ≡ start ++ pieces n → (old ++ compact_text (step_data (generated_step (n + 1)))) ++ 44 ∷ [] ≡ start ++ pieces (n + 1)
one_more n start old e =
    let steps = map generated_step (range_with_len 1 n) in
    let next = generated_step (n + 1) in
    let more : map generated_step (range_with_len 1 (n + 1)) ≡ steps ++ next ∷ [] = map-range_with_len_more generated_step 1 n (n + 1) (omega arith) in
    append_assoc old (compact_text (step_data next)) (44 ∷ []) ∙ ap (λ t. t ++ piece next) e ∙ regroup start (compact_text (step_data next)) (flat_map piece steps)
    ∙ ap (λ t. start ++ t) (sym (ap (flat_map piece) more ∙ flat_map-append piece steps (next ∷ [])))

-- ---- the whole text

abbrev last_steps : List RunStep
last_steps = Plain (Remove 4) ∷ Plain Settle ∷ []

comma_before : (steps : List RunStep) → items_text true (items_of (map step_data (steps ++ last_steps))) ≡ 44 ∷ items_text false (items_of (map step_data (steps ++ last_steps)))
comma_before [] = refl
comma_before (s ∷ ss) = refl

comma_after : (step all last : List ℕ) → step ++ 44 ∷ (all ++ last) ≡ ((step ++ 44 ∷ []) ++ all) ++ last
comma_after step all last = simp append_assoc

before_last : (steps : List RunStep) → items_text false (items_of (map step_data (steps ++ last_steps))) ≡ flat_map piece steps ++ items_text false (items_of (map step_data last_steps))
before_last [] = refl
before_last (s ∷ ss) =
    ap (λ t. compact_text (step_data s) ++ t) (comma_before ss ∙ ap (λ t. 44 ∷ t) (before_last ss))
    ∙ comma_after (compact_text (step_data s)) (flat_map piece ss) (items_text false (items_of (map step_data last_steps)))

closed : (start all last : List ℕ) → (start ++ all) ++ ((last ++ 125 ∷ []) ++ 10 ∷ []) ≡ start ++ (((all ++ last) ++ 125 ∷ []) ++ 10 ∷ [])
closed start all last = simp append_assoc

pub joined : (n : ℕ) → (HEAD.now ++ pieces n) ++ TAIL.now ≡ generated_text n
unfolding generated_text escape_byte digits
joined n =
    closed HEAD.now (pieces n) (items_text false (items_of (map step_data last_steps)))
    ∙ ap (λ t. HEAD.now ++ ((t ++ 125 ∷ []) ++ 10 ∷ [])) (sym (before_last (map generated_step (range_with_len 1 n))))
