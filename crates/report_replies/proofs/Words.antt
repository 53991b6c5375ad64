-- Words behind spaces, and what is told by them.
use Rattle.std.proofs.Common.{◌≡◌, ◌<◌, List, [], ◌∷◌, ◌++◌, length, map, flat_map, Option, None, Some, refl, sym, ap, ◌∙◌, arith, append_assoc}
use Rattle.std.specs.Prelude.{codes, decimal, option_map}
use Rattle.std.proofs.lemmas.List.{append-nil}
use Rattle.model_history.specs.Texts.{Text}
use Rattle.model_members.specs.Report as report
use Rattle.model_members.specs.Report.{words, key_outcome_text}
use Rattle.model_kinds.specs.ShownText.{shown_text}
use Rattle.member_node.specs.declared.operation.Finished.{Finished}
use Rattle.member_node.specs.declared.outcome.KeyOutcome.{KeyOutcome}
use Rattle.member_node.specs.Operations.{result_meant, finished_meant}
use Rattle.member_node.specs.Replies.{meant_at_key}
use Rattle.report_replies.specs.Replies.{outcome_text, finished_text}

-- a word after a space
abbrev pub spaced : Text → Text
spaced word = 32 ∷ word

pub words_spaced : (w : Text) (ws : List Text) → words (w ∷ ws) ≡ w ++ flat_map spaced ws
words_spaced w [] = sym (append-nil w)
words_spaced w (v ∷ ws) = ap (λ t. w ++ (32 ∷ t)) (words_spaced v ws)

pub some_spaced : (ws : List Text) → 0 < length ws → 32 ∷ words ws ≡ flat_map spaced ws
some_spaced [] some = absurd (omega arith)
some_spaced (w ∷ ws) some = ap (λ t. 32 ∷ t) (words_spaced w ws)

outcomes_spaced : (outcomes : List KeyOutcome) → flat_map outcome_text outcomes ≡ flat_map spaced (map key_outcome_text (map meant_at_key outcomes))
outcomes_spaced [] = refl
outcomes_spaced (told ∷ outcomes) = ap (λ t. outcome_text told ++ t) (outcomes_spaced outcomes)

-- how a tick ended, and its outcomes
pub ticked_words : (end : Text) (outcomes : List KeyOutcome) → end ++ flat_map outcome_text outcomes ≡ words (end ∷ map key_outcome_text (map meant_at_key outcomes))
ticked_words end outcomes = ap (λ t. end ++ t) (outcomes_spaced outcomes) ∙ sym (words_spaced end (map key_outcome_text (map meant_at_key outcomes)))

-- an operation that ended is told by three words
pub finished_told : (finished : Option Finished) → finished_text finished ≡ flat_map spaced (report.ended_words shown_text (option_map finished_meant finished))
finished_told None = refl
finished_told (Some finished) =
    let op = decimal finished.op in
    let result = report.result_text shown_text (result_meant finished.result) in
    ap (λ t. codes " finished " ++ t) (append_assoc op (codes " ") result ∙ ap (λ t. op ++ (32 ∷ t)) (sym (append-nil result)))
