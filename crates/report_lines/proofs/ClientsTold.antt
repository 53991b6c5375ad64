-- Lines of clients are told as those of a section.
use Rattle.std.proofs.Common.{◌≡◌, ℕ, List, [], ◌∷◌, ◌++◌, map, flat_map, Option, None, Some, refl, sym, ap, ap₂, ◌∙◌, append_assoc}
use Rattle.std.specs.Prelude.{codes, decimal, option_map}
use Rattle.std.specs.List.{AllZip}
use Rattle.std.proofs.lemmas.List.{append-nil}
use Rattle.std.proofs.lemmas.Grind.{flat_map-append}
use Rattle.model_history.specs.Texts.{Text}
use Rattle.model_members.specs.DataType.{Replication}
use Rattle.model_members.specs.Script as script
use Rattle.model_members.specs.Script.{Told}
use Rattle.model_members.specs.Report as report
use Rattle.model_members.specs.Report.{words, line_of, post_words}
use Rattle.model_kinds.specs.ShownText.{shown_text}
use Rattle.model_kinds.specs.declared.operation.Op.{Op}
use Rattle.model_kinds.specs.declared.shown.Shown.{Shown}
use Rattle.theorem_sections.specs.Sections.{Ending, Line}
use Rattle.theorem_sections.specs.Runs.{client_words, ending_words, plain_line, line_text}
use Rattle.theorem_sections.proofs.PlainScripts.{same_text}
use Rattle.world_members.specs.ClientLines.{ending_meant, IsClientLine}
use Rattle.world_members.specs.Lines.{IsLine}
use Rattle.world_members.specs.declared.client_line.ClientLine.{ClientLine}
use Rattle.world_members.specs.declared.client_line.Ended.{Ended}
use Rattle.world_members.specs.declared.client_line.Ended.TheVariants as ended
use Rattle.world_members.specs.declared.event.Event.{Event}
use Rattle.report_lines.specs.Lines.{sent_text, event_text, ending_text, client_tails_text, client_line_text}
use Rattle.report_replies.proofs.Words.{spaced, words_spaced, finished_told}
use Rattle.report_lines.proofs.Told.{answer_told, head_told, head_spaced, sent_told, lines_told}

ending_told : (e : Option Ended) → ending_text e ≡ flat_map spaced (ending_words shown_text (option_map ending_meant e))
ending_told None = refl
ending_told (Some (ended.Finished finished)) = finished_told (Some finished)
ending_told (Some (ended.TimedOut op)) = ap (λ t. codes " finished " ++ t) (ap (λ t. decimal op ++ t) refl)
ending_told (Some (ended.LeftOpen op)) = ap (λ t. codes " open " ++ t) (sym (append-nil (decimal op)))

regroup : (a s b h c d : Text) (x y : ℕ) → a ++ s ++ b ++ (x ∷ []) ++ h ++ (y ∷ []) ++ c ++ d ≡ a ++ (s ++ (b ++ ((x ∷ h) ++ ((y ∷ c) ++ d))))
regroup a s b h c d x y = simp append_assoc

-- a line of a client, in words
words_told : (n c : Text) (head : script.Head Op) (answer : Text) (more : List Text)
    → words ((n ∷ codes "client" ∷ c ∷ report.head_words head) ++ answer ∷ more) ≡ n ++ (codes " client " ++ (c ++ ((32 ∷ words (report.head_words head)) ++ (spaced answer ++ flat_map spaced more))))
words_told n c head answer more =
    words_spaced n (codes "client" ∷ c ∷ report.head_words head ++ answer ∷ more)
    ∙ ap (λ t. n ++ (codes " client " ++ (c ++ t)))
    (flat_map-append spaced (report.head_words head) (answer ∷ more) ∙ ap (λ t. t ++ (spaced answer ++ flat_map spaced more)) (sym (head_spaced head)))

tails_told : (line : ClientLine) (told : Line Op Shown) → IsClientLine line told → client_tails_text line ≡ flat_map spaced (post_words told.posts ++ ending_words shown_text told.ended)
tails_told line told is =
    let sent : sent_text line.sent ≡ flat_map spaced (post_words told.posts) = ap sent_text is.sent ∙ sent_told told.posts in
    let end : ending_text line.ended ≡ flat_map spaced (ending_words shown_text told.ended) =
    ending_told line.ended ∙ ap (λ (e : Option (Ending Shown)). flat_map spaced (ending_words shown_text e)) (sym is.ended) in
    ap₂ (λ (a b : Text). a ++ b) sent end ∙ sym (flat_map-append spaced (post_words told.posts) (ending_words shown_text told.ended))

client_told : (n : ℕ) (line : ClientLine) (told : Line Op Shown) → IsClientLine line told → client_line_text n line ≡ line_text shown_text n told
client_told n line told is =
    let number = decimal n in
    let c = decimal line.client in
    let head = report.head_words told.head in
    let answer = report.answer_text shown_text told.answer in
    let posts = post_words told.posts in
    let end = ending_words shown_text told.ended in
    ap line_of (
    ap₂ (λ (h : List Text) (a : Text). number ++ codes " client " ++ c ++ codes " " ++ words h ++ codes " " ++ a ++ client_tails_text line) (head_told line.head told.head is.head) (answer_told line.answer told.answer is.answer)
    ∙ regroup number (codes " client ") c (words head) answer (client_tails_text line) 32 32
    ∙ ap (λ t. number ++ (codes " client " ++ (c ++ ((32 ∷ words head) ++ (spaced answer ++ t))))) (tails_told line told is)
    ∙ sym (words_told number c told.head answer (posts ++ end))
    ∙ ap words (sym (append_assoc (number ∷ codes "client" ∷ c ∷ head) (answer ∷ posts) end))
    ∙ ap (λ client. words (((number ∷ client_words client) ++ head) ++ answer ∷ posts ++ end)) (sym is.client))

pub clients_told : (n : ℕ) (lines : List ClientLine) (told : List (Line Op Shown)) → AllZip IsClientLine lines told → flat_map (client_line_text n) lines ≡ flat_map (line_text shown_text n) told
clients_told n [] [] all = refl
clients_told n [] (t ∷ ts) all = absurd all
clients_told n (l ∷ ls) [] all = absurd all
clients_told n (l ∷ ls) (t ∷ ts) all = ap₂ (λ (a b : List ℕ). a ++ b) (client_told n l t all.0) (clients_told n ls ts all.1)

-- and those of plain steps
pub plain_told : {Kind : Type 0} (D : Replication Kind Op Shown) (n : ℕ) (events : List Event) (told : List (Told Op Shown)) → AllZip IsLine events told → flat_map (event_text n) events ≡ flat_map (line_text shown_text n) (map plain_line told)
plain_told D n events told all =
    lines_told D n events told all
    ∙ sym (append-nil (flat_map (report.told_text D shown_text n) told)) ∙ sym (same_text D shown_text n (told ∷ [])) ∙ append-nil (flat_map (line_text shown_text n) (map plain_line told))
