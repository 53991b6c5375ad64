-- The lines of requests to follow a key, and of notices.
use Rattle.std.specs.Prelude.{ℕ, [], ◌∷◌, codes, decimal}
use Rattle.model_history.specs.Texts.{Text}
use Rattle.model_members.specs.Report.{words, line_of}
use Rattle.model_kinds.specs.ShownText.{shown_text}
use Rattle.member_desk.specs.declared.notice.Notice.{Notice}
use Rattle.theorem_watching.specs.Watching.{followship_text}
use Rattle.theorem_watching.specs.declared.followship.Followship.{Followship}

abbrev pub subscribe_text : (n at client : ℕ) → Text → Followship → Text
subscribe_text n at client key answer = line_of (words (decimal n ∷ codes "subscribe" ∷ decimal at ∷ decimal client ∷ key ∷ followship_text answer ∷ []))

abbrev pub unsubscribe_text : (n at client : ℕ) → Text → Followship → Text
unsubscribe_text n at client key answer = line_of (words (decimal n ∷ codes "unsubscribe" ∷ decimal at ∷ decimal client ∷ key ∷ followship_text answer ∷ []))

abbrev pub notice_text : (n at : ℕ) → Notice → Text
notice_text n at notice = line_of (words (decimal n ∷ codes "notice" ∷ decimal at ∷ decimal notice.client ∷ notice.key ∷ shown_text notice.shown ∷ []))
