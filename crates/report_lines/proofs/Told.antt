-- Events are told as the model's lines.
use Rattle.std.proofs.Common.{◌≡◌, ℕ, ◌<◌, List, [], ◌∷◌, ◌++◌, length, map, flat_map, Option, None, Some, refl, sym, ap, ap₂, ◌∙◌, arith, append_assoc}
use Rattle.std.specs.Prelude.{codes, decimal, option_map}
use Rattle.std.specs.List.{AllZip}
use Rattle.std.proofs.lemmas.Grind.{flat_map-append}
use Rattle.model_history.specs.Texts.{Text}
use Rattle.model_members.specs.DataType.{Replication}
use Rattle.model_members.specs.Message as model
use Rattle.model_members.specs.Node as nodes
use Rattle.model_members.specs.Script as script
use Rattle.model_members.specs.Script.{Told}
use Rattle.model_members.specs.Report as report
use Rattle.model_members.specs.Report.{words, line_of, message_text, post_words, told_text, link_text}
use Rattle.model_kinds.specs.ShownText.{shown_text}
use Rattle.model_kinds.specs.declared.operation.Op.{Op}
use Rattle.model_kinds.specs.declared.shown.Shown.{Shown}
use Rattle.report_replies.specs.Replies.{finished_text}
use Rattle.report_replies.proofs.Words.{spaced, words_spaced, some_spaced, finished_told}
use Rattle.script_reading.specs.declared.ask.Ask.{Ask}
use Rattle.script_reading.specs.declared.ask.Ask.TheVariants as asked
use Rattle.script_reading.specs.Meant.{ask_of}
use Rattle.world_members.specs.Lines.{IsHead, IsAnswer, IsLine}
use Rattle.world_places.specs.Sketched.{sketched, sketched_post}
use Rattle.world_members.specs.declared.event.Answer.{Answer}
use Rattle.world_members.specs.declared.event.Answer.TheVariants as answer
use Rattle.world_members.specs.declared.event.Event.{Event}
use Rattle.world_members.specs.declared.event.Head.{Head}
use Rattle.world_members.specs.declared.event.Head.TheVariants as head
use Rattle.report_lines.specs.Lines.{sketch_text, delivered_words, ask_words, head_words, answer_text, post_text, sent_text, tails_text, event_text}

-- WORDS

regroup : (a b c d : Text) (x y : ℕ) → a ++ (x ∷ []) ++ b ++ (y ∷ []) ++ c ++ d ≡ a ++ ((x ∷ b) ++ ((y ∷ c) ++ d))
regroup a b c d x y = simp append_assoc

pub answer_told : (a : Answer) (told : script.Answer Shown) → IsAnswer a told → answer_text a ≡ report.answer_text shown_text told
answer_told (answer.Reply reply) told is = sym (ap (report.answer_text shown_text) is)
answer_told answer.Gone told is = sym (ap (report.answer_text shown_text) is)
answer_told answer.HistoryFull told is = sym (ap (report.answer_text shown_text) is)
answer_told answer.NoSuchView told is = sym (ap (report.answer_text shown_text) is)
answer_told answer.NoSuchMessage told is = sym (ap (report.answer_text shown_text) is)
answer_told answer.Lost told is = sym (ap (report.answer_text shown_text) is)
answer_told answer.Nothing told is = sym (ap (report.answer_text shown_text) is)
answer_told (answer.View number) told is = sym (ap (report.answer_text shown_text) is)
answer_told (answer.NewId id view) told is = sym (ap (report.answer_text shown_text) is)
answer_told answer.LastMember told is = sym (ap (report.answer_text shown_text) is)
answer_told answer.PlaceTaken told is = sym (ap (report.answer_text shown_text) is)
answer_told answer.TooManyIdentities told is = sym (ap (report.answer_text shown_text) is)
answer_told answer.ClearFailed told is = sym (ap (report.answer_text shown_text) is)
answer_told answer.LoadFailed told is = sym (ap (report.answer_text shown_text) is)
answer_told (answer.Damaged key) told is = absurd is
answer_told (answer.Settled messages blocked) told is = sym (ap (report.answer_text shown_text) is)
answer_told answer.Stopped told is = sym (ap (report.answer_text shown_text) is)

sketch_told : (message : model.Message Op) → sketch_text (sketched message) ≡ message_text message
sketch_told (model.Message.Deltas groups entries) = refl
sketch_told (model.Message.Nack keys) = refl
sketch_told (model.Message.Status digests) = refl
sketch_told (model.Message.Gossip entries wants) = refl
sketch_told (model.Message.Write op key entry) = refl
sketch_told (model.Message.WriteAck op) = refl
sketch_told (model.Message.WriteNack op) = refl
sketch_told (model.Message.Read op key) = refl
sketch_told (model.Message.ReadAnswer op key entry) = refl

delivered_told : (message : Option (model.Message Op)) → delivered_words (option_map sketched message) ≡ report.delivered_words message
delivered_told None = refl
delivered_told (Some message) = ap (λ t. t ∷ []) (sketch_told message)

asked_told : (at : ℕ) (ask : Ask) → ask_words at ask ≡ report.head_words (script.Head.Asked at (ask_of ask))
asked_told at (asked.Update key op level) = refl
asked_told at (asked.Get key level) = refl
asked_told at asked.Flush = refl
asked_told at (asked.Gossip to) = refl
asked_told at asked.Tick = refl
asked_told at (asked.Install view) = refl

pub head_told : (h : Head) (told : script.Head Op) → IsHead h told → head_words h ≡ report.head_words told
head_told (head.Asked at ask) told is = asked_told at ask ∙ sym (ap report.head_words is)
head_told (head.Deliver from to index sketch) told is =
    ap (λ ws. codes "deliver" ∷ link_text from to index ∷ ws) (ap delivered_words is.2 ∙ delivered_told is.0) ∙ sym (ap report.head_words is.1)
head_told (head.Lose from to index) told is = sym (ap report.head_words is)
head_told head.Round told is = sym (ap report.head_words is)
head_told (head.Timeout at op) told is = sym (ap report.head_words is)
head_told (head.Remove id) told is = sym (ap report.head_words is)
head_told (head.Join place) told is = sym (ap report.head_words is)
head_told (head.Restart id) told is = sym (ap report.head_words is)
head_told head.Settle told is = sym (ap report.head_words is)

post_told : (post : model.Post Op) → post_text (sketched_post post) ≡ spaced (report.post_text post)
post_told post = ap (λ t. 32 ∷ (decimal post.to ++ codes ":" ++ t)) (sketch_told post.message)

posts_told : (posts : List (model.Post Op)) → flat_map post_text (map sketched_post posts) ≡ flat_map spaced (map report.post_text posts)
posts_told [] = refl
posts_told (post ∷ posts) = ap₂ (λ (a b : Text). a ++ b) (post_told post) (posts_told posts)

pub sent_told : (posts : List (model.Post Op)) → sent_text (map sketched_post posts) ≡ flat_map spaced (post_words posts)
sent_told [] = refl
sent_told (post ∷ posts) = ap (λ t. codes " sent" ++ t) (posts_told (post ∷ posts))

some_head : (h : script.Head Op) → 0 < length (report.head_words h)
some_head (script.Head.Asked i (script.Ask.Update key op level)) = omega arith
some_head (script.Head.Asked i (script.Ask.Get key level)) = omega arith
some_head (script.Head.Asked i script.Ask.Flush) = omega arith
some_head (script.Head.Asked i (script.Ask.Gossip to)) = omega arith
some_head (script.Head.Asked i script.Ask.Tick) = omega arith
some_head (script.Head.Asked i (script.Ask.Install view)) = omega arith
some_head (script.Head.DeliverHead from to index message) = omega arith
some_head script.Head.RoundHead = omega arith
some_head (script.Head.LoseHead from to index) = omega arith
some_head (script.Head.TimeoutHead i op) = omega arith
some_head (script.Head.RemoveHead i) = omega arith
some_head (script.Head.JoinHead place) = omega arith
some_head (script.Head.RestartHead i) = omega arith
some_head script.Head.SettleHead = omega arith

pub head_spaced : (h : script.Head Op) → 32 ∷ words (report.head_words h) ≡ flat_map spaced (report.head_words h)
head_spaced h = some_spaced (report.head_words h) (some_head h)

-- a line of words
line_told : (n : Text) (head : script.Head Op) (answer : Text) (more : List Text) → words ((n ∷ report.head_words head) ++ answer ∷ more) ≡ n ++ ((32 ∷ words (report.head_words head)) ++ (spaced answer ++ flat_map spaced more))
line_told n head answer more =
    words_spaced n (report.head_words head ++ answer ∷ more)
    ∙ ap (λ t. n ++ t) (flat_map-append spaced (report.head_words head) (answer ∷ more) ∙ ap (λ t. t ++ (spaced answer ++ flat_map spaced more)) (sym (head_spaced head)))

tails_told : (event : Event) (told : Told Op Shown) → IsLine event told → tails_text event ≡ flat_map spaced (post_words told.posts ++ report.ended_words shown_text told.ended)
tails_told event told is =
    let sent : sent_text event.sent ≡ flat_map spaced (post_words told.posts) = ap sent_text is.sent ∙ sent_told told.posts in
    let finished : finished_text event.finished ≡ flat_map spaced (report.ended_words shown_text told.ended) =
    finished_told event.finished ∙ ap (λ (ended : Option (nodes.Finished Shown)). flat_map spaced (report.ended_words shown_text ended)) (sym is.ended) in
    ap₂ (λ (a b : Text). a ++ b) sent finished ∙ sym (flat_map-append spaced (post_words told.posts) (report.ended_words shown_text told.ended))

pub event_told : {Kind : Type 0} (D : Replication Kind Op Shown) (n : ℕ) (event : Event) (told : Told Op Shown) → IsLine event told → event_text n event ≡ told_text D shown_text n told
event_told D n event told is =
    let number = decimal n in
    let answer = report.answer_text shown_text told.answer in
    let posts = post_words told.posts in
    let ended = report.ended_words shown_text told.ended in
    ap line_of (
    ap₂ (λ (h : List Text) (a : Text). number ++ codes " " ++ words h ++ codes " " ++ a ++ tails_text event) (head_told event.head told.head is.head) (answer_told event.answer told.answer is.answer)
    ∙ regroup number (words (report.head_words told.head)) answer (tails_text event) 32 32
    ∙ ap (λ t. number ++ ((32 ∷ words (report.head_words told.head)) ++ (spaced answer ++ t))) (tails_told event told is)
    ∙ sym (line_told number told.head answer (posts ++ ended))
    ∙ ap words (sym (append_assoc (number ∷ report.head_words told.head) (answer ∷ posts) ended)))

pub lines_told : {Kind : Type 0} (D : Replication Kind Op Shown) (n : ℕ) (events : List Event) (told : List (Told Op Shown)) → AllZip IsLine events told → flat_map (event_text n) events ≡ flat_map (told_text D shown_text n) told
lines_told D n [] [] all = refl
lines_told D n [] (t ∷ ts) all = absurd all
lines_told D n (e ∷ es) [] all = absurd all
lines_told D n (e ∷ es) (t ∷ ts) all = ap₂ (λ (a b : Text). a ++ b) (event_told D n e t all.0) (lines_told D n es ts all.1)
