-- The texts of events, as the lines of a report tell them.
use Rattle.std.specs.Prelude.{ℕ, List, [], ◌∷◌, ◌++◌, codes, decimal, flat_map, Option, None, Some}
use Rattle.model_history.specs.Texts.{Text}
use Rattle.model_members.specs.Report.{words, slashed, link_text, line_of, reply_text}
use Rattle.model_kinds.specs.ShownText.{shown_text}
use Rattle.member_messages.specs.declared.sketch.MessageKind.{MessageKind}
use Rattle.member_messages.specs.declared.sketch.MessageKind.TheVariants.{Deltas, Nack, Status, Gossip, Write, WriteAck, WriteNack, Read, ReadAnswer}
use Rattle.member_messages.specs.declared.sketch.Sketch.{Sketch}
use Rattle.member_node.specs.Members.{meant}
use Rattle.report_replies.specs.Replies.{finished_text}
use Rattle.script_reading.specs.declared.ask.Ask.{Ask}
use Rattle.script_reading.specs.declared.ask.Ask.TheVariants as asked
use Rattle.world_members.specs.declared.client_line.ClientLine.{ClientLine}
use Rattle.world_members.specs.declared.client_line.Ended.{Ended}
use Rattle.world_members.specs.declared.client_line.Ended.TheVariants as ended
use Rattle.world_members.specs.declared.event.Answer.{Answer}
use Rattle.world_members.specs.declared.event.Answer.TheVariants as answer
use Rattle.world_members.specs.declared.event.Event.{Event}
use Rattle.world_members.specs.declared.event.Head.{Head}
use Rattle.world_members.specs.declared.event.Head.TheVariants as head
use Rattle.world_places.specs.declared.sent.SentTo.{SentTo}

abbrev pub kind_text : MessageKind → ℕ → ℕ → Text
kind_text Deltas first second = slashed (codes "deltas") (first ∷ second ∷ [])
kind_text Nack first second = slashed (codes "nack") (first ∷ [])
kind_text Status first second = slashed (codes "status") (first ∷ [])
kind_text Gossip first second = slashed (codes "gossip") (first ∷ second ∷ [])
kind_text Write first second = codes "write"
kind_text WriteAck first second = codes "write-ack"
kind_text WriteNack first second = codes "write-nack"
kind_text Read first second = codes "read"
kind_text ReadAnswer first second = codes "read-answer"

-- a message by its kind and its numbers
abbrev pub sketch_text : Sketch → Text
sketch_text sketch = kind_text sketch.kind sketch.first sketch.second

abbrev pub delivered_words : Option Sketch → List Text
delivered_words None = []
delivered_words (Some sketch) = sketch_text sketch ∷ []

-- what a member was asked
abbrev pub ask_words : ℕ → Ask → List Text
ask_words at (asked.Update key op level) = codes "update" ∷ decimal at ∷ key ∷ []
ask_words at (asked.Get key level) = codes "get" ∷ decimal at ∷ key ∷ []
ask_words at asked.Flush = codes "flush" ∷ decimal at ∷ []
ask_words at (asked.Gossip to) = codes "gossip" ∷ decimal at ∷ decimal to ∷ []
ask_words at asked.Tick = codes "tick" ∷ decimal at ∷ []
ask_words at (asked.Install view) = codes "install" ∷ decimal at ∷ codes "view" ∷ decimal view ∷ []

abbrev pub head_words : Head → List Text
head_words (head.Asked at ask) = ask_words at ask
head_words (head.Deliver from to index sketch) = codes "deliver" ∷ link_text from to index ∷ delivered_words sketch
head_words (head.Lose from to index) = codes "lose" ∷ link_text from to index ∷ []
head_words head.Round = codes "round" ∷ []
head_words (head.Timeout at op) = codes "timeout" ∷ decimal at ∷ decimal op ∷ []
head_words (head.Remove id) = codes "remove" ∷ decimal id ∷ []
head_words (head.Join place) = codes "join" ∷ decimal place ∷ []
head_words (head.Restart id) = codes "restart" ∷ decimal id ∷ []
head_words head.Settle = codes "settle" ∷ []

abbrev pub answer_text : Answer → Text
answer_text (answer.Reply reply) = reply_text shown_text (meant reply)
answer_text answer.Gone = codes "gone"
answer_text answer.HistoryFull = codes "history full"
answer_text answer.NoSuchView = codes "no such view"
answer_text answer.NoSuchMessage = codes "no such message"
answer_text answer.Lost = codes "lost"
answer_text answer.Nothing = codes "nothing"
answer_text (answer.View number) = codes "view " ++ decimal number
answer_text (answer.NewId id view) = words (codes "id" ∷ decimal id ∷ codes "view" ∷ decimal view ∷ [])
answer_text answer.LastMember = codes "last member"
answer_text answer.PlaceTaken = codes "place taken"
answer_text answer.TooManyIdentities = codes "too many identities"
answer_text answer.ClearFailed = codes "clear failed"
answer_text answer.LoadFailed = codes "load failed"
answer_text (answer.Damaged key) = codes "damaged " ++ key
answer_text (answer.Settled messages blocked) = words (codes "done messages" ∷ decimal messages ∷ codes "blocked" ∷ decimal blocked ∷ [])
answer_text answer.Stopped = codes "stopped"

-- a receiver and the message that it was sent, after a space
abbrev pub post_text : SentTo → Text
post_text sent = codes " " ++ decimal sent.to ++ codes ":" ++ sketch_text sent.sketch

-- what was sent, if anything was
abbrev pub sent_text : List SentTo → Text
sent_text [] = []
sent_text (sent ∷ more) = codes " sent" ++ flat_map post_text (sent ∷ more)

-- what was sent, and what ended
abbrev pub tails_text : Event → Text
tails_text event = sent_text event.sent ++ finished_text event.finished

-- the line of an event of a step
abbrev pub event_text : ℕ → Event → Text
event_text n event = line_of (decimal n ++ codes " " ++ words (head_words event.head) ++ codes " " ++ answer_text event.answer ++ tails_text event)

-- how the operation ended that a client's command opened, if it opened one
abbrev pub ending_text : Option Ended → Text
ending_text None = []
ending_text (Some (ended.Finished finished)) = finished_text (Some finished)
ending_text (Some (ended.TimedOut op)) = codes " finished " ++ decimal op ++ codes " timed out"
ending_text (Some (ended.LeftOpen op)) = codes " open " ++ decimal op

-- what a client's command sent, and how its operation ended
abbrev pub client_tails_text : ClientLine → Text
client_tails_text line = sent_text line.sent ++ ending_text line.ended

-- the line of a client's command in a step
abbrev pub client_line_text : ℕ → ClientLine → Text
client_line_text n line =
    line_of (decimal n ++ codes " client " ++ decimal line.client ++ codes " " ++ words (head_words line.head) ++ codes " " ++ answer_text line.answer ++ client_tails_text line)
