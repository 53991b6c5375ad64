-- The text of a report. `value_text` writes a shown value.
use Rattle.std.specs.Prelude.{ℕ, suc, List, [], ◌∷◌, ◌++◌, length, map, filter, filter_map, not, ◌==◌, if◌then◌else◌, Option, None, Some, codes, decimal, flat_map, option_map, unwrap_or}
use Rattle.std.specs.List.{join_with_byte}
use Rattle.model_history.specs.Table.{identities}
use Rattle.model_history.specs.Texts.{Text}
use Rattle.model_history.specs.Vector.{VersionVector, members_of}
use Rattle.model_members.specs.View.{Member}
use Rattle.model_history.specs.History.{Stamped, versions, prune_of}
use Rattle.model_members.specs.Entry.{Entry, Mark, Outcome, has_records}
use Rattle.model_members.specs.Entry.Outcome.{Marked, Performed, WaitingFor, Blocked, Newer}
use Rattle.model_meanings.specs.Refusal.{Refusal}
use Rattle.model_members.specs.DataType.{Replication}
use Rattle.model_meanings.specs.Refusal.Refusal.{Overflow, ClockSpent, SetFull}
use Rattle.model_members.specs.Message.{Message, Post}
use Rattle.model_members.specs.Message.Message.{Deltas, Nack, Status, Gossip, Write, WriteAck, WriteNack, Read, ReadAnswer}
use Rattle.model_members.specs.Node.{KeyDecl, KeyState, Node, key_states, Result, Finished, KeyOutcome, Reply}
use Rattle.model_members.specs.Node.Result.{Wrote, ReadValue, ReadDeleted, ReadNothing}
use Rattle.model_members.specs.Node.Reply.{Done, Pending, Value, Deleted, NotFound, UnknownKey, WrongKind, TooFew, Refused, NotStored, Taken, Already, Gap, NotFromMember, Installed, OldView, NotAPeer, Ticked, TickedNotStored, NotLeader, TimedOut, NoSuchOp}
use Rattle.model_members.specs.World.{World}
use Rattle.model_members.specs.Script.{Told, Head, Answer, ScriptStep, KeeperAnswers, opening, played_all, lines_of, Ask as ask}
use Rattle.model_members.specs.Script.Head.{Asked, DeliverHead, RoundHead, LoseHead, TimeoutHead, RemoveHead, JoinHead, RestartHead, SettleHead}
use Rattle.model_members.specs.Script.Answer.{Replied, Gone, HistoryFull, NoSuchView, NoSuchMessage, Lost, Nothing, LastMember, PlaceTaken, TooManyIdentities, ClearFailed, LoadFailed, Stopped, NewView, NewIdentity, Settled}

-- words with a space between each two
abbrev pub words : List Text → Text
words = join_with_byte 32

-- words, or a dash where there are none
abbrev pub words_or_dash : List Text → Text
words_or_dash [] = codes "-"
words_or_dash (w ∷ ws) = words (w ∷ ws)

abbrev pub slashed : Text → List ℕ → Text
slashed name numbers = join_with_byte 47 (name ∷ map decimal numbers)

abbrev pub message_text : {Op : Type 0} → Message Op → Text
message_text (Deltas groups entries) = slashed (codes "deltas") (length groups ∷ length entries ∷ [])
message_text (Nack keys) = slashed (codes "nack") (length keys ∷ [])
message_text (Status digests) = slashed (codes "status") (length digests ∷ [])
message_text (Gossip entries wants) = slashed (codes "gossip") (length entries ∷ length wants ∷ [])
message_text (Write op key entry) = codes "write"
message_text (WriteAck op) = codes "write-ack"
message_text (WriteNack op) = codes "write-nack"
message_text (Read op key) = codes "read"
message_text (ReadAnswer op key entry) = codes "read-answer"

abbrev pub outcome_text : Outcome → Text
outcome_text Marked = codes "marked"
outcome_text Performed = codes "performed"
outcome_text (WaitingFor i) = codes "waiting-" ++ decimal i
outcome_text (Blocked shares) = codes "blocked-" ++ decimal shares.owner ++ codes "-" ++ decimal shares.removed
outcome_text Newer = codes "newer"

abbrev pub key_outcome_text : KeyOutcome → Text
key_outcome_text o = o.key ++ codes "/" ++ decimal o.removed ++ codes ":" ++ outcome_text o.outcome

abbrev pub refusal_text : Refusal → Text
refusal_text (Overflow share amount) = words (codes "overflow" ∷ decimal share ∷ decimal amount ∷ [])
refusal_text ClockSpent = codes "clock spent"
refusal_text SetFull = codes "set full"

abbrev pub link_text : ℕ → ℕ → ℕ → Text
link_text from to index = decimal from ++ codes ">" ++ decimal to ++ codes " " ++ decimal index

module _ {Shown : Type 0} (value_text : Shown → Text) where
  abbrev pub reply_text : Reply Shown → Text
  reply_text Done = codes "done"
  reply_text (Pending op) = codes "pending " ++ decimal op
  reply_text (Value shown) = codes "value " ++ value_text shown
  reply_text Deleted = codes "deleted"
  reply_text NotFound = codes "not found"
  reply_text UnknownKey = codes "unknown key"
  reply_text WrongKind = codes "wrong kind"
  reply_text TooFew = codes "too few"
  reply_text (Refused refusal) = refusal_text refusal
  reply_text NotStored = codes "store failed"
  reply_text Taken = codes "taken"
  reply_text Already = codes "already"
  reply_text (Gap i) = codes "gap " ++ decimal i
  reply_text NotFromMember = codes "not from member"
  reply_text Installed = codes "installed"
  reply_text OldView = codes "old view"
  reply_text NotAPeer = codes "not a peer"
  reply_text (Ticked outcomes) = words (codes "done" ∷ map key_outcome_text outcomes)
  reply_text (TickedNotStored outcomes) = words (codes "store failed" ∷ map key_outcome_text outcomes)
  reply_text (NotLeader i) = codes "not leader " ++ decimal i
  reply_text TimedOut = codes "timed out"
  reply_text NoSuchOp = codes "no such op"

  abbrev pub answer_text : Answer Shown → Text
  answer_text (Replied reply) = reply_text reply
  answer_text Gone = codes "gone"
  answer_text HistoryFull = codes "history full"
  answer_text NoSuchView = codes "no such view"
  answer_text NoSuchMessage = codes "no such message"
  answer_text Lost = codes "lost"
  answer_text Nothing = codes "nothing"
  answer_text LastMember = codes "last member"
  answer_text PlaceTaken = codes "place taken"
  answer_text TooManyIdentities = codes "too many identities"
  answer_text ClearFailed = codes "clear failed"
  answer_text LoadFailed = codes "load failed"
  answer_text Stopped = codes "stopped"
  answer_text (NewView n) = codes "view " ++ decimal n
  answer_text (NewIdentity i n) = words (codes "id" ∷ decimal i ∷ codes "view" ∷ decimal n ∷ [])
  answer_text (Settled messages blocked) = words (codes "done messages" ∷ decimal messages ∷ codes "blocked" ∷ decimal blocked ∷ [])

  abbrev pub result_text : Result Shown → Text
  result_text Wrote = codes "done"
  result_text (ReadValue shown) = codes "value " ++ value_text shown
  result_text ReadDeleted = codes "deleted"
  result_text ReadNothing = codes "not found"

  abbrev pub ended_words : Option (Finished Shown) → List Text
  ended_words None = []
  ended_words (Some finished) = codes "finished" ∷ decimal finished.op ∷ result_text finished.result ∷ []

module _ {Op : Type 0} where
  abbrev pub delivered_words : Option (Message Op) → List Text
  delivered_words None = []
  delivered_words (Some message) = message_text message ∷ []

  abbrev pub head_words : Head Op → List Text
  head_words (Asked i (ask.Update key op level)) = codes "update" ∷ decimal i ∷ key ∷ []
  head_words (Asked i (ask.Get key level)) = codes "get" ∷ decimal i ∷ key ∷ []
  head_words (Asked i ask.Flush) = codes "flush" ∷ decimal i ∷ []
  head_words (Asked i ask.Tick) = codes "tick" ∷ decimal i ∷ []
  head_words (Asked i (ask.Gossip to)) = codes "gossip" ∷ decimal i ∷ decimal to ∷ []
  head_words (DeliverHead from to index message) = codes "deliver" ∷ link_text from to index ∷ delivered_words message
  head_words RoundHead = codes "round" ∷ []
  head_words (LoseHead from to index) = codes "lose" ∷ link_text from to index ∷ []
  head_words (TimeoutHead i op) = codes "timeout" ∷ decimal i ∷ decimal op ∷ []
  head_words (RemoveHead i) = codes "remove" ∷ decimal i ∷ []
  head_words (JoinHead place) = codes "join" ∷ decimal place ∷ []
  head_words (RestartHead i) = codes "restart" ∷ decimal i ∷ []
  head_words (Asked i (ask.Install view)) = codes "install" ∷ decimal i ∷ codes "view" ∷ decimal view ∷ []
  head_words SettleHead = codes "settle" ∷ []

  abbrev pub post_text : Post Op → Text
  post_text post = decimal post.to ++ codes ":" ++ message_text post.message

  abbrev pub post_words : List (Post Op) → List Text
  post_words [] = []
  post_words (post ∷ posts) = codes "sent" ∷ post_text post ∷ map post_text posts

abbrev pub line_of : Text → Text
line_of text = text ++ 10 ∷ []

-- the pairs of a vector, zeros left out
abbrev pub vector_text : VersionVector → Text
vector_text v = words_or_dash (map (λ i. decimal i ++ codes ":" ++ decimal (v i)) (filter (λ i. not (v i == 0)) identities))

abbrev pub initialized_text : ℕ → Option Mark → Option Text
initialized_text r None = None
initialized_text r (Some mark) =
    Some (decimal r ++ codes ">" ++ decimal mark.owner ++ codes "/" ++ decimal mark.view ++ codes ":" ++ join_with_byte 46 (map decimal (members_of mark.seen)))

module _ {Op : Type 0} where
  abbrev pub mark_text : Option (Stamped Op) → ℕ → Option Mark → Option Text
  mark_text None r mark = initialized_text r mark
  mark_text (Some prune) r mark = Some (decimal r ++ codes ">" ++ decimal prune.origin ++ codes "@" ++ decimal prune.number)

  abbrev pub marks_text : Entry Op → Text
  marks_text entry = words_or_dash (filter_map (λ r. mark_text (prune_of entry.history r) r (entry.marks r)) identities)

module _ {Kind Op Shown : Type 0} (D : Replication Kind Op Shown) (value_text : Shown → Text) where
  abbrev pub told_text : ℕ → Told Op Shown → Text
  told_text n t = line_of (words ((decimal n ∷ head_words t.head) ++ answer_text value_text t.answer ∷ post_words t.posts ++ ended_words value_text t.ended))

  abbrev pub steps_text : ℕ → List (List (Told Op Shown)) → Text
  steps_text n [] = []
  steps_text n (lines ∷ steps) = flat_map (told_text n) lines ++ steps_text (suc n) steps

  abbrev pub key_text : KeyState Kind Op → Text
  key_text k =
      line_of (words (k.name ∷ (if has_records k.entry then value_text (D.data_type.shown k.kind k.entry.history) else codes "-")
      ∷ codes "known" ∷ vector_text (versions k.entry.history) ∷ codes "marks" ∷ marks_text k.entry ∷ []))

  abbrev pub node_text : ℕ → Node Kind Op Shown → Text
  node_text place node =
      line_of (words (codes "member" ∷ decimal node.identity ∷ codes "place" ∷ decimal place ∷ codes "view" ∷ decimal node.view.number ∷ []))
      ++ flat_map key_text (key_states node)

  abbrev pub member_text : World Kind Op Shown → Member → Text
  member_text world member = unwrap_or (option_map (node_text member.place) (world.nodes member.identity)) []

  abbrev pub final_block : World Kind Op Shown → Text
  final_block world = line_of (codes "final view " ++ decimal world.view.number) ++ flat_map (member_text world) world.view.members

  -- the text of a script's run: the lines of its steps, and the values at the end
  abbrev pub report : KeeperAnswers → ℕ → List (KeyDecl Kind) → List (ScriptStep Op) → Text
  report answers members keys steps =
      let first = opening answers members keys in
      steps_text 1 (lines_of D first steps) ++ final_block (played_all D first steps).world
