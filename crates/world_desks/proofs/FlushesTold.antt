-- Which member made a flush that is done is told by the events of a step as by the lines that they are.
use Rattle.std.proofs.Common.{◌≡◌, ℕ, List, [], ◌∷◌, None, Some, refl, sym, ap, ◌∙◌}
use Rattle.std.specs.Prelude.{if◌then◌else◌}
use Rattle.std.specs.List.{AllZip}
use Rattle.model_members.specs.Script as script
use Rattle.model_members.specs.Script.{Told}
use Rattle.model_kinds.specs.declared.operation.Op.{Op}
use Rattle.model_kinds.specs.declared.shown.Shown.{Shown}
use Rattle.member_node.specs.Members.{meant}
use Rattle.member_node.specs.declared.reply.Reply.{Reply}
use Rattle.member_node.specs.declared.reply.Reply.TheVariants as reply
use Rattle.script_reading.specs.Meant.{ask_of}
use Rattle.script_reading.specs.declared.ask.Ask.{Ask}
use Rattle.script_reading.specs.declared.ask.Ask.TheVariants as asked
use Rattle.theorem_watching.specs.Watching as model
use Rattle.theorem_watching.specs.Watching.{flushed_by}
use Rattle.world_members.specs.declared.event.Answer.{Answer}
use Rattle.world_members.specs.declared.event.Answer.TheVariants as answer
use Rattle.world_members.specs.declared.event.Event.{Event}
use Rattle.world_members.specs.declared.event.Head.{Head}
use Rattle.world_members.specs.declared.event.Head.TheVariants as head
use Rattle.world_members.specs.Lines.{IsAnswer, IsHead, IsLine}
use Rattle.world_desks.specs.Flushed.{is_done, is_reply_done, flush_of, flushed_in}

by_reply : (at : ℕ) (r : Reply) → (if is_reply_done r then Some at else None) ≡ model.flush_of {Op = Op} (script.Head.Asked at script.Ask.Flush) (script.Answer.Replied (meant r))
by_reply at reply.Done = refl
by_reply at _ = refl

by_answer : (at : ℕ) (a : Answer) (told : script.Answer Shown) → IsAnswer a told → (if is_done a then Some at else None) ≡ model.flush_of {Op = Op} (script.Head.Asked at script.Ask.Flush) told
by_answer at (answer.Reply r) told is = by_reply at r ∙ ap (model.flush_of {Op = Op} (script.Head.Asked at script.Ask.Flush)) (sym is)
by_answer at (answer.Damaged key) told is = absurd is
by_answer at _ told is = ap (model.flush_of {Op = Op} (script.Head.Asked at script.Ask.Flush)) (sym is)

by_ask : (at : ℕ) (ask : Ask) (a : Answer) (told : script.Answer Shown) → IsAnswer a told → flush_of (head.Asked at ask) a ≡ model.flush_of (script.Head.Asked at (ask_of ask)) told
by_ask at asked.Flush a told is = by_answer at a told is
by_ask at _ a told is = refl

by_head : (h : Head) (a : Answer) (told : script.Head Op) (says : script.Answer Shown) → IsHead h told → IsAnswer a says → flush_of h a ≡ model.flush_of told says
by_head (head.Asked at ask) a told says is so = by_ask at ask a says so ∙ ap (λ (t : script.Head Op). model.flush_of t says) (sym is)
by_head (head.Deliver from to index sketch) a told says is so = ap (λ (t : script.Head Op). model.flush_of t says) (sym is.1)
by_head _ a told says is so = ap (λ (t : script.Head Op). model.flush_of t says) (sym is)

pub told_flushed : (events : List Event) (told : List (Told Op Shown)) → AllZip IsLine events told → flushed_in events ≡ flushed_by told
told_flushed [] [] all = refl
told_flushed [] (t ∷ ts) all = absurd all
told_flushed (e ∷ es) [] all = absurd all
told_flushed (e ∷ []) (t ∷ []) all = by_head e.head e.answer t.head t.answer all.0.head all.0.answer
told_flushed (e ∷ []) (t ∷ t' ∷ ts) all = absurd all.1
told_flushed (e ∷ e' ∷ es) (t ∷ []) all = absurd all.1
told_flushed (e ∷ e' ∷ es) (t ∷ t' ∷ ts) all = refl
