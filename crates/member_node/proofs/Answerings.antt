-- Which replies an input can have.
use Rattle.std.proofs.Common.{◌≡◌, Bool, true, false, if◌then◌else◌, List, [], ◌∷◌, map, ℕ, Option, Some, None, length, get_or, arith, refl, ap, sym, ◌∙◌, subst, inl, inr, IsTrue, Result, Ok, Err, IfOk}
use Rattle.std.proofs.lemmas.Bool.Decides.{leb_tells}
use Rattle.std.proofs.lemmas.List.{get_or_past}
use Rattle.data_lattice.specs.declared.spelled.SpelledData.{Ghosts as Spelling}
use Rattle.member_keeper.specs.declared.stored.Stored as kept
use Rattle.member_node.proofs.Common.{Keeping, Node, meant, Keyed, Ghosts, Prepared, Output, Nothing, is_pending, Shown, KeyState, AreMade, IsFlush, Change, Flushed, Each}
use Rattle.model_members.specs.Node.{Reply as Meant}
use Rattle.member_node.specs.Answers.{reply_to}
use Rattle.member_node.specs.Answerable.{is_of_update, is_of_take, is_of_flush, CanReply, CanEnd, StoresNothing, RepliesTo}
use Rattle.member_node.specs.Outputs.{failed, refused_post, failed_output, after_fate}
use Rattle.member_node.specs.Planning.{new_entry}
use Rattle.member_node.specs.Steps.{IsKeptBy, MakesStep}
use Rattle.member_node.specs.Updates.{reply_of}
use Rattle.member_node.specs.declared.change.Change.TheVariants.{Entry}
use Rattle.member_node.specs.declared.in_place.Applied.{Applied}
use Rattle.member_node.specs.declared.in_place.Applied.TheVariants as applied
use Rattle.member_node.specs.declared.input.Input.{Input}
use Rattle.member_node.specs.declared.input.Input.TheVariants as input
use Rattle.member_node.specs.declared.reply.Fate.{Fate}
use Rattle.member_node.specs.declared.reply.Fate.TheVariants.{NoStore, Stored, StoreFailed}
use Rattle.member_node.specs.declared.reply.Reply.{Reply}
use Rattle.member_node.specs.declared.reply.Reply.TheVariants as reply

-- what became of an operation in its place is a reply to an update
pub applied_replies : (became : Applied) → is_of_update (reply_of became) ≡ true
applied_replies applied.Recorded = refl
applied_replies (applied.Overflow share amount) = refl
applied_replies applied.ClockSpent = refl
applied_replies applied.SetFull = refl

-- after a failed store it still is
pub update_fails : (told : Reply) → is_of_update told ≡ true → is_of_update (failed told) ≡ true
update_fails (reply.Ticked outcomes) is = is
update_fails _ is = refl

pub take_fails : (told : Reply) → is_of_take told ≡ true → is_of_take (failed told) ≡ true
take_fails (reply.Ticked outcomes) is = is
take_fails _ is = refl

-- a reply to a message, as the model has it
abbrev is_taken : Meant Shown → Bool
is_taken Meant.Taken = true
is_taken Meant.Already = true
is_taken (Meant.Gap i) = true
is_taken Meant.NotFromMember = true
is_taken Meant.NotStored = true
is_taken _ = false

taken_so : (told : Reply) → is_of_take told ≡ is_taken (meant told)
taken_so reply.Done = refl
taken_so _ = refl

reply_taken : (asks changed : Bool) (gaps : List (Keyed ℕ)) → is_taken (reply_to asks gaps changed) ≡ true
reply_taken asks changed (gap ∷ gaps) = refl
reply_taken true changed [] = refl
reply_taken false true [] = refl
reply_taken false false [] = refl

pub taken_reply : (told : Reply) (asks changed : Bool) (gaps : List (Keyed ℕ)) → meant told ≡ reply_to asks gaps changed → is_of_take told ≡ true
taken_reply told asks changed gaps is = taken_so told ∙ ap is_taken is ∙ reply_taken asks changed gaps

-- AFTER THE STORE

-- where nothing is to be stored, the store can't fail
pub stored_none : {K : Type 0} (keeping : Keeping K) (items : List kept.Stored) (fate : Fate) (old new : K) → items ≡ [] → IsKeptBy keeping items fate old new → fate ≡ NoStore
stored_none keeping items NoStore old new none kept = refl
stored_none keeping items Stored old new none kept = absurd (kept.0 none)
stored_none keeping items StoreFailed old new none kept = absurd (kept.0 none)

failed_pending : (told : Reply) → is_pending told ≡ true → reply.StoreFailed ≡ failed told
failed_pending (reply.Pending op) is = refl
failed_pending _ is = absurd (cc is)

module _ {T Kind Op Delta : Type 0} {ghosts : Ghosts T Kind Op Delta} where
  reply_failed : (output : Output T Kind Op Delta ghosts) → (failed_output output).reply ≡ failed output.reply
  reply_failed output = by (is_pending output.reply) refl
    where
      by : (b : Bool) → is_pending output.reply ≡ b → (failed_output output).reply ≡ failed output.reply
      by true is = ap (λ b. (if b then record output { reply = reply.StoreFailed; posts = [] } else record output { reply = failed output.reply; posts = map refused_post output.posts }).reply) is ∙ failed_pending output.reply is
      by false is = ap (λ b. (if b then record output { reply = reply.StoreFailed; posts = [] } else record output { reply = failed output.reply; posts = map refused_post output.posts }).reply) is

  finished_failed : (output : Output T Kind Op Delta ghosts) → (failed_output output).finished ≡ output.finished
  finished_failed output = by (is_pending output.reply) refl
    where
      by : (b : Bool) → is_pending output.reply ≡ b → (failed_output output).finished ≡ output.finished
      by true is = ap (λ b. (if b then record output { reply = reply.StoreFailed; posts = [] } else record output { reply = failed output.reply; posts = map refused_post output.posts }).finished) is
      by false is = ap (λ b. (if b then record output { reply = reply.StoreFailed; posts = [] } else record output { reply = failed output.reply; posts = map refused_post output.posts }).finished) is

  -- nothing ends
  pub no_end : (sent : Input T Kind Op Delta ghosts) → CanEnd sent None
  no_end (input.Take from message) = tt
  no_end _ = refl

  module _ (sent : Input T Kind Op Delta ghosts) (prepared : Prepared T Kind Op Delta ghosts) where
    pub replies_after : (fate : Fate) → RepliesTo sent prepared → (StoresNothing prepared.plan → fate ≡ NoStore) → CanReply sent (after_fate fate prepared.output).reply
    replies_after NoStore r none = r.stored
    replies_after Stored r none = r.stored
    replies_after StoreFailed r none = elim r.failing [
      | inl nothing ↦ absurd (cc (none nothing))
      | inr can ↦ subst (CanReply sent) (sym (reply_failed prepared.output)) can
    ]

    pub ends_after : (fate : Fate) → RepliesTo sent prepared → CanEnd sent (after_fate fate prepared.output).finished
    ends_after NoStore r = r.ends
    ends_after Stored r = r.ends
    ends_after StoreFailed r = subst (CanEnd sent) (sym (finished_failed prepared.output)) r.ends

    -- a reply with nothing to store
    pub replies_still : (told : Reply) → prepared.plan ≡ Nothing → prepared.output.reply ≡ told → CanEnd sent prepared.output.finished → CanReply sent told → RepliesTo sent prepared
    replies_still told plan is ends can = record { stored = subst (CanReply sent) (sym is) can; failing = inl (subst StoresNothing (sym plan) tt); ends = ends }

    -- one that may be given after a failed store too
    pub replies_stored : (told : Reply) → prepared.output.reply ≡ told → CanEnd sent prepared.output.finished → CanReply sent told → CanReply sent (failed told) → RepliesTo sent prepared
    replies_stored told is ends can fails = record { stored = subst (CanReply sent) (sym is) can; failing = inr (subst (λ r. CanReply sent (failed r)) (sym is) fails); ends = ends }

    -- a reply and nothing else
    pub replies_told : (told : Reply) → prepared.plan ≡ Nothing → prepared.output ≡ record { reply = told; posts = []; finished = None } → CanReply sent told → RepliesTo sent prepared
    replies_told told plan output can = replies_still told plan (ap (λ (o : Output T Kind Op Delta ghosts). o.reply) output) (subst (CanEnd sent) (sym (ap (λ (o : Output T Kind Op Delta ghosts). o.finished) output)) (no_end sent)) can

-- a flush stores nothing
module _ {T Kind Op Delta : Type 0} (id : ℕ) (members : List ℕ) where
  flush_none : (state : KeyState T Kind Op Delta) (change : Option (Change T Kind Op Delta)) → IsFlush id members state change → new_entry change ≡ None
  flush_none state None flush = refl
  flush_none state (Some (Flushed flushed)) flush = refl
  flush_none state (Some (Entry entry)) flush = absurd flush

  pub flush_nothing : (keys : List (KeyState T Kind Op Delta)) (changes : List (Option (Change T Kind Op Delta))) → AreMade (IsFlush id members) keys changes → StoresNothing {T = T} (Each changes)
  flush_nothing [] changes made k = ap new_entry (get_or_past changes k None (let none = made.one_each in omega arith))
  flush_nothing (state ∷ keys) changes made k = elim (leb_tells (length changes) k) [
    | inl past ↦ ap new_entry (get_or_past changes k None past.1)
    | inr within ↦ flush_none (get_or (state ∷ keys) k state) (get_or changes k None) (made.made k state None (let same = made.one_each in omega (arith, within.1, same)))
  ]

-- THE CALLS

-- the one reply to a flush
pub flush_done : (told : Reply) → is_of_flush told ≡ true → reply.Done ≡ told
flush_done reply.Done is = refl
flush_done _ is = absurd (cc is)

-- a step with the parts of its output told one by one
module _ {T K Kind Op Delta : Type 0} {ghosts : Ghosts T Kind Op Delta} {keeping : Keeping K} (spelling : Spelling T Kind Op Delta) (old new : Node T K Kind Op Delta ghosts keeping) (sent : Input T Kind Op Delta ghosts) where
  pub step_told : (output said : Output T Kind Op Delta ghosts) → said.reply ≡ output.reply → said.posts ≡ output.posts → said.finished ≡ output.finished
      → MakesStep spelling old sent output new → MakesStep spelling old sent said new
  step_told output said told posts finished made =
      let whole : output ≡ said = λ i. record { reply = sym told i; posts = sym posts i; finished = sym finished i } in
      subst (λ (o : Output T Kind Op Delta ghosts). MakesStep spelling old sent o new) whole made
