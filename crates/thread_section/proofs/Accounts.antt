-- Which calls a session made on its way.
--     Adds        those that came, each of some kind
--     TakenAt        a take, in the histories of the section
use Rattle.std.proofs.Common.{◌≡◌, ◌⊎◌, inl, inr, ⊎_elim, ℕ, zero, suc, List, [], ◌∷◌, ◌++◌, sym, ap, subst, ◌∙◌, Option, Some}
use Rattle.std.specs.Prelude.{slice_get}
use mathlib.Core.List.{IsPrefix}
use Rattle.model_history.proofs.PruneLaws.{IsIn, in_append}
use Rattle.model_kinds.specs.declared.operation.Op.{Op}
use Rattle.data_lattice.specs.declared.replica.Replica.{Ghosts}
use Rattle.member_keeper.specs.declared.keeper.Keeper.{Ghosts as Keeping}
use Rattle.thread_machine.specs.declared.machine.Machine.{Ghosts as Machine}
use Rattle.thread_cell.specs.declared.receipt.Receipt.{Receipt}
use Rattle.thread_cell.specs.Lists.{at}
use Rattle.thread_cell.specs.Values.{ClientParts}
use Rattle.member_messages.specs.declared.message.Message.{Message}
use Rattle.member_node.specs.declared.input.Input.{Input}
use Rattle.member_node.specs.declared.node.Node.{Node}
use Rattle.member_node.specs.declared.reply.Fate.{Fate}
use Rattle.member_node.specs.declared.reply.Output.{Output}
use Rattle.member_node.specs.declared.reply.StepError.{StepError}
use Rattle.thread_cluster.specs.Messages.{messages_of}
use Rattle.thread_cluster.specs.Knowing.{Sees, Turns, IsReceipt}
use Rattle.thread_run_order.specs.Images.{EntryOf}
use Rattle.thread_clients.specs.Turns.{HasHeard, WasFull, IsHeardOrFull, HasHeardAnswers, MayGiveUp}

-- what stands in the first stands in the whole
pub get_prefix : {X : Type 0} (xs ys : List X) (k : ℕ) (x : X) → IsPrefix xs ys → slice_get xs k ≡ Some x → slice_get ys k ≡ Some x
get_prefix xs ys k x begin at = subst (λ zs. slice_get zs k ≡ Some x) begin.1 (get_front xs begin.0 k x at)
  where
    get_front : {X : Type 0} (xs ys : List X) (k : ℕ) (x : X) → slice_get xs k ≡ Some x → slice_get (xs ++ ys) k ≡ Some x
    get_front [] ys k x at = absurd (cc at)
    get_front (y ∷ xs) ys zero x at = at
    get_front (y ∷ xs) ys (suc k) x at = get_front xs ys k x at

module _ {T K Kind Delta : Type 0} {ghosts : Ghosts T Kind Op Delta} {keeping : Keeping K} (meaning : Machine (Node T K Kind Op Delta ghosts keeping) (Input T Kind Op Delta ghosts) Fate (Output T Kind Op Delta ghosts) StepError) (ids : ℕ → Option ℕ)
    (h : ℕ → List (EntryOf ghosts keeping)) where
  abbrev Session : Type 0
  Session = ClientParts (Node T K Kind Op Delta ghosts keeping) (Input T Kind Op Delta ghosts) Fate (Output T Kind Op Delta ghosts) StepError

  -- a take of a member at a place
  pub record TakenAt (call : ℕ × ℕ) : Type 0 where
    pub entry : EntryOf ghosts keeping
    pub stands : slice_get (h call.0) call.1 ≡ Some entry
    pub from : ℕ
    pub message : Message T Kind Op Delta ghosts
    pub takes : messages_of from entry.input ≡ message ∷ []
    pub sender : ℕ
    pub sent_by : ids sender ≡ Some from

  abbrev pub Adds : (ℕ × ℕ → Type 0) → Session → Session → Type 0
  Adds P a b = (call : ℕ × ℕ) → IsIn b.calls call → IsIn a.calls call ⊎ P call

  pub adds_more : (P Q : ℕ × ℕ → Type 0) (a b c : Session) → ((call : ℕ × ℕ) → P call → Q call) → Adds P a b → Adds Q b c → Adds Q a c
  adds_more P Q a b c weaker first then' = λ call m. ⊎_elim (λ (old : IsIn b.calls call). ⊎_elim (λ (older : IsIn a.calls call). inl older) (λ (p : P call). inr (weaker call p)) (first call old)) (λ (q : Q call). inr q) (then' call m)

  pub adds_weaker : (P Q : ℕ × ℕ → Type 0) (a b : Session) → ((call : ℕ × ℕ) → P call → Q call) → Adds P a b → Adds Q a b
  adds_weaker P Q a b weaker adds = λ call m. ⊎_elim (λ (old : IsIn a.calls call). inl old) (λ (p : P call). inr (weaker call p)) (adds call m)

  pub adds_none : (P : ℕ × ℕ → Type 0) (a b : Session) → Sees a b → Adds P a b
  adds_none P a b sees = λ call m. inl (subst (λ calls. IsIn calls call) sees.calls m)

  pub turns_add : (n : ℕ) (a b : Session) → ((p : ℕ) → IsPrefix (at b.seen.known p) (h p)) → Turns messages_of ids n a b → Adds TakenAt a b
  turns_add n a b begins turns =
      λ call m. ⊎_elim (λ (old : IsIn a.calls call). inl old)
      (λ (new : IsIn turns.grew.added call).
      let t = turns.grew.each new.0 call new.1 in
      inr (record { entry = t.entry; stands = get_prefix (at b.seen.known call.0) (h call.0) call.1 t.entry (begins call.0) t.stands; from = t.from; message = t.message; takes = t.is_take; sender = t.sender; sent_by = t.sent_by }))
      (in_append a.calls turns.grew.added call (subst (λ calls. IsIn calls call) turns.grew.calls m))

  -- the call of a receipt, at the member of an identity
  abbrev pub IsCallOf : ℕ → ℕ → ℕ × ℕ → Type 0
  IsCallOf i index call = (ids call.0 ≡ Some i) × (call.1 ≡ index)

  pub receipt_adds : (i : ℕ) (input : Input T Kind Op Delta ghosts) (a b : Session) (receipt : Receipt (Node T K Kind Op Delta ghosts keeping) (Input T Kind Op Delta ghosts) Fate (Output T Kind Op Delta ghosts) StepError) → IsReceipt meaning ids i input a b receipt → Adds (IsCallOf i receipt.index) a b
  receipt_adds i input a b receipt made =
      λ call m. ⊎_elim (λ (old : IsIn a.calls call). inl old) (λ (new : IsIn ((receipt.place, receipt.index) ∷ []) call). inr (by call new))
      (in_append a.calls ((receipt.place, receipt.index) ∷ []) call (subst (λ calls. IsIn calls call) made.answered.calls m))
    where
      by : (call : ℕ × ℕ) → IsIn ((receipt.place, receipt.index) ∷ []) call → IsCallOf i receipt.index call
      by call (zero, e) = let same : (receipt.place, receipt.index) ≡ call = cc e in (sym (ap (λ (c : ℕ × ℕ). ids c.0) same) ∙ made.here, sym (ap (λ (c : ℕ × ℕ). c.1) same))
      by call (suc k, e) = absurd (cc e)

  -- TURNS AND WAITING

  module _ (before : (a b : Session) → Rattle.thread_cluster.specs.Knowing.GoesOn a b → ((p : ℕ) → IsPrefix (at b.seen.known p) (h p)) → (p : ℕ) → IsPrefix (at a.seen.known p) (h p)) where
    pub heard_adds : (a b : Session) → ((p : ℕ) → IsPrefix (at b.seen.known p) (h p)) → HasHeard ids a b → Adds TakenAt a b
    heard_adds a b begins heard = turns_add heard.n a b begins heard.turned.turned

    pub full_adds : (a b : Session) → ((p : ℕ) → IsPrefix (at b.seen.known p) (h p)) → WasFull meaning ids a b → Adds TakenAt a b
    full_adds a b begins full =
        adds_more TakenAt TakenAt a full.between b (λ call t. t) (turns_add full.before.n a full.between (before full.between b full.after.turned.goes_on begins) full.before.turned) (turns_add full.after.n full.between b begins full.after.turned)

    pub waits_add : (a b : Session) → ((p : ℕ) → IsPrefix (at b.seen.known p) (h p)) → IsHeardOrFull meaning ids a b → Adds TakenAt a b
    waits_add a b begins (inl heard) = heard_adds a b begins heard
    waits_add a b begins (inr full) = full_adds a b begins full

    pub may_add : (i op : ℕ) (a b : Session) → ((p : ℕ) → IsPrefix (at b.seen.known p) (h p)) → MayGiveUp meaning ids i op a b → Adds TakenAt a b
    may_add i op a b begins may = by may.waited
      where
        by : HasHeardAnswers meaning ids i op a b ⊎ WasFull meaning ids a b → Adds TakenAt a b
        by (inr full) = full_adds a b begins full
        by (inl answers) =
            let sees = answers.shown.shown.sees in
            let begins_heard = before answers.heard b sees.goes_on begins in
            let begins_asked = before answers.asked answers.heard answers.answers.turned.turned.goes_on begins_heard in
            adds_more TakenAt TakenAt a answers.asked b (λ call t. t) (heard_adds a answers.asked begins_asked answers.posts)
            (adds_more TakenAt TakenAt answers.asked answers.heard b (λ call t. t) (heard_adds answers.asked answers.heard begins_heard answers.answers) (adds_none TakenAt answers.heard b sees))
