-- Where the lines of a script come from: what a line tells of a reply or of an operation's end is what an event put out.
--     LineFrom        a line comes from an event, or tells neither
--     step_tells_lines        all lines of a step do
--     input_made        an input that is answered with a reply is one event
use Rattle.std.proofs.Common.{Bool, true, false, ◌≡◌, ℕ, zero, suc, ◌+◌, List, [], ◌∷◌, ◌++◌, length, refl, sym, ap, subst, ◌∙◌, Option, Some, None, inl, inr, append_assoc}
use Rattle.std.specs.Prelude.{⊤, if◌then◌else◌, nat_lt, not, is_some, option_map, fold}
use Rattle.std.specs.List.{range_with_len}
use Rattle.model_history.specs.Table.{identity_limit}
use Rattle.model_history.proofs.HistoryLaws.{append_nothing}
use Rattle.model_history.proofs.PruneLaws.{IsIn, in_append}
use Rattle.model_members.specs.View.{identities_of, is_member, is_taken, place_of}
use Rattle.model_members.specs.DataType.{Replication}
use Rattle.model_members.specs.Message.{Message}
use Rattle.model_members.specs.Node.{KeyDecl, Input, Fate, Output, Reply}
use Rattle.model_members.specs.Node.Fate.{NoStore}
use Rattle.model_members.specs.Step.{is_full}
use Rattle.model_members.specs.World.{World, Event, Turn, start, run, happens, turn_of, output_of, message_at, views_of, IsRun}
use Rattle.model_members.specs.World.Event.{InputAt, Delivery, Loss, Removal, Joining, Restart}
use Rattle.model_members.specs.Script.{Ask, Playing, ScriptStep, IsStep, Told, Head, Answer, Due, did, did_plainly, told, given, take_turn, output_lines, with_call, next_answer, called, deliver, deliver_due, due_now, round_of, lose, remove, join, restart, asked, asked_by, input_of, install_last, sweep, tick, settle, settle_line, has_met_full, posted, last_answer_blocked, played}
use Rattle.model_members.specs.Script.Head.{Asked, DeliverHead, TimeoutHead, RoundHead, LoseHead, RemoveHead, JoinHead, RestartHead, SettleHead}
use Rattle.model_members.specs.Script.Answer.{Replied, Gone, HistoryFull, NoSuchView, NoSuchMessage, Lost, Nothing, LastMember, PlaceTaken, TooManyIdentities, ClearFailed, LoadFailed, Stopped, NewView, NewIdentity, Settled}
use Rattle.theorem_runs.proofs.Keeping.{if_holds, fold_all}
use Rattle.theorem_runs.proofs.Playing.{Appends, step_is_run, played_appends}
use Rattle.theorem_operations.specs.Quorum.{reply_in}
use Rattle.theorem_operations.proofs.Moments.{pushed_run}
use Rattle.theorem_operations.proofs.PlayedInputs.{TakesTurn, turn_taken}

in_none : {X : Type 0} {P : Type 0} (x : X) → IsIn [] x → P
in_none x h = absurd (cc h.1)

in_one : {X : Type 0} (x y : X) → IsIn (x ∷ []) y → y ≡ x
in_one x y (zero, e) = let same : x ≡ y = cc e in sym same
in_one x y (suc k, e) = absurd (cc e)

abbrev pub IsReply : {Shown : Type 0} → Answer Shown → Type 0
IsReply (Replied reply) = ⊤
IsReply _ = ⊥

-- what a head says of its event: a delivered message is taken by its receiver
abbrev pub HeadTells : {Op : Type 0} → Head Op → Event Op → Type 0
HeadTells (DeliverHead from to index message) event = (fate : Fate) × (event ≡ Delivery from to index fate)
HeadTells _ event = ⊤

module _ {Op Shown : Type 0} where
  -- the last line, where there was none before
  last_plain : (lines : List (Told Op Shown)) (head : Head Op) (answer : Answer Shown) → lines ≡ [] → (line : Told Op Shown) → IsIn (lines ++ record { head = head; answer = answer; posts = []; ended = None } ∷ []) line → (line.answer ≡ answer) × (line.ended ≡ None)
  last_plain lines head answer silent line h = elim (in_append lines (record { head = head; answer = answer; posts = []; ended = None } ∷ []) line h) [
    | inl old ↦ in_none line (subst (λ ls. IsIn ls line) silent old)
    | inr new ↦ let same = in_one (record { head = head; answer = answer; posts = []; ended = None }) line new in (ap (λ (t : Told Op Shown). t.answer) same, ap (λ (t : Told Op Shown). t.ended) same)
  ]

module _ {Kind Op Shown : Type 0} (D : Replication Kind Op Shown) where
  -- what is given, by whether the member runs and has room
  given_case : (P : Playing Kind Op Shown → Type 0) (p : Playing Kind Op Shown) (head : Head Op) (event : Fate → Event Op) → P (told p head Gone) → P (told p head HistoryFull) → ((turn : Turn Kind Op Shown) → P (take_turn D p head event turn)) → P (given D p head event)
  given_case P p head event gone full takes = by_turn (turn_of p.world (event NoStore))
    where
      by_turn : (o : Option (Turn Kind Op Shown)) → P (elim o [ None ↦ told p head Gone | Some turn ↦ if is_full D turn.before then told p head HistoryFull else take_turn D p head event turn ])
      by_turn None = gone
      by_turn (Some turn) = if_holds P (is_full D turn.before) (told p head HistoryFull) (take_turn D p head event turn) full (takes turn)

  -- the lines of what an event puts out
  put_out : (head : Head Op) (o : Option (Output Op Shown)) (line : Told Op Shown) → IsIn (output_lines D head o) line → (output : Output Op Shown) × (o ≡ Some output) × (line ≡ record { head = head; answer = Replied output.reply; posts = output.posts; ended = output.ended })
  put_out head None line h = in_none line h
  put_out head (Some output) line h = (output, refl, in_one (record { head = head; answer = Replied output.reply; posts = output.posts; ended = output.ended }) line h)

  module _ (first : World Kind Op Shown) (base : List (Event Op)) where
    -- an event behind those of the base put out what the line tells
    pub record ComesFrom (events : List (Event Op)) (line : Told Op Shown) : Type 0 where
      pub since : List (Event Op)
      pub event : Event Op
      pub rest : List (Event Op)
      pub way : events ≡ (base ++ since) ++ event ∷ rest
      pub tells : output_lines D line.head (output_of D (run D first (base ++ since)) event) ≡ line ∷ []
      pub head : HeadTells line.head event

    pub data LineFrom (events : List (Event Op)) (line : Told Op Shown) : Type 0 where
      FromEvent : ComesFrom events line → LineFrom events line
      Plain : (IsReply line.answer → ⊥) → line.ended ≡ None → LineFrom events line

    from_later : (events more : List (Event Op)) (line : Told Op Shown) → LineFrom events line → LineFrom (events ++ more) line
    from_later events more line (FromEvent c) =
        FromEvent (record { since = c.since; event = c.event; rest = c.rest ++ more; way = ap (λ es. es ++ more) c.way ∙ append_assoc (base ++ c.since) (c.event ∷ c.rest) more; tells = c.tells; head = c.head })
    from_later events more line (Plain unsaid ended) = Plain unsaid ended

    -- the script has come on from the base, and each of its lines comes from an event, or is plain
    pub record IsTold (p : Playing Kind Op Shown) : Type 0 where
      pub leads : p.world ≡ run D first p.events
      pub grown : Appends D base p.events
      pub lines : (line : Told Op Shown) → IsIn p.lines line → LineFrom p.events line

    told_plainly : (p : Playing Kind Op Shown) (head : Head Op) (answer : Answer Shown) → (IsReply answer → ⊥) → IsTold p → IsTold (told p head answer)
    told_plainly p head answer unsaid is = record {
      leads = is.leads;
      grown = is.grown;
      lines = λ line h. elim (in_append p.lines (record { head = head; answer = answer; posts = []; ended = None } ∷ []) line h) [
        | inl old ↦ is.lines line old
        | inr new ↦
            let same = in_one (record { head = head; answer = answer; posts = []; ended = None }) line new in
            subst (LineFrom p.events) (sym same) (Plain unsaid refl)
      ];
    }

    -- an event, and what it told
    did_told : (p : Playing Kind Op Shown) (event : Event Op) (lines : List (Told Op Shown)) → ((line : Told Op Shown) → IsIn lines line → LineFrom (p.events ++ event ∷ []) line) → IsTold p → IsTold (did D p event lines)
    did_told p event lines new is = record {
      leads = ap (λ (w : World Kind Op Shown). happens D w event) is.leads ∙ sym (pushed_run D first p.events event);
      grown = (is.grown.0 ++ event ∷ [], ap (λ es. es ++ event ∷ []) is.grown.1 ∙ append_assoc base is.grown.0 (event ∷ []));
      lines = λ line h. elim (in_append p.lines lines line h) [
        | inl old ↦ from_later p.events (event ∷ []) line (is.lines line old)
        | inr h' ↦ new line h'
      ];
    }

    plainly_told : (p : Playing Kind Op Shown) (event : Event Op) (head : Head Op) (answer : Answer Shown) → (IsReply answer → ⊥) → IsTold p → IsTold (did_plainly D p event head answer)
    plainly_told p event head answer unsaid is =
        let line : Told Op Shown = record { head = head; answer = answer; posts = []; ended = None } in
        did_told p event (line ∷ []) (λ told h. subst (LineFrom (p.events ++ event ∷ [])) (sym (in_one line told h)) (Plain unsaid refl)) is

    -- A TURN

    output_told : (p : Playing Kind Op Shown) (head : Head Op) (event : Event Op) → HeadTells head event → IsTold p → (line : Told Op Shown) → IsIn (output_lines D head (output_of D p.world event)) line → LineFrom (p.events ++ event ∷ []) line
    output_told p head event tells is line h =
        let out = put_out head (output_of D p.world event) line h in
        let the_line : Told Op Shown = record { head = head; answer = Replied out.0.reply; posts = out.0.posts; ended = out.0.ended } in
        let same_world : run D first (base ++ is.grown.0) ≡ p.world = ap (run D first) (sym is.grown.1) ∙ sym is.leads in
        subst (LineFrom (p.events ++ event ∷ [])) (sym out.2)
        (FromEvent (record {
          since = is.grown.0;
          event = event;
          rest = [];
          way = ap (λ es. es ++ event ∷ []) is.grown.1;
          tells = ap (λ (w : World Kind Op Shown). output_lines D head (output_of D w event)) same_world ∙ ap (output_lines D head) out.1;
          head = tells;
        }))

    turn_told : (p : Playing Kind Op Shown) (head : Head Op) (event : Fate → Event Op) (turn : Turn Kind Op Shown) → ((fate : Fate) → HeadTells head (event fate)) → IsTold p → IsTold (take_turn D p head event turn)
    turn_told p head event turn tells is = by (take_turn D p head event turn) (turn_taken D p head event turn)
      where
        by : (q : Playing Kind Op Shown) → TakesTurn D p q head event turn → IsTold q
        by q t =
            let next = did_told p (event t.fate) (output_lines D head (output_of D p.world (event t.fate))) (output_told p head (event t.fate) (tells t.fate) is) is in
            record {
              leads = t.world ∙ next.leads ∙ ap (run D first) (sym t.events);
              grown = (next.grown.0, t.events ∙ next.grown.1);
              lines = λ line h. subst (λ es. LineFrom es line) (sym t.events) (next.lines line (subst (λ ls. IsIn ls line) t.lines h));
            }

    given_told : (p : Playing Kind Op Shown) (head : Head Op) (event : Fate → Event Op) → ((fate : Fate) → HeadTells head (event fate)) → IsTold p → IsTold (given D p head event)
    given_told p head event tells is = given_case IsTold p head event (told_plainly p head Gone (λ n. n) is) (told_plainly p head HistoryFull (λ n. n) is) (λ turn. turn_told p head event turn tells is)

    -- DELIVERIES

    deliver_told : (p : Playing Kind Op Shown) (from to index : ℕ) → IsTold p → IsTold (deliver D p from to index)
    deliver_told p from to index is =
        if_holds IsTold (is_some (p.world.nodes to)) _ (told p (DeliverHead from to index None) Gone) (by_message (message_at p.world from to index)) (told_plainly p (DeliverHead from to index None) Gone (λ n. n) is)
      where
        by_message : (o : Option (Message Op)) → IsTold (elim o [ None ↦ told p (DeliverHead from to index None) NoSuchMessage | Some message ↦ given D p (DeliverHead from to index (Some message)) (Delivery from to index) ])
        by_message None = told_plainly p (DeliverHead from to index None) NoSuchMessage (λ n. n) is
        by_message (Some message) = given_told p (DeliverHead from to index (Some message)) (Delivery from to index) (λ fate. (fate, refl)) is

    due_told : (p : Playing Kind Op Shown) (due : Due) → IsTold p → IsTold (deliver_due D p due)
    due_told p due is = fold_all IsTold (λ q index. deliver D q due.from due.to index) (λ q index h. deliver_told q due.from due.to index h) (range_with_len due.first due.count) p is

    round_told : (p : Playing Kind Op Shown) (dues : List Due) → IsTold p → IsTold (round_of D p dues)
    round_told p [] is = told_plainly p RoundHead Nothing (λ n. n) is
    round_told p (due ∷ dues) is = fold_all IsTold (deliver_due D) due_told (due ∷ dues) p is

    -- LOSSES AND VIEWS

    lose_told : (p : Playing Kind Op Shown) (from to : ℕ) → IsTold p → IsTold (lose D p from to)
    lose_told p from to is =
        let link = p.world.links from to in
        if_holds IsTold (nat_lt link.next (length link.messages)) (did_plainly D p (Loss from to) (LoseHead from to link.next) Lost) (told p (LoseHead from to link.next) NoSuchMessage)
        (plainly_told p (Loss from to) (LoseHead from to link.next) Lost (λ n. n) is) (told_plainly p (LoseHead from to link.next) NoSuchMessage (λ n. n) is)

    remove_told : (p : Playing Kind Op Shown) (i : ℕ) → IsTold p → IsTold (remove D p i)
    remove_told p i is =
        let view = p.world.view in
        let done = did_plainly D p (Removal i) (RemoveHead i) (NewView (view.number + 1)) in
        let last = told p (RemoveHead i) LastMember in
        if_holds IsTold (not (is_member view i)) (told p (RemoveHead i) Gone) (if nat_lt 1 (length view.members) then done else last) (told_plainly p (RemoveHead i) Gone (λ n. n) is)
        (if_holds IsTold (nat_lt 1 (length view.members)) done last (plainly_told p (Removal i) (RemoveHead i) (NewView (view.number + 1)) (λ n. n) is) (told_plainly p (RemoveHead i) LastMember (λ n. n) is))

    -- a keeper's call leaves the events and the lines
    after_call : (p : Playing Kind Op Shown) (place : ℕ) → IsTold p → IsTold (with_call p place)
    after_call p place is = record { leads = is.leads; grown = is.grown; lines = is.lines }

    called_told : (p : Playing Kind Op Shown) (place : ℕ) (event : Event Op) (head : Head Op) (answer failed : Answer Shown) → (IsReply answer → ⊥) → (IsReply failed → ⊥) → IsTold p → IsTold (called D p place event head answer failed)
    called_told p place event head answer failed unsaid never is =
        let after = with_call p place in
        if_holds IsTold (next_answer p place) (did_plainly D after event head answer) (told after head failed) (plainly_told after event head answer unsaid (after_call p place is)) (told_plainly after head failed never (after_call p place is))

    join_told : (p : Playing Kind Op Shown) (place : ℕ) → IsTold p → IsTold (join D p place)
    join_told p place is =
        let view = p.world.view in
        let yes = called D p place (Joining place) (JoinHead place) (NewIdentity view.given (view.number + 1)) ClearFailed in
        let many = told p (JoinHead place) TooManyIdentities in
        if_holds IsTold (is_taken view place) (told p (JoinHead place) PlaceTaken) (if nat_lt view.given identity_limit then yes else many) (told_plainly p (JoinHead place) PlaceTaken (λ n. n) is)
        (if_holds IsTold (nat_lt view.given identity_limit) yes many (called_told p place (Joining place) (JoinHead place) (NewIdentity view.given (view.number + 1)) ClearFailed (λ n. n) (λ n. n) is) (told_plainly p (JoinHead place) TooManyIdentities (λ n. n) is))

    restart_told : (p : Playing Kind Op Shown) (i : ℕ) → IsTold p → IsTold (restart D p i)
    restart_told p i is =
        let view = p.world.view in
        let yes = called D p (place_of view i) (Restart i) (RestartHead i) (NewIdentity view.given (view.number + 1)) LoadFailed in
        let many = told p (RestartHead i) TooManyIdentities in
        if_holds IsTold (not (is_member view i)) (told p (RestartHead i) Gone) (if nat_lt view.given identity_limit then yes else many) (told_plainly p (RestartHead i) Gone (λ n. n) is)
        (if_holds IsTold (nat_lt view.given identity_limit) yes many (called_told p (place_of view i) (Restart i) (RestartHead i) (NewIdentity view.given (view.number + 1)) LoadFailed (λ n. n) (λ n. n) is) (told_plainly p (RestartHead i) TooManyIdentities (λ n. n) is))

    asked_told : (p : Playing Kind Op Shown) (i : ℕ) (ask : Ask Op) → IsTold p → IsTold (asked D p i ask)
    asked_told p i ask is = by_input (input_of (views_of p.world) ask)
      where
        no_reply : (b : Bool) → IsReply {Shown = Shown} (if b then NoSuchView else Gone) → ⊥
        no_reply true n = n
        no_reply false n = n

        by_input : (o : Option (Input Op)) → IsTold (asked_by D p i ask o)
        by_input None = told_plainly p (Asked i ask) (if is_some (p.world.nodes i) then NoSuchView else Gone) (no_reply (is_some (p.world.nodes i))) is
        by_input (Some input) = given_told p (Asked i ask) (InputAt i input) (λ fate. tt) is

  -- A STEP

  module _ (members : ℕ) (keys : List (KeyDecl Kind)) (p : Playing Kind Op Shown) (is_run : IsRun D members keys p.events p.world) (silent : p.lines ≡ []) where
    abbrev Starts : Playing Kind Op Shown → Type 0
    Starts = IsTold (start members keys) p.events

    begins : Starts p
    begins = record { leads = is_run.leads; grown = ([], sym (append_nothing p.events)); lines = λ line h. in_none line (subst (λ ls. IsIn ls line) silent h) }

    -- the one line of a settle
    settled : Starts (settle D p)
    settled = record {
      leads = (step_is_run D members keys p ScriptStep.Settle tt is_run).leads;
      grown = played_appends D p ScriptStep.Settle tt;
      lines = λ line h.
          let installed = fold (install_last D) (record p { lines = [] }) (identities_of p.world.view) in
          let ticked = tick D (sweep D (tick D (sweep D (sweep D installed)))) in
          let end = sweep D ticked in
          let answer = settle_line D end (last_answer_blocked ticked) in
          let unsaid : IsReply answer → ⊥ = if_holds (λ a. IsReply a → ⊥) (has_met_full end) Stopped (Settled (posted end) (last_answer_blocked ticked)) (λ n. n) (λ n. n) in
          let plain = last_plain p.lines SettleHead answer silent line h in
          Plain (λ reply. unsaid (subst IsReply plain.0 reply)) plain.1;
    }

    pub step_told : (s : ScriptStep Op) → IsStep s → Starts (played D p s)
    step_told (ScriptStep.Asks i ask) ok = asked_told (start members keys) p.events p i ask begins
    step_told (ScriptStep.Deliver from to None) ok = deliver_told (start members keys) p.events p from to (p.world.links from to).next begins
    step_told (ScriptStep.Deliver from to (Some index)) ok = deliver_told (start members keys) p.events p from to index begins
    step_told (ScriptStep.Lose from to) ok = lose_told (start members keys) p.events p from to begins
    step_told ScriptStep.Round ok = round_told (start members keys) p.events p (due_now D p) begins
    step_told (ScriptStep.Timeout i op) ok = given_told (start members keys) p.events p (TimeoutHead i op) (InputAt i (Input.Timeout op)) (λ fate. tt) begins
    step_told (ScriptStep.Remove i) ok = remove_told (start members keys) p.events p i begins
    step_told (ScriptStep.Join place) ok = join_told (start members keys) p.events p place begins
    step_told (ScriptStep.Restart i) ok = restart_told (start members keys) p.events p i begins
    step_told ScriptStep.Settle ok = settled

  -- AN INPUT THAT IS ANSWERED

  pub record InputMade (p q : Playing Kind Op Shown) (i : ℕ) (input : Input Op) (reply : Reply Shown) (line : Told Op Shown) : Type 0 where
    pub fate : Fate
    pub events : q.events ≡ p.events ++ InputAt i input fate ∷ []
    pub replies : reply_in D p.world (InputAt i input fate) ≡ Some reply
    pub tells : output_lines D line.head (output_of D p.world (InputAt i input fate)) ≡ line ∷ []

  module _ (p : Playing Kind Op Shown) (silent : p.lines ≡ []) (head : Head Op) (i : ℕ) (input : Input Op) (line : Told Op Shown) (reply : Reply Shown) (replied : line.answer ≡ Replied reply) where
    abbrev MadeIn : Playing Kind Op Shown → Type 0
    MadeIn q = IsIn q.lines line → InputMade p q i input reply line

    never_plain : (answer : Answer Shown) → (IsReply answer → ⊥) → MadeIn (told p head answer)
    never_plain answer unsaid h = elim (in_append p.lines (record { head = head; answer = answer; posts = []; ended = None } ∷ []) line h) [
      | inl old ↦ in_none line (subst (λ ls. IsIn ls line) silent old)
      | inr new ↦
          let same : line.answer ≡ answer = ap (λ (t : Told Op Shown). t.answer) (in_one (record { head = head; answer = answer; posts = []; ended = None }) line new) in
          absurd (unsaid (subst IsReply (sym replied ∙ same) tt))
    ]

    made_by_turn : (turn : Turn Kind Op Shown) → MadeIn (take_turn D p head (InputAt i input) turn)
    made_by_turn turn = by (take_turn D p head (InputAt i input) turn) (turn_taken D p head (InputAt i input) turn)
      where
        by : (q : Playing Kind Op Shown) → TakesTurn D p q head (InputAt i input) turn → MadeIn q
        by q t h = elim (in_append p.lines (output_lines D head (output_of D p.world (InputAt i input t.fate))) line (subst (λ ls. IsIn ls line) t.lines h)) [
          | inl old ↦ in_none line (subst (λ ls. IsIn ls line) silent old)
          | inr new ↦
              let out = put_out head (output_of D p.world (InputAt i input t.fate)) line new in
              let same_head : line.head ≡ head = ap (λ (x : Told Op Shown). x.head) out.2 in
              let same_answer : Replied out.0.reply ≡ Replied reply = sym (ap (λ (x : Told Op Shown). x.answer) out.2) ∙ replied in
              let same_reply : out.0.reply ≡ reply = cc same_answer in
              record {
                fate = t.fate;
                events = t.events;
                replies = ap (option_map (λ (output : Output Op Shown). output.reply)) out.1 ∙ ap Some same_reply;
                tells = ap (λ (h : Head Op). output_lines D h (output_of D p.world (InputAt i input t.fate))) same_head ∙ ap (output_lines D head) out.1 ∙ ap (λ (x : Told Op Shown). x ∷ []) (sym out.2);
              }
        ]

    pub input_made : IsIn (given D p head (InputAt i input)).lines line → InputMade p (given D p head (InputAt i input)) i input reply line
    input_made = given_case MadeIn p head (InputAt i input) (never_plain Gone (λ n. n)) (never_plain HistoryFull (λ n. n)) made_by_turn
