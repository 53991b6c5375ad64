-- The settle theorem: from what a settle answers to the world that it leaves.
use Rattle.std.proofs.Common.{◌≡◌, ℕ, ◌-◌, ◌*◌, ◌<◌, ◌≤◌, List, [], ◌∷◌, ◌++◌, length, refl, sym, ap, subst, ◌∙◌, arith, Bool, true, false, Some}
use Rattle.std.specs.Prelude.{if◌then◌else◌, fold, filter, find, not, ◌==◌, ◌||◌, IsSome, option_map, unwrap_or}
use Rattle.std.specs.Str.{bytes_eq}
use Rattle.std.proofs.lemmas.Bool.{eq-eqb}
use Rattle.model_history.specs.History.{History, at, is_pruned}
use Rattle.model_members.specs.View.{View, is_member, leader, identities_of}
use Rattle.model_members.specs.DataType.{Replication}
use Rattle.model_members.specs.Node.{KeyDecl, Node, Input}
use Rattle.model_members.specs.Step.{step}
use Rattle.model_members.specs.World.{World, start, happens, IsRun}
use Rattle.model_members.specs.Script.{Ask, Playing, Told, Answer, given, exchange, sweep, tick, settle, has_met_full, posted, last_answer_blocked, blocked_in_answer, last_of}
use Rattle.model_members.specs.Script.Head.{Asked}
use Rattle.model_members.specs.World.Event.{InputAt}
use Rattle.theorem_runs.proofs.Happening.{all_of}
use Rattle.theorem_settling.specs.Settling.{installed_all, swept_twice, ticked_once, swept_again, ticked_twice, swept_last, settle_answer, DigestsTell, DigestsTellFrom, BlockedStays, IsSettled, HasBlocked, tick_event}
use Rattle.theorem_operations.proofs.Lists.{in_any, last_pushed}
use Rattle.theorem_operations.proofs.Moments.{Stands, stands_start, stands_run, safe_at}
use Rattle.theorem_operations.proofs.Calm.{IsCalm}
use Rattle.theorem_operations.proofs.Turns.{reply_is}
use Rattle.theorem_settling.proofs.PlayedSteps.{Runs, unless_is}
use Rattle.theorem_settling.proofs.SweepFolds.{TellsUntil, sweep_does, sweep_met, runs_of}
use Rattle.theorem_settling.proofs.Installs.{Lasts, InstalledAll, installs, calm_then}
use Rattle.theorem_settling.proofs.SettleTheorem.{TickDone, tick_done, sweep_is, others, are_others, few_others, few_sent, all_same, all_blocked, first_in, last_tick, last_ticking, runs_last_ticking}

module _ {Kind Op Shown : Type 0} (D : Replication Kind Op Shown) where
  -- WITHOUT ANY PREMISE

  -- some view with this member
  abbrev its_view : ℕ → View
  its_view j = record { number = 0; given = 0; members = record { identity = j; place = 0 } ∷ [] }

  its_member : (j : ℕ) → is_member (its_view j) j ≡ true
  its_member j = ap (λ b. b || false) (eq-eqb j j refl)

  module _ (members : ℕ) (keys : List (KeyDecl Kind)) where
    plain_sweep_met : (p : Playing Kind Op Shown) → has_met_full (sweep D p) ≡ false → has_met_full p ≡ false
    plain_sweep_met p e =
        let j = leader p.world.view in
        sweep_met D members keys (its_view j) j (its_member j) (filter (λ i. not (i == j)) (identities_of p.world.view)) p e

    plain_tick_met : (p : Playing Kind Op Shown) → has_met_full (tick D p) ≡ false → has_met_full p ≡ false
    plain_tick_met p e = (unless_is D members keys (λ (q : Playing Kind Op Shown). given D q (Asked (leader q.world.view) Ask.Tick) (InputAt (leader q.world.view) Input.PruneTick)) p e).1

    module _ (p : Playing Kind Op Shown) (ran_p : Runs D members keys p) (met : has_met_full (swept_last D p) ≡ false) where
      abbrev V : View
      V = p.world.view

      abbrev bare : Playing Kind Op Shown
      bare = record p { lines = [] }

      abbrev installed : Playing Kind Op Shown
      installed = installed_all D p

      -- NO HISTORY WAS FULL

      met_ticked_twice : has_met_full (ticked_twice D p) ≡ false
      met_ticked_twice = plain_sweep_met (ticked_twice D p) met

      met_swept_again : has_met_full (swept_again D p) ≡ false
      met_swept_again = plain_tick_met (swept_again D p) met_ticked_twice

      met_ticked_once : has_met_full (ticked_once D p) ≡ false
      met_ticked_once = plain_sweep_met (ticked_once D p) met_swept_again

      met_swept_twice : has_met_full (swept_twice D p) ≡ false
      met_swept_twice = plain_tick_met (swept_twice D p) met_ticked_once

      met_swept_once : has_met_full (sweep D installed) ≡ false
      met_swept_once = plain_sweep_met (sweep D installed) met_swept_twice

      met_installed : has_met_full installed ≡ false
      met_installed = plain_sweep_met installed met_swept_once

      -- THE INSTALLS

      lasts : Lasts D members keys V bare.world
      lasts =
          record {
            stands = subst (Stands D members keys) (sym ran_p.leads) (stands_run D members keys (start members keys) (stands_start D members keys ran_p.some ran_p.few) p.events ran_p.lawful);
            view = refl;
          }

      all_installed : InstalledAll D members keys V (identities_of V) bare installed
      all_installed = installs D members keys V (identities_of V) (all_of (λ i. is_member V i ≡ true) (identities_of V) (λ i h. in_any (identities_of V) i h)) bare lasts met_installed

      calm_installed : IsCalm D members keys V installed.world
      calm_installed = calm_then D members keys V bare installed all_installed

      ran_installed : Runs D members keys installed
      ran_installed = all_installed.ran ran_p

      pub lead_member : is_member V (leader V) ≡ true
      lead_member =
          let views = (safe_at D members keys p.world lasts.stands).views.views in
          let t = views.some V.number V views.listed in
          in_any (identities_of V) (leader V) (first_in (identities_of V) t.0 t.1)

      abbrev lead : ℕ
      lead = leader V

      -- THE SWEEPS AND TICKS ARE THOSE OF THE LEADER

      abbrev swept : Playing Kind Op Shown → Playing Kind Op Shown
      swept q = fold (exchange D lead) q (others D members keys V lead_member)

      record Equal (x y : Playing Kind Op Shown) : Type 0 where
        same : x ≡ y
        calm : IsCalm D members keys V y.world

      swept_equal : (x y : Playing Kind Op Shown) → Equal x y → has_met_full (sweep D x) ≡ false → Equal (sweep D x) (swept y)
      swept_equal x y e m =
          let same : sweep D x ≡ swept y = ap (sweep D) e.same ∙ sweep_is D members keys V lead_member y e.calm in
          record { same = same; calm = (sweep_does D members keys V lead lead_member (others D members keys V lead_member) (are_others D members keys V lead_member) y e.calm (ap has_met_full (sym same) ∙ m)).calm_after }

      ticked_equal : (x y : Playing Kind Op Shown) → Equal x y → has_met_full (tick D x) ≡ false → Equal (tick D x) (tick D y)
      ticked_equal x y e m =
          let same : tick D x ≡ tick D y = ap (tick D) e.same in
          let b = runs_of D members keys V lead lead_member y.world e.calm lead lead_member in
          record { same = same; calm = (tick_done D members keys V lead_member y e.calm b.0 b.1 (ap has_met_full (sym same) ∙ m)).calm_after }

      equal_swept_once : Equal (sweep D installed) (swept installed)
      equal_swept_once = swept_equal installed installed (record { same = refl; calm = calm_installed }) met_swept_once

      equal_swept_twice : Equal (swept_twice D p) (swept (swept installed))
      equal_swept_twice = swept_equal (sweep D installed) (swept installed) equal_swept_once met_swept_twice

      equal_ticked_once : Equal (ticked_once D p) (tick D (swept (swept installed)))
      equal_ticked_once = ticked_equal (swept_twice D p) (swept (swept installed)) equal_swept_twice met_ticked_once

      equal_swept_again : Equal (swept_again D p) (swept (tick D (swept (swept installed))))
      equal_swept_again = swept_equal (ticked_once D p) (tick D (swept (swept installed))) equal_ticked_once met_swept_again

      equal_ticked_twice : Equal (ticked_twice D p) (tick D (swept (tick D (swept (swept installed)))))
      equal_ticked_twice = ticked_equal (swept_again D p) (swept (tick D (swept (swept installed)))) equal_swept_again met_ticked_twice

      equal_swept_last : Equal (swept_last D p) (swept (tick D (swept (tick D (swept (swept installed))))))
      equal_swept_last = swept_equal (ticked_twice D p) (tick D (swept (tick D (swept (swept installed))))) equal_ticked_twice met

      abbrev ended : Playing Kind Op Shown
      ended = swept (tick D (swept (tick D (swept (swept installed)))))

      met_end : has_met_full ended ≡ false
      met_end = ap has_met_full (sym equal_swept_last.same) ∙ met

      -- FEW MESSAGES

      pub few_messages : posted (swept_last D p) ≤ 12 * (length V.members - 1)
      few_messages =
          let a = few_sent D members keys V lead_member installed calm_installed ran_installed met_end in
          let b : posted (swept_last D p) ≡ posted ended = ap posted equal_swept_last.same in
          let c : posted installed ≡ 0 = all_installed.silent in
          let d = few_others D members keys V lead_member in
          omega arith

      -- THE SECOND TICK

      the_tick : TickDone D members keys V lead_member (swept (tick D (swept (swept installed)))) (tick D (swept (tick D (swept (swept installed))))) (last_ticking D members keys V lead_member installed calm_installed ran_installed met_end)
      the_tick = last_tick D members keys V lead_member installed calm_installed ran_installed met_end

      pub second_tick : HasBlocked D p (last_answer_blocked (ticked_twice D p))
      second_tick =
          let t = the_tick in
          let b = last_ticking D members keys V lead_member installed calm_installed ran_installed met_end in
          let lines : (ticked_twice D p).lines ≡ (swept (tick D (swept (swept installed)))).lines ++ t.did.line ∷ [] = ap (λ (q : Playing Kind Op Shown). q.lines) equal_ticked_twice.same ∙ t.did.lines in
          record {
            fate = t.fate;
            reply = (step D b Input.PruneTick t.fate).output.reply;
            ticks = ap (λ (q : Playing Kind Op Shown). q.world) equal_ticked_twice.same ∙ t.did.world ∙ ap (happens D (swept (tick D (swept (swept installed)))).world) t.event_is
                ∙ ap (λ (q : Playing Kind Op Shown). happens D q.world (tick_event D p t.fate)) (sym equal_swept_again.same);
            replies = reply_is D (swept_again D p).world lead b Input.PruneTick t.fate (ap (λ (q : Playing Kind Op Shown). q.world.nodes lead) equal_swept_again.same ∙ runs_last_ticking D members keys V lead_member installed calm_installed ran_installed met_end);
            count = ap (λ (ls : List (Told Op Shown)). unwrap_or (option_map (λ (x : Told Op Shown). blocked_in_answer x.answer) (last_of ls)) 0) lines
                ∙ ap (λ o. unwrap_or (option_map (λ (x : Told Op Shown). blocked_in_answer x.answer) o) 0) (last_pushed (swept (tick D (swept (swept installed)))).lines t.did.line) ∙ ap blocked_in_answer t.did.answer;
          }

      module _ (blocked_stays : BlockedStays D) (tells : TellsUntil D members keys V lead lead_member ended.events) where
        -- A SETTLED WORLD

        key_declared : (decl : KeyDecl Kind) → find (λ (d : KeyDecl Kind). bytes_eq d.name decl.name) ended.world.keys ≡ Some decl → find (λ (d : KeyDecl Kind). bytes_eq d.name decl.name) keys ≡ Some decl
        key_declared decl e = ap (find (λ (d : KeyDecl Kind). bytes_eq d.name decl.name)) (sym equal_swept_last.calm.stands.same_keys) ∙ e

        is_running : (t : ℕ) (n : Node Kind Op Shown) → ended.world.nodes t ≡ Some n → is_member V t ≡ true
        is_running t n e = ap (λ (v : View). is_member v t) (sym equal_swept_last.calm.view) ∙ ((safe_at D members keys ended.world equal_swept_last.calm.stands).views.running t n e).last

        leads_end : (n : Node Kind Op Shown) × (ended.world.nodes lead ≡ Some n)
        leads_end = runs_of D members keys V lead lead_member ended.world equal_swept_last.calm lead lead_member

        like_leader : (t : ℕ) (n : Node Kind Op Shown) (decl : KeyDecl Kind) → ended.world.nodes t ≡ Some n → find (λ (d : KeyDecl Kind). bytes_eq d.name decl.name) ended.world.keys ≡ Some decl → (n.entries decl.name).history ≡ (leads_end.0.entries decl.name).history
        like_leader t n decl e declared =
            all_same D members keys V lead_member installed calm_installed ran_installed met_end tells decl.name decl (key_declared decl declared) t n leads_end.0 (is_running t n e) e leads_end.1

        settled : IsSettled D ended.world
        settled =
            record {
              same = λ i j a b decl ra rb declared. like_leader i a decl ra declared ∙ sym (like_leader j b decl rb declared);
              blocked = λ i node decl r runs declared given removed more unpruned.
                  let like = like_leader i node decl runs declared in
                  let same_view : ended.world.view ≡ V = equal_swept_last.calm.view in
                  subst (λ j. IsSome (D.data_type.blocked decl.kind j r (node.entries decl.name).history)) (ap leader (sym same_view))
                  (subst (λ (H : History Op). IsSome (D.data_type.blocked decl.kind lead r H)) (sym like)
                  (all_blocked D members keys V lead_member installed calm_installed ran_installed met_end tells decl.name decl (key_declared decl declared) blocked_stays r (subst (λ (v : View). r < v.given) same_view given) (ap (λ (v : View). is_member v r) (sym same_view) ∙ removed)
                  leads_end.0 leads_end.1 (subst (λ (H : History Op). 0 < at H r) like more) (ap (λ (H : History Op). is_pruned H r) (sym like) ∙ unpruned)));
            }

        pub is_settled : IsSettled D (swept_last D p).world
        is_settled = subst (λ (q : Playing Kind Op Shown). IsSettled D q.world) (sym equal_swept_last.same) settled

    -- WHAT A SETTLE ANSWERS

    record Answered (p : Playing Kind Op Shown) (messages blocked : ℕ) : Type 0 where
      not_met : has_met_full (swept_last D p) ≡ false
      sent : messages ≡ posted (swept_last D p)
      second : blocked ≡ last_answer_blocked (ticked_twice D p)

    answered_done : (p : Playing Kind Op Shown) (messages blocked : ℕ) → settle_answer D p ≡ Answer.Settled messages blocked → Answered p messages blocked
    answered_done p messages blocked e = by (has_met_full (swept_last D p)) refl e
      where
        by : (b : Bool) → has_met_full (swept_last D p) ≡ b → ◌≡◌ {A = Answer Shown} (if b then Answer.Stopped else Answer.Settled (posted (swept_last D p)) (last_answer_blocked (ticked_twice D p))) (Answer.Settled messages blocked) → Answered p messages blocked
        by true is f = absurd (cc f)
        by false is f =
            let a : posted (swept_last D p) ≡ messages = cc f in
            let b : last_answer_blocked (ticked_twice D p) ≡ blocked = cc f in
            record { not_met = is; sent = sym a; second = sym b }

  -- THE THEOREM

  module _ (members : ℕ) (keys : List (KeyDecl Kind)) (p : Playing Kind Op Shown) (ran : IsRun D members keys p.events p.world) (messages blocked : ℕ) (answer : settle_answer D p ≡ Answer.Settled messages blocked) where
    done : Answered members keys p messages blocked
    done = answered_done members keys p messages blocked answer

    until_end : DigestsTellFrom D (start members keys) (settle D p).events → TellsUntil D members keys p.world.view (leader p.world.view) (lead_member members keys p ran done.not_met) (ended members keys p ran done.not_met).events
    until_end digests x ran_x later e =
        subst (λ (w : World Kind Op Shown). DigestsTell D w) (sym ran_x.leads)
        (digests x.events later (ap (λ (q : Playing Kind Op Shown). q.events) (equal_swept_last members keys p ran done.not_met).same ∙ e))

    pub leaves_settled : DigestsTellFrom D (start members keys) (settle D p).events → BlockedStays D → IsSettled D (settle D p).world
    leaves_settled digests blocked_stays = is_settled members keys p ran done.not_met blocked_stays (until_end digests)

    pub sends_few : messages ≤ 12 * (length p.world.view.members - 1)
    sends_few = let a = few_messages members keys p ran done.not_met in let b = done.sent in omega arith

    pub counts_blocked : HasBlocked D p blocked
    counts_blocked = subst (HasBlocked D p) (sym done.second) (second_tick members keys p ran done.not_met)
