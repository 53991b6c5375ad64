-- A settle.
--     told_asked        a member is asked
--     told_install, told_tick, told_gossip, told_delivery        its calls that tell one event
--     exchange_ends        an exchange: a member gossips to the leader, and at most three messages are delivered as they are sent
--     halts_installs, halts_sweep_1 .. halts_sweep_2        memory was wanted in a part
--     plays_stopped, plays_settled, remains_settle        the contract of the step
--     remains_same        what stands before the first call of any step
use Rattle.std.proofs.Common.{option_map, ◌≡◌, ◌≢◌, ℕ, ◌-◌, ◌<◌, List, [], ◌∷◌, ◌++◌, refl, sym, ap, ◌∙◌, Bool, true, false, Option, Some, None, subst, Ok, Err}
use Rattle.std.specs.List.{AllZip}
use Rattle.std.specs.Prelude.{if◌then◌else◌, nat_lt, ◌==◌, Result, OnOk}
use Rattle.std.proofs.lemmas.Bool.{false_from_ne_true, eq-eqb, ne_eqb}
use Rattle.model_history.specs.Table.{identity_limit}
use Rattle.model_history.specs.Texts.{Text}
use Rattle.model_history.specs.History.{History}
use Rattle.model_history.proofs.HistoryLaws.{append_nothing}
use Rattle.model_kinds.specs.declared.operation.Op.{Op}
use Rattle.model_kinds.specs.declared.shown.Shown.{Shown}
use Rattle.model_members.specs.Node as nodes
use Rattle.model_members.specs.Script as script
use Rattle.model_members.specs.View.{View, leader}
use Rattle.model_members.specs.DataType.{Replication}
use Rattle.model_members.specs.Node.{KeyDecl, Input}
use Rattle.model_members.specs.World.Event.{InputAt}
use Rattle.model_members.specs.Script.{Playing, Head, given, deliver, asked, asked_by, last_number, unless_full, deliver_last, tick, is_older, install_last, ScriptStep, sweep, posted, last_answer_blocked, settle_line, played}
use Rattle.theorem_runs.proofs.Safety.{runs_are_safe}
use Rattle.member_views.specs.Sound.{last_view}
use Rattle.member_keeper.specs.declared.keeper.Keeper.{Ghosts as Keeping}
use Rattle.data_lattice.specs.declared.replica.Replica.{Ghosts}
use Rattle.data_lattice.specs.declared.spelled.SpelledData.{Ghosts as Spelling}
use Rattle.member_node.specs.declared.node.Node.{Node}
use Rattle.member_node.specs.Steps.{replication}
use Rattle.script_reading.specs.Meant.{ask_of}
use Rattle.script_reading.specs.declared.ask.Ask.{Ask}
use Rattle.script_reading.specs.declared.ask.Ask.TheVariants as question
use Rattle.script_reading.specs.declared.script.Step.TheVariants as form
use Rattle.script_reading.specs.declared.script.Step.{Step}
use Rattle.world_members.specs.declared.event.Answer.TheVariants as answer
use Rattle.world_members.specs.declared.event.Head.TheVariants as head
use Rattle.world_members.specs.declared.event.Event.{Event}
use Rattle.world_members.specs.declared.world.World.{World}
use Rattle.world_places.specs.Channels.{channel_at, count_on}
use Rattle.world_members.specs.Giving.{Does, IsAsBefore, delivers}
use Rattle.world_members.specs.Lines.{is_damage, IsLine, IsAnswer}
use Rattle.world_places.specs.Places.{member_of}
use Rattle.world_members.specs.Settling.{met_full, sent_in, is_behind, gossips, Settles, HaltsIn, SettlesOr, exchanges, last_blocked, installs, sweeps_twice}
use Rattle.world_places.specs.Standing.{StandsForRunning}
use Rattle.world_members.specs.Steps.{Plays, Remains, Foretells, Reaches}
use Rattle.world_members.specs.Ways.{Means, IsPrefix}
use Rattle.world_places.specs.Keeping.{Given}
use Rattle.world_members.specs.declared.event.Answer.{Answer}
use Rattle.world_members.proofs.Telling.{view_of, plays_does}
use Rattle.world_members.proofs.Steps.{same_count}
use Rattle.world_members.proofs.Onward.{way_logs, means_same}
use Rattle.world_members.proofs.Sequences.{GoesOn, does_as, given_then, foretells_first, goes_then}
use Rattle.world_members.proofs.Standings.{as_it_was}
use Rattle.world_members.proofs.SettleParts.{told_sent, settles_none, settles_as, settles_or_as, halts_before, settles_skipped, halts_unless, told_unless, goes_given, goes_delivery, goes_install, goes_last, settles_then, settles_known, halts_second, halts_done, halts_known, after_status, after_answer, goes_gossips, goes_status, goes_answer, on_gossip, on_status, on_answer, told_full, told_blocked, halts_first, goes_installs, goes_sweep, goes_sweeps_twice, goes_tick}
use Rattle.world_members.proofs.Rounding.{remains_still}

module _ {Kind Op Shown : Type 0} (D : Replication Kind Op Shown) where
  -- THE PARTS

  abbrev pub swept_twice : Playing Kind Op Shown → Playing Kind Op Shown
  swept_twice p = sweeps_twice D (installs D p)

  abbrev pub ticked_once : Playing Kind Op Shown → Playing Kind Op Shown
  ticked_once p = tick D (swept_twice p)

  abbrev pub swept_again : Playing Kind Op Shown → Playing Kind Op Shown
  swept_again p = sweep D (ticked_once p)

  abbrev pub ticked_twice : Playing Kind Op Shown → Playing Kind Op Shown
  ticked_twice p = tick D (swept_again p)

  abbrev pub swept_last : Playing Kind Op Shown → Playing Kind Op Shown
  swept_last p = sweep D (ticked_twice p)

  goes_twice : GoesOn swept_twice
  goes_twice = goes_then (installs D) (sweeps_twice D) (goes_installs D) (goes_sweeps_twice D)

  goes_ticked : GoesOn ticked_once
  goes_ticked = goes_then swept_twice (tick D) goes_twice (goes_tick D)

  goes_again : GoesOn swept_again
  goes_again = goes_then ticked_once (sweep D) goes_ticked (goes_sweep D)

  goes_ticked_twice : GoesOn ticked_twice
  goes_ticked_twice = goes_then swept_again (tick D) goes_again (goes_tick D)

  goes_all : GoesOn swept_last
  goes_all = goes_then ticked_twice (sweep D) goes_ticked_twice (goes_sweep D)

  -- WHERE MEMORY IS WANTED

  abbrev after_tick : Playing Kind Op Shown → Playing Kind Op Shown
  after_tick p = sweep D (tick D p)

  abbrev after_both : Playing Kind Op Shown → Playing Kind Op Shown
  after_both p = after_tick (sweep D (tick D p))

  goes_after_tick : GoesOn after_tick
  goes_after_tick = goes_then (tick D) (sweep D) (goes_tick D) (goes_sweep D)

  goes_after_third : GoesOn (λ p. after_tick (sweep D p))
  goes_after_third = goes_then (sweep D) after_tick (goes_sweep D) goes_after_tick

  goes_after_both : GoesOn after_both
  goes_after_both = goes_then (tick D) (λ p. after_tick (sweep D p)) (goes_tick D) (goes_then (sweep D) after_tick (goes_sweep D) goes_after_tick)

  goes_after_installs : GoesOn (λ p. after_both (sweeps_twice D p))
  goes_after_installs = goes_then (sweeps_twice D) after_both (goes_sweeps_twice D) goes_after_both

-- with no lines
abbrev apart : {Kind Op Shown : Type 0} → Playing Kind Op Shown → Playing Kind Op Shown
apart p = record p { lines = [] }

module _ {T K Kind Delta : Type 0} {ghosts : Ghosts T Kind Op Delta} {keeping : Keeping K} (spelling : Spelling T Kind Op Delta) where
  module _ (a b : World T K Kind Op Delta ghosts keeping) where
    -- A QUESTION

    remains_asked : (i : ℕ) (ask : Ask) → Remains spelling (form.Ask i ask) a b → IsAsBefore spelling a b
    remains_asked i ask r = record { kept = r.kept; stays = r.remains }

    module _ (i : ℕ) (ask : Ask) (goes : Playing Kind Op Shown → Playing Kind Op Shown) (on : GoesOn goes) (same : (kinds : Text → Kind) (members : ℕ) (decls : List (KeyDecl Kind)) (p : Playing Kind Op Shown) → Means spelling kinds members decls p a → asked (replication ghosts spelling) p i (ask_of ask) ≡ goes p)
        (es : List Event) (room : met_full es ≡ false) where
      told_asked : (event : Event) → Plays spelling (form.Ask i ask) a b (event ∷ []) → (fs : List Event) {X E : Type 0} (pushed : Result X E) → OnOk pushed (fs ≡ es ++ event ∷ []) → SettlesOr spelling (unless_full (replication ghosts spelling) goes) a b es fs pushed
      told_asked event plays fs pushed is =
          told_unless spelling goes a b es on room fs event
          (does_as spelling (λ p. asked (replication ghosts spelling) p i (ask_of ask)) goes a b (event ∷ []) same
          (record { given = plays.given; kept = plays.kept; undamaged = false_from_ne_true (is_damage event.answer) (λ e. let d = plays.damaged e in cc d.restarts); leads = (plays.does tt).1 })) pushed is

      halts_asked : Remains spelling (form.Ask i ask) a b → HaltsIn spelling (unless_full (replication ghosts spelling) goes) a b es
      halts_asked r = halts_unless spelling goes a b es room (halts_before spelling goes on a b es (remains_asked i ask r))

    -- GOSSIP

    module _ (lead i : ℕ) (es : List Event) (room : met_full es ≡ false) where
      abbrev gossip : Playing Kind Op Shown → Playing Kind Op Shown
      gossip p = given (replication ghosts spelling) p (Head.Asked i (script.Ask.Gossip lead)) (InputAt i (Input.GossipTo lead))

      goes_gossip : GoesOn gossip
      goes_gossip = goes_given (replication ghosts spelling) (λ p. Head.Asked i (script.Ask.Gossip lead)) (λ p. InputAt i (Input.GossipTo lead))

      pub told_gossip : (event : Event) → Plays spelling (form.Ask i (question.Gossip lead)) a b (event ∷ []) → (fs : List Event) {X E : Type 0} (pushed : Result X E) → OnOk pushed (fs ≡ es ++ event ∷ []) → SettlesOr spelling (gossips (replication ghosts spelling) lead i) a b es fs pushed
      told_gossip = told_asked i (question.Gossip lead) gossip goes_gossip (λ kinds members decls p m. refl) es room

      pub halts_gossip_call : Remains spelling (form.Ask i (question.Gossip lead)) a b → HaltsIn spelling (gossips (replication ghosts spelling) lead i) a b es
      halts_gossip_call = halts_asked i (question.Gossip lead) gossip goes_gossip (λ kinds members decls p m. refl) es room

    pub skips_gossip : (lead i : ℕ) (es : List Event) → met_full es ≡ true → Settles spelling (gossips (replication ghosts spelling) lead i) a a es es
    skips_gossip lead i es full = settles_skipped spelling (λ p. given (replication ghosts spelling) p (Head.Asked i (script.Ask.Gossip lead)) (InputAt i (Input.GossipTo lead))) a a es full

    -- A TICK OF THE LEADER

    module _ (lead : ℕ) (leads : lead ≡ leader (last_view a.views)) (es : List Event) (room : met_full es ≡ false) where
      abbrev ticked : Playing Kind Op Shown → Playing Kind Op Shown
      ticked p = given (replication ghosts spelling) p (Head.Asked (leader p.world.view) script.Ask.Tick) (InputAt (leader p.world.view) Input.PruneTick)

      goes_tick_of : GoesOn ticked
      goes_tick_of = goes_given (replication ghosts spelling) (λ p. Head.Asked (leader p.world.view) script.Ask.Tick) (λ p. InputAt (leader p.world.view) Input.PruneTick)

      ticks_so : (kinds : Text → Kind) (members : ℕ) (decls : List (KeyDecl Kind)) (p : Playing Kind Op Shown) → Means spelling kinds members decls p a → asked (replication ghosts spelling) p lead script.Ask.Tick ≡ ticked p
      ticks_so kinds members decls p m = ap (λ l. given (replication ghosts spelling) p (Head.Asked l script.Ask.Tick) (InputAt l Input.PruneTick)) (leads ∙ ap leader (view_of spelling kinds members decls p a m))

      pub told_tick : (event : Event) → Plays spelling (form.Ask lead question.Tick) a b (event ∷ []) → (fs : List Event) {X E : Type 0} (pushed : Result X E) → OnOk pushed (fs ≡ es ++ event ∷ []) → SettlesOr spelling (tick (replication ghosts spelling)) a b es fs pushed
      told_tick = told_asked lead question.Tick ticked goes_tick_of ticks_so es room

      pub halts_tick_call : Remains spelling (form.Ask lead question.Tick) a b → HaltsIn spelling (tick (replication ghosts spelling)) a b es
      halts_tick_call = halts_asked lead question.Tick ticked goes_tick_of ticks_so es room

    pub skips_tick : (es : List Event) → met_full es ≡ true → Settles spelling (tick (replication ghosts spelling)) a a es es
    skips_tick es full = settles_skipped spelling (λ p. given (replication ghosts spelling) p (Head.Asked (leader p.world.view) script.Ask.Tick) (InputAt (leader p.world.view) Input.PruneTick)) a a es full

    -- A MESSAGE

    module _ (before from to : ℕ) (small : from < identity_limit) (few : to < identity_limit) (es : List Event) where
      abbrev last_delivered : Playing Kind Op Shown → Playing Kind Op Shown
      last_delivered p = deliver (replication ghosts spelling) p from to (last_number p from to)

      same_posted : (same : Bool) → (before == sent_in es) ≡ same → (p : Playing Kind Op Shown) → AllZip IsLine es p.lines → deliver_last (replication ghosts spelling) before from to p ≡ (if same then p else unless_full (replication ghosts spelling) last_delivered p)
      same_posted same test p told = ap (λ x. if x then p else unless_full (replication ghosts spelling) last_delivered p) (ap (λ n. before == n) (told_sent p es told) ∙ test)

      pub skips_same : before ≡ sent_in es → Settles spelling (deliver_last (replication ghosts spelling) before from to) a a es es
      skips_same same = settles_as spelling (λ p. p) (deliver_last (replication ghosts spelling) before from to) a a es (λ kinds members decls p m told. sym (same_posted true (eq-eqb before (sent_in es) same) p told)) es (settles_none spelling a es)

      -- memory was wanted for the count
      pub halts_uncounted : HaltsIn spelling (deliver_last (replication ghosts spelling) before from to) a a es
      halts_uncounted = halts_before spelling (deliver_last (replication ghosts spelling) before from to) (goes_last (replication ghosts spelling) before from to) a a es (as_it_was spelling a)

      module _ (more : before ≢ sent_in es) where
        pub skips_delivery : met_full es ≡ true → Settles spelling (deliver_last (replication ghosts spelling) before from to) a a es es
        skips_delivery full =
            settles_as spelling (unless_full (replication ghosts spelling) last_delivered) (deliver_last (replication ghosts spelling) before from to) a a es (λ kinds members decls p m told. sym (same_posted false (ne_eqb before (sent_in es) more) p told)) es
            (settles_skipped spelling last_delivered a a es full)

        module _ (room : met_full es ≡ false) (last : ℕ) (is_last : last ≡ count_on (channel_at a.links from to) - 1) where
          does_delivery : (event : Event) → Does spelling (delivers ghosts spelling from to last) a b (event ∷ []) → Does spelling last_delivered a b (event ∷ [])
          does_delivery event d =
              does_as spelling (delivers ghosts spelling from to last) last_delivered a b (event ∷ []) (λ kinds members decls p m. ap (deliver (replication ghosts spelling) p from to) (is_last ∙ ap (λ n. n - 1) (sym (same_count spelling a from to small few kinds members decls p m)))) d

          pub told_delivery : (event : Event) → Does spelling (delivers ghosts spelling from to last) a b (event ∷ []) → (fs : List Event) {X E : Type 0} (pushed : Result X E) → OnOk pushed (fs ≡ es ++ event ∷ []) → SettlesOr spelling (deliver_last (replication ghosts spelling) before from to) a b es fs pushed
          told_delivery event d fs pushed is =
              settles_or_as spelling (unless_full (replication ghosts spelling) last_delivered) (deliver_last (replication ghosts spelling) before from to) a b es (λ kinds members decls p m told. sym (same_posted false (ne_eqb before (sent_in es) more) p told)) fs pushed
              (told_unless spelling last_delivered a b es (goes_delivery (replication ghosts spelling) from to) room fs event (does_delivery event d) pushed is)

          pub halts_delivery : IsAsBefore spelling a b → HaltsIn spelling (deliver_last (replication ghosts spelling) before from to) a b es
          halts_delivery stays = halts_before spelling (deliver_last (replication ghosts spelling) before from to) (goes_last (replication ghosts spelling) before from to) a b es stays

    -- A VIEW TAKEN UP

    module _ (i : ℕ) where
      abbrev takes_up : Playing Kind Op Shown → Playing Kind Op Shown
      takes_up p = given (replication ghosts spelling) p (Head.Asked i (script.Ask.Install p.world.view.number)) (InputAt i (Input.Install p.world.view))

      goes_up : GoesOn takes_up
      goes_up = goes_given (replication ghosts spelling) (λ p. Head.Asked i (script.Ask.Install p.world.view.number)) (λ p. InputAt i (Input.Install p.world.view))

      abbrev by_behind : Playing Kind Op Shown → Bool → Playing Kind Op Shown
      by_behind p x = if x then unless_full (replication ghosts spelling) takes_up p else p

      installs_last : (number : ℕ) → number ≡ (last_view a.views).number → (kinds : Text → Kind) (members : ℕ) (decls : List (KeyDecl Kind)) (p : Playing Kind Op Shown) → Means spelling kinds members decls p a → asked (replication ghosts spelling) p i (script.Ask.Install number) ≡ takes_up p
      installs_last number numbered kinds members decls p m =
          ap (λ n. asked (replication ghosts spelling) p i (script.Ask.Install n)) (numbered ∙ ap (λ (v : View). v.number) (view_of spelling kinds members decls p a m))
          ∙ ap (λ o. asked_by (replication ghosts spelling) p i (script.Ask.Install p.world.view.number) (option_map Input.Install o)) (runs_are_safe (replication ghosts spelling) members decls p.events p.world m.run).views.views.listed

      module _ (behind : Bool) (is : behind ≡ is_behind (last_view a.views) (member_of (last_view a.views) a.nodes.items i)) where
        module _ (kinds : Text → Kind) (members : ℕ) (decls : List (KeyDecl Kind)) (p : Playing Kind Op Shown) (m : Means spelling kinds members decls p a) where
          by_member : (logs : Text → History Op) (view : View) (o : Option (Node T K Kind Op Delta ghosts keeping)) (running : Option (nodes.Node Kind Op Shown)) → StandsForRunning spelling kinds logs o running → is_older (replication ghosts spelling) view running ≡ is_behind view o
          by_member logs view None running s = ap (is_older (replication ghosts spelling) view) s
          by_member logs view (Some code) running s = ap (is_older (replication ghosts spelling) view) s.1 ∙ ap (λ (v : View). nat_lt v.number view.number) s.2.view

          older_is : is_older (replication ghosts spelling) p.world.view (p.world.nodes i) ≡ behind
          older_is =
              let l = way_logs (replication ghosts spelling) members decls p m.run in
              by_member l.0 p.world.view (member_of (last_view a.views) a.nodes.items i) (p.world.nodes i) ((m.stands l.0 l.1).running i)
              ∙ ap (λ (v : View). is_behind v (member_of (last_view a.views) a.nodes.items i)) (sym (view_of spelling kinds members decls p a m)) ∙ sym is

        module _ (es : List Event) where
          pub skips_upto_date : behind ≡ false → Settles spelling (λ p. install_last (replication ghosts spelling) p i) a a es es
          skips_upto_date no_more =
              settles_as spelling (λ p. p) (λ p. install_last (replication ghosts spelling) p i) a a es (λ kinds members decls p m told. sym (ap (by_behind p) (older_is kinds members decls p m ∙ no_more))) es (settles_none spelling a es)

          module _ (late : behind ≡ true) where
            takes_so : (kinds : Text → Kind) (members : ℕ) (decls : List (KeyDecl Kind)) (p : Playing Kind Op Shown) → Means spelling kinds members decls p a → AllZip IsLine es p.lines → unless_full (replication ghosts spelling) takes_up p ≡ install_last (replication ghosts spelling) p i
            takes_so kinds members decls p m told = sym (ap (by_behind p) (older_is kinds members decls p m ∙ late))

            pub skips_install : met_full es ≡ true → Settles spelling (λ p. install_last (replication ghosts spelling) p i) a a es es
            skips_install full = settles_as spelling (unless_full (replication ghosts spelling) takes_up) (λ p. install_last (replication ghosts spelling) p i) a a es takes_so es (settles_skipped spelling takes_up a a es full)

            module _ (room : met_full es ≡ false) (number : ℕ) (numbered : number ≡ (last_view a.views).number) where
              pub told_install : (event : Event) → Plays spelling (form.Ask i (question.Install number)) a b (event ∷ []) → (fs : List Event) {X E : Type 0} (pushed : Result X E) → OnOk pushed (fs ≡ es ++ event ∷ []) → SettlesOr spelling (λ p. install_last (replication ghosts spelling) p i) a b es fs pushed
              told_install event plays fs pushed pushes =
                  settles_or_as spelling (unless_full (replication ghosts spelling) takes_up) (λ p. install_last (replication ghosts spelling) p i) a b es takes_so fs pushed (told_asked i (question.Install number) takes_up goes_up (installs_last number numbered) es room event plays fs pushed pushes)

              pub halts_install : Remains spelling (form.Ask i (question.Install number)) a b → HaltsIn spelling (λ p. install_last (replication ghosts spelling) p i) a b es
              halts_install r = halts_before spelling (λ p. install_last (replication ghosts spelling) p i) (goes_install (replication ghosts spelling) i) a b es (remains_asked i (question.Install number) r)

  -- AN EXCHANGE

  module _ (lead i : ℕ) (a b : World T K Kind Op Delta ghosts keeping) (es fs : List Event) where
    -- memory was wanted for the gossip
    pub halts_gossip : HaltsIn spelling (gossips (replication ghosts spelling) lead i) a b es → HaltsIn spelling (exchanges (replication ghosts spelling) lead i) a b es
    halts_gossip halts = halts_known spelling (gossips (replication ghosts spelling) lead i) (exchanges (replication ghosts spelling) lead i) a b es halts (λ kinds members decls p m foretold told. on_gossip (replication ghosts spelling) lead i p)

    module _ (first : Settles spelling (gossips (replication ghosts spelling) lead i) a b es fs) where
      -- after the gossip
      pub halts_gossiped : HaltsIn spelling (exchanges (replication ghosts spelling) lead i) a b es
      halts_gossiped =
          halts_known spelling (gossips (replication ghosts spelling) lead i) (exchanges (replication ghosts spelling) lead i) a b es (halts_done spelling (gossips (replication ghosts spelling) lead i) (goes_gossips (replication ghosts spelling) lead i) a b es fs first) (λ kinds members decls p m foretold told. on_gossip (replication ghosts spelling) lead i p)

      module _ (before : ℕ) (counts : before ≡ sent_in es) (c : World T K Kind Op Delta ghosts keeping) where
        -- what is counted in the events is what the script has posted
        status_is : (p : Playing Kind Op Shown) → AllZip IsLine es p.lines → deliver_last (replication ghosts spelling) before i lead (gossips (replication ghosts spelling) lead i p) ≡ after_status (replication ghosts spelling) lead i p
        status_is p told = ap (λ n. deliver_last (replication ghosts spelling) n i lead (gossips (replication ghosts spelling) lead i p)) (counts ∙ sym (told_sent p es told))

        pub halts_status : HaltsIn spelling (deliver_last (replication ghosts spelling) before i lead) b c fs → HaltsIn spelling (exchanges (replication ghosts spelling) lead i) a c es
        halts_status halts =
            halts_known spelling (λ p. deliver_last (replication ghosts spelling) before i lead (gossips (replication ghosts spelling) lead i p)) (exchanges (replication ghosts spelling) lead i) a c es
            (halts_second spelling (gossips (replication ghosts spelling) lead i) (deliver_last (replication ghosts spelling) before i lead) (goes_gossips (replication ghosts spelling) lead i) a b c es fs first halts)
            (λ kinds members decls p m foretold told. subst (λ (q : Playing Kind Op Shown). IsPrefix q.events (exchanges (replication ghosts spelling) lead i p).events) (sym (status_is p told)) (on_status (replication ghosts spelling) lead i p))

        module _ (gs : List Event) (second : Settles spelling (deliver_last (replication ghosts spelling) before i lead) b c fs gs) where
          abbrev statuses : Settles spelling (after_status (replication ghosts spelling) lead i) a c es gs
          statuses =
              settles_as spelling (λ p. deliver_last (replication ghosts spelling) before i lead (gossips (replication ghosts spelling) lead i p)) (after_status (replication ghosts spelling) lead i) a c es (λ kinds members decls p m told. status_is p told) gs
              (settles_then spelling (gossips (replication ghosts spelling) lead i) (deliver_last (replication ghosts spelling) before i lead) (goes_gossips (replication ghosts spelling) lead i) a b c es fs first gs second)

          -- after the first delivery
          pub halts_statused : HaltsIn spelling (exchanges (replication ghosts spelling) lead i) a c es
          halts_statused =
              halts_known spelling (after_status (replication ghosts spelling) lead i) (exchanges (replication ghosts spelling) lead i) a c es (halts_done spelling (after_status (replication ghosts spelling) lead i) (goes_status (replication ghosts spelling) lead i) a c es gs statuses) (λ kinds members decls p m foretold told. on_status (replication ghosts spelling) lead i p)

          module _ (after : ℕ) (counted : after ≡ sent_in fs) (d : World T K Kind Op Delta ghosts keeping) where
            -- the answers foretold for more are foretold for this
            answer_is : (more : Given) (kinds : Text → Kind) (members : ℕ) (decls : List (KeyDecl Kind)) (p : Playing Kind Op Shown) → Means spelling kinds members decls p a → Foretells p (given_then statuses.given more) → AllZip IsLine es p.lines
                → deliver_last (replication ghosts spelling) after lead i (after_status (replication ghosts spelling) lead i p) ≡ after_answer (replication ghosts spelling) lead i p
            answer_is more kinds members decls p m foretold told =
                let both = foretells_first p statuses.given more foretold in
                let one = first.leads kinds members decls p m (foretells_first p first.given second.given both) told in
                ap (λ n. deliver_last (replication ghosts spelling) n lead i (after_status (replication ghosts spelling) lead i p)) (counted ∙ sym (told_sent (gossips (replication ghosts spelling) lead i p) fs one.lines))

            pub halts_answer : HaltsIn spelling (deliver_last (replication ghosts spelling) after lead i) c d gs → HaltsIn spelling (exchanges (replication ghosts spelling) lead i) a d es
            halts_answer halts =
                halts_known spelling (λ p. deliver_last (replication ghosts spelling) after lead i (after_status (replication ghosts spelling) lead i p)) (exchanges (replication ghosts spelling) lead i) a d es
                (halts_second spelling (after_status (replication ghosts spelling) lead i) (deliver_last (replication ghosts spelling) after lead i) (goes_status (replication ghosts spelling) lead i) a c d es gs statuses halts)
                (λ kinds members decls p m foretold told. subst (λ (q : Playing Kind Op Shown). IsPrefix q.events (exchanges (replication ghosts spelling) lead i p).events) (sym (answer_is halts.given kinds members decls p m foretold told)) (on_answer (replication ghosts spelling) lead i p))

            module _ (hs : List Event) (third : Settles spelling (deliver_last (replication ghosts spelling) after lead i) c d gs hs) (later : ℕ) (recounted : later ≡ sent_in gs) (e : World T K Kind Op Delta ghosts keeping) where
              abbrev answers : Settles spelling (after_answer (replication ghosts spelling) lead i) a d es hs
              answers =
                  settles_known spelling (λ p. deliver_last (replication ghosts spelling) after lead i (after_status (replication ghosts spelling) lead i p)) (after_answer (replication ghosts spelling) lead i) a d es hs
                  (settles_then spelling (after_status (replication ghosts spelling) lead i) (deliver_last (replication ghosts spelling) after lead i) (goes_status (replication ghosts spelling) lead i) a c d es gs statuses hs third)
                  (λ kinds members decls p m foretold told. answer_is third.given kinds members decls p m foretold told)

              entries_are : (more : Given) (kinds : Text → Kind) (members : ℕ) (decls : List (KeyDecl Kind)) (p : Playing Kind Op Shown) → Means spelling kinds members decls p a → Foretells p (given_then answers.given more) → AllZip IsLine es p.lines
                  → deliver_last (replication ghosts spelling) later i lead (after_answer (replication ghosts spelling) lead i p) ≡ exchanges (replication ghosts spelling) lead i p
              entries_are more kinds members decls p m foretold told =
                  let three = foretells_first p answers.given more foretold in
                  let two = statuses.leads kinds members decls p m (foretells_first p statuses.given third.given three) told in
                  ap (λ n. deliver_last (replication ghosts spelling) n i lead (after_answer (replication ghosts spelling) lead i p)) (recounted ∙ sym (told_sent (after_status (replication ghosts spelling) lead i p) gs two.lines))

              pub exchange_ends : (ks : List Event) {X E : Type 0} (outcome : Result X E) → SettlesOr spelling (deliver_last (replication ghosts spelling) later i lead) d e hs ks outcome → SettlesOr spelling (exchanges (replication ghosts spelling) lead i) a e es ks outcome
              exchange_ends ks (Ok x) fourth =
                  settles_known spelling (λ p. deliver_last (replication ghosts spelling) later i lead (after_answer (replication ghosts spelling) lead i p)) (exchanges (replication ghosts spelling) lead i) a e es ks
                  (settles_then spelling (after_answer (replication ghosts spelling) lead i) (deliver_last (replication ghosts spelling) later i lead) (goes_answer (replication ghosts spelling) lead i) a d e es hs answers ks fourth)
                  (λ kinds members decls p m foretold told. entries_are fourth.given kinds members decls p m foretold told)
              exchange_ends ks (Err wanted) halts =
                  halts_known spelling (λ p. deliver_last (replication ghosts spelling) later i lead (after_answer (replication ghosts spelling) lead i p)) (exchanges (replication ghosts spelling) lead i) a e es
                  (halts_second spelling (after_answer (replication ghosts spelling) lead i) (deliver_last (replication ghosts spelling) later i lead) (goes_answer (replication ghosts spelling) lead i) a d e es hs answers halts)
                  (λ kinds members decls p m foretold told. ([], sym (ap (λ (q : Playing Kind Op Shown). q.events) (entries_are halts.given kinds members decls p m foretold told)) ∙ sym (append_nothing _)))

  -- THE WHOLE

  module _ (a b : World T K Kind Op Delta ghosts keeping) (es : List Event) where
    pub halts_installs : HaltsIn spelling (installs (replication ghosts spelling)) a b es → HaltsIn spelling (swept_last (replication ghosts spelling)) a b es
    halts_installs halts = halts_first spelling (installs (replication ghosts spelling)) (λ p. after_both (replication ghosts spelling) (sweeps_twice (replication ghosts spelling) p)) (goes_after_installs (replication ghosts spelling)) a b es halts

    module _ (es1 : List Event) (s1 : Settles spelling (installs (replication ghosts spelling)) a b es es1) (c : World T K Kind Op Delta ghosts keeping) where
      pub halts_sweeps : HaltsIn spelling (sweeps_twice (replication ghosts spelling)) b c es1 → HaltsIn spelling (swept_last (replication ghosts spelling)) a c es
      halts_sweeps halts = halts_first spelling (swept_twice (replication ghosts spelling)) (after_both (replication ghosts spelling)) (goes_after_both (replication ghosts spelling)) a c es (halts_second spelling (installs (replication ghosts spelling)) (sweeps_twice (replication ghosts spelling)) (goes_installs (replication ghosts spelling)) a b c es es1 s1 halts)

      module _ (es2 : List Event) (s2 : Settles spelling (sweeps_twice (replication ghosts spelling)) b c es1 es2) (d : World T K Kind Op Delta ghosts keeping) where
        abbrev twice : Settles spelling (swept_twice (replication ghosts spelling)) a c es es2
        twice = settles_then spelling (installs (replication ghosts spelling)) (sweeps_twice (replication ghosts spelling)) (goes_installs (replication ghosts spelling)) a b c es es1 s1 es2 s2

        pub halts_tick_1 : HaltsIn spelling (tick (replication ghosts spelling)) c d es2 → HaltsIn spelling (swept_last (replication ghosts spelling)) a d es
        halts_tick_1 halts = halts_first spelling (ticked_once (replication ghosts spelling)) (λ p. after_tick (replication ghosts spelling) (sweep (replication ghosts spelling) p)) (goes_after_third (replication ghosts spelling)) a d es (halts_second spelling (swept_twice (replication ghosts spelling)) (tick (replication ghosts spelling)) (goes_twice (replication ghosts spelling)) a c d es es2 twice halts)

        module _ (es3 : List Event) (s3 : Settles spelling (tick (replication ghosts spelling)) c d es2 es3) (e : World T K Kind Op Delta ghosts keeping) where
          abbrev ticks : Settles spelling (ticked_once (replication ghosts spelling)) a d es es3
          ticks = settles_then spelling (swept_twice (replication ghosts spelling)) (tick (replication ghosts spelling)) (goes_twice (replication ghosts spelling)) a c d es es2 twice es3 s3

          pub halts_sweep_1 : HaltsIn spelling (sweep (replication ghosts spelling)) d e es3 → HaltsIn spelling (swept_last (replication ghosts spelling)) a e es
          halts_sweep_1 halts = halts_first spelling (swept_again (replication ghosts spelling)) (after_tick (replication ghosts spelling)) (goes_after_tick (replication ghosts spelling)) a e es (halts_second spelling (ticked_once (replication ghosts spelling)) (sweep (replication ghosts spelling)) (goes_ticked (replication ghosts spelling)) a d e es es3 ticks halts)

          module _ (es4 : List Event) (s4 : Settles spelling (sweep (replication ghosts spelling)) d e es3 es4) (f : World T K Kind Op Delta ghosts keeping) where
            abbrev again : Settles spelling (swept_again (replication ghosts spelling)) a e es es4
            again = settles_then spelling (ticked_once (replication ghosts spelling)) (sweep (replication ghosts spelling)) (goes_ticked (replication ghosts spelling)) a d e es es3 ticks es4 s4

            pub halts_tick_2 : HaltsIn spelling (tick (replication ghosts spelling)) e f es4 → HaltsIn spelling (swept_last (replication ghosts spelling)) a f es
            halts_tick_2 halts = halts_first spelling (ticked_twice (replication ghosts spelling)) (sweep (replication ghosts spelling)) (goes_sweep (replication ghosts spelling)) a f es (halts_second spelling (swept_again (replication ghosts spelling)) (tick (replication ghosts spelling)) (goes_again (replication ghosts spelling)) a e f es es4 again halts)

            pub ticks_twice : (es5 : List Event) → Settles spelling (tick (replication ghosts spelling)) e f es4 es5 → Settles spelling (ticked_twice (replication ghosts spelling)) a f es es5
            ticks_twice es5 s5 = settles_then spelling (swept_again (replication ghosts spelling)) (tick (replication ghosts spelling)) (goes_again (replication ghosts spelling)) a e f es es4 again es5 s5

  -- THE CONTRACT

  module _ (a : World T K Kind Op Delta ghosts keeping) where
    means_apart : (kinds : Text → Kind) (members : ℕ) (decls : List (KeyDecl Kind)) (p : Playing Kind Op Shown) → Means spelling kinds members decls p a → Means spelling kinds members decls (apart p) a
    means_apart kinds members decls p m = means_same spelling kinds members decls p (apart p) a refl refl m

    nothing_told : (es : List Event) → es ≡ [] → AllZip IsLine es []
    nothing_told es none = subst (λ (xs : List Event). AllZip IsLine xs []) (sym none) tt

    pub remains_settle : (b : World T K Kind Op Delta ghosts keeping) (es : List Event) → es ≡ [] → HaltsIn spelling (swept_last (replication ghosts spelling)) a b es → Remains spelling form.Settle a b
    remains_settle b es none halts =
        record {
          kept = halts.kept;
          remains = record { given = halts.given; means = λ kinds members decls p m foretold. halts.means kinds members decls (apart p) (means_apart kinds members decls p m) foretold (nothing_told es none) };
        }

    module _ (t b : World T K Kind Op Delta ghosts keeping) (es ts us : List Event) (none : es ≡ []) (first : Settles spelling (ticked_twice (replication ghosts spelling)) a t es ts) where
      pub halts_sweep_2 : HaltsIn spelling (sweep (replication ghosts spelling)) t b ts → Remains spelling form.Settle a b
      halts_sweep_2 halts = remains_settle b es none (halts_second spelling (ticked_twice (replication ghosts spelling)) (sweep (replication ghosts spelling)) (goes_ticked_twice (replication ghosts spelling)) a t b es ts first halts)

      module _ (swept : Settles spelling (sweep (replication ghosts spelling)) t b ts us) where
        abbrev whole : Settles spelling (swept_last (replication ghosts spelling)) a b es us
        whole = settles_then spelling (ticked_twice (replication ghosts spelling)) (sweep (replication ghosts spelling)) (goes_ticked_twice (replication ghosts spelling)) a t b es ts first us swept

        -- after all
        pub halts_counting : Remains spelling form.Settle a b
        halts_counting = remains_settle b es none (halts_done spelling (swept_last (replication ghosts spelling)) (goes_all (replication ghosts spelling)) a b es us whole)

        module _ (a' : Answer) (meant : script.Answer Shown) (is_answer : IsAnswer a' meant) (sound : is_damage a' ≡ false) (line_is : (if met_full us then script.Answer.Stopped else script.Answer.Settled (sent_in us) (last_blocked ts)) ≡ meant) where
          abbrev event : Event
          event = record { head = head.Settle; answer = a'; sent = []; finished = None }

          module _ (kinds : Text → Kind) (members : ℕ) (decls : List (KeyDecl Kind)) (p : Playing Kind Op Shown) (m : Means spelling kinds members decls p a) (foretold : Foretells p whole.given) where
            told_is : settle_line (replication ghosts spelling) (swept_last (replication ghosts spelling) (apart p)) (last_answer_blocked (ticked_twice (replication ghosts spelling) (apart p))) ≡ meant
            told_is =
                let one = first.leads kinds members decls (apart p) (means_apart kinds members decls p m) (foretells_first (apart p) first.given swept.given foretold) (nothing_told es none) in
                let all = whole.leads kinds members decls (apart p) (means_apart kinds members decls p m) foretold (nothing_told es none) in
                ap (settle_line (replication ghosts spelling) (swept_last (replication ghosts spelling) (apart p))) (told_blocked (ticked_twice (replication ghosts spelling) (apart p)) ts one.lines)
                ∙ ap (λ x. if x then script.Answer.Stopped else script.Answer.Settled (posted (swept_last (replication ghosts spelling) (apart p))) (last_blocked ts)) (told_full (swept_last (replication ghosts spelling) (apart p)) us all.lines)
                ∙ ap (λ n. if met_full us then script.Answer.Stopped else script.Answer.Settled n (last_blocked ts)) (told_sent (swept_last (replication ghosts spelling) (apart p)) us all.lines)
                ∙ line_is

            reached : Reaches spelling kinds members decls p (played (replication ghosts spelling) p ScriptStep.Settle) whole.given b (event ∷ [])
            reached =
                let all = whole.leads kinds members decls (apart p) (means_apart kinds members decls p m) foretold (nothing_told es none) in
                record {
                  means = means_same spelling kinds members decls (swept_last (replication ghosts spelling) (apart p)) (played (replication ghosts spelling) p ScriptStep.Settle) b refl refl all.means;
                  lines = (_, refl, (record { head = refl; answer = subst (IsAnswer a') (sym told_is) is_answer; sent = refl; ended = refl }, tt));
                  calls = all.calls;
                }

          plays_so : Plays spelling form.Settle a b (event ∷ [])
          plays_so = plays_does spelling form.Settle a b (event ∷ []) (record { given = whole.given; kept = whole.kept; undamaged = sound; leads = reached })

        pub plays_stopped : met_full us ≡ true → (e : Event) → e ≡ record { head = head.Settle; answer = answer.Stopped; sent = []; finished = None } → Plays spelling form.Settle a b (e ∷ [])
        plays_stopped full e line =
            subst (λ (x : Event). Plays spelling form.Settle a b (x ∷ [])) (sym line)
            (plays_so answer.Stopped script.Answer.Stopped refl refl (ap (λ x. if x then script.Answer.Stopped else script.Answer.Settled (sent_in us) (last_blocked ts)) full))

        pub plays_settled : met_full us ≡ false → (sent blocked : ℕ) → sent ≡ sent_in us → blocked ≡ last_blocked ts → (e : Event) → e ≡ record { head = head.Settle; answer = answer.Settled sent blocked; sent = []; finished = None } → Plays spelling form.Settle a b (e ∷ [])
        plays_settled room sent blocked counted among e line =
            subst (λ (x : Event). Plays spelling form.Settle a b (x ∷ [])) (sym line)
            (plays_so (answer.Settled sent blocked) (script.Answer.Settled sent blocked) refl refl
            (ap (λ x. if x then script.Answer.Stopped else script.Answer.Settled (sent_in us) (last_blocked ts)) room ∙ ap (λ n. script.Answer.Settled n (last_blocked ts)) (sym counted) ∙ ap (script.Answer.Settled sent) (sym among)))

  -- BEFORE THE FIRST CALL

  module _ (a : World T K Kind Op Delta ghosts keeping) where
    -- where nothing was done yet, this is what stands
    pub remains_same : (step : Step) → Remains spelling step a a
    remains_same form.Round = remains_still spelling a
    remains_same (form.Join place) = record { kept = (as_it_was spelling a).kept; remains = record { views = refl; keys = refl; nodes = refl; links = refl; others = λ other apart. refl; spare = refl } }
    remains_same form.Settle =
        remains_settle a a [] refl (halts_before spelling (swept_last (replication ghosts spelling)) (goes_all (replication ghosts spelling)) a a [] (as_it_was spelling a))
    remains_same _ = let same = as_it_was spelling a in record { kept = same.kept; remains = same.stays }
