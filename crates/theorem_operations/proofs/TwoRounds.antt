-- Two rounds after an operation was opened it is finished, where nothing disturbs it.
use Rattle.std.proofs.Common.{◌≡◌, ◌≢◌, ℕ, ◌<◌, ◌≤◌, List, [], ◌∷◌, ◌++◌, length, refl, sym, ap, subst, ◌∙◌, arith, true, Some, ◌⊎◌, inl, inr}
use Rattle.std.specs.Prelude.{slice_get, not, ◌==◌}
use Rattle.std.specs.List.{AllByRecursion}
use Rattle.std.proofs.lemmas.Bool.Decides.{eqb_tells}
use Rattle.std.proofs.lemmas.Bool.{eq-eqb}
use Rattle.model_history.specs.Table.{identities}
use Rattle.model_history.specs.Vector.{alone}
use Rattle.model_history.proofs.PruneLaws.{IsIn}
use Rattle.model_members.specs.View.{View, is_member, identities_of, others}
use Rattle.model_members.specs.DataType.{Replication}
use Rattle.model_members.specs.Node.{KeyDecl, Node, OpenOperation, Finished, Reply}
use Rattle.model_members.specs.Step.{step, to_others, member_count}
use Rattle.model_members.specs.World.{World, Event, happens, run, start, message_at, with_posts, AreLawful, Link}
use Rattle.model_members.specs.Script.{ScriptStep, played}
use Rattle.model_members.proofs.Cases.{stepped_at}
use Rattle.theorem_runs.proofs.RunViews.{same_some}
use Rattle.theorem_operations.specs.Finishing.{DisturbsNothing, HaveRoom, IsRound, TwoRounds, IsUndisturbed, opening_event, world_after, to_round, to_last_round, to_end, IsOver}
use Rattle.theorem_operations.proofs.Lists.{to_filter, to_map, in_end}
use Rattle.theorem_operations.proofs.Turns.{reply_is}
use Rattle.theorem_operations.proofs.Counting.{count}
use Rattle.theorem_operations.proofs.Moments.{Stands, stands_start, stands_run, safe_at, run_append, lawful_first, lawful_rest}
use Rattle.theorem_operations.proofs.Calm.{IsCalm, calm_next, input_makes}
use Rattle.theorem_operations.proofs.Rounds.{Later, later_same, later_trans, round_past, room_before, posts_grow}
use Rattle.theorem_operations.proofs.Waiting.{AllFit, fits_run, Waits, keeps_members, later_after}
use Rattle.theorem_operations.proofs.Finishing.{Goes, Any, IsHeard, posts_bring, two_rounds}
use Rattle.theorem_operations.proofs.Finishing.IsAtHand.{QuestionDue}
use Rattle.theorem_operations.proofs.Finishing.Stage.{IsOpen}
use Rattle.theorem_operations.proofs.Finishing.IsHeard.{Over, Counted}
use Rattle.theorem_operations.proofs.Opening.{Opening, opening_tells, alone_is_one, found_at, all_members, each_or}

in_others : (view : View) (i t : ℕ) → is_member view t ≡ true → t ≢ i → IsIn (others view i) t
in_others view i t m other = to_filter (λ j. not (j == i)) (identities_of view) t (found_at (identities_of view) t m) (elim (eqb_tells t i) [ inl is ↦ absurd (other is.1) | inr isnt ↦ ap not isnt.0 ])

module _ {Kind Op Shown : Type 0} (D : Replication Kind Op Shown) where
  -- worlds along undisturbed events
  later_run : (i op : ℕ) (world : World Kind Op Shown) (events : List (Event Op)) → AllByRecursion (DisturbsNothing i op) events → Later world (run D world events)
  later_run i op world [] quiet = later_same world
  later_run i op world (event ∷ events) quiet = later_trans world (happens D world event) (run D world (event ∷ events)) (later_after D world i op event quiet.0) (later_run i op (happens D world event) events quiet.1)

  calm_run : (members : ℕ) (keys : List (KeyDecl Kind)) (V : View) (i op : ℕ) (world : World Kind Op Shown) (events : List (Event Op)) → AreLawful D world events → AllByRecursion (DisturbsNothing i op) events
      → IsCalm D members keys V world → IsCalm D members keys V (run D world events)
  calm_run members keys V i op world [] lawful quiet calm = calm
  calm_run members keys V i op world (event ∷ events) lawful quiet calm =
      calm_run members keys V i op (happens D world event) events lawful.1 quiet.1 (calm_next D members keys V world calm event lawful.0 (keeps_members D i op event quiet.0))

  -- a round of these events leaves nothing due between members
  round_reaches : (members : ℕ) (keys : List (KeyDecl Kind)) (V : View) (world : World Kind Op Shown) (events : List (Event Op)) → IsRound D world events → IsCalm D members keys V world → HaveRoom D (run D world events)
      → (from to : ℕ) → is_member V from ≡ true → is_member V to ≡ true → length (world.links from to).messages ≤ ((run D world events).links from to).next
  round_reaches members keys V world events round calm room from to m m' =
      let safe = safe_at D members keys world calm.stands in
      let p = round.playing in
      let given = safe.views.views.below world.view.number world.view from safe.views.views.listed (ap (λ (v : View). is_member v from) calm.view ∙ m) in
      let runs = safe.views.all_run.runs to (ap (λ (v : View). is_member v to) calm.view ∙ m') in
      let same : p.world.view ≡ world.view = ap (λ (w : World Kind Op Shown). w.view) round.begins in
      let past = round_past D p from to runs.0 (subst (λ (v : View). from < v.given) (sym same) given) (found_at (identities_of p.world.view) to (ap (λ (v : View). is_member v to) (same ∙ calm.view) ∙ m')) (ap (λ (w : World Kind Op Shown). w.nodes to) round.begins ∙ runs.1)
      (subst (λ (w : World Kind Op Shown). HaveRoom D w) (sym round.ends) room) in
      let a : length (p.world.links from to).messages ≡ length (world.links from to).messages = ap (λ (w : World Kind Op Shown). length (w.links from to).messages) round.begins in
      let b : ((played D p ScriptStep.Round).world.links from to).next ≡ ((run D world events).links from to).next = ap (λ (w : World Kind Op Shown). (w.links from to).next) round.ends in
      omega arith

  module _ (members : ℕ) (keys : List (KeyDecl Kind)) (t : TwoRounds Op) (op : ℕ) (u : IsUndisturbed D members keys t op) where
    abbrev first_world : World Kind Op Shown
    first_world = start members keys

    abbrev i : ℕ
    i = t.at

    abbrev V : View
    V = (world_after D members keys t t.before).view

    abbrev opening_world : World Kind Op Shown
    opening_world = world_after D members keys t t.before

    abbrev opened : World Kind Op Shown
    opened = happens D opening_world (opening_event t)

    -- THE FOUR PARTS

    abbrev w1 : World Kind Op Shown
    w1 = run D opened t.first

    abbrev w2 : World Kind Op Shown
    w2 = run D w1 t.round

    abbrev w3 : World Kind Op Shown
    w3 = run D w2 t.second

    abbrev w4 : World Kind Op Shown
    w4 = run D w3 t.last_round

    is1 : run D first_world (to_round t) ≡ w1
    is1 = run_append D first_world t.before (opening_event t ∷ t.first)

    is2 : run D first_world (to_round t ++ t.round) ≡ w2
    is2 = run_append D first_world (to_round t) t.round ∙ ap (λ (w : World Kind Op Shown). run D w t.round) is1

    is3 : run D first_world (to_last_round t) ≡ w3
    is3 = run_append D first_world (to_round t ++ t.round) t.second ∙ ap (λ (w : World Kind Op Shown). run D w t.second) is2

    is4 : run D first_world (to_end t) ≡ w4
    is4 = run_append D first_world (to_last_round t) t.last_round ∙ ap (λ (w : World Kind Op Shown). run D w t.last_round) is3

    lawful3 : AreLawful D first_world (to_last_round t)
    lawful3 = lawful_first D first_world (to_last_round t) t.last_round u.is_run.lawful

    lawful2 : AreLawful D first_world (to_round t ++ t.round)
    lawful2 = lawful_first D first_world (to_round t ++ t.round) t.second lawful3

    lawful1 : AreLawful D first_world (to_round t)
    lawful1 = lawful_first D first_world (to_round t) t.round lawful2

    from_opening : AreLawful D opening_world (opening_event t ∷ t.first)
    from_opening = lawful_rest D first_world t.before (opening_event t ∷ t.first) lawful1

    stands : Stands D members keys opening_world
    stands = stands_run D members keys first_world (stands_start D members keys u.is_run.some u.is_run.few) t.before (lawful_first D first_world t.before (opening_event t ∷ t.first) lawful1)

    calm0 : IsCalm D members keys V opening_world
    calm0 = record { stands = stands; view = refl; installed = u.installed }

    calm_opened : IsCalm D members keys V opened
    calm_opened = calm_next D members keys V opening_world calm0 (opening_event t) from_opening.0 tt

    -- THE OPENING

    abbrev old : Node Kind Op Shown
    old = from_opening.0.1.node

    old_runs : opening_world.nodes i ≡ Some old
    old_runs = from_opening.0.1.runs

    old_opens : (step D old t.input t.fate).output.reply ≡ Reply.Pending op
    old_opens = let f = sym (reply_is D opening_world i old t.input t.fate old_runs) ∙ u.opens in cc f

    abbrev new : Node Kind Op Shown
    new = (step D old t.input t.fate).node

    o_is : Opening D old i op (step D old t.input t.fate)
    o_is = opening_tells D old i op t.input t.fate old_opens

    identity_is : old.identity ≡ i
    identity_is = ((safe_at D members keys opening_world stands).views.running i old old_runs).identity

    i_member : is_member V i ≡ true
    i_member = ((safe_at D members keys opening_world stands).views.running i old old_runs).last

    new_runs : opened.nodes i ≡ Some new
    new_runs = input_makes D members keys opening_world i old t.input t.fate old_runs

    the_operation : OpenOperation
    the_operation = record { op = old.next_op; key = o_is.key; reads = o_is.reads; needed = o_is.n; counted = alone old.identity }

    waits : Waits D i op o_is.reads o_is.key o_is.n new the_operation
    unfolding the_operation
    waits =
        record {
          stood = subst (λ (os : List OpenOperation). IsIn os (record { op = old.next_op; key = o_is.key; reads = o_is.reads; needed = o_is.n; counted = alone old.identity })) (sym o_is.operations) (in_end old.open_operations (record { op = old.next_op; key = o_is.key; reads = o_is.reads; needed = o_is.n; counted = alone old.identity }));
          is_op = sym o_is.number;
          is_reads = refl;
          is_key = refl;
          needs = refl;
          few_yet = let a = alone_is_one old.identity in let b = o_is.many in omega arith;
          own = eq-eqb i old.identity (sym identity_is);
        }

    fits : (events : List (Event Op)) → AreLawful D first_world events → AllFit D (run D first_world events)
    fits events lawful = fits_run D first_world events lawful (λ f t. omega arith)

    opened_fits : AllFit D opened
    opened_fits = fits_run D opening_world (opening_event t ∷ []) (from_opening.0, tt) (fits t.before (lawful_first D first_world t.before (opening_event t ∷ t.first) lawful1))

    opened_links : opened.links ≡ with_posts opening_world.links i (step D old t.input t.fate).output.posts
    opened_links = ap (λ o. (stepped_at D opening_world i o t.input t.fate).links) old_runs

    begins : (m : ℕ) → is_member V m ≡ true → m ≢ i → Goes D members keys V i op o_is.reads o_is.key o_is.n m (Any D members keys V i op o_is.reads o_is.key o_is.n) (Any D members keys V i op o_is.reads o_is.key o_is.n) opened
    begins m member other =
        let view_is : old.view ≡ V = u.installed i old old_runs in
        let place = in_others old.view old.identity m (ap (λ (v : View). is_member v m) view_is ∙ member) (λ e. other (e ∙ identity_is)) in
        let posts = to_map (λ (j : ℕ). record { to = j; message = o_is.message }) (others old.view old.identity) m place in
        let brings = posts_bring (to_others old o_is.message) opening_world.links i (record { to = m; message = o_is.message }) posts.0 posts.1 (fits t.before (lawful_first D first_world t.before (opening_event t ∷ t.first) lawful1) i m) in
        let same : opened.links ≡ with_posts opening_world.links i (to_others old o_is.message) = opened_links ∙ ap (with_posts opening_world.links i) o_is.posts in
        let sent : message_at opened i m brings.0 ≡ Some o_is.message = ap (λ (l : ℕ → ℕ → Link Op). slice_get (l i m).messages brings.0) same ∙ brings.2 in
        let due : (opened.links i m).next ≤ brings.0 =
        (let a : (opened.links i m).next ≡ (opening_world.links i m).next = ap (λ (l : ℕ → ℕ → Link Op). (l i m).next) same ∙ (posts_grow (to_others old o_is.message) opening_world.links i i m).1 in let b = brings.1 in omega arith) in
        record { calm = calm_opened; fits = opened_fits; stage = IsOpen new the_operation new_runs waits (QuestionDue brings.0 o_is.message tt due sent o_is.asks) }

    -- THE END

    l_first : AreLawful D opened t.first
    l_first = from_opening.1

    l_round : AreLawful D w1 t.round
    l_round = subst (λ (w : World Kind Op Shown). AreLawful D w t.round) is1 (lawful_rest D first_world (to_round t) t.round lawful2)

    l_second : AreLawful D w2 t.second
    l_second = subst (λ (w : World Kind Op Shown). AreLawful D w t.second) is2 (lawful_rest D first_world (to_round t ++ t.round) t.second lawful3)

    l_last : AreLawful D w3 t.last_round
    l_last = subst (λ (w : World Kind Op Shown). AreLawful D w t.last_round) is3 (lawful_rest D first_world (to_last_round t) t.last_round u.is_run.lawful)

    room4 : HaveRoom D w4
    room4 = subst (λ (w : World Kind Op Shown). HaveRoom D w) is4 u.have_room

    calm1 : IsCalm D members keys V w1
    calm1 = calm_run members keys V i op opened t.first l_first u.undisturbed.0 calm_opened

    calm2 : IsCalm D members keys V w2
    calm2 = calm_run members keys V i op w1 t.round l_round u.undisturbed.1 calm1

    calm3 : IsCalm D members keys V w3
    calm3 = calm_run members keys V i op w2 t.second l_second u.undisturbed.2 calm2

    calm4 : IsCalm D members keys V w4
    calm4 = calm_run members keys V i op w3 t.last_round l_last u.undisturbed.3 calm3

    room2 : HaveRoom D w2
    room2 = room_before D w2 w4 (later_trans w2 w3 w4 (later_run i op w2 t.second u.undisturbed.2) (later_run i op w3 t.last_round u.undisturbed.3)) room4

    past : (m : ℕ) → is_member V m ≡ true → length (w1.links i m).messages ≤ (w2.links i m).next
    past m member = round_reaches members keys V w1 t.round (subst (λ (w : World Kind Op Shown). IsRound D w t.round) is1 u.is_round) calm1 room2 i m i_member member

    past_last : (m : ℕ) → is_member V m ≡ true → length (w3.links m i).messages ≤ (w4.links m i).next
    past_last m member = round_reaches members keys V w3 t.last_round (subst (λ (w : World Kind Op Shown). IsRound D w t.last_round) is3 u.is_last_round) calm3 room4 m i member i_member

    each : (m : ℕ) → is_member V m ≡ true → m ≢ i → IsHeard D members keys V i op o_is.reads o_is.key o_is.n w4 m
    each m member other =
        two_rounds D members keys V i op o_is.reads o_is.key o_is.n m member other i_member opened t.first t.round t.second t.last_round l_first l_round l_second l_last
        u.undisturbed.0 u.undisturbed.1 u.undisturbed.2 u.undisturbed.3 (past m member) (past_last m member) (begins m member other)

    abbrev Done : Type 0
    Done = (node : Node Kind Op Shown) × (end : Finished Shown) × (w4.nodes i ≡ Some node) × IsIn node.finished end × (end.op ≡ op)

    n_few : o_is.n ≤ length V.members
    n_few = let a = o_is.enough in let b : member_count old ≡ length V.members = ap (λ (v : View). length v.members) (u.installed i old old_runs) in omega arith

    -- with one member's answer still open at the end, all members' are counted, or it is over
    at_last : (node : Node Kind Op Shown) (o : OpenOperation) → w4.nodes i ≡ Some node → Waits D i op o_is.reads o_is.key o_is.n node o → Done
    at_last node o runs w = by (each_or Done o.counted (is_member V) counts identities)
      where
        counts : (m : ℕ) → is_member V m ≡ true → Done ⊎ (o.counted m ≡ true)
        counts m member = elim (eqb_tells m i) [
          | inl is ↦ inr (ap o.counted is.1 ∙ w.own)
          | inr isnt ↦ one (each m member isnt.1)
        ]
          where
            one : IsHeard D members keys V i op o_is.reads o_is.key o_is.n w4 m → Done ⊎ (o.counted m ≡ true)
            one (Over n' e over) = inl (n', over.0, e, over.1, over.2)
            one (Counted n' p e w' c) =
                let same : n' ≡ node = same_some (w4.nodes i) n' node e runs in
                let there : IsIn node.open_operations p = subst (λ (m : Node Kind Op Shown). IsIn m.open_operations p) same w'.stood in
                let is : p ≡ o = calm4.stands.numbers.single i node p o runs there w.stood (w'.is_op ∙ sym w.is_op) in
                inr (ap (λ (y : OpenOperation). y.counted m) (sym is) ∙ c)

        by : Done ⊎ (count (is_member V) identities ≤ count o.counted identities) → Done
        by (inl done) = done
        by (inr more) =
            let safe = safe_at D members keys w4 calm4.stands in
            let rising = safe.views.views.rising w4.view.number w4.view safe.views.views.listed in
            let a = all_members w4.view safe.logs.few rising in
            let b : length w4.view.members ≡ length V.members = ap (λ (v : View). length v.members) calm4.view in
            let c : count (is_member w4.view) identities ≡ count (is_member V) identities = ap (λ (v : View). count (is_member v) identities) calm4.view in
            let d = w.few_yet in
            let e = n_few in
            absurd (omega arith)

    pub operation_is_over : IsOver D members keys t op
    operation_is_over =
        let r = (later_trans opened w1 w4 (later_run i op opened t.first u.undisturbed.0) (later_trans w1 w2 w4 (later_run i op w1 t.round u.undisturbed.1) (later_trans w2 w3 w4 (later_run i op w2 t.second u.undisturbed.2) (later_run i op w3 t.last_round u.undisturbed.3)))).runs i new new_runs in
        let d = by_any in
        (d.0, d.1, ap (λ (w : World Kind Op Shown). w.nodes i) is4 ∙ d.2, d.3, d.4)
      where
        -- there is another member, since more than one answer is needed
        by_any : Done
        by_any = by (each_or Done (alone i) (is_member V) any_other identities)
          where
            any_other : (m : ℕ) → is_member V m ≡ true → Done ⊎ (alone i m ≡ true)
            any_other m member = elim (eqb_tells m i) [
              | inl is ↦ inr is.0
              | inr isnt ↦ one (each m member isnt.1)
            ]
              where
                one : IsHeard D members keys V i op o_is.reads o_is.key o_is.n w4 m → Done ⊎ (alone i m ≡ true)
                one (Over n' e over) = inl (n', over.0, e, over.1, over.2)
                one (Counted n' p e w' c) = inl (at_last n' p e w')

            by : Done ⊎ (count (is_member V) identities ≤ count (alone i) identities) → Done
            by (inl done) = done
            by (inr more) =
                let safe = safe_at D members keys opening_world stands in
                let rising = safe.views.views.rising V.number V safe.views.views.listed in
                let a = all_members V safe.logs.few rising in
                let b = alone_is_one i in
                let c = o_is.many in
                let d = n_few in
                absurd (omega arith)
