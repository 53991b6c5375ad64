-- What is fixed in a section, from its one run.
--     counts_steps        a member that replays a history has made as many steps more
--     settled_by        the section is settled
use Rattle.std.proofs.Common.{◌≡◌, ◌⊎◌, inl, inr, ⊎_elim, ℕ, ◌+◌, ◌<◌, ◌≤◌, List, [], ◌∷◌, length, refl, sym, ap, subst, ◌∙◌, arith, Bool, true, false, true≢false, Option, Some, None, cond, map, length-append}
use Rattle.std.specs.Prelude.{filter, take, option_map, IsTrue, ◌==◌}
use Rattle.std.specs.List.{AllByRecursion}
use Rattle.std.proofs.lemmas.Bool.Decides.{Decides-eqb}
use Rattle.model_history.specs.Texts.{Text}
use Rattle.model_members.specs.View.{View, is_member, place_of}
use Rattle.model_members.specs.DataType.{Replication}
use Rattle.model_members.specs.Node as nodes
use Rattle.model_members.specs.World as worlds
use Rattle.model_members.specs.World.{start, run, IsRun}
use Rattle.model_members.specs.Script.{Playing}
use Rattle.theorem_operations.proofs.Moments.{HasNumbers, stands_start, stands_run}
use Rattle.theorem_sections.specs.Sections.{node_full}
use Rattle.theorem_sections.specs.Histories as model
use Rattle.theorem_sections.specs.Histories.{Placed, entries_at}
use Rattle.theorem_sections.specs.Knowing.{member_after}
use Rattle.model_kinds.specs.declared.operation.Op.{Op}
use Rattle.model_kinds.specs.declared.shown.Shown.{Shown}
use Rattle.data_lattice.specs.declared.replica.Replica.{Ghosts}
use Rattle.data_lattice.specs.declared.spelled.SpelledData.{Ghosts as Spelling}
use Rattle.member_keeper.specs.declared.keeper.Keeper.{Ghosts as Keeping}
use Rattle.thread_machine.specs.declared.machine.Machine.{Ghosts as Machine}
use Rattle.thread_machine.specs.Machines.{machine_at}
use Rattle.thread_machine.specs.Replays.{Replays}
use Rattle.thread_machine.specs.Replays.Replays.{begins, refused, stepped}
use Rattle.thread_cell.specs.declared.opening.Opening.{Opening}
use Rattle.member_views.specs.Sound.{IsView, last_view}
use Rattle.member_node.specs.declared.input.Input.{Input}
use Rattle.member_node.specs.declared.node.Node.{Node}
use Rattle.member_node.specs.declared.reply.Fate.{Fate}
use Rattle.member_node.specs.declared.reply.Output.{Output}
use Rattle.member_node.specs.declared.reply.StepError.{StepError}
use Rattle.member_node.specs.Replies.{program_steps}
use Rattle.member_node.specs.Steps.{replication, IsStepOf, IsUnchanged}
use Rattle.world_members.specs.declared.world.World.{World}
use Rattle.world_places.specs.Places.{item_at, identity_at}
use Rattle.world_members.specs.Ways.{Means}
use Rattle.world_places.proofs.Seats.{some_seat, identity_seated}
use Rattle.world_members.proofs.Telling.{view_of}
use Rattle.world_members.proofs.Entering.{item_within}
use Rattle.thread_run_order.specs.Orders.{AtPlace, IsRunOrder}
use Rattle.thread_run_order.specs.Images.{EntryOf}
use Rattle.thread_run_order.specs.Section.{IsSection}
use Rattle.thread_run_order.specs.Runs.{IsOneRun}
use Rattle.thread_run_order.proofs.Places.{member_there, ids_apart, place_there}
use Rattle.thread_run_order.proofs.Following.{images_by_place}
use Rattle.thread_section.proofs.Sights.{IsGround}
use Rattle.thread_section.proofs.Sessions.{IsSettled, StandsAfter}
use Rattle.thread_section.proofs.Lasting.{AreBelow}
use Rattle.thread_section.proofs.Limits.{limit_along}

take_all : {X : Type 0} (xs : List X) → take (length xs) xs ≡ xs
take_all [] = refl
take_all (x ∷ xs) = ap (λ ys. x ∷ ys) (take_all xs)

-- who is no member has no entry
none_at : {Op Shown : Type 0} (view : View) (i : ℕ) (placed : List (Placed Op Shown)) → is_member view i ≡ false → AllByRecursion (λ (x : Placed Op Shown). IsTrue (is_member view x.at)) placed → entries_at i placed ≡ []
none_at view i [] absent all = refl
none_at {Op} {Shown} view i (x ∷ placed) absent all = by (x.at == i) refl (none_at view i placed absent all.1)
  where
    rest : List (Placed Op Shown)
    rest = filter (λ (y : Placed Op Shown). y.at == i) placed

    by : (b : Bool) → (x.at == i) ≡ b → map (λ (y : Placed Op Shown). y.entry) rest ≡ [] → map (λ (y : Placed Op Shown). y.entry) (cond b (x ∷ rest) rest) ≡ []
    by true is later = absurd (true≢false (sym all.0 ∙ ap (is_member view) ((Decides-eqb x.at i).0 is) ∙ absent))
    by false is later = later

module _ {Kind Op Shown : Type 0} (D : Replication Kind Op Shown) where
  -- in a run all operations have numbers below the next one
  pub below_in_run : (members : ℕ) (keys : List (nodes.KeyDecl Kind)) (events : List (worlds.Event Op)) (world : worlds.World Kind Op Shown) → IsRun D members keys events world → (i : ℕ) (node : nodes.Node Kind Op Shown) → world.nodes i ≡ Some node → AreBelow D node
  below_in_run members keys events world is_run i node runs_there =
      let numbers : HasNumbers world = subst HasNumbers (sym is_run.leads) (stands_run D members keys (start members keys) (stands_start D members keys is_run.some is_run.few) events is_run.lawful).numbers in
      record { stood = λ o m. numbers.stood i node o runs_there m; done = λ f m. numbers.done i node f runs_there m }

module _ {T K Kind Delta : Type 0} {ghosts : Ghosts T Kind Op Delta} {keeping : Keeping K} (spelling : Spelling T Kind Op Delta) (meaning : Machine (Node T K Kind Op Delta ghosts keeping) (Input T Kind Op Delta ghosts) Fate (Output T Kind Op Delta ghosts) StepError)
    (steps_are : (old : Node T K Kind Op Delta ghosts keeping) (input : Input T Kind Op Delta ghosts) (fate : Fate) (output : Output T Kind Op Delta ghosts) (new : Node T K Kind Op Delta ghosts keeping) → meaning.Steps old input fate output new → IsStepOf spelling old input fate output new)
    (unchanged_are : (old new : Node T K Kind Op Delta ghosts keeping) → meaning.IsUnchanged old new → IsUnchanged old new) where
  abbrev Member : Type 0
  Member = Node T K Kind Op Delta ghosts keeping

  -- STEPS OF A MEMBER

  same_steps : (old new : Member) → IsUnchanged old new → new.steps ≡ old.steps
  same_steps old new u = ap (λ (n : Member). n.steps) u.same

  pub counts_steps : (first now : Member) (es : List (EntryOf ghosts keeping)) → Replays meaning first es now → now.steps ≡ first.steps + length es
  counts_steps first now _ (begins _) = omega arith
  counts_steps first now es (refused _ before _ _ replays u) = let a = counts_steps first before es replays in let b = same_steps before now (unchanged_are before now u) in omega (arith, a, b)
  counts_steps first now _ (stepped _ before _ es e replays s) =
      let a = counts_steps first before es replays in
      let b = (steps_are before e.input e.fate e.output now s).counted in
      let c = length-append es (e ∷ []) in
      omega (arith, a, b, c)

  -- it makes no more than its limit
  few_entries : (first now : Member) (es : List (EntryOf ghosts keeping)) → Replays meaning first es now → length es ≤ first.limit
  few_entries first now es replays =
      let a = counts_steps first now es replays in
      let b = now.few_steps in
      let c = limit_along spelling meaning steps_are unchanged_are first now es replays in
      omega (arith, a, b, c)

  module _ (kinds : Text → Kind) (members : ℕ) (decls : List (nodes.KeyDecl Kind)) (p : Playing Kind Op Shown) (world : World T K Kind Op Delta ghosts keeping) (m : Means spelling kinds members decls p world) (sound : IsView (last_view world.views))
      (opening : Opening (Node T K Kind Op Delta ghosts keeping) (Input T Kind Op Delta ghosts) Fate (Output T Kind Op Delta ghosts) StepError) (starts : (place : ℕ) → machine_at opening.machines place ≡ item_at world.nodes.items place)
      (h : ℕ → List (EntryOf ghosts keeping)) (nows : ℕ → Option (Node T K Kind Op Delta ghosts keeping)) (section : IsSection meaning world h nows) (xs : List (AtPlace (EntryOf ghosts keeping))) (order : IsRunOrder h xs)
      (one : IsOneRun spelling kinds members decls p world meaning h nows xs) where
    abbrev D' : Replication Kind Op Shown
    D' = replication ghosts spelling

    abbrev view : View
    view = last_view world.views

    abbrev ids : ℕ → Option ℕ
    ids = identity_at view

    abbrev histories : ℕ → List (model.Entry Op Shown)
    histories i = entries_at i one.placed

    view_is : view ≡ p.world.view
    view_is = view_of spelling kinds members decls p world m

    member_is : (i : ℕ) → IsTrue (is_member p.world.view i) → is_member view i ≡ true
    member_is i mi = ap (λ (v : View). is_member v i) view_is ∙ mi

    ground : IsGround spelling p.world ids h histories
    ground =
        record {
          seats = λ place i here. ap (λ (v : View). place_of v i) (sym view_is) ∙ place_there view sound place i here;
          members = λ place i here. sym (ap (λ (v : View). is_member v i) view_is) ∙ member_there view sound place i here;
          seated = λ i mi.
              let seat = some_seat view i (member_is i mi) in
              let here = identity_seated view sound i seat.0 seat.1 in
              ap ids (ap (λ (v : View). place_of v i) (sym view_is) ∙ place_there view sound seat.0 i here) ∙ here;
          images = images_by_place ids (ids_apart view sound) h xs one.placed order.whole one.images;
          strangers = λ i absent. none_at p.world.view i one.placed absent one.order.members;
          all = one.are_histories;
        }

    -- a place that has a member
    small_at : (place : ℕ) (member : Member) → item_at world.nodes.items place ≡ Some member → place < 8
    small_at place member is = let l = item_within world.nodes.items place member is in let c = world.eight_nodes in let d = world.nodes.ok.0 in omega (arith, l, c, d)

    seat_of_member : (place : ℕ) (member : Member) → item_at world.nodes.items place ≡ Some member → (i : ℕ) × (ids place ≡ Some i)
    seat_of_member place member is = (member.id, sym (world.seated.members place (small_at place member is)) ∙ ap (option_map (λ (node : Member). node.id)) is)

    limit_of_member : (place : ℕ) (member : Member) → item_at world.nodes.items place ≡ Some member → member.limit ≡ program_steps
    limit_of_member place member is = world.seated.limits place (small_at place member is) member is

    -- the member of a place that has entries, and what it is at the end
    pub record Ran (place : ℕ) : Type 0 where
      pub first : Member
      pub first_is : item_at world.nodes.items place ≡ Some first
      pub now : Member
      pub replays : Replays meaning first (h place) now

    ran_or_none : (place : ℕ) → Ran place ⊎ (h place ≡ [])
    ran_or_none place = by (item_at world.nodes.items place) refl
      where
        by : (o : Option Member) → item_at world.nodes.items place ≡ o → Ran place ⊎ (h place ≡ [])
        by None is = inr ((section.ends place).none is).1
        by (Some first) is = let e = (section.ends place).replay first is in inl (record { first = first; first_is = is; now = e.0; replays = e.2.replays })

    few : (place : ℕ) → length (h place) ≤ 16384
    few place = ⊎_elim
        (λ (r : Ran place).
        let a = few_entries r.first r.now (h place) r.replays in
        let b = limit_of_member place r.first r.first_is in
        omega (arith, a, b))
        (λ (none : h place ≡ []). let a = ap length none in omega (arith, a)) (ran_or_none place)

    stand : (place i count : ℕ) (first now : Member) → ids place ≡ Some i → machine_at opening.machines place ≡ Some first → count ≤ length (h place) → Replays meaning first (take count (h place)) now → StandsAfter spelling meaning p.world ids opening histories i count now
    stand place i count first now here began short replays =
        let s = one.stand place i count first now here (sym (starts place) ∙ began) replays in
        record { kinds = kinds; logs = one.logs; member = s.member; member_is = s.member_is; stands = s.stands }

    full : (place : ℕ) → length (h place) ≡ 16384 → (i : ℕ) × (ids place ≡ Some i) × (node_full D' (member_after D' p.world histories i 16384) ≡ true)
    full place long = ⊎_elim by (λ (none : h place ≡ []). absurd (let a = ap length none in omega (arith, a, long))) (ran_or_none place)
      where
        by : Ran place → (i : ℕ) × (ids place ≡ Some i) × (node_full D' (member_after D' p.world histories i 16384) ≡ true)
        by r =
            let seat = seat_of_member place r.first r.first_is in
            let whole : take 16384 (h place) ≡ h place = subst (λ n. take n (h place) ≡ h place) long (take_all (h place)) in
            let s = one.stand place seat.0 16384 r.first r.now seat.1 r.first_is (subst (λ es. Replays meaning r.first es r.now) (sym whole) r.replays) in
            let all : r.now.steps ≡ program_steps =
            (let a = counts_steps r.first r.now (h place) r.replays in
            let b = r.now.few_steps in
            let c = limit_along spelling meaning steps_are unchanged_are r.first r.now (h place) r.replays ∙ limit_of_member place r.first r.first_is in
            omega (arith, a, b, c, long)) in
            (seat.0, seat.1, ap (λ o. node_full D' o) s.member_is ∙ (Decides-eqb s.member.steps program_steps).1 (s.stands.steps ∙ all))

    pub settled_by : IsSettled spelling meaning p.world ids opening h histories
    settled_by =
        record {
          ground = ground;
          began = λ place first is. seat_of_member place first (sym (starts place) ∙ is);
          few = few;
          stand = stand;
          limits = λ place first now es is replays. limit_along spelling meaning steps_are unchanged_are first now es replays ∙ limit_of_member place first (sym (starts place) ∙ is);
          full = full;
        }
