-- Sessions on their way, and what they tell of the model.
--     Section        what is fixed in a section
--     moves by calls, turns and looks
--     looked, full_there, full_somewhere        what a look shows, and a member that is full
use Rattle.std.proofs.Common.{◌≡◌, inl, inr, ℕ, ◌≤◌, List, ◌++◌, length, sym, ap, subst, ◌∙◌, arith, true, Option, Some}
use Rattle.std.specs.Prelude.{take}
use Rattle.std.proofs.lemmas.Bool.Decides.{Decides-eqb}
use Rattle.std.proofs.lemmas.List.{append_assoc}
use mathlib.Core.List.{IsPrefix}
use Rattle.model_history.specs.Texts.{Text}
use Rattle.model_history.specs.History.{History}
use Rattle.model_members.specs.View.{place_of}
use Rattle.model_members.specs.Node as nodes
use Rattle.model_members.specs.World as worlds
use Rattle.theorem_sections.specs.Sections.{node_full}
use Rattle.theorem_sections.specs.Histories as model
use Rattle.theorem_sections.specs.Knowing.{member_after, IsKnownFull, KnowsFull}
use Rattle.model_kinds.specs.declared.operation.Op.{Op}
use Rattle.model_kinds.specs.declared.shown.Shown.{Shown}
use Rattle.data_lattice.specs.declared.replica.Replica.{Ghosts}
use Rattle.data_lattice.specs.declared.spelled.SpelledData.{Ghosts as Spelling}
use Rattle.member_keeper.specs.declared.keeper.Keeper.{Ghosts as Keeping}
use Rattle.thread_machine.specs.declared.machine.Machine.{Ghosts as Machine}
use Rattle.thread_machine.specs.Machines.{machine_at}
use Rattle.thread_machine.specs.Replays.{Replays}
use Rattle.thread_cell.specs.declared.opening.Opening.{Opening}
use Rattle.thread_cell.specs.Lists.{at}
use Rattle.thread_cell.specs.Values.{ClientParts}
use Rattle.member_node.specs.declared.input.Input.{Input}
use Rattle.member_node.specs.declared.node.Node.{Node}
use Rattle.member_node.specs.declared.operation.Look.{Look}
use Rattle.member_node.specs.declared.reply.Fate.{Fate}
use Rattle.member_node.specs.declared.reply.Output.{Output}
use Rattle.member_node.specs.declared.reply.StepError.{StepError}
use Rattle.member_node.specs.Counting.{LooksAt}
use Rattle.member_node.specs.Members.{StandsForNode}
use Rattle.member_node.specs.Replies.{program_steps}
use Rattle.member_node.specs.Steps.{replication}
use Rattle.thread_cluster.specs.Messages.{Looks}
use Rattle.thread_cluster.specs.Knowing.{GoesOn, StartsAt, IsShownBy}
use Rattle.thread_cluster.specs.Refusals.{IsFullThere, IsFullAt, IsFullSomewhere}
use Rattle.thread_run_order.specs.Images.{EntryOf}
use Rattle.thread_section.proofs.Sights.{IsGround, known_of, AreBeginnings, prefix_length, take_prefix}

pub prefix_trans : {X : Type 0} (xs ys zs : List X) → IsPrefix xs ys → IsPrefix ys zs → IsPrefix xs zs
prefix_trans xs ys zs a b = (a.0 ++ b.0, sym (append_assoc xs a.0 b.0) ∙ ap (λ ws. ws ++ b.0) a.1 ∙ b.1)

module _ {T K Kind Delta : Type 0} {ghosts : Ghosts T Kind Op Delta} {keeping : Keeping K} (spelling : Spelling T Kind Op Delta) (meaning : Machine (Node T K Kind Op Delta ghosts keeping) (Input T Kind Op Delta ghosts) Fate (Output T Kind Op Delta ghosts) StepError) (world : worlds.World Kind Op Shown) (ids : ℕ → Option ℕ)
    (opening : Opening (Node T K Kind Op Delta ghosts keeping) (Input T Kind Op Delta ghosts) Fate (Output T Kind Op Delta ghosts) StepError) where
  abbrev Member : Type 0
  Member = Node T K Kind Op Delta ghosts keeping

  abbrev Session : Type 0
  Session = ClientParts (Node T K Kind Op Delta ghosts keeping) (Input T Kind Op Delta ghosts) Fate (Output T Kind Op Delta ghosts) StepError

  -- a member of the program stands for that of the model after its first entries
  pub record StandsAfter (histories : ℕ → List (model.Entry Op Shown)) (i count : ℕ) (now : Member) : Type 0 where
    pub kinds : Text → Kind
    pub logs : Text → History Op
    pub member : nodes.Node Kind Op Shown
    pub member_is : member_after (replication ghosts spelling) world histories i count ≡ Some member
    pub stands : StandsForNode ghosts.kind_of ghosts.IsDataOf kinds logs now member

  -- WHAT IS FIXED IN A SECTION: its histories, and that whatever replays a beginning of one stands for the model's member
  pub record IsSettled (h : ℕ → List (EntryOf ghosts keeping)) (histories : ℕ → List (model.Entry Op Shown)) : Type 0 where
    pub ground : IsGround spelling world ids h histories
    pub began : (p : ℕ) (start : Member) → machine_at opening.machines p ≡ Some start → (i : ℕ) × (ids p ≡ Some i)
    pub few : (p : ℕ) → length (h p) ≤ 16384
    pub stand : (p i count : ℕ) (start now : Member) → ids p ≡ Some i → machine_at opening.machines p ≡ Some start → count ≤ length (h p)
        → Replays meaning start (take count (h p)) now → StandsAfter histories i count now
    pub limits : (p : ℕ) (start now : Member) (es : List (EntryOf ghosts keeping)) → machine_at opening.machines p ≡ Some start → Replays meaning start es now → now.limit ≡ program_steps
    pub full : (p : ℕ) → length (h p) ≡ 16384 → (i : ℕ) × (ids p ≡ Some i) × (node_full (replication ghosts spelling) (member_after (replication ghosts spelling) world histories i 16384) ≡ true)

  module _ (h : ℕ → List (EntryOf ghosts keeping)) (histories : ℕ → List (model.Entry Op Shown)) (settled : IsSettled h histories) where
    abbrev pub known_in : Session → ℕ → ℕ
    known_in s = known_of spelling world ids s.seen.known

    -- the session is of this section
    pub record IsOf (client : ℕ) (s : Session) : Type 0 where
      pub number : s.number ≡ client
      pub opened : s.seen.began ≡ Some opening
      pub begins : AreBeginnings spelling world ids h s.seen.known

    -- what comes before it is too
    pub is_of_before : (client : ℕ) (a b : Session) → GoesOn a b → IsOf client b → IsOf client a
    is_of_before client a b goes is = record { number = sym goes.number ∙ is.number; opened = sym goes.began ∙ is.opened; begins = λ p. prefix_trans (at a.seen.known p) (at b.seen.known p) (h p) (goes.knows.begins p) (is.begins p) }

    pub more_known : (a b : Session) → GoesOn a b → (i : ℕ) → known_in a i ≤ known_in b i
    more_known a b goes i = prefix_length (at a.seen.known (place_of world.view i)) (at b.seen.known (place_of world.view i)) (goes.knows.begins (place_of world.view i))

    -- WHAT REPLAYS

    start_of : (client p : ℕ) (s : Session) (start : Member) → IsOf client s → StartsAt p s.seen.began start → machine_at opening.machines p ≡ Some start
    start_of client p s start is starts =
        let same : starts.opening ≡ opening = cc (sym starts.opening_is ∙ is.opened) in
        ap (λ (o : Opening (Node T K Kind Op Delta ghosts keeping) (Input T Kind Op Delta ghosts) Fate (Output T Kind Op Delta ghosts) StepError). machine_at o.machines p) (sym same) ∙ starts.start_is

    -- what replays all that a session knows of a place stands for the member there
    stands_known : (client p i : ℕ) (s : Session) (start now : Member) → IsOf client s → ids p ≡ Some i → machine_at opening.machines p ≡ Some start
        → Replays meaning start (at s.seen.known p) now → StandsAfter histories i (known_in s i) now
    stands_known client p i s start now is here began replays =
        subst (λ count. StandsAfter histories i count now) (sym (ap (λ q. length (at s.seen.known q)) (settled.ground.seats p i here)))
        (settled.stand p i (length (at s.seen.known p)) start now here began (prefix_length (at s.seen.known p) (h p) (is.begins p))
        (subst (λ es. Replays meaning start es now) (sym (take_prefix (at s.seen.known p) (h p) (is.begins p))) replays))

    -- A LOOK

    pub record HasLooked (i op : ℕ) (s : Session) (look : Look) : Type 0 where
      pub member : nodes.Node Kind Op Shown
      pub member_is : member_after (replication ghosts spelling) world histories i (known_in s i) ≡ Some member
      pub looks : LooksAt member op look

    pub looked : (client i op : ℕ) (a b : Session) (look : Look) → IsOf client b → IsShownBy meaning ids i Looks op a b look → HasLooked i op b look
    looked client i op a b look is by =
        let shown = by.shown in
        let before = is_of_before client a b shown.sees.goes_on is in
        let stands = stands_known client by.place i b shown.start shown.now is by.here (start_of client by.place a shown.start before shown.starts) shown.replays in
        record { member = stands.member; member_is = stands.member_is; looks = shown.shows.at stands.kinds stands.logs stands.member stands.stands }

    -- FULL MEMBERS

    is_full_by : (i count : ℕ) (now : Member) → StandsAfter histories i count now → now.steps ≡ program_steps → node_full (replication ghosts spelling) (member_after (replication ghosts spelling) world histories i count) ≡ true
    is_full_by i count now stands all = ap (λ o. node_full (replication ghosts spelling) o) stands.member_is ∙ (Decides-eqb stands.member.steps program_steps).1 (stands.stands.steps ∙ all)

    full_there : (client p : ℕ) (s : Session) → IsOf client s → IsFullThere meaning p s → (i : ℕ) × (ids p ≡ Some i) × IsKnownFull (replication ghosts spelling) world histories i (known_in s)
    full_there client p s is (inl full) =
        let a = full.full in
        let b = prefix_length (at s.seen.known p) (h p) (is.begins p) in
        let c = settled.few p in
        let it = settled.full p (omega (arith, a, b, c)) in
        let d = ap (λ q. length (at s.seen.known q)) (settled.ground.seats p it.0 it.1) in
        (it.0, it.1, (16384, omega (arith, a, d), it.2))
    full_there client p s is (inr made) =
        let started = start_of client p s made.start is made.starts in
        let it = settled.began p made.start started in
        let all = made.steps ∙ settled.limits p made.start made.now (at s.seen.known p) started made.replays in
        (it.0, it.1, (known_in s it.0, omega arith, is_full_by it.0 (known_in s it.0) made.now (stands_known client p it.0 s made.start made.now is it.1 started made.replays) all))

    pub full_at : (client i : ℕ) (s : Session) → IsOf client s → IsFullAt meaning ids i s → IsKnownFull (replication ghosts spelling) world histories i (known_in s)
    full_at client i s is full =
        let it = full_there client full.place s is full.full in
        subst (λ j. IsKnownFull (replication ghosts spelling) world histories j (known_in s)) (cc (sym it.1 ∙ full.here)) it.2

    pub full_somewhere : (client : ℕ) (s : Session) → IsOf client s → IsFullSomewhere meaning ids s → KnowsFull (replication ghosts spelling) world histories (known_in s)
    full_somewhere client s is full = let it = full_there client full.place s is full.full in (it.0, it.2)
