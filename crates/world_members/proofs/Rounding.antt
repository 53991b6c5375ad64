-- A round.
--     dues_alike        what is due on the links of the program is what is due on those of the model
--     upto_more, one_turn        its deliveries, one after another
--     IsUpto, IsTurned        how far it has come
--     plays_round, remains_round        what it does as a whole
use Rattle.std.proofs.Common.{◌≡◌, ℕ, zero, suc, ◌+◌, ◌-◌, ◌<◌, ◌≤◌, List, [], ◌∷◌, ◌++◌, map, refl, sym, ap, ◌∙◌, arith, Bool, true, false, Option, Some, None, append_assoc, max, length, take, drop, get_or, subst, inl, inr}
use Rattle.std.specs.Prelude.{flat_map, nat_lt, if◌then◌else◌, All, IfSome, fold, ◌==◌}
use Rattle.std.specs.List.{range_with_len, AllByRecursion}
use Rattle.std.proofs.lemmas.List.{map-append, take_more, take-append-drop}
use Rattle.std.proofs.lemmas.List.Concat.{flat_map-append, flat_map-cons}
use Rattle.std.proofs.lemmas.List.Elements.{All-head, All-tail}
use Rattle.std.proofs.lemmas.List.Sums.{fold-append}
use Rattle.std.proofs.lemmas.Bool.Decides.{eqb_tells}
use Rattle.model_history.specs.Texts.{Text}
use Rattle.model_history.specs.Table.{identity_limit}
use Rattle.model_history.specs.History.{History}
use Rattle.model_history.proofs.HistoryLaws.{append_nothing}
use Rattle.model_kinds.specs.declared.operation.Op.{Op}
use Rattle.model_kinds.specs.declared.shown.Shown.{Shown}
use Rattle.model_members.specs.Script as script
use Rattle.model_members.specs.View.{View, Member, identities_of}
use Rattle.model_members.specs.World.{Link}
use Rattle.model_members.specs.Script.{Playing, due_on, due_now, deliver, deliver_due, ScriptStep, round_of, told, played}
use Rattle.model_members.specs.DataType.{Replication}
use Rattle.model_members.specs.Node.{KeyDecl}
use Rattle.theorem_runs.proofs.Playing.{played_appends}
use Rattle.base_vectors.proofs.Walks.{counted_more}
use Rattle.member_views.specs.Sound.{IsView, last_view}
use Rattle.member_keeper.specs.declared.keeper.Keeper.{Ghosts as Keeping}
use Rattle.data_lattice.specs.declared.replica.Replica.{Ghosts}
use Rattle.data_lattice.specs.declared.spelled.SpelledData.{Ghosts as Spelling}
use Rattle.member_messages.specs.declared.message.Message.{Message}
use Rattle.member_node.specs.Steps.{replication}
use Rattle.script_reading.specs.declared.script.Step.TheVariants as form
use Rattle.world_members.specs.declared.event.Head.TheVariants as head
use Rattle.world_members.specs.declared.event.Answer.TheVariants as answer
use Rattle.world_members.specs.declared.world.World.{World}
use Rattle.world_places.specs.Channels.{Channel, channel_at, next_on, count_on}
use Rattle.world_members.specs.Rounds.{due_between, dues_from, dues_of, meant_due, delivered_upto, delivers_due, delivers_all, DoesMore, Halts}
use Rattle.world_members.specs.Standing.{StandsForWorld}
use Rattle.world_places.specs.Standing.{StandsForLink}
use Rattle.world_members.specs.declared.rounds.Due.{Due}
use Rattle.world_members.specs.Giving.{delivers, Does, IsAsBefore}
use Rattle.world_members.specs.Ways.{IsPrefix, Means}
use Rattle.world_members.specs.declared.event.Event.{Event}
use Rattle.world_members.specs.Steps.{Plays, Remains}
use Rattle.world_places.proofs.Linking.{link_next, link_count}
use Rattle.world_members.proofs.Standings.{last_is, as_it_was, same_itself}
use Rattle.world_members.proofs.Sequences.{GoesOn, goes_fold, goes_deliver, goes_nowhere, does_none, does_then, does_as, halts_after, halts_within, halts_as}
use Rattle.world_members.proofs.Telling.{plays_does, plays_told}
use Rattle.world_members.proofs.Onward.{way_logs}

-- one more number of a list made number by number
pub more_of : {X : Type 0} (f : ℕ → List X) (start now later : List X) (n : ℕ) → now ≡ start ++ flat_map f (range_with_len 0 n) → later ≡ now ++ f n → later ≡ start ++ flat_map f (range_with_len 0 (n + 1))
more_of f start now later n so_far step =
    step ∙ ap (λ xs. xs ++ f n) so_far ∙ append_assoc start (flat_map f (range_with_len 0 n)) (f n)
    ∙ ap (λ xs. start ++ (flat_map f (range_with_len 0 n) ++ xs)) (sym (append_nothing (f n)) ∙ sym (flat_map-cons f n []))
    ∙ ap (λ xs. start ++ xs) (sym (flat_map-append f (range_with_len 0 n) (n ∷ [])))
    ∙ ap (λ xs. start ++ flat_map f xs) (sym (counted_more n))

map_flat : {X Y Z : Type 0} (P : X → Type 0) (g : Y → Z) (f : X → List Y) (h : X → List Z) → ((x : X) → P x → map g (f x) ≡ h x) → (xs : List X) → AllByRecursion P xs → map g (flat_map f xs) ≡ flat_map h xs
map_flat P g f h same [] all = refl
map_flat P g f h same (x ∷ xs) all = ap (map g) (flat_map-cons f x xs) ∙ map-append g (f x) (flat_map f xs) ∙ ap (λ ys. ys ++ map g (flat_map f xs)) (same x all.0) ∙ ap (λ ys. h x ++ ys) (map_flat P g f h same xs all.1) ∙ sym (flat_map-cons h x xs)

range_below : (a n limit : ℕ) → a + n ≤ limit → AllByRecursion (λ i. i < limit) (range_with_len a n)
range_below a zero limit h = tt
range_below a (suc n) limit h = ((omega arith), range_below (a + 1) n limit (omega arith))

members_below : (limit : ℕ) (ms : List Member) → All (λ (m : Member). m.identity < limit) ms → AllByRecursion (λ i. i < limit) (map (λ (m : Member). m.identity) ms)
members_below limit [] h = tt
members_below limit (m ∷ ms) h = (All-head (λ (m : Member). m.identity < limit) m ms h, members_below limit ms (All-tail (λ (m : Member). m.identity < limit) m ms h))

weaker : (m n : ℕ) → m ≤ n → (xs : List ℕ) → AllByRecursion (λ i. i < m) xs → AllByRecursion (λ i. i < n) xs
weaker m n le [] h = tt
weaker m n le (x ∷ xs) h = ((let l = h.0 in omega arith), weaker m n le xs h.1)

module _ {T Kind Delta : Type 0} {ghosts : Ghosts T Kind Op Delta} (kinds : Text → Kind) (logs : Text → History Op) where
  due_alike : (from to : ℕ) (o : Option (Channel (Message T Kind Op Delta ghosts))) (link : Link Op) → StandsForLink {ghosts = ghosts} kinds logs o link → map meant_due (due_between from to o) ≡ due_on from to link
  due_alike from to o link s =
      let next = link_next kinds logs o link s in
      let count = link_count kinds logs o link s in
      go (nat_lt (next_on o) (count_on o))
      ∙ ap (λ n. if nat_lt n (count_on o) then record { from = from; to = to; first = n; count = count_on o - n } ∷ [] else []) (sym next)
      ∙ ap (λ m. if nat_lt link.next m then record { from = from; to = to; first = link.next; count = m - link.next } ∷ [] else []) (sym count)
    where
      go : (b : Bool) → map meant_due (if b then record { from = from; to = to; first = next_on o; end = count_on o } ∷ [] else []) ≡ (if b then record { from = from; to = to; first = next_on o; count = count_on o - next_on o } ∷ [] else [])
      go true = refl
      go false = refl

module _ {T K Kind Delta : Type 0} {ghosts : Ghosts T Kind Op Delta} {keeping : Keeping K} (spelling : Spelling T Kind Op Delta) (kinds : Text → Kind) (logs : Text → History Op) where
  pub dues_alike : (code : World T K Kind Op Delta ghosts keeping) (p : Playing Kind Op Shown) → IsView (last_view code.views) → StandsForWorld spelling kinds logs code p.world → map meant_due (dues_of code.links (last_view code.views)) ≡ due_now (replication ghosts spelling) p
  dues_alike code p sound stands =
      let links = p.world.links in
      let view = last_view code.views in
      let few : AllByRecursion (λ i. i < identity_limit) (identities_of view) = weaker view.given identity_limit sound.few (identities_of view) (members_below view.given view.members sound.given) in
      map_flat (λ i. i < identity_limit) meant_due (dues_from code.links (identities_of view)) (λ from. flat_map (λ to. due_on from to (links from to)) (identities_of view))
      (λ from small. map_flat (λ i. i < identity_limit) meant_due (λ to. due_between from to (channel_at code.links from to)) (λ to. due_on from to (links from to)) (λ to bounded. due_alike kinds logs from to (channel_at code.links from to) (links from to) (stands.links from to small bounded)) (identities_of view) few)
      (range_with_len 0 view.given) (range_below 0 view.given identity_limit (let l = sound.few in omega arith))
      ∙ ap (λ (v : View). flat_map (λ from. flat_map (λ to. due_on from to (links from to)) (identities_of v)) (range_with_len 0 v.given)) (last_is p.world code.views stands.views)

pub id_is : (o : Option ℕ) (id n : ℕ) → o ≡ Some id → IfSome o (λ i. i ≡ n) → id ≡ n
id_is None id n e h = absurd (cc e)
id_is (Some i) id n e h = (let same : i ≡ id = cc e in sym same) ∙ h

-- DELIVERIES

range_split : (a m n : ℕ) → range_with_len a (m + n) ≡ range_with_len a m ++ range_with_len (a + m) n
range_split a zero n =
    let same : 0 + n ≡ n = omega arith in
    let start : a ≡ a + 0 = omega arith in
    ap (range_with_len a) same ∙ ap (λ b. range_with_len b n) start
range_split a (suc m) n =
    let more : suc m + n ≡ suc (m + n) = omega arith in
    let start : a + 1 + m ≡ a + suc m = omega arith in
    ap (range_with_len a) more ∙ ap (λ xs. a ∷ xs) (range_split (a + 1) m n ∙ ap (λ b. range_with_len (a + 1) m ++ range_with_len b n) start)

module _ {T Kind Delta : Type 0} (ghosts : Ghosts T Kind Op Delta) (spelling : Spelling T Kind Op Delta) where
  abbrev D : Replication Kind Op Shown
  D = replication ghosts spelling

  fold_goes : (from to : ℕ) (indices : List ℕ) → GoesOn (λ (p : Playing Kind Op Shown). fold (λ q i. deliver D q from to i) p indices)
  fold_goes from to indices = goes_fold (λ (q : Playing Kind Op Shown) (i : ℕ). deliver D q from to i) (λ i. goes_deliver D from to i) indices

  pub upto_goes : (due : Due) (index : ℕ) → GoesOn (delivered_upto ghosts spelling due index)
  upto_goes due index = fold_goes due.from due.to (range_with_len due.first (index - due.first))

  model_goes : (due : script.Due) → GoesOn (λ (p : Playing Kind Op Shown). deliver_due D p due)
  model_goes due = fold_goes due.from due.to (range_with_len due.first due.count)

  pub all_goes : (dues : List Due) → GoesOn (delivers_all ghosts spelling dues)
  all_goes dues = goes_fold (deliver_due D) model_goes (map meant_due dues)

  module _ (due : Due) (p : Playing Kind Op Shown) where
    pub upto_start : delivered_upto ghosts spelling due due.first p ≡ p
    upto_start = let none : due.first - due.first ≡ 0 = omega arith in ap (λ n. fold (λ q i. deliver D q due.from due.to i) p (range_with_len due.first n)) none

    pub upto_more : (index : ℕ) → due.first ≤ index → delivered_upto ghosts spelling due (index + 1) p ≡ delivers ghosts spelling due.from due.to index (delivered_upto ghosts spelling due index p)
    upto_more index later =
        let count : index + 1 - due.first ≡ (index - due.first) + 1 = omega arith in
        let here : due.first + (index - due.first) ≡ index = omega arith in
        ap (λ n. fold (λ q i. deliver D q due.from due.to i) p (range_with_len due.first n)) count
        ∙ ap (fold (λ q i. deliver D q due.from due.to i) p) (range_split due.first (index - due.first) 1)
        ∙ fold-append (λ q i. deliver D q due.from due.to i) p (range_with_len due.first (index - due.first)) ((due.first + (index - due.first)) ∷ [])
        ∙ ap (deliver D (delivered_upto ghosts spelling due index p) due.from due.to) here

    pub upto_until : (index : ℕ) → due.first ≤ index → index ≤ due.end → IsPrefix (delivered_upto ghosts spelling due index p).events (delivers_due ghosts spelling due p).events
    upto_until index later within =
        let count : due.end - due.first ≡ (index - due.first) + (due.end - index) = omega arith in
        subst (λ (q : Playing Kind Op Shown). IsPrefix (delivered_upto ghosts spelling due index p).events q.events)
        (sym (ap (λ n. fold (λ q i. deliver D q due.from due.to i) p (range_with_len due.first n)) count ∙ ap (fold (λ q i. deliver D q due.from due.to i) p) (range_split due.first (index - due.first) (due.end - index))
        ∙ fold-append (λ q i. deliver D q due.from due.to i) p (range_with_len due.first (index - due.first)) (range_with_len (due.first + (index - due.first)) (due.end - index))))
        (fold_goes due.from due.to (range_with_len (due.first + (index - due.first)) (due.end - index)) (delivered_upto ghosts spelling due index p)).more

    -- all were delivered
    pub upto_all : (index : ℕ) → due.first ≤ index → due.end ≤ index → index ≤ max due.first due.end → delivered_upto ghosts spelling due index p ≡ delivers_due ghosts spelling due p
    upto_all index since past within =
        let count : index - due.first ≡ due.end - due.first = omega arith in
        ap (λ n. fold (λ q i. deliver D q due.from due.to i) p (range_with_len due.first n)) count

  module _ (dues : List Due) (k : ℕ) (due : Due) (within : k < length dues) (is : due ≡ get_or dues k due) (p : Playing Kind Op Shown) where
    pub one_turn : delivers_all ghosts spelling (take (k + 1) dues) p ≡ delivers_due ghosts spelling due (delivers_all ghosts spelling (take k dues) p)
    one_turn =
        ap (λ ds. delivers_all ghosts spelling ds p) (take_more dues k due within ∙ ap (λ (d : Due). take k dues ++ d ∷ []) (sym is))
        ∙ ap (fold (deliver_due D) p) (map-append meant_due (take k dues) (due ∷ []))
        ∙ fold-append (deliver_due D) p (map meant_due (take k dues)) (meant_due due ∷ [])

  pub turns_until : (dues : List Due) (k : ℕ) (p : Playing Kind Op Shown) → IsPrefix (delivers_all ghosts spelling (take k dues) p).events (delivers_all ghosts spelling dues p).events
  turns_until dues k p =
      subst (λ (q : Playing Kind Op Shown). IsPrefix (delivers_all ghosts spelling (take k dues) p).events q.events)
      (sym (ap (fold (deliver_due D) p) (ap (map meant_due) (sym (take-append-drop k dues)) ∙ map-append meant_due (take k dues) (drop k dues)) ∙ fold-append (deliver_due D) p (map meant_due (take k dues)) (map meant_due (drop k dues))))
      (all_goes (drop k dues) (delivers_all ghosts spelling (take k dues) p)).more

-- THE ROUND

module _ {T K Kind Delta : Type 0} {ghosts : Ghosts T Kind Op Delta} {keeping : Keeping K} (spelling : Spelling T Kind Op Delta) where
  -- ONE LINK

  abbrev pub IsUpto : Due → ℕ → World T K Kind Op Delta ghosts keeping → World T K Kind Op Delta ghosts keeping → List Event → List Event → Type 0
  IsUpto due index start now before events = DoesMore spelling (delivered_upto ghosts spelling due index) start now before events

  pub none_delivered : (due : Due) (start : World T K Kind Op Delta ghosts keeping) (before : List Event) → IsUpto due due.first start start before before
  none_delivered due start before =
      record {
        events = [];
        are = sym (append_nothing before);
        does = does_as spelling (λ p. p) (delivered_upto ghosts spelling due due.first) start start [] (λ kinds members decls p m. sym (upto_start ghosts spelling due p)) (does_none spelling start);
      }

  module _ (due : Due) (index : ℕ) (start now later : World T K Kind Op Delta ghosts keeping) (before events : List Event) (since : due.first ≤ index) (upto : IsUpto due index start now before events) where
    module _ (event : Event) (does : Does spelling (delivers ghosts spelling due.from due.to index) now later (event ∷ [])) where
      one_more : Does spelling (delivered_upto ghosts spelling due (index + 1)) start later (upto.events ++ event ∷ [])
      one_more =
          does_as spelling (λ p. delivers ghosts spelling due.from due.to index (delivered_upto ghosts spelling due index p)) (delivered_upto ghosts spelling due (index + 1)) start later (upto.events ++ event ∷ []) (λ kinds members decls p m. sym (upto_more ghosts spelling due p index since))
          (does_then spelling (delivered_upto ghosts spelling due index) (delivers ghosts spelling due.from due.to index) (upto_goes ghosts spelling due index) start now later upto.events (event ∷ []) upto.does does)

      pub one_delivered : (after : List Event) → after ≡ events ++ event ∷ [] → IsUpto due (index + 1) start later before after
      one_delivered after is = record { events = upto.events ++ event ∷ []; are = is ∙ ap (λ es. es ++ event ∷ []) upto.are ∙ append_assoc before upto.events (event ∷ []); does = one_more }

      -- memory was wanted for the event
      pub halts_push : index < due.end → Halts spelling (delivers_due ghosts spelling due) start later
      halts_push until =
          halts_after spelling (delivered_upto ghosts spelling due (index + 1)) (delivers_due ghosts spelling due) start later later (upto.events ++ event ∷ []) (upto_goes ghosts spelling due (index + 1))
          (λ p. upto_until ghosts spelling due p (index + 1) (omega arith) (omega arith)) one_more (as_it_was spelling later)

    -- memory was wanted for the delivery
    pub halts_deliver : index < due.end → IsAsBefore spelling now later → Halts spelling (delivers_due ghosts spelling due) start later
    halts_deliver until stays =
        halts_after spelling (delivered_upto ghosts spelling due index) (delivers_due ghosts spelling due) start now later upto.events (upto_goes ghosts spelling due index) (λ p. upto_until ghosts spelling due p index since (omega arith)) upto.does stays

    pub all_delivered : due.end ≤ index → index ≤ max due.first due.end → DoesMore spelling (delivers_due ghosts spelling due) start now before events
    all_delivered past within =
        record {
          events = upto.events;
          are = upto.are;
          does = does_as spelling (delivered_upto ghosts spelling due index) (delivers_due ghosts spelling due) start now upto.events (λ kinds members decls p m. upto_all ghosts spelling due p index since past within) upto.does;
        }

  -- ALL LINKS

  abbrev pub IsTurned : List Due → ℕ → World T K Kind Op Delta ghosts keeping → World T K Kind Op Delta ghosts keeping → List Event → Type 0
  IsTurned dues k start now events = DoesMore spelling (delivers_all ghosts spelling (take k dues)) start now [] events

  pub none_turned : (dues : List Due) (start : World T K Kind Op Delta ghosts keeping) (events : List Event) → events ≡ [] → IsTurned dues 0 start start events
  none_turned dues start events none = record { events = []; are = none; does = does_none spelling start }

  module _ (dues : List Due) (k : ℕ) (due : Due) (within : k < length dues) (is : due ≡ get_or dues k due) (start now later : World T K Kind Op Delta ghosts keeping) (events : List Event) (turned : IsTurned dues k start now events) where
    pub one_turned : (after : List Event) → DoesMore spelling (delivers_due ghosts spelling due) now later events after → IsTurned dues (k + 1) start later after
    one_turned after more =
        record {
          events = turned.events ++ more.events;
          are = more.are ∙ ap (λ es. es ++ more.events) turned.are;
          does = does_as spelling (λ p. delivers_due ghosts spelling due (delivers_all ghosts spelling (take k dues) p)) (delivers_all ghosts spelling (take (k + 1) dues)) start later (turned.events ++ more.events)
              (λ kinds members decls p m. sym (one_turn ghosts spelling dues k due within is p))
              (does_then spelling (delivers_all ghosts spelling (take k dues)) (delivers_due ghosts spelling due) (all_goes ghosts spelling (take k dues)) start now later turned.events more.events turned.does more.does);
        }

    pub halts_turn : Halts spelling (delivers_due ghosts spelling due) now later → Halts spelling (delivers_all ghosts spelling dues) start later
    halts_turn halts =
        halts_within spelling (delivers_all ghosts spelling (take k dues)) (delivers_due ghosts spelling due) (delivers_all ghosts spelling dues) start now later turned.events (all_goes ghosts spelling (take k dues))
        (λ p. subst (λ (q : Playing Kind Op Shown). IsPrefix q.events (delivers_all ghosts spelling dues p).events) (one_turn ghosts spelling dues k due within is p) (turns_until ghosts spelling dues (k + 1) p)) turned.does halts

  -- A ROUND

  module _ (start : World T K Kind Op Delta ghosts keeping) (sound : IsView (last_view start.views)) (dues : List Due) (are : dues ≡ dues_of start.links (last_view start.views)) where
    module _ (kinds : Text → Kind) (members : ℕ) (decls : List (KeyDecl Kind)) (p : Playing Kind Op Shown) (m : Means spelling kinds members decls p start) where
      dues_now : map meant_due dues ≡ due_now (replication ghosts spelling) p
      dues_now = let logged = way_logs (replication ghosts spelling) members decls p m.run in ap (map meant_due) are ∙ dues_alike spelling kinds logged.0 start p sound (m.stands logged.0 logged.1)

      round_turned : 0 < length dues → delivers_all ghosts spelling dues p ≡ round_of (replication ghosts spelling) p (due_now (replication ghosts spelling) p)
      round_turned some = go dues some ∙ ap (round_of (replication ghosts spelling) p) dues_now
        where
          go : (ds : List Due) → 0 < length ds → delivers_all ghosts spelling ds p ≡ round_of (replication ghosts spelling) p (map meant_due ds)
          go [] h = absurd (omega arith)
          go (d ∷ ds) h = refl

      round_nothing : dues ≡ [] → round_of (replication ghosts spelling) p (due_now (replication ghosts spelling) p) ≡ told p script.Head.RoundHead script.Answer.Nothing
      round_nothing none = ap (round_of (replication ghosts spelling) p) (sym dues_now ∙ ap (map meant_due) none)

    pub plays_nothing : dues ≡ [] → (events : List Event) → events ≡ record { head = head.Round; answer = answer.Nothing; sent = []; finished = None } ∷ [] → Plays spelling form.Round start start events
    plays_nothing none events line =
        subst (λ (es : List Event). Plays spelling form.Round start start es) (sym line)
        (plays_told spelling start start (same_itself start) form.Round head.Round answer.Nothing _ refl refl (λ kinds members decls p m. (script.Head.RoundHead, script.Answer.Nothing, round_nothing kinds members decls p m none, refl, refl)))

    pub plays_round : 0 < length dues → (now : World T K Kind Op Delta ghosts keeping) (k : ℕ) (events : List Event) → take k dues ≡ dues → IsTurned dues k start now events → Plays spelling form.Round start now events
    plays_round some now k events all turned =
        subst (λ (es : List Event). Plays spelling form.Round start now es) (sym turned.are)
        (plays_does spelling form.Round start now turned.events
        (does_as spelling (delivers_all ghosts spelling (take k dues)) (λ p. played (replication ghosts spelling) p ScriptStep.Round) start now turned.events (λ kinds members decls p m. ap (λ ds. delivers_all ghosts spelling ds p) all ∙ round_turned kinds members decls p m some) turned.does))

    pub remains_round : 0 < length dues → (now : World T K Kind Op Delta ghosts keeping) → Halts spelling (delivers_all ghosts spelling dues) start now → Remains spelling form.Round start now
    remains_round some now halts =
        let round = halts_as spelling (delivers_all ghosts spelling dues) (λ p. played (replication ghosts spelling) p ScriptStep.Round) start now (λ kinds members decls p m. round_turned kinds members decls p m some) halts in
        record { kept = round.kept; remains = round.stops }

  -- before the first delivery
  pub remains_still : (start : World T K Kind Op Delta ghosts keeping) → Remains spelling form.Round start start
  remains_still start =
      let round = halts_after spelling (λ p. p) (λ p. played (replication ghosts spelling) p ScriptStep.Round) start start start [] goes_nowhere (λ p. played_appends (replication ghosts spelling) p ScriptStep.Round tt) (does_none spelling start) (as_it_was spelling start) in
      record { kept = round.kept; remains = round.stops }

pub some_count : (n : ℕ) → (n == 0) ≡ false → 0 < n
some_count n e = elim (eqb_tells n 0) [ inl same ↦ absurd (let f : true ≡ false = sym same.0 ∙ e in cc f) | inr other ↦ let ne = other.1 in omega arith ]
