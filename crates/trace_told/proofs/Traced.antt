-- What is told of all that is seen of a run is its trace.
use Rattle.std.proofs.Common.{◌≡◌, ◌≢◌, ℕ, zero, suc, ◌+◌, ◌≤◌, List, [], ◌∷◌, ◌++◌, map, refl, sym, ap, ap₂, subst, ◌∙◌, arith, Bool, true, false, Option, Some, None, append_assoc, inl, inr}
use Rattle.std.specs.Prelude.{if◌then◌else◌, ◌&&◌, not, is_some, flat_map}
use Rattle.std.specs.List.{AllByRecursion}
use Rattle.std.specs.Str.{bytes_eq}
use Rattle.std.proofs.lemmas.Map.Keys.{IsDistinct-head, IsDistinct-tail}
use Rattle.std.proofs.lemmas.Slice.Eq.{bytes_eq-Decides}
use Rattle.model_history.specs.Table.{identity_limit}
use Rattle.model_history.specs.Texts.{Text}
use Rattle.model_history.specs.History.{Action, versions}
use Rattle.model_history.proofs.PruneLaws.{IsIn, in_tail, in_append, in_flat_map}
use Rattle.model_members.specs.View.{Member, identities_of}
use Rattle.model_members.specs.Entry.{has_records}
use Rattle.model_members.specs.DataType.{Replication}
use Rattle.model_members.specs.Node.{KeyDecl, KeyState, KeyOutcome, Node, Reply, state_of, key_states}
use Rattle.model_members.specs.World.{World, Event, start, IsRun}
use Rattle.model_members.specs.Script.{Ask, IsStep, ScriptStep, Answer, Told, Playing, KeeperAnswers, opening, played, played_all}
use Rattle.theorem_runs.proofs.ViewLaws.{IsRising}
use Rattle.theorem_runs.proofs.Playing.{no_events, step_is_run}
use Rattle.theorem_runs.proofs.Safety.{runs_are_safe}
use Rattle.theorem_operations.proofs.Moments.{stands_start, stands_run}
use Rattle.model_traces.specs.Traces.{TraceLine, TraceState, nothing_traced, after_lines, AreLawful}
use Rattle.model_traces.specs.Traces.Act.{Holds, Records}
use Rattle.model_traces.specs.Runs.{line_of, tells_record, prunes_told, counts_alike, record_lines, get_lines, hold_line, show_line, of_node, of_members, step_lines, lines_from, trace_of}
use Rattle.model_traces.proofs.Consistency.{lawful_front}
use Rattle.theorem_traces.specs.Traced.{AreApart, IsTraced}
use Rattle.theorem_traces.proofs.Showing.{in_map}
use Rattle.theorem_traces.proofs.TickRecords.{apart_declared}
use Rattle.theorem_traces.proofs.LawfulRuns.{trace_is_lawful}
use Rattle.trace_told.specs.Told.{Counts, are_alike, none_told, count_lines, is_declared, told_of}
use Rattle.trace_told.specs.Seen.{held_line, records_seen, gets_seen, step_seen, steps_seen, end_seen, seen_of}
use Rattle.trace_told.proofs.Counting.{AreAlike, alike_of, lines_alike}
use Rattle.trace_told.proofs.Telling.{told_both, told_once, AreSaidOnce, apart_both, told_apart, IsPlain, plain_told}

-- WORLDS OF RUNS

-- members' identities rise, and each member has the declared keys
record IsOrdered {Kind Op Shown : Type 0} (keys : List (KeyDecl Kind)) (world : World Kind Op Shown) : Type 0 where
  pub rising : IsRising 0 world.view.given world.view.members
  pub keys_are : (i : ℕ) (node : Node Kind Op Shown) → world.nodes i ≡ Some node → node.keys ≡ keys

module _ {Kind Op Shown : Type 0} (D : Replication Kind Op Shown) (members : ℕ) (keys : List (KeyDecl Kind)) where
  run_keys : (events : List (Event Op)) (world : World Kind Op Shown) → IsRun D members keys events world → world.keys ≡ keys
  run_keys events world run =
      let first = stands_start D members keys run.some run.few in
      ap (λ (w : World Kind Op Shown). w.keys) run.leads ∙ (stands_run D members keys (start members keys) first events run.lawful).same_keys

  run_ordered : (events : List (Event Op)) (world : World Kind Op Shown) → IsRun D members keys events world → IsOrdered keys world
  run_ordered events world run =
      let safe = runs_are_safe D members keys events world run in
      record {
        rising = safe.views.views.rising world.view.number world.view safe.views.views.listed;
        keys_are = λ i node runs. (safe.views.running i node runs).keys ∙ run_keys events world run;
      }

-- LISTS

flat_flat : {X Y Z : Type 0} (g : Y → List Z) (f : X → List Y) (xs : List X) → flat_map g (flat_map f xs) ≡ flat_map (λ x. flat_map g (f x)) xs
flat_flat g f [] = refl
flat_flat g f (x ∷ xs) = both (f x) (flat_map f xs) ∙ ap (λ zs. flat_map g (f x) ++ zs) (flat_flat g f xs)
  where
    both : (xs ys : List _) → flat_map g (xs ++ ys) ≡ flat_map g xs ++ flat_map g ys
    both [] ys = refl
    both (x ∷ xs) ys = ap (λ zs. g x ++ zs) (both xs ys) ∙ sym (append_assoc (g x) (flat_map g xs) (flat_map g ys))

each_same : {X Y : Type 0} (f g : X → List Y) (xs : List X) → ((x : X) → IsIn xs x → f x ≡ g x) → flat_map f xs ≡ flat_map g xs
each_same f g [] same = refl
each_same f g (x ∷ xs) same = ap₂ (λ (a b : List _). a ++ b) (same x (zero, refl)) (each_same f g xs (λ y m. same y (in_tail x xs y m)))

-- WHAT MEMBERS HOLD IS SAID ONCE

module _ {Kind Op Shown : Type 0} (keys : List (KeyDecl Kind)) (apart : AreApart keys) (world : World Kind Op Shown) (ordered : IsOrdered keys world) where
  module _ (i : ℕ) (node : Node Kind Op Shown) where
    abbrev key_lines : List (KeyDecl Kind) → List (TraceLine Op)
    key_lines ks = flat_map (held_line i) (map (state_of node) ks)

    in_keys : (ks : List (KeyDecl Kind)) (line : TraceLine Op) → IsIn (key_lines ks) line → (d : KeyDecl Kind) × IsIn ks d × (line.key ≡ d.name) × (line.member ≡ i)
    in_keys [] line h = absurd (cc h.1)
    in_keys (d ∷ ks) line (zero, e) =
        let same : line_of i d.name (Holds (versions (node.entries d.name).history)) ≡ line = cc e in
        (d, (zero, refl), ap (λ (l : TraceLine Op). l.key) (sym same), ap (λ (l : TraceLine Op). l.member) (sym same))
    in_keys (d ∷ ks) line (suc k, e) = let h = in_keys ks line (k, e) in (h.0, in_tail d ks h.0 h.1, h.2, h.3)

    other_name : (d : KeyDecl Kind) (ks : List (KeyDecl Kind)) → AllByRecursion (λ name. bytes_eq d.name name ≡ false) (map (λ (k : KeyDecl Kind). k.name) ks) → (e : KeyDecl Kind) → IsIn ks e → d.name ≢ e.name
    other_name d [] all e h = absurd (cc h.1)
    other_name d (k ∷ ks) all e (zero, is) = λ same.
        let there : k ≡ e = cc is in
        absurd (let f = sym all.0 ∙ (bytes_eq-Decides d.name k.name).1 (same ∙ ap (λ (x : KeyDecl Kind). x.name) (sym there)) in cc f)
    other_name d (k ∷ ks) all e (suc n, is) = other_name d ks all.1 e (n, is)

    keys_once : (ks : List (KeyDecl Kind)) → AreApart ks → AreSaidOnce keys (key_lines ks)
    keys_once [] apart = tt
    keys_once (d ∷ ks) apart =
        let names = map (λ (k : KeyDecl Kind). k.name) ks in (
          λ other m member key.
              let h = in_keys ks other m in
              other_name d ks (IsDistinct-head bytes_eq d.name names apart) h.0 h.1 (sym key ∙ h.2),
          keys_once ks (IsDistinct-tail bytes_eq d.name names apart),
        )

  in_node : (i : ℕ) (o : Option (Node Kind Op Shown)) (line : TraceLine Op) → IsIn (of_node held_line i o) line → line.member ≡ i
  in_node i None line h = absurd (cc h.1)
  in_node i (Some node) line h = (in_keys i node node.keys line h).3

  node_once : (i : ℕ) (o : Option (Node Kind Op Shown)) → world.nodes i ≡ o → AreSaidOnce keys (of_node held_line i o)
  node_once i None is = tt
  node_once i (Some node) is = keys_once i node node.keys (subst AreApart (sym (ordered.keys_are i node is)) apart)

  abbrev lines_at : ℕ → List (TraceLine Op)
  lines_at i = of_node held_line i (world.nodes i)

  abbrev identity_in : Member → ℕ
  identity_in member = member.identity

  no_less : (low high : ℕ) (ms : List Member) → IsRising low high ms → (line : TraceLine Op) → IsIn (flat_map lines_at (map identity_in ms)) line → low ≤ line.member
  no_less low high [] rising line h = absurd (cc h.1)
  no_less low high (m ∷ ms) rising line h = elim (in_append (lines_at m.identity) (flat_map lines_at (map identity_in ms)) line h) [
    | inl first ↦ (let a = rising.0 in let b = in_node m.identity (world.nodes m.identity) line first in omega (arith, a, b))
    | inr later ↦ (let a = rising.0 in let b = no_less (m.identity + 1) high ms rising.2 line later in omega (arith, a, b))
  ]

  members_once : (low high : ℕ) (ms : List Member) → IsRising low high ms → AreSaidOnce keys (flat_map lines_at (map identity_in ms))
  members_once low high [] rising = tt
  members_once low high (m ∷ ms) rising =
      apart_both keys (lines_at m.identity) (flat_map lines_at (map identity_in ms)) (node_once m.identity (world.nodes m.identity) refl) (members_once (m.identity + 1) high ms rising.2)
      (λ x here other there member key. absurd (
      let a = in_node m.identity (world.nodes m.identity) x here in
      let b = no_less (m.identity + 1) high ms rising.2 other there in
      omega (arith, a, b, member)))

  -- of what members hold what is news is told
  module _ (counts : Counts) (state : TraceState Op) (alike : AreAlike counts state) where
    once_held : (i : ℕ) (node : Node Kind Op Shown) (d : KeyDecl Kind) → IsIn keys d → flat_map (told_once keys counts) (held_line i (state_of node d)) ≡ hold_line state i (state_of node d)
    unfolding are_alike
    once_held i node d m =
        let known = versions (node.entries d.name).history in
        let line = line_of i d.name (Holds known) in
        let declared : is_declared keys d.name ≡ true = ap is_some (apart_declared keys apart d m) in
        let same = alike_of (counts i d.name) (versions (state.held i d.name)) known (λ x small. alike i d.name x small) in
        ap₂ (λ a b. (if a && not b then line ∷ [] else []) ++ []) declared same
        ∙ elim (counts_alike (versions (state.held i d.name)) known) as (λ b. (if true && not b then line ∷ [] else []) ++ [] ≡ (if b then [] else line ∷ [])) [ true ↦ refl | false ↦ refl ]

    node_held : (i : ℕ) (o : Option (Node Kind Op Shown)) → world.nodes i ≡ o → flat_map (told_once keys counts) (of_node held_line i o) ≡ of_node (hold_line state) i o
    node_held i None is = refl
    node_held i (Some node) is =
        flat_flat (told_once keys counts) (held_line i) (key_states node)
        ∙ each_same (λ k. flat_map (told_once keys counts) (held_line i k)) (hold_line state i) (key_states node)
        (λ k m. let d = in_map (state_of node) node.keys k m in
        subst (λ (x : KeyState Kind Op). flat_map (told_once keys counts) (held_line i x) ≡ hold_line state i x) d.2 (once_held i node d.0 (subst (λ ks. IsIn ks d.0) (ordered.keys_are i node is) d.1)))

    held_told : told_of keys counts (of_members held_line world) ≡ of_members (hold_line state) world
    held_told =
        told_apart keys counts counts (of_members held_line world) (members_once 0 world.view.given world.view.members ordered.rising) (λ line m. refl)
        ∙ flat_flat (told_once keys counts) lines_at (identities_of world.view)
        ∙ each_same (λ i. flat_map (told_once keys counts) (lines_at i)) (λ i. of_node (hold_line state) i (world.nodes i)) (identities_of world.view) (λ i m. node_held i (world.nodes i) refl)

-- RECORDS AND WHAT IS SHOWN

module _ {Op : Type 0} where
  if_plain : (b : Bool) (line : TraceLine Op) → IsPlain line → (other : TraceLine Op) → IsIn (if b then line ∷ [] else []) other → IsPlain other
  if_plain true line plain other (zero, e) = let same : line ≡ other = cc e in subst IsPlain same plain
  if_plain true line plain other (suc k, e) = absurd (cc e)
  if_plain false line plain other h = absurd (cc h.1)

module _ {Op Shown : Type 0} where
  record_plain : (s : ScriptStep Op) (answer : Answer Shown) (line : TraceLine Op) → IsIn (record_lines s answer) line → IsPlain line
  record_plain (ScriptStep.Asks i (Ask.Update key op level)) answer line h = if_plain (tells_record answer) _ (λ v. refl) line h
  record_plain (ScriptStep.Asks i Ask.Tick) answer line h =
      let o = in_map (λ (o : KeyOutcome). line_of i o.key (Records (Action.Prune o.removed))) (prunes_told answer) line h in
      subst IsPlain o.2 (λ v. refl)
  record_plain (ScriptStep.Asks i (Ask.Get key level)) answer line h = absurd (cc h.1)
  record_plain (ScriptStep.Asks i Ask.Flush) answer line h = absurd (cc h.1)
  record_plain (ScriptStep.Asks i (Ask.Gossip to)) answer line h = absurd (cc h.1)
  record_plain (ScriptStep.Asks i (Ask.Install view)) answer line h = absurd (cc h.1)
  record_plain (ScriptStep.Deliver from to index) answer line h = absurd (cc h.1)
  record_plain (ScriptStep.Lose from to) answer line h = absurd (cc h.1)
  record_plain ScriptStep.Round answer line h = absurd (cc h.1)
  record_plain (ScriptStep.Timeout i op) answer line h = absurd (cc h.1)
  record_plain (ScriptStep.Remove i) answer line h = absurd (cc h.1)
  record_plain (ScriptStep.Join place) answer line h = absurd (cc h.1)
  record_plain (ScriptStep.Restart i) answer line h = absurd (cc h.1)
  record_plain ScriptStep.Settle answer line h = absurd (cc h.1)

module _ {Kind Op Shown : Type 0} (D : Replication Kind Op Shown) (value_text : Shown → Text) where
  one_plain : (line : TraceLine Op) → IsPlain line → (other : TraceLine Op) → IsIn (line ∷ []) other → IsPlain other
  one_plain line plain other (zero, e) = let same : line ≡ other = cc e in subst IsPlain same plain
  one_plain line plain other (suc k, e) = absurd (cc e)

  reply_plain : (i : ℕ) (key : Text) (level : _) (reply : Reply Shown) (line : TraceLine Op) → IsIn (get_lines D value_text (ScriptStep.Asks i (Ask.Get key level)) (Answer.Replied reply)) line → IsPlain line
  reply_plain i key level (Reply.Value shown) line h = one_plain _ (λ v. refl) line h
  reply_plain i key level Reply.Deleted line h = one_plain _ (λ v. refl) line h
  reply_plain i key level _ line h = absurd (cc h.1)

  get_plain : (s : ScriptStep Op) (answer : Answer Shown) (line : TraceLine Op) → IsIn (get_lines D value_text s answer) line → IsPlain line
  get_plain (ScriptStep.Asks i (Ask.Get key level)) (Answer.Replied reply) line h = reply_plain i key level reply line h
  get_plain _ _ line h = absurd (cc h.1)

  show_plain : (i : ℕ) (k : KeyState Kind Op) (line : TraceLine Op) → IsIn (show_line D value_text i k) line → IsPlain line
  show_plain i k line h = if_plain (has_records k.entry) _ (λ v. refl) line h

  node_plain : (i : ℕ) (o : Option (Node Kind Op Shown)) (line : TraceLine Op) → IsIn (of_node (show_line D value_text) i o) line → IsPlain line
  node_plain i None line h = absurd (cc h.1)
  node_plain i (Some node) line h = let k = in_flat_map (show_line D value_text i) (key_states node) line h in show_plain i k.0 line k.2

  end_plain : (world : World Kind Op Shown) (line : TraceLine Op) → IsIn (end_seen D value_text world) line → IsPlain line
  end_plain world line h = let i = in_flat_map (λ i. of_node (show_line D value_text) i (world.nodes i)) (identities_of world.view) line h in node_plain i.0 (world.nodes i.0) line i.2

  -- ALL STEPS

  module _ (members : ℕ) (keys : List (KeyDecl Kind)) (apart : AreApart keys) where
    abbrev Lawfully : TraceState Op → List (TraceLine Op) → Type 0
    Lawfully = AreLawful D.data_type value_text keys

    step_told : (state : TraceState Op) (counts : Counts) (s : ScriptStep Op) (world : World Kind Op Shown) (told : List (Told Op Shown)) → IsOrdered keys world → AreAlike counts state → Lawfully state (step_lines D value_text state s world told)
        → told_of keys counts (step_seen D value_text s world told) ≡ step_lines D value_text state s world told
    step_told state counts s world told ordered alike lawful =
        let R = records_seen s told in
        let H = of_members held_line world in
        let G = gets_seen D value_text s told in
        let middle = after_lines state R in
        let holds = of_members (hold_line middle) world in
        let front = lawful_front D.data_type value_text keys state (R ++ holds) G lawful in
        let records = (lawful_front D.data_type value_text keys state R holds front.0).0 in
        let first : told_of keys counts R ≡ R =
        plain_told D.data_type value_text keys state counts R records (λ line m. let t = in_flat_map (λ (t : Told Op Shown). record_lines s t.answer) told line m in record_plain s t.0.answer line t.2) in
        let second : told_of keys (count_lines counts R) H ≡ holds =
        held_told keys apart world ordered (count_lines counts R) middle (lines_alike D.data_type value_text keys counts state R records alike) in
        let both : told_of keys counts (R ++ H) ≡ R ++ holds =
        told_both keys counts R H ∙ ap (λ r. r ++ told_of keys (count_lines counts r) H) first ∙ ap (λ h. R ++ h) second in
        told_both keys counts (R ++ H) G ∙ ap (λ r. r ++ told_of keys (count_lines counts r) G) both
        ∙ ap (λ g. (R ++ holds) ++ g) (plain_told D.data_type value_text keys (after_lines state (R ++ holds)) (count_lines counts (R ++ holds)) G front.1
        (λ line m. let t = in_flat_map (λ (t : Told Op Shown). get_lines D value_text s t.answer) told line m in get_plain s t.0.answer line t.2))

    all_told : (state : TraceState Op) (counts : Counts) (p : Playing Kind Op Shown) (steps : List (ScriptStep Op)) → AllByRecursion IsStep steps → IsRun D members keys p.events p.world → AreAlike counts state → Lawfully state (lines_from D value_text state p steps)
        → told_of keys counts (steps_seen D value_text p steps ++ end_seen D value_text (played_all D p steps).world) ≡ lines_from D value_text state p steps
    all_told state counts p [] ok run alike lawful = plain_told D.data_type value_text keys state counts (end_seen D value_text p.world) lawful (end_plain p.world)
    all_told state counts p (s ∷ steps) ok run alike lawful =
        let q = played D p s in
        let r : Playing Kind Op Shown = record q { lines = [] } in
        let now = step_is_run D members keys p s ok.0 run in
        let lines = step_lines D value_text state s q.world q.lines in
        let front = lawful_front D.data_type value_text keys state lines (lines_from D value_text (after_lines state lines) r steps) lawful in
        let seen = step_seen D value_text s q.world q.lines in
        let more = steps_seen D value_text r steps in
        let end = end_seen D value_text (played_all D r steps).world in
        ap (told_of keys counts) (append_assoc seen more end) ∙ told_both keys counts seen (more ++ end)
        ∙ ap (λ l. l ++ told_of keys (count_lines counts l) (more ++ end)) (step_told state counts s q.world q.lines (run_ordered D members keys q.events q.world now) alike front.0)
        ∙ ap (λ l. lines ++ l) (all_told (after_lines state lines) (count_lines counts lines) r steps ok.1 now (lines_alike D.data_type value_text keys counts state lines front.0 alike) front.1)

  pub is_the_trace : (members : ℕ) (keys : List (KeyDecl Kind)) (answers : KeeperAnswers) (steps : List (ScriptStep Op)) → 1 ≤ members → members ≤ identity_limit → AreApart keys → AllByRecursion IsStep steps → AllByRecursion IsTraced steps
      → told_of keys none_told (seen_of D value_text answers members keys steps) ≡ (trace_of D value_text answers members keys steps).lines
  is_the_trace members keys answers steps some few apart ok traced =
      all_told members keys apart nothing_traced none_told (opening answers members keys) steps ok (no_events D members keys answers some few) (λ i key x small. refl)
      (trace_is_lawful D value_text members keys answers steps some few apart ok traced)
