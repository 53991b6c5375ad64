-- Calls of a settle one after another: what they do together.
--     told_full, told_sent, told_blocked        what the lines say
--     settles_none, settles_then, settles_as, settles_known, settles_does        nothing, one after the other, the same said otherwise, one event
--     halts_first, halts_second, halts_done, halts_before        memory was wanted in the first, in the second, after all, before all
--     goes_gossips .. goes_installs        what a script does keeps the keepers' answers and adds events
--     one_called, all_called        a call for each of some identities
use Rattle.std.proofs.Common.{◌≡◌, ℕ, suc, ◌+◌, ◌-◌, List, [], ◌∷◌, ◌++◌, length, length-append, map, refl, sym, ap, ap₂, subst, ◌∙◌, arith, Bool, true, false, ◌<◌, ◌≤◌, take, get_or}
use Rattle.std.specs.Prelude.{if◌then◌else◌, filter, slice_get, option_map, unwrap_or, sum_by, ◌||◌, Result, Ok, Err, OnOk, not, ◌==◌, fold, drop}
use Rattle.std.specs.List.{AllZip, list_any}
use Rattle.std.proofs.lemmas.List.{length-map, take_all, take_more, take-append-drop}
use Rattle.std.proofs.lemmas.List.Sums.{sum_by-cons, fold-append}
use Rattle.model_history.specs.Texts.{Text}
use Rattle.model_kinds.specs.declared.operation.Op.{Op}
use Rattle.model_kinds.specs.declared.shown.Shown.{Shown}
use Rattle.model_members.specs.Node as nodes
use Rattle.model_members.specs.Script as script
use Rattle.model_members.specs.World as worlds
use Rattle.model_members.specs.Node.{KeyDecl, Fate, Input}
use Rattle.model_members.specs.Script.{Ask, Playing, Told, has_met_full, posted, last_answer_blocked, unless_full, is_full_answer, is_blocked, blocked_in_answer, last_of, Head, given, deliver, last_number, deliver_last, exchange, sweep, tick, is_older, install_last}
use Rattle.model_members.specs.View.{leader, identities_of, View}
use Rattle.model_members.specs.DataType.{Replication}
use Rattle.model_members.specs.World.Event.{InputAt}
use Rattle.theorem_runs.proofs.Keeping.{if_holds}
use Rattle.member_views.specs.Sound.{last_view}
use Rattle.member_keeper.specs.declared.keeper.Keeper.{Ghosts as Keeping}
use Rattle.data_lattice.specs.declared.replica.Replica.{Ghosts}
use Rattle.data_lattice.specs.declared.spelled.SpelledData.{Ghosts as Spelling}
use Rattle.member_node.specs.declared.outcome.KeyOutcome.{KeyOutcome}
use Rattle.member_node.specs.Replies.{meant_outcome, meant_at_key}
use Rattle.member_node.specs.Steps.{replication}
use Rattle.world_members.specs.declared.event.Answer.TheVariants as answer
use Rattle.world_members.specs.declared.event.Answer.{Answer}
use Rattle.world_members.specs.declared.event.Event.{Event}
use Rattle.world_members.specs.declared.world.World.{World}
use Rattle.world_members.specs.Giving.{Does, IsAsBefore}
use Rattle.world_places.specs.Keeping.{Given}
use Rattle.world_members.specs.Lines.{IsLine, IsAnswer}
use Rattle.world_places.specs.Sketched.{sketched_post}
use Rattle.world_places.specs.Places.{keeper_of}
use Rattle.world_members.specs.Settling.{is_full, met_full, sent_in, blocked_in, last_blocked, Arrives, Settles, HaltsIn, SettlesOr, gossips, installs, sweeps_twice}
use Rattle.world_members.specs.Steps.{Foretells}
use Rattle.world_members.specs.Ways.{IsPrefix, Means}
use Rattle.world_members.proofs.Onward.{prefix_same, prefix_trans}
use Rattle.world_places.proofs.Lists.{zip_append}
use Rattle.world_members.proofs.Sequences.{GoesOn, given_then, foretells_first, foretells_second, kept_then, kept_after, Goes, goes_nowhere, goes_more, goes_then, goes_fold, given_goes, goes_deliver}
use Rattle.world_places.proofs.Storing.{not_called_at}
use Rattle.world_members.proofs.Telling.{view_of}

-- WHAT THE LINES SAY

answer_full : (a : Answer) (told : script.Answer Shown) → IsAnswer a told → is_full a ≡ is_full_answer told
answer_full (answer.Damaged key) told is = absurd is
answer_full _ told is = sym (ap is_full_answer is)

answer_blocked : (a : Answer) (told : script.Answer Shown) → IsAnswer a told → blocked_in a ≡ blocked_in_answer told
answer_blocked (answer.Damaged key) told is = absurd is
answer_blocked _ told is = sym (ap blocked_in_answer is)

-- the last of a list is the one at its end
pub last_there : {X : Type 0} (xs : List X) → last_of xs ≡ slice_get xs (length xs - 1)
last_there [] = refl
last_there (x ∷ []) = refl
last_there (x ∷ y ∷ xs) =
    let first : suc (length xs) - 1 ≡ length xs = omega arith in
    let more : suc (suc (length xs)) - 1 ≡ suc (length xs) = omega arith in
    last_there (y ∷ xs) ∙ ap (slice_get (y ∷ xs)) first ∙ sym (ap (slice_get (x ∷ y ∷ xs)) more)

count_alike : {X Y : Type 0} (b : Bool) (x : X) (xs : List X) (y : Y) (ys : List Y) → length xs ≡ length ys → length (if b then x ∷ xs else xs) ≡ length (if b then y ∷ ys else ys)
count_alike true x xs y ys same = ap (λ n. suc n) same
count_alike false x xs y ys same = same

-- what is counted of the outcomes of a tick is what is counted of those of its reply
pub blocked_alike : (outcomes : List KeyOutcome) → length (filter (λ (told : KeyOutcome). is_blocked (meant_outcome told.outcome)) outcomes) ≡ length (filter (λ (told : nodes.KeyOutcome). is_blocked told.outcome) (map meant_at_key outcomes))
blocked_alike [] = refl
blocked_alike (o ∷ os) = count_alike (is_blocked (meant_outcome o.outcome)) o (filter (λ (told : KeyOutcome). is_blocked (meant_outcome told.outcome)) os) (meant_at_key o) (filter (λ (told : nodes.KeyOutcome). is_blocked told.outcome) (map meant_at_key os)) (blocked_alike os)

lines_full : (events : List Event) (lines : List (Told Op Shown)) → AllZip IsLine events lines → met_full events ≡ list_any (λ (t : Told Op Shown). is_full_answer t.answer) lines
lines_full [] [] all = refl
lines_full [] (t ∷ ts) all = absurd all
lines_full (e ∷ es) [] all = absurd all
lines_full (e ∷ es) (t ∷ ts) all = ap₂ (λ (a b : Bool). a || b) (answer_full e.answer t.answer all.0.answer) (lines_full es ts all.1)

lines_sent : (events : List Event) (lines : List (Told Op Shown)) → AllZip IsLine events lines → sent_in events ≡ sum_by (λ (t : Told Op Shown). length t.posts) lines
lines_sent [] [] all = refl
lines_sent [] (t ∷ ts) all = absurd all
lines_sent (e ∷ es) [] all = absurd all
lines_sent (e ∷ es) (t ∷ ts) all =
    sum_by-cons (λ (event : Event). length event.sent) e es ∙ ap₂ (λ (a b : ℕ). a + b) (ap length all.0.sent ∙ length-map t.posts sketched_post) (lines_sent es ts all.1)
    ∙ sym (sum_by-cons (λ (t : Told Op Shown). length t.posts) t ts)

last_line : (events : List Event) (lines : List (Told Op Shown)) → AllZip IsLine events lines → last_blocked events ≡ unwrap_or (option_map (λ (t : Told Op Shown). blocked_in_answer t.answer) (last_of lines)) 0
last_line [] [] all = refl
last_line [] (t ∷ ts) all = absurd all
last_line (e ∷ es) [] all = absurd all
last_line (e ∷ []) (t ∷ []) all = answer_blocked e.answer t.answer all.0.answer
last_line (e ∷ []) (t ∷ u ∷ ts) all = absurd all.1
last_line (e ∷ f ∷ es) (t ∷ []) all = absurd all.1
last_line (e ∷ f ∷ es) (t ∷ u ∷ ts) all = last_line (f ∷ es) (u ∷ ts) all.1

module _ {Kind : Type 0} (p : Playing Kind Op Shown) (events : List Event) (told : AllZip IsLine events p.lines) where
  pub told_full : has_met_full p ≡ met_full events
  told_full = sym (lines_full events p.lines told)

  pub told_sent : posted p ≡ sent_in events
  told_sent = sym (lines_sent events p.lines told)

  pub told_blocked : last_answer_blocked p ≡ last_blocked events
  told_blocked = sym (last_line events p.lines told)

-- THE CALLS

module _ {T K Kind Delta : Type 0} {ghosts : Ghosts T Kind Op Delta} {keeping : Keeping K} (spelling : Spelling T Kind Op Delta) where
  pub settles_none : (a : World T K Kind Op Delta ghosts keeping) (before : List Event) → Settles spelling (λ p. p) a a before before
  settles_none a before =
      record {
        given = λ k. [];
        kept = λ k. not_called_at keeping (keeper_of a.nodes.items a.spare.items k);
        leads = λ kinds members decls p m foretold told. record { means = m; lines = told; calls = λ k. (let e : p.calls k ≡ p.calls k + 0 = omega arith in e) };
      }

  module _ (f g : Playing Kind Op Shown → Playing Kind Op Shown) (on : GoesOn f) (a b c : World T K Kind Op Delta ghosts keeping) (es fs : List Event) (first : Settles spelling f a b es fs) where
    module _ (more : Given) (kinds : Text → Kind) (members : ℕ) (decls : List (KeyDecl Kind)) (p : Playing Kind Op Shown) (m : Means spelling kinds members decls p a) (foretold : Foretells p (given_then first.given more)) (told : AllZip IsLine es p.lines) where
      pub led_first : Arrives spelling kinds members decls p (f p) first.given b fs
      led_first = first.leads kinds members decls p m (foretells_first p first.given more foretold) told

      pub foretold_next : Foretells (f p) more
      foretold_next = foretells_second p first.given more foretold (f p) (on p).answers led_first.calls

    abbrev pub settles_then : (gs : List Event) → Settles spelling g b c fs gs → Settles spelling (λ p. g (f p)) a c es gs
    settles_then gs second =
        record {
          given = given_then first.given second.given;
          kept = λ k. kept_then keeping (keeper_of a.nodes.items a.spare.items k) (keeper_of b.nodes.items b.spare.items k) (keeper_of c.nodes.items c.spare.items k) (first.given k) (second.given k) (first.kept k) (second.kept k);
          leads = λ kinds members decls p m foretold told.
              let one = led_first second.given kinds members decls p m foretold told in
              let two = second.leads kinds members decls (f p) one.means (foretold_next second.given kinds members decls p m foretold told) one.lines in
              record {
                means = two.means;
                lines = two.lines;
                calls = λ k.
                    two.calls k ∙ ap (λ n. n + length (second.given k)) (one.calls k)
                    ∙ (let e : p.calls k + length (first.given k) + length (second.given k) ≡ p.calls k + length (first.given k ++ second.given k) = omega (arith, length-append (first.given k) (second.given k)) in e);
              };
        }

    -- memory was wanted in the second
    abbrev pub halts_second : HaltsIn spelling g b c fs → HaltsIn spelling (λ p. g (f p)) a c es
    halts_second halts =
        record {
          given = given_then first.given halts.given;
          kept = λ k. kept_after keeping (keeper_of a.nodes.items a.spare.items k) (keeper_of b.nodes.items b.spare.items k) (keeper_of c.nodes.items c.spare.items k) (record { answers = first.given k; keeps = first.kept k }) (halts.kept k);
          means = λ kinds members decls p m foretold told.
              let one = led_first halts.given kinds members decls p m foretold told in
              let found = halts.means kinds members decls (f p) one.means (foretold_next halts.given kinds members decls p m foretold told) one.lines in
              (found.0, found.1, prefix_trans p.events (f p).events found.0.events (on p).more found.2, found.3);
        }

  pub settles_or_then : (f g : Playing Kind Op Shown → Playing Kind Op Shown) (on : GoesOn f) (a b c : World T K Kind Op Delta ghosts keeping) (es fs : List Event) (first : Settles spelling f a b es fs) (gs : List Event) {X E : Type 0} (outcome : Result X E)
      → SettlesOr spelling g b c fs gs outcome → SettlesOr spelling (λ p. g (f p)) a c es gs outcome
  settles_or_then f g on a b c es fs first gs (Ok x) second = settles_then f g on a b c es fs first gs second
  settles_or_then f g on a b c es fs first gs (Err e) halts = halts_second f g on a b c es fs first halts

  -- after all
  pub halts_done : (f : Playing Kind Op Shown → Playing Kind Op Shown) → GoesOn f → (a b : World T K Kind Op Delta ghosts keeping) (es fs : List Event) → Settles spelling f a b es fs → HaltsIn spelling f a b es
  halts_done f on a b es fs s =
      record {
        given = s.given;
        kept = λ k. record { answers = s.given k; keeps = s.kept k };
        means = λ kinds members decls p m foretold told. (f p, (s.leads kinds members decls p m foretold told).means, (on p).more, prefix_same (f p).events);
      }

  -- in the first
  pub halts_first : (f g : Playing Kind Op Shown → Playing Kind Op Shown) → GoesOn g → (a b : World T K Kind Op Delta ghosts keeping) (es : List Event) → HaltsIn spelling f a b es → HaltsIn spelling (λ p. g (f p)) a b es
  halts_first f g on a b es halts =
      record {
        given = halts.given;
        kept = halts.kept;
        means = λ kinds members decls p m foretold told.
            let found = halts.means kinds members decls p m foretold told in
            (found.0, found.1, found.2, prefix_trans found.0.events (f p).events (g (f p)).events found.3 (on (f p)).more);
      }

  -- before all
  pub halts_before : (f : Playing Kind Op Shown → Playing Kind Op Shown) → GoesOn f → (a b : World T K Kind Op Delta ghosts keeping) (es : List Event) → IsAsBefore spelling a b → HaltsIn spelling f a b es
  halts_before f on a b es stays =
      record { given = λ k. []; kept = stays.kept; means = λ kinds members decls p m foretold told. (p, stays.stays kinds members decls p m, prefix_same p.events, (on p).more) }

  -- the same, said otherwise
  module _ (f g : Playing Kind Op Shown → Playing Kind Op Shown) (a b : World T K Kind Op Delta ghosts keeping) (es : List Event)
      (same : (kinds : Text → Kind) (members : ℕ) (decls : List (KeyDecl Kind)) (p : Playing Kind Op Shown) → Means spelling kinds members decls p a → AllZip IsLine es p.lines → f p ≡ g p) where
    abbrev pub settles_as : (fs : List Event) → Settles spelling f a b es fs → Settles spelling g a b es fs
    settles_as fs s =
        record {
          given = s.given;
          kept = s.kept;
          leads = λ kinds members decls p m foretold told. subst (λ (q : Playing Kind Op Shown). Arrives spelling kinds members decls p q s.given b fs) (same kinds members decls p m told) (s.leads kinds members decls p m foretold told);
        }

    pub halts_so : HaltsIn spelling f a b es → HaltsIn spelling g a b es
    halts_so halts =
        record {
          given = halts.given;
          kept = halts.kept;
          means = λ kinds members decls p m foretold told.
              let found = halts.means kinds members decls p m foretold told in
              (found.0, found.1, found.2, subst (λ (q : Playing Kind Op Shown). IsPrefix found.0.events q.events) (same kinds members decls p m told) found.3);
        }

    pub settles_or_as : (fs : List Event) {X E : Type 0} (outcome : Result X E) → SettlesOr spelling f a b es fs outcome → SettlesOr spelling g a b es fs outcome
    settles_or_as fs (Ok x) s = settles_as fs s
    settles_or_as fs (Err e) halts = halts_so halts

  -- the same, where the keepers' answers tell so
  abbrev pub settles_known : (f g : Playing Kind Op Shown → Playing Kind Op Shown) (a b : World T K Kind Op Delta ghosts keeping) (es fs : List Event) (s : Settles spelling f a b es fs)
      → ((kinds : Text → Kind) (members : ℕ) (decls : List (KeyDecl Kind)) (p : Playing Kind Op Shown) → Means spelling kinds members decls p a → Foretells p s.given → AllZip IsLine es p.lines → f p ≡ g p) → Settles spelling g a b es fs
  settles_known f g a b es fs s same =
      record {
        given = s.given;
        kept = s.kept;
        leads = λ kinds members decls p m foretold told. subst (λ (q : Playing Kind Op Shown). Arrives spelling kinds members decls p q s.given b fs) (same kinds members decls p m foretold told) (s.leads kinds members decls p m foretold told);
      }

  -- it would have gone on
  pub halts_known : (f g : Playing Kind Op Shown → Playing Kind Op Shown) (a b : World T K Kind Op Delta ghosts keeping) (es : List Event) (halts : HaltsIn spelling f a b es)
      → ((kinds : Text → Kind) (members : ℕ) (decls : List (KeyDecl Kind)) (p : Playing Kind Op Shown) → Means spelling kinds members decls p a → Foretells p halts.given → AllZip IsLine es p.lines → IsPrefix (f p).events (g p).events) → HaltsIn spelling g a b es
  halts_known f g a b es halts on =
      record {
        given = halts.given;
        kept = halts.kept;
        means = λ kinds members decls p m foretold told.
            let found = halts.means kinds members decls p m foretold told in
            (found.0, found.1, found.2, prefix_trans found.0.events (f p).events (g p).events found.3 (on kinds members decls p m foretold told));
      }

  -- one event more
  pub settles_does : (f : Playing Kind Op Shown → Playing Kind Op Shown) (a b : World T K Kind Op Delta ghosts keeping) (before more : List Event) → Does spelling f a b more → Settles spelling f a b before (before ++ more)
  settles_does f a b before more d =
      record {
        given = d.given;
        kept = d.kept;
        leads = λ kinds members decls p m foretold told.
            let r = d.leads kinds members decls p m foretold in
            record {
              means = r.means;
              lines = subst (AllZip IsLine (before ++ more)) (sym r.lines.1) (zip_append IsLine before more p.lines r.lines.0 told r.lines.2);
              calls = r.calls;
            };
      }

  -- an event is put to the others
  pub told_one : (f : Playing Kind Op Shown → Playing Kind Op Shown) → GoesOn f → (a b : World T K Kind Op Delta ghosts keeping) (es fs : List Event) (event : Event) → Does spelling f a b (event ∷ []) → {X E : Type 0} (pushed : Result X E) → OnOk pushed (fs ≡ es ++ event ∷ []) → SettlesOr spelling f a b es fs pushed
  told_one f on a b es fs event d (Ok x) is = subst (λ (gs : List Event). Settles spelling f a b es gs) (sym is) (settles_does f a b es (event ∷ []) d)
  told_one f on a b es fs event d (Err e) is = halts_done f on a b es (es ++ event ∷ []) (settles_does f a b es (event ∷ []) d)

  -- UNLESS A MEMBER WAS FULL

  module _ (f : Playing Kind Op Shown → Playing Kind Op Shown) (a b : World T K Kind Op Delta ghosts keeping) (es : List Event) where
    pub settles_skipped : met_full es ≡ true → Settles spelling (unless_full (replication ghosts spelling) f) a a es es
    settles_skipped full =
        settles_as (λ p. p) (unless_full (replication ghosts spelling) f) a a es (λ kinds members decls p m told. sym (ap (λ b. if b then p else f p) (told_full p es told ∙ full))) es (settles_none a es)

    goes_still : met_full es ≡ false → (kinds : Text → Kind) (members : ℕ) (decls : List (KeyDecl Kind)) (p : Playing Kind Op Shown) → Means spelling kinds members decls p a → AllZip IsLine es p.lines → f p ≡ unless_full (replication ghosts spelling) f p
    goes_still room kinds members decls p m told = sym (ap (λ b. if b then p else f p) (told_full p es told ∙ room))

    pub settles_unless : met_full es ≡ false → (fs : List Event) → Settles spelling f a b es fs → Settles spelling (unless_full (replication ghosts spelling) f) a b es fs
    settles_unless room fs s = settles_as f (unless_full (replication ghosts spelling) f) a b es (goes_still room) fs s

    pub halts_unless : met_full es ≡ false → HaltsIn spelling f a b es → HaltsIn spelling (unless_full (replication ghosts spelling) f) a b es
    halts_unless room halts = halts_so f (unless_full (replication ghosts spelling) f) a b es (goes_still room) halts

    pub told_unless : GoesOn f → met_full es ≡ false → (fs : List Event) (event : Event) → Does spelling f a b (event ∷ []) → {X E : Type 0} (pushed : Result X E) → OnOk pushed (fs ≡ es ++ event ∷ []) → SettlesOr spelling (unless_full (replication ghosts spelling) f) a b es fs pushed
    told_unless on room fs event d {X = X} {E = E} (Ok x) is = settles_unless room fs (told_one f on a b es fs event d {X = X} {E = E} (Ok x) is)
    told_unless on room fs event d {X = X} {E = E} (Err e) is = halts_unless room (told_one f on a b es fs event d {X = X} {E = E} (Err e) is)

-- WHAT THE SCRIPT DOES

module _ {Kind Op Shown : Type 0} (D : Replication Kind Op Shown) where
  pub goes_given : (head : Playing Kind Op Shown → Head Op) (event : Playing Kind Op Shown → Fate → worlds.Event Op) → GoesOn (λ p. given D p (head p) (event p))
  goes_given head event p = given_goes D p (head p) (event p)

  pub goes_delivery : (from to : ℕ) → GoesOn (λ p. deliver D p from to (last_number p from to))
  goes_delivery from to p = goes_deliver D from to (last_number p from to) p

  unless_goes : (f : Playing Kind Op Shown → Playing Kind Op Shown) (p : Playing Kind Op Shown) → Goes p (f p) → Goes p (unless_full D f p)
  unless_goes f p on = if_holds (Goes p) (has_met_full p) p (f p) (goes_nowhere p) on

  pub goes_gossips : (lead i : ℕ) → GoesOn (gossips D lead i)
  goes_gossips lead i p = unless_goes (λ q. given D q (Head.Asked i (Ask.Gossip lead)) (InputAt i (Input.GossipTo lead))) p (given_goes D p (Head.Asked i (Ask.Gossip lead)) (InputAt i (Input.GossipTo lead)))

  pub goes_last : (before from to : ℕ) → GoesOn (deliver_last D before from to)
  goes_last before from to p =
      if_holds (Goes p) (before == posted p) p (unless_full D (λ q. deliver D q from to (last_number q from to)) p) (goes_nowhere p) (unless_goes (λ q. deliver D q from to (last_number q from to)) p (goes_delivery from to p))

  module _ (lead i : ℕ) (p : Playing Kind Op Shown) where
    abbrev pub after_gossip : Playing Kind Op Shown
    after_gossip = gossips D lead i p

    abbrev pub after_status : Playing Kind Op Shown
    after_status = deliver_last D (posted p) i lead after_gossip

    abbrev pub after_answer : Playing Kind Op Shown
    after_answer = deliver_last D (posted after_gossip) lead i after_status

    abbrev after_all : Playing Kind Op Shown
    after_all = exchange D lead p i

    gossip_goes : Goes p after_gossip
    gossip_goes = goes_gossips lead i p

    status_goes : Goes after_gossip after_status
    status_goes = goes_last (posted p) i lead after_gossip

    answer_goes : Goes after_status after_answer
    answer_goes = goes_last (posted after_gossip) lead i after_status

    entries_go : Goes after_answer after_all
    entries_go = goes_last (posted after_status) i lead after_answer

    pub on_answer : IsPrefix after_answer.events after_all.events
    on_answer = entries_go.more

    pub on_status : IsPrefix after_status.events after_all.events
    on_status = (goes_more after_status after_answer after_all answer_goes entries_go).more

    pub on_gossip : IsPrefix after_gossip.events after_all.events
    on_gossip = prefix_trans after_gossip.events after_status.events after_all.events status_goes.more on_status

  pub goes_status : (lead i : ℕ) → GoesOn (after_status lead i)
  goes_status lead i p = goes_more p (after_gossip lead i p) (after_status lead i p) (gossip_goes lead i p) (status_goes lead i p)

  pub goes_answer : (lead i : ℕ) → GoesOn (after_answer lead i)
  goes_answer lead i p = goes_more p (after_status lead i p) (after_answer lead i p) (goes_status lead i p) (answer_goes lead i p)

  pub goes_exchange : (lead i : ℕ) → GoesOn (λ p. exchange D lead p i)
  goes_exchange lead i p = goes_more p (after_answer lead i p) (after_all lead i p) (goes_answer lead i p) (entries_go lead i p)

  pub goes_sweep : GoesOn (sweep D)
  goes_sweep p = goes_fold (exchange D (leader p.world.view)) (goes_exchange (leader p.world.view)) (filter (λ i. not (i == leader p.world.view)) (identities_of p.world.view)) p

  pub goes_sweeps_twice : GoesOn (sweeps_twice D)
  goes_sweeps_twice = goes_then (sweep D) (sweep D) goes_sweep goes_sweep

  pub goes_tick : GoesOn (tick D)
  goes_tick p = unless_goes (λ q. given D q (Head.Asked (leader q.world.view) Ask.Tick) (InputAt (leader q.world.view) Input.PruneTick)) p (given_goes D p (Head.Asked (leader p.world.view) Ask.Tick) (InputAt (leader p.world.view) Input.PruneTick))

  pub goes_install : (i : ℕ) → GoesOn (λ p. install_last D p i)
  goes_install i p =
      if_holds (Goes p) (is_older D p.world.view (p.world.nodes i)) (unless_full D (λ q. given D q (Head.Asked i (Ask.Install p.world.view.number)) (InputAt i (Input.Install p.world.view))) p) p
      (unless_goes (λ q. given D q (Head.Asked i (Ask.Install p.world.view.number)) (InputAt i (Input.Install p.world.view))) p (given_goes D p (Head.Asked i (Ask.Install p.world.view.number)) (InputAt i (Input.Install p.world.view)))) (goes_nowhere p)

  pub goes_installs : GoesOn (installs D)
  goes_installs p = goes_fold (install_last D) goes_install (identities_of p.world.view) p

-- A CALL FOR EACH

module _ {Kind Op Shown : Type 0} (step : Playing Kind Op Shown → ℕ → Playing Kind Op Shown) (xs : List ℕ) where
  -- the first so many calls
  abbrev pub called_for : ℕ → Playing Kind Op Shown → Playing Kind Op Shown
  called_for k p = fold step p (take k xs)

  -- with the next one
  next_call : (k x : ℕ) → k < length xs → x ≡ get_or xs k x → (p : Playing Kind Op Shown) → step (called_for k p) x ≡ called_for (k + 1) p
  next_call k x within is p = sym (ap (fold step p) (take_more xs k x within ∙ ap (λ (y : ℕ). take k xs ++ y ∷ []) (sym is)) ∙ fold-append step p (take k xs) (x ∷ []))

  -- and the others
  last_calls : (k : ℕ) (p : Playing Kind Op Shown) → fold step (called_for k p) (drop k xs) ≡ fold step p xs
  last_calls k p = sym (ap (fold step p) (sym (take-append-drop k xs)) ∙ fold-append step p (take k xs) (drop k xs))

module _ {T K Kind Delta : Type 0} {ghosts : Ghosts T Kind Op Delta} {keeping : Keeping K} (spelling : Spelling T Kind Op Delta) (step : Playing Kind Op Shown → ℕ → Playing Kind Op Shown) (each : (x : ℕ) → GoesOn (λ p. step p x)) (xs : List ℕ) (a : World T K Kind Op Delta ghosts keeping) (es : List Event) where
  pub none_called : Settles spelling (called_for step xs 0) a a es es
  none_called = settles_none spelling a es

  module _ (k x : ℕ) (within : k < length xs) (is : x ≡ get_or xs k x) (b c : World T K Kind Op Delta ghosts keeping) (fs : List Event) (so_far : Settles spelling (called_for step xs k) a b es fs) where
    pub one_called : (gs : List Event) → Settles spelling (λ p. step p x) b c fs gs → Settles spelling (called_for step xs (k + 1)) a c es gs
    one_called gs s =
        settles_as spelling (λ p. step (called_for step xs k p) x) (called_for step xs (k + 1)) a c es (λ kinds members decls p m told. next_call step xs k x within is p) gs
        (settles_then spelling (called_for step xs k) (λ p. step p x) (goes_fold step each (take k xs)) a b c es fs so_far gs s)

    pub halts_call : HaltsIn spelling (λ p. step p x) b c fs → HaltsIn spelling (λ p. fold step p xs) a c es
    halts_call halts =
        halts_so spelling (λ p. fold step (called_for step xs (k + 1) p) (drop (k + 1) xs)) (λ p. fold step p xs) a c es (λ kinds members decls p m told. last_calls step xs (k + 1) p)
        (halts_first spelling (called_for step xs (k + 1)) (λ p. fold step p (drop (k + 1) xs)) (goes_fold step each (drop (k + 1) xs)) a c es
        (halts_so spelling (λ p. step (called_for step xs k p) x) (called_for step xs (k + 1)) a c es (λ kinds members decls p m told. next_call step xs k x within is p)
        (halts_second spelling (called_for step xs k) (λ p. step p x) (goes_fold step each (take k xs)) a b c es fs so_far halts)))

  pub all_called : (k : ℕ) (b : World T K Kind Op Delta ghosts keeping) (fs : List Event) → length xs ≤ k → Settles spelling (called_for step xs k) a b es fs → Settles spelling (λ p. fold step p xs) a b es fs
  all_called k b fs past s = settles_as spelling (called_for step xs k) (λ p. fold step p xs) a b es (λ kinds members decls p m told. ap (fold step p) (take_all k xs past)) fs s

-- ALL MEMBERS, AND ALL BUT THE LEADER

module _ {T K Kind Delta : Type 0} {ghosts : Ghosts T Kind Op Delta} {keeping : Keeping K} (spelling : Spelling T Kind Op Delta) (a : World T K Kind Op Delta ghosts keeping) (xs : List ℕ) where
  abbrev D : Replication Kind Op Shown
  D = replication ghosts spelling

  pub installs_are : xs ≡ identities_of (last_view a.views) → (kinds : Text → Kind) (members : ℕ) (decls : List (KeyDecl Kind)) (p : Playing Kind Op Shown) → Means spelling kinds members decls p a → fold (install_last D) p xs ≡ installs D p
  installs_are are kinds members decls p m = ap (fold (install_last D) p) (are ∙ ap identities_of (view_of spelling kinds members decls p a m))

  abbrev swept_by : Playing Kind Op Shown → ℕ → List ℕ → Playing Kind Op Shown
  swept_by p lead ids = fold (exchange D lead) p (filter (λ i. not (i == lead)) ids)

  pub sweep_is : (lead : ℕ) → lead ≡ leader (last_view a.views) → xs ≡ filter (λ i. not (i == lead)) (identities_of (last_view a.views)) → (kinds : Text → Kind) (members : ℕ) (decls : List (KeyDecl Kind)) (p : Playing Kind Op Shown) → Means spelling kinds members decls p a → fold (exchange D lead) p xs ≡ sweep D p
  sweep_is lead leads are kinds members decls p m =
      ap (fold (exchange D lead) p) are ∙ ap (λ l. swept_by p l (identities_of (last_view a.views))) leads ∙ ap (λ (v : View). swept_by p (leader v) (identities_of v)) (view_of spelling kinds members decls p a m)
