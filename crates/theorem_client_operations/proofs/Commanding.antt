-- Each command of a client comes once, in its client's order, and what is told of it stands when the client's next one comes.
use Rattle.std.proofs.Common.{◌≡◌, ◌≢◌, ◌⊎◌, inl, inr, ⊎_elim, ℕ, zero, suc, ◌+◌, ◌<◌, ◌≤◌, List, [], ◌∷◌, ◌++◌, length, map, refl, sym, ap, subst, ◌∙◌, arith, Bool, true, false, Option, Some, None, append_assoc, length-append}
use Rattle.std.specs.Prelude.{⊤, ◌==◌, ◌&&◌, ◌||◌, not, if◌then◌else◌, slice_get, slice_set, count_by, nat_le}
use Rattle.std.specs.List.{list_all}
use Rattle.std.proofs.lemmas.List.{append-nil}
use Rattle.std.proofs.lemmas.List.Sums.{sum_by-cons}
use Rattle.std.proofs.lemmas.Bool.{cases_lt}
use Rattle.std.proofs.lemmas.Bool.Decides.{eqb_tells}
use Rattle.model_members.specs.View.{View}
use Rattle.model_members.specs.DataType.{Replication}
use Rattle.model_members.specs.Node.{KeyDecl, Node}
use Rattle.model_members.specs.Step.{is_full}
use Rattle.model_members.specs.World.{World, IsRun}
use Rattle.model_members.specs.Script.{Playing, ScriptStep, Told, Head, played, last_of}
use Rattle.model_members.specs.Script.Head.{Asked}
use Rattle.theorem_operations.proofs.Lists.{first_true, second_true, both_true, same_number, map_length}
use Rattle.theorem_sections.specs.Sections.{Command, Client, Made, Section, Move, Line, Ending, step_of, pending_op, world_of, opened, new_client, made_by, after_command, with_client, commanded, commanded_by, heard, timed_out, timed_out_made, timed_out_op, moved, moved_all, may_come, may_command, may_all_come, goes_on, has_ended, is_open, node_full, is_over, IsSection, client_line, ending_of}
use Rattle.theorem_sections.specs.Sections.Move.{NextCommand, NextMessage, ItsTimeout}
use Rattle.theorem_sections.proofs.NextDue.{same_or_not}
use Rattle.theorem_sections.proofs.PathSections.{get_mapped}
use Rattle.theorem_sections.proofs.Positions.{set_here, set_else}
use Rattle.theorem_sections.proofs.Sectioned.{Runs, moved_runs, moved_all_runs}
use Rattle.theorem_client_operations.specs.Calls.{ComesAt, CallsStandOnce, is_command_of, asked_heads, made_heads}
use Rattle.theorem_client_operations.proofs.Endings.{IsUnder, under_stays, IsOverAt, over_stays}
use Rattle.theorem_client_operations.proofs.Onward.{Goes, goes_between, each_move, moved_view, moved_appends, all_view, all_appends, moved-append, OneLine, one_line}

-- LISTS

pub at_index : {X : Type 0} (p : X → Bool) (xs : List X) (k : ℕ) (x : X) → list_all p xs ≡ true → slice_get xs k ≡ Some x → p x ≡ true
at_index p [] k x all e = absurd (cc e)
at_index p (y ∷ xs) zero x all e = let same : y ≡ x = cc e in subst (λ z. p z ≡ true) same (first_true (p y) (list_all p xs) all)
at_index p (y ∷ xs) (suc k) x all e = at_index p xs k x (second_true (p y) (list_all p xs) all) e

map_same : {X Y : Type 0} (f g : X → Y) (xs : List X) → ((k : ℕ) (x : X) → slice_get xs k ≡ Some x → f x ≡ g x) → map f xs ≡ map g xs
map_same f g [] h = refl
map_same f g (x ∷ xs) h = ap (λ y. y ∷ map f xs) (h zero x refl) ∙ ap (λ ys. g x ∷ ys) (map_same f g xs (λ k y e. h (suc k) y e))

-- an item of a list and one more
pub pushed_at : {X : Type 0} (xs : List X) (y : X) (k : ℕ) (x : X) → slice_get (xs ++ y ∷ []) k ≡ Some x → (slice_get xs k ≡ Some x) ⊎ ((k ≡ length xs) × (y ≡ x))
pushed_at [] y zero x e = inr (refl, (let same : y ≡ x = cc e in same))
pushed_at [] y (suc k) x e = absurd (cc e)
pushed_at (z ∷ xs) y zero x e = inl e
pushed_at (z ∷ xs) y (suc k) x e = elim (pushed_at xs y k x e) [ inl old ↦ inl old | inr new ↦ inr (ap suc new.0, new.1) ]

pub get_below : {X : Type 0} (xs : List X) (k : ℕ) (x : X) → slice_get xs k ≡ Some x → k < length xs
get_below [] k x e = absurd (cc e)
get_below (y ∷ xs) zero x e = omega arith
get_below (y ∷ xs) (suc k) x e = let a = get_below xs k x e in omega (arith, a)

-- the last one
pub last_at : {X : Type 0} (xs : List X) (k : ℕ) (x : X) → slice_get xs k ≡ Some x → length xs ≤ suc k → last_of xs ≡ Some x
last_at [] k x e h = absurd (cc e)
last_at (y ∷ []) zero x e h = e
last_at (y ∷ []) (suc k) x e h = absurd (cc e)
last_at (y ∷ z ∷ xs) zero x e h = absurd (omega (arith, h))
last_at (y ∷ z ∷ xs) (suc k) x e h = last_at (z ∷ xs) k x e (omega (arith, h))

set_none : {X : Type 0} (xs : List X) (d c : ℕ) (y : X) → slice_get xs c ≡ None → slice_get (slice_set xs d y) c ≡ None
set_none [] d c y none = refl
set_none (x ∷ xs) d zero y none = absurd (cc none)
set_none (x ∷ xs) zero (suc c) y none = none
set_none (x ∷ xs) (suc d) (suc c) y none = set_none xs d c y none

get_none : {X Y : Type 0} (f : X → Y) (xs : List X) (c : ℕ) → slice_get xs c ≡ None → slice_get (map f xs) c ≡ None
get_none f [] c none = refl
get_none f (x ∷ xs) zero none = absurd (cc none)
get_none f (x ∷ xs) (suc c) none = get_none f xs c none

pub either : (a b : Bool) → (a || b) ≡ true → (a ≡ true) ⊎ (b ≡ true)
either true b e = inl refl
either false b e = inr e

pub not_true : (b : Bool) → not b ≡ true → b ≡ false
not_true true e = absurd (cc e)
not_true false e = refl

module _ {Kind Op Shown : Type 0} (D : Replication Kind Op Shown) where
  -- COMMANDS THAT ARE OVER

  -- their operations' numbers were given
  abbrev AreUnder : World Kind Op Shown → List (Made Op Shown) → Type 0
  AreUnder world made = (k : ℕ) (m : Made Op Shown) → slice_get made k ≡ Some m → (op : ℕ) → pending_op m.line.answer ≡ Some op → IsUnder D op (world.nodes m.at)

  -- they are over: closed, or their member is full
  abbrev pub AreOver : World Kind Op Shown → List (Made Op Shown) → Type 0
  AreOver world made = (k : ℕ) (m : Made Op Shown) → slice_get made k ≡ Some m → (op : ℕ) → pending_op m.line.answer ≡ Some op → IsOverAt D op (world.nodes m.at)

  -- all but the last are
  abbrev FrontIsOver : World Kind Op Shown → List (Made Op Shown) → Type 0
  FrontIsOver world made = (k : ℕ) (m : Made Op Shown) → suc k < length made → slice_get made k ≡ Some m → (op : ℕ) → pending_op m.line.answer ≡ Some op → IsOverAt D op (world.nodes m.at)

  -- whoever goes on has seen the end of its last command
  over_at_last : (world : World Kind Op Shown) (m : Made Op Shown) (op : ℕ) → pending_op m.line.answer ≡ Some op → IsUnder D op (world.nodes m.at) → has_ended D world m (pending_op m.line.answer) ≡ true → IsOverAt D op (world.nodes m.at)
  over_at_last world m op waits under ended = by (world.nodes m.at) under (subst (λ o. has_ended D world m o ≡ true) waits ended)
    where
      by : (o : Option (Node Kind Op Shown)) → IsUnder D op o → (not (is_open op o) || node_full D o) ≡ true → IsOverAt D op o
      by None under e = tt
      by (Some n) under e = elim (either (not (is_open op (Some n))) (is_full D n) e) [ inl closed ↦ inl (not_true (is_open op (Some n)) closed, under) | inr full ↦ inr full ]

  all_over : (s : Section Kind Op Shown) (made : List (Made Op Shown)) → AreUnder (world_of s) made → FrontIsOver (world_of s) made → goes_on D s (last_of made) ≡ true → AreOver (world_of s) made
  all_over s made under over goes k m there op waits = elim (same_or_not (suc k) (length made)) [
    | inl is ↦
        let last : last_of made ≡ Some m = last_at made k m there (omega (arith, is)) in
        let on : goes_on D s (Some m) ≡ true = subst (λ o. goes_on D s o ≡ true) last goes in
        over_at_last (world_of s) m op waits (under k m there op waits) (second_true _ (has_ended D (world_of s) m (pending_op m.line.answer)) on)
    | inr isnt ↦ let less = get_below made k m there in over k m (below_length less isnt) there op waits
  ]
    where
      below_length : k < length made → suc k ≢ length made → suc k < length made
      below_length less isnt = ⊎_elim (λ (h : suc k < length made). h) (λ h. absurd (isnt (omega (arith, less, h)))) (cases_lt (suc k) (length made))

  module _ (members : ℕ) (keys : List (KeyDecl Kind)) where
    goes_move : (s : Section Kind Op Shown) (m : Move) → Runs D members keys s.playing → Goes D s.playing (moved D s m).playing
    goes_move s m runs = goes_between D members keys s.playing (moved D s m).playing runs (moved_runs D members keys s m runs) (moved_appends D s m) (ap (λ (v : View). v.number) (moved_view D s m))

    pub goes_moves : (s : Section Kind Op Shown) (ms : List Move) → Runs D members keys s.playing → Goes D s.playing (moved_all D s ms).playing
    goes_moves s ms runs = goes_between D members keys s.playing (moved_all D s ms).playing runs (moved_all_runs D members keys s ms runs) (all_appends D s ms) (ap (λ (v : View). v.number) (all_view D s ms))

    under_on : (p q : Playing Kind Op Shown) (made : List (Made Op Shown)) → Goes D p q → AreUnder p.world made → AreUnder q.world made
    under_on p q made goes under k m there op waits = subst (λ (w : World Kind Op Shown). IsUnder D op (w.nodes m.at)) goes.leads (under_stays D p.world goes.events goes.lawful goes.keeps m.at op (under k m there op waits))

    front_on : (p q : Playing Kind Op Shown) (made : List (Made Op Shown)) → Goes D p q → FrontIsOver p.world made → FrontIsOver q.world made
    front_on p q made goes over k m less there op waits = subst (λ (w : World Kind Op Shown). IsOverAt D op (w.nodes m.at)) goes.leads (over_stays D p.world goes.events goes.lawful goes.keeps m.at op (over k m less there op waits)).0

    over_on : (p q : Playing Kind Op Shown) (made : List (Made Op Shown)) → Goes D p q → AreOver p.world made → AreOver q.world made
    over_on p q made goes over k m there op waits = subst (λ (w : World Kind Op Shown). IsOverAt D op (w.nodes m.at)) goes.leads (over_stays D p.world goes.events goes.lawful goes.keeps m.at op (over k m there op waits)).0

    -- what is told of a command that is over stays
    pub line_stays : (p q : Playing Kind Op Shown) (c : ℕ) (m : Made Op Shown) → Goes D p q → ((op : ℕ) → pending_op m.line.answer ≡ Some op → IsOverAt D op (p.world.nodes m.at)) → client_line p.world c m ≡ client_line q.world c m
    line_stays p q c m goes over =
        ap (λ (ended : Option (Ending Shown)). record { client = Some c; head = m.line.head; answer = m.line.answer; posts = m.line.posts; ended = ended }) (by (pending_op m.line.answer) over)
      where
        by : (o : Option ℕ) → ((op : ℕ) → o ≡ Some op → IsOverAt D op (p.world.nodes m.at)) → ending_of (p.world.nodes m.at) o ≡ ending_of (q.world.nodes m.at) o
        by None over = refl
        by (Some op) over = (over_stays D p.world goes.events goes.lawful goes.keeps m.at op (over op refl)).1 ∙ ap (λ (w : World Kind Op Shown). ending_of (w.nodes m.at) (Some op)) goes.leads

    -- A CLIENT BETWEEN MOVES

    module _ (c : ℕ) (commands : List (Command Op)) where
      pub record Has (s : Section Kind Op Shown) (client : Client Op Shown) : Type 0 where
        pub runs : Runs D members keys s.playing
        pub silent : s.playing.lines ≡ []
        pub its : slice_get s.clients c ≡ Some client
        pub heads : made_heads client.made ++ asked_heads client.to_come ≡ asked_heads commands
        pub under : AreUnder (world_of s) client.made
        pub over : FrontIsOver (world_of s) client.made

      -- the client after some moves, by which it has made so many commands more
      pub record HasMore (t : Section Kind Op Shown) (client : Client Op Shown) (number : ℕ) : Type 0 where
        pub after : Client Op Shown
        pub has : Has t after
        pub more : List (Made Op Shown)
        pub made : after.made ≡ client.made ++ more
        pub as_many : length more ≡ number

      -- a move by which it makes none
      stands_still : (s t : Section Kind Op Shown) (client after : Client Op Shown) → Goes D s.playing t.playing → Runs D members keys t.playing → t.playing.lines ≡ [] → slice_get t.clients c ≡ Some after
          → after.made ≡ client.made → after.to_come ≡ client.to_come → Has s client → HasMore t client 0
      stands_still s t client after goes runs silent its made to_come h = record {
        after = after;
        has = record {
          runs = runs;
          silent = silent;
          its = its;
          heads = ap (λ ms. made_heads ms ++ asked_heads after.to_come) made ∙ ap (λ cs. made_heads client.made ++ asked_heads cs) to_come ∙ h.heads;
          under = subst (λ ms. AreUnder (world_of t) ms) (sym made) (under_on s.playing t.playing client.made goes h.under);
          over = subst (λ ms. FrontIsOver (world_of t) ms) (sym made) (front_on s.playing t.playing client.made goes h.over);
        };
        more = [];
        made = made ∙ sym (append-nil client.made);
        as_many = refl;
      }

      -- its next command
      made_heads_pushed : (made : List (Made Op Shown)) (m : Made Op Shown) (heads : List (Head Op)) → made_heads (made ++ m ∷ []) ++ heads ≡ made_heads made ++ m.line.head ∷ heads
      made_heads_pushed [] m heads = refl
      made_heads_pushed (x ∷ made) m heads = ap (λ hs. x.line.head ∷ hs) (made_heads_pushed made m heads)

      pub record MakesNext (s t : Section Kind Op Shown) (client : Client Op Shown) (command : Command Op) : Type 0 where
        pub one : OneLine D command (played D s.playing (step_of command))
        pub after : Client Op Shown
        pub has : Has t after
        pub made : after.made ≡ client.made ++ made_by command (played D s.playing (step_of command)).world one.line ∷ []

      makes_next : (s : Section Kind Op Shown) (client : Client Op Shown) (command : Command Op) (rest : List (Command Op)) → client.to_come ≡ command ∷ rest → goes_on D s (last_of client.made) ≡ true → Goes D s.playing (moved D s (NextCommand c)).playing
          → Runs D members keys (moved D s (NextCommand c)).playing → moved D s (NextCommand c) ≡ commanded_by D s c client (command ∷ rest) → Has s client → MakesNext s (moved D s (NextCommand c)) client command
      makes_next s client command rest to_come goes steps runs is h =
          let p = played D s.playing (step_of command) in
          let one = one_line D s.playing command h.silent in
          let m = made_by command p.world one.line in
          let after : Client Op Shown = record { to_come = rest; made = client.made ++ m ∷ []; timed_out = false } in
          let t = moved D s (NextCommand c) in
          let client_is : after_command client command rest p ≡ after = ap (λ ls. record { to_come = rest; made = client.made ++ map (made_by command p.world) ls; timed_out = false }) one.lines in
          let t_is : t ≡ with_client s c after p = is ∙ ap (λ (x : Client Op Shown). with_client s c x p) client_is in
          let world_is : world_of t ≡ p.world = ap (λ (x : Section Kind Op Shown). world_of x) t_is in
          let all = over_on s.playing t.playing client.made steps (all_over s client.made h.under h.over goes) in
          let under = under_on s.playing t.playing client.made steps h.under in
          record {
            one = one;
            after = after;
            has = record {
              runs = runs;
              silent = ap (λ (x : Section Kind Op Shown). x.playing.lines) t_is;
              its = ap (λ (x : Section Kind Op Shown). slice_get x.clients c) t_is ∙ set_here s.clients c client after h.its;
              heads = made_heads_pushed client.made m (asked_heads rest) ∙ ap (λ hd. made_heads client.made ++ hd ∷ asked_heads rest) one.head ∙ ap (λ cs. made_heads client.made ++ asked_heads cs) (sym to_come) ∙ h.heads;
              under = λ k x there op waits. elim (pushed_at client.made m k x there) [
                | inl old ↦ under k x old op waits
                | inr new ↦
                    let its_op : pending_op one.line.answer ≡ Some op = ap (λ (y : Made Op Shown). pending_op y.line.answer) new.1 ∙ waits in
                    subst (λ (w : World Kind Op Shown). IsUnder D op (w.nodes x.at)) (sym world_is) (subst (λ (y : Made Op Shown). IsUnder D op (p.world.nodes y.at)) new.1 (one.under op its_op))
              ];
              over = λ k x less there op waits. elim (pushed_at client.made m k x there) [
                | inl old ↦ all k x old op waits
                | inr new ↦ absurd (let a = length-append client.made (m ∷ []) in let b = new.0 in omega (arith, a, b, less))
              ];
            };
            made = refl;
          }

      -- another's command
      still_by_other : (s : Section Kind Op Shown) (d : ℕ) (client : Client Op Shown) → c ≢ d → slice_get s.clients c ≡ Some client → slice_get (moved D s (NextCommand d)).clients c ≡ Some client
      still_by_other s d client isnt its = by_client (slice_get s.clients d)
        where
          by_commands : (other : Client Op Shown) (to_come : List (Command Op)) → slice_get (commanded_by D s d other to_come).clients c ≡ Some client
          by_commands other [] = its
          by_commands other (command ∷ rest) = set_else s.clients d c _ isnt ∙ its

          by_client : (o : Option (Client Op Shown)) → slice_get (commanded D s d o).clients c ≡ Some client
          by_client None = its
          by_client (Some other) = by_commands other other.to_come

      -- a timeout, whose ever
      pub record IsLeft (clients' : List (Client Op Shown)) (client : Client Op Shown) : Type 0 where
        pub after : Client Op Shown
        pub its : slice_get clients' c ≡ Some after
        pub made : after.made ≡ client.made
        pub to_come : after.to_come ≡ client.to_come

      left_by_timeout : (s : Section Kind Op Shown) (d : ℕ) (client : Client Op Shown) → slice_get s.clients c ≡ Some client → IsLeft (moved D s (ItsTimeout d)).clients client
      left_by_timeout s d client its = by_client (slice_get s.clients d) refl
        where
          same : IsLeft s.clients client
          same = record { after = client; its = its; made = refl; to_come = refl }

          by_op : (other : Client Op Shown) → slice_get s.clients d ≡ Some other → (i : ℕ) (o : Option ℕ) → IsLeft (timed_out_op D s d other i o).clients client
          by_op other is i None = same
          by_op other is i (Some op) = elim (same_or_not c d) [
            | inl one ↦
                let equal : Some other ≡ Some client = sym is ∙ ap (slice_get s.clients) (sym one) ∙ its in
                let other_is : other ≡ client = cc equal in
                record {
                  after = record other { timed_out = true };
                  its = ap (slice_get (slice_set s.clients d (record other { timed_out = true }))) one ∙ set_here s.clients d other (record other { timed_out = true }) is;
                  made = ap (λ (x : Client Op Shown). x.made) other_is;
                  to_come = ap (λ (x : Client Op Shown). x.to_come) other_is;
                }
            | inr isnt ↦ record { after = client; its = set_else s.clients d c (record other { timed_out = true }) isnt ∙ its; made = refl; to_come = refl }
          ]

          by_made : (other : Client Op Shown) → slice_get s.clients d ≡ Some other → (o : Option (Made Op Shown)) → IsLeft (timed_out_made D s d other o).clients client
          by_made other is None = same
          by_made other is (Some made) = by_op other is made.at (pending_op made.line.answer)

          by_client : (o : Option (Client Op Shown)) → slice_get s.clients d ≡ o → IsLeft (timed_out D s d o).clients client
          by_client None is = same
          by_client (Some other) is = by_made other is (last_of other.made)

      silent_move : (s : Section Kind Op Shown) (m : Move) → s.playing.lines ≡ [] → (moved D s m).playing.lines ≡ []
      silent_move s m silent = each_move D (λ a b. b.playing.lines ≡ []) s m silent (λ d client command rest. refl) (λ from to. refl) (λ d client i op. refl)

      -- A MOVE

      abbrev pub one_if : Bool → ℕ
      one_if b = if b then 1 else 0

      move_makes : (s : Section Kind Op Shown) (m : Move) (client : Client Op Shown) → may_come D s m ≡ true → Has s client → HasMore (moved D s m) client (one_if (is_command_of c m))
      move_makes s (NextCommand d) client may h = elim (eqb_tells d c) [
        | inl is ↦ subst (λ b. HasMore (moved D s (NextCommand d)) client (one_if b)) (sym is.0) (subst (λ e. HasMore (moved D s (NextCommand e)) client 1) (sym is.1) (own (subst (λ e. may_come D s (NextCommand e) ≡ true) is.1 may)))
        | inr isnt ↦
            subst (λ b. HasMore (moved D s (NextCommand d)) client (one_if b)) (sym isnt.0)
            (stands_still s (moved D s (NextCommand d)) client client (goes_move s (NextCommand d) h.runs) (moved_runs D members keys s (NextCommand d) h.runs) (silent_move s (NextCommand d) h.silent)
            (still_by_other s d client (λ e. isnt.1 (sym e)) h.its) refl refl h)
      ]
        where
          own : may_come D s (NextCommand c) ≡ true → HasMore (moved D s (NextCommand c)) client 1
          own e = by_commands client.to_come refl (subst (λ o. may_command D s o ≡ true) h.its e)
            where
              by_commands : (cs : List (Command Op)) → client.to_come ≡ cs → (nat_le 1 (length client.to_come) && goes_on D s (last_of client.made)) ≡ true → HasMore (moved D s (NextCommand c)) client 1
              by_commands [] is e = absurd (let f = subst (λ cs. nat_le 1 (length cs) ≡ true) is (first_true (nat_le 1 (length client.to_come)) (goes_on D s (last_of client.made)) e) in cc f)
              by_commands (command ∷ rest) is e =
                  let more =
                  makes_next s client command rest is (second_true (nat_le 1 (length client.to_come)) (goes_on D s (last_of client.made)) e) (goes_move s (NextCommand c) h.runs) (moved_runs D members keys s (NextCommand c) h.runs)
                  (ap (commanded D s c) h.its ∙ ap (commanded_by D s c client) is) h in
                  record { after = more.after; has = more.has; more = made_by command (played D s.playing (step_of command)).world more.one.line ∷ []; made = more.made; as_many = refl }
      move_makes s (NextMessage from to) client may h =
          stands_still s (moved D s (NextMessage from to)) client client (goes_move s (NextMessage from to) h.runs) (moved_runs D members keys s (NextMessage from to) h.runs) (silent_move s (NextMessage from to) h.silent) h.its refl refl h
      move_makes s (ItsTimeout d) client may h =
          let left = left_by_timeout s d client h.its in
          stands_still s (moved D s (ItsTimeout d)) client left.after (goes_move s (ItsTimeout d) h.runs) (moved_runs D members keys s (ItsTimeout d) h.runs) (silent_move s (ItsTimeout d) h.silent) left.its left.made left.to_come h

      pub moves_make : (s : Section Kind Op Shown) (ms : List Move) (client : Client Op Shown) → may_all_come D s ms ≡ true → Has s client → HasMore (moved_all D s ms) client (count_by (is_command_of c) ms)
      moves_make s [] client may h = record { after = client; has = h; more = []; made = sym (append-nil client.made); as_many = refl }
      moves_make s (m ∷ ms) client may h =
          let first = move_makes s m client (first_true (may_come D s m) (may_all_come D (moved D s m) ms) may) h in
          let here = moves_make (moved D s m) ms first.after (second_true (may_come D s m) (may_all_come D (moved D s m) ms) may) first.has in
          record {
            after = here.after;
            has = here.has;
            more = first.more ++ here.more;
            made = here.made ∙ ap (λ ls. ls ++ here.more) first.made ∙ append_assoc client.made first.more here.more;
            as_many = length-append first.more here.more ∙ ap (λ n. n + length here.more) first.as_many ∙ ap (λ n. one_if (is_command_of c m) + n) here.as_many ∙ sym (sum_by-cons (λ x. one_if (is_command_of c x)) m ms);
          }

    -- the move by which a command came
    record Came (s : Section Kind Op Shown) (ms : List Move) (c k : ℕ) : Type 0 where
      early : List Move
      rest : List Move
      way : ms ≡ early ++ NextCommand c ∷ rest
      client : Client Op Shown
      its : slice_get (moved_all D s early).clients c ≡ Some client
      count : length client.made ≡ k

    came_later : (s : Section Kind Op Shown) (m : Move) (ms : List Move) (c k : ℕ) → Came (moved D s m) ms c k → Came s (m ∷ ms) c k
    came_later s m ms c k h = record { early = m ∷ h.early; rest = h.rest; way = ap (λ xs. m ∷ xs) h.way; client = h.client; its = h.its; count = h.count }

    came_by : (c : ℕ) (commands : List (Command Op)) (s : Section Kind Op Shown) (ms : List Move) (client : Client Op Shown) → may_all_come D s ms ≡ true → Has c commands s client → (k : ℕ) → length client.made ≤ k
        → (last : Client Op Shown) → slice_get (moved_all D s ms).clients c ≡ Some last → k < length last.made → Came s ms c k
    came_by c commands s [] client may h k low last its high =
        let same : Some client ≡ Some last = sym h.its ∙ its in
        let one : client ≡ last = cc same in
        let n : length client.made ≡ length last.made = ap (λ (x : Client Op Shown). length x.made) one in
        absurd (omega (arith, low, high, n))
    came_by c commands s (m ∷ ms) client may h k low last its high =
        by m refl (is_command_of c m) refl (move_makes c commands s m client (first_true (may_come D s m) (may_all_come D (moved D s m) ms) may) h)
        (λ after has h'. came_by c commands (moved D s m) ms after (second_true (may_come D s m) (may_all_come D (moved D s m) ms) may) has k h' last its high)
      where
        Further : Type 0
        Further = (after : Client Op Shown) → Has c commands (moved D s m) after → length after.made ≤ k → Came (moved D s m) ms c k

        its_command : (x : Move) → m ≡ x → is_command_of c x ≡ true → m ≡ NextCommand c
        its_command (NextCommand d) is e = is ∙ ap NextCommand (same_number d c e)
        its_command (NextMessage from to) is e = absurd (cc e)
        its_command (ItsTimeout d) is e = absurd (cc e)

        by : (x : Move) → m ≡ x → (b : Bool) → is_command_of c m ≡ b → HasMore c commands (moved D s m) client (one_if c commands (is_command_of c m)) → Further → Came s (m ∷ ms) c k
        by x is false e more further =
            let longer = ap length more.made ∙ length-append client.made more.more in
            let none : length more.more ≡ 0 = more.as_many ∙ ap (one_if c commands) e in
            came_later s m ms c k (further more.after more.has (omega (arith, low, longer, none)))
        by x is true e more further = elim (same_or_not (length client.made) k) [
          | inl here ↦ record { early = []; rest = ms; way = ap (λ y. y ∷ ms) (its_command m refl e); client = client; its = h.its; count = here }
          | inr isnt ↦
              let longer = ap length more.made ∙ length-append client.made more.more in
              let one : length more.more ≡ 1 = more.as_many ∙ ap (one_if c commands) e in
              came_later s m ms c k (further more.after more.has (above longer one isnt))
        ]
          where
            above : length more.after.made ≡ length client.made + length more.more → length more.more ≡ 1 → length client.made ≢ k → length more.after.made ≤ k
            above longer one isnt = ⊎_elim (λ (less : length client.made < k). omega (arith, less, longer, one)) (λ h'. absurd (isnt (omega (arith, h', low)))) (cases_lt (length client.made) k)

  -- nobody joins a section
  none_by_move : (c : ℕ) (s : Section Kind Op Shown) (m : Move) → slice_get s.clients c ≡ None → slice_get (moved D s m).clients c ≡ None
  none_by_move c s m none =
      each_move D (λ a b. slice_get b.clients c ≡ None) s m none (λ d client command rest. set_none s.clients d c _ none) (λ from to. none) (λ d client i op. set_none s.clients d c _ none)

  none_by_moves : (c : ℕ) (s : Section Kind Op Shown) (ms : List Move) → slice_get s.clients c ≡ None → slice_get (moved_all D s ms).clients c ≡ None
  none_by_moves c s [] none = none
  none_by_moves c s (m ∷ ms) none = none_by_moves c (moved D s m) ms (none_by_move c s m none)

  pub may_first : (s : Section Kind Op Shown) (xs ys : List Move) → may_all_come D s (xs ++ ys) ≡ true → may_all_come D s xs ≡ true
  may_first s [] ys e = refl
  may_first s (x ∷ xs) ys e = both_true (may_come D s x) (may_all_come D (moved D s x) xs) (first_true (may_come D s x) _ e) (may_first (moved D s x) xs ys (second_true (may_come D s x) _ e))

  pub may_then : (s : Section Kind Op Shown) (xs ys : List Move) → may_all_come D s (xs ++ ys) ≡ true → may_all_come D (moved_all D s xs) ys ≡ true
  may_then s [] ys e = e
  may_then s (x ∷ xs) ys e = may_then (moved D s x) xs ys (second_true (may_come D s x) _ e)

  -- A SECTION

  module _ (members : ℕ) (keys : List (KeyDecl Kind)) (before : Playing Kind Op Shown) (is_run : IsRun D members keys before.events before.world) (clients : List (List (Command Op))) (moves : List Move) (end : Section Kind Op Shown) (section : IsSection D before clients moves end) where
    abbrev first : Section Kind Op Shown
    first = opened before clients

    module _ (c : ℕ) (commands : List (Command Op)) (get : slice_get clients c ≡ Some commands) where
      pub has_first : Has members keys c commands first (new_client commands)
      has_first = record {
        runs = is_run;
        silent = refl;
        its = get_mapped new_client clients c commands get;
        heads = refl;
        under = λ k m e op w. absurd (cc e);
        over = λ k m less e op w. absurd (cc e);
      }

      pub at_end : HasMore members keys c commands end (new_client commands) (count_by (is_command_of c) moves)
      at_end = subst (λ (s : Section Kind Op Shown). HasMore members keys c commands s (new_client commands) (count_by (is_command_of c) moves)) (sym section.leads) (moves_make members keys c commands first moves (new_client commands) section.lawful has_first)

      -- none is to come
      none_left : at_end.after.to_come ≡ []
      none_left = by at_end.after.to_come refl
        where
          over : ((length at_end.after.to_come == 0) && goes_on D end (last_of at_end.after.made)) ≡ true
          over = at_index (λ (client : Client Op Shown). (length client.to_come == 0) && goes_on D end (last_of client.made)) end.clients c at_end.after section.over at_end.has.its

          by : (cs : List (Command Op)) → at_end.after.to_come ≡ cs → at_end.after.to_come ≡ []
          by [] is = is
          by (x ∷ cs) is = absurd (let e = subst (λ xs. (length xs == 0) ≡ true) is (first_true (length at_end.after.to_come == 0) _ over) in let n = same_number (length (x ∷ cs)) 0 e in omega (arith, n))

      pub heads_at_end : made_heads at_end.after.made ≡ asked_heads commands
      heads_at_end = sym (append-nil (made_heads at_end.after.made)) ∙ ap (λ cs. made_heads at_end.after.made ++ asked_heads cs) (sym none_left) ∙ at_end.has.heads

      made_once : count_by (is_command_of c) moves ≡ length commands
      made_once = sym at_end.as_many ∙ sym (ap length at_end.made) ∙ sym (map_length (λ (m : Made Op Shown). m.line.head) at_end.after.made) ∙ ap length heads_at_end ∙ map_length (λ (command : Command Op). Asked command.at command.ask) commands

      -- each command came at a moment
      came_at : (k : ℕ) (last : Client Op Shown) (made : Made Op Shown) → slice_get end.clients c ≡ Some last → slice_get last.made k ≡ Some made → (here : Section Kind Op Shown) × (client : Client Op Shown) × ComesAt D before clients moves c here client × (length client.made ≡ k)
      came_at k last made its there =
          let came = came_by members keys c commands first moves (new_client commands) section.lawful has_first k (omega arith) last (subst (λ (s : Section Kind Op Shown). slice_get s.clients c ≡ Some last) section.leads its) (get_below last.made k made there) in
          (moved_all D first came.early, came.client, record { early = came.early; rest = came.rest; way = came.way; is = refl; its = came.its }, came.count)

    -- when a command comes
    module _ (c : ℕ) (here : Section Kind Op Shown) (client : Client Op Shown) (comes : ComesAt D before clients moves c here client) where
      pub lawful_there : may_all_come D here (NextCommand c ∷ comes.rest) ≡ true
      lawful_there = subst (λ (s : Section Kind Op Shown). may_all_come D s (NextCommand c ∷ comes.rest) ≡ true) (sym comes.is) (may_then first comes.early (NextCommand c ∷ comes.rest) (subst (λ ms. may_all_come D first ms ≡ true) comes.way section.lawful))

      pub may_there : goes_on D here (last_of client.made) ≡ true
      may_there =
          let e : may_come D here (NextCommand c) ≡ true = first_true (may_come D here (NextCommand c)) _ lawful_there in
          second_true (nat_le 1 (length client.to_come)) (goes_on D here (last_of client.made)) (subst (λ o. may_command D here o ≡ true) comes.its e)

      pub end_from : end ≡ moved_all D here (NextCommand c ∷ comes.rest)
      end_from = section.leads ∙ ap (moved_all D first) comes.way ∙ moved-append D first comes.early (NextCommand c ∷ comes.rest) ∙ ap (λ (s : Section Kind Op Shown). moved_all D s (NextCommand c ∷ comes.rest)) (sym comes.is)

      -- the client is one of the section's
      pub its_commands : (commands : List (Command Op)) × (slice_get clients c ≡ Some commands)
      its_commands = by (slice_get clients c) refl
        where
          by : (o : Option (List (Command Op))) → slice_get clients c ≡ o → (commands : List (Command Op)) × (slice_get clients c ≡ Some commands)
          by None is =
              let none = none_by_moves c first comes.early (get_none new_client clients c is) in
              absurd (let e = sym (ap (λ (s : Section Kind Op Shown). slice_get s.clients c) comes.is ∙ none) ∙ comes.its in cc e)
          by (Some commands) is = (commands, is)

      -- and stands there with its commands so far
      pub stands_there : Has members keys c its_commands.0 here client
      stands_there =
          let from_first = moves_make members keys c its_commands.0 first comes.early (new_client its_commands.0) (may_first first comes.early (NextCommand c ∷ comes.rest) (subst (λ ms. may_all_come D first ms ≡ true) comes.way section.lawful)) (has_first c its_commands.0 its_commands.1) in
          let has : Has members keys c its_commands.0 here from_first.after = subst (λ (s : Section Kind Op Shown). Has members keys c its_commands.0 s from_first.after) (sym comes.is) from_first.has in
          let same : Some from_first.after ≡ Some client = sym has.its ∙ comes.its in
          let one : from_first.after ≡ client = cc same in
          subst (λ (x : Client Op Shown). Has members keys c its_commands.0 here x) one has

      -- its next command
      pub record NextMade : Type 0 where
        pub command : Command Op
        pub rest : List (Command Op)
        pub to_come : client.to_come ≡ command ∷ rest
        pub one : OneLine D command (played D here.playing (step_of command))
        pub after : Client Op Shown
        pub has : Has members keys c its_commands.0 (moved D here (NextCommand c)) after
        pub made : after.made ≡ client.made ++ made_by command (played D here.playing (step_of command)).world one.line ∷ []
        pub playing : (moved D here (NextCommand c)).playing ≡ record (played D here.playing (step_of command)) { lines = [] }

      pub next_made : NextMade
      next_made = by client.to_come refl
        where
          may : (nat_le 1 (length client.to_come) && goes_on D here (last_of client.made)) ≡ true
          may = subst (λ o. may_command D here o ≡ true) comes.its (first_true (may_come D here (NextCommand c)) _ lawful_there)

          by : (cs : List (Command Op)) → client.to_come ≡ cs → NextMade
          by [] is = absurd (let f = subst (λ cs. nat_le 1 (length cs) ≡ true) is (first_true (nat_le 1 (length client.to_come)) _ may) in cc f)
          by (command ∷ rest) is =
              let moved_is : moved D here (NextCommand c) ≡ commanded_by D here c client (command ∷ rest) = ap (commanded D here c) stands_there.its ∙ ap (commanded_by D here c client) is in
              let more =
              makes_next members keys c its_commands.0 here client command rest is (second_true (nat_le 1 (length client.to_come)) _ may) (goes_move members keys here (NextCommand c) stands_there.runs) (moved_runs D members keys here (NextCommand c) stands_there.runs) moved_is stands_there in
              record { command = command; rest = rest; to_come = is; one = more.one; after = more.after; has = more.has; made = more.made; playing = ap (λ (x : Section Kind Op Shown). x.playing) moved_is }

      pub over_there : AreOver (world_of here) client.made
      over_there = all_over here client.made stands_there.under stands_there.over may_there

      pub goes_to_end : Goes D here.playing end.playing
      goes_to_end = subst (λ (s : Section Kind Op Shown). Goes D here.playing s.playing) (sym end_from) (goes_moves members keys here (NextCommand c ∷ comes.rest) stands_there.runs)

      seen_there : map (client_line (world_of here) c) client.made ≡ map (client_line (world_of end) c) client.made
      seen_there = map_same (client_line (world_of here) c) (client_line (world_of end) c) client.made (λ k m there. line_stays members keys here.playing end.playing c m goes_to_end (over_there k m there))

      -- what comes later is added
      pub later_made : HasMore members keys c its_commands.0 end client (count_by (is_command_of c) (NextCommand c ∷ comes.rest))
      later_made = subst (λ (s : Section Kind Op Shown). HasMore members keys c its_commands.0 s client (count_by (is_command_of c) (NextCommand c ∷ comes.rest))) (sym end_from) (moves_make members keys c its_commands.0 here (NextCommand c ∷ comes.rest) client lawful_there stands_there)

      first_there : (last : Client Op Shown) → slice_get end.clients c ≡ Some last → (later : List (Made Op Shown)) × (last.made ≡ client.made ++ later)
      first_there last its =
          let same : Some later_made.after ≡ Some last = sym later_made.has.its ∙ its in
          let one : later_made.after ≡ last = cc same in
          (later_made.more, sym (ap (λ (x : Client Op Shown). x.made) one) ∙ later_made.made)

    -- whose ever it is
    came_of : (c k : ℕ) (last : Client Op Shown) (made : Made Op Shown) → slice_get end.clients c ≡ Some last → slice_get last.made k ≡ Some made → (here : Section Kind Op Shown) × (client : Client Op Shown) × ComesAt D before clients moves c here client × (length client.made ≡ k)
    came_of c k last made its there = by (slice_get clients c) refl
      where
        by : (o : Option (List (Command Op))) → slice_get clients c ≡ o → (here : Section Kind Op Shown) × (client : Client Op Shown) × ComesAt D before clients moves c here client × (length client.made ≡ k)
        by None is =
            let none = none_by_moves c first moves (get_none new_client clients c is) in
            absurd (let e = sym (ap (λ (s : Section Kind Op Shown). slice_get s.clients c) section.leads ∙ none) ∙ its in cc e)
        by (Some commands) is = came_at c commands is k last made its there

    pub calls_stand_once : CallsStandOnce D before clients moves end
    calls_stand_once = record {
      once = λ c commands get. made_once c commands get;
      told = λ c commands get. ((at_end c commands get).after, (at_end c commands get).has.its, heads_at_end c commands get);
      came = λ c k last made its there. came_of c k last made its there;
      may = λ c here client comes. may_there c here client comes;
      seen = λ c here client comes. seen_there c here client comes;
      first = λ c here client last comes its. first_there c here client comes last its;
    }
