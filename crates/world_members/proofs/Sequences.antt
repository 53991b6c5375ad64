-- Calls one after another: what they do together.
--     GoesOn        what a script does keeps the keepers' answers, and adds events
--     does_none, does_then, does_as        nothing, one after the other, the same said otherwise
--     halts_after, halts_within        memory was wanted after a part, and in a part
use Rattle.std.proofs.Common.{◌≡◌, ℕ, suc, ◌+◌, ◌-◌, List, [], ◌∷◌, ◌++◌, length, length-append, map, refl, sym, ap, subst, ◌∙◌, arith, append_assoc, Bool, true, false, not, Option, Some, None}
use Rattle.std.specs.Prelude.{fold, count_by, if◌then◌else◌, is_some, nat_lt}
use Rattle.std.specs.List.{range_with_len}
use Rattle.std.proofs.lemmas.List.Sums.{sum_by-append}
use Rattle.model_history.specs.Texts.{Text}
use Rattle.model_history.proofs.HistoryLaws.{append_nothing}
use Rattle.thread_machine.specs.Faults.{RoseBy}
use Rattle.model_members.specs.View.{place_of}
use Rattle.model_members.specs.DataType.{Replication}
use Rattle.model_members.specs.Message.{Message}
use Rattle.model_members.specs.Node.{KeyDecl, Fate}
use Rattle.model_members.specs.Node.Fate.{NoStore, Stored, StoreFailed}
use Rattle.model_members.specs.Step.{is_full}
use Rattle.model_members.specs.World.{Event, Turn, turn_of, message_at, output_of, stores}
use Rattle.model_members.specs.World.Event.{Delivery}
use Rattle.model_members.specs.Script as script
use Rattle.model_members.specs.Script.{Playing, Head, told, did, given, take_turn, output_lines, with_call, next_answer, deliver, answers_between}
use Rattle.theorem_runs.proofs.Keeping.{if_holds}
use Rattle.model_kinds.specs.declared.operation.Op.{Op}
use Rattle.model_kinds.specs.declared.shown.Shown.{Shown}
use Rattle.data_lattice.specs.declared.replica.Replica.{Ghosts}
use Rattle.data_lattice.specs.declared.spelled.SpelledData.{Ghosts as Spelling}
use Rattle.member_keeper.specs.declared.keeper.Keeper.{Ghosts as Keeping}
use Rattle.member_keeper.specs.Calls.{Becomes}
use Rattle.world_members.specs.declared.event.Event as line
use Rattle.world_members.specs.declared.world.World.{World}
use Rattle.world_members.specs.Giving.{Does, IsAsBefore}
use Rattle.world_places.specs.Keeping.{Given, Keeps, KeepsAt, IsKept}
use Rattle.world_members.specs.Lines.{are_damaged, IsLine}
use Rattle.world_places.specs.Places.{keeper_of}
use Rattle.world_members.specs.Rounds.{Halts}
use Rattle.world_members.specs.Steps.{Foretells, Reaches}
use Rattle.world_members.specs.Ways.{IsPrefix, Means}
use Rattle.world_members.proofs.Onward.{prefix_same, prefix_trans}
use Rattle.world_places.proofs.Lists.{zip_append}
use Rattle.world_places.proofs.Storing.{not_called_at}

-- THE MODEL

module _ {Kind Op Shown : Type 0} where
  -- a later point of a script, with the same keepers
  pub record Goes (p q : Playing Kind Op Shown) : Type 0 where
    pub answers : q.answers ≡ p.answers
    pub more : IsPrefix p.events q.events

  abbrev pub GoesOn : (Playing Kind Op Shown → Playing Kind Op Shown) → Type 0
  GoesOn f = (p : Playing Kind Op Shown) → Goes p (f p)

  pub goes_nowhere : GoesOn (λ p. p)
  goes_nowhere p = record { answers = refl; more = prefix_same p.events }

  pub goes_more : (p q r : Playing Kind Op Shown) → Goes p q → Goes q r → Goes p r
  goes_more p q r a b = record { answers = b.answers ∙ a.answers; more = prefix_trans p.events q.events r.events a.more b.more }

  pub goes_then : (f g : Playing Kind Op Shown → Playing Kind Op Shown) → GoesOn f → GoesOn g → GoesOn (λ p. g (f p))
  goes_then f g a b p = goes_more p (f p) (g (f p)) (a p) (b (f p))

  pub goes_fold : {X : Type 0} (step : Playing Kind Op Shown → X → Playing Kind Op Shown) → ((x : X) → GoesOn (λ p. step p x)) → (xs : List X) → GoesOn (λ p. fold step p xs)
  goes_fold step each [] p = goes_nowhere p
  goes_fold step each (x ∷ xs) p = goes_more p (step p x) (fold step (step p x) xs) (each x p) (goes_fold step each xs (step p x))

module _ {Kind Op Shown : Type 0} (D : Replication Kind Op Shown) (p : Playing Kind Op Shown) where
  told_goes : (head : Head Op) (answer : script.Answer Shown) → Goes p (told p head answer)
  told_goes head answer = record { answers = refl; more = prefix_same p.events }

  turn_goes : (head : Head Op) (event : Fate → Event Op) (turn : Turn Kind Op Shown) → Goes p (take_turn D p head event turn)
  turn_goes head event turn = go (nat_lt 0 (length (stores D turn.before turn.input)))
    where
      go : (b : Bool) → Goes p (let fate = if b then (if next_answer p (place_of p.world.view turn.at) then Stored else StoreFailed) else NoStore in did D (if b then with_call p (place_of p.world.view turn.at) else p) (event fate) (output_lines D head (output_of D p.world (event fate))))
      go true = record { answers = refl; more = (_, refl) }
      go false = record { answers = refl; more = (_, refl) }

  abbrev by_turn : Head Op → (Fate → Event Op) → Option (Turn Kind Op Shown) → Playing Kind Op Shown
  by_turn head event o = elim o [ None ↦ told p head script.Answer.Gone | Some turn ↦ if is_full D turn.before then told p head script.Answer.HistoryFull else take_turn D p head event turn ]

  abbrev by_message : ℕ → ℕ → ℕ → Option (Message Op) → Playing Kind Op Shown
  by_message from to index o = elim o [ None ↦ told p (Head.DeliverHead from to index None) script.Answer.NoSuchMessage | Some message ↦ given D p (Head.DeliverHead from to index (Some message)) (Delivery from to index) ]

  pub given_goes : (head : Head Op) (event : Fate → Event Op) → Goes p (given D p head event)
  given_goes head event = go (turn_of p.world (event NoStore))
    where
      go : (o : Option (Turn Kind Op Shown)) → Goes p (by_turn head event o)
      go None = told_goes head script.Answer.Gone
      go (Some turn) = if_holds (Goes p) (is_full D turn.before) (told p head script.Answer.HistoryFull) (take_turn D p head event turn) (told_goes head script.Answer.HistoryFull) (turn_goes head event turn)

  deliver_goes : (from to index : ℕ) → Goes p (deliver D p from to index)
  deliver_goes from to index = if_holds (Goes p) (is_some (p.world.nodes to)) (by_message from to index (message_at p.world from to index)) (told p (Head.DeliverHead from to index None) script.Answer.Gone) (go (message_at p.world from to index)) (told_goes (Head.DeliverHead from to index None) script.Answer.Gone)
    where
      go : (o : Option (Message Op)) → Goes p (by_message from to index o)
      go None = told_goes (Head.DeliverHead from to index None) script.Answer.NoSuchMessage
      go (Some message) = given_goes (Head.DeliverHead from to index (Some message)) (Delivery from to index)

pub goes_deliver : {Kind Op Shown : Type 0} (D : Replication Kind Op Shown) (from to index : ℕ) → GoesOn (λ p. deliver D p from to index)
goes_deliver D from to index p = deliver_goes D p from to index

-- THE KEEPERS' ANSWERS

-- answers foretold together are foretold one after the other
split : (f : ℕ → Bool) (c : ℕ) (xs ys : List Bool) → map f (range_with_len c (length (xs ++ ys))) ≡ xs ++ ys → (map f (range_with_len c (length xs)) ≡ xs) × (map f (range_with_len (c + length xs) (length ys)) ≡ ys)
split f c [] ys e = (refl, ap (λ n. map f (range_with_len n (length ys))) (let same : c + 0 ≡ c = omega arith in same) ∙ e)
split f c (x ∷ xs) ys e =
    let first : f c ≡ x = cc e in
    let rest : map f (range_with_len (c + 1) (length (xs ++ ys))) ≡ xs ++ ys = cc e in
    let s = split f (c + 1) xs ys rest in (
      (λ i. first i ∷ s.0 i),
      ap (λ n. map f (range_with_len n (length ys))) (let same : c + suc (length xs) ≡ c + 1 + length xs = omega arith in same) ∙ s.1,
    )

between : (f : ℕ → ℕ → Bool) (place c n : ℕ) → answers_between f place c (c + n) ≡ map (f place) (range_with_len c n)
between f place c n = ap (λ m. map (f place) (range_with_len c m)) (let same : c + n - c ≡ n = omega arith in same)

abbrev pub given_then : Given → Given → Given
given_then one two place = one place ++ two place

module _ {Kind Op Shown : Type 0} (p : Playing Kind Op Shown) (one two : Given) (foretold : Foretells p (given_then one two)) where
  both_told : (place : ℕ) → (map (p.answers place) (range_with_len (p.calls place) (length (one place))) ≡ one place) × (map (p.answers place) (range_with_len (p.calls place + length (one place)) (length (two place))) ≡ two place)
  both_told place = split (p.answers place) (p.calls place) (one place) (two place) (sym (between p.answers place (p.calls place) (length (one place ++ two place))) ∙ foretold place)

  pub foretells_first : Foretells p one
  foretells_first place = between p.answers place (p.calls place) (length (one place)) ∙ (both_told place).0

  pub foretells_second : (q : Playing Kind Op Shown) → q.answers ≡ p.answers → ((place : ℕ) → q.calls place ≡ p.calls place + length (one place)) → Foretells q two
  foretells_second q same calls place =
      between q.answers place (q.calls place) (length (two place)) ∙ (λ i. map (same i place) (range_with_len (calls place i) (length (two place)))) ∙ (both_told place).1

count_both : (xs ys : List Bool) → count_by not (xs ++ ys) ≡ count_by not xs + count_by not ys
count_both xs ys = sum_by-append (λ (x : Bool). if not x then 1 else 0) xs ys

rose_both : (m n a b c : ℕ) → RoseBy m a b → RoseBy n b c → RoseBy (m + n) a c
rose_both m n a b c first second = omega arith

module _ {K : Type 0} (keeping : Keeping K) where
  told_both : (a b c : Option (List Bool)) (one two : List Bool) → Becomes a b (λ x. x ++ one) → Becomes b c (λ x. x ++ two) → Becomes a c (λ x. x ++ (one ++ two))
  told_both None b c one two first second = tt
  told_both (Some x) b c one two first second =
      let then_told : Becomes (Some (x ++ one)) c (λ x. x ++ two) = subst (λ o. Becomes o c (λ x. x ++ two)) first second in
      then_told ∙ ap Some (append_assoc x one two)

  keeps_then : (a b c : K) (one two : List Bool) → Keeps keeping one a b → Keeps keeping two b c → Keeps keeping (one ++ two) a c
  keeps_then a b c one two first second =
      record {
        told = told_both (keeping.answers a) (keeping.answers b) (keeping.answers c) one two first.told second.told;
        counted = subst (λ n. RoseBy n (keeping.faults a) (keeping.faults c)) (sym (count_both one two)) (rose_both (count_by not one) (count_by not two) (keeping.faults a) (keeping.faults b) (keeping.faults c) first.counted second.counted);
        table = λ told. second.table (first.table told);
      }

  pub kept_then : (a b c : Option K) (one two : List Bool) → KeepsAt keeping one a b → KeepsAt keeping two b c → KeepsAt keeping (one ++ two) a c
  kept_then None None None one two first second = (λ i. first i ++ second i)
  kept_then None None (Some c) one two first second = absurd second
  kept_then None (Some b) c one two first second = absurd first
  kept_then (Some a) None c one two first second = absurd first
  kept_then (Some a) (Some b) None one two first second = absurd second
  kept_then (Some a) (Some b) (Some c) one two first second = keeps_then a b c one two first second

  pub kept_after : (a b c : Option K) → IsKept keeping a b → IsKept keeping b c → IsKept keeping a c
  kept_after a b c first second = record { answers = first.answers ++ second.answers; keeps = kept_then a b c first.answers second.answers first.keeps second.keeps }

undamaged_both : (xs ys : List line.Event) → are_damaged xs ≡ false → are_damaged ys ≡ false → are_damaged (xs ++ ys) ≡ false
undamaged_both [] ys a b = b
undamaged_both (x ∷ []) [] a b = a
undamaged_both (x ∷ []) (y ∷ ys) a b = refl
undamaged_both (x ∷ y ∷ xs) ys a b = refl

-- CALLS

module _ {T K Kind Delta : Type 0} {ghosts : Ghosts T Kind Op Delta} {keeping : Keeping K} (spelling : Spelling T Kind Op Delta) where
  pub does_none : (a : World T K Kind Op Delta ghosts keeping) → Does spelling (λ p. p) a a []
  does_none a =
      record {
        given = λ k. [];
        kept = λ k. not_called_at keeping (keeper_of a.nodes.items a.spare.items k);
        undamaged = refl;
        leads = λ kinds members decls p m foretold. record { means = m; lines = ([], sym (append_nothing p.lines), tt); calls = λ k. (let e : p.calls k ≡ p.calls k + 0 = omega arith in e) };
      }

  module _ (f g : Playing Kind Op Shown → Playing Kind Op Shown) (on : GoesOn f) (a b c : World T K Kind Op Delta ghosts keeping) (es fs : List line.Event) (first : Does spelling f a b es) (second : Does spelling g b c fs) where
    module _ (kinds : Text → Kind) (members : ℕ) (decls : List (KeyDecl Kind)) (p : Playing Kind Op Shown) (m : Means spelling kinds members decls p a) (foretold : Foretells p (given_then first.given second.given)) where
      one : Reaches spelling kinds members decls p (f p) first.given b es
      one = first.leads kinds members decls p m (foretells_first p first.given second.given foretold)

      two : Reaches spelling kinds members decls (f p) (g (f p)) second.given c fs
      two = second.leads kinds members decls (f p) one.means (foretells_second p first.given second.given foretold (f p) (on p).answers one.calls)

      both : Reaches spelling kinds members decls p (g (f p)) (given_then first.given second.given) c (es ++ fs)
      both =
          record {
            means = two.means;
            lines = (
              one.lines.0 ++ two.lines.0,
              two.lines.1 ∙ ap (λ ls. ls ++ two.lines.0) one.lines.1 ∙ append_assoc p.lines one.lines.0 two.lines.0,
              zip_append IsLine es fs one.lines.0 two.lines.0 one.lines.2 two.lines.2,
            );
            calls = λ k.
                two.calls k ∙ ap (λ n. n + length (second.given k)) (one.calls k)
                ∙ (let e : p.calls k + length (first.given k) + length (second.given k) ≡ p.calls k + length (first.given k ++ second.given k) = omega (arith, length-append (first.given k) (second.given k)) in e);
          }

    pub does_then : Does spelling (λ p. g (f p)) a c (es ++ fs)
    does_then =
        record {
          given = given_then first.given second.given;
          kept = λ k. kept_then keeping (keeper_of a.nodes.items a.spare.items k) (keeper_of b.nodes.items b.spare.items k) (keeper_of c.nodes.items c.spare.items k) (first.given k) (second.given k) (first.kept k) (second.kept k);
          undamaged = undamaged_both es fs first.undamaged second.undamaged;
          leads = both;
        }

  -- the same, said otherwise
  pub does_as : (f g : Playing Kind Op Shown → Playing Kind Op Shown) (a b : World T K Kind Op Delta ghosts keeping) (es : List line.Event)
      → ((kinds : Text → Kind) (members : ℕ) (decls : List (KeyDecl Kind)) (p : Playing Kind Op Shown) → Means spelling kinds members decls p a → f p ≡ g p) → Does spelling f a b es → Does spelling g a b es
  does_as f g a b es same d =
      record {
        given = d.given;
        kept = d.kept;
        undamaged = d.undamaged;
        leads = λ kinds members decls p m foretold. subst (λ (q : Playing Kind Op Shown). Reaches spelling kinds members decls p q d.given b es) (same kinds members decls p m) (d.leads kinds members decls p m foretold);
      }

  kept_does : (f : Playing Kind Op Shown → Playing Kind Op Shown) (a b : World T K Kind Op Delta ghosts keeping) (es : List line.Event) → Does spelling f a b es → (k : ℕ) → IsKept keeping (keeper_of a.nodes.items a.spare.items k) (keeper_of b.nodes.items b.spare.items k)
  kept_does f a b es d k = record { answers = d.given k; keeps = d.kept k }

  -- after a part nothing more was done
  pub halts_after : (f h : Playing Kind Op Shown → Playing Kind Op Shown) (a b c : World T K Kind Op Delta ghosts keeping) (es : List line.Event) → GoesOn f → ((p : Playing Kind Op Shown) → IsPrefix (f p).events (h p).events) → Does spelling f a b es → IsAsBefore spelling b c → Halts spelling h a c
  halts_after f h a b c es on until d stays =
      record {
        kept = λ k. kept_after keeping (keeper_of a.nodes.items a.spare.items k) (keeper_of b.nodes.items b.spare.items k) (keeper_of c.nodes.items c.spare.items k) (kept_does f a b es d k) (stays.kept k);
        stops = record {
          given = d.given;
          means = λ kinds members decls p m foretold. (f p, stays.stays kinds members decls (f p) (d.leads kinds members decls p m foretold).means, (on p).more, until p);
        };
      }

  -- after a part, memory was wanted in the next
  pub halts_within : (f g h : Playing Kind Op Shown → Playing Kind Op Shown) (a b c : World T K Kind Op Delta ghosts keeping) (es : List line.Event) → GoesOn f → ((p : Playing Kind Op Shown) → IsPrefix (g (f p)).events (h p).events) → Does spelling f a b es → Halts spelling g b c → Halts spelling h a c
  halts_within f g h a b c es on until d halts =
      record {
        kept = λ k. kept_after keeping (keeper_of a.nodes.items a.spare.items k) (keeper_of b.nodes.items b.spare.items k) (keeper_of c.nodes.items c.spare.items k) (kept_does f a b es d k) (halts.kept k);
        stops = record {
          given = given_then d.given halts.stops.given;
          means = λ kinds members decls p m foretold.
              let one = d.leads kinds members decls p m (foretells_first p d.given halts.stops.given foretold) in
              let found = halts.stops.means kinds members decls (f p) one.means (foretells_second p d.given halts.stops.given foretold (f p) (on p).answers one.calls) in
              (found.0, found.1, prefix_trans p.events (f p).events found.0.events ((on p).more) found.2, prefix_trans found.0.events (g (f p)).events (h p).events found.3 (until p));
        };
      }

  -- the same, said otherwise
  pub halts_as : (g h : Playing Kind Op Shown → Playing Kind Op Shown) (a c : World T K Kind Op Delta ghosts keeping) → ((kinds : Text → Kind) (members : ℕ) (decls : List (KeyDecl Kind)) (p : Playing Kind Op Shown) → Means spelling kinds members decls p a → g p ≡ h p) → Halts spelling g a c → Halts spelling h a c
  halts_as g h a c same halts =
      record {
        kept = halts.kept;
        stops = record {
          given = halts.stops.given;
          means = λ kinds members decls p m foretold. let found = halts.stops.means kinds members decls p m foretold in (found.0, found.1, found.2, subst (λ (q : Playing Kind Op Shown). IsPrefix found.0.events q.events) (same kinds members decls p m) found.3);
        };
      }
