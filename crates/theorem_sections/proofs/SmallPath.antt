-- A small path by hand: a durable write whose second store fails, and its timeout. The premises can be met.
use Rattle.std.proofs.Common.{Bool, ◌≡◌, ◌≢◌, ◌⊎◌, inl, inr, ⊎_elim, ℕ, zero, suc, List, [], ◌∷◌, refl, sym, ap, subst, ◌∙◌, arith, true, false, true≢false, Some, None}
use Rattle.std.specs.Prelude.{◌==◌, ◌||◌, if◌then◌else◌, slice_get, IsTrue, not, length, ◌+◌}
use Rattle.std.specs.List.{AllByRecursion}
use Rattle.model_members.specs.View.{first_view, is_member}
use Rattle.model_members.specs.DataType.{Replication}
use Rattle.model_members.specs.Message.{Message}
use Rattle.model_members.specs.Node.{KeyDecl, Node, Level, Input, Fate, Reply, Stepped}
use Rattle.model_members.specs.Step.{step}
use Rattle.model_members.specs.World.{World, start, loaded_node, views_of, no_entries}
use Rattle.model_members.specs.Script.{Ask, Playing, Head, Answer, answers_between}
use Rattle.theorem_sections.specs.Sections.{Command, command_to, Ending}
use Rattle.theorem_sections.specs.Histories.{Entry, Placed, posted_to, taken_from, RiseAbove, AreHistories, IsRunOrder, IsFromClients, AreHeard, AreSteps, entries_at}
use Rattle.theorem_sections.specs.Paths.{ClientStep, IsStepOf, IsPath, IsTake, ArePaths, HasEntryAt, HasSection, PathsHaveSections, answered_in, calls_after, HaveAnswered}
use Rattle.theorem_sections.proofs.NextDue.{same_or_not}
use Rattle.theorem_sections.proofs.RunOrder.{is_other}

abbrev pub D : Replication (Unit {0}) (Unit {0}) ℕ
D = record {
  data_type = record { fits = λ k o. true; refusal = λ k i o H. None; blocked = λ k o r H. None; shown = λ k H. 0; deleted = λ H. false };
  digest = λ k e. [];
  log_length = 50;
  most_steps = 16384;
}

abbrev pub keys : List (KeyDecl (Unit {0}))
keys = record { name = 97 ∷ []; kind = tt; durable = true } ∷ []

abbrev pub world : World (Unit {0}) (Unit {0}) ℕ
world = start 2 keys

abbrev node_at : ℕ → Node (Unit {0}) (Unit {0}) ℕ
node_at i = loaded_node keys i (first_view 2) no_entries

abbrev pub write : Input (Unit {0})
write = Input.Update (97 ∷ []) tt (Level.Majority 0)

abbrev s0 : Stepped (Unit {0}) (Unit {0}) ℕ
s0 = step D (node_at 0) write Fate.Stored

abbrev question : Message (Unit {0})
question = Message.Write 0 (97 ∷ []) (s0.node.entries (97 ∷ []))

abbrev s1 : Stepped (Unit {0}) (Unit {0}) ℕ
s1 = step D (node_at 1) (Input.Take 0 question) Fate.StoreFailed

abbrev s2 : Stepped (Unit {0}) (Unit {0}) ℕ
s2 = step D s0.node (Input.Take 1 (Message.WriteNack 0)) Fate.NoStore

abbrev s3 : Stepped (Unit {0}) (Unit {0}) ℕ
s3 = step D s2.node (Input.Timeout 0) Fate.NoStore

abbrev pub e0 : Entry (Unit {0}) ℕ
e0 = record { client = 0; input = write; fate = Fate.Stored; output = s0.output; stamp = 1 }

abbrev pub e1 : Entry (Unit {0}) ℕ
e1 = record { client = 0; input = Input.Take 0 question; fate = Fate.StoreFailed; output = s1.output; stamp = 2 }

abbrev pub e2 : Entry (Unit {0}) ℕ
e2 = record { client = 0; input = Input.Take 1 (Message.WriteNack 0); fate = Fate.NoStore; output = s2.output; stamp = 3 }

abbrev pub e3 : Entry (Unit {0}) ℕ
e3 = record { client = 0; input = Input.Timeout 0; fate = Fate.NoStore; output = s3.output; stamp = 4 }

abbrev pub histories : ℕ → List (Entry (Unit {0}) ℕ)
histories i = if i == 0 then e0 ∷ e2 ∷ e3 ∷ [] else (if i == 1 then e1 ∷ [] else [])

abbrev placed : List (Placed (Unit {0}) ℕ)
placed = record { at = 0; entry = e0 } ∷ record { at = 1; entry = e1 } ∷ record { at = 0; entry = e2 } ∷ record { at = 0; entry = e3 } ∷ []

abbrev pub clients : List (List (Command (Unit {0})))
clients = (command_to 0 (Ask.Update (97 ∷ []) tt (Level.Majority 0)) ∷ []) ∷ []

abbrev pub the_step : ClientStep (Unit {0}) ℕ
the_step =
    record {
      line = record { client = Some 0; head = Head.Asked 0 (Ask.Update (97 ∷ []) tt (Level.Majority 0)); answer = Answer.Replied (Reply.Pending 0); posts = e0.output.posts; ended = Some (Ending.TimedOut 0) };
      index = Some 0;
      timeout = Some 2;
      since = 0;
      upto = 4;
    }

abbrev paths : List (List (ClientStep (Unit {0}) ℕ))
paths = (the_step ∷ []) ∷ []

pub by_place : (P : ℕ → Type 0) → P 0 → P 1 → ((i : ℕ) → i ≢ 0 → i ≢ 1 → P i) → (i : ℕ) → P i
by_place P zeroth first others i = ⊎_elim (λ (is : i ≡ 0). subst P (sym is) zeroth) (λ isnt. ⊎_elim (λ (is : i ≡ 1). subst P (sym is) first) (λ isnt'. others i isnt isnt') (same_or_not i 1)) (same_or_not i 0)

pub nothing_else : (i : ℕ) → i ≢ 0 → i ≢ 1 → histories i ≡ []
nothing_else i a b = ap (λ t. if t then e0 ∷ e2 ∷ e3 ∷ [] else (if i == 1 then e1 ∷ [] else [])) (is_other i 0 a) ∙ ap (λ t. if t then e1 ∷ [] else []) (is_other i 1 b)

pub no_member : (i : ℕ) → i ≢ 0 → i ≢ 1 → is_member (first_view 2) i ≡ true → ⊥
no_member i a b m = true≢false (sym m ∙ ap (λ t. t || ((1 == i) || false)) (is_other 0 i (λ e. a (sym e))) ∙ ap (λ t. t || false) (is_other 1 i (λ e. b (sym e))))

pub are_histories : AreHistories D world histories
are_histories =
    record {
      steps = by_place (λ i. IsTrue (is_member world.view i) → (member : Node (Unit {0}) (Unit {0}) ℕ) × (world.nodes i ≡ Some member) × AreSteps D member (histories i))
          (λ m. (node_at 0, refl, (refl, (λ e. absurd (cc e)), refl, (refl, refl, refl, (refl, refl, refl, tt)))))
          (λ m. (node_at 1, refl, (refl, (λ e. absurd (cc e)), refl, tt)))
          (λ i a b m. absurd (no_member i a b m));
      given = by_place (λ i. AllByRecursion (λ (e : Entry (Unit {0}) ℕ). IsFromClients world.view (views_of world) e.input) (histories i))
          (tt, (refl, (tt, tt))) (refl, tt)
          (λ i a b. subst (AllByRecursion (λ (e : Entry (Unit {0}) ℕ). IsFromClients world.view (views_of world) e.input)) (sym (nothing_else i a b)) tt);
      rise = by_place (λ i. RiseAbove 0 (histories i)) ((omega arith), ((omega arith), ((omega arith), tt))) ((omega arith), tt) (λ i a b. subst (RiseAbove 0) (sym (nothing_else i a b)) tt);
      heard = by_place (λ i. (j : ℕ) → IsTrue (is_member world.view i) → IsTrue (is_member world.view j) → AreHeard (posted_to j (histories i)) (taken_from i (histories j)))
          (by_place (λ j. IsTrue (is_member world.view 0) → IsTrue (is_member world.view j) → AreHeard (posted_to j (histories 0)) (taken_from 0 (histories j))) (λ m n. tt) (λ m n. (refl, (omega arith), tt)) (λ j a b m n. absurd (no_member j a b n)))
          (by_place (λ j. IsTrue (is_member world.view 1) → IsTrue (is_member world.view j) → AreHeard (posted_to j (histories 1)) (taken_from 1 (histories j))) (λ m n. (refl, (omega arith), tt)) (λ m n. tt) (λ j a b m n. absurd (no_member j a b n)))
          (λ i a b j m n. absurd (no_member i a b m));
    }

is_order : IsRunOrder world.view histories placed
is_order =
    record {
      sorted = ((inl (omega arith), (inl (omega arith), (inl (omega arith), tt))), ((inl (omega arith), (inl (omega arith), tt)), ((inl (omega arith), tt), (tt, tt))));
      whole = by_place (λ i. IsTrue (is_member world.view i) → entries_at i placed ≡ histories i) (λ m. refl) (λ m. refl) (λ i a b m. absurd (no_member i a b m));
      members = (refl, (refl, (refl, (refl, tt))));
    }

is_step : IsStepOf D world histories 0 (command_to 0 (Ask.Update (97 ∷ []) tt (Level.Majority 0))) the_step
is_step =
    record {
      told = (refl, refl);
      answered = record {
        index = 0;
        entry = e0;
        input = write;
        at = refl;
        runs = refl;
        given = refl;
        made = record { stands = refl; of = refl; asks = refl };
        replied = refl;
        posts = refl;
        later = omega arith;
        before = omega arith;
        heard = refl;
        ended = refl;
      };
      timed_out = (
        0,
        e0,
        refl,
        refl,
        record {
          timeout = e3;
          seen = 3;
          made = record { stands = refl; of = refl; asks = refl };
          later = (omega arith, omega arith);
          before = omega arith;
          cause = inl (refl, refl, refl);
        },
      );
      ends = refl;
      forward = omega arith;
    }

pub are_paths : ArePaths D world histories clients paths
are_paths =
    record {
      as_many = refl;
      each = λ c commands steps e f. one c commands steps e f;
      whole = by_place (λ i. (k : ℕ) (e : Entry (Unit {0}) ℕ) → slice_get (histories i) k ≡ Some e → IsTake e.input ⊎ HasEntryAt D world histories clients paths i k) at_zero at_one
          (λ i a b k e h. absurd (let g = subst (λ es. slice_get es k ≡ Some e) (nothing_else i a b) h in cc g));
    }
  where
    one : (c : ℕ) (commands : List (Command (Unit {0}))) (steps : List (ClientStep (Unit {0}) ℕ)) → slice_get clients c ≡ Some commands → slice_get paths c ≡ Some steps → IsPath D world histories c 0 commands steps
    one zero commands steps e f =
        let a : (command_to 0 (Ask.Update (97 ∷ []) tt (Level.Majority 0)) ∷ []) ≡ commands = cc e in
        let b : (the_step ∷ []) ≡ steps = cc f in
        subst (λ cs. IsPath D world histories 0 0 cs steps) a (subst (λ ss. IsPath D world histories 0 0 (command_to 0 (Ask.Update (97 ∷ []) tt (Level.Majority 0)) ∷ []) ss) b (omega arith, is_step, tt))
    one (suc c) commands steps e f = absurd (cc e)

    at_zero : (k : ℕ) (e : Entry (Unit {0}) ℕ) → slice_get (histories 0) k ≡ Some e → IsTake e.input ⊎ HasEntryAt D world histories clients paths 0 k
    at_zero zero e h = inr (record { client = 0; number = 0; commands = command_to 0 (Ask.Update (97 ∷ []) tt (Level.Majority 0)) ∷ []; steps = the_step ∷ []; command = command_to 0 (Ask.Update (97 ∷ []) tt (Level.Majority 0)); step = the_step; of = (refl, refl); stands = (refl, refl); at = (refl, inl refl) })
    at_zero (suc zero) e h = let same : e2 ≡ e = cc h in inl (subst (λ (x : Entry (Unit {0}) ℕ). IsTake x.input) same tt)
    at_zero (suc (suc zero)) e h = inr (record { client = 0; number = 0; commands = command_to 0 (Ask.Update (97 ∷ []) tt (Level.Majority 0)) ∷ []; steps = the_step ∷ []; command = command_to 0 (Ask.Update (97 ∷ []) tt (Level.Majority 0)); step = the_step; of = (refl, refl); stands = (refl, refl); at = (refl, inr refl) })
    at_zero (suc (suc (suc k))) e h = absurd (cc h)

    at_one : (k : ℕ) (e : Entry (Unit {0}) ℕ) → slice_get (histories 1) k ≡ Some e → IsTake e.input ⊎ HasEntryAt D world histories clients paths 1 k
    at_one zero e h = let same : e1 ≡ e = cc h in inl (subst (λ (x : Entry (Unit {0}) ℕ). IsTake x.input) same tt)
    at_one (suc k) e h = absurd (cc h)

abbrev before : Playing (Unit {0}) (Unit {0}) ℕ
before = record { world = world; answers = λ place call. not (place == 1); calls = λ place. 1; events = []; lines = [] }

-- the keeper of place 1 fails, and each of the others stores
have_answered : HaveAnswered before placed
have_answered = by_place (λ place. answers_between before.answers place (before.calls place) (calls_after before placed place) ≡ answered_in before.world.view placed place) refl refl
    (λ place a b. none place (answered_in before.world.view placed place) (no_calls place (is_other 0 place (λ e. a (sym e))) (is_other 1 place (λ e. b (sym e)))))
  where
    no_calls : (place : ℕ) → (0 == place) ≡ false → (1 == place) ≡ false → answered_in before.world.view placed place ≡ []
    no_calls place a b = simp (a, b)

    none : (place : ℕ) (bs : List Bool) → bs ≡ [] → answers_between before.answers place 1 (1 + length bs) ≡ bs
    none place bs e = subst (λ bs. answers_between before.answers place 1 (1 + length bs) ≡ bs) (sym e) refl

-- so the theorem says something of it
pub has_section : PathsHaveSections D → HasSection D before placed clients paths
has_section theorem = theorem 2 keys before histories placed clients paths (record { some = omega arith; few = omega arith; leads = refl; lawful = tt }) are_histories is_order are_paths have_answered
