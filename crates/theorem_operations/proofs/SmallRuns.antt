-- Two members, a majority write and a majority read, by hand: the premises of the theorems are met.
use Rattle.std.proofs.Common.{◌≡◌, ℕ, ◌<◌, ◌∷◌, [], refl, sym, ap, arith, Bool, true, false, Some, None}
use Rattle.std.specs.Prelude.{nat_lt, ◌==◌, if◌then◌else◌, IsFalse, List, slice_get}
use Rattle.model_members.specs.View.{first_view}
use Rattle.model_members.specs.Message.Message.{Write, WriteAck, Read}
use Rattle.model_members.specs.Node.{Node}
use Rattle.model_members.specs.Node.Fate.{NoStore}
use Rattle.model_members.specs.World.{World, start, loaded_node, no_entries, happens, IsLawful}
use Rattle.model_members.specs.World.Event.{Delivery}
use Rattle.model_members.specs.Script.{Playing, Told, none_fails, opening, lines_of}
use Rattle.model_members.specs.Script.Head.{RoundHead}
use Rattle.model_members.specs.Script.Answer.{Nothing}
use Rattle.theorem_operations.specs.Quorum.{AllInstalled, HasSucceeded, write_event, read_event}
use Rattle.theorem_operations.specs.Finishing.{IsRound, HaveRoom}
use Rattle.theorem_operations.specs.Scripts.{TellsLine, SuccessIsTold}
use Rattle.theorem_operations.specs.Borders.{small, small_keys, the_key, written_and_read, QuorumPremises, FinishingPremises, small_script, ScriptPremises}

abbrev SmallWorld : Type 0
SmallWorld = World (Unit {0}) (Unit {0}) ℕ

abbrev SmallNode : Type 0
SmallNode = Node (Unit {0}) (Unit {0}) ℕ

abbrev loaded : ℕ → SmallNode
loaded t = loaded_node small_keys t (first_view 2) no_entries

abbrev the_node : SmallWorld → ℕ → SmallNode
the_node world i = elim (world.nodes i) [ None ↦ loaded i | Some n ↦ n ]

abbrev w0 : SmallWorld
w0 = start 2 small_keys

abbrev w1 : SmallWorld
w1 = happens small w0 (write_event written_and_read.write)

abbrev w2 : SmallWorld
w2 = happens small w1 (Delivery 0 1 0 NoStore)

abbrev w3 : SmallWorld
w3 = happens small w2 (Delivery 1 0 0 NoStore)

abbrev w4 : SmallWorld
w4 = happens small w3 (read_event written_and_read)

is_false : (b : Bool) → b ≡ false → IsFalse b
is_false b e = e

lawful_write : IsLawful small w0 (write_event written_and_read.write)
lawful_write = (tt, record { node = the_node w0 0; runs = refl; has_room = is_false _ refl; fate_fits = refl })

lawful_first : IsLawful small w1 (Delivery 0 1 0 NoStore)
lawful_first = (Write 0 the_key ((the_node w1 0).entries the_key), refl, record { node = the_node w1 1; runs = refl; has_room = is_false _ refl; fate_fits = refl })

lawful_second : IsLawful small w2 (Delivery 1 0 0 NoStore)
lawful_second = (WriteAck 0, refl, record { node = the_node w2 0; runs = refl; has_room = is_false _ refl; fate_fits = refl })

lawful_read : IsLawful small w3 (read_event written_and_read)
lawful_read = (tt, record { node = the_node w3 1; runs = refl; has_room = is_false _ refl; fate_fits = refl })

lawful_third : IsLawful small w4 (Delivery 1 0 1 NoStore)
lawful_third = (Read 0 the_key, refl, record { node = the_node w4 0; runs = refl; has_room = is_false _ refl; fate_fits = refl })

all_installed : AllInstalled w0
all_installed t node e = by (nat_lt t 2) e
  where
    by : (b : Bool) → (if b then Some (loaded t) else None) ≡ Some node → node.view ≡ first_view 2
    by true f = let same : loaded t ≡ node = cc f in sym (ap (λ (n : SmallNode). n.view) same)
    by false f = absurd (cc f)

pub quorum_premises : QuorumPremises
unfolding lawful_write lawful_first lawful_second lawful_read lawful_third
quorum_premises =
    record {
      is_run = record { some = omega arith; few = omega arith; lawful = (lawful_write, (lawful_first, (lawful_second, (lawful_read, (lawful_third, tt))))); leads = refl };
      installed = all_installed;
      between = (tt, (tt, tt));
      after = (tt, tt);
      succeeded = HasSucceeded.Afterwards 0 (the_node w3 0) refl refl (0, refl);
    }

abbrev at_work : SmallWorld → Playing (Unit {0}) (Unit {0}) ℕ
at_work world = record { world = world; answers = none_fails; calls = λ place. 1; events = []; lines = [] }

first_round : IsRound small w1 (Delivery 0 1 0 NoStore ∷ [])
first_round = record { playing = at_work w1; begins = refl; ends = refl; made = refl }

last_round : IsRound small w2 (Delivery 1 0 0 NoStore ∷ [])
last_round = record { playing = at_work w2; begins = refl; ends = refl; made = refl }

room : HaveRoom small w3
room t node e = by (t == 0) (t == 1) (nat_lt t 2) e
  where
    steps_of : (n : SmallNode) → n ≡ node → n.steps < 16384 → node.steps < 16384
    steps_of n same few = let s : n.steps ≡ node.steps = ap (λ (n : SmallNode). n.steps) same in omega arith

    by : (b c d : Bool) → (if b then Some (the_node w3 0) else (if c then Some (the_node w3 1) else (if b then Some (the_node w1 0) else (if d then Some (loaded t) else None)))) ≡ Some node → node.steps < 16384
    by true c d f = steps_of (the_node w3 0) (cc f) (omega arith)
    by false true d f = steps_of (the_node w3 1) (cc f) (omega arith)
    by false false true f = steps_of (loaded t) (cc f) (omega arith)
    by false false false f = absurd (cc f)

pub finishing_premises : FinishingPremises
unfolding lawful_write lawful_first lawful_second
finishing_premises =
    record {
      is_run = record { some = omega arith; few = omega arith; lawful = (lawful_write, (lawful_first, (lawful_second, tt))); leads = refl };
      installed = all_installed;
      opens = refl;
      is_round = first_round;
      is_last_round = last_round;
      undisturbed = (tt, (tt, tt), tt, (tt, tt));
      have_room = room;
    }

-- what the steps of the script tell
abbrev lines_told : ℕ → List (Told (Unit {0}) ℕ)
lines_told n = elim (slice_get (lines_of small (opening none_fails 2 small_keys) small_script) n) [ None ↦ [] | Some lines ↦ lines ]

abbrev line_told : ℕ → Told (Unit {0}) ℕ
line_told n = elim (slice_get (lines_told n) 0) [ None ↦ record { head = RoundHead; answer = Nothing; posts = []; ended = None } | Some line ↦ line ]

first_told : TellsLine small none_fails 2 small_keys small_script 0 (line_told 0)
first_told = (lines_told 0, 0, refl, refl)

third_told : TellsLine small none_fails 2 small_keys small_script 2 (line_told 2)
third_told = (lines_told 2, 0, refl, refl)

pub script_premises : ScriptPremises
script_premises =
    record {
      updates = refl;
      gets = refl;
      in_order = omega arith;
      installed = all_installed;
      unchanged = refl;
      succeeded = SuccessIsTold.Afterwards 0 2 (line_told 0) (line_told 2) (first_told, refl) (omega arith) (omega arith)
          (record { told = third_told; from = 1; index = 0; message = Some (WriteAck 0); delivered = refl; ended = refl });
    }
