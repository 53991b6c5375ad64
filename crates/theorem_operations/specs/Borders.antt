-- Small runs at the borders of the theorems.
use Rattle.std.specs.Prelude.{◌≡◌, ℕ, List, [], ◌∷◌, flat_map, map, true, false, Option, None, Some}
use Rattle.model_history.specs.Texts.{Text}
use Rattle.model_history.specs.History.{at}
use Rattle.model_members.specs.DataType.{Replication}
use Rattle.model_members.specs.Node.{KeyDecl, Input, Finished}
use Rattle.model_members.specs.Node.Level.{Majority}
use Rattle.model_members.specs.Node.Fate.{NoStore}
use Rattle.model_members.specs.Node.Result.{Wrote, ReadValue, ReadNothing}
use Rattle.model_members.specs.Node.Reply.{Done, Pending, Taken, Installed, Already}
use Rattle.model_members.specs.World.Event.{Delivery}
use Rattle.model_members.specs.Script.{ScriptStep, Told, Answer, none_fails, opening, lines_of}
use Rattle.model_members.specs.Script.Answer.{Replied, NewIdentity}
use Rattle.model_members.specs.Script.Ask.{Update, Get, Install}
use Rattle.model_members.specs.Script.ScriptStep.{Asks, Deliver, Join}
use Rattle.theorem_operations.specs.Quorum.{WriteThenRead, IsUnchanged}
use Rattle.theorem_operations.specs.Finishing.{TwoRounds, IsUndisturbed}
use Rattle.theorem_operations.specs.Scripts.{UpdateThenGet, IsUnchangedUntil}

-- one key, which shows how many records of member 0 it has
abbrev pub small : Replication (Unit {0}) (Unit {0}) ℕ
small = record { data_type = record { fits = λ kind op. true; refusal = λ kind i op H. None; blocked = λ kind owner r H. None; shown = λ kind H. at H 0; deleted = λ H. false }; digest = λ kind entry. []; log_length = 50; most_steps = 16384 }

abbrev pub the_key : Text
the_key = 97 ∷ []

abbrev pub small_keys : List (KeyDecl (Unit {0}))
small_keys = record { name = the_key; kind = tt; durable = false } ∷ []

-- what a script's steps answer, and which operations they finish
abbrev pub lines_at : ℕ → List (ScriptStep (Unit {0})) → List (Told (Unit {0}) ℕ)
lines_at members steps = flat_map (λ (lines : List (Told (Unit {0}) ℕ)). lines) (lines_of small (opening none_fails members small_keys) steps)

abbrev pub answers_at : ℕ → List (ScriptStep (Unit {0})) → List (Answer ℕ)
answers_at members steps = map (λ (t : Told (Unit {0}) ℕ). t.answer) (lines_at members steps)

abbrev pub one_or_none : Option (Finished ℕ) → List (Finished ℕ)
one_or_none None = []
one_or_none (Some end) = end ∷ []

abbrev pub finished_at : ℕ → List (ScriptStep (Unit {0})) → List (Finished ℕ)
finished_at members steps = flat_map (λ (t : Told (Unit {0}) ℕ). one_or_none t.ended) (lines_at members steps)

abbrev pub write_at : ℕ → ℕ → ScriptStep (Unit {0})
write_at i cap = Asks i (Update the_key tt (Majority cap))

abbrev pub read_at : ℕ → ℕ → ScriptStep (Unit {0})
read_at i cap = Asks i (Get the_key (Majority cap))

abbrev pub next : ℕ → ℕ → ScriptStep (Unit {0})
next from to = Deliver from to None

-- AT THREE MEMBERS: member 0 writes, and another one reads

-- a read that begins once the write has finished shows it, though only member 1 heard of it
abbrev pub BegunAfterSuccess : Type 0
BegunAfterSuccess = finished_at 3 (write_at 0 0 ∷ next 0 1 ∷ next 1 0 ∷ read_at 2 0 ∷ next 2 1 ∷ next 1 2 ∷ []) ≡ record { op = 0; result = Wrote } ∷ record { op = 0; result = ReadValue 1 } ∷ []

-- one that begins before that may miss it
abbrev pub BegunBeforeSuccess : Type 0
BegunBeforeSuccess = finished_at 3 (write_at 0 0 ∷ read_at 1 0 ∷ next 1 2 ∷ next 2 1 ∷ next 0 1 ∷ next 1 0 ∷ next 1 0 ∷ []) ≡ record { op = 0; result = ReadNothing } ∷ record { op = 0; result = Wrote } ∷ []

-- A WRITER ON AN OLD VIEW: member 0 has view 0, in which it is alone, and the others have the last one

abbrev pub OneOnAnOldView : Type 0
OneOnAnOldView =
    let steps : List (ScriptStep (Unit {0})) = Join 1 ∷ Join 2 ∷ Asks 1 (Install 2) ∷ write_at 0 0 ∷ read_at 2 0 ∷ next 2 1 ∷ next 1 2 ∷ [] in
    (answers_at 1 steps ≡ NewIdentity 1 1 ∷ NewIdentity 2 2 ∷ Replied Installed ∷ Replied Done ∷ Replied (Pending 0) ∷ Replied Taken ∷ Replied Already ∷ []) × (finished_at 1 steps ≡ record { op = 0; result = ReadNothing } ∷ [])

-- A CAP LOWERS NOTHING: of four members three are needed, whatever the cap says, and four where it says so

abbrev pub CapLowersNothing : Type 0
CapLowersNothing =
    (finished_at 4 (write_at 0 1 ∷ next 0 1 ∷ next 1 0 ∷ next 0 2 ∷ []) ≡ [])
    × (finished_at 4 (write_at 0 1 ∷ next 0 1 ∷ next 1 0 ∷ next 0 2 ∷ next 2 0 ∷ []) ≡ record { op = 0; result = Wrote } ∷ [])

abbrev pub CapRaises : Type 0
CapRaises =
    (finished_at 4 (write_at 0 4 ∷ next 0 1 ∷ next 1 0 ∷ next 0 2 ∷ next 2 0 ∷ []) ≡ [])
    × (finished_at 4 (write_at 0 4 ∷ next 0 1 ∷ next 1 0 ∷ next 0 2 ∷ next 2 0 ∷ next 0 3 ∷ next 3 0 ∷ []) ≡ record { op = 0; result = Wrote } ∷ [])

-- THE PREMISES OF THE THEOREMS CAN BE MET

abbrev pub written_and_read : WriteThenRead (Unit {0})
written_and_read =
    record {
      before = [];
      write = record { writer = 0; key = the_key; operation = tt; cap = 0; fate = NoStore };
      between = Delivery 0 1 0 NoStore ∷ Delivery 1 0 0 NoStore ∷ [];
      reader = 1;
      cap = 3;
      fate = NoStore;
      after = Delivery 1 0 1 NoStore ∷ [];
    }

abbrev pub QuorumPremises : Type 0
QuorumPremises = IsUnchanged small 2 small_keys written_and_read

abbrev pub written_in_two_rounds : TwoRounds (Unit {0})
written_in_two_rounds =
    record {
      before = [];
      at = 0;
      input = Input.Update the_key tt (Majority 0);
      fate = NoStore;
      first = [];
      round = Delivery 0 1 0 NoStore ∷ [];
      second = [];
      last_round = Delivery 1 0 0 NoStore ∷ [];
    }

abbrev pub FinishingPremises : Type 0
FinishingPremises = IsUndisturbed small 2 small_keys written_in_two_rounds 0

-- a script whose second member reads what the first one wrote
abbrev pub small_script : List (ScriptStep (Unit {0}))
small_script = write_at 0 0 ∷ next 0 1 ∷ next 1 0 ∷ read_at 1 3 ∷ next 1 0 ∷ next 0 1 ∷ []

abbrev pub updated_and_got : UpdateThenGet (Unit {0})
updated_and_got = record { update = 0; writer = 0; key = the_key; operation = tt; cap = 0; get = 3; reader = 1; read_cap = 3 }

abbrev pub ScriptPremises : Type 0
ScriptPremises = IsUnchangedUntil small none_fails 2 small_keys small_script updated_and_got 5
