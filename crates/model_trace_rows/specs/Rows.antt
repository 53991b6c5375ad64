-- Worked traces: what runs of scripts leave, and what is broken where a line is changed.
use Rattle.std.specs.Prelude.{◌≡◌, ℕ, List, [], ◌∷◌, ◌++◌, None, codes, map, filter, not, ◌==◌, if◌then◌else◌, slice_index}
use Rattle.model_history.specs.Table.{identities, with_at}
use Rattle.model_history.specs.Texts.{Text}
use Rattle.model_history.specs.Vector.{VersionVector, none_counted}
use Rattle.model_history.specs.History.{Action}
use Rattle.model_history.specs.History.Action.{Operation, Prune}
use Rattle.model_kinds.specs.declared.kind.Kind.{Kind}
use Rattle.model_kinds.specs.declared.operation.Op.{Op}
use Rattle.model_kinds.specs.SixKinds.{six_kinds}
use Rattle.model_kinds.specs.ShownText.{shown_text}
use Rattle.model_kinds.specs.declared.kind.Kind.TheVariants.{GCounter, OrSet, Flag}
use Rattle.model_kinds.specs.declared.operation.Op.TheVariants.{Increment, Add, Remove, Enable, Delete}
use Rattle.model_members.specs.Node.{KeyDecl}
use Rattle.model_members.specs.Node.Level.{Local}
use Rattle.model_members.specs.Script.{ScriptStep, KeeperAnswers, none_fails}
use Rattle.model_members.specs.Script.Ask.{Update, Get, Flush, Gossip, Tick, Install}
use Rattle.model_members.specs.Script.ScriptStep.{Asks, Deliver, Round}
use Rattle.model_rows.specs.Words.{data_type, key, durable_key, failing_at}
use Rattle.model_traces.specs.Traces.{Act, TraceLine, Trace, Verdict, verdict}
use Rattle.model_traces.specs.Traces.Act.{Records, Holds, Shows}
use Rattle.model_traces.specs.Traces.Verdict.{Lawful, Broken}
use Rattle.model_traces.specs.Runs.{trace_of}

abbrev pub trace_with : KeeperAnswers → ℕ → List (KeyDecl Kind) → List (ScriptStep Op) → Trace Kind Op
trace_with = trace_of data_type shown_text

abbrev pub trace : ℕ → List (KeyDecl Kind) → List (ScriptStep Op) → Trace Kind Op
trace = trace_with none_fails

abbrev pub judged : Trace Kind Op → Verdict
judged = verdict six_kinds shown_text

-- LINES THAT CAN BE COMPARED: a vector as the identities that it counts, each with its number

abbrev pub pairs : VersionVector → List (ℕ × ℕ)
pairs known = map (λ i. (i, known i)) (filter (λ i. not (known i == 0)) identities)

pub data Plain : Type 0 where
  Recorded : Action Op → Plain
  Held : List (ℕ × ℕ) → Plain
  Shown : Text → Plain

pub record PlainLine : Type 0 where
  pub member : ℕ
  pub key : Text
  pub act : Plain

abbrev pub plain : Act Op → Plain
plain (Records action) = Recorded action
plain (Holds known) = Held (pairs known)
plain (Shows text) = Shown text

abbrev pub told : Trace Kind Op → List PlainLine
told trace = map (λ (line : TraceLine Op). record { member = line.member; key = line.key; act = plain line.act }) trace.lines

abbrev pub tells : ℕ → Text → Plain → PlainLine
tells i name act = record { member = i; key = name; act = act }

-- A TRACE: a counter is incremented, and the other member takes and shows it

abbrev pub counted : Trace Kind Op
counted =
    trace 2 (key (codes "n") GCounter ∷ [])
    (Asks 0 (Update (codes "n") (Increment 5) Local) ∷ Asks 0 Flush ∷ Deliver 0 1 None ∷ Asks 1 (Get (codes "n") Local) ∷ [])

abbrev pub ATrace : Type 0
ATrace =
    (told counted ≡ tells 0 (codes "n") (Recorded (Operation (Increment 5))) ∷ tells 1 (codes "n") (Held ((0, 1) ∷ [])) ∷ tells 1 (codes "n") (Shown (codes "5"))
    ∷ tells 0 (codes "n") (Shown (codes "5")) ∷ tells 1 (codes "n") (Shown (codes "5")) ∷ [])
    × (judged counted ≡ Lawful)

-- THE SAME LINES BY HAND

abbrev pub line : ℕ → Text → Act Op → TraceLine Op
line i name act = record { member = i; key = name; act = act }

-- so many of each identity, from 0 on
abbrev pub counts : List ℕ → VersionVector
counts ns i = slice_index ns i

abbrev pub changed : VersionVector → Text → Trace Kind Op
changed known value = record {
  keys = key (codes "n") GCounter ∷ [];
  lines = line 0 (codes "n") (Records (Operation (Increment 5))) ∷ line 1 (codes "n") (Holds known) ∷ line 1 (codes "n") (Shows value)
      ∷ line 0 (codes "n") (Shows (codes "5")) ∷ line 1 (codes "n") (Shows (codes "5")) ∷ [];
}

-- the value or the vector is another
abbrev pub BrokenTraces : Type 0
BrokenTraces =
    (judged (changed (counts (1 ∷ [])) (codes "5")) ≡ Lawful)
    × (judged (changed (counts (1 ∷ [])) (codes "6")) ≡ Broken 3 4)
    × (judged (changed (counts (2 ∷ [])) (codes "5")) ≡ Broken 2 2)

-- AN OWNER DEPARTS, and only one member took its prune

abbrev pub departed : Trace Kind Op
departed =
    trace 4 (key (codes "n") GCounter ∷ [])
    (Asks 3 (Update (codes "n") (Increment 10) Local) ∷ Asks 3 Flush ∷ Round ∷ ScriptStep.Remove 3 ∷ Asks 0 (Install 1) ∷ Asks 1 (Install 1) ∷ Asks 2 (Install 1) ∷ Asks 0 Tick ∷ Asks 1 (Gossip 0) ∷ Asks 2 (Gossip 0)
    ∷ Round ∷ Round ∷ Round ∷ Asks 0 Tick ∷ Asks 0 Flush ∷ Deliver 0 2 None ∷ ScriptStep.Remove 0 ∷ Asks 1 (Install 2) ∷ Asks 2 (Install 2) ∷ Deliver 0 1 None ∷ Asks 1 Tick ∷ Asks 2 (Gossip 1)
    ∷ Round ∷ Round ∷ Round ∷ Asks 1 Tick ∷ Asks 1 (Get (codes "n") Local) ∷ [])

abbrev pub OwnerDeparts : Type 0
OwnerDeparts =
    (told departed ≡ tells 3 (codes "n") (Recorded (Operation (Increment 10))) ∷ tells 0 (codes "n") (Held ((3, 1) ∷ [])) ∷ tells 1 (codes "n") (Held ((3, 1) ∷ [])) ∷ tells 2 (codes "n") (Held ((3, 1) ∷ []))
    ∷ tells 0 (codes "n") (Recorded (Prune 3)) ∷ tells 2 (codes "n") (Held ((0, 1) ∷ (3, 1) ∷ [])) ∷ tells 1 (codes "n") (Held ((0, 1) ∷ (3, 1) ∷ []))
    ∷ tells 1 (codes "n") (Shown (codes "10")) ∷ tells 1 (codes "n") (Shown (codes "10")) ∷ tells 2 (codes "n") (Shown (codes "10")) ∷ [])
    × (judged departed ≡ Lawful)

-- FAILING STORES: an update and a prune are recorded, though no store took them

abbrev pub unstored_update : Trace Kind Op
unstored_update = trace_with (failing_at 0 (1 ∷ [])) 1 (durable_key (codes "d") GCounter ∷ []) (Asks 0 (Update (codes "d") (Increment 5) Local) ∷ [])

-- the keeper of the first member stores what it took, the mark, and fails at the prune
abbrev pub unstored_prune : Trace Kind Op
unstored_prune =
    trace_with (failing_at 0 (3 ∷ [])) 2 (durable_key (codes "d") GCounter ∷ [])
    (Asks 1 (Update (codes "d") (Increment 5) Local) ∷ Asks 1 Flush ∷ Deliver 1 0 None ∷ ScriptStep.Remove 1 ∷ Asks 0 (Install 1) ∷ Asks 0 Tick ∷ Asks 0 Tick ∷ [])

abbrev pub FailingStores : Type 0
FailingStores =
    (told unstored_update ≡ tells 0 (codes "d") (Recorded (Operation (Increment 5))) ∷ tells 0 (codes "d") (Shown (codes "5")) ∷ [])
    × (told unstored_prune ≡ tells 1 (codes "d") (Recorded (Operation (Increment 5))) ∷ tells 0 (codes "d") (Held ((1, 1) ∷ []))
    ∷ tells 0 (codes "d") (Recorded (Prune 1)) ∷ tells 0 (codes "d") (Shown (codes "5")) ∷ [])
    × (judged unstored_update ≡ Lawful)
    × (judged unstored_prune ≡ Lawful)

-- A DELETED KEY: who deletes it shows so, and what is asked of it then makes no record; who hasn't heard of it shows its value

abbrev pub deleted : Trace Kind Op
deleted =
    trace 2 (key (codes "n") GCounter ∷ [])
    (Asks 0 (Update (codes "n") (Increment 5) Local) ∷ Asks 0 (Get (codes "n") Local) ∷ Asks 0 (Update (codes "n") Delete Local) ∷ Asks 0 (Update (codes "n") (Increment 1) Local) ∷ Asks 0 (Get (codes "n") Local)
    ∷ Asks 0 Flush ∷ Deliver 0 1 None ∷ [])

abbrev pub DeletedKey : Type 0
DeletedKey =
    (told deleted ≡ tells 0 (codes "n") (Recorded (Operation (Increment 5))) ∷ tells 0 (codes "n") (Shown (codes "5")) ∷ tells 0 (codes "n") (Recorded (Operation Delete)) ∷ tells 0 (codes "n") (Shown (codes "deleted"))
    ∷ tells 1 (codes "n") (Held ((0, 2) ∷ [])) ∷ tells 0 (codes "n") (Shown (codes "deleted")) ∷ tells 1 (codes "n") (Shown (codes "deleted")) ∷ [])
    × (judged deleted ≡ Lawful)

-- EACH RULE, BY LINES OF A SET

abbrev pub of_set : List (TraceLine Op) → Trace Kind Op
of_set lines = record { keys = key (codes "s") OrSet ∷ []; lines = lines }

abbrev pub adds : Text → Act Op
adds e = Records (Operation (Add e))

abbrev pub removes : Text → Act Op
removes e = Records (Operation (Remove e))

-- an undeclared key; an operation of another kind; a prune of the member itself, of an identity without records, and a second one
abbrev pub FirstRule : Type 0
FirstRule =
    (judged (of_set (line 0 (codes "t") (adds (codes "x")) ∷ [])) ≡ Broken 1 1)
    × (judged (of_set (line 0 (codes "s") (Records (Operation (Increment 1))) ∷ [])) ≡ Broken 1 1)
    × (judged (of_set (line 0 (codes "s") (adds (codes "x")) ∷ line 0 (codes "s") (Records (Prune 0)) ∷ [])) ≡ Broken 2 1)
    × (judged (of_set (line 0 (codes "s") (Records (Prune 1)) ∷ [])) ≡ Broken 1 1)
    × (judged (of_set (line 1 (codes "s") (adds (codes "x")) ∷ line 0 (codes "s") (Holds (counts (0 ∷ 1 ∷ []))) ∷ line 0 (codes "s") (Records (Prune 1)) ∷ line 0 (codes "s") (Records (Prune 1)) ∷ [])) ≡ Broken 4 1)

-- an operation, or a second delete, where the member holds a delete. One that doesn't yet may go on, and a member with a delete may prune
abbrev pub OfDeletedKeys : Type 0
OfDeletedKeys =
    (judged (of_set (line 0 (codes "s") (Records (Operation Delete)) ∷ line 0 (codes "s") (adds (codes "x")) ∷ [])) ≡ Broken 2 1)
    × (judged (of_set (line 0 (codes "s") (Records (Operation Delete)) ∷ line 1 (codes "s") (Holds (counts (1 ∷ []))) ∷ line 1 (codes "s") (Records (Operation Delete)) ∷ [])) ≡ Broken 3 1)
    × (judged (of_set (line 0 (codes "s") (Records (Operation Delete)) ∷ line 1 (codes "s") (adds (codes "x")) ∷ line 0 (codes "s") (Holds (counts (1 ∷ 1 ∷ []))) ∷ line 0 (codes "s") (Records (Prune 1)) ∷ line 0 (codes "s") (Shows (codes "deleted")) ∷ [])) ≡ Lawful)
    × (judged (of_set (line 0 (codes "s") (Records (Operation Delete)) ∷ line 0 (codes "s") (Shows (codes "{}")) ∷ [])) ≡ Broken 2 4)
    × (judged (of_set (line 0 (codes "s") (adds (codes "x")) ∷ line 0 (codes "s") (Shows (codes "deleted")) ∷ [])) ≡ Broken 2 4)

-- a member forgets; it holds a record that nobody made; it holds a record without the one in its past
abbrev pub SecondRule : Type 0
SecondRule =
    (judged (of_set (line 0 (codes "s") (adds (codes "x")) ∷ line 0 (codes "s") (Holds (counts [])) ∷ [])) ≡ Broken 2 2)
    × (judged (of_set (line 0 (codes "s") (Holds (counts (0 ∷ 1 ∷ []))) ∷ [])) ≡ Broken 1 2)
    × (judged (of_set (line 1 (codes "s") (adds (codes "x")) ∷ line 0 (codes "s") (Holds (counts (0 ∷ 1 ∷ []))) ∷ line 0 (codes "s") (removes (codes "x")) ∷ line 2 (codes "s") (Holds (counts (1 ∷ []))) ∷ [])) ≡ Broken 4 2)

-- a record of a pruned identity; two prunes of one identity
abbrev pub pruned_lines : List (TraceLine Op)
pruned_lines = line 1 (codes "s") (adds (codes "x")) ∷ line 0 (codes "s") (Holds (counts (0 ∷ 1 ∷ []))) ∷ line 2 (codes "s") (Holds (counts (0 ∷ 1 ∷ []))) ∷ line 0 (codes "s") (Records (Prune 1)) ∷ []

abbrev pub ThirdRule : Type 0
ThirdRule =
    (judged (of_set (pruned_lines ++ line 1 (codes "s") (adds (codes "y")) ∷ line 0 (codes "s") (Holds (counts (1 ∷ 2 ∷ []))) ∷ [])) ≡ Broken 6 3)
    × (judged (of_set (pruned_lines ++ line 2 (codes "s") (Records (Prune 1)) ∷ line 2 (codes "s") (Holds (counts (1 ∷ 1 ∷ 1 ∷ []))) ∷ [])) ≡ Broken 6 3)

-- nothing is held; another value is shown. An add that the remove hasn't seen wins
abbrev pub apart_lines : List (TraceLine Op)
apart_lines = line 0 (codes "s") (adds (codes "x")) ∷ line 1 (codes "s") (Holds (counts (1 ∷ []))) ∷ line 1 (codes "s") (removes (codes "x")) ∷ line 0 (codes "s") (adds (codes "x")) ∷ line 0 (codes "s") (Holds (counts (2 ∷ 1 ∷ []))) ∷ []

-- a text in which single quotes stand for double ones
abbrev pub with_quotes : Text → Text
with_quotes bytes = map (λ b. if b == 39 then 34 else b) bytes

abbrev pub FourthRule : Type 0
FourthRule =
    (judged (of_set (line 0 (codes "s") (Shows (codes "{}")) ∷ [])) ≡ Broken 1 4)
    × (judged (of_set (apart_lines ++ line 0 (codes "s") (Shows (codes "{}")) ∷ [])) ≡ Broken 6 4)
    × (judged (of_set (apart_lines ++ line 0 (codes "s") (Shows (with_quotes (codes "{'x'}"))) ∷ line 1 (codes "s") (Shows (codes "{}")) ∷ [])) ≡ Lawful)

-- THE LAST IDENTITY is one like all others

abbrev pub by_last : Text → Trace Kind Op
by_last value = record {
  keys = key (codes "f") Flag ∷ [];
  lines = line 254 (codes "f") (Records (Operation Enable)) ∷ line 0 (codes "f") (Holds (with_at none_counted 254 1)) ∷ line 0 (codes "f") (Shows value) ∷ [];
}

abbrev pub LastIdentity : Type 0
LastIdentity = (judged (by_last (codes "true")) ≡ Lawful) × (judged (by_last (codes "false")) ≡ Broken 3 4)

-- LOGS OF ANOTHER SYSTEM THAT ARE REFUSED: an update that its own member lost, by the vector or by the value; an increment that was taken twice, by the value or by the vector

abbrev pub adds_up : ℕ → Act Op
adds_up n = Records (Operation (Increment n))

abbrev pub visits : List (TraceLine Op) → Trace Kind Op
visits lines = record { keys = key (codes "visits") GCounter ∷ []; lines = lines }

abbrev pub lost : VersionVector → Text → Trace Kind Op
lost heard value = visits (line 0 (codes "visits") (adds_up 5) ∷ line 1 (codes "visits") (Holds (counts (1 ∷ []))) ∷ line 2 (codes "visits") (Holds (counts (1 ∷ []))) ∷ line 1 (codes "visits") (adds_up 2) ∷ line 0 (codes "visits") (adds_up 3)
    ∷ line 0 (codes "visits") (Holds heard) ∷ line 0 (codes "visits") (Shows value) ∷ [])

abbrev pub LostUpdate : Type 0
LostUpdate =
    (judged (lost (counts (1 ∷ 1 ∷ [])) (codes "7")) ≡ Broken 6 2)
    × (judged (lost (counts (2 ∷ 1 ∷ [])) (codes "7")) ≡ Broken 7 4)
    × (judged (lost (counts (2 ∷ 1 ∷ [])) (codes "10")) ≡ Lawful)

abbrev pub doubled : VersionVector → Trace Kind Op
doubled heard = visits (line 0 (codes "visits") (adds_up 5) ∷ line 1 (codes "visits") (Holds heard) ∷ line 1 (codes "visits") (Shows (codes "10")) ∷ [])

abbrev pub DoubledIncrement : Type 0
DoubledIncrement = (judged (doubled (counts (1 ∷ []))) ≡ Broken 3 4) × (judged (doubled (counts (2 ∷ []))) ≡ Broken 2 2)

-- A TRACE OF ANOTHER SYSTEM: two replicas of a set. One adds x; the other takes it and removes it; the first, which hasn't seen that, adds x again, and then hears of the remove

abbrev pub set_lines : VersionVector → Text → List (TraceLine Op)
set_lines heard value = line 0 (codes "s") (adds (codes "x")) ∷ line 1 (codes "s") (Holds (counts (1 ∷ []))) ∷ line 1 (codes "s") (removes (codes "x")) ∷ line 0 (codes "s") (adds (codes "x"))
    ∷ line 0 (codes "s") (Holds heard) ∷ line 0 (codes "s") (Shows value) ∷ line 1 (codes "s") (Shows (codes "{}")) ∷ []

abbrev pub with_x : Text
with_x = with_quotes (codes "{'x'}")

abbrev pub AnotherSystem : Type 0
AnotherSystem =
    (judged (of_set (set_lines (counts (2 ∷ 1 ∷ [])) with_x)) ≡ Lawful)
    × (judged (of_set (set_lines (counts (2 ∷ 1 ∷ [])) (codes "{}"))) ≡ Broken 6 4)
    × (judged (of_set (set_lines (counts (1 ∷ 1 ∷ [])) with_x)) ≡ Broken 5 2)
