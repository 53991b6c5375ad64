-- Worked scripts and their reports, which the model computes.
use Rattle.std.specs.Prelude.{◌≡◌, ℕ, ◌==◌, List, [], ◌∷◌, ◌++◌, if◌then◌else◌, None, Some, codes, flat_map, slice_index}
use Rattle.model_history.specs.History.{History}
use Rattle.model_history.specs.History.Action.{Operation, Prune}
use Rattle.model_kinds.specs.SixKinds.{shown}
use Rattle.model_kinds.specs.declared.operation.Op.{Op}
use Rattle.model_kinds.specs.declared.kind.Kind.TheVariants.{GCounter, PnCounter, GSet, OrSet, Flag, LwwRegister}
use Rattle.model_kinds.specs.declared.operation.Op.TheVariants.{Increment, Decrement, Add, Remove, Enable, Assign}
use Rattle.model_kinds.specs.declared.shown.Shown.TheVariants.{Elements}
use Rattle.model_members.specs.Node.Level.{Local, To, Majority}
use Rattle.model_members.specs.Script.{ScriptStep}
use Rattle.model_members.specs.Script.Ask.{Update, Get, Flush, Gossip, Tick, Install}
use Rattle.model_members.specs.Script.ScriptStep.{Asks, Deliver, Lose, Round, Timeout, Join, Restart, Settle}
use Rattle.model_members.specs.Report.{line_of}
use Rattle.model_rows.specs.Words.{key, durable_key, failing_at, report_with, report, final}

-- a history of four records: two adds of x, a prune of identity 2 by identity 0, and a remove of x by identity 1
abbrev pub counts : List ℕ → ℕ → ℕ
counts ns i = slice_index ns i

abbrev pub four_records : (ℕ → ℕ) → History Op
four_records past_of_add i =
    if i == 0 then record { action = Prune 2; past = counts (0 ∷ 1 ∷ 1 ∷ []) } ∷ []
    else (if i == 1 then record { action = Operation (Add (codes "x")); past = past_of_add } ∷ record { action = Operation (Remove (codes "x")); past = counts (0 ∷ 1 ∷ 1 ∷ []) } ∷ []
    else (if i == 2 then record { action = Operation (Add (codes "x")); past = counts [] } ∷ [] else []))

-- the prune adds x again, unless it saw that the dot of identity 2 was replaced
abbrev pub Meanings : Type 0
Meanings = (shown OrSet (four_records (counts [])) ≡ Elements (codes "x" ∷ [])) × (shown OrSet (four_records (counts (0 ∷ 0 ∷ 1 ∷ []))) ≡ Elements [])

abbrev pub EmptyScript : Type 0
EmptyScript =
    report 1 (key (codes "n") GCounter ∷ [])
    ([])
    ≡ flat_map line_of
    (codes "final view 0"
    ∷ codes "member 0 place 0 view 0"
    ∷ codes "n - known - marks -"
    ∷ [])

abbrev pub OneMember : Type 0
OneMember =
    report 1 (key (codes "n") GCounter ∷ [])
    (Asks 0 (Update (codes "n") (Increment 5) Local) ∷ Asks 0 (Update (codes "n") (Increment 9223372036854775807) Local) ∷ Asks 0 (Get (codes "n") Local) ∷ Asks 1 (Update (codes "n") (Increment 1) Local) ∷ Asks 0 (Get (codes "zz") Local) ∷ [])
    ≡ flat_map line_of
    (codes "1 update 0 n done"
    ∷ codes "2 update 0 n overflow 5 9223372036854775807"
    ∷ codes "3 get 0 n value 5"
    ∷ codes "4 update 1 n gone"
    ∷ codes "5 get 0 zz unknown key"
    ∷ codes "final view 0"
    ∷ codes "member 0 place 0 view 0"
    ∷ codes "n 5 known 0:1 marks -"
    ∷ [])

abbrev pub Repeats : Type 0
Repeats =
    report 2 (key (codes "n") GCounter ∷ [])
    (Asks 0 (Update (codes "n") (Increment 5) Local) ∷ Asks 1 (Update (codes "n") (Increment 7) Local) ∷ Asks 0 Flush ∷ Deliver 0 1 None ∷ Deliver 0 1 (Some 0) ∷ Asks 0 (Get (codes "n") Local) ∷ Asks 1 (Get (codes "n") Local) ∷ [])
    ≡ flat_map line_of
    (codes "1 update 0 n done"
    ∷ codes "2 update 1 n done"
    ∷ codes "3 flush 0 done sent 1:deltas/1/0"
    ∷ codes "4 deliver 0>1 0 deltas/1/0 taken"
    ∷ codes "5 deliver 0>1 0 deltas/1/0 already"
    ∷ codes "6 get 0 n value 5"
    ∷ codes "7 get 1 n value 12"
    ∷ codes "final view 0"
    ∷ codes "member 0 place 0 view 0"
    ∷ codes "n 5 known 0:1 marks -"
    ∷ codes "member 1 place 1 view 0"
    ∷ codes "n 12 known 0:1 1:1 marks -"
    ∷ [])

abbrev pub AddWins : Type 0
AddWins =
    report 2 (key (codes "s") OrSet ∷ [])
    (Asks 0 (Update (codes "s") (Add (codes "x")) Local) ∷ Asks 0 Flush ∷ Deliver 0 1 None ∷ Asks 0 (Update (codes "s") (Remove (codes "x")) Local) ∷ Asks 1 (Update (codes "s") (Add (codes "x")) Local) ∷ Asks 0 Flush ∷ Asks 1 Flush ∷ Round ∷ [])
    ≡ flat_map line_of
    (codes "1 update 0 s done"
    ∷ codes "2 flush 0 done sent 1:deltas/1/0"
    ∷ codes "3 deliver 0>1 0 deltas/1/0 taken"
    ∷ codes "4 update 0 s done"
    ∷ codes "5 update 1 s done"
    ∷ codes "6 flush 0 done sent 1:deltas/1/0"
    ∷ codes "7 flush 1 done sent 0:deltas/1/0"
    ∷ codes "8 deliver 0>1 1 deltas/1/0 taken"
    ∷ codes "8 deliver 1>0 0 deltas/1/0 taken"
    ∷ codes "final view 0"
    ∷ codes "member 0 place 0 view 0"
    ∷ (codes "s {" ++ (34 ∷ []) ++ codes "x" ++ (34 ∷ []) ++ codes "} known 0:2 1:1 marks -")
    ∷ codes "member 1 place 1 view 0"
    ∷ (codes "s {" ++ (34 ∷ []) ++ codes "x" ++ (34 ∷ []) ++ codes "} known 0:2 1:1 marks -")
    ∷ [])

abbrev pub DeltaOvertakesItsCause : Type 0
DeltaOvertakesItsCause =
    report 3 (key (codes "s") OrSet ∷ [])
    (Asks 1 (Update (codes "s") (Add (codes "x")) Local) ∷ Asks 1 Flush ∷ Deliver 1 0 None ∷ Asks 0 (Update (codes "s") (Remove (codes "x")) Local) ∷ Asks 0 Flush ∷ Deliver 0 2 None ∷ Deliver 2 0 None ∷ Deliver 0 2 None ∷ Asks 2 (Get (codes "s") Local) ∷ Deliver 1 2 None ∷ [])
    ≡ flat_map line_of
    (codes "1 update 1 s done"
    ∷ codes "2 flush 1 done sent 0:deltas/1/0 2:deltas/1/0"
    ∷ codes "3 deliver 1>0 0 deltas/1/0 taken"
    ∷ codes "4 update 0 s done"
    ∷ codes "5 flush 0 done sent 1:deltas/1/0 2:deltas/1/0"
    ∷ codes "6 deliver 0>2 0 deltas/1/0 gap 1 sent 0:nack/1"
    ∷ codes "7 deliver 2>0 0 nack/1 taken sent 2:gossip/1/0"
    ∷ codes "8 deliver 0>2 1 gossip/1/0 taken"
    ∷ codes "9 get 2 s value {}"
    ∷ codes "10 deliver 1>2 0 deltas/1/0 already"
    ∷ codes "final view 0"
    ∷ codes "member 0 place 0 view 0"
    ∷ codes "s {} known 0:1 1:1 marks -"
    ∷ codes "member 1 place 1 view 0"
    ∷ (codes "s {" ++ (34 ∷ []) ++ codes "x" ++ (34 ∷ []) ++ codes "} known 1:1 marks -")
    ∷ codes "member 2 place 2 view 0"
    ∷ codes "s {} known 0:1 1:1 marks -"
    ∷ [])

abbrev pub PrunedCounter : Type 0
PrunedCounter =
    report 3 (key (codes "n") GCounter ∷ [])
    (Asks 2 (Update (codes "n") (Increment 10) Local) ∷ Asks 2 Flush ∷ Round ∷ ScriptStep.Remove 2 ∷ Asks 0 (Install 1) ∷ Asks 1 (Install 1) ∷ Asks 0 Tick ∷ Asks 0 Tick ∷ Asks 1 (Gossip 0) ∷ Deliver 1 0 None ∷ Deliver 0 1 None ∷ Deliver 1 0 None ∷ Asks 0 Tick ∷ Asks 0 (Get (codes "n") Local) ∷ Asks 1 (Get (codes "n") Local) ∷ [])
    ≡ flat_map line_of
    (codes "1 update 2 n done"
    ∷ codes "2 flush 2 done sent 0:deltas/1/0 1:deltas/1/0"
    ∷ codes "3 deliver 2>0 0 deltas/1/0 taken"
    ∷ codes "3 deliver 2>1 0 deltas/1/0 taken"
    ∷ codes "4 remove 2 view 1"
    ∷ codes "5 install 0 view 1 installed"
    ∷ codes "6 install 1 view 1 installed"
    ∷ codes "7 tick 0 done n/2:marked"
    ∷ codes "8 tick 0 done n/2:waiting-1"
    ∷ codes "9 gossip 1 0 done sent 0:status/1"
    ∷ codes "10 deliver 1>0 0 status/1 taken sent 1:gossip/1/1"
    ∷ codes "11 deliver 0>1 0 gossip/1/1 taken sent 0:gossip/1/0"
    ∷ codes "12 deliver 1>0 1 gossip/1/0 taken"
    ∷ codes "13 tick 0 done n/2:performed"
    ∷ codes "14 get 0 n value 10"
    ∷ codes "15 get 1 n value 10"
    ∷ codes "final view 1"
    ∷ codes "member 0 place 0 view 1"
    ∷ codes "n 10 known 0:1 2:1 marks 2>0@1"
    ∷ codes "member 1 place 1 view 1"
    ∷ codes "n 10 known 2:1 marks 2>0/1:0.1"
    ∷ [])

abbrev pub BlockedPrune : Type 0
BlockedPrune =
    report 2 (key (codes "n") GCounter ∷ [])
    (Asks 1 (Update (codes "n") (Increment 9223372036854775807) Local) ∷ Asks 0 (Update (codes "n") (Increment 1) Local) ∷ Asks 1 Flush ∷ Round ∷ ScriptStep.Remove 1 ∷ Asks 0 (Install 1) ∷ Asks 0 Tick ∷ Asks 0 Tick ∷ Asks 0 (Get (codes "n") Local) ∷ [])
    ≡ flat_map line_of
    (codes "1 update 1 n done"
    ∷ codes "2 update 0 n done"
    ∷ codes "3 flush 1 done sent 0:deltas/1/0"
    ∷ codes "4 deliver 1>0 0 deltas/1/0 taken"
    ∷ codes "5 remove 1 view 1"
    ∷ codes "6 install 0 view 1 installed"
    ∷ codes "7 tick 0 done n/1:marked"
    ∷ codes "8 tick 0 done n/1:blocked-1-9223372036854775807"
    ∷ codes "9 get 0 n value 9223372036854775808"
    ∷ codes "final view 1"
    ∷ codes "member 0 place 0 view 1"
    ∷ codes "n 9223372036854775808 known 0:1 1:1 marks 1>0/1:0"
    ∷ [])

abbrev pub ReplacedDot : Type 0
ReplacedDot =
    report 3 (key (codes "s") OrSet ∷ [])
    (Asks 2 (Update (codes "s") (Add (codes "x")) Local) ∷ Asks 2 Flush ∷ Round ∷ Asks 1 (Update (codes "s") (Add (codes "x")) Local) ∷ Asks 1 Flush ∷ Deliver 1 0 None ∷ ScriptStep.Remove 2 ∷ Asks 0 (Install 1) ∷ Asks 1 (Install 1) ∷ Asks 0 Tick ∷ Asks 1 (Gossip 0) ∷ Round ∷ Round ∷ Asks 1 (Update (codes "s") (Remove (codes "x")) Local) ∷ Round ∷ Asks 0 Tick ∷ Asks 0 Flush ∷ Asks 1 Flush ∷ Round ∷ [])
    ≡ flat_map line_of
    (codes "1 update 2 s done"
    ∷ codes "2 flush 2 done sent 0:deltas/1/0 1:deltas/1/0"
    ∷ codes "3 deliver 2>0 0 deltas/1/0 taken"
    ∷ codes "3 deliver 2>1 0 deltas/1/0 taken"
    ∷ codes "4 update 1 s done"
    ∷ codes "5 flush 1 done sent 0:deltas/1/0 2:deltas/1/0"
    ∷ codes "6 deliver 1>0 0 deltas/1/0 taken"
    ∷ codes "7 remove 2 view 1"
    ∷ codes "8 install 0 view 1 installed"
    ∷ codes "9 install 1 view 1 installed"
    ∷ codes "10 tick 0 done s/2:marked"
    ∷ codes "11 gossip 1 0 done sent 0:status/1"
    ∷ codes "12 deliver 1>0 1 status/1 taken sent 1:gossip/1/1"
    ∷ codes "13 deliver 0>1 0 gossip/1/1 taken sent 0:gossip/1/0"
    ∷ codes "14 update 1 s done"
    ∷ codes "15 deliver 1>0 2 gossip/1/0 taken"
    ∷ codes "16 tick 0 done s/2:performed"
    ∷ codes "17 flush 0 done sent 1:deltas/0/1"
    ∷ codes "18 flush 1 done sent 0:deltas/1/0"
    ∷ codes "19 deliver 0>1 1 deltas/0/1 taken"
    ∷ codes "19 deliver 1>0 3 deltas/1/0 taken"
    ∷ codes "final view 1"
    ∷ codes "member 0 place 0 view 1"
    ∷ codes "s {} known 0:1 1:2 2:1 marks 2>0@1"
    ∷ codes "member 1 place 1 view 1"
    ∷ codes "s {} known 0:1 1:2 2:1 marks 2>0@1"
    ∷ [])

abbrev pub OwnerDeparts : Type 0
OwnerDeparts =
    report 4 (key (codes "n") GCounter ∷ [])
    (Asks 3 (Update (codes "n") (Increment 10) Local) ∷ Asks 3 Flush ∷ Round ∷ ScriptStep.Remove 3 ∷ Asks 0 (Install 1) ∷ Asks 1 (Install 1) ∷ Asks 2 (Install 1) ∷ Asks 0 Tick ∷ Asks 1 (Gossip 0) ∷ Asks 2 (Gossip 0) ∷ Round ∷ Round ∷ Round ∷ Asks 0 Tick ∷ Asks 0 Flush ∷ Deliver 0 2 None ∷ ScriptStep.Remove 0 ∷ Asks 1 (Install 2) ∷ Asks 2 (Install 2) ∷ Deliver 0 1 None ∷ Asks 1 Tick ∷ Asks 2 (Gossip 1) ∷ Round ∷ Round ∷ Round ∷ Asks 1 Tick ∷ Asks 1 (Get (codes "n") Local) ∷ [])
    ≡ flat_map line_of
    (codes "1 update 3 n done"
    ∷ codes "2 flush 3 done sent 0:deltas/1/0 1:deltas/1/0 2:deltas/1/0"
    ∷ codes "3 deliver 3>0 0 deltas/1/0 taken"
    ∷ codes "3 deliver 3>1 0 deltas/1/0 taken"
    ∷ codes "3 deliver 3>2 0 deltas/1/0 taken"
    ∷ codes "4 remove 3 view 1"
    ∷ codes "5 install 0 view 1 installed"
    ∷ codes "6 install 1 view 1 installed"
    ∷ codes "7 install 2 view 1 installed"
    ∷ codes "8 tick 0 done n/3:marked"
    ∷ codes "9 gossip 1 0 done sent 0:status/1"
    ∷ codes "10 gossip 2 0 done sent 0:status/1"
    ∷ codes "11 deliver 1>0 0 status/1 taken sent 1:gossip/1/1"
    ∷ codes "11 deliver 2>0 0 status/1 taken sent 2:gossip/1/1"
    ∷ codes "12 deliver 0>1 0 gossip/1/1 taken sent 0:gossip/1/0"
    ∷ codes "12 deliver 0>2 0 gossip/1/1 taken sent 0:gossip/1/0"
    ∷ codes "13 deliver 1>0 1 gossip/1/0 taken"
    ∷ codes "13 deliver 2>0 1 gossip/1/0 taken"
    ∷ codes "14 tick 0 done n/3:performed"
    ∷ codes "15 flush 0 done sent 1:deltas/0/1 2:deltas/0/1"
    ∷ codes "16 deliver 0>2 1 deltas/0/1 taken"
    ∷ codes "17 remove 0 view 2"
    ∷ codes "18 install 1 view 2 installed"
    ∷ codes "19 install 2 view 2 installed"
    ∷ codes "20 deliver 0>1 1 deltas/0/1 not from member"
    ∷ codes "21 tick 1 done n/3:marked"
    ∷ codes "22 gossip 2 1 done sent 1:status/1"
    ∷ codes "23 deliver 2>1 0 status/1 taken sent 2:gossip/1/1"
    ∷ codes "24 deliver 1>2 0 gossip/1/1 already sent 1:gossip/1/0"
    ∷ codes "25 deliver 2>1 1 gossip/1/0 taken"
    ∷ codes "26 tick 1 done n/0:marked"
    ∷ codes "27 get 1 n value 10"
    ∷ codes "final view 2"
    ∷ codes "member 1 place 1 view 2"
    ∷ codes "n 10 known 0:1 3:1 marks 0>1/2:1 3>0@1"
    ∷ codes "member 2 place 2 view 2"
    ∷ codes "n 10 known 0:1 3:1 marks 3>0@1"
    ∷ [])

abbrev pub LateMessages : Type 0
LateMessages =
    report 3 (key (codes "n") GCounter ∷ [])
    (Asks 2 (Update (codes "n") (Increment 4) Local) ∷ Asks 2 Flush ∷ ScriptStep.Remove 2 ∷ Asks 0 (Install 1) ∷ Deliver 2 0 None ∷ Deliver 2 1 None ∷ Asks 0 (Get (codes "n") Local) ∷ Asks 1 (Get (codes "n") Local) ∷ [])
    ≡ flat_map line_of
    (codes "1 update 2 n done"
    ∷ codes "2 flush 2 done sent 0:deltas/1/0 1:deltas/1/0"
    ∷ codes "3 remove 2 view 1"
    ∷ codes "4 install 0 view 1 installed"
    ∷ codes "5 deliver 2>0 0 deltas/1/0 not from member"
    ∷ codes "6 deliver 2>1 0 deltas/1/0 taken"
    ∷ codes "7 get 0 n not found"
    ∷ codes "8 get 1 n value 4"
    ∷ codes "final view 1"
    ∷ codes "member 0 place 0 view 1"
    ∷ codes "n - known - marks -"
    ∷ codes "member 1 place 1 view 0"
    ∷ codes "n 4 known 2:1 marks -"
    ∷ [])

abbrev pub RestartedMember : Type 0
RestartedMember =
    report 2 (durable_key (codes "d") GCounter ∷ key (codes "p") GCounter ∷ [])
    (Asks 1 (Update (codes "d") (Increment 3) Local) ∷ Asks 1 (Update (codes "p") (Increment 4) Local) ∷ Restart 1 ∷ Asks 2 (Get (codes "d") Local) ∷ Asks 2 (Get (codes "p") Local) ∷ Asks 1 (Get (codes "d") Local) ∷ Settle ∷ [])
    ≡ flat_map line_of
    (codes "1 update 1 d done"
    ∷ codes "2 update 1 p done"
    ∷ codes "3 restart 1 id 2 view 1"
    ∷ codes "4 get 2 d value 3"
    ∷ codes "5 get 2 p not found"
    ∷ codes "6 get 1 d gone"
    ∷ codes "7 settle done messages 10 blocked 0"
    ∷ codes "final view 1"
    ∷ codes "member 0 place 0 view 1"
    ∷ codes "d 3 known 0:1 1:1 marks 1>0@1"
    ∷ codes "p - known - marks -"
    ∷ codes "member 2 place 1 view 1"
    ∷ codes "d 3 known 0:1 1:1 marks 1>0@1"
    ∷ codes "p - known - marks -"
    ∷ [])

abbrev pub MajorityWriteAndRead : Type 0
MajorityWriteAndRead =
    report 5 (key (codes "n") GCounter ∷ [])
    (Asks 0 (Update (codes "n") (Increment 6) (Majority 0)) ∷ Deliver 0 1 None ∷ Deliver 1 0 None ∷ Deliver 1 0 (Some 0) ∷ Deliver 0 2 None ∷ Deliver 2 0 None ∷ Asks 4 (Get (codes "n") (Majority 0)) ∷ Deliver 4 1 None ∷ Deliver 4 3 None ∷ Deliver 1 4 None ∷ Asks 3 (Get (codes "n") Local) ∷ Deliver 3 4 None ∷ [])
    ≡ flat_map line_of
    (codes "1 update 0 n pending 0 sent 1:write 2:write 3:write 4:write"
    ∷ codes "2 deliver 0>1 0 write taken sent 0:write-ack"
    ∷ codes "3 deliver 1>0 0 write-ack taken"
    ∷ codes "4 deliver 1>0 0 write-ack taken"
    ∷ codes "5 deliver 0>2 0 write taken sent 0:write-ack"
    ∷ codes "6 deliver 2>0 0 write-ack taken finished 0 done"
    ∷ codes "7 get 4 n pending 0 sent 0:read 1:read 2:read 3:read"
    ∷ codes "8 deliver 4>1 0 read taken sent 4:read-answer"
    ∷ codes "9 deliver 4>3 0 read taken sent 4:read-answer"
    ∷ codes "10 deliver 1>4 0 read-answer taken"
    ∷ codes "11 get 3 n not found"
    ∷ codes "12 deliver 3>4 0 read-answer already finished 0 value 6"
    ∷ codes "final view 0"
    ∷ codes "member 0 place 0 view 0"
    ∷ codes "n 6 known 0:1 marks -"
    ∷ codes "member 1 place 1 view 0"
    ∷ codes "n 6 known 0:1 marks -"
    ∷ codes "member 2 place 2 view 0"
    ∷ codes "n 6 known 0:1 marks -"
    ∷ codes "member 3 place 3 view 0"
    ∷ codes "n - known - marks -"
    ∷ codes "member 4 place 4 view 0"
    ∷ codes "n 6 known 0:1 marks -"
    ∷ [])

abbrev pub TimedOutWrite : Type 0
TimedOutWrite =
    report 3 (key (codes "n") GCounter ∷ [])
    (Asks 0 (Update (codes "n") (Increment 2) (Majority 0)) ∷ Lose 0 1 ∷ Lose 0 2 ∷ Timeout 0 0 ∷ Asks 0 (Get (codes "n") Local) ∷ Timeout 0 0 ∷ Settle ∷ [])
    ≡ flat_map line_of
    (codes "1 update 0 n pending 0 sent 1:write 2:write"
    ∷ codes "2 lose 0>1 0 lost"
    ∷ codes "3 lose 0>2 0 lost"
    ∷ codes "4 timeout 0 0 timed out"
    ∷ codes "5 get 0 n value 2"
    ∷ codes "6 timeout 0 0 no such op"
    ∷ codes "7 settle done messages 10 blocked 0"
    ∷ codes "final view 0"
    ∷ codes "member 0 place 0 view 0"
    ∷ codes "n 2 known 0:1 marks -"
    ∷ codes "member 1 place 1 view 0"
    ∷ codes "n 2 known 0:1 marks -"
    ∷ codes "member 2 place 2 view 0"
    ∷ codes "n 2 known 0:1 marks -"
    ∷ [])

abbrev pub RegisterWrites : Type 0
RegisterWrites =
    report 2 (key (codes "r") LwwRegister ∷ [])
    (Asks 0 (Update (codes "r") (Assign (codes "a") 100) Local) ∷ Asks 1 (Update (codes "r") (Assign (codes "b") 100) Local) ∷ Settle ∷ Asks 1 (Get (codes "r") Local) ∷ Asks 1 (Update (codes "r") (Assign (codes "c") 50) Local) ∷ Asks 1 Flush ∷ Round ∷ Asks 0 (Get (codes "r") Local) ∷ Asks 0 (Update (codes "r") (Assign (codes "d") 9223372036854775807) Local) ∷ Asks 0 (Update (codes "r") (Assign (codes "e") 5) Local) ∷ [])
    ≡ flat_map line_of
    (codes "1 update 0 r done"
    ∷ codes "2 update 1 r done"
    ∷ codes "3 settle done messages 6 blocked 0"
    ∷ (codes "4 get 1 r value " ++ (34 ∷ []) ++ codes "a" ++ (34 ∷ []) ++ codes "")
    ∷ codes "5 update 1 r done"
    ∷ codes "6 flush 1 done sent 0:deltas/1/0"
    ∷ codes "7 deliver 1>0 5 deltas/1/0 taken"
    ∷ (codes "8 get 0 r value " ++ (34 ∷ []) ++ codes "c" ++ (34 ∷ []) ++ codes "")
    ∷ codes "9 update 0 r done"
    ∷ codes "10 update 0 r clock spent"
    ∷ codes "final view 0"
    ∷ codes "member 0 place 0 view 0"
    ∷ (codes "r " ++ (34 ∷ []) ++ codes "d" ++ (34 ∷ []) ++ codes " known 0:2 1:2 marks -")
    ∷ codes "member 1 place 1 view 0"
    ∷ (codes "r " ++ (34 ∷ []) ++ codes "c" ++ (34 ∷ []) ++ codes " known 0:1 1:2 marks -")
    ∷ [])

abbrev pub Refusals : Type 0
Refusals =
    report 2 (durable_key (codes "d") GCounter ∷ key (codes "n") GCounter ∷ [])
    (Asks 7 (Update (codes "n") (Increment 1) Local) ∷ Asks 0 (Update (codes "zz") (Increment 1) Local) ∷ Asks 0 (Update (codes "n") (Add (codes "x")) Local) ∷ Asks 0 (Get (codes "n") (To 3)) ∷ Asks 1 Tick ∷ Deliver 0 1 None ∷ Asks 0 (Gossip 0) ∷ Asks 0 (Install 0) ∷ Asks 0 (Install 3) ∷ Join 1 ∷ ScriptStep.Remove 1 ∷ ScriptStep.Remove 0 ∷ Join 1 ∷ Timeout 0 0 ∷ Asks 0 (Get (codes "n") Local) ∷ [])
    ≡ flat_map line_of
    (codes "1 update 7 n gone"
    ∷ codes "2 update 0 zz unknown key"
    ∷ codes "3 update 0 n wrong kind"
    ∷ codes "4 get 0 n too few"
    ∷ codes "5 tick 1 not leader 0"
    ∷ codes "6 deliver 0>1 0 no such message"
    ∷ codes "7 gossip 0 0 not a peer"
    ∷ codes "8 install 0 view 0 old view"
    ∷ codes "9 install 0 view 3 no such view"
    ∷ codes "10 join 1 place taken"
    ∷ codes "11 remove 1 view 1"
    ∷ codes "12 remove 0 last member"
    ∷ codes "13 join 1 id 2 view 2"
    ∷ codes "14 timeout 0 0 no such op"
    ∷ codes "15 get 0 n not found"
    ∷ codes "final view 2"
    ∷ codes "member 0 place 0 view 0"
    ∷ codes "d - known - marks -"
    ∷ codes "n - known - marks -"
    ∷ codes "member 2 place 1 view 2"
    ∷ codes "d - known - marks -"
    ∷ codes "n - known - marks -"
    ∷ [])

abbrev pub OtherKinds : Type 0
OtherKinds =
    report 1 (key (codes "c") PnCounter ∷ key (codes "f") Flag ∷ key (codes "g") GSet ∷ [])
    (Asks 0 (Update (codes "c") (Increment 3) Local) ∷ Asks 0 (Update (codes "c") (Decrement 5) Local) ∷ Asks 0 (Get (codes "c") Local) ∷ Asks 0 (Update (codes "f") Enable Local) ∷ Asks 0 (Get (codes "f") Local) ∷ Asks 0 (Update (codes "g") (Add (codes "b")) Local) ∷ Asks 0 (Update (codes "g") (Add (codes "a")) Local) ∷ Asks 0 (Get (codes "g") Local) ∷ Asks 0 (Update (codes "c") (Decrement 9223372036854775807) Local) ∷ [])
    ≡ flat_map line_of
    (codes "1 update 0 c done"
    ∷ codes "2 update 0 c done"
    ∷ codes "3 get 0 c value -2"
    ∷ codes "4 update 0 f done"
    ∷ codes "5 get 0 f value true"
    ∷ codes "6 update 0 g done"
    ∷ codes "7 update 0 g done"
    ∷ (codes "8 get 0 g value {" ++ (34 ∷ []) ++ codes "a" ++ (34 ∷ []) ++ codes "," ++ (34 ∷ []) ++ codes "b" ++ (34 ∷ []) ++ codes "}")
    ∷ codes "9 update 0 c overflow 5 9223372036854775807"
    ∷ codes "final view 0"
    ∷ codes "member 0 place 0 view 0"
    ∷ codes "c -2 known 0:2 marks -"
    ∷ codes "f true known 0:1 marks -"
    ∷ (codes "g {" ++ (34 ∷ []) ++ codes "a" ++ (34 ∷ []) ++ codes "," ++ (34 ∷ []) ++ codes "b" ++ (34 ∷ []) ++ codes "} known 0:2 marks -")
    ∷ [])

abbrev pub FiftyDeltas : Type 0
FiftyDeltas =
    report 2 (key (codes "n") GCounter ∷ [])
    (Asks 0 (Update (codes "n") (Increment 1) Local) ∷ Asks 0 (Update (codes "n") (Increment 1) Local) ∷ Asks 0 (Update (codes "n") (Increment 1) Local) ∷ Asks 0 (Update (codes "n") (Increment 1) Local) ∷ Asks 0 (Update (codes "n") (Increment 1) Local) ∷ Asks 0 (Update (codes "n") (Increment 1) Local) ∷ Asks 0 (Update (codes "n") (Increment 1) Local) ∷ Asks 0 (Update (codes "n") (Increment 1) Local) ∷ Asks 0 (Update (codes "n") (Increment 1) Local) ∷ Asks 0 (Update (codes "n") (Increment 1) Local) ∷ Asks 0 (Update (codes "n") (Increment 1) Local) ∷ Asks 0 (Update (codes "n") (Increment 1) Local) ∷ Asks 0 (Update (codes "n") (Increment 1) Local) ∷ Asks 0 (Update (codes "n") (Increment 1) Local) ∷ Asks 0 (Update (codes "n") (Increment 1) Local) ∷ Asks 0 (Update (codes "n") (Increment 1) Local) ∷ Asks 0 (Update (codes "n") (Increment 1) Local) ∷ Asks 0 (Update (codes "n") (Increment 1) Local) ∷ Asks 0 (Update (codes "n") (Increment 1) Local) ∷ Asks 0 (Update (codes "n") (Increment 1) Local) ∷ Asks 0 (Update (codes "n") (Increment 1) Local) ∷ Asks 0 (Update (codes "n") (Increment 1) Local) ∷ Asks 0 (Update (codes "n") (Increment 1) Local) ∷ Asks 0 (Update (codes "n") (Increment 1) Local) ∷ Asks 0 (Update (codes "n") (Increment 1) Local) ∷ Asks 0 (Update (codes "n") (Increment 1) Local) ∷ Asks 0 (Update (codes "n") (Increment 1) Local) ∷ Asks 0 (Update (codes "n") (Increment 1) Local) ∷ Asks 0 (Update (codes "n") (Increment 1) Local) ∷ Asks 0 (Update (codes "n") (Increment 1) Local) ∷ Asks 0 (Update (codes "n") (Increment 1) Local) ∷ Asks 0 (Update (codes "n") (Increment 1) Local) ∷ Asks 0 (Update (codes "n") (Increment 1) Local) ∷ Asks 0 (Update (codes "n") (Increment 1) Local) ∷ Asks 0 (Update (codes "n") (Increment 1) Local) ∷ Asks 0 (Update (codes "n") (Increment 1) Local) ∷ Asks 0 (Update (codes "n") (Increment 1) Local) ∷ Asks 0 (Update (codes "n") (Increment 1) Local) ∷ Asks 0 (Update (codes "n") (Increment 1) Local) ∷ Asks 0 (Update (codes "n") (Increment 1) Local) ∷ Asks 0 (Update (codes "n") (Increment 1) Local) ∷ Asks 0 (Update (codes "n") (Increment 1) Local) ∷ Asks 0 (Update (codes "n") (Increment 1) Local) ∷ Asks 0 (Update (codes "n") (Increment 1) Local) ∷ Asks 0 (Update (codes "n") (Increment 1) Local) ∷ Asks 0 (Update (codes "n") (Increment 1) Local) ∷ Asks 0 (Update (codes "n") (Increment 1) Local) ∷ Asks 0 (Update (codes "n") (Increment 1) Local) ∷ Asks 0 (Update (codes "n") (Increment 1) Local) ∷ Asks 0 (Update (codes "n") (Increment 1) Local) ∷ Asks 0 Flush ∷ [])
    ≡ flat_map line_of
    (codes "1 update 0 n done"
    ∷ codes "2 update 0 n done"
    ∷ codes "3 update 0 n done"
    ∷ codes "4 update 0 n done"
    ∷ codes "5 update 0 n done"
    ∷ codes "6 update 0 n done"
    ∷ codes "7 update 0 n done"
    ∷ codes "8 update 0 n done"
    ∷ codes "9 update 0 n done"
    ∷ codes "10 update 0 n done"
    ∷ codes "11 update 0 n done"
    ∷ codes "12 update 0 n done"
    ∷ codes "13 update 0 n done"
    ∷ codes "14 update 0 n done"
    ∷ codes "15 update 0 n done"
    ∷ codes "16 update 0 n done"
    ∷ codes "17 update 0 n done"
    ∷ codes "18 update 0 n done"
    ∷ codes "19 update 0 n done"
    ∷ codes "20 update 0 n done"
    ∷ codes "21 update 0 n done"
    ∷ codes "22 update 0 n done"
    ∷ codes "23 update 0 n done"
    ∷ codes "24 update 0 n done"
    ∷ codes "25 update 0 n done"
    ∷ codes "26 update 0 n done"
    ∷ codes "27 update 0 n done"
    ∷ codes "28 update 0 n done"
    ∷ codes "29 update 0 n done"
    ∷ codes "30 update 0 n done"
    ∷ codes "31 update 0 n done"
    ∷ codes "32 update 0 n done"
    ∷ codes "33 update 0 n done"
    ∷ codes "34 update 0 n done"
    ∷ codes "35 update 0 n done"
    ∷ codes "36 update 0 n done"
    ∷ codes "37 update 0 n done"
    ∷ codes "38 update 0 n done"
    ∷ codes "39 update 0 n done"
    ∷ codes "40 update 0 n done"
    ∷ codes "41 update 0 n done"
    ∷ codes "42 update 0 n done"
    ∷ codes "43 update 0 n done"
    ∷ codes "44 update 0 n done"
    ∷ codes "45 update 0 n done"
    ∷ codes "46 update 0 n done"
    ∷ codes "47 update 0 n done"
    ∷ codes "48 update 0 n done"
    ∷ codes "49 update 0 n done"
    ∷ codes "50 update 0 n done"
    ∷ codes "51 flush 0 done sent 1:deltas/1/0"
    ∷ codes "final view 0"
    ∷ codes "member 0 place 0 view 0"
    ∷ codes "n 50 known 0:50 marks -"
    ∷ codes "member 1 place 1 view 0"
    ∷ codes "n - known - marks -"
    ∷ [])

abbrev pub FiftyOneDeltas : Type 0
FiftyOneDeltas =
    report 2 (key (codes "n") GCounter ∷ [])
    (Asks 0 (Update (codes "n") (Increment 1) Local) ∷ Asks 0 (Update (codes "n") (Increment 1) Local) ∷ Asks 0 (Update (codes "n") (Increment 1) Local) ∷ Asks 0 (Update (codes "n") (Increment 1) Local) ∷ Asks 0 (Update (codes "n") (Increment 1) Local) ∷ Asks 0 (Update (codes "n") (Increment 1) Local) ∷ Asks 0 (Update (codes "n") (Increment 1) Local) ∷ Asks 0 (Update (codes "n") (Increment 1) Local) ∷ Asks 0 (Update (codes "n") (Increment 1) Local) ∷ Asks 0 (Update (codes "n") (Increment 1) Local) ∷ Asks 0 (Update (codes "n") (Increment 1) Local) ∷ Asks 0 (Update (codes "n") (Increment 1) Local) ∷ Asks 0 (Update (codes "n") (Increment 1) Local) ∷ Asks 0 (Update (codes "n") (Increment 1) Local) ∷ Asks 0 (Update (codes "n") (Increment 1) Local) ∷ Asks 0 (Update (codes "n") (Increment 1) Local) ∷ Asks 0 (Update (codes "n") (Increment 1) Local) ∷ Asks 0 (Update (codes "n") (Increment 1) Local) ∷ Asks 0 (Update (codes "n") (Increment 1) Local) ∷ Asks 0 (Update (codes "n") (Increment 1) Local) ∷ Asks 0 (Update (codes "n") (Increment 1) Local) ∷ Asks 0 (Update (codes "n") (Increment 1) Local) ∷ Asks 0 (Update (codes "n") (Increment 1) Local) ∷ Asks 0 (Update (codes "n") (Increment 1) Local) ∷ Asks 0 (Update (codes "n") (Increment 1) Local) ∷ Asks 0 (Update (codes "n") (Increment 1) Local) ∷ Asks 0 (Update (codes "n") (Increment 1) Local) ∷ Asks 0 (Update (codes "n") (Increment 1) Local) ∷ Asks 0 (Update (codes "n") (Increment 1) Local) ∷ Asks 0 (Update (codes "n") (Increment 1) Local) ∷ Asks 0 (Update (codes "n") (Increment 1) Local) ∷ Asks 0 (Update (codes "n") (Increment 1) Local) ∷ Asks 0 (Update (codes "n") (Increment 1) Local) ∷ Asks 0 (Update (codes "n") (Increment 1) Local) ∷ Asks 0 (Update (codes "n") (Increment 1) Local) ∷ Asks 0 (Update (codes "n") (Increment 1) Local) ∷ Asks 0 (Update (codes "n") (Increment 1) Local) ∷ Asks 0 (Update (codes "n") (Increment 1) Local) ∷ Asks 0 (Update (codes "n") (Increment 1) Local) ∷ Asks 0 (Update (codes "n") (Increment 1) Local) ∷ Asks 0 (Update (codes "n") (Increment 1) Local) ∷ Asks 0 (Update (codes "n") (Increment 1) Local) ∷ Asks 0 (Update (codes "n") (Increment 1) Local) ∷ Asks 0 (Update (codes "n") (Increment 1) Local) ∷ Asks 0 (Update (codes "n") (Increment 1) Local) ∷ Asks 0 (Update (codes "n") (Increment 1) Local) ∷ Asks 0 (Update (codes "n") (Increment 1) Local) ∷ Asks 0 (Update (codes "n") (Increment 1) Local) ∷ Asks 0 (Update (codes "n") (Increment 1) Local) ∷ Asks 0 (Update (codes "n") (Increment 1) Local) ∷ Asks 0 (Update (codes "n") (Increment 1) Local) ∷ Asks 0 Flush ∷ [])
    ≡ flat_map line_of
    (codes "1 update 0 n done"
    ∷ codes "2 update 0 n done"
    ∷ codes "3 update 0 n done"
    ∷ codes "4 update 0 n done"
    ∷ codes "5 update 0 n done"
    ∷ codes "6 update 0 n done"
    ∷ codes "7 update 0 n done"
    ∷ codes "8 update 0 n done"
    ∷ codes "9 update 0 n done"
    ∷ codes "10 update 0 n done"
    ∷ codes "11 update 0 n done"
    ∷ codes "12 update 0 n done"
    ∷ codes "13 update 0 n done"
    ∷ codes "14 update 0 n done"
    ∷ codes "15 update 0 n done"
    ∷ codes "16 update 0 n done"
    ∷ codes "17 update 0 n done"
    ∷ codes "18 update 0 n done"
    ∷ codes "19 update 0 n done"
    ∷ codes "20 update 0 n done"
    ∷ codes "21 update 0 n done"
    ∷ codes "22 update 0 n done"
    ∷ codes "23 update 0 n done"
    ∷ codes "24 update 0 n done"
    ∷ codes "25 update 0 n done"
    ∷ codes "26 update 0 n done"
    ∷ codes "27 update 0 n done"
    ∷ codes "28 update 0 n done"
    ∷ codes "29 update 0 n done"
    ∷ codes "30 update 0 n done"
    ∷ codes "31 update 0 n done"
    ∷ codes "32 update 0 n done"
    ∷ codes "33 update 0 n done"
    ∷ codes "34 update 0 n done"
    ∷ codes "35 update 0 n done"
    ∷ codes "36 update 0 n done"
    ∷ codes "37 update 0 n done"
    ∷ codes "38 update 0 n done"
    ∷ codes "39 update 0 n done"
    ∷ codes "40 update 0 n done"
    ∷ codes "41 update 0 n done"
    ∷ codes "42 update 0 n done"
    ∷ codes "43 update 0 n done"
    ∷ codes "44 update 0 n done"
    ∷ codes "45 update 0 n done"
    ∷ codes "46 update 0 n done"
    ∷ codes "47 update 0 n done"
    ∷ codes "48 update 0 n done"
    ∷ codes "49 update 0 n done"
    ∷ codes "50 update 0 n done"
    ∷ codes "51 update 0 n done"
    ∷ codes "52 flush 0 done sent 1:deltas/0/1"
    ∷ codes "final view 0"
    ∷ codes "member 0 place 0 view 0"
    ∷ codes "n 51 known 0:51 marks -"
    ∷ codes "member 1 place 1 view 0"
    ∷ codes "n - known - marks -"
    ∷ [])

abbrev pub Carts : Type 0
Carts =
    report 5 (durable_key (codes "cart-ann") OrSet ∷ durable_key (codes "cart-bob") OrSet ∷ durable_key (codes "cart-eve") OrSet ∷ key (codes "hits") GCounter ∷ [])
    (Asks 0 (Update (codes "cart-ann") (Add (codes "milk")) Local) ∷ Asks 1 (Update (codes "cart-ann") (Add (codes "bread")) Local) ∷ Asks 2 (Update (codes "cart-bob") (Add (codes "tea")) Local) ∷ Asks 3 (Update (codes "cart-eve") (Add (codes "rice")) Local) ∷ Asks 0 Flush ∷ Lose 0 3 ∷ Lose 0 4 ∷ Asks 3 Flush ∷ Round ∷ Asks 1 (Update (codes "cart-ann") (Remove (codes "milk")) Local) ∷ Restart 4 ∷ ScriptStep.Remove 3 ∷ Settle ∷ [])
    ≡ flat_map line_of
    (codes "1 update 0 cart-ann done"
    ∷ codes "2 update 1 cart-ann done"
    ∷ codes "3 update 2 cart-bob done"
    ∷ codes "4 update 3 cart-eve done"
    ∷ codes "5 flush 0 done sent 1:deltas/1/0 2:deltas/1/0 3:deltas/1/0 4:deltas/1/0"
    ∷ codes "6 lose 0>3 0 lost"
    ∷ codes "7 lose 0>4 0 lost"
    ∷ codes "8 flush 3 done sent 0:deltas/1/0 1:deltas/1/0 2:deltas/1/0 4:deltas/1/0"
    ∷ codes "9 deliver 0>1 0 deltas/1/0 taken"
    ∷ codes "9 deliver 0>2 0 deltas/1/0 taken"
    ∷ codes "9 deliver 3>0 0 deltas/1/0 taken"
    ∷ codes "9 deliver 3>1 0 deltas/1/0 taken"
    ∷ codes "9 deliver 3>2 0 deltas/1/0 taken"
    ∷ codes "9 deliver 3>4 0 deltas/1/0 taken"
    ∷ codes "10 update 1 cart-ann done"
    ∷ codes "11 restart 4 id 5 view 1"
    ∷ codes "12 remove 3 view 2"
    ∷ codes "13 settle done messages 30 blocked 0"
    ∷ codes "final view 2"
    ∷ codes "member 0 place 0 view 2"
    ∷ (codes "cart-ann {" ++ (34 ∷ []) ++ codes "bread" ++ (34 ∷ []) ++ codes "} known 0:1 1:2 marks -")
    ∷ (codes "cart-bob {" ++ (34 ∷ []) ++ codes "tea" ++ (34 ∷ []) ++ codes "} known 2:1 marks -")
    ∷ (codes "cart-eve {" ++ (34 ∷ []) ++ codes "rice" ++ (34 ∷ []) ++ codes "} known 0:1 3:1 marks 3>0@1")
    ∷ codes "hits - known - marks -"
    ∷ codes "member 1 place 1 view 2"
    ∷ (codes "cart-ann {" ++ (34 ∷ []) ++ codes "bread" ++ (34 ∷ []) ++ codes "} known 0:1 1:2 marks -")
    ∷ (codes "cart-bob {" ++ (34 ∷ []) ++ codes "tea" ++ (34 ∷ []) ++ codes "} known 2:1 marks -")
    ∷ (codes "cart-eve {" ++ (34 ∷ []) ++ codes "rice" ++ (34 ∷ []) ++ codes "} known 0:1 3:1 marks 3>0@1")
    ∷ codes "hits - known - marks -"
    ∷ codes "member 2 place 2 view 2"
    ∷ (codes "cart-ann {" ++ (34 ∷ []) ++ codes "bread" ++ (34 ∷ []) ++ codes "} known 0:1 1:2 marks -")
    ∷ (codes "cart-bob {" ++ (34 ∷ []) ++ codes "tea" ++ (34 ∷ []) ++ codes "} known 2:1 marks -")
    ∷ (codes "cart-eve {" ++ (34 ∷ []) ++ codes "rice" ++ (34 ∷ []) ++ codes "} known 0:1 3:1 marks 3>0@1")
    ∷ codes "hits - known - marks -"
    ∷ codes "member 5 place 4 view 2"
    ∷ (codes "cart-ann {" ++ (34 ∷ []) ++ codes "bread" ++ (34 ∷ []) ++ codes "} known 0:1 1:2 marks -")
    ∷ (codes "cart-bob {" ++ (34 ∷ []) ++ codes "tea" ++ (34 ∷ []) ++ codes "} known 2:1 marks -")
    ∷ (codes "cart-eve {" ++ (34 ∷ []) ++ codes "rice" ++ (34 ∷ []) ++ codes "} known 0:1 3:1 marks 3>0@1")
    ∷ codes "hits - known - marks -"
    ∷ [])

abbrev pub FailingStore : Type 0
FailingStore =
    report_with (failing_at 1 (2 ∷ [])) 2 (durable_key (codes "d") GCounter ∷ [])
    (Asks 1 (Update (codes "d") (Increment 1) Local) ∷ Asks 1 (Update (codes "d") (Increment 2) Local) ∷ Asks 1 (Get (codes "d") Local) ∷ Restart 1 ∷ Asks 2 (Get (codes "d") Local) ∷ [])
    ≡ flat_map line_of
    (codes "1 update 1 d done"
    ∷ codes "2 update 1 d store failed"
    ∷ codes "3 get 1 d value 3"
    ∷ codes "4 restart 1 id 2 view 1"
    ∷ codes "5 get 2 d value 1"
    ∷ codes "final view 1"
    ∷ codes "member 0 place 0 view 0"
    ∷ codes "d - known - marks -"
    ∷ codes "member 2 place 1 view 1"
    ∷ codes "d 1 known 1:1 marks -"
    ∷ [])

abbrev pub FailingLoad : Type 0
FailingLoad =
    report_with (failing_at 1 (3 ∷ [])) 2 (durable_key (codes "d") GCounter ∷ [])
    (Asks 1 (Update (codes "d") (Increment 1) Local) ∷ Asks 1 (Update (codes "d") (Increment 2) Local) ∷ Asks 1 (Get (codes "d") Local) ∷ Restart 1 ∷ Asks 2 (Get (codes "d") Local) ∷ [])
    ≡ flat_map line_of
    (codes "1 update 1 d done"
    ∷ codes "2 update 1 d done"
    ∷ codes "3 get 1 d value 3"
    ∷ codes "4 restart 1 load failed"
    ∷ codes "5 get 2 d gone"
    ∷ codes "final view 0"
    ∷ codes "member 0 place 0 view 0"
    ∷ codes "d - known - marks -"
    ∷ codes "member 1 place 1 view 0"
    ∷ codes "d 3 known 1:2 marks -"
    ∷ [])

abbrev pub GeneratedScript : Type 0
GeneratedScript =
    final 5 (key (codes "bal") PnCounter ∷ durable_key (codes "cart") OrSet ∷ key (codes "hits") GCounter ∷ key (codes "note") LwwRegister ∷ [])
    (Asks 1 (Update (codes "hits") (Increment 1) Local) ∷ Asks 2 (Update (codes "cart") (Add (codes "item-2")) Local) ∷ Asks 3 (Update (codes "bal") (Decrement 3) Local) ∷ Asks 4 Flush ∷ Asks 0 (Update (codes "cart") (Remove (codes "item-2")) Local) ∷ Asks 1 (Gossip 2) ∷ Round ∷ Asks 3 (Update (codes "note") (Assign (codes "n8") 8) Local) ∷ ScriptStep.Remove 4 ∷ Settle ∷ [])
    ≡ flat_map line_of
    (codes "final view 1"
    ∷ codes "member 0 place 0 view 1"
    ∷ codes "bal -3 known 3:1 marks -"
    ∷ (codes "cart {" ++ (34 ∷ []) ++ codes "item-2" ++ (34 ∷ []) ++ codes "} known 0:1 2:1 marks -")
    ∷ codes "hits 1 known 1:1 marks -"
    ∷ (codes "note " ++ (34 ∷ []) ++ codes "n8" ++ (34 ∷ []) ++ codes " known 3:1 marks -")
    ∷ codes "member 1 place 1 view 1"
    ∷ codes "bal -3 known 3:1 marks -"
    ∷ (codes "cart {" ++ (34 ∷ []) ++ codes "item-2" ++ (34 ∷ []) ++ codes "} known 0:1 2:1 marks -")
    ∷ codes "hits 1 known 1:1 marks -"
    ∷ (codes "note " ++ (34 ∷ []) ++ codes "n8" ++ (34 ∷ []) ++ codes " known 3:1 marks -")
    ∷ codes "member 2 place 2 view 1"
    ∷ codes "bal -3 known 3:1 marks -"
    ∷ (codes "cart {" ++ (34 ∷ []) ++ codes "item-2" ++ (34 ∷ []) ++ codes "} known 0:1 2:1 marks -")
    ∷ codes "hits 1 known 1:1 marks -"
    ∷ (codes "note " ++ (34 ∷ []) ++ codes "n8" ++ (34 ∷ []) ++ codes " known 3:1 marks -")
    ∷ codes "member 3 place 3 view 1"
    ∷ codes "bal -3 known 3:1 marks -"
    ∷ (codes "cart {" ++ (34 ∷ []) ++ codes "item-2" ++ (34 ∷ []) ++ codes "} known 0:1 2:1 marks -")
    ∷ codes "hits 1 known 1:1 marks -"
    ∷ (codes "note " ++ (34 ∷ []) ++ codes "n8" ++ (34 ∷ []) ++ codes " known 3:1 marks -")
    ∷ [])

abbrev pub TwoMembers : Type 0
TwoMembers =
    report 2 (key (codes "n") GCounter ∷ [])
    (Asks 0 (Update (codes "n") (Increment 5) Local) ∷ Asks 1 (Update (codes "n") (Increment 7) Local) ∷ Asks 0 Flush ∷ Deliver 0 1 None ∷ Deliver 0 1 (Some 0) ∷ Lose 0 1 ∷ Asks 1 (Get (codes "n") Local) ∷ [])
    ≡ flat_map line_of
    (codes "1 update 0 n done"
    ∷ codes "2 update 1 n done"
    ∷ codes "3 flush 0 done sent 1:deltas/1/0"
    ∷ codes "4 deliver 0>1 0 deltas/1/0 taken"
    ∷ codes "5 deliver 0>1 0 deltas/1/0 already"
    ∷ codes "6 lose 0>1 1 no such message"
    ∷ codes "7 get 1 n value 12"
    ∷ codes "final view 0"
    ∷ codes "member 0 place 0 view 0"
    ∷ codes "n 5 known 0:1 marks -"
    ∷ codes "member 1 place 1 view 0"
    ∷ codes "n 12 known 0:1 1:1 marks -"
    ∷ [])

abbrev pub FlushedRegister : Type 0
FlushedRegister =
    report 2 (key (codes "r") LwwRegister ∷ [])
    (Asks 0 (Update (codes "r") (Assign (codes "a") 100) Local) ∷ Asks 1 (Update (codes "r") (Assign (codes "b") 100) Local) ∷ Asks 0 Flush ∷ Asks 1 Flush ∷ Round ∷ Asks 1 (Get (codes "r") Local) ∷ [])
    ≡ flat_map line_of
    (codes "1 update 0 r done"
    ∷ codes "2 update 1 r done"
    ∷ codes "3 flush 0 done sent 1:deltas/1/0"
    ∷ codes "4 flush 1 done sent 0:deltas/1/0"
    ∷ codes "5 deliver 0>1 0 deltas/1/0 taken"
    ∷ codes "5 deliver 1>0 0 deltas/1/0 taken"
    ∷ (codes "6 get 1 r value " ++ (34 ∷ []) ++ codes "a" ++ (34 ∷ []))
    ∷ codes "final view 0"
    ∷ codes "member 0 place 0 view 0"
    ∷ (codes "r " ++ (34 ∷ []) ++ codes "a" ++ (34 ∷ []) ++ codes " known 0:1 1:1 marks -")
    ∷ codes "member 1 place 1 view 0"
    ∷ (codes "r " ++ (34 ∷ []) ++ codes "a" ++ (34 ∷ []) ++ codes " known 0:1 1:1 marks -")
    ∷ [])

abbrev pub GossipedCounter : Type 0
GossipedCounter =
    report 2 (key (codes "n") GCounter ∷ [])
    (Asks 0 (Update (codes "n") (Increment 5) Local) ∷ Asks 1 (Gossip 0) ∷ Round ∷ Round ∷ Asks 1 (Gossip 0) ∷ Round ∷ Asks 1 (Get (codes "n") Local) ∷ [])
    ≡ flat_map line_of
    (codes "1 update 0 n done"
    ∷ codes "2 gossip 1 0 done sent 0:status/0"
    ∷ codes "3 deliver 1>0 0 status/0 taken sent 1:gossip/1/0"
    ∷ codes "4 deliver 0>1 0 gossip/1/0 taken"
    ∷ codes "5 gossip 1 0 done sent 0:status/1"
    ∷ codes "6 deliver 1>0 1 status/1 taken"
    ∷ codes "7 get 1 n value 5"
    ∷ codes "final view 0"
    ∷ codes "member 0 place 0 view 0"
    ∷ codes "n 5 known 0:1 marks -"
    ∷ codes "member 1 place 1 view 0"
    ∷ codes "n 5 known 0:1 marks -"
    ∷ [])

abbrev pub ThreeMembers : Type 0
ThreeMembers =
    report 3 (key (codes "n") GCounter ∷ [])
    (Asks 0 (Update (codes "n") (Increment 1) Local) ∷ Asks 1 (Update (codes "n") (Increment 2) Local) ∷ Asks 0 Flush ∷ Asks 1 Flush ∷ Lose 0 2 ∷ Round ∷ Asks 2 (Get (codes "n") Local) ∷ Round ∷ [])
    ≡ flat_map line_of
    (codes "1 update 0 n done"
    ∷ codes "2 update 1 n done"
    ∷ codes "3 flush 0 done sent 1:deltas/1/0 2:deltas/1/0"
    ∷ codes "4 flush 1 done sent 0:deltas/1/0 2:deltas/1/0"
    ∷ codes "5 lose 0>2 0 lost"
    ∷ codes "6 deliver 0>1 0 deltas/1/0 taken"
    ∷ codes "6 deliver 1>0 0 deltas/1/0 taken"
    ∷ codes "6 deliver 1>2 0 deltas/1/0 taken"
    ∷ codes "7 get 2 n value 2"
    ∷ codes "8 round nothing"
    ∷ codes "final view 0"
    ∷ codes "member 0 place 0 view 0"
    ∷ codes "n 3 known 0:1 1:1 marks -"
    ∷ codes "member 1 place 1 view 0"
    ∷ codes "n 3 known 0:1 1:1 marks -"
    ∷ codes "member 2 place 2 view 0"
    ∷ codes "n 2 known 1:1 marks -"
    ∷ [])
