-- Worked scripts at the borders: keepers that fail, members that are full, sets that are full, prunes that are blocked or performed twice.
use Rattle.std.specs.Prelude.{◌≡◌, ℕ, ◌+◌, ◌-◌, ◌==◌, [], ◌∷◌, ◌++◌, map, if◌then◌else◌, None, Some, codes, decimal, flat_map, option_map}
use Rattle.std.specs.List.{range_with_len}
use Rattle.model_history.specs.Table.{with_at}
use Rattle.model_history.specs.Vector.{alone}
use Rattle.model_history.specs.History.{History}
use Rattle.model_history.specs.History.Action.{Operation}
use Rattle.model_kinds.specs.declared.kind.Kind.{Kind}
use Rattle.model_kinds.specs.declared.kind.Kind.TheVariants.{GCounter, PnCounter}
use Rattle.model_kinds.specs.declared.operation.Op.{Op}
use Rattle.model_kinds.specs.declared.operation.Op.TheVariants.{Increment, Decrement, Add}
use Rattle.model_kinds.specs.declared.shown.Shown.{Shown}
use Rattle.model_kinds.specs.ShownText.{shown_text}
use Rattle.model_members.specs.Entry.{Entry, Outcome, ticked}
use Rattle.model_members.specs.Node.{Node}
use Rattle.model_members.specs.Node.Level.{Local, To, Majority, All}
use Rattle.model_members.specs.Script.{ScriptStep, Playing, none_fails, opening, lines_of}
use Rattle.model_members.specs.Script.Ask.{Update, Get, Flush, Gossip, Tick, Install}
use Rattle.model_members.specs.Script.ScriptStep.{Asks, Deliver, Lose, Round, Join, Restart, Settle}
use Rattle.model_members.specs.Report.{line_of, steps_text}
use Rattle.model_rows.specs.Words.{data_type, key, durable_key, failing_at, report_with, report}
use Rattle.model_rows.specs.Rows.{counts}

-- an owner that leaves before anyone took its prune: the next leader prunes the same identity
abbrev pub SecondPrune : Type 0
SecondPrune =
    report 4 (key (codes "n") GCounter ∷ [])
    (Asks 3 (Update (codes "n") (Increment 10) Local) ∷ Asks 3 Flush ∷ Round ∷ ScriptStep.Remove 3 ∷ Asks 0 (Install 1) ∷ Asks 1 (Install 1) ∷ Asks 2 (Install 1) ∷ Asks 0 Tick ∷ Asks 1 (Gossip 0) ∷ Asks 2 (Gossip 0) ∷ Round ∷ Round ∷ Round ∷ Asks 0 Tick ∷ ScriptStep.Remove 0 ∷ Asks 1 (Install 2) ∷ Asks 2 (Install 2) ∷ Asks 1 Tick ∷ Asks 2 (Gossip 1) ∷ Round ∷ Round ∷ Round ∷ Asks 1 Tick ∷ Asks 1 (Get (codes "n") Local) ∷ [])
    ≡ flat_map line_of
    (codes "1 update 3 n done"
    ∷ codes "2 flush 3 done sent 0:deltas/1/0 1:deltas/1/0 2:deltas/1/0"
    ∷ codes "3 deliver 3>0 0 deltas/1/0 taken"
    ∷ codes "3 deliver 3>1 0 deltas/1/0 taken"
    ∷ codes "3 deliver 3>2 0 deltas/1/0 taken"
    ∷ codes "4 remove 3 view 1"
    ∷ codes "5 install 0 view 1 installed"
    ∷ codes "6 install 1 view 1 installed"
    ∷ codes "7 install 2 view 1 installed"
    ∷ codes "8 tick 0 done n/3:marked"
    ∷ codes "9 gossip 1 0 done sent 0:status/1"
    ∷ codes "10 gossip 2 0 done sent 0:status/1"
    ∷ codes "11 deliver 1>0 0 status/1 taken sent 1:gossip/1/1"
    ∷ codes "11 deliver 2>0 0 status/1 taken sent 2:gossip/1/1"
    ∷ codes "12 deliver 0>1 0 gossip/1/1 taken sent 0:gossip/1/0"
    ∷ codes "12 deliver 0>2 0 gossip/1/1 taken sent 0:gossip/1/0"
    ∷ codes "13 deliver 1>0 1 gossip/1/0 taken"
    ∷ codes "13 deliver 2>0 1 gossip/1/0 taken"
    ∷ codes "14 tick 0 done n/3:performed"
    ∷ codes "15 remove 0 view 2"
    ∷ codes "16 install 1 view 2 installed"
    ∷ codes "17 install 2 view 2 installed"
    ∷ codes "18 tick 1 done n/3:marked"
    ∷ codes "19 gossip 2 1 done sent 1:status/1"
    ∷ codes "20 deliver 2>1 0 status/1 taken sent 2:gossip/1/1"
    ∷ codes "21 deliver 1>2 0 gossip/1/1 taken sent 1:gossip/1/0"
    ∷ codes "22 deliver 2>1 1 gossip/1/0 taken"
    ∷ codes "23 tick 1 done n/3:performed"
    ∷ codes "24 get 1 n value 10"
    ∷ codes "final view 2"
    ∷ codes "member 1 place 1 view 2"
    ∷ codes "n 10 known 1:1 3:1 marks 3>1@1"
    ∷ codes "member 2 place 2 view 2"
    ∷ codes "n 10 known 3:1 marks 3>1/2:1.2"
    ∷ [])

-- a store that fails when a write is taken. Taken once more it changes nothing, so it is acknowledged
abbrev pub NackedWrite : Type 0
NackedWrite =
    report_with (failing_at 1 (1 ∷ [])) 2 (durable_key (codes "d") GCounter ∷ [])
    (Asks 0 (Update (codes "d") (Increment 1) (Majority 0)) ∷ Deliver 0 1 None ∷ Deliver 0 1 (Some 0) ∷ Deliver 1 0 None ∷ Deliver 1 0 None ∷ Asks 1 (Get (codes "d") Local) ∷ Restart 1 ∷ Asks 2 (Get (codes "d") Local) ∷ [])
    ≡ flat_map line_of
    (codes "1 update 0 d pending 0 sent 1:write"
    ∷ codes "2 deliver 0>1 0 write store failed sent 0:write-nack"
    ∷ codes "3 deliver 0>1 0 write already sent 0:write-ack"
    ∷ codes "4 deliver 1>0 0 write-nack taken"
    ∷ codes "5 deliver 1>0 1 write-ack taken finished 0 done"
    ∷ codes "6 get 1 d value 1"
    ∷ codes "7 restart 1 id 2 view 1"
    ∷ codes "8 get 2 d not found"
    ∷ codes "final view 1"
    ∷ codes "member 0 place 0 view 0"
    ∷ codes "d 1 known 0:1 marks -"
    ∷ codes "member 2 place 1 view 1"
    ∷ codes "d - known - marks -"
    ∷ [])

-- the first tick stores a mark, which fails; the install stores nothing
abbrev pub FailingTick : Type 0
FailingTick =
    report_with (failing_at 0 (2 ∷ [])) 2 (durable_key (codes "d") GCounter ∷ [])
    (Asks 1 (Update (codes "d") (Increment 4) Local) ∷ Asks 1 Flush ∷ Round ∷ ScriptStep.Remove 1 ∷ Asks 0 (Install 1) ∷ Asks 0 Tick ∷ Asks 0 Tick ∷ Restart 0 ∷ Asks 2 (Get (codes "d") Local) ∷ [])
    ≡ flat_map line_of
    (codes "1 update 1 d done"
    ∷ codes "2 flush 1 done sent 0:deltas/1/0"
    ∷ codes "3 deliver 1>0 0 deltas/1/0 taken"
    ∷ codes "4 remove 1 view 1"
    ∷ codes "5 install 0 view 1 installed"
    ∷ codes "6 tick 0 store failed d/1:marked"
    ∷ codes "7 tick 0 done d/1:performed"
    ∷ codes "8 restart 0 id 2 view 2"
    ∷ codes "9 get 2 d value 4"
    ∷ codes "final view 2"
    ∷ codes "member 2 place 0 view 2"
    ∷ codes "d 4 known 0:1 1:1 marks 1>0@1"
    ∷ [])

-- the leader's share and that of the removed identity are too much for one
abbrev pub BlockedSettle : Type 0
BlockedSettle =
    report 2 (key (codes "n") GCounter ∷ [])
    (Asks 1 (Update (codes "n") (Increment 9223372036854775807) Local) ∷ Asks 0 (Update (codes "n") (Increment 1) Local) ∷ Asks 1 Flush ∷ Round ∷ ScriptStep.Remove 1 ∷ Settle ∷ [])
    ≡ flat_map line_of
    (codes "1 update 1 n done"
    ∷ codes "2 update 0 n done"
    ∷ codes "3 flush 1 done sent 0:deltas/1/0"
    ∷ codes "4 deliver 1>0 0 deltas/1/0 taken"
    ∷ codes "5 remove 1 view 1"
    ∷ codes "6 settle done messages 0 blocked 1"
    ∷ codes "final view 1"
    ∷ codes "member 0 place 0 view 1"
    ∷ codes "n 9223372036854775808 known 0:1 1:1 marks 1>0/1:0"
    ∷ [])

-- a read of all members that finds nothing, a write to two, one to a majority whose cap asks for all, and one to more than there are
abbrev pub EmptyRead : Type 0
EmptyRead =
    report 3 (key (codes "n") GCounter ∷ [])
    (Asks 0 (Get (codes "n") All) ∷ Round ∷ Round ∷ Asks 0 (Update (codes "n") (Increment 1) (To 2)) ∷ Asks 0 (Update (codes "n") (Increment 1) (Majority 9)) ∷ Round ∷ Round ∷ Asks 0 (Update (codes "n") (Increment 1) (To 4)) ∷ [])
    ≡ flat_map line_of
    (codes "1 get 0 n pending 0 sent 1:read 2:read"
    ∷ codes "2 deliver 0>1 0 read taken sent 0:read-answer"
    ∷ codes "2 deliver 0>2 0 read taken sent 0:read-answer"
    ∷ codes "3 deliver 1>0 0 read-answer already"
    ∷ codes "3 deliver 2>0 0 read-answer already finished 0 not found"
    ∷ codes "4 update 0 n pending 1 sent 1:write 2:write"
    ∷ codes "5 update 0 n pending 2 sent 1:write 2:write"
    ∷ codes "6 deliver 0>1 1 write taken sent 0:write-ack"
    ∷ codes "6 deliver 0>1 2 write taken sent 0:write-ack"
    ∷ codes "6 deliver 0>2 1 write taken sent 0:write-ack"
    ∷ codes "6 deliver 0>2 2 write taken sent 0:write-ack"
    ∷ codes "7 deliver 1>0 1 write-ack taken finished 1 done"
    ∷ codes "7 deliver 1>0 2 write-ack taken"
    ∷ codes "7 deliver 2>0 1 write-ack taken"
    ∷ codes "7 deliver 2>0 2 write-ack taken finished 2 done"
    ∷ codes "8 update 0 n too few"
    ∷ codes "final view 0"
    ∷ codes "member 0 place 0 view 0"
    ∷ codes "n 2 known 0:2 marks -"
    ∷ codes "member 1 place 1 view 0"
    ∷ codes "n 2 known 0:2 marks -"
    ∷ codes "member 2 place 2 view 0"
    ∷ codes "n 2 known 0:2 marks -"
    ∷ [])

-- a script at work, in which a member has made so many steps
abbrev pub aged : ℕ → ℕ → Playing Kind Op Shown → Playing Kind Op Shown
aged i steps p = record p { world = record p.world { nodes = with_at p.world.nodes i (option_map (λ (n : Node Kind Op Shown). record n { steps = steps }) (p.world.nodes i)) } }

-- member 1 takes one more step
abbrev pub FullMember : Type 0
FullMember =
    steps_text data_type shown_text 1 (lines_of data_type (aged 1 16383 (opening none_fails 2 (key (codes "n") GCounter ∷ [])))
    (Asks 0 (Update (codes "n") (Increment 1) Local) ∷ Asks 0 Flush ∷ Asks 0 (Update (codes "n") (Increment 1) Local) ∷ Asks 0 Flush ∷ Round ∷ Asks 1 (Get (codes "n") Local) ∷ Lose 0 1 ∷ Asks 1 (Install 0) ∷ Asks 1 (Install 7) ∷ Settle ∷ []))
    ≡ flat_map line_of
    (codes "1 update 0 n done"
    ∷ codes "2 flush 0 done sent 1:deltas/1/0"
    ∷ codes "3 update 0 n done"
    ∷ codes "4 flush 0 done sent 1:deltas/1/0"
    ∷ codes "5 deliver 0>1 0 deltas/1/0 taken"
    ∷ codes "5 deliver 0>1 1 deltas/1/0 history full"
    ∷ codes "6 get 1 n history full"
    ∷ codes "7 lose 0>1 1 lost"
    ∷ codes "8 install 1 view 0 history full"
    ∷ codes "9 install 1 view 7 no such view"
    ∷ codes "10 settle stopped"
    ∷ [])

-- an owner whose minus is too much, and whose plus isn't
abbrev pub BlockedMinus : Type 0
BlockedMinus =
    report 2 (key (codes "c") PnCounter ∷ [])
    (Asks 1 (Update (codes "c") (Decrement 9223372036854775807) Local) ∷ Asks 1 (Update (codes "c") (Increment 3) Local) ∷ Asks 0 (Update (codes "c") (Decrement 2) Local) ∷ Asks 1 Flush ∷ Round ∷ ScriptStep.Remove 1 ∷ Settle ∷ Asks 0 Tick ∷ [])
    ≡ flat_map line_of
    (codes "1 update 1 c done"
    ∷ codes "2 update 1 c done"
    ∷ codes "3 update 0 c done"
    ∷ codes "4 flush 1 done sent 0:deltas/1/0"
    ∷ codes "5 deliver 1>0 0 deltas/1/0 taken"
    ∷ codes "6 remove 1 view 1"
    ∷ codes "7 settle done messages 0 blocked 1"
    ∷ codes "8 tick 0 done c/1:blocked-2-9223372036854775807"
    ∷ codes "final view 1"
    ∷ codes "member 0 place 0 view 1"
    ∷ codes "c -9223372036854775806 known 0:1 1:2 marks 1>0/1:0"
    ∷ [])

-- a join's clear that fails, and one that doesn't
abbrev pub FailingClear : Type 0
FailingClear =
    report_with (failing_at 1 (1 ∷ [])) 2 (durable_key (codes "d") GCounter ∷ [])
    (ScriptStep.Remove 1 ∷ Join 1 ∷ Join 1 ∷ [])
    ≡ flat_map line_of
    (codes "1 remove 1 view 1"
    ∷ codes "2 join 1 clear failed"
    ∷ codes "3 join 1 id 2 view 2"
    ∷ codes "final view 2"
    ∷ codes "member 0 place 0 view 0"
    ∷ codes "d - known - marks -"
    ∷ codes "member 2 place 1 view 2"
    ∷ codes "d - known - marks -"
    ∷ [])

-- who joins at a place finds nothing of what was stored there
abbrev pub JoinAfterStored : Type 0
JoinAfterStored =
    report 2 (durable_key (codes "d") GCounter ∷ [])
    (Asks 1 (Update (codes "d") (Increment 3) Local) ∷ ScriptStep.Remove 1 ∷ Join 1 ∷ Asks 2 (Get (codes "d") Local) ∷ Restart 2 ∷ Asks 3 (Get (codes "d") Local) ∷ [])
    ≡ flat_map line_of
    (codes "1 update 1 d done"
    ∷ codes "2 remove 1 view 1"
    ∷ codes "3 join 1 id 2 view 2"
    ∷ codes "4 get 2 d not found"
    ∷ codes "5 restart 2 id 3 view 3"
    ∷ codes "6 get 3 d not found"
    ∷ codes "final view 3"
    ∷ codes "member 0 place 0 view 0"
    ∷ codes "d - known - marks -"
    ∷ codes "member 3 place 1 view 3"
    ∷ codes "d - known - marks -"
    ∷ [])

-- a member that installs a view stands in a mark of that view from then on, and stores it: here the store fails, and the mark is loaded without it
abbrev pub FailingInstall : Type 0
FailingInstall =
    report_with (failing_at 1 (3 ∷ [])) 3 (durable_key (codes "d") GCounter ∷ [])
    (Asks 2 (Update (codes "d") (Increment 5) Local) ∷ Asks 2 Flush ∷ Round ∷ ScriptStep.Remove 2 ∷ Asks 0 (Install 1) ∷ Asks 0 Tick ∷ Asks 0 (Gossip 1) ∷ Round ∷ Round ∷ Round ∷ Asks 1 (Install 1) ∷ Restart 1 ∷ [])
    ≡ flat_map line_of
    (codes "1 update 2 d done"
    ∷ codes "2 flush 2 done sent 0:deltas/1/0 1:deltas/1/0"
    ∷ codes "3 deliver 2>0 0 deltas/1/0 taken"
    ∷ codes "3 deliver 2>1 0 deltas/1/0 taken"
    ∷ codes "4 remove 2 view 1"
    ∷ codes "5 install 0 view 1 installed"
    ∷ codes "6 tick 0 done d/2:marked"
    ∷ codes "7 gossip 0 1 done sent 1:status/1"
    ∷ codes "8 deliver 0>1 0 status/1 taken sent 0:gossip/1/1"
    ∷ codes "9 deliver 1>0 0 gossip/1/1 already sent 1:gossip/1/0"
    ∷ codes "10 deliver 0>1 1 gossip/1/0 taken"
    ∷ codes "11 install 1 view 1 store failed"
    ∷ codes "12 restart 1 id 3 view 2"
    ∷ codes "final view 2"
    ∷ codes "member 0 place 0 view 1"
    ∷ codes "d 5 known 2:1 marks 2>0/1:0"
    ∷ codes "member 3 place 1 view 2"
    ∷ codes "d 5 known 2:1 marks 2>0/1:0.3"
    ∷ [])

-- a member alone comes back 254 times, and then no identity is left
abbrev pub TooManyIdentities : Type 0
TooManyIdentities =
    report 1 []
    (map Restart (range_with_len 0 254) ++ Restart 254 ∷ Join 1 ∷ [])
    ≡ flat_map line_of
    (map (λ i. decimal (i + 1) ++ codes " restart " ++ decimal i ++ codes " id " ++ decimal (i + 1) ++ codes " view " ++ decimal (i + 1)) (range_with_len 0 254)
    ++ codes "255 restart 254 too many identities"
    ∷ codes "256 join 1 too many identities"
    ∷ codes "final view 254"
    ∷ codes "member 254 place 0 view 254"
    ∷ [])

-- a history of an identity that has added as many elements as a set may have
abbrev pub many_adds : History Op
many_adds i = if i == 0 then map (λ n. record { action = Operation (Add (decimal (1255 - n))); past = counts (n ∷ []) }) (range_with_len 0 256) else []

-- a script at work, in which a member's entries have this history
abbrev pub with_history : ℕ → History Op → Playing Kind Op Shown → Playing Kind Op Shown
with_history i history p =
    record p { world = record p.world { nodes = with_at p.world.nodes i (option_map (λ (n : Node Kind Op Shown). record n { entries = λ name. record { history = history; marks = λ r. None } }) (p.world.nodes i)) } }

-- no element is added to a full set, but one that it has may be added again
abbrev pub SetFull : Kind → Type 0
SetFull kind =
    steps_text data_type shown_text 1 (lines_of data_type (with_history 0 many_adds (opening none_fails 1 (key (codes "s") kind ∷ [])))
    (Asks 0 (Update (codes "s") (Add (codes "x")) Local) ∷ Asks 0 (Update (codes "s") (Add (codes "1000")) Local) ∷ []))
    ≡ flat_map line_of
    (codes "1 update 0 s set full"
    ∷ codes "2 update 0 s done"
    ∷ [])

-- a tick of an earlier view than a mark's changes nothing
abbrev pub NewerMark : Type 0
NewerMark =
    let entry : Entry Op = record { history = many_adds; marks = λ r. Some (record { view = 2; owner = 0; seen = alone 0 }) } in
    ticked None 0 1 (0 ∷ []) entry 2 ≡ record { outcome = Outcome.Newer; entry = entry }
