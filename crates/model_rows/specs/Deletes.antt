-- Worked scripts with deleted keys.
use Rattle.std.specs.Prelude.{◌≡◌, [], ◌∷◌, ◌++◌, None, codes, flat_map}
use Rattle.model_kinds.specs.declared.kind.Kind.{Kind}
use Rattle.model_kinds.specs.declared.kind.Kind.TheVariants.{GCounter, PnCounter, GSet, OrSet, Flag, LwwRegister}
use Rattle.model_kinds.specs.declared.operation.Op.TheVariants.{Increment, Add, Remove, Assign, Delete}
use Rattle.model_kinds.specs.ShownText.{shown_text}
use Rattle.model_members.specs.Node.Level.{Local, To, Majority}
use Rattle.model_members.specs.Script.{ScriptStep, none_fails, opening, lines_of}
use Rattle.model_members.specs.Script.Ask.{Update, Get, Flush, Gossip, Tick, Install}
use Rattle.model_members.specs.Script.ScriptStep.{Asks, Deliver, Lose, Round, Restart, Settle}
use Rattle.model_members.specs.Report.{line_of, steps_text}
use Rattle.model_rows.specs.Words.{data_type, key, durable_key, report}
use Rattle.model_rows.specs.Borders.{many_adds, with_history}

-- a delete wins over an add beside it, whichever comes first, and a deleted key can't be used again
abbrev pub DeletedSet : Type 0
DeletedSet =
    report 2 (key (codes "s") OrSet ∷ [])
    (Asks 0 (Update (codes "s") (Add (codes "x")) Local) ∷ Asks 1 (Update (codes "s") Delete Local) ∷ Asks 1 Flush ∷ Asks 0 (Update (codes "s") (Add (codes "y")) Local) ∷ Round ∷ Asks 0 (Update (codes "s") (Add (codes "z")) Local) ∷ Asks 0 (Get (codes "s") Local) ∷ Asks 0 Flush ∷ Round ∷ [])
    ≡ flat_map line_of
    (codes "1 update 0 s done"
    ∷ codes "2 update 1 s done"
    ∷ codes "3 flush 1 done sent 0:deltas/1/0"
    ∷ codes "4 update 0 s done"
    ∷ codes "5 deliver 1>0 0 deltas/1/0 taken"
    ∷ codes "6 update 0 s deleted"
    ∷ codes "7 get 0 s deleted"
    ∷ codes "8 flush 0 done sent 1:deltas/1/0"
    ∷ codes "9 deliver 0>1 0 deltas/1/0 taken"
    ∷ codes "final view 0"
    ∷ codes "member 0 place 0 view 0"
    ∷ codes "s deleted known 0:2 1:1 marks -"
    ∷ codes "member 1 place 1 view 0"
    ∷ codes "s deleted known 0:2 1:1 marks -"
    ∷ [])

-- an add before the delete, in its past, and one beside it, which is taken after it
abbrev pub DeleteAmongAdds : Type 0
DeleteAmongAdds =
    report 3 (key (codes "s") OrSet ∷ [])
    (Asks 0 (Update (codes "s") (Add (codes "x")) Local) ∷ Asks 0 Flush ∷ Round ∷ Asks 1 (Update (codes "s") Delete Local) ∷ Asks 1 (Get (codes "s") Local) ∷ Asks 2 (Update (codes "s") (Add (codes "y")) Local) ∷ Asks 2 (Get (codes "s") Local) ∷ Asks 1 Flush ∷ Asks 2 Flush ∷ Round ∷ Asks 2 (Update (codes "s") (Add (codes "z")) Local) ∷ Asks 0 (Update (codes "s") (Remove (codes "x")) Local) ∷ [])
    ≡ flat_map line_of
    (codes "1 update 0 s done"
    ∷ codes "2 flush 0 done sent 1:deltas/1/0 2:deltas/1/0"
    ∷ codes "3 deliver 0>1 0 deltas/1/0 taken"
    ∷ codes "3 deliver 0>2 0 deltas/1/0 taken"
    ∷ codes "4 update 1 s done"
    ∷ codes "5 get 1 s deleted"
    ∷ codes "6 update 2 s done"
    ∷ (codes "7 get 2 s value {" ++ (34 ∷ []) ++ codes "x" ++ (34 ∷ []) ++ codes "," ++ (34 ∷ []) ++ codes "y" ++ (34 ∷ []) ++ codes "}")
    ∷ codes "8 flush 1 done sent 0:deltas/1/0 2:deltas/1/0"
    ∷ codes "9 flush 2 done sent 0:deltas/1/0 1:deltas/1/0"
    ∷ codes "10 deliver 1>0 0 deltas/1/0 taken"
    ∷ codes "10 deliver 1>2 0 deltas/1/0 taken"
    ∷ codes "10 deliver 2>0 0 deltas/1/0 taken"
    ∷ codes "10 deliver 2>1 0 deltas/1/0 taken"
    ∷ codes "11 update 2 s deleted"
    ∷ codes "12 update 0 s deleted"
    ∷ codes "final view 0"
    ∷ codes "member 0 place 0 view 0"
    ∷ codes "s deleted known 0:1 1:1 2:1 marks -"
    ∷ codes "member 1 place 1 view 0"
    ∷ codes "s deleted known 0:1 1:1 2:1 marks -"
    ∷ codes "member 2 place 2 view 0"
    ∷ codes "s deleted known 0:1 1:1 2:1 marks -"
    ∷ [])

-- a delete that is told in time by a write, and later by gossip
abbrev pub GossipedDelete : Type 0
GossipedDelete =
    report 3 (key (codes "n") GCounter ∷ [])
    (Asks 0 (Update (codes "n") Delete (To 2)) ∷ Deliver 0 1 None ∷ Asks 1 (Get (codes "n") Local) ∷ Deliver 1 0 None ∷ Lose 0 2 ∷ Asks 2 (Get (codes "n") Local) ∷ Asks 2 (Gossip 1) ∷ Deliver 2 1 None ∷ Deliver 1 2 None ∷ Asks 2 (Get (codes "n") Local) ∷ [])
    ≡ flat_map line_of
    (codes "1 update 0 n pending 0 sent 1:write 2:write"
    ∷ codes "2 deliver 0>1 0 write taken sent 0:write-ack"
    ∷ codes "3 get 1 n deleted"
    ∷ codes "4 deliver 1>0 0 write-ack taken finished 0 done"
    ∷ codes "5 lose 0>2 0 lost"
    ∷ codes "6 get 2 n not found"
    ∷ codes "7 gossip 2 1 done sent 1:status/0"
    ∷ codes "8 deliver 2>1 0 status/0 taken sent 2:gossip/1/0"
    ∷ codes "9 deliver 1>2 0 gossip/1/0 taken"
    ∷ codes "10 get 2 n deleted"
    ∷ codes "final view 0"
    ∷ codes "member 0 place 0 view 0"
    ∷ codes "n deleted known 0:1 marks -"
    ∷ codes "member 1 place 1 view 0"
    ∷ codes "n deleted known 0:1 marks -"
    ∷ codes "member 2 place 2 view 0"
    ∷ codes "n deleted known 0:1 marks -"
    ∷ [])

-- a delete and a prune, in a whole entry
abbrev pub DeletedEntry : Type 0
DeletedEntry =
    report 3 (key (codes "n") GCounter ∷ [])
    (Asks 2 (Update (codes "n") (Increment 10) Local) ∷ Asks 2 Flush ∷ Round ∷ ScriptStep.Remove 2 ∷ Asks 0 (Install 1) ∷ Asks 1 (Install 1) ∷ Asks 0 Tick ∷ Asks 1 (Gossip 0) ∷ Deliver 1 0 None ∷ Deliver 0 1 None ∷ Deliver 1 0 None ∷ Asks 0 (Update (codes "n") Delete Local) ∷ Asks 0 Tick ∷ Asks 0 Flush ∷ Deliver 0 1 None ∷ Asks 1 (Get (codes "n") Local) ∷ [])
    ≡ flat_map line_of
    (codes "1 update 2 n done"
    ∷ codes "2 flush 2 done sent 0:deltas/1/0 1:deltas/1/0"
    ∷ codes "3 deliver 2>0 0 deltas/1/0 taken"
    ∷ codes "3 deliver 2>1 0 deltas/1/0 taken"
    ∷ codes "4 remove 2 view 1"
    ∷ codes "5 install 0 view 1 installed"
    ∷ codes "6 install 1 view 1 installed"
    ∷ codes "7 tick 0 done n/2:marked"
    ∷ codes "8 gossip 1 0 done sent 0:status/1"
    ∷ codes "9 deliver 1>0 0 status/1 taken sent 1:gossip/1/1"
    ∷ codes "10 deliver 0>1 0 gossip/1/1 taken sent 0:gossip/1/0"
    ∷ codes "11 deliver 1>0 1 gossip/1/0 taken"
    ∷ codes "12 update 0 n done"
    ∷ codes "13 tick 0 done n/2:performed"
    ∷ codes "14 flush 0 done sent 1:deltas/0/1"
    ∷ codes "15 deliver 0>1 1 deltas/0/1 taken"
    ∷ codes "16 get 1 n deleted"
    ∷ codes "final view 1"
    ∷ codes "member 0 place 0 view 1"
    ∷ codes "n deleted known 0:2 2:1 marks 2>0@2"
    ∷ codes "member 1 place 1 view 1"
    ∷ codes "n deleted known 0:2 2:1 marks 2>0@2"
    ∷ [])

-- a get at a majority that finds a deleted key, and what a deleted key answers before other refusals
abbrev pub MajorityFindsDeleted : Type 0
MajorityFindsDeleted =
    report 3 (key (codes "n") GCounter ∷ [])
    (Asks 0 (Update (codes "n") Delete (Majority 0)) ∷ Deliver 0 1 None ∷ Deliver 1 0 None ∷ Asks 2 (Get (codes "n") (Majority 0)) ∷ Deliver 2 1 None ∷ Deliver 1 2 None ∷ Asks 2 (Get (codes "n") Local) ∷ Asks 2 (Get (codes "n") (To 4)) ∷ Asks 2 (Update (codes "n") (Add (codes "x")) (To 4)) ∷ Asks 2 (Update (codes "n") Delete Local) ∷ Asks 2 (Update (codes "zz") Delete Local) ∷ [])
    ≡ flat_map line_of
    (codes "1 update 0 n pending 0 sent 1:write 2:write"
    ∷ codes "2 deliver 0>1 0 write taken sent 0:write-ack"
    ∷ codes "3 deliver 1>0 0 write-ack taken finished 0 done"
    ∷ codes "4 get 2 n pending 0 sent 0:read 1:read"
    ∷ codes "5 deliver 2>1 0 read taken sent 2:read-answer"
    ∷ codes "6 deliver 1>2 0 read-answer taken finished 0 deleted"
    ∷ codes "7 get 2 n deleted"
    ∷ codes "8 get 2 n too few"
    ∷ codes "9 update 2 n deleted"
    ∷ codes "10 update 2 n deleted"
    ∷ codes "11 update 2 zz unknown key"
    ∷ codes "final view 0"
    ∷ codes "member 0 place 0 view 0"
    ∷ codes "n deleted known 0:1 marks -"
    ∷ codes "member 1 place 1 view 0"
    ∷ codes "n deleted known 0:1 marks -"
    ∷ codes "member 2 place 2 view 0"
    ∷ codes "n deleted known 0:1 marks -"
    ∷ [])

-- two shares that are too much for one don't matter, where the key is deleted
abbrev pub DeletedCounterPrunes : Type 0
DeletedCounterPrunes =
    report 2 (key (codes "n") GCounter ∷ [])
    (Asks 1 (Update (codes "n") (Increment 9223372036854775807) Local) ∷ Asks 0 (Update (codes "n") (Increment 1) Local) ∷ Asks 0 (Update (codes "n") Delete Local) ∷ Asks 1 Flush ∷ Round ∷ ScriptStep.Remove 1 ∷ Asks 0 (Install 1) ∷ Asks 0 Tick ∷ Asks 0 Tick ∷ [])
    ≡ flat_map line_of
    (codes "1 update 1 n done"
    ∷ codes "2 update 0 n done"
    ∷ codes "3 update 0 n done"
    ∷ codes "4 flush 1 done sent 0:deltas/1/0"
    ∷ codes "5 deliver 1>0 0 deltas/1/0 taken"
    ∷ codes "6 remove 1 view 1"
    ∷ codes "7 install 0 view 1 installed"
    ∷ codes "8 tick 0 done n/1:marked"
    ∷ codes "9 tick 0 done n/1:performed"
    ∷ codes "final view 1"
    ∷ codes "member 0 place 0 view 1"
    ∷ codes "n deleted known 0:3 1:1 marks 1>0@3"
    ∷ [])

-- the removed member itself has deleted the key, and a settle prunes it
abbrev pub DeletedSettle : Type 0
DeletedSettle =
    report 2 (key (codes "c") PnCounter ∷ [])
    (Asks 1 (Update (codes "c") (Increment 9223372036854775807) Local) ∷ Asks 1 (Update (codes "c") Delete Local) ∷ Asks 0 (Update (codes "c") (Increment 1) Local) ∷ Asks 1 Flush ∷ Round ∷ ScriptStep.Remove 1 ∷ Settle ∷ [])
    ≡ flat_map line_of
    (codes "1 update 1 c done"
    ∷ codes "2 update 1 c done"
    ∷ codes "3 update 0 c done"
    ∷ codes "4 flush 1 done sent 0:deltas/1/0"
    ∷ codes "5 deliver 1>0 0 deltas/1/0 taken"
    ∷ codes "6 remove 1 view 1"
    ∷ codes "7 settle done messages 0 blocked 0"
    ∷ codes "final view 1"
    ∷ codes "member 0 place 0 view 1"
    ∷ codes "c deleted known 0:2 1:2 marks 1>0@2"
    ∷ [])

-- what is loaded of a deleted key is deleted
abbrev pub DeletedRestarts : Type 0
DeletedRestarts =
    report 2 (durable_key (codes "d") GCounter ∷ [])
    (Asks 1 (Update (codes "d") (Increment 3) Local) ∷ Asks 1 (Update (codes "d") Delete Local) ∷ Restart 1 ∷ Asks 2 (Get (codes "d") Local) ∷ Asks 2 (Update (codes "d") (Increment 1) Local) ∷ Settle ∷ [])
    ≡ flat_map line_of
    (codes "1 update 1 d done"
    ∷ codes "2 update 1 d done"
    ∷ codes "3 restart 1 id 2 view 1"
    ∷ codes "4 get 2 d deleted"
    ∷ codes "5 update 2 d deleted"
    ∷ codes "6 settle done messages 10 blocked 0"
    ∷ codes "final view 1"
    ∷ codes "member 0 place 0 view 1"
    ∷ codes "d deleted known 0:1 1:2 marks 1>0@1"
    ∷ codes "member 2 place 1 view 1"
    ∷ codes "d deleted known 0:1 1:2 marks 1>0@1"
    ∷ [])

-- every kind may be deleted, also a key that nobody has used; and a deleted key gives no other refusal
abbrev pub DeletedKinds : Type 0
DeletedKinds =
    report 1 (key (codes "c") PnCounter ∷ key (codes "f") Flag ∷ key (codes "g") GSet ∷ key (codes "r") LwwRegister ∷ [])
    (Asks 0 (Update (codes "c") (Increment 9223372036854775807) Local) ∷ Asks 0 (Update (codes "c") Delete Local) ∷ Asks 0 (Update (codes "c") (Increment 1) Local) ∷ Asks 0 (Update (codes "f") Delete Local) ∷ Asks 0 (Get (codes "f") Local) ∷ Asks 0 (Update (codes "g") (Add (codes "a")) Local) ∷ Asks 0 (Update (codes "g") Delete Local) ∷ Asks 0 (Update (codes "r") (Assign (codes "a") 9223372036854775807) Local) ∷ Asks 0 (Update (codes "r") Delete Local) ∷ Asks 0 (Update (codes "r") (Assign (codes "b") 5) Local) ∷ [])
    ≡ flat_map line_of
    (codes "1 update 0 c done"
    ∷ codes "2 update 0 c done"
    ∷ codes "3 update 0 c deleted"
    ∷ codes "4 update 0 f done"
    ∷ codes "5 get 0 f deleted"
    ∷ codes "6 update 0 g done"
    ∷ codes "7 update 0 g done"
    ∷ codes "8 update 0 r done"
    ∷ codes "9 update 0 r done"
    ∷ codes "10 update 0 r deleted"
    ∷ codes "final view 0"
    ∷ codes "member 0 place 0 view 0"
    ∷ codes "c deleted known 0:2 marks -"
    ∷ codes "f deleted known 0:1 marks -"
    ∷ codes "g deleted known 0:2 marks -"
    ∷ codes "r deleted known 0:2 marks -"
    ∷ [])

-- a full set may be deleted
abbrev pub DeletedFullSet : Kind → Type 0
DeletedFullSet kind =
    steps_text data_type shown_text 1 (lines_of data_type (with_history 0 many_adds (opening none_fails 1 (key (codes "s") kind ∷ [])))
    (Asks 0 (Update (codes "s") Delete Local) ∷ Asks 0 (Update (codes "s") (Add (codes "1000")) Local) ∷ []))
    ≡ flat_map line_of
    (codes "1 update 0 s done"
    ∷ codes "2 update 0 s deleted"
    ∷ [])
