-- Worked scripts with subscriptions, and their reports.
use Rattle.std.specs.Prelude.{◌≡◌, [], ◌∷◌, codes, flat_map}
use Rattle.model_members.specs.Node.Level.{All}
use Rattle.model_members.specs.Report.{line_of}
use Rattle.model_members.specs.Script.{Ask, ScriptStep}
use Rattle.model_kinds.specs.declared.kind.Kind.TheVariants.{GCounter, OrSet}
use Rattle.model_kinds.specs.declared.operation.Op.TheVariants.{Increment, Add, Delete}
use Rattle.model_rows.specs.Words.{key, durable_key}
use Rattle.theorem_watching.specs.Watching.WatchStep.{Plain, Subscribe, Unsubscribe}
use Rattle.theorem_watching.specs.Words.{watch, update, flush, gossip, round, remove, restart}

-- a change that comes as a delta is told at the first flush after it, and once
abbrev pub Notices : Type 0
Notices =
    watch 2 (key (codes "n") GCounter ∷ [])
    (Subscribe 1 7 (codes "n") ∷ update 0 (codes "n") (Increment 5) ∷ flush 0 ∷ flush 1 ∷ round ∷ flush 1 ∷ flush 1 ∷ Unsubscribe 1 7 (codes "n") ∷ [])
    ≡ flat_map line_of
    (codes "1 subscribe 1 7 n subscribed"
    ∷ codes "2 update 0 n done"
    ∷ codes "3 flush 0 done sent 1:deltas/1/0"
    ∷ codes "4 flush 1 done"
    ∷ codes "5 deliver 0>1 0 deltas/1/0 taken"
    ∷ codes "6 flush 1 done"
    ∷ codes "6 notice 1 7 n 5"
    ∷ codes "7 flush 1 done"
    ∷ codes "8 unsubscribe 1 7 n unsubscribed"
    ∷ codes "final view 0"
    ∷ codes "member 0 place 0 view 0"
    ∷ codes "n 5 known 0:1 marks -"
    ∷ codes "member 1 place 1 view 0"
    ∷ codes "n 5 known 0:1 marks -"
    ∷ [])

-- each answer to a request that changes nothing
abbrev pub RefusedRequests : Type 0
RefusedRequests =
    watch 1 (key (codes "n") GCounter ∷ [])
    (Subscribe 3 1 (codes "n") ∷ Subscribe 0 1 (codes "zz") ∷ Subscribe 0 1 (codes "n") ∷ Subscribe 0 1 (codes "n") ∷ Unsubscribe 0 2 (codes "n") ∷ Unsubscribe 0 1 (codes "zz") ∷ Unsubscribe 3 1 (codes "n") ∷ [])
    ≡ flat_map line_of
    (codes "1 subscribe 3 1 n gone"
    ∷ codes "2 subscribe 0 1 zz unknown key"
    ∷ codes "3 subscribe 0 1 n subscribed"
    ∷ codes "4 subscribe 0 1 n already subscribed"
    ∷ codes "5 unsubscribe 0 2 n not subscribed"
    ∷ codes "6 unsubscribe 0 1 zz unknown key"
    ∷ codes "7 unsubscribe 3 1 n gone"
    ∷ codes "final view 0"
    ∷ codes "member 0 place 0 view 0"
    ∷ codes "n - known - marks -"
    ∷ [])

-- a change that comes as a whole entry
abbrev pub AfterMerge : Type 0
AfterMerge =
    watch 2 (key (codes "n") GCounter ∷ [])
    (Subscribe 1 1 (codes "n") ∷ Plain (ScriptStep.Asks 0 (Ask.Update (codes "n") (Increment 5) All)) ∷ round ∷ flush 1 ∷ [])
    ≡ flat_map line_of
    (codes "1 subscribe 1 1 n subscribed"
    ∷ codes "2 update 0 n pending 0 sent 1:write"
    ∷ codes "3 deliver 0>1 0 write taken sent 0:write-ack"
    ∷ codes "4 flush 1 done"
    ∷ codes "4 notice 1 1 n 5"
    ∷ codes "final view 0"
    ∷ codes "member 0 place 0 view 0"
    ∷ codes "n 5 known 0:1 marks -"
    ∷ codes "member 1 place 1 view 0"
    ∷ codes "n 5 known 0:1 marks -"
    ∷ [])

-- a change that comes by gossip
abbrev pub AfterGossip : Type 0
AfterGossip =
    watch 2 (key (codes "n") GCounter ∷ [])
    (Subscribe 1 1 (codes "n") ∷ update 0 (codes "n") (Increment 5) ∷ gossip 1 0 ∷ round ∷ round ∷ flush 1 ∷ [])
    ≡ flat_map line_of
    (codes "1 subscribe 1 1 n subscribed"
    ∷ codes "2 update 0 n done"
    ∷ codes "3 gossip 1 0 done sent 0:status/0"
    ∷ codes "4 deliver 1>0 0 status/0 taken sent 1:gossip/1/0"
    ∷ codes "5 deliver 0>1 0 gossip/1/0 taken"
    ∷ codes "6 flush 1 done"
    ∷ codes "6 notice 1 1 n 5"
    ∷ codes "final view 0"
    ∷ codes "member 0 place 0 view 0"
    ∷ codes "n 5 known 0:1 marks -"
    ∷ codes "member 1 place 1 view 0"
    ∷ codes "n 5 known 0:1 marks -"
    ∷ [])

-- other records of the same value are no news
abbrev pub SameValue : Type 0
SameValue =
    watch 2 (key (codes "s") OrSet ∷ [])
    (Subscribe 1 1 (codes "s") ∷ update 0 (codes "s") (Add (codes "x")) ∷ flush 0 ∷ round ∷ flush 1 ∷ update 0 (codes "s") (Add (codes "x")) ∷ flush 0 ∷ round ∷ flush 1 ∷ [])
    ≡ flat_map line_of
    (codes "1 subscribe 1 1 s subscribed"
    ∷ codes "2 update 0 s done"
    ∷ codes "3 flush 0 done sent 1:deltas/1/0"
    ∷ codes "4 deliver 0>1 0 deltas/1/0 taken"
    ∷ codes "5 flush 1 done"
    ∷ codes "5 notice 1 1 s {\"x\"}"
    ∷ codes "6 update 0 s done"
    ∷ codes "7 flush 0 done sent 1:deltas/1/0"
    ∷ codes "8 deliver 0>1 1 deltas/1/0 taken"
    ∷ codes "9 flush 1 done"
    ∷ codes "final view 0"
    ∷ codes "member 0 place 0 view 0"
    ∷ codes "s {\"x\"} known 0:2 marks -"
    ∷ codes "member 1 place 1 view 0"
    ∷ codes "s {\"x\"} known 0:2 marks -"
    ∷ [])

-- a delete is told as the last value
abbrev pub DeletedKey : Type 0
DeletedKey =
    watch 1 (key (codes "n") GCounter ∷ [])
    (Subscribe 0 1 (codes "n") ∷ update 0 (codes "n") (Increment 2) ∷ flush 0 ∷ update 0 (codes "n") Delete ∷ flush 0 ∷ flush 0 ∷ [])
    ≡ flat_map line_of
    (codes "1 subscribe 0 1 n subscribed"
    ∷ codes "2 update 0 n done"
    ∷ codes "3 flush 0 done"
    ∷ codes "3 notice 0 1 n 2"
    ∷ codes "4 update 0 n done"
    ∷ codes "5 flush 0 done"
    ∷ codes "5 notice 0 1 n deleted"
    ∷ codes "6 flush 0 done"
    ∷ codes "final view 0"
    ∷ codes "member 0 place 0 view 0"
    ∷ codes "n deleted known 0:2 marks -"
    ∷ [])

-- a subscription ends when its member is removed, and no other does
abbrev pub EndedByRemove : Type 0
EndedByRemove =
    watch 2 (key (codes "n") GCounter ∷ [])
    (Subscribe 1 1 (codes "n") ∷ Subscribe 0 1 (codes "n") ∷ update 0 (codes "n") (Increment 1) ∷ remove 1 ∷ flush 1 ∷ Unsubscribe 1 1 (codes "n") ∷ flush 0 ∷ [])
    ≡ flat_map line_of
    (codes "1 subscribe 1 1 n subscribed"
    ∷ codes "2 subscribe 0 1 n subscribed"
    ∷ codes "3 update 0 n done"
    ∷ codes "4 remove 1 view 1"
    ∷ codes "5 flush 1 gone"
    ∷ codes "6 unsubscribe 1 1 n gone"
    ∷ codes "7 flush 0 done sent 1:deltas/1/0"
    ∷ codes "7 notice 0 1 n 1"
    ∷ codes "final view 1"
    ∷ codes "member 0 place 0 view 0"
    ∷ codes "n 1 known 0:1 marks -"
    ∷ [])

-- who comes back under another identity has no subscriptions; who subscribes there is told what was kept
abbrev pub EndedByRestart : Type 0
EndedByRestart =
    watch 1 (durable_key (codes "d") GCounter ∷ [])
    (Subscribe 0 1 (codes "d") ∷ update 0 (codes "d") (Increment 1) ∷ flush 0 ∷ restart 0 ∷ flush 1 ∷ Subscribe 1 1 (codes "d") ∷ flush 1 ∷ [])
    ≡ flat_map line_of
    (codes "1 subscribe 0 1 d subscribed"
    ∷ codes "2 update 0 d done"
    ∷ codes "3 flush 0 done"
    ∷ codes "3 notice 0 1 d 1"
    ∷ codes "4 restart 0 id 1 view 1"
    ∷ codes "5 flush 1 done"
    ∷ codes "6 subscribe 1 1 d subscribed"
    ∷ codes "7 flush 1 done"
    ∷ codes "7 notice 1 1 d 1"
    ∷ codes "final view 1"
    ∷ codes "member 1 place 0 view 1"
    ∷ codes "d 1 known 0:1 marks -"
    ∷ [])

-- who ends a subscription and subscribes again is told again
abbrev pub SubscribedAgain : Type 0
SubscribedAgain =
    watch 1 (key (codes "n") GCounter ∷ [])
    (Subscribe 0 1 (codes "n") ∷ update 0 (codes "n") (Increment 1) ∷ flush 0 ∷ Unsubscribe 0 1 (codes "n") ∷ flush 0 ∷ Subscribe 0 1 (codes "n") ∷ flush 0 ∷ [])
    ≡ flat_map line_of
    (codes "1 subscribe 0 1 n subscribed"
    ∷ codes "2 update 0 n done"
    ∷ codes "3 flush 0 done"
    ∷ codes "3 notice 0 1 n 1"
    ∷ codes "4 unsubscribe 0 1 n unsubscribed"
    ∷ codes "5 flush 0 done"
    ∷ codes "6 subscribe 0 1 n subscribed"
    ∷ codes "7 flush 0 done"
    ∷ codes "7 notice 0 1 n 1"
    ∷ codes "final view 0"
    ∷ codes "member 0 place 0 view 0"
    ∷ codes "n 1 known 0:1 marks -"
    ∷ [])

-- notices come by keys in byte order, and then by clients; a client that comes later is told what stands
abbrev pub InOrder : Type 0
InOrder =
    watch 1 (key (codes "a") GCounter ∷ key (codes "n") GCounter ∷ [])
    (Subscribe 0 4 (codes "n") ∷ Subscribe 0 2 (codes "a") ∷ Subscribe 0 1 (codes "n") ∷ update 0 (codes "n") (Increment 1) ∷ update 0 (codes "a") (Increment 2) ∷ flush 0 ∷ Subscribe 0 3 (codes "n") ∷ flush 0 ∷ [])
    ≡ flat_map line_of
    (codes "1 subscribe 0 4 n subscribed"
    ∷ codes "2 subscribe 0 2 a subscribed"
    ∷ codes "3 subscribe 0 1 n subscribed"
    ∷ codes "4 update 0 n done"
    ∷ codes "5 update 0 a done"
    ∷ codes "6 flush 0 done"
    ∷ codes "6 notice 0 2 a 2"
    ∷ codes "6 notice 0 1 n 1"
    ∷ codes "6 notice 0 4 n 1"
    ∷ codes "7 subscribe 0 3 n subscribed"
    ∷ codes "8 flush 0 done"
    ∷ codes "8 notice 0 3 n 1"
    ∷ codes "final view 0"
    ∷ codes "member 0 place 0 view 0"
    ∷ codes "a 2 known 0:1 marks -"
    ∷ codes "n 1 known 0:1 marks -"
    ∷ [])
