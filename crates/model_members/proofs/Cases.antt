-- The cases of a member's step and of an event, each by a name that proofs can cite: what the step is, once what it looks up is known.
use Rattle.std.specs.Prelude.{ℕ, List, [], ◌∷◌, ◌++◌, true, false, nat_lt, nat_le, if◌then◌else◌, Option, None, Some, not, option_map, option_and_then, length, map, filter, ◌==◌}
use Rattle.model_history.specs.Texts.{Text}
use Rattle.model_history.specs.Vector.{members_of}
use Rattle.model_history.specs.History.{Action}
use Rattle.model_meanings.specs.Refusal.{Refusal, Shares}
use Rattle.model_members.specs.Entry.{Entry, Group, Judgement, Mark, Tick, Outcome, unseen, judged, marked, merged, seen_by, with_action, with_group, with_prune}
use Rattle.model_members.specs.Entry.Judgement.{Wanted, Stale, Missing}
use Rattle.model_members.specs.DataType.{Replication}
use Rattle.model_members.specs.Message.{Message}
use Rattle.model_members.specs.Message.Message.{Write, Read}
use Rattle.model_members.specs.Node.{KeyState, OpenOperation, Finished, Node, Level, Input, Fate, Stepped, with_entry, needed}
use Rattle.model_members.specs.Node.Reply.{Done, UnknownKey, Deleted, WrongKind, TooFew, Refused, NotStored}
use Rattle.model_members.specs.Step.{AfterGroups, Ticking, answered, opened, member_count, has_failed, is_entry_passed_over, is_group_passed_over, value_reply, meaning_of, with_answer, result_of, tick_key}
use Rattle.model_members.specs.World.{World, after_turn, turn_at, moved_on}

-- TAKING ENTRIES AND GROUPS

module _ {Kind Op Shown : Type 0} where
  abbrev pub with_taken_entry : Node Kind Op Shown → Option (KeyState Kind Op) → Entry Op → Node Kind Op Shown
  with_taken_entry node state theirs = elim state [
    | None ↦ node
    | Some k ↦ if is_entry_passed_over node.identity k.entry theirs then node
        else with_entry node k.name (seen_by node.identity node.view.number (merged k.entry theirs))
  ]

  abbrev pub with_judged : AfterGroups Kind Op Shown → KeyState Kind Op → Group Op → Judgement → AfterGroups Kind Op Shown
  with_judged so_far k group judgement = elim judgement [
    | Wanted ↦ record so_far { node = with_entry so_far.node k.name (with_group k.entry group) }
    | Stale ↦ so_far
    | Missing i ↦ record so_far { gaps = so_far.gaps ++ record { key = k.name; lacking = i } ∷ [] }
  ]

  abbrev pub with_taken_group : AfterGroups Kind Op Shown → Option (KeyState Kind Op) → Group Op → AfterGroups Kind Op Shown
  with_taken_group so_far state group = elim state [
    | None ↦ so_far
    | Some k ↦ if is_group_passed_over so_far.node.identity k.entry group then so_far else with_judged so_far k group (judged k.entry group)
  ]

abbrev pub judged_by : Option ℕ → Judgement
judged_by lacking = elim lacking [ None ↦ Wanted | Some i ↦ Missing i ]

-- UPDATES AND GETS

module _ {Kind Op Shown : Type 0} (D : Replication Kind Op Shown) where
  abbrev pub accepted : Node Kind Op Shown → Text → ℕ → Fate → Entry Op → Stepped Kind Op Shown
  accepted node key n fate entry =
      let after = with_entry node key entry in
      if has_failed fate then answered after NotStored
      else (if nat_le n 1 then answered after Done else opened after key false n (Write node.next_op key entry))

  abbrev pub updated_unless : Node Kind Op Shown → KeyState Kind Op → Op → ℕ → Fate → Option Refusal → Stepped Kind Op Shown
  updated_unless node k op n fate refused = elim refused [
    | Some refusal ↦ answered node (Refused refusal)
    | None ↦ accepted node k.name n fate (with_action k.entry node.identity (Action.Operation op))
  ]

  abbrev pub updated_needing : Node Kind Op Shown → KeyState Kind Op → Op → Option ℕ → Fate → Stepped Kind Op Shown
  updated_needing node k op number fate = elim number [
    | None ↦ answered node TooFew
    | Some n ↦ updated_unless node k op n fate (D.data_type.refusal k.kind node.identity op k.entry.history)
  ]

  abbrev pub updated_undeleted : Node Kind Op Shown → KeyState Kind Op → Op → Level → Fate → Stepped Kind Op Shown
  updated_undeleted node k op level fate = if D.data_type.fits k.kind op then updated_needing node k op (needed level (member_count node)) fate else answered node WrongKind

  abbrev pub updated : Node Kind Op Shown → Option (KeyState Kind Op) → Op → Level → Fate → Stepped Kind Op Shown
  updated node state op level fate = elim state [
    | None ↦ answered node UnknownKey
    | Some k ↦ if D.data_type.deleted k.entry.history then answered node Deleted else updated_undeleted node k op level fate
  ]

  abbrev pub got_needing : Node Kind Op Shown → KeyState Kind Op → Option ℕ → Stepped Kind Op Shown
  got_needing node k number = elim number [
    | None ↦ answered node TooFew
    | Some n ↦ if nat_le n 1 then answered node (value_reply D (meaning_of D k)) else opened node k.name true n (Read node.next_op k.name)
  ]

  abbrev pub got : Node Kind Op Shown → Option (KeyState Kind Op) → Level → Stepped Kind Op Shown
  got node state level = elim state [ None ↦ answered node UnknownKey | Some k ↦ got_needing node k (needed level (member_count node)) ]

  -- COUNTING ANSWERS

  abbrev pub counted_for : Stepped Kind Op Shown → ℕ → Option OpenOperation → Stepped Kind Op Shown
  counted_for stepped from asked = elim asked [
    | None ↦ stepped
    | Some operation ↦
        let node = stepped.node in
        let now = with_answer from operation in
        let rest = filter (λ (o : OpenOperation). not (o.op == operation.op)) node.open_operations in
        let end : Finished Shown = record { op = operation.op; result = result_of D node operation } in
        if nat_le operation.needed (length (members_of now.counted))
        then record { node = record node { open_operations = rest; finished = node.finished ++ end ∷ [] }; output = record stepped.output { ended = Some end } }
        else record stepped { node = record node { open_operations = map (λ (o : OpenOperation). if o.op == operation.op then now else o) node.open_operations } }
  ]

  -- TICKS

  abbrev pub with_tick : KeyState Kind Op → Ticking Op → ℕ → Tick Op → Ticking Op
  with_tick k so_far r tick = record { entry = tick.entry; outcomes = so_far.outcomes ++ record { key = k.name; removed = r; outcome = tick.outcome } ∷ [] }

  abbrev pub entry_after_tick_of : Node Kind Op Shown → Option (KeyState Kind Op) → Entry Op → Entry Op
  entry_after_tick_of node state entry = elim state [ None ↦ entry | Some k ↦ (tick_key D node k).entry ]

module _ {Op : Type 0} (blocked : Option Shares) (leader view : ℕ) (members : List ℕ) (entry : Entry Op) (r : ℕ) where
  abbrev pub performed : Tick Op
  performed = record { outcome = Outcome.Performed; entry = with_prune entry leader r }

  abbrev pub performed_unless : Option Shares → Tick Op
  performed_unless shares = elim shares [ Some shares ↦ record { outcome = Outcome.Blocked shares; entry = entry } | None ↦ performed ]

  abbrev pub ticked_seen : Option ℕ → Tick Op
  ticked_seen waits_for = elim waits_for [ Some i ↦ record { outcome = Outcome.WaitingFor i; entry = entry } | None ↦ performed_unless blocked ]

  abbrev pub ticked_mark : Option Mark → Tick Op
  ticked_mark mark = elim mark [
    | None ↦ marked blocked leader view members entry r
    | Some mark ↦ if nat_lt mark.view view then marked blocked leader view members entry r
        else (if nat_lt view mark.view then record { outcome = Outcome.Newer; entry = entry } else ticked_seen (unseen mark members))
  ]

-- EVENTS

module _ {Kind Op Shown : Type 0} (D : Replication Kind Op Shown) where
  -- a member takes an input, if it runs
  abbrev pub stepped_at : World Kind Op Shown → ℕ → Option (Node Kind Op Shown) → Input Op → Fate → World Kind Op Shown
  stepped_at world i node input fate = after_turn D world (option_map (λ node. record { at = i; before = node; input = input; fate = fate }) node)

  -- it takes a message, if there is one
  abbrev pub delivered : World Kind Op Shown → ℕ → ℕ → ℕ → Option (Message Op) → Fate → World Kind Op Shown
  delivered world from to index message fate =
      after_turn D (record world { links = moved_on world.links from to index }) (option_and_then (λ message. turn_at world to (Input.Take from message) fate) message)
