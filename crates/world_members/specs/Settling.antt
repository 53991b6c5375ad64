-- The calls of a settle, one after another, where the lines of the settle so far are these events.
--     met_full, sent_in, last_blocked        what the lines say
--     installs, sweeps_twice, gossips, exchanges        what a script does in a settle, beside its own parts
--     Settles        a call did this, and told more events
--     HaltsIn        memory was wanted on the way
use Rattle.std.specs.Prelude.{ℕ, List, length, fold, Bool, true, false, nat_lt, Option, Some, None, option_map, unwrap_or, sum_by, MatchResult, Result}
use Rattle.std.specs.List.{AllZip, list_any}
use Rattle.model_history.specs.Texts.{Text}
use Rattle.model_members.specs.Node.{KeyDecl, Input}
use Rattle.model_members.specs.View.{View, identities_of}
use Rattle.model_members.specs.DataType.{Replication}
use Rattle.model_members.specs.World.Event.{InputAt}
use Rattle.model_members.specs.Script as script
use Rattle.model_members.specs.Script.{Ask, Playing, Head, blocked_in_answer, last_of, given, unless_full, install_last, sweep, exchange}
use Rattle.model_kinds.specs.declared.operation.Op.{Op}
use Rattle.model_kinds.specs.declared.shown.Shown.{Shown}
use Rattle.data_lattice.specs.declared.replica.Replica.{Ghosts}
use Rattle.data_lattice.specs.declared.spelled.SpelledData.{Ghosts as Spelling}
use Rattle.member_keeper.specs.declared.keeper.Keeper.{Ghosts as Keeping}
use Rattle.member_node.specs.declared.node.Node.{Node}
use Rattle.member_node.specs.Members.{meant}
use Rattle.world_members.specs.declared.event.Answer.{Answer}
use Rattle.world_members.specs.declared.event.Answer.TheVariants as answer
use Rattle.world_members.specs.declared.event.Event.{Event}
use Rattle.world_members.specs.declared.world.World.{World}
use Rattle.world_places.specs.Keeping.{Given, KeepsAt, IsKept}
use Rattle.world_members.specs.Lines.{IsLine}
use Rattle.world_places.specs.Places.{keeper_of}
use Rattle.world_members.specs.Steps.{Foretells, HaveAnswered}
use Rattle.world_members.specs.Ways.{IsPrefix, Means}

-- WHAT THE LINES SAY

abbrev pub is_full : Answer → Bool
is_full answer.HistoryFull = true
is_full _ = false

-- a member was full
abbrev pub met_full : List Event → Bool
met_full events = list_any (λ (event : Event). is_full event.answer) events

-- how many messages were sent
abbrev pub sent_in : List Event → ℕ
sent_in events = sum_by (λ (event : Event). length event.sent) events

-- how many outcomes of an answer are Blocked
abbrev pub blocked_in : Answer → ℕ
blocked_in (answer.Reply reply) = blocked_in_answer (script.Answer.Replied (meant reply))
blocked_in _ = 0

abbrev pub last_blocked : List Event → ℕ
last_blocked events = unwrap_or (option_map (λ (event : Event). blocked_in event.answer) (last_of events)) 0

-- WHAT A SCRIPT DOES

-- a member's view is older than the last one
abbrev pub is_behind : {T K Kind Op Delta : Type 0} {ghosts : Ghosts T Kind Op Delta} {keeping : Keeping K} → View → Option (Node T K Kind Op Delta ghosts keeping) → Bool
is_behind view None = false
is_behind view (Some node) = nat_lt node.view.number view.number

module _ {Kind Op Shown : Type 0} (D : Replication Kind Op Shown) where
  -- each member takes up the last view
  abbrev pub installs : Playing Kind Op Shown → Playing Kind Op Shown
  installs p = fold (install_last D) p (identities_of p.world.view)

  abbrev pub sweeps_twice : Playing Kind Op Shown → Playing Kind Op Shown
  sweeps_twice p = sweep D (sweep D p)

  -- a member gossips to the leader, unless a member was full
  abbrev pub gossips : (lead i : ℕ) → Playing Kind Op Shown → Playing Kind Op Shown
  gossips lead i = unless_full D (λ p. given D p (Head.Asked i (Ask.Gossip lead)) (InputAt i (Input.GossipTo lead)))

  abbrev pub exchanges : (lead i : ℕ) → Playing Kind Op Shown → Playing Kind Op Shown
  exchanges lead i p = exchange D lead p i

-- THE CALLS

module _ {T K Kind Delta : Type 0} {ghosts : Ghosts T Kind Op Delta} {keeping : Keeping K} (spelling : Spelling T Kind Op Delta) where
  -- the world then means where the script is, and its lines are these
  pub record Arrives (kinds : Text → Kind) (members : ℕ) (decls : List (KeyDecl Kind)) (p q : Playing Kind Op Shown) (given : Given) (new : World T K Kind Op Delta ghosts keeping) (events : List Event) : Type 0 where
    pub means : Means spelling kinds members decls q new
    pub lines : AllZip IsLine events q.lines
    pub calls : HaveAnswered p q given

  -- a script that the world means, and whose lines are the events before, goes so, and its lines are then the events after
  pub record Settles (goes : Playing Kind Op Shown → Playing Kind Op Shown) (old new : World T K Kind Op Delta ghosts keeping) (before after : List Event) : Type 0 where
    pub given : Given
    pub kept : (place : ℕ) → KeepsAt keeping (given place) (keeper_of old.nodes.items old.spare.items place) (keeper_of new.nodes.items new.spare.items place)
    pub leads : (kinds : Text → Kind) (members : ℕ) (decls : List (KeyDecl Kind)) (p : Playing Kind Op Shown) → Means spelling kinds members decls p old → Foretells p given → AllZip IsLine before p.lines
        → Arrives kinds members decls p (goes p) given new after

  -- the world means a place on the way
  pub record HaltsIn (goes : Playing Kind Op Shown → Playing Kind Op Shown) (old new : World T K Kind Op Delta ghosts keeping) (before : List Event) : Type 0 where
    pub given : Given
    pub kept : (place : ℕ) → IsKept keeping (keeper_of old.nodes.items old.spare.items place) (keeper_of new.nodes.items new.spare.items place)
    pub means : (kinds : Text → Kind) (members : ℕ) (decls : List (KeyDecl Kind)) (p : Playing Kind Op Shown) → Means spelling kinds members decls p old → Foretells p given → AllZip IsLine before p.lines
        → (q : Playing Kind Op Shown) × Means spelling kinds members decls q new × IsPrefix p.events q.events × IsPrefix q.events (goes p).events

  -- a call of a settle did this, or wanted memory
  abbrev pub SettlesOr : {X Refusal : Type 0} → (Playing Kind Op Shown → Playing Kind Op Shown) → (old new : World T K Kind Op Delta ghosts keeping) → (before after : List Event) → Result X Refusal → Type 0
  SettlesOr goes old new before after result = MatchResult result (λ _. Settles goes old new before after) (λ _. HaltsIn goes old new before)
