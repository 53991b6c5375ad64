-- Traces: what members record, hold and show, a line each, and what a line breaks.
--     TraceLine, Trace              a member makes a record of a key, holds some records of it, or shows a text of it
--     TraceState, after_line        all records so far, and what each member holds of each key
--     broken_rule                   the least of four rules that a line breaks
--     IsLawful, verdict             no line breaks a rule; the first line that does, and its rule
use Rattle.std.specs.Prelude.{◌≡◌, ℕ, suc, ◌+◌, List, [], ◌∷◌, ◌++◌, length, Bool, true, nat_lt, nat_le, ◌==◌, ◌&&◌, ◌||◌, not, if◌then◌else◌, Option, None, Some, find, codes}
use Rattle.std.specs.List.{list_all}
use Rattle.std.specs.Str.{bytes_eq}
use Rattle.model_history.specs.Table.{identities, with_at}
use Rattle.model_history.specs.Texts.{Text}
use Rattle.model_history.specs.Vector.{VersionVector}
use Rattle.model_history.specs.History.{Action, History, Stamped, no_records, at, versions, cut, with_record, all_records, is_prune_of, is_pruned}
use Rattle.model_history.specs.History.Action.{Operation, Prune}
use Rattle.model_members.specs.DataType.{DataType, Meaning, meaning}
use Rattle.model_members.specs.Node.{KeyDecl, with_text_at}

-- what a member does with a key: it makes a record; it holds so many records of each identity; it shows a text
pub data Act (Op : Type 0) : Type 0 where
  Records : Action Op → Act Op
  Holds : (known : VersionVector) → Act Op
  Shows : (text : Text) → Act Op

pub record TraceLine (Op : Type 0) : Type 0 where
  pub member : ℕ
  pub key : Text
  pub act : Act Op

pub record Trace (Kind Op : Type 0) : Type 0 where
  pub keys : List (KeyDecl Kind)
  pub lines : List (TraceLine Op)

-- where a trace has come to: of each key all records so far, and what each identity holds
pub record TraceState (Op : Type 0) : Type 0 where
  pub made : Text → History Op
  pub held : ℕ → Text → History Op

module _ {Op : Type 0} where
  -- nobody made or holds a record
  abbrev pub nothing_traced : TraceState Op
  nothing_traced = record { made = λ key. no_records; held = λ i key. no_records }

  -- a member's next record: its past is all that the member holds
  abbrev pub recorded : History Op → ℕ → History Op → Action Op → History Op
  recorded H i past action = with_record H i (record { action = action; past = versions past })

  -- all records of the key after a member that held H did this
  abbrev pub made_after : History Op → ℕ → History Op → Act Op → History Op
  made_after made i H (Records action) = recorded made i H action
  made_after made i H _ = made

  -- what the member then holds of the key
  abbrev pub held_after : History Op → ℕ → History Op → Act Op → History Op
  held_after made i H (Records action) = recorded H i H action
  held_after made i H (Holds known) = cut made known
  held_after made i H (Shows text) = H

  abbrev pub after_line : TraceState Op → TraceLine Op → TraceState Op
  after_line state line =
      let made = state.made line.key in
      let H = state.held line.member line.key in
      record {
        made = with_text_at state.made line.key (made_after made line.member H line.act);
        held = with_at state.held line.member (with_text_at (state.held line.member) line.key (held_after made line.member H line.act));
      }

  abbrev pub after_lines : TraceState Op → List (TraceLine Op) → TraceState Op
  after_lines state [] = state
  after_lines state (line ∷ lines) = after_lines (after_line state line) lines

-- TESTS OF HISTORIES

abbrev pub covers : VersionVector → VersionVector → Bool
covers vector other = list_all (λ i. nat_le (other i) (vector i)) identities

module _ {Op : Type 0} where
  abbrev pub is_none : History Op → Bool
  is_none H = list_all (λ i. at H i == 0) identities

  -- it holds the past of each of its records
  abbrev pub is_closed : History Op → Bool
  is_closed H = list_all (λ x. covers (versions H) x.past) (all_records H)

  abbrev pub is_same_record : Stamped Op → Stamped Op → Bool
  is_same_record x y = (x.origin == y.origin) && (x.number == y.number)

  -- a record that prunes an identity is its one prune, and the history has no record of it beside those in the prune's past
  abbrev pub prunes_exactly : History Op → Stamped Op → Action Op → Bool
  prunes_exactly H x (Operation op) = true
  prunes_exactly H x (Prune r) = (at H r == x.past r) && list_all (λ y. not (is_prune_of r y.action) || is_same_record x y) (all_records H)

  abbrev pub is_exactly_pruned : History Op → Bool
  is_exactly_pruned H = list_all (λ x. prunes_exactly H x x.action) (all_records H)

-- WHAT A LINE BREAKS

-- the text of what a history means: of its value, or that its key is deleted
abbrev pub meaning_text : {Shown : Type 0} → (Shown → Text) → Meaning Shown → Text
meaning_text value_text Meaning.IsDeleted = codes "deleted"
meaning_text value_text (Meaning.Shows value) = value_text value

module _ {Kind Op Shown : Type 0} (D : DataType Kind Op Shown) (value_text : Shown → Text) where
  -- an operation is of the key's kind, or a delete, and the member holds no delete. A pruned identity isn't the member, and the member holds a record and no prune of it
  abbrev pub may_record : Kind → ℕ → History Op → Act Op → Bool
  may_record kind i H (Records (Operation op)) = D.fits kind op && not (D.deleted H)
  may_record kind i H (Records (Prune r)) = not (r == i) && nat_lt 0 (at H r) && not (is_pruned H r)
  may_record kind i H _ = true

  -- what is held covers what the member held, counts records of earlier lines alone, and is closed under past
  abbrev pub may_hold : History Op → History Op → Act Op → Bool
  may_hold made H (Holds known) = covers known (versions H) && covers (versions made) known && is_closed (cut made known)
  may_hold made H _ = true

  -- the member holds a record, and shows the text of what its history means
  abbrev pub may_show : Kind → History Op → Act Op → Bool
  may_show kind H (Shows text) = not (is_none H) && bytes_eq (meaning_text value_text (meaning D kind H)) text
  may_show kind H _ = true

  -- the least rule that an act of a member breaks, where it held H of a key of this kind
  abbrev pub broken_by : Kind → History Op → ℕ → History Op → Act Op → Option ℕ
  broken_by kind made i H act =
      let now = held_after made i H act in
      if not (may_record kind i H act) then Some 1
      else (if not (may_hold made H act) then Some 2
      else (if not (is_exactly_pruned now) then Some 3
      else (if not (may_show kind now act) then Some 4 else None)))

  -- the least rule that a line breaks. A line of an undeclared key breaks the first
  abbrev pub broken_rule : List (KeyDecl Kind) → TraceState Op → TraceLine Op → Option ℕ
  broken_rule keys state line = elim (find (λ decl. bytes_eq decl.name line.key) keys) [
    | None ↦ Some 1
    | Some decl ↦ broken_by decl.kind (state.made line.key) line.member (state.held line.member line.key) line.act
  ]

  -- none of the lines breaks a rule
  abbrev pub AreLawful : List (KeyDecl Kind) → TraceState Op → List (TraceLine Op) → Type 0
  AreLawful keys state [] = Unit {0}
  AreLawful keys state (line ∷ lines) = (broken_rule keys state line ≡ None) × AreLawful keys (after_line state line) lines

  -- A LAWFUL TRACE
  abbrev pub IsLawful : Trace Kind Op → Type 0
  IsLawful trace = AreLawful trace.keys nothing_traced trace.lines

  -- the line of this number is the first that breaks a rule, and this is the least that it breaks
  pub record BreaksFirst (keys : List (KeyDecl Kind)) (state : TraceState Op) (lines : List (TraceLine Op)) (number rule : ℕ) : Type 0 where
    pub before : List (TraceLine Op)
    pub line : TraceLine Op
    pub rest : List (TraceLine Op)
    pub are : lines ≡ before ++ line ∷ rest
    pub numbered : number ≡ length before + 1
    pub lawful : AreLawful keys state before
    pub breaks : broken_rule keys (after_lines state before) line ≡ Some rule

-- the trace is lawful, or a line of this number is the first that breaks a rule, and this is the least
pub data Verdict : Type 0 where
  Lawful : Verdict
  Broken : (line rule : ℕ) → Verdict

module _ {Kind Op Shown : Type 0} (D : DataType Kind Op Shown) (value_text : Shown → Text) where
  abbrev pub verdict_from : List (KeyDecl Kind) → TraceState Op → ℕ → List (TraceLine Op) → Verdict
  verdict_from keys state n [] = Lawful
  verdict_from keys state n (line ∷ lines) = elim (broken_rule D value_text keys state line) [
    | None ↦ verdict_from keys (after_line state line) (suc n) lines
    | Some rule ↦ Broken n rule
  ]

  abbrev pub verdict : Trace Kind Op → Verdict
  verdict trace = verdict_from trace.keys nothing_traced 1 trace.lines
