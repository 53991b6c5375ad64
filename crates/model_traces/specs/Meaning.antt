-- What it means that a trace is lawful: every member's history is a consistent cut of the records made, and what it shows is a function of how many it holds.
use Rattle.std.specs.Prelude.{◌≡◌, ◌↔◌, ℕ, ◌-◌, ◌<◌, ◌≤◌, ◌==◌, List, [], ◌∷◌, ◌++◌, Bool, if◌then◌else◌, Some, find}
use Rattle.std.specs.List.{AllByRecursion, list_all}
use Rattle.std.specs.Str.{bytes_eq}
use Rattle.model_history.specs.Table.{identity_limit, identities}
use Rattle.model_history.specs.Texts.{Text}
use Rattle.model_history.specs.Vector.{VersionVector, none_counted}
use Rattle.model_history.specs.Cuts.{past_of}
use Rattle.model_history.specs.Log.{IsTakenFrom}
use Rattle.model_history.specs.History.{Record, History, at, versions, HasRecord, IsPartOf, IsHistory, IsExactlyPruned}
use Rattle.model_members.specs.DataType.{DataType, meaning}
use Rattle.model_members.specs.Node.{KeyDecl}
use Rattle.model_traces.specs.Traces.{covers, meaning_text, TraceLine, Trace, TraceState, nothing_traced, after_lines, IsLawful, BreaksFirst, verdict}
use Rattle.model_traces.specs.Traces.Verdict.{Broken}
use Rattle.model_traces.specs.Traces.Act.{Shows}

-- WHAT THE TESTS SAY

-- records are those of identities
abbrev pub IsWithin : {Op : Type 0} → History Op → Type 0
IsWithin H = (i : ℕ) → identity_limit ≤ i → H i ≡ []

-- at each identity it counts no fewer
abbrev pub CoversAt : VersionVector → VersionVector → Type 0
CoversAt vector other = (i : ℕ) → i < identity_limit → other i ≤ vector i

-- it holds the past of each of its records
abbrev pub IsClosed : {Op : Type 0} → History Op → Type 0
IsClosed {Op} H = (i k : ℕ) (r : Record Op) → HasRecord H i k r → CoversAt (versions H) r.past

-- the past of the last record that is counted of an identity, if one is
abbrev pub last_past : {Op : Type 0} → History Op → VersionVector → ℕ → VersionVector
last_past made known i = if known i == 0 then none_counted else past_of made i (known i - 1)

-- a test that looks at the last records alone
abbrev pub covers_last_pasts : {Op : Type 0} → History Op → VersionVector → Bool
covers_last_pasts made known = list_all (λ i. covers known (last_past made known i)) identities

-- WHAT A LAWFUL TRACE MEANS

-- the member is an identity
abbrev pub IsOfIdentity : {Op : Type 0} → TraceLine Op → Type 0
IsOfIdentity line = line.member < identity_limit

-- the records made are a history, of which each member holds a part that is closed under past, exactly pruned, and has all of its own records
pub record IsConsistent {Op : Type 0} (state : TraceState Op) : Type 0 where
  pub histories : (key : Text) → IsHistory (state.made key)
  pub taken : (i : ℕ) (key : Text) → IsTakenFrom (state.made key) (state.held i key)
  pub own : (i : ℕ) (key : Text) → state.held i key i ≡ state.made key i
  pub exact : (i : ℕ) (key : Text) → IsExactlyPruned (state.held i key)

-- a line by which a member that holds H shows a text
pub record ShowsOf {Kind Op : Type 0} (trace : Trace Kind Op) (i : ℕ) (key text : Text) (H : History Op) : Type 0 where
  pub before : List (TraceLine Op)
  pub rest : List (TraceLine Op)
  pub are : trace.lines ≡ before ++ record { member = i; key = key; act = Shows text } ∷ rest
  pub held : (after_lines nothing_traced before).held i key ≡ H

module _ {Kind Op Shown : Type 0} (D : DataType Kind Op Shown) (value_text : Shown → Text) where
  -- at each line the state is consistent, and no record made is lost
  pub record IsConsistentTrace (trace : Trace Kind Op) : Type 0 where
    pub throughout : (before rest : List (TraceLine Op)) → trace.lines ≡ before ++ rest → IsConsistent (after_lines nothing_traced before)
    pub grows : (before rest : List (TraceLine Op)) → trace.lines ≡ before ++ rest → (key : Text) → IsPartOf ((after_lines nothing_traced before).made key) ((after_lines nothing_traced trace.lines).made key)

  -- whoever shows a key that holds as many records of each identity holds the same history, and shows the same text: that of what the history means
  pub record ShowsAlike (trace : Trace Kind Op) : Type 0 where
    pub meant : (i : ℕ) (key text : Text) (H : History Op) → ShowsOf trace i key text H → (decl : KeyDecl Kind) × (find (λ d. bytes_eq d.name key) trace.keys ≡ Some decl) × (meaning_text value_text (meaning D decl.kind H) ≡ text)
    pub alike : (i j : ℕ) (key text other : Text) (H J : History Op) → ShowsOf trace i key text H → ShowsOf trace j key other J → ((origin : ℕ) → at H origin ≡ at J origin) → (H ≡ J) × (text ≡ other)

  -- the verdict names a line and a rule exactly where the line is the first that breaks one, and this is the least
  abbrev pub TellsFirstBreak : Trace Kind Op → Type 0
  TellsFirstBreak trace = (line rule : ℕ) → (verdict D value_text trace ≡ Broken line rule) ↔ BreaksFirst D value_text trace.keys nothing_traced trace.lines line rule

  -- if its lines are of identities and it is lawful, it is consistent
  abbrev pub IsConsistentIfLawful : Trace Kind Op → Type 0
  IsConsistentIfLawful trace = AllByRecursion IsOfIdentity trace.lines → IsLawful D value_text trace → IsConsistentTrace trace
