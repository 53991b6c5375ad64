-- What the words of the command line ask for.
use Rattle.std.specs.Prelude.{◌≡◌, ℕ, ◌≤◌, List, [], ◌∷◌, map, codes, decimal, String, string_bytes, ⊤, Option, None, Some}
use Rattle.std.specs.declared.alloc.Global.{Global}
use Rattle.script_reading.specs.declared.clients.Clients.{Clients}
use Rattle.script_reading.specs.declared.clients.Clients.TheVariants.{Allowed, Refused, Following}
use Rattle.top_call.specs.declared.words.Asked.{Asked}
use Rattle.top_call.specs.declared.words.Asked.TheVariants.{Report, Generate, Summarize, Behind, Upgrade, Trace, Check}

-- the most steps that a script is generated with, its last two apart
abbrev pub most_steps : ℕ
most_steps = 4094

-- the most stores that are handed on together
abbrev pub most_period : ℕ
most_period = 64

-- a word is this number of steps
abbrev pub IsCount : ℕ → List ℕ → Type 0
IsCount n word = (word ≡ decimal n) × (1 ≤ n) × (n ≤ most_steps)

-- its number of steps is one that a script is generated with, and its number of stores one that are handed on together
abbrev pub IsCounted : Asked → Type 0
IsCounted (Report clients) = ⊤
IsCounted (Generate n) = (1 ≤ n) × (n ≤ most_steps)
IsCounted (Summarize n) = (1 ≤ n) × (n ≤ most_steps)
IsCounted (Behind n) = (1 ≤ n) × (n ≤ most_period)
IsCounted Upgrade = ⊤
IsCounted Trace = ⊤
IsCounted Check = ⊤

-- What is read from the source: a script, which may have such clients, one without clients and settles, a stored entry or a trace.
pub data Reads : Type 0 where
  AScript : Clients → Reads
  AnUnsettledScript : Reads
  AnEntry : Reads
  ATrace : Reads

-- What is read for what is asked, where anything is.
abbrev pub reads_in : Asked → Option Reads
reads_in (Report clients) = Some (Reads.AScript clients)
reads_in (Generate n) = None
reads_in (Summarize n) = None
reads_in (Behind n) = Some (Reads.AScript Refused)
reads_in Upgrade = Some Reads.AnEntry
reads_in Trace = Some Reads.AnUnsettledScript
reads_in Check = Some Reads.ATrace

-- No script is run for it.
abbrev pub RunsNothing : Asked → Type 0
RunsNothing (Report clients) = ⊥
RunsNothing (Generate n) = ⊤
RunsNothing (Summarize n) = ⊥
RunsNothing (Behind n) = ⊥
RunsNothing Upgrade = ⊤
RunsNothing Trace = ⊥
RunsNothing Check = ⊤

-- The texts of words ask for it. A call that serves no clients is asked for nothing by `run`.
abbrev pub Ask : (served : Clients) → Asked → List (List ℕ) → Type 0
Ask served (Report Refused) texts = texts ≡ codes "plain" ∷ []
Ask Allowed (Report Allowed) texts = texts ≡ codes "run" ∷ []
Ask Refused (Report Allowed) texts = ⊥
Ask Following (Report Allowed) texts = ⊥
Ask served (Report Following) texts = texts ≡ codes "watch" ∷ []
Ask served (Generate n) texts = (texts ≡ codes "gen" ∷ decimal n ∷ []) × (1 ≤ n) × (n ≤ most_steps)
Ask served (Summarize n) texts = (texts ≡ codes "sum" ∷ decimal n ∷ []) × (1 ≤ n) × (n ≤ most_steps)
Ask served (Behind n) texts = (texts ≡ codes "behind" ∷ decimal n ∷ []) × (1 ≤ n) × (n ≤ most_period)
Ask served Upgrade texts = texts ≡ codes "upgrade" ∷ []
Ask served Trace texts = texts ≡ codes "trace" ∷ []
Ask served Check texts = texts ≡ codes "check" ∷ []

-- what the words ask for
abbrev pub IsAsked : (served : Clients) → Asked → List (String Global) → Type 0
IsAsked served asked words = Ask served asked (map string_bytes words)

-- they ask for nothing
abbrev pub AskNothing : (served : Clients) → List (String Global) → Type 0
AskNothing served words = (asked : Asked) → IsAsked served asked words → ⊥

-- they ask for something for which this is read from the source
pub record AskToRead (served : Clients) (words : List (String Global)) (reads : Reads) : Type 0 where
  pub asked : Asked
  pub is : IsAsked served asked words
  pub of : reads_in asked ≡ Some reads

-- they ask for nothing for which the source is read
abbrev pub AskToReadNothing : (served : Clients) → List (String Global) → Type 0
AskToReadNothing served words = (asked : Asked) → IsAsked served asked words → reads_in asked ≡ None

-- for what was asked, if anything was, the source is not read
abbrev pub ReadsNothing : Option Asked → Type 0
ReadsNothing None = ⊤
ReadsNothing (Some asked) = reads_in asked ≡ None

-- they ask for no run whose stores are written behind
abbrev pub AskNothingBehind : (served : Clients) → List (String Global) → Type 0
AskNothingBehind served words = (n : ℕ) → IsAsked served (Behind n) words → ⊥
