-- What worked scripts with subscriptions are said with.
use Rattle.std.specs.Prelude.{ℕ, List}
use Rattle.model_history.specs.Texts.{Text}
use Rattle.model_members.specs.Node.{KeyDecl}
use Rattle.model_members.specs.Node.Level.{Local}
use Rattle.model_members.specs.Script.{Ask, ScriptStep, none_fails}
use Rattle.model_kinds.specs.declared.kind.Kind.{Kind}
use Rattle.model_kinds.specs.declared.operation.Op.{Op}
use Rattle.model_rows.specs.Words.{data_type}
use Rattle.theorem_watching.specs.Watching.{WatchStep, watch_report}
use Rattle.theorem_watching.specs.Watching.WatchStep.{Plain}

abbrev pub watch : ℕ → List (KeyDecl Kind) → List (WatchStep Op) → Text
watch = watch_report data_type none_fails

abbrev pub update : ℕ → Text → Op → WatchStep Op
update at key op = Plain (ScriptStep.Asks at (Ask.Update key op Local))

abbrev pub flush : ℕ → WatchStep Op
flush at = Plain (ScriptStep.Asks at Ask.Flush)

abbrev pub gossip : ℕ → ℕ → WatchStep Op
gossip at to = Plain (ScriptStep.Asks at (Ask.Gossip to))

abbrev pub round : WatchStep Op
round = Plain ScriptStep.Round

abbrev pub remove : ℕ → WatchStep Op
remove identity = Plain (ScriptStep.Remove identity)

abbrev pub restart : ℕ → WatchStep Op
restart identity = Plain (ScriptStep.Restart identity)
