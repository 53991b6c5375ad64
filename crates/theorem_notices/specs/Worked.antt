-- A worked script that meets the premises: a client follows a counter at the second of two members, and is told of two changes.
use Rattle.std.specs.Prelude.{◌≡◌, List, [], ◌∷◌, codes, None}
use Rattle.model_members.specs.Script.{none_fails}
use Rattle.model_kinds.specs.declared.kind.Kind.TheVariants.{GCounter}
use Rattle.model_kinds.specs.declared.operation.Op.{Op}
use Rattle.model_kinds.specs.declared.operation.Op.TheVariants.{Increment}
use Rattle.model_kinds.specs.declared.kind.Kind.{Kind}
use Rattle.model_kinds.specs.declared.shown.Shown.TheVariants.{Count}
use Rattle.model_members.specs.Node.{KeyDecl}
use Rattle.model_rows.specs.Words.{data_type, key}
use Rattle.theorem_watching.specs.declared.followship.Followship.TheVariants.{Subscribed}
use Rattle.theorem_watching.specs.Watching.{WatchStep, Watching, subscribe_answer, all_lines}
use Rattle.theorem_watching.specs.Words.{update, flush, round}
use Rattle.theorem_notices.specs.Notices.{Subscription, WasTold, GoesOn, moment, said_in, subscribe_step}

abbrev pub worked_keys : List (KeyDecl Kind)
worked_keys = key (codes "n") GCounter ∷ []

-- client 7 follows the key at member 1
abbrev pub worked_subscription : Subscription
worked_subscription = record { at = 1; client = 7; key = codes "n" }

-- member 0 updates and flushes, member 1 takes that and flushes, twice; then it does so once more
abbrev pub worked_steps : List (WatchStep Op)
worked_steps =
    update 0 (codes "n") (Increment 5) ∷ flush 0 ∷ flush 1 ∷ round ∷ flush 1 ∷ flush 1
    ∷ update 0 (codes "n") (Increment 2) ∷ flush 0 ∷ round ∷ flush 1 ∷ []

abbrev pub worked_start : Watching Kind Op
worked_start = moment data_type none_fails 2 worked_keys []

abbrev pub worked_moment : Watching Kind Op
worked_moment = moment data_type none_fails 2 worked_keys (subscribe_step worked_subscription ∷ [])

-- EVERY PREMISE IS MET, and two notices come
pub record NoticesAreMet : Type 0 where
  pub begins : subscribe_answer worked_start 1 7 (codes "n") ≡ Subscribed
  pub untold : WasTold worked_subscription None worked_moment
  pub goes : GoesOn data_type worked_subscription worked_moment worked_steps
  pub said : said_in worked_subscription (all_lines data_type worked_moment worked_steps) ≡ Count 5 ∷ Count 7 ∷ []
