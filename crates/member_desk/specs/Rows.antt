-- Worked subscriptions: client 7 follows `n`, at whose member a count of 5 is found from the second flush on.
use Rattle.std.specs.Prelude.{List, [], Option, Some, None, codes}
use Rattle.model_history.specs.Texts.{Text}
use Rattle.model_kinds.specs.declared.shown.Shown.{Shown}
use Rattle.model_kinds.specs.declared.shown.Shown.TheVariants.{Count}
use Rattle.member_desk.specs.declared.followed.Followed.{Followed}
use Rattle.member_desk.specs.declared.notice.Notice.{Notice}
use Rattle.member_desk.specs.Subscriptions.{with_subscription}
use Rattle.member_desk.specs.Notices.{told_after}

abbrev pub as_it_is : Text → Shown → Shown
as_it_is key shown = shown

abbrev pub nothing : Text → Option Shown
nothing key = None

abbrev pub five : Text → Option Shown
five key = Some (Count 5)

abbrev pub subscribed : List (Followed Shown)
subscribed = with_subscription [] (codes "n") 7

abbrev pub flushed_once : List (Followed Shown)
flushed_once = told_after nothing subscribed

abbrev pub flushed_twice : List (Followed Shown)
flushed_twice = told_after five flushed_once

abbrev pub the_notice : Notice
the_notice = record { client = 7; key = codes "n"; shown = Count 5 }
