-- The worked script, played.
use Rattle.std.proofs.Common.{◌≡◌, ℕ, ◌∷◌, [], List, refl, sym, ap, subst, map, arith, Bool, true, false, Some, None}
use Rattle.std.specs.Prelude.{nat_lt, if◌then◌else◌, filter, option_map, slice_get}
use Rattle.std.specs.List.{AllByRecursion}
use Rattle.model_members.specs.View.{first_view}
use Rattle.model_history.specs.History.{is_pruned}
use Rattle.model_members.specs.Node.{Node, Reply}
use Rattle.model_members.specs.Node.Level.{Local}
use Rattle.model_members.specs.World.{loaded_node, no_entries, start}
use Rattle.model_members.specs.Script.{Playing, ScriptStep, none_fails, played}
use Rattle.model_members.specs.Script.Ask.{Get}
use Rattle.model_members.specs.Script.Head.{Asked, RoundHead, SettleHead}
use Rattle.model_members.specs.Script.Answer.{Replied, Nothing, Settled}
use Rattle.theorem_runs.proofs.Playing.{no_events}
use Rattle.theorem_operations.specs.Quorum.{AllInstalled}
use Rattle.theorem_operations.specs.Borders.{small_keys, the_key}
use Rattle.theorem_sections.specs.Runs.{IsRunStep, plain_line, PlaysAll}
use Rattle.theorem_sections.specs.Sections.{Client, Section, Move, Line, IsSection, opened, moved_all, section_lines}
use Rattle.theorem_sections.specs.Sections.Move.{NextCommand, NextMessage}
use Rattle.theorem_sections.proofs.Sectioned.{Runs}
use Rattle.theorem_client_operations.specs.Completing.{StoreHolds, IsUndisturbed}
use Rattle.theorem_client_operations.specs.Seen.{HadSeen, SuccessIsSeen, Stands, is_caller}
use Rattle.theorem_client_operations.proofs.SeenMoments.{before_runs}
use Rattle.theorem_settling.specs.Settling.{DigestsTellFrom}
use Rattle.base_vectors.specs.Spelling.{pairs_of, ids_spelled}
use Rattle.base_vectors.specs.IdSets.{member_count}
use Rattle.data_codec.specs.Entries.{entry_spelled}
use Rattle.theorem_digests.specs.Borders.{spelled_whole}
use Rattle.theorem_digests.proofs.ByDigests.{spelled_whole_tell}
use Rattle.theorem_digests.proofs.FewRecords.{makes_few}
use Rattle.theorem_headline.specs.Headline.{TellsSettle, before_step}
use Rattle.theorem_headline.specs.Worked.{One, worked_client, worked_script, worked_start, HeadlineIsMet}

-- the section, move by move
abbrev moves : List Move
moves = NextCommand 0 ∷ NextMessage 0 1 ∷ NextMessage 1 0 ∷ NextMessage 0 2 ∷ NextCommand 0 ∷ NextMessage 1 0 ∷ NextMessage 0 1 ∷ NextMessage 1 2 ∷ []

abbrev until_get : List Move
until_get = NextCommand 0 ∷ NextMessage 0 1 ∷ NextMessage 1 0 ∷ NextMessage 0 2 ∷ []

abbrev after_get : List Move
after_get = NextMessage 1 0 ∷ NextMessage 0 1 ∷ NextMessage 1 2 ∷ []

abbrev first : Section One One ℕ
first = opened worked_start (worked_client ∷ [])

abbrev end : Section One One ℕ
end = moved_all spelled_whole first moves

abbrev at_get : Section One One ℕ
at_get = moved_all spelled_whole first until_get

abbrev the_client : Section One One ℕ → Client One ℕ
the_client s = elim (slice_get s.clients 0) [ None ↦ record { to_come = []; made = []; timed_out = false } | Some client ↦ client ]

section : IsSection spelled_whole worked_start (worked_client ∷ []) moves end
section = record { lawful = refl; leads = refl; over = refl }

abbrev told : Playing One One ℕ → ScriptStep One → List (Line One ℕ)
told p s = map plain_line (played spelled_whole p s).lines

abbrev after : Playing One One ℕ → ScriptStep One → Playing One One ℕ
after p s = record (played spelled_whole p s) { lines = [] }

abbrev p1 : Playing One One ℕ
p1 = end.playing

abbrev asks : ScriptStep One
asks = ScriptStep.Asks 1 (Get [] Local)

abbrev leaves : ScriptStep One
leaves = ScriptStep.Remove 0

abbrev p2 : Playing One One ℕ
p2 = after p1 asks

abbrev p3 : Playing One One ℕ
p3 = after p2 leaves

abbrev p4 : Playing One One ℕ
p4 = after p3 ScriptStep.Settle

abbrev all_lines : List (List (Line One ℕ))
all_lines = section_lines end ∷ told p1 asks ∷ told p2 leaves ∷ told p3 ScriptStep.Settle ∷ []

abbrev plays : PlaysAll spelled_whole worked_start worked_script all_lines p4
plays = (
  section_lines end,
  told p1 asks ∷ told p2 leaves ∷ told p3 ScriptStep.Settle ∷ [],
  p1,
  (moves, end, section, refl, refl),
  (told p1 asks, told p2 leaves ∷ told p3 ScriptStep.Settle ∷ [], p2, (refl, refl), (told p2 leaves, told p3 ScriptStep.Settle ∷ [], p3, (refl, refl), (told p3 ScriptStep.Settle, [], p4, (refl, refl), (refl, refl), refl), refl), refl),
  refl,
)

abbrev loaded : ℕ → Node One One ℕ
loaded t = loaded_node small_keys t (first_view 3) no_entries

all_installed : AllInstalled worked_start.world
all_installed t node e = by (nat_lt t 3) e
  where
    by : (b : Bool) → (if b then Some (loaded t) else None) ≡ Some node → node.view ≡ first_view 3
    by true f = let same : loaded t ≡ node = cc f in sym (ap (λ (n : Node One One ℕ). n.view) same)
    by false f = absurd (cc f)

nothing_disturbs : IsUndisturbed spelled_whole worked_start end
nothing_disturbs = record { installed = all_installed; stores = λ events is. subst (AllByRecursion StoreHolds) is (tt, (tt, (tt, (tt, (tt, (tt, (tt, (tt, tt)))))))); room = refl }

-- digests tell entries apart in the whole run until the settle is done
places_are_below : AllByRecursion IsRunStep worked_script
places_are_below = (tt, (tt, (tt, (tt, tt))))

until_settled : Runs spelled_whole 3 small_keys (before_step spelled_whole none_fails 3 small_keys worked_script all_lines p4 plays 4)
until_settled = before_runs spelled_whole 3 small_keys worked_start worked_script all_lines p4 plays places_are_below (no_events spelled_whole 3 small_keys none_fails (omega arith) (omega arith)) 4

digests_tell : DigestsTellFrom spelled_whole (start 3 small_keys) (before_step spelled_whole none_fails 3 small_keys worked_script all_lines p4 plays 4).events
digests_tell =
    let here = before_step spelled_whole none_fails 3 small_keys worked_script all_lines p4 plays 4 in
    spelled_whole_tell spelled_whole (makes_few spelled_whole refl) (λ kind H. 1) (λ kind H. []) refl 3 small_keys here.events here.world until_settled

abbrev line_at : ℕ → Line One ℕ
line_at n = elim (slice_get (section_lines end) n) [ None ↦ record { client = None; head = RoundHead; answer = Nothing; posts = []; ended = None } | Some line ↦ line ]

-- THE LINES OF THE REFUSED INPUT AND OF THE SETTLE

abbrev refused_line : Line One ℕ
refused_line = record { client = None; head = Asked 1 (Get [] Local); answer = Replied Reply.UnknownKey; posts = []; ended = None }

refused_here : Stands all_lines (record { step = 1; caller = None; number = 0 }) refused_line
refused_here = record { told = told p1 asks; step = refl; here = refl }

abbrev settle_line : Line One ℕ
settle_line = record { client = None; head = SettleHead; answer = Settled 8 0; posts = []; ended = None }

settle_here : slice_get (filter (λ (l : Line One ℕ). is_caller None l.client) (told p3 ScriptStep.Settle)) 0 ≡ Some settle_line
unfolding entry_spelled pairs_of ids_spelled member_count
settle_here = refl

settles_there : TellsSettle spelled_whole none_fails 3 small_keys worked_script all_lines p4 plays 3 8 0
settles_there = record { settles = refl; line = settle_line; stands = record { told = told p3 ScriptStep.Settle; step = refl; here = settle_here }; answer = refl }

has_pruned : option_map (λ (node : Node One One ℕ). is_pruned (node.entries the_key).history 0) (p4.world.nodes 1) ≡ Some true
unfolding entry_spelled pairs_of ids_spelled member_count
has_pruned = refl

pub headline_is_met : HeadlineIsMet
headline_is_met = record {
  blocked = λ kind owner r other entry apart blocked. blocked;
  lines = all_lines;
  last = p4;
  plays = plays;
  here = worked_start;
  there = at_get.playing;
  update = line_at 0;
  get = line_at 1;
  seen = record {
    updates = record { told = section_lines end; step = refl; here = refl };
    asks = refl;
    gets = record { told = section_lines end; step = refl; here = refl };
    reads = refl;
    comes = (first, the_client first, record { early = []; rest = NextMessage 0 1 ∷ NextMessage 1 0 ∷ NextMessage 0 2 ∷ NextCommand 0 ∷ after_get; way = refl; is = refl; its = refl }, refl, refl);
    reading = (at_get, the_client at_get, record { early = until_get; rest = after_get; way = refl; is = refl; its = refl }, refl, refl);
    succeeded = SuccessIsSeen.InItsLine 0 refl refl (HadSeen.OwnCommand 0 refl refl refl (omega arith));
    installed = all_installed;
    unchanged = refl;
  };
  value = refl;
  moves = moves;
  end = end;
  section = section;
  undisturbed = nothing_disturbs;
  line = refused_line;
  refused = (refused_here, refl);
  settles = settles_there;
  digests = digests_tell;
  pruned = has_pruned;
}
