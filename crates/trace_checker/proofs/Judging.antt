-- A line of a declared key, judged and done; and what is said of all lines, line by line.
use Rattle.std.proofs.Common.{◌≡◌, ◌≢◌, ℕ, suc, ◌+◌, ◌<◌, ◌≤◌, List, ◌∷◌, length, map, set, drop, get_or, AllPairs, refl, sym, ap, subst, ◌∙◌, arith, true, Option, None, Some}
use Rattle.std.specs.Prelude.{slice_get}
use Rattle.std.proofs.lemmas.List.{drop_all, drop_more}
use Rattle.model_history.specs.Table.{identity_limit, with_at}
use Rattle.model_history.specs.Texts.{Text}
use Rattle.model_history.specs.History.{History}
use Rattle.model_kinds.specs.SixKinds.{six_kinds}
use Rattle.model_kinds.specs.ShownText.{shown_text}
use Rattle.model_kinds.specs.declared.kind.Kind.{Kind}
use Rattle.model_kinds.specs.declared.operation.Op.{Op}
use Rattle.script_reading.specs.declared.script.ScriptKey.{ScriptKey}
use Rattle.model_traces.specs.Traces.{TraceState, Verdict, made_after, held_after, after_line, may_hold, broken_by, broken_rule, verdict_from}
use Rattle.model_traces.specs.Traces.Verdict.{Lawful, Broken}
use Rattle.model_traces.proofs.Consistency.{passes}
use Rattle.trace_lines.specs.Meant.{act_meant, key_meant, line_meant}
use Rattle.trace_lines.specs.declared.trace.TraceLine.{TraceLine}
use Rattle.trace_checker.specs.declared.key_history.KeyHistory.{KeyHistory}
use Rattle.trace_checker.specs.Standing.{AreKept, StandsForKey, StandFor, IsPlaceOf}
use Rattle.trace_checker.proofs.Traced.{kept_of, name_is, declared, stand_after}

-- ONE LINE

module _ (keys : List ScriptKey) (codes : List KeyHistory) (state : TraceState Op) (stand : StandFor keys codes state) (line : TraceLine) (place : ℕ) (is_place : IsPlaceOf keys line.key (Some place))
    (code : KeyHistory) (there : slice_get codes place ≡ Some code) where
  abbrev key : ScriptKey
  key = is_place.0

  name : key.key ≡ line.key
  name = name_is keys line.key key is_place.2

  stands : StandsForKey code (state.made line.key) (λ i. state.held i line.key)
  stands = subst (λ (t : Text). StandsForKey code (state.made t) (λ i. state.held i t)) name (stand.each place key code is_place.1 there)

  kept : AreKept (state.made line.key) (λ i. state.held i line.key)
  kept = kept_of state line.key stand.consistent

  -- the rule that it breaks
  pub judged : (kind : Kind) → kind ≡ key.kind → (rule : Option ℕ)
      → ((made : History Op) (held : ℕ → History Op) → StandsForKey code made held → AreKept made held → rule ≡ broken_by six_kinds shown_text kind made line.at (held line.at) (act_meant line.act))
      → rule ≡ broken_rule six_kinds shown_text (map key_meant keys) state (line_meant line)
  judged kind kind_is rule by =
      by (state.made line.key) (λ i. state.held i line.key) stands kept
      ∙ ap (λ k. broken_by six_kinds shown_text k (state.made line.key) line.at (state.held line.at line.key) (act_meant line.act)) kind_is
      ∙ sym (declared keys state line key is_place.2)

  -- what it leaves
  pub done : AllPairs (λ a b. a.key ≢ b.key) keys → line.at < identity_limit → broken_rule six_kinds shown_text (map key_meant keys) state (line_meant line) ≡ None
      → (after : KeyHistory) (new : List KeyHistory) → new ≡ set codes place after
      → ((made : History Op) (held : ℕ → History Op) → StandsForKey code made held → AreKept made held → may_hold six_kinds shown_text made (held line.at) (act_meant line.act) ≡ true
      → StandsForKey after (made_after made line.at (held line.at) (act_meant line.act)) (with_at held line.at (held_after made line.at (held line.at) (act_meant line.act))))
      → StandFor keys new (after_line state (line_meant line))
  done apart small lawful after new are by =
      stand_after keys apart codes new state stand line small lawful place key after is_place.1 name are
      (by (state.made line.key) (λ i. state.held i line.key) stands kept (passes six_kinds shown_text (map key_meant keys) state (line_meant line) lawful).may_have)

-- ALL LINES

module _ (keys : List ScriptKey) (state : TraceState Op) (lines : List TraceLine) (place : ℕ) where
  -- what is said of the lines from a place on
  abbrev pub said : Verdict
  said = verdict_from six_kinds shown_text (map key_meant keys) state (suc place) (map line_meant (drop place lines))

  abbrev said_by : TraceLine → Option ℕ → Verdict
  said_by line o = elim o [
    | None ↦ verdict_from six_kinds shown_text (map key_meant keys) (after_line state (line_meant line)) (suc (suc place)) (map line_meant (drop (place + 1) lines))
    | Some rule ↦ Broken (suc place) rule
  ]

  module _ (line : TraceLine) (small : place < length lines) (is : line ≡ get_or lines place line) (rule : Option ℕ) (rule_is : rule ≡ broken_rule six_kinds shown_text (map key_meant keys) state (line_meant line)) where
    here : said ≡ said_by line rule
    here =
        ap (λ (ls : List TraceLine). verdict_from six_kinds shown_text (map key_meant keys) state (suc place) (map line_meant ls)) (drop_more lines place line small ∙ ap (λ (y : TraceLine). y ∷ drop (place + 1) lines) (sym is))
        ∙ ap (said_by line) (sym rule_is)

    pub goes_on : rule ≡ None → verdict_from six_kinds shown_text (map key_meant keys) (after_line state (line_meant line)) (suc (place + 1)) (map line_meant (drop (place + 1) lines)) ≡ said
    goes_on e =
        ap (λ n. verdict_from six_kinds shown_text (map key_meant keys) (after_line state (line_meant line)) n (map line_meant (drop (place + 1) lines))) (let same : suc (place + 1) ≡ suc (suc place) = omega arith in same)
        ∙ sym (here ∙ ap (said_by line) e)

    pub ends : (r : ℕ) → rule ≡ Some r → Broken (place + 1) r ≡ said
    ends r e = ap (λ n. Broken n r) (let same : place + 1 ≡ suc place = omega arith in same) ∙ sym (here ∙ ap (said_by line) e)

  pub all_said : length lines ≤ place → Lawful ≡ said
  all_said past = sym (ap (λ (ls : List TraceLine). verdict_from six_kinds shown_text (map key_meant keys) state (suc place) (map line_meant ls)) (drop_all place lines past))

-- where the keys and the lines are read from two slices
module _ (keys read_keys : List ScriptKey) (keys_are : read_keys ≡ keys) (lines read_lines : List TraceLine) (lines_are : read_lines ≡ lines) (place : ℕ) (line : TraceLine) (small : place < length read_lines) (is : line ≡ get_or read_lines place line)
    (rule : Option ℕ) (none : rule ≡ None) (old new : List KeyHistory)
    (judge : (state : TraceState Op) → StandFor read_keys old state → rule ≡ broken_rule six_kinds shown_text (map key_meant read_keys) state (line_meant line))
    (take_on : (state : TraceState Op) → StandFor read_keys old state → rule ≡ None → StandFor read_keys new (after_line state (line_meant line)))
    (state : TraceState Op) (stand : StandFor keys old state) (all : Verdict) (so_far : said keys state lines place ≡ all) where
  read_stand : StandFor read_keys old state
  read_stand = subst (λ (ks : List ScriptKey). StandFor ks old state) (sym keys_are) stand

  -- what stands after the line, and what is said of the rest
  pub next_line : (x : TraceState Op) × StandFor keys new x × (said keys x lines (place + 1) ≡ all)
  next_line = (
    after_line state (line_meant line),
    subst (λ (ks : List ScriptKey). StandFor ks new (after_line state (line_meant line))) keys_are (take_on state read_stand none),
    goes_on keys state lines place line (subst (λ (ls : List TraceLine). place < length ls) lines_are small) (subst (λ (ls : List TraceLine). line ≡ get_or ls place line) lines_are is) rule
        (subst (λ (ks : List ScriptKey). rule ≡ broken_rule six_kinds shown_text (map key_meant ks) state (line_meant line)) keys_are (judge state read_stand)) none
        ∙ so_far,
  )

-- SEARCHED VALUES

pub none_there : {X : Type 0} (o : Option X) → ((x : X) → o ≡ Some x → ⊥) → o ≡ None
none_there None never = refl
none_there (Some x) never = absurd (never x refl)
