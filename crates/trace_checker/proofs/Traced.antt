-- What is kept of all keys, after a line.
use Rattle.std.proofs.Common.{◌≡◌, ◌≢◌, ℕ, zero, suc, ◌<◌, List, [], ◌∷◌, length, map, set, get_or, AllPairs, refl, sym, ap, subst, ◌∙◌, arith, Option, None, Some, inl, inr, length-set}
use Rattle.std.specs.Prelude.{find, option_map, slice_get}
use Rattle.std.specs.Str.{bytes_eq}
use Rattle.std.proofs.lemmas.Bool.{cases_lt}
use Rattle.std.proofs.lemmas.Bool.Decides.{eqb_tells}
use Rattle.std.proofs.lemmas.Slice.Eq.{bytes_eq-Decides}
use Rattle.model_history.specs.Table.{identity_limit, with_at}
use Rattle.model_history.specs.Texts.{Text}
use Rattle.model_history.specs.History.{History, no_records}
use Rattle.model_history.proofs.HistoryLaws.{with_at_same, with_at_other, slice_get-below}
use Rattle.model_history.proofs.PruneLaws.{found}
use Rattle.model_members.specs.Node.{KeyDecl}
use Rattle.model_kinds.specs.SixKinds.{six_kinds}
use Rattle.model_kinds.specs.ShownText.{shown_text}
use Rattle.model_kinds.specs.declared.kind.Kind.{Kind}
use Rattle.model_kinds.specs.declared.operation.Op.{Op}
use Rattle.script_reading.specs.declared.script.ScriptKey.{ScriptKey}
use Rattle.data_meaning.proofs.Walks.{find-map}
use Rattle.model_traces.specs.Traces.{TraceState, nothing_traced, made_after, held_after, after_line, broken_by, broken_rule}
use Rattle.model_traces.specs.Meaning.{IsConsistent}
use Rattle.model_traces.proofs.Lines.{made_here, made_there, held_here, held_there, held_of_another}
use Rattle.model_traces.proofs.Consistency.{line_consistent, first_consistent}
use Rattle.trace_lines.specs.Meant.{act_meant, key_meant, line_meant}
use Rattle.trace_lines.specs.declared.trace.TraceLine.{TraceLine}
use Rattle.trace_checker.specs.declared.key_history.KeyHistory.{KeyHistory}
use Rattle.trace_checker.specs.Standing.{AreKept, StandsForKey, StandFor}

-- what lawful lines lead to, of one key
pub kept_of : (state : TraceState Op) (key : Text) → IsConsistent state → AreKept (state.made key) (λ i. state.held i key)
kept_of state key consistent = record { history = consistent.histories key; taken = λ i. consistent.taken i key; own = λ i. consistent.own i key; exact = λ i. consistent.exact i key }

-- PLACES OF LISTS

module _ {X : Type 0} where
  pub get_is : (xs : List X) (n : ℕ) (x d : X) → slice_get xs n ≡ Some x → get_or xs n d ≡ x
  get_is [] n x d e = absurd (cc e)
  get_is (y ∷ xs) zero x d e = cc e
  get_is (y ∷ xs) (suc n) x d e = get_is xs n x d e

  set_here : (xs : List X) (n : ℕ) (x y : X) → slice_get (set xs n x) n ≡ Some y → x ≡ y
  set_here [] n x y e = absurd (cc e)
  set_here (z ∷ xs) zero x y e = cc e
  set_here (z ∷ xs) (suc n) x y e = set_here xs n x y e

  set_there : (xs : List X) (n m : ℕ) (x : X) → m ≢ n → slice_get (set xs n x) m ≡ slice_get xs m
  set_there [] n m x isnt = refl
  set_there (z ∷ xs) zero zero x isnt = absurd (isnt refl)
  set_there (z ∷ xs) zero (suc m) x isnt = refl
  set_there (z ∷ xs) (suc n) zero x isnt = refl
  set_there (z ∷ xs) (suc n) (suc m) x isnt = set_there xs n m x (λ e. isnt (ap suc e))

-- two keys at two places have two names
other_name : (keys : List ScriptKey) → AllPairs (λ a b. a.key ≢ b.key) keys → (m n : ℕ) (k key : ScriptKey) → slice_get keys m ≡ Some k → slice_get keys n ≡ Some key → m ≢ n → k.key ≢ key.key
other_name keys apart m n k key there here isnt same = elim (cases_lt m n) [
  | inl before ↦ apart m n k before (slice_get-below keys key n here) (ap (λ (x : ScriptKey). x.key) (get_is keys m k k there) ∙ same ∙ ap (λ (x : ScriptKey). x.key) (sym (get_is keys n key k here)))
  | inr after ↦ apart n m k (omega (arith, after, isnt)) (slice_get-below keys k m there) (ap (λ (x : ScriptKey). x.key) (get_is keys n key k here) ∙ sym same ∙ ap (λ (x : ScriptKey). x.key) (sym (get_is keys m k k there)))
]

-- THE KEY OF A LINE

-- of an undeclared key
pub undeclared : (keys : List ScriptKey) (state : TraceState Op) (line : TraceLine) → find (λ (key : ScriptKey). bytes_eq key.key line.key) keys ≡ None → Some 1 ≡ broken_rule six_kinds shown_text (map key_meant keys) state (line_meant line)
undeclared keys state line none = sym (ap (λ (o : Option (KeyDecl Kind)). elim o [
  | None ↦ Some 1
  | Some decl ↦ broken_by six_kinds shown_text decl.kind (state.made line.key) line.at (state.held line.at line.key) (act_meant line.act)
]) (find-map key_meant (λ (decl : KeyDecl Kind). bytes_eq decl.name line.key) keys ∙ ap (option_map key_meant) none))

-- of a declared one
pub declared : (keys : List ScriptKey) (state : TraceState Op) (line : TraceLine) (key : ScriptKey) → find (λ (k : ScriptKey). bytes_eq k.key line.key) keys ≡ Some key
    → broken_rule six_kinds shown_text (map key_meant keys) state (line_meant line) ≡ broken_by six_kinds shown_text key.kind (state.made line.key) line.at (state.held line.at line.key) (act_meant line.act)
declared keys state line key is = ap (λ (o : Option (KeyDecl Kind)). elim o [
  | None ↦ Some 1
  | Some decl ↦ broken_by six_kinds shown_text decl.kind (state.made line.key) line.at (state.held line.at line.key) (act_meant line.act)
]) (find-map key_meant (λ (decl : KeyDecl Kind). bytes_eq decl.name line.key) keys ∙ ap (option_map key_meant) is)

pub name_is : (keys : List ScriptKey) (name : Text) (key : ScriptKey) → find (λ (k : ScriptKey). bytes_eq k.key name) keys ≡ Some key → key.key ≡ name
name_is keys name key is = (bytes_eq-Decides key.key name).0 (found (λ (k : ScriptKey). bytes_eq k.key name) keys key is)

-- AFTER A LINE

module _ (keys : List ScriptKey) (apart : AllPairs (λ a b. a.key ≢ b.key) keys) (codes new : List KeyHistory) (state : TraceState Op) (stand : StandFor keys codes state) (line : TraceLine) (small : line.at < identity_limit)
    (lawful : broken_rule six_kinds shown_text (map key_meant keys) state (line_meant line) ≡ None) where
  abbrev next : TraceState Op
  next = after_line state (line_meant line)

  pub consistent_after : IsConsistent next
  consistent_after = line_consistent six_kinds shown_text (map key_meant keys) state (line_meant line) stand.consistent small lawful

  module _ (place : ℕ) (key : ScriptKey) (code : KeyHistory) (there : slice_get keys place ≡ Some key) (name : key.key ≡ line.key) (are : new ≡ set codes place code)
      (stands : StandsForKey code (made_after (state.made line.key) line.at (state.held line.at line.key) (act_meant line.act)) (with_at (λ i. state.held i line.key) line.at (held_after (state.made line.key) line.at (state.held line.at line.key) (act_meant line.act)))) where
    held_row : (i : ℕ) → with_at (λ i. state.held i line.key) line.at (held_after (state.made line.key) line.at (state.held line.at line.key) (act_meant line.act)) i ≡ next.held i line.key
    held_row i = elim (eqb_tells i line.at) [
      | inl is ↦
          ap (with_at (λ i. state.held i line.key) line.at (held_after (state.made line.key) line.at (state.held line.at line.key) (act_meant line.act))) is.1 ∙ with_at_same (λ i. state.held i line.key) line.at _
          ∙ sym (ap (λ j. next.held j line.key) is.1 ∙ held_here state (line_meant line))
      | inr isnt ↦ with_at_other (λ i. state.held i line.key) line.at _ i isnt.1 ∙ sym (held_of_another state (line_meant line) i line.key isnt.1)
    ]

    stands_here : StandsForKey code (next.made line.key) (λ i. next.held i line.key)
    stands_here =
        subst (λ (G : History Op). StandsForKey code G (λ i. next.held i line.key)) (sym (made_here state (line_meant line)))
        (subst (StandsForKey code (made_after (state.made line.key) line.at (state.held line.at line.key) (act_meant line.act))) (λ k i. held_row i k) stands)

    stands_there : (k : ScriptKey) (c : KeyHistory) → k.key ≢ line.key → StandsForKey c (state.made k.key) (λ i. state.held i k.key) → StandsForKey c (next.made k.key) (λ i. next.held i k.key)
    stands_there k c other before =
        subst (λ (G : History Op). StandsForKey c G (λ i. next.held i k.key)) (sym (made_there state (line_meant line) k.key other))
        (subst (StandsForKey c (state.made k.key)) (λ t i. sym (held_there state (line_meant line) i k.key other) t) before)

    pub stand_after : StandFor keys new next
    stand_after = record {
      count = ap length are ∙ length-set codes place code ∙ stand.count;
      each = λ m k c k_there c_there. elim (eqb_tells m place) [
        | inl is ↦
            (let same_key : key ≡ k = (let e : Some key ≡ Some k = sym there ∙ ap (slice_get keys) (sym is.1) ∙ k_there in cc e) in
            let same_code : code ≡ c = set_here codes place code c (ap (slice_get (set codes place code)) (sym is.1) ∙ ap (λ xs. slice_get xs m) (sym are) ∙ c_there) in
            subst (λ (x : KeyHistory). StandsForKey x (next.made k.key) (λ i. next.held i k.key)) same_code
            (subst (λ t. StandsForKey code (next.made t) (λ i. next.held i t)) (sym name ∙ ap (λ (x : ScriptKey). x.key) same_key) stands_here))
        | inr isnt ↦
            stands_there k c (λ e. other_name keys apart m place k key k_there there isnt.1 (e ∙ sym name))
            (stand.each m k c k_there (sym (set_there codes place m code isnt.1) ∙ ap (λ xs. slice_get xs m) (sym are) ∙ c_there))
      ];
      consistent = consistent_after;
    }

-- BEFORE THE FIRST LINE

pub stand_first : (keys : List ScriptKey) (codes : List KeyHistory) → length codes ≡ length keys → ((n : ℕ) (code : KeyHistory) → slice_get codes n ≡ Some code → StandsForKey code no_records (λ i. no_records)) → StandFor keys codes nothing_traced
stand_first keys codes count each = record { count = count; each = λ n key code there here. each n code here; consistent = first_consistent }
