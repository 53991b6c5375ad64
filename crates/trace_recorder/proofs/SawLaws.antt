-- A recorder that saw one line more.
use Rattle.std.proofs.Common.{◌≡◌, ℕ, zero, suc, ◌<◌, ◌≤◌, List, [], ◌∷◌, ◌++◌, length, map, refl, sym, ap, ap₂, subst, ◌∙◌, arith, Bool, true, false, cond, Some, None, inl, inr, get_or, append-nil}
use Rattle.std.specs.Prelude.{if◌then◌else◌, ◌&&◌, not, is_some, find, nat_lt, position, slice_get, All}
use Rattle.std.specs.List.{position_or_len}
use Rattle.std.specs.Str.{bytes_eq}
use Rattle.std.proofs.lemmas.Bool.Decides.{eqb_tells, nat_tests}
use Rattle.std.proofs.lemmas.List.Folds.{find_at}
use Rattle.std.proofs.lemmas.List.Quantifiers.{position-Some}
use Rattle.std.proofs.lemmas.Option.{slice_get_past, slice_get-get_or}
use Rattle.std.proofs.lemmas.Slice.Eq.{bytes_eq-Decides}
use Rattle.model_history.specs.Table.{identity_limit, with_at}
use Rattle.model_history.specs.Texts.{Text}
use Rattle.model_history.specs.Vector.{VersionVector}
use Rattle.model_history.proofs.HistoryLaws.{with_at_same, with_at_other}
use Rattle.model_members.specs.Node.{KeyDecl}
use Rattle.model_kinds.specs.declared.kind.Kind.{Kind}
use Rattle.model_kinds.specs.declared.kind.Kind.TheVariants.{Flag}
use Rattle.model_kinds.specs.declared.operation.Op.{Op}
use Rattle.model_traces.specs.Traces.{Act, TraceLine}
use Rattle.model_traces.specs.Traces.Act.{Records, Holds, Shows}
use Rattle.base_vectors.specs.Vectors.{number_at}
use Rattle.base_vectors.proofs.Laws.{number_at-empty}
use Rattle.script_reading.specs.declared.script.ScriptKey.{ScriptKey}
use Rattle.script_reading.specs.Fields.{is_key_name}
use Rattle.trace_lines.specs.Meant.{key_meant, line_meant}
use Rattle.trace_lines.specs.WellFormed.{IsAct, IsLine, IsWellFormed}
use Rattle.trace_lines.specs.declared.trace.TraceLine.{TraceLine as Line}
use Rattle.trace_told.specs.Told.{Counts, none_told, counted_after, count_line, count_lines, is_news, is_declared, is_told, told_of}
use Rattle.trace_told.proofs.Counting.{where_is, put_same, put_other, alike_of}
use Rattle.trace_told.proofs.Counting.Where.{here, elsewhere}
use Rattle.trace_told.proofs.Telling.{told_both, count_both}
use Rattle.trace_recorder.specs.Rows.{vector_at, AreEmpty, HasCountedAt}
use Rattle.trace_recorder.specs.Saw.{AreCounted, Saw, IsFormed}
use Rattle.trace_recorder.specs.declared.recorder.Recorder.{Recorder}
use Rattle.trace_recorder.specs.declared.rows.Row.{Row}

-- PLACES

abbrev pub is_named : Text → ScriptKey → Bool
is_named name key = bytes_eq key.key name

-- a key to stand where there is none
abbrev pub some_key : Text → ScriptKey
some_key name = record { key = name; kind = Flag; durable = true }

is_some_found : (keys : List ScriptKey) (name : Text) → is_declared (map key_meant keys) name ≡ is_some (find (is_named name) keys)
is_some_found [] name = refl
is_some_found (key ∷ keys) name =
    elim (bytes_eq key.key name) as (λ b. is_some (if b then Some (key_meant key) else find (λ (d : KeyDecl Kind). bytes_eq d.name name) (map key_meant keys)) ≡ is_some (if b then Some key else find (is_named name) keys)) [
      | true ↦ refl
      | false ↦ is_some_found keys name
    ]

some_passes : {X : Type 0} (p : X → Bool) (xs : List X) (k : ℕ) (x : X) → slice_get xs k ≡ Some x → p x ≡ true → is_some (find p xs) ≡ true
some_passes p [] k x is passes = absurd (cc is)
some_passes p (y ∷ xs) zero x is passes =
    let same : y ≡ x = cc is in
    ap (λ b. is_some (if b then Some y else find p xs)) (ap p same ∙ passes)
some_passes p (y ∷ xs) (suc k) x is passes =
    let later = some_passes p xs k x is passes in
    elim (p y) as (λ b. is_some (if b then Some y else find p xs) ≡ true) [ true ↦ refl | false ↦ later ]

module _ (keys : List ScriptKey) (name : Text) where
  pub declared_at : (place : ℕ) → position (is_named name) keys ≡ Some place → is_declared (map key_meant keys) name ≡ true
  declared_at place is =
      let at = position-Some (is_named name) keys place (some_key name) is in
      is_some_found keys name ∙ some_passes (is_named name) keys place (get_or keys place (some_key name)) (slice_get-get_or keys place (some_key name) at.0) at.1

  pub undeclared : position (is_named name) keys ≡ None → is_declared (map key_meant keys) name ≡ false
  undeclared is = is_some_found keys name ∙ ap is_some (find_at (is_named name) keys ∙ slice_get_past keys (position_or_len (is_named name) keys) far)
    where
      go : (b : Bool) → nat_lt (position_or_len (is_named name) keys) (length keys) ≡ b → cond b (Some (position_or_len (is_named name) keys)) None ≡ None → length keys ≤ position_or_len (is_named name) keys
      go true e f = absurd (cc f)
      go false e f = grind (arith, nat_tests)

      far : length keys ≤ position_or_len (is_named name) keys
      far = go (nat_lt (position_or_len (is_named name) keys) (length keys)) refl is

  -- the key at the place has the name
  pub named_at : (place : ℕ) → position (is_named name) keys ≡ Some place → (key : ScriptKey) × (slice_get keys place ≡ Some key) × (key.key ≡ name)
  named_at place is =
      let at = position-Some (is_named name) keys place (some_key name) is in
      let key = get_or keys place (some_key name) in
      (key, slice_get-get_or keys place (some_key name) at.0, (bytes_eq-Decides key.key name).0 at.1)

-- two names at one place are one
one_name : (keys : List ScriptKey) (name other : Text) (place : ℕ) → position (is_named name) keys ≡ Some place → position (is_named other) keys ≡ Some place → name ≡ other
one_name keys name other place is is' =
    let a = named_at keys name place is in
    let b = named_at keys other place is' in
    let same : a.0 ≡ b.0 = (let e : Some a.0 ≡ Some b.0 = sym a.1 ∙ b.1 in cc e) in
    sym a.2 ∙ ap (λ (k : ScriptKey). k.key) same ∙ b.2

-- LINES

module _ (keys : List (KeyDecl Kind)) (seen : List (TraceLine Op)) (line : TraceLine Op) where
  abbrev pub counts_of : Counts
  counts_of = count_lines none_told (told_of keys none_told seen)

  -- what is told of one line more
  pub told_more : (news : Bool) → is_told keys counts_of line ≡ news → told_of keys none_told (seen ++ line ∷ []) ≡ told_of keys none_told seen ++ (if news then line ∷ [] else [])
  told_more news is = told_both keys none_told seen (line ∷ []) ∙ ap (λ b. told_of keys none_told seen ++ (if b then line ∷ [] else [])) is

  pub told_same : is_told keys counts_of line ≡ false → told_of keys none_told (seen ++ line ∷ []) ≡ told_of keys none_told seen
  told_same is = told_more false is ∙ append-nil (told_of keys none_told seen)

  pub count_more : is_told keys counts_of line ≡ true → count_lines none_told (told_of keys none_told (seen ++ line ∷ [])) ≡ count_line counts_of line
  count_more is = ap (count_lines none_told) (told_more true is) ∙ count_both keys none_told (told_of keys none_told seen) (line ∷ [])

news_same : (v w : VersionVector) (act : Act Op) → ((x : ℕ) → x < identity_limit → v x ≡ w x) → is_news v act ≡ is_news w act
news_same v w (Records action) same = refl
news_same v w (Holds known) same = ap not (alike_of v w known same)
news_same v w (Shows text) same = refl

after_same : (v w : VersionVector) (i : ℕ) (act : Act Op) → i < identity_limit → ((x : ℕ) → x < identity_limit → v x ≡ w x) → (x : ℕ) → x < identity_limit → counted_after v i act x ≡ counted_after w i act x
after_same v w i (Records action) few same x small = elim (eqb_tells x i) [
  | inl e ↦ ap (with_at v i (suc (v i))) e.1 ∙ with_at_same v i (suc (v i)) ∙ ap suc (same i few) ∙ sym (ap (with_at w i (suc (w i))) e.1 ∙ with_at_same w i (suc (w i)))
  | inr e ↦ with_at_other v i (suc (v i)) x e.1 ∙ same x small ∙ sym (with_at_other w i (suc (w i)) x e.1)
]
after_same v w i (Holds known) few same x small = refl
after_same v w i (Shows text) few same x small = same x small

-- ROWS

module _ (keys : List ScriptKey) (counts : Counts) (old new : List Row) (line : TraceLine Op) (few : line.member < identity_limit) (place : ℕ) (is : position (is_named line.key) keys ≡ Some place) (counted : AreCounted keys old counts) (news : Bool) (at : HasCountedAt place line.member line.act news old new) where
  before_is : (x : ℕ) → x < identity_limit → number_at (vector_at at.before.held.items line.member) x ≡ counts line.member line.key x
  before_is = counted line.key place at.before is at.was line.member

  -- the line is told where it is news
  pub told_where : is_told (map key_meant keys) counts line ≡ news
  told_where =
      ap₂ (λ a b. a && b) (declared_at keys line.key place is) (sym (news_same (number_at (vector_at at.before.held.items line.member)) (counts line.member line.key) line.act before_is)) ∙ sym at.told

  -- and then counted
  pub counted_more : news ≡ true → AreCounted keys new (count_line counts line)
  counted_more told name p row named there i x small = elim (where_is line.member i line.key name) [
    | here member key ↦
        let place_is : p ≡ place = (let e : Some p ≡ Some place = sym named ∙ ap (λ n. position (is_named n) keys) key ∙ is in cc e) in
        let row_is : row ≡ at.after = (let e : Some row ≡ Some at.after = sym there ∙ ap (slice_get new) place_is ∙ at.is in cc e) in
        let v = number_at (vector_at at.before.held.items line.member) in
        ap (λ (r : Row). number_at (vector_at r.held.items i) x) row_is ∙ at.counted told i x small
        ∙ ap (λ j. with_at (λ k. number_at (vector_at at.before.held.items k)) line.member (counted_after v line.member line.act) j x) member
        ∙ ap (λ (f : VersionVector). f x) (with_at_same (λ k. number_at (vector_at at.before.held.items k)) line.member (counted_after v line.member line.act))
        ∙ after_same v (counts line.member line.key) line.member line.act few before_is x small
        ∙ sym (ap (λ j. count_line counts line j name x) member ∙ ap (λ n. count_line counts line line.member n x) key ∙ ap (λ (f : VersionVector). f x) (put_same counts line.member line.key (counted_after (counts line.member line.key) line.member line.act)))
    | elsewhere isnt ↦
        elim (eqb_tells p place) [
          | inr other ↦ counted name p row named (sym (at.others p other.1) ∙ there) i x small
          | inl same ↦
              let key : name ≡ line.key = one_name keys name line.key place (named ∙ ap Some same.1) is in
              let row_is : row ≡ at.after = (let e : Some row ≡ Some at.after = sym there ∙ ap (slice_get new) same.1 ∙ at.is in cc e) in
              let v = number_at (vector_at at.before.held.items line.member) in
              ap (λ (r : Row). number_at (vector_at r.held.items i) x) row_is ∙ at.counted told i x small
              ∙ ap (λ (f : VersionVector). f x) (with_at_other (λ k. number_at (vector_at at.before.held.items k)) line.member (counted_after v line.member line.act) i (λ e. isnt e key))
              ∙ counted name place at.before (named ∙ ap Some same.1) at.was i x small
        ]
        ∙ sym (ap (λ (f : VersionVector). f x) (put_other counts line.member line.key (counted_after (counts line.member line.key) line.member line.act) i name isnt))
  ]

  pub counted_same : news ≡ false → AreCounted keys new counts
  counted_same none = subst (λ rows. AreCounted keys rows counts) (sym (at.same none)) counted

-- at first
pub counted_first : (keys : List ScriptKey) (rows : List Row) → AreEmpty rows → AreCounted keys rows none_told
counted_first keys rows empty name place row named there i x small = ap (λ held. number_at (vector_at held i) x) (empty place row there) ∙ number_at-empty x

-- WHAT IT SAW

module _ (keys : List (KeyDecl Kind)) (code : Recorder) (seen : List (TraceLine Op)) (line : TraceLine Op) (saw : Saw keys code seen) where
  -- a line of which nothing is told
  saw_untold : (new : Recorder) → new.keys ≡ code.keys → new.lines ≡ code.lines → is_told keys (counts_of keys seen line) line ≡ false → AreCounted code.keys new.rows.items (counts_of keys seen line) → Saw keys new (seen ++ line ∷ [])
  saw_untold new same_keys same_lines untold counted = record {
    keys = ap (map key_meant) same_keys ∙ saw.keys;
    lines = ap (map line_meant) same_lines ∙ saw.lines ∙ sym (told_same keys seen line untold);
    counted = subst (λ ks. AreCounted ks new.rows.items (count_lines none_told (told_of keys none_told (seen ++ line ∷ [])))) (sym same_keys)
        (subst (λ told. AreCounted code.keys new.rows.items (count_lines none_told told)) (sym (told_same keys seen line untold)) counted);
  }

  -- of a key that is not declared
  pub saw_undeclared : position (is_named line.key) code.keys ≡ None → Saw keys code (seen ++ line ∷ [])
  saw_undeclared none =
      let undeclared_here : is_declared keys line.key ≡ false = ap (λ ks. is_declared ks line.key) (sym saw.keys) ∙ undeclared code.keys line.key none in
      saw_untold code refl refl (ap (λ b. b && is_news (counts_of keys seen line line.member line.key) line.act) undeclared_here) saw.counted

  module _ (few : line.member < identity_limit) (place : ℕ) (is : position (is_named line.key) code.keys ≡ Some place) (new : Recorder) (same_keys : new.keys ≡ code.keys) (news : Bool) (at : HasCountedAt place line.member line.act news code.rows.items new.rows.items) where
    told_here : is_told keys (counts_of keys seen line) line ≡ news
    told_here = ap (λ ks. is_told ks (counts_of keys seen line) line) (sym saw.keys) ∙ told_where code.keys (counts_of keys seen line) code.rows.items new.rows.items line few place is saw.counted news at

    -- what is no news
    pub saw_known : new.lines ≡ code.lines → news ≡ false → Saw keys new (seen ++ line ∷ [])
    saw_known same_lines none = saw_untold new same_keys same_lines (told_here ∙ none) (counted_same code.keys (counts_of keys seen line) code.rows.items new.rows.items line few place is saw.counted news at none)

    -- what is news
    pub saw_news : map line_meant new.lines ≡ map line_meant code.lines ++ line ∷ [] → news ≡ true → Saw keys new (seen ++ line ∷ [])
    saw_news more some = record {
      keys = ap (map key_meant) same_keys ∙ saw.keys;
      lines = more ∙ ap (λ ls. ls ++ line ∷ []) saw.lines ∙ sym (told_more keys seen line true (told_here ∙ some));
      counted = subst (λ ks. AreCounted ks new.rows.items (count_lines none_told (told_of keys none_told (seen ++ line ∷ [])))) (sym same_keys)
          (subst (AreCounted code.keys new.rows.items) (sym (count_more keys seen line (told_here ∙ some))) (counted_more code.keys (counts_of keys seen line) code.rows.items new.rows.items line few place is saw.counted news at some));
    }

-- THE BOUNDS OF TRACES

all_pushed : {X : Type 0} (P : X → Type 0) (xs : List X) (y : X) → All P xs → P y → All P (xs ++ y ∷ [])
all_pushed P [] y all now zero d less = now
all_pushed P [] y all now (suc k) d less = absurd (omega (arith, less))
all_pushed P (x ∷ xs) y all now zero d less = all zero d (omega arith)
all_pushed P (x ∷ xs) y all now (suc k) d less = all_pushed P xs y (λ k d less. all (suc k) d (omega (arith, less))) now k d (omega (arith, less))

pub formed_more : (code : Recorder) (lines : List Line) (line : Line) → line.at < identity_limit → IsAct line.act → (place : ℕ) → position (is_named line.key) code.keys ≡ Some place → lines ≡ code.lines ++ line ∷ [] → IsFormed code → IsWellFormed (record { keys = code.keys; lines = lines })
formed_more code lines line few act place is more formed =
    let key = position-Some (is_named line.key) code.keys place (some_key line.key) is in
    let named : is_key_name line.key ≡ true = ap is_key_name (sym ((bytes_eq-Decides (get_or code.keys place (some_key line.key)).key line.key).0 key.1)) ∙ formed.keys place (some_key line.key) key.0 in
    record {
      key_count = formed.key_count;
      key_names = formed.key_names;
      keys = formed.keys;
      lines = subst (All IsLine) (sym more) (all_pushed IsLine code.lines line formed.lines (record { member = few; key = named; act = act }));
    }
