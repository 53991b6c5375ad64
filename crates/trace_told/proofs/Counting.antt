-- Counts and states of lawful lines agree.
use Rattle.std.proofs.Common.{ap₂, zero, ◌≡◌, ℕ, suc, ◌<◌, List, [], ◌∷◌, ◌++◌, length, refl, sym, ap, ◌∙◌, arith, Bool, true, false, inl, inr, length-append}
use Rattle.std.specs.Prelude.{◌&&◌, ◌==◌}
use Rattle.std.specs.Str.{bytes_eq}
use Rattle.std.proofs.lemmas.Bool.Decides.{eqb_tells}
use Rattle.std.proofs.lemmas.List.{length-take-le}
use Rattle.std.proofs.lemmas.Slice.Eq.{bytes_eq-Decides}
use Rattle.model_history.specs.Table.{identity_limit, identities, with_at}
use Rattle.model_history.specs.Texts.{Text}
use Rattle.model_history.specs.Vector.{VersionVector}
use Rattle.model_history.specs.History.{Record, History, at, versions, cut}
use Rattle.model_history.proofs.HistoryLaws.{with_at_same, with_at_other}
use Rattle.model_history.proofs.PruneLaws.{IsIn, in_tail, in_range, at_identities}
use Rattle.model_traces.specs.Runs.{counts_alike}
use Rattle.std.specs.List.{list_all}
use Rattle.std.proofs.lemmas.Bool.{eq-eqb, eqb-true}
use Rattle.model_members.specs.DataType.{DataType}
use Rattle.model_members.specs.Node.{KeyDecl, with_text_at}
use Rattle.model_members.proofs.Steps.{with_text_at-same}
use Rattle.model_traces.specs.Traces.{Act, TraceLine, TraceState, held_after, may_hold, covers, is_closed, after_line, after_lines, AreLawful}
use Rattle.model_traces.specs.Traces.Act.{Records, Holds, Shows}
use Rattle.model_traces.proofs.Tests.{all_pass, each_passes, first_true, second_true, covers_tells}
use Rattle.model_traces.proofs.Lines.{other_text}
use Rattle.model_traces.proofs.Consistency.{passes}
use Rattle.trace_told.specs.Told.{Counts, are_alike, counted_after, count_line, count_lines}

-- WHAT STANDS AT A MEMBER AND A KEY

-- it is at this member and this key, or not
pub data Where (i j : ℕ) (key other : Text) : Type 0 where
  here : j ≡ i → other ≡ key → Where i j key other
  elsewhere : (j ≡ i → other ≡ key → ⊥) → Where i j key other

pub where_is : (i j : ℕ) (key other : Text) → Where i j key other
where_is i j key other = elim (eqb_tells j i) [
  | inr isnt ↦ elsewhere (λ e f. isnt.1 e)
  | inl is ↦ go (bytes_eq other key) refl is.1
]
  where
    go : (b : Bool) → bytes_eq other key ≡ b → j ≡ i → Where i j key other
    go true e same = here same ((bytes_eq-Decides other key).0 e)
    go false e same = elsewhere (λ f g. absurd (let h = sym e ∙ (bytes_eq-Decides other key).1 g in cc h))

module _ {X : Type 0} (f : ℕ → Text → X) (i : ℕ) (key : Text) (x : X) where
  abbrev pub put : ℕ → Text → X
  put = with_at f i (with_text_at (f i) key x)

  pub put_same : put i key ≡ x
  put_same = ap (λ (g : Text → X). g key) (with_at_same f i (with_text_at (f i) key x)) ∙ with_text_at-same (f i) key x

  pub put_other : (j : ℕ) (other : Text) → (j ≡ i → other ≡ key → ⊥) → put j other ≡ f j other
  put_other j other isnt = elim (eqb_tells j i) [
    | inr apart ↦ ap (λ (g : Text → X). g other) (with_at_other f i (with_text_at (f i) key x) j apart.1)
    | inl is ↦
        ap (λ k. put k other) is.1 ∙ ap (λ (g : Text → X). g other) (with_at_same f i (with_text_at (f i) key x)) ∙ other_text (f i) key x other (λ same. isnt is.1 same) ∙ ap (λ k. f k other) (sym is.1)
  ]

-- VECTORS

all_same : {X : Type 0} (p q : X → Bool) (xs : List X) → ((x : X) → IsIn xs x → p x ≡ q x) → list_all p xs ≡ list_all q xs
all_same p q [] same = refl
all_same p q (x ∷ xs) same = ap₂ (λ a b. a && b) (same x (zero, refl)) (all_same p q xs (λ y m. same y (in_tail x xs y m)))

-- vectors with the same numbers are alike, and those that are have them
pub alike_of : (v w known : VersionVector) → ((x : ℕ) → x < identity_limit → v x ≡ w x) → are_alike v known ≡ are_alike w known
unfolding are_alike
alike_of v w known same = all_same (λ i. v i == known i) (λ i. w i == known i) identities (λ x m. ap (λ n. n == known x) (same x (let r = in_range 0 identity_limit x m in omega (arith, r.1))))

pub alike_tells : (v w : VersionVector) → are_alike v w ≡ true → (x : ℕ) → x < identity_limit → v x ≡ w x
unfolding are_alike
alike_tells v w alike x small = eqb-true (v x) (w x) (each_passes (λ i. v i == w i) identities alike x (at_identities x small))

pub alike_from : (v w : VersionVector) → ((x : ℕ) → x < identity_limit → v x ≡ w x) → are_alike v w ≡ true
unfolding are_alike
alike_from v w same = all_pass (λ i. v i == w i) identities (λ x m. eq-eqb (v x) (w x) (same x (let r = in_range 0 identity_limit x m in omega (arith, r.1))))

-- COUNTS AND STATES

module _ {Op : Type 0} where
  -- the counts are those of the histories that the state's members hold
  abbrev pub AreAlike : Counts → TraceState Op → Type 0
  AreAlike counts state = (i : ℕ) (key : Text) (x : ℕ) → x < identity_limit → counts i key x ≡ at (state.held i key) x

  one_more : (held : VersionVector) (H : History Op) (i : ℕ) (r : Record Op) (x : ℕ) → held x ≡ at H x → with_at held i (suc (held i)) x ≡ length (with_at H i (H i ++ r ∷ []) x)
  one_more held H i r x same = elim (eqb_tells x i) [
    | inl is ↦
        let own : held i ≡ at H i = ap held (sym is.1) ∙ same ∙ ap (at H) is.1 in
        let more : suc (held i) ≡ length (H i ++ r ∷ []) = let n = length-append (H i) (r ∷ []) in omega (arith, n, own) in
        ap (with_at held i (suc (held i))) is.1 ∙ with_at_same held i (suc (held i)) ∙ more ∙ ap length (sym (with_at_same H i (H i ++ r ∷ []))) ∙ ap (λ k. length (with_at H i (H i ++ r ∷ []) k)) (sym is.1)
    | inr isnt ↦ with_at_other held i (suc (held i)) x isnt.1 ∙ same ∙ ap length (sym (with_at_other H i (H i ++ r ∷ []) x isnt.1))
  ]

module _ {Kind Op Shown : Type 0} (D : DataType Kind Op Shown) (value_text : Shown → Text) where
  act_alike : (made : History Op) (i : ℕ) (H : History Op) (held : VersionVector) (act : Act Op) → may_hold D value_text made H act ≡ true → ((x : ℕ) → x < identity_limit → held x ≡ at H x)
      → (x : ℕ) → x < identity_limit → counted_after held i act x ≡ at (held_after made i H act) x
  act_alike made i H held (Records action) may alike x small = one_more held H i (record { action = action; past = versions H }) x (alike x small)
  act_alike made i H held (Holds known) may alike x small =
      let few = covers_tells (versions made) known (second_true (covers known (versions H)) (covers (versions made) known) (first_true (covers known (versions H) && covers (versions made) known) (is_closed (cut made known)) may)) x small in
      sym (length-take-le (known x) (made x) few)
  act_alike made i H held (Shows text) may alike x small = alike x small

  line_alike : (keys : List (KeyDecl Kind)) (counts : Counts) (state : TraceState Op) (line : TraceLine Op) → AreLawful D value_text keys state (line ∷ []) → AreAlike counts state → AreAlike (count_line counts line) (after_line state line)
  line_alike keys counts state line lawful alike i key x small = elim (where_is line.member i line.key key) [
    | here same_member same_key ↦
        let H = state.held line.member line.key in
        let held = counts line.member line.key in
        ap (λ j. count_line counts line j key x) same_member ∙ ap (λ k. count_line counts line line.member k x) same_key
        ∙ ap (λ (v : VersionVector). v x) (put_same counts line.member line.key (counted_after held line.member line.act))
        ∙ act_alike (state.made line.key) line.member H held line.act (passes D value_text keys state line lawful.0).may_have (λ y less. alike line.member line.key y less) x small
        ∙ ap (λ (J : History Op). at J x) (sym (put_same state.held line.member line.key (held_after (state.made line.key) line.member H line.act)))
        ∙ ap (λ k. at ((after_line state line).held line.member k) x) (sym same_key) ∙ ap (λ j. at ((after_line state line).held j key) x) (sym same_member)
    | elsewhere isnt ↦
        ap (λ (v : VersionVector). v x) (put_other counts line.member line.key (counted_after (counts line.member line.key) line.member line.act) i key isnt) ∙ alike i key x small
        ∙ ap (λ (J : History Op). at J x) (sym (put_other state.held line.member line.key (held_after (state.made line.key) line.member (state.held line.member line.key) line.act) i key isnt))
  ]

  pub lines_alike : (keys : List (KeyDecl Kind)) (counts : Counts) (state : TraceState Op) (lines : List (TraceLine Op)) → AreLawful D value_text keys state lines → AreAlike counts state → AreAlike (count_lines counts lines) (after_lines state lines)
  lines_alike keys counts state [] lawful alike = alike
  lines_alike keys counts state (line ∷ lines) lawful alike = lines_alike keys (count_line counts line) (after_line state line) lines lawful.1 (line_alike keys counts state line (lawful.0, tt) alike)
