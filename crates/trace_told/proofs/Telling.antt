-- What is told of lines one after another: of lawful lines all, and of lines that nobody says twice what is news at first.
use Rattle.std.proofs.Common.{◌≡◌, zero, List, [], ◌∷◌, ◌++◌, refl, ap, ap₂, ◌∙◌, true, false, inl, inr}
use Rattle.std.specs.Prelude.{if◌then◌else◌, ◌&&◌, is_some, flat_map, ⊤}
use Rattle.model_history.specs.Texts.{Text}
use Rattle.model_history.specs.Vector.{VersionVector}
use Rattle.model_history.proofs.PruneLaws.{IsIn, in_tail, in_append}
use Rattle.model_members.specs.DataType.{DataType}
use Rattle.model_members.specs.Node.{KeyDecl}
use Rattle.model_traces.specs.Traces.{TraceLine, TraceState, after_line, AreLawful}
use Rattle.model_traces.proofs.Consistency.{passes}
use Rattle.trace_told.specs.Told.{Counts, counted_after, count_line, count_lines, is_news, is_declared, is_told, told_of}
use Rattle.trace_told.proofs.Counting.{put_other}

module _ {Kind Op : Type 0} (keys : List (KeyDecl Kind)) where
  -- ONE LOT AFTER ANOTHER

  pub told_both : (counts : Counts) (xs ys : List (TraceLine Op)) → told_of keys counts (xs ++ ys) ≡ told_of keys counts xs ++ told_of keys (count_lines counts (told_of keys counts xs)) ys
  told_both counts [] ys = refl
  told_both counts (x ∷ xs) ys =
      elim (is_told keys counts x)
      as (λ b. (if b then x ∷ told_of keys (count_line counts x) (xs ++ ys) else told_of keys counts (xs ++ ys))
      ≡ (if b then x ∷ told_of keys (count_line counts x) xs else told_of keys counts xs) ++ told_of keys (count_lines counts (if b then x ∷ told_of keys (count_line counts x) xs else told_of keys counts xs)) ys) [
        | true ↦ ap (λ zs. x ∷ zs) (told_both (count_line counts x) xs ys)
        | false ↦ told_both counts xs ys
      ]

  pub count_both : (counts : Counts) (xs ys : List (TraceLine Op)) → count_lines counts (xs ++ ys) ≡ count_lines (count_lines counts xs) ys
  count_both counts [] ys = refl
  count_both counts (x ∷ xs) ys = count_both (count_line counts x) xs ys

  -- LINES THAT NOBODY SAYS TWICE

  abbrev pub told_once : Counts → TraceLine Op → List (TraceLine Op)
  told_once counts line = if is_told keys counts line then line ∷ [] else []

  -- no other line is of the member and the key
  abbrev pub IsFresh : TraceLine Op → List (TraceLine Op) → Type 0
  IsFresh line lines = (other : TraceLine Op) → IsIn lines other → other.member ≡ line.member → other.key ≡ line.key → ⊥

  abbrev pub AreSaidOnce : List (TraceLine Op) → Type 0
  AreSaidOnce [] = ⊤
  AreSaidOnce (line ∷ lines) = IsFresh line lines × AreSaidOnce lines

  pub apart_both : (xs ys : List (TraceLine Op)) → AreSaidOnce xs → AreSaidOnce ys → ((x : TraceLine Op) → IsIn xs x → IsFresh x ys) → AreSaidOnce (xs ++ ys)
  apart_both [] ys first rest between = rest
  apart_both (x ∷ xs) ys first rest between = (fresh, apart_both xs ys first.1 rest (λ z m. between z (in_tail x xs z m)))
    where
      fresh : IsFresh x (xs ++ ys)
      fresh other m = elim (in_append xs ys other m) [ inl a ↦ first.0 other a | inr b ↦ between x (zero, refl) other b ]

  -- of each what is news at first
  pub told_apart : (first counts : Counts) (lines : List (TraceLine Op)) → AreSaidOnce lines → ((line : TraceLine Op) → IsIn lines line → counts line.member line.key ≡ first line.member line.key) → told_of keys counts lines ≡ flat_map (told_once first) lines
  told_apart first counts [] apart same = refl
  told_apart first counts (line ∷ lines) apart same =
      let here : is_told keys counts line ≡ is_told keys first line = ap (λ (v : VersionVector). is_declared keys line.key && is_news v line.act) (same line (zero, refl)) in
      let later = told_apart first counts lines apart.1 (λ l m. same l (in_tail line lines l m)) in
      let told = told_apart first (count_line counts line) lines apart.1
      (λ l m. put_other counts line.member line.key (counted_after (counts line.member line.key) line.member line.act) l.member l.key (apart.0 l m) ∙ same l (in_tail line lines l m)) in
      ap (λ b. if b then line ∷ told_of keys (count_line counts line) lines else told_of keys counts lines) here
      ∙ elim (is_told keys first line) as (λ b. (if b then line ∷ told_of keys (count_line counts line) lines else told_of keys counts lines) ≡ (if b then line ∷ [] else []) ++ flat_map (told_once first) lines) [
        | true ↦ ap (λ zs. line ∷ zs) told
        | false ↦ later
      ]

-- LAWFUL LINES

-- a line that isn't one of what is held
abbrev pub IsPlain : {Op : Type 0} → TraceLine Op → Type 0
IsPlain line = (v : VersionVector) → is_news v line.act ≡ true

module _ {Kind Op Shown : Type 0} (D : DataType Kind Op Shown) (value_text : Shown → Text) (keys : List (KeyDecl Kind)) where
  pub is_of_key : (state : TraceState Op) (line : TraceLine Op) (rest : List (TraceLine Op)) → AreLawful D value_text keys state (line ∷ rest) → is_declared keys line.key ≡ true
  is_of_key state line rest lawful = ap is_some (passes D value_text keys state line lawful.0).declared

  -- all of them are told
  pub plain_told : (state : TraceState Op) (counts : Counts) (lines : List (TraceLine Op)) → AreLawful D value_text keys state lines → ((line : TraceLine Op) → IsIn lines line → IsPlain line) → told_of keys counts lines ≡ lines
  plain_told state counts [] lawful plain = refl
  plain_told state counts (line ∷ lines) lawful plain =
      let here : is_told keys counts line ≡ true = ap₂ (λ a b. a && b) (is_of_key state line lines lawful) (plain line (zero, refl) (counts line.member line.key)) in
      ap (λ b. if b then line ∷ told_of keys (count_line counts line) lines else told_of keys counts lines) here
      ∙ ap (λ zs. line ∷ zs) (plain_told (after_line state line) (count_line counts line) lines lawful.1 (λ l m. plain l (in_tail line lines l m)))
