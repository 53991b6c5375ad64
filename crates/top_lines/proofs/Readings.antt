-- What is told of a part is told of the whole.
use Rattle.std.proofs.Common.{◌≡◌, List, ℕ, ◌+◌, ◌++◌, length, take, drop, true, false, nat_eq, Option, MatchOption, Result, Ok, Err, IfOk, MatchResult}
use Rattle.std.specs.Borrow.{Bor}
use Rattle.std.specs.Cmp.Lexicographic.{pointwise}
use Rattle.std.proofs.lemmas.Bool.Decides.{Decides-eqb}
use Rattle.std.proofs.lemmas.Slice.Eq.{strip_prefix_is}
use Rattle.base_bytes.specs.declared.fault.FieldError.{FieldError}
use Rattle.base_bytes.specs.declared.fault.FieldError.TheVariants as field
use Rattle.base_bytes.specs.Fields.{Fails}
use Rattle.base_bytes.specs.Spelling.{placed}
use Rattle.member_codec.specs.declared.error.CodecError.TheVariants.{NotASpelling}
use Rattle.member_codec.specs.Answers.{IsRead, refusal}
use Rattle.top_lines.specs.declared.refusal.Fault.{Fault}
use Rattle.top_lines.specs.declared.refusal.Fault.TheVariants.{Refused, Memory}
use Rattle.top_lines.specs.declared.refusal.Refusal.{Refusal}
use Rattle.top_lines.specs.declared.refusal.Refusal.TheVariants.{NotJson, NotAStep, NotOfAMember, OfAnother, NoSender, NotHex, NotAMessage, NotAccepted, NotAView}
use Rattle.top_lines.specs.Saying.{AreHex, IsSent, BringsBytes}
use Rattle.top_lines.specs.Tellings.{Tells}

-- of the same value
pub tells_more : {X : Type 0} (P Q : Result X Refusal → Type 0) → ((r : Result X Refusal) → P r → Q r) → (r : Result X Fault) → Tells P r → Tells Q r
tells_more P Q more (Ok x) told = more (Ok x) told
tells_more P Q more (Err (Refused why)) told = more (Err why) told
tells_more P Q more (Err Memory) told = tt

-- of a fault, whatever the value would be
pub fails_more : {X Y : Type 0} (P : Result X Refusal → Type 0) (Q : Result Y Refusal → Type 0) → ((why : Refusal) → P (Err why) → Q (Err why)) → (fault : Fault) → Tells P (Err fault) → Tells Q (Err fault)
fails_more P Q more (Refused why) told = more why told
fails_more P Q more Memory told = tt

-- digits that are none, behind a sender
pub not_hex : (rest : List ℕ) (from : ℕ) (digits : List ℕ) → IsSent rest from digits → (why : Refusal) → AreHex digits (Err why) → BringsBytes rest (Err why)
not_hex rest from digits sent NotJson h = absurd h
not_hex rest from digits sent (NotAStep rule) h = absurd h
not_hex rest from digits sent NotOfAMember h = absurd h
not_hex rest from digits sent OfAnother h = absurd h
not_hex rest from digits sent NoSender h = absurd h
not_hex rest from digits sent NotHex h = (from, digits, sent, h)
not_hex rest from digits sent (NotAMessage place) h = absurd h
not_hex rest from digits sent NotAccepted h = absurd h
not_hex rest from digits sent (NotAView place) h = absurd h

no_fault : {Y : Type 0} (total place : ℕ) (y : Y) (fault : FieldError) → Fails fault (Ok y) → NotASpelling place ≡ refusal (placed total fault) → ⊥
no_fault total place y field.Memory fails is = absurd cc
no_fault total place y (field.Fault fault) fails is = absurd cc

-- bytes that spell something have no fault
pub none_read : {X Y : Type 0} (parts : X → Y) (total place : ℕ) (y : Y) → IsRead parts total (Err (NotASpelling place)) (Ok y) → ⊥
none_read parts total place y read = no_fault total place y read.0 read.1 read.2

-- what stands behind a word with which a line begins
pub behind : (line word : List ℕ) (r : Option (Bor (List ℕ)))
    → MatchOption r (pointwise nat_eq (take (length word) line) word ≡ false) (λ x. (pointwise nat_eq (take (length word) line) word ≡ true) × (x.now ≡ drop (length word) line) × (length x.now + length word ≡ length line))
    → MatchOption r ((rest : List ℕ) → line ≡ word ++ rest → ⊥) (λ x. line ≡ word ++ x.now)
behind line word r cases = strip_prefix_is {A = ℕ} {E = nat_eq} Decides-eqb line word r cases

-- of either outcome
pub match_more : {X E : Type 0} {P P' : X → Type 0} {Q Q' : E → Type 0} (r : Result X E) → MatchResult r P Q → ((x : X) → P x → P' x) → ((e : E) → Q e → Q' e) → MatchResult r P' Q'
match_more (Ok x) told good bad = good x told
match_more (Err e) told good bad = bad e told

pub match_ok : {X E : Type 0} {P P' : X → Type 0} {Q' : E → Type 0} (r : Result X E) → IfOk r P → ((x : X) → P x → P' x) → ((e : E) → Q' e) → MatchResult r P' Q'
match_ok (Ok x) told good bad = good x told
match_ok (Err e) told good bad = bad e
