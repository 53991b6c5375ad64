-- Channels of all links, changed link by link.
use Rattle.std.proofs.Common.{◌≡◌, ℕ, zero, suc, ◌+◌, ◌≤◌, refl, sym, ap, ◌∙◌, List, [], ◌∷◌, ◌++◌, Option, Some, None, inl, inr, arith, append_assoc}
use Rattle.std.specs.Prelude.{◌==◌, if◌then◌else◌, slice_get, option_map, option_and_then}
use Rattle.std.proofs.lemmas.Bool.Decides.{eqb_tells}
use Rattle.std.proofs.lemmas.Bool.{eq-eqb}
use Rattle.std.proofs.lemmas.List.{append-nil}
use Rattle.world_places.specs.Channels.{Channel, Channels, channel_at, passed, extended}

abbrev pub map_from : {X Y : Type 0} → (ℕ → X → Y) → ℕ → List X → List Y
map_from f n [] = []
map_from f n (x ∷ xs) = f n x ∷ map_from f (suc n) xs

get_mapped : {X Y : Type 0} (f : ℕ → X → Y) (n : ℕ) (xs : List X) (k : ℕ) → slice_get (map_from f n xs) k ≡ option_map (f (n + k)) (slice_get xs k)
get_mapped f n [] k = refl
get_mapped f n (x ∷ xs) zero = let e : n ≡ n + 0 = omega arith in ap (λ m. Some (f m x)) e
get_mapped f n (x ∷ xs) (suc k) = let e : suc n + k ≡ n + suc k = omega arith in get_mapped f (suc n) xs k ∙ ap (λ m. option_map (f m) (slice_get xs k)) e

from_first : {X Y : Type 0} (f : ℕ → X → Y) (xs : List X) (k : ℕ) → slice_get (map_from f 0 xs) k ≡ option_map (f k) (slice_get xs k)
from_first f xs k = let e : 0 + k ≡ k = omega arith in get_mapped f 0 xs k ∙ ap (λ m. option_map (f m) (slice_get xs k)) e

not_taken : (due next : ℕ) → (if next == due then due + 0 else next) ≡ next
not_taken due next = elim (eqb_tells next due) [
  | inl here ↦ ap (λ b. if b then due + 0 else next) here.0 ∙ (let e = here.1 in omega arith)
  | inr other ↦ ap (λ b. if b then due + 0 else next) other.0
]

module _ {M : Type 0} where
  -- each channel changed
  abbrev pub over : (ℕ → ℕ → Channel M → Channel M) → Channels M → Channels M
  over f links = map_from (λ a row. map_from (f a) 0 row) 0 links

  pub channel_over : (f : ℕ → ℕ → Channel M → Channel M) (links : Channels M) (a b : ℕ) → channel_at (over f links) a b ≡ option_map (f a b) (channel_at links a b)
  channel_over f links a b = ap (option_and_then (λ row. slice_get row b)) (from_first (λ a row. map_from (f a) 0 row) links a) ∙ go (slice_get links a)
    where
      go : (o : Option (List (Channel M))) → option_and_then (λ row. slice_get row b) (option_map (λ row. map_from (f a) 0 row) o) ≡ option_map (f a b) (option_and_then (λ row. slice_get row b) o)
      go None = refl
      go (Some row) = from_first (f a) row b

  -- the channel once these messages were posted, and so many taken from a number on
  abbrev pub after_from : ℕ → List M → ℕ → Channel M → Channel M
  after_from due posts taken c = record { messages = c.messages ++ posts; next = if c.next == due then due + taken else c.next }

  -- none was taken
  pub after_none : (due : ℕ) (posts : List M) (c : Channel M) → after_from due posts 0 c ≡ extended posts c
  after_none due posts c = ap (λ n. record { messages = c.messages ++ posts; next = n }) (not_taken due c.next)

  pub after_nothing : (due : ℕ) (c : Channel M) → after_from due [] 0 c ≡ c
  after_nothing due c = after_none due [] c ∙ ap (λ ms. record { messages = ms; next = c.next }) (append-nil c.messages)

  pub after_extended : (due taken : ℕ) (first more : List M) (c : Channel M) → after_from due more taken (extended first c) ≡ after_from due (first ++ more) taken c
  after_extended due taken first more c = ap (λ ms. record { messages = ms; next = if c.next == due then due + taken else c.next }) (append_assoc c.messages first more)

  pub after_passed : (due taken : ℕ) (posts : List M) (c : Channel M) → c.next ≤ due → after_from (suc due) posts taken (passed due c) ≡ after_from due posts (suc taken) c
  after_passed due taken posts c fits = ap (λ n. record { messages = c.messages ++ posts; next = n }) (elim (eqb_tells c.next due) [
    | inl here ↦
        ap (λ b. if (if b then suc due else c.next) == suc due then suc due + taken else (if b then suc due else c.next)) here.0
        ∙ ap (λ b. if b then suc due + taken else suc due) (eq-eqb (suc due) (suc due) refl) ∙ (let e : suc due + taken ≡ due + suc taken = omega arith in e)
        ∙ ap (λ b. if b then due + suc taken else c.next) (sym here.0)
    | inr other ↦
        ap (λ b. if (if b then suc due else c.next) == suc due then suc due + taken else (if b then suc due else c.next)) other.0 ∙ beside ∙ ap (λ b. if b then due + suc taken else c.next) (sym other.0)
  ])
    where
      beside : (if c.next == suc due then suc due + taken else c.next) ≡ c.next
      beside = elim (eqb_tells c.next (suc due)) [ inl here ↦ absurd (let e = here.1 in omega arith) | inr other ↦ ap (λ b. if b then suc due + taken else c.next) other.0 ]
