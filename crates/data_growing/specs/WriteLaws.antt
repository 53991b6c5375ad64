-- Of two writes one wins: the order of writes is total, so the winner of many doesn't depend on how they are paired.
use Rattle.std.proofs.Common.{◌≡◌, ℕ, ◌+◌, ◌<◌, ◌≤◌, ◌⊎◌, max, Bool, true, false, Option, None, Some, refl, ap, sym, ◌∙◌, arith, ⊎_elim, inl, inr}
use Rattle.std.specs.Prelude.{if◌then◌else◌}
use Rattle.std.specs.declared.cmp.Ordering.{Ordering}
use Rattle.std.specs.declared.cmp.Ordering.TheVariants.{Less, Equal, Greater}
use Rattle.std.specs.Ordering.{nat_cmp, is_lt, ordering_then, ordering_reverse}
use Rattle.std.specs.Cmp.{IsTotalOrder, nat_cmp_is, nat_cmp_total, on_total, back_total, then_total}
use Rattle.std.specs.Cmp.Lexicographic.{nat_list_cmp_total}
use Rattle.std.proofs.lemmas.Bool.{cases_eq, cases_lt}
use Rattle.model_meanings.specs.Growing.{Assignment}
use Rattle.base_vectors.specs.declared.id.Dot.{Dot}
use Rattle.data_growing.specs.declared.register.Written.{Written}
use Rattle.base_bytes.proofs.TextLaws.{less_of, order_equal}
use Rattle.data_growing.specs.Registers.{write_order, winning, register_written, register_joined, write_after}

-- NUMBERS

-- what the order of two numbers says
order_of : (a b : ℕ) → ((nat_cmp a b ≡ Less) × (a < b)) ⊎ (((nat_cmp a b ≡ Equal) × (a ≡ b)) ⊎ ((nat_cmp a b ≡ Greater) × (b < a)))
order_of a b = ⊎_elim
    (λ (l : a < b). inl (sym (nat_cmp_is a b Less l), l))
    (λ (g : b ≤ a). inr (⊎_elim
    (λ (e : a ≡ b). inl (sym (nat_cmp_is a b Equal e), e))
    (λ (ne : a ≡ b → ⊥). let more : b < a = omega arith in inr (sym (nat_cmp_is a b Greater more), more)) (cases_eq a b))) (cases_lt a b)

then_true : (a b : ℕ) (rest : Ordering) → is_lt (ordering_then (nat_cmp a b) rest) ≡ true → (a < b) ⊎ ((a ≡ b) × (is_lt rest ≡ true))
then_true a b rest e = ⊎_elim
    (λ (less : (nat_cmp a b ≡ Less) × (a < b)). inl less.1)
    (λ (more : ((nat_cmp a b ≡ Equal) × (a ≡ b)) ⊎ ((nat_cmp a b ≡ Greater) × (b < a))). ⊎_elim
    (λ (same : (nat_cmp a b ≡ Equal) × (a ≡ b)). inr (same.1, sym (ap (λ r. is_lt (ordering_then r rest)) same.0) ∙ e))
    (λ (greater : (nat_cmp a b ≡ Greater) × (b < a)). absurd (let f = sym (ap (λ r. is_lt (ordering_then r rest)) greater.0) ∙ e in cc f)) more) (order_of a b)

then_false : (a b : ℕ) (rest : Ordering) → is_lt (ordering_then (nat_cmp a b) rest) ≡ false → (b < a) ⊎ ((a ≡ b) × (is_lt rest ≡ false))
then_false a b rest e = ⊎_elim
    (λ (less : (nat_cmp a b ≡ Less) × (a < b)). absurd (let f = sym (ap (λ r. is_lt (ordering_then r rest)) less.0) ∙ e in cc f))
    (λ (more : ((nat_cmp a b ≡ Equal) × (a ≡ b)) ⊎ ((nat_cmp a b ≡ Greater) × (b < a))). ⊎_elim
    (λ (same : (nat_cmp a b ≡ Equal) × (a ≡ b)). inr (same.1, sym (ap (λ r. is_lt (ordering_then r rest)) same.0) ∙ e))
    (λ (greater : (nat_cmp a b ≡ Greater) × (b < a)). inl greater.1) more) (order_of a b)

then_less : (a b : ℕ) (rest : Ordering) → a < b → is_lt (ordering_then (nat_cmp a b) rest) ≡ true
then_less a b rest l = ap (λ r. is_lt (ordering_then r rest)) (sym (nat_cmp_is a b Less l))

then_equal : (a b : ℕ) (rest : Ordering) → ordering_then (nat_cmp a b) rest ≡ Equal → (a ≡ b) × (rest ≡ Equal)
then_equal a b rest e = ⊎_elim
    (λ (less : (nat_cmp a b ≡ Less) × (a < b)). absurd (let f = sym (ap (λ r. ordering_then r rest) less.0) ∙ e in cc f))
    (λ (more : ((nat_cmp a b ≡ Equal) × (a ≡ b)) ⊎ ((nat_cmp a b ≡ Greater) × (b < a))). ⊎_elim
    (λ (same : (nat_cmp a b ≡ Equal) × (a ≡ b)). (same.1, sym (ap (λ r. ordering_then r rest) same.0) ∙ e))
    (λ (greater : (nat_cmp a b ≡ Greater) × (b < a)). absurd (let f = sym (ap (λ r. ordering_then r rest) greater.0) ∙ e in cc f)) more) (order_of a b)

-- WRITES

total_order : IsTotalOrder write_order
total_order = then_total (back_total (on_total (λ (w : Written). w.timestamp) nat_cmp_total)) (then_total (on_total (λ (w : Written). w.writer) nat_cmp_total) (on_total (λ (w : Written). w.text) nat_list_cmp_total))

pub same_write : (v w : Written) → v.text ≡ w.text → v.timestamp ≡ w.timestamp → v.writer ≡ w.writer → v ≡ w
same_write v w e f g = λ i. record { text = e i; timestamp = f i; writer = g i }

equal_writes : (v w : Written) → write_order v w ≡ Equal → v ≡ w
equal_writes v w e =
    let first = then_equal w.timestamp v.timestamp _ e in
    let second = then_equal v.writer w.writer _ first.1 in
    same_write v w (order_equal v.text w.text second.1) (sym first.0) second.0

-- what it says that a write wins, and that it doesn't
pub wins_says : (w v : Written) → is_lt (write_order w v) ≡ true → (v.timestamp ≤ w.timestamp) × (v.timestamp ≡ w.timestamp → w.writer ≤ v.writer)
wins_says w v e = ⊎_elim
    (λ (less : v.timestamp < w.timestamp). (omega arith, λ same. absurd (omega arith)))
    (λ (rest : (v.timestamp ≡ w.timestamp) × (is_lt (ordering_then (nat_cmp w.writer v.writer) _) ≡ true)).
    let first = rest.0 in (
      omega arith,
      λ same. ⊎_elim
          (λ (less : w.writer < v.writer). omega arith)
          (λ (more : (w.writer ≡ v.writer) × (is_lt _ ≡ true)). let second = more.0 in omega arith) (then_true w.writer v.writer _ rest.1),
    )) (then_true v.timestamp w.timestamp _ e)

pub loses_says : (w v : Written) → is_lt (write_order w v) ≡ false → (w.timestamp ≤ v.timestamp) × (w.timestamp ≡ v.timestamp → v.writer ≤ w.writer)
loses_says w v e = ⊎_elim
    (λ (less : w.timestamp < v.timestamp). (omega arith, λ same. absurd (omega arith)))
    (λ (rest : (v.timestamp ≡ w.timestamp) × (is_lt (ordering_then (nat_cmp w.writer v.writer) _) ≡ false)).
    let first = rest.0 in (
      omega arith,
      λ same. ⊎_elim
          (λ (less : v.writer < w.writer). omega arith)
          (λ (more : (w.writer ≡ v.writer) × (is_lt _ ≡ false)). let second = more.0 in omega arith) (then_false w.writer v.writer _ rest.1),
    )) (then_false v.timestamp w.timestamp _ e)

-- THE WINNER

pub pick_second : (v w : Written) → is_lt (write_order w v) ≡ true → winning v w ≡ w
pick_second v w e = ap (λ b. if b then w else v) e

pub pick_first : (v w : Written) → is_lt (write_order w v) ≡ false → winning v w ≡ v
pick_first v w e = ap (λ b. if b then w else v) e

winning_same : (v : Written) → winning v v ≡ v
winning_same v = go (is_lt (write_order v v))
  where
    go : (b : Bool) → (if b then v else v) ≡ v
    go true = refl
    go false = refl

winning_comm : (v w : Written) → winning v w ≡ winning w v
winning_comm v w = go (write_order w v) refl
  where
    back : (r : Ordering) → write_order w v ≡ r → is_lt (write_order v w) ≡ is_lt (ordering_reverse r)
    back r e = ap is_lt (total_order.antisymm v w ∙ ap ordering_reverse e)

    go : (r : Ordering) → write_order w v ≡ r → winning v w ≡ winning w v
    go Less e = pick_second v w (ap is_lt e) ∙ sym (pick_first w v (back Less e))
    go Equal e = pick_first v w (ap is_lt e) ∙ sym (equal_writes w v e) ∙ sym (pick_first w v (back Equal e))
    go Greater e = pick_first v w (ap is_lt e) ∙ sym (pick_second w v (back Greater e))

winning_upper : (v w : Written) → winning v (winning v w) ≡ winning v w
winning_upper v w = go (is_lt (write_order w v)) refl
  where
    go : (b : Bool) → is_lt (write_order w v) ≡ b → winning v (winning v w) ≡ winning v w
    go true e = ap (winning v) (pick_second v w e)
    go false e = ap (winning v) (pick_first v w e) ∙ winning_same v ∙ sym (pick_first v w e)

-- a write that wins over the first wins over the second, or that one over the first
chain : (u v w : Written) → is_lt (write_order w v) ≡ true → is_lt (write_order v u) ≡ true → is_lt (write_order w u) ≡ true
chain u v w p q = ap is_lt (total_order.trans w v u (less_of _ p) (less_of _ q))

unchain : (u v w : Written) → is_lt (write_order w v) ≡ false → is_lt (write_order v u) ≡ false → is_lt (write_order w u) ≡ false
unchain u v w p q = go (write_order w v) refl (is_lt (write_order w u)) refl
  where
    go : (r : Ordering) → write_order w v ≡ r → (b : Bool) → is_lt (write_order w u) ≡ b → is_lt (write_order w u) ≡ false
    go r e false is = is
    go Less e true is = absurd (let f = sym p ∙ ap is_lt e in cc f)
    go Equal e true is = absurd (let f = sym q ∙ ap is_lt (sym (total_order.congr w v u e)) ∙ is in cc f)
    go Greater e true is = absurd (
        let before : write_order v w ≡ Less = total_order.antisymm v w ∙ ap ordering_reverse e in
        let f = sym q ∙ ap is_lt (total_order.trans v w u before (less_of _ is)) in cc f)

winning_assoc : (u v w : Written) → winning (winning u v) w ≡ winning u (winning v w)
winning_assoc u v w = go (is_lt (write_order v u)) refl (is_lt (write_order w v)) refl
  where
    go : (b : Bool) → is_lt (write_order v u) ≡ b → (c : Bool) → is_lt (write_order w v) ≡ c → winning (winning u v) w ≡ winning u (winning v w)
    go true p true q = ap (λ x. winning x w) (pick_second u v p) ∙ pick_second v w q ∙ sym (ap (winning u) (pick_second v w q) ∙ pick_second u w (chain u v w q p))
    go true p false q = ap (λ x. winning x w) (pick_second u v p) ∙ pick_first v w q ∙ sym (ap (winning u) (pick_first v w q) ∙ pick_second u v p)
    go false p true q = ap (λ x. winning x w) (pick_first u v p) ∙ sym (ap (winning u) (pick_second v w q))
    go false p false q = ap (λ x. winning x w) (pick_first u v p) ∙ pick_first u w (unchain u v w q p) ∙ sym (ap (winning u) (pick_first v w q) ∙ pick_first u v p)

-- REGISTERS

pub join_comm : (a b : Option Written) → register_joined a b ≡ register_joined b a
join_comm None None = refl
join_comm None (Some w) = refl
join_comm (Some v) None = refl
join_comm (Some v) (Some w) = ap Some (winning_comm v w)

pub join_assoc : (a b c : Option Written) → register_joined (register_joined a b) c ≡ register_joined a (register_joined b c)
join_assoc a b None = refl
join_assoc a None (Some w) = refl
join_assoc None (Some v) (Some w) = refl
join_assoc (Some u) (Some v) (Some w) = ap Some (winning_assoc u v w)

pub join_same : (a : Option Written) → register_joined a a ≡ a
join_same None = refl
join_same (Some v) = ap Some (winning_same v)

pub join_upper : (a b : Option Written) → register_joined a (register_joined a b) ≡ register_joined a b
join_upper None None = refl
join_upper None (Some w) = refl
join_upper (Some v) None = ap Some (winning_same v)
join_upper (Some v) (Some w) = ap Some (winning_upper v w)

-- two deltas as one
pub absorb_combined : (state : Option Written) (first later : Written) → ◌≡◌ {A = Option Written} (Some (register_written state (winning first later))) (Some (register_written (Some (register_written state first)) later))
absorb_combined state first later = sym (join_assoc state (Some first) (Some later))

pub combined_writer : (first later : Written) (origin : ℕ) → first.writer ≡ origin → later.writer ≡ origin → (winning first later).writer ≡ origin
combined_writer first later origin p q = go (is_lt (write_order later first))
  where
    go : (b : Bool) → (if b then later else first).writer ≡ origin
    go true = q
    go false = p

-- a write after all that the register has wins
pub written_after : (state : Option Written) (assignment : Assignment) (dot : Dot) → register_written state (write_after state assignment dot) ≡ write_after state assignment dot
written_after None assignment dot = refl
written_after (Some own) assignment dot = pick_second own (write_after (Some own) assignment dot) (then_less own.timestamp (max assignment.now (own.timestamp + 1)) _ (omega arith))
