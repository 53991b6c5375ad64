-- What was put into a table, put over another one: as if it had been put there at once.
use Rattle.std.proofs.Common.{◌≡◌, List, [], ◌∷◌, true, refl, ap, sym, ◌∙◌, subst}
use Rattle.std.specs.declared.cmp.Ordering.{Ordering}
use Rattle.std.specs.declared.cmp.Ordering.TheVariants.{Less, Equal, Greater}
use Rattle.std.specs.Ordering.{match_ordering, ordering_reverse}
use Rattle.std.specs.Cmp.Lexicographic.{nat_list_cmp_total}
use Rattle.model_history.specs.Texts.{Text, text_lt}
use Rattle.base_bytes.specs.TextOrder.{text_order, IsBelowAll}
use Rattle.base_bytes.proofs.TextLaws.{less_order, order_less, order_equal, order_greater, lt_trans}
use Rattle.member_keeper.specs.declared.stored.Stored.{Stored}
use Rattle.member_keeper.specs.Tables.{Table, put, put_all, keys_of, IsTable}
use Rattle.member_keeper.proofs.Orders.{table_put}

greater_order : (x y : Text) → text_lt y x ≡ true → text_order x y ≡ Greater
greater_order x y less = nat_list_cmp_total.antisymm x y ∙ ap ordering_reverse (less_order y x less)

-- PUT BESIDE THE FIRST ENTRY

abbrev beside : Stored → Table → Stored → Ordering → Table
beside x t e order = match_ordering order (x ∷ put t e) (e ∷ t) (e ∷ x ∷ t)

put_less : (x : Stored) (t : Table) (e : Stored) → text_lt x.key e.key ≡ true → put (x ∷ t) e ≡ x ∷ put t e
put_less x t e less = ap (beside x t e) (less_order x.key e.key less)

put_equal : (x : Stored) (t : Table) (e : Stored) → text_order x.key e.key ≡ Equal → put (x ∷ t) e ≡ e ∷ t
put_equal x t e same = ap (beside x t e) same

put_greater : (x : Stored) (t : Table) (e : Stored) → text_lt e.key x.key ≡ true → put (x ∷ t) e ≡ e ∷ x ∷ t
put_greater x t e more = ap (beside x t e) (greater_order x.key e.key more)

-- ONE ENTRY AFTER ANOTHER

-- of two entries of one key the later stays
pub put_again : (t : Table) (a b : Stored) → text_order a.key b.key ≡ Equal → put (put t a) b ≡ put t b
put_again [] a b same = put_equal a [] b same
put_again (x ∷ t) a b same = go (put_again t a b same) (text_order x.key a.key) refl
  where
    key : a.key ≡ b.key
    key = order_equal a.key b.key same

    go : put (put t a) b ≡ put t b → (o : Ordering) → text_order x.key a.key ≡ o → put (put (x ∷ t) a) b ≡ put (x ∷ t) b
    go rest Less is =
        let less = order_less x.key a.key is in
        let less_b = subst (λ (k : Text). text_lt x.key k ≡ true) key less in
        ap (λ (y : Table). put y b) (put_less x t a less) ∙ put_less x (put t a) b less_b ∙ ap (λ (y : Table). x ∷ y) rest ∙ sym (put_less x t b less_b)
    go rest Equal is =
        ap (λ (y : Table). put y b) (put_equal x t a is) ∙ put_equal a t b same ∙ sym (put_equal x t b (subst (λ (k : Text). text_order x.key k ≡ Equal) key is))
    go rest Greater is =
        let more = order_greater x.key a.key is in
        ap (λ (y : Table). put y b) (put_greater x t a more) ∙ put_equal a (x ∷ t) b same ∙ sym (put_greater x t b (subst (λ (k : Text). text_lt k x.key ≡ true) key more))

-- two entries of different keys may be put in either order
pub put_either : (t : Table) (a b : Stored) → text_lt a.key b.key ≡ true → put (put t a) b ≡ put (put t b) a
put_either [] a b less = put_less a [] b less ∙ sym (put_greater b [] a less)
put_either (x ∷ t) a b less = go (put_either t a b less) (text_order x.key a.key) refl (text_order x.key b.key) refl
  where
    then_b : {y : Table} → put (x ∷ t) a ≡ y → put (put (x ∷ t) a) b ≡ put y b
    then_b e = ap (λ (z : Table). put z b) e

    then_a : {y : Table} → put (x ∷ t) b ≡ y → put (put (x ∷ t) b) a ≡ put y a
    then_a e = ap (λ (z : Table). put z a) e

    go : put (put t a) b ≡ put (put t b) a → (o : Ordering) → text_order x.key a.key ≡ o → (p : Ordering) → text_order x.key b.key ≡ p → put (put (x ∷ t) a) b ≡ put (put (x ∷ t) b) a
    go rest Less is p that =
        let before_a = order_less x.key a.key is in
        let before_b = lt_trans x.key a.key b.key before_a less in
        then_b (put_less x t a before_a) ∙ put_less x (put t a) b before_b ∙ ap (λ (y : Table). x ∷ y) rest
        ∙ sym (then_a (put_less x t b before_b) ∙ put_less x (put t b) a before_a)
    go rest Equal is p that =
        let key = order_equal x.key a.key is in
        let before_b = subst (λ (k : Text). text_lt k b.key ≡ true) (sym key) less in
        then_b (put_equal x t a is) ∙ put_less a t b less ∙ sym (then_a (put_less x t b before_b) ∙ put_equal x (put t b) a is)
    go rest Greater is Less that =
        let after_a = order_greater x.key a.key is in
        let before_b = order_less x.key b.key that in
        then_b (put_greater x t a after_a) ∙ put_less a (x ∷ t) b less ∙ ap (λ (y : Table). a ∷ y) (put_less x t b before_b)
        ∙ sym (then_a (put_less x t b before_b) ∙ put_greater x (put t b) a after_a)
    go rest Greater is Equal that =
        let after_a = order_greater x.key a.key is in
        then_b (put_greater x t a after_a) ∙ put_less a (x ∷ t) b less ∙ ap (λ (y : Table). a ∷ y) (put_equal x t b that)
        ∙ sym (then_a (put_equal x t b that) ∙ put_greater b t a less)
    go rest Greater is Greater that =
        let after_a = order_greater x.key a.key is in
        let after_b = order_greater x.key b.key that in
        then_b (put_greater x t a after_a) ∙ put_less a (x ∷ t) b less ∙ ap (λ (y : Table). a ∷ y) (put_greater x t b after_b)
        ∙ sym (then_a (put_greater x t b after_b) ∙ put_greater b (x ∷ t) a less)

-- an entry whose key comes before all of them may be put before or after them
put_first : (t m : Table) (e : Stored) → IsBelowAll e.key (keys_of m) → put_all (put t e) m ≡ put (put_all t m) e
put_first t [] e below = refl
put_first t (x ∷ m) e below = ap (λ (y : Table). put_all y m) (put_either t e x below.0) ∙ put_first (put t x) m e below.1

-- the same of one whose key stands in front of them
put_last : (t m : Table) (x e : Stored) → text_order x.key e.key ≡ Equal → IsBelowAll x.key (keys_of m) → put_all (put t e) m ≡ put (put_all (put t x) m) e
put_last t m x e same below =
    let key = order_equal x.key e.key same in
    ap (λ (y : Table). put_all y m) (sym (put_again t x e same)) ∙ put_first (put t x) m e (subst (λ (k : Text). IsBelowAll k (keys_of m)) key below)

-- MANY

pub put_over : (t m : Table) (e : Stored) → IsTable m → put_all t (put m e) ≡ put (put_all t m) e
put_over t [] e table = refl
put_over t (x ∷ m) e table = go (put_over (put t x) m e table.1) (text_order x.key e.key) refl
  where
    go : put_all (put t x) (put m e) ≡ put (put_all (put t x) m) e → (o : Ordering) → text_order x.key e.key ≡ o → put_all t (put (x ∷ m) e) ≡ put (put_all (put t x) m) e
    go rest Less is = ap (put_all t) (put_less x m e (order_less x.key e.key is)) ∙ rest
    go rest Equal is = ap (put_all t) (put_equal x m e is) ∙ put_last t m x e is table.0
    go rest Greater is =
        let less = order_greater x.key e.key is in
        ap (put_all t) (put_greater x m e less) ∙ put_first t (x ∷ m) e (less, below e.key x.key m less table.0)
      where
        below : (k l : Text) (n : Table) → text_lt k l ≡ true → IsBelowAll l (keys_of n) → IsBelowAll k (keys_of n)
        below k l [] p h = tt
        below k l (y ∷ n) p h = (lt_trans k l y.key p h.0, below k l n p h.1)

-- entries put into a table that is put over another one
pub puts_over : (t m es : Table) → IsTable m → put_all t (put_all m es) ≡ put_all (put_all t m) es
puts_over t m [] table = refl
puts_over t m (e ∷ es) table = puts_over t (put m e) es (table_put m e table) ∙ ap (λ (y : Table). put_all y es) (put_over t m e table)

-- an entry that comes before all that are put stays in front
put_behind : (x : Stored) (t m : Table) → IsBelowAll x.key (keys_of m) → put_all (x ∷ t) m ≡ x ∷ put_all t m
put_behind x t [] below = refl
put_behind x t (y ∷ m) below = ap (λ (z : Table). put_all z m) (put_less x t y below.0) ∙ put_behind x (put t y) m below.1

-- a table put over an empty one
pub put_alone : (m : Table) → IsTable m → put_all [] m ≡ m
put_alone [] table = refl
put_alone (x ∷ m) table = put_behind x [] m table.0 ∙ ap (λ (y : Table). x ∷ y) (put_alone m table.1)
