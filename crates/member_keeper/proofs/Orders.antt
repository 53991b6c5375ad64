-- A table stays in the order of its keys.
use Rattle.std.proofs.Common.{◌≡◌, List, [], ◌∷◌, true, refl, subst}
use Rattle.std.specs.declared.cmp.Ordering.{Ordering}
use Rattle.std.specs.declared.cmp.Ordering.TheVariants.{Less, Equal, Greater}
use Rattle.std.specs.Ordering.{match_ordering}
use Rattle.model_history.specs.Texts.{Text, text_lt}
use Rattle.base_bytes.specs.TextOrder.{text_order, IsBelowAll}
use Rattle.base_bytes.proofs.TextLaws.{order_less, order_equal, order_greater, lt_trans}
use Rattle.member_keeper.specs.declared.stored.Stored.{Stored}
use Rattle.member_keeper.specs.Tables.{Table, put, put_all, keys_of, IsTable}

below_all_of_less : (x y : Text) (ys : List Text) → text_lt x y ≡ true → IsBelowAll y ys → IsBelowAll x ys
below_all_of_less x y [] p h = tt
below_all_of_less x y (z ∷ zs) p h = (lt_trans x y z p h.0, below_all_of_less x y zs p h.1)

below_put : (x : Text) (t : Table) (e : Stored) → IsBelowAll x (keys_of t) → text_lt x e.key ≡ true → IsBelowAll x (keys_of (put t e))
below_put x [] e below less = (less, tt)
below_put x (y ∷ t) e below less = go (text_order y.key e.key) (below_put x t e below.1 less)
  where
    go : (o : Ordering) → IsBelowAll x (keys_of (put t e)) → IsBelowAll x (keys_of (match_ordering o (y ∷ put t e) (e ∷ t) (e ∷ y ∷ t)))
    go Less rest = (below.0, rest)
    go Equal rest = (less, below.1)
    go Greater rest = (less, below)

-- an entry put into a table leaves a table
pub table_put : (t : Table) (e : Stored) → IsTable t → IsTable (put t e)
table_put [] e h = (tt, tt)
table_put (y ∷ t) e h = go (text_order y.key e.key) refl (table_put t e h.1)
  where
    go : (o : Ordering) → text_order y.key e.key ≡ o → IsTable (put t e) → IsTable (match_ordering o (y ∷ put t e) (e ∷ t) (e ∷ y ∷ t))
    go Less is rest = (below_put y.key t e h.0 (order_less y.key e.key is), rest)
    go Equal is rest = (subst (λ (k : Text). IsBelowAll k (keys_of t)) (order_equal y.key e.key is) h.0, h.1)
    go Greater is rest = let less = order_greater y.key e.key is in ((less, below_all_of_less e.key y.key (keys_of t) less h.0), h)

pub table_put_all : (t es : Table) → IsTable t → IsTable (put_all t es)
table_put_all t [] h = h
table_put_all t (e ∷ es) h = table_put_all (put t e) es (table_put t e h)
