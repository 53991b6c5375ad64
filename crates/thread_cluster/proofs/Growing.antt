-- What sessions come to know.
use Rattle.std.proofs.Common.{◌≡◌, ℕ, ◌+◌, ◌≤◌, List, [], ◌∷◌, ◌++◌, Option, Some, slice_get, refl, ap, sym, ◌∙◌, subst, arith, append_assoc, append-nil, length-append, zero-add}
use mathlib.Core.List.{IsPrefix}
use Rattle.thread_machine.specs.declared.machine.Machine.{Ghosts}
use Rattle.thread_machine.specs.declared.entry.Entry.{Entry}
use Rattle.thread_cell.specs.declared.receipt.Receipt.{Receipt}
use Rattle.thread_cell.specs.Lists.{at}
use Rattle.thread_cell.specs.Rule.{calls_at}
use Rattle.thread_cell.specs.Values.{ClientParts}
use Rattle.thread_cell.proofs.Prefixes.{prefix_get, prefix_self, prefix_trans}
use Rattle.thread_cluster.specs.Knowing.{KnowsMore, KnowsSame, GoesOn, Sees, IsTake, Turns, IsAnswered}
use Rattle.thread_cluster.specs.Turning.{HasBegun, HasTaken}
use Rattle.thread_cluster.proofs.Lists.{get_either, none_before}

module _ {E : Type 0} where
  pub knows_trans : (u v w : List (List E)) → KnowsMore u v → KnowsMore v w → KnowsMore u w
  knows_trans u v w a b = record { begins = λ p. prefix_trans (at u p) (at v p) (at w p) (a.begins p) (b.begins p) }

  pub knows_self : (u : List (List E)) → KnowsMore u u
  knows_self u = record { begins = λ p. prefix_self (at u p) }

  -- who knows more than one knows more than who knows the same
  pub knows_same : (u v w : List (List E)) → KnowsMore u v → KnowsSame v w → KnowsMore u w
  knows_same u v w a s = record { begins = λ p. subst (IsPrefix (at u p)) (s.same p) (a.begins p) }

module _ {M I F O R : Type 0} where
  pub goes_on_self : (a : ClientParts M I F O R) → GoesOn a a
  goes_on_self a = record { knows = knows_self a.seen.known; stamp = omega arith; number = refl; table = refl; began = refl }

  pub goes_on_trans : (a b c : ClientParts M I F O R) → GoesOn a b → GoesOn b c → GoesOn a c
  goes_on_trans a b c f s = record {
    knows = knows_trans a.seen.known b.seen.known c.seen.known f.knows s.knows;
    stamp = let x = f.stamp in let y = s.stamp in omega arith;
    number = s.number ∙ f.number;
    table = s.table ∙ f.table;
    began = s.began ∙ f.began;
  }

  pub sees_self : (a : ClientParts M I F O R) → Sees a a
  sees_self a = record { goes_on = goes_on_self a; calls = refl }

  pub sees_trans : (a b c : ClientParts M I F O R) → Sees a b → Sees b c → Sees a c
  sees_trans a b c f s = record { goes_on = goes_on_trans a b c f.goes_on s.goes_on; calls = s.calls ∙ f.calls }

  module _ {X : Type 0} (taken : ℕ → I → List X) (ids : ℕ → Option ℕ) where
    pub take_more : (number : ℕ) (v w : List (List (Entry M I F O R))) (call : ℕ × ℕ) → KnowsMore v w → IsTake taken ids number v call → IsTake taken ids number w call
    take_more number v w call more is = record {
      entry = is.entry;
      stands = prefix_get (at v call.0) (at w call.0) call.1 is.entry (more.begins call.0) is.stands;
      is_own = is.is_own;
      sender = is.sender;
      from = is.from;
      sent_by = is.sent_by;
      message = is.message;
      is_take = is.is_take;
    }

    pub turns_none : (a b : ClientParts M I F O R) → Sees a b → Turns taken ids 0 a b
    turns_none a b sees = record {
      goes_on = sees.goes_on;
      grew = record { added = []; count = refl; calls = sees.calls ∙ sym (append-nil a.calls); each = λ k call e. absurd cc };
    }

    pub turns_more : (m n : ℕ) (a b c : ClientParts M I F O R) → Turns taken ids m a b → Turns taken ids n b c → Turns taken ids (m + n) a c
    turns_more m n a b c f s =
        let before : (k : ℕ) (call : ℕ × ℕ) → slice_get f.grew.added k ≡ Some call → IsTake taken ids c.number c.seen.known call = λ k call e.
        subst (λ (w : ℕ). IsTake taken ids w c.seen.known call) (sym s.goes_on.number) (take_more b.number b.seen.known c.seen.known call s.goes_on.knows (f.grew.each k call e)) in
        record {
          goes_on = goes_on_trans a b c f.goes_on s.goes_on;
          grew = record {
            added = f.grew.added ++ s.grew.added;
            count = let x = f.grew.count in let y = s.grew.count in omega (arith, length-append f.grew.added s.grew.added);
            calls = s.grew.calls ∙ (ap (λ (w : List (ℕ × ℕ)). w ++ s.grew.added) f.grew.calls ∙ append_assoc a.calls f.grew.added s.grew.added);
            each = get_either (IsTake taken ids c.number c.seen.known) f.grew.added s.grew.added before s.grew.each;
          };
        }

    pub turned_after : (n : ℕ) (a b c : ClientParts M I F O R) → Sees a b → Turns taken ids n b c → Turns taken ids n a c
    turned_after n a b c f s = subst (λ (k : ℕ). Turns taken ids k a c) (zero-add n) (turns_more 0 n a b c (turns_none a b f) s)

    pub begun_here : (a b : ClientParts M I F O R) → Sees a b → HasBegun taken ids a b
    begun_here a b f = record { n = 0; turned = turns_none a b f }

    pub begun_after : (m : ℕ) (a b c : ClientParts M I F O R) → Turns taken ids m a b → HasBegun taken ids b c → HasBegun taken ids a c
    begun_after m a b c f s = record { n = m + s.n; turned = turns_more m s.n a b c f s.turned }

    pub begun_seen : (a b c : ClientParts M I F O R) → Sees a b → HasBegun taken ids b c → HasBegun taken ids a c
    begun_seen a b c f s = record { n = s.n; turned = turned_after s.n a b c f s.turned }

  module _ (meaning : Ghosts M I F O R) where
    pub answered_after : (p : ℕ) (input : I) (a b c : ClientParts M I F O R) (r : Receipt M I F O R) → Sees a b → IsAnswered meaning p input b c r → IsAnswered meaning p input a c r
    answered_after p input a b c r f s = record {
      entry = s.entry;
      place = s.place;
      stands = s.stands;
      is_new = none_before (at a.seen.known p) (at b.seen.known p) r.index (f.goes_on.knows.begins p) s.is_new;
      input_is = s.input_is;
      client_is = s.client_is ∙ f.goes_on.number;
      stamp_is = s.stamp_is;
      output_is = s.output_is;
      later = let x = f.goes_on.stamp in let y = s.later in omega arith;
      calls = s.calls ∙ ap (λ (w : List (ℕ × ℕ)). w ++ (p, r.index) ∷ []) f.calls;
      is_new_call = ap (λ (w : List (ℕ × ℕ)). calls_at p r.index w) (sym f.calls) ∙ s.is_new_call;
      goes_on = goes_on_trans a b c f.goes_on s.goes_on;
      start = s.start;
      starts = record { opening = s.starts.opening; opening_is = sym f.goes_on.began ∙ s.starts.opening_is; start_is = s.starts.start_is };
      step = s.step;
    }

module _ {M I F O R X : Type 0} (taken : ℕ → I → List X) (posted : ℕ → O → List X) (ids : ℕ → Option ℕ) where
  pub taken_after : (q p less all n : ℕ) (a b c : ClientParts M I F O R) → Sees a b → less ≤ all → HasTaken taken posted ids q p all n b c → HasTaken taken posted ids q p less n a c
  taken_after q p less all n a b c sees le t = record {
    turned = turned_after taken ids n a b c sees t.turned;
    heard = record { count = let count = t.heard.count in omega arith; heard = t.heard.heard };
  }
