-- A table that spells a store holds it, key by key.
use Rattle.std.proofs.Common.{◌≡◌, ℕ, zero, suc, ◌<◌, List, [], ◌∷◌, length, get_or, refl, sym, ap, subst, ◌∙◌, arith, Bool, true, false, Option, Some, None, cond}
use Rattle.std.specs.Prelude.{All, Any, find, option_map}
use Rattle.std.specs.Str.{bytes_eq}
use Rattle.model_history.specs.Texts.{Text}
use Rattle.model_history.specs.History.{History}
use Rattle.model_history.proofs.PruneLaws.{found}
use Rattle.model_members.specs.Entry.{Entry}
use Rattle.model_members.specs.World.{Store}
use Rattle.model_members.proofs.Steps.{bytes_eq-same}
use Rattle.theorem_runs.proofs.Keeping.{same_text}
use Rattle.model_kinds.specs.declared.kind.Kind.{Kind}
use Rattle.model_kinds.specs.declared.operation.Op.{Op}
use Rattle.data_lattice.specs.declared.replica.Replica.{Ghosts}
use Rattle.data_lattice.specs.declared.spelled.SpelledData.{Ghosts as Spelling}
use Rattle.data_codec.specs.Stored.{entry_stored}
use Rattle.member_keeper.specs.declared.stored.Stored.{Stored}
use Rattle.member_keeper.specs.Tables.{Table}
use Rattle.member_node.specs.Stores.{SpellsEntry, SpellsStore}
use Rattle.script_reading.specs.declared.script.ScriptKey.{ScriptKey}
use Rattle.report_lines.specs.Kept.{bytes_at, HoldsStore}

module _ {X : Type 0} (p : X → Bool) where
  -- where what is found stands
  find_at : (xs : List X) (x : X) → find p xs ≡ Some x → (k : ℕ) × (k < length xs) × ((d : X) → get_or xs k d ≡ x)
  find_at [] x e = absurd (cc e)
  find_at (y ∷ xs) x e = go (p y) e (find_at xs x)
    where
      go : (b : Bool) → cond b (Some y) (find p xs) ≡ Some x → (find p xs ≡ Some x → (k : ℕ) × (k < length xs) × ((d : X) → get_or xs k d ≡ x)) → (k : ℕ) × (k < length (y ∷ xs)) × ((d : X) → get_or (y ∷ xs) k d ≡ x)
      go true e later = let same : y ≡ x = cc e in (0, omega arith, λ d. same)
      go false e later = let r = later e in let less = r.1 in (suc r.0, omega (arith, less), r.2)

  -- where nothing is found nothing passes
  find_none : (xs : List X) → find p xs ≡ None → Any (λ x. p x ≡ true) xs → ⊥
  find_none [] e any = let less = any.2 in absurd (omega (arith, less))
  find_none (y ∷ xs) e any = go (p y) refl e any (find_none xs)
    where
      go : (b : Bool) → p y ≡ b → cond b (Some y) (find p xs) ≡ None → Any (λ x. p x ≡ true) (y ∷ xs) → (find p xs ≡ None → Any (λ x. p x ≡ true) xs → ⊥) → ⊥
      go true is e any later = absurd (cc e)
      go false is e (zero, x, less, at, passes) later = let f : false ≡ true = sym is ∙ ap p at ∙ passes in absurd (cc f)
      go false is e (suc k, x, less, at, passes) later = later e (k, x, omega (arith, less), at, passes)

module _ {T Delta : Type 0} (ghosts : Ghosts T Kind Op Delta) (spelling : Spelling T Kind Op Delta) (kinds : Text → Kind) (logs : Text → History Op) (table : Table) (store : Store Op) (spells : SpellsStore ghosts spelling kinds logs table store) where
  abbrev spelled : Kind → Entry Op → List ℕ
  spelled = entry_stored spelling.history_byte spelling.history_spelled

  -- what stands at a name is what is stored of what the store has there
  holds_at : (name : Text) → bytes_at table name ≡ option_map (spelled (kinds name)) (store name)
  holds_at name = by_found (find (λ (stored : Stored). bytes_eq stored.key name) table) refl
    where
      by_found : (o : Option Stored) → find (λ (stored : Stored). bytes_eq stored.key name) table ≡ o → option_map (λ (stored : Stored). stored.bytes) o ≡ option_map (spelled (kinds name)) (store name)
      by_found (Some stored) is =
          let there = find_at (λ (stored : Stored). bytes_eq stored.key name) table stored is in
          let same : stored.key ≡ name = same_text stored.key name (found (λ (stored : Stored). bytes_eq stored.key name) table stored is) in
          let entry = subst (SpellsEntry ghosts spelling kinds logs store) (there.2 stored) (spells.each there.0 stored there.1) in
          ap Some (entry.bytes ∙ ap (λ key. spelled (kinds key) entry.entry) same) ∙ ap (option_map (spelled (kinds name))) (sym entry.has ∙ ap store same)
      by_found None is = by_stored (store name) refl
        where
          by_stored : (o : Option (Entry Op)) → store name ≡ o → None ≡ option_map (spelled (kinds name)) o
          by_stored None has = refl
          by_stored (Some entry) has =
              let any = spells.all name entry has in
              absurd (find_none (λ (stored : Stored). bytes_eq stored.key name) table is (any.0, any.1, any.2, any.3, ap (λ key. bytes_eq key name) any.4 ∙ bytes_eq-same name))

  pub holds_store : (keys : List ScriptKey) → All (λ (key : ScriptKey). kinds key.key ≡ key.kind) keys → ((name : Text) (entry : Entry Op) → store name ≡ Some entry → Any (λ (key : ScriptKey). (key.key ≡ name) × (key.durable ≡ true)) keys)
      → HoldsStore spelling.history_byte spelling.history_spelled keys table store
  holds_store keys of_kinds declared =
      record {
        durable = λ k d less durable. holds_at (get_or keys k d).key ∙ ap (λ kind. option_map (spelled kind) (store (get_or keys k d).key)) (of_kinds k d less);
        others = λ k d less. let entry = spells.each k d less in declared (get_or table k d).key entry.entry entry.has;
      }
