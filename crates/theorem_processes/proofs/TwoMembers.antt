-- What real calls make of two processes meets the premises.
use Rattle.std.proofs.Common.{◌≡◌, ℕ, ◌<◌, ◌≤◌, List, [], ◌∷◌, length, get_or, refl, sym, ap, subst, ◌∙◌, arith, Bool, Some, None, inl, inr}
use Rattle.std.specs.Prelude.{if◌then◌else◌, ◌==◌, IsFalse, slice_get}
use Rattle.std.proofs.lemmas.Bool.{ne_eqb}
use Rattle.std.proofs.lemmas.Bool.Decides.{eqb_tells}
use Rattle.model_members.specs.View.{first_view}
use Rattle.model_kinds.specs.declared.operation.Op.{Op}
use Rattle.data_lattice.specs.declared.replica.Replica.{Ghosts}
use Rattle.data_lattice.specs.declared.spelled.SpelledData.{Ghosts as Spelling}
use Rattle.data_delta_codec.specs.declared.spelled_delta.SpelledDelta.{Ghosts as DeltaSpelling}
use Rattle.member_keeper.specs.declared.keeper.Keeper.{Ghosts as Keeping}
use Rattle.member_messages.specs.declared.message.Post.{Post}
use Rattle.member_node.specs.declared.key.KeyDecl.{KeyDecl}
use Rattle.member_node.specs.declared.node.Node.{Node}
use Rattle.member_node.specs.declared.input.Input.TheVariants as input
use Rattle.member_quorum.specs.declared.level.Level.TheVariants.{All}
use Rattle.world_places.specs.Sending.{messages_to}
use Rattle.theorem_processes.specs.Declaring.{HasDeclared}
use Rattle.theorem_processes.specs.Forgetting.{HasForgotten}
use Rattle.theorem_processes.specs.Processes.{IsMade, Begin}
use Rattle.theorem_processes.specs.Worked.{two, IsPosting, IsTaking, AreMet}

-- the first item of a list that is not empty
pub first_item : {X : Type 0} (xs : List X) (x : X) → IsFalse (length xs == 0) → x ≡ get_or xs 0 x → slice_get xs 0 ≡ Some x
first_item [] x some is = absurd (cc some)
first_item (y ∷ xs) x some is = ap Some (sym is)

-- a list of one item
pub one_item : {X : Type 0} (xs : List X) (x : X) → length xs ≡ 1 → x ≡ get_or xs 0 x → xs ≡ x ∷ []
one_item [] x one is = absurd (omega arith)
one_item (y ∷ []) x one is = ap (λ z. z ∷ []) (sym is)
one_item (y ∷ z ∷ zs) x one is = absurd (omega arith)

module _ {T K Kind Delta : Type 0} {ghosts : Ghosts T Kind Op Delta} {keeping : Keeping K} (decls : List (KeyDecl T Kind Op Delta)) (one other : Node T K Kind Op Delta ghosts keeping) (is_one : IsMade decls 0 (first_view 2) one) (is_other : IsMade decls 1 (first_view 2) other) where
  made : (i : ℕ) → i < 2 → (new : Node T K Kind Op Delta ghosts keeping) × ((two one other).members i ≡ Some new) × IsMade decls i (first_view 2) new
  made i within = elim (eqb_tells i 0) [
    | inl first ↦ (one, ap (λ (b : Bool). if b then Some one else (if i == 1 then Some other else None)) first.0, subst (λ (k : ℕ). IsMade decls k (first_view 2) one) (sym first.1) is_one)
    | inr later ↦ elim (eqb_tells i 1) [
      | inl second ↦ (
        other,
        ap (λ (b : Bool). if b then Some one else (if i == 1 then Some other else None)) later.0 ∙ ap (λ (b : Bool). if b then Some other else None) second.0,
        subst (λ (k : ℕ). IsMade decls k (first_view 2) other) (sym second.1) is_other,
      )
      | inr none ↦ absurd (let a = later.1 in let b = none.1 in omega arith)
    ]
  ]

  no_more : (i : ℕ) → 2 ≤ i → (two one other).members i ≡ None
  no_more i past =
      ap (λ (b : Bool). if b then Some one else (if i == 1 then Some other else None)) (ne_eqb i 0 (λ e. absurd (omega arith)))
      ∙ ap (λ (b : Bool). if b then Some other else None) (ne_eqb i 1 (λ e. absurd (omega arith)))

  begin_two : Begin decls 2 (two one other)
  begin_two = record { some = omega arith; few = omega arith; view = refl; made = made; no_more = no_more; remembers = λ i. refl; silent = λ from to. refl }

  module _ (spelling : Spelling T Kind Op Delta) (deltas : DeltaSpelling T Kind Op Delta) (after middle declared last forgetful : Node T K Kind Op Delta ghosts keeping) (bytes : List ℕ) (decl : KeyDecl T Kind Op Delta)
      (posting : IsPosting spelling deltas one 1 bytes after) (once : IsTaking spelling deltas other 0 bytes middle) (has : HasDeclared decls decl middle declared) (again : IsTaking spelling deltas declared 0 bytes last) (forgets : HasForgotten 1 last forgetful) where
    posted : slice_get (messages_to posting.output.posts 1) 0 ≡ Some posting.message
    posted = ap (λ (posts : List (Post T Kind Op Delta ghosts)). slice_get (messages_to posts 1) 0) posting.one

    pub are_met : AreMet spelling deltas decls after forgetful
    are_met =
        record {
          new_one = one;
          new_other = other;
          begin = begin_two;
          given = input.Update posting.key posting.op All;
          fate = posting.fate;
          output = posting.output;
          bytes = bytes;
          once = record { read = once.read; fate = once.fate; output = once.output; after = middle };
          decl = decl;
          declared = declared;
          again = record { read = again.read; fate = again.fate; output = again.output; after = last };
          happen = (
            (tt, record { before = one; runs = refl; makes = posting.makes }),
            (
              (record { post = posting.message; posted = posted; spelled = posting.spelled; read_so = once.read_so }, record { before = other; runs = refl; makes = once.makes }),
              (
                (middle, refl, has),
                ((record { post = posting.message; posted = posted; spelled = posting.spelled; read_so = again.read_so }, record { before = declared; runs = refl; makes = again.makes }), ((last, refl, forgets), tt)),
              ),
            ),
          );
        }
