-- No identity that was pruned has a number or is mentioned, whatever becomes of an envelope.
use Rattle.std.proofs.Common.{◌≡◌, ◌≢◌, ℕ, ◌+◌, Bool, true, false, max, ap, sym, ◌∙◌, inl, inr}
use Rattle.std.specs.FinMap as map
use Rattle.std.proofs.lemmas.Bool.{cases_eq}
use Rattle.model_history.specs.Table.{with_at}
use Rattle.model_history.specs.Vector.{with_member}
use Rattle.model_history.proofs.HistoryLaws.{with_at_other}
use Rattle.model_history.proofs.CutLaws.{with_at_is, with_member_other}
use Rattle.base_vectors.specs.Vectors.{Numbers, number_at}
use Rattle.data_markers.specs.Marks.{Marks, performed_in}
use Rattle.data_envelope.specs.Contents.{AreForgotten}
use Rattle.data_envelope.proofs.Tests.{performed_empty}

module _ {T : Type 0} (mentioned : T → ℕ → Bool) where
  -- without a mark nobody was pruned
  pub forgotten_none : (value : T) (versions : Numbers) (marks : Marks) → marks ≡ map.empty → AreForgotten mentioned value versions marks
  forgotten_none value versions marks none id pruned = absurd (let no : false ≡ true = sym (performed_empty id) ∙ ap (λ m. performed_in m id) (sym none) ∙ pruned in cc)

  -- other marks, of which the same are performed
  pub forgotten_still : (value : T) (versions : Numbers) (old new : Marks) → ((i : ℕ) → performed_in new i ≡ performed_in old i) → AreForgotten mentioned value versions old → AreForgotten mentioned value versions new
  forgotten_still value versions old new same h id pruned = h id (sym (same id) ∙ pruned)

  -- records of an identity that was not pruned
  pub forgotten_grown : (value value' : T) (versions versions' : Numbers) (marks : Marks) (origin : ℕ) → performed_in marks origin ≡ false → ((i : ℕ) → i ≢ origin → number_at versions' i ≡ number_at versions i)
      → ((i : ℕ) → i ≢ origin → mentioned value i ≡ false → mentioned value' i ≡ false) → AreForgotten mentioned value versions marks → AreForgotten mentioned value' versions' marks
  forgotten_grown value value' versions versions' marks origin member numbers names h id pruned =
      let other : id ≢ origin = λ e. let no : false ≡ true = sym member ∙ ap (performed_in marks) (sym e) ∙ pruned in cc in
      (numbers id other ∙ (h id pruned).0, names id other (h id pruned).1)

  -- a prune of one more identity, as a record of an owner that was not pruned
  pub forgotten_pruned : (value value' : T) (versions versions' : Numbers) (marks marks' : Marks) (owner removed : ℕ) → performed_in marks owner ≡ false → ((i : ℕ) → performed_in marks' i ≡ with_member (performed_in marks) removed i)
      → ((i : ℕ) → number_at versions' i ≡ with_at (with_at (number_at versions) owner (number_at versions owner + 1)) removed 0 i)
      → ((i : ℕ) → i ≢ owner → mentioned value i ≡ false → mentioned value' i ≡ false) → mentioned value' removed ≡ false → AreForgotten mentioned value versions marks → AreForgotten mentioned value' versions' marks'
  forgotten_pruned value value' versions versions' marks marks' owner removed member performed numbers names gone h id pruned = elim (cases_eq id removed) [
    | inl same ↦ (numbers id ∙ with_at_is (with_at (number_at versions) owner (number_at versions owner + 1)) removed 0 id same, ap (mentioned value') same ∙ gone)
    | inr apart ↦
        let before : performed_in marks id ≡ true = sym (with_member_other (performed_in marks) removed id apart) ∙ sym (performed id) ∙ pruned in
        let other : id ≢ owner = λ e. let no : false ≡ true = sym member ∙ ap (performed_in marks) (sym e) ∙ before in cc in (
          numbers id ∙ with_at_other (with_at (number_at versions) owner (number_at versions owner + 1)) removed 0 id apart ∙ with_at_other (number_at versions) owner (number_at versions owner + 1) id other ∙ (h id before).0,
          names id other (h id before).1,
        )
  ]

  -- two parts with the same pruned identities, joined
  pub forgotten_joined : (one two both : T) (m n r : Numbers) (marks marks' new : Marks) → ((i : ℕ) → performed_in marks i ≡ performed_in marks' i) → ((i : ℕ) → performed_in new i ≡ performed_in marks i) → ((i : ℕ) → number_at r i ≡ max (number_at m i) (number_at n i))
      → ((i : ℕ) → mentioned one i ≡ false → mentioned two i ≡ false → mentioned both i ≡ false) → AreForgotten mentioned one m marks → AreForgotten mentioned two n marks' → AreForgotten mentioned both r new
  forgotten_joined one two both m n r marks marks' new alike same numbers names h h' id pruned =
      let here : performed_in marks id ≡ true = sym (same id) ∙ pruned in
      let there : performed_in marks' id ≡ true = sym (alike id) ∙ here in
      (numbers id ∙ (λ j. max ((h id here).0 j) ((h' id there).0 j)), names id (h id here).1 (h' id there).1)
