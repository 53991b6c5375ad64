use Rattle.std.proofs.Common.{◌≡◌, ℕ, List, [], ◌∷◌, ◌++◌, ap, ◌∙◌, append_assoc}
use Rattle.base_bytes.specs.Spelling.{number_spelled}
use Rattle.data_markers.proofs.spelling.spell_performed.Goals as goal

-- the tag, the owner and two numbers, one after the other
four_fields : (before tagged owned numbered all at upto : List ℕ) (owner : ℕ) → tagged ≡ before ++ 1 ∷ [] → owned ≡ tagged ++ owner ∷ [] → numbered ≡ owned ++ at → all ≡ numbered ++ upto → all ≡ before ++ (1 ∷ owner ∷ (at ++ upto))
four_fields before tagged owned numbered all at upto owner tag own number rest =
    rest ∙ ap (λ (bytes : List ℕ). bytes ++ upto) (number ∙ ap (λ (bytes : List ℕ). bytes ++ at) (own ∙ ap (λ (bytes : List ℕ). bytes ++ owner ∷ []) tag))
    ∙ append_assoc ((before ++ 1 ∷ []) ++ owner ∷ []) at upto ∙ append_assoc (before ++ 1 ∷ []) (owner ∷ []) (at ++ upto) ∙ append_assoc before (1 ∷ []) (owner ∷ (at ++ upto))

pub returns-clause-sound : goal.returns-clause-sound
returns-clause-sound c = (c.number.ensures.range, record { some = c.requires.at.some; small = c.requires.at.small }, record { some = c.requires.upto.some; small = c.requires.upto.small })

pub returns-clause-ok : goal.returns-clause-ok
returns-clause-ok c =
    four_fields c.args.into.now.items c.push.new.self.items c.push-2.new.self.items c.extend_from_slice.new.self.items c.extend_from_slice-2.new.self.items (number_spelled c.args.at) (number_spelled c.args.upto) c.args.owner
    c.in_ok-push.ensures.items
    (c.in_ok-push-2.ensures.items ∙ ap (λ (n : ℕ). c.push.new.self.items ++ n ∷ []) c.number.ensures.value)
    (c.in_ok-extend_from_slice.ensures.items ∙ ap (λ (bytes : List ℕ). c.push-2.new.self.items ++ bytes) c.to_be_bytes.ensures)
    (c.in_ok-extend_from_slice-2.ensures.items ∙ ap (λ (bytes : List ℕ). c.extend_from_slice.new.self.items ++ bytes) c.to_be_bytes-2.ensures)
