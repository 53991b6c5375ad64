use Rattle.std.proofs.Common.{◌≡◌, ◌≢◌, ℕ, List, [], ◌∷◌, length, Option, None, refl, ap, ◌∙◌, arith}
use Rattle.serde_json.specs.Data.{Items}
use Rattle.serde_json.specs.View.{items_view}
use Rattle.serde_json.specs.declared.value.Value.{Value}
use Rattle.trace_text.specs.Fields.{◌>>=◌}
use Rattle.trace_text.specs.Acts.{pair_in, pair_of}
use Rattle.trace_text.proofs.known.pair.Goals as goal

not_two : (least : ℕ) (values : List Value) → length values ≢ 2 → None ≡ pair_in least (items_view values)
not_two least [] ne = refl
not_two least (x ∷ []) ne = refl
not_two least (x ∷ y ∷ []) ne = absurd (ne (omega arith))
not_two least (x ∷ y ∷ z ∷ rest) ne = refl

pub returns-else-list-eq2-clause-value : goal.returns-else-list-eq2-clause-value
unfolding pair_of
returns-else-list-eq2-clause-value c =
    not_two c.args.least c.as_slice-list.result.now c.if-list-eq2.false ∙ ap (λ values. pair_in c.args.least (items_view values)) c.as_slice-list.ensures.value
    ∙ ap (λ (o : Option Items). o >>= pair_in c.args.least) c.in_ok-as_array.ensures
