use Rattle.std.proofs.Common.{ap, ◌∙◌, List, map, nat_eq}
use Rattle.std.specs.List.{filter}
use Rattle.std.specs.FinSet as set
use Rattle.model_history.specs.Texts.{Text, contains_text}
use Rattle.data_growing.proofs.Merging.{rising_of_set}
use Rattle.data_orset.specs.Placing.{Placed, at_dot}
use Rattle.data_orset.specs.Dots.{Dots, has_dot_of}
use Rattle.data_orset.specs.Keeping.{set_of, texts_of, is_other_key}
use Rattle.data_orset.proofs.Changes.{pruned_is, removed_texts}
use Rattle.data_orset.proofs.set.OrSet.take_over.Goals as goal

pub with_all_at-requires-clause-rising : goal.with_all_at-requires-clause-rising
with_all_at-requires-clause-rising c =
    rising_of_set c.deref.result.now (texts_of (filter (λ (p : Placed). nat_eq p.origin c.args.removed) c.self.inside.dots)) (c.deref.ensures.value ∙ c.in_ok-texts.ensures)

pub returns-clause-ok : goal.returns-clause-ok
returns-clause-ok c =
    let state : Dots = c.args.self.now in
    let same = λ (e : Text). ap (λ (ts : List Text). contains_text ts e) c.in_ok-texts.ensures ∙ removed_texts c.self.inside.dots c.args.removed e
    ∙ ap (λ (s : Dots). has_dot_of s c.args.removed e) c.self.view_is in
    c.drop.view_is ∙ c.in_ok-next.ensures ∙ ap (λ (ts : List Text). set.union (set.retain state (is_other_key ts)) (set_of (map (at_dot c.args.dot.now) ts))) c.deref.ensures.value
    ∙ pruned_is state c.args.removed c.args.dot.now c.in_ok-texts.texts.items same
