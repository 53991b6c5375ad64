use Rattle.std.proofs.Common.{not, nat_eq, length, List, map, ap, sym, ◌∙◌, subst, rules}
use Rattle.std.specs.List.{filter}
use Rattle.std.proofs.lemmas.Fn.{filter_same}
use Rattle.data_orset.specs.declared.dot_list.Spot.{Spot}
use Rattle.data_orset.specs.Placing.{Placed}
use Rattle.data_orset.specs.Spots.{placed_in, ArePlacesBelow}
use Rattle.data_orset.proofs.Tables.{places_filter, placed_filter}
use Rattle.data_orset.proofs.dot_list.DotList.drop_dots_of.Goals as goal

pub invariant_of-self : goal.invariant_of-self
invariant_of-self c = record {
  rising = c.self.invariant.rising;
  within = subst (ArePlacesBelow (length c.self.inside.texts.items))
      (sym (filter_same _ (λ (s : Spot). not (nat_eq s.dot.origin c.args.id)) _ (λ x b f' k. search rules) c.self.inside.spots.items c.retain.new.self.items c.retain.ensures.filtered))
      (places_filter (length c.self.inside.texts.items) (λ (s : Spot). not (nat_eq s.dot.origin c.args.id)) c.self.inside.spots.items c.self.invariant.within);
}

pub returns : goal.returns
returns c =
    ap (map (placed_in c.self.inside.texts.items)) (filter_same _ (λ (s : Spot). not (nat_eq s.dot.origin c.args.id)) _ (λ x b f' k. search rules) c.self.inside.spots.items c.retain.new.self.items c.retain.ensures.filtered)
    ∙ placed_filter c.self.inside.texts.items (λ (p : Placed). not (nat_eq p.origin c.args.id)) c.self.inside.spots.items ∙ ap (λ (ps : List Placed). filter (λ p. not (nat_eq p.origin c.args.id)) ps) c.self.view_is
