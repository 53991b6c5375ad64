use Rattle.std.proofs.Common.{length, sym, ap, ◌∙◌, map}
use Rattle.std.proofs.lemmas.List.{length-map, with_items_is}
use Rattle.member_node.specs.Outputs.{refused_post}
use Rattle.member_node.proofs.reply.refused_posts.Goals as goal

pub returns : goal.returns
returns g c =
    let first = c.into_vec-posts.result in
    c.from_vec.ensures
    ∙ with_items_is first c.refuse_all.new.posts (ap length c.refuse_all.ensures ∙ length-map c.as_mut_slice.result.now refused_post ∙ ap length c.as_mut_slice.ensures.value ∙ sym first.ok.0)
    ∙ c.refuse_all.ensures ∙ ap (map refused_post) (c.as_mut_slice.ensures.value ∙ c.into_vec-posts.ensures)
