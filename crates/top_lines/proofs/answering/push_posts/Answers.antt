use Rattle.std.proofs.Common.{◌≤◌, ◌++◌, length, flat_map, string_bytes, ap, ◌∙◌, arith}
use Rattle.std.proofs.lemmas.List.{take_all}
use Rattle.top_lines.specs.Texts.{post_line}
use Rattle.top_lines.proofs.answering.push_posts.Goals as goal

pub returns : goal.returns
returns g c =
    let done : length c.args.posts.now ≤ c.loop-post.post-index = omega (arith, c.loop-post-test.false) in
    c.loop-post.invariant ∙ ap (λ posts. string_bytes c.args.text.now ++ flat_map (post_line g.T.Replica g.T.SpelledData g.T.SpelledDelta) posts) (take_all c.loop-post.post-index c.args.posts.now done)
