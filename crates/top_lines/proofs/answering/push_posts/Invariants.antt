use Rattle.std.proofs.Common.{◌≡◌, ◌++◌, flat_map, take, string_bytes}
use Rattle.top_lines.specs.Texts.{post_line}
use Rattle.top_lines.proofs.answering.push_posts.Given as goal

abbrev pub invariant-loop-post : goal.invariant-loop-post
invariant-loop-post g l = string_bytes l.text ≡ string_bytes l.initial.text ++ flat_map (post_line g.T.Replica g.T.SpelledData g.T.SpelledDelta) (take l.post-index l.posts)
