use Rattle.std.proofs.Common.{◌≡◌, ℕ, [], ◌∷◌, length, ap, sym, ◌∙◌, arith}
use Rattle.theorem_processes.proofs.TwoMembers.{one_item}
use Rattle.theorem_processes.proofs.worked.posted.Goals as goal

pub returns : goal.returns
returns g c =
    let post = c.index-posts-0.result in
    let one : length c.as_slice-posts.result.now ≡ 1 = omega (arith, c.if-posts-ne1.false) in
    record {
      key = c.args.key;
      op = c.args.op;
      fate = c.in-Ok.ensures.step.fate;
      output = c.in-Ok.output;
      makes = c.in-Ok.ensures.step.makes;
      message = post.message;
      one =
          sym c.as_slice-posts.ensures ∙ one_item c.as_slice-posts.result.now post one c.index-posts-0.is
          ∙ ap (λ (i : ℕ). record { to = i; message = post.message } ∷ []) c.in_ok-bytes.ensures.to;
      spelled = c.in_ok-bytes.ensures.bytes;
    }
