use Rattle.std.proofs.Common.{◌<◌, length, map, refl, ap, ap₂, ◌∙◌, arith}
use Rattle.std.specs.Prelude.{if◌then◌else◌, insert}
use Rattle.report_lines.specs.Run.{place_in}
use Rattle.report_lines.proofs.Orders.{one_more}
use Rattle.report_lines.proofs.order.in_order.Goals as goal

pub loop-key-preserved : goal.loop-key-preserved
loop-key-preserved g c =
    let old = c.loop-key.decls.items in
    let here : c.loop-key.key-index < length c.args.keys.now = omega (arith, c.loop-key-test.true) in
    one_more c.args.keys.now c.loop-key.key-index c.key-item.result old c.insert.new.self.items (record { key = c.copied.result; kind = c.key-item.result.kind; durable = c.key-item.result.durable }) c.place_of-place.result here c.key-item.is c.copied.ensures refl refl
    (c.place_of-place.ensures.place ∙ ap₂ (λ decls name. place_in (map (λ decl. decl.key) decls) name) c.as_slice.ensures.value c.as_str.ensures.value)
    (c.insert.ensures.items ∙ ap (λ b. if b then insert old c.place_of-place.result (record { key = c.copied.result; kind = c.key-item.result.kind; durable = c.key-item.result.durable }) else old) c.if-is_err.ensures.negation) c.loop-key.invariant
