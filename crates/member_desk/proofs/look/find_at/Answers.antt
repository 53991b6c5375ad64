use Rattle.std.proofs.Common.{sym, ◌∙◌}
use Rattle.member_desk.proofs.look.find_at.Goals as goal

pub returns-then-not-has_records : goal.returns-then-not-has_records
returns-then-not-has_records g c = λ log held s. record { none = sym (c.has_records.ensures.image log held s) ∙ c.if-not-has_records.true }

pub returns-then-is_last_look : goal.returns-then-is_last_look
returns-then-is_last_look g c = λ log held s. record {
  some = sym (c.has_records.ensures.image log held s) ∙ c.if-not-has_records.false;
  counts = (c.is_last_look.ensures log held s).0 c.if-is_last_look.true;
}

pub returns : goal.returns
returns g c = λ log held s. record {
  some = sym (c.has_records.ensures.image log held s) ∙ c.if-not-has_records.false;
  shown = c.in_ok-shown.ensures log held s;
  counts = c.in_ok-counts.ensures.image log held s;
}
