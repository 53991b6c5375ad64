-- The parts of an envelope are those of what contracts see of it.
use Rattle.std.proofs.Common.{◌≡◌, ap}
use Rattle.data_envelope.specs.Contents.{Contents}

module _ {T Kind Op Delta : Type 0} {one two : Contents T Kind Op Delta} (same : one ≡ two) where
  pub same_value : one.value ≡ two.value
  same_value = ap (λ (parts : Contents T Kind Op Delta). parts.value) same

  pub same_markers : one.markers ≡ two.markers
  same_markers = ap (λ (parts : Contents T Kind Op Delta). parts.markers) same
