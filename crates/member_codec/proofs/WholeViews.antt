-- What was read as a view is one.
use Rattle.std.proofs.Common.{◌≡◌, List, ℕ, length, Result, Ok, Err}
use Rattle.std.specs.Prelude.{IfOk}
use Rattle.base_bytes.specs.Spelling.{AreBytes}
use Rattle.base_places.specs.Wholes.{whole_of, whole_takes}
use Rattle.member_views.specs.Views.{View}
use Rattle.member_views.specs.Sound.{IsView}
use Rattle.member_codec.specs.declared.error.CodecError.{CodecError}
use Rattle.member_codec.specs.Answers.{IsRead}
use Rattle.member_codec.specs.Views.{view_spelled, view_in, IsSoundView}
use Rattle.member_codec.specs.ViewLaws.{view_spells}
use Rattle.member_codec.specs.ViewTests.{view_of_test}

pub found_view : (bytes : List ℕ) → AreBytes bytes → (result : Result View CodecError) → IsRead (λ v. v) (length bytes) result (whole_of view_in bytes) → IfOk result (λ view. IsView view × (bytes ≡ view_spelled view))
found_view bytes fits (Ok view) h = let t = whole_takes IsSoundView view_spelled view_in view_spells bytes view fits h in (view_of_test view t.0.whole, t.1)
found_view bytes fits (Err e) h = tt
