-- Each error has a text.
use Rattle.std.proofs.Common.{false, IsSome, refl, ◌≡◌}
use Rattle.thorin_errors.specs.Errors.{ErrorValue, GimliRead, GimliWrite, ObjectRead, ObjectWrite}
use Rattle.thorin_errors.specs.{Errors.Io, Text.error_text, Text.is_passed_on}

pub has_text : (error : ErrorValue) → is_passed_on error ≡ false → IsSome (error_text error)
has_text (Io a) h = absurd cc
has_text (ObjectRead a) h = absurd cc
has_text (ObjectWrite a) h = absurd cc
has_text (GimliRead a) h = absurd cc
has_text (GimliWrite a) h = absurd cc
has_text error h = refl
