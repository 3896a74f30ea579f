-- Texts as they are spelled, and in JSON.
use Rattle.std.proofs.Common.{chars, flat_map, IsUtf8, List, refl, ℕ, ◌≡◌}
use Rattle.std.proofs.lemmas.Str.{is_utf8-from_IsUtf8, IsUtf8-from_is_utf8}
use Rattle.thorin_print.specs.Spelled.{spelled, spelled_byte, spelled_character}
use Rattle.{std.proofs.lemmas.Bool.false_from_ne_true, thorin_print.specs.declared.form.Form.Form}

-- a text
pub spelled_text : (form : Form) (bytes name : List ℕ) → name ≡ bytes → IsUtf8 bytes
    → flat_map (spelled_character form) (chars name) ≡ spelled form bytes
unfolding spelled
spelled_text form bytes name same text = rw (same, is_utf8-from_IsUtf8 bytes text) refl

-- bytes that are none
pub spelled_bytes : (form : Form) (bytes : List ℕ) → ¬ (IsUtf8 bytes)
    → flat_map (spelled_byte form) bytes ≡ spelled form bytes
unfolding spelled
spelled_bytes form bytes n = rw (false_from_ne_true _ (λ e. n (IsUtf8-from_is_utf8 bytes e))) refl
