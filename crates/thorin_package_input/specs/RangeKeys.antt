-- The ranges that pairs of place and size stand for.
use Rattle.std.specs.Prelude.{ℕ}
use Rattle.dwp_base.specs.declared.section.Contribution.{Contribution}

abbrev pub range_at : (ℕ × ℕ) → Contribution
range_at pair = record { offset = record { 0 = pair.0 }; size = pair.1 }
