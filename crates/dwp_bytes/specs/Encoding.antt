-- The two formats of DWARF data, and which package form fits a version (DWARF 5, 7.4 and 7.3.5; the
-- GNU page DebugFissionDWP).
use Rattle.std.specs.Prelude.{ℕ, Bool, nat_le, ◌==◌, if◌then◌else◌}
use Rattle.dwp_bytes.specs.declared.encoding.Format.{Format}
use Rattle.dwp_bytes.specs.declared.encoding.Format.TheVariants.{Dwarf32, Dwarf64}

-- how many bytes an offset has
abbrev pub offset_size : Format → ℕ
offset_size Dwarf32 = 4
offset_size Dwarf64 = 8

-- the version of the index of a package whose units have this version
abbrev pub index_version_of : ℕ → ℕ
index_version_of version = if nat_le 5 version then 5 else 2

-- units of this version may stand in a package with an index of that version
abbrev pub is_compatible : ℕ → ℕ → Bool
is_compatible version index = if nat_le 5 version then nat_le 5 index else index == 2
