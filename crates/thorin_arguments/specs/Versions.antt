-- What `--version` prints behind the program's name.
use Rattle.std.specs.Prelude.{ℕ, ◌==◌, List, ◌++◌, codes, length, if◌then◌else◌}

-- the version, and behind it the commit in brackets where one is named
unfoldable pub version_with : (version commit : List ℕ) → List ℕ
version_with version commit =
    if length commit == 0 then version else version ++ codes " (" ++ commit ++ codes ")"
