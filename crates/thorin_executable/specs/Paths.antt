-- The path of a split object (DWARF 5, 3.1.2: the name is that of a file, in the directory that the
-- unit was compiled in).
use Rattle.std.specs.Prelude.{ℕ, List, [], ◌∷◌, ◌++◌, ◌==◌, ◌||◌, nat_eq, length, if◌then◌else◌}
use Rattle.std.specs.Prelude.{Option, Some, None, Result, Ok, Err, ◌≡◌, IfSome, string_bytes}
use Rattle.std.specs.List.{starts_with, ends_with}
use Rattle.std.specs.Option.{unwrap_or, option_and_then}
use Rattle.std.specs.Result.{result_ok}
use Rattle.std.specs.Str.{is_utf8}
use Rattle.dwp_base.specs.Reading.{◌>>=◌}
use Rattle.dwp_bytes.specs.Input.{Input}
use Rattle.dwp_bytes.specs.declared.encoding.Format.{Format}
use Rattle.dwp_bytes.specs.declared.error.ReadError.{ReadError}
use Rattle.dwp_bytes.specs.declared.error.ReadError.TheVariants.{BadUtf8}
use Rattle.dwp_dwarf.specs.Entries.{DebugAttribute}
use Rattle.dwp_dwarf.specs.Split.{SplitAttributes}
use Rattle.dwp_dwarf.specs.Strings.{Strings, string_at, indexed_at, string_of}
use Rattle.thorin_errors.specs.Errors.{ErrorValue, GimliRead}
use Rattle.thorin_errors.specs.Answers.{as_error}
use Rattle.thorin_executable.specs.declared.paths.StringPlace.{StringPlace}
use Rattle.thorin_executable.specs.declared.paths.StringPlace.TheVariants.{Str, LineStr, Indexed}
use Rattle.thorin_executable.specs.declared.paths.PathPlaces.{PathPlaces}
use Rattle.thorin_executable.specs.declared.paths.LastPath.{LastPath}

-- `/`
abbrev pub slash : List ℕ
slash = 47 ∷ []

-- a directory as the front of a path: a slash ends it, unless it is empty
abbrev pub path_front : List ℕ → List ℕ
path_front directory = if length directory == 0 || ends_with nat_eq directory slash then directory
    else directory ++ slash

-- the path of a name in a directory; a name from the root on replaces it
unfoldable pub path_in : List ℕ → List ℕ → List ℕ
path_in directory name =
    if starts_with nat_eq name slash then name else path_front directory ++ name

-- a string that is text
unfoldable pub text_of : Input → Result (List ℕ) ErrorValue
text_of string = if is_utf8 string.bytes then Ok string.bytes else Err (GimliRead BadUtf8)

-- the same of one that may be absent, which is as an empty one
abbrev pub text_if : Option Input → Result (List ℕ) ErrorValue
text_if None = Ok []
text_if (Some string) = text_of string

-- where the unit's entries of .debug_str_offsets begin
abbrev pub base_of : SplitAttributes → ℕ
base_of root = unwrap_or root.str_offsets_base 0

-- the directory that the unit was compiled in, where its string can be read
abbrev pub directory_of : Strings → Format → SplitAttributes → Option Input
directory_of strings format root =
    option_and_then (λ a. result_ok (string_of strings format (base_of root) a)) root.comp_dir

-- the path of the split object that an attribute names
unfoldable pub object_path : Strings → Format → SplitAttributes → DebugAttribute
    → Result (List ℕ) ErrorValue
object_path strings format root attribute = do
  string ← as_error GimliRead (string_of strings format (base_of root) attribute)
  name ← text_of string
  directory ← text_if (directory_of strings format root)
  Ok (path_in directory name)

-- ---- where the strings of a path stand: two units that name the same places name the same path
-- (DWARF 5, 7.5.5 for the forms that name a string's place, 7.26 for string offsets)
-- the string at a place
abbrev pub string_in : Strings → StringPlace → Result Input ReadError
string_in strings (Str offset) = string_at strings.debug_str offset
string_in strings (LineStr offset) = string_at strings.debug_line_str offset
string_in strings (Indexed format base index) = indexed_at strings format base index

-- the path whose strings stand at these places
unfoldable pub path_at : Strings → PathPlaces → Result (List ℕ) ErrorValue
path_at strings places = do
  string ← as_error GimliRead (string_in strings places.name)
  name ← text_of string
  directory ← text_if (option_and_then (λ p. result_ok (string_in strings p)) places.directory)
  Ok (path_in directory name)

-- the string of an attribute stands there, whatever the sections hold
abbrev pub IsStringAt : Format → ℕ → DebugAttribute → StringPlace → Type 0
IsStringAt format base a place = (strings : Strings)
    → string_of strings format base a ≡ string_in strings place

-- so do the strings of the path that an attribute names
abbrev pub IsPathAt : Format → SplitAttributes → DebugAttribute → PathPlaces → Type 0
IsPathAt format root name places = (strings : Strings)
    → object_path strings format root name ≡ path_at strings places

-- the path that came last is the one at its places
abbrev pub IsKept : Strings → LastPath → Type 0
IsKept strings last = IfSome last.places (λ places.
    path_at strings places ≡ Ok (string_bytes last.text))
