-- Strings as text; and the same places name the same path.
use Rattle.dwp_bytes.specs.declared.error.ReadError.TheVariants.{BadUtf8}
use Rattle.dwp_dwarf.proofs.Terms.{ap, Err, Ok, refl, Result, Some, SplitAttributes, sym, ◌∙◌, ◌≡◌}
use Rattle.dwp_dwarf.proofs.Terms.{arith, DebugAttribute, Format, IfSome, Input, List, None, Option}
use Rattle.dwp_dwarf.{specs.Strings.Strings, proofs.Terms.ℕ}
use Rattle.std.proofs.Common.{IsTrue, IsUtf8, string_bytes}
use Rattle.std.proofs.lemmas.Bool.{Decides.nat_tests, false_from_ne_true}
use Rattle.std.proofs.lemmas.Str.{is_utf8-from_IsUtf8, IsUtf8-from_is_utf8}
use Rattle.thorin_errors.specs.Errors.{ErrorValue, GimliRead}
use Rattle.thorin_executable.specs.Paths.{base_of, IsKept, IsPathAt, object_path, path_at, text_of}
use Rattle.thorin_executable.specs.declared.paths.{PathPlaces.PathPlaces, StringPlace.StringPlace}
use Rattle.thorin_executable.specs.{declared.paths.LastPath.LastPath, Paths.IsStringAt}
use Rattle.thorin_executable.specs.contracts.paths.StringPlacePartialEq.TheImpl as place
use Rattle.thorin_executable.specs.contracts.paths.PathPlacesPartialEq.TheImpl as places

pub text_of_some : (i : Input) → IsUtf8 i.bytes → text_of i ≡ Ok i.bytes
unfolding text_of
text_of_some i h = rw (is_utf8-from_IsUtf8 i.bytes h) refl

pub text_of_none : (i : Input) → ¬ IsUtf8 i.bytes → text_of i ≡ Err (GimliRead BadUtf8)
unfolding text_of
text_of_none i h = rw (false_from_ne_true _ (λ e. h (IsUtf8-from_is_utf8 i.bytes e))) refl

module _ (strings : Strings) (format : Format) (root : SplitAttributes) (name : DebugAttribute)
    (p : StringPlace) where
  -- a path of a directory and a name
  pub path_with : (a : DebugAttribute) (q : StringPlace) → root.comp_dir ≡ Some a
      → IsStringAt format (base_of root) name p → IsStringAt format (base_of root) a q
      → object_path strings format root name ≡ path_at strings
      record { name = p; directory = Some q }
  unfolding object_path path_at
  path_with a q some named in_there = rw (some, named strings, in_there strings)

  -- a path without a directory
  pub path_without : root.comp_dir ≡ None → IsStringAt format (base_of root) name p
      → object_path strings format root name ≡ path_at strings record { name = p; directory = None }
  unfolding object_path path_at
  path_without none named = rw (none, named strings)

-- places that are equal by `==` are the same
place_same : (a b : StringPlace) → IsTrue (place.eq-value.it a b) → a ≡ b
place_same a b equal = grind (arith, nat_tests)

places_same : (a b : PathPlaces) → IsTrue (places.eq-value.it a b) → a ≡ b
places_same a b equal = grind (arith, place_same)

-- what is kept is the path of the places that are asked for
pub kept_is : (strings : Strings) (last : LastPath) (q p : PathPlaces)
    (path : Result (List ℕ) ErrorValue) → IsKept strings last → last.places ≡ Some q
    → IsTrue (places.eq-value.it q p) → path ≡ path_at strings p
    → path ≡ Ok (string_bytes last.text)
kept_is strings last q p path kept is equal same =
    same ∙ ap (path_at strings) (sym (places_same q p equal)) ∙ rw is at kept

-- a path that was made is that of its places
pub kept_anew : (strings : Strings) (format : Format) (root : SplitAttributes)
    (name : DebugAttribute) (places : Option PathPlaces) (text : List ℕ)
    → IfSome places (IsPathAt format root name) → object_path strings format root name ≡ Ok text
    → IfSome places (λ p. path_at strings p ≡ Ok text)
kept_anew strings format root name None text at made = at
kept_anew strings format root name (Some p) text at made = sym (at strings) ∙ made
