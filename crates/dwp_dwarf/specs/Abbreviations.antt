-- A table of abbreviations: the tag of an entry, and the form of each of its attributes (DWARF 5,
-- 7.5.3).
use Rattle.std.specs.Prelude.{ℕ, zero, suc, List, [], ◌∷◌, length, Bool, true, false, Option, Some}
use Rattle.std.specs.Prelude.{None, Result, Ok, Err, ◌==◌, ◌&&◌, if◌then◌else◌}
use Rattle.dwp_base.specs.Reading.{◌>>=◌}
use Rattle.dwp_bytes.specs.Input.{Input, byte_at}
use Rattle.dwp_bytes.specs.Leb.{uleb_at, sleb_at}
use Rattle.dwp_bytes.specs.declared.error.ReadError.{ReadError}
use Rattle.dwp_bytes.specs.declared.error.ReadError.TheVariants.{UnexpectedEof, ZeroTag}
use Rattle.dwp_bytes.specs.declared.error.ReadError.TheVariants.{BadChildren}
use Rattle.dwp_units.specs.AbbreviationCodes.{code_at}

-- an attribute and its form
pub record Specification : Type 0 where
  pub name : ℕ
  pub form : ℕ

-- what an abbreviation says of an entry
pub record Declaration : Type 0 where
  pub tag : ℕ
  pub children : Bool
  pub specifications : List Specification

-- the form implicit_const, 0x21, has its value here
unfoldable pub constant_at : ℕ → Input → Result (Unit {0} × Input) ReadError
constant_at form i = if form == 0x21 then (sleb_at i >>= λ x. Ok (tt, x.1)) else Ok (tt, i)

unfoldable pub specification_at : Input → Result (Specification × Input) ReadError
specification_at i = do
  name ← uleb_at i
  form ← uleb_at name.1
  constant ← constant_at form.0 form.1
  Ok (record { name = name.0; form = form.0 }, constant.1)

-- the pair 0, 0 ends a list
abbrev pub is_last : Specification → Bool
is_last s = s.name == 0 && s.form == 0

-- a pair and those after it; none at the end and at an error
abbrev pub pairs_from : Result (Specification × Input) ReadError → (Input → List Specification)
    → List Specification
pairs_from (Ok first) others = if is_last first.0 then [] else first.0 ∷ others first.1
pairs_from (Err e) others = []

-- a list of at most n pairs, and its end
unfoldable pub specifications_within : ℕ → Input → Result (List Specification × Input) ReadError
specifications_within zero i = Err UnexpectedEof
specifications_within (suc n) i = do
  first ← specification_at i
  if is_last first.0 then Ok ([], first.1) else (do
    others ← specifications_within n first.1
    Ok (first.0 ∷ others.0, others.1))

-- a list of pairs, and its end; each pair has at least two bytes
unfoldable pub specifications_at : Input → Result (List Specification × Input) ReadError
specifications_at i = specifications_within (length i.bytes) i

-- of at most n pairs those before the end of the list, or before the first error
unfoldable pub pairs_within : ℕ → Input → List Specification
pairs_within zero i = []
pairs_within (suc n) i = pairs_from (specification_at i) (pairs_within n)

-- the pairs before the end of the list, or before the first error
unfoldable pub pairs_in : Input → List Specification
pairs_in i = pairs_within (length i.bytes) i

-- what comes behind a list
abbrev pub past_specifications : Input → Result Input ReadError
past_specifications i = specifications_at i >>= λ list. Ok list.1

unfoldable pub tag_at : Input → Result (ℕ × Input) ReadError
tag_at i = do
  tag ← uleb_at i
  if tag.0 == 0 then Err ZeroTag else Ok tag

-- whether the entry has children
unfoldable pub children_at : Input → Result (Bool × Input) ReadError
children_at i = do
  byte ← byte_at i
  if byte.0 == 0 then Ok (false, byte.1)
      else (if byte.0 == 1 then Ok (true, byte.1) else Err BadChildren)

-- a declaration behind its code
unfoldable pub declaration_at : Input → Result (Declaration × Input) ReadError
declaration_at i = do
  tag ← tag_at i
  children ← children_at tag.1
  list ← specifications_at children.1
  Ok (record { tag = tag.0; children = children.0; specifications = list.0 }, list.1)

-- the first declaration of a code among the first n
unfoldable pub declaration_within : ℕ → ℕ → Input → Result (Option Declaration) ReadError
declaration_within zero wanted i = Ok None
declaration_within (suc n) wanted i = do
  code ← code_at i
  if code.0 == 0 then Ok None else (do
    first ← declaration_at code.1
    if code.0 == wanted then Ok (Some first.0) else declaration_within n wanted first.1)

-- the first declaration of a code in a table, which is read no further; each has at least a byte
unfoldable pub declaration : ℕ → Input → Result (Option Declaration) ReadError
declaration wanted i = declaration_within (length i.bytes) wanted i
