-- The identity by a part of a section: tables of the same bytes give the same, and so does the
-- section's table where it says the same of the root entry's code.
use Rattle.dwp_bytes.specs.Input.{after, front, Input, section}
use Rattle.dwp_bytes.specs.declared.error.ReadError.{ReadError, TheVariants.UnknownCode}
use Rattle.dwp_dwarf.proofs.Tables.{declared_anywhere, from_within, past_end}
use Rattle.dwp_dwarf.specs.Entries.{DebugAttribute, DebugEntry, entry}
use Rattle.dwp_dwarf.specs.Numbers.{first_number, number_or, numbered, numbered_at}
use Rattle.dwp_dwarf.specs.{Abbreviations.Declaration, Abbreviations.declaration, Offsets.from_at}
use Rattle.dwp_units.{proofs.Readings.bind_alike, specs.AbbreviationCodes.root_code_at}
use Rattle.std.proofs.Common.{ap, length, Ok, sym, [], ℕ, ◌+◌, ◌-◌, ◌<◌, ◌∙◌, ◌∷◌, ◌≡◌, ◌≤◌}
use Rattle.std.proofs.Common.{arith, drop, Err, inl, inr, List, min, None, refl, Result, Some, take}
use Rattle.std.proofs.Common.{drop-drop, length-drop, length-take-le, Option, option_map, take-take}
use Rattle.thorin_errors.specs.Errors.{ErrorValue, GimliRead, NoDie, ParseUnitAbbreviations}
use Rattle.thorin_identity.specs.Identity.{DW_AT_GNU_dwo_id, first_identifier}
use Rattle.thorin_identity.specs.Identity.{compilation, entry_identity, identifier_in, part_between}
use Rattle.thorin_identity.specs.Identity.{found_or, numbered_identity, root_identity, with_offset}
use Rattle.{dwp_base.specs.declared.endian.Endianness.Endianness, std.proofs.lemmas.Bool.cases_lt}
use Rattle.{dwp_bytes.specs.declared.encoding.Encoding.Encoding, std.proofs.lemmas.Slice.between_is}
use Rattle.{dwp_table.specs.declared.object.DwarfObject.DwarfObject, dwp_base.specs.Reading.◌>>=◌}
use Rattle.{dwp_units.specs.Units.Unit, std.specs.Option.ok_or}
use Rattle.{std.proofs.lemmas.List.take_min, thorin_errors.specs.Answers.as_error}

-- by the code of the root entry
abbrev by_code : Unit → Input → ℕ × Input → Result (Option DwarfObject) ErrorValue
by_code unit table code =
    as_error ParseUnitAbbreviations (declaration code.0 table) >>= λ found.
    ok_or found (GimliRead UnknownCode) >>= λ d. entry_identity (entry unit.encoding d code.1)

-- sections of the same bytes
pub root_alike : (i j : Input) (unit : Unit) → i.bytes ≡ j.bytes
    → root_identity i unit ≡ root_identity j unit
unfolding root_identity
root_alike i j unit e =
    let at = unit.abbrev_offset in
    let size = ap length e in
    elim (cases_lt (length i.bytes) at) [
      | inl past ↦
          let late : length j.bytes < at = omega arith in
          rw (past_end at i past, past_end at j late) refl
      | inr inside ↦
          let within : at ≤ length j.bytes = omega arith in
          rw (from_within at i inside, from_within at j within)
          (bind_alike (as_error GimliRead (root_code_at unit.entries)) _ _ (λ read is. bind_alike
          (ok_or read NoDie) (by_code unit (after at i)) (by_code unit (after at j)) (λ code is.
          rw (declared_anywhere code.0 (after at i) (after at j) (ap (drop at) e)) refl)))
    ]

-- a part up to a place of the section, whose table says the same as the section's there
pub root_within : (start end offset code : ℕ) (whole values : Input) (unit : Unit)
    → offset ≡ start + unit.abbrev_offset → offset ≤ end → end ≤ length whole.bytes
    → root_code_at unit.entries ≡ Ok (Some (code, values))
    → ((part table : Input) → from_at offset (front end whole) ≡ Ok part
    → from_at offset whole ≡ Ok table → declaration code part ≡ declaration code table)
    → root_identity (part_between start end whole) unit
    ≡ root_identity whole (with_offset offset unit)
unfolding root_identity
root_within start end offset code whole values unit at early inside root same =
    let size : length (take end whole.bytes) ≡ end = length-take-le end whole.bytes inside in
    let part = part_between start end whole in
    let long : unit.abbrev_offset ≤ length part.bytes =
    omega (arith, at, early, size, length-drop start (take end whole.bytes)) in
    let held : drop unit.abbrev_offset part.bytes ≡ drop offset (take end whole.bytes) =
    rw at (drop-drop unit.abbrev_offset start (take end whole.bytes)) in
    let before : offset ≤ length (take end whole.bytes) = omega (arith, early, size) in
    let there : from_at offset whole ≡ Ok (after offset whole) =
    from_within offset whole (omega (arith, early, inside)) in
    let alike = declared_anywhere code (after unit.abbrev_offset part)
    (after offset (front end whole)) held ∙ same (after offset (front end whole))
    (after offset whole) (from_within offset (front end whole) before) there in
    rw (from_within unit.abbrev_offset part long, there, root, alike) refl

-- an end past the section's end is that
pub part_min : (start end : ℕ) (whole : Input)
    → part_between start (min end (length whole.bytes)) whole ≡ part_between start end whole
part_min start end whole = rw (take_min end whole.bytes) refl

-- ---- a range of a section is what is left behind its start of the bytes up to its end

-- a part of a part is a part of the whole
within : (bytes : List ℕ) (begin start end last : ℕ) → begin ≤ start → start ≤ end → end ≤ last
    → drop (start - begin) (take (end - begin) (drop begin (take last bytes)))
    ≡ drop start (take end bytes)
within bytes begin start end last early order late =
    let way : begin + (start - begin) ≡ start = omega (arith, early) in
    let cut : take (end - begin) (drop begin (take last bytes))
    ≡ drop begin (take end (take last bytes)) = between_is (take last bytes) begin end in
    rw (
      cut,
      take-take end last bytes late,
      drop-drop (start - begin) begin (take end bytes),
      way,
    ) refl

-- the same of a section that is a part of one
pub part_within : (order : Endianness) (bytes : List ℕ) (begin start end last : ℕ) (part : Input)
    → begin ≤ start → start ≤ end → end ≤ last → part ≡ section order (drop begin (take last bytes))
    → part_between (start - begin) (end - begin) part ≡ section order (drop start (take end bytes))
part_within order bytes begin start end last part early in_order late held =
    rw (held, within bytes begin start end last early in_order late) refl

-- ---- the identity in an entry is that of its tag and its first number of a GNU_dwo_id
-- the identity that a number is
abbrev by_number : Result (Option ℕ) ReadError → Result (Option DwarfObject) ErrorValue
by_number number = as_error GimliRead number >>= λ id. Ok (option_map compilation id)

found_alike : (o : Option ℕ) (r : Result (Option ℕ) ReadError)
    → by_number (number_or o r) ≡ found_or o (by_number r)
found_alike (Some n) r = refl
found_alike None r = refl

first_alike : (read : List (Result DebugAttribute ReadError))
    → by_number (first_number DW_AT_GNU_dwo_id read) ≡ first_identifier read
first_alike [] = refl
first_alike (Ok a ∷ others) =
    found_alike (identifier_in a) (first_number DW_AT_GNU_dwo_id others)
    ∙ ap (found_or (identifier_in a)) (first_alike others)
first_alike (Err e ∷ others) = refl

pub numbered_is : (e : DebugEntry)
    → numbered_identity (numbered DW_AT_GNU_dwo_id e) ≡ entry_identity e
unfolding entry_identity
numbered_is e = rw (first_alike e.attributes) refl

-- the identity that a declaration gives, by what was found of its entry
declared_is : (encoding : Encoding) (values : Input) (said : Result (Option Declaration) ReadError)
    (found : ℕ × Result (Option ℕ) ReadError)
    → (said >>= λ o. Ok (option_map (λ (d : Declaration). numbered DW_AT_GNU_dwo_id
    (entry encoding d values)) o)) ≡ Ok (Some found)
    → (as_error ParseUnitAbbreviations said >>= λ o. ok_or o (GimliRead UnknownCode) >>= λ d.
    entry_identity (entry encoding d values)) ≡ numbered_identity found
declared_is encoding values (Err e) found is = absurd cc
declared_is encoding values (Ok None) found is = absurd cc
declared_is encoding values (Ok (Some d)) found is =
    let same : numbered DW_AT_GNU_dwo_id (entry encoding d values) ≡ found = cc in
    sym (numbered_is (entry encoding d values)) ∙ ap numbered_identity same

-- the identity in a unit's root entry, by what was found of it
pub root_is : (section : Input) (unit : Unit) (table values : Input) (code : ℕ)
    (found : ℕ × Result (Option ℕ) ReadError) → from_at unit.abbrev_offset section ≡ Ok table
    → root_code_at unit.entries ≡ Ok (Some (code, values))
    → numbered_at DW_AT_GNU_dwo_id unit.encoding values code table ≡ Ok (Some found)
    → root_identity section unit ≡ numbered_identity found
unfolding root_identity
root_is section unit table values code found at root is = rw (at, root)
    (declared_is unit.encoding values (declaration code table) found is)
