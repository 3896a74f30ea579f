-- Numbers of variable length, LEB128 (DWARF 5, 7.6): seven bits a byte, the lowest first, and a
-- byte below 128 is the last.
-- A number has at most 10 bytes and 64 bits.
use Rattle.std.specs.Prelude.{◌≡◌, ℕ, zero, suc, ◌+◌, ◌*◌, ◌-◌, ◌^◌, Bool, nat_lt, if◌then◌else◌}
use Rattle.std.specs.Prelude.{Result, Ok, Err, ℤ, pos, negsuc, ◌+ℤ◌, ◌-ℤ◌, ◌*ℤ◌}
use Rattle.dwp_base.specs.Reading.{◌>>=◌}
use Rattle.dwp_bytes.specs.declared.error.ReadError.{ReadError}
use Rattle.dwp_bytes.specs.declared.error.ReadError.TheVariants.{BigLeb}
use Rattle.dwp_bytes.specs.Input.{Input, Goes, byte_at}

-- an unsigned number of at most n bytes
unfoldable pub leb_at : ℕ → Input → Result (ℕ × Input) ReadError
leb_at zero i = Err BigLeb
leb_at (suc n) i = do
  b ← byte_at i
  if nat_lt b.0 128 then Ok (b.0, b.1) else (do
    rest ← leb_at n b.1
    Ok (b.0 - 128 + 128 * rest.0, rest.1))

-- an unsigned number of at most 10 bytes and 64 bits
unfoldable pub uleb_at : Input → Result (ℕ × Input) ReadError
uleb_at i = do
  x ← leb_at 10 i
  if nat_lt x.0 (2 ^ 64) then Ok x else Err BigLeb

-- a signed number of at most n bytes: in the last byte bit 6 is the sign
unfoldable pub signed_leb_at : ℕ → Input → Result (ℤ × Input) ReadError
signed_leb_at zero i = Err BigLeb
signed_leb_at (suc n) i = do
  b ← byte_at i
  if nat_lt b.0 64 then Ok (pos b.0, b.1) else
      if nat_lt b.0 128 then Ok (pos b.0 -ℤ pos 128, b.1) else (do
        rest ← signed_leb_at n b.1
        Ok (pos (b.0 - 128) +ℤ pos 128 *ℤ rest.0, rest.1))

-- the numbers of 64 bits in two's complement
abbrev pub is_i64 : ℤ → Bool
is_i64 (pos n) = nat_lt n (2 ^ 63)
is_i64 (negsuc n) = nat_lt n (2 ^ 63)

-- a signed number of at most 10 bytes and 64 bits
unfoldable pub sleb_at : Input → Result (ℤ × Input) ReadError
sleb_at i = do
  x ← signed_leb_at 10 i
  if is_i64 x.0 then Ok x else Err BigLeb

-- each has at least a byte
pub record LebsTakeBytes : Type 0 where
  pub unsigned : (i : Input) (x : ℕ × Input) → uleb_at i ≡ Ok x → Goes 1 i x.1
  pub signed : (i : Input) (x : ℤ × Input) → sleb_at i ≡ Ok x → Goes 1 i x.1
