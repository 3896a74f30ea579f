-- Numbers in a byte order (ELF gABI, "Data Encoding"; DWARF 5, 7.1: data is in the order of the
-- target).
use Rattle.std.specs.Prelude.{ℕ, List}
use Rattle.byteorder.specs.Endian.{little_number, big_number, little_bytes, big_bytes}
use Rattle.dwp_base.specs.declared.endian.Endianness.{Endianness}
use Rattle.dwp_base.specs.declared.endian.Endianness.TheVariants.{Little, Big}

-- the number in the first n bytes
abbrev pub number : Endianness → ℕ → List ℕ → ℕ
number Little n bytes = little_number n bytes
number Big n bytes = big_number n bytes

-- the lowest n bytes of x, as they stand in a file
abbrev pub number_bytes : Endianness → ℕ → ℕ → List ℕ
number_bytes Little n x = little_bytes n x
number_bytes Big n x = big_bytes n x
