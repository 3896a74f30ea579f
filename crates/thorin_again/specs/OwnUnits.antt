-- The units of a builder whose inputs have one encoding.
use Rattle.std.specs.Prelude.{◌≡◌, ◌<◌, length, Some, All}
use Rattle.dwp_bytes.specs.declared.encoding.Encoding.{Encoding}
use Rattle.thorin_join.specs.Builder.{State}
use Rattle.thorin_join.specs.Meaning.{Members}
use Rattle.thorin_join.specs.Represents.{units_in}

-- all come from inputs of this encoding
abbrev pub AllOf : Encoding → Members → Type 0
AllOf encoding units = All (λ unit. unit.1.encoding ≡ encoding) units

-- where a builder's inputs have one encoding, there are units, and all come from inputs of that
-- encoding
pub record HoldsOwn (state : State) : Type 0 where
  pub some : (encoding : Encoding) → state.own ≡ Some encoding → 0 < length (units_in state)
  pub all : (encoding : Encoding) → state.own ≡ Some encoding → AllOf encoding (units_in state)

-- a builder's inputs have one encoding, there are units, and all come from inputs of it
pub record HasOneEncoding (state : State) : Type 0 where
  pub encoding : Encoding
  pub own : state.own ≡ Some encoding
  pub some : 0 < length (units_in state)
  pub all : AllOf encoding (units_in state)
