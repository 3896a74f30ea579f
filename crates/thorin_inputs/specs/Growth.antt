-- What is printed of an input that is declined for its size.
use Rattle.std.specs.Prelude.{ℕ, List, codes}
use Rattle.thorin_inputs.specs.declared.growth.Growth.{Growth}
use Rattle.thorin_inputs.specs.declared.growth.Growth.TheVariants as growth

abbrev pub growth_text : Growth → List ℕ
growth_text growth.Sections = codes "Sections overlap"
growth_text growth.Strings = codes "Strings overlap"
growth_text growth.Repetition = codes "Object named too often"
growth_text growth.Macros = codes "Macros can't be left out"
growth_text growth.Plain = codes "Failed to decompress compressed section"
