-- How the files of a command are taken, and why they aren't.
use Rattle.thorin_commands.specs.Cause.{Reasons}
use Rattle.thorin_commands.specs.Packing.{declines, manner_of, reads}
use Rattle.thorin_commands.specs.Taken.{Manner, Offer}
use Rattle.thorin_commands.specs.declared.reading.InputFiles.{InputFiles}

module _ {F : Type 0} where
  abbrev pub manner_in : InputFiles F → Manner
  manner_in inputs = manner_of inputs.packing.now

  abbrev pub taken_by : (F → Offer) → InputFiles F → Offer
  taken_by offer inputs = reads inputs.packing.now (offer inputs.files.now)

  abbrev pub declined_by : (F → Offer) → InputFiles F → Reasons
  declined_by offer inputs = declines inputs.packing.now (offer inputs.files.now)
