-- What a command line asks the commands for, in their terms: the settings of each, by its words and
-- by the manner of the program.
use Rattle.std.specs.Prelude.{Bool, true, false, not, ◌&&◌, ◌||◌}
use Rattle.std.specs.Prelude.{if◌then◌else◌, option_and_then, unwrap_or}
use Rattle.std.specs.Option.{option_copied}
use Rattle.dwp_macros.specs.declared.kept.KeptMacros.{KeptMacros}
use Rattle.dwp_macros.specs.declared.kept.KeptMacros.TheVariants as macros
use Rattle.thorin_errors.specs.declared.error.MissingReferencedObjectBehaviour.TheVariants as missing
use Rattle.thorin_executable.specs.declared.listing.NamelessUnits.{NamelessUnits}
use Rattle.thorin_executable.specs.declared.listing.NamelessUnits.TheVariants.{Refused, PassedOver}
use Rattle.thorin_print.specs.declared.form.Form.{Form}
use Rattle.thorin_print.specs.declared.form.Form.TheVariants.{Json, Lines}
use Rattle.thorin_find.specs.Finding.{Words}
use Rattle.thorin_find.specs.declared.listing.ListForm.{ListForm}
use Rattle.thorin_check.specs.declared.executables.Reading.{Reading}
use Rattle.thorin_output.specs.Warnings.{warnings_of}
use Rattle.thorin_output.specs.declared.warnings.Warnings.{Warnings}
use Rattle.thorin_output.specs.declared.warnings.Warnings.TheVariants.{Each, Once, Never}
use Rattle.thorin_commands.specs.declared.packing.Packing.{Packing}
use Rattle.thorin_arguments.specs.declared.asking.PackArguments.{PackArguments}
use Rattle.thorin_arguments.specs.declared.asking.FindArguments.{FindArguments}
use Rattle.thorin_arguments.specs.declared.asking.ListArguments.{ListArguments}
use Rattle.thorin_arguments.specs.declared.asking.CheckArguments.{CheckArguments}
use Rattle.thorin_cli.specs.declared.system.ProgramManner.{ProgramManner}

abbrev pub nameless_units : (are_skipped : Bool) → NamelessUnits
nameless_units are_skipped = if are_skipped then PassedOver else Refused

abbrev pub form_of : (as_json : Bool) → Form
form_of as_json = if as_json then Json else Lines

-- ---- pack

-- where no word says which warnings are printed: a peer prints none, a terminal is told once, and
-- else each is told, as where the words ask for more lines
abbrev pub usual_warnings : ProgramManner → (verbose : Bool) → Warnings
usual_warnings manner verbose = if manner.of_peer then Never
    else if manner.on_terminal && not verbose then Once else Each

abbrev pub warnings_for : ProgramManner → PackArguments → Warnings
warnings_for manner a = unwrap_or (option_and_then (λ word. warnings_of word.now) a.warnings)
    (usual_warnings manner a.verbose)

abbrev pub macros_for : ProgramManner → PackArguments → KeptMacros
macros_for manner a = if a.drops_macros then macros.None
    else if a.keeps_last_macros || manner.of_peer then macros.Last else macros.All

-- objects with several sections of macros are warned of where all count, and warnings are printed
abbrev pub warns : KeptMacros → Warnings → Bool
warns kept Never = false
warns macros.All warnings = true
warns kept warnings = false

-- a peer keeps an object's last macros, opens archives, passes over units that name no object, and
-- makes an empty package where nothing is split
abbrev pub packing_for : ProgramManner → PackArguments → Packing
packing_for manner a = record {
  output = a.output;
  inputs = a.inputs;
  executables = a.executables;
  missing = if a.skips_missing || a.partial then missing.Skip else missing.Error;
  nameless = nameless_units (a.skips_nameless || manner.of_peer);
  force = a.force;
  decompresses = a.decompresses;
  prefix_maps = a.prefix_maps;
  partial = a.partial;
  opens_archives = a.opens_archives || manner.of_peer;
  verbose = a.verbose;
  warnings = warnings_for manner a;
  allows_overlap = a.allows_overlap;
  macros = macros_for manner a;
  warns_of_macros = warns (macros_for manner a) (warnings_for manner a)
      && (a.verbose || manner.on_terminal);
  lets_empty = manner.of_peer;
}

-- ---- the other commands

abbrev pub words_for : FindArguments → Words
words_for a = record {
  kind = a.kind.now;
  id = a.id.now;
  string = option_copied a.string;
  section = option_copied a.section;
  form = form_of a.json;
}

abbrev pub list_form : ListArguments → ListForm
list_form a =
    record { sizes = a.sizes; names = a.names; columns = a.columns; form = form_of a.json }

abbrev pub reading_for : CheckArguments → Reading
reading_for a = record { form = form_of a.json; nameless = nameless_units a.skips_nameless }
