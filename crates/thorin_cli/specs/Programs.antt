-- What the program holds of a system.
use Rattle.std.specs.Prelude.{◌≡◌, ℕ, List, Option, IsSome}
use Rattle.thorin_output.specs.Files.{Begun}
use Rattle.thorin_output.specs.Reads.{Identity}
use Rattle.thorin_commands.specs.Taken.{Offer}
use Rattle.thorin_print.specs.Watching.{LacksLine}
use Rattle.thorin_print.specs.declared.line_output.WatchedLines.{WatchedLines}
use Rattle.thorin_terminal.specs.Watching.{failure_of}
use Rattle.thorin_terminal.specs.declared.pipes.WatchedWriter.{WatchedWriter}
use Rattle.thorin_cli.specs.Doing.{State, System}
use Rattle.thorin_cli.specs.declared.program.Program.{Program}

-- a system whose standard output and standard error are watched
abbrev pub system : {F O E : Type 0} → (F → Offer) → (F → List ℕ → Identity → Type 0)
    → (F → Option (List Begun)) → (O → Option (List ℕ)) → (E → Option (List ℕ)) → Offer
    → System F (WatchedWriter O) (WatchedLines E)
system offer known begun contents told read = record {
  offer = offer;
  known = known;
  begun = begun;
  contents = λ watched. contents watched.out;
  failed = λ watched. IsSome (failure_of watched);
  told = λ watched. told watched.writer;
  untold = λ watched. LacksLine watched;
  read = read;
}

module _ {F R O E : Type 0} where
  abbrev pub state_of : Program F R O E → State F (WatchedWriter O) (WatchedLines E)
  state_of program =
      record { files = program.files.now; out = program.out.now; err = program.err.now }

  -- the files and the streams are still those that the program was given
  abbrev pub KeepsPlaces : (old new : Program F R O E) → Type 0
  KeepsPlaces old new = (new.files.ghost_name ≡ old.files.ghost_name)
      × (new.out.ghost_name ≡ old.out.ghost_name)
      × (new.err.ghost_name ≡ old.err.ghost_name)
