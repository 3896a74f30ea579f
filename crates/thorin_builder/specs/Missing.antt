-- The units that executables refer to and that a package lacks.
use Rattle.std.specs.Prelude.{List, [], filter, drop}
use Rattle.dwp_table.specs.declared.object.DwarfObject.{DwarfObject}
use Rattle.thorin_join.specs.Builder.{State, is_missing}
use Rattle.thorin_builder.specs.declared.missing.MissingTargets.{MissingTargets}

-- what the iterator has left
abbrev pub missing_left : MissingTargets → List DwarfObject
missing_left m = filter (is_missing m.contained.now.keys) (drop m.next m.targets.now.keys)

-- a builder that forgot the units that executables refer to
abbrev pub without_targets : State → State
without_targets state = record state { targets = [] }
