use Rattle.std.proofs.Common.{◌≡◌, ◌++◌, map, take}
use Rattle.thorin_commands.specs.Packing.{asked, object_asked, executable_asked, paths_in}
use Rattle.thorin_commands.proofs.packing.inputs_of.Given as goal

-- the paths so far
abbrev pub invariant-loop-object : goal.invariant-loop-object
invariant-loop-object l = map asked l.inputs.items ≡ map object_asked
    (take l.object-index l.objects)

abbrev pub invariant-loop-executable : goal.invariant-loop-executable
invariant-loop-executable l = map asked l.inputs.items ≡ map object_asked
    (paths_in l.packing.inputs) ++ map (executable_asked (l.packing.missing, l.packing.nameless))
    (take l.executable-index l.executables)
