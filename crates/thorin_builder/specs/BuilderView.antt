-- What a caller sees of a package builder: its session, and the state of the package.
use Rattle.thorin_builder.specs.declared.package.DwarfPackage.TheInside.{Inside}
use Rattle.thorin_builder.specs.Building.{Building}
use Rattle.thorin_builder.specs.StateView.{begun_of}

abbrev pub building : {Sess : Type 0} → Inside Sess → Building Sess
building p = record {
  session = p.session.now;
  state = record { begun = begun_of p.in_progress; targets = p.targets.keys; own = p.own };
}
