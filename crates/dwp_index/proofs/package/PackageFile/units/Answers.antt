use Rattle.dwp_index.proofs.Indexes.{entries_once}
use Rattle.dwp_index.proofs.package.PackageFile.units.Goals as goal

pub returns-clause-once : goal.returns-clause-once
returns-clause-once c = λ ids signatures a b.
    let pack = c.args.self.now in
    rw (c.new.ensures, c.compilation_index.ensures.index, c.type_index.ensures.index)
    (entries_once pack.compilations pack.types ids signatures a b)
