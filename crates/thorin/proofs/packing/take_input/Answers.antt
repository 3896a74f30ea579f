use Rattle.{thorin_builder.specs.Taking.accepted_of, thorin_join.proofs.Terms.refl}
use Rattle.thorin.proofs.packing.take_input.Goals as goal

pub returns-in-Object-clause-taken : goal.returns-in-Object-clause-taken
returns-in-Object-clause-taken g c =
    rw c.in-Object.is (record { accepted = _; takes = (c.add_input_by.ensures.taken, refl) })

pub returns-in-Bytes-clause-taken : goal.returns-in-Bytes-clause-taken
returns-in-Bytes-clause-taken g c =
    let e = c.add_object_bytes.ensures in
    rw (c.in-Bytes.is, c.tried.ensures.outcome) (record {
      accepted = accepted_of c.add_object_bytes.result c.in-Bytes.bytes.now;
      takes = (record { meaning = e.meaning; joins = e.joins; unchanged = e.err }, refl);
    })

pub returns-in-Executable-clause-taken : goal.returns-in-Executable-clause-taken
returns-in-Executable-clause-taken g c =
    rw c.in-Executable.is
    (record { accepted = _; takes = (c.add_executable_by.ensures.taken, refl) })

pub returns-in-ExecutableSkippingNameless-clause-taken :
    goal.returns-in-ExecutableSkippingNameless-clause-taken
returns-in-ExecutableSkippingNameless-clause-taken g c =
    rw c.in-ExecutableSkippingNameless.is
    (record { accepted = _; takes = (c.add_executable_skipping_nameless_by.ensures.taken, refl) })
