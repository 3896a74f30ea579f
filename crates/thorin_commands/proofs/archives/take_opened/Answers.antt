use Rattle.thorin_commands.proofs.Causes.{archive, err_by, plain, ran_one}
use Rattle.std.proofs.Common.{[], inl, inr, Ok, refl, rules, ◌∷◌, ◌≡◌}
use Rattle.thorin_commands.specs.Cause.{Unread, Untaken}
use Rattle.thorin_commands.specs.{Opened.TookMembers, Packing.declines, Packing.manner_of}
use Rattle.{std.proofs.lemmas.Result.on_ok_weaker, thorin_commands.specs.Packing.reads}
use Rattle.thorin.specs.declared.packing.Input.TheVariants.{Bytes}
use Rattle.thorin_commands.proofs.archives.take_opened.Goals as goal

pub returns-in_ok-tell_refused-in-Err-clause-told :
    goal.returns-in_ok-tell_refused-in-Err-clause-told
returns-in_ok-tell_refused-in-Err-clause-told g c =
    record {
      cause = Untaken c.from-why.result;
      is = rw c.from-why.ensures (Unread _ _ c.in-Err.why c.requires c.in-Err.ensures.refused);
      line = c.in_ok-tell_refused-in-Err.ensures.told;
    }

pub returns-then-is_archive-clause-took : goal.returns-then-is_archive-clause-took
returns-then-is_archive-clause-took g c =
    let packing = c.args.inputs.now.packing.now in
    let offer = reads packing (g.F.FileSystem.offer c.args.inputs.now.files.now) in
    on_ok_weaker c.take_members.result (λ (by : TookMembers (manner_of packing) offer
    c.as_slice-bytes.result.now c.args.builder.now.state c.take_members.new.builder.state). record {
      list = by.each.list;
      stands = rw c.requires (inr (record {
        file = c.as_slice-bytes.result.now;
        offered = rw (← c.as_slice-bytes.ensures.value) at c.in-Ok.ensures.fetched;
        members = by.members;
        are = by.are;
        taken = by.each.taken;
      }));
      accepted = by.each.accepted;
      ran = by.each.ran;
    }) c.take_members.ensures.took

pub returns-then-is_archive-clause-told : goal.returns-then-is_archive-clause-told
returns-then-is_archive-clause-told g c = err_by g.E.LineOutput.contents g.E.LineOutput.failed
    c.take_members.new.err
    (archive c.requires (rw (← c.as_slice-bytes.ensures.value) at c.in-Ok.ensures.fetched)
    (search (rules, c.is_archive.ensures, c.if-is_archive)))
    c.take_members.result c.take_members.ensures.told

pub returns-else-is_archive-clause-took : goal.returns-else-is_archive-clause-took
returns-else-is_archive-clause-took g c =
    let bytes = c.as_slice-bytes.result in
    on_ok_weaker c.settle.result (λ (e : c.take_input-outcome.result ≡ Ok tt).
    let took = rw e at c.take_input-outcome.ensures.taken in record {
      list = Bytes bytes ∷ [];
      stands = rw c.requires (inl (record {
        file = bytes;
        offered = rw (← c.as_slice-bytes.ensures.value) at c.in-Ok.ensures.fetched;
        begins = search (rules, c.is_archive.ensures, c.if-is_archive);
        list_is = refl;
      }));
      accepted = took.accepted;
      ran = ran_one _ (Bytes bytes) _ _ took;
    }) c.settle.ensures.took

pub returns-else-is_archive-clause-told : goal.returns-else-is_archive-clause-told
returns-else-is_archive-clause-told g c =
    let packing = c.args.inputs.now.packing.now in
    let offer = g.F.FileSystem.offer c.args.inputs.now.files.now in
    err_by g.E.LineOutput.contents g.E.LineOutput.failed c.settle.new.err
    (plain (declines packing offer) c.take_input-outcome.result c.requires
    (rw (← c.as_slice-bytes.ensures.value) at c.in-Ok.ensures.fetched)
    (search (rules, c.is_archive.ensures, c.if-is_archive))
    c.take_input-outcome.ensures.taken c.take_input-outcome.ensures.declined)
    c.settle.result c.settle.ensures.told

pub returns-else-is_archive-clause-line : goal.returns-else-is_archive-clause-line
returns-else-is_archive-clause-line g c = rw c.unit_count-before.ensures at c.settle.ensures.line
