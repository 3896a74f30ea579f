use Rattle.{dwp_archive.specs.View.member, thorin_commands.specs.Archives.is_split}
use Rattle.thorin_commands.{proofs.Causes.each_none, specs.Cause.Untaken}
use Rattle.std.proofs.Common.{[], false, refl, true, ◌≡◌}
use Rattle.thorin_commands.proofs.archives.take_split.Goals as goal

pub returns-then-not-is_split-clause-took : goal.returns-then-not-is_split-clause-took
returns-then-not-is_split-clause-took g c =
    let is : is_split (member c.args.member).content ≡ false =
    cc (c.content-content.ensures, c.is_split.ensures) in rw is each_none

pub returns-in-Ok-clause-took : goal.returns-in-Ok-clause-took
returns-in-Ok-clause-took g c =
    let is : is_split (member c.args.member).content ≡ true =
    cc (c.content-content.ensures, c.is_split.ensures) in
    rw is (rw c.content-content.ensures at c.in-Ok.ensures.took)

pub returns-in_ok-tell_why-in-Err-clause-told : goal.returns-in_ok-tell_why-in-Err-clause-told
returns-in_ok-tell_why-in-Err-clause-told g c =
    let is : is_split (member c.args.member).content ≡ true =
    cc (c.content-content.ensures, c.is_split.ensures) in
    rw is (record {
      cause = Untaken c.in-Err.why;
      is = record {
        why = c.in-Err.why;
        is = refl;
        reason = record {
          front = [];
          content = (member c.args.member).content;
          rest = [];
          list_is = refl;
          state = c.args.builder.now.state;
          took = each_none;
          refused = rw c.content-content.ensures at c.in-Err.ensures.refused;
        };
      };
      line = c.in_ok-tell_why-in-Err.ensures.told;
    })
