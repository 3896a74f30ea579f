use Rattle.{std.proofs.Common.inl, thorin_cli.proofs.Told.unreadable}
use Rattle.thorin_cli.proofs.refuse_response.Goals as goal

pub returns-in-Inside : goal.returns-in-Inside
returns-in-Inside g c = rw c.in-Inside.is (rw c.as_str.ensures.value at c.refuse_file.ensures)

pub returns-in-TooDeep : goal.returns-in-TooDeep
returns-in-TooDeep g c = rw c.in-TooDeep.is
    (rw c.as_str-in-TooDeep.ensures.value at c.refuse_file-in-TooDeep.ensures)

pub returns-in-TooLong : goal.returns-in-TooLong
returns-in-TooLong g c = rw c.in-TooLong.is (inl c.tell.ensures)

pub returns-in-Unreadable : goal.returns-in-Unreadable
returns-in-Unreadable g c = rw (unreadable _ c.in-Unreadable.is) (inl c.tell-in-Unreadable.ensures)
