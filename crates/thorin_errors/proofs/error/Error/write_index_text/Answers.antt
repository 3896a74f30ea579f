use Rattle.thorin_errors.proofs.error.Error.write_index_text.Goals as goal

pub returns-in-IncompatibleIndexVersion : goal.returns-in-IncompatibleIndexVersion
returns-in-IncompatibleIndexVersion g c = rw c.in-IncompatibleIndexVersion.is c.write.ensures.writes

pub returns-in-OffsetAtIndex : goal.returns-in-OffsetAtIndex
returns-in-OffsetAtIndex g c = rw c.in-OffsetAtIndex.is c.write-in-OffsetAtIndex.ensures.writes
