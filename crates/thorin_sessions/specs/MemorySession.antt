-- The files of a session in memory.
use Rattle.thorin_sessions.specs.Sessions.{FileMap}
use Rattle.thorin_sessions.specs.declared.session.memory.MemorySession.{MemorySession}

abbrev pub files_of : MemorySession → FileMap
files_of session = session.files.now
