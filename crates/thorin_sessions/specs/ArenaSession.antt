-- The runtime whose files a session reads; File and Dir are its types of open files and folders.
use Rattle.thorin_sessions.specs.declared.session.arena.ArenaSession.{ArenaSession}

abbrev pub runtime_of : {R File Dir : Type 0} → ArenaSession R File Dir → R
runtime_of session = session.files.now
