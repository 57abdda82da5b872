-- The trial of an engine.
use Rattle.engine.specs.declared.sessions.Session.{Session}
use Rattle.engine.specs.Meaning.{Meaning}
use Rattle.engine.specs.Trails.{entries_of}

-- an engine whose trial, trail and count of answers are these, and whose other parts are those of m
abbrev pub in_session : Session → Meaning → Meaning
in_session s m = record { texts = m.texts; on = m.on; trail = entries_of s.trail; opened = s.opened; answers = s.answers; text_limit = m.text_limit; literal_limit = m.literal_limit }
