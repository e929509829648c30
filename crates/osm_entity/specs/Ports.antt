-- Messages at the ports of a task, and the streams that they are.
-- Here all that ever passed a port is one list; the code sees one message at a time and stores none.
use Rattle.std.specs.Prelude.{◌≡◌, ℕ, ◌<◌, ◌==◌, List, [], ◌∷◌, ◌++◌, map, Bool, true, false, if◌then◌else◌, ⊤}
use Rattle.osm_entity.specs.Items.{ItemValue}
use Rattle.osm_entity.specs.Streams.{Stream, IsBefore}
use Rattle.osm_entity.specs.declared.stream.End.{End}
use Rattle.osm_entity.specs.declared.stream.End.TheVariants.{Broken}
use Rattle.osm_entity.specs.declared.stream.Message.{Message}
use Rattle.osm_entity.specs.declared.stream.Message.TheVariants.{Item as One, End as Last}

-- the messages that passed each port of a task, by the number of the port
abbrev pub Ports : Type 0
Ports = ℕ → List Message

-- no message at any port
abbrev pub no_messages : Ports
no_messages port = []

-- one message more at a port
abbrev pub added : Ports → ℕ → Message → Ports
added x port message p = if p == port then x p ++ message ∷ [] else x p

-- the items before the first end
abbrev pub items_of : List Message → List ItemValue
items_of [] = []
items_of (One item ∷ more) = item ∷ items_of more
items_of (Last end ∷ more) = []

-- the first end, and Broken where there is none
abbrev pub end_of : List Message → End
end_of [] = Broken
end_of (One item ∷ more) = end_of more
end_of (Last end ∷ more) = end

-- whether there is an end among some messages
abbrev pub has_end : List Message → Bool
has_end [] = false
has_end (One item ∷ more) = has_end more
has_end (Last end ∷ more) = true

-- an end is only the last of some messages
abbrev pub EndsLast : List Message → Type 0
EndsLast [] = ⊤
EndsLast (One item ∷ more) = EndsLast more
EndsLast (Last end ∷ more) = more ≡ []

-- the stream that some messages are; without an end it counts as broken
abbrev pub stream_of : List Message → Stream
stream_of messages = record { items = items_of messages; end = end_of messages }

-- the streams of the messages at each port
abbrev pub streams : Ports → ℕ → Stream
streams x port = stream_of (x port)

-- each of the first ports has its end
abbrev pub HaveEnds : ℕ → Ports → Type 0
HaveEnds count x = (port : ℕ) → port < count → has_end (x port) ≡ true

-- each port's stream is before the other's
abbrev pub AreBefore : (ℕ → Stream) → (ℕ → Stream) → Type 0
AreBefore f g = (port : ℕ) → IsBefore (f port) (g port)

-- an end as a message, where it is fixed
abbrev pub last_if : Bool → End → List Message
last_if true end = Last end ∷ []
last_if false end = []

-- the messages that a stream fixes: its items, and its end where that is fixed
abbrev pub fixed : Bool → Stream → List Message
fixed ended s = map One s.items ++ last_if ended s.end
