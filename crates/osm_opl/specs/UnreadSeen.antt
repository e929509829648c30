-- How contracts see the bytes that were not read yet.
use Rattle.std.specs.Prelude.{◌-◌, ◌≤◌, take, drop, vec_len}
use Rattle.osm_host.specs.Pulls.{piece_size}
use Rattle.osm_opl.specs.Unread.{UnreadValue, IsUnread}
use Rattle.osm_opl.specs.declared.unread.Unread.TheInside.{Inside}

-- unread bytes are seen as what is held, and the part of the buffer from its start to its stop
abbrev pub unread_seen : Inside → UnreadValue
unread_seen u = record { held = u.held; piece = take (u.stop - u.start) (drop u.start u.buffer.items) }

-- the unread part lies in the buffer, in which there is room for a pull
pub record IsPlaced (u : Inside) : Type 0 where
  pub start : u.start ≤ u.stop
  pub stop : u.stop ≤ vec_len u.buffer
  pub buffer : piece_size ≤ vec_len u.buffer
  pub value : IsUnread (unread_seen u)
