-- What one pull of a source gave a PBF reader.
-- Here the bytes that came are a list; the code lets the source write them into its buffer.
use Rattle.std.specs.Prelude.{◌≡◌, ◌≤◌, ℕ, List, length, take, Option, vec_len}
use Rattle.std.specs.Io.KnownBytes.{prepend_known}
use Rattle.osm_host.specs.Pulls.{piece_size}
use Rattle.osm_pbf.specs.declared.pulled.Pulled.TheInside.{Inside}

-- what was pulled is seen as the part of the buffer before its stop
abbrev pub pulled_seen : Inside → List ℕ
pulled_seen p = take p.stop p.buffer.items

-- the stop lies in the buffer, which has room for a pull
pub record IsPulledPiece (p : Inside) : Type 0 where
  pub stop : p.stop ≤ vec_len p.buffer
  pub buffer : vec_len p.buffer ≡ piece_size

-- a source gave a count of bytes, and the first of them, up to the room, are the piece
pub record FilledPiece {S : Type 0} (rest : S → Option (List ℕ)) (before now : S) (room count : ℕ)
    (piece : List ℕ) : Type 0 where
  pub bytes : List ℕ
  pub told : rest before ≡ prepend_known bytes (rest now)
  pub size : count ≡ length bytes
  pub first : piece ≡ take room bytes
