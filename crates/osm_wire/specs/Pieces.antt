-- Bytes that hold pieces one after the other: the pieces that can be had, and why no further one can.
-- Here a piece's bytes are skipped by a count; the code has what is left as a slice.
use Rattle.std.specs.Prelude.{ℕ, ◌-◌, ◌≡◌, ◌<◌, List, [], ◌∷◌, ◌++◌, length, Option, Some, None, Result, Ok, Err}
use Rattle.std.proofs.Common.{suc, zero}
use Rattle.osm_entity.specs.Prefixes.{IsPrefix}
use Rattle.osm_wire.specs.declared.error.WireError.{WireError}

-- the pieces at the beginning of bytes, and why no further one follows; None where they are all the bytes
pub record Pieces (T : Type 0) : Type 0 where
  pub items : List T
  pub fault : Option WireError

-- no pieces, and nothing after them
abbrev pub no_pieces : {T : Type 0} → Pieces T
no_pieces = record { items = []; fault = None }

-- no pieces, since the first is refused
abbrev pub refused_pieces : {T : Type 0} → WireError → Pieces T
refused_pieces error = record { items = []; fault = Some error }

-- a piece before others
abbrev pub piece_before : {T : Type 0} → T → Pieces T → Pieces T
piece_before item pieces = record { items = item ∷ pieces.items; fault = pieces.fault }

-- a piece before those after its bytes; a fault ends the pieces
abbrev pub piece_before_rest : {T : Type 0} → Result (T × ℕ) WireError → (ℕ → Pieces T) → Pieces T
piece_before_rest (Err error) rest = refused_pieces error
piece_before_rest (Ok (item, size)) rest = piece_before item (rest size)

-- the pieces that begin after `skip` bytes, where `first` gives the first piece and how many bytes it takes
abbrev pub pieces_after : {T : Type 0} → (List ℕ → Result (T × ℕ) WireError) → ℕ → List ℕ → Pieces T
pieces_after first skip [] = no_pieces
pieces_after first (suc skip) (byte ∷ bytes) = pieces_after first skip bytes
pieces_after first zero (byte ∷ bytes) =
    piece_before_rest (first (byte ∷ bytes)) (λ size. pieces_after first (size - 1) bytes)

-- the pieces at the beginning of bytes
abbrev pub pieces_of : {T : Type 0} → (List ℕ → Result (T × ℕ) WireError) → List ℕ → Pieces T
pieces_of first bytes = pieces_after first 0 bytes

-- bytes spell pieces one after the other
abbrev pub SpellsAll : {T : Type 0} → (List ℕ → T → Type 0) → List ℕ → List T → Type 0
SpellsAll spells bytes [] = bytes ≡ []
SpellsAll spells bytes (item ∷ items) =
    (before rest : List ℕ) × (bytes ≡ before ++ rest) × spells before item × SpellsAll spells rest items

-- what follows the good pieces: nothing, or bytes that are refused with this error
abbrev pub IsAfterPieces : (List ℕ → WireError → Type 0) → List ℕ → Option WireError → Type 0
IsAfterPieces refuses rest None = rest ≡ []
IsAfterPieces refuses rest (Some error) = (0 < length rest) × refuses rest error

-- the good pieces of bytes: they spell a prefix of them, no longer list of pieces does, and what follows is refused
pub record IsGoodPieces {T : Type 0} (spells : List ℕ → T → Type 0) (refuses : List ℕ → WireError → Type 0)
    (bytes : List ℕ) (pieces : Pieces T) : Type 0 where
  pub before : List ℕ
  pub rest : List ℕ
  pub joined : bytes ≡ before ++ rest
  pub spelled : SpellsAll spells before pieces.items
  pub followed : IsAfterPieces refuses rest pieces.fault
  pub longest : (some others : List ℕ) (items : List T) →
      bytes ≡ some ++ others → SpellsAll spells some items → IsPrefix items pieces.items
