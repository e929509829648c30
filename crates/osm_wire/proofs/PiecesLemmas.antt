-- How the pieces at the beginning of bytes follow from the first, and what they say where the first says it.
use Rattle.std.proofs.Common.{◌≡◌, ◌∙◌, ◌<◌, ◌≤◌, ◌-◌, ◌+◌, ◌++◌, ◌∷◌, [], ℕ, zero, suc, List, Option, Result, Ok, Err, Some, None, length, take, drop, refl, ap, sym, subst, sub-one, arith, append_assoc, length-append, length-drop}
use Rattle.std.proofs.lemmas.List.{drop_at, length-take-le, take-append-drop}
use Rattle.osm_entity.specs.Prefixes.{IsPrefix}
use Rattle.osm_wire.specs.Pieces.{Pieces, IsAfterPieces, IsGoodPieces, SpellsAll, pieces_after, pieces_of, piece_before, refused_pieces}
use Rattle.osm_wire.specs.declared.error.WireError.{WireError}

-- what is skipped is dropped
pieces_after-drop : {T : Type 0} (first : List ℕ → Result (T × ℕ) WireError) (skip : ℕ) (bytes : List ℕ) →
    pieces_after first skip bytes ≡ pieces_of first (drop skip bytes)
pieces_after-drop first zero [] = refl
pieces_after-drop first zero (byte ∷ bytes) = refl
pieces_after-drop first (suc skip) [] = refl
pieces_after-drop first (suc skip) (byte ∷ bytes) = pieces_after-drop first skip bytes

-- a size after the first byte
drop-size : (size byte : ℕ) (bytes : List ℕ) → 0 < size → drop (size - 1) bytes ≡ drop size (byte ∷ bytes)
drop-size zero byte bytes some = absurd (omega (arith, some))
drop-size (suc size) byte bytes some = rw sub-one refl

-- the first piece, and then those of the bytes after it
pub pieces_of-next : {T : Type 0} (first : List ℕ → Result (T × ℕ) WireError) (bytes : List ℕ) (item : T) (size : ℕ) →
    0 < length bytes → 0 < size → first bytes ≡ Ok (item, size) →
    pieces_of first bytes ≡ piece_before item (pieces_of first (drop size bytes))
pieces_of-next first [] item size some more is = absurd (omega (arith, some))
pieces_of-next first (byte ∷ bytes) item size some more is =
    rw (is, pieces_after-drop first (size - 1) bytes, drop-size size byte bytes more) refl

-- a first piece that is refused ends the pieces
pub pieces_of-refused : {T : Type 0} (first : List ℕ → Result (T × ℕ) WireError) (bytes : List ℕ) (error : WireError) →
    0 < length bytes → first bytes ≡ Err error → pieces_of first bytes ≡ refused_pieces error
pieces_of-refused first [] error some is = absurd (omega (arith, some))
pieces_of-refused first (byte ∷ bytes) error some is = rw is refl

-- the first piece of bytes is read as it is spelled, and refused as it is refused
pub record ReadsFirst {T : Type 0} (first : List ℕ → Result (T × ℕ) WireError) (Spelled : List ℕ → T → Type 0)
    (Refused : List ℕ → WireError → Type 0) : Type 0 where
  pub some : (bytes : List ℕ) (item : T) → Spelled bytes item → 0 < length bytes
  pub spelled : (bytes rest : List ℕ) (item : T) → Spelled bytes item → first (bytes ++ rest) ≡ Ok (item, length bytes)
  pub read : (bytes : List ℕ) (item : T) (size : ℕ) → first bytes ≡ Ok (item, size) →
      (size ≤ length bytes) × Spelled (take size bytes) item
  pub refused : (bytes : List ℕ) (error : WireError) → Refused bytes error → first bytes ≡ Err error
  pub refuses : (bytes : List ℕ) (error : WireError) → first bytes ≡ Err error → Refused bytes error

module _ {T : Type 0} (first : List ℕ → Result (T × ℕ) WireError) (Spelled : List ℕ → T → Type 0)
    (Refused : List ℕ → WireError → Type 0) (reads : ReadsFirst first Spelled Refused) where
  -- the pieces of bytes that spell one and of what follows it
  spelled-next : (bytes rest : List ℕ) (item : T) → Spelled bytes item →
      pieces_of first (bytes ++ rest) ≡ piece_before item (pieces_of first rest)
  spelled-next bytes rest item is =
      let some : 0 < length bytes = reads.some bytes item is in
      let long : length (bytes ++ rest) ≡ length bytes + length rest = length-append bytes rest in
      pieces_of-next first (bytes ++ rest) item (length bytes) (omega (arith, some, long)) some
      (reads.spelled bytes rest item is)
      ∙ ap (λ left. piece_before item (pieces_of first left)) (drop_at bytes rest (length bytes) refl)

  -- what follows the good pieces has no pieces
  after-none : (rest : List ℕ) (fault : Option WireError) → IsAfterPieces Refused rest fault →
      pieces_of first rest ≡ record { items = []; fault = fault }
  after-none rest None is = ap (λ bytes. pieces_of first bytes) is
  after-none rest (Some error) is = pieces_of-refused first rest error is.0 (reads.refused rest error is.1)

  -- what bytes spell is read, with the fault of what follows
  pub pieces_of-spelled : (items : List T) (before rest : List ℕ) (fault : Option WireError) →
      SpellsAll Spelled before items → IsAfterPieces Refused rest fault →
      pieces_of first (before ++ rest) ≡ record { items = items; fault = fault }
  pieces_of-spelled [] before rest fault all is =
      ap (λ bytes. pieces_of first (bytes ++ rest)) all ∙ after-none rest fault is
  pieces_of-spelled (item ∷ items) before rest fault all is =
      let same : before ++ rest ≡ all.0 ++ (all.1 ++ rest) =
      ap (λ bytes. bytes ++ rest) all.2 ∙ append_assoc all.0 all.1 rest in
      ap (λ bytes. pieces_of first bytes) same ∙ spelled-next all.0 (all.1 ++ rest) item all.3
      ∙ ap (λ pieces. piece_before item pieces) (pieces_of-spelled items all.1 rest fault all.4 is)

  -- a list that spells a prefix is a prefix of the pieces
  pub pieces_of-longest : (items : List T) (bytes some others : List ℕ) → bytes ≡ some ++ others →
      SpellsAll Spelled some items →
      IsPrefix items (pieces_of first bytes).items
  pieces_of-longest [] bytes some others joined all = record { rest = (pieces_of first bytes).items; joined = refl }
  pieces_of-longest (item ∷ items) bytes some others joined all =
      let same : bytes ≡ all.0 ++ (all.1 ++ others) =
      joined ∙ ap (λ list. list ++ others) all.2 ∙ append_assoc all.0 all.1 others in
      let next = ap (λ left. pieces_of first left) same ∙ spelled-next all.0 (all.1 ++ others) item all.3 in
      let more = pieces_of-longest items (all.1 ++ others) all.1 others refl all.4 in
      record { rest = more.rest; joined = ap (λ pieces. pieces.items) next ∙ ap (λ list. item ∷ list) more.joined }

  -- the pieces spell a prefix, and what follows is refused
  abbrev IsCut : List ℕ → Pieces T → Type 0
  IsCut bytes pieces =
      (before rest : List ℕ) × (bytes ≡ before ++ rest) × SpellsAll Spelled before pieces.items
      × IsAfterPieces Refused rest pieces.fault

  -- one piece more at the beginning
  IsCut-next : (bytes : List ℕ) (item : T) (size : ℕ) → first bytes ≡ Ok (item, size) → 0 < length bytes → 0 < size →
      IsCut (drop size bytes) (pieces_of first (drop size bytes)) → IsCut bytes (pieces_of first bytes)
  IsCut-next bytes item size is some more cut =
      let whole : bytes ≡ (take size bytes ++ cut.0) ++ cut.1 =
      sym (take-append-drop size bytes) ∙ ap (λ left. take size bytes ++ left) cut.2
      ∙ sym (append_assoc (take size bytes) cut.0 cut.1) in
      subst (λ (pieces : Pieces T). IsCut bytes pieces) (sym (pieces_of-next first bytes item size some more is)) (
        take size bytes ++ cut.0,
        cut.1,
        whole,
        (take size bytes, cut.0, refl, (reads.read bytes item size is).1, cut.3),
        cut.4,
      )

  -- by the first piece
  IsCut-by : (n : ℕ) (bytes : List ℕ) (answer : Result (T × ℕ) WireError) → first bytes ≡ answer → 0 < length bytes →
      length bytes ≤ suc n → ((rest : List ℕ) → length rest ≤ n → IsCut rest (pieces_of first rest)) →
      IsCut bytes (pieces_of first bytes)
  IsCut-by n bytes (Err error) is some fits below =
      subst (λ (pieces : Pieces T). IsCut bytes pieces) (sym (pieces_of-refused first bytes error some is))
      ([], bytes, refl, refl, (some, reads.refuses bytes error is))
  IsCut-by n bytes (Ok (item, size)) is some fits below =
      let read = reads.read bytes item size is in
      let more : 0 < length (take size bytes) = reads.some (take size bytes) item read.1 in
      let taken : length (take size bytes) ≡ size = length-take-le size bytes read.0 in
      let left : length (drop size bytes) ≡ length bytes - size = length-drop size bytes in
      let much : 0 < size = omega (arith, more, taken) in
      IsCut-next bytes item size is some much (below (drop size bytes) (omega (arith, left, much, fits)))

  -- all bytes are cut so
  pieces_of-cut : (n : ℕ) (bytes : List ℕ) → length bytes ≤ n → IsCut bytes (pieces_of first bytes)
  pieces_of-cut n [] fits = ([], [], refl, refl, refl)
  pieces_of-cut zero (byte ∷ bytes) fits = absurd (omega (arith, fits))
  pieces_of-cut (suc n) (byte ∷ bytes) fits =
      IsCut-by n (byte ∷ bytes) (first (byte ∷ bytes)) refl (omega arith) fits
      (λ rest short. pieces_of-cut n rest short)

  -- the pieces that are read are the good ones
  pub pieces_of-good : (bytes : List ℕ) → IsGoodPieces Spelled Refused bytes (pieces_of first bytes)
  pieces_of-good bytes =
      let cut = pieces_of-cut (length bytes) bytes (omega arith) in
      record {
        before = cut.0;
        rest = cut.1;
        joined = cut.2;
        spelled = cut.3;
        followed = cut.4;
        longest = λ some others items joined all. pieces_of-longest items bytes some others joined all;
      }
