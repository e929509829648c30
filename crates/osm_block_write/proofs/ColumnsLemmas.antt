-- Columns as they are appended, number by number.
use Rattle.std.proofs.Common.{◌≡◌, ℕ, ◌+◌, ◌<◌, List, ◌++◌, length, drop, get_or, map, sym, ap, ◌∙◌, append_assoc}
use Rattle.std.specs.Prelude.{ℤ, ◌-ℤ◌}
use Rattle.std.specs.Int.{Width, int_wrap}
use Rattle.osm_wire.specs.Integers.{zigzagged}
use Rattle.osm_wire.specs.Written.{packed, shortest_varint}
use Rattle.osm_block_write.specs.Columns.{differences_from}
use Rattle.osm_block_write.proofs.ListLemmas.{drop-next}

-- what is still to come of a delta coded column behind a number
abbrev pub coming : Width → ℤ → List ℤ → List ℕ
coming w before numbers = packed (map zigzagged (map (int_wrap w) (differences_from before numbers)))

-- a number more is appended: what is still to come is that behind it
pub coming-next : {T : Type 0} (w : Width) (f : T → ℤ) (items : List T) (at : ℕ) (item : T) (before : ℤ)
    (number : ℤ) (out next total : List ℕ) → at < length items → item ≡ get_or items at item → number ≡ f item →
    next ≡ out ++ shortest_varint (zigzagged (int_wrap w (number -ℤ before))) →
    out ++ coming w before (map f (drop at items)) ≡ total →
    next ++ coming w number (map f (drop (at + 1) items)) ≡ total
coming-next w f items at item before number out next total within is named appended known =
    let behind = drop-next items at item within is in
    rw (appended, named)
    (append_assoc out (shortest_varint (zigzagged (int_wrap w (f item -ℤ before))))
    (coming w (f item) (map f (drop (at + 1) items)))
    ∙ ap (λ rest. out ++ coming w before (map f rest)) (sym behind)
    ∙ known)
