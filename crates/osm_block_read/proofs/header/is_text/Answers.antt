use Rattle.std.proofs.Common.{◌≡◌, Bool, true, false, refl, sym}
use Rattle.std.specs.Str.{is_utf8}
use Rattle.std.proofs.lemmas.Str.{IsUtf8-from_is_utf8, is_utf8-from_IsUtf8}
use Rattle.osm_block_read.proofs.header.is_text.Goals as goal

-- what isn't true is false
false-from_not : (b : Bool) → (b ≡ true → ⊥) → false ≡ b
false-from_not true isnt = absurd (isnt refl)
false-from_not false isnt = refl

pub returns-in-Ok : goal.returns-in-Ok
returns-in-Ok c = sym (is_utf8-from_IsUtf8 c.args.bytes.now c.in-Ok.ensures.1)

pub returns-in-Err : goal.returns-in-Err
returns-in-Err c = false-from_not (is_utf8 c.args.bytes.now)
    (λ is. c.in-Err.ensures (IsUtf8-from_is_utf8 c.args.bytes.now is))
