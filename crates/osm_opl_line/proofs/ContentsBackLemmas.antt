-- What is written of each value says it again.
use Rattle.std.proofs.Common.{◌≡◌, ℕ, ℤ, pos, zero, suc, ◌*◌, ◌^◌, ◌<◌, ◌≤◌, List, [], ◌∷◌, Some, Bool, true, false, nat_abs, arith, refl}
use Rattle.std.specs.Prelude.{Ok, decimal, FitsSigned}
use Rattle.std.specs.Fmt.{signed_decimal}
use Rattle.std.specs.Int.{w64}
use Rattle.std.proofs.lemmas.Bool.{lt-ltb, le-leb}
use Rattle.std.proofs.lemmas.Option.{none-some}
use Rattle.osm_entity.specs.Entities.{degree}
use Rattle.osm_entity.specs.declared.item.Act.{Act}
use Rattle.osm_entity.specs.declared.item.Act.TheVariants.{Keep, Create, Modify, Delete}
use Rattle.osm_text.specs.Escapes.{escaped, unescaped}
use Rattle.osm_text.specs.Nano.{nano}
use Rattle.osm_text.specs.Numbers.{nano_text, whole}
use Rattle.osm_text.specs.Times.{time, time_text}
use Rattle.osm_opl_line.specs.Contents.{count_in, changeset_in, deleted_in, time_in, text_in, degrees_in}
use Rattle.osm_opl_line.specs.Writing.{act_text, time_field}

-- whole numbers read back
abbrev pub WholeBack : Type 0
WholeBack = (z : ℤ) → FitsSigned w64 z → whole (signed_decimal z) ≡ Some z

-- degrees read back
abbrev pub NanoBack : Type 0
NanoBack = (z : ℤ) → nat_abs z ≤ 10 ^ 18 → nano (nano_text z) ≡ Some z

-- times read back
abbrev pub TimeBack : Type 0
TimeBack = (t : ℕ) → t < 2 ^ 32 → time (time_text t) ≡ Some t

-- escaped texts read back
abbrev pub EscapedBack : Type 0
EscapedBack = (text : List ℕ) → unescaped (escaped text) ≡ Some text

-- a whole number that isn't negative
whole-decimal : WholeBack → (n : ℕ) → n < 2 ^ 63 → whole (decimal n) ≡ Some (pos n)
whole-decimal whole_back n small = whole_back (pos n) (record { sfits = small })

-- a version or uid
pub count_in-decimal : WholeBack → (n : ℕ) → n < 2 ^ 31 → count_in (decimal n) ≡ Ok n
count_in-decimal whole_back n small = rw (whole-decimal whole_back n (omega arith), lt-ltb n (2 ^ 31) small) refl

-- a changeset
pub changeset_in-decimal : WholeBack → (n : ℕ) → n < 2 ^ 63 → changeset_in (decimal n) ≡ Ok n
changeset_in-decimal whole_back n small = rw (whole-decimal whole_back n small) refl

-- an act is a delete
abbrev pub is_delete : Act → Bool
is_delete Delete = true
is_delete act = false

-- V or D
pub deleted_in-act_text : (act : Act) → deleted_in (act_text act) ≡ Ok (is_delete act)
deleted_in-act_text Keep = refl
deleted_in-act_text Create = refl
deleted_in-act_text Modify = refl
deleted_in-act_text Delete = refl

-- what reads as a time is that time's field
time_in-time : (bytes : List ℕ) (t : ℕ) → time bytes ≡ Some t → time_in bytes ≡ Ok t
unfolding time
time_in-time [] t read = absurd (none-some t read)
time_in-time (b ∷ bytes) t read = rw read refl

-- a time, or nothing for 0
pub time_in-time_field : TimeBack → (t : ℕ) → t < 2 ^ 32 → time_in (time_field t) ≡ Ok t
time_in-time_field time_back zero small = refl
time_in-time_field time_back (suc t) small = time_in-time (time_text (suc t)) (suc t) (time_back (suc t) small)

-- a text
pub text_in-escaped : EscapedBack → (text : List ℕ) → text_in (escaped text) ≡ Ok text
text_in-escaped escaped_back text = rw (escaped_back text) refl

-- what reads as degrees within bounds is their field
degrees_in-nano : (most : ℕ) (bytes : List ℕ) (z : ℤ) → nat_abs z ≤ most * degree → nano bytes ≡ Some z →
    degrees_in most bytes ≡ Ok (Some z)
degrees_in-nano most [] z within read = absurd (none-some z read)
degrees_in-nano most (b ∷ bytes) z within read = rw (read, le-leb (nat_abs z) (most * degree) within) refl

-- degrees
pub degrees_in-nano_text : NanoBack → (most : ℕ) (z : ℤ) → nat_abs z ≤ most * degree → nat_abs z ≤ 10 ^ 18 →
    degrees_in most (nano_text z) ≡ Ok (Some z)
degrees_in-nano_text nano_back most z within small =
    degrees_in-nano most (nano_text z) z within (nano_back z small)
