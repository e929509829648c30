-- What a text of the form of a time has at its places.
use Rattle.std.proofs.Common.{◌≡◌, ◌<◌, ℕ, Bool, true, false, List, length, get_or, refl}
use Rattle.std.specs.Prelude.{◌&&◌, ◌==◌}
use Rattle.std.specs.List.{list_all}
use Rattle.std.proofs.lemmas.Bool.{eqb-true}
use Rattle.std.proofs.lemmas.List.Sums.{AllPass-from_list_all}
use Rattle.osm_text.specs.Times.{are_two_digits, clock_places, date_places, has_form, has_marks}

-- the four parts of a test
four : (a b c d : Bool) → (a && b && c && d) ≡ true → (a ≡ true) × (b ≡ true) × (c ≡ true) × (d ≡ true)
four true true true true all = (refl, refl, refl, refl)
four true true true false all = absurd (cc)
four true true false d all = absurd (cc)
four true false c d all = absurd (cc)
four false b c d all = absurd (cc)

-- the four parts of the form
parts : (bytes : List ℕ) → has_form bytes ≡ true →
    ((length bytes == 20) ≡ true) × (has_marks bytes ≡ true) ×
    (list_all (are_two_digits bytes) date_places ≡ true) × (list_all (are_two_digits bytes) clock_places ≡ true)
parts bytes form =
    four (length bytes == 20) (has_marks bytes)
    (list_all (are_two_digits bytes) date_places) (list_all (are_two_digits bytes) clock_places) form

-- twenty bytes
pub form-length : (bytes : List ℕ) → has_form bytes ≡ true → length bytes ≡ 20
form-length bytes form = eqb-true (length bytes) 20 (parts bytes form).0

-- digits where a date has them
pub form-date : (bytes : List ℕ) → has_form bytes ≡ true → (k : ℕ) → k < 4 →
    are_two_digits bytes (get_or date_places k 0) ≡ true
form-date bytes form k below =
    AllPass-from_list_all (are_two_digits bytes) date_places (parts bytes form).2 k 0 below

-- digits where a time of the day has them
pub form-clock : (bytes : List ℕ) → has_form bytes ≡ true → (k : ℕ) → k < 3 →
    are_two_digits bytes (get_or clock_places k 0) ≡ true
form-clock bytes form k below =
    AllPass-from_list_all (are_two_digits bytes) clock_places (parts bytes form).3 k 0 below
