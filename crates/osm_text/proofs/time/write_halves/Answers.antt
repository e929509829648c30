use Rattle.std.proofs.Common.{◌≡◌, ◌/◌, ◌%◌, ◌∷◌, ◌++◌, ℕ, ℤ, pos, unsigned_abs, List, [], refl, append_assoc}
use Rattle.std.proofs.lemmas.Result.{on_ok_weaker}
use Rattle.osm_text.specs.Times.{clock_after, date_after, date_text, time_text}
use Rattle.osm_text.proofs.time.write_halves.Goals as goal

-- the two halves are the text
halves : (out half new date clock : List ℕ) (t : ℕ) (year : ℤ) (month day : ℕ) →
    year ≡ pos (date_after (t / 86400)).year → month ≡ (date_after (t / 86400)).month →
    day ≡ (date_after (t / 86400)).day → date ≡ date_text (unsigned_abs year) month day ++ 84 ∷ [] →
    clock ≡ clock_after (t % 86400) ++ 90 ∷ [] →
    half ≡ out ++ date → new ≡ half ++ clock → new ≡ out ++ time_text t
unfolding time_text
halves out half new date clock t year month day is_year is_month is_day is_date is_clock first second =
    rw (second, first, append_assoc out date clock, is_date, is_clock, is_year, is_month, is_day) refl

pub returns-clause-ok : goal.returns-clause-ok
returns-clause-ok c =
    on_ok_weaker c.append-2.result
    (halves c.args.out.now c.append.new.self c.append-2.new.self c.date_bytes.result c.clock_bytes.result c.args.t
    c.date_of.result.year c.date_of.result.month c.date_of.result.day
    c.date_of.ensures.year c.date_of.ensures.month c.date_of.ensures.day c.date_bytes.ensures
    c.clock_bytes.ensures c.in_ok-append.ensures.ok)
    c.append-2.ensures.ok
