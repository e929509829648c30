use Rattle.std.proofs.Common.{◌≡◌, ◌∙◌, ℕ, List, Result, Ok, Err, sym}
use Rattle.std.specs.Result.{MatchResult, is_ok}
use Rattle.std.specs.Str.{IsUtf8, is_utf8}
use Rattle.std.proofs.lemmas.Bool.{false_from_ne_true}
use Rattle.std.proofs.lemmas.Str.{IsUtf8-from_is_utf8, is_utf8-from_IsUtf8}
use Rattle.osm_opl_line.proofs.cutting.is_text.Goals as goal

-- an answer that is good exactly for UTF-8 tests for it
is_ok-utf8 : {T E : Type 0} (line : List ℕ) (P : T → Type 0) (Q : E → Type 0) (r : Result T E) →
    MatchResult r (λ s. P s × IsUtf8 line) (λ e. ¬ IsUtf8 line × Q e) → is_ok r ≡ is_utf8 line
is_ok-utf8 line P Q (Ok text) is = sym (is_utf8-from_IsUtf8 line is.1)
is_ok-utf8 line P Q (Err fault) is =
    sym (false_from_ne_true (is_utf8 line) (λ yes. is.0 (IsUtf8-from_is_utf8 line yes)))

pub returns : goal.returns
returns c = c.is_ok.ensures.value ∙ is_ok-utf8 c.args.line.now _ _ c.from_utf8.result c.from_utf8.ensures.cases
