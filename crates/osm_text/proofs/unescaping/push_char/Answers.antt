use Rattle.std.proofs.Common.{◌≡◌, ◌++◌}
use Rattle.std.specs.Str.{IsUtf8}
use Rattle.std.proofs.lemmas.Result.{on_ok_weaker}
use Rattle.osm_text.proofs.UnescapeLemmas.{utf8-grown}
use Rattle.osm_text.proofs.unescaping.push_char.Goals as goal

pub returns-clause-utf8 : goal.returns-clause-utf8
returns-clause-utf8 c =
    on_ok_weaker c.append.result
    (λ (is : c.append.new.self ≡ c.args.out.now ++ c.as_bytes.result.now) (before : IsUtf8 c.args.out.now).
    utf8-grown c.args.out.now c.as_bytes.result.now c.append.new.self is before c.as_bytes.ensures.utf8)
    c.append.ensures.ok
