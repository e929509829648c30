use Rattle.std.proofs.Common.{◌≡◌, ◌∙◌, Ok, ap, sym, take}
use Rattle.std.proofs.lemmas.Result.{IfOk-weaker}
use Rattle.osm_opl_line.specs.Contents.{text_in}
use Rattle.osm_opl_line.proofs.PlainPartLemmas.{text_in-plain}
use Rattle.osm_opl_line.proofs.contents.make_plain_text.Goals as goal

pub returns-clause-value : goal.returns-clause-value
returns-clause-value c =
    IfOk-weaker c.from_start.result (λ t. t ≡ take c.args.len c.args.bytes.now)
    (λ text. text_in (take c.args.len c.args.bytes.now) ≡ Ok text)
    (λ t is. text_in-plain (take c.args.len c.args.bytes.now) c.requires.plain ∙ ap Ok (sym is)) c.from_start.ensures
