use Rattle.std.proofs.Common.{◌≡◌, ◌∙◌, ℕ, ℤ, List, ◌∷◌, Some, sym, ap, to_z, of_z, w64, rules}
use Rattle.std.proofs.lemmas.Result.{IfOk-weaker, IfErr-weaker}
use Rattle.osm_text.specs.Numbers.{whole}
use Rattle.osm_opl_line.specs.Draft.{fields_drafted}
use Rattle.osm_opl_line.specs.Fields.{Fields, fields_of, pieces}
use Rattle.osm_opl_line.specs.Item.{item_of}
use Rattle.osm_opl_line.specs.Line.{Good, Bad, judged, said_of}
use Rattle.osm_opl_line.proofs.CuttingLemmas.{fields_of-drafted, said_of-drafted}
use Rattle.osm_opl_line.proofs.cutting.cut_pieces.Goals as goal

-- the id as it is passed on
abbrev id : goal.After-judge → ℤ
id c = to_z w64 (of_z w64 c.in-Ok.id)

-- the fields of the draft
abbrev drafted : goal.After-judge → Fields
drafted c = fields_drafted c.args.flow c.in-Some.kind (id c) c.in_ok-draft.draft

-- the pieces of the line
abbrev parts : goal.After-judge → List (List ℕ)
parts c = (c.args.letter ∷ c.args.id.now) ∷ pieces c.args.rest.now

-- the id that is passed on is the number that was read
id-read : (c : goal.After-judge) → Some (id c) ≡ whole c.args.id.now
id-read c =
    let same : to_z w64 (of_z w64 c.in-Ok.id) ≡ c.in-Ok.id = search rules in
    ap Some same ∙ c.in-Ok.ensures

-- the fields of the line are those of the draft
fields : (c : goal.After-judge) → fields_of c.args.flow (parts c) ≡ Some (drafted c)
fields c =
    fields_of-drafted c.args.flow c.in-Some.kind c.args.letter c.args.id.now (id c) (pieces c.args.rest.now) (drafted c)
    c.in-Some.ensures (id-read c) (c.in_ok-draft.ensures.fields c.args.flow (id c))

-- what the line says is judged by the draft
said : (c : goal.After-judge) → said_of c.args.flow (parts c) ≡ judged (drafted c)
said c =
    said_of-drafted c.args.flow c.in-Some.kind c.args.letter c.args.id.now (id c) (pieces c.args.rest.now) (drafted c)
    c.in-Some.ensures (id-read c) c.in_ok-draft.ensures.refused (c.in_ok-draft.ensures.fields c.args.flow (id c))

pub returns-clause-fields : goal.returns-clause-fields
returns-clause-fields c =
    IfOk-weaker c.judge.result (λ l. l ≡ drafted c) (λ l. fields_of c.args.flow (parts c) ≡ Some l)
    (λ l is. fields c ∙ ap Some (sym is)) c.judge.ensures.fields

pub returns-clause-good : goal.returns-clause-good
returns-clause-good c =
    IfOk-weaker c.judge.result (λ l. judged (drafted c) ≡ Good (item_of l))
    (λ l. said_of c.args.flow (parts c) ≡ Good (item_of l)) (λ l is. said c ∙ is) c.judge.ensures.good

pub returns-clause-refused : goal.returns-clause-refused
returns-clause-refused c =
    IfErr-weaker c.judge.result (λ cause. judged (drafted c) ≡ Bad cause)
    (λ cause. said_of c.args.flow (parts c) ≡ Bad cause) (λ cause is. said c ∙ is) c.judge.ensures.refused
