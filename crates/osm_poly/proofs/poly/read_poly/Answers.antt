use Rattle.std.proofs.Common.{◌≡◌, ◌+◌, ◌∙◌, ℕ, List, [], Err, length, ap}
use Rattle.std.proofs.lemmas.Result.{err_from_is_err_and}
use Rattle.osm_poly.specs.Lines.{poly_lines, said_after_name, said_from}
use Rattle.osm_poly.specs.Poly.{area_of, poly}
use Rattle.osm_poly.specs.Sections.{parts_from, poly_sections}
use Rattle.osm_poly.specs.Seen.{IsBlamed}
use Rattle.osm_poly.specs.declared.poly.PolyError.{PolyError}
use Rattle.osm_poly.specs.declared.poly.PolyError.TheVariants.{Bad, Memory}
use Rattle.osm_poly.proofs.PartLemmas.{parts}
use Rattle.osm_poly.proofs.poly.read_poly.Goals as goal

-- a file with no line after its name
poly-none : (bytes : List ℕ) (end : ℕ) → said_after_name bytes ≡ [] → 1 + length (poly_lines bytes) ≡ end →
    poly bytes ≡ Err end
unfolding poly
poly-none bytes end none is =
    ap (λ lines. area_of (poly_sections (1 + length (poly_lines bytes)) (parts lines))) none ∙
    ap (λ e. area_of (poly_sections e (parts []))) is

-- a file by the bytes after its name
poly-read : (bytes rest : List ℕ) → said_after_name bytes ≡ said_from 2 rest →
    1 + length (poly_lines bytes) ≡ 2 + length (poly_lines rest) →
    poly bytes ≡ area_of (poly_sections (2 + length (poly_lines rest)) (parts_from 2 rest))
unfolding poly
poly-read bytes rest said same =
    ap (λ lines. area_of (poly_sections (1 + length (poly_lines bytes)) (parts lines))) said ∙
    ap (λ e. area_of (poly_sections e (parts_from 2 rest))) same

-- its bad line is that of its sections
poly-blamed : (error : PolyError) (bytes rest : List ℕ) → said_after_name bytes ≡ said_from 2 rest →
    1 + length (poly_lines bytes) ≡ 2 + length (poly_lines rest) →
    IsBlamed error (poly_sections (2 + length (poly_lines rest)) (parts_from 2 rest)) → IsBlamed error (poly bytes)
poly-blamed (Bad line) bytes rest said same bad = poly-read bytes rest said same ∙ ap area_of bad
poly-blamed Memory bytes rest said same bad = tt

pub returns-in-Err-clause-bad : goal.returns-in-Err-clause-bad
returns-in-Err-clause-bad c = poly-none c.args.bytes.now c.in-Err.end c.in-Err.ensures.none c.in-Err.ensures.end

pub returns-in_err-sections-clause-bad : goal.returns-in_err-sections-clause-bad
returns-in_err-sections-clause-bad c =
    let error = err_from_is_err_and c.from_residual.result c.from_residual.ensures.1 in
    rw (error.1, error.2)
    (poly-blamed c.in_err-sections.field-0.0 c.args.bytes.now c.in-Ok.rest.now c.in-Ok.ensures.said
    c.in-Ok.ensures.same c.in_err-sections.ensures.bad)

pub returns-clause-ok : goal.returns-clause-ok
returns-clause-ok c =
    poly-read c.args.bytes.now c.in-Ok.rest.now c.in-Ok.ensures.said c.in-Ok.ensures.same ∙
    ap area_of c.in_ok-sections.ensures.ok
