use Rattle.std.proofs.Common.{◌≡◌, ℕ, List, true, sym, subst}
use Rattle.std.specs.List.{list_all}
use Rattle.osm_report.specs.Printable.{is_printable}
use Rattle.osm_report.proofs.PrintableLemmas.{decimal-printable}
use Rattle.osm_report.proofs.lines.Draft.number.Goals as goal

pub push-requires-2-clause-printable : goal.push-requires-2-clause-printable
push-requires-2-clause-printable c =
    subst (λ (digits : List ℕ). list_all is_printable digits ≡ true) (sym c.format.ensures.text)
    (decimal-printable c.args.number c.ranges.number.fits)
