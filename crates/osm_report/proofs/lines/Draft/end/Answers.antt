use Rattle.std.proofs.Common.{◌≡◌, ℕ, List, true, sym, subst}
use Rattle.osm_report.specs.Printable.{is_one_line}
use Rattle.osm_report.proofs.PrintableLemmas.{one_line-ended}
use Rattle.osm_report.proofs.lines.Draft.end.Goals as goal

pub invariant_of-result : goal.invariant_of-result
invariant_of-result c =
    subst (λ (bytes : List ℕ). is_one_line bytes ≡ true) (sym c.push_str.ensures.bytes)
    (one_line-ended c.self.inside.text.bytes c.self.invariant)
