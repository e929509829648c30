-- Rows of which the first of a name is changed: what the counts, what was given and the names are then.
use Rattle.std.proofs.Common.{◌≡◌, ℕ, ◌==◌, cond, List, get_or, set, subst, ap, ◌∙◌, Some}
use Rattle.std.proofs.Math.Seq.{map-set_same}
use Rattle.std.specs.Str.{bytes_eq}
use Rattle.std.specs.List.{position}
use Rattle.osm_host.specs.Counts.{raised, is_at, op_number, Adds, SameCounts, GaveOnly}
use Rattle.osm_host.specs.Tallies.{faults_of, raised_at, faults_in, given_in, names_in}
use Rattle.osm_host.specs.declared.outside.Op.{Op}
use Rattle.osm_host.specs.declared.tallies.Tally.{Tally}
use Rattle.osm_host.proofs.Named.{named-set, named-set_same, both_tests}

module _ (inside rows : List Tally) (at : ℕ) (row changed : Tally) where
  -- the rows are those inside, this row stands there, and it keeps its name
  pub record Changed : Type 0 where
    pub same : inside ≡ rows
    pub stood : row ≡ get_or inside at row
    pub own : changed.name ≡ row.name

  pub changed-names : Changed → names_in (set inside at changed) ≡ names_in rows
  changed-names c =
      map-set_same (λ t. t.name) inside at changed row (c.own ∙ ap (λ t. t.name) c.stood) ∙ ap names_in c.same

  pub same-counts : Changed → ((o : Op) → faults_of changed.faults o ≡ faults_of row.faults o) →
      SameCounts (faults_in rows) (faults_in (set inside at changed))
  same-counts c faults o n =
      named-set_same (λ t. t.name) (λ t. faults_of t.faults o) 0 inside at changed row
      (c.own ∙ ap (λ t. t.name) c.stood) (faults o ∙ ap (λ t. faults_of t.faults o) c.stood) n
      ∙ ap (λ rows. faults_in rows o n) c.same

  pub same-gave : Changed → changed.gave ≡ row.gave → (n : List ℕ) →
      given_in (set inside at changed) n ≡ given_in rows n
  same-gave c gave n =
      named-set_same (λ t. t.name) (λ t. t.gave) 0 inside at changed row
      (c.own ∙ ap (λ t. t.name) c.stood) (gave ∙ ap (λ t. t.gave) c.stood) n
      ∙ ap (λ rows. given_in rows n) c.same

  pub raised-counts : (op : Op) (name : List ℕ) (more : ℕ) → Changed →
      Some at ≡ position (λ t. bytes_eq name t.name) inside →
      ((o : Op) → faults_of changed.faults o ≡ raised_at op o (faults_of row.faults o) more) →
      Adds op name more (faults_in rows) (faults_in (set inside at changed))
  raised-counts op name more c found faults o n =
      subst (λ rows. faults_in (set inside at changed) o n
      ≡ cond (is_at op name o n) (raised (faults_in rows o n) more) (faults_in rows o n)) c.same
      (named-set (λ t. t.name) (λ t. faults_of t.faults o) 0 (λ count. raised_at op o count more) name
      inside at changed row found (c.own ∙ ap (λ t. t.name) c.stood)
      (faults o ∙ ap (λ t. raised_at op o (faults_of t.faults o) more) c.stood) n
      ∙ both_tests (op_number o == op_number op) (bytes_eq n name) _ _)

  pub raised-gave : (name : List ℕ) (more : ℕ) → Changed →
      Some at ≡ position (λ t. bytes_eq name t.name) inside → changed.gave ≡ raised row.gave more →
      GaveOnly name more (given_in rows) (given_in (set inside at changed))
  raised-gave name more c found gave n =
      subst (λ rows. given_in (set inside at changed) n
      ≡ cond (bytes_eq n name) (raised (given_in rows n) more) (given_in rows n)) c.same
      (named-set (λ t. t.name) (λ t. t.gave) 0 (λ gave. raised gave more) name
      inside at changed row found (c.own ∙ ap (λ t. t.name) c.stood)
      (gave ∙ ap (λ t. raised t.gave more) c.stood) n)
