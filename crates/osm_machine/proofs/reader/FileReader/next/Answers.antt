use Rattle.std.proofs.Common.{[], ◌∷◌, sym, subst, IfOk, IfNone, IfSome, OnErr}
use Rattle.osm_machine.specs.ReadingFiles.{FileGave}
use Rattle.osm_machine.specs.declared.reader.FileReader.TheVariants.{Opl, Pbf}
use Rattle.osm_machine.proofs.reader.FileReader.next.Goals as goal

pub returns-in-Opl-clause-some : goal.returns-in-Opl-clause-some
returns-in-Opl-clause-some c = subst
    (λ old. IfOk c.next.result (λ found. IfSome found (λ item. FileGave old (Opl c.next.new.self) (item ∷ []))))
    (sym c.in-Opl.is) c.next.ensures.some

pub returns-in-Opl-clause-none : goal.returns-in-Opl-clause-none
returns-in-Opl-clause-none c = subst
    (λ old. IfOk c.next.result (λ found. IfNone found (FileGave old (Opl c.next.new.self) []))) (sym c.in-Opl.is)
    c.next.ensures.none

pub returns-in-Opl-clause-err : goal.returns-in-Opl-clause-err
returns-in-Opl-clause-err c = subst (λ old. OnErr c.next.result (FileGave old (Opl c.next.new.self) []))
    (sym c.in-Opl.is) c.next.ensures.err

pub returns-in-Pbf-clause-none : goal.returns-in-Pbf-clause-none
returns-in-Pbf-clause-none c = subst
    (λ old. IfOk c.next-in-Pbf.result (λ found. IfNone found (FileGave old (Pbf c.next-in-Pbf.new.self) [])))
    (sym c.in-Pbf.is) c.next-in-Pbf.ensures.none

pub returns-in-Pbf-clause-err : goal.returns-in-Pbf-clause-err
returns-in-Pbf-clause-err c = subst
    (λ old. OnErr c.next-in-Pbf.result (FileGave old (Pbf c.next-in-Pbf.new.self) [])) (sym c.in-Pbf.is)
    c.next-in-Pbf.ensures.err
