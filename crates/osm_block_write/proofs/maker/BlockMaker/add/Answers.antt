use Rattle.std.proofs.Common.{◌∙◌, sym, ap, subst}
use Rattle.std.specs.Prelude.{IsTrue}
use Rattle.std.proofs.lemmas.Bool.{false≢true}
use Rattle.osm_block_write.specs.Making.{Holds}
use Rattle.osm_block_write.specs.Seen.{maker_seen}
use Rattle.osm_block_write.proofs.MakersLemmas.{IsFullFor, holds-more, holds-takes, is_maker-more}
use Rattle.osm_block_write.proofs.ResultLemmas.{from_no_err}
use Rattle.osm_block_write.proofs.maker.BlockMaker.add.Goals as goal

pub returns-then-is_err-clause-takes : goal.returns-then-is_err-clause-takes
returns-then-is_err-clause-takes c = λ run h.
    let taken = holds-takes c.args.self.now run c.args.entity.now c.weight-more.result h c.requires
    c.weight-more.ensures.value (λ full. false≢true (subst IsTrue c.if-is_full.false (c.is_full.ensures.1 full))) in
    (λ same. cc, λ not. absurd (false≢true (sym not ∙ taken)))

pub returns-clause-takes : goal.returns-clause-takes
returns-clause-takes c = λ run h.
    let taken = holds-takes c.args.self.now run c.args.entity.now c.weight-more.result h c.requires
    c.weight-more.ensures.value (λ full. false≢true (subst IsTrue c.if-is_full.false (c.is_full.ensures.1 full))) in
    (λ same. cc, λ not. absurd (false≢true (sym not ∙ taken)))

pub invariant_of-self-2 : goal.invariant_of-self-2
invariant_of-self-2 c =
    let m = maker_seen c.self.inside in
    is_maker-more m c.args.entity.now c.weight-more.result c.take_entity.new.taken c.is_tagged-self-inside.result
    c.self.invariant c.weight-more.ensures.value
    (λ full. false≢true
    (subst IsTrue c.if-is_full.false
    (c.is_full.ensures.1 (subst (λ m. IsFullFor m c.weight-more.result) c.self.view_is full))))
    (from_no_err c.take_entity.result c.if-is_err.ensures.value c.take_entity.ensures.ok)

pub returns-clause-holds : goal.returns-clause-holds
returns-clause-holds c = λ run h.
    let m = maker_seen c.self.inside in
    holds-more m run c.args.entity.now c.weight-more.result c.take_entity.new.taken c.is_tagged-self-inside.result
    (subst (λ m. Holds m run) (sym c.self.view_is) h) (c.requires ∙ ap (λ m. m.kind) (sym c.self.view_is))
    c.weight-more.ensures.value (from_no_err c.take_entity.result c.if-is_err.ensures.value c.take_entity.ensures.ok)
    c.is_tagged-self-inside.ensures
