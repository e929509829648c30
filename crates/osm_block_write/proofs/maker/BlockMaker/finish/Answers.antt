use Rattle.std.proofs.Common.{◌++◌, ap, ◌∙◌}
use Rattle.osm_block_write.specs.Seen.{maker_seen}
use Rattle.osm_block_write.specs.Taking.{block_of_taken}
use Rattle.osm_block_write.proofs.MakersLemmas.{holds-block}
use Rattle.osm_block_write.proofs.maker.BlockMaker.finish.Goals as goal

pub returns-clause-block : goal.returns-clause-block
returns-clause-block c = λ run h.
    let m = maker_seen c.self.inside in
    c.in_ok-append_block.ensures.ok
    ∙ ap (λ first. first ++ block_of_taken m.options m.kind m.taken m.tagged) c.new-block.ensures
    ∙ ap (λ m. block_of_taken m.options m.kind m.taken m.tagged) c.self.view_is
    ∙ holds-block c.args.self.now run h
