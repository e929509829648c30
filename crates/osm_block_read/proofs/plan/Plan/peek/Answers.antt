use Rattle.std.proofs.Common.{◌≡◌, ◌∙◌, Some, ap, sym}
use Rattle.std.specs.Prelude.{slice_get}
use Rattle.osm_block_read.specs.Entries.{entry_item}
use Rattle.osm_block_read.specs.Faults.{entry_fault}
use Rattle.osm_block_read.specs.Seen.{entry_seen, setting_of}
use Rattle.osm_block_read.proofs.PlanLemmas.{next-entry}
use Rattle.osm_block_read.proofs.plan.Plan.peek.Goals as goal

pub new-requires : goal.new-requires
new-requires c =
    let p = c.self.inside in
    let set : c.new-setting.result ≡ setting_of p.texts.items p.content.scale =
    c.new-setting.ensures ∙ ap (λ texts. setting_of texts p.content.scale) c.as_slice.ensures.value in
    ap (λ s. entry_fault s (entry_seen c.entry.result)) set
    ∙ (next-entry p.texts.items p.content p.at (entry_seen c.entry.result) c.self.invariant.fine c.entry.ensures).0

pub returns : goal.returns
returns c =
    let p = c.self.inside in
    let set : c.new-setting.result ≡ setting_of p.texts.items p.content.scale =
    c.new-setting.ensures ∙ ap (λ texts. setting_of texts p.content.scale) c.as_slice.ensures.value in
    ap (λ items. slice_get items 0) (sym c.self.view_is)
    ∙ (next-entry p.texts.items p.content p.at (entry_seen c.entry.result) c.self.invariant.fine c.entry.ensures).1
    ∙ ap Some (sym (c.new.ensures ∙ ap (λ s. entry_item s (entry_seen c.entry.result)) set))
