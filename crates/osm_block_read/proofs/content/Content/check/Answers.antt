use Rattle.std.proofs.Common.{◌≡◌, ◌∙◌, Some, None, ap, sym}
use Rattle.std.proofs.lemmas.Result.{err_from_is_err_and}
use Rattle.osm_block_read.specs.Faults.{entries_fault}
use Rattle.osm_block_read.specs.Rows.{entries_of}
use Rattle.osm_block_read.specs.Seen.{setting_of}
use Rattle.osm_block_read.proofs.CheckLemmas.{AreRead, are_read, refused-text, refused-wire, said-checked, said-fault, said-uneven, setting_read}
use Rattle.osm_block_read.proofs.content.Content.check.Goals as goal

pub returns-in_err-read-clause-bad : goal.returns-in_err-read-clause-bad
returns-in_err-read-clause-bad c =
    let p = err_from_is_err_and c.from_residual.result c.from_residual.ensures.1 in
    rw (p.1, p.2) (refused-wire c.args.raw.now c.in_err-read.field-0.0 c.in_err-read.ensures.bad)

pub returns-in_err-make_texts-clause-bad : goal.returns-in_err-make_texts-clause-bad
returns-in_err-make_texts-clause-bad c =
    let p = err_from_is_err_and c.from_residual-in_err-make_texts.result c.from_residual-in_err-make_texts.ensures.1 in
    rw (p.1, p.2) (refused-text c.args.raw.now c.read.new.self c.as_slice.result.now c.in_err-make_texts.field-0.0
    c.in_ok-read.ensures.ok c.as_slice.ensures.value c.in_err-make_texts.ensures.bad)

pub returns-then-self-clause-bad : goal.returns-then-self-clause-bad
returns-then-self-clause-bad c =
    let are : AreRead c.args.raw.now c.make_texts.new.texts.items c.read.new.self =
    are_read c.args.raw.now c.make_texts.new.texts.items c.read.new.self c.as_slice.result.now c.in_ok-read.ensures.ok
    c.as_slice.ensures.value c.in_ok-make_texts.ensures.ok c.in_ok-make_texts.ensures.utf8 in
    said-uneven c.args.raw.now c.make_texts.new.texts.items c.read.new.self are c.if-self.true

pub returns-in-Some-clause-bad : goal.returns-in-Some-clause-bad
returns-in-Some-clause-bad c =
    let texts = c.make_texts.new.texts.items in
    let read = c.read.new.self in
    let are : AreRead c.args.raw.now texts read =
    are_read c.args.raw.now texts read c.as_slice.result.now c.in_ok-read.ensures.ok
    c.as_slice.ensures.value c.in_ok-make_texts.ensures.ok c.in_ok-make_texts.ensures.utf8 in
    let set : c.new-setting.result ≡ setting_read texts read =
    c.new-setting.ensures ∙ ap (λ list. setting_of list read.scale) c.as_slice-2.ensures.value in
    let found : entries_fault (setting_read texts read) (entries_of read.rows) ≡ Some c.in-Some.cause =
    ap (λ s. entries_fault s (entries_of read.rows)) (sym set) ∙ sym c.find_fault.ensures ∙ c.in-Some.is in
    said-fault c.args.raw.now texts read c.in-Some.cause are c.if-self.false found

pub returns-in-None-clause-ok : goal.returns-in-None-clause-ok
returns-in-None-clause-ok c =
    let texts = c.make_texts.new.texts.items in
    let read = c.read.new.self in
    let are : AreRead c.args.raw.now texts read =
    are_read c.args.raw.now texts read c.as_slice.result.now c.in_ok-read.ensures.ok
    c.as_slice.ensures.value c.in_ok-make_texts.ensures.ok c.in_ok-make_texts.ensures.utf8 in
    let set : c.new-setting.result ≡ setting_read texts read =
    c.new-setting.ensures ∙ ap (λ list. setting_of list read.scale) c.as_slice-2.ensures.value in
    let found : entries_fault (setting_read texts read) (entries_of read.rows) ≡ None =
    ap (λ s. entries_fault s (entries_of read.rows)) (sym set) ∙ sym c.find_fault.ensures ∙ c.in-None.is in
    said-checked c.args.raw.now texts read are c.if-self.false found
