use Rattle.std.proofs.Common.{◌≡◌, ◌∙◌, false, Option, Some, ap, arith, refl, subst, sym}
use Rattle.osm_wire.specs.Entries.{message_fields, single_bytes}
use Rattle.osm_wire.specs.Messages.{good_front}
use Rattle.osm_block_read.specs.Content.{scale_said}
use Rattle.osm_block_read.specs.Spans.{part_in}
use Rattle.osm_block_read.specs.Table.{IsSingleSpan}
use Rattle.osm_block_read.specs.declared.content.Content.{Content}
use Rattle.osm_block_read.specs.declared.span.Span.{Span}
use Rattle.osm_block_read.proofs.ContentLemmas.{read-whole}
use Rattle.osm_block_read.proofs.TableLemmas.{fine-fields}
use Rattle.osm_block_read.proofs.content.Content.read.Goals as goal

pub returns-clause-ok : goal.returns-clause-ok
returns-clause-ok c =
    let raw = c.args.raw.now in
    let fields = c.in_ok-fields.fields in
    let table = c.in_ok-table.table in
    let old : Content = record c.args.self.now {
      texts = c.read_table.new.spans;
      rows = c.clear.new.self;
      uneven =
          false;
    } in
    let is : message_fields raw ≡ Some fields = grind arith in
    let given : c.single_span.result ≡ Some table = grind arith in
    let found =
    subst (λ (o : Option Span). IsSingleSpan raw (single_bytes 1 (good_front raw).items) o) given c.single_span.ensures
    in
    let one : single_bytes 1 fields ≡ Some (Some (part_in raw table)) =
    ap (single_bytes 1) (sym (fine-fields raw fields is).1) ∙ found.1 in
    let scale : scale_said fields ≡ Some c.in_ok-self.field-0 = grind arith in
    read-whole raw fields (part_in raw table) old c.read_groups.new.self c.in_ok-self.field-0 is one
    c.in_ok-read_table.ensures.ok
    c.in_ok-read_table.ensures.within c.clear.ensures.entries refl c.in_ok-read_groups.ensures.ok scale
