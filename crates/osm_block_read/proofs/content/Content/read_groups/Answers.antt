use Rattle.std.proofs.Common.{◌≡◌, ◌∙◌, Some, ap, arith, sym}
use Rattle.osm_wire.specs.Entries.{◌>>=◌, all_said}
use Rattle.osm_block_read.specs.Block.{group}
use Rattle.osm_block_read.specs.Content.{entries_read}
use Rattle.osm_block_read.specs.Told.{bytes_to_come}
use Rattle.osm_block_read.proofs.ContentLemmas.{groups-more, with_groups}
use Rattle.osm_block_read.proofs.FieldLemmas.{next-given}
use Rattle.osm_block_read.proofs.content.Content.read_groups.Goals as goal

pub loop-message-preserved : goal.loop-message-preserved
loop-message-preserved c =
    let given : c.next.result ≡ Some c.in_ok-message.field-0 = grind arith in
    let next =
    next-given c.next.result c.in_ok-message.field-0 c.in-Some.message
    (λ s. s.now) c.loop-message.groups c.next.new.self given
    c.in-Some.is c.next.ensures.some in
    let read = c.in_ok-read_group.ensures.ok in
    let before = entries_read c.loop-message.self in
    record {
      within = read.more.within;
      entries =
          groups-more before (entries_read c.read_group.new.self) c.in-Some.message.now read.part
          (bytes_to_come c.next.new.self)
          read.said_is read.more.entries
          ∙ ap (λ coming. with_groups before (coming >>= all_said group)) (sym next.entries)
          ∙ c.loop-message.invariant.entries;
      texts = read.more.texts ∙ c.loop-message.invariant.texts;
    }
