use Rattle.std.proofs.Common.{◌≡◌, ◌∙◌, ◌-◌, ◌++◌, ◌∷◌, [], List, Some, None, ap, arith, drop, length, map, refl, rules, subst, sym, take}
use Rattle.std.specs.Prelude.{All}
use Rattle.std.proofs.lemmas.Grind.{common_steps}
use Rattle.std.proofs.lemmas.List.Elements.{All-nil, All-push}
use Rattle.osm_wire.specs.Entries.{message_fields}
use Rattle.osm_block_read.specs.Spans.{IsSpanIn, part_in}
use Rattle.osm_block_read.specs.Strings.{table_texts}
use Rattle.osm_block_read.specs.Table.{IsNextSpan, entries_left}
use Rattle.osm_block_read.specs.Told.{behind}
use Rattle.osm_block_read.specs.declared.span.Span.{Span}
use Rattle.osm_block_read.proofs.FieldLemmas.{end-given, none-given, some-given}
use Rattle.osm_block_read.proofs.OptionLemmas.{behind-nil}
use Rattle.osm_block_read.proofs.TableLemmas.{IsTable, table-bad, table-none, table-read, table-rest, texts-more}
use Rattle.osm_block_read.proofs.table.read_table.Goals as goal

pub returns-in_err-ok_or-clause-bad : goal.returns-in_err-ok_or-clause-bad
returns-in_err-ok_or-clause-bad c =
    let raw = c.args.raw.now in
    let table = c.args.table in
    let begin = take table.end raw in
    let content = take (length begin - table.start) (drop table.start begin) in
    let is : IsTable raw begin content table = record { within = c.requires; first = refl; cut = refl } in
    let found : c.new.result ≡ None = grind arith in
    let none : table_texts (part_in raw table) ≡ None = table-bad raw begin content table is
    (sym c.new.ensures ∙ found) in
    first_of (search (rules, none), grind (arith, common_steps, none))

pub loop-span-init : goal.loop-span-init
loop-span-init c =
    let raw = c.args.raw.now in
    let table = c.args.table in
    let begin = take table.end raw in
    let content = c.new-fields.result in
    let is : IsTable raw begin content table =
    record { within = c.requires; first = refl; cut = c.new-fields.ensures } in
    let found : c.new.result ≡ Some c.in_ok-ok_or.field-0 = grind arith in
    let message : message_fields content ≡ Some c.in_ok-ok_or.field-0 =
    ap message_fields c.new-fields.ensures ∙ sym c.new.ensures ∙ found in
    record {
      rest = table-rest raw begin content table c.in_ok-ok_or.field-0 is message;
      within =
          subst (λ (s : List Span). All (IsSpanIn (length begin)) s) (sym c.clear.ensures.items)
          (All-nil (IsSpanIn (length begin)));
      entries =
          ap (λ (s : List Span). behind (map (part_in begin) s) (entries_left 1 content)) c.clear.ensures.items
          ∙ behind-nil (entries_left 1 content);
    }

pub returns-in_err-span-clause-bad : goal.returns-in_err-span-clause-bad
returns-in_err-span-clause-bad c =
    let raw = c.args.raw.now in
    let table = c.args.table in
    let begin = take table.end raw in
    let content = c.new-fields.result in
    let is : IsTable raw begin content table =
    record { within = c.requires; first = refl; cut = c.new-fields.ensures } in
    let found : c.new.result ≡ Some c.in_ok-ok_or.field-0 = grind arith in
    let message : message_fields content ≡ Some c.in_ok-ok_or.field-0 =
    ap message_fields c.new-fields.ensures ∙ sym c.new.ensures ∙ found in
    let ends : c.next_span.result ≡ None = grind arith in
    let bad : entries_left 1 c.loop-span.fields ≡ None = none-given c.next_span.result _ ends c.next_span.ensures.bad in
    let none : table_texts (part_in raw table) ≡ None =
    table-none raw begin content table c.in_ok-ok_or.field-0 is message
    (sym c.loop-span.invariant.entries ∙ ap (behind (map (part_in begin) c.loop-span.spans.items)) bad) in
    first_of (search (rules, none), grind (arith, common_steps, none))

pub loop-span-preserved : goal.loop-span-preserved
loop-span-preserved c =
    let begin = take c.args.table.end c.args.raw.now in
    let old = c.loop-span.fields in
    let new = c.next_span.new.fields in
    let spans = c.loop-span.spans.items in
    let span = c.in-Some.span in
    let given : c.next_span.result ≡ Some c.in_ok-span.field-0 = grind arith in
    let next : IsNextSpan begin 1 span old new =
    some-given c.next_span.result c.in_ok-span.field-0 span (λ s. IsNextSpan begin 1 s old new) given c.in-Some.is
    c.next_span.ensures.some in
    let got : c.push.new.self.items ≡ spans ++ span ∷ [] = search rules in
    record {
      rest = c.next_span.ensures.rest;
      within =
          subst (λ (s : List Span). All (IsSpanIn (length begin)) s) (sym got)
          (All-push (IsSpanIn (length begin)) spans span c.loop-span.invariant.within next.within);
      entries =
          ap (λ (s : List Span). behind (map (part_in begin) s) (entries_left 1 new)) got
          ∙ texts-more begin old new spans span _ next c.loop-span.invariant.entries;
    }

pub returns-clause-ok : goal.returns-clause-ok
returns-clause-ok c =
    let raw = c.args.raw.now in
    let table = c.args.table in
    let begin = take table.end raw in
    let content = c.new-fields.result in
    let is : IsTable raw begin content table =
    record { within = c.requires; first = refl; cut = c.new-fields.ensures } in
    let found : c.new.result ≡ Some c.in_ok-ok_or.field-0 = grind arith in
    let message : message_fields content ≡ Some c.in_ok-ok_or.field-0 =
    ap message_fields c.new-fields.ensures ∙ sym c.new.ensures ∙ found in
    let given : c.next_span.result ≡ Some c.in_ok-span.field-0 = grind arith in
    let ends : entries_left 1 c.loop-span.fields ≡ Some [] =
    end-given c.next_span.result c.in_ok-span.field-0 _ given c.in_default.is c.next_span.ensures.end in
    table-read raw begin content table c.loop-span.spans.items c.in_ok-ok_or.field-0 is message
    (ap (behind (map (part_in begin) c.loop-span.spans.items)) (sym ends)
    ∙ c.loop-span.invariant.entries) c.loop-span.invariant.within
