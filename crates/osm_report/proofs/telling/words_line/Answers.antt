use Rattle.std.proofs.Common.{sym, ap, ◌∙◌}
use Rattle.osm_words.specs.declared.list.WordsError.{WordsError}
use Rattle.osm_report.specs.Lines.{line_saying, words_text}
use Rattle.osm_report.proofs.telling.words_line.Goals as goal

pub returns-in-NoTasks : goal.returns-in-NoTasks
returns-in-NoTasks c =
    c.saying.ensures ∙ ap (λ (e : WordsError). line_saying (words_text e)) (sym c.in-NoTasks.is)

pub returns-in-EmptyName : goal.returns-in-EmptyName
returns-in-EmptyName c =
    c.at_number-in-EmptyName.ensures ∙ ap (λ (e : WordsError). line_saying (words_text e)) (sym c.in-EmptyName.is)

pub returns-in-TwiceOption : goal.returns-in-TwiceOption
returns-in-TwiceOption c =
    c.at_number-in-TwiceOption.ensures ∙ ap (λ (e : WordsError). line_saying (words_text e)) (sym c.in-TwiceOption.is)

pub returns-in-TwoUnnamed : goal.returns-in-TwoUnnamed
returns-in-TwoUnnamed c =
    c.at_number-in-TwoUnnamed.ensures ∙ ap (λ (e : WordsError). line_saying (words_text e)) (sym c.in-TwoUnnamed.is)

pub returns-in-TooManyTasks : goal.returns-in-TooManyTasks
returns-in-TooManyTasks c =
    c.at_number-in-TooManyTasks.ensures ∙ ap (λ (e : WordsError). line_saying (words_text e)) (sym c.in-TooManyTasks.is)
