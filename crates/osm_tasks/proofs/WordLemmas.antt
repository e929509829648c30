-- One word more of a task: what is left of its faults and of its tests.
use Rattle.std.proofs.Common.{◌≡◌, ◌<◌, ◌+◌, ℕ, suc, true, false, List, ◌∷◌, [], ◌++◌, length, take, drop, drop-cons, get_or, Option, None, Some, arith, refl, sym, ap, ◌∙◌, map, filter}
use Rattle.std.specs.Option.{option_or}
use Rattle.std.proofs.lemmas.List.{take_more, append-nil, map-append}
use Rattle.std.proofs.lemmas.List.Elements.{filter_more}
use Rattle.osm_entity.specs.declared.options.TagTest.{TagTest}
use Rattle.osm_words.specs.declared.list.OptionWord.{OptionWord}
use Rattle.osm_tasks.specs.Given.{is_tag_test, test_of}
use Rattle.osm_tasks.specs.Refusals.{word_fault, words_fault}
use Rattle.osm_tasks.specs.declared.fault.TaskError.{TaskError}
use Rattle.osm_tasks.specs.declared.naming.TaskName.{TaskName}

-- a list from a place on is the element there and those after it
pub rest_here : {X : Type 0} (xs : List X) (at : ℕ) (x : X) → at < length xs → x ≡ get_or xs at x →
    drop at xs ≡ x ∷ drop (at + 1) xs
rest_here xs at x within is =
    let next : suc at ≡ at + 1 = omega arith in
    drop-cons xs at x within ∙ ap (λ y. y ∷ drop (suc at) xs) (sym is) ∙ ap (λ n. x ∷ drop n xs) next

-- what is left of the faults after a word that has none
pub words_fault-step : (n : ℕ) (task : TaskName) (inputs outputs at : ℕ) (words earlier : List OptionWord)
    (word : OptionWord) (whole : Option TaskError) → at < length words → word ≡ get_or words at word →
    earlier ≡ take at words → None ≡ word_fault n task inputs outputs earlier word →
    whole ≡ words_fault n task inputs outputs (take at words) (drop at words) →
    whole ≡ words_fault n task inputs outputs (take (at + 1) words) (drop (at + 1) words)
words_fault-step n task inputs outputs at words earlier word whole within is cut fine before =
    let here = rest_here words at word within is in
    let more : take (at + 1) words ≡ take at words ++ word ∷ [] =
    take_more words at word within ∙ ap (λ w. take at words ++ w ∷ []) (sym is) in
    let passed : word_fault n task inputs outputs (take at words) word ≡ None =
    ap (λ ws. word_fault n task inputs outputs ws word) (sym cut) ∙ sym fine in
    let opened : whole ≡ option_or (word_fault n task inputs outputs (take at words) word)
    (words_fault n task inputs outputs (take at words ++ word ∷ []) (drop (at + 1) words)) =
    before ∙ ap (λ ws. words_fault n task inputs outputs (take at words) ws) here in
    let moved : whole ≡ words_fault n task inputs outputs (take at words ++ word ∷ []) (drop (at + 1) words) =
    rw passed at opened in
    rw more moved

-- a word with a fault settles it
pub words_fault-end : (n : ℕ) (task : TaskName) (inputs outputs at : ℕ) (words earlier : List OptionWord)
    (word : OptionWord) (fault : TaskError) (whole : Option TaskError) → at < length words →
    word ≡ get_or words at word → earlier ≡ take at words →
    Some fault ≡ word_fault n task inputs outputs earlier word →
    whole ≡ words_fault n task inputs outputs (take at words) (drop at words) → whole ≡ Some fault
words_fault-end n task inputs outputs at words earlier word fault whole within is cut bad before =
    let here = rest_here words at word within is in
    let found : word_fault n task inputs outputs (take at words) word ≡ Some fault =
    ap (λ ws. word_fault n task inputs outputs ws word) (sym cut) ∙ sym bad in
    let opened : whole ≡ option_or (word_fault n task inputs outputs (take at words) word)
    (words_fault n task inputs outputs (take at words ++ word ∷ []) (drop (at + 1) words)) =
    before ∙ ap (λ ws. words_fault n task inputs outputs (take at words) ws) here in
    let ended : whole ≡ Some fault = rw found at opened in
    ended

-- the tests after a word that is none
pub tests-pass : (words : List OptionWord) (at : ℕ) (word : OptionWord) (tests : List TagTest) → at < length words →
    word ≡ get_or words at word → is_tag_test word ≡ false →
    tests ≡ map test_of (filter is_tag_test (take at words)) →
    tests ≡ map test_of (filter is_tag_test (take (at + 1) words))
tests-pass words at word tests within is other before =
    let none : is_tag_test (get_or words at word) ≡ false = ap is_tag_test (sym is) ∙ other in
    rw (filter_more is_tag_test words at word within, none, append-nil) before

-- the tests after a word that is one
pub tests-step : (words : List OptionWord) (at : ℕ) (word : OptionWord) (tests pushed : List TagTest) (test : TagTest) →
    at < length words → word ≡ get_or words at word → is_tag_test word ≡ true → test ≡ test_of word →
    pushed ≡ tests ++ test ∷ [] → tests ≡ map test_of (filter is_tag_test (take at words)) →
    pushed ≡ map test_of (filter is_tag_test (take (at + 1) words))
tests-step words at word tests pushed test within is one says more before =
    let yes : is_tag_test (get_or words at word) ≡ true = ap is_tag_test (sym is) ∙ one in
    let said : test ≡ test_of (get_or words at word) = says ∙ ap test_of is in
    rw (filter_more is_tag_test words at word within, yes, map-append, more, before, said) refl
