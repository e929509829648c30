-- Lemmas on starts, gates and what is back, one more at a time.
use Rattle.std.proofs.Common.{◌≡◌, List, [], ◌∷◌, ◌++◌, map, Bool, true, false, Some, refl, sym, ap, subst, ◌∙◌}
use Rattle.std.specs.Prelude.{All}
use Rattle.std.specs.List.{AllZip}
use Rattle.std.proofs.lemmas.List.{map-append}
use Rattle.std.proofs.lemmas.List.Elements.{All-pop}
use Rattle.osm_entity.specs.Machines.{Meanings}
use Rattle.osm_entity.specs.declared.stream.End.{End}
use Rattle.osm_entity.specs.declared.stream.Message.{Message}
use Rattle.osm_entity.specs.declared.stream.Message.TheVariants.{End as Last}
use Rattle.osm_pipe.specs.Pipes.{HalfValue, Meets, PipeId, half}
use Rattle.osm_threads.specs.Homes.{IsHome, gate_word, opens_gate}
use Rattle.osm_threads.specs.Starts.{IsBack, IsBackOf, IsOneMore, IsReadyStart, told_by}
use Rattle.osm_threads.specs.declared.homing.Home.{Home}
use Rattle.osm_threads.specs.declared.homing.Job.{Job}
use Rattle.osm_threads.specs.declared.starts.Back.{Back}
use Rattle.osm_threads.specs.declared.starts.Start.{Start}

pub ready_split : {M : Type 0} (of : Meanings M) (starts : List (Start M)) (start : Start M) →
    All (IsReadyStart of) (starts ++ start ∷ []) → IsReadyStart of start × All (IsReadyStart of) starts
ready_split of starts start ready =
    let parts = All-pop (IsReadyStart of) (starts ++ start ∷ []) starts (Some start) refl ready in (parts.1, parts.0)

pub zip_push : {A B : Type 0} (R : A → B → Type 0) (xs : List A) (ys : List B) (x : A) (y : B) → AllZip R xs ys →
    R x y → AllZip R (xs ++ x ∷ []) (ys ++ y ∷ [])
zip_push R [] [] x y pairs last = (last, tt)
zip_push R [] (b ∷ ys) x y pairs last = absurd pairs
zip_push R (a ∷ xs) [] x y pairs last = absurd pairs
zip_push R (a ∷ xs) (b ∷ ys) x y pairs last = (pairs.0, zip_push R xs ys x y pairs.1 last)

-- what is at the end of a list
snoc_parts : {A : Type 0} (xs ys : List A) (x y : A) → xs ++ x ∷ [] ≡ ys ++ y ∷ [] → (xs ≡ ys) × (x ≡ y)
snoc_parts [] [] x y same = (refl, cc)
snoc_parts [] (b ∷ []) x y same = absurd cc
snoc_parts [] (b ∷ c ∷ ys) x y same = absurd cc
snoc_parts (a ∷ []) [] x y same = absurd cc
snoc_parts (a ∷ c ∷ xs) [] x y same = absurd cc
snoc_parts (a ∷ xs) (b ∷ ys) x y same =
    let head : a ≡ b = cc in
    let tail : xs ++ x ∷ [] ≡ ys ++ y ∷ [] = cc in
    let rest = snoc_parts xs ys x y tail in
    (ap (λ z. z ∷ xs) head ∙ ap (λ zs. b ∷ zs) rest.0, rest.1)

-- the words of some gates and one more
pub words_more : (end : End) (gates : List HalfValue) (pipe : PipeId) →
    map (told_by end) (gates ++ half pipe [] ∷ []) ≡ map (told_by end) gates ++ half pipe (Last end ∷ []) ∷ []
words_more end gates pipe = map-append (told_by end) gates (half pipe [] ∷ [])

-- the last of the words of some gates is what its gate was told
pub last_told : (end : End) (words rest others : List HalfValue) (word : HalfValue) (pipe : PipeId) →
    words ≡ rest ++ word ∷ [] → words ≡ map (told_by end) others ++ half pipe (Last end ∷ []) ∷ [] →
    word.list ≡ Last end ∷ []
last_told end words rest others word pipe split told = ap (λ (h : HalfValue). h.list)
    (snoc_parts rest (map (told_by end) others) word (half pipe (Last end ∷ [])) (sym split ∙ told)).1

-- what was taken at a gate is what it was told
heard_is : (m : Message) (end : End) → Meets (m ∷ []) (Last end ∷ []) → m ≡ Last end
heard_is m end meets = let joined = meets.prefix.joined in cc

says_word : (all : Bool) → opens_gate (Last (gate_word all)) ≡ all
says_word true = refl
says_word false = refl

pub is_back : {M N : Type 0} (of : Meanings M) (names : M → N) (all : Bool) (job : Job M) (home : Home M) →
    IsHome of names job home → Meets home.gate.list (Last (gate_word all) ∷ []) →
    IsBack of names all job (record { machine = home.machine; ports = home.ports; whole = home.whole })
is_back of names all job home is meets =
    let list : home.gate.list ≡ is.heard ∷ [] = ap (λ (h : HalfValue). h.list) is.gate in
    let heard : is.heard ≡ Last (gate_word all) =
    heard_is is.heard (gate_word all) (subst (λ ms. Meets ms (Last (gate_word all) ∷ [])) list meets) in
    let says : opens_gate is.heard ≡ all = ap opens_gate heard ∙ says_word all in
    record {
      pipes = is.pipes;
      same = is.same;
      named = is.named;
      stayed = λ no. is.stayed (says ∙ no);
      worked = λ yes. is.worked (says ∙ yes);
    }

-- one more is back
pub zip_more : {M N : Type 0} (of : Meanings M) (names : M → N) (all : Bool) (starts : List (Start M))
    (start : Start M) (old new : List (Back M)) → AllZip (IsBackOf of names all) starts old →
    IsOneMore of names all start.job old new → AllZip (IsBackOf of names all) (starts ++ start ∷ []) new
zip_more of names all starts start old new pairs more =
    subst (AllZip (IsBackOf of names all) (starts ++ start ∷ [])) (sym more.more)
    (zip_push (IsBackOf of names all) starts old start more.one pairs more.is_back)

-- the words of all gates, of which the last is that of a job
pub words_home : (end : End) (words gates others : List HalfValue) (gate : HalfValue) (pipe : PipeId) →
    words ≡ map (told_by end) gates → gates ≡ others ++ gate ∷ [] → gate ≡ half pipe [] →
    words ≡ map (told_by end) others ++ half pipe (Last end ∷ []) ∷ []
words_home end words gates others gate pipe told more new = told
    ∙ ap (map (told_by end)) (more ∙ ap (λ h. others ++ h ∷ []) new) ∙ words_more end others pipe
