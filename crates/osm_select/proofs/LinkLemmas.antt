-- Following links until no marked id is named by one that is not.
use Rattle.std.proofs.Common.{◌≡◌, ◌⊎◌, inl, inr, List, [], ◌∷◌, ◌++◌, Bool, true, false, cond, ◌&&◌, ◌||◌, refl, sym, ap, ◌∙◌, take, length, get_or, ℕ, ◌<◌, ◌+◌}
use Rattle.std.specs.Prelude.{ℤ, pos}
use Rattle.std.proofs.lemmas.List.{take_more}
use Rattle.std.specs.Ordering.{int_eq}
use Rattle.std.proofs.Math.Path.{fun_ext}
use Rattle.std.proofs.Math.Bool.{or_comm}
use Rattle.std.proofs.lemmas.List.Folds.{list_any-append}
use Rattle.std.proofs.lemmas.Bool.Decides.{Decides-int_eq}
use Rattle.osm_area.specs.Areas.{holds}
use Rattle.osm_select.specs.IdSets.{HoldsAll, among, either, no_ids, with_id}
use Rattle.osm_select.specs.Links.{IsClosedUnder, Popped, with_link, with_list, without_id}

-- false beside a test changes nothing
pub or-false : (b : Bool) → (b || false) ≡ b
or-false true = refl
or-false false = refl

-- where one of two tests holds, either does
pub or_left : (a b : Bool) → a ≡ true → (a || b) ≡ true
or_left true b is = refl
or_left false b is = absurd cc

pub or_right : (a b : Bool) → b ≡ true → (a || b) ≡ true
or_right true b is = refl
or_right false b is = is

-- where either of two tests holds, one of them does
pub or_cases : (a b : Bool) → (a || b) ≡ true → (a ≡ true) ⊎ (b ≡ true)
or_cases true b is = inl refl
or_cases false b is = inr is

-- where both of two tests hold, each does
pub and_left : (a b : Bool) → (a && b) ≡ true → a ≡ true
and_left true b is = refl
and_left false b is = absurd cc

pub and_right : (a b : Bool) → (a && b) ≡ true → b ≡ true
and_right true b is = is
and_right false b is = absurd cc

-- ids that are told equal are one
pub same_id : (a b : ℤ) → int_eq a b ≡ true → a ≡ b
same_id a b is = (Decides-int_eq a b).0 is

-- an id is equal to itself
pub itself : (a : ℤ) → int_eq a a ≡ true
itself a = (Decides-int_eq a a).1 refl

flip_by : (a b : ℤ) (c d : Bool) → int_eq a b ≡ c → int_eq b a ≡ d → c ≡ d
flip_by a b true true one two = refl
flip_by a b false false one two = refl
flip_by a b true false one two = let same : int_eq b a ≡ true = (Decides-int_eq b a).1 (sym (same_id a b one)) in cc
flip_by a b false true one two = let same : int_eq a b ≡ true = (Decides-int_eq a b).1 (sym (same_id b a two)) in cc

-- ids are told equal both ways
pub flip_id : (a b : ℤ) → int_eq a b ≡ int_eq b a
flip_id a b = flip_by a b (int_eq a b) (int_eq b a) refl refl

-- one id more at the back
pub among-push : (ids : List ℤ) (id q : ℤ) → among (ids ++ id ∷ []) q ≡ (among ids q || int_eq id q)
among-push ids id q = list_any-append (int_eq q) ids (id ∷ [])
    ∙ ap (λ b. among ids q || b) (or-false (int_eq q id) ∙ flip_id q id)

-- one link more, by whether the id that is named is the one that is asked for
link_by : (named by n b : ℤ) (ids : List ℤ) (old mid new : ℤ → ℤ → Bool) (e : Bool) → int_eq named n ≡ e →
    among ids ≡ old named →
    mid n b ≡ cond (int_eq named n) false (old n b) → new n b ≡ cond (int_eq named n) (among (ids ++ by ∷ []) b)
    (mid n b) → new n b ≡ ((e && int_eq by b) || old n b)
link_by named by n b ids old mid new true is had removed put =
    let same : named ≡ n = same_id named n is in
    put ∙ ap (λ e. cond e (among (ids ++ by ∷ []) b) (mid n b)) is ∙ among-push ids by b
    ∙ ap (λ t. t || int_eq by b) (ap (λ (f : ℤ → Bool). f b) had ∙ ap (λ m. old m b) same)
    ∙ or_comm (old n b) (int_eq by b)
link_by named by n b ids old mid new false is had removed put =
    put ∙ ap (λ e. cond e (among (ids ++ by ∷ []) b) (mid n b)) is ∙ removed ∙ ap (λ e. cond e false (old n b)) is

-- who names an id is taken out, and put back with one more
pub link_added : (named by : ℤ) (ids : List ℤ) (old mid new : ℤ → ℤ → Bool) → among ids ≡ old named →
    mid ≡ without_id named old → new ≡ with_list named (among (ids ++ by ∷ [])) mid →
    new ≡ with_link named by old
link_added named by ids old mid new had removed put =
    fun_ext (λ n. fun_ext
    (λ b. link_by named by n b ids old mid new (int_eq named n) refl had
    (ap (λ (f : ℤ → ℤ → Bool). f n b) removed) (ap (λ (f : ℤ → ℤ → Bool). f n b) put)))

-- an id among some and one more is among them, or it is that one
pub among-last : (ids : List ℤ) (id q : ℤ) → among (ids ++ id ∷ []) q ≡ true → (among ids q ≡ true) ⊎ (id ≡ q)
among-last ids id q is = by (or_cases (among ids q) (int_eq id q) (sym (among-push ids id q) ∙ is)) where
  by : (among ids q ≡ true) ⊎ (int_eq id q ≡ true) → (among ids q ≡ true) ⊎ (id ≡ q)
  by (inl had) = inl had
  by (inr same) = inr (same_id id q same)

-- who names an id that was taken out is not known any more
pub without_itself : (named b : ℤ) (links : ℤ → ℤ → Bool) → without_id named links named b ≡ false
without_itself named b links = ap (λ e. cond e false (links named b)) (itself named)

-- of each id that left a queue nobody names it, and no link went
pub record Passed (queue left : List ℤ) (links rest : ℤ → ℤ → Bool) : Type 0 where
  pub same : rest ≡ links
  pub still : (n : ℤ) → among queue n ≡ true → (among left n ≡ true) ⊎ ((b : ℤ) → links n b ≡ false)
  pub within : HoldsAll (among queue) (among left)

-- a queue that nothing left
pub passed_none : (queue : List ℤ) (links : ℤ → ℤ → Bool) → Passed queue queue links links
passed_none queue links = record { same = refl; still = λ n is. inl is; within = λ n is. is }

-- an id more leaves the queue that nobody names
pub passed_more : (queue left less : List ℤ) (id : ℤ) (links rest now : ℤ → ℤ → Bool) →
    Passed queue left links rest → left ≡ less ++ id ∷ [] → no_ids ≡ rest id → now ≡ without_id id rest →
    Passed queue less links now
passed_more queue left less id links rest now so_far took nobody out = record {
  same = out ∙ fun_ext (λ n. fun_ext (λ b. gone n b (int_eq id n) refl)) ∙ so_far.same;
  still = λ n is. on n (so_far.still n is);
  within = λ n is. so_far.within n (ap (λ ids. among ids n) took ∙ among-push less id n
      ∙ or_left (among less n) (int_eq id n) is);
} where
  gone : (n b : ℤ) (e : Bool) → int_eq id n ≡ e → cond (int_eq id n) false (rest n b) ≡ rest n b
  gone n b true is = ap (λ e. cond e false (rest n b)) is ∙ ap (λ (f : ℤ → Bool). f b) nobody
      ∙ ap (λ m. rest m b) (same_id id n is)
  gone n b false is = ap (λ e. cond e false (rest n b)) is

  by : (n : ℤ) → (among less n ≡ true) ⊎ (id ≡ n) → (among less n ≡ true) ⊎ ((b : ℤ) → links n b ≡ false)
  by n (inl had) = inl had
  by n (inr same) = inr (λ b. ap (λ (f : ℤ → ℤ → Bool). f n b) (sym so_far.same) ∙ ap (λ m. rest m b) (sym same)
      ∙ ap (λ (f : ℤ → Bool). f b) (sym nobody))

  on : (n : ℤ) → (among left n ≡ true) ⊎ ((b : ℤ) → links n b ≡ false) →
      (among less n ≡ true) ⊎ ((b : ℤ) → links n b ≡ false)
  on n (inl had) = by n (among-last less id n (ap (λ ids. among ids n) (sym took) ∙ had))
  on n (inr none) = inr none

-- an id leaves the queue that is named, and who names it leaves the links
pub popped : (queue left less : List ℤ) (id : ℤ) (links rest now : ℤ → ℤ → Bool) (by : ℤ → Bool) →
    Passed queue left links rest → left ≡ less ++ id ∷ [] → by ≡ rest id → now ≡ without_id id rest →
    Popped (among queue) (among less) links now by
popped queue left less id links rest now by so_far took names out = record {
  id = id;
  was = so_far.within id (ap (λ ids. among ids id) took ∙ among-push less id id
      ∙ or_right (among less id) (int_eq id id) (itself id));
  names = names ∙ ap (λ (f : ℤ → ℤ → Bool). f id) so_far.same;
  without = out ∙ ap (without_id id) so_far.same;
  still = λ n is. on n (so_far.still n is);
  within = λ n is. so_far.within n (ap (λ ids. among ids n) took ∙ among-push less id n
      ∙ or_left (among less n) (int_eq id n) is);
} where
  none_left : (n : ℤ) → ((b : ℤ) → links n b ≡ false) → (b : ℤ) → now n b ≡ false
  none_left n none b = ap (λ (f : ℤ → ℤ → Bool). f n b) (out ∙ ap (without_id id) so_far.same)
      ∙ ap (λ t. cond (int_eq id n) false t) (none b) ∙ same (int_eq id n) where
        same : (e : Bool) → cond e false false ≡ false
        same true = refl
        same false = refl

  at : (n : ℤ) → (among less n ≡ true) ⊎ (id ≡ n) → (among less n ≡ true) ⊎ ((b : ℤ) → now n b ≡ false)
  at n (inl had) = inl had
  at n (inr same) = inr (λ b. ap (λ (f : ℤ → ℤ → Bool). f n b) out ∙ ap (λ m. without_id id rest m b) (sym same)
      ∙ without_itself id b rest)

  on : (n : ℤ) → (among left n ≡ true) ⊎ ((b : ℤ) → links n b ≡ false) →
      (among less n ≡ true) ⊎ ((b : ℤ) → now n b ≡ false)
  on n (inl had) = at n (among-last less id n (ap (λ ids. among ids n) (sym took) ∙ had))
  on n (inr none) = inr (none_left n none)

-- of a queue that all left nobody names an id
pub none_named : (queue left : List ℤ) (links rest : ℤ → ℤ → Bool) → Passed queue left links rest → left ≡ [] →
    (n b : ℤ) → among queue n ≡ true → rest n b ≡ false
none_named queue left links rest so_far none n b is = by (so_far.still n is) where
  by : (among left n ≡ true) ⊎ ((b : ℤ) → links n b ≡ false) → rest n b ≡ false
  by (inl had) = absurd (let no : among left n ≡ false = ap (λ ids. among ids n) none in cc)
  by (inr nobody) = ap (λ (f : ℤ → ℤ → Bool). f n b) so_far.same ∙ nobody b

more_by : (had t e : Bool) → (e || (had || t)) ≡ (had || (t || e))
more_by true true e = or_right e true refl
more_by true false e = or_right e true refl
more_by false true e = or_right e true refl
more_by false false e = or-false e

-- an id more is marked
pub marked_more : (first before now : ℤ → Bool) (xs : List ℤ) (i : ℕ) (id : ℤ) → i < length xs →
    id ≡ get_or xs i (pos 0) → before ≡ either first (among (take i xs)) → now ≡ with_id id before →
    now ≡ either first (among (take (i + 1) xs))
marked_more first before now xs i id within is so_far put =
    let grown : take (i + 1) xs ≡ take i xs ++ id ∷ [] = take_more xs i (pos 0) within
    ∙ ap (λ id. take i xs ++ id ∷ []) (sym is) in
    fun_ext (λ q. ap (λ (f : ℤ → Bool). f q) put ∙ ap (λ (f : ℤ → Bool). int_eq id q || f q) so_far
    ∙ more_by (first q) (among (take i xs) q) (int_eq id q)
    ∙ ap (λ b. first q || b) (sym (among-push (take i xs) id q)) ∙ ap (λ ids. first q || among ids q) (sym grown))

-- an id more waits to be followed
pub queued_more : (first : ℤ → Bool) (before now : List ℤ) (xs : List ℤ) (i : ℕ) (id : ℤ) → i < length xs →
    id ≡ get_or xs i (pos 0) → among before ≡ either first (among (take i xs)) → now ≡ before ++ id ∷ [] →
    among now ≡ either first (among (take (i + 1) xs))
queued_more first before now xs i id within is so_far put =
    marked_more first (among before) (among now) xs i id within is so_far
    (fun_ext (λ q. ap (λ ids. among ids q) put ∙ among-push before id q ∙ or_comm (among before q) (int_eq id q)))

-- marked are the first ids and all that were met along the links; those that wait are marked, and others were followed
pub record Following (links : ℤ → ℤ → Bool) (first marked queue : ℤ → Bool) (left : ℤ → ℤ → Bool) : Type 0 where
  pub grown : HoldsAll marked first
  pub followed : (n b : ℤ) → links n b ≡ true → (left n b ≡ true) ⊎ (marked b ≡ true)
  pub waiting : (n : ℤ) → marked n ≡ true → (queue n ≡ true) ⊎ ((b : ℤ) → left n b ≡ false)
  pub known : (n b : ℤ) → left n b ≡ true → links n b ≡ true
  pub queued : HoldsAll marked queue
  pub least : (set : ℤ → Bool) → HoldsAll set first → IsClosedUnder links set → HoldsAll set marked

-- nothing was followed yet
pub follows_none : (links : ℤ → ℤ → Bool) (first queue : ℤ → Bool) → first ≡ queue →
    Following links first first queue links
follows_none links first queue same = record {
  grown = λ n is. is;
  followed = λ n b is. inl is;
  waiting = λ n is. inl (ap (λ (f : ℤ → Bool). f n) (sym same) ∙ is);
  known = λ n b is. is;
  queued = λ n is. ap (λ (f : ℤ → Bool). f n) same ∙ is;
  least = λ set holds closed. holds;
}

left_by : (e t : Bool) → cond e false t ≡ true → t ≡ true
left_by true t is = absurd cc
left_by false t is = is

gone_by : (e t : Bool) → t ≡ false → cond e false t ≡ false
gone_by true t is = refl
gone_by false t is = is

-- who names an id that waited is marked, and waits
pub follows_more : (links : ℤ → ℤ → Bool) (first marked now queue mid then_queue : ℤ → Bool)
    (left rest : ℤ → ℤ → Bool) (by : ℤ → Bool) →
    Following links first marked queue left → Popped queue mid left rest by → now ≡ either marked by →
    then_queue ≡ either mid by → Following links first now then_queue rest
follows_more links first marked now queue mid then_queue left rest by f p marks queues = record {
  grown = λ n is. marks_old n (f.grown n is);
  followed = λ n b is. follow n b (f.followed n b is);
  waiting = λ n is. wait n (or_cases (marked n) (by n) (sym (at n) ∙ is));
  known = λ n b is. f.known n b (left_by (int_eq p.id n) (left n b) (sym (rest_at n b) ∙ is));
  queued = λ n is. in_queue n (or_cases (mid n) (by n) (sym (queue_at n) ∙ is));
  least = λ set holds closed n is. in_set set holds closed n (or_cases (marked n) (by n) (sym (at n) ∙ is));
} where
  at : (n : ℤ) → now n ≡ (marked n || by n)
  at n = ap (λ (f : ℤ → Bool). f n) marks

  queue_at : (n : ℤ) → then_queue n ≡ (mid n || by n)
  queue_at n = ap (λ (f : ℤ → Bool). f n) queues

  rest_at : (n b : ℤ) → rest n b ≡ cond (int_eq p.id n) false (left n b)
  rest_at n b = ap (λ (f : ℤ → ℤ → Bool). f n b) p.without

  marks_old : (n : ℤ) → marked n ≡ true → now n ≡ true
  marks_old n is = at n ∙ or_left (marked n) (by n) is

  marks_new : (n : ℤ) → by n ≡ true → now n ≡ true
  marks_new n is = at n ∙ or_right (marked n) (by n) is

  moved : (n b : ℤ) (e : Bool) → int_eq p.id n ≡ e → left n b ≡ true → (rest n b ≡ true) ⊎ (now b ≡ true)
  moved n b true same is =
      inr (marks_new b (ap (λ (f : ℤ → Bool). f b) p.names ∙ ap (λ m. left m b) (same_id p.id n same) ∙ is))
  moved n b false other is = inl (rest_at n b ∙ ap (λ e. cond e false (left n b)) other ∙ is)

  follow : (n b : ℤ) → (left n b ≡ true) ⊎ (marked b ≡ true) → (rest n b ≡ true) ⊎ (now b ≡ true)
  follow n b (inl is) = moved n b (int_eq p.id n) refl is
  follow n b (inr is) = inr (marks_old b is)

  still : (n : ℤ) → (mid n ≡ true) ⊎ ((b : ℤ) → rest n b ≡ false) →
      (then_queue n ≡ true) ⊎ ((b : ℤ) → rest n b ≡ false)
  still n (inl is) = inl (queue_at n ∙ or_left (mid n) (by n) is)
  still n (inr none) = inr none

  old_wait : (n : ℤ) → (queue n ≡ true) ⊎ ((b : ℤ) → left n b ≡ false) →
      (then_queue n ≡ true) ⊎ ((b : ℤ) → rest n b ≡ false)
  old_wait n (inl is) = still n (p.still n is)
  old_wait n (inr none) = inr (λ b. rest_at n b ∙ gone_by (int_eq p.id n) (left n b) (none b))

  wait : (n : ℤ) → (marked n ≡ true) ⊎ (by n ≡ true) → (then_queue n ≡ true) ⊎ ((b : ℤ) → rest n b ≡ false)
  wait n (inl is) = old_wait n (f.waiting n is)
  wait n (inr is) = inl (queue_at n ∙ or_right (mid n) (by n) is)

  in_queue : (n : ℤ) → (mid n ≡ true) ⊎ (by n ≡ true) → now n ≡ true
  in_queue n (inl is) = marks_old n (f.queued n (p.within n is))
  in_queue n (inr is) = marks_new n is

  in_set : (set : ℤ → Bool) → HoldsAll set first → IsClosedUnder links set → (n : ℤ) →
      (marked n ≡ true) ⊎ (by n ≡ true) → set n ≡ true
  in_set set holds closed n (inl is) = f.least set holds closed n is
  in_set set holds closed n (inr is) =
      closed p.id n (f.least set holds closed p.id (f.queued p.id p.was))
      (f.known p.id n (ap (λ (f : ℤ → Bool). f n) (sym p.names) ∙ is))

-- where none that waits is named, the marked ids are closed
pub followed_all : (links : ℤ → ℤ → Bool) (first marked queue : ℤ → Bool) (left : ℤ → ℤ → Bool) →
    Following links first marked queue left → ((n b : ℤ) → queue n ≡ true → left n b ≡ false) →
    IsClosedUnder links marked
followed_all links first marked queue left f none n b is link = by (f.followed n b link) (f.waiting n is) where
  by : (left n b ≡ true) ⊎ (marked b ≡ true) → (queue n ≡ true) ⊎ ((b : ℤ) → left n b ≡ false) → marked b ≡ true
  by (inr marks) waits = marks
  by (inl still) (inl waits) = absurd (let no : left n b ≡ false = none n b waits in cc)
  by (inl still) (inr nobody) = absurd (let no : left n b ≡ false = nobody b in cc)
