-- An input's pipe: where its output stands, and that no two inputs take the pipe of one output.
use Rattle.std.proofs.Common.{◌≡◌, ◌<◌, ◌≤◌, ◌+◌, ◌⊎◌, ℕ, zero, suc, Bool, true, false, cond, List, ◌∷◌, [], ◌++◌, length, get_or, drop, Option, None, Some, refl, sym, ap, inl, inr, ◌∙◌, arith, eq-eqb}
use Rattle.std.specs.Prelude.{count_by, slice_get, is_none, not, ◌&&◌, if◌then◌else◌}
use Rattle.std.specs.List.{list_any}
use Rattle.std.proofs.lemmas.Bool.{and_from, and_parts, or_right, cases_lt, eqb-true}
use Rattle.std.proofs.lemmas.List.{drop-append-le, drop-drop, drop_at, length-append}
use Rattle.std.proofs.lemmas.List.Quantifiers.{position-Some}
use Rattle.std.proofs.lemmas.List.Sums.{sum_by-append}
use Rattle.std.proofs.lemmas.Slice.Eq.{bytes_eq-Decides}
use Rattle.std.proofs.lemmas.Option.{slice_get-get_or}
use Rattle.osm_graph.specs.Joining.{is_taken}
use Rattle.osm_graph.specs.Ports.{PortValue}
use Rattle.osm_graph.specs.Matching.{is_opening, is_closing, are_even, is_still_open, latest, matching_place, is_pipe_named, puts_named, takes_named, source_place}

-- the latest number that passes: it is below, it passes, and none after it does
pub latest-Some : (test : ℕ → Bool) (n k : ℕ) → latest test n ≡ Some k →
    (k < n) × (test k ≡ true) × ((j : ℕ) → k < j → j < n → test j ≡ false)
latest-Some test zero k is = absurd (let never : None ≡ Some k = is in cc)
latest-Some test (suc n) k is = cases (test n) refl (λ found. latest-Some test n k found) is
  where
    cases : (b : Bool) → test n ≡ b → (latest test n ≡ Some k →
        (k < n) × (test k ≡ true) × ((j : ℕ) → k < j → j < n → test j ≡ false)) →
        (if b then Some n else latest test n) ≡ Some k →
        (k < suc n) × (test k ≡ true) × ((j : ℕ) → k < j → j < suc n → test j ≡ false)
    cases true passes later found =
        let same : n ≡ k = (let e : Some n ≡ Some k = found in grind arith) in
        (omega arith, rw (sym same) passes, λ j above below. absurd (omega arith))
    cases false fails later found =
        let more : (k < n) × (test k ≡ true) × ((j : ℕ) → k < j → j < n → test j ≡ false) = later found in
        (omega (arith, more.0), more.1, λ j above below. last j above below (cases_below j below) more.2)
      where
        cases_below : (j : ℕ) → j < suc n → (j < n) ⊎ (j ≡ n)
        cases_below j below = grind arith

        last : (j : ℕ) → k < j → j < suc n → (j < n) ⊎ (j ≡ n) →
            ((j : ℕ) → k < j → j < n → test j ≡ false) → test j ≡ false
        last j above below (inl less) rest = rest j above less
        last j above below (inr same) rest = rw same fails

-- how many pass in two lists
pub count_by-append : {X : Type 0} (p : X → Bool) (xs ys : List X) →
    count_by p (xs ++ ys) ≡ count_by p xs + count_by p ys
count_by-append p xs ys = sum_by-append (λ y. cond (p y) 1 0) xs ys

-- how many pass with one element before
pub count_by-cons : {X : Type 0} (p : X → Bool) (x : X) (xs : List X) →
    count_by p (x ∷ xs) ≡ cond (p x) 1 0 + count_by p xs
count_by-cons p x xs = sum_by-append (λ y. cond (p y) 1 0) (x ∷ []) xs ∙ omega arith

-- how many marks open and close
abbrev opened : List PortValue → ℕ
opened ports = count_by is_opening ports

abbrev closed : List PortValue → ℕ
closed ports = count_by is_closing ports

-- a list whose marks are still open: its first port opens, and the marks after it are even
pub record IsOpen (first : PortValue) (after ports : List PortValue) : Type 0 where
  pub is : ports ≡ first ∷ after
  pub opening : is_opening first ≡ true
  pub even : opened after ≡ closed after

-- the marks after one that is still open are even
still-even : (first : PortValue) (after : List PortValue) → is_still_open (first ∷ after) ≡ true →
    opened after ≡ closed after
still-even first after holds = eqb-true _ _ (and_parts (is_opening first) (are_even after) holds).1

still-open : (ports : List PortValue) → is_still_open ports ≡ true →
    (first : PortValue) × (after : List PortValue) × IsOpen first after ports
still-open [] holds = absurd (let never : false ≡ true = holds in cc)
still-open (first ∷ after) holds = (
  first,
  after,
  record {
    is = refl;
    opening = (and_parts (is_opening first) (are_even after) holds).0;
    even = still-even first after holds;
  },
)

-- where more marks open than close, one is still open
surplus : (ports : List PortValue) → closed ports < opened ports →
    (j : ℕ) × (j < length ports) × (is_still_open (drop j ports) ≡ true)
surplus [] less = absurd (omega arith)
surplus (port ∷ ports) less =
    step (is_opening port) (is_closing port) refl (cases_lt (closed ports) (opened ports))
    (λ more. surplus ports more)
    (omega (arith, less, count_by-cons is_opening port ports, count_by-cons is_closing port ports))
  where
    step : (o c : Bool) → is_opening port ≡ o → (closed ports < opened ports) ⊎ (opened ports ≤ closed ports) →
        (closed ports < opened ports → (j : ℕ) × (j < length ports) × (is_still_open (drop j ports) ≡ true)) →
        cond c 1 0 + closed ports < cond o 1 0 + opened ports →
        (j : ℕ) × (j < length (port ∷ ports)) × (is_still_open (drop j (port ∷ ports)) ≡ true)
    step o c is (inl more) later less =
        let found : (j : ℕ) × (j < length ports) × (is_still_open (drop j ports) ≡ true) = later more in
        (suc found.0, omega (arith, found.1), found.2)
    step false true is (inr no_more) later less = absurd (omega arith)
    step false false is (inr no_more) later less = absurd (omega arith)
    step true true is (inr no_more) later less = absurd (omega arith)
    step true false is (inr no_more) later less =
        let even : opened ports ≡ closed ports = omega arith in
        (0, omega arith, and_from _ _ is (eq-eqb _ _ even))

closing-opens : (port : PortValue) → is_closing port ≡ true → is_opening port ≡ false
closing-opens port closes = cases port.gives (is_none port.name) closes
  where
    cases : (g n : Bool) → (not g && n) ≡ true → (g && n) ≡ false
    cases true true closes = absurd (let never : false ≡ true = closes in cc)
    cases true false closes = refl
    cases false n closes = refl

-- a list that begins with a closing mark opens as much as the rest, and closes one more
counts_after : (port : PortValue) (mid : List PortValue) → is_closing port ≡ true →
    (opened (port ∷ mid) ≡ opened mid) × (closed (port ∷ mid) ≡ closed mid + 1)
counts_after port mid closes = (
  count_by-cons is_opening port mid ∙ rw (closing-opens port closes) (omega arith),
  count_by-cons is_closing port mid ∙ rw closes (omega arith),
)

-- an opening mark that is still open before a closing mark, and again before a later one, leaves one open between
between-open : (first port : PortValue) (after mid : List PortValue) → is_closing port ≡ true →
    opened after ≡ closed after → opened (after ++ port ∷ mid) ≡ closed (after ++ port ∷ mid) →
    closed mid < opened mid
between-open first port after mid closes even later =
    let counts : (opened (port ∷ mid) ≡ opened mid) × (closed (port ∷ mid) ≡ closed mid + 1) =
    counts_after port mid closes in
    omega (
      arith,
      count_by-append is_opening after (port ∷ mid),
      count_by-append is_closing after (port ∷ mid),
      counts.0,
      counts.1,
    )

drop-past : (earlier mid : List PortValue) (port : PortValue) (j : ℕ) →
    drop (length earlier + suc j) (earlier ++ port ∷ mid) ≡ drop j mid
drop-past earlier mid port j =
    sym (drop-drop (suc j) (length earlier) (earlier ++ port ∷ mid))
    ∙ ap (drop (suc j)) (drop_at earlier (port ∷ mid) (length earlier) refl)

-- no two closing marks match one opening mark
pub matching-alone : (earlier mid : List PortValue) (port : PortValue) (o : ℕ) → is_closing port ≡ true →
    matching_place earlier ≡ Some o → matching_place (earlier ++ port ∷ mid) ≡ Some o → ⊥
matching-alone earlier mid port o closes one other =
    let whole : List PortValue = earlier ++ port ∷ mid in
    let here : (o < length earlier) × (is_still_open (drop o earlier) ≡ true)
    × ((j : ℕ) → o < j → j < length earlier → is_still_open (drop j earlier) ≡ false) =
    latest-Some (λ place. is_still_open (drop place earlier)) (length earlier) o one in
    let there : (o < length whole) × (is_still_open (drop o whole) ≡ true)
    × ((j : ℕ) → o < j → j < length whole → is_still_open (drop j whole) ≡ false) =
    latest-Some (λ place. is_still_open (drop place whole)) (length whole) o other in
    let open_here : (first : PortValue) × (after : List PortValue) × IsOpen first after (drop o earlier) =
    still-open (drop o earlier) here.1 in
    let first : PortValue = open_here.0 in
    let after : List PortValue = open_here.1 in
    let both : drop o whole ≡ first ∷ (after ++ port ∷ mid) =
    drop-append-le o earlier (port ∷ mid) (omega (arith, here.0)) ∙ ap (λ xs. xs ++ port ∷ mid) open_here.2.is in
    let even : opened (after ++ port ∷ mid) ≡ closed (after ++ port ∷ mid) =
    still-even first (after ++ port ∷ mid) (sym (ap is_still_open both) ∙ there.1) in
    let more : (j : ℕ) × (j < length mid) × (is_still_open (drop j mid) ≡ true) =
    surplus mid (between-open first port after mid closes open_here.2.even even) in
    let shut : is_still_open (drop (length earlier + suc more.0) whole) ≡ false =
    there.2 (length earlier + suc more.0) (omega (arith, here.0))
    (omega (arith, more.1, length-append earlier (port ∷ mid))) in
    let still : is_still_open (drop (length earlier + suc more.0) whole) ≡ true =
    ap is_still_open (drop-past earlier mid port more.0) ∙ more.2 in
    (let never : false ≡ true = sym shut ∙ still in cc)

-- the output at a place among the ports, with the name of an input that takes its pipe
pub record IsSource (earlier : List PortValue) (name : Option (List ℕ)) (o : ℕ) : Type 0 where
  pub port : PortValue
  pub at : slice_get earlier o ≡ Some port
  pub gives : port.gives ≡ true
  pub named : port.name ≡ name

-- the first of a rest stands where the rest begins
drop-slice_get : (ports after : List PortValue) (o : ℕ) (first : PortValue) → drop o ports ≡ first ∷ after →
    slice_get ports o ≡ Some first
drop-slice_get [] after zero first is = absurd (let never : [] ≡ first ∷ after = is in cc)
drop-slice_get [] after (suc o) first is = absurd (let never : [] ≡ first ∷ after = is in cc)
drop-slice_get (port ∷ ports) after zero first is =
    let same : port ≡ first = (let e : port ∷ ports ≡ first ∷ after = is in grind arith) in ap Some same
drop-slice_get (port ∷ ports) after (suc o) first is = drop-slice_get ports after o first is

pub slice_get-append : (xs ys : List PortValue) (o : ℕ) (port : PortValue) → slice_get xs o ≡ Some port →
    slice_get (xs ++ ys) o ≡ Some port
slice_get-append [] ys o port is = absurd (let never : None ≡ Some port = is in cc)
slice_get-append (x ∷ xs) ys zero port is = is
slice_get-append (x ∷ xs) ys (suc o) port is = slice_get-append xs ys o port is

is_none-None : (name : Option (List ℕ)) → is_none name ≡ true → name ≡ None
is_none-None None holds = refl
is_none-None (Some n) holds = absurd (let never : false ≡ true = holds in cc)

called-Some : (name : List ℕ) (other : Option (List ℕ)) → is_pipe_named name other ≡ true → other ≡ Some name
called-Some name None holds = absurd (let never : false ≡ true = holds in cc)
called-Some name (Some other) holds = ap Some ((bytes_eq-Decides other name).0 holds)

-- an input's pipe is put by an output of its name
pub source-is : (earlier : List PortValue) (name : Option (List ℕ)) (o : ℕ) (d : PortValue) →
    source_place earlier name ≡ Some o → IsSource earlier name o
source-is earlier None o d found =
    let here : (o < length earlier) × (is_still_open (drop o earlier) ≡ true)
    × ((j : ℕ) → o < j → j < length earlier → is_still_open (drop j earlier) ≡ false) =
    latest-Some (λ place. is_still_open (drop place earlier)) (length earlier) o found in
    let open_here : (first : PortValue) × (after : List PortValue) × IsOpen first after (drop o earlier) =
    still-open (drop o earlier) here.1 in
    record {
      port = open_here.0;
      at = drop-slice_get earlier open_here.1 o open_here.0 open_here.2.is;
      gives = (and_parts open_here.0.gives (is_none open_here.0.name) open_here.2.opening).0;
      named = is_none-None open_here.0.name
          (and_parts open_here.0.gives (is_none open_here.0.name) open_here.2.opening).1;
    }
source-is earlier (Some name) o d found =
    let here : (o < length earlier) × (puts_named name (get_or earlier o d) ≡ true)
    × ((k : ℕ) → k < o → puts_named name (get_or earlier k d) ≡ false) =
    position-Some (puts_named name) earlier o d found in
    let port : PortValue = get_or earlier o d in
    record {
      port = port;
      at = slice_get-get_or earlier o d here.0;
      gives = (and_parts port.gives (is_pipe_named name port.name) here.1).0;
      named = called-Some name port.name (and_parts port.gives (is_pipe_named name port.name) here.1).1;
    }

list_any-here : (test : PortValue → Bool) (earlier mid : List PortValue) (port : PortValue) → test port ≡ true →
    list_any test (earlier ++ port ∷ mid) ≡ true
list_any-here test [] mid port holds = rw holds refl
list_any-here test (x ∷ xs) mid port holds = or_right (test x) _ (list_any-here test xs mid port holds)

-- no two inputs take the pipe of one output
pub source-alone : (earlier mid : List PortValue) (port other : PortValue) (o : ℕ) → port.gives ≡ false →
    is_taken (earlier ++ port ∷ mid) other.name ≡ false → source_place earlier port.name ≡ Some o →
    source_place (earlier ++ port ∷ mid) other.name ≡ Some o → ⊥
source-alone earlier mid port other o takes free one two =
    let first : IsSource earlier port.name o = source-is earlier port.name o port one in
    let second : IsSource (earlier ++ port ∷ mid) other.name o =
    source-is (earlier ++ port ∷ mid) other.name o port two in
    let same : Some first.port ≡ Some second.port =
    sym (slice_get-append earlier (port ∷ mid) o first.port first.at) ∙ second.at in
    let names : port.name ≡ other.name =
    sym first.named ∙ ap named_of same ∙ second.named in
    clash port.name refl (sym names)
  where
    named_of : Option PortValue → Option (List ℕ)
    named_of None = None
    named_of (Some p) = p.name

    clash : (name : Option (List ℕ)) → port.name ≡ name → other.name ≡ name → ⊥
    clash None is same =
        matching-alone earlier mid port o (rw (takes, is) refl)
        (sym (ap (source_place earlier) is) ∙ one) (sym (ap (source_place (earlier ++ port ∷ mid)) same) ∙ two)
    clash (Some name) is same =
        let taken : list_any (takes_named name) (earlier ++ port ∷ mid) ≡ true =
        list_any-here (takes_named name) earlier mid port
        (rw (takes, is) ((bytes_eq-Decides name name).1 refl)) in
        let never : list_any (takes_named name) (earlier ++ port ∷ mid) ≡ false =
        sym (ap (is_taken (earlier ++ port ∷ mid)) same) ∙ free in
        (let false_is : false ≡ true = sym never ∙ taken in cc)
