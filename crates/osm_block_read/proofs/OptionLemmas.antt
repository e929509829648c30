-- Values that may be absent, and lists one behind another.
use Rattle.std.proofs.Common.{◌≡◌, ◌++◌, ◌∷◌, [], Bool, true, false, not, is_some, List, Option, Some, None, refl, sym, ap, append_assoc}
use Rattle.std.proofs.lemmas.Bool.{false≢true}
use Rattle.std.proofs.lemmas.List.{append-nil}
use Rattle.std.specs.Option.{option_map}
use Rattle.osm_wire.specs.Entries.{◌>>=◌, all_said}
use Rattle.osm_block_read.specs.Block.{joined}
use Rattle.osm_block_read.specs.Told.{behind}

-- one value is equal where two are that may be absent
pub some_equal : {B : Type 0} (a b : B) → Some a ≡ Some b → a ≡ b
some_equal a b is = cc

pub none_some : {B : Type 0} (y : B) → ◌≡◌ {A = Option B} None (Some y) → ⊥
none_some y is = cc

-- where a map gives a value, there was one
pub map-some : {A B : Type 0} (f : A → B) (given : Option A) (y : B) → option_map f given ≡ Some y →
    (x : A) × (given ≡ Some x) × (f x ≡ y)
map-some f None y is = absurd (none_some y is)
map-some f (Some x) y is = (x, refl, some_equal (f x) y is)

-- where a map gives none, there was none
pub map-none : {A B : Type 0} (f : A → B) (given : Option A) → option_map f given ≡ None → given ≡ None
map-none f None is = refl
map-none f (Some x) is = cc

-- where nothing was found, nothing is said
pub none-found : {A B : Type 0} (f : A → B) (found : Option A) (said : Option B) (is_none : Bool) →
    option_map f found ≡ said →
    is_some found ≡ not is_none → is_none ≡ true → said ≡ None
none-found f None said is_none is test none = sym is
none-found f (Some x) said true is test none = absurd (false≢true (sym test))
none-found f (Some x) said false is test none = absurd (false≢true none)

-- where something was found, that is said
pub some-found : {A B : Type 0} (f : A → B) (found : Option A) (said : Option B) (is_none : Bool) →
    option_map f found ≡ said →
    is_some found ≡ not is_none → is_none ≡ false → (y : B) × (said ≡ Some y)
some-found f (Some x) said is_none is test some = (f x, sym is)
some-found f None said false is test some = absurd (false≢true test)
some-found f None said true is test some = absurd (false≢true (sym some))

-- one list after two others
pub joined-joined : {T : Type 0} (a b c : Option (List T)) → joined (joined a b) c ≡ joined a (joined b c)
joined-joined None b c = refl
joined-joined (Some a) None c = refl
joined-joined (Some a) (Some b) None = refl
joined-joined (Some a) (Some b) (Some c) = ap Some (append_assoc a b c)

-- nothing after a list
pub joined-nil : {T : Type 0} (a : Option (List T)) → joined a (Some []) ≡ a
joined-nil None = refl
joined-nil (Some a) = ap Some (append-nil a)

-- the parts of a group, one after the other
pub joined-parts : {T : Type 0} (old dense : Option (List T)) (nodes ways relations : List T) →
    joined (joined (joined (joined old (Some nodes)) dense) (Some ways)) (Some relations)
    ≡ joined old (option_map (λ d. nodes ++ d ++ ways ++ relations) dense)
joined-parts None dense nodes ways relations = refl
joined-parts (Some a) None nodes ways relations = refl
joined-parts (Some a) (Some d) nodes ways relations = ap Some (simp append_assoc)

-- a value handed on into a list is that of a map
pub bind-map : {A B : Type 0} (given : Option A) (f : A → B) → given >>= (λ x. Some (f x)) ≡ option_map f given
bind-map None f = refl
bind-map (Some x) f = refl

-- what an element and others say
pub said-more : {A B : Type 0} (says : A → Option B) (x : A) (y : B) (coming : Option (List A)) → says x ≡ Some y →
    option_map (λ more. x ∷ more) coming >>= all_said says ≡ option_map (λ more. y ∷ more) (coming >>= all_said says)
said-more says x y None is = refl
said-more says x y (Some xs) is = rw is (bind-map (all_said says xs) (λ more. y ∷ more))

-- one list behind two others
pub behind-behind : {T : Type 0} (first second : List T) (more : Option (List T)) →
    behind first (behind second more) ≡ behind (first ++ second) more
behind-behind first second None = refl
behind-behind first second (Some more) = ap Some (sym (append_assoc first second more))

-- an element is a list of one
pub behind-one : {T : Type 0} (x : T) (more : Option (List T)) →
    option_map (λ rest. x ∷ rest) more ≡ behind (x ∷ []) more
behind-one x None = refl
behind-one x (Some more) = refl

-- nothing before a list
pub behind-nil : {T : Type 0} (more : Option (List T)) → behind [] more ≡ more
behind-nil None = refl
behind-nil (Some more) = refl
