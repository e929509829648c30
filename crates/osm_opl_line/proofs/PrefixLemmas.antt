-- The pieces of bytes, and of these bytes with more after them.
use Rattle.std.proofs.Common.{◌≡◌, ℕ, List, [], ◌∷◌, ◌++◌, Bool, true, false, cond, refl, ap, ◌∙◌}
use Rattle.std.specs.List.{slice_split, onto_first}

-- bytes and more bytes have the same pieces, up to the last one of the bytes, which goes on
pub record ArePieces (test : ℕ → Bool) (bytes more : List ℕ) : Type 0 where
  pub finished : List (List ℕ)
  pub last : List ℕ
  pub ahead : List ℕ
  pub others : List (List ℕ)
  pub is : slice_split test bytes ≡ finished ++ last ∷ []
  pub joined : slice_split test (bytes ++ more) ≡ finished ++ (last ++ ahead) ∷ others
  pub after : slice_split test more ≡ ahead ∷ others

-- pieces have a first
record HasFirst (pieces : List (List ℕ)) : Type 0 where
  first : List ℕ
  others : List (List ℕ)
  is : pieces ≡ first ∷ others

-- a byte is cut off, or goes onto the first piece
first_onto : (end : Bool) (b : ℕ) (pieces : List (List ℕ)) → HasFirst pieces →
    HasFirst (cond end ([] ∷ pieces) (onto_first b pieces))
first_onto true b pieces has = record { first = []; others = pieces; is = refl }
first_onto false b pieces has = record { first = b ∷ has.first; others = has.others; is = ap (onto_first b) has.is }

-- bytes have a first piece
has_first : (test : ℕ → Bool) (bytes : List ℕ) → HasFirst (slice_split test bytes)
has_first test [] = record { first = []; others = []; is = refl }
has_first test (b ∷ bytes) = first_onto (test b) b (slice_split test bytes) (has_first test bytes)

-- the pieces of a byte before others, by whether it ends a piece
split_by : (test : ℕ → Bool) (b : ℕ) (bytes : List ℕ) (end : Bool) → test b ≡ end →
    slice_split test (b ∷ bytes) ≡ cond end ([] ∷ slice_split test bytes) (onto_first b (slice_split test bytes))
split_by test b bytes end is =
    ap (λ e. cond e ([] ∷ slice_split test bytes) (onto_first b (slice_split test bytes))) is

-- a byte more before pieces is the first of the finished, or else of the last
pieces_onto : (test : ℕ → Bool) (b : ℕ) (bytes more : List ℕ) (finished : List (List ℕ)) (last ahead : List ℕ)
    (others : List (List ℕ)) → test b ≡ false → slice_split test bytes ≡ finished ++ last ∷ [] →
    slice_split test (bytes ++ more) ≡ finished ++ (last ++ ahead) ∷ others →
    slice_split test more ≡ ahead ∷ others → ArePieces test (b ∷ bytes) more
pieces_onto test b bytes more [] last ahead others goes_on is joined after = record {
  finished = [];
  last = b ∷ last;
  ahead = ahead;
  others = others;
  is = split_by test b bytes false goes_on ∙ ap (onto_first b) is;
  joined = split_by test b (bytes ++ more) false goes_on ∙ ap (onto_first b) joined;
  after = after;
}
pieces_onto test b bytes more (first ∷ finished) last ahead others goes_on is joined after = record {
  finished = (b ∷ first) ∷ finished;
  last = last;
  ahead = ahead;
  others = others;
  is = split_by test b bytes false goes_on ∙ ap (onto_first b) is;
  joined = split_by test b (bytes ++ more) false goes_on ∙ ap (onto_first b) joined;
  after = after;
}

-- a byte more before bytes
pieces_by : (test : ℕ → Bool) (end : Bool) (b : ℕ) (bytes more : List ℕ) → test b ≡ end → ArePieces test bytes more →
    ArePieces test (b ∷ bytes) more
pieces_by test true b bytes more ends are = record {
  finished = [] ∷ are.finished;
  last = are.last;
  ahead = are.ahead;
  others = are.others;
  is = split_by test b bytes true ends ∙ ap (λ pieces. [] ∷ pieces) are.is;
  joined = split_by test b (bytes ++ more) true ends ∙ ap (λ pieces. [] ∷ pieces) are.joined;
  after = are.after;
}
pieces_by test false b bytes more goes_on are =
    pieces_onto test b bytes more are.finished are.last are.ahead are.others goes_on are.is are.joined are.after

-- the pieces of any bytes, and of these bytes with more after them
pub are_pieces : (test : ℕ → Bool) (bytes more : List ℕ) → ArePieces test bytes more
are_pieces test [] more =
    let has = has_first test more in
    record {
      finished = [];
      last = [];
      ahead = has.first;
      others = has.others;
      is = refl;
      joined = has.is;
      after = has.is;
    }
are_pieces test (b ∷ bytes) more = pieces_by test (test b) b bytes more refl (are_pieces test bytes more)
