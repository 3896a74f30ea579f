-- What words stand for, while they are read one after another.
use Rattle.std.proofs.Common.{append-nil, append_assoc, arith, Global, IsUtf8, Option, string_bytes}
use Rattle.std.proofs.Common.{drop, Err, false, List, refl, Result, Some, String, subst, take, ◌++◌}
use Rattle.std.proofs.Common.{get_or, length, map, Ok, sym, Vec, [], ℕ, ◌+◌, ◌<◌, ◌∷◌, ◌≡◌}
use Rattle.std.proofs.lemmas.List.{drop_more, length-map, map-append, take-map}
use Rattle.thorin_words.specs.Responses.{AreRead, IsPlain, Itself, Leaves, Nothing, Outcome, Stands}
use Rattle.thorin_words.specs.Responses.{Costs, Inner, is_among, Later, most_deep, Within, words_in}
use Rattle.thorin_words.specs.Responses.{after, Deep, End, File, Here, Named, Plain, Refuses, Stops}
use Rattle.thorin_words.specs.Words.{words_of}
use Rattle.thorin_words.specs.declared.responses.{Allowance.Allowance, ResponseError.ResponseError}
use Rattle.{std.proofs.Math.Seq.take-append_seam, thorin_words.specs.Responses.Word}
use Rattle.thorin_words.specs.declared.responses.ResponseError.TheVariants as errors

-- ---- lists of words and of names

module _ (old new : Vec (String Global) Global) (added : String Global)
    (more : new.items ≡ old.items ++ added ∷ []) where
  pub named : words_in new ≡ words_in old ++ string_bytes added ∷ []
  named = rw (more, map-append) refl

  pub alone : (word : List ℕ) → old.items ≡ [] → string_bytes added ≡ word
      → words_in new ≡ word ∷ []
  alone word empty is = rw (more, empty, is) refl

-- names, one more of them, and then as many as before
pub restored : (old all : List (String Global)) (name : List ℕ) (n : ℕ) → n ≡ length old
    → map string_bytes all ≡ map string_bytes old ++ name ∷ []
    → map string_bytes (take n all) ≡ map string_bytes old
restored old all name n count more =
    rw (← take-map, more, count, ← length-map old string_bytes, take-append_seam) refl

-- ---- a word

after-after : (a b : List (List ℕ)) (out : Outcome) → after (a ++ b) out ≡ after a (after b out)
after-after a b out = grind (arith, append_assoc)

-- words that cost just that much
cost : {offer : List ℕ → Option (List ℕ) → Type 0} {words : List (List ℕ)} {n n' m m' : ℕ}
    → n ≡ n' → m ≡ m' → Costs offer words n m → Costs offer words n' m'
cost {offer} {words} {n} {n'} {m} {m'} e f c =
    subst (λ n. Costs offer words n m') e (subst (λ m. Costs offer words n m) f c)

module _ (offer : List ℕ → Option (List ℕ) → Type 0) (fails : List ℕ → ResponseError → Type 0) where
  module _ (names : List (List ℕ)) (word : List ℕ) where
    -- a word that stands for itself
    pub itself : (old new : List (List ℕ)) (before now : Allowance) → IsPlain offer word
        → new ≡ old ++ word ∷ [] → now.files ≡ before.files → now.bytes + 32 ≡ before.bytes
        → (rest : List (List ℕ)) → Leaves offer fails names (word ∷ rest) rest old new before now
    itself old new before now is more fewer less rest = record {
      own = word ∷ [];
      files = 0;
      bytes = 32;
      added = more;
      fewer = omega (arith, fewer);
      less = omega (arith, less);
      stands = λ out stands. Plain names rest word out is stands;
      meets = λ e meets. Later word rest meets;
      costs = λ count size costs. cost (omega arith) refl (Word word rest count size is costs);
    }

    -- one for which there is no room
    pub unread : (left : Allowance) → IsPlain offer word → (e : ResponseError)
        → (e ≡ errors.TooLong) × (left.bytes < 32) → (rest : List (List ℕ))
        → Refuses offer fails names left.files left.bytes (word ∷ rest) e
    unread left is e (long, few) rest =
        rw long (_, _, Word word rest _ _ is (Nothing rest), omega (arith, few))

    -- one whose file isn't read
    pub refused : (left : Allowance) (e : ResponseError) → Stops offer fails names word left e
        → (rest : List (List ℕ)) → Refuses offer fails names left.files left.bytes (word ∷ rest) e
    refused left errors.NotUtf8 k rest = absurd k
    refused left errors.Memory k rest = tt
    refused left (errors.Inside name) k rest = rw k.0 (Itself names rest (string_bytes name) k.1)
    refused left (errors.TooDeep name) k rest =
        rw k.0 (Deep names rest (string_bytes name) k.3.0 k.1 k.3.1 k.2)
    refused left errors.TooMany (none, (name, is, (text, offered))) rest =
        rw is (_, _, Named name text rest _ _ _ _ offered (Nothing _) (Nothing _), omega arith)
    refused left errors.TooLong (name, is, (text, offered, few)) rest =
        rw is (_, _, Named name text rest _ _ _ _ offered (Nothing _) (Nothing _), omega arith)
    refused left errors.Unreadable k rest = Here word rest k

  -- one that names a file
  module _ (names : List (List ℕ)) (word name text : List ℕ) (before opened : Allowance)
      (is : word ≡ 64 ∷ name) (fresh : is_among names name ≡ false)
      (offered : offer name (Some text)) (fewer : opened.files + 1 ≡ before.files)
      (less : opened.bytes + length text ≡ before.bytes) (flat : length names < most_deep) where
    costs_inside : {count size others more : ℕ} {rest : List (List ℕ)}
        → Costs offer (words_of text) count size → Costs offer rest others more
        → Costs offer (word ∷ rest) (1 + (count + others)) (length text + (size + more))
    costs_inside costs more = rw is (Named name text _ _ _ _ _ offered costs more)

    pub filed : (old new : List (List ℕ)) (result : Result Allowance ResponseError)
        → AreRead offer fails (names ++ name ∷ []) (words_of text) [] old new opened result
        → (rest : List (List ℕ)) → AreRead offer fails names (word ∷ rest) rest old
        new before result
    filed old new (Ok now) inner rest = record {
      own = inner.own;
      files = 1 + inner.files;
      bytes = length text + inner.bytes;
      added = inner.added;
      fewer = omega (arith, inner.fewer, fewer);
      less = omega (arith, inner.less, less);
      stands = λ out stands. rw is (File names rest name text inner.own out fresh offered flat
          (rw (← append-nil inner.own) (inner.stands (Ok []) (End _))) stands);
      meets = λ e meets. Later word rest meets;
      costs = λ count size costs. cost (omega arith) (omega arith)
          (costs_inside (inner.costs 0 0 (Nothing [])) costs);
    }
    filed old new (Err (errors.Inside other)) k rest =
        rw is (Inner names rest name text _ fresh offered flat k)
    filed old new (Err (errors.TooDeep other)) k rest =
        rw is (Inner names rest name text _ fresh offered flat k)
    filed old new (Err errors.Unreadable) k rest = rw is (Within name text rest offered k)
    filed old new (Err errors.NotUtf8) k rest = rw is (Within name text rest offered k)
    filed old new (Err errors.TooMany) (count, size, costs, many) rest =
        (_, _, costs_inside costs (Nothing rest), omega (arith, many, fewer))
    filed old new (Err errors.TooLong) (count, size, costs, long) rest =
        (_, _, costs_inside costs (Nothing rest), omega (arith, long, less))
    filed old new (Err errors.Memory) k rest = tt

-- ---- words one after another

pub begin : {offer : List ℕ → Option (List ℕ) → Type 0} {fails : List ℕ → ResponseError → Type 0}
    {names all old : List (List ℕ)} {left : Allowance}
    → Leaves offer fails names all all old old left left
begin {old = old} = record {
  own = [];
  files = 0;
  bytes = 0;
  added = sym (append-nil old);
  fewer = omega arith;
  less = omega arith;
  stands = λ out stands. let same : after [] out ≡ out = grind arith in rw same stands;
  meets = λ e meets. meets;
  costs = λ count size costs. cost (omega arith) (omega arith) costs;
}

module _ {offer : List ℕ → Option (List ℕ) → Type 0} {fails : List ℕ → ResponseError → Type 0}
    {names all words old middle : List (List ℕ)} {before now : Allowance}
    (so_far : Leaves offer fails names all words old middle before now) where
  pub ended : words ≡ [] → Leaves offer fails names all [] old middle before now
  ended none = subst (λ words. Leaves offer fails names all words old middle before now) none so_far

  -- the rest can't be told
  pub stopped : (e : ResponseError) → Refuses offer fails names now.files now.bytes words e
      → Refuses offer fails names before.files before.bytes all e
  stopped (errors.Inside name) k = so_far.stands _ k
  stopped (errors.TooDeep name) k = so_far.stands _ k
  stopped errors.Unreadable k = so_far.meets errors.Unreadable k
  stopped errors.NotUtf8 k = so_far.meets errors.NotUtf8 k
  stopped errors.TooMany (count, size, costs, many) =
      (_, _, so_far.costs count size costs, omega (arith, many, so_far.fewer))
  stopped errors.TooLong (count, size, costs, long) =
      (_, _, so_far.costs count size costs, omega (arith, long, so_far.less))
  stopped errors.Memory k = tt

  -- a word further
  module _ {inner rest : List (List ℕ)} {word : List ℕ} (split : words ≡ word ∷ rest)
      (same : inner ≡ names) where
    pub onward : (new : List (List ℕ)) (later : Allowance)
        → ((rest : List (List ℕ)) → Leaves offer fails inner (word ∷ rest) rest
        middle new now later) → Leaves offer fails names all rest old new before later
    onward new later read = let more = read rest in record {
      own = so_far.own ++ more.own;
      files = so_far.files + more.files;
      bytes = so_far.bytes + more.bytes;
      added = rw (more.added, so_far.added, append_assoc) refl;
      fewer = omega (arith, so_far.fewer, more.fewer);
      less = omega (arith, so_far.less, more.less);
      stands = λ out stands. rw (after-after so_far.own more.own out)
          (so_far.stands _ (rw (split, ← same) (more.stands out (rw same stands))));
      meets = λ e meets. so_far.meets e (rw split (more.meets e meets));
      costs = λ count size costs. cost (omega arith) (omega arith)
          (so_far.costs (more.files + count) (more.bytes + size)
          (rw split (more.costs count size costs)));
    }

    pub stopped_at : (e : ResponseError) → ((rest : List (List ℕ))
        → Refuses offer fails inner now.files now.bytes (word ∷ rest) e)
        → Refuses offer fails names before.files before.bytes all e
    stopped_at e k = stopped e (rw (split, ← same) (k rest))

    -- the next word isn't UTF-8
    pub spoilt : ¬ (IsUtf8 word)
        → Refuses offer fails names before.files before.bytes all errors.NotUtf8
    spoilt bad = so_far.meets errors.NotUtf8 (rw split (Here word rest bad))

-- ---- the words of a line

-- behind the program's name
pub told : {offer : List ℕ → Option (List ℕ) → Type 0} {fails : List ℕ → ResponseError → Type 0}
    {names line old new : List (List ℕ)} {before now : Allowance} (program : List ℕ)
    → Leaves offer fails names line [] old new before now → names ≡ [] → old ≡ program ∷ []
    → (own : List (List ℕ)) × (new ≡ program ∷ own) × Stands offer [] line (Ok own)
told {offer} {names = names} {line = line} program all none alone = (
  all.own,
  rw (all.added, alone) refl,
  subst (λ names. Stands offer names line (Ok all.own)) none
      (rw (← append-nil all.own) (all.stands (Ok []) (End names))),
)

pub texts-drop : {S : Type 0} (text : S → List ℕ) (line : List S) (i : ℕ) (x : S) (word : List ℕ)
    → i < length line → x ≡ get_or line i x → word ≡ text x
    → map text (drop i line) ≡ word ∷ map text (drop (i + 1) line)
texts-drop text line i x word here is same = rw (drop_more line i x here, same, ← is) refl
