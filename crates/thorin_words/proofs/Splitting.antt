-- Reading words byte by byte: what was read of a word stands in front of what is left of it.
use Rattle.std.proofs.Common.{append-nil, append_assoc, arith, Bool, drop, get_or, List, refl, Some}
use Rattle.std.proofs.Common.{false, length, not, true, [], ℕ, ◌&&◌, ◌++◌, ◌+◌, ◌<◌, ◌∷◌, ◌≡◌, ◌≤◌}
use Rattle.std.proofs.lemmas.{Bool.false≢true, List.drop_all, List.drop_more}
use Rattle.std.specs.Prelude.{if◌then◌else◌}
use Rattle.thorin_words.specs.Words.{behind, escaped, is_between, put, quoted, words_from, words_of}
use Rattle.thorin_words.specs.declared.words.LexerState.TheVariants.{Between, Inside}
use Rattle.thorin_words.specs.{declared.words.LexerState.LexerState, Words.keeps}

-- what was read of a word, in front of the first of these
abbrev pub prefix : List ℕ → List (List ℕ) → List (List ℕ)
prefix word [] = []
prefix word (first ∷ rest) = (word ++ first) ∷ rest

put-prefix : (byte : ℕ) (word : List ℕ) (words : List (List ℕ)) → put byte (prefix word words) ≡
    prefix (byte ∷ word) words
put-prefix byte word words = grind arith

-- the words of an escaped word between marks
words_from-escaped : (word rest : List ℕ)
    → words_from (Inside (Some 34)) (escaped word ++ rest) ≡ prefix word
    (words_from (Inside (Some 34)) rest)
words_from-escaped [] rest = grind arith
words_from-escaped (byte ∷ word) rest = rw (words_from-escaped word rest) (put-prefix byte word _)

pub from_quoted : (words : List (List ℕ)) → words_from Between (quoted words) ≡ words
from_quoted [] = refl
from_quoted (word ∷ words) = rw (words_from-escaped, append-nil, from_quoted words) refl

-- a byte further: one that the word keeps, one behind which it ends, or another
stepped : (word : List ℕ) (byte : ℕ) (keeps ends : Bool) (words : List (List ℕ))
    → prefix word (if keeps then put byte words else (if ends then [] ∷ words else words)) ≡
    (if keeps then prefix (word ++ byte ∷ []) words
    else (if ends then word ∷ words else prefix word words))
stepped word byte true ends [] = refl
stepped word byte true ends (first ∷ rest) = rw append_assoc refl
stepped word byte false true words = rw append-nil refl
stepped word byte false false words = refl

pub further : (word : List ℕ) (state : LexerState) (text : List ℕ) (i : ℕ) → i < length text
    → prefix word (words_from state (drop i text)) ≡
    (let byte = get_or text i 0 in
    let next = behind state byte in
    let words = words_from next (drop (i + 1) text) in
    if keeps state byte then prefix (word ++ byte ∷ []) words
    else (if is_between next && not (is_between state) then word ∷ words else prefix word words))
further word state text i here = rw (drop_more text i 0 here) (stepped word _ _ _ _)

-- behind a word the others begin
pub anew : (state : LexerState) (rest : List ℕ) → is_between state ≡ true
    → words_from state rest ≡ words_of rest
unfolding words_of
anew Between rest is = refl
anew _ rest is = absurd (false≢true is)

-- at the end: between words, and in the last one
pub at_end : (word : List ℕ) (state : LexerState) (text : List ℕ) (i : ℕ) → length text ≤ i
    → prefix word (words_from state (drop i text))
    ≡ (if is_between state then [] else word ∷ words_of (drop (length text) text))
unfolding words_of
at_end word Between text i end = rw (drop_all i text end) refl
at_end word _ text i end =
    rw (drop_all i text end, drop_all (length text) text (omega arith), append-nil) refl
