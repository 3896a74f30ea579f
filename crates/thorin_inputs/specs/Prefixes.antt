-- Prefixes of paths that others take the place of, as `-fdebug-prefix-map=OLD=NEW` of gcc and clang
-- has them: of all that fit a path the longest counts.
use Rattle.std.specs.Prelude.{ℕ, List, [], ◌∷◌, ◌++◌, length, fold, ◌==◌, nat_lt, nat_le, Option}
use Rattle.std.specs.Prelude.{Some, None, if◌then◌else◌, Bool}
use Rattle.std.specs.Borrow.{Bor}
use Rattle.std.specs.List.{position_or_len, before_first, after_first}

-- `=`
abbrev pub is_equals : ℕ → Bool
is_equals byte = byte == 61

-- whether a word is FROM=TO
unfoldable pub has_equals : List ℕ → Bool
has_equals word = nat_lt (position_or_len is_equals word) (length word)

-- FROM, up to the first `=`, and TO, behind that
abbrev pub from_of : List ℕ → List ℕ
from_of word = before_first is_equals word

abbrev pub to_of : List ℕ → List ℕ
to_of word = after_first is_equals word

-- what stands behind a prefix of a path; none where it is no prefix
abbrev pub behind : (prefix path : List ℕ) → Option (List ℕ)
behind [] path = Some path
behind (x ∷ xs) [] = None
behind (x ∷ xs) (y ∷ ys) = if x == y then behind xs ys else None

-- what takes a prefix's place, and what stands behind that prefix
abbrev pub Replaced : Type 0
Replaced = Option (List ℕ × List ℕ)

-- the same of texts that are lent
abbrev pub nows : Option (Bor (List ℕ) × Bor (List ℕ)) → Replaced
nows None = None
nows (Some pair) = Some (pair.0.now, pair.1.now)

abbrev pub with_to : List ℕ → Option (List ℕ) → Replaced
with_to to None = None
with_to to (Some rest) = Some (to, rest)

-- by a word: none where its FROM is no prefix of the path
unfoldable pub replaced : (path word : List ℕ) → Replaced
replaced path word =
    if has_equals word then with_to (to_of word) (behind (from_of word) path) else None

-- the longer of two prefixes leaves less of the path; of two that are equal the later counts
abbrev pub longer : Replaced → Replaced → Replaced
longer first None = first
longer None (Some later) = Some later
longer (Some first) (Some later) =
    if nat_le (length later.1) (length first.1) then Some later else Some first

-- the longest of the prefixes that words have
abbrev pub longest : (words : List (Bor (List ℕ))) → (path : List ℕ) → Replaced
longest words path = fold (λ best word. longer best (replaced path word.now)) None words

-- a path with that prefix replaced; as it is where none fits
abbrev pub joined : List ℕ → Replaced → List ℕ
joined path None = path
joined path (Some (to, rest)) = to ++ rest

unfoldable pub mapped : (words : List (Bor (List ℕ))) → (path : List ℕ) → List ℕ
mapped words path = joined path (longest words path)
